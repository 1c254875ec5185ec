-- The laws of the tables of a running manager, as statements.
--     AreQuiet lanes      no lane has a job or an open recording
--     IsDoubted parts b c samples      a change that brings a rope of these samples is in doubt, and nothing else is held
--     Begins, Quiet, Doubted      what replay gives, a state in which nothing is held, and one in which a change in doubt alone is
--     Placed      each block of a live rope has an address
--     Spelled      the durable part has a base
--     Recounted      only how often each block is held matters, and not in which order
--     Reshown      tables that show the same, with the same map, are those of the same running manager
--     NoneYet      the number of the next rope has no block while nothing is pledged
--     Taken      the first blocks of the next rope's file take the lowest free addresses, and its pieces are pledged
--     HaveBlocks pairs block pieces, UsedPledged, UsedUnpledged      the blocks of pieces are among these;  pieces of used blocks are pledged;  they are so no longer
--     Played, Released      a passage is held besides;  a passage is held no longer
--     HasGrown lane n takings more, Grown      an open recording has taken n more blocks;  it takes them
--     HasEnded lane takings more, HasFirst block file n pieces, Ended      an open recording has no block any more;  pieces have the first blocks of a file;  its blocks become those of a file
--     Repledged      of pledged pieces it matters only which blocks they have
--     GivenUp      the blocks of an open recording get free
--     IsNewFile next block file pieces pledged, GivenBack      pieces have blocks of a new file alone, of which no others are pledged;  these blocks get free
--     Landed      the rope that a change brings becomes live
--     keeps_ropes c, Altered      a change of rows or of the moment;  it acts
--     AllAreInUse, Swept      while nothing is pledged each address is that of a used block, or of an open recording;  a sweep acts
--     while_wanted pairs others takings      what becomes of an address as the blocks that nothing wants get free
--     Divided, Counted      how many addresses are free and given out
--     CountsUsed, CountsFree      how many are those of used blocks, and how many are free, by the state
use Rattle.std.specs.Prelude.{◌≡◌, ℕ, ◌+◌, ◌≤◌, Bool, true, false, cond, nat_lt, List, [], ◌∷◌, ◌++◌, map, length, replicate, Option, Some, None}
use Rattle.voice_units.specs.Blocks.{BlockPair, has_pair, pairs_at, distinct}
use Rattle.voice_units.specs.Spots.{Spot, spots_of, pieces_of}
use Rattle.voice_units.specs.declared.pieces.Piece.{Piece}
use Rattle.voice_model.specs.Replay.{Rebuilt, used_pairs, durable_by, brings, is_legal, new_places, acted}
use Rattle.voice_model.specs.Samples.{Tagged, spot_of}
use Rattle.voice_model.specs.State.{State, LaneState, Effect, quiet_lane}
use Rattle.voice_model.specs.State.Effect.{Recorded, Edited}
use Rattle.voice_model.specs.Spelling.{keeps_grammar}
use Rattle.voice_model.specs.Valid.{Every, IsRebuilt}
use Rattle.voice_model.specs.Places.{IsPlaced, AllUsed}
use Rattle.voice_model.specs.Room.{free, used, held_by_doubt}
use Rattle.voice_model.specs.declared.changes.Change.{Change}
use Rattle.voice_model.specs.declared.changes.Change.TheVariants as changes
use Rattle.voice_blocks.specs.Holders.{Holders, EachBecomes, holder_at, open_in, block_of, with_taken, renamed, without_owner}
use Rattle.voice_blocks.specs.declared.owner.Owner.TheVariants.{File, Taking}
use Rattle.voice_blocks.specs.declared.owner.Holder.{Holder}
use Rattle.rope_table.specs.Table.{uses_in, pairs_in, pair_of}
use Rattle.recovery.specs.declared.parts.Parts.{Parts}
use Rattle.recovery.specs.Shown.{Shows, ShowsPlaces, Rebuilds, plain_sample}
use Rattle.checkpoint.specs.Blocks.{IsHeld}
use Rattle.checkpoint.specs.Compact.{ShowsUsed}
use Rattle.ready_changes.specs.Ready.{AllInUse, FreesUnused}
use Rattle.running_tables.specs.Running.{taken, is_wanted, given, IsGiven, Runs, RunsState}

-- no lane has a job or an open recording
abbrev pub AreQuiet : List LaneState → Type 0
AreQuiet lanes = lanes ≡ replicate (length lanes) quiet_lane

-- tables that show what replay gives are those of a running manager with nothing held
abbrev pub Begins : Type 0
Begins = (parts : Parts) (b : Rebuilt) → Rebuilds parts b → Runs [] [] [] parts b

-- and they show each state in which nothing is held
abbrev pub Quiet : Type 0
Quiet = (parts : Parts) (b : Rebuilt) (s : State) → Rebuilds parts b → AreQuiet s.lanes → s.doubt ≡ None → RunsState parts b s

-- the samples of the rope that a change brings, none where it brings no rope
abbrev pub rope_brought : Option (Effect Spot) → Option (List Spot)
rope_brought (Some (Recorded id samples)) = Some samples
rope_brought (Some (Edited id samples)) = Some samples
rope_brought _ = None

-- while nothing else is held a change that brings a rope may be in doubt: the tables show what was rebuilt before it, and the map holds its new blocks besides
pub record IsDoubted (parts : Parts) (b : Rebuilt) (c : Change) (samples : List Spot) : Type 0 where
  pub shows : Shows [] parts b.kept
  pub places : ShowsPlaces parts.blocks.holders b.shape.blocks (b.places ++ new_places c)
  pub in_form : parts.form ≡ b.form
  pub valid : IsRebuilt plain_sample b
  pub placed : IsPlaced b
  pub used : AllUsed b
  pub legal : is_legal b c ≡ true
  pub grammar : keeps_grammar c ≡ true
  pub rope : rope_brought (brings c) ≡ Some samples

-- such tables show each state with this change in doubt in which nothing else is held
abbrev pub Doubted : Type 0
Doubted = (parts : Parts) (b : Rebuilt) (s : State) (c : Change) → AreQuiet s.lanes → IsDoubted parts b c (map spot_of (held_by_doubt s.doubt)) → RunsState parts b s

-- each block of a live rope has an address
abbrev pub Placed : Type 0
Placed = (held pledged : List (List Piece)) (takings : List ℕ) (parts : Parts) (b : Rebuilt) → Runs held pledged takings parts b → (pair : BlockPair) → has_pair (used_pairs b.kept) pair ≡ true → IsGiven parts.blocks.holders (block_of (File pair.file) pair.index)

-- the tables show what a base spells, whatever else is held
abbrev pub Spelled : Type 0
Spelled = (held pledged : List (List Piece)) (takings : List ℕ) (parts : Parts) (b : Rebuilt) → Runs held pledged takings parts b → ShowsUsed parts b

-- of held passages it matters only how many have each block
abbrev pub Recounted : Type 0
Recounted = (held others pledged : List (List Piece)) (takings : List ℕ) (parts : Parts) (b : Rebuilt) → ((pair : BlockPair) → uses_in b.shape.block others pair ≡ uses_in b.shape.block held pair) → Runs held pledged takings parts b → Runs others pledged takings parts b

-- tables that show the same, with the same map, are those of the same running manager
abbrev pub Reshown : Type 0
Reshown = (held pledged : List (List Piece)) (takings : List ℕ) (old new : Parts) (b : Rebuilt) → Runs held pledged takings old b
    → Shows held new b.kept → new.form ≡ old.form → new.blocks.holders ≡ old.blocks.holders → Runs held pledged takings new b

-- the number of the next rope has no block while nothing is pledged
abbrev pub NoneYet : Type 0
NoneYet = (held : List (List Piece)) (takings : List ℕ) (parts : Parts) (b : Rebuilt) → Runs held [] takings parts b → (a index : ℕ) → ¬ (holder_at parts.blocks.holders a ≡ Some (block_of (File b.next) index))

-- a passage of used blocks is held besides, and the map stays
abbrev pub Played : Type 0
Played = (held pledged : List (List Piece)) (takings : List ℕ) (old new : Parts) (b : Rebuilt) (passage : List Piece) → Runs held pledged takings old b
    → ((pair : BlockPair) → has_pair (pairs_at b.shape.block (spots_of passage)) pair ≡ true → has_pair (used_pairs b.kept) pair ≡ true)
    → Shows (passage ∷ held) new b.kept → new.form ≡ old.form → new.blocks.holders ≡ old.blocks.holders → Runs (passage ∷ held) pledged takings new b

-- what becomes of an address as the blocks that nothing wants any more get free
abbrev pub while_wanted : List BlockPair → List BlockPair → List ℕ → Option Holder → Option Holder
while_wanted pairs others takings None = None
while_wanted pairs others takings (Some h) = cond (is_wanted pairs others takings h.owner h.index) (Some h) None

-- a passage is held no longer, and its blocks that nothing else wants get free
abbrev pub Released : Type 0
Released = (held pledged : List (List Piece)) (takings : List ℕ) (old new : Parts) (b : Rebuilt) (passage : List Piece) → Runs (passage ∷ held) pledged takings old b
    → Shows held new b.kept → new.form ≡ old.form
    → EachBecomes (while_wanted (used_pairs b.kept) (pairs_in b.shape.block (held ++ pledged)) takings) old.blocks.holders new.blocks.holders → Runs held pledged takings new b

-- the open recording of a lane has taken n more blocks, and those of other lanes none
pub record HasGrown (lane n : ℕ) (takings more : List ℕ) : Type 0 where
  pub here : taken more lane ≡ taken takings lane + n
  pub elsewhere : (other : ℕ) → ¬ (other ≡ lane) → taken more other ≡ taken takings other

-- an open recording takes the lowest free addresses
abbrev pub Grown : Type 0
Grown = (held pledged : List (List Piece)) (takings more : List ℕ) (old new : Parts) (b : Rebuilt) (lane n : ℕ) → Runs held pledged takings old b
    → Shows held new b.kept → new.form ≡ old.form → n ≤ open_in old.blocks.holders → new.blocks.holders ≡ with_taken (Taking lane) (taken takings lane) n old.blocks.holders
    → HasGrown lane n takings more → Runs held pledged more new b

-- the open recording of a lane has no block any more, and those of other lanes have what they had
pub record HasEnded (lane : ℕ) (takings more : List ℕ) : Type 0 where
  pub here : taken more lane ≡ 0
  pub elsewhere : (other : ℕ) → ¬ (other ≡ lane) → taken more other ≡ taken takings other

-- these pieces have just the first n blocks of a file
pub record HasFirst (block file n : ℕ) (pieces : List Piece) : Type 0 where
  pub each : (index : ℕ) → has_pair (pairs_at block (spots_of pieces)) (pair_of file index) ≡ nat_lt index n
  pub of_file : (pair : BlockPair) → has_pair (pairs_at block (spots_of pieces)) pair ≡ true → pair.file ≡ file

-- the blocks of an open recording become those of a new file, whose pieces are pledged
abbrev pub Ended : Type 0
Ended = (held pledged : List (List Piece)) (takings more : List ℕ) (old new : Parts) (b : Rebuilt) (lane file : ℕ) (pieces : List Piece) → Runs held pledged takings old b
    → Shows held new b.kept → new.form ≡ old.form → EachBecomes (renamed lane file) old.blocks.holders new.blocks.holders
    → ((a index : ℕ) → ¬ (holder_at old.blocks.holders a ≡ Some (block_of (File file) index)))
    → HasFirst b.shape.block file (taken takings lane) pieces → HasEnded lane takings more → Runs held (pieces ∷ pledged) more new b

-- the first blocks of the next rope's file take the lowest free addresses, and its pieces are pledged
abbrev pub Taken : Type 0
Taken = (held : List (List Piece)) (takings : List ℕ) (old new : Parts) (b : Rebuilt) (n : ℕ) (pieces : List Piece) → Runs held [] takings old b
    → Shows held new b.kept → new.form ≡ old.form → n ≤ open_in old.blocks.holders → new.blocks.holders ≡ with_taken (File b.next) 0 n old.blocks.holders
    → HasFirst b.shape.block b.next n pieces → Runs held (pieces ∷ []) takings new b

-- the blocks of pieces are among these
abbrev pub HaveBlocks : List BlockPair → ℕ → List Piece → Type 0
HaveBlocks pairs block pieces = (pair : BlockPair) → has_pair (pairs_at block (spots_of pieces)) pair ≡ true → has_pair pairs pair ≡ true

-- pieces of used blocks are pledged
abbrev pub UsedPledged : Type 0
UsedPledged = (held pledged : List (List Piece)) (takings : List ℕ) (parts : Parts) (b : Rebuilt) (pieces : List Piece) → HaveBlocks (used_pairs b.kept) b.shape.block pieces
    → Runs held pledged takings parts b → Runs held (pieces ∷ pledged) takings parts b

-- and they are pledged no longer
abbrev pub UsedUnpledged : Type 0
UsedUnpledged = (held pledged : List (List Piece)) (takings : List ℕ) (parts : Parts) (b : Rebuilt) (pieces : List Piece) → HaveBlocks (used_pairs b.kept) b.shape.block pieces
    → Runs held (pieces ∷ pledged) takings parts b → Runs held pledged takings parts b

-- of pledged pieces it matters only which blocks they have
abbrev pub Repledged : Type 0
Repledged = (held pledged others : List (List Piece)) (takings : List ℕ) (parts : Parts) (b : Rebuilt) → ((pair : BlockPair) → has_pair (pairs_in b.shape.block others) pair ≡ has_pair (pairs_in b.shape.block pledged) pair) → Runs held pledged takings parts b → Runs held others takings parts b

-- the blocks of an open recording get free
abbrev pub GivenUp : Type 0
GivenUp = (held pledged : List (List Piece)) (takings more : List ℕ) (old new : Parts) (b : Rebuilt) (lane : ℕ) → Runs held pledged takings old b
    → Shows held new b.kept → new.form ≡ old.form → EachBecomes (without_owner (Taking lane)) old.blocks.holders new.blocks.holders → HasEnded lane takings more → Runs held pledged more new b

-- these pieces have blocks of a new file alone, of which no other pledged pieces have any
pub record IsNewFile (next block file : ℕ) (pieces : List Piece) (pledged : List (List Piece)) : Type 0 where
  pub above : next ≤ file
  pub of_file : (pair : BlockPair) → has_pair (pairs_at block (spots_of pieces)) pair ≡ true → pair.file ≡ file
  pub alone : (pair : BlockPair) → has_pair (pairs_in block pledged) pair ≡ true → ¬ (pair.file ≡ file)

-- a recording that failed is pledged no longer, and the blocks of its file get free
abbrev pub GivenBack : Type 0
GivenBack = (held pledged : List (List Piece)) (takings : List ℕ) (old new : Parts) (b : Rebuilt) (file : ℕ) (pieces : List Piece) → Runs held (pieces ∷ pledged) takings old b
    → IsNewFile b.next b.shape.block file pieces pledged
    → Shows held new b.kept → new.form ≡ old.form → EachBecomes (without_owner (File file)) old.blocks.holders new.blocks.holders → Runs held pledged takings new b

-- the rope that a legal change brings becomes live and is pledged no longer, and the map stays
abbrev pub Landed : Type 0
Landed = (held pledged : List (List Piece)) (takings : List ℕ) (old new : Parts) (b : Rebuilt) (c : Change) (samples : List Spot) → Runs held (pieces_of samples ∷ pledged) takings old b
    → is_legal b c ≡ true → keeps_grammar c ≡ true → rope_brought (brings c) ≡ Some samples → Every (IsHeld old.blocks.holders) (new_places c)
    → Shows held new (acted b c).kept → new.form ≡ old.form → new.blocks.holders ≡ old.blocks.holders → Runs held pledged takings new (acted b c)

-- whether a change is one of rows or of the moment
abbrev pub keeps_ropes : Change → Bool
keeps_ropes (changes.Retained class key id note) = true
keeps_ropes (changes.Forgotten class key) = true
keeps_ropes (changes.Census keys) = true
keeps_ropes (changes.Advanced moment) = true
keeps_ropes _ = false

-- a legal change of rows or of the moment acts, and the map stays
abbrev pub Altered : Type 0
Altered = (held pledged : List (List Piece)) (takings : List ℕ) (old new : Parts) (b : Rebuilt) (c : Change) → Runs held pledged takings old b
    → is_legal b c ≡ true → keeps_grammar c ≡ true → keeps_ropes c ≡ true
    → Shows held new (acted b c).kept → new.form ≡ old.form → new.blocks.holders ≡ old.blocks.holders → Runs held pledged takings new (acted b c)

-- while nothing is pledged each address that is held is that of a block in use, or of an open recording
abbrev pub AllAreInUse : Type 0
AllAreInUse = (held : List (List Piece)) (takings : List ℕ) (parts : Parts) (b : Rebuilt) → Runs held [] takings parts b → AllInUse parts

-- a legal sweep acts while nothing is pledged, and just the blocks get free that nothing uses any more
abbrev pub Swept : Type 0
Swept = (held : List (List Piece)) (takings : List ℕ) (old new : Parts) (b : Rebuilt) (ids : List ℕ) → Runs held [] takings old b
    → is_legal b (changes.Swept ids) ≡ true → keeps_grammar (changes.Swept ids) ≡ true
    → Shows held new (acted b (changes.Swept ids)).kept → new.form ≡ old.form → length new.blocks.holders ≡ length old.blocks.holders → FreesUnused old new → Runs held [] takings new (acted b (changes.Swept ids))

-- addresses are free or given out
abbrev pub Divided : Type 0
Divided = (holders : Holders) → open_in holders + length (given holders) ≡ length holders

-- where no block has two addresses, each block that is given out is counted once
abbrev pub Counted : Type 0
Counted = (holders : Holders) → ((a c : ℕ) (h : Holder) → holder_at holders a ≡ Some h → holder_at holders c ≡ Some h → a ≡ c) → distinct (given holders) ≡ given holders

-- where the tables show a state, whatever the bytes of its samples, the addresses that nobody holds and the blocks in use are all blocks
abbrev pub CountsUsed : Type 0
CountsUsed = (parts : Parts) (b : Rebuilt) (s : State) (fill : Spot → Tagged) → ((x : Spot) → spot_of (fill x) ≡ x) → durable_by fill b.kept ≡ s.kept → RunsState parts b s → open_in parts.blocks.holders + used s ≡ s.shape.blocks

-- and so the addresses that nobody holds are as many as the free blocks
abbrev pub CountsFree : Type 0
CountsFree = (parts : Parts) (b : Rebuilt) (s : State) (fill : Spot → Tagged) → ((x : Spot) → spot_of (fill x) ≡ x) → durable_by fill b.kept ≡ s.kept → RunsState parts b s → open_in parts.blocks.holders ≡ free s

-- all of them
pub record RunsLaws : Type 0 where
  pub begins : Begins
  pub quiet : Quiet
  pub doubted : Doubted
  pub placed : Placed
  pub spelled : Spelled
  pub recounted : Recounted
  pub reshown : Reshown
  pub none_yet : NoneYet
  pub taken : Taken
  pub used_pledged : UsedPledged
  pub used_unpledged : UsedUnpledged
  pub played : Played
  pub released : Released
  pub grown : Grown
  pub ended : Ended
  pub repledged : Repledged
  pub given_up : GivenUp
  pub given_back : GivenBack
  pub landed : Landed
  pub altered : Altered
  pub all_in_use : AllAreInUse
  pub swept : Swept
  pub divided : Divided
  pub counted : Counted
  pub used_blocks : CountsUsed
  pub free_blocks : CountsFree
