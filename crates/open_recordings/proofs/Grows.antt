-- An open recording takes the lowest free addresses.
use Rattle.std.proofs.Common.{◌≡◌, inl, inr, ℕ, ◌≤◌, Bool, true, false, List, sym, ◌∙◌, ap, subst}
use Rattle.std.specs.Prelude.{IsTrue, ◌↔◌, if◌then◌else◌}
use Rattle.voice_units.specs.declared.pieces.Piece.{Piece}
use Rattle.voice_model.specs.Replay.{Rebuilt}
use Rattle.voice_blocks.specs.Holders.{Holders, holder_at, open_in, with_taken, next_index}
use Rattle.voice_blocks.specs.declared.owner.Owner.TheVariants.{Taking}
use Rattle.voice_blocks.specs.declared.owner.Holder.{Holder}
use Rattle.recovery.specs.declared.parts.Parts.{Parts}
use Rattle.recovery.specs.Shown.{Shows}
use Rattle.running_tables.specs.Running.{Runs, taken}
use Rattle.running_tables.specs.Laws.{HasGrown}
use Rattle.running_tables.proofs.Grown.{grown, old_or_new, old_stays}
use Rattle.next_ropes.specs.Lowest.{lowest_open}
use Rattle.next_ropes.specs.Addresses.{KeepsAddresses}
use Rattle.open_recordings.specs.Blocks.{AreAddresses, HasBlocks, HandsOut}
use Rattle.open_recordings.proofs.Counted.{index_taken, has_blocks}
use Rattle.open_recordings.proofs.Listed.{lowest_listed}

-- so many addresses are free, and so they are taken
took : (hs new : Holders) (lane from n : ℕ) (done : Bool) → n ≤ open_in hs → (IsTrue done ↔ (n ≤ open_in hs)) → new ≡ (if done then with_taken (Taking lane) (next_index (Taking lane) hs) n hs else hs) → next_index (Taking lane) hs ≡ from → new ≡ with_taken (Taking lane) from n hs
took hs new lane from n true enough exact is first = is ∙ ap (λ i. with_taken (Taking lane) i n hs) first
took hs new lane from n false enough exact is first = let bad : false ≡ true = exact.1 enough in cc

-- the number that is found is that of the blocks
pub found_count : (held pledged : List (List Piece)) (takings : List ℕ) (old : Parts) (b : Rebuilt) (lane found : ℕ) (room : Holders) → Runs held pledged takings old b → room ≡ old.blocks.holders → ((count : ℕ) → HasBlocks room lane count → found ≡ count) → found ≡ taken takings lane
found_count held pledged takings old b lane found room runs same finds = finds (taken takings lane) (subst (λ (l : Holders). HasBlocks l lane (taken takings lane)) (sym same) (has_blocks held pledged takings old b lane runs))

-- the addresses that a lane's open recording takes of those with room
pub record HasTakenMore (held pledged : List (List Piece)) (takings : List ℕ) (old : Parts) (b : Rebuilt) (lane n : ℕ) (new : Holders) : Type 0 where
  pub before : Runs held pledged takings old b
  pub enough : n ≤ open_in old.blocks.holders
  pub holders : new ≡ with_taken (Taking lane) (taken takings lane) n old.blocks.holders

pub taken_more : (held pledged : List (List Piece)) (takings : List ℕ) (old : Parts) (b : Rebuilt) (lane n : ℕ) (done : Bool) (room new : Holders) → Runs held pledged takings old b → n ≤ open_in old.blocks.holders → room ≡ old.blocks.holders
    → (IsTrue done ↔ (n ≤ open_in room)) → new ≡ (if done then with_taken (Taking lane) (next_index (Taking lane) room) n room else room) → HasTakenMore held pledged takings old b lane n new
taken_more held pledged takings old b lane n done room new runs enough same exact is = record {
  before = runs;
  enough = enough;
  holders =
      let open_room : n ≤ open_in room = subst (λ (l : Holders). n ≤ open_in l) (sym same) enough in
      took room new lane (taken takings lane) n done open_room exact is (ap (next_index (Taking lane)) same ∙ index_taken old.blocks.holders _ _ takings runs.given lane)
      ∙ ap (with_taken (Taking lane) (taken takings lane) n) same;
}

module _ (held pledged : List (List Piece)) (takings : List ℕ) (old : Parts) (b : Rebuilt) (lane n : ℕ) (new : Holders) (h : HasTakenMore held pledged takings old b lane n new) where
  pub more_listed : AreAddresses new (Taking lane) (taken takings lane) n (lowest_open n old.blocks.holders)
  more_listed = subst (λ (l : Holders). AreAddresses l (Taking lane) (taken takings lane) n (lowest_open n old.blocks.holders)) (sym h.holders) (lowest_listed old.blocks.holders (Taking lane) (taken takings lane) n h.enough)

  pub more_runs : (more : List ℕ) (after : Parts) → Shows held after b.kept → after.form ≡ old.form → after.blocks.holders ≡ new → HasGrown lane n takings more → Runs held pledged more after b
  more_runs more after shows form is grows = grown held pledged takings more old after b lane n h.before shows form h.enough (is ∙ h.holders) grows

  pub more_hands : HandsOut lane old.blocks.holders new
  more_hands a g e = elim (old_or_new (Taking lane) (taken takings lane) n old.blocks.holders a g (sym (ap (λ (l : Holders). holder_at l a) h.holders) ∙ e)) [
    | inl k ↦ inl k
    | inr r ↦ inr (ap (λ (x : Holder). x.owner) r.is)
  ]

  pub more_stays : KeepsAddresses new old.blocks.holders
  more_stays a g e = ap (λ (l : Holders). holder_at l a) h.holders ∙ old_stays (Taking lane) (taken takings lane) n old.blocks.holders a g e
