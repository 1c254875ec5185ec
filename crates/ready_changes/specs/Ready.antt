-- A change of interests, of the moment or of a sweep that is ready to be done.
--     Comes spare d row c, CountsOff d going c, Sweeps d going ids c      a row comes;  rows of class Listed go;  expired rows go, and then ropes
--     Does spare d act c      the act does what the change says, on tables that show d and have room for so many more rows
--     IsReady spare d ready c      the change is ready: its act and its payload
--     MayBeReady spare d ready c      it is ready, or there is none
--     change_for effect      the change that keeps an effect of these kinds
--     later_change, census_change, sweep_change      the change of an Advance, of a Census, of a Sweep, none where it would alter nothing
--     after form d effect      the durable part after it
--     AllInUse parts      each address that is held is that of a block in use, or of a recording that is not done
--     FreesUnused old new      of the addresses that were held just those go whose blocks nothing uses any more
--     frees act      whether an act frees blocks
--     HasGraces form d      form 1 knows one grace alone
use Rattle.std.specs.Prelude.{◌≡◌, ◌⊎◌, ℕ, ◌+◌, ◌<◌, ◌≤◌, ◌^◌, Bool, true, false, List, [], length, Option, Some, None}
use Rattle.voice_units.specs.Spots.{Spot}
use Rattle.voice_model.specs.Samples.{Tagged}
use Rattle.voice_model.specs.State.{Durable, Effect, is_live, row_at}
use Rattle.voice_model.specs.State.Effect.{Counted}
use Rattle.voice_model.specs.Spelling.{spelling, keeps_grammar}
use Rattle.voice_model.specs.Changes.{changed, unlisted_keys, expired_rows, swept_ropes, unless_empty, if_later, if_any}
use Rattle.voice_model.specs.Base.{change_of}
use Rattle.voice_model.specs.declared.calls.Row.{Row}
use Rattle.voice_model.specs.declared.calls.Class.TheVariants.{Until, Listed}
use Rattle.voice_model.specs.declared.changes.Change.{Change}
use Rattle.voice_model.specs.declared.changes.Change.TheVariants as changes
use Rattle.voice_blocks.specs.Holders.{holder_at}
use Rattle.interest_table.specs.Table.{expired_keys}
use Rattle.recovery.specs.declared.parts.Parts.{Parts}
use Rattle.recovery.specs.Gathered.{AreGoing, Gone}
use Rattle.recovery.specs.Placing.{in_use}
use Rattle.collector.specs.Due.{AreEqual}
use Rattle.ready_changes.specs.declared.Act.{Act}
use Rattle.ready_changes.specs.declared.Act.TheVariants as acts
use Rattle.ready_changes.specs.declared.ReadyChange.{ReadyChange}

-- a row comes of a live rope, whose class and key do not stand, and for which there is room
pub record Comes (spare : ℕ) (d : Durable Spot) (row : Row) (c : Change) : Type 0 where
  pub is : c ≡ changes.Retained row.class row.key row.rope row.note
  pub room : 1 ≤ spare
  pub few : length d.rows + 1 < 2 ^ 32
  pub live : is_live d.ropes row.rope ≡ true
  pub fresh : row_at d.rows row.class row.key ≡ None

-- rows of class Listed go
pub record CountsOff (d : Durable Spot) (going : Gone) (c : Change) : Type 0 where
  pub keys : List (List ℕ)
  pub is : c ≡ changes.Census keys
  pub gathered : AreGoing Listed keys d.rows going

-- the rows go that are expired, and these ropes
pub record Sweeps (d : Durable Spot) (going : Gone) (ids : List ℕ) (c : Change) : Type 0 where
  pub is : c ≡ changes.Swept ids
  pub gathered : AreGoing Until (expired_keys d.moment d.rows) d.rows going

-- the act does what the change says
abbrev pub Does : ℕ → Durable Spot → Act → Change → Type 0
Does spare d (acts.Retain row) c = Comes spare d row c
Does spare d (acts.Forget class key) c = c ≡ changes.Forgotten class key
Does spare d (acts.Count going) c = CountsOff d going c
Does spare d (acts.Sweep going ids) c = Sweeps d going ids c
Does spare d (acts.Advance moment) c = c ≡ changes.Advanced moment

-- the change is ready: its act does it, and its payload spells it
pub record IsReady (spare : ℕ) (d : Durable Spot) (ready : ReadyChange) (c : Change) : Type 0 where
  pub does : Does spare d ready.act c
  pub payload : ready.payload.items ≡ spelling c
  pub grammar : keeps_grammar c ≡ true

-- the change is ready, or there is none
abbrev pub MayBeReady : ℕ → Durable Spot → Option ReadyChange → Option Change → Type 0
MayBeReady spare d None None = Unit {0}
MayBeReady spare d (Some ready) (Some c) = IsReady spare d ready c
MayBeReady spare d None (Some c) = ⊥
MayBeReady spare d (Some ready) None = ⊥

-- the change that keeps an effect of these kinds, which names no addresses and is the same in both forms
abbrev pub change_for : Option (Effect Tagged) → Option Change
change_for None = None
change_for (Some effect) = Some (change_of 2 [] effect)

-- the moment comes, unless it is not later
abbrev pub later_change : ℕ → ℕ → Option Change
later_change now moment = change_for (if_later now moment)

-- a census of these keys, unless there is none
abbrev pub census_of : List (List ℕ) → Option Change
census_of keys = change_for (unless_empty keys (Counted keys))

-- the change of a Census: the first 65,535 rows go that it does not name
abbrev pub census_change : List Row → List (List ℕ) → Option Change
census_change rows census = census_of (unlisted_keys rows census)

-- a sweep of rows and ropes, unless both lists are empty
abbrev pub sweep_of : List Row → List ℕ → Option Change
sweep_of rows ids = change_for (if_any rows ids)

-- the change of a Sweep of so many ropes
abbrev pub sweep_change : ℕ → Durable Spot → ℕ → Option Change
sweep_change form d limit = sweep_of (expired_rows d) (swept_ropes form d limit)

-- the durable part after an effect, in an area of this form
abbrev pub after : ℕ → Durable Spot → Option (Effect Spot) → Durable Spot
after form d None = d
after form d (Some effect) = changed form d effect

-- each address that is held is that of a block in use, or of a recording that is not done
abbrev pub AllInUse : Parts → Type 0
AllInUse parts = (a : ℕ) → in_use parts.ropes (holder_at parts.blocks.holders a) ≡ holder_at parts.blocks.holders a

-- of the addresses that were held just those go whose blocks nothing uses any more
abbrev pub FreesUnused : Parts → Parts → Type 0
FreesUnused old new = (a : ℕ) → holder_at new.blocks.holders a ≡ in_use new.ropes (holder_at old.blocks.holders a)

-- whether an act frees blocks: a sweep alone
abbrev pub frees : Act → Bool
frees (acts.Sweep going ids) = true
frees _ = false

-- form 1 knows one grace alone
abbrev pub HasGraces : ℕ → Durable Spot → Type 0
HasGraces form d = (form ≡ 2) ⊎ AreEqual d.shape.graces
