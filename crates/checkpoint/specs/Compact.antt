-- What a base may be made of.
--     head_change form now next      the change with which a base begins
--     CanCompact form table interests holders now next r      the tables show what was rebuilt, the map has its places, and it has a base of that form
--     MayTake form of      an area of a form gets a base of this form: form 2 always, form 1 from form 1 alone
--     IsCompactable form table interests holders now next      they show something of that kind
--     ShowsUsed parts r      parts of a manager that runs show what was rebuilt, with a place for just the blocks that live ropes use
use Rattle.std.specs.Prelude.{◌≡◌, ℕ, cond, ◌==◌, ◌⊎◌, List}
use Rattle.voice_units.specs.declared.pieces.Piece.{Piece}
use Rattle.voice_model.specs.Replay.{Rebuilt}
use Rattle.voice_model.specs.Places.{IsPlaced, AllUsed, CanBeSpelled}
use Rattle.voice_model.specs.Valid.{Every, IsRebuilt}
use Rattle.voice_model.specs.declared.calls.Row.{Row}
use Rattle.voice_model.specs.declared.changes.Change.{Change}
use Rattle.voice_model.specs.declared.changes.Change.TheVariants as changes
use Rattle.rope_table.specs.Table.{Table}
use Rattle.voice_blocks.specs.Holders.{Holders}
use Rattle.checkpoint.specs.Blocks.{IsHeld}
use Rattle.recovery.specs.Shown.{ShowsKept, Shows, plain_sample}
use Rattle.recovery.specs.declared.parts.Parts.{Parts}

-- the change with which a base begins
abbrev pub head_change : ℕ → ℕ → ℕ → Change
head_change form now next = cond (form == 2) (changes.Base2 now next) (changes.Base now next)

-- an area of a form gets a base of this form: form 2 always, form 1 from form 1 alone
abbrev pub MayTake : ℕ → ℕ → Type 0
MayTake form of = (form ≡ 2) ⊎ ((form ≡ 1) × (of ≡ 1))

-- the tables show what was rebuilt, the map holds each place of it and maybe other blocks besides, and it has a base of that form
pub record CanCompact (form : ℕ) (table : Table) (interests : List Row) (holders : Holders) (now next : ℕ) (r : Rebuilt) : Type 0 where
  pub held : List (List Piece)
  pub shows : ShowsKept held table interests now next r.kept
  pub addresses : Every (IsHeld holders) r.places
  pub valid : IsRebuilt plain_sample r
  pub placed : IsPlaced r
  pub used : AllUsed r
  pub spelled : CanBeSpelled form r

-- they show something of that kind
pub record IsCompactable (form : ℕ) (table : Table) (interests : List Row) (holders : Holders) (now next : ℕ) : Type 0 where
  pub what : Rebuilt
  pub can : CanCompact form table interests holders now next what

-- parts of a manager that runs, with passages held, show what was rebuilt: the map holds each place of it, which live ropes use, and maybe other blocks besides
pub record ShowsUsed (parts : Parts) (r : Rebuilt) : Type 0 where
  pub held : List (List Piece)
  pub kept : Shows held parts r.kept
  pub addresses : Every (IsHeld parts.blocks.holders) r.places
  pub in_form : parts.form ≡ r.form
  pub valid : IsRebuilt plain_sample r
  pub placed : IsPlaced r
  pub used : AllUsed r
