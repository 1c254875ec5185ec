-- What the tables of a sender tell.
--     unlasted rope, plainly d      a rope, and a durable part, without the classes of the last rows that ropes lost
--     IsSame, IsPlainly, IsLike      the durable part that tables show, in their form, is that of a state in its own, but for those classes where all graces are one, so that no class matters
--     IsTold own parts      the tables show a durable part that calls can leave
--     rebuilt_by own form      what was rebuilt, so
--     changed_by form d made      the durable part with an effect done, if there is one
use Rattle.std.specs.Prelude.{◌≡◌, ◌⊎◌, ℕ, List, [], map, Option, Some, None}
use Rattle.voice_units.specs.Layout.{IsOneGrace}
use Rattle.voice_model.specs.Samples.{Tagged, spot_of}
use Rattle.voice_model.specs.State.{Durable, Live, Effect}
use Rattle.voice_model.specs.Changes.{changed}
use Rattle.voice_model.specs.Replay.{Rebuilt, Phase, durable_by}
use Rattle.voice_model.specs.Valid.{IsKept}
use Rattle.recovery.specs.declared.parts.Parts.{Parts}
use Rattle.recovery.specs.Shown.{Shows}

-- a rope without the class of the last row that it lost
abbrev pub unlasted : {A : Type 0} → Live A → Live A
unlasted rope = record rope { last = 0 }

-- the durable part without these classes
abbrev pub plainly : {A : Type 0} → Durable A → Durable A
plainly d = record d { ropes = map unlasted d.ropes }

-- the same durable part, in form 2
pub record IsSame (ours : ℕ) (own : Durable Tagged) (form : ℕ) (d : Durable Tagged) : Type 0 where
  pub kept : own ≡ d
  pub forms : ours ≡ form
  pub newer : form ≡ 2

-- the same but for the classes of lost rows, which do not matter as there is one grace alone
pub record IsPlainly (own d : Durable Tagged) : Type 0 where
  pub grace : IsOneGrace d.shape.graces
  pub kept : plainly own ≡ plainly d

abbrev pub IsLike : ℕ → Durable Tagged → ℕ → Durable Tagged → Type 0
IsLike ours own form d = IsSame ours own form d ⊎ IsPlainly own d

-- the tables show a durable part that calls can leave
pub record IsTold (own : Durable Tagged) (parts : Parts) : Type 0 where
  pub shows : Shows [] parts (durable_by spot_of own)
  pub valid : IsKept parts.form own
  pub forms : (parts.form ≡ 1) ⊎ (parts.form ≡ 2)
  pub newest : own.shape.version ≡ 2 → parts.form ≡ 2

-- what was rebuilt, whatever the addresses of its blocks
abbrev pub rebuilt_by : Durable Tagged → ℕ → Rebuilt
rebuilt_by own form = record { kept = durable_by spot_of own; places = []; form = form; phase = Phase.Later }

-- the durable part with an effect done, if there is one
abbrev pub changed_by : {A : Type 0} → ℕ → Durable A → Option (Effect A) → Durable A
changed_by form d None = d
changed_by form d (Some effect) = changed form d effect
