-- What the records taken so far rebuild.
use Rattle.std.proofs.Common.{◌≡◌, ℕ, zero, suc, ◌+◌, ◌≤◌, false, List, [], ◌∷◌, length, drop, Option, Some, None, refl, sym, ◌∙◌, ap, arith}
use Rattle.std.specs.Prelude.{slice_get}
use Rattle.std.proofs.lemmas.Option.{slice_get_within, get_or_from_slice_get}
use Rattle.std.proofs.Math.ListN.{drop_of_length-le}
use Rattle.voice_units.specs.declared.shapes.Shape.{Shape}
use Rattle.voice_model.specs.Spelling.{change_in}
use Rattle.voice_model.specs.Replay.{Rebuilt, nothing_rebuilt, acted}
use Rattle.disk_areas.specs.Areas.{Record}
use Rattle.voice_model.specs.Image.{Replayed, replayed, if_allowed, by_change}
use Rattle.voice_model.specs.declared.changes.Change.{Change}
use Rattle.recovery.specs.declared.building.Building.{Building}
use Rattle.recovery.specs.Building.{Builds, IsTaken, is_allowed}
use Rattle.recovery.specs.Shown.{numbered}
use Rattle.recovery.specs.Replayed.{bytes_of}
use Rattle.recovery.proofs.Rebuilding.{acted_shape}
use Rattle.recovery.proofs.RowsGone.{drop_next}

-- all records go on as the rest does from what was rebuilt
pub record GoesOn (shape : Shape) (building : Building) (all rest : List Record) : Type 0 where
  pub what : Rebuilt
  pub builds : Builds building what
  pub in_shape : what.shape ≡ shape
  pub same : replayed (nothing_rebuilt shape) all ≡ replayed what rest

pub goes_on : (shape : Shape) (building : Building) (all : List Record) → Builds building (nothing_rebuilt shape) → GoesOn shape building all all
goes_on shape building all h = record { what = nothing_rebuilt shape; builds = h; in_shape = refl; same = refl }

pub one_more : (shape : Shape) (old new : Building) (all left rest : List Record) (one : Record) (h : GoesOn shape old all left) → left ≡ one ∷ rest → IsTaken new h.what one.payload → GoesOn shape new all rest
one_more shape old new all left rest one h is taken = record {
  what = acted h.what taken.change;
  builds = taken.builds;
  in_shape = acted_shape h.what taken.change ∙ h.in_shape;
  same =
      h.same ∙ ap (replayed h.what) is ∙ ap (λ o. by_change h.what one.at o (λ next. replayed next rest)) taken.spelled
      ∙ ap (λ b. if_allowed b one.at (replayed (acted h.what taken.change) rest)) taken.legal;
}

pub one_refused : (shape : Shape) (building : Building) (all left rest : List Record) (one : Record) (h : GoesOn shape building all left) → left ≡ one ∷ rest → false ≡ is_allowed h.what (change_in one.payload)
    → replayed (nothing_rebuilt shape) all ≡ Replayed.Refused one.at
one_refused shape building all left rest one h is bad = h.same ∙ ap (replayed h.what) is ∙ by_option (change_in one.payload) bad
  where
    by_option : (o : Option Change) → false ≡ is_allowed h.what o → by_change h.what one.at o (λ next. replayed next rest) ≡ Replayed.Refused one.at
    by_option None e = refl
    by_option (Some c) e = ap (λ b. if_allowed b one.at (replayed (acted h.what c) rest)) (sym e)

-- a payload and the rest, as records
pub next_record : (records : List Record) (k : ℕ) (one : Record) → slice_get records k ≡ Some one → numbered k (bytes_of (drop k records)) ≡ record { at = k; payload = one.payload } ∷ numbered (k + 1) (bytes_of (drop (k + 1) records))
next_record records k one is = ap (λ l. numbered k (bytes_of l)) (drop_next records k one (slice_get_within records k one is) (sym (get_or_from_slice_get records k one one is)))

gone_past : (records : List Record) (k : ℕ) → slice_get records k ≡ None → length records ≤ k
gone_past [] k is = omega arith
gone_past (r ∷ records) zero is = cc
gone_past (r ∷ records) (suc k) is = let rest = gone_past records k is in omega (arith, rest)

-- no payload is left
pub no_record : (records : List Record) (k : ℕ) → slice_get records k ≡ None → numbered k (bytes_of (drop k records)) ≡ []
no_record records k is = ap (λ l. numbered k (bytes_of l)) (drop_of_length-le records (gone_past records k is))
