-- A base replays to what it spells.
use Rattle.std.proofs.Common.{◌≡◌, ℕ, ◌+◌, ◌==◌, true, cond, List, [], ◌∷◌, ◌++◌, map, refl, ◌∙◌, ap}
use Rattle.voice_units.specs.Spots.{Spot}
use Rattle.voice_model.specs.State.{Durable}
use Rattle.voice_model.specs.Spelling.{spelling, keeps_grammar}
use Rattle.voice_model.specs.Replay.{Placed, Rebuilt, nothing_rebuilt}
use Rattle.voice_model.specs.Base.{base_of, by_file, in_order, with_place, file_change, rope_change, row_change}
use Rattle.voice_model.specs.Valid.{Every, IsRebuilt}
use Rattle.voice_model.specs.Places.{Pairwise, ComesFirst, IsPlaced, AllUsed, CanBeSpelled}
use Rattle.voice_model.specs.declared.changes.Change.{Change}
use Rattle.voice_model.specs.declared.changes.Change.TheVariants as changes
use Rattle.voice_model.proofs.Order.{sorted}
use Rattle.voice_model.proofs.ReadAgain.{spelled_is_read}
use Rattle.voice_model.proofs.ReplayOfRecords.{Spell, replayed_as}
use Rattle.voice_model.proofs.BaseSpelled.{reads_back}
use Rattle.recovery.specs.Shown.{numbered, plain_sample}
use Rattle.checkpoint.specs.Again.{ReplaysAs}

-- each payload is read as its change
all_read : (k : ℕ) (cs : List Change) → Every (λ c. keeps_grammar c ≡ true) cs → Spell (numbered k (map spelling cs)) cs
all_read k [] h = tt
all_read k (c ∷ cs) h = (spelled_is_read c h.0, all_read (k + 1) cs h.1)

-- ---- the same base again

first_place : (p : Placed) (ps : List Placed) → Every (ComesFirst p) ps → with_place p ps ≡ p ∷ ps
first_place p [] h = refl
first_place p (q ∷ qs) h = ap (λ b. cond b (p ∷ q ∷ qs) (q ∷ with_place p qs)) h.0

stay_in_order : (ps : List Placed) → Pairwise ComesFirst ps → in_order ps ≡ ps
stay_in_order [] h = refl
stay_in_order (p ∷ ps) h = ap (with_place p) (stay_in_order ps h.1) ∙ first_place p ps h.0

-- a base of what is kept, and of places in order
abbrev base_with : ℕ → Durable Spot → List Placed → List Change
base_with form d places =
    cond (form == 2) (changes.Base2 d.moment d.next) (changes.Base d.moment d.next)
    ∷ map (file_change form) (by_file places) ++ map (rope_change form) d.ropes ++ map row_change d.rows

same_base : (form : ℕ) (r end : Rebuilt) → IsPlaced r → end.kept ≡ r.kept → end.places ≡ in_order r.places → base_of form end ≡ base_of form r
same_base form r end placed kept places =
    ap (λ (d : Durable Spot). base_with form d (in_order end.places)) kept
    ∙ ap (base_with form r.kept) (ap in_order places ∙ stay_in_order (in_order r.places) (sorted r.places placed.once))

-- ---- the whole

pub replays_as : (form : ℕ) (r : Rebuilt) → IsRebuilt plain_sample r → IsPlaced r → AllUsed r → CanBeSpelled form r → ReplaysAs form r (map spelling (base_of form r))
replays_as form r valid placed used spelled =
    let base = reads_back plain_sample (λ s. refl) form r valid placed used spelled in
    record {
      end = base.end;
      replays = replayed_as (nothing_rebuilt r.shape) (numbered 0 (map spelling (base_of form r))) (base_of form r) base.end (all_read 0 (base_of form r) base.grammar) base.reads;
      kept = base.same;
      in_form = base.in_form;
      places = base.places;
      recovers = base.recovers;
      again = same_base form r base.end placed base.same base.places;
    }
