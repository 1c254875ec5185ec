-- What a Retain is refused by, and what holds where nothing refuses it.
use Rattle.std.proofs.Common.{◌≡◌, ℕ, ◌≤◌, ◌<◌, ◌^◌, ◌==◌, Bool, true, false, cond, not, ◌&&◌, ◌||◌, nat_le, List, [], ◌∷◌, length, Option, Some, None, refl, sym, ◌∙◌, ap, subst, arith}
use Rattle.std.specs.Prelude.{is_some}
use Rattle.std.proofs.lemmas.Bool.{eqb-true, le-leb}
use Rattle.voice_units.specs.declared.pieces.Piece.{Piece}
use Rattle.voice_units.specs.Spots.{Spot}
use Rattle.disk_areas.specs.Numbers.{spelled_number}
use Rattle.voice_model.specs.State.{State, Live, rope_at, is_live, row_at, class_number}
use Rattle.voice_model.specs.Step.{first_of, when, if_unknown, if_taken, is_bad_note}
use Rattle.voice_model.specs.Spelling.{keeps_grammar, is_key, is_id, is_note, is_moment}
use Rattle.voice_model.specs.Replay.{Rebuilt}
use Rattle.voice_model.specs.Valid.{Every, IsRebuilt}
use Rattle.voice_model.specs.declared.calls.Call.TheVariants as calls
use Rattle.voice_model.specs.declared.changes.Change.TheVariants as changes
use Rattle.voice_model.specs.declared.calls.Class.{Class}
use Rattle.voice_model.specs.declared.calls.Row.{Row}
use Rattle.voice_model.specs.declared.calls.Why.TheVariants as why
use Rattle.voice_model.proofs.FitsOfCalls.{all_none, not_when}
use Rattle.voice_model.proofs.LegalInReplay.{live_filled}
use Rattle.voice_model.proofs.BaseReadAgain.{ids_below}
use Rattle.recovery.specs.declared.parts.Parts.{Parts}
use Rattle.recovery.specs.Shown.{plain_sample}
use Rattle.recovery.proofs.Ropes.{cons_same}
use Rattle.edits.specs.Shown.{ShowsState, before_journal}
use Rattle.edits.specs.Tables.{first_missing}
use Rattle.edits.proofs.Seen.{missing_shown}
use Rattle.row_calls.proofs.Given.{state_of}

-- the conditions, as the tables give them
pub retain_conditions : (held : List (List Piece)) (parts : Parts) (s : State) (tapes : List (List ℕ)) → ShowsState held parts s → (class : Class) (key : List ℕ) (id : ℕ) (note : List ℕ)
    → before_journal s tapes (calls.Retain class key id note)
    ≡ if_unknown (first_missing parts.ropes.ropes (id ∷ [])) ∷ when (is_bad_note class note) why.BadData ∷ if_taken (row_at parts.interests.rows class key) ∷ []
retain_conditions held parts s tapes h class key id note =
    cons_same (ap if_unknown (sym (missing_shown held parts s h (id ∷ []))))
    (cons_same refl (cons_same (ap (λ rows. if_taken (row_at rows class key)) (sym h.rows)) refl))

-- ---- where nothing refuses it

pub record MayCome (s : State) (class : Class) (key : List ℕ) (id : ℕ) (note : List ℕ) : Type 0 where
  pub live : is_live s.ropes id ≡ true
  pub good : is_bad_note class note ≡ false
  pub fresh : row_at s.rows class key ≡ None

live_first : (b : Bool) (id : ℕ) → if_unknown (cond b None (Some id)) ≡ None → b ≡ true
live_first true id h = refl
live_first false id h = cc

untaken : (o : Option Row) → if_taken o ≡ None → o ≡ None
untaken None h = refl
untaken (Some row) h = cc

pub may_come : (s : State) (tapes : List (List ℕ)) (class : Class) (key : List ℕ) (id : ℕ) (note : List ℕ) → first_of (before_journal s tapes (calls.Retain class key id note)) ≡ None → MayCome s class key id note
may_come s tapes class key id note e =
    let all = all_none (before_journal s tapes (calls.Retain class key id note)) e in
    record {
      live = live_first (is_live s.ropes id) id all.0;
      good = not_when (is_bad_note class note) why.BadData all.1.0;
      fresh = untaken (row_at s.rows class key) all.1.1.0;
    }

-- ---- its grammar

both_true : (a b : Bool) → a ≡ true → b ≡ true → (a && b) ≡ true
both_true a b e f = ap (λ x. x && b) e ∙ f

live_number : (next : ℕ) (ropes : List (Live Spot)) (id : ℕ) → Every (λ (rope : Live Spot). (1 ≤ rope.id) × (rope.id < next)) ropes → is_live ropes id ≡ true → (1 ≤ id) × (id < next)
live_number next [] id h e = cc
live_number next (rope ∷ ropes) id h e = by_number (rope.id == id) refl (live_number next ropes id h.1) e
  where
    by_number : (b : Bool) → (rope.id == id) ≡ b → (is_live ropes id ≡ true → (1 ≤ id) × (id < next)) → is_some (cond b (Some rope) (rope_at ropes id)) ≡ true → (1 ≤ id) × (id < next)
    by_number true f step k = subst (λ n. (1 ≤ n) × (n < next)) (eqb-true rope.id id f) h.0
    by_number false f step k = step k

good_note : (x y : Bool) → (x && not y) ≡ false → (not x || y) ≡ true
good_note true true e = refl
good_note true false e = cc
good_note false y e = refl

pub retained_grammar : (b : Rebuilt) (class : Class) (key : List ℕ) (id : ℕ) (note : List ℕ) → IsRebuilt plain_sample b → is_key key ≡ true → length note ≤ 128 → MayCome (state_of b) class key id note
    → keeps_grammar (changes.Retained class key id note) ≡ true
retained_grammar b class key id note valid named short may =
    let number = live_number b.kept.next b.kept.ropes id (ids_below plain_sample b.kept.ropes b.kept.next valid.kept.rising) (sym (live_filled plain_sample (λ x. refl) b.kept.ropes id) ∙ may.live) in
    let above = number.0 in
    let below = number.1 in
    let limit = valid.kept.next_limit in
    both_true (is_key key && is_id id) (is_note class note)
    (both_true (is_key key) (is_id id) named (both_true (nat_le 1 id) (nat_le id (2 ^ 48)) (le-leb 1 id above) (le-leb id (2 ^ 48) (omega (arith, below, limit)))))
    (both_true (nat_le (length note) 128) _ (le-leb (length note) 128 short) (good_note (class_number class == 2) ((length note == 8) && is_moment (spelled_number note)) may.good))
