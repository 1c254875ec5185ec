-- Ropes with a number above another, one after the other.
use Rattle.std.proofs.Common.{◌≡◌, ℕ, ◌<◌, ◌≤◌, ◌==◌, Bool, true, false, cond, nat_lt, List, [], ◌∷◌, map, Option, Some, None, refl, sym, ◌∙◌, ap, subst, arith}
use Rattle.std.proofs.lemmas.Bool.{ltb-true, ltb-false, lt-ltb, le-ltb, eq-eqb, ne_eqb}
use Rattle.std.specs.Prelude.{option_map}
use Rattle.voice_units.specs.declared.pieces.Piece.{Piece}
use Rattle.voice_model.specs.Spelling.{keeps_grammar}
use Rattle.voice_model.specs.Valid.{Every}
use Rattle.voice_model.specs.declared.changes.Change.{Change}
use Rattle.rope_table.specs.declared.ropes.Rope.{Rope}
use Rattle.rope_table.specs.Table.{is_lower, IsInOrder, rope_of, number_above, pieces_at, idle_at, last_at}
use Rattle.rope_table.specs.Table as table
use Rattle.rope_table.proofs.Edited.{id_of}
use Rattle.checkpoint.specs.Blocks.{above, kept_change, parts_change}

keep_all : (n : ℕ) (rope : Rope) (ropes : List Rope) → n ≤ rope.id → table.Every (λ other. is_lower rope other ≡ true) ropes → above n ropes ≡ ropes
keep_all n rope [] le all = refl
keep_all n rope (other ∷ ropes) le all =
    let more = ltb-true rope.id other.id all.0 in
    ap (λ b. cond b (other ∷ above n ropes) (above n ropes)) (lt-ltb n other.id (omega (arith, le, more)))
    ∙ ap (λ l. other ∷ l) (keep_all n rope ropes le all.1)

-- all numbers are above 0
pub above_start : (ropes : List Rope) → Every (λ (rope : Rope). 1 ≤ rope.id) ropes → above 0 ropes ≡ ropes
above_start [] h = refl
above_start (rope ∷ ropes) h =
    let some = h.0 in
    ap (λ b. cond b (rope ∷ above 0 ropes) (above 0 ropes)) (lt-ltb 0 rope.id (omega (arith, some)))
    ∙ ap (λ l. rope ∷ l) (above_start ropes h.1)

-- none is left
pub above_none : (low : ℕ) (ropes : List Rope) → number_above ropes low ≡ None → above low ropes ≡ []
above_none low [] e = refl
above_none low (rope ∷ ropes) e = by (nat_lt low rope.id) (above_none low ropes) e
  where
    by : (b : Bool) → (number_above ropes low ≡ None → above low ropes ≡ []) → cond b (Some rope.id) (number_above ropes low) ≡ None → cond b (rope ∷ above low ropes) (above low ropes) ≡ []
    by true step h = cc
    by false step h = step h

-- the next one
pub record IsNext (low id : ℕ) (ropes : List Rope) : Type 0 where
  pub rope : Rope
  pub found : rope_of ropes id ≡ Some rope
  pub number : rope.id ≡ id
  pub higher : low < id
  pub above : above low ropes ≡ rope ∷ above id ropes

next_here : (low id : ℕ) (rope : Rope) (ropes : List Rope) → low < rope.id → rope.id ≡ id → table.Every (λ other. is_lower rope other ≡ true) ropes → IsNext low id (rope ∷ ropes)
next_here low id rope ropes more same all =
    let less : low ≤ rope.id = omega (arith, more) in
    let no_more : id ≤ rope.id = omega (arith, same) in
    record {
      rope = rope;
      found = ap (λ b. cond b (Some rope) (rope_of ropes id)) (eq-eqb rope.id id same);
      number = same;
      higher = omega (arith, more, same);
      above =
          ap (λ b. cond b (rope ∷ above low ropes) (above low ropes)) (lt-ltb low rope.id more)
          ∙ ap (λ l. rope ∷ l) (keep_all low rope ropes less all ∙ sym (ap (λ b. cond b (rope ∷ above id ropes) (above id ropes)) (le-ltb id rope.id (omega (arith, same))) ∙ keep_all id rope ropes no_more all));
    }

next_later : (low id : ℕ) (rope : Rope) (ropes : List Rope) → rope.id ≤ low → IsNext low id ropes → IsNext low id (rope ∷ ropes)
next_later low id rope ropes le next =
    let higher = next.higher in
    record {
      rope = next.rope;
      found = ap (λ b. cond b (Some rope) (rope_of ropes id)) (ne_eqb rope.id id (λ e. omega (arith, e, le, higher))) ∙ next.found;
      number = next.number;
      higher = higher;
      above =
          ap (λ b. cond b (rope ∷ above low ropes) (above low ropes)) (le-ltb low rope.id le)
          ∙ next.above
          ∙ ap (λ l. next.rope ∷ l) (sym (ap (λ b. cond b (rope ∷ above id ropes) (above id ropes)) (le-ltb id rope.id (omega (arith, le, higher)))));
    }

pub above_next : (low id : ℕ) (ropes : List Rope) → IsInOrder is_lower ropes → number_above ropes low ≡ Some id → IsNext low id ropes
above_next low id [] order e = cc
above_next low id (rope ∷ ropes) order e = by (nat_lt low rope.id) refl (above_next low id ropes order.1) e
  where
    by : (b : Bool) → nat_lt low rope.id ≡ b → (number_above ropes low ≡ Some id → IsNext low id ropes) → cond b (Some rope.id) (number_above ropes low) ≡ Some id → IsNext low id (rope ∷ ropes)
    by true f step h = let same : rope.id ≡ id = cc in next_here low id rope ropes (ltb-true low rope.id f) same order.0
    by false f step h = next_later low id rope ropes (ltb-false low rope.id f) (step h)

-- ---- the parts of a rope

-- the rope of a number is spelled so
pub record IsSpelled (form : ℕ) (ropes : List Rope) (id : ℕ) (change : Change) : Type 0 where
  pub rope : Rope
  pub found : rope_of ropes id ≡ Some rope
  pub same : kept_change form rope ≡ change

pub rope_spelled : (form : ℕ) (ropes : List Rope) (id idle last : ℕ) (pieces : List Piece) → pieces_at ropes id ≡ Some pieces → idle_at ropes id ≡ Some idle → last_at ropes id ≡ Some last → IsSpelled form ropes id (parts_change form id idle last pieces)
rope_spelled form ropes id idle last pieces e f g = by (rope_of ropes id) refl e f g
  where
    by : (o : Option Rope) → rope_of ropes id ≡ o → option_map (λ rope. rope.pieces) o ≡ Some pieces → option_map (λ rope. rope.idle) o ≡ Some idle → option_map (λ rope. rope.last) o ≡ Some last → IsSpelled form ropes id (parts_change form id idle last pieces)
    by None h e f g = cc
    by (Some rope) h e f g =
        let ps : rope.pieces ≡ pieces = cc in
        let since : rope.idle ≡ idle = cc in
        let class : rope.last ≡ last = cc in
        record {
          rope = rope;
          found = h;
          same =
              ap (λ n. parts_change form n rope.idle rope.last rope.pieces) (id_of id ropes rope h)
              ∙ ap (λ n. parts_change form id n rope.last rope.pieces) since
              ∙ ap (λ n. parts_change form id idle n rope.pieces) class
              ∙ ap (λ n. parts_change form id idle last n) ps;
        }

-- ---- what holds of each

pub next_spelled : (form : ℕ) (ropes : List Rope) (id : ℕ) (rope : Rope) → Every (λ change. keeps_grammar change ≡ true) (map (kept_change form) ropes) → rope_of ropes id ≡ Some rope → keeps_grammar (kept_change form rope) ≡ true
next_spelled form [] id rope h e = cc
next_spelled form (other ∷ ropes) id rope h e = by (other.id == id) (next_spelled form ropes id rope h.1) e
  where
    by : (b : Bool) → (rope_of ropes id ≡ Some rope → keeps_grammar (kept_change form rope) ≡ true) → cond b (Some other) (rope_of ropes id) ≡ Some rope → keeps_grammar (kept_change form rope) ≡ true
    by true step e = let same : other ≡ rope = cc in subst (λ (r : Rope). keeps_grammar (kept_change form r) ≡ true) same h.0
    by false step e = step e
