use Rattle.std.proofs.Common.{arith, ◌≡◌, ℕ, ◌-◌, ◌==◌, false, sym, ◌∙◌, ap}
use Rattle.std.specs.Prelude.{nat_le}
use Rattle.voice_model.specs.Base.{base_of}
use Rattle.voice_model.specs.Base as changes
use Rattle.checkpoint.proofs.Held.{can_spell}
use Rattle.voice_store.proofs.Bases.{not_eqb, above_leb, form_1_taken, may_take_1}
use Rattle.voice_store.proofs.committing.base_of.Goals as goal

pub returns : goal.returns
returns c =
    λ r shows shape.
    let same : c.args.parts.now.form ≡ r.form = shows.in_form in
    let not_2 : (c.args.parts.now.form == 2) ≡ false = not_eqb c.args.parts.now.form 2 c.if-parts-eq2.false in
    let no : (r.form == 2) ≡ false = ap (λ (f : ℕ). f == 2) (sym same) ∙ not_2 in
    let size : c.size.result ≡ changes.framed_size (base_of 2 r) = c.size.ensures ∙ c.in_ok-payloads.ensures.size r shows in
    let above = c.if-size-from.false in
    let long : nat_le c.size.result (c.from.result - 17) ≡ false = above_leb c.size.result (c.from.result - 17) (omega (arith, above)) in
    let area : c.from.result ≡ c.args.shape.now.area = c.from.ensures in
    let over : nat_le (changes.framed_size (base_of 2 r)) (c.args.shape.now.area - 17) ≡ false =
    ap (λ (n : ℕ). nat_le n (c.args.shape.now.area - 17)) (sym size) ∙ ap (λ (n : ℕ). nat_le c.size.result (n - 17)) (sym area) ∙ long in
    record {
      form = form_1_taken r.form (changes.framed_size (base_of 2 r)) (c.args.shape.now.area - 17) no over;
      spelled = c.in_ok-compact_parts.ensures.base r shows;
      size = c.in_ok-compact_parts.ensures.size r shows;
      can = can_spell 1 r shows.valid (may_take_1 r.form shows.valid.forms no);
      valid = shows.valid;
      placed = shows.placed;
      used = shows.used;
    }
