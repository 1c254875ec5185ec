use Rattle.std.proofs.Common.{◌≡◌, ◌+◌, ◌-◌, ◌≤◌, ℕ, List, length, take, drop, sym, ap, ◌∙◌, subst, arith, Some}
use Rattle.std.specs.Prelude.{slice_get}
use Rattle.disk_areas.specs.Areas.{Record}
use Rattle.voice_journal.specs.Lent.{lent, AreWithin}
use Rattle.voice_journal.specs.Readings.{record_at}
use Rattle.voice_journal.specs.declared.lists.Span.{Span}
use Rattle.voice_journal.proofs.Lending.{lent_at, lent_past, within_at}
use Rattle.voice_journal.proofs.lists.RecordList.get.Goals.{In-Some}
use Rattle.voice_journal.proofs.lists.RecordList.get.Goals as goal

-- the span ends within the bytes
span_within : (c : In-Some) → c.in-Some.span.now.from + c.in-Some.span.now.len ≤ length c.self.inside.bytes.items
span_within c =
    let inside = subst (AreWithin (length c.self.inside.bytes.items)) (sym c.deref.ensures.value) c.self.invariant in
    within_at (length c.self.inside.bytes.items) c.deref.result.now c.args.k c.in-Some.span.now inside c.in-Some.ensures.lookup.3.0 c.in-Some.ensures.lookup.1

pub overflow_add-result : goal.overflow_add-result
overflow_add-result c = omega (arith, span_within (goal.at.overflow_add-result c).In-Some, ap length c.deref-in-Some.ensures.value)

pub slice_bounds-result-end : goal.slice_bounds-result-end
slice_bounds-result-end c = omega (arith, span_within (goal.at.slice_bounds-result-end c).In-Some, ap length c.deref-in-Some.ensures.value)

pub returns-in-Some : goal.returns-in-Some
returns-in-Some c =
    let bytes = c.self.inside.bytes.items in
    let span = c.in-Some.span.now in
    let seen = ap (λ (l : List Span). lent bytes l) c.deref.ensures.value ∙ c.self.view_is in
    let size : span.from + span.len - span.from ≡ span.len = omega arith in
    let part = ap (λ (n : ℕ). take n (drop span.from c.deref-in-Some.result.now)) size ∙ ap (λ (l : List ℕ). take span.len (drop span.from l)) c.deref-in-Some.ensures.value in (
      span.place,
      ap (λ (l : List Record). slice_get l c.args.k) (sym seen) ∙ lent_at bytes c.deref.result.now c.args.k span c.in-Some.ensures.lookup.3.0 c.in-Some.ensures.lookup.1 ∙ ap (λ (l : List ℕ). Some (record_at span.place l)) (sym part),
    )

pub returns-in-None : goal.returns-in-None
returns-in-None c =
    let bytes = c.self.inside.bytes.items in
    let seen = ap (λ (l : List Span). lent bytes l) c.deref.ensures.value ∙ c.self.view_is in
    ap (λ (l : List Record). slice_get l c.args.k) (sym seen) ∙ lent_past bytes c.deref.result.now c.args.k c.in-None.ensures.lookup.3
