use Rattle.std.proofs.Common.{rules, ◌≡◌, ◌++◌, ◌∷◌, [], ℕ, List, length, take, drop, length-append, sym, ap, ◌∙◌, subst, arith}
use Rattle.disk_areas.specs.Areas.{Record}
use Rattle.voice_journal.specs.Lent.{lent, AreWithin}
use Rattle.voice_journal.specs.Readings.{record_at}
use Rattle.voice_journal.specs.declared.lists.Span.{Span}
use Rattle.voice_journal.proofs.Steps.{on_err}
use Rattle.voice_journal.proofs.Lending.{lent_push, lent_before, within_push, within_more, part_behind}
use Rattle.voice_journal.proofs.lists.RecordList.push.Goals as goal

pub invariant_of-self-in_err-push : goal.invariant_of-self-in_err-push
invariant_of-self-in_err-push c =
    let bytes = c.self.inside.bytes.items in
    let spans = c.self.inside.spans.items in
    let more = c.in_ok-extend_from_slice.ensures.items in
    let size = ap length more ∙ length-append bytes c.args.payload.now in
    let all = within_more (length bytes) (length c.extend_from_slice.new.self.items) spans c.self.invariant (omega (arith, size)) in
    subst (AreWithin (length c.extend_from_slice.new.self.items)) (sym c.in_err-push.ensures.items) all

pub returns-in_err-push-clause-err : goal.returns-in_err-push-clause-err
returns-in_err-push-clause-err c =
    let bytes = c.self.inside.bytes.items in
    let spans = c.self.inside.spans.items in
    let more = c.in_ok-extend_from_slice.ensures.items in
    let same : lent c.extend_from_slice.new.self.items c.push.new.self.items ≡ c.args.self.now =
    ap (λ (l : List Span). lent c.extend_from_slice.new.self.items l) c.in_err-push.ensures.items ∙ ap (λ (l : List ℕ). lent l spans) more
    ∙ lent_before bytes c.args.payload.now spans c.self.invariant ∙ c.self.view_is in
    on_err c.from_residual-in_err-push.result _ same

pub invariant_of-self-2 : goal.invariant_of-self-2
invariant_of-self-2 c =
    let bytes = c.self.inside.bytes.items in
    let spans = c.self.inside.spans.items in
    let size = ap length c.in_ok-extend_from_slice.ensures.items ∙ length-append bytes c.args.payload.now in
    let from = c.len-from.ensures in
    subst (AreWithin (length c.extend_from_slice.new.self.items)) (sym c.in_ok-push.ensures.items)
    (within_push (length bytes) (length c.extend_from_slice.new.self.items) spans _ c.self.invariant (omega (arith, size)) (omega (arith, size, from)))

pub returns-clause-ok : goal.returns-clause-ok
returns-clause-ok c =
    let bytes = c.self.inside.bytes.items in
    let spans = c.self.inside.spans.items in
    let payload = c.args.payload.now in
    let more = c.in_ok-extend_from_slice.ensures.items in
    let from : c.len-from.result ≡ length bytes = search rules in
    ap (λ (l : List Span). lent c.extend_from_slice.new.self.items l) c.in_ok-push.ensures.items
    ∙ ap (λ (l : List ℕ). lent l (spans ++ record { place = c.args.place; from = c.len-from.result; len = length payload } ∷ [])) more
    ∙ lent_push (bytes ++ payload) spans _
    ∙ ap (λ (l : List Record). l ++ record_at c.args.place (take (length payload) (drop c.len-from.result (bytes ++ payload))) ∷ []) (lent_before bytes payload spans c.self.invariant ∙ c.self.view_is)
    ∙ ap (λ (n : ℕ). c.args.self.now ++ record_at c.args.place (take (length payload) (drop n (bytes ++ payload))) ∷ []) from
    ∙ ap (λ (l : List ℕ). c.args.self.now ++ record_at c.args.place l ∷ []) (part_behind bytes payload)
