use Rattle.std.proofs.Common.{List, take, drop, sym, ap, ◌∙◌}
use Rattle.std.specs.Prelude.{slice_get}
use Rattle.disk_areas.specs.Areas.{Record}
use Rattle.voice_journal.specs.Lent.{lent}
use Rattle.voice_journal.specs.declared.lists.Span.{Span}
use Rattle.voice_journal.proofs.Lending.{lent_at, lent_past}
use Rattle.voice_journal.proofs.lists.RecordList.place.Goals as goal

pub returns-in-Some : goal.returns-in-Some
returns-in-Some c =
    let bytes = c.self.inside.bytes.items in
    let span = c.in-Some.span.now in
    let seen = ap (λ (l : List Span). lent bytes l) c.deref.ensures.value ∙ c.self.view_is in
    (take span.len (drop span.from bytes), ap (λ (l : List Record). slice_get l c.args.k) (sym seen) ∙ lent_at bytes c.deref.result.now c.args.k span c.in-Some.ensures.lookup.3.0 c.in-Some.ensures.lookup.1)

pub returns-in-None : goal.returns-in-None
returns-in-None c =
    let bytes = c.self.inside.bytes.items in
    let seen = ap (λ (l : List Span). lent bytes l) c.deref.ensures.value ∙ c.self.view_is in
    ap (λ (l : List Record). slice_get l c.args.k) (sym seen) ∙ lent_past bytes c.deref.result.now c.args.k c.in-None.ensures.lookup.3
