use Rattle.voice_model.specs.Changes.{base_size}
use Rattle.std.proofs.Common.{ℕ, ◌+◌, [], refl, sym, ◌∙◌, ap}
use Rattle.voice_model.specs.State.{row_at}
use Rattle.voice_model.specs.State.Effect.{Retained}
use Rattle.row_calls.specs.declared.outcomes.Growth.TheVariants.{By}
use Rattle.row_calls.proofs.Given.{state_of, state_shown, rebuilt_shown, live_here, same_rows}
use Rattle.row_calls.proofs.Comes.{may_come, retained_grammar}
use Rattle.row_calls.proofs.Grown.{grows_as}
use Rattle.row_calls.proofs.retaining.ask_retain.Goals as goal

pub returns-in-Some-clause-asked : goal.returns-in-Some-clause-asked
returns-in-Some-clause-asked c = λ held fill b s tapes g. sym (c.in-Some.ensures held s tapes (state_shown held fill c.args.parts.now b s g))

pub ready_retain-requires : goal.ready_retain-requires
ready_retain-requires c =
    let row = c.args.row in
    let held = c.requires.0 in
    let b = c.requires.1 in
    record {
      grammar = retained_grammar b row.class row.key row.rope row.note c.requires.2.valid c.size-growth.ensures.key c.size-growth.ensures.note
          (may_come (state_of b) [] row.class row.key row.rope row.note (sym (c.in_default.ensures held (state_of b) [] (rebuilt_shown held c.args.parts.now b c.requires.2))));
    }

pub returns-clause-asked : goal.returns-clause-asked
returns-clause-asked c = λ held fill b s tapes g.
    let row = c.args.row in
    let parts = c.args.parts.now in
    let free = sym (c.in_default.ensures held s tapes (state_shown held fill parts b s g)) in
    let may = may_come s tapes row.class row.key row.rope row.note free in
    record {
      unrefused = free;
      is_ready = c.in_ok-ready.ensures.ready held b.kept g.shows.kept (live_here held fill parts b s g row.rope may.live) (ap (λ rows. row_at rows row.class row.key) (same_rows held fill parts b s g) ∙ may.fresh);
      replied = refl;
      grows = grows_as s (Retained row) (By c.size-growth.result) (c.base_grows_by_rows.ensures.retained s.form s.form s.kept row ∙ ap (λ (n : ℕ). base_size s.form s.kept + n) (sym c.size-growth.ensures.size));
    }

pub returns-clause-moment : goal.returns-clause-moment
returns-clause-moment c =
    let h = c.requires.2 in
    (c.ready_retain.ensures.same c.requires.0 c.requires.1.kept h.kept).moment ∙ sym h.kept.moment

pub returns-clause-next : goal.returns-clause-next
returns-clause-next c =
    let h = c.requires.2 in
    (c.ready_retain.ensures.same c.requires.0 c.requires.1.kept h.kept).next ∙ sym h.kept.next

-- where memory wants

pub returns-in_err-ready-clause-moment : goal.returns-in_err-ready-clause-moment
returns-in_err-ready-clause-moment c =
    let h = c.requires.2 in
    (c.ready_retain.ensures.same c.requires.0 c.requires.1.kept h.kept).moment ∙ sym h.kept.moment

pub returns-in_err-ready-clause-next : goal.returns-in_err-ready-clause-next
returns-in_err-ready-clause-next c =
    let h = c.requires.2 in
    (c.ready_retain.ensures.same c.requires.0 c.requires.1.kept h.kept).next ∙ sym h.kept.next
