use Rattle.std.proofs.Common.{◌≡◌, ◌∙◌, sym, ap, subst, length}
use Rattle.turnstile.specs.Passes.{AreOf}
use Rattle.callers.proofs.Rows.{slice_back}
use Rattle.turn_measures.proofs.rooms.run_store.Goals as goal

pub run_passes-tally-requires-clause-of : goal.run_passes-tally-requires-clause-of
run_passes-tally-requires-clause-of g c κs within = subst (AreOf c.in-Ok.made.0.turnstile) (sym c.as_mut_slice.ensures.value) c.in-Ok.ensures.of

pub close-requires-clause-of : goal.close-requires-clause-of
close-requires-clause-of g c κs within =
    let long : length c.run_passes-tally.new.passes ≡ length c.in-Ok.made.1.items = c.run_passes-tally.auto.passes ∙ ap length c.as_mut_slice.ensures.value in
    subst (AreOf c.in-Ok.made.0.turnstile) (sym (slice_back c.in-Ok.made.1.len c.run_passes-tally.new.passes c.in-Ok.made.1.items long c.in-Ok.made.1.ok.0)) c.run_passes-tally.ensures
