use Rattle.std.proofs.Common.{◌≡◌, ◌∙◌, sym, ap, subst, length}
use Rattle.turnstile.specs.Passes.{AreOf}
use Rattle.embedding.proofs.Crossing.{slice_back}
use Rattle.embedding.proofs.telephone.play_back.Goals as goal

pub recall_first-requires-clause-of : goal.recall_first-requires-clause-of
recall_first-requires-clause-of g c κs within = subst (AreOf c.in-Ok.made.0.turnstile) (sym c.as_mut_slice.ensures.value) c.in-Ok.ensures.of

pub close-requires-clause-of : goal.close-requires-clause-of
close-requires-clause-of g c κs within =
    let long : length c.recall_first.new.passes ≡ length c.in-Ok.made.1.items = c.recall_first.auto.passes ∙ ap length c.as_mut_slice.ensures.value in
    subst (AreOf c.in-Ok.made.0.turnstile) (sym (slice_back c.in-Ok.made.1.len c.recall_first.new.passes c.in-Ok.made.1.items long c.in-Ok.made.1.ok.0)) c.recall_first.ensures
