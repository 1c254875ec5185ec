use Rattle.std.proofs.Common.{◌≡◌, ◌∙◌, [], sym, ap, subst, length, append-nil}
use Rattle.turnstile.specs.Passes.{AreOf}
use Rattle.embedding.proofs.Crossing.{slice_back}
use Rattle.voice_store.specs.Shown.{history_of}
use Rattle.embedding.proofs.sharing.record_both.Goals as goal

pub returns-in-Err-clause-begins : goal.returns-in-Err-clause-begins
returns-in-Err-clause-begins g c = ([], ap history_of c.in-Err.ensures.err ∙ sym (append-nil (history_of c.args.store)))

pub speak_all-requires-clause-of : goal.speak_all-requires-clause-of
speak_all-requires-clause-of g c κs within = subst (AreOf c.in-Ok.made.0.turnstile) (sym c.as_mut_slice.ensures.value) c.in-Ok.ensures.of

pub close-requires-clause-of : goal.close-requires-clause-of
close-requires-clause-of g c κs within =
    let long : length c.speak_all.new.passes ≡ length c.in-Ok.made.1.items = c.speak_all.auto.passes ∙ ap length c.as_mut_slice.ensures.value in
    subst (AreOf c.in-Ok.made.0.turnstile) (sym (slice_back c.in-Ok.made.1.len c.speak_all.new.passes c.in-Ok.made.1.items long c.in-Ok.made.1.ok.0)) c.speak_all.ensures
