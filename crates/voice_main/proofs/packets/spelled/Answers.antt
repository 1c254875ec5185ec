use Rattle.std.proofs.Common.{◌++◌, ◌∙◌, refl, ap}
use Rattle.voice_model.specs.Step.{after}
use Rattle.voice_main.specs.Sent.{next_line}
use Rattle.voice_main.proofs.packets.spelled.Goals as goal

pub returns-clause-text : goal.returns-clause-text
returns-clause-text c =
    let put = c.in_ok-put_next.ensures in
    let next = c.follow.new.self.next in (
      next_line put.0 next,
      put.1 ∙ ap (λ text. text ++ next_line put.0 next) c.in_ok-text.ensures,
      record {
        unsure = put.0;
        next = next;
        is = refl;
        told = λ s abreast legal. let all = c.in_ok-follow.ensures.ok s abreast legal in (put.2 c.args.tapes.now (after s c.args.tapes.now c.args.history.now) all.abreast, all.next);
      },
    )
