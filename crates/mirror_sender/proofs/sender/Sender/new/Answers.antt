use Rattle.std.proofs.Common.{◌≡◌, [], refl, sym, ◌∙◌, ap, subst, None}
use Rattle.voice_model.specs.Replay.{durable_by}
use Rattle.recovery.specs.Shown.{plain_sample}
use Rattle.mirror_sender.specs.Coming.{bytes_taken}
use Rattle.mirror_sender.specs.Abreast.{AreAdded, IsDoubt, takes_on}
use Rattle.mirror_sender.proofs.Started.{told_rebuilt, told_started, like_started, quiet_taking}
use Rattle.mirror_sender.proofs.sender.Sender.new.Goals as goal

pub returns-clause-sound : goal.returns-clause-sound
returns-clause-sound c = λ tapes.
    let b = c.requires.parts.0 in
    (durable_by plain_sample b.kept, record { told = told_rebuilt c.args.parts b c.requires.parts.1; in_shape = c.requires.parts.2; within = subst (AreAdded tapes) (sym c.new.ensures.items) tt; doubt = tt })

pub returns-clause-abreast : goal.returns-clause-abreast
returns-clause-abreast c = λ tapes s starts. (
  s.kept,
  record {
    sound = record { told = told_started c.args.shape.now c.args.parts s starts; in_shape = starts.in_shape; within = subst (AreAdded tapes) (sym c.new.ensures.items) tt; doubt = tt };
    valid = starts.valid;
    like = like_started c.args.shape.now c.args.parts s starts;
    taking = λ lane. quiet_taking s starts.quiet lane ∙ ap (λ l. bytes_taken tapes (takes_on l lane)) (sym c.new.ensures.items);
    doubt = subst (λ p. IsDoubt s.kept tapes c.args.parts.interests.spare None p) (sym starts.sure) tt;
  },
)
