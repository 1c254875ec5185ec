use Rattle.std.proofs.Common.{◌≡◌, ◌∙◌, sym, ap, subst}
use Rattle.frame_pool.specs.Pool.{LeaseState}
use Rattle.lane_calls.specs.Answers.{IsHandedOut}
use Rattle.lane_calls.specs.declared.outcomes.Fed.TheVariants as feds
use Rattle.voice_store.specs.Shown.{pool_of}
use Rattle.embedding.proofs.hearing.hear.Goals as goal

pub returns-in_err-fed-2 : goal.returns-in_err-fed-2
returns-in_err-fed-2 g c = record { state = λ first stands. c.serve.ensures.state first (c.loop.invariant.keeps first stands) }

pub loop-preserved : goal.loop-preserved
loop-preserved g c =
    let pool = pool_of c.loop.store in
    let out : IsHandedOut pool c.args.lane (feds.Window c.in-Window._at c.in-Window.lease) = subst (IsHandedOut pool c.args.lane) c.in-Window.is c.loop.invariant.out in
    let on : c.take_in.new.lease.lane ≡ c.args.lane = ap (λ (l : LeaseState). l.lane) c.take_in.ensures.same ∙ out.1 in
    record {
      out = subst (λ p. IsHandedOut p c.args.lane c.in_ok-fed-2.fed) (sym c.serve.ensures.pool) (subst (λ l. IsHandedOut pool l c.in_ok-fed-2.fed) on c.in_ok-fed-2.ensures.fresh);
      keeps = λ first stands. c.serve.ensures.state first (c.loop.invariant.keeps first stands);
    }
