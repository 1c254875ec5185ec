use Rattle.std.proofs.Common.{◌≡◌, ◌∙◌, ℕ, sym, ap, subst}
use Rattle.lane_calls.specs.Answers.{IsHandedOut}
use Rattle.players.specs.Players.{PlayerState}
use Rattle.voice_store.specs.Feeding.{HasSamples}
use Rattle.voice_store.specs.Shown.{pool_of, state_of}
use Rattle.voice_server.proofs.feeding.feed_player.Goals as goal

pub received-requires-clause-fresh : goal.received-requires-clause-fresh
received-requires-clause-fresh g c =
    let on : c.lane-lane.result ≡ c.hand_out.new.self.lane = c.lane-lane.ensures ∙ sym (ap (λ (p : PlayerState). p.lane) c.hand_out.ensures.rest) in
    (pool_of c.args.store.now, subst (λ (l : ℕ). IsHandedOut (pool_of c.args.store.now) l c.in_ok-fed.fed) on c.in_ok-fed.ensures.fresh)

pub returns-in_default-clause-player : goal.returns-in_default-clause-player
returns-in_default-clause-player g c =
    let on : c.lane-lane.result ≡ c.hand_out.new.self.lane = c.lane-lane.ensures ∙ sym (ap (λ (p : PlayerState). p.lane) c.hand_out.ensures.rest) in
    c.received.ensures.pool (pool_of c.args.store.now) (subst (λ (l : ℕ). IsHandedOut (pool_of c.args.store.now) l c.in_ok-fed.fed) on c.in_ok-fed.ensures.fresh)

pub returns-in_default-clause-samples : goal.returns-in_default-clause-samples
returns-in_default-clause-samples g c = λ honest first keeps.
    let on : c.lane-lane.result ≡ c.hand_out.new.self.lane = c.lane-lane.ensures ∙ sym (ap (λ (p : PlayerState). p.lane) c.hand_out.ensures.rest) in
    let s = state_of first c.args.store.now in
    c.received.ensures.samples s (subst (λ (l : ℕ). HasSamples s l c.in_ok-fed.fed) on (c.in_ok-fed.ensures.samples honest first keeps))

pub returns-clause-player : goal.returns-clause-player
returns-clause-player g c =
    let on : c.in-Some.lease.lane ≡ c.hand_out.new.self.lane = c.in-Some.ensures.most.1 ∙ sym (ap (λ (p : PlayerState). p.lane) c.hand_out.ensures.rest) in
    c.received-2.ensures.pool (pool_of c.args.store.now) (subst (λ (l : ℕ). IsHandedOut (pool_of c.args.store.now) l c.in-Ok.fed) on c.in-Ok.ensures.fresh)

pub returns-clause-samples : goal.returns-clause-samples
returns-clause-samples g c = λ honest first keeps.
    let on : c.in-Some.lease.lane ≡ c.hand_out.new.self.lane = c.in-Some.ensures.most.1 ∙ sym (ap (λ (p : PlayerState). p.lane) c.hand_out.ensures.rest) in
    let s = state_of first c.args.store.now in
    c.received-2.ensures.samples s (subst (λ (l : ℕ). HasSamples s l c.in-Ok.fed) on (c.in-Ok.ensures.samples honest first keeps))
