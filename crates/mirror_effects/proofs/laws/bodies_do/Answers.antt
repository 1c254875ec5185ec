use Rattle.mirror_effects.proofs.Bodies.{body_legal, body_known, body_brings, one_effect, body_does, body_alike, body_kind, body_stays}
use Rattle.mirror_effects.proofs.laws.bodies_do.Goals as goal

pub returns : goal.returns
returns c = record { legal = body_legal; not_strange = body_known; brought = body_brings; once = one_effect; does = body_does; alike = body_alike; kind = body_kind; stays = body_stays }
