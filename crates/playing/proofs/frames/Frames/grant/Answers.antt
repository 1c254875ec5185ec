use Rattle.std.proofs.Common.{◌≡◌, ◌∙◌, ◌<◌, sym, ap, subst, List, refl}
use Rattle.frame_pool.specs.declared.views.Stage.TheVariants.{Handed, Reserved}
use Rattle.frame_pool.specs.declared.views.Part.{Part}
use Rattle.frame_pool.specs.Steps.{parts_of}
use Rattle.frame_pool.specs.Pool.{lanes_of}
use Rattle.playing.specs.Frames.{FramesState}
use Rattle.playing.proofs.Kept.{frames_lane}
use Rattle.playing.proofs.Leasing.{can_grant, has_count, lease_of, is_out}
use Rattle.playing.proofs.frames.Frames.grant.Goals as goal

pub grant-requires-clause-count : goal.grant-requires-clause-count
grant-requires-clause-count c = has_count c.args.block c.args.self.now.resident c.args.window.now c.in_ok-parts.parts.items c.deref.result.now (c.in_ok-parts.ensures c.args.self.now.resident c.requires.found) c.deref.ensures.value c.requires.least c.requires.few

pub grant-requires-clause-parts : goal.grant-requires-clause-parts
grant-requires-clause-parts c =
    let inside : FramesState = record { keeper = c.self.inside.keeper; resident = c.self.inside.resident.items } in
    can_grant c.args.self.now inside c.self.inside.readers.items _ c.args.block c.args.window.now c.in_ok-parts.parts.items c.deref.result.now c.self.view_is c.self.invariant c.requires.block c.requires.stretches (c.in_ok-parts.ensures c.args.self.now.resident c.requires.found) c.deref.ensures.value

pub returns-clause-lease : goal.returns-clause-lease
returns-clause-lease c =
    let inside : FramesState = record { keeper = c.self.inside.keeper; resident = c.self.inside.resident.items } in
    lease_of c.args.self.now inside c.args.lane c.args.block c.args.window.now c.in_ok-parts.parts.items c.deref.result.now c.in_ok-lease.lease c.self.view_is c.self.invariant.whole c.requires.some c.requires.block c.requires.stretches (c.in_ok-parts.ensures c.args.self.now.resident c.requires.found) c.deref.ensures.value c.in_ok-lease.ensures.lease

pub returns-clause-stage : goal.returns-clause-stage
returns-clause-stage c = is_out c.args.block c.args.self.now.resident c.args.window.now c.in_ok-parts.parts.items c.deref.result.now _ (c.in_ok-parts.ensures c.args.self.now.resident c.requires.found) c.deref.ensures.value c.in_ok-lease.ensures.stage

pub invariant_of-self-2 : goal.invariant_of-self-2
invariant_of-self-2 c =
    frames_lane c.self.inside.keeper c.grant.new.self c.self.inside.resident.items c.self.inside.readers.items _ c.args.lane c.from.result c.in_ok-parts.parts.items c.self.invariant c.in_ok-lease.ensures.others
    (c.from.ensures ∙ c.lane.view_is)
    (subst (λ (s : FramesState). c.args.lane < lanes_of s.keeper) (sym c.self.view_is) c.requires.lane)
    (ap parts_of c.in_ok-lease.ensures.stage ∙ c.deref.ensures.value)
    (has_count c.args.block c.args.self.now.resident c.args.window.now c.in_ok-parts.parts.items c.in_ok-parts.parts.items (c.in_ok-parts.ensures c.args.self.now.resident c.requires.found) refl c.requires.least c.requires.few).1
    (λ qs e. grants_it (sym c.in_ok-lease.ensures.stage ∙ e))
  where
    grants_it : {ps qs : List Part} → Handed ps ≡ Reserved qs → ⊥
    grants_it e = cc
