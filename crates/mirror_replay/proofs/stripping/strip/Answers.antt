use Rattle.std.proofs.Common.{ℕ, List, [], ◌∷◌, ◌++◌, refl, ap, ◌∙◌, arith}
use Rattle.std.proofs.lemmas.Option.{slice_get_within}
use Rattle.voice_journal.specs.Readings.{record_at}
use Rattle.mirror_replay.proofs.SoFar.{one_more, behind, stops, ends}
use Rattle.mirror_replay.proofs.stripping.strip.Goals as goal

pub returns-in_default-after : goal.returns-in_default-after
returns-in_default-after c = stops c.args.payloads.now c.loop-payload.list c.loop-payload.course c.loop-payload.index _ c.in-Some.payload.now _ c.loop-payload.invariant c.in-Some.ensures.1 c.in_default-after.ensures refl refl

pub loop-payload-smaller : goal.loop-payload-smaller
loop-payload-smaller c = let within = slice_get_within c.args.payloads.now c.loop-payload.index _ c.in-Some.ensures.1 in omega (arith, within)

pub loop-payload-preserved : goal.loop-payload-preserved
loop-payload-preserved c =
    one_more c.args.payloads.now c.loop-payload.list c.push.new.self c.loop-payload.course c.in-Some-after.next c.loop-payload.index _ c.in-Some.payload.now _ c.loop-payload.invariant c.in-Some.ensures.1 c.in-Some-after.ensures
    (c.in_ok-push.ensures.ok ∙ ap (λ (l : List ℕ). c.loop-payload.list ++ record_at c.from.result l ∷ []) (behind c.in-Some.payload.now))

pub returns : goal.returns
returns c = ends c.args.payloads.now c.loop-payload.list c.loop-payload.course c.loop-payload.index _ c.loop-payload.invariant c.in_default.ensures refl refl
