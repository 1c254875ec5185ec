use Rattle.std.proofs.Common.{refl, sym, ◌∙◌, ap, arith}
use Rattle.voice_units.specs.declared.shapes.Shape.{Shape}
use Rattle.voice_units.specs.Spots.{spots_of}
use Rattle.voice_units.specs.Blocks.{has_pair, pairs_at}
use Rattle.rope_table.specs.Table.{new_pairs}
use Rattle.recovery.proofs.Rebuilding.{orderly_rebuilt}
use Rattle.next_ropes.specs.Ready.{new_samples}
use Rattle.next_ropes.proofs.Performed.{came, unknown}
use Rattle.open_recordings.proofs.Copied.{few_addresses, copied}
use Rattle.open_recordings.proofs.Pledged.{without_lane, lane_ended}
use Rattle.open_recordings.proofs.ending.parts_after.Goals as goal

pub blocks_of-requires : goal.blocks_of-requires
blocks_of-requires c =
    let few = few_addresses c.requires.0 c.requires.1 c.args.lane c.args.parts.now c.requires.2 c.args.next.now c.requires.3 c.requires.4 in
    omega (arith, few)

pub pledge-requires : goal.pledge-requires
pledge-requires c =
    let after = c.in_ok-after.after in
    let known = c.in_ok-after.ensures in
    let count = c.blocks_of.ensures in
    let spare = known.spare_pairs in (
      c.requires.0,
      c.requires.1,
      c.requires.2,
      c.requires.3,
      copied c.requires.0 c.requires.1 c.args.lane c.args.parts.now c.requires.2 c.args.next.now c.requires.3 c.requires.4 after known.alike known.spare_ropes (omega (arith, count, spare)),
    )

pub add_rope-requires-clause-unknown : goal.add_rope-requires-clause-unknown
add_rope-requires-clause-unknown c =
    let known = c.in_ok-after.ensures in
    let count = c.blocks_of.ensures in
    let spare = known.spare_pairs in
    let ending = copied c.requires.0 c.requires.1 c.args.lane c.args.parts.now c.requires.2 c.args.next.now c.requires.3 c.requires.4 c.in_ok-after.after known.alike known.spare_ropes (omega (arith, count, spare)) in
    let more = without_lane c.requires.1 c.args.lane in
    unknown c.requires.0 more c.pledge.new.parts c.requires.2 c.args.next.now c.requires.3
    (c.pledge.ensures.ready c.requires.0 c.requires.1 more c.requires.2 c.requires.3 ending (lane_ended c.requires.1 c.args.lane))

pub add_rope-requires-clause-room : goal.add_rope-requires-clause-room
add_rope-requires-clause-room c =
    let known = c.in_ok-after.ensures in
    let count = c.blocks_of.ensures in
    let spare = known.spare_pairs in
    let ending = copied c.requires.0 c.requires.1 c.args.lane c.args.parts.now c.requires.2 c.args.next.now c.requires.3 c.requires.4 c.in_ok-after.after known.alike known.spare_ropes (omega (arith, count, spare)) in
    (c.pledge.ensures.ready c.requires.0 c.requires.1 (without_lane c.requires.1 c.args.lane) c.requires.2 c.requires.3 ending (lane_ended c.requires.1 c.args.lane)).room

pub add_rope-requires-clause-pairs : goal.add_rope-requires-clause-pairs
add_rope-requires-clause-pairs c =
    let known = c.in_ok-after.ensures in
    let count = c.blocks_of.ensures in
    let spare = known.spare_pairs in
    let ending = copied c.requires.0 c.requires.1 c.args.lane c.args.parts.now c.requires.2 c.args.next.now c.requires.3 c.requires.4 c.in_ok-after.after known.alike known.spare_ropes (omega (arith, count, spare)) in
    let ready = c.pledge.ensures.ready c.requires.0 c.requires.1 (without_lane c.requires.1 c.args.lane) c.requires.2 c.requires.3 ending (lane_ended c.requires.1 c.args.lane) in
    let most = ready.pairs in
    let same = ap (new_pairs c.pledge.new.parts.ropes) c.in_ok-pieces.ensures in
    omega (arith, most, same)

pub add_rope-requires-clause-fits : goal.add_rope-requires-clause-fits
add_rope-requires-clause-fits c = λ pair e.
    let known = c.in_ok-after.ensures in
    let count = c.blocks_of.ensures in
    let spare = known.spare_pairs in
    let ending = copied c.requires.0 c.requires.1 c.args.lane c.args.parts.now c.requires.2 c.args.next.now c.requires.3 c.requires.4 c.in_ok-after.after known.alike known.spare_ropes (omega (arith, count, spare)) in
    let ready = c.pledge.ensures.ready c.requires.0 c.requires.1 (without_lane c.requires.1 c.args.lane) c.requires.2 c.requires.3 ending (lane_ended c.requires.1 c.args.lane) in
    ready.fits pair (ap (λ ps. has_pair (pairs_at c.pledge.new.parts.ropes.block (spots_of ps)) pair) (sym c.in_ok-pieces.ensures) ∙ e)

pub returns : goal.returns
returns c = λ held takings more b change h ends s.
    let known = c.in_ok-after.ensures in
    let count = c.blocks_of.ensures in
    let spare = known.spare_pairs in
    let ending = copied held takings c.args.lane c.args.parts.now b c.args.next.now change h c.in_ok-after.after known.alike known.spare_ropes (omega (arith, count, spare)) in
    let ready = c.pledge.ensures.ready held takings more b change ending ends in
    let number = ready.number in
    came held more c.pledge.new.parts c.pledge.new.parts c.add_rope.new.self b c.args.next.now change ready ready.runs.kept refl refl c.add_rope.ensures.form (ap (λ blocks. blocks.holders) c.add_rope.ensures.blocks)
    (c.add_rope.ensures.shows held b.form b.kept (new_samples change) ready.runs.kept (orderly_rebuilt b ready.runs.valid) (omega (arith, number))
    (c.in_ok-pieces.ensures ∙ ready.pieces) (ap (λ (shape : Shape). shape.graces.common) (sym s)))
