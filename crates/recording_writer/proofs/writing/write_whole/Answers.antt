use Rattle.std.proofs.Common.{length, refl, arith, Err}
use Rattle.recording_writer.proofs.Counted.{runs_limit}
use Rattle.recording_writer.proofs.Writes.{some_block, run_fits, part_size, part_at, whole_blocks}
use Rattle.recording_writer.proofs.Stages.{none_written, run_written, run_failed, run_torn, all_counted, all_made, all_written}
use Rattle.recording_writer.proofs.writing.write_whole.Goals as goal

pub loop-at-init : goal.loop-at-init
loop-at-init g c = none_written c.args.shape.now c.args.addresses.now c.args.bytes.now (g.D.Disk.told c.args.disk.now)

pub write_blocks-requires-clause-whole : goal.write_blocks-requires-clause-whole
write_blocks-requires-clause-whole g c = λ κs lives.
    let b = c.args.shape.now.block in
    whole_blocks b c.run_length.result _ (some_block c.args.shape.now) (part_size c.args.bytes.now b c.loop-at.at c.run_length.result (length c.args.addresses.now) c.run_length.ensures.within c.requires.enough)

pub write_blocks-requires-clause-within : goal.write_blocks-requires-clause-within
write_blocks-requires-clause-within g c = λ κs lives.
    let b = c.args.shape.now.block in
    let size = part_size c.args.bytes.now b c.loop-at.at c.run_length.result (length c.args.addresses.now) c.run_length.ensures.within c.requires.enough in
    run_fits c.args.shape.now c.args.addresses.now c.loop-at.at c.run_length.result _ c.run_length.ensures.some c.run_length.ensures.within c.run_length.ensures.run c.requires.within size

pub write_blocks-requires-clause-fits : goal.write_blocks-requires-clause-fits
write_blocks-requires-clause-fits g c = λ κs lives. omega (arith, c.loop-at.invariant.size, c.requires.fits)

pub returns-in_err-write_blocks-clause-made : goal.returns-in_err-write_blocks-clause-made
returns-in_err-write_blocks-clause-made g c =
    let ends = c.in_err-write_blocks.ensures in
    run_failed c.args.shape.now c.args.addresses.now c.args.bytes.now c.loop-at.at c.run_length.result (g.D.Disk.told c.args.disk.now) (g.D.Disk.told c.loop-at.disk) (g.D.Disk.told c.write_blocks.new.disk) (Err c.in_err-write_blocks.field-0.0) c.from_residual.result c.loop-at.invariant c.run_length.ensures.longest ends.counts refl

pub returns-in_err-write_blocks-clause-few : goal.returns-in_err-write_blocks-clause-few
returns-in_err-write_blocks-clause-few g c = runs_limit c.args.addresses.now

pub returns-in_err-write_blocks-clause-content : goal.returns-in_err-write_blocks-clause-content
returns-in_err-write_blocks-clause-content g c = λ honest.
    let size = part_size c.args.bytes.now c.args.shape.now.block c.loop-at.at c.run_length.result (length c.args.addresses.now) c.run_length.ensures.within c.requires.enough in
    run_torn c.args.shape.now c.args.addresses.now c.args.bytes.now c.loop-at.at c.run_length.result _ (g.D.Disk.told c.args.disk.now) (g.D.Disk.told c.loop-at.disk) (g.D.Disk.told c.write_blocks.new.disk) c.write_blocks.result c.loop-at.invariant c.run_length.ensures.within c.run_length.ensures.run size c.write_blocks.ensures.content honest

pub loop-at-preserved : goal.loop-at-preserved
loop-at-preserved g c =
    let b = c.args.shape.now.block in
    let n = c.run_length.result in
    let size = part_size c.args.bytes.now b c.loop-at.at n (length c.args.addresses.now) c.run_length.ensures.within c.requires.enough in
    let ends = c.in_ok-write_blocks.ensures in
    run_written c.args.shape.now c.args.addresses.now c.args.bytes.now c.loop-at.at n _ (g.D.Disk.told c.args.disk.now) (g.D.Disk.told c.loop-at.disk) (g.D.Disk.told c.write_blocks.new.disk) _ c.loop-at.invariant c.run_length.ensures.within c.run_length.ensures.run c.run_length.ensures.longest c.requires.differ size (λ k below. part_at c.args.bytes.now b c.loop-at.at n k below) ends.counts ends.content

pub returns-clause-made : goal.returns-clause-made
returns-clause-made g c = all_made c.args.shape.now c.args.addresses.now c.args.bytes.now c.loop-at.at _ _ _ c.loop-at.invariant c.loop-at-test.false

pub returns-clause-calls : goal.returns-clause-calls
returns-clause-calls g c = all_counted c.args.shape.now c.args.addresses.now c.args.bytes.now c.loop-at.at _ _ c.loop-at.invariant c.loop-at-test.false

pub returns-clause-few : goal.returns-clause-few
returns-clause-few g c = runs_limit c.args.addresses.now

pub returns-clause-content : goal.returns-clause-content
returns-clause-content g c = λ honest. c.loop-at.invariant.content honest

pub returns-clause-written : goal.returns-clause-written
returns-clause-written g c = λ honest. all_written c.args.shape.now c.args.addresses.now c.args.bytes.now c.loop-at.at _ _ c.loop-at.invariant c.loop-at-test.false c.requires.enough honest
