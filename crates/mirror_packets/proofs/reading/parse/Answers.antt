use Rattle.std.proofs.Common.{refl, sym}
use Rattle.std.proofs.lemmas.Result.{err_from_is_err_and}
use Rattle.change_codec.proofs.Answers.{bytes_from}
use Rattle.mirror_packets.specs.Shown.{packets_of}
use Rattle.mirror_packets.proofs.Files.{file_is_spelled}
use Rattle.mirror_packets.proofs.Found.{pushed, bad_at, all_read}
use Rattle.mirror_packets.proofs.reading.parse.Goals as goal

pub returns-in_err-found-clause-bad : goal.returns-in_err-found-clause-bad
returns-in_err-found-clause-bad c =
    let p = err_from_is_err_and c.from_residual.result c.from_residual.ensures.1 in
    rw (p.1, p.2) (bad_at c.args.bytes.now c.loop-rest.rest.now c.loop-rest.packets.items _ c.loop-rest.invariant (sym c.loop-rest-test.ensures) c.in_err-found.ensures.bad)

pub loop-rest-preserved : goal.loop-rest-preserved
loop-rest-preserved c =
    pushed c.args.bytes.now c.loop-rest.rest.now _ c.loop-rest.packets.items c.push.new.self.items c.in_ok-found.found.packet c.in_ok-found.found.end c.loop-rest.invariant c.in_ok-found.ensures.found.packet c.in_ok-found.ensures.found.end refl
    c.in-Ok.ensures.items

pub returns-clause-ok : goal.returns-clause-ok
returns-clause-ok c = all_read c.args.bytes.now c.loop-rest.rest.now c.loop-rest.packets.items c.loop-rest.invariant (sym c.loop-rest-test.ensures)

pub returns-clause-spelled : goal.returns-clause-spelled
returns-clause-spelled c =
    file_is_spelled c.args.bytes.now (packets_of c.loop-rest.packets.items) (bytes_from c.args.bytes.now c.type_inv.bytes)
    (all_read c.args.bytes.now c.loop-rest.rest.now c.loop-rest.packets.items c.loop-rest.invariant (sym c.loop-rest-test.ensures))
