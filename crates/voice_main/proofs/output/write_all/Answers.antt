use Rattle.std.proofs.Common.{◌≤◌, ◌-◌, length, take, drop, arith, refl}
use Rattle.std.proofs.Common.{length-take, length-drop}
use Rattle.voice_main.proofs.Written.{written}
use Rattle.voice_main.proofs.output.write_all.Goals as goal

pub pieces-preserved : goal.pieces-preserved
pieces-preserved g c =
    let some : c.in-Ok.n ≤ length (take (length c.args.bytes.now - c.pieces.at) (drop c.pieces.at c.args.bytes.now)) = c.in-Ok.ensures.count in
    record {
      within = omega (arith, some, length-take (length c.args.bytes.now - c.pieces.at) (drop c.pieces.at c.args.bytes.now), length-drop c.pieces.at c.args.bytes.now);
      told = written (g.O.Sink.contents c.args.out.now) (g.O.Sink.contents c.pieces.out) (g.O.Sink.contents c.write.new.self) c.args.bytes.now _ c.pieces.at c.in-Ok.n refl c.pieces.invariant.told c.in-Ok.ensures.told;
      later = omega (arith, c.pieces.invariant.later, c.in-Ok.ensures.cause.later);
      empty_later = omega (arith, c.pieces.invariant.empty_later, c.in-Ok.ensures.empty_later);
    }
