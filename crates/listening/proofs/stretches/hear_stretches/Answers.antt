use Rattle.std.proofs.Common.{◌%◌, refl, ◌∙◌, arith}
use Rattle.listening.specs.Heard.{pair_of}
use Rattle.listening.proofs.Standing.{stretch_pair, part_length}
use Rattle.listening.proofs.Walking.{begins, read_one, goes_on, all_heard, all_looked}
use Rattle.listening.proofs.stretches.hear_stretches.Goals as goal

pub loop-stretch-init : goal.loop-stretch-init
loop-stretch-init g c = record {
  underway = begins g.E.Ear.knows g.E.Ear.limit c.args.shape.now c.args.blocks.now.holders c.args.pieces.now c.args.ear.now (g.D.Disk.told c.args.disk.now) c.requires.limit;
  none = λ e. refl;
  room = c.requires.room;
}

pub read_around-requires-clause-placed : goal.read_around-requires-clause-placed
read_around-requires-clause-placed g c κs within = c.requires.placed (pair_of c.args.shape.now.block c.in-Some.stretch) (stretch_pair c.args.shape.now.block c.loop-stretch.at c.args.pieces.now c.in-Some.stretch c.in-Some.ensures.first)

pub read_around-requires-clause-fits : goal.read_around-requires-clause-fits
read_around-requires-clause-fits g c κs within = let size = c.loop-stretch.invariant.underway.looked.size in omega (arith, size, c.requires.fits)

pub returns-in_err-read_around-clause-looked : goal.returns-in_err-read_around-clause-looked
returns-in_err-read_around-clause-looked g c = read_one g.E.Ear.knows g.E.Ear.limit c.args.shape.now c.args.blocks.now.holders c.args.pieces.now c.loop-stretch.at c.args.ear.now c.loop-stretch.ear _ _ _ c.in-Some.stretch _ c.loop-stretch.invariant.underway c.in-Some.ensures.first c.in_err-read_around.ensures.made c.in_err-read_around.ensures.looks

pub returns-in_err-read_around-clause-empty : goal.returns-in_err-read_around-clause-empty
returns-in_err-read_around-clause-empty g c e = absurd (omega (arith, e, c.in-Some.ensures.first.some, c.in-Some.ensures.first.within))

pub returns-in_err-read_around-clause-cause : goal.returns-in_err-read_around-clause-cause
returns-in_err-read_around-clause-cause g c e fits = let rose = c.in_err-read_around.ensures.made.cause refl fits in omega (arith, rose, c.loop-stretch.invariant.underway.looked.faults)

pub returns-in_err-hear_part-clause-looked : goal.returns-in_err-hear_part-clause-looked
returns-in_err-hear_part-clause-looked g c = read_one g.E.Ear.knows g.E.Ear.limit c.args.shape.now c.args.blocks.now.holders c.args.pieces.now c.loop-stretch.at c.args.ear.now c.loop-stretch.ear _ _ _ c.in-Some.stretch _ c.loop-stretch.invariant.underway c.in-Some.ensures.first c.in_ok-read_around.ensures.made c.in_ok-read_around.ensures.looks

pub returns-in_err-hear_part-clause-empty : goal.returns-in_err-hear_part-clause-empty
returns-in_err-hear_part-clause-empty g c e = absurd (omega (arith, e, c.in-Some.ensures.first.some, c.in-Some.ensures.first.within))

pub loop-stretch-preserved : goal.loop-stretch-preserved
loop-stretch-preserved g c = record {
  underway =
      goes_on g.E.Ear.knows g.E.Ear.limit c.args.shape.now c.args.blocks.now.holders c.args.pieces.now c.loop-stretch.at c.args.ear.now c.loop-stretch.ear c.hear_part.new.ear _ _ _ c.in-Some.stretch _ _ c.loop-stretch.invariant.underway c.in-Some.ensures.first c.in_ok-read_around.ensures.made c.in_ok-read_around.ensures.looks c.in_ok-read_around.ensures.bytes
      (part_length c.read_around.new.room _ _ (let inside = c.in-Some.ensures.first.inside in omega (arith, inside, c.in_ok-read_around.ensures.room, c.loop-stretch.invariant.room)))
      (let long = part_length c.read_around.new.room (c.in-Some.stretch.from % c.args.shape.now.block) c.in-Some.stretch.len (let inside = c.in-Some.ensures.first.inside in omega (arith, inside, c.in_ok-read_around.ensures.room, c.loop-stretch.invariant.room)) in omega (arith, long, c.in_ok-hear_part.ensures.limited))
      c.in_ok-hear_part.ensures.known;
  none = λ e. absurd (omega (arith, e, c.in-Some.ensures.first.some, c.in-Some.ensures.first.within));
  room = c.in_ok-read_around.ensures.room ∙ c.loop-stretch.invariant.room;
}

pub returns-clause-looked : goal.returns-clause-looked
returns-clause-looked g c = all_looked g.E.Ear.knows g.E.Ear.limit c.args.shape.now c.args.blocks.now.holders c.args.pieces.now c.loop-stretch.at c.args.ear.now c.loop-stretch.ear _ _ c.loop-stretch.invariant.underway

pub returns-clause-known : goal.returns-clause-known
returns-clause-known g c = all_heard g.E.Ear.knows g.E.Ear.limit c.args.shape.now c.args.blocks.now.holders c.args.pieces.now c.loop-stretch.at c.args.ear.now c.loop-stretch.ear _ _ (c.in_default.ensures.none.0 refl) c.loop-stretch.invariant.underway

pub returns-in_err-read_around-clause-some : goal.returns-in_err-read_around-clause-some
returns-in_err-read_around-clause-some g c e = omega (arith, c.in-Some.ensures.first.some, c.in-Some.ensures.first.within)
