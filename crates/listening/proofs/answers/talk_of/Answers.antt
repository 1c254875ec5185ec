use Rattle.std.proofs.Common.{[]}
use Rattle.voice_units.specs.Spots.{spots_of}
use Rattle.listening.specs.Heard.{bytes_on}
use Rattle.listening.proofs.answers.talk_of.Goals as goal

pub returns-clause-answer : goal.returns-clause-answer
returns-clause-answer g c honest address places =
    c.in_ok-talk.ensures.answer (bytes_on (g.D.Disk.told c.args.disk.now).bytes c.args.shape.now address (spots_of c.args.pieces.now)) (c.in_ok-hear_rope.ensures.known honest [] address c.new-scanner.ensures.scanned places)
