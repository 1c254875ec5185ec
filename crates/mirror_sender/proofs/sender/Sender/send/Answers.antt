use Rattle.std.proofs.Common.{◌≡◌, sym, ◌∙◌, ap, subst}
use Rattle.mirror_sender.proofs.sender.Sender.send.Goals as goal

pub append_packet-requires-clause-next : goal.append_packet-requires-clause-next
append_packet-requires-clause-next c =
    let can = c.requires.can in
    (can.0, c.args.self.now.parts.interests.spare, can.1, can.2.is, can.2.told.shows.next)

pub perform-requires-clause-can : goal.perform-requires-clause-can
perform-requires-clause-can c =
    let can = c.requires.can in
    (can.0, c.args.tapes.now, can.1, can.2)

pub returns-clause-bytes : goal.returns-clause-bytes
returns-clause-bytes c = λ own effect can. c.append_packet.ensures own c.args.self.now.parts.interests.spare effect can.is can.told.shows.next

pub returns-clause-told : goal.returns-clause-told
returns-clause-told c = λ own effect can. c.perform.ensures.told own c.args.tapes.now effect can
