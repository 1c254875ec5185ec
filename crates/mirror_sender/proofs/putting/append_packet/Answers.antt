use Rattle.std.proofs.Common.{◌≡◌, ◌++◌, length, sym, ◌∙◌, ap, ap₂, append_assoc}
use Rattle.disk_areas.specs.Numbers.{number_bytes}
use Rattle.mirror_packets.specs.Packets.{body_spelling}
use Rattle.mirror_packets.specs.Effects.{body_of_effect}
use Rattle.mirror_sender.proofs.Bodies.{body_long}
use Rattle.mirror_sender.proofs.putting.append_packet.Goals as goal

pub returns : goal.returns
returns c = λ own spare effect is same.
    let before = c.args.out.now.items in
    let number = number_bytes 8 c.args.number in
    let body = body_spelling (body_of_effect effect) in
    let size = number_bytes 4 (length body) in
    let long : c.body_size-size.result ≡ length body = c.body_size-size.ensures ∙ sym (body_long own c.args.tapes.now spare c.args.next.now effect is) in
    c.append_body.ensures own spare effect is same
    ∙ ap (λ l. l ++ body) (c.append_4.ensures.items ∙ ap₂ (λ l n. l ++ number_bytes 4 n) c.append_8.ensures.items long ∙ append_assoc before number size)
    ∙ append_assoc before (number ++ size) body
