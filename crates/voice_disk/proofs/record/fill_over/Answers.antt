use Rattle.std.proofs.Common.{◌≡◌, ◌+◌, ◌-◌, ◌≤◌, ◌∙◌, length, take, drop, ap, sym, min, arith, replicate}
use Rattle.std.proofs.lemmas.List.{take-replicate, length-replicate, length-take, length-drop}
use Rattle.voice_disk.specs.Over.{over_clipped}
use Rattle.voice_disk.proofs.record.fill_over.Goals as goal

pub returns : goal.returns
returns c =
    let start = c.min-start.result in
    let count = c.min-n.result in
    let n : (start + count) - start ≡ count = omega arith in
    let part : length (take ((start + count) - start) (drop start c.args.bytes.now)) ≡ count = simp (length-take, length-drop) (omega arith) in
    let filled : c.fill.new.self ≡ replicate count c.args.byte = c.fill.ensures.after (λ y h. h) ∙ ap (λ k. replicate k c.args.byte) part in
    let within : count ≤ c.args.n = omega arith in
    let clipped = over_clipped c.args.bytes.now c.args.at (replicate c.args.n c.args.byte) start count c.min-start.ensures (c.min-n.ensures ∙ ap (λ k. min (length c.args.bytes.now - start) k) (sym (length-replicate c.args.n c.args.byte))) in
    rw (filled, n) (rw (take-replicate count c.args.n c.args.byte within) at clipped)
