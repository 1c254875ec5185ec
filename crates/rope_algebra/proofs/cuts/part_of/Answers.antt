use Rattle.std.proofs.Common.{◌+◌, ◌-◌, ◌∙◌, ap, ap₂, sym, min}
use Rattle.voice_units.specs.Spots.{spots_from}
use Rattle.rope_algebra.proofs.Parts.{slice-run}
use Rattle.rope_algebra.proofs.cuts.part_of.Goals as goal

pub returns-clause-spots : goal.returns-clause-spots
returns-clause-spots c =
    let p = c.args.piece.now in
    let skipped = c.min-skipped.ensures in
    ap₂ (λ from len. spots_from p.file from len) (ap (λ n. p.from + n) skipped) (c.min.ensures ∙ ap (λ n. min (p.len - n) c.args.most) skipped) ∙ sym (slice-run p.file p.from p.len c.args.skip c.args.most)
