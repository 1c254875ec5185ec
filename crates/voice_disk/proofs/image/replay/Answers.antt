use Rattle.std.proofs.Common.{refl, sym, ◌∙◌, ap, List, ℕ, take, reverse}
use Rattle.std.proofs.lemmas.List.{take_all}
use Rattle.voice_disk.specs.declared.record.Entry.{Entry}
use Rattle.voice_disk.specs.Replay.{bytes_made, bytes_after}
use Rattle.voice_disk.specs.Image.{image_made, image_after}
use Rattle.voice_disk.proofs.Images.{reversed_step}
use Rattle.voice_disk.proofs.image.replay.Goals as goal

pub loop-entry-init : goal.loop-entry-init
loop-entry-init c = record { bytes_are = refl; image_is = c.requires }

pub loop-entry-preserved : goal.loop-entry-preserved
loop-entry-preserved c =
    let step = reversed_step c.args.calls.now c.loop-entry.entry-index c.entry-item.result c.loop-entry-test.true c.entry-item.is in
    let first = c.args.bytes.now in
    let had = c.loop-entry.invariant in
    let made = c.entry-item.result.made in
    record {
      bytes_are = c.make.ensures.bytes ∙ ap (λ (b : List ℕ). bytes_made b made) had.bytes_are ∙ ap (bytes_after first) (sym step);
      image_is = c.make.ensures.image ∙ ap (λ (b : List ℕ). image_made c.args.choice b c.loop-entry.image made) had.bytes_are
          ∙ ap (λ (i : List ℕ). image_made c.args.choice (bytes_after first (reverse (take c.loop-entry.entry-index c.args.calls.now))) i made) had.image_is
          ∙ ap (image_after c.args.choice first) (sym step);
    }

pub returns : goal.returns
returns c = c.loop-entry.invariant.image_is ∙ ap (λ (l : List Entry). image_after c.args.choice c.args.bytes.now (reverse l)) (take_all c.loop-entry.entry-index c.args.calls.now c.loop-entry-test.false)
