use Rattle.std.proofs.Common.{◌≡◌, sym, ◌∙◌, subst}
use Rattle.voice_blocks.specs.declared.owner.Owner.TheVariants.{Taking}
use Rattle.recording_writer.specs.Wrote.{AreBelow, AreDistinct}
use Rattle.recording_adds.proofs.Listed.{are_below, are_distinct, wrote_none}
use Rattle.recording_adds.proofs.writing.write_taken.Goals as goal

pub write_whole-requires-clause-within : goal.write_whole-requires-clause-within
write_whole-requires-clause-within g c κs within =
    let by = c.requires.addresses in
    let is : c.deref.result.now ≡ by.0 = c.deref.ensures.value ∙ c.addresses_of-addresses.ensures by.0 by.1 in
    subst (AreBelow c.args.shape.now.blocks) (sym is)
    (subst (λ n. AreBelow n by.0) c.requires.many (are_below c.args.blocks.now.holders (Taking c.args.lane) c.args.from c.args.count by.0 by.1))

pub write_whole-requires-clause-differ : goal.write_whole-requires-clause-differ
write_whole-requires-clause-differ g c κs within =
    let by = c.requires.addresses in
    let is : c.deref.result.now ≡ by.0 = c.deref.ensures.value ∙ c.addresses_of-addresses.ensures by.0 by.1 in
    subst AreDistinct (sym is) (are_distinct c.args.blocks.now.holders (Taking c.args.lane) c.args.from c.args.count by.0 by.1)

pub returns-then-count-eq0-clause-content : goal.returns-then-count-eq0-clause-content
returns-then-count-eq0-clause-content g c = λ honest addresses listed. wrote_none c.args.shape.now addresses (g.D.Disk.told c.args.disk.now)
