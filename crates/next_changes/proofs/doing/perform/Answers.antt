use Rattle.std.proofs.Common.{sym, ap, subst}
use Rattle.voice_units.specs.declared.shapes.Shape.{Shape}
use Rattle.voice_blocks.specs.Holders.{BlocksView}
use Rattle.recovery.specs.Shown.{IsOrderly}
use Rattle.recovery.proofs.Rebuilding.{orderly_rebuilt}
use Rattle.next_changes.specs.declared.NextChange.{NextChange}
use Rattle.next_changes.specs.Next.{IsNext}
use Rattle.next_ropes.proofs.HandedOut.{kept_all}
use Rattle.running_tables.proofs.Swept.{all_in_use}
use Rattle.next_changes.proofs.Copied.{other_done, freed_keeps}
use Rattle.next_changes.proofs.doing.perform.Goals as goal

pub perform-requires : goal.perform-requires
perform-requires c = (c.requires.0, c.requires.1, c.requires.2, c.requires.3, subst (λ (n : NextChange). IsNext c.requires.0 c.requires.1 c.args.parts.now c.requires.2 n c.requires.3) c.in-Rope.is c.requires.4)

pub perform-requires-in-Other : goal.perform-requires-in-Other
perform-requires-in-Other c =
    let h = subst (λ (n : NextChange). IsNext c.requires.0 c.requires.1 c.args.parts.now c.requires.2 n c.requires.3) c.in-Other.is c.requires.4 in
    (c.requires.0, c.requires.2.kept, c.requires.3, h.runs.kept, h.ready)

pub returns-in-Rope-clause-runs : goal.returns-in-Rope-clause-runs
returns-in-Rope-clause-runs c = λ held takings b change h same. c.perform.ensures.runs held takings b change (subst (λ (n : NextChange). IsNext held takings c.args.parts.now b n change) c.in-Rope.is h) same

pub returns-in-Other-clause-runs : goal.returns-in-Other-clause-runs
returns-in-Other-clause-runs c = λ held takings b change h same.
    let old = c.args.parts.now in
    let other = subst (λ (n : NextChange). IsNext held takings old b n change) c.in-Other.is h in
    let ordered = subst (λ form. IsOrderly form b.kept) (sym other.runs.in_form) (orderly_rebuilt b other.runs.valid) in
    let graces = ap (λ (s : Shape). s.graces) same in
    let done = c.perform-in-Other.ensures in
    other_done held takings old.interests.spare old _ b change c.in-Other.ready other.runs other.legal other.ready
    (done.shows held b.kept change other.runs.kept ordered graces other.ready) done.stay (done.blocks held b.kept change other.runs.kept ordered graces other.ready) done.size done.form

pub returns-in-Rope-clause-kept : goal.returns-in-Rope-clause-kept
returns-in-Rope-clause-kept c = λ held takings b change h same. kept_all c.args.parts.now.blocks.holders c.perform.new.parts.blocks.holders (ap (λ (m : BlocksView). m.holders) c.perform.ensures.blocks)

pub returns-in-Other-clause-kept : goal.returns-in-Other-clause-kept
returns-in-Other-clause-kept c = λ held takings b change h same.
    let old = c.args.parts.now in
    let other = subst (λ (n : NextChange). IsNext held takings old b n change) c.in-Other.is h in
    let ordered = subst (λ form. IsOrderly form b.kept) (sym other.runs.in_form) (orderly_rebuilt b other.runs.valid) in
    let graces = ap (λ (s : Shape). s.graces) same in
    freed_keeps old c.perform-in-Other.new.parts (c.perform-in-Other.ensures.blocks held b.kept change other.runs.kept ordered graces other.ready (all_in_use held takings old b other.runs))
