use Rattle.std.proofs.Common.{rules, ◌∙◌, ◌≤◌, length, sym, arith}
use Rattle.voice_journal.proofs.Slices.{number_byte}
use Rattle.voice_journal.proofs.Moves.{is_counted}
use Rattle.voice_journal.proofs.Choosing.{not_counted}
use Rattle.voice_journal.proofs.heads.head_epoch.Goals as goal

pub returns-then-bytes-ne1-clause-value : goal.returns-then-bytes-ne1-clause-value
returns-then-bytes-ne1-clause-value c =
    let size : 1 ≤ length c.args.bytes.now = search rules in
    not_counted c.args.bytes.now 0 (λ k. c.if-bytes-ne1.true (sym (number_byte c.args.bytes.now 0 size) ∙ k.gate))

pub returns-then-epoch-lt1-clause-value : goal.returns-then-epoch-lt1-clause-value
returns-then-epoch-lt1-clause-value c =
    not_counted c.args.bytes.now 0 (λ k.
    let some = k.some in
    let is = c.read_8-epoch.ensures in
    omega (arith, some, is))

pub returns-clause-value : goal.returns-clause-value
returns-clause-value c =
    let size : 1 ≤ length c.args.bytes.now = search rules in
    let is = c.read_8-epoch.ensures in
    (is_counted c.args.bytes.now 0 (record { gate = number_byte c.args.bytes.now 0 size ∙ c.if-bytes-ne1.false; some = omega (arith, is); limit = omega (arith, is) }), is)

pub returns-then-epoch-clause-value : goal.returns-then-epoch-clause-value
returns-then-epoch-clause-value c =
    not_counted c.args.bytes.now 0 (λ k.
    let limit = k.limit in
    let is = c.read_8-epoch.ensures in
    omega (arith, limit, is))
