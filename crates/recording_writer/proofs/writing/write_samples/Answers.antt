use Rattle.std.proofs.Common.{◌≡◌, ℕ, ◌+◌, ◌*◌, ◌/◌, length, ap, ◌∙◌, arith}
use Rattle.recording_writer.specs.Wrote.{WroteAt}
use Rattle.recording_writer.proofs.Counted.{run_of_one}
use Rattle.recording_writer.proofs.Writes.{some_block, wrote_more, wrote_wider}
use Rattle.recording_writer.proofs.Stages.{still_honest}
use Rattle.recording_writer.proofs.Whole.{few_writes, count_exact, whole_limit, next_limit, front_limit, padded_limit, holds_wider, holds_last, samples_held, zeros_held, when_ok}
use Rattle.recording_writer.proofs.writing.write_samples.Goals as goal

pub returns-in_err-write_whole-clause-few : goal.returns-in_err-write_whole-clause-few
returns-in_err-write_whole-clause-few g c = few_writes c.args.shape.now.block (length c.args.samples.now) c.args.addresses.now (some_block c.args.shape.now) c.requires.enough

pub returns-in_err-write_whole-clause-content : goal.returns-in_err-write_whole-clause-content
returns-in_err-write_whole-clause-content g c = λ honest.
    let shape = c.args.shape.now in
    let n = length c.args.samples.now in
    wrote_wider shape c.args.addresses.now (n / shape.block) _ _ (whole_limit shape.block n (length c.args.addresses.now) (some_block shape) c.requires.enough) (c.write_whole.ensures.content honest)

pub returns-then-front-samples-clause-few : goal.returns-then-front-samples-clause-few
returns-then-front-samples-clause-few g c = few_writes c.args.shape.now.block (length c.args.samples.now) c.args.addresses.now (some_block c.args.shape.now) c.requires.enough

pub returns-then-front-samples-clause-content : goal.returns-then-front-samples-clause-content
returns-then-front-samples-clause-content g c = λ honest.
    let shape = c.args.shape.now in
    let n = length c.args.samples.now in
    wrote_wider shape c.args.addresses.now (n / shape.block) _ _ (whole_limit shape.block n (length c.args.addresses.now) (some_block shape) c.requires.enough) (c.write_whole.ensures.content honest)

pub returns-then-front-samples-clause-written : goal.returns-then-front-samples-clause-written
returns-then-front-samples-clause-written g c = λ honest k below.
    let shape = c.args.shape.now in
    let samples = c.args.samples.now in
    let ends = c.in_ok-write_whole.ensures in
    holds_wider shape c.args.addresses.now samples (length samples / shape.block) _ (front_limit shape.block (length samples)) (ends.written honest) k (omega (arith, below, c.if-front-samples.true))

pub returns-then-front-samples-clause-padded : goal.returns-then-front-samples-clause-padded
returns-then-front-samples-clause-padded g c = λ honest k behind below.
    let shape = c.args.shape.now in
    let n = length c.args.samples.now in
    let count : length c.args.addresses.now ≡ n / shape.block = c.requires.enough ∙ count_exact shape.block n (some_block shape) c.if-front-samples.true in
    let size : length c.args.addresses.now * shape.block ≡ n = ap (λ (m : ℕ). m * shape.block) count ∙ c.if-front-samples.true in
    absurd (omega (arith, size, behind, below))

pub returns-clause-few : goal.returns-clause-few
returns-clause-few g c = few_writes c.args.shape.now.block (length c.args.samples.now) c.args.addresses.now (some_block c.args.shape.now) c.requires.enough

pub returns-clause-content : goal.returns-clause-content
returns-clause-content g c = λ honest.
    let shape = c.args.shape.now in
    let addresses = c.args.addresses.now in
    let n = length c.args.samples.now in
    let w = n / shape.block in
    let ends = c.in_ok-write_whole.ensures in
    let next : w + 1 ≡ length addresses = next_limit shape.block n (length addresses) (some_block shape) c.requires.enough c.if-front-samples.false in
    let size : length c.write_padded.new.room ≡ 1 * shape.block = omega (arith, c.write_padded.auto.room, c.requires.room) in
    let before : WroteAt shape addresses (g.D.Disk.told c.args.disk.now) (g.D.Disk.told c.write_whole.new.disk) = wrote_wider shape addresses w _ _ (omega (arith, next)) (ends.content honest) in
    wrote_more shape addresses w 1 c.write_padded.new.room _ _ _ c.write_padded.result (omega (arith, next)) (run_of_one addresses w) size ends.made.later before (c.write_padded.ensures.content (still_honest (g.D.Disk.told c.args.disk.now) (g.D.Disk.told c.write_whole.new.disk) ends.made.honest honest))

pub returns-clause-written : goal.returns-clause-written
returns-clause-written g c = λ honest.
    let shape = c.args.shape.now in
    let addresses = c.args.addresses.now in
    let samples = c.args.samples.now in
    let room = c.write_padded.new.room in
    let w = length samples / shape.block in
    let ends = c.in_ok-write_whole.ensures in
    let next : w + 1 ≡ length addresses = next_limit shape.block (length samples) (length addresses) (some_block shape) c.requires.enough c.if-front-samples.false in
    let size : length room ≡ shape.block = omega (arith, c.write_padded.auto.room, c.requires.room) in
    let writes = c.write_padded.ensures.content (still_honest (g.D.Disk.told c.args.disk.now) (g.D.Disk.told c.write_whole.new.disk) ends.made.honest honest) in
    when_ok c.write_padded.result _ _
    (λ written.
    let held = holds_last shape addresses samples room w _ _ (front_limit shape.block (length samples)) (omega (arith, next)) c.requires.differ size c.write_padded.ensures.filled writes.outside written (ends.written honest) in
    samples_held shape addresses samples _ _ (padded_limit shape.block (length samples) (some_block shape)) held)
    writes.written

pub returns-clause-padded : goal.returns-clause-padded
returns-clause-padded g c = λ honest.
    let shape = c.args.shape.now in
    let addresses = c.args.addresses.now in
    let samples = c.args.samples.now in
    let room = c.write_padded.new.room in
    let w = length samples / shape.block in
    let ends = c.in_ok-write_whole.ensures in
    let next : w + 1 ≡ length addresses = next_limit shape.block (length samples) (length addresses) (some_block shape) c.requires.enough c.if-front-samples.false in
    let size : length room ≡ shape.block = omega (arith, c.write_padded.auto.room, c.requires.room) in
    let total : (w + 1) * shape.block ≡ length addresses * shape.block = ap (λ (m : ℕ). m * shape.block) next in
    let writes = c.write_padded.ensures.content (still_honest (g.D.Disk.told c.args.disk.now) (g.D.Disk.told c.write_whole.new.disk) ends.made.honest honest) in
    when_ok c.write_padded.result _ _
    (λ written.
    let held = holds_last shape addresses samples room w _ _ (front_limit shape.block (length samples)) (omega (arith, next)) c.requires.differ size c.write_padded.ensures.filled writes.outside written (ends.written honest) in
    λ k behind below. zeros_held shape addresses samples _ _ held k behind (omega (arith, total, below)))
    writes.written
