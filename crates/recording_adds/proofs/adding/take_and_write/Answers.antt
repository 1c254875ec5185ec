use Rattle.std.proofs.Common.{◌≡◌, ◌+◌, ◌-◌, ◌/◌, length, sym, ◌∙◌, ap, ap₂, subst, arith}
use Rattle.running_tables.specs.Laws.{HasGrown}
use Rattle.open_recordings.proofs.Counted.{same_count}
use Rattle.recording_adds.specs.Adds.{HasWhole}
use Rattle.recording_adds.proofs.Numbers.{blocks_rise, whole_rises, some_block}
use Rattle.recording_adds.proofs.Listed.{were_open}
use Rattle.recording_adds.proofs.Kept.{all_stay, none_more}
use Rattle.recording_adds.proofs.Grown.{grown_by, has_grown, took_more, whole_had, whole_listed, all_blocks, wrote_own}
use Rattle.recording_adds.proofs.Whole.{on_none, still_whole, more_whole}
use Rattle.recording_adds.proofs.adding.take_and_write.Goals as goal

pub returns-in_err-_taken-clause-stays : goal.returns-in_err-_taken-clause-stays
returns-in_err-_taken-clause-stays g c =
    let h = c.requires.holds in
    all_stay h.held h.pledged h.takings c.args.parts.now c.grow.new.parts h.what h.runs (c.in_err-_taken.ensures.err h.held h.pledged h.takings h.what h.runs) c.in_err-_taken.ensures.none

pub returns-in_err-_taken-clause-stands : goal.returns-in_err-_taken-clause-stands
returns-in_err-_taken-clause-stands g c = λ honest before many has.
    on_none c.from_residual-in_err-_taken.result (HasWhole c.args.shape.now (g.D.Disk.told c.args.disk.now).bytes c.grow.new.parts.blocks.holders c.args.lane before)
    (λ a index k e low less. has a index k (c.in_err-_taken.ensures.none a _ e) low less)

pub write_taken-written-requires-clause-addresses : goal.write_taken-written-requires-clause-addresses
write_taken-written-requires-clause-addresses g c κs within =
    let taken_more = took_more c.args.shape.now c.args.lane c.args.total c.args.n (c.blocks_needed.result - c.blocks_needed-from.result) c.args.parts.now c.grow.new.parts c.requires.holds (ap₂ (λ x y. x - y) c.blocks_needed.ensures c.blocks_needed-from.ensures) c.in_ok-_taken.ensures.grown c.in_ok-_taken.ensures.hands c.in_ok-_taken.ensures.stays in
    whole_listed c.args.shape.now c.args.lane c.args.total c.args.n c.args.parts.now c.grow.new.parts taken_more

pub write_taken-written-requires-clause-many : goal.write_taken-written-requires-clause-many
write_taken-written-requires-clause-many g c κs within =
    let taken_more = took_more c.args.shape.now c.args.lane c.args.total c.args.n (c.blocks_needed.result - c.blocks_needed-from.result) c.args.parts.now c.grow.new.parts c.requires.holds (ap₂ (λ x y. x - y) c.blocks_needed.ensures c.blocks_needed-from.ensures) c.in_ok-_taken.ensures.grown c.in_ok-_taken.ensures.hands c.in_ok-_taken.ensures.stays in
    all_blocks c.args.shape.now c.args.lane c.args.total c.args.n c.args.parts.now c.grow.new.parts taken_more

pub shrink-requires : goal.shrink-requires
shrink-requires g c =
    let taken_more = took_more c.args.shape.now c.args.lane c.args.total c.args.n (c.blocks_needed.result - c.blocks_needed-from.result) c.args.parts.now c.grow.new.parts c.requires.holds (ap₂ (λ x y. x - y) c.blocks_needed.ensures c.blocks_needed-from.ensures) c.in_ok-_taken.ensures.grown c.in_ok-_taken.ensures.hands c.in_ok-_taken.ensures.stays in
    let has = taken_more.has in
    let needed = c.blocks_needed.ensures in
    let from = c.blocks_needed-from.ensures in
    let rise = blocks_rise c.args.shape.now.block c.args.total c.args.n (some_block c.args.shape.now) in
    (taken_more.held, taken_more.pledged, taken_more.more, taken_more.what, taken_more.after, omega (arith, has, needed, from, rise))

pub returns-in_default-clause-back : goal.returns-in_default-clause-back
returns-in_default-clause-back g c = λ held pledged takings b runs.
    let h = c.requires.holds in
    let extra = c.blocks_needed.result - c.blocks_needed-from.result in
    let grows = has_grown extra c.args.lane takings in
    c.shrink.ensures.runs held pledged takings (grown_by extra c.args.lane takings) b
    (c.in_ok-_taken.ensures.grown held pledged takings (grown_by extra c.args.lane takings) b runs grows)
    (same_count held pledged takings h.held h.pledged h.takings c.args.parts.now b h.what c.args.lane runs h.runs ∙ h.blocks ∙ sym c.blocks_needed-from.ensures)
    grows

pub returns-in_default-clause-wrote : goal.returns-in_default-clause-wrote
returns-in_default-clause-wrote g c = λ honest.
    let taken_more = took_more c.args.shape.now c.args.lane c.args.total c.args.n (c.blocks_needed.result - c.blocks_needed-from.result) c.args.parts.now c.grow.new.parts c.requires.holds (ap₂ (λ x y. x - y) c.blocks_needed.ensures c.blocks_needed-from.ensures) c.in_ok-_taken.ensures.grown c.in_ok-_taken.ensures.hands c.in_ok-_taken.ensures.stays in
    wrote_own c.args.shape.now c.args.lane c.args.total c.args.n c.args.parts.now c.grow.new.parts taken_more _ _ (c.in_default.ensures.content honest)

pub returns-in_default-clause-none : goal.returns-in_default-clause-none
returns-in_default-clause-none g c =
    let taken_more = took_more c.args.shape.now c.args.lane c.args.total c.args.n (c.blocks_needed.result - c.blocks_needed-from.result) c.args.parts.now c.grow.new.parts c.requires.holds (ap₂ (λ x y. x - y) c.blocks_needed.ensures c.blocks_needed-from.ensures) c.in_ok-_taken.ensures.grown c.in_ok-_taken.ensures.hands c.in_ok-_taken.ensures.stays in
    none_more taken_more.held taken_more.pledged taken_more.takings taken_more.more c.args.parts.now c.grow.new.parts c.shrink.new.parts taken_more.what c.args.lane taken_more.before taken_more.after
    (returns-in_default-clause-back g c taken_more.held taken_more.pledged taken_more.takings taken_more.what taken_more.before) taken_more.hands taken_more.stays c.shrink.ensures.kept

pub returns-in_default-clause-stays : goal.returns-in_default-clause-stays
returns-in_default-clause-stays g c =
    let h = c.requires.holds in
    all_stay h.held h.pledged h.takings c.args.parts.now c.shrink.new.parts h.what h.runs (returns-in_default-clause-back g c h.held h.pledged h.takings h.what h.runs) (returns-in_default-clause-none g c)

pub returns-in_default-clause-stands : goal.returns-in_default-clause-stands
returns-in_default-clause-stands g c = λ honest before many has.
    let shape = c.args.shape.now in
    let h = c.requires.holds in
    let taken_more = took_more c.args.shape.now c.args.lane c.args.total c.args.n (c.blocks_needed.result - c.blocks_needed-from.result) c.args.parts.now c.grow.new.parts c.requires.holds (ap₂ (λ x y. x - y) c.blocks_needed.ensures c.blocks_needed-from.ensures) c.in_ok-_taken.ensures.grown c.in_ok-_taken.ensures.hands c.in_ok-_taken.ensures.stays in
    let wrote = returns-in_default-clause-wrote g c honest in
    let after = returns-in_default-clause-back g c h.held h.pledged h.takings h.what h.runs in
    still_whole shape c.args.lane (c.args.total / shape.block) c.args.parts.now.blocks.holders c.shrink.new.parts.blocks.holders _ _ wrote.addresses before
    (whole_had shape c.args.lane c.args.total c.args.n c.args.parts.now c.grow.new.parts taken_more) after.given.single (returns-in_default-clause-stays g c) wrote.own wrote.wrote.bytes (sym (ap (λ k. k / shape.block) many)) has

pub returns-clause-grown : goal.returns-clause-grown
returns-clause-grown g c = λ held pledged takings more b runs grows.
    c.in_ok-_taken.ensures.grown held pledged takings more b runs
    (subst (λ k. HasGrown c.args.lane k takings more) (sym (ap₂ (λ x y. x - y) c.blocks_needed.ensures c.blocks_needed-from.ensures)) grows)

pub returns-clause-wrote : goal.returns-clause-wrote
returns-clause-wrote g c = λ honest.
    let taken_more = took_more c.args.shape.now c.args.lane c.args.total c.args.n (c.blocks_needed.result - c.blocks_needed-from.result) c.args.parts.now c.grow.new.parts c.requires.holds (ap₂ (λ x y. x - y) c.blocks_needed.ensures c.blocks_needed-from.ensures) c.in_ok-_taken.ensures.grown c.in_ok-_taken.ensures.hands c.in_ok-_taken.ensures.stays in
    wrote_own c.args.shape.now c.args.lane c.args.total c.args.n c.args.parts.now c.grow.new.parts taken_more _ _ (c.in-Ok.ensures.content honest)

pub returns-clause-whole : goal.returns-clause-whole
returns-clause-whole g c = λ honest before after many longer front fresh has.
    let shape = c.args.shape.now in
    let total = c.args.total in
    let n = c.args.n in
    let taken_more = took_more c.args.shape.now c.args.lane c.args.total c.args.n (c.blocks_needed.result - c.blocks_needed-from.result) c.args.parts.now c.grow.new.parts c.requires.holds (ap₂ (λ x y. x - y) c.blocks_needed.ensures c.blocks_needed-from.ensures) c.in_ok-_taken.ensures.grown c.in_ok-_taken.ensures.hands c.in_ok-_taken.ensures.stays in
    let listed = whole_listed shape c.args.lane total n c.args.parts.now c.grow.new.parts taken_more in
    let rise = whole_rises shape.block total n (some_block shape) in
    let ends : length after / shape.block ≡ total / shape.block + ((total + n) / shape.block - total / shape.block) = ap (λ k. k / shape.block) longer ∙ (let e : (total + n) / shape.block ≡ total / shape.block + ((total + n) / shape.block - total / shape.block) = omega (arith, rise) in e) in
    let wrote = c.in-Ok.ensures.content honest listed.0 listed.1 in
    more_whole shape c.args.lane (total / shape.block) c.args.parts.now.blocks.holders c.grow.new.parts.blocks.holders _ _ listed.0 before
    (whole_had shape c.args.lane total n c.args.parts.now c.grow.new.parts taken_more) taken_more.after.given.single taken_more.stays
    (were_open c.args.lane (total / shape.block) ((total + n) / shape.block - total / shape.block) c.args.parts.now.blocks.holders c.grow.new.parts.blocks.holders listed.0 listed.1 taken_more.stays)
    wrote.bytes (sym (ap (λ k. k / shape.block) many)) has
    ((total + n) / shape.block - total / shape.block) c.args.samples.now after listed.1 c.requires.whole ends (λ k less. front k (omega (arith, less, many))) fresh (c.in-Ok.ensures.written honest listed.0 listed.1)
