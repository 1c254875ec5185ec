use Rattle.std.proofs.Common.{◌≡◌, ◌+◌, ◌-◌, ◌%◌, ◌++◌, ◌∙◌, ap, refl, arith, length, ℕ, drop}
use Rattle.record_job.specs.Recording.{Recording}
use Rattle.record_job.proofs.Inputs.{still_recording, none_complete, some_complete, at_least_one}
use Rattle.record_job.proofs.taking.Taking.add.Goals as goal

abbrev total_of : Recording → ℕ
total_of r = r.total

pub invariant_of-self-then-whole-eq0 : goal.invariant_of-self-then-whole-eq0
invariant_of-self-then-whole-eq0 c =
    let t = c.self.inside in
    let n = c.len-before.result + length c.args.bytes.now in
    let before : n ≡ length t.rest.items + length c.args.bytes.now = omega (arith, c.len-before.ensures, t.rest.ok.0) in
    let none : n - n % t.block ≡ 0 = c.if-whole-eq0.true in
    let total = ap total_of c.self.view_is in
    still_recording t.block t.total t.rest.items c.args.bytes.now c.extend_from_slice.new.self.items _ _ c.self.invariant (omega (arith, total, c.requires))
    (c.in_ok-extend_from_slice.ensures.items ∙ (none_complete t.block t.rest.items c.args.bytes.now n before none).0)
    (omega (arith, c.self.invariant.enough, c.in_ok-extend_from_slice.ensures.capacity))

pub invariant_of-self-2 : goal.invariant_of-self-2
invariant_of-self-2 c =
    let t = c.self.inside in
    let n = c.len-before.result + length c.args.bytes.now in
    let whole = n - n % t.block in
    let had : c.len-before.result ≡ length t.rest.items = omega (arith, c.len-before.ensures, t.rest.ok.0) in
    let total = ap total_of c.self.view_is in
    let least = at_least_one t.block n c.if-whole-eq0.false in
    still_recording t.block t.total t.rest.items c.args.bytes.now c.extend_from_slice-2.new.self.items _ _ c.self.invariant (omega (arith, total, c.requires))
    (c.in_ok-extend_from_slice-2.ensures.items ∙ ap (λ l. l ++ c.split_at.result.1.now) c.clear.ensures.items ∙ c.split_at.ensures.back ∙ ap (λ k. drop (whole - k) c.args.bytes.now) had ∙ (some_complete t.block t.rest.items c.args.bytes.now n whole (omega (arith, had)) refl (omega (arith, least, c.self.invariant.few))).1)
    (omega (arith, c.self.invariant.enough, c.in_ok-extend_from_slice-2.ensures.capacity, c.clear.ensures.capacity))
