use Rattle.std.proofs.Common.{◌≡◌, suc, ◌-◌, ◌<◌, ◌+◌, drop, length, get_or, ap, sym, ◌∙◌, subst, arith}
use Rattle.voice_units.specs.Spots.{spots_of, samples_in}
use Rattle.rope_algebra.specs.Kept.{IsRope, starts_from, first_len}
use Rattle.rope_algebra.proofs.Begun.{whole_rest, rope_rest, length-starts, start-in, spots_at_start, first_ends}
use Rattle.rope_algebra.proofs.starts.rest_at.Goals as goal

pub bounds-starts-k : goal.bounds-starts-k
bounds-starts-k c =
    let many = ap (λ l. length l) (c.requires.starts (omega arith)) ∙ length-starts 0 c.args.pieces.now in
    omega (arith, many, c.piece_at-k.ensures.within)

pub returns-clause-rope : goal.returns-clause-rope
returns-clause-rope c = subst IsRope (sym (whole_rest c.piece_at-k.result c.args.pieces.now)) (rope_rest c.piece_at-k.result c.args.pieces.now c.requires.rope)

pub returns-clause-spots : goal.returns-clause-spots
returns-clause-spots c =
    let ps = c.args.pieces.now in
    let k = c.piece_at-k.result in
    let start = ap (λ l. get_or l k 0) (c.requires.starts (omega arith)) in
    ap (λ l. drop (c.args.at - get_or c.args.starts.now k 0) (spots_of l)) (whole_rest k ps)
    ∙ ap (λ s. drop (c.args.at - s) (spots_of (drop k ps))) start
    ∙ ap (λ n. drop (n - get_or (starts_from 0 ps) k 0) (spots_of (drop k ps))) (let e : c.args.at ≡ 0 + c.args.at = omega arith in e)
    ∙ spots_at_start k 0 c.args.at ps 0 c.piece_at-k.ensures.within (omega (arith, start, c.piece_at-k.ensures.begun))

pub returns-clause-skip : goal.returns-clause-skip
returns-clause-skip c =
    let ps = c.args.pieces.now in
    let k = c.piece_at-k.result in
    let start = ap (λ l. get_or l k 0) (c.requires.starts (omega arith)) in
    let rest = ap samples_in (whole_rest k ps) in
    let all = start-in k 0 ps 0 c.piece_at-k.ensures.within in
    omega (arith, start, rest, all, c.requires.at)

pub returns-clause-near : goal.returns-clause-near
returns-clause-near c within =
    let ps = c.args.pieces.now in
    let k = c.piece_at-k.result in
    let start = ap (λ l. get_or l k 0) (c.requires.starts (omega arith)) in
    let rest = ap first_len (whole_rest k ps) in
    let next : suc k < length ps → c.args.at < get_or (starts_from 0 ps) (suc k) 0 = λ more.
    let later = c.piece_at-k.ensures.next (omega (arith, more)) in
    let one = ap (λ l. get_or l (k + 1) 0) (c.requires.starts (omega arith)) ∙ ap (λ n. get_or (starts_from 0 ps) n 0) (let e : k + 1 ≡ suc k = omega arith in e) in
    omega (arith, later, one) in
    let end = first_ends k 0 c.args.at ps 0 c.piece_at-k.ensures.within (omega (arith, within)) next in
    omega (arith, start, rest, end, c.piece_at-k.ensures.begun)
