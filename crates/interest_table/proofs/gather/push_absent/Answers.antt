use Rattle.std.proofs.Common.{◌≡◌, ◌∙◌, ◌+◌, ◌++◌, ◌∷◌, ◌≤◌, length, map, drop, get_or, ap, sym, arith, rules}
use Rattle.voice_model.specs.Changes.{is_unlisted}
use Rattle.interest_table.specs.Inside.{row_of, kept}
use Rattle.interest_table.proofs.Keys.{key_taken, drop_stamps}
use Rattle.interest_table.proofs.Due.{row_kept}
use Rattle.interest_table.proofs.gather.push_absent.Goals as goal

pub loop-stamp-preserved : goal.loop-stamp-preserved
loop-stamp-preserved c =
    let at = row_of c.args.rows.now in
    let ss = c.args.stamps.now in
    let row = c.in-Some.row.now in
    let own : kept at (get_or ss c.loop-stamp.stamp-index 0) ≡ row = row_kept at (get_or ss c.loop-stamp.stamp-index 0) row (sym c.in-Some.ensures) in
    let room : length c.loop-stamp.keys.items + 1 ≤ 65535 = search rules in
    let long : length c.push.new.self.items ≡ length c.loop-stamp.keys.items + 1 = search rules in
    record {
      keys = λ h left.
          key_taken (is_unlisted c.args.named.now.keys) 65535 row (map (kept at) (drop (c.loop-stamp.stamp-index + 1) ss) ++ left) (map (kept at) (drop c.loop-stamp.stamp-index ss) ++ left) c.loop-stamp.keys.items c.push.new.self.items _
          (sym c.is_absent.ensures ∙ c.if-not-is_absent.false)
          (drop_stamps at ss c.loop-stamp.stamp-index (c.loop-stamp.stamp-index + 1) 0 left (omega arith) c.loop-stamp-test.true ∙ ap (λ r. r ∷ (map (kept at) (drop (c.loop-stamp.stamp-index + 1) ss) ++ left)) own)
          (omega (arith, room)) (search rules) long (c.loop-stamp.invariant.keys h left);
      most = omega (arith, long, room);
    }
