use Rattle.std.proofs.Common.{Bool, ◌≡◌, false, ◌+◌, ◌≤◌, ◌<◌, if◌then◌else◌, unwrap_or, sym, subst, arith}
use Rattle.std.specs.Prelude.{min}
use Rattle.std.specs.HashMap.{spare}
use Rattle.rope_table.specs.Table.{no_count}
use Rattle.rope_table.specs.Inside.{Tallied, IsBehind, is_entered, pair_named, used_again}
use Rattle.rope_table.proofs.Lives.{filed_where, less_room, behind_put}
use Rattle.rope_table.proofs.counts.Tally.put_raised.Goals as goal

pub refile-self-inside-requires-clause-behind : goal.refile-self-inside-requires-clause-behind
refile-self-inside-requires-clause-behind c =
    subst (λ (b : Bool). IsBehind c.put_raised-old.new.counts.entries c.self.inside.files c.self.inside.live c.args.name.file c.put_raised-old.result b) (sym c.has_live_again-is.ensures)
    (behind_put c.self.inside.counts c.put_raised-old.new.counts.entries c.self.inside.files c.self.inside.live c.args.name (used_again c.args.live (unwrap_or c.put_raised-old.result no_count)) c.put_raised-old.result c.self.invariant c.put_raised-old.ensures.sums c.put_raised-old.ensures.result)

pub refile-self-inside-requires-clause-room : goal.refile-self-inside-requires-clause-room
refile-self-inside-requires-clause-room c = λ none.
    let new = filed_where c.self.inside.counts.entries c.self.inside.files.files c.args.name c.self.invariant.counted none in
    let some = subst (λ (v : Tallied). is_entered v (pair_named c.args.name) ≡ false → 0 < v.spare) (sym c.self.view_is) c.requires.room new in
    omega (arith, some)

pub returns-clause-spare : goal.returns-clause-spare
returns-clause-spare c =
    let less = less_room c.self.inside.counts.entries c.self.inside.files.files c.args.name c.self.invariant.counted in
    subst (λ (v : Tallied). v.spare ≤ min (spare c.put_raised-old.new.counts) c.refile-self-inside.new.files.spare + (if is_entered v (pair_named c.args.name) then 0 else 1)) c.self.view_is
    (omega (arith, less, c.put_raised-old.ensures.spare, c.refile-self-inside.ensures.spare))
