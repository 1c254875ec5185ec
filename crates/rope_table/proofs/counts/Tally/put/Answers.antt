use Rattle.std.proofs.Common.{◌≡◌, false, ◌+◌, ◌≤◌, ◌<◌, if◌then◌else◌, sym, subst, arith}
use Rattle.std.specs.Prelude.{min}
use Rattle.std.specs.HashMap.{spare}
use Rattle.rope_table.specs.Inside.{Tallied, is_entered, pair_named}
use Rattle.rope_table.proofs.Lives.{filed_where, less_room, behind_put}
use Rattle.rope_table.proofs.counts.Tally.put.Goals as goal

pub refile-self-inside-requires-clause-behind : goal.refile-self-inside-requires-clause-behind
refile-self-inside-requires-clause-behind c = behind_put c.self.inside.counts c.put-old.new.counts.entries c.self.inside.files c.self.inside.live c.args.name c.args.count c.put-old.result c.self.invariant c.put-old.ensures.sums c.put-old.ensures.result

pub refile-self-inside-requires-clause-room : goal.refile-self-inside-requires-clause-room
refile-self-inside-requires-clause-room c = λ none.
    let new = filed_where c.self.inside.counts.entries c.self.inside.files.files c.args.name c.self.invariant.counted none in
    let some = subst (λ (v : Tallied). is_entered v (pair_named c.args.name) ≡ false → 0 < v.spare) (sym c.self.view_is) c.requires new in
    omega (arith, some)

pub returns-clause-spare : goal.returns-clause-spare
returns-clause-spare c =
    let less = less_room c.self.inside.counts.entries c.self.inside.files.files c.args.name c.self.invariant.counted in
    subst (λ (v : Tallied). v.spare ≤ min (spare c.put-old.new.counts) c.refile-self-inside.new.files.spare + (if is_entered v (pair_named c.args.name) then 0 else 1)) c.self.view_is
    (omega (arith, less, c.put-old.ensures.spare, c.refile-self-inside.ensures.spare))
