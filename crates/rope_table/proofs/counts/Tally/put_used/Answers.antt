use Rattle.std.proofs.Common.{Bool, ℕ, nat_lt, ◌+◌, ◌≤◌, if◌then◌else◌, unwrap_or, sym, ◌∙◌, ap, subst, arith}
use Rattle.std.specs.Prelude.{min, is_some}
use Rattle.std.specs.List.{sum_by}
use Rattle.std.proofs.lemmas.Bool.{false≢true}
use Rattle.std.specs.HashMap.{spare}
use Rattle.rope_table.specs.Table.{no_count, count_of}
use Rattle.rope_table.specs.Inside.{Tallied, IsBehind, found_in, pair_named, used_again}
use Rattle.rope_table.proofs.Lives.{filed_where, less_room, behind_put, used_there, weight_again}
use Rattle.rope_table.proofs.counts.Tally.put_used.Goals as goal

pub refile-self-inside-requires-clause-behind : goal.refile-self-inside-requires-clause-behind
refile-self-inside-requires-clause-behind c =
    let found = used_there (nat_lt 0 (count_of c.self.inside.counts.entries (pair_named c.args.name.now)).uses) c.is_none.result (found_in c.self.inside.counts.entries (pair_named c.args.name.now)) c.put_used-old.result c.put_used-old.ensures.result c.is_none.ensures c.if-is_none.false in
    subst (λ (b : Bool). IsBehind c.put_used-old.new.counts.entries c.self.inside.files c.self.inside.live c.args.name.now.file c.put_used-old.result b) (sym c.has_live_again-is.ensures)
    (behind_put c.self.inside.counts c.put_used-old.new.counts.entries c.self.inside.files c.self.inside.live c.args.name.now (used_again c.args.live (unwrap_or c.put_used-old.result no_count)) c.put_used-old.result c.self.invariant
    (λ weigh. c.put_used-old.ensures.sums weigh ∙ ap (λ n. sum_by weigh c.self.inside.counts.entries + n) (weight_again weigh c.args.name.now c.args.live c.put_used-old.result found.1)) found.0)

pub refile-self-inside-requires-clause-room : goal.refile-self-inside-requires-clause-room
refile-self-inside-requires-clause-room c = λ none.
    let found = used_there (nat_lt 0 (count_of c.self.inside.counts.entries (pair_named c.args.name.now)).uses) c.is_none.result (found_in c.self.inside.counts.entries (pair_named c.args.name.now)) c.put_used-old.result c.put_used-old.ensures.result c.is_none.ensures c.if-is_none.false in
    let absent = filed_where c.self.inside.counts.entries c.self.inside.files.files c.args.name.now c.self.invariant.counted none in
    absurd (false≢true (sym absent ∙ sym (ap is_some found.0) ∙ found.1))

pub returns-clause-spare : goal.returns-clause-spare
returns-clause-spare c =
    let found = used_there (nat_lt 0 (count_of c.self.inside.counts.entries (pair_named c.args.name.now)).uses) c.is_none.result (found_in c.self.inside.counts.entries (pair_named c.args.name.now)) c.put_used-old.result c.put_used-old.ensures.result c.is_none.ensures c.if-is_none.false in
    let less = less_room c.self.inside.counts.entries c.self.inside.files.files c.args.name.now c.self.invariant.counted in
    let none = ap {B = ℕ} (λ b. if b then 0 else 1) (sym (ap is_some found.0) ∙ found.1) in
    subst (λ (v : Tallied). v.spare ≤ min (spare c.put_used-old.new.counts) c.refile-self-inside.new.files.spare) c.self.view_is
    (omega (arith, less, none, c.put_used-old.ensures.spare, c.refile-self-inside.ensures.spare))
