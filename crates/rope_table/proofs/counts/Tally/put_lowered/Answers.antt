use Rattle.std.proofs.Common.{◌≡◌, true, ◌&&◌, ◌==◌, nat_lt, cond, ◌≤◌, ℕ, Bool, Option, Some, if◌then◌else◌, unwrap_or, sym, ◌∙◌, ap, subst, arith}
use Rattle.std.proofs.lemmas.Bool.{false≢true}
use Rattle.std.specs.Prelude.{min}
use Rattle.std.specs.HashMap.{spare}
use Rattle.rope_table.specs.declared.counts.Count.{Count}
use Rattle.rope_table.specs.Table.{no_count, count_of}
use Rattle.rope_table.specs.Inside.{Tallied, IsBehind, is_entered, entered_in, pair_named, used_less}
use Rattle.rope_table.proofs.Blocks.{same_pair-refl}
use Rattle.rope_table.proofs.Lives.{filed_where, less_room, behind_put}
use Rattle.rope_table.proofs.counts.Tally.put_lowered.Goals as goal

pub refile-self-inside-requires-clause-behind : goal.refile-self-inside-requires-clause-behind
refile-self-inside-requires-clause-behind c =
    subst (λ (b : Bool). IsBehind c.put_lowered-old.new.counts.entries c.self.inside.files c.self.inside.live c.args.name.now.file (Some c.in-Some.count) b) (ap (λ (n : Count). nat_lt 0 n.live) (sym c.lowered-now.ensures))
    (behind_put c.self.inside.counts c.put_lowered-old.new.counts.entries c.self.inside.files c.self.inside.live c.args.name.now (used_less c.args.live c.in-Some.count) (Some c.in-Some.count) c.self.invariant c.in-Some.ensures.sums c.in-Some.ensures.result)

pub refile-self-inside-requires-clause-room : goal.refile-self-inside-requires-clause-room
refile-self-inside-requires-clause-room c = λ none.
    let absent = filed_where c.self.inside.counts.entries c.self.inside.files.files c.args.name.now c.self.invariant.counted none in
    let there = subst (λ (v : Tallied). is_entered v (pair_named c.args.name.now) ≡ true) (sym c.self.view_is) c.requires in
    absurd (false≢true (sym absent ∙ there))

pub returns-clause-value : goal.returns-clause-value
returns-clause-value c =
    let p = pair_named c.args.name.now in
    let old = count_of c.self.inside.counts.entries p in
    let is : count_of c.put_lowered-old.new.counts.entries p ≡ c.lowered-now.result =
    c.in-Some.ensures.counts p
    ∙ ap (λ b. cond b (used_less c.args.live old) old) (same_pair-refl p)
    ∙ ap (λ (o : Option Count). used_less c.args.live (unwrap_or o no_count)) (sym c.in-Some.ensures.result)
    ∙ sym c.lowered-now.ensures in
    c.has_no_use.ensures ∙ ap (λ (n : Count). (n.uses == 0) && (n.live == 0)) (sym is)

pub returns-clause-spare : goal.returns-clause-spare
returns-clause-spare c =
    let less = less_room c.self.inside.counts.entries c.self.inside.files.files c.args.name.now c.self.invariant.counted in
    let there : entered_in c.self.inside.counts.entries (pair_named c.args.name.now) ≡ true = subst (λ (v : Tallied). is_entered v (pair_named c.args.name.now) ≡ true) (sym c.self.view_is) c.requires in
    let none = ap {B = ℕ} (λ b. if b then 0 else 1) there in
    subst (λ (v : Tallied). v.spare ≤ min (spare c.put_lowered-old.new.counts) c.refile-self-inside.new.files.spare) c.self.view_is
    (omega (arith, less, none, c.in-Some.ensures.spare, c.refile-self-inside.ensures.spare))
