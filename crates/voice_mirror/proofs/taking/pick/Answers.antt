use Rattle.std.proofs.Common.{ℕ, List, sym, ap, subst, ◌∙◌}
use Rattle.std.specs.Prelude.{IfSome, Option}
use Rattle.mirror_tables.specs.Beside.{IsBeside, AreFree}
use Rattle.mirror_tables.specs.declared.beside.Beside.{Beside}
use Rattle.voice_mirror.specs.declared.inside.Inside.{Inside}
use Rattle.mirror_tables.specs.declared.beside.Beside.TheVariants.{Same}
use Rattle.voice_mirror.specs.Shown.{IsStanding}
use Rattle.voice_mirror.proofs.Answering.{standing_beside, with_beside}
use Rattle.voice_mirror.proofs.taking.pick.Goals as goal

pub free_addresses-found-requires : goal.free_addresses-found-requires
free_addresses-found-requires c = (c.requires.parts.what, c.in_ok-tables.ensures.tables c.requires.parts.what c.requires.parts.shows)

pub returns-in_ok-from_slice-in-Ok-Some-clause-free : goal.returns-in_ok-from_slice-in-Ok-Some-clause-free
returns-in_ok-from_slice-in-Ok-Some-clause-free c =
    λ b shows.
    let found = c.in-Ok-Some.ensures.free b (c.in_ok-tables.ensures.tables b shows) in
    let some : AreFree b c.args.n c.in-Ok-Some.list = subst (λ (o : Option (List ℕ)). IfSome o (λ list. AreFree b c.args.n list)) c.in-Ok-Some.field-0-is found in
    subst (λ (list : List ℕ). AreFree b c.args.n list) (sym (c.in_ok-from_slice-in-Ok-Some.ensures.items ∙ c.items.ensures)) some

pub returns-in_ok-from_slice-in-Ok-Some-clause-beside : goal.returns-in_ok-from_slice-in-Ok-Some-clause-beside
returns-in_ok-from_slice-in-Ok-Some-clause-beside c =
    subst (λ (x : Beside). IsBeside c.args.inside.now.journal.shape c.args.inside.now.parts x) (sym (ap (λ (i : Inside). i.beside) c.put_beside.ensures))
    (λ b shows. c.free_addresses-found.ensures.same b (c.in_ok-tables.ensures.tables b shows))

pub returns-in_err-from_slice-in-Ok-Some-clause-standing : goal.returns-in_err-from_slice-in-Ok-Some-clause-standing
returns-in_err-from_slice-in-Ok-Some-clause-standing c =
    λ size standing.
    subst (λ (i : Inside). IsStanding size i) (sym (c.put_beside.ensures ∙ ap (with_beside (Same c.free_addresses-found.new.tables)) c.next_tables.ensures.rest))
    (standing_beside size c.args.inside.now (Same c.free_addresses-found.new.tables) standing (λ b shows. c.free_addresses-found.ensures.same b (c.in_ok-tables.ensures.tables b shows)))

pub returns-in_ok-from_slice-in-Ok-Some-clause-standing : goal.returns-in_ok-from_slice-in-Ok-Some-clause-standing
returns-in_ok-from_slice-in-Ok-Some-clause-standing c =
    λ size standing.
    subst (λ (i : Inside). IsStanding size i) (sym (c.put_beside.ensures ∙ ap (with_beside (Same c.free_addresses-found.new.tables)) c.next_tables.ensures.rest))
    (standing_beside size c.args.inside.now (Same c.free_addresses-found.new.tables) standing (λ b shows. c.free_addresses-found.ensures.same b (c.in_ok-tables.ensures.tables b shows)))
