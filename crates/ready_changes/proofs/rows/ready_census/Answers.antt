use Rattle.std.proofs.Common.{◌≡◌, ℕ, ◌≤◌, ◌==◌, true, false, List, length, Some, None, refl, sym, ◌∙◌, ap, subst}
use Rattle.voice_model.specs.Spelling.{keeps_grammar}
use Rattle.voice_model.specs.declared.changes.Change.TheVariants as changes
use Rattle.voice_model.specs.declared.calls.Class.TheVariants.{Listed}
use Rattle.recovery.specs.Gathered.{AreGoing}
use Rattle.ready_changes.specs.declared.ReadyChange.{ReadyChange}
use Rattle.ready_changes.specs.declared.Act.TheVariants.{Count}
use Rattle.ready_changes.specs.Ready.{MayBeReady, census_of}
use Rattle.ready_changes.proofs.Dues.{census_grammar}
use Rattle.ready_changes.proofs.Made.{census_none, census_some, some_of}
use Rattle.ready_changes.proofs.rows.ready_census.Goals as goal

pub returns-then-is_empty : goal.returns-then-is_empty
returns-then-is_empty c spare d rows =
    let none : (length c.in_ok-gone.gone == 0) ≡ true = ap (λ (l : List (List ℕ)). length l == 0) (sym c.items.ensures) ∙ sym c.is_empty.ensures ∙ c.if-is_empty.true in
    subst (λ keys. MayBeReady spare d None (census_of keys)) c.in_ok-gone.ensures (census_none spare d c.in_ok-gone.gone none)

pub spelled-requires : goal.spelled-requires
spelled-requires c =
    let some : (length c.in_ok-gone.gone == 0) ≡ false = ap (λ (l : List (List ℕ)). length l == 0) (sym c.items.ensures) ∙ sym c.is_empty.ensures ∙ c.if-is_empty.false in
    subst (λ keys. keeps_grammar (changes.Census keys) ≡ true) (sym c.in_ok-gone.ensures)
    (census_grammar c.args.interests.now.rows c.args.census.now c.requires.keys (subst (λ (keys : List (List ℕ)). 1 ≤ length keys) c.in_ok-gone.ensures (some_of c.in_ok-gone.gone some)))

pub returns : goal.returns
returns c spare d rows =
    let keys = c.in_ok-gone.gone in
    let some : (length keys == 0) ≡ false = ap (λ (l : List (List ℕ)). length l == 0) (sym c.items.ensures) ∙ sym c.is_empty.ensures ∙ c.if-is_empty.false in
    let going : AreGoing Listed keys d.rows c.in_ok-going.going =
    subst (λ r. AreGoing Listed keys r c.in_ok-going.going) (sym rows) (subst (λ k. AreGoing Listed k c.args.interests.now.rows c.in_ok-going.going) c.items-2.ensures (c.in_ok-going.ensures c.requires.once)) in
    let grammar = subst (λ keys. keeps_grammar (changes.Census keys) ≡ true) (sym c.in_ok-gone.ensures)
    (census_grammar c.args.interests.now.rows c.args.census.now c.requires.keys (subst (λ (keys : List (List ℕ)). 1 ≤ length keys) c.in_ok-gone.ensures (some_of keys some))) in
    let ready : ReadyChange = record { act = Count c.in_ok-going.going; payload = c.in_ok-payload.payload } in
    subst (λ l. MayBeReady spare d (Some ready) (census_of l)) c.in_ok-gone.ensures
    (census_some spare d ready keys (some_of keys some) (record { does = record { keys = keys; is = refl; gathered = going }; payload = c.in_ok-payload.ensures; grammar = grammar }))
