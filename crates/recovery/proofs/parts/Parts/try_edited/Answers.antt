use Rattle.std.proofs.Common.{◌≡◌, ℕ, ◌≤◌, Bool, true, false, nat_lt, List, [], refl, sym, ◌∙◌, ap, arith, ◌&&◌, Result, Ok}
use Rattle.std.specs.List.{list_all}
use Rattle.std.proofs.lemmas.Bool.{le-leb}
use Rattle.voice_units.specs.Spots.{spots_of}
use Rattle.voice_units.specs.Blocks.{has_pair, pairs_at}
use Rattle.voice_units.specs.declared.errors.NoMemory.{NoMemory}
use Rattle.voice_units.proofs.PiecesOfRopes.{pieces_of-spots_of, both}
use Rattle.voice_model.specs.State.Effect.{Edited}
use Rattle.voice_model.specs.Spelling.{is_id, are_pieces}
use Rattle.voice_model.specs.Replay.{Rebuilt, is_legal, used_pairs}
use Rattle.voice_model.specs.declared.changes.Change.TheVariants as changes
use Rattle.rope_table.specs.Table.{uses_at, pieces_in, rope_of}
use Rattle.voice_units.specs.declared.shapes.Shape.{Shape}
use Rattle.voice_units.specs.declared.pieces.Piece.{Piece}
use Rattle.recovery.specs.declared.parts.Parts.{Parts}
use Rattle.recovery.specs.Shown.{Rebuilds}
use Rattle.recovery.proofs.BlocksUsed.{same_all, uses_few, are_rope}
use Rattle.recovery.proofs.Showing.{reserved_shown, used_shown, fresh_shown, pieces_few}
use Rattle.recovery.proofs.Rebuilding.{plain_applied, not_done, orderly_rebuilt, more_used}
use Rattle.recovery.proofs.parts.Parts.try_edited.Goals as goal

-- whether an edit is legal
legal_edit : (old : Parts) (r : Rebuilt) (id : ℕ) (b : Bool) (pieces : List Piece) → Rebuilds old r → old.next ≤ id → b ≡ list_all (λ pair. nat_lt 0 (uses_at old.ropes pair)) (pairs_at old.ropes.block (spots_of pieces)) → b ≡ is_legal r (changes.Edited id pieces)
legal_edit old r id b pieces h later e =
    let next = h.kept.next in
    e ∙ ap (λ n. list_all (λ pair. nat_lt 0 (uses_at old.ropes pair)) (pairs_at n (spots_of pieces))) h.kept.block
    ∙ same_all (λ pair. nat_lt 0 (uses_at old.ropes pair)) (has_pair (used_pairs r.kept)) (used_shown r.kept old.ropes old.interests.rows old.moment old.next h.kept) (pairs_at r.shape.block (spots_of pieces))
    ∙ ap (λ x. x && list_all (has_pair (used_pairs r.kept)) (pairs_at r.shape.block (spots_of pieces))) (sym (le-leb r.next id (omega (arith, later, next))))

sure : (b : Bool) → ◌≡◌ {A = Result Bool NoMemory} (Ok b) (Ok true) → b ≡ true
sure true e = refl
sure false e = cc

pub from_normal-requires : goal.from_normal-requires
from_normal-requires c = are_rope c.args.pieces.items (both (is_id c.args.id) (are_pieces c.args.pieces.items) c.requires.grammar).1

pub add_used_rope-requires-clause-unknown : goal.add_used_rope-requires-clause-unknown
add_used_rope-requires-clause-unknown c =
    let old = c.args.self.now in
    let h = c.requires.parts.shows in
    let later : c.requires.parts.what.next ≤ c.args.id = let a = c.if-number-self.false in let b = c.number.ensures.value in let n = h.kept.next in omega (arith, a, b, n) in
    ap (λ l. rope_of l c.args.id) c.in_ok-reserve.ensures.ropes
    ∙ fresh_shown [] c.requires.parts.what.form c.requires.parts.what.kept old.ropes old.interests.rows old.moment old.next c.args.id h.kept (orderly_rebuilt c.requires.parts.what h.valid) later

pub add_used_rope-requires-clause-fits : goal.add_used_rope-requires-clause-fits
add_used_rope-requires-clause-fits c = λ pair e.
    let old = c.args.self.now.ropes in
    let uses = c.in_ok-reserve.ensures.uses pair ∙ c.requires.parts.shows.kept.uses pair in
    let most = uses_few old.block (pieces_in old.ropes) pair in
    let count = pieces_few old.ropes in
    let few = c.requires.few in
    omega (arith, uses, most, count, few)

pub returns : goal.returns
returns c =
    let old = c.args.self.now in
    let new = c.reserve.new.self in
    let done = c.add_used_rope.result in
    let later : old.next ≤ c.args.id = let a = c.if-number-self.false in let b = c.number.ensures.value in omega (arith, a, b) in
    let pieces = c.args.pieces.items in
    let normal = (are_rope pieces (both (is_id c.args.id) (are_pieces pieces) c.requires.grammar).1).normal in
    let used : done ≡ list_all (λ pair. nat_lt 0 (uses_at old.ropes pair)) (pairs_at old.ropes.block (spots_of pieces)) =
    c.add_used_rope.ensures.value
    ∙ ap (λ ps. list_all (λ pair. nat_lt 0 (uses_at new pair)) (pairs_at new.block (spots_of ps))) c.in_ok-rope.ensures
    ∙ ap (λ n. list_all (λ pair. nat_lt 0 (uses_at new pair)) (pairs_at n (spots_of pieces))) c.in_ok-reserve.ensures.block
    ∙ same_all (λ pair. nat_lt 0 (uses_at new pair)) (λ pair. nat_lt 0 (uses_at old.ropes pair)) (λ pair. ap (nat_lt 0) (c.in_ok-reserve.ensures.uses pair)) (pairs_at old.ropes.block (spots_of pieces)) in
    plain_applied c.args.shape.now old c.add_used_rope.new.self _ (Edited c.args.id (spots_of pieces)) (Ok done) c.requires.grammar (λ r. refl)
    c.add_used_rope.ensures.blocks c.add_used_rope.ensures.form
    (λ r h s. legal_edit old r c.args.id done pieces h later used)
    (λ r h s e.
    let next = h.kept.next in
    c.add_used_rope.ensures.shows [] r.form r.kept (spots_of pieces)
    (reserved_shown [] r.kept old.ropes new old.interests.rows old.moment old.next h.kept c.in_ok-reserve.ensures.ropes c.in_ok-reserve.ensures.block c.in_ok-reserve.ensures.uses)
    (orderly_rebuilt r h.valid) (omega (arith, later, next)) (c.in_ok-rope.ensures ∙ sym (pieces_of-spots_of pieces normal)) (ap (λ (shape : Shape). shape.graces.common) (sym s)) (sure done e))
    (λ r h s e.
    c.add_used_rope.ensures.same [] r.kept
    (reserved_shown [] r.kept old.ropes new old.interests.rows old.moment old.next h.kept c.in_ok-reserve.ensures.ropes c.in_ok-reserve.ensures.block c.in_ok-reserve.ensures.uses) (not_done done e))
    (λ r pair h. more_used r.shape.block r.ropes (record { id = c.args.id; samples = spots_of pieces; idle = r.moment; last = 0 }) pair h)
