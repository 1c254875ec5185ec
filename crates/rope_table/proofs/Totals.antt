-- How many pieces ropes have in all, as one of them comes, goes or changes.
use Rattle.std.proofs.Common.{◌≡◌, ℕ, suc, ◌+◌, ◌*◌, ◌^◌, ◌<◌, ◌≤◌, List, [], ◌∷◌, length, map, ◌==◌, not, Some, None, refl, sym, ◌∙◌, ap, subst, arith}
use Rattle.std.proofs.lemmas.Bool.{cond_both}
use Rattle.voice_units.specs.declared.Piece.{Piece}
use Rattle.rope_table.specs.declared.ropes.Rope.{Rope}
use Rattle.rope_table.specs.Table.{Every, is_lower, rope_of, with_rope, without_rope, piece_count}
use Rattle.rope_table.specs.Inside.{AreLive}
use Rattle.rope_table.proofs.InOrder.{every_put, in_order-put}
use Rattle.rope_table.proofs.ById.{changed, lower_through}
use Rattle.rope_table.proofs.Edited.{as_put, apart_from, every_changed, every_without, in_order-map, in_order-without, length-with}

pub count_with : (rope : Rope) (ropes : List Rope) → piece_count (with_rope rope ropes) ≡ length rope.pieces + piece_count ropes
count_with rope [] = refl
count_with rope (r ∷ ropes) =
    let rest = count_with rope ropes in
    cond_both (is_lower rope r) (rope ∷ r ∷ ropes) (r ∷ with_rope rope ropes) (λ l. piece_count l ≡ length rope.pieces + piece_count (r ∷ ropes))
    (λ e. refl) (λ e. omega (arith, rest))

pub count_changed : (id : ℕ) (g : Rope → Rope) → ((r : Rope) → (g r).pieces ≡ r.pieces) → (ropes : List Rope) → piece_count (map (changed id g) ropes) ≡ piece_count ropes
count_changed id g same [] = refl
count_changed id g same (r ∷ ropes) =
    let rest = count_changed id g same ropes in
    let here = cond_both (r.id == id) (g r) r (λ q. length q.pieces ≡ length r.pieces) (λ e. ap length (same r)) (λ e. refl) in
    omega (arith, rest, here)

-- so many pieces fit
pub few_pieces : (ropes : List Rope) → Every (λ rope. length rope.pieces < 2 ^ 32) ropes → piece_count ropes ≤ 4294967296 * length ropes
few_pieces [] short = omega arith
few_pieces (r ∷ ropes) short = let rest = few_pieces ropes short.1 in let here = short.0 in omega (arith, rest, here)

length_without : (id : ℕ) (ropes : List Rope) → length (without_rope id ropes) ≤ length ropes
length_without id [] = omega arith
length_without id (r ∷ ropes) = let rest = length_without id ropes in cond_both (not (r.id == id)) (r ∷ without_rope id ropes) (without_rope id ropes) (λ l. length l ≤ length (r ∷ ropes)) (λ e. omega (arith, rest)) (λ e. omega (arith, rest))

length_changed : (id : ℕ) (g : Rope → Rope) (ropes : List Rope) → length (map (changed id g) ropes) ≡ length ropes
length_changed id g [] = refl
length_changed id g (r ∷ ropes) = ap suc (length_changed id g ropes)

pub live_added : (rope : Rope) (ropes new : List Rope) (pieces more : ℕ) → AreLive ropes pieces → rope_of ropes rope.id ≡ None → length ropes < 2 ^ 31 → length rope.pieces < 2 ^ 32 → new ≡ with_rope rope ropes → more ≡ pieces + length rope.pieces → AreLive new more
live_added rope ropes new pieces more h none few short is total =
    let longer = length-with rope ropes in
    let count = count_with rope ropes in
    let was = h.total in
    let all : AreLive (with_rope rope ropes) more = record {
      order = in_order-put is_lower lower_through rope ropes (apart_from rope ropes none) h.order;
      few = omega (arith, longer, few);
      short = every_put (λ rope. length rope.pieces < 2 ^ 32) is_lower rope ropes short h.short;
      total = omega (arith, total, count, was);
    } in
    subst (λ (l : List Rope). AreLive l more) (sym is) all

pub live_without : (id : ℕ) (rope : Rope) (ropes new : List Rope) (pieces less : ℕ) → AreLive ropes pieces → rope_of ropes id ≡ Some rope → new ≡ without_rope id ropes → less + length rope.pieces ≡ pieces → AreLive new less
live_without id rope ropes new pieces less h found is total =
    let fewer = length_without id ropes in
    let split = ap piece_count (as_put id ropes rope h.order found) ∙ count_with rope (without_rope id ropes) in
    let was = h.total in
    let few = h.few in
    let all : AreLive (without_rope id ropes) less = record {
      order = in_order-without id ropes h.order;
      few = omega (arith, fewer, few);
      short = every_without (λ rope. length rope.pieces < 2 ^ 32) id ropes h.short;
      total = omega (arith, total, split, was);
    } in
    subst (λ (l : List Rope). AreLive l less) (sym is) all

-- the pieces of a live rope are among them
pub pieces_within : (id : ℕ) (rope : Rope) (ropes : List Rope) (pieces : ℕ) → AreLive ropes pieces → rope_of ropes id ≡ Some rope → length rope.pieces ≤ pieces
pieces_within id rope ropes pieces h found =
    let split = ap piece_count (as_put id ropes rope h.order found) ∙ count_with rope (without_rope id ropes) in
    let was = h.total in
    omega (arith, split, was)

pub live_changed : (id : ℕ) (g : Rope → Rope) → ((r : Rope) → (g r).id ≡ r.id) → ((r : Rope) → (g r).pieces ≡ r.pieces) → (ropes new : List Rope) (pieces : ℕ) → AreLive ropes pieces → new ≡ map (changed id g) ropes → AreLive new pieces
live_changed id g named same ropes new pieces h is =
    let all : AreLive (map (changed id g) ropes) pieces = record {
      order = in_order-map (changed id g) (λ r. cond_both (r.id == id) (g r) r (λ q. q.id ≡ r.id) (λ e. named r) (λ e. refl)) ropes h.order;
      few = subst (λ n. n ≤ 2 ^ 31) (sym (length_changed id g ropes)) h.few;
      short = every_changed (λ rope. length rope.pieces < 2 ^ 32) id g (λ r s. subst (λ (l : List Piece). length l < 2 ^ 32) (sym (same r)) s) ropes h.short;
      total = h.total ∙ sym (count_changed id g same ropes);
    } in
    subst (λ (l : List Rope). AreLive l pieces) (sym is) all
