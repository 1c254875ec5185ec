-- Held passages in another order.
use Rattle.std.proofs.Common.{◌≡◌, ℕ, ◌+◌, ◌<◌, ◌≤◌, Bool, true, false, ◌||◌, cond, List, [], ◌∷◌, ◌++◌, refl, sym, ◌∙◌, ap, subst, arith}
use Rattle.voice_units.specs.Spots.{spots_of}
use Rattle.voice_units.specs.Blocks.{BlockPair, same_pair, pairs_at, has_pair}
use Rattle.voice_units.specs.declared.pieces.Piece.{Piece}
use Rattle.voice_model.specs.Replay.{used_pairs}
use Rattle.voice_model.specs.Valid.{Every}
use Rattle.voice_model.proofs.KeptByChanges.{same_bool}
use Rattle.voice_model.proofs.PlacesKept.{same_itself}
use Rattle.voice_units.proofs.Distinct.{same_pair-true}
use Rattle.rope_table.specs.Table.{uses_by, uses_in, pairs_in, pieces_in}
use Rattle.voice_blocks.specs.declared.owner.Owner.{Owner}
use Rattle.voice_blocks.specs.declared.owner.Owner.TheVariants.{File, Taking}
use Rattle.running_tables.specs.Running.{is_wanted}
use Rattle.running_tables.specs.Laws as laws
use Rattle.voice_blocks.proofs.Apart.{either_way, or_left, or_right, has_append}
use Rattle.running_tables.proofs.Passages.{pairs_after}

-- a block that is held has a use
pub used_once : (block : ℕ) (lists : List (List Piece)) (q : BlockPair) → has_pair (pairs_in block lists) q ≡ true → 1 ≤ uses_in block lists q
used_once block [] q e = cc
used_once block (x ∷ lists) q e =
    either_way (has_pair (pairs_at block (spots_of x)) q) (has_pair (pairs_in block lists) q)
    (λ k. let one : uses_by block x q ≡ 1 = ap (λ b. cond b 1 0) k in omega (arith, one))
    (λ k. let more = used_once block lists q k in omega (arith, more))
    (sym (has_append (pairs_at block (spots_of x)) (pairs_in block lists) q) ∙ e)

-- and a block with a use is held
pub once_used : (block : ℕ) (lists : List (List Piece)) (q : BlockPair) → 1 ≤ uses_in block lists q → has_pair (pairs_in block lists) q ≡ true
once_used block [] q e = absurd (omega (arith, e))
once_used block (x ∷ lists) q e =
    has_append (pairs_at block (spots_of x)) (pairs_in block lists) q
    ∙ by (has_pair (pairs_at block (spots_of x)) q) (has_pair (pairs_in block lists) q) (uses_in block lists q) (once_used block lists q) e
  where
    by : (a b : Bool) (n : ℕ) → (1 ≤ n → b ≡ true) → 1 ≤ cond a 1 0 + n → (a || b) ≡ true
    by true b n later k = refl
    by false b n later k = later (omega (arith, k))

same_held : (block : ℕ) (held others : List (List Piece)) → ((pair : BlockPair) → uses_in block others pair ≡ uses_in block held pair) → (q : BlockPair) → has_pair (pairs_in block others) q ≡ has_pair (pairs_in block held) q
same_held block held others same q =
    same_bool (has_pair (pairs_in block others) q) (has_pair (pairs_in block held) q)
    (λ e. once_used block held q (subst (λ n. 1 ≤ n) (same q) (used_once block others q e)))
    (λ e. once_used block others q (subst (λ n. 1 ≤ n) (sym (same q)) (used_once block held q e)))

same_pledged : (block : ℕ) (held others pledged : List (List Piece)) → ((pair : BlockPair) → uses_in block others pair ≡ uses_in block held pair) → (q : BlockPair) → has_pair (pairs_in block (others ++ pledged)) q ≡ has_pair (pairs_in block (held ++ pledged)) q
same_pledged block held others pledged same q =
    each others
    ∙ ap (λ b. b || has_pair (pairs_in block pledged) q) (same_held block held others same q)
    ∙ sym (each held)
  where
    each : (lists : List (List Piece)) → has_pair (pairs_in block (lists ++ pledged)) q ≡ (has_pair (pairs_in block lists) q || has_pair (pairs_in block pledged) q)
    each lists = ap (λ l. has_pair l q) (pairs_after block lists pledged) ∙ has_append (pairs_in block lists) (pairs_in block pledged) q

-- what each element of a list has, and what a block in it has
pub one_has : (P : BlockPair → Type 0) (l : List BlockPair) (q : BlockPair) → Every P l → has_pair l q ≡ true → P q
one_has P [] q h e = cc
one_has P (p ∷ l) q h e = either_way (same_pair q p) (has_pair l q) (λ k. subst P (sym (same_pair-true q p k)) h.0) (λ k. one_has P l q h.1 k) e

pub all_have : (P : BlockPair → Type 0) (l : List BlockPair) → ((q : BlockPair) → has_pair l q ≡ true → P q) → Every P l
all_have P [] h = tt
all_have P (p ∷ l) h = (h p (or_left (same_pair p p) (has_pair l p) (same_itself p)), all_have P l (λ q e. h q (or_right (same_pair q p) (has_pair l q) e)))

wanted_alike : (pairs others more : List BlockPair) (takings : List ℕ) → ((q : BlockPair) → has_pair more q ≡ has_pair others q) → (owner : Owner) (index : ℕ) → is_wanted pairs more takings owner index ≡ is_wanted pairs others takings owner index
wanted_alike pairs others more takings alike (File file) index = ap (λ b. has_pair pairs (record { file = file; index = index }) || b) (alike (record { file = file; index = index }))
wanted_alike pairs others more takings alike (Taking lane) index = refl

pub recounted : laws.Recounted
recounted held others pledged takings parts b same runs = record {
  kept = record {
    block = runs.kept.block;
    ropes = runs.kept.ropes;
    uses = λ pair. runs.kept.uses pair ∙ ap (λ n. uses_in parts.ropes.block (pieces_in parts.ropes.ropes) pair + n) (sym (uses pair));
    rows = runs.kept.rows;
    moment = runs.kept.moment;
    next = runs.kept.next;
  };
  size = runs.size;
  addresses = runs.addresses;
  given = record {
    only = λ a h e. wanted_alike (used_pairs b.kept) (pairs_in b.shape.block (held ++ pledged)) (pairs_in b.shape.block (others ++ pledged)) takings alike h.owner h.index ∙ runs.given.only a h e;
    single = runs.given.single;
    passages = λ pair e. runs.given.passages pair (sym (alike pair) ∙ e);
    recordings = runs.given.recordings;
  };
  below = all_have (λ pair. pair.file < b.next) (pairs_in b.shape.block others) (λ q e. one_has (λ pair. pair.file < b.next) (pairs_in b.shape.block held) q runs.below (sym (same_held b.shape.block held others same q) ∙ e));
  in_form = runs.in_form;
  valid = runs.valid;
  placed = runs.placed;
  used = runs.used;
}
  where
    alike : (q : BlockPair) → has_pair (pairs_in b.shape.block (others ++ pledged)) q ≡ has_pair (pairs_in b.shape.block (held ++ pledged)) q
    alike = same_pledged b.shape.block held others pledged same

    uses : (pair : BlockPair) → uses_in parts.ropes.block others pair ≡ uses_in parts.ropes.block held pair
    uses pair = subst (λ n. uses_in n others pair ≡ uses_in n held pair) (sym runs.kept.block) (same pair)
