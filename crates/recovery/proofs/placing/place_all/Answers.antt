use Rattle.std.proofs.Common.{◌≡◌, ℕ, ◌+◌, ◌≤◌, ◌<◌, Bool, true, false, ◌&&◌, List, [], ◌∷◌, length, drop, get_or, refl, sym, ◌∙◌, ap, arith, drop-cons, add-one, Some}
use Rattle.std.specs.Prelude.{slice_set}
use Rattle.std.proofs.Math.ListN.{length-set, drop_of_length-le}
use Rattle.voice_model.specs.Replay.{placed_from}
use Rattle.voice_blocks.specs.Holders.{holder_at, without_owner, block_of}
use Rattle.voice_blocks.specs.declared.owner.Owner.TheVariants.{File}
use Rattle.recovery.specs.Shown.{placed_at}
use Rattle.recovery.specs.Placing.{or_else, is_open, may_place}
use Rattle.recovery.proofs.Addresses.{may_place_is, placed_step, without_step, fresh_step, open_at, is_open_both}
use Rattle.recovery.proofs.placing.place_all.Goals as goal

drop_next : (xs : List ℕ) (k : ℕ) → k < length xs → drop k xs ≡ get_or xs k 0 ∷ drop (k + 1) xs
drop_next xs k h = drop-cons xs k 0 h ∙ ap (λ n. get_or xs k 0 ∷ drop n xs) (sym (add-one k))

not_true : (b : Bool) → ¬ (b ≡ true) → b ≡ false
not_true true h = absurd (h refl)
not_true false h = refl

pub returns-then-not-place-clause-exact : goal.returns-then-not-place-clause-exact
returns-then-not-place-clause-exact c =
    let hs = c.loop-index.blocks.holders in
    let xs = c.args.addresses.now in
    let k = c.loop-index.index in
    let test = c.loop-index-test.true in
    let within : k < length xs = omega arith in
    let closed : is_open hs (get_or xs k 0) ≡ false =
    not_true (is_open hs (get_or xs k 0)) (λ e. let parts = is_open_both hs (get_or xs k 0) e in let done = c.place.ensures.exact.1 (parts.0, parts.1, λ a. c.loop-index.invariant.fresh a k (omega arith)) in let bad : true ≡ false = sym done ∙ c.if-not-place.true in cc) in
    sym (sym (may_place_is c.args.blocks.now.holders c.args.file 0 xs) ∙ c.loop-index.invariant.legal ∙ ap (may_place hs c.args.file k) (drop_next xs k within)
    ∙ ap (λ b. b && may_place (slice_set hs (get_or xs k 0) (Some (block_of (File c.args.file) k))) c.args.file (k + 1) (drop (k + 1) xs)) closed)

pub loop-index-preserved : goal.loop-index-preserved
loop-index-preserved c =
    let hs = c.loop-index.blocks.holders in
    let xs = c.args.addresses.now in
    let k = c.loop-index.index in
    let x = get_or xs k 0 in
    let test = c.loop-index-test.true in
    let within : k < length xs = omega arith in
    let placed = c.place.ensures.exact.0 c.if-not-place.false in
    let next = c.if-not-place.ensures.holders in
    let file = c.args.file in
    let rest = drop (k + 1) xs in
    let step = c.loop-index.invariant in
    let spare = c.if-not-place.ensures.spare in
    record {
      legal =
          step.legal ∙ ap (may_place hs file k) (drop_next xs k within) ∙ ap (λ b. b && may_place (slice_set hs x (Some (block_of (File file) k))) file (k + 1) rest) (open_at hs x placed.0 placed.1)
          ∙ ap (λ l. may_place l file (k + 1) rest) (sym next);
      placed = λ a.
          ap (λ l. or_else (holder_at l a) (placed_at (placed_from file (k + 1) rest) a)) next ∙ placed_step hs file k x placed.0 placed.1 (placed_at (placed_from file (k + 1) rest) a) a
          ∙ ap (λ l. or_else (holder_at hs a) (placed_at (placed_from file k l) a)) (sym (drop_next xs k within)) ∙ step.placed a;
      before = λ a. ap (λ l. without_owner (File file) (holder_at l a)) next ∙ without_step hs file k x placed.0 placed.1 a ∙ step.before a;
      fresh = λ a j later e. fresh_step hs file k x placed.0 placed.1 step.fresh a j later (ap (λ l. holder_at l a) (sym next) ∙ e);
      size = ap length next ∙ length-set hs x (Some (block_of (File file) k)) ∙ step.size;
      room = let room = step.room in omega (arith, room, spare);
    }

pub returns-clause-exact : goal.returns-clause-exact
returns-clause-exact c =
    let xs = c.args.addresses.now in
    let k = c.loop-index.index in
    let test = c.loop-index-test.false in
    let gone : drop k xs ≡ [] = drop_of_length-le xs (let over : length xs ≤ k = omega arith in over) in
    sym (sym (may_place_is c.args.blocks.now.holders c.args.file 0 xs) ∙ c.loop-index.invariant.legal ∙ ap (may_place c.loop-index.blocks.holders c.args.file k) gone)
