use Rattle.std.proofs.Common.{◌≡◌, ℕ, ◌+◌, ◌≤◌, ◌<◌, Bool, true, false, ◌&&◌, List, [], ◌∷◌, map, length, drop, get_or, refl, sym, ◌∙◌, ap, subst, arith, drop-cons, add-one, Some}
use Rattle.std.specs.Prelude.{slice_set}
use Rattle.std.proofs.Math.ListN.{length-set, drop_of_length-le}
use Rattle.voice_model.specs.Spelling.{rise}
use Rattle.voice_model.specs.Replay.{place_of}
use Rattle.voice_model.specs.declared.lists.Pair.{Pair}
use Rattle.voice_blocks.specs.Holders.{Holders, holder_at, block_of}
use Rattle.voice_blocks.specs.declared.owner.Owner.TheVariants.{File}
use Rattle.recovery.specs.Shown.{placed_at}
use Rattle.recovery.specs.Placing.{or_else, is_open, may_enter}
use Rattle.recovery.proofs.Addresses.{placed_step, open_at, is_open_both}
use Rattle.recovery.proofs.Entered.{AreFresh, may_enter_is, rise_rest, fresh_later}
use Rattle.recovery.proofs.bases.place_pairs.Goals as goal

abbrev no_pair : Pair
no_pair = record { index = 0; address = 0 }

drop_next : (xs : List Pair) (k : ℕ) → k < length xs → drop k xs ≡ get_or xs k no_pair ∷ drop (k + 1) xs
drop_next xs k h = drop-cons xs k no_pair h ∙ ap (λ n. get_or xs k no_pair ∷ drop n xs) (sym (add-one k))

not_true : (b : Bool) → ¬ (b ≡ true) → b ≡ false
not_true true h = absurd (h refl)
not_true false h = refl

pub returns-then-not-place-clause-exact : goal.returns-then-not-place-clause-exact
returns-then-not-place-clause-exact c =
    let hs = c.loop-pair.blocks.holders in
    let xs = c.args.pairs.now in
    let k = c.loop-pair.pair-index in
    let pair = get_or xs k no_pair in
    let next = drop_next xs k c.loop-pair-test.true in
    let fresh : AreFresh hs c.args.file (pair ∷ drop (k + 1) xs) = subst (AreFresh hs c.args.file) next c.loop-pair.invariant.fresh in
    let closed : is_open hs pair.address ≡ false =
    not_true (is_open hs pair.address) (λ e. let parts = is_open_both hs pair.address e in let done = c.place.ensures.exact.1 (parts.0, parts.1, fresh.0) in let bad : true ≡ false = sym done ∙ c.if-not-place.true in cc) in
    sym (sym (may_enter_is c.args.blocks.now.holders c.args.file xs) ∙ c.loop-pair.invariant.legal ∙ ap (may_enter hs c.args.file) next
    ∙ ap (λ b. b && may_enter (slice_set hs pair.address (Some (block_of (File c.args.file) pair.index))) c.args.file (drop (k + 1) xs)) closed)

pub loop-pair-preserved : goal.loop-pair-preserved
loop-pair-preserved c =
    let hs = c.loop-pair.blocks.holders in
    let xs = c.args.pairs.now in
    let k = c.loop-pair.pair-index in
    let pair = get_or xs k no_pair in
    let rest = drop (k + 1) xs in
    let file = c.args.file in
    let is = drop_next xs k c.loop-pair-test.true in
    let placed = c.place.ensures.exact.0 c.if-not-place.false in
    let next = c.if-not-place.ensures.holders in
    let step = c.loop-pair.invariant in
    let spare = c.if-not-place.ensures.spare in
    let fresh : AreFresh hs file (pair ∷ rest) = subst (AreFresh hs file) is step.fresh in
    let rising : rise (pair.index ∷ map (λ (pair : Pair). pair.index) rest) ≡ true = ap (λ (l : List Pair). rise (map (λ (pair : Pair). pair.index) l)) (sym is) ∙ step.rising in
    record {
      legal =
          step.legal ∙ ap (may_enter hs file) is ∙ ap (λ b. b && may_enter (slice_set hs pair.address (Some (block_of (File file) pair.index))) file rest) (open_at hs pair.address placed.0 placed.1)
          ∙ ap (λ l. may_enter l file rest) (sym next);
      placed = λ a.
          ap (λ l. or_else (holder_at l a) (placed_at (map (place_of file) rest) a)) next ∙ placed_step hs file pair.index pair.address placed.0 placed.1 (placed_at (map (place_of file) rest) a) a
          ∙ ap (λ (l : List Pair). or_else (holder_at hs a) (placed_at (map (place_of file) l) a)) (sym is) ∙ step.placed a;
      fresh = subst (λ (l : Holders). AreFresh l file rest) (sym next) (fresh_later hs file pair.address pair.index pair.index rest placed.0 (omega arith) rising fresh.1);
      rising = rise_rest pair.index (map (λ (pair : Pair). pair.index) rest) rising;
      size = ap length next ∙ length-set hs pair.address (Some (block_of (File file) pair.index)) ∙ step.size;
      room = let room = step.room in omega (arith, room, spare);
    }

pub returns-clause-exact : goal.returns-clause-exact
returns-clause-exact c =
    let xs = c.args.pairs.now in
    let k = c.loop-pair.pair-index in
    let test = c.loop-pair-test.false in
    let gone : drop k xs ≡ [] = drop_of_length-le xs (let over : length xs ≤ k = omega arith in over) in
    sym (sym (may_enter_is c.args.blocks.now.holders c.args.file xs) ∙ c.loop-pair.invariant.legal ∙ ap (may_enter c.loop-pair.blocks.holders c.args.file) gone)
