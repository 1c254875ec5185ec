-- Tables of a manager that runs.
use Rattle.std.proofs.Common.{◌≡◌, ℕ, ◌+◌, ◌==◌, Bool, true, false, cond, List, [], ◌∷◌, length, Some, None, refl, sym, ◌∙◌, ap, subst, arith}
use Rattle.std.proofs.lemmas.Bool.{eqb-true}
use Rattle.voice_units.specs.Blocks.{BlockPair, has_pair}
use Rattle.voice_model.specs.Replay.{Placed, Rebuilt, used_pairs}
use Rattle.voice_model.specs.Valid.{Every}
use Rattle.voice_model.specs.Places.{Pairwise, OfOtherBlock}
use Rattle.voice_blocks.specs.Holders.{Holders, open_in, block_of}
use Rattle.voice_blocks.specs.declared.owner.Owner.{Owner}
use Rattle.voice_blocks.specs.declared.owner.Owner.TheVariants.{File, Taking}
use Rattle.voice_blocks.specs.declared.owner.Holder.{Holder}
use Rattle.recovery.specs.declared.parts.Parts.{Parts}
use Rattle.recovery.specs.Shown.{Rebuilds, placed_at}
use Rattle.running_tables.specs.Running.{Runs, is_wanted, given}
use Rattle.voice_blocks.proofs.Apart.{or_left}
use Rattle.checkpoint.proofs.Held.{all_held}

pub some_is : {A : Type 0} {x y : A} → Some x ≡ Some y → x ≡ y
some_is e = cc

abbrev holder_of : Placed → Holder
holder_of p = block_of (File p.pair.file) p.pair.index

-- an address that places give out is that of one of them, which has what all have
pub one_of : (P : Placed → Type 0) (ps : List Placed) (a : ℕ) (h : Holder) → Every P ps → placed_at ps a ≡ Some h → (p : Placed) × P p × (holder_of p ≡ h) × (p.address ≡ a)
one_of P [] a h all e = cc
one_of P (p ∷ ps) a h all e = by (p.address == a) refl (λ k. one_of P ps a h all.1 k)
  where
    by : (b : Bool) → (p.address == a) ≡ b → (placed_at ps a ≡ Some h → (q : Placed) × P q × (holder_of q ≡ h) × (q.address ≡ a)) → (q : Placed) × P q × (holder_of q ≡ h) × (q.address ≡ a)
    by true k later = (p, all.0, some_is (ap (λ b. cond b (Some (holder_of p)) (placed_at ps a)) (sym k) ∙ e), eqb-true p.address a k)
    by false k later = later (ap (λ b. cond b (Some (holder_of p)) (placed_at ps a)) (sym k) ∙ e)

abbrev pair_in : Owner → ℕ → BlockPair
pair_in (File file) index = record { file = file; index = index }
pair_in (Taking lane) index = record { file = 0; index = index }

same_holder_pair : (p q : Placed) → holder_of p ≡ holder_of q → p.pair ≡ q.pair
same_holder_pair p q e = ap (λ (h : Holder). pair_in h.owner h.index) e

-- places of different blocks give a block one address
pub one_address : (ps : List Placed) (a c : ℕ) (h : Holder) → Pairwise OfOtherBlock ps → placed_at ps a ≡ Some h → placed_at ps c ≡ Some h → a ≡ c
one_address [] a c h differ e k = cc
one_address (p ∷ ps) a c h differ e k = by (p.address == a) (p.address == c) refl refl (λ i j. one_address ps a c h differ.1 i j)
  where
    front : (x : ℕ) → (p.address == x) ≡ true → placed_at (p ∷ ps) x ≡ Some h → holder_of p ≡ h
    front x m i = some_is (ap (λ b. cond b (Some (holder_of p)) (placed_at ps x)) (sym m) ∙ i)

    behind : (x : ℕ) → (p.address == x) ≡ false → placed_at (p ∷ ps) x ≡ Some h → placed_at ps x ≡ Some h
    behind x m i = ap (λ b. cond b (Some (holder_of p)) (placed_at ps x)) (sym m) ∙ i

    never : (x : ℕ) → holder_of p ≡ h → placed_at ps x ≡ Some h → ⊥
    never x f i = let q = one_of (OfOtherBlock p) ps x h differ.0 i in q.1 (same_holder_pair p q.0 (f ∙ sym q.2))

    by : (u v : Bool) → (p.address == a) ≡ u → (p.address == c) ≡ v → (placed_at ps a ≡ Some h → placed_at ps c ≡ Some h → a ≡ c) → a ≡ c
    by true true m n later = sym (eqb-true p.address a m) ∙ eqb-true p.address c n
    by true false m n later = absurd (never c (front a m e) (behind c n k))
    by false true m n later = absurd (never a (front c n k) (behind a m e))
    by false false m n later = later (behind a m e) (behind c n k)

wanted : (b : Rebuilt) (p : Placed) (h : Holder) → has_pair (used_pairs b.kept) p.pair ≡ true → holder_of p ≡ h → is_wanted (used_pairs b.kept) [] [] h.owner h.index ≡ true
wanted b p h used same = subst (λ (x : Holder). is_wanted (used_pairs b.kept) [] [] x.owner x.index ≡ true) same (or_left (has_pair (used_pairs b.kept) p.pair) false used)

pub begins : (parts : Parts) (b : Rebuilt) → Rebuilds parts b → Runs [] [] [] parts b
begins parts b shows = record {
  kept = shows.kept;
  size = shows.places.size;
  addresses = all_held parts.blocks.holders b.shape.blocks b.places shows.places shows.placed.differ;
  given = record {
    only = λ a h e. let one = one_of (λ p. has_pair (used_pairs b.kept) p.pair ≡ true) b.places a h shows.used (sym (shows.places.each a) ∙ e) in wanted b one.0 h one.1 one.2;
    single = λ a c h e k. one_address b.places a c h shows.placed.once (sym (shows.places.each a) ∙ e) (sym (shows.places.each c) ∙ k);
    passages = λ pair e. cc;
    recordings = λ lane index e. absurd (omega (arith, e));
  };
  below = tt;
  in_form = shows.in_form;
  valid = shows.valid;
  placed = shows.placed;
  used = shows.used;
}

pub divided : (holders : Holders) → open_in holders + length (given holders) ≡ length holders
divided [] = refl
divided (None ∷ hs) = let rest = divided hs in omega (arith, rest)
divided (Some h ∷ hs) = let rest = divided hs in omega (arith, rest)
