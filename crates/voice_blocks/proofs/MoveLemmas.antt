-- A recording's blocks become a file's one by one.
use Rattle.std.proofs.Common.{◌≡◌, ◌≢◌, ⊎_elim, ℕ, zero, suc, ◌+◌, ◌*◌, ◌/◌, ◌%◌, ◌^◌, ◌<◌, ◌≤◌, List, [], ◌∷◌, length, get_or, Bool, true, false, cond, ◌&&◌, ◌||◌, ◌==◌, nat_lt, Option, Some, None, refl, ap, sym, ◌∙◌, subst, arith}
use Rattle.std.proofs.Math.ListN.{set}
use Rattle.std.proofs.lemmas.List.{get_or-set_same, get_or-set_other, length-set, get_or_default}
use Rattle.std.proofs.lemmas.Bool.{cases_eq, eqb-true, le-ltb, lt-ltb, ltb-true}
use Rattle.std.proofs.lemmas.Bool.Decides.{nat_tests}
use Rattle.std.specs.Int.{bit_not, w64}
use Rattle.std.specs.Prelude.{bit_and}
use Rattle.voice_blocks.specs.declared.owner.Owner.{Owner}
use Rattle.voice_blocks.specs.declared.owner.Owner.TheVariants.{File, Taking}
use Rattle.voice_blocks.specs.declared.owner.Holder.{Holder}
use Rattle.voice_blocks.specs.Holders.{Holders, EachBecomes, holder_at, block_of, same_owner, same_holder, renamed, renamed_block}
use Rattle.voice_blocks.specs.Sound.{IsSound, holder_eq, of_taking, bit_for}
use Rattle.voice_blocks.proofs.BitLemmas.{bit_of-remove_same, bit_of-remove_other}
use Rattle.voice_blocks.proofs.SoundLemmas.{entered, left, by_eq}
use Rattle.voice_blocks.proofs.TakeLemmas.{owner_is, owner_refl}

set_twice : (hs : Holders) (a : ℕ) (u v : Option Holder) → set (set hs a u) a v ≡ set hs a v
set_twice [] a u v = refl
set_twice (h ∷ hs) zero u v = refl
set_twice (h ∷ hs) (suc a) u v = ap (λ (l : Holders). h ∷ l) (set_twice hs a u v)

still_held : (hs : Holders) (a b : ℕ) (q : Holder) → a < length hs → holder_at (set hs a None) b ≡ Some q → holder_at hs b ≡ Some q
still_held hs a b q within held = ⊎_elim
    (λ e. let clash : None ≡ Some q = sym (get_or-set_same hs a None None within) ∙ ap (λ x. holder_at (set hs a None) x) (sym e) ∙ held in cc)
    (λ apart. sym (get_or-set_other hs a b None None apart) ∙ held)
    (cases_eq b a)

-- a held address goes to another block: its bit stays, and all parts tell of the new holders
pub moved : (hs : Holders) (words : List ℕ) (free takings room : ℕ) (place : Holder → Option ℕ) (end : Owner → ℕ) (sp se : ℕ) → IsSound hs words free takings room place end sp se
    → (a : ℕ) (h k : Holder) → a < length hs → holder_at hs a ≡ Some h → ((b : ℕ) → holder_at hs b ≢ Some k)
    → (place' : Holder → Option ℕ) → ((q : Holder) → place' q ≡ cond (holder_eq k q) (Some a) (cond (holder_eq h q) None (place q)))
    → (end' : Owner → ℕ) → ((b : ℕ) (q : Holder) → holder_at hs b ≡ Some q → q.index < end' q.owner) → ((o : Owner) → end' o ≤ 2 ^ 32) → k.index < end' k.owner
    → (rest takings' room' sp' se' : ℕ) → rest + of_taking (Some h) ≡ takings → takings' ≡ rest + of_taking (Some k) → 2 * room' + takings' ≤ sp' → 2 * room' + takings' ≤ se'
    → IsSound (set hs a (Some k)) words free takings' room' place' end' sp' se'
moved hs words free takings room place end sp se s a h k within held new place' put end' ended' fit' own rest takings' room' sp' se' t t' rp re =
    let word : ℕ = get_or words (a / 64) 0 in
    let inside : a / 64 < length words = omega (arith, within, s.words_reach) in
    let read : word ≡ get_or words (a / 64) word = sym (get_or_default words (a / 64) word 0 inside) in
    let cleared : List ℕ = set words (a / 64) (bit_and word (bit_not w64 (1 * 2 ^ (a % 64) % 2 ^ 64))) in
    let len : length cleared ≡ length words = length-set words (a / 64) (bit_and word (bit_not w64 (1 * 2 ^ (a % 64) % 2 ^ 64))) in
    let count : length (set hs a None) ≡ length hs = length-set hs a None in
    let gone : IsSound (set hs a None) cleared (suc free) rest 0 (λ q. cond (holder_eq h q) None (place q)) end rest rest =
    left hs words free takings room place end sp se s a h within cleared len (bit_of-remove_other words a word inside read) (λ q. cond (holder_eq h q) None (place q)) end s.ended s.ends_fit
    (suc free) rest 0 rest rest (omega arith) (omega arith) held (bit_of-remove_same words a word inside read) (λ q. refl) refl t in
    let out = entered (set hs a None) cleared (suc free) rest 0 (λ q. cond (holder_eq h q) None (place q)) end rest rest gone
    a k (omega (arith, within, count)) words (sym len) (λ j apart. sym (bit_of-remove_other words a word inside read j apart)) place' end' (λ b q is. ended' b q (still_held hs a b q within is)) fit'
    free takings' room' sp' se' rp re
    (get_or-set_same hs a None None within) (λ b is. new b (still_held hs a b k within is)) (s.bits a within ∙ ap bit_for held) put own refl t' in
    subst (λ (l : Holders). IsSound l words free takings' room' place' end' sp' se') (set_twice hs a None (Some k)) out

-- what becomes of an address as a recording's blocks below an index become a file's
abbrev pub renamed_below : ℕ → ℕ → ℕ → Option Holder → Option Holder
renamed_below lane file i None = None
renamed_below lane file i (Some h) = cond (same_owner (Taking lane) h.owner && nat_lt h.index i) (Some (block_of (File file) h.index)) (Some h)

one_more : (a i : ℕ) → nat_lt a (i + 1) ≡ (nat_lt a i || (i == a))
one_more a i = grind (arith, nat_tests)

neither : (b : Bool) (a : ℕ) → (b && nat_lt a 0) ≡ false
neither true a = le-ltb a 0 (omega arith)
neither false a = refl

pub renamed-none : (lane file : ℕ) (v : Option Holder) → v ≡ renamed_below lane file 0 v
renamed-none lane file None = refl
renamed-none lane file (Some h) = ap (λ t. cond t (Some (block_of (File file) h.index)) (Some h)) (sym (neither (same_owner (Taking lane) h.owner) h.index))

pub renamed-all : (lane file end : ℕ) (v : Option Holder) → ((index : ℕ) → v ≡ Some (block_of (Taking lane) index) → index < end) → renamed_below lane file end v ≡ renamed lane file v
renamed-all lane file end None bound = refl
renamed-all lane file end (Some h) bound = all_below (same_owner (Taking lane) h.owner) refl
  where
    all_below : (s : Bool) → same_owner (Taking lane) h.owner ≡ s → cond (s && nat_lt h.index end) (Some (block_of (File file) h.index)) (Some h) ≡ cond s (Some (block_of (File file) h.index)) (Some h)
    all_below true hit = ap (λ t. cond t (Some (block_of (File file) h.index)) (Some h)) (lt-ltb h.index end (bound h.index (ap (λ o. Some (block_of o h.index)) (sym (owner_is (Taking lane) h.owner hit)))))
    all_below false miss = refl

same_index : (i a : ℕ) → (i == a) ≡ true → a ≡ i
same_index i a e = omega (arith, eqb-true i a e)

pub renamed-step : (lane file i : ℕ) (v : Option Holder) → renamed_block (block_of (Taking lane) i) (block_of (File file) i) (renamed_below lane file i v) ≡ renamed_below lane file (i + 1) v
renamed-step lane file i None = refl
renamed-step lane file i (Some h) = step (same_owner (Taking lane) h.owner) (nat_lt h.index i) (nat_lt h.index (i + 1)) (i == h.index) refl (one_more h.index i) (same_index i h.index)
  where
    step : (s l m e : Bool) → same_holder (block_of (Taking lane) i) h ≡ (s && e) → m ≡ (l || e) → (e ≡ true → h.index ≡ i)
        → renamed_block (block_of (Taking lane) i) (block_of (File file) i) (cond (s && l) (Some (block_of (File file) h.index)) (Some h)) ≡ cond (s && m) (Some (block_of (File file) h.index)) (Some h)
    step false l m e same more at = ap (λ t. cond t (Some (block_of (File file) i)) (Some h)) same
    step true true m e same more at = ap (λ t. cond t (Some (block_of (File file) h.index)) (Some h)) (sym more)
    step true false m true same more at = ap (λ t. cond t (Some (block_of (File file) i)) (Some h)) same ∙ ap (λ n. Some (block_of (File file) n)) (sym (at refl)) ∙ ap (λ t. cond t (Some (block_of (File file) h.index)) (Some h)) (sym more)
    step true false m false same more at = ap (λ t. cond t (Some (block_of (File file) i)) (Some h)) same ∙ ap (λ t. cond t (Some (block_of (File file) h.index)) (Some h)) (sym more)

abbrev index_in : Option Holder → ℕ
index_in None = 0
index_in (Some h) = h.index

-- no block of the file has the next index yet
pub renamed-new : (lane file i : ℕ) (v : Option Holder) → ((index : ℕ) → v ≢ Some (block_of (File file) index)) → renamed_below lane file i v ≢ Some (block_of (File file) i)
renamed-new lane file i None new is = cc
renamed-new lane file i (Some h) new is = by_eq (same_owner (Taking lane) h.owner && nat_lt h.index i)
    (λ hit. let e : Some (block_of (File file) h.index) ≡ Some (block_of (File file) i) = sym (ap (λ t. cond t (Some (block_of (File file) h.index)) (Some h)) hit) ∙ is in
    let same : h.index ≡ i = ap index_in e in
    let under : nat_lt h.index i ≡ true = last (same_owner (Taking lane) h.owner) (nat_lt h.index i) hit in
    let below : h.index < i = ltb-true h.index i under in
    absurd (omega (arith, same, below)))
    (λ miss. new i (sym (ap (λ t. cond t (Some (block_of (File file) h.index)) (Some h)) miss) ∙ is))
  where
    last : (a b : Bool) → (a && b) ≡ true → b ≡ true
    last true b h = h
    last false b h = cc

-- no block of a recording is left
renamed-none_left : (lane file index : ℕ) (v : Option Holder) → renamed lane file v ≢ Some (block_of (Taking lane) index)
renamed-none_left lane file index None is = cc
renamed-none_left lane file index (Some h) is = by_eq (same_owner (Taking lane) h.owner)
    (λ hit. let moved_on : Some (block_of (File file) h.index) ≡ Some (block_of (Taking lane) index) = ap (λ t. cond t (Some (block_of (File file) h.index)) (Some h)) (sym hit) ∙ is in
    let clash : File file ≡ Taking lane = ap owner_in moved_on in cc)
    (λ miss. let stays : Some h ≡ Some (block_of (Taking lane) index) = ap (λ t. cond t (Some (block_of (File file) h.index)) (Some h)) (sym miss) ∙ is in
    let one : h ≡ block_of (Taking lane) index = cc in
    let clash : true ≡ false = sym (owner_refl (Taking lane)) ∙ ap (λ x. same_owner (Taking lane) x.owner) (sym one) ∙ miss in cc)
  where
    owner_in : Option Holder → Owner
    owner_in None = File 0
    owner_in (Some h) = h.owner

pub none_renamed : (lane file end : ℕ) (old new : Holders) → EachBecomes (renamed_below lane file end) old new → ((a index : ℕ) → holder_at old a ≡ Some (block_of (Taking lane) index) → index < end)
    → (a index : ℕ) → holder_at new a ≢ Some (block_of (Taking lane) index)
none_renamed lane file end old new each bound a index held = renamed-none_left lane file index (holder_at old a) (sym (renamed-all lane file end (holder_at old a) (λ i is. bound a i is)) ∙ sym (each.each a) ∙ held)
