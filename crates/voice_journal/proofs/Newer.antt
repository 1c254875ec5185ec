-- Which head is current.
use Rattle.std.proofs.Common.{◌≡◌, ◌⊎◌, inl, inr, ℕ, ◌+◌, ◌<◌, ◌≤◌, List, refl, ap, sym, ◌∙◌, subst, arith, Bool, true, false, Some, None, cond}
use Rattle.std.specs.Prelude.{◌==◌, nat_lt}
use Rattle.std.proofs.lemmas.Bool.Decides.{nat_tests}
use Rattle.voice_units.specs.declared.shapes.Shape.{Shape}
use Rattle.disk_areas.specs.Numbers.{number_at}
use Rattle.disk_areas.specs.Areas.{Head, is_head, head_at, newer, current_head}

-- of two heads the first is current, or the second
abbrev pub Wins : Bool → Bool → Head → Head → Head → Type 0
Wins a b x y h = ((h ≡ x) × (a ≡ true) × (b ≡ true → y.epoch < x.epoch)) ⊎ ((h ≡ y) × (b ≡ true) × (a ≡ true → x.epoch < y.epoch))

less : (m n : ℕ) → nat_lt m n ≡ true → m < n
less m n h = grind (arith, nat_tests)

greater : (m n : ℕ) → nat_lt m n ≡ false → (m == n) ≡ false → n < m
greater m n h e = grind (arith, nat_tests)

less_tested : (m n : ℕ) → m < n → nat_lt m n ≡ true
less_tested m n h = grind (arith, nat_tests)

not_less_tested : (m n : ℕ) → n < m → nat_lt m n ≡ false
not_less_tested m n h = grind (arith, nat_tests)

differ_tested : (m n : ℕ) → m < n → (m == n) ≡ false
differ_tested m n h = grind (arith, nat_tests)

differ_tested' : (m n : ℕ) → n < m → (m == n) ≡ false
differ_tested' m n h = grind (arith, nat_tests)

some_is : {A : Type 0} (x y : A) → Some x ≡ Some y → y ≡ x
some_is x y e = cc

both : (e l : Bool) (x y h : Head) → (x.epoch == y.epoch) ≡ e → nat_lt x.epoch y.epoch ≡ l → cond e None (Some (record { start = cond l y.start x.start; epoch = cond l y.epoch x.epoch })) ≡ Some h → Wins true true x y h
both true l x y h is lt e = cc
both false true x y h is lt e = inr (some_is y h e, refl, λ t. less x.epoch y.epoch lt)
both false false x y h is lt e = inl (some_is x h e, refl, λ t. greater x.epoch y.epoch lt is)

pub newer_wins : (a b : Bool) (x y h : Head) → newer a b x y ≡ Some h → Wins a b x y h
newer_wins false false x y h e = cc
newer_wins true false x y h e = inl (some_is x h e, refl, λ t. cc)
newer_wins false true x y h e = inr (some_is y h e, refl, λ t. cc)
newer_wins true true x y h e = both (x.epoch == y.epoch) (nat_lt x.epoch y.epoch) x y h refl refl e

chosen : (e l : Bool) (x y : Head) → e ≡ false → cond e None (Some (record { start = cond l y.start x.start; epoch = cond l y.epoch x.epoch })) ≡ cond l (Some y) (Some x)
chosen true l x y h = cc
chosen false true x y h = refl
chosen false false x y h = refl

pub newer_first : (a b : Bool) (x y : Head) → a ≡ true → (b ≡ true → y.epoch < x.epoch) → newer a b x y ≡ Some x
newer_first false b x y h wins = cc
newer_first true false x y h wins = refl
newer_first true true x y h wins =
    let lt = wins refl in
    chosen (x.epoch == y.epoch) (nat_lt x.epoch y.epoch) x y (differ_tested' x.epoch y.epoch lt) ∙ ap (λ (l : Bool). cond l (Some y) (Some x)) (not_less_tested x.epoch y.epoch lt)

pub newer_second : (a b : Bool) (x y : Head) → b ≡ true → (a ≡ true → x.epoch < y.epoch) → newer a b x y ≡ Some y
newer_second a false x y h wins = cc
newer_second false true x y h wins = refl
newer_second true true x y h wins =
    let lt = wins refl in
    chosen (x.epoch == y.epoch) (nat_lt x.epoch y.epoch) x y (differ_tested x.epoch y.epoch lt) ∙ ap (λ (l : Bool). cond l (Some y) (Some x)) (less_tested x.epoch y.epoch lt)

-- an area's head that counts, and the other's, which does not win
pub record IsCurrent (image : List ℕ) (start other epoch : ℕ) : Type 0 where
  pub head : is_head image start ≡ true
  pub epoch_is : number_at 8 (start + 8) image ≡ epoch
  pub wins : is_head image other ≡ true → number_at 8 (other + 8) image < epoch

-- a place is that of an area
abbrev pub IsStart : Shape → ℕ → Type 0
IsStart shape start = (start ≡ 64) ⊎ (start ≡ 64 + shape.area)

-- the one that is not current
unfoldable pub other_of : Shape → ℕ → ℕ
other_of shape start = cond (start == 64) (64 + shape.area) 64

later_is : (n : ℕ) → 512 ≤ n → (64 + n == 64) ≡ false
later_is n h = grind (arith, nat_tests)

pub other_first : (shape : Shape) (start : ℕ) → start ≡ 64 → other_of shape start ≡ 64 + shape.area
unfolding other_of
other_first shape start is = ap (λ (s : ℕ). cond (s == 64) (64 + shape.area) 64) is

pub other_second : (shape : Shape) (start : ℕ) → start ≡ 64 + shape.area → other_of shape start ≡ 64
unfolding other_of
other_second shape start is = ap (λ (s : ℕ). cond (s == 64) (64 + shape.area) 64) is ∙ ap (λ (b : Bool). cond b (64 + shape.area) 64) (later_is shape.area shape.conditions.area_least)

pub current_then : (shape : Shape) (image : List ℕ) (h : Head) → current_head shape image ≡ Some h → IsStart shape h.start × IsCurrent image h.start (other_of shape h.start) h.epoch
unfolding current_head
current_then shape image h e =
    elim (newer_wins (is_head image 64) (is_head image (64 + shape.area)) (head_at image 64) (head_at image (64 + shape.area)) h e) [
      | inl first ↦
          let s : h.start ≡ 64 = ap (λ (x : Head). x.start) first.0 in
          let p : h.epoch ≡ number_at 8 (64 + 8) image = ap (λ (x : Head). x.epoch) first.0 in
          let o = other_first shape h.start s in (
            inl s,
            record {
              head = ap (λ (n : ℕ). is_head image n) s ∙ first.1;
              epoch_is = ap (λ (n : ℕ). number_at 8 (n + 8) image) s ∙ sym p;
              wins = λ t.
                  let lt : number_at 8 (64 + shape.area + 8) image < number_at 8 (64 + 8) image = first.2 (sym (ap (λ (n : ℕ). is_head image n) o) ∙ t) in
                  subst (λ (n : ℕ). number_at 8 (other_of shape h.start + 8) image < n) (sym p) (subst (λ (n : ℕ). number_at 8 (n + 8) image < number_at 8 (64 + 8) image) (sym o) lt);
            },
          )
      | inr second ↦
          let s : h.start ≡ 64 + shape.area = ap (λ (x : Head). x.start) second.0 in
          let p : h.epoch ≡ number_at 8 (64 + shape.area + 8) image = ap (λ (x : Head). x.epoch) second.0 in
          let o = other_second shape h.start s in (
            inr s,
            record {
              head = ap (λ (n : ℕ). is_head image n) s ∙ second.1;
              epoch_is = ap (λ (n : ℕ). number_at 8 (n + 8) image) s ∙ sym p;
              wins = λ t.
                  let lt : number_at 8 (64 + 8) image < number_at 8 (64 + shape.area + 8) image = second.2 (sym (ap (λ (n : ℕ). is_head image n) o) ∙ t) in
                  subst (λ (n : ℕ). number_at 8 (other_of shape h.start + 8) image < n) (sym p) (subst (λ (n : ℕ). number_at 8 (n + 8) image < number_at 8 (64 + shape.area + 8) image) (sym o) lt);
            },
          )
    ]

pub current_is : (shape : Shape) (image : List ℕ) (start epoch : ℕ) → IsStart shape start → IsCurrent image start (other_of shape start) epoch → current_head shape image ≡ Some (record { start = start; epoch = epoch })
unfolding current_head
current_is shape image start epoch at is =
    let said : Head = record { start = start; epoch = epoch } in
    elim at [
      | inl s ↦
          let o = other_first shape start s in
          let p : number_at 8 (64 + 8) image ≡ epoch = sym (ap (λ (n : ℕ). number_at 8 (n + 8) image) s) ∙ is.epoch_is in
          newer_first (is_head image 64) (is_head image (64 + shape.area)) (head_at image 64) (head_at image (64 + shape.area)) (sym (ap (λ (n : ℕ). is_head image n) s) ∙ is.head)
          (λ t.
          let lt : number_at 8 (other_of shape start + 8) image < epoch = is.wins (ap (λ (n : ℕ). is_head image n) o ∙ t) in
          subst (λ (n : ℕ). number_at 8 (64 + shape.area + 8) image < n) (sym p) (subst (λ (n : ℕ). number_at 8 (n + 8) image < epoch) o lt))
          ∙ cc
      | inr s ↦
          let o = other_second shape start s in
          let p : number_at 8 (64 + shape.area + 8) image ≡ epoch = sym (ap (λ (n : ℕ). number_at 8 (n + 8) image) s) ∙ is.epoch_is in
          newer_second (is_head image 64) (is_head image (64 + shape.area)) (head_at image 64) (head_at image (64 + shape.area)) (sym (ap (λ (n : ℕ). is_head image n) s) ∙ is.head)
          (λ t.
          let lt : number_at 8 (other_of shape start + 8) image < epoch = is.wins (ap (λ (n : ℕ). is_head image n) o ∙ t) in
          subst (λ (n : ℕ). number_at 8 (64 + 8) image < n) (sym p) (subst (λ (n : ℕ). number_at 8 (n + 8) image < epoch) o lt))
          ∙ cc
    ]
