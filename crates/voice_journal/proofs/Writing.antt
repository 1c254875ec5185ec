-- Records written one behind the other.
use Rattle.std.proofs.Common.{◌≡◌, ℕ, zero, suc, ◌+◌, ◌<◌, ◌≤◌, List, [], ◌∷◌, ◌++◌, length, take, get_or, refl, ap, sym, ◌∙◌, arith, append_assoc, Vec}
use Rattle.std.specs.declared.alloc.Global.{Global}
use Rattle.disk_areas.specs.Numbers.{number_bytes}
use Rattle.voice_journal.specs.Readings.{frames, framed_size, views}

nothing : (xs : List ℕ) → xs ++ [] ≡ xs
nothing [] = refl
nothing (x ∷ xs) = ap (λ (l : List ℕ). x ∷ l) (nothing xs)

-- so many payloads are written
pub record IsPut (room0 room : List ℕ) (from at k : ℕ) (vs : List (Vec ℕ Global)) : Type 0 where
  pub at_is : at ≡ from + framed_size (views (take k vs))
  pub bytes : take at room ≡ take from room0 ++ frames (views (take k vs))

pub views_more : (vs : List (Vec ℕ Global)) (k : ℕ) (v : Vec ℕ Global) → k < length vs → v ≡ get_or vs k v → views (take (k + 1) vs) ≡ views (take k vs) ++ v.items ∷ []
views_more [] k v lt is = absurd (omega arith)
views_more (x ∷ vs) zero v lt is = ap (λ (y : Vec ℕ Global). y.items ∷ []) (sym is)
views_more (x ∷ vs) (suc k) v lt is =
    let n : suc k + 1 ≡ suc (k + 1) = omega arith in
    ap (λ (m : ℕ). views (take m (x ∷ vs))) n ∙ ap (λ (l : List (List ℕ)). x.items ∷ l) (views_more vs k v (omega arith) is)

frames_more : (ps : List (List ℕ)) (p : List ℕ) → frames (ps ++ p ∷ []) ≡ frames ps ++ frames (p ∷ [])
frames_more [] p = refl
frames_more (q ∷ ps) p =
    ap (λ (l : List ℕ). 1 ∷ (number_bytes 4 (length q) ++ q) ++ l) (frames_more ps p) ∙ sym (append_assoc (1 ∷ number_bytes 4 (length q) ++ q) (frames ps) (frames (p ∷ [])))

pub size_more : (ps : List (List ℕ)) (p : List ℕ) → framed_size (ps ++ p ∷ []) ≡ framed_size ps + (5 + length p)
size_more [] p = omega arith
size_more (q ∷ ps) p = let later = size_more ps p in omega (arith, later)

size_front : (vs : List (Vec ℕ Global)) (k : ℕ) → framed_size (views (take k vs)) ≤ framed_size (views vs)
size_front [] zero = omega arith
size_front [] (suc k) = omega arith
size_front (v ∷ vs) zero = omega arith
size_front (v ∷ vs) (suc k) = let later = size_front vs k in omega (arith, later)

-- the next one has room
pub size_next : (vs : List (Vec ℕ Global)) (k : ℕ) (v : Vec ℕ Global) → k < length vs → v ≡ get_or vs k v → framed_size (views (take k vs)) + (5 + length v.items) ≤ framed_size (views vs)
size_next vs k v lt is =
    let more = ap framed_size (views_more vs k v lt is) ∙ size_more (views (take k vs)) v.items in
    let front = size_front vs (k + 1) in
    omega (arith, more, front)

pub put_start : (room : List ℕ) (from : ℕ) (vs : List (Vec ℕ Global)) → IsPut room room from from 0 vs
put_start room from [] = record { at_is = omega arith; bytes = sym (nothing (take from room)) }
put_start room from (v ∷ vs) = record { at_is = omega arith; bytes = sym (nothing (take from room)) }

pub put_more : (room0 room room' : List ℕ) (from at k : ℕ) (vs : List (Vec ℕ Global)) (v : Vec ℕ Global) (p : List ℕ) → IsPut room0 room from at k vs → k < length vs → v ≡ get_or vs k v → p ≡ v.items
    → take (at + 5 + length p) room' ≡ take at room ++ frames (p ∷ []) → IsPut room0 room' from (at + (5 + length p)) (k + 1) vs
put_more room0 room room' from at k vs v p is lt item same put =
    let seen : views (take (k + 1) vs) ≡ views (take k vs) ++ p ∷ [] = views_more vs k v lt item ∙ ap (λ (l : List ℕ). views (take k vs) ++ l ∷ []) (sym same) in
    let n : at + (5 + length p) ≡ at + 5 + length p = omega arith in
    let sizes = ap framed_size seen ∙ size_more (views (take k vs)) p in
    record {
      at_is = let a = is.at_is in omega (arith, a, sizes);
      bytes = ap (λ (m : ℕ). take m room') n ∙ put ∙ ap (λ (l : List ℕ). l ++ frames (p ∷ [])) is.bytes ∙ append_assoc (take from room0) (frames (views (take k vs))) (frames (p ∷ []))
          ∙ ap (λ (l : List ℕ). take from room0 ++ l) (sym (frames_more (views (take k vs)) p)) ∙ ap (λ (l : List (List ℕ)). take from room0 ++ frames l) (sym seen);
    }

take_all : (vs : List (Vec ℕ Global)) (k : ℕ) → length vs ≤ k → take k vs ≡ vs
take_all [] zero h = refl
take_all [] (suc k) h = refl
take_all (v ∷ vs) zero h = absurd (omega arith)
take_all (v ∷ vs) (suc k) h = ap (λ (l : List (Vec ℕ Global)). v ∷ l) (take_all vs k (omega arith))

pub put_end : (room0 room : List ℕ) (from at k : ℕ) (vs : List (Vec ℕ Global)) → IsPut room0 room from at k vs → length vs ≤ k → (at ≡ from + framed_size (views vs)) × (take (from + framed_size (views vs)) room ≡ take from room0 ++ frames (views vs))
put_end room0 room from at k vs is h =
    let all = take_all vs k h in
    let at_is : at ≡ from + framed_size (views vs) = is.at_is ∙ ap (λ (l : List (Vec ℕ Global)). from + framed_size (views l)) all in
    (at_is, ap (λ (m : ℕ). take m room) (sym at_is) ∙ is.bytes ∙ ap (λ (l : List (Vec ℕ Global)). take from room0 ++ frames (views l)) all)

pub views_push : (vs : List (Vec ℕ Global)) (v : Vec ℕ Global) → views (vs ++ v ∷ []) ≡ views vs ++ v.items ∷ []
views_push [] v = refl
views_push (x ∷ vs) v = ap (λ (l : List (List ℕ)). x.items ∷ l) (views_push vs v)
