-- A window behind whole windows.
use Rattle.std.proofs.Common.{◌≡◌, ℕ, zero, suc, ◌+◌, ◌*◌, ◌<◌, ◌≤◌, List, [], ◌∷◌, ◌++◌, length, map, sym, ◌∙◌, ap, arith, refl, take, drop, length-append, length-drop}
use Rattle.std.proofs.lemmas.List.{take_all, drop_all, take-append-le, drop-append-le}
use Rattle.voice_model.specs.Talk.{parts, windows, peak, peaks}

none : (width m : ℕ) → parts {A = ℕ} width m [] ≡ []
none width zero = refl
none width (suc m) = refl

one : (width m : ℕ) (w : List ℕ) → 0 < m → 0 < length w → length w ≤ width → parts width m w ≡ w ∷ []
one width zero w p q le = absurd (omega arith)
one width (suc m) [] p q le = absurd (omega arith)
one width (suc m) (x ∷ xs) p q le =
    ap (λ k. k ∷ parts width m (drop width (x ∷ xs))) (take_all width (x ∷ xs) le)
    ∙ ap (λ k. (x ∷ xs) ∷ k) (ap (parts width m) (drop_all width (x ∷ xs) le) ∙ none width m)

pub parts-push : (k width m j : ℕ) (whole w : List ℕ) → 0 < width → length whole ≡ width * k → 0 < length w → length w ≤ width → k < m → k ≤ j → parts width m (whole ++ w) ≡ parts width j whole ++ w ∷ []
parts-push zero width m j [] w pos e q le lt ge = one width m w lt q le ∙ sym (ap (λ k. k ++ w ∷ []) (none width j))
parts-push zero width m j (x ∷ xs) w pos e q le lt ge = absurd (omega arith)
parts-push (suc k) width zero j whole w pos e q le lt ge = absurd (omega arith)
parts-push (suc k) width (suc m) zero whole w pos e q le lt ge = absurd (omega arith)
parts-push (suc k) width (suc m) (suc j) [] w pos e q le lt ge = absurd (grind arith)
parts-push (suc k) width (suc m) (suc j) (x ∷ xs) w pos e q le lt ge =
    let long : width ≤ length (x ∷ xs) = grind arith in
    let left : length (drop width (x ∷ xs)) ≡ width * k = length-drop width (x ∷ xs) ∙ grind arith in
    let rest : parts width m (drop width (x ∷ xs) ++ w) ≡ parts width j (drop width (x ∷ xs)) ++ w ∷ [] = parts-push k width m j (drop width (x ∷ xs)) w pos left q le (omega arith) (omega arith) in
    ap (λ a. a ∷ parts width m (drop width ((x ∷ xs) ++ w))) (take-append-le width (x ∷ xs) w long)
    ∙ ap (λ a. take width (x ∷ xs) ∷ a) (ap (parts width m) (drop-append-le width (x ∷ xs) w long) ∙ rest)

pub windows_push : (k : ℕ) (whole w : List ℕ) → length whole ≡ 160 * k → 0 < length w → length w ≤ 160 → windows (whole ++ w) ≡ windows whole ++ w ∷ []
windows_push k whole w e q le =
    let n : length (whole ++ w) ≡ length whole + length w = length-append whole w in
    parts-push k 160 (length (whole ++ w)) (length whole) whole w (omega arith) e q le (omega arith) (omega arith)

map_push : (xs : List (List ℕ)) (w : List ℕ) → map peak (xs ++ w ∷ []) ≡ map peak xs ++ peak w ∷ []
map_push [] w = refl
map_push (x ∷ xs) w = ap (λ k. peak x ∷ k) (map_push xs w)

pub peaks_push : (k : ℕ) (whole w : List ℕ) → length whole ≡ 160 * k → 0 < length w → length w ≤ 160 → peaks (whole ++ w) ≡ peaks whole ++ peak w ∷ []
peaks_push k whole w e q le = ap (map peak) (windows_push k whole w e q le) ∙ map_push (windows whole) w
