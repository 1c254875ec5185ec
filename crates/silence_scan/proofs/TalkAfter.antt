-- Talk found from the front is the talk of the definition.
use Rattle.std.proofs.Common.{◌≡◌, ℕ, zero, suc, ◌+◌, ◌<◌, ◌≤◌, Bool, true, false, cond, not, ◌⊎◌, inl, inr, List, [], ◌∷◌, ◌++◌, length, sym, ◌∙◌, ap, arith, refl, subst, zero-add}
use Rattle.std.specs.Prelude.{◌==◌, nat_le}
use Rattle.std.proofs.lemmas.Bool.{eqb-true, eqb-false, eq-eqb, le-leb, lt-leb}
use Rattle.voice_model.specs.declared.lists.Span.{Span}
use Rattle.voice_model.specs.Talk.{Stretch, is_quiet, window_in_front, kinds, is_silence, span_in_front, outside_silence}
use Rattle.silence_scan.specs.Scan.{span, interval, talk_after}

pub same_yes : (n : ℕ) → (n == n) ≡ true
same_yes n = eq-eqb n n refl

cases : (v : Bool) → (v ≡ true) ⊎ (v ≡ false)
cases true = inl refl
cases false = inr refl

pub ne-eqb : (a b : ℕ) → (a ≡ b → ⊥) → (a == b) ≡ false
ne-eqb a b h = elim (cases (a == b)) [ inl e ↦ absurd (h (eqb-true a b e)) | inr e ↦ e ]

pub taken : {A : Type 0} (v : Bool) (x y : A) → v ≡ true → cond v x y ≡ x
taken v x y e = ap (λ k. cond k x y) e

pub left : {A : Type 0} (v : Bool) (x y : A) → v ≡ false → cond v x y ≡ y
left v x y e = ap (λ k. cond k x y) e

-- an interval in front of two that follow one another
joined_spans : (v : Bool) (a q m n : ℕ) (len : ℕ) (rest : List Span) → span_in_front a q (cond v (span (a + q) (m + len) ∷ rest) (span (a + q) m ∷ span n len ∷ rest)) ≡ cond v (span a (q + m + len) ∷ rest) (span a (q + m) ∷ span n len ∷ rest)
joined_spans true a q m n len rest =
    let sum : q + (m + len) ≡ q + m + len = omega arith in
    taken ((a + q) == (a + q)) (span a (q + (m + len)) ∷ rest) (span a q ∷ span (a + q) (m + len) ∷ rest) (same_yes (a + q)) ∙ ap (λ k. span a k ∷ rest) sum
joined_spans false a q m n len rest =
    taken ((a + q) == (a + q)) (span a (q + m) ∷ span n len ∷ rest) (span a q ∷ span (a + q) m ∷ span n len ∷ rest) (same_yes (a + q))

pub front_twice : (a q m : ℕ) (xs : List Span) → span_in_front a q (span_in_front (a + q) m xs) ≡ span_in_front a (q + m) xs
front_twice a q m [] = taken ((a + q) == (a + q)) (span a (q + m) ∷ []) (span a q ∷ span (a + q) m ∷ []) (same_yes (a + q))
front_twice a q m (x ∷ xs) =
    let sum : a + q + m ≡ a + (q + m) = omega arith in
    joined_spans (a + q + m == x.start) a q m x.start x.len xs ∙ ap (λ k. cond (k == x.start) (span a (q + m + x.len) ∷ xs) (span a (q + m) ∷ x ∷ xs)) sum

-- an interval in front, where it is not empty
abbrev front : ℕ → ℕ → List Span → List Span
front s n rest = cond (n == 0) rest (span_in_front s n rest)

front_some : (s n : ℕ) (xs : List Span) → 0 < n → front s n xs ≡ span_in_front s n xs
front_some s n xs lt = left (n == 0) xs (span_in_front s n xs) (ne-eqb n 0 (λ e. omega arith))

front_joined : (s n m : ℕ) (xs : List Span) → front s n (span_in_front (s + n) m xs) ≡ span_in_front s (n + m) xs
front_joined s zero m xs = let a : s + 0 ≡ s = omega arith in let b : 0 + m ≡ m = omega arith in ap (λ k. span_in_front k m xs) a ∙ ap (λ k. span_in_front s k xs) (sym b)
front_joined s (suc n) m xs = front_some s (suc n) (span_in_front (s + suc n) m xs) (omega arith) ∙ front_twice s (suc n) m xs

abbrev stretch : Bool → ℕ → ℕ → Stretch
stretch quiet n m = record { quiet = quiet; windows = n; samples = m }

-- quiet windows in front of runs
abbrev calm_in_front : ℕ → ℕ → List Stretch → List Stretch
calm_in_front r q [] = stretch true r q ∷ []
calm_in_front r q (k ∷ ks) = cond k.quiet (stretch true (k.windows + r) (k.samples + q) ∷ ks) (stretch true r q ∷ k ∷ ks)

calm_first : (m : ℕ) (ks : List Stretch) → window_in_front true m ks ≡ calm_in_front 1 m ks
calm_first m [] = refl
calm_first m (k ∷ ks) = refl

calm_more_at : (v : Bool) (r q m wins n : ℕ) (ks : List Stretch) → cond v (stretch true (wins + (r + 1)) (n + (q + m)) ∷ ks) (stretch true (r + 1) (q + m) ∷ stretch v wins n ∷ ks) ≡ calm_in_front r q (cond v (stretch true (wins + 1) (n + m) ∷ ks) (stretch true 1 m ∷ stretch v wins n ∷ ks))
calm_more_at true r q m wins n ks =
    let a : wins + (r + 1) ≡ wins + 1 + r = omega arith in
    let b : n + (q + m) ≡ n + m + q = omega arith in
    ap (λ k. stretch true k (n + (q + m)) ∷ ks) a ∙ ap (λ k. stretch true (wins + 1 + r) k ∷ ks) b
calm_more_at false r q m wins n ks =
    let a : r + 1 ≡ 1 + r = omega arith in
    let b : q + m ≡ m + q = omega arith in
    ap (λ k. stretch true k (q + m) ∷ stretch false wins n ∷ ks) a ∙ ap (λ k. stretch true (1 + r) k ∷ stretch false wins n ∷ ks) b

calm_more : (r q m : ℕ) (ks : List Stretch) → calm_in_front (r + 1) (q + m) ks ≡ calm_in_front r q (window_in_front true m ks)
calm_more r q m [] =
    let a : r + 1 ≡ 1 + r = omega arith in
    let b : q + m ≡ m + q = omega arith in
    ap (λ k. stretch true k (q + m) ∷ []) a ∙ ap (λ k. stretch true (1 + r) k ∷ []) b
calm_more r q m (k ∷ ks) = calm_more_at k.quiet r q m k.windows k.samples ks

calm_before_at : (v : Bool) (r q m wins n : ℕ) (ks : List Stretch) → calm_in_front r q (cond (not v) (stretch false (wins + 1) (n + m) ∷ ks) (stretch false 1 m ∷ stretch v wins n ∷ ks)) ≡ stretch true r q ∷ cond (not v) (stretch false (wins + 1) (n + m) ∷ ks) (stretch false 1 m ∷ stretch v wins n ∷ ks)
calm_before_at true r q m wins n ks = refl
calm_before_at false r q m wins n ks = refl

calm_before : (r q m : ℕ) (ks : List Stretch) → calm_in_front r q (window_in_front false m ks) ≡ stretch true r q ∷ window_in_front false m ks
calm_before r q m [] = refl
calm_before r q m (k ∷ ks) = calm_before_at k.quiet r q m k.windows k.samples ks

-- a loud window in front
loud_first_at : (v : Bool) (at m wins n : ℕ) (ks : List Stretch) → outside_silence 25 at (cond (not v) (stretch false (wins + 1) (n + m) ∷ ks) (stretch false 1 m ∷ stretch v wins n ∷ ks)) ≡ span_in_front at m (outside_silence 25 (at + m) (stretch v wins n ∷ ks))
loud_first_at true at m wins n ks = refl
loud_first_at false at m wins n ks =
    let a : at + (n + m) ≡ at + m + n = omega arith in
    let b : n + m ≡ m + n = omega arith in
    ap (λ k. span_in_front at (n + m) (outside_silence 25 k ks)) a
    ∙ (ap (λ k. span_in_front at k (outside_silence 25 (at + m + n) ks)) b
    ∙ sym (front_twice at m n (outside_silence 25 (at + m + n) ks)))

loud_first : (at m : ℕ) (ks : List Stretch) → outside_silence 25 at (window_in_front false m ks) ≡ span_in_front at m (outside_silence 25 (at + m) ks)
loud_first at m [] = refl
loud_first at m (k ∷ ks) = loud_first_at k.quiet at m k.windows k.samples ks

-- every span begins at this place or behind it
abbrev FirstFrom : ℕ → List Span → Type 0
FirstFrom at [] = Unit {0}
FirstFrom at (x ∷ xs) = at ≤ x.start

weaker : (a b : ℕ) (xs : List Span) → a ≤ b → FirstFrom b xs → FirstFrom a xs
weaker a b [] le h = tt
weaker a b (x ∷ xs) le h = omega arith

first_cond : (v : Bool) (at n : ℕ) (x : Span) (xs : List Span) → FirstFrom at (cond v (span at (n + x.len) ∷ xs) (span at n ∷ x ∷ xs))
first_cond true at n x xs = omega arith
first_cond false at n x xs = omega arith

first_front : (at n : ℕ) (xs : List Span) → FirstFrom at (span_in_front at n xs)
first_front at n [] = omega arith
first_front at n (x ∷ xs) = first_cond (at + n == x.start) at n x xs

first_either : (v : Bool) (at n : ℕ) (rest : List Span) → FirstFrom (at + n) rest → FirstFrom at (cond v rest (span_in_front at n rest))
first_either true at n rest h = weaker at (at + n) rest (omega arith) h
first_either false at n rest h = first_front at n rest

first_of : (at : ℕ) (ks : List Stretch) → FirstFrom at (outside_silence 25 at ks)
first_of at [] = tt
first_of at (k ∷ ks) = first_either (is_silence 25 k) at k.samples (outside_silence 25 (at + k.samples) ks) (first_of (at + k.samples) ks)

silent : (v : Bool) (at n : ℕ) (rest : List Span) → v ≡ true → FirstFrom (at + n) rest → FirstFrom (at + n) (cond v rest (span_in_front at n rest))
silent v at n rest e h = subst (λ k. FirstFrom (at + n) k) (sym (taken v rest (span_in_front at n rest) e)) h

long_silence : (v : Bool) (r q at wins n : ℕ) (ks : List Stretch) → 25 ≤ r → FirstFrom (at + q) (outside_silence 25 at (cond v (stretch true (wins + r) (n + q) ∷ ks) (stretch true r q ∷ stretch v wins n ∷ ks)))
long_silence true r q at wins n ks le =
    weaker (at + q) (at + (n + q)) (outside_silence 25 at (stretch true (wins + r) (n + q) ∷ ks)) (omega arith)
    (silent (nat_le 25 (wins + r)) at (n + q) (outside_silence 25 (at + (n + q)) ks) (le-leb 25 (wins + r) (omega arith)) (first_of (at + (n + q)) ks))
long_silence false r q at wins n ks le =
    silent (nat_le 25 r) at q (outside_silence 25 (at + q) (stretch false wins n ∷ ks)) (le-leb 25 r le) (first_of (at + q) (stretch false wins n ∷ ks))

silence_first : (r q at : ℕ) (ks : List Stretch) → 25 ≤ r → FirstFrom (at + q) (outside_silence 25 at (calm_in_front r q ks))
silence_first r q at [] le = silent (nat_le 25 r) at q [] (le-leb 25 r le) tt
silence_first r q at (k ∷ ks) le = long_silence k.quiet r q at k.windows k.samples ks le

apart_some : (s n : ℕ) (xs : List Span) → FirstFrom (s + n + 1) xs → span_in_front s n xs ≡ span s n ∷ xs
apart_some s n [] h = refl
apart_some s n (x ∷ xs) h = left (s + n == x.start) (span s (n + x.len) ∷ xs) (span s n ∷ x ∷ xs) (ne-eqb (s + n) x.start (λ e. omega arith))

some_interval : (s n : ℕ) → 0 < n → interval s n ≡ span s n ∷ []
some_interval s n lt = left (n == 0) [] (span s n ∷ []) (ne-eqb n 0 (λ e. omega arith))

apart : (s n : ℕ) (xs : List Span) → FirstFrom (s + n + 1) xs → front s n xs ≡ interval s n ++ xs
apart s zero xs h = refl
apart s (suc n) xs h = front_some s (suc n) xs (omega arith) ∙ (apart_some s (suc n) xs h ∙ ap (λ k. k ++ xs) (sym (some_interval s (suc n) (omega arith))))

record Told (ws : List (List ℕ)) : Type 0 where
  in_talk : (s n : ℕ) → talk_after s n 0 0 ws ≡ front s n (outside_silence 25 (s + n) (kinds ws))
  in_calm : (s n r q : ℕ) → r < 25 → 0 < q → talk_after s n r q ws ≡ front s n (outside_silence 25 (s + n) (calm_in_front r q (kinds ws)))
  in_silence : (s n r q : ℕ) → 25 ≤ r → 0 < q → talk_after s n r q ws ≡ outside_silence 25 (s + n) (calm_in_front r q (kinds ws))

-- `talk_after` where a window of `m` samples follows
abbrev turn : Bool → ℕ → ℕ → ℕ → ℕ → ℕ → List (List ℕ) → List Span
turn v s n r q m ws =
    cond v
    (cond (r == 24) (interval s n ++ talk_after s n 25 (q + m) ws) (talk_after s n (r + 1) (q + m) ws))
    (cond (nat_le 25 r) (talk_after (s + n + q) m 0 0 ws) (talk_after s (n + q + m) 0 0 ws))

turn_in_talk : (v : Bool) (s n m : ℕ) (ws : List (List ℕ)) → 0 < m → Told ws → turn v s n 0 0 m ws ≡ front s n (outside_silence 25 (s + n) (window_in_front v m (kinds ws)))
turn_in_talk true s n m ws lt h =
    h.in_calm s n 1 (0 + m) (omega arith) (omega arith)
    ∙ ap (λ k. front s n (outside_silence 25 (s + n) k)) (ap (λ k. calm_in_front 1 k (kinds ws)) (zero-add m) ∙ sym (calm_first m (kinds ws)))
turn_in_talk false s n m ws lt h =
    let a : n + 0 + m ≡ n + m = omega arith in
    let b : s + (n + m) ≡ s + n + m = omega arith in
    ap (λ k. talk_after s k 0 0 ws) a
    ∙ (h.in_talk s (n + m)
    ∙ (front_some s (n + m) (outside_silence 25 (s + (n + m)) (kinds ws)) (omega arith)
    ∙ (ap (λ k. span_in_front s (n + m) (outside_silence 25 k (kinds ws))) b
    ∙ (sym (front_joined s n m (outside_silence 25 (s + n + m) (kinds ws)))
    ∙ ap (front s n) (sym (loud_first (s + n) m (kinds ws)))))))

turn_in_calm : (v : Bool) (s n r q m : ℕ) (ws : List (List ℕ)) → 0 < m → Told ws → r < 25 → 0 < q → turn v s n r q m ws ≡ front s n (outside_silence 25 (s + n) (calm_in_front r q (window_in_front v m (kinds ws))))
turn_in_calm true s n r q m ws lt h small pos =
    let more : calm_in_front (r + 1) (q + m) (kinds ws) ≡ calm_in_front r q (window_in_front true m (kinds ws)) = calm_more r q m (kinds ws) in
    elim (cases (r == 24)) [
      | inl e ↦
          let n24 : r ≡ 24 = eqb-true r 24 e in
          let n25 : 25 ≡ r + 1 = omega arith in
          taken (r == 24) (interval s n ++ talk_after s n 25 (q + m) ws) (talk_after s n (r + 1) (q + m) ws) e
          ∙ (ap (λ k. interval s n ++ k) (h.in_silence s n 25 (q + m) (omega arith) (omega arith))
          ∙ (sym (apart s n (outside_silence 25 (s + n) (calm_in_front 25 (q + m) (kinds ws))) (weaker (s + n + 1) (s + n + (q + m)) (outside_silence 25 (s + n) (calm_in_front 25 (q + m) (kinds ws))) (omega arith) (silence_first 25 (q + m) (s + n) (kinds ws) (omega arith))))
          ∙ ap (λ k. front s n (outside_silence 25 (s + n) k)) (ap (λ k. calm_in_front k (q + m) (kinds ws)) n25 ∙ more)))
      | inr e ↦
          let ne : r ≡ 24 → ⊥ = eqb-false r 24 e in
          left (r == 24) (interval s n ++ talk_after s n 25 (q + m) ws) (talk_after s n (r + 1) (q + m) ws) e
          ∙ (h.in_calm s n (r + 1) (q + m) (omega arith) (omega arith)
          ∙ ap (λ k. front s n (outside_silence 25 (s + n) k)) more)
    ]
turn_in_calm false s n r q m ws lt h small pos =
    let a : n + q + m ≡ n + (q + m) = omega arith in
    let b : s + (n + (q + m)) ≡ s + n + q + m = omega arith in
    left (nat_le 25 r) (talk_after (s + n + q) m 0 0 ws) (talk_after s (n + q + m) 0 0 ws) (lt-leb 25 r small)
    ∙ (ap (λ k. talk_after s k 0 0 ws) a
    ∙ (h.in_talk s (n + (q + m))
    ∙ (front_some s (n + (q + m)) (outside_silence 25 (s + (n + (q + m))) (kinds ws)) (omega arith)
    ∙ (ap (λ k. span_in_front s (n + (q + m)) (outside_silence 25 k (kinds ws))) b
    ∙ (sym (front_joined s n (q + m) (outside_silence 25 (s + n + q + m) (kinds ws)))
    ∙ (ap (front s n) (sym (front_twice (s + n) q m (outside_silence 25 (s + n + q + m) (kinds ws)))
    ∙ (ap (span_in_front (s + n) q) (sym (loud_first (s + n + q) m (kinds ws)))
    ∙ sym (left (nat_le 25 r) (outside_silence 25 (s + n + q) (window_in_front false m (kinds ws))) (span_in_front (s + n) q (outside_silence 25 (s + n + q) (window_in_front false m (kinds ws)))) (lt-leb 25 r small))))
    ∙ ap (λ k. front s n (outside_silence 25 (s + n) k)) (sym (calm_before r q m (kinds ws)))))))))

turn_in_silence : (v : Bool) (s n r q m : ℕ) (ws : List (List ℕ)) → 0 < m → Told ws → 25 ≤ r → 0 < q → turn v s n r q m ws ≡ outside_silence 25 (s + n) (calm_in_front r q (window_in_front v m (kinds ws)))
turn_in_silence true s n r q m ws lt h le pos =
    left (r == 24) (interval s n ++ talk_after s n 25 (q + m) ws) (talk_after s n (r + 1) (q + m) ws) (ne-eqb r 24 (λ e. omega arith))
    ∙ (h.in_silence s n (r + 1) (q + m) (omega arith) (omega arith)
    ∙ ap (outside_silence 25 (s + n)) (calm_more r q m (kinds ws)))
turn_in_silence false s n r q m ws lt h le pos =
    taken (nat_le 25 r) (talk_after (s + n + q) m 0 0 ws) (talk_after s (n + q + m) 0 0 ws) (le-leb 25 r le)
    ∙ (h.in_talk (s + n + q) m
    ∙ (front_some (s + n + q) m (outside_silence 25 (s + n + q + m) (kinds ws)) lt
    ∙ (sym (loud_first (s + n + q) m (kinds ws))
    ∙ (sym (taken (nat_le 25 r) (outside_silence 25 (s + n + q) (window_in_front false m (kinds ws))) (span_in_front (s + n) q (outside_silence 25 (s + n + q) (window_in_front false m (kinds ws)))) (le-leb 25 r le))
    ∙ ap (outside_silence 25 (s + n)) (sym (calm_before r q m (kinds ws)))))))

-- no window is empty
abbrev pub HaveBytes : List (List ℕ) → Type 0
HaveBytes [] = Unit {0}
HaveBytes (w ∷ ws) = (0 < length w) × HaveBytes ws

told : (ws : List (List ℕ)) → HaveBytes ws → Told ws
told [] h = record {
  in_talk = λ s n. let a : n + 0 ≡ n = omega arith in ap (interval s) a;
  in_calm = λ s n r q small pos.
      left (nat_le 25 r) [] (interval s (n + q)) (lt-leb 25 r small)
      ∙ (some_interval s (n + q) (omega arith)
      ∙ (sym (front_joined s n q [])
      ∙ ap (front s n) (sym (left (nat_le 25 r) [] (span (s + n) q ∷ []) (lt-leb 25 r small)))));
  in_silence = λ s n r q le pos.
      taken (nat_le 25 r) [] (interval s (n + q)) (le-leb 25 r le) ∙ sym (taken (nat_le 25 r) [] (span (s + n) q ∷ []) (le-leb 25 r le));
}
told (w ∷ ws) h =
    let rest : Told ws = told ws h.1 in record {
      in_talk = λ s n. turn_in_talk (is_quiet w) s n (length w) ws h.0 rest;
      in_calm = λ s n r q small pos. turn_in_calm (is_quiet w) s n r q (length w) ws h.0 rest small pos;
      in_silence = λ s n r q le pos. turn_in_silence (is_quiet w) s n r q (length w) ws h.0 rest le pos;
    }

pub told_from_the_front : (ws : List (List ℕ)) → HaveBytes ws → talk_after 0 0 0 0 ws ≡ outside_silence 25 0 (kinds ws)
told_from_the_front ws h = let t : Told ws = told ws h in t.in_talk 0 0
