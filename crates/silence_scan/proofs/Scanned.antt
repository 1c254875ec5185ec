-- What a scanner keeps, step by step.
use Rattle.std.proofs.Common.{◌≡◌, ℕ, zero, suc, ◌+◌, ◌*◌, ◌<◌, ◌≤◌, Bool, List, [], ◌∷◌, ◌++◌, length, sym, ◌∙◌, ap, arith, refl, drop, append_assoc, length-append, length-take, append-nil, sum_by}
use Rattle.std.specs.Prelude.{nat_le}
use Rattle.std.proofs.lemmas.List.Sums.{sum_by-append}
use Rattle.voice_model.specs.Talk.{loud, is_quiet, parts, windows, talk}
use Rattle.silence_scan.specs.Scan.{TalkSoFar, Scan, HasScanned, runs_of, talk_of, talk_after}
use Rattle.silence_scan.proofs.Windows.{windows_push}
use Rattle.silence_scan.proofs.TalkAfter.{HaveBytes, told_from_the_front}

parts_have_bytes : (width m : ℕ) (xs : List ℕ) → 0 < width → HaveBytes (parts width m xs)
parts_have_bytes width zero xs lt = tt
parts_have_bytes width (suc m) [] lt = tt
parts_have_bytes width (suc m) (x ∷ xs) lt = (omega (arith, length-take width (x ∷ xs)), parts_have_bytes width m (drop width (x ∷ xs)) lt)

told : (all : List ℕ) → talk_after 0 0 0 0 (windows all) ≡ talk all
told all = told_from_the_front (windows all) (parts_have_bytes 160 (length all) all (omega arith))

pub nothing_scanned : (s : Scan) → s.runs ≡ runs_of [] 0 0 0 0 → s.count ≡ 0 → s.loudness ≡ 0 → HasScanned [] s
nothing_scanned s e f g = record {
  whole = [];
  part = [];
  windows_so_far = 0;
  cut = refl;
  even = refl;
  by_window = λ rest. ap (λ r. talk_of r rest) e;
  counted = f;
  short = omega arith;
  heard = g;
}

pub scanned_more : (before part : List ℕ) (s m : Scan) → s.count + length part < 160 → m.runs ≡ s.runs → m.count ≡ s.count + length part → m.loudness ≡ s.loudness + sum_by loud part → HasScanned before s → HasScanned (before ++ part) m
scanned_more before part s m lt e f g h = record {
  whole = h.whole;
  part = h.part ++ part;
  windows_so_far = h.windows_so_far;
  cut = ap (λ k. k ++ part) h.cut ∙ append_assoc h.whole h.part part;
  even = h.even;
  by_window = λ rest. ap (λ r. talk_of r rest) e ∙ h.by_window rest;
  counted = omega (arith, f, h.counted, length-append h.part part);
  short = omega (arith, lt, h.counted, length-append h.part part);
  heard = g ∙ (ap (λ k. k + sum_by loud part) h.heard ∙ sym (sum_by-append loud h.part part));
}

-- a window is turned into what `talk_of` says of it
abbrev pub Turns : TalkSoFar → TalkSoFar → Bool → ℕ → Type 0
Turns old new quiet samples = (w : List ℕ) (rest : List (List ℕ)) → is_quiet w ≡ quiet → length w ≡ samples → talk_of new rest ≡ talk_of old (w ∷ rest)

pushed : (k : ℕ) (whole w : List ℕ) (rest : List (List ℕ)) → length whole ≡ 160 * k → 0 < length w → length w ≤ 160 → windows whole ++ w ∷ rest ≡ windows (whole ++ w) ++ rest
pushed k whole w rest e lt le =
    sym (append_assoc (windows whole) (w ∷ []) rest) ∙ ap (λ ws. ws ++ rest) (sym (windows_push k whole w e lt le))

pub scanned_whole : (before part : List ℕ) (s m : Scan) → s.count + length part ≡ 160 → Turns s.runs m.runs (nat_le (s.loudness + sum_by loud part) 960) 160 → m.count ≡ 0 → m.loudness ≡ 0 → HasScanned before s → HasScanned (before ++ part) m
scanned_whole before part s m full turns f g h =
    let n : length (h.part ++ part) ≡ 160 = length-append h.part part ∙ omega (arith, full, h.counted) in
    let sum : sum_by loud (h.part ++ part) ≡ s.loudness + sum_by loud part = sum_by-append loud h.part part ∙ ap (λ k. k + sum_by loud part) (sym h.heard) in
    let quiet : is_quiet (h.part ++ part) ≡ nat_le (s.loudness + sum_by loud part) 960 = ap (λ k. nat_le (sum_by loud (h.part ++ part)) (6 * k)) n ∙ ap (λ k. nat_le k 960) sum in
    record {
      whole = h.whole ++ (h.part ++ part);
      part = [];
      windows_so_far = h.windows_so_far + 1;
      cut = ap (λ k. k ++ part) h.cut ∙ (append_assoc h.whole h.part part ∙ sym (append-nil (h.whole ++ (h.part ++ part))));
      even = length-append h.whole (h.part ++ part) ∙ omega (arith, n, h.even);
      by_window = λ rest. turns (h.part ++ part) rest quiet n ∙ (h.by_window ((h.part ++ part) ∷ rest) ∙ ap (talk_after 0 0 0 0) (pushed h.windows_so_far h.whole (h.part ++ part) rest h.even (omega arith) (omega arith)));
      counted = f;
      short = omega arith;
      heard = g;
    }

nothing : (xs : List ℕ) → 0 ≡ length xs → xs ≡ []
nothing [] e = refl
nothing (x ∷ xs) e = absurd (omega arith)

pub finished_even : (all : List ℕ) (s : Scan) → s.count ≡ 0 → HasScanned all s → talk_of s.runs [] ≡ talk all
finished_even all s e h =
    h.by_window [] ∙ (ap (talk_after 0 0 0 0) (append-nil (windows h.whole)) ∙ (ap (λ k. talk_after 0 0 0 0 (windows k)) (sym (append-nil h.whole) ∙ (ap (λ k. h.whole ++ k) (sym (nothing h.part (sym e ∙ h.counted))) ∙ sym h.cut)) ∙ told all))

pub finished_part : (all : List ℕ) (s : Scan) (runs : TalkSoFar) → 0 < s.count → Turns s.runs runs (nat_le s.loudness (6 * s.count)) s.count → HasScanned all s → talk_of runs [] ≡ talk all
finished_part all s runs lt turns h =
    let quiet : is_quiet h.part ≡ nat_le s.loudness (6 * s.count) = ap (λ k. nat_le (sum_by loud h.part) (6 * k)) (sym h.counted) ∙ ap (λ k. nat_le k (6 * s.count)) (sym h.heard) in
    turns h.part [] quiet (sym h.counted)
    ∙ (h.by_window (h.part ∷ [])
    ∙ (ap (talk_after 0 0 0 0) (pushed h.windows_so_far h.whole h.part [] h.even (omega (arith, lt, h.counted)) (omega (arith, h.short)) ∙ append-nil (windows (h.whole ++ h.part)))
    ∙ (ap (λ k. talk_after 0 0 0 0 (windows k)) (sym h.cut) ∙ told all)))
