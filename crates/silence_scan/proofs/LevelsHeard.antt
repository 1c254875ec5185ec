-- What a leveller keeps, step by step.
use Rattle.std.proofs.Common.{◌≡◌, ℕ, ◌+◌, ◌*◌, ◌<◌, List, [], ◌∷◌, ◌++◌, length, max, sym, ◌∙◌, ap, arith, refl, append_assoc, length-append, append-nil}
use Rattle.voice_model.specs.Talk.{peak, peaks}
use Rattle.silence_scan.specs.Levels.{Levels, HasHeard}
use Rattle.silence_scan.proofs.Greatest.{peak-append}
use Rattle.silence_scan.proofs.Windows.{peaks_push}

pub nothing_heard : (l : Levels) → l.peaks ≡ [] → l.count ≡ 0 → l.most ≡ 0 → HasHeard [] l
nothing_heard l e f g = record {
  whole = [];
  part = [];
  cut = refl;
  even = ap (λ p. 160 * length p) (sym e);
  by_window = e;
  counted = f;
  short = omega arith;
  greatest = g;
}

pub heard_more : (before part : List ℕ) (l m : Levels) → l.count + length part < 160 → m.peaks ≡ l.peaks → m.count ≡ l.count + length part → m.most ≡ max l.most (peak part) → HasHeard before l → HasHeard (before ++ part) m
heard_more before part l m lt e f g h = record {
  whole = h.whole;
  part = h.part ++ part;
  cut = ap (λ k. k ++ part) h.cut ∙ append_assoc h.whole h.part part;
  even = h.even ∙ ap (λ p. 160 * length p) (sym e);
  by_window = e ∙ h.by_window;
  counted = omega (arith, f, h.counted, length-append h.part part);
  short = omega (arith, lt, h.counted, length-append h.part part);
  greatest = g ∙ (ap (λ k. max k (peak part)) h.greatest ∙ sym (peak-append h.part part));
}

pub heard_whole : (before part : List ℕ) (l m : Levels) → l.count + length part ≡ 160 → m.peaks ≡ l.peaks ++ max l.most (peak part) ∷ [] → m.count ≡ 0 → m.most ≡ 0 → HasHeard before l → HasHeard (before ++ part) m
heard_whole before part l m full e f g h =
    let n : length (h.part ++ part) ≡ 160 = length-append h.part part ∙ omega (arith, full, h.counted) in
    let most : max l.most (peak part) ≡ peak (h.part ++ part) = ap (λ k. max k (peak part)) h.greatest ∙ sym (peak-append h.part part) in
    let pushed : length m.peaks ≡ length l.peaks + 1 = ap length e ∙ length-append l.peaks (max l.most (peak part) ∷ []) in
    record {
      whole = h.whole ++ (h.part ++ part);
      part = [];
      cut = ap (λ k. k ++ part) h.cut ∙ (append_assoc h.whole h.part part ∙ sym (append-nil (h.whole ++ (h.part ++ part))));
      even = length-append h.whole (h.part ++ part) ∙ omega (arith, n, h.even, pushed);
      by_window = e ∙ (ap (λ p. p ++ max l.most (peak part) ∷ []) h.by_window ∙ (ap (λ k. peaks h.whole ++ k ∷ []) most ∙ sym (peaks_push (length l.peaks) h.whole (h.part ++ part) h.even (omega arith) (omega arith))));
      counted = f;
      short = omega arith;
      greatest = g;
    }

nothing : (xs : List ℕ) → 0 ≡ length xs → xs ≡ []
nothing [] e = refl
nothing (x ∷ xs) e = absurd (omega arith)

pub finished_even : (all : List ℕ) (l : Levels) → l.count ≡ 0 → HasHeard all l → l.peaks ≡ peaks all
finished_even all l e h =
    h.by_window ∙ ap peaks (sym (append-nil h.whole) ∙ (ap (λ k. h.whole ++ k) (sym (nothing h.part (sym e ∙ h.counted))) ∙ sym h.cut))

pub finished_part : (all : List ℕ) (l : Levels) → 0 < l.count → HasHeard all l → l.peaks ++ l.most ∷ [] ≡ peaks all
finished_part all l lt h =
    ap (λ p. p ++ l.most ∷ []) h.by_window ∙ (ap (λ k. peaks h.whole ++ k ∷ []) h.greatest ∙ (sym (peaks_push (length l.peaks) h.whole h.part h.even (omega (arith, lt, h.counted)) (omega (arith, h.short))) ∙ ap peaks (sym h.cut)))
