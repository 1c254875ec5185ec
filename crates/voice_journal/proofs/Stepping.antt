-- Reading records one by one.
use Rattle.std.proofs.Common.{◌≡◌, ◌≢◌, ℕ, zero, suc, ◌+◌, ◌*◌, ◌<◌, ◌≤◌, List, [], ◌∷◌, ◌++◌, length, take, drop, get_or, refl, ap, sym, ◌∙◌, subst, arith, Bool, true, false, length-append}
use Rattle.std.specs.Prelude.{◌==◌, nat_lt}
use Rattle.std.proofs.lemmas.Bool.{eq-eqb, ne_eqb, lt-ltb, le-ltb}
use Rattle.disk_areas.specs.Numbers.{spelled_number, number_at}
use Rattle.disk_areas.specs.Areas.{Record, Records, with_record, if_sound, if_open, records_from}
use Rattle.voice_journal.specs.Readings.{record_at}
use Rattle.voice_journal.specs.Lent.{record_in, lent, AreWithin}
use Rattle.voice_journal.specs.Parsed.{placed, AreRead}
use Rattle.voice_journal.specs.declared.lists.Span.{Span}
use Rattle.voice_journal.proofs.Lending.{lent_push, within_push}

abbrev pub prepend : List Record → Records → Records
prepend [] later = later
prepend (r ∷ rs) later = with_record r (prepend rs later)

-- so much of an area was read
pub record IsReading (start : ℕ) (area : List ℕ) (spans : List Span) (gate : ℕ) : Type 0 where
  pub rs : List Record
  pub most : ℕ
  pub show : lent area spans ≡ placed start rs
  pub inside : AreWithin gate spans
  pub from : 16 + 5 * length spans ≤ gate
  pub within : gate < length area
  pub enough : length area ≤ gate + most
  pub reads : records_from (length area) (length area) 16 (drop 16 area) ≡ prepend rs (records_from most (length area) gate (drop gate area))

drop_cons : (xs : List ℕ) (n : ℕ) → n < length xs → drop n xs ≡ get_or xs n 0 ∷ drop (n + 1) xs
drop_cons [] n lt = absurd (omega arith)
drop_cons (x ∷ xs) zero lt = refl
drop_cons (x ∷ xs) (suc n) lt = let next : suc n + 1 ≡ suc (n + 1) = omega arith in drop_cons xs n (omega arith) ∙ ap (λ (m : ℕ). get_or xs n 0 ∷ drop m (x ∷ xs)) (sym next)

drop_drop : (xs : List ℕ) (n m : ℕ) → drop m (drop n xs) ≡ drop (n + m) xs
drop_drop xs zero m = let z : 0 + m ≡ m = omega arith in ap (λ (k : ℕ). drop k xs) (sym z)
drop_drop [] (suc n) zero = let z : suc n + 0 ≡ suc n = omega arith in ap (λ (k : ℕ). drop {A = ℕ} k []) (sym z)
drop_drop [] (suc n) (suc m) = let z : suc n + suc m ≡ suc (n + suc m) = omega arith in ap (λ (k : ℕ). drop {A = ℕ} k []) (sym z)
drop_drop (x ∷ xs) (suc n) m = let z : suc n + m ≡ suc (n + m) = omega arith in drop_drop xs n m ∙ ap (λ (k : ℕ). drop k (x ∷ xs)) (sym z)

abbrev step : ℕ → ℕ → ℕ → ℕ → List ℕ → Records
step most size gate b rest =
    let len = spelled_number (take 4 rest) in
    if_open (b == 1) gate (if_sound (nat_lt (gate + 5 + len) size) gate (with_record (record_at gate (take len (drop 4 rest))) (records_from most size (gate + 5 + len) (drop (4 + len) rest))))

unfolds : (most size gate b : ℕ) (rest : List ℕ) → records_from (suc most) size gate (b ∷ rest) ≡ step most size gate b rest
unfolding records_from
unfolds most size gate b rest = refl

stepped : (area : List ℕ) (most gate : ℕ) → gate < length area → records_from (suc most) (length area) gate (drop gate area) ≡ step most (length area) gate (get_or area gate 0) (drop (gate + 1) area)
stepped area most gate lt = ap (λ (l : List ℕ). records_from (suc most) (length area) gate l) (drop_cons area gate lt) ∙ unfolds most (length area) gate (get_or area gate 0) (drop (gate + 1) area)

len_at : (area : List ℕ) (gate : ℕ) → spelled_number (take 4 (drop (gate + 1) area)) ≡ number_at 4 (gate + 1) area
len_at area gate = refl

closed : (b : Bool) (at : ℕ) (later : Records) → b ≡ false → if_open b at later ≡ Records.Sound [] at
closed true at later h = cc
closed false at later h = refl

broken : (b c : Bool) (at : ℕ) (later : Records) → b ≡ true → c ≡ false → if_open b at (if_sound c at later) ≡ Records.Broken at
broken false c at later h k = cc
broken true true at later h k = cc
broken true false at later h k = refl

opened : (b c : Bool) (at : ℕ) (later : Records) → b ≡ true → c ≡ true → if_open b at (if_sound c at later) ≡ later
opened false c at later h k = cc
opened true false at later h k = cc
opened true true at later h k = refl

prepend_sound : (rs : List Record) (gate : ℕ) → prepend rs (Records.Sound [] gate) ≡ Records.Sound rs gate
prepend_sound [] gate = refl
prepend_sound (r ∷ rs) gate = ap (λ (x : Records). with_record r x) (prepend_sound rs gate)

prepend_broken : (rs : List Record) (gate : ℕ) → prepend rs (Records.Broken gate) ≡ Records.Broken gate
prepend_broken [] gate = refl
prepend_broken (r ∷ rs) gate = ap (λ (x : Records). with_record r x) (prepend_broken rs gate)

prepend_more : (rs : List Record) (r : Record) (later : Records) → prepend rs (with_record r later) ≡ prepend (rs ++ r ∷ []) later
prepend_more [] r later = refl
prepend_more (q ∷ rs) r later = ap (λ (x : Records). with_record q x) (prepend_more rs r later)

pub begin : (start : ℕ) (area : List ℕ) → 512 ≤ length area → IsReading start area [] 16
begin start area size = record { rs = []; most = length area; show = refl; inside = tt; from = omega arith; within = omega arith; enough = omega arith; reads = refl }

-- a gate that is not 1 ends the list
pub ended : (start : ℕ) (area : List ℕ) (spans : List Span) (gate : ℕ) → IsReading start area spans gate → get_or area gate 0 ≢ 1 → (rs : List Record) × AreRead start area spans gate rs
ended start area spans gate is shut = (is.rs, record { records = is.reads ∙ ap (λ (x : Records). prepend is.rs x) (by is.most is.enough) ∙ prepend_sound is.rs gate; show = is.show; inside = is.inside; from = let f = is.from in omega arith; within = is.within; few = let f = is.from in let w = is.within in omega arith })
  where
    by : (most : ℕ) → length area ≤ gate + most → records_from most (length area) gate (drop gate area) ≡ Records.Sound [] gate
    by zero enough = absurd (let w = is.within in omega arith)
    by (suc most) enough = stepped area most gate is.within ∙ closed (get_or area gate 0 == 1) gate _ (ne_eqb (get_or area gate 0) 1 shut)

-- a length that breaks the condition
pub refused : (start : ℕ) (area : List ℕ) (spans : List Span) (gate : ℕ) → IsReading start area spans gate → get_or area gate 0 ≡ 1 → length area ≤ gate + 5 + number_at 4 (gate + 1) area
    → records_from (length area) (length area) 16 (drop 16 area) ≡ Records.Broken gate
refused start area spans gate is one long = is.reads ∙ ap (λ (x : Records). prepend is.rs x) (by is.most is.enough) ∙ prepend_broken is.rs gate
  where
    by : (most : ℕ) → length area ≤ gate + most → records_from most (length area) gate (drop gate area) ≡ Records.Broken gate
    by zero enough = absurd (let w = is.within in omega arith)
    by (suc most) enough =
        stepped area most gate is.within
        ∙ broken (get_or area gate 0 == 1) (nat_lt (gate + 5 + spelled_number (take 4 (drop (gate + 1) area))) (length area)) gate _ (eq-eqb (get_or area gate 0) 1 one)
        (le-ltb _ _ (subst (λ (n : ℕ). length area ≤ gate + 5 + n) (sym (len_at area gate)) long))

-- a sound record
pub gone : (start : ℕ) (area : List ℕ) (spans : List Span) (gate len : ℕ) (p : Span) (next : ℕ) (all : List Span) → IsReading start area spans gate → get_or area gate 0 ≡ 1 → len ≡ number_at 4 (gate + 1) area → gate + 5 + len < length area
    → p ≡ record { place = start + gate; from = gate + 5; len = len } → next ≡ gate + 5 + len → all ≡ spans ++ p ∷ [] → IsReading start area all next
gone start area spans gate len p next all is one len_is room p_is next_is all_is = by is.most is.enough is.reads
  where
    placed_more : (rs : List Record) (x : Record) → placed start (rs ++ x ∷ []) ≡ placed start rs ++ record_at (start + x.at) x.payload ∷ []
    placed_more [] x = refl
    placed_more (q ∷ rs) x = ap (λ (l : List Record). record_at (start + q.at) q.payload ∷ l) (placed_more rs x)

    shows : lent area (spans ++ p ∷ []) ≡ placed start (is.rs ++ record_at gate (take len (drop (gate + 5) area)) ∷ [])
    shows =
        lent_push area spans p ∙ ap (λ (l : List Record). l ++ record_in area p ∷ []) is.show
        ∙ ap (λ (s : Span). placed start is.rs ++ record_in area s ∷ []) p_is
        ∙ sym (placed_more is.rs (record_at gate (take len (drop (gate + 5) area))))

    ends : p.from + p.len ≤ next
    ends = subst (λ (s : Span). s.from + s.len ≤ next) (sym p_is) (omega (arith, next_is))

    moved : (most : ℕ) → records_from (suc most) (length area) gate (drop gate area) ≡ with_record (record_at gate (take len (drop (gate + 5) area))) (records_from most (length area) (gate + 5 + len) (drop (gate + 5 + len) area))
    moved most =
        let spelled : spelled_number (take 4 (drop (gate + 1) area)) ≡ len = len_at area gate ∙ sym len_is in
        let four : gate + 1 + 4 ≡ gate + 5 = omega arith in
        let later : gate + 1 + (4 + len) ≡ gate + 5 + len = omega arith in
        stepped area most gate is.within
        ∙ opened (get_or area gate 0 == 1) (nat_lt (gate + 5 + spelled_number (take 4 (drop (gate + 1) area))) (length area)) gate _ (eq-eqb (get_or area gate 0) 1 one)
        (lt-ltb _ _ (subst (λ (n : ℕ). gate + 5 + n < length area) (sym spelled) room))
        ∙ ap (λ (n : ℕ). with_record (record_at gate (take n (drop 4 (drop (gate + 1) area)))) (records_from most (length area) (gate + 5 + n) (drop (4 + n) (drop (gate + 1) area)))) spelled
        ∙ ap (λ (l : List ℕ). with_record (record_at gate (take len l)) (records_from most (length area) (gate + 5 + len) (drop (4 + len) (drop (gate + 1) area)))) (drop_drop area (gate + 1) 4 ∙ ap (λ (n : ℕ). drop n area) four)
        ∙ ap (λ (l : List ℕ). with_record (record_at gate (take len (drop (gate + 5) area))) (records_from most (length area) (gate + 5 + len) l)) (drop_drop area (gate + 1) (4 + len) ∙ ap (λ (n : ℕ). drop n area) later)

    by : (most : ℕ) → length area ≤ gate + most → records_from (length area) (length area) 16 (drop 16 area) ≡ prepend is.rs (records_from most (length area) gate (drop gate area)) → IsReading start area all next
    by zero enough reads = absurd (let w = is.within in omega arith)
    by (suc most) enough reads =
        let x : Record = record_at gate (take len (drop (gate + 5) area)) in
        let size : length all ≡ length spans + 1 = ap length all_is ∙ length-append spans (p ∷ []) in
        record {
          rs = is.rs ++ x ∷ [];
          most = most;
          show = ap (lent area) all_is ∙ shows;
          inside = subst (AreWithin next) (sym all_is) (within_push gate next spans p is.inside (omega (arith, next_is)) ends);
          from = let f = is.from in omega (arith, size, next_is, f);
          within = omega (arith, room, next_is);
          enough = omega (arith, enough, next_is);
          reads = subst (λ (n : ℕ). records_from (length area) (length area) 16 (drop 16 area) ≡ prepend (is.rs ++ x ∷ []) (records_from most (length area) n (drop n area))) (sym next_is)
              (reads ∙ ap (λ (y : Records). prepend is.rs y) (moved most) ∙ prepend_more is.rs x (records_from most (length area) (gate + 5 + len) (drop (gate + 5 + len) area)));
        }
