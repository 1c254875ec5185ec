-- What the numbered records of a mirror's journal rebuild.
use Rattle.std.proofs.Common.{◌≡◌, ℕ, ◌+◌, ◌-◌, ◌^◌, ◌<◌, ◌≤◌, Bool, true, false, ◌&&◌, ◌==◌, cond, List, [], ◌∷◌, ◌++◌, map, length, Option, Some, None, refl, sym, ◌∙◌, ap, arith, eq-eqb, eqb-true, ne_eqb}
use Rattle.std.specs.Prelude.{is_some, nat_le}
use Rattle.std.proofs.lemmas.Bool.{leb-true, le-leb}
use Rattle.std.proofs.lemmas.List.{length-map}
use Rattle.voice_units.specs.Spots.{Spot}
use Rattle.voice_model.specs.Samples.{spot_of}
use Rattle.voice_model.specs.State.{Live, opened}
use Rattle.voice_model.specs.Spelling.{keeps_grammar, change_in, spelling}
use Rattle.voice_model.specs.Replay.{Rebuilt, nothing_rebuilt, is_legal, acted, finished, brings, recovered}
use Rattle.voice_model.specs.Image.{Replayed, replayed}
use Rattle.voice_model.specs.Valid.{Every, IsState, IsRebuilt}
use Rattle.voice_model.specs.Places.{IsPlaced, AllUsed, CanBeSpelled}
use Rattle.voice_model.specs.Base.{FileBlocks, base_of, by_file, in_order, file_change, rope_change, row_change}
use Rattle.voice_model.specs.declared.changes.Change.{Change}
use Rattle.voice_model.specs.declared.changes.Change.TheVariants as changes
use Rattle.voice_model.specs.declared.calls.Row.{Row}
use Rattle.voice_model.proofs.ReadAgain.{read_number, spelled_is_read}
use Rattle.voice_model.proofs.BaseSpelled.{reads_back}
use Rattle.disk_areas.specs.Numbers.{number_at, number_bytes}
use Rattle.disk_areas.specs.Areas.{Record, Journal}
use Rattle.voice_journal.specs.Readings.{record_at, records_of, with_payload, switched}
use Rattle.recovery.specs.Shown.{plain_sample}
use Rattle.recovery.specs.Replayed.{bytes_of}
use Rattle.mirror_replay.specs.declared.courses.Course.{Course}
use Rattle.mirror_replay.specs.declared.courses.Course.TheVariants.{Begun, Base, Later}
use Rattle.mirror_replay.specs.Numbered.{begins_base, continues_base, position_of, with_number}
use Rattle.mirror_replay.specs.Stripped.{course_after, course_by, course_of, kind_of, is_first_kind, is_later_kind}
use Rattle.mirror_replay.specs.Numbered.{without_number}
use Rattle.mirror_replay.proofs.KindsOfChanges.{is_change}
use Rattle.journal_readings.proofs.Replays as journals
use Rattle.mirror_readings.specs.Readings.{NumberedRebuild}
use Rattle.mirror_readings.specs.Laws as laws
use Rattle.mirror_readings.proofs.Apart.{Apart, stripped, stripped_one, all_same, course_same, apart, together}

-- ---- what is kept

-- a journal without the numbers of its records
abbrev plain : Journal → Journal
plain r = record r { records = stripped r.records }

taken_apart : (r : Journal) (b : Rebuilt) (n : ℕ) → NumberedRebuild r b n → Apart Begun (nothing_rebuilt r.shape) r.records b n
taken_apart r b n e = apart Begun (nothing_rebuilt r.shape) r.records b n e

pub valid : (r : Journal) (b : Rebuilt) (n : ℕ) → NumberedRebuild r b n → IsRebuilt plain_sample b × IsPlaced b × AllUsed b × (b.shape ≡ r.shape)
valid r b n e = journals.valid (plain r) b (taken_apart r b n e).changes

pub finished_again : (r : Journal) (b : Rebuilt) (n : ℕ) → NumberedRebuild r b n → finished b ≡ b
finished_again r b n e = journals.finished_again (plain r) b (taken_apart r b n e).changes

pub state : (r : Journal) (b : Rebuilt) (n : ℕ) (image : List ℕ) (left epoch : ℕ) → NumberedRebuild r b n → left ≤ r.shape.area - 17 → IsState (opened (recovered image b) left epoch b.form)
state r b n image left epoch e low = journals.state (plain r) b image left epoch (taken_apart r b n e).changes low

pub once : (r : Journal) (b c : Rebuilt) (m n : ℕ) → NumberedRebuild r b m → NumberedRebuild r c n → (b ≡ c) × (m ≡ n)
once r b c m n e f = all_same b c m n (sym e ∙ f)

-- ---- the position

-- the next number is at most 2^48, or the last one plus 1
step_at_most : (course : Course) (n : ℕ) (begins continues : Bool) (next : Course) (most : ℕ) → position_of course ≤ most → 2 ^ 48 ≤ most → with_number course n begins continues ≡ Some next → position_of next ≤ most + 1
step_at_most Begun n true continues next most low least e = by (nat_le n (2 ^ 48)) refl e
  where
    by : (t : Bool) → nat_le n (2 ^ 48) ≡ t → cond t (Some (Base n)) None ≡ Some next → position_of next ≤ most + 1
    by true small h = let same = ap position_of (course_same (Base n) next h) in let few = leb-true n (2 ^ 48) small in omega (arith, same, few, least)
    by false small h = cc
step_at_most Begun n false continues next most low least e = by (n == 1) refl e
  where
    by : (t : Bool) → (n == 1) ≡ t → cond t (Some (Later n)) None ≡ Some next → position_of next ≤ most + 1
    by true one h = let same = ap position_of (course_same (Later n) next h) in let is = eqb-true n 1 one in omega (arith, same, is)
    by false one h = cc
step_at_most (Base last) n begins continues next most low least e = by (n == last + 1) refl (continues && (n == last)) e
  where
    by : (t : Bool) → (n == last + 1) ≡ t → (u : Bool) → cond t (Some (Later n)) (cond u (Some (Base last)) None) ≡ Some next → position_of next ≤ most + 1
    by true one u h = let same = ap position_of (course_same (Later n) next h) in let is = eqb-true n (last + 1) one in omega (arith, same, is, low)
    by false one true h = let same = ap position_of (course_same (Base last) next h) in omega (arith, same, low)
    by false one false h = cc
step_at_most (Later last) n begins continues next most low least e = by (n == last + 1) refl e
  where
    by : (t : Bool) → (n == last + 1) ≡ t → cond t (Some (Later n)) None ≡ Some next → position_of next ≤ most + 1
    by true one h = let same = ap position_of (course_same (Later n) next h) in let is = eqb-true n (last + 1) one in omega (arith, same, is, low)
    by false one h = cc

after_at_most : (course : Course) (payload : List ℕ) (next : Course) (most : ℕ) → position_of course ≤ most → 2 ^ 48 ≤ most → course_after course payload ≡ Some next → position_of next ≤ most + 1
after_at_most course payload next most low least e = by (nat_le 9 (length payload)) e
  where
    n : ℕ
    n = number_at 8 0 payload

    kind : ℕ
    kind = kind_of (without_number payload)

    by : (t : Bool) → cond t (with_number course n (is_first_kind kind) (is_later_kind kind)) None ≡ Some next → position_of next ≤ most + 1
    by true h = step_at_most course n (is_first_kind kind) (is_later_kind kind) next most low least h
    by false h = cc

all_at_most : (course : Course) (payloads : List (List ℕ)) (last : Course) (most : ℕ) → position_of course ≤ most → 2 ^ 48 ≤ most → course_of course payloads ≡ Some last → position_of last ≤ most + length payloads
all_at_most course [] last most low least e = let same = ap position_of (course_same course last e) in omega (arith, same, low)
all_at_most course (payload ∷ payloads) last most low least e =
    by (course_after course payload) refl (λ next after h. all_at_most next payloads last (most + 1) (after_at_most course payload next most low least after) (omega (arith, least)) h) e
  where
    by : (o : Option Course) → course_after course payload ≡ o → ((next : Course) → course_after course payload ≡ Some next → course_of next payloads ≡ Some last → position_of last ≤ (most + 1) + length payloads)
        → course_by o (λ next. course_of next payloads) ≡ Some last → position_of last ≤ most + length (payload ∷ payloads)
    by None after step h = cc
    by (Some next) after step h = let rest = step next after h in omega (arith, rest)

pub position : (r : Journal) (b : Rebuilt) (n : ℕ) → NumberedRebuild r b n → n ≤ 2 ^ 48 + length r.records
position r b n e =
    let a = taken_apart r b n e in
    let most = all_at_most Begun (bytes_of r.records) a.last (2 ^ 48) (omega arith) (omega arith) a.numbers in
    let same = a.position in
    let size : length (bytes_of r.records) ≡ length r.records = length-map r.records (λ (one : Record). one.payload) in
    omega (arith, most, same, size)

-- ---- one record more

head_number : (n : ℕ) (payload : List ℕ) → n < 2 ^ 64 → number_at 8 0 (number_bytes 8 n ++ payload) ≡ n
head_number n payload small = read_number 8 n small

-- the course behind a change under a number
course_behind : (course : Course) (n : ℕ) (payload : List ℕ) (c : Change) → change_in payload ≡ Some c → n < 2 ^ 64 → course_after course (number_bytes 8 n ++ payload) ≡ with_number course n (begins_base c) (continues_base c)
course_behind course n payload c e small =
    (is_change course (number_bytes 8 n ++ payload) c e).after ∙ ap (λ m. with_number course m (begins_base c) (continues_base c)) (head_number n payload small)

begins_nothing : (c : Change) → is_some (brings c) ≡ true → begins_base c ≡ false
begins_nothing (changes.Recorded id len addresses) h = refl
begins_nothing (changes.Wide id len addresses) h = refl
begins_nothing (changes.Edited id pieces) h = refl
begins_nothing (changes.Retained class key id note) h = refl
begins_nothing (changes.Forgotten class key) h = refl
begins_nothing (changes.Census keys) h = refl
begins_nothing (changes.Swept ids) h = refl
begins_nothing (changes.Advanced moment) h = refl
begins_nothing (changes.Base now next) h = refl
begins_nothing (changes.Base2 now next) h = cc
begins_nothing (changes.File file pairs) h = refl
begins_nothing (changes.File2 file pairs) h = refl
begins_nothing (changes.Rope id idle pieces) h = refl
begins_nothing (changes.Rope2 id idle last pieces) h = refl

-- the number behind the last one may come
next_comes : (course : Course) (continues : Bool) → with_number course (position_of course + 1) false continues ≡ Some (Later (position_of course + 1))
next_comes Begun continues = refl
next_comes (Base last) continues = ap (λ t. cond t (Some (Later (last + 1))) (cond (continues && (last + 1 == last)) (Some (Base last)) None)) (eq-eqb (last + 1) (last + 1) refl)
next_comes (Later last) continues = ap (λ t. cond t (Some (Later (last + 1))) None) (eq-eqb (last + 1) (last + 1) refl)

next_number : (course : Course) (n : ℕ) (payload : List ℕ) (c : Change) → position_of course ≡ n → change_in payload ≡ Some c → is_some (brings c) ≡ true → n + 1 < 2 ^ 64
    → course_after course (number_bytes 8 (n + 1) ++ payload) ≡ Some (Later (n + 1))
next_number course n payload c at spelled brought small =
    course_behind course (n + 1) payload c spelled small
    ∙ ap (λ b. with_number course (n + 1) b (continues_base c)) (begins_nothing c brought)
    ∙ ap (λ m. with_number course (m + 1) false (continues_base c)) (sym at)
    ∙ next_comes course (continues_base c)
    ∙ ap (λ m. Some (Later (m + 1))) at

course_more : (course : Course) (payloads : List (List ℕ)) (payload : List ℕ) (last next : Course) → course_of course payloads ≡ Some last → course_after last payload ≡ Some next → course_of course (payloads ++ payload ∷ []) ≡ Some next
course_more course [] payload last next e after =
    ap (λ (o : Option Course). course_by o (λ c. Some c)) (ap (λ (c : Course). course_after c payload) (course_same course last e) ∙ after)
course_more course (first ∷ payloads) payload last next e after = by (course_after course first) (λ c h. course_more c payloads payload last next h after) e
  where
    by : (o : Option Course) → ((c : Course) → course_of c payloads ≡ Some last → course_of c (payloads ++ payload ∷ []) ≡ Some next) → course_by o (λ c. course_of c payloads) ≡ Some last → course_by o (λ c. course_of c (payloads ++ payload ∷ [])) ≡ Some next
    by None step h = cc
    by (Some c) step h = step c h

bytes_more : (rs : List Record) (one : Record) → bytes_of (rs ++ one ∷ []) ≡ bytes_of rs ++ one.payload ∷ []
bytes_more [] one = refl
bytes_more (r ∷ rs) one = ap (λ (l : List (List ℕ)). r.payload ∷ l) (bytes_more rs one)

stripped_more : (rs : List Record) (one : Record) → stripped (rs ++ one ∷ []) ≡ stripped rs ++ stripped_one one ∷ []
stripped_more [] one = refl
stripped_more (r ∷ rs) one = ap (λ (l : List Record). stripped_one r ∷ l) (stripped_more rs one)

pub append :
    (r : Journal) (b : Rebuilt) (n : ℕ) (payload : List ℕ) (c : Change) → NumberedRebuild r b n
    → change_in payload ≡ Some c → is_some (brings c) ≡ true → is_legal b c ≡ true → n + 1 < 2 ^ 64 → NumberedRebuild (with_payload r (laws.numbered_payload (n + 1) payload)) (acted b c) (n + 1)
append r b n payload c e spelled brought legal small =
    let a = taken_apart r b n e in
    let one : Record = record_at r.gate (number_bytes 8 (n + 1) ++ payload) in
    together Begun (nothing_rebuilt r.shape) (r.records ++ one ∷ []) (acted b c) (n + 1)
    (record {
      changes = ap (replayed (nothing_rebuilt r.shape)) (stripped_more r.records one) ∙ journals.append (plain r) b payload c a.changes spelled brought legal;
      last = Later (n + 1);
      numbers = ap (course_of Begun) (bytes_more r.records one) ∙ course_more Begun (bytes_of r.records) one.payload a.last (Later (n + 1)) a.numbers (next_number a.last n payload c a.position spelled brought small);
      position = refl;
    })

-- ---- a base

-- records rebuild what others with the same payloads rebuild
same_payloads : (r : Rebuilt) (xs ys : List Record) (b : Rebuilt) → bytes_of xs ≡ bytes_of ys → replayed r xs ≡ Replayed.All b → replayed r ys ≡ Replayed.All b
same_payloads r [] [] b same e = e
same_payloads r [] (y ∷ ys) b same e = cc
same_payloads r (x ∷ xs) [] b same e = cc
same_payloads r (x ∷ xs) (y ∷ ys) b same e =
    let t = journals.accepted r x.at (change_in x.payload) (λ next. replayed next xs) b e in
    let parts = both x.payload y.payload (bytes_of xs) (bytes_of ys) same in
    journals.accepted_at r y.at (change_in y.payload) t.change (λ next. replayed next ys) (ap change_in (sym parts.0) ∙ t.spelled) t.legal
    ∙ same_payloads (acted r t.change) xs ys b parts.1 t.rest
  where
    both : (x y : List ℕ) (xs ys : List (List ℕ)) → x ∷ xs ≡ y ∷ ys → (x ≡ y) × (xs ≡ ys)
    both x y xs ys h = (cc, cc)

-- payloads behind a number are the same ones without it
numbers_off : (n at from : ℕ) (ps : List (List ℕ)) → bytes_of (records_of at ps) ≡ bytes_of (stripped (records_of from (map (laws.numbered_payload n) ps)))
numbers_off n at from [] = refl
numbers_off n at from (p ∷ ps) = ap (λ (l : List (List ℕ)). p ∷ l) (numbers_off n (at + 5 + length p) (from + 5 + length (laws.numbered_payload n p)) ps)

every_both : (P : Change → Type 0) (xs ys : List Change) → Every P xs → Every P ys → Every P (xs ++ ys)
every_both P [] ys h k = k
every_both P (x ∷ xs) ys h k = (h.0, every_both P xs ys h.1 k)

-- changes that stand in a base behind its first one
abbrev Continue : List Change → Type 0
Continue cs = Every (λ c. continues_base c ≡ true) cs

files_continue : (fs : List FileBlocks) → Continue (map (file_change 2) fs)
files_continue [] = tt
files_continue (f ∷ fs) = (refl, files_continue fs)

ropes_continue : (ropes : List (Live Spot)) → Continue (map (rope_change 2) ropes)
ropes_continue [] = tt
ropes_continue (rope ∷ ropes) = (refl, ropes_continue ropes)

rows_continue : (rows : List Row) → Continue (map row_change rows)
rows_continue [] = tt
rows_continue (row ∷ rows) = (refl, rows_continue rows)

-- the same number may come again in a base
again : (n : ℕ) (begins : Bool) → with_number (Base n) n begins true ≡ Some (Base n)
again n begins =
    ap (λ t. cond t (Some (Later n)) (cond (n == n) (Some (Base n)) None)) (ne_eqb n (n + 1) (λ h. omega (arith, h)))
    ∙ ap (λ t. cond t (Some (Base n)) None) (eq-eqb n n refl)

rest_numbers : (n at : ℕ) (cs : List Change) → n < 2 ^ 64 → Continue cs → Every (λ c. keeps_grammar c ≡ true) cs → course_of (Base n) (bytes_of (records_of at (map (laws.numbered_payload n) (map spelling cs)))) ≡ Some (Base n)
rest_numbers n at [] small continues grammar = refl
rest_numbers n at (c ∷ cs) small continues grammar =
    let one = course_behind (Base n) n (spelling c) c (spelled_is_read c grammar.0) small ∙ ap (with_number (Base n) n (begins_base c)) continues.0 ∙ again n (begins_base c) in
    ap (λ (o : Option Course). course_by o (λ next. course_of next (bytes_of (records_of (at + 5 + length (laws.numbered_payload n (spelling c))) (map (laws.numbered_payload n) (map spelling cs)))))) one
    ∙ rest_numbers n (at + 5 + length (laws.numbered_payload n (spelling c))) cs small continues.1 grammar.1

base_numbers : (n at now next : ℕ) (cs : List Change) → n ≤ 2 ^ 48 → Continue cs → Every (λ c. keeps_grammar c ≡ true) (changes.Base2 now next ∷ cs)
    → course_of Begun (bytes_of (records_of at (map (laws.numbered_payload n) (map spelling (changes.Base2 now next ∷ cs))))) ≡ Some (Base n)
base_numbers n at now next cs low continues grammar =
    let c : Change = changes.Base2 now next in
    let small : n < 2 ^ 64 = omega (arith, low) in
    let one = course_behind Begun n (spelling c) c (spelled_is_read c grammar.0) small ∙ ap (λ t. cond t (Some (Base n)) None) (le-leb n (2 ^ 48) low) in
    ap (λ (o : Option Course). course_by o (λ next. course_of next (bytes_of (records_of (at + 5 + length (laws.numbered_payload n (spelling c))) (map (laws.numbered_payload n) (map spelling cs)))))) one
    ∙ rest_numbers n (at + 5 + length (laws.numbered_payload n (spelling c))) cs small continues grammar.1

base_continues : (b : Rebuilt) → Continue (map (file_change 2) (by_file (in_order b.places)) ++ map (rope_change 2) b.ropes ++ map row_change b.rows)
base_continues b =
    every_both _ (map (file_change 2) (by_file (in_order b.places)) ++ map (rope_change 2) b.ropes) (map row_change b.rows)
    (every_both _ (map (file_change 2) (by_file (in_order b.places))) (map (rope_change 2) b.ropes) (files_continue (by_file (in_order b.places))) (ropes_continue b.ropes)) (rows_continue b.rows)

plain_spot : (s : Spot) → spot_of (plain_sample s) ≡ s
plain_spot s = refl

pub switch :
    (r : Journal) (b : Rebuilt) (n : ℕ) → IsRebuilt plain_sample b → IsPlaced b → AllUsed b → CanBeSpelled 2 b → b.shape ≡ r.shape → n ≤ 2 ^ 48
    → (end : Rebuilt) × NumberedRebuild (switched r (map (laws.numbered_payload n) (map spelling (base_of 2 b)))) end n × (end.kept ≡ b.kept) × (end.form ≡ 2) × (end.places ≡ in_order b.places) × ((image : List ℕ) → recovered image end ≡ recovered image b)
switch r b n kept placed used can shaped low =
    let s = journals.switch r 2 b kept placed used can shaped in
    let grammar = (reads_back plain_sample plain_spot 2 b kept placed used can).grammar in
    let payloads = map (laws.numbered_payload n) (map spelling (base_of 2 b)) in (
      s.0,
      together Begun (nothing_rebuilt r.shape) (records_of 16 payloads) s.0 n
          (record {
            changes = same_payloads (nothing_rebuilt r.shape) (records_of 16 (map spelling (base_of 2 b))) (stripped (records_of 16 payloads)) s.0 (numbers_off n 16 16 (map spelling (base_of 2 b))) s.1;
            last = Base n;
            numbers = base_numbers n 16 b.moment b.next (map (file_change 2) (by_file (in_order b.places)) ++ map (rope_change 2) b.ropes ++ map row_change b.rows) low (base_continues b) grammar;
            position = refl;
          }),
      s.2,
      s.3,
      s.4,
      s.5,
    )
