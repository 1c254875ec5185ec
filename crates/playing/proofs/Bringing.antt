-- The blocks of a window are brought in one after another.
use Rattle.std.proofs.Common.{◌≡◌, ◌≢◌, ℕ, zero, suc, ◌+◌, ◌/◌, ◌<◌, ◌≤◌, ◌⊎◌, inl, inr, Bool, true, false, ◌&&◌, ◌||◌, cond, ◌==◌, List, [], ◌∷◌, length, drop, refl, sym, ◌∙◌, ap, ap₂, subst, arith, Option, Some, get_or, set}
use Rattle.std.proofs.lemmas.Bool.{eqb-true, eq-eqb}
use Rattle.std.proofs.lemmas.List.{get_or-set_same, get_or-set_other}
use Rattle.std.specs.Prelude.{slice_get, Result, IsTrue}
use Rattle.std.specs.List.{list_any}
use Rattle.voice_units.specs.declared.pieces.Piece.{Piece}
use Rattle.voice_units.specs.declared.shapes.Shape.{Shape}
use Rattle.voice_outside.specs.Disk.{Told, MakesAtMost}
use Rattle.voice_blocks.specs.Holders.{Holders}
use Rattle.playing.specs.declared.blocks.Block.{Block}
use Rattle.playing.specs.Frames.{FramesState, resident_at, block_at, is_resident, holds, is_in, is_wanted, missing, HoldsBytes, AreOnDisk, OnlyReads, HasRead, IsLoaded, IsReadied, IsBroughtIn, IsReady, AreReady, EachHas, AreFound}
use Rattle.playing.proofs.Kept.{by_set, not_there}
use Rattle.playing.proofs.Missing.{AreAmong, own_block, among_rest, one_fewer, absent_counts}

-- ---- reads

pub no_reads : (t : Told) → OnlyReads t t
no_reads t = record { bytes = refl; now = λ image h. h; time = record { since = λ u image le h. inl h; keeps = λ u image le h. h } }

pub more_reads : (old mid new : Told) → old.calls ≤ mid.calls → OnlyReads old mid → OnlyReads mid new → OnlyReads old new
more_reads old mid new later h k = record {
  bytes = k.bytes ∙ h.bytes;
  now = λ image l. h.now image (k.now image l);
  time = record {
    since = λ u image le l. elim (k.time.since u image (omega arith) l) as (λ x. old.may_leave u image ⊎ old.may_leave old.calls image) [ inl was ↦ h.time.since u image le was | inr is ↦ inr (h.now image is) ];
    keeps = λ u image le l. k.time.keeps u image (omega arith) (h.time.keeps u image le l);
  };
}

pub none_read : (t : Told) → HasRead 0 t t
none_read t = record { size = refl; honest = refl; later = omega arith; calls = omega arith; faults = omega arith; reads = λ h. no_reads t }

pub one_read : {T E : Type 0} (m n k : ℕ) (old mid new : Told) (r : Result T E) → HasRead m old mid → MakesAtMost n mid new r → (IsTrue mid.honest → OnlyReads mid new) → m + n ≤ k → HasRead k old new
one_read m n k old mid new r h made reads few = record {
  size = made.size ∙ h.size;
  honest = made.honest ∙ h.honest;
  later = omega (arith, h.later, made.later);
  calls = omega (arith, h.calls, made.calls, few);
  faults = omega (arith, h.faults, made.faults);
  reads = λ is. more_reads old mid new h.later (h.reads is) (reads (subst IsTrue (sym h.honest) is));
}

-- ---- the frames

pub same_frames : (block : ℕ) (window : List Piece) (s : FramesState) → IsBroughtIn block window s s
same_frames block window s = record { pool = refl; lanes = λ l. refl; came = λ f d h. inl h; left = λ f d h. inl h }

loaded_came : (block : ℕ) (window : List Piece) (b : Block) (frame : ℕ) (old new : FramesState) → IsLoaded block window b frame old new → (f : ℕ) (d : Block) → resident_at new.resident f ≡ Some d → (resident_at old.resident f ≡ Some d) ⊎ (b ≡ d)
loaded_came block window b frame old new h f d at = either (f == frame) refl (by_set old.resident frame f (Some b) (Some d) (f == frame) h.low refl (ap (λ r. resident_at r f) (sym h.resident) ∙ at))
  where
    either : (t : Bool) → (f == frame) ≡ t → cond t (Some b ≡ Some d) (resident_at old.resident f ≡ Some d) → (resident_at old.resident f ≡ Some d) ⊎ (b ≡ d)
    either true e p = inr (let one : b ≡ d = cc in one)
    either false e p = inl p

-- a frame keeps its block, or is the one that got another, whose own no stretch wants
loaded_left : (block : ℕ) (window : List Piece) (b : Block) (frame : ℕ) (old new : FramesState) → IsLoaded block window b frame old new → (f : ℕ) (d : Block) → resident_at old.resident f ≡ Some d → (resident_at new.resident f ≡ Some d) ⊎ ((resident_at new.resident f ≡ Some b) × (is_wanted block window (Some d) ≡ false))
loaded_left block window b frame old new h f d at = either (f == frame) refl (by_set old.resident frame f (Some b) (resident_at new.resident f) (f == frame) h.low refl (ap (λ r. resident_at r f) (sym h.resident)))
  where
    either : (t : Bool) → (f == frame) ≡ t → cond t (Some b ≡ resident_at new.resident f) (resident_at old.resident f ≡ resident_at new.resident f) → (resident_at new.resident f ≡ Some d) ⊎ ((resident_at new.resident f ≡ Some b) × (is_wanted block window (Some d) ≡ false))
    either true e p =
        let same : f ≡ frame = eqb-true f frame e in
        inr (sym p, ap (is_wanted block window) (sym at ∙ ap (resident_at old.resident) same) ∙ h.unwanted)
    either false e p = inl (sym p ∙ at)

no : {t : Bool} → t ≡ true → t ≡ false → ⊥
no x y = cc

-- a frame has another block than before, which was in none, while no stretch wants its own
abbrev HasOther : ℕ → List Piece → FramesState → FramesState → ℕ → Block → Type 0
HasOther block window old new f d = (e : Block) × (resident_at new.resident f ≡ Some e) × ((g : ℕ) → resident_at old.resident g ≢ Some e) × (list_any (is_in block d) window ≡ false)

pub frames_more : (block : ℕ) (window : List Piece) (b : Block) (s0 s s' : FramesState) → list_any (is_in block b) window ≡ true → IsBroughtIn block window s0 s → IsReadied block window b s s' → IsBroughtIn block window s0 s'
frames_more block window b s0 s s' wanted h (inl same) = subst (λ (x : FramesState). IsBroughtIn block window s0 x) (sym same) h
frames_more block window b s0 s s' wanted h (inr (frame, k)) = record {
  pool = k.pool ∙ h.pool;
  lanes = λ l. k.lanes l ∙ h.lanes l;
  came = λ f d at. elim (loaded_came block window b frame s s' k f d at) as (λ x. (resident_at s0.resident f ≡ Some d) ⊎ (list_any (is_in block d) window ≡ true)) [ inl was ↦ h.came f d was | inr one ↦ inr (ap (λ (x : Block). list_any (is_in block x) window) (sym one) ∙ wanted) ];
  left = λ f d at. goes f d (h.left f d at);
}
  where
    never_by : (g : ℕ) → (resident_at s.resident g ≡ Some b) ⊎ HasOther block window s0 s g b → ⊥
    never_by g (inl was) = k.absent g was
    never_by g (inr (e, is, none, free)) = no wanted free

    stays : (f : ℕ) (d e : Block) → (resident_at s'.resident f ≡ Some e) ⊎ ((resident_at s'.resident f ≡ Some b) × (is_wanted block window (Some e) ≡ false)) → ((g : ℕ) → resident_at s0.resident g ≢ Some e) → list_any (is_in block d) window ≡ false → HasOther block window s0 s' f d
    stays f d e (inl is) none free = (e, is, none, free)
    stays f d e (inr gone) none free = (b, gone.0, (λ g at. never_by g (h.left g b at)), free)

    first : (f : ℕ) (d : Block) → (resident_at s'.resident f ≡ Some d) ⊎ ((resident_at s'.resident f ≡ Some b) × (is_wanted block window (Some d) ≡ false)) → (resident_at s'.resident f ≡ Some d) ⊎ HasOther block window s0 s' f d
    first f d (inl is) = inl is
    first f d (inr gone) = inr (b, gone.0, (λ g at. never_by g (h.left g b at)), gone.1)

    goes : (f : ℕ) (d : Block) → (resident_at s.resident f ≡ Some d) ⊎ HasOther block window s0 s f d → (resident_at s'.resident f ≡ Some d) ⊎ HasOther block window s0 s' f d
    goes f d (inl was) = first f d (loaded_left block window b frame s s' k f d was)
    goes f d (inr (e, is, none, free)) = inr (stays f d e (loaded_left block window b frame s s' k f e is) none free)

-- ---- the first stretches

-- the first n stretches are in frames
pub record IsUnderway (shape : Shape) (held : Holders) (window : List Piece) (frames_found : List ℕ) (n : ℕ) (s0 s : FramesState) (t0 t : Told) : Type 0 where
  pub made : ℕ
  pub read : HasRead made t0 t
  pub count : made + missing shape.block s.resident (drop n window) ≤ missing shape.block s0.resident window
  pub frames : IsBroughtIn shape.block window s0 s
  pub found : AreFound shape.block s.resident window frames_found n
  pub bytes : IsTrue t0.honest → (bytes : ℕ → ℕ → List ℕ) → AreOnDisk bytes shape t0.bytes held → HoldsBytes bytes s0 → HoldsBytes bytes s

pub begun : (shape : Shape) (held : Holders) (window : List Piece) (found : List ℕ) (s : FramesState) (t : Told) → IsUnderway shape held window found 0 s s t t
begun shape held window found s t = record {
  made = 0;
  read = none_read t;
  count = omega arith;
  frames = same_frames shape.block window s;
  found = λ j x low. absurd (omega arith);
  bytes = λ honest bytes there was. was;
}

-- a frame keeps the block of a stretch
stays_found : (block : ℕ) (window : List Piece) (b : Block) (s s' : FramesState) (x : Piece) (f : ℕ) → list_any (is_in block (block_at block x)) window ≡ true → IsReadied block window b s s' → resident_at s.resident f ≡ Some (block_at block x) → resident_at s'.resident f ≡ Some (block_at block x)
stays_found block window b s s' x f among (inl same) at = ap (λ (y : FramesState). resident_at y.resident f) same ∙ at
stays_found block window b s s' x f among (inr (frame, k)) at = stays (loaded_left block window b frame s s' k f (block_at block x) at)
  where
    stays : (resident_at s'.resident f ≡ Some (block_at block x)) ⊎ ((resident_at s'.resident f ≡ Some b) × (is_wanted block window (Some (block_at block x)) ≡ false)) → resident_at s'.resident f ≡ Some (block_at block x)
    stays (inl is) = is
    stays (inr gone) = absurd (no among gone.1)

-- frames that are found hold their blocks
pub are_ready : (block : ℕ) (resident : List (Option Block)) (window : List Piece) (found : List ℕ) (n : ℕ) → AreFound block resident window found n → AreReady block resident window n
are_ready block resident window found n h j s low at = (get_or found j 0, h j s low at)

-- the next stretch has its number too
pub each_more : (P : Piece → ℕ → Type 0) (window : List Piece) (numbers : List ℕ) (n v : ℕ) (x : Piece) → n < length numbers → slice_get window n ≡ Some x → P x v → EachHas P window numbers n → EachHas P window (set numbers n v) (n + 1)
each_more P window numbers n v x low at new h j s less there = by_place (j == n) refl
  where
    some_same : (y z : Piece) → Some y ≡ Some z → y ≡ z
    some_same y z e = cc

    below : (a b : ℕ) → a < b + 1 → (a ≡ b → ⊥) → a < b
    below a b lt ne = omega arith

    by_place : (t : Bool) → (j == n) ≡ t → P s (get_or (set numbers n v) j 0)
    by_place true e =
        let same : j ≡ n = eqb-true j n e in
        subst (λ (i : ℕ). P s (get_or (set numbers n v) i 0)) (sym same)
        (subst (P s) (sym (get_or-set_same numbers n v 0 low))
        (subst (λ (y : Piece). P y v) (some_same x s (sym at ∙ ap (slice_get window) (sym same) ∙ there)) new))
    by_place false e =
        let other : j ≡ n → ⊥ = λ same. no (eq-eqb j n same) e in
        subst (P s) (sym (get_or-set_other numbers n j v 0 other)) (h j s (below j n less other) there)

-- a stretch of a window is in a block that it wants
pub any_get : {A : Type 0} (p : A → Bool) (xs : List A) (j : ℕ) (x : A) → slice_get xs j ≡ Some x → p x ≡ true → list_any p xs ≡ true
any_get p [] j x at h = cc
any_get p (y ∷ xs) zero x at h = let e : y ≡ x = cc in ap (λ t. t || list_any p xs) (ap p e ∙ h)
any_get p (y ∷ xs) (suc j) x at h = ap (λ t. p y || t) (any_get p xs j x at h) ∙ last (p y)
  where
    last : (a : Bool) → (a || true) ≡ true
    last true = refl
    last false = refl

pub wanted_at : (block : ℕ) (window : List Piece) (j : ℕ) (x : Piece) → slice_get window j ≡ Some x → list_any (is_in block (block_at block x)) window ≡ true
wanted_at block window j x at = any_get (is_in block (block_at block x)) window j x at (own_block block x)

pub get_slice : {A : Type 0} (xs : List A) (i : ℕ) (x : A) → i < length xs → x ≡ get_or xs i x → slice_get xs i ≡ Some x
get_slice [] i x low at = absurd (omega arith)
get_slice (y ∷ xs) zero x low at = ap Some (sym at)
get_slice (y ∷ xs) (suc i) x low at = get_slice xs i x (omega arith) at

-- a stretch that is ready is in a frame
pub holder_found : (resident : List (Option Block)) (f : ℕ) (b : Block) → resident_at resident f ≡ Some b → is_resident resident b.file b.index ≡ true
holder_found [] f b at = cc
holder_found (o ∷ resident) zero b at = ap (λ (x : Option Block). holds b.file b.index x || is_resident resident b.file b.index) at ∙ ap (λ t. t || is_resident resident b.file b.index) (ap₂ (λ x y. x && y) (eq-eqb b.file b.file refl) (eq-eqb b.index b.index refl))
holder_found (o ∷ resident) (suc f) b at = ap (λ t. holds b.file b.index o || t) (holder_found resident f b at) ∙ last (holds b.file b.index o)
  where
    last : (a : Bool) → (a || true) ≡ true
    last true = refl
    last false = refl

-- how many calls the next stretch takes
counts_more : (block : ℕ) (window rest : List Piece) (s s' : FramesState) (x : Piece) → AreAmong block window rest → IsReadied block window (block_at block x) s s' → IsReady block s'.resident x → missing block s'.resident rest + cond (is_resident s.resident x.file (x.from / block)) 0 1 ≤ cond (is_resident s.resident x.file (x.from / block) || list_any (is_in block (block_at block x)) rest) 0 1 + missing block s.resident rest
counts_more block window rest s s' x among (inl same) (f, at) =
    by (is_resident s.resident x.file (x.from / block)) (list_any (is_in block (block_at block x)) rest) _ _ (holder_found s.resident f (block_at block x) (ap (λ (y : FramesState). resident_at y.resident f) (sym same) ∙ at)) (ap (λ (y : FramesState). missing block y.resident rest) same)
  where
    by : (is any : Bool) (m n : ℕ) → is ≡ true → m ≡ n → m + cond is 0 1 ≤ cond (is || any) 0 1 + n
    by true any m n e h = omega (arith, h)
    by false any m n e h = cc
counts_more block window rest s s' x among (inr (frame, k)) ready =
    by (is_resident s.resident x.file (x.from / block)) (list_any (is_in block (block_at block x)) rest) _ _ (not_there s.resident (block_at block x) k.absent)
    (one_fewer block window s.resident s'.resident frame (block_at block x) rest k.low k.resident k.unwanted (not_there s.resident (block_at block x) k.absent) among)
  where
    by : (is any : Bool) (m n : ℕ) → is ≡ false → m + cond any 1 0 ≤ n → m + cond is 0 1 ≤ cond (is || any) 0 1 + n
    by true any m n e h = cc
    by false true m n e h = omega (arith, h)
    by false false m n e h = omega (arith, h)

-- the next stretch counts, where no frame holds its block
one_counts : (block : ℕ) (resident : List (Option Block)) (x : Piece) (rest : List Piece) → cond (is_resident resident x.file (x.from / block)) 0 1 ≤ cond (is_resident resident x.file (x.from / block) || list_any (is_in block (block_at block x)) rest) 0 1 + missing block resident rest
one_counts block resident x rest = either (is_resident resident x.file (x.from / block)) refl
  where
    by : (any : Bool) (m : ℕ) → cond any 1 0 ≤ m → 1 ≤ cond any 0 1 + m
    by true m h = omega (arith, h)
    by false m h = omega arith

    either : (t : Bool) → is_resident resident x.file (x.from / block) ≡ t → cond t 0 1 ≤ cond (t || list_any (is_in block (block_at block x)) rest) 0 1 + missing block resident rest
    either true e = omega arith
    either false e = by (list_any (is_in block (block_at block x)) rest) (missing block resident rest) (absent_counts block resident (block_at block x) rest e)

-- what lies behind the first n is the next one and what lies behind it
next_of : {A : Type 0} (xs : List A) (n : ℕ) (x : A) → slice_get xs n ≡ Some x → drop n xs ≡ x ∷ drop (n + 1) xs
next_of [] n x at = cc
next_of (y ∷ xs) zero x at = let e : y ≡ x = cc in ap (λ z. z ∷ xs) e
next_of (y ∷ xs) (suc n) x at = next_of xs n x at ∙ ap (λ k. x ∷ drop k (y ∷ xs)) (let e : suc (n + 1) ≡ suc n + 1 = omega arith in e)

missing_at : (block : ℕ) (resident : List (Option Block)) (window : List Piece) (n : ℕ) (x : Piece) → slice_get window n ≡ Some x → missing block resident (drop n window) ≡ cond (is_resident resident x.file (x.from / block) || list_any (is_in block (block_at block x)) (drop (n + 1) window)) 0 1 + missing block resident (drop (n + 1) window)
missing_at block resident window n x at = ap (missing block resident) (next_of window n x at)

-- one stretch more is in a frame
pub brought_more : {T E : Type 0} (shape : Shape) (held : Holders) (window : List Piece) (found : List ℕ) (n f : ℕ) (s0 s s' : FramesState) (t0 t t' : Told) (x : Piece) (r : Result T E)
    → IsUnderway shape held window found n s0 s t0 t → n < length found → slice_get window n ≡ Some x
    → MakesAtMost (cond (is_resident s.resident x.file (x.from / shape.block)) 0 1) t t' r → (IsTrue t.honest → OnlyReads t t')
    → resident_at s'.resident f ≡ Some (block_at shape.block x) → IsReadied shape.block window (block_at shape.block x) s s'
    → (IsTrue t.honest → (bytes : ℕ → ℕ → List ℕ) → AreOnDisk bytes shape t.bytes held → HoldsBytes bytes s → HoldsBytes bytes s')
    → IsUnderway shape held window (set found n f) (n + 1) s0 s' t0 t'
brought_more shape held window found n f s0 s s' t0 t t' x r h low at made reads here step bytes =
    let one = cond (is_resident s.resident x.file (x.from / shape.block)) 0 1 in
    let wanted = wanted_at shape.block window n x at in
    let was = missing_at shape.block s.resident window n x at in
    let next = counts_more shape.block window (drop (n + 1) window) s s' x (among_rest shape.block window (n + 1)) step (f, here) in
    record {
      made = h.made + one;
      read = one_read h.made one (h.made + one) t0 t t' r h.read made reads (omega arith);
      count = omega (arith, h.count, was, next);
      frames = frames_more shape.block window (block_at shape.block x) s0 s s' wanted h.frames step;
      found = each_more (λ y g. resident_at s'.resident g ≡ Some (block_at shape.block y)) window found n f x low at here
          (λ j y less there. stays_found shape.block window (block_at shape.block x) s s' y (get_or found j 0) (wanted_at shape.block window j y there) step (h.found j y less there));
      bytes = λ honest bs there held_bytes. bytes (subst IsTrue (sym h.read.honest) honest) bs (subst (λ (image : List ℕ). AreOnDisk bs shape image held) (sym (h.read.reads honest).bytes) there) (h.bytes honest bs there held_bytes);
    }

-- a read that fails is counted
pub failed_more : {T E : Type 0} (shape : Shape) (held : Holders) (window : List Piece) (found : List ℕ) (n : ℕ) (s0 s : FramesState) (t0 t t' : Told) (x : Piece) (r : Result T E)
    → IsUnderway shape held window found n s0 s t0 t → slice_get window n ≡ Some x
    → MakesAtMost (cond (is_resident s.resident x.file (x.from / shape.block)) 0 1) t t' r → (IsTrue t.honest → OnlyReads t t')
    → HasRead (missing shape.block s0.resident window) t0 t'
failed_more shape held window found n s0 s t0 t t' x r h at made reads =
    let one = cond (is_resident s.resident x.file (x.from / shape.block)) 0 1 in
    let was = missing_at shape.block s.resident window n x at in
    let next = one_counts shape.block s.resident x (drop (n + 1) window) in
    one_read h.made one (missing shape.block s0.resident window) t0 t t' r h.read made reads (omega (arith, h.count, was, next))
