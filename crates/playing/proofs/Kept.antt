-- What frames keep is kept.
use Rattle.std.proofs.Common.{◌≡◌, ◌≢◌, ℕ, suc, ◌*◌, ◌<◌, ◌≤◌, Bool, true, false, cond, ◌==◌, List, [], ◌∷◌, length, refl, sym, ◌∙◌, ap, subst, arith, Option, Some, None, get_or, set}
use Rattle.std.proofs.Math.ListN.{length-set}
use Rattle.std.proofs.lemmas.Bool.{eqb-true, eq-eqb, ne_eqb}
use Rattle.std.proofs.lemmas.List.{get_or-set_same, get_or-set_other}
use Rattle.std.specs.Prelude.{◌||◌, ◌&&◌, Result, IsErr}
use Rattle.std.specs.List.{list_any}
use Rattle.voice_units.specs.declared.pieces.Piece.{Piece}
use Rattle.voice_units.specs.declared.shapes.Shape.{Shape}
use Rattle.voice_units.proofs.PiecesOfRopes.{both}
use Rattle.voice_outside.specs.Disk.{Told, MakesAtMost, segment}
use Rattle.voice_blocks.specs.Holders.{Holders, holder_at}
use Rattle.voice_blocks.specs.Holders as holders
use Rattle.voice_blocks.specs.declared.owner.Owner.TheVariants.{File}
use Rattle.voice_blocks.specs.Place.{block_place}
use Rattle.frame_pool.specs.declared.views.Part.{Part}
use Rattle.frame_pool.specs.declared.views.LaneState.{LaneState}
use Rattle.frame_pool.specs.declared.views.Stage.{Stage}
use Rattle.frame_pool.specs.declared.views.Stage.TheVariants.{Free, Reserved, Handed, Ended}
use Rattle.frame_pool.specs.Steps.{lane_at, parts_of, ended}
use Rattle.frame_pool.specs.Pool.{KeeperState, Identity, IsSized, ChangesLane, lanes_of, block_of, stage_of, frame_of}
use Rattle.playing.specs.declared.blocks.Block.{Block}
use Rattle.playing.specs.Frames.{FramesState, IsFrames, HoldsBytes, AreOnDisk, resident_at, read_by, is_read, is_wanted, is_in, is_resident, holds}
use Rattle.playing.proofs.Pigeons.{some_spare, same_name, not_true}

-- a frame that is now known to hold a block held it before, or is the one that got it
pub by_set : (resident : List (Option Block)) (frame f : ℕ) (b : Option Block) (o : Option Block) (t : Bool) → frame < length resident → (f == frame) ≡ t → resident_at (set resident frame b) f ≡ o → cond t (b ≡ o) (resident_at resident f ≡ o)
by_set resident frame f b o true low e h = let same : f ≡ frame = eqb-true f frame e in sym (get_or-set_same resident frame b None low) ∙ ap (λ g. resident_at (set resident frame b) g) (sym same) ∙ h
by_set resident frame f b o false low e h = sym (get_or-set_other resident frame f b None (λ same. no (eq-eqb f frame same) e)) ∙ h
  where
    no : {t : Bool} → t ≡ true → t ≡ false → ⊥
    no x y = cc

once_set : (resident : List (Option Block)) (frame : ℕ) (b : Block) → frame < length resident → ((f : ℕ) → resident_at resident f ≢ Some b) → ((f g : ℕ) (d : Block) → resident_at resident f ≡ Some d → resident_at resident g ≡ Some d → f ≡ g) → (f g : ℕ) (d : Block) → resident_at (set resident frame (Some b)) f ≡ Some d → resident_at (set resident frame (Some b)) g ≡ Some d → f ≡ g
once_set resident frame b low none once f g d h k = either (f == frame) (g == frame) refl refl (by_set resident frame f (Some b) (Some d) (f == frame) low refl h) (by_set resident frame g (Some b) (Some d) (g == frame) low refl k)
  where
    either : (s t : Bool) → (f == frame) ≡ s → (g == frame) ≡ t → cond s (Some b ≡ Some d) (resident_at resident f ≡ Some d) → cond t (Some b ≡ Some d) (resident_at resident g ≡ Some d) → f ≡ g
    either true true e i p q = eqb-true f frame e ∙ sym (eqb-true g frame i)
    either true false e i p q = absurd (none g (q ∙ sym p))
    either false true e i p q = absurd (none f (p ∙ sym q))
    either false false e i p q = once f g d p q

-- the lanes of another keeper of the same pool are as they were
pub frames_loaded : (k k' : KeeperState) (resident : List (Option Block)) (readers : List (List Part)) (room room' frame : ℕ) (b : Block)
    → IsFrames k resident readers room → k'.pool ≡ k.pool → ((l : ℕ) → lane_at k'.view l ≡ lane_at k.view l)
    → ((f : ℕ) → resident_at resident f ≢ Some b) → room' ≡ block_of k → frame < length resident → length (frame_of k' frame) ≡ block_of k → ((f : ℕ) → f ≢ frame → frame_of k' f ≡ frame_of k f)
    → IsFrames k' (set resident frame (Some b)) readers room'
frames_loaded k k' resident readers room room' frame b h pool lanes none whole low filled others = record {
  sized = subst (λ (p : Identity). IsSized p.sizes) (sym pool) h.sized;
  frames = length-set resident frame (Some b) ∙ h.frames ∙ ap (λ (p : Identity). 4 * p.sizes.lanes) (sym pool);
  lanes = h.lanes ∙ ap (λ (p : Identity). p.sizes.lanes) (sym pool);
  known = λ l lt. ap (λ (d : LaneState). parts_of d.stage) (lanes l) ∙ h.known l (subst (λ (p : Identity). l < p.sizes.lanes) pool lt);
  few = h.few;
  unreserved = λ l ps e. h.unreserved l ps (sym (ap (λ (d : LaneState). d.stage) (lanes l)) ∙ e);
  low = λ l le. ap (λ (d : LaneState). d.stage) (lanes l) ∙ h.low l (subst (λ (p : Identity). p.sizes.lanes ≤ l) pool le);
  once = once_set resident frame b low none h.once;
  room_is = whole ∙ ap (λ (p : Identity). p.sizes.block) (sym pool);
  whole = λ f near. by f (f == frame) refl (omega (arith, near, length-set resident frame (Some b))) ∙ ap (λ (p : Identity). p.sizes.block) (sym pool);
}
  where
    no : {t : Bool} → t ≡ true → t ≡ false → ⊥
    no x y = cc

    by : (f : ℕ) (t : Bool) → (f == frame) ≡ t → f < length resident → length (frame_of k' f) ≡ block_of k
    by f true e near = ap (λ g. length (frame_of k' g)) (eqb-true f frame e) ∙ filled
    by f false e near = ap (λ l. length l) (others f (λ same. no (eq-eqb f frame same) e)) ∙ h.whole f near

-- there is a frame that may be filled
pub spare_frames : (k : KeeperState) (resident : List (Option Block)) (readers : List (List Part)) (room block : ℕ) (window : List Piece) (l : ℕ) (b : Block)
    → IsFrames k resident readers room → l < lanes_of k → stage_of k l ≡ Free → length window ≤ 4 → list_any (is_in block b) window ≡ true → ((f : ℕ) → resident_at resident f ≢ Some b)
    → ((f : ℕ) → f < length resident → (is_read readers f || is_wanted block window (resident_at resident f)) ≡ true) → ⊥
spare_frames k resident readers room block window l b h low free short some none all =
    some_spare block resident readers window l (lanes_of k) b h.frames h.lanes h.few low
    (ap (λ (ps : List Part). length ps) (sym (h.known l low) ∙ ap parts_of free)) h.once short some none all

-- ---- which blocks are there

pub not_there : (resident : List (Option Block)) (b : Block) → ((f : ℕ) → resident_at resident f ≢ Some b) → list_any (holds b.file b.index) resident ≡ false
not_there [] b none = refl
not_there (None ∷ resident) b none = not_there resident b (λ f. none (suc f))
not_there (Some d ∷ resident) b none = ap (λ t. t || list_any (holds b.file b.index) resident) other ∙ not_there resident b (λ f. none (suc f))
  where
    other : ((d.file == b.file) && (d.index == b.index)) ≡ false
    other = not_true _ (λ e. let s = both (d.file == b.file) (d.index == b.index) e in none 0 (ap Some (same_name d b (eqb-true d.file b.file s.0) (eqb-true d.index b.index s.1))))

pub one_missing : (resident : List (Option Block)) (b : Block) → ((f : ℕ) → resident_at resident f ≢ Some b) → 1 ≤ cond (is_resident resident b.file b.index) 0 1
one_missing resident b none = subst (λ (t : Bool). 1 ≤ cond t 0 1) (sym (not_there resident b none)) (omega arith)

pub retold : {T E U F : Type 0} (m n : ℕ) (old new : Told) (r : Result T E) (s : Result U F) → m ≤ n → (IsErr s → IsErr r) → MakesAtMost m old new r → MakesAtMost n old new s
retold m n old new r s more errs h = record { size = h.size; honest = h.honest; later = h.later; calls = omega (arith, h.calls, more); faults = h.faults; cause = λ e. h.cause (errs e) }

-- ---- bytes

pub holds_loaded : (bytes : ℕ → ℕ → List ℕ) (shape : Shape) (image : List ℕ) (held : Holders) (old new : FramesState) (frame a : ℕ) (b : Block)
    → AreOnDisk bytes shape image held → HoldsBytes bytes old → holder_at held a ≡ Some (holders.block_of (File b.file) b.index) → frame < length old.resident
    → new.resident ≡ set old.resident frame (Some b) → frame_of new.keeper frame ≡ segment image (block_place shape a) shape.block
    → ((f : ℕ) → f ≢ frame → frame_of new.keeper f ≡ frame_of old.keeper f) → HoldsBytes bytes new
holds_loaded bytes shape image held old new frame a b there was at low is filled others f d h = either (f == frame) refl (by_set old.resident frame f (Some b) (Some d) (f == frame) low refl (ap (λ r. resident_at r f) (sym is) ∙ h))
  where
    either : (t : Bool) → (f == frame) ≡ t → cond t (Some b ≡ Some d) (resident_at old.resident f ≡ Some d) → frame_of new.keeper f ≡ bytes d.file d.index
    either true e p =
        let same : f ≡ frame = eqb-true f frame e in
        let one : b ≡ d = cc in
        ap (frame_of new.keeper) same ∙ filled ∙ there a b.file b.index at ∙ ap (λ (x : Block). bytes x.file x.index) one
    either false e p = others f (λ same. no (eq-eqb f frame same) e) ∙ was f d p
      where
        no : {t : Bool} → t ≡ true → t ≡ false → ⊥
        no x y = cc

pub absent_in : (inside self : FramesState) (xs : List (Option Block)) (b : Block) → inside ≡ self → xs ≡ inside.resident → ((f : ℕ) → resident_at xs f ≢ Some b) → (f : ℕ) → resident_at self.resident f ≢ Some b
absent_in inside self xs b same is none = subst (λ (s : FramesState). (f : ℕ) → resident_at s.resident f ≢ Some b) same (subst (λ (resident : List (Option Block)). (f : ℕ) → resident_at resident f ≢ Some b) is none)

-- ---- one lane changes

-- the parts of one lane change
read_set : (readers : List (List Part)) (i l : ℕ) (ps : List Part) (t : Bool) → i < length readers → (l == i) ≡ t → read_by (set readers i ps) l ≡ cond t ps (read_by readers l)
read_set readers i l ps true low e = let same : l ≡ i = eqb-true l i e in ap (λ g. read_by (set readers i ps) g) same ∙ get_or-set_same readers i ps [] low
read_set readers i l ps false low e = get_or-set_other readers i l ps [] (λ same. no (eq-eqb l i same) e)
  where
    no : {t : Bool} → t ≡ true → t ≡ false → ⊥
    no x y = cc

-- the frames, as what is known of one lane changes
pub frames_lane : (k k' : KeeperState) (resident : List (Option Block)) (readers : List (List Part)) (room lane i : ℕ) (ps : List Part)
    → IsFrames k resident readers room → ChangesLane k k' lane → i ≡ lane → lane < lanes_of k → parts_of (stage_of k' lane) ≡ ps → length ps ≤ 4 → ((qs : List Part) → stage_of k' lane ≢ Reserved qs)
    → IsFrames k' resident (set readers i ps) room
frames_lane k k' resident readers room lane i ps h changes is low parts few free = record {
  sized = subst (λ (p : Identity). IsSized p.sizes) (sym changes.pool) h.sized;
  frames = h.frames ∙ ap (λ (p : Identity). 4 * p.sizes.lanes) (sym changes.pool);
  lanes = length-set readers i ps ∙ h.lanes ∙ ap (λ (p : Identity). p.sizes.lanes) (sym changes.pool);
  known = λ l lt. known_by l (subst (λ (p : Identity). l < p.sizes.lanes) changes.pool lt) (l == i) refl;
  few = λ l. few_by l (l == i) refl;
  low = λ l le. low_by l (subst (λ (p : Identity). p.sizes.lanes ≤ l) changes.pool le);
  unreserved = λ l qs e. unreserved_by l qs (l == i) refl e;
  once = h.once;
  room_is = h.room_is ∙ ap (λ (p : Identity). p.sizes.block) (sym changes.pool);
  whole = λ f near. ap (λ (frames : List (List ℕ)). length (get_or frames f [])) changes.frames ∙ h.whole f near ∙ ap (λ (p : Identity). p.sizes.block) (sym changes.pool);
}
  where
    within : i < length readers
    within = omega (arith, is, low, h.lanes)

    no : {t : Bool} → t ≡ true → t ≡ false → ⊥
    no x y = cc

    stays : (l : ℕ) → (l == i) ≡ false → stage_of k' l ≡ stage_of k l
    stays l e = ap (λ (d : LaneState). d.stage) (changes.others l (λ same. no (eq-eqb l i (same ∙ sym is)) e))

    known_by : (l : ℕ) → l < lanes_of k → (t : Bool) → (l == i) ≡ t → parts_of (stage_of k' l) ≡ read_by (set readers i ps) l
    known_by l lt true e = let same : l ≡ lane = eqb-true l i e ∙ is in ap (λ g. parts_of (stage_of k' g)) same ∙ parts ∙ sym (read_set readers i l ps true within e)
    known_by l lt false e = ap parts_of (stays l e) ∙ h.known l lt ∙ sym (read_set readers i l ps false within e)

    few_by : (l : ℕ) (t : Bool) → (l == i) ≡ t → length (read_by (set readers i ps) l) ≤ 4
    few_by l true e = subst (λ (qs : List Part). length qs ≤ 4) (sym (read_set readers i l ps true within e)) few
    few_by l false e = subst (λ (qs : List Part). length qs ≤ 4) (sym (read_set readers i l ps false within e)) (h.few l)

    low_by : (l : ℕ) → lanes_of k ≤ l → stage_of k' l ≡ Free
    low_by l le = stays l (ne_eqb l i (λ same. omega (arith, same, is, le, low))) ∙ h.low l le

    unreserved_by : (l : ℕ) (qs : List Part) (t : Bool) → (l == i) ≡ t → stage_of k' l ≢ Reserved qs
    unreserved_by l qs true e r = free qs (ap (stage_of k') (sym (eqb-true l i e ∙ is)) ∙ r)
    unreserved_by l qs false e r = h.unreserved l qs (sym (stays l e) ∙ r)

-- a lane whose word was found to be 0 has no parts
pub ended_parts : (st : Stage) → ((qs : List Part) → st ≢ Reserved qs) → parts_of (ended st) ≡ []
ended_parts Free h = refl
ended_parts (Reserved ps) h = absurd (h ps refl)
ended_parts (Handed ps) h = refl
ended_parts (Ended n) h = refl

pub ended_free : (st : Stage) → ((qs : List Part) → st ≢ Reserved qs) → (qs : List Part) → ended st ≢ Reserved qs
ended_free Free h qs e = cc
ended_free (Reserved ps) h qs e = h ps refl
ended_free (Handed ps) h qs e = cc
ended_free (Ended n) h qs e = cc
