-- What the tables show at the end of a list of changes, or of its base.
use Rattle.std.proofs.Common.{◌≡◌, ℕ, ◌==◌, Bool, true, false, cond, ◌||◌, nat_lt, List, [], ◌∷◌, length, ◌≤◌, Option, Some, None, refl, sym, ◌∙◌, ap, subst, arith}
use Rattle.std.proofs.lemmas.Bool.{eqb-true}
use Rattle.std.proofs.lemmas.List.{append-nil}
use Rattle.voice_units.specs.Spots.{Spot}
use Rattle.voice_units.specs.Blocks.{BlockPair, has_pair}
use Rattle.voice_model.specs.State.{Durable}
use Rattle.std.specs.Prelude.{is_some}
use Rattle.voice_units.specs.declared.shapes.Shape.{Shape}
use Rattle.voice_model.specs.Replay.{Placed, Rebuilt, Phase, nothing_rebuilt, finished, used_pairs, still_used, is_legal, acted, brings, takes_files, begun, is_begun}
use Rattle.voice_model.specs.declared.changes.Change.{Change}
use Rattle.voice_model.specs.declared.changes.Change.TheVariants as changes
use Rattle.voice_model.specs.Places.{IsPlaced, HasNoPlace}
use Rattle.voice_model.proofs.KeptByChanges.{every-imply}
use Rattle.std.specs.List.{list_all}
use Rattle.voice_model.specs.Valid.{Every, IsRebuilt}
use Rattle.voice_model.specs.Spelling.{keeps_grammar}
use Rattle.voice_model.proofs.FitsOfCalls.{every_passed}
use Rattle.voice_model.proofs.PlacesKept.{placed_end, placed_next}
use Rattle.voice_model.proofs.StatesOfReplay.{rebuilt_next}
use Rattle.voice_blocks.specs.Holders.{Holders, holder_at, block_of}
use Rattle.voice_blocks.specs.declared.owner.Owner.TheVariants.{File}
use Rattle.voice_blocks.specs.declared.owner.Holder.{Holder}
use Rattle.rope_table.specs.Table.{Table, Counts, uses_at}
use Rattle.recovery.specs.declared.parts.Parts.{Parts}
use Rattle.recovery.specs.declared.building.Block.{Block}
use Rattle.recovery.specs.declared.building.Building.{Building}
use Rattle.recovery.specs.Shown.{Rebuilds, ShowsPlaces, placed_at, plain_sample}
use Rattle.recovery.specs.Placing.{in_use}
use Rattle.recovery.specs.Building.{Builds, phase_of, is_noted, is_known}
use Rattle.recovery.specs.declared.building.Stage.TheVariants as stages
use Rattle.recovery.proofs.Finished.{acted_finished}
use Rattle.recovery.proofs.Showing.{used_shown}
use Rattle.recovery.proofs.PlacesFreed.{places_left}

-- an address that is held has its place
found : (noted : List Block) (d : Durable Spot) (places : List Placed) (a : ℕ) (h : Holder) {P : Type 0} → Every (λ place. is_known noted d place.pair ≡ true) places → placed_at places a ≡ Some h
    → ((pair : BlockPair) → block_of (File pair.file) pair.index ≡ h → is_known noted d pair ≡ true → P) → P
found noted d [] a h known e f = cc
found noted d (p ∷ places) a h {P} known e f = by_test (p.address == a) refl (λ k. found noted d places a h known.1 k f)
  where
    block : Holder
    block = block_of (File p.pair.file) p.pair.index

    same_holder : (x y : Holder) → Some x ≡ Some y → x ≡ y
    same_holder x y e = cc

    by_test : (b : Bool) → (p.address == a) ≡ b → (placed_at places a ≡ Some h → P) → P
    by_test true k later = f p.pair (same_holder block h (sym (ap (λ b. cond b (Some block) (placed_at places a)) k) ∙ e)) known.0
    by_test false k later = later (sym (ap (λ b. cond b (Some block) (placed_at places a)) k) ∙ e)

stays_here : (t : Table) (pair : BlockPair) (h : Holder) → block_of (File pair.file) pair.index ≡ h → (uses_at t pair == 0) ≡ false → in_use t (Some h) ≡ Some h
stays_here t pair h is e = subst (λ (x : Holder). in_use t (Some x) ≡ Some x) is (ap (λ b. cond b None (Some (block_of (File pair.file) pair.index))) e)

-- once the noted blocks that nothing uses are gone, all that is held is in use
all_stay : (t : Table) (d : Durable Spot) (noted : List Block) (places : List Placed) (a : ℕ) (new : Option Holder) → ((pair : BlockPair) → nat_lt 0 (uses_at t pair) ≡ has_pair (used_pairs d) pair)
    → Every (λ place. is_known noted d place.pair ≡ true) places → ((h : Holder) → new ≡ Some h → placed_at places a ≡ Some h)
    → ((pair : BlockPair) → is_noted noted pair ≡ true → uses_at t pair ≡ 0 → ¬ (new ≡ Some (block_of (File pair.file) pair.index))) → in_use t new ≡ new
all_stay t d noted places a None used known held gone = refl
all_stay t d noted places a (Some h) used known held gone =
    found noted d places a h known (held h refl) (λ pair is k. stays_here t pair h is (by_use pair is k (uses_at t pair == 0) refl))
  where
    is_noted_then : (x y : Bool) → (x || y) ≡ true → x ≡ false → y ≡ true
    is_noted_then true y e f = cc
    is_noted_then false y e f = e

    by_use : (pair : BlockPair) → block_of (File pair.file) pair.index ≡ h → is_known noted d pair ≡ true → (b : Bool) → (uses_at t pair == 0) ≡ b → b ≡ false
    by_use pair is k false e = refl
    by_use pair is k true e =
        let none = eqb-true (uses_at t pair) 0 e in
        let unused : has_pair (used_pairs d) pair ≡ false = sym (used pair) ∙ ap (nat_lt 0) none in
        absurd (gone pair (is_noted_then (has_pair (used_pairs d) pair) (is_noted noted pair) k unused) none (ap (λ (x : Holder). Some x) (sym is)))

pub end_shown : (old : Building) (new : Parts) (r : Rebuilt) → Builds old r → new.ropes ≡ old.parts.ropes → new.interests ≡ old.parts.interests → new.moment ≡ old.parts.moment → new.next ≡ old.parts.next → new.form ≡ old.parts.form
    → ((a : ℕ) → in_use old.parts.ropes (holder_at new.blocks.holders a) ≡ in_use old.parts.ropes (holder_at old.parts.blocks.holders a))
    → ((a : ℕ) (h : Holder) → holder_at new.blocks.holders a ≡ Some h → holder_at old.parts.blocks.holders a ≡ Some h)
    → ((a : ℕ) (pair : BlockPair) → is_noted old.noted.items pair ≡ true → uses_at old.parts.ropes pair ≡ 0 → ¬ (holder_at new.blocks.holders a ≡ Some (block_of (File pair.file) pair.index)))
    → length new.blocks.holders ≡ length old.parts.blocks.holders → Rebuilds new (finished r)
end_shown old new r h ropes interests moment next form only held gone size =
    let t = old.parts.ropes in
    let used = used_shown r.kept t old.parts.interests.rows old.parts.moment old.parts.next h.kept in record {
      kept = record {
        block = ap (λ (t : Table). t.block) ropes ∙ h.kept.block;
        ropes = ap (λ (t : Table). t.ropes) ropes ∙ h.kept.ropes;
        uses = subst (λ (t : Table). Counts t []) (sym ropes) h.kept.uses;
        rows = ap (λ t. t.rows) interests ∙ h.kept.rows;
        moment = moment ∙ h.kept.moment;
        next = next ∙ h.kept.next;
      };
      places = record {
        size = size ∙ h.places.size;
        each = λ a.
            let was = h.places.each a in
            sym (all_stay t r.kept old.noted.items r.places a (holder_at new.blocks.holders a) used h.known (λ x e. sym was ∙ held a x e) (gone a))
            ∙ only a ∙ ap (in_use t) was ∙ places_left r.kept t old.parts.interests.rows old.parts.moment old.parts.next r.places a h.kept h.placed.differ
            ∙ ap (λ l. placed_at (still_used r.kept l) a) (append-nil r.places);
      };
      in_form = form ∙ h.in_form;
      valid = record { kept = h.valid.kept; forms = h.valid.forms; newest = h.valid.newest; fresh = h.valid.fresh };
      placed = placed_end r h.placed;
      used = every_passed (λ (place : Placed). has_pair (used_pairs r.kept) place.pair) r.places;
    }

pub nothing_built : (new : Building) (shape : Shape) → Rebuilds new.parts (nothing_rebuilt shape) → phase_of new.stage ≡ Phase.Begun → Builds new (nothing_rebuilt shape)
nothing_built new shape h stage = record {
  kept = h.kept;
  places = h.places;
  in_form = h.in_form;
  valid = h.valid;
  placed = h.placed;
  stage = stage;
  files = λ e. cc;
  known = tt;
}

-- ---- a change of a running server

later_phase : (r : Rebuilt) (c : Change) → is_some (brings c) ≡ true → (acted r c).phase ≡ Phase.Later
later_phase r (changes.Recorded id len addresses) h = refl
later_phase r (changes.Wide id len addresses) h = refl
later_phase r (changes.Edited id pieces) h = refl
later_phase r (changes.Retained class key id note) h = refl
later_phase r (changes.Forgotten class key) h = refl
later_phase r (changes.Census keys) h = refl
later_phase r (changes.Swept ids) h = refl
later_phase r (changes.Advanced moment) h = refl
later_phase r (changes.Base now next) h = cc
later_phase r (changes.Base2 now next) h = cc
later_phase r (changes.File file pairs) h = cc
later_phase r (changes.File2 file pairs) h = cc
later_phase r (changes.Rope id idle pieces) h = cc
later_phase r (changes.Rope2 id idle last pieces) h = cc

no_files : (p : Phase) → p ≡ Phase.Later → takes_files p ≡ true → ⊥
no_files Phase.Begun e h = cc
no_files Phase.Files e h = cc
no_files Phase.Ropes e h = cc
no_files Phase.Later e h = cc

-- the tables after a legal change of a running server, once the base has ended
pub built_later : (new : Building) (r : Rebuilt) (c : Change) → is_some (brings c) ≡ true → IsPlaced r → is_legal r c ≡ true → phase_of new.stage ≡ Phase.Later → Rebuilds new.parts (acted (finished r) c) → Builds new (acted r c)
built_later new r c kind placed legal stage h =
    let end = acted r c in
    let k : Rebuilds new.parts end = subst (Rebuilds new.parts) (acted_finished r c kind placed legal) h in
    let later = later_phase r c kind in record {
      kept = k.kept;
      places = k.places;
      in_form = k.in_form;
      valid = k.valid;
      placed = k.placed;
      stage = stage ∙ sym later;
      files = λ e. absurd (no_files end.phase later e);
      known =
          every-imply (λ (place : Placed). has_pair (used_pairs end.kept) place.pair ≡ true) (λ (place : Placed). is_known new.noted.items end.kept place.pair ≡ true)
          (λ place e. ap (λ b. b || is_noted new.noted.items place.pair) e) end.places k.used;
    }

-- ---- the begin of a base

no_place : (p : Phase) (places : List Placed) → HasNoPlace p places → is_begun p ≡ true → places ≡ []
no_place Phase.Begun places h e = h
no_place Phase.Files places h e = cc
no_place Phase.Ropes places h e = cc
no_place Phase.Later places h e = cc

pub begun_built : (old new : Building) (r : Rebuilt) (c : Change) (form now next : ℕ) → Builds old r → is_legal r c ≡ true → keeps_grammar c ≡ true → is_begun r.phase ≡ true → acted r c ≡ begun r form now next
    → new.parts.ropes ≡ old.parts.ropes → new.parts.interests ≡ old.parts.interests → new.parts.blocks ≡ old.parts.blocks → new.parts.moment ≡ now → new.parts.next ≡ next → new.parts.form ≡ form → new.stage ≡ stages.Files → new.last_file ≡ 0 → Builds new (acted r c)
begun_built old new r c form now next h legal grammar fresh acts ropes interests blocks moment later in_form stage last =
    let none : r.places ≡ [] = no_place r.phase r.places h.placed.fresh fresh in
    let end = begun r form now next in
    subst (Builds new) (sym acts)
    (record {
      kept = record {
        block = ap (λ (t : Table). t.block) ropes ∙ h.kept.block;
        ropes = ap (λ (t : Table). t.ropes) ropes ∙ h.kept.ropes;
        uses = subst (λ (t : Table). Counts t []) (sym ropes) h.kept.uses;
        rows = ap (λ t. t.rows) interests ∙ h.kept.rows;
        moment = moment;
        next = later;
      };
      places = subst (λ (b : Holders). ShowsPlaces b r.shape.blocks r.places) (ap (λ b. b.holders) (sym blocks)) h.places;
      in_form = in_form;
      valid = subst (IsRebuilt plain_sample) acts (rebuilt_next plain_sample (λ s. refl) r c h.valid legal grammar);
      placed = subst IsPlaced acts (placed_next r c h.placed legal grammar);
      stage = ap phase_of stage;
      files = λ e file some. ap (list_all (λ (place : Placed). nat_lt place.pair.file file)) none ∙ sym (ap (λ n. nat_lt n file) last ∙ above file some);
      known = subst (Every (λ (place : Placed). is_known new.noted.items end.kept place.pair ≡ true)) (sym none) tt;
    })
  where
    above : (file : ℕ) → 1 ≤ file → nat_lt 0 file ≡ true
    above file some = grind (arith, some)
