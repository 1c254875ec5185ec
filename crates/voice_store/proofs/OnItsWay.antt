-- A change on its way to the journal, also one that ends an open recording.
use Rattle.std.proofs.Common.{◌≡◌, ◌⊎◌, inl, inr, ⊎_elim, ℕ, ◌+◌, ◌*◌, ◌<◌, Bool, true, false, cond, List, [], Option, Some, None, is_some, refl, sym, ◌∙◌, ap, subst}
use Rattle.std.specs.Prelude.{slice_index}
use Rattle.voice_units.specs.declared.pieces.Piece.{Piece}
use Rattle.voice_units.specs.declared.shapes.Shape.{Shape}
use Rattle.voice_units.specs.Spots.{Spot}
use Rattle.voice_blocks.specs.Holders.{Holders, holder_at, block_of, renamed, same_owner}
use Rattle.voice_blocks.specs.Place.{block_place}
use Rattle.voice_blocks.specs.declared.owner.Owner.{Owner}
use Rattle.voice_blocks.specs.declared.owner.Owner.TheVariants.{File, Taking}
use Rattle.voice_blocks.specs.declared.owner.Holder.{Holder}
use Rattle.voice_blocks.proofs.TakeLemmas.{owner_is}
use Rattle.voice_model.specs.Samples.{Tagged}
use Rattle.voice_model.specs.State.{State, LaneState}
use Rattle.voice_model.specs.Changes.{taking_of}
use Rattle.voice_model.specs.Spelling.{spelling, keeps_grammar}
use Rattle.voice_model.specs.Replay.{Rebuilt, is_legal, brings}
use Rattle.voice_model.specs.declared.changes.Change.{Change}
use Rattle.recovery.specs.declared.parts.Parts.{Parts}
use Rattle.running_tables.specs.Running.{Runs}
use Rattle.next_changes.specs.Next.{pledges}
use Rattle.next_changes.proofs.Given.{given}
use Rattle.recording_adds.specs.Adds.{HasWhole}
use Rattle.voice_store.specs.declared.going.Going.{Going}
use Rattle.voice_store.specs.declared.going.Going.TheVariants as goings
use Rattle.voice_store.specs.Filled.{HaveBytes}
use Rattle.voice_store.specs.Going.{payload_in, IsGoing, IsGoingIn, IsCounted, WillHave}
use Rattle.voice_store.specs.Playing.{KeepsTakings}
use Rattle.voice_store.proofs.Filled.{still_has, still_whole, stays_same}

-- what is known of a change on its way
pub record IsOnItsWay (held : List (List Piece)) (takings : List ℕ) (parts : Parts) (b : Rebuilt) (going : Going) (c : Change) : Type 0 where
  pub pledged : List (List Piece)
  pub runs : Runs held pledged takings parts b
  pub legal : is_legal b c ≡ true
  pub kind : is_some (brings c) ≡ true
  pub grammar : keeps_grammar c ≡ true
  pub payload : payload_in going ≡ spelling c

pub on_its_way : (held : List (List Piece)) (takings more : List ℕ) (parts : Parts) (b : Rebuilt) (going : Going) (c : Change) → IsGoing held takings more parts b going c → IsOnItsWay held takings parts b going c
on_its_way held takings more parts b (goings.Change next) c h =
    let is = given held takings parts b next c h.1 in
    record { pledged = pledges next; runs = is.runs; legal = is.legal; kind = is.kind; grammar = is.grammar; payload = is.payload }
on_its_way held takings more parts b (goings.Ending lane rope) c h =
    let is = h.1 in
    record { pledged = []; runs = is.runs; legal = is.legal; kind = is.kind; grammar = is.grammar; payload = is.payload }

-- it is one of a store of the same shape
pub going_again : (shape shape' : Shape) (parts : Parts) (going : Going) → shape' ≡ shape → IsGoingIn shape parts going → IsGoingIn shape' parts going
going_again shape shape' parts going same ready = subst (λ (x : Shape). IsGoingIn x parts going) (sym same) ready

-- ---- the bytes of blocks, as a change counts

-- an address that is held once a recording has got its file was held before, by the same block or by one of the recording
renamed_from : (lane id : ℕ) (o : Option Holder) (g : Holder) → renamed lane id o ≡ Some g → (o ≡ Some g) ⊎ ((index : ℕ) × (o ≡ Some (block_of (Taking lane) index)) × (g ≡ block_of (File id) index))
renamed_from lane id None g e = let no : None ≡ Some g = e in cc
renamed_from lane id (Some h) g e = by (same_owner (Taking lane) h.owner) refl e
  where
    by : (t : Bool) → same_owner (Taking lane) h.owner ≡ t → cond t (Some (block_of (File id) h.index)) (Some h) ≡ Some g → (Some h ≡ Some g) ⊎ ((index : ℕ) × (Some h ≡ Some (block_of (Taking lane) index)) × (g ≡ block_of (File id) index))
    by true own is =
        let there : g ≡ block_of (File id) h.index = cc in
        inr (h.index, ap (λ (o : Owner). Some (block_of o h.index)) (sym (owner_is (Taking lane) h.owner own)), there)
    by false other is = inl is

-- two blocks of files that are one
same_file : (file index id i : ℕ) → block_of (File file) index ≡ block_of (File id) i → (file ≡ id) × (index ≡ i)
same_file file index id i e =
    let owner : File file ≡ File id = ap (λ (h : Holder). h.owner) e in
    let one : file ≡ id = cc in
    (one, ap (λ (h : Holder). h.index) e)

no_taking : (lane index id i : ℕ) → block_of (Taking lane) index ≡ block_of (File id) i → ⊥
no_taking lane index id i e = let owner : Taking lane ≡ File id = ap (λ (h : Holder). h.owner) e in cc

-- all blocks keep their bytes as a change counts, those of a recording that ends as blocks of the new file
pub counted_has : (fill : Spot → Tagged) (shape : Shape) (image : List ℕ) (going : Going) (old new : Holders) (last : State) (lanes : List LaneState) → KeepsTakings last (record last { lanes = lanes }) → IsCounted going old new → WillHave fill shape image old going
    → HaveBytes fill shape image old last → HaveBytes fill shape image new (record last { lanes = lanes })
counted_has fill shape image (goings.Change next) old new last lanes takes counts will had =
    still_has fill shape image image old new last (record last { lanes = lanes }) takes (λ a h held. subst (λ (hs : Holders). holder_at hs a ≡ Some h) counts held) (stays_same shape image image refl) had
counted_has fill shape image (goings.Ending lane rope) old new last lanes takes counts will had = record {
  filled = record { each = at };
  whole = whole;
}
  where
    from : (a : ℕ) (g : Holder) → holder_at new a ≡ Some g → (holder_at old a ≡ Some g) ⊎ ((index : ℕ) × (holder_at old a ≡ Some (block_of (Taking lane) index)) × (g ≡ block_of (File rope.id) index))
    from a g held = renamed_from lane rope.id (holder_at old a) g (sym (counts.each a) ∙ held)

    at : (a file index k : ℕ) → holder_at new a ≡ Some (block_of (File file) index) → k < shape.block → slice_index image (block_place shape a + k) ≡ (fill (record { file = file; place = index * shape.block + k })).byte
    at a file index k held less =
        ⊎_elim (λ was. had.filled.each a file index k was less)
        (λ (own : (i : ℕ) × (holder_at old a ≡ Some (block_of (Taking lane) i)) × (block_of (File file) index ≡ block_of (File rope.id) i)).
        let same = same_file file index rope.id own.0 own.2 in
        will a own.0 k own.1 less
        ∙ ap (λ n. (fill (record { file = rope.id; place = n * shape.block + k })).byte) (sym same.1)
        ∙ ap (λ n. (fill (record { file = n; place = index * shape.block + k })).byte) (sym same.0))
        (from a (block_of (File file) index) held)

    before : (a l index : ℕ) → holder_at new a ≡ Some (block_of (Taking l) index) → holder_at old a ≡ Some (block_of (Taking l) index)
    before a l index held =
        ⊎_elim (λ was. was)
        (λ (own : (i : ℕ) × (holder_at old a ≡ Some (block_of (Taking lane) i)) × (block_of (Taking l) index ≡ block_of (File rope.id) i)). absurd (no_taking l index rope.id own.0 own.2))
        (from a (block_of (Taking l) index) held)

    whole : (l : ℕ) → HasWhole shape image new l (taking_of (record last { lanes = lanes }) l)
    whole l a index k held less within =
        still_whole shape image image old old last (record last { lanes = lanes }) takes (λ x h here. here) (stays_same shape image image refl) had.whole l a index k (before a l index held) less within
