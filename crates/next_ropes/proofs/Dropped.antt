-- The blocks of a rope that does not come are free again.
use Rattle.std.proofs.Common.{◌≡◌, ℕ, ◌≤◌, ◌==◌, ◌⊎◌, inl, inr, Bool, true, false, ◌||◌, cond, List, [], ◌∷◌, refl, sym, ◌∙◌, ap, subst, arith}
use Rattle.std.specs.Prelude.{nat_le}
use Rattle.std.specs.List.{list_all}
use Rattle.voice_units.specs.declared.pieces.Piece.{Piece}
use Rattle.voice_units.specs.Spots.{spots_of, spots_from, samples_in, pieces_of}
use Rattle.voice_units.specs.Blocks.{BlockPair, has_pair, pairs_at, same_pair}
use Rattle.voice_units.proofs.Distinct.{same_pair-true}
use Rattle.voice_units.proofs.PiecesOfRopes.{both}
use Rattle.voice_model.specs.Replay.{Rebuilt, is_legal, used_pairs}
use Rattle.voice_model.specs.declared.changes.Change.TheVariants as changes
use Rattle.voice_model.specs.declared.changes.Change.{Change}
use Rattle.voice_blocks.specs.Holders.{without_owner, EachBecomes}
use Rattle.voice_blocks.specs.declared.owner.Owner.TheVariants.{File}
use Rattle.recovery.specs.declared.parts.Parts.{Parts}
use Rattle.recovery.specs.Shown.{Shows}
use Rattle.running_tables.specs.Running.{Runs}
use Rattle.running_tables.specs.Laws.{HaveBlocks}
use Rattle.running_tables.proofs.Dropped.{given_back as tables_given_back}
use Rattle.running_tables.proofs.Taken.{used_pledged, used_unpledged, first_blocks}
use Rattle.next_ropes.specs.declared.NextRope.{NextRope}
use Rattle.next_ropes.specs.Ready.{IsReady, new_samples}

-- pieces are of a new file alone, or of blocks in use
abbrev pub IsOfEither : Rebuilt → ℕ → List Piece → Type 0
IsOfEither b id pieces = ((pair : BlockPair) → has_pair (pairs_at b.shape.block (spots_of pieces)) pair ≡ true → pair.file ≡ id) ⊎ HaveBlocks (used_pairs b.kept) b.shape.block pieces

each_has : (p : BlockPair → Bool) (xs : List BlockPair) → list_all p xs ≡ true → (q : BlockPair) → has_pair xs q ≡ true → p q ≡ true
each_has p [] h q e = cc
each_has p (x ∷ xs) h q e = by (same_pair q x) refl (each_has p xs (both (p x) (list_all p xs) h).1 q)
  where
    by : (t : Bool) → same_pair q x ≡ t → (has_pair xs q ≡ true → p q ≡ true) → p q ≡ true
    by true k later = ap p (same_pair-true q x k) ∙ (both (p x) (list_all p xs) h).0
    by false k later = later (sym (ap (λ t. t || has_pair xs q) k) ∙ e)

of_either : (b : Rebuilt) (r w : Bool) (id len : ℕ) (addresses : List ℕ) (pieces : List Piece) → is_legal b (cond r (cond w (changes.Wide id len addresses) (changes.Recorded id len addresses)) (changes.Edited id pieces)) ≡ true
    → pieces ≡ pieces_of (new_samples (cond r (cond w (changes.Wide id len addresses) (changes.Recorded id len addresses)) (changes.Edited id pieces))) → IsOfEither b id pieces
of_either b true w id len addresses pieces legal is = inl (subst (λ l. (pair : BlockPair) → has_pair (pairs_at b.shape.block (spots_of l)) pair ≡ true → pair.file ≡ id) (sym (is ∙ recorded w)) (first_blocks b.shape.block id len least).of_file)
  where
    least : 1 ≤ b.shape.block
    least = let some = b.shape.conditions.some_block in omega (arith, some)

    recorded : (w : Bool) → pieces_of (new_samples (cond w (changes.Wide id len addresses) (changes.Recorded id len addresses))) ≡ pieces_of (spots_from id 0 len)
    recorded true = refl
    recorded false = refl
of_either b false w id len addresses pieces legal is = inr (each_has (has_pair (used_pairs b.kept)) (pairs_at b.shape.block (spots_of pieces)) (both (nat_le b.next id) (list_all (has_pair (used_pairs b.kept)) (pairs_at b.shape.block (spots_of pieces))) legal).1)

-- the tables show what they did before the rope was made ready
pub given_back : (held : List (List Piece)) (takings : List ℕ) (old new : Parts) (b : Rebuilt) (next : NextRope) (c : Change) → IsReady held takings old b next c → Shows held new b.kept → new.form ≡ old.form → EachBecomes (without_owner (File next.id)) old.blocks.holders new.blocks.holders → Runs held [] takings new b
given_back held takings old new b next c h shows form became =
    by (of_either b next.recorded (b.form == 2) next.id (samples_in next.pieces) next.addresses.items next.pieces (ap (is_legal b) (sym h.change) ∙ h.legal) (h.pieces ∙ ap (λ c. pieces_of (new_samples c)) h.change))
  where
    later : b.next ≤ next.id
    later = let number = h.number in omega (arith, number)

    by : IsOfEither b next.id next.pieces → Runs held [] takings new b
    by (inl own) = tables_given_back held [] takings old new b next.id next.pieces h.runs (record { above = later; of_file = own; alone = λ pair e. cc }) shows form became
    by (inr used) =
        let runs = used_pledged held [] takings old b [] (λ pair e. cc) (used_unpledged held [] takings old b next.pieces used h.runs) in
        tables_given_back held [] takings old new b next.id [] runs (record { above = later; of_file = λ pair e. cc; alone = λ pair e. cc }) shows form became
