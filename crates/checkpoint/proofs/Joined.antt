-- Payloads one behind the other.
use Rattle.std.proofs.Common.{◌≡◌, ℕ, ◌+◌, List, [], ◌∷◌, ◌++◌, map, length, refl, sym, ◌∙◌, ap}
use Rattle.std.proofs.lemmas.List.{append_assoc, map-append}
use Rattle.voice_model.specs.Spelling.{spelling}
use Rattle.voice_model.specs.Base as changes
use Rattle.voice_journal.specs.Readings as journal
use Rattle.voice_model.specs.declared.changes.Change.{Change}

-- one more, and then the rest
pub more_behind : {A : Type 0} (old new : List A) (x : A) (xs : List A) → new ≡ old ++ x ∷ [] → new ++ xs ≡ old ++ x ∷ xs
more_behind old new x xs e = ap (λ l. l ++ xs) e ∙ append_assoc old (x ∷ []) xs

-- a head, and three lists of changes
pub parts_joined : (head : List ℕ) (files ropes rows : List Change) → ([] ++ head ∷ []) ++ map spelling files ++ map spelling ropes ++ map spelling rows ≡ head ∷ map spelling (files ++ ropes ++ rows)
parts_joined head files ropes rows =
    ap (λ l. head ∷ l) (sym (map-append spelling (files ++ ropes) rows ∙ ap (λ l. l ++ map spelling rows) (map-append spelling files ropes)))

-- payloads that grow by these
pub grown : (none first second third last : List (List ℕ)) (head : List ℕ) (files ropes rows : List (List ℕ)) → none ≡ [] → first ≡ none ++ head ∷ [] → second ≡ first ++ files → third ≡ second ++ ropes → last ≡ third ++ rows → last ≡ ([] ++ head ∷ []) ++ files ++ ropes ++ rows
grown none first second third last head files ropes rows e f g h k =
    k
    ∙ ap (λ l. l ++ rows) h
    ∙ ap (λ l. l ++ ropes ++ rows) g
    ∙ ap (λ l. l ++ files ++ ropes ++ rows) f
    ∙ ap (λ l. (l ++ head ∷ []) ++ files ++ ropes ++ rows) e

-- they are as long as their changes
pub same_size : (cs : List Change) → journal.framed_size (map spelling cs) ≡ changes.framed_size cs
same_size [] = refl
same_size (c ∷ cs) = ap (λ n. 5 + length (spelling c) + n) (same_size cs)
