-- What callers on threads need: that a closure over three captures may be shared, and that passes come back from a slice.
use Rattle.std.proofs.Common.{◌≡◌, ◌∙◌, ℕ, List, [], ◌∷◌, ◌++◌, length, take, drop, ap, arith, append-nil}
use Rattle.std.proofs.lemmas.List.{take_all, drop_all}
use mir.Syntax.{Sym}
use denote.RattleType.{RattleType}
use denote.Struct.Field.{row_field}
use denote.Struct.Tuple.{type_at, TupleAt}
use denote.Param.Send.{IsSync}
use denote.Param.SendFields.{declared_sync, as_row_sync}

pub three_shared : (ν : Sym) (A B C : RattleType) → IsSync A → IsSync B → IsSync C → IsSync (TupleAt ν (A ∷ (B ∷ (C ∷ []))))
three_shared ν A B C a b c = declared_sync (type_at ν (A ∷ (B ∷ (C ∷ [])))) (as_row_sync (row_field A) a, (as_row_sync (row_field B) b, (as_row_sync (row_field C) c, tt)))

-- a slice that was written in full
pub slice_back : {X : Type 0} (n : ℕ) (xs ys : List X) → length xs ≡ length ys → n ≡ length ys → take n (xs ++ drop (length xs) ys) ≡ xs
slice_back n xs ys long is = ap (λ l. take n (xs ++ l)) (drop_all (length xs) ys (omega (arith, long))) ∙ ap (take n) (append-nil xs) ∙ take_all n xs (omega arith)
