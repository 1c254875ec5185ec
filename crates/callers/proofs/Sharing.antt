-- What a closure over seven captures may be shared by.
use mathlib.Core.List.{[], ◌∷◌}
use mir.Syntax.{Sym}
use denote.RattleType.{RattleType}
use denote.Struct.Field.{row_field}
use denote.Struct.Tuple.{type_at, TupleAt}
use denote.Param.Send.{IsSync}
use denote.Param.SendFields.{declared_sync, as_row_sync}

pub seven_shared : (ν : Sym) (A B C D E F G : RattleType) → IsSync A → IsSync B → IsSync C → IsSync D → IsSync E → IsSync F → IsSync G → IsSync (TupleAt ν (A ∷ (B ∷ (C ∷ (D ∷ (E ∷ (F ∷ (G ∷ []))))))))
seven_shared ν A B C D E F G a b c d e f g =
    declared_sync (type_at ν (A ∷ (B ∷ (C ∷ (D ∷ (E ∷ (F ∷ (G ∷ [])))))))) (
      as_row_sync (row_field A) a,
      (as_row_sync (row_field B) b, (as_row_sync (row_field C) c, (as_row_sync (row_field D) d, (as_row_sync (row_field E) e, (as_row_sync (row_field F) f, (as_row_sync (row_field G) g, tt)))))),
    )
