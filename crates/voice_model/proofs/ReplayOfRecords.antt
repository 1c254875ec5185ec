-- Records are replayed as the list of changes that they spell.
use Rattle.std.proofs.Common.{◌≡◌, ℕ, Bool, true, false, List, [], ◌∷◌, Option, Some, ◌∙◌, ap}
use Rattle.disk_areas.specs.Areas.{Record}
use Rattle.voice_model.specs.Image.{Replayed, replayed, by_change, if_allowed}
use Rattle.voice_model.specs.Replay.{Rebuilt, rebuilt, if_legal, is_legal, acted, finished}
use Rattle.voice_model.specs.Spelling.{change_in}
use Rattle.voice_model.specs.declared.changes.Change.{Change}

-- each record spells its change
abbrev pub Spell : List Record → List Change → Type 0
Spell [] [] = Unit {0}
Spell (one ∷ records) (c ∷ cs) = (change_in one.payload ≡ Some c) × Spell records cs
Spell _ _ = ⊥

some_same : (a b : Rebuilt) → Some a ≡ Some b → a ≡ b
some_same a b e = cc

allowed_next : (b : Bool) (at : ℕ) (o : Option Rebuilt) (later : Replayed) (end : Rebuilt) → if_legal b o ≡ Some end → (o ≡ Some end → later ≡ Replayed.All end) → if_allowed b at later ≡ Replayed.All end
allowed_next true at o later end h step = step h
allowed_next false at o later end h step = cc

pub replayed_as : (r : Rebuilt) (records : List Record) (cs : List Change) (end : Rebuilt) → Spell records cs → rebuilt r cs ≡ Some end → replayed r records ≡ Replayed.All end
replayed_as r [] [] end spell h = ap Replayed.All (some_same (finished r) end h)
replayed_as r (one ∷ records) (c ∷ cs) end spell h =
    ap (λ o. by_change r one.at o (λ next. replayed next records)) spell.0
    ∙ allowed_next (is_legal r c) one.at (rebuilt (acted r c) cs) (replayed (acted r c) records) end h (λ e. replayed_as (acted r c) records cs end spell.1 e)
replayed_as r [] (c ∷ cs) end spell h = absurd spell
replayed_as r (one ∷ records) [] end spell h = absurd spell
