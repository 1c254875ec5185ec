use Rattle.std.proofs.Common.{◌≡◌, ℕ, Option, List, ap, sym, ◌∙◌, subst, rules, unwrap_or}
use Rattle.std.proofs.lemmas.Map.Entries.{entries_from_clone}
use Rattle.std.specs.Map.{lookup}
use Rattle.std.specs.HashMap.{spare}
use Rattle.voice_blocks.specs.Holders.{Holders}
use Rattle.voice_blocks.specs.Sound.{IsSound, place_in, end_in, holder_eq, owner_eq}
use Rattle.voice_blocks.proofs.SoundLemmas.{sound_copy}
use Rattle.voice_blocks.proofs.map.BlockMap.copy.Goals as goal

pub invariant_of-result : goal.invariant_of-result
invariant_of-result c =
    let places : c.in_ok-places.places.entries ≡ c.self.inside.places.entries = entries_from_clone _ _ (λ x y e. e) (λ v w e. e) _ _ c.in_ok-places.ensures.cases in
    let ends : c.in_ok-ends.ends.entries ≡ c.self.inside.ends.entries = entries_from_clone _ _ (λ x y e. e) (λ v w e. e) _ _ c.in_ok-ends.ensures.cases in
    let holders : c.in_ok-holders.holders.items ≡ c.self.inside.holders.items = search rules in
    let words : c.in_ok-taken.taken.words.items ≡ c.self.inside.taken.words.items = c.in_ok-taken.ensures in
    subst (λ (l : Holders). IsSound l c.in_ok-taken.taken.words.items c.self.inside.free c.self.inside.takings 0 (place_in c.reserve.new.self) (end_in c.reserve-2.new.self) (spare c.reserve.new.self) (spare c.reserve-2.new.self)) (sym holders)
    (subst (λ (w : List ℕ). IsSound c.self.inside.holders.items w c.self.inside.free c.self.inside.takings 0 (place_in c.reserve.new.self) (end_in c.reserve-2.new.self) (spare c.reserve.new.self) (spare c.reserve-2.new.self)) (sym words)
    (sound_copy c.self.inside.holders.items c.self.inside.taken.words.items c.self.inside.free c.self.inside.takings c.self.inside.room (place_in c.self.inside.places) (end_in c.self.inside.ends) _ _ c.self.invariant
    (place_in c.reserve.new.self) (end_in c.reserve-2.new.self) (λ h. c.reserve.ensures.entries.2 h ∙ ap (lookup (holder_eq h)) places) (λ o. ap (λ (v : Option ℕ). unwrap_or v 0) (c.reserve-2.ensures.entries.2 o ∙ ap (lookup (owner_eq o)) ends)) (spare c.reserve.new.self) (spare c.reserve-2.new.self)
    c.in_ok-reserve.ensures.ok c.in_ok-reserve-2.ensures.ok))
