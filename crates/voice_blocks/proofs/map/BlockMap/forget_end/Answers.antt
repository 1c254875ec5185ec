use Rattle.std.proofs.Common.{ap, ◌∙◌, sym, Option, ℕ}
use Rattle.std.specs.HashMap.{get}
use Rattle.voice_blocks.specs.declared.owner.Owner.{Owner}
use Rattle.voice_blocks.specs.Holders.{holder_at}
use Rattle.voice_blocks.specs.Sound.{place_in, end_in, owner_eq}
use Rattle.voice_blocks.proofs.DropLemmas.{end_gone, forgotten}
use Rattle.voice_blocks.proofs.map.BlockMap.forget_end.Goals as goal

pub invariant_of-self : goal.invariant_of-self
invariant_of-self c =
    let old : Owner → Option ℕ = get owner_eq c.self.inside.ends in
    let new : Owner → Option ℕ = get owner_eq c.remove-end.new.self in
    forgotten c.self.inside.holders.items c.self.inside.taken.words.items c.self.inside.free c.self.inside.takings c.self.inside.room (place_in c.self.inside.places) (end_in c.self.inside.ends) _ _ c.self.invariant
    c.args.owner.now (λ a index is. c.requires a index (ap (λ v. holder_at v.holders a) (sym c.self.view_is) ∙ is)) (end_in c.remove-end.new.self)
    (λ o. end_gone old new c.args.owner.now o (c.remove-end.ensures.updates.0 o)) _ c.remove-end.ensures.spare
