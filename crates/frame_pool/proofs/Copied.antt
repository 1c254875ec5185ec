-- The samples that a lease has a copy of.
use Rattle.std.proofs.Common.{◌≡◌, ℕ, zero, suc, ◌+◌, ◌-◌, List, [], ◌∷◌, length, get_or, refl, sym, ◌∙◌, arith, length-append}
use Rattle.std.specs.Prelude.{All}
use Rattle.std.specs.List.{flat_map}
use Rattle.std.proofs.lemmas.List.{length-take, length-drop}
use Rattle.frame_pool.specs.declared.views.Part.{Part}
use Rattle.frame_pool.specs.declared.views.Sizes.{Sizes}
use Rattle.frame_pool.specs.Words.{total}
use Rattle.frame_pool.specs.Pool.{AreFrames, AreParts, IsWithin, stretch_in}
use Rattle.frame_pool.proofs.Granting.{total_cons}

-- parts lie within the frames
pub within : (z : Sizes) (frames : List (List ℕ)) (ps : List Part) → AreFrames z frames → AreParts z ps → All (IsWithin frames) ps
within z frames [] h parts j d low = absurd (omega arith)
within z frames (p ∷ ps) h parts zero d low = (omega (arith, h.count, parts.0.frame), omega (arith, h.whole p.frame parts.0.frame, parts.0.ends))
within z frames (p ∷ ps) h parts (suc j) d low = within z frames ps h parts.1 j d (omega arith)

length_stretch : (z : Sizes) (frames : List (List ℕ)) (p : Part) → AreFrames z frames → AreParts z (p ∷ []) → length (stretch_in frames p) ≡ p.len
length_stretch z frames p h parts =
    let bytes : List ℕ = get_or frames p.frame [] in
    omega (arith, length-take (p.from + p.len - p.from) (lib.ListN.drop p.from bytes), length-drop p.from bytes, h.whole p.frame parts.0.frame, parts.0.ends)

-- as many samples as the parts have
pub length_stretches : (z : Sizes) (frames : List (List ℕ)) (ps : List Part) → AreFrames z frames → AreParts z ps → length (flat_map (stretch_in frames) ps) ≡ total ps
length_stretches z frames [] h parts = refl
length_stretches z frames (p ∷ ps) h parts =
    length-append (stretch_in frames p) (flat_map (stretch_in frames) ps)
    ∙ (λ i. length_stretch z frames p h (parts.0, tt) i + length_stretches z frames ps h parts.1 i)
    ∙ sym (total_cons p ps)
