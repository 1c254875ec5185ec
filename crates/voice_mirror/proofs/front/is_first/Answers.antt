use Rattle.std.proofs.Common.{◌≡◌, ℕ, List, Bool, true, false, take, refl, sym, ap, ◌∙◌}
use Rattle.std.specs.Prelude.{◌&&◌, ◌==◌, bytes_eq, not}
use Rattle.disk_areas.specs.Numbers.{number_at}
use Rattle.disk_areas.specs.Areas.{magic}
use Rattle.voice_mirror.proofs.Fronts.{first_seen}
use Rattle.voice_mirror.proofs.front.is_first.Goals as goal

equal : (b : Bool) → not b ≡ false → b ≡ true
equal true h = refl
equal false h = cc

differs : (b : Bool) → not b ≡ true → b ≡ false
differs true h = cc
differs false h = refl

pub returns-then-ne : goal.returns-then-ne
returns-then-ne c =
    λ image long is.
    let front = c.args.front.now in
    let m : bytes_eq (take 8 front) magic ≡ false = differs _ (sym (c.ne.ensures ∙ ap (λ (l : List ℕ). not (bytes_eq (take 8 front) l)) c.as_slice.ensures) ∙ c.if-ne.true) in
    sym (first_seen image front long is ∙ ap (λ t. t && (number_at 4 8 front == 1)) m)

pub returns : goal.returns
returns c =
    λ image long is.
    let front = c.args.front.now in
    let m : bytes_eq (take 8 front) magic ≡ true = equal _ (sym (c.ne.ensures ∙ ap (λ (l : List ℕ). not (bytes_eq (take 8 front) l)) c.as_slice.ensures) ∙ c.if-ne.false) in
    ap (λ (n : ℕ). n == 1) c.read_4.ensures ∙ sym (first_seen image front long is ∙ ap (λ t. t && (number_at 4 8 front == 1)) m)
