-- What has been written so far.
use Rattle.std.proofs.Common.{◌≡◌, ℕ, ◌+◌, ◌-◌, List, ◌++◌, length, take, drop, Some, None, Option, sym, ap, subst, ◌∙◌, arith, append_assoc, append-nil, length-drop}
use Rattle.std.specs.Prelude.{IfSome}
use Rattle.std.proofs.Math.Seq.{take-add}
use Rattle.std.proofs.lemmas.List.{take_all}

pub written : (old mid new : Option (List ℕ)) (bytes piece : List ℕ) (at n : ℕ) → piece ≡ take (length bytes - at) (drop at bytes) →
    IfSome old (λ had. mid ≡ Some (had ++ take at bytes)) → IfSome mid (λ had. new ≡ Some (had ++ take n piece)) → IfSome old (λ had. new ≡ Some (had ++ take (at + n) bytes))
written None mid new bytes piece at n is so_far more = tt
written (Some had) mid new bytes piece at n is so_far more =
    let rest : piece ≡ drop at bytes = is ∙ take_all (length bytes - at) (drop at bytes) (omega (arith, length-drop at bytes)) in
    let now : new ≡ Some (had ++ take at bytes ++ take n piece) = subst (λ m. IfSome m (λ had. new ≡ Some (had ++ take n piece))) so_far more in
    now ∙ ap Some (append_assoc had (take at bytes) (take n piece) ∙ ap (λ l. had ++ (take at bytes ++ take n l)) rest ∙ ap (λ l. had ++ l) (sym (take-add at n bytes)))

-- where nothing was printed, none of the text was
pub nothing_more : (contents : Option (List ℕ)) (text : List ℕ) → IfSome contents (λ had. (n : ℕ) × (contents ≡ Some (had ++ take n text)))
nothing_more None text = tt
nothing_more (Some had) text = (0, ap Some (sym (append-nil had)))
