-- Calls that change nothing, one after another.
use Rattle.std.proofs.Common.{◌⊎◌, inl, inr, ℕ, ◌+◌, ◌≤◌, Bool, List, IsTrue, sym, ◌∙◌, subst, arith}
use Rattle.voice_outside.specs.Disk.{Told}
use Rattle.voice_journal.specs.Looks.{Still, Looks}

still_then : (a b c : Told) → a.calls ≤ b.calls → Still a b → Still b c → Still a c
still_then a b c later h k = record {
  bytes = k.bytes ∙ h.bytes;
  now = λ image left. h.now image (k.now image left);
  crash = λ t image le left. either t image le (k.crash t image (omega (arith, le, later)) left);
}
  where
    either : (t : ℕ) (image : List ℕ) → t ≤ a.calls → b.may_leave t image ⊎ b.may_leave b.calls image → a.may_leave t image ⊎ a.may_leave a.calls image
    either t image le (inl left) = h.crash t image le left
    either t image le (inr left) = inr (h.now image left)

pub looks_then : (m n : ℕ) (a b c : Told) → Looks m a b → Looks n b c → Looks (m + n) a c
looks_then m n a b c h k =
    let later = h.later in
    let more = k.later in
    let calls = h.calls in
    let rest = k.calls in
    let faults = h.faults in
    let risen = k.faults in
    record {
      size = k.size ∙ h.size;
      honest = k.honest ∙ h.honest;
      later = omega (arith, later, more);
      calls = omega (arith, calls, rest);
      faults = omega (arith, faults, risen);
      still = λ honest. still_then a b c h.later (h.still honest) (k.still (subst (λ (x : Bool). IsTrue x) (sym h.honest) honest));
    }
