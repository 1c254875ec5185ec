use Rattle.next_changes.proofs.Given.{other_next}
use Rattle.next_changes.proofs.Called.{of_call, nothing}
use Rattle.next_changes.proofs.laws.ready_is_next.Goals as goal

pub returns : goal.returns
returns c = record { rope = λ held takings parts b next change h. h; other = other_next; of_call = of_call; nothing = nothing }
