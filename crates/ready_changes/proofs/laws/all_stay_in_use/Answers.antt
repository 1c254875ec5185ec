use Rattle.std.proofs.Common.{ℕ, ◌≤◌, sym, ◌∙◌, ap, arith}
use Rattle.voice_blocks.specs.Holders.{holder_at}
use Rattle.rope_table.specs.Table.{uses_at}
use Rattle.recovery.specs.Placing.{in_use}
use Rattle.recovery.specs.declared.parts.Parts.{Parts}
use Rattle.recovery.proofs.Freed.{in_use_twice}
use Rattle.ready_changes.specs.Ready.{AllInUse, FreesUnused}
use Rattle.ready_changes.proofs.laws.all_stay_in_use.Goals as goal

same : (n : ℕ) → n ≤ n
same n = omega arith

after : (old new : Parts) → FreesUnused old new → AllInUse new
after old new freed a = ap (in_use new.ropes) (freed a) ∙ in_use_twice new.ropes new.ropes (λ pair. same (uses_at new.ropes pair)) (holder_at old.blocks.holders a) ∙ sym (freed a)

pub returns : goal.returns
returns c = record { after = after }
