-- What a label stands for.
--     label_bytes s      its bytes, in place or in memory of their own
use Rattle.std.specs.Prelude.{ℕ, List}
use Rattle.script_lang.specs.declared.labels.Stored.{Stored}
use Rattle.script_lang.specs.declared.labels.Stored.TheVariants.{Short, Long}

-- its bytes, in place or in memory of their own
abbrev pub label_bytes : Stored → List ℕ
label_bytes (Short bytes) = bytes
label_bytes (Long name) = name.value
