-- What contracts see of the shelf and the sink in memory.
use Rattle.std.specs.Prelude.{ℕ, List, refl, IsErrOf, Result, Contains, ◌↔◌}
use Rattle.std.specs.Coded.{Coded, code_by, coded×, coded_ℕ, coded_list}
use Rattle.std.specs.FinMap.{code}
use Rattle.voice_outside.specs.Files.{Files}
use Rattle.voice_outside.specs.Counters.{next_count}
use Rattle.voice_outside.specs.declared.errors.OutsideError.{OutsideError}
use Rattle.voice_outside.specs.declared.errors.OutsideError.TheVariants.{Failed}

pub record ShelfValue : Type 0 where
  pub files : Files
  pub fails : List ℕ
  pub calls : ℕ
  pub faults : ℕ

abbrev pub shelf_code : Coded ShelfValue
shelf_code =
    code_by (Files × (List ℕ × (ℕ × ℕ))) (coded× (code (coded_list coded_ℕ) (coded_list coded_ℕ)) (coded× (coded_list coded_ℕ) (coded× coded_ℕ coded_ℕ)))
    (λ s. (s.files, (s.fails, (s.calls, s.faults)))) (λ p. record { files = p.0; fails = p.1.0; calls = p.1.1.0; faults = p.1.1.1 }) (λ _. refl)

pub record SinkValue : Type 0 where
  pub held : List ℕ
  pub fails : List ℕ
  pub calls : ℕ
  pub faults : ℕ

-- a call fails exactly where its number, counted from 1, is listed
abbrev pub FailsAsListed : {T : Type 0} → List ℕ → ℕ → Result T OutsideError → Type 0
FailsAsListed fails calls result = IsErrOf result Failed ↔ Contains fails (next_count calls)
