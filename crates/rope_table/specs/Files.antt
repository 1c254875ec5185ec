-- What is kept of files.
--     Filed      the counts of files, and how many more fit without memory
--     file_of, is_filed files f      a file's count, 0 where it has none;  whether it has one
--     file_once count, files_live files      1 for a file that live ropes have, else 0;  how many such files there are
--     IsFiled files live      the number of such files is kept
use Rattle.std.specs.Prelude.{◌≡◌, ℕ, Bool, nat_eq, nat_lt, cond, List, unwrap_or, is_some}
use Rattle.std.specs.HashMap.{HashMap}
use Rattle.std.specs.List.{sum_by}
use Rattle.std.specs.Map.{lookup}
use Rattle.rope_table.specs.declared.files.FileCount.{FileCount}

-- the counts of files, and how many more fit without memory
pub record Filed : Type 0 where
  pub files : List (ℕ × FileCount)
  pub spare : ℕ

-- the count of a file of which no block has one
abbrev pub no_file : FileCount
no_file = record { counted = 0; live = 0 }

-- a file's count, 0 where it has none
abbrev pub file_of : List (ℕ × FileCount) → ℕ → FileCount
file_of files f = unwrap_or (lookup (nat_eq f) files) no_file

-- whether a file has a count
abbrev pub is_filed : List (ℕ × FileCount) → ℕ → Bool
is_filed files f = is_some (lookup (nat_eq f) files)

-- 1 for a file that live ropes have, else 0
abbrev pub file_once : FileCount → ℕ
file_once count = cond (nat_lt 0 count.live) 1 0

-- how many files live ropes have
abbrev pub files_live : List (ℕ × FileCount) → ℕ
files_live files = sum_by (λ e. file_once e.1) files

-- the number of files that live ropes have is kept
pub record IsFiled {S : Type 0} (files : HashMap ℕ FileCount S) (live : ℕ) : Type 0 where
  pub total : live ≡ files_live files.entries
