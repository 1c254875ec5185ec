-- Whole scripts.
use Rattle.std.specs.Prelude.{ℕ, zero, suc, List, [], ◌∷◌, ◌++◌, ◌==◌, not, map, flat_map, filter, filter_map, Option, Some, None, if◌then◌else◌}
use Rattle.std.specs.List.{range_with_len, list_any}
use Rattle.script_gen.specs.declared.lines.Order.{Order}
use Rattle.script_gen.specs.declared.lines.Order.TheVariants as orders
use Rattle.script_gen.specs.declared.lines.Line.{Line}
use Rattle.script_gen.specs.Lines.{line_of, after_line, line_text}
use Rattle.script_gen.specs.Samples.{file_bytes}

-- the state before line k
abbrev pub state_before : ℕ → ℕ → ℕ
state_before seed zero = seed
state_before seed (suc k) = after_line (state_before seed k)

-- line k of a script, counted from 0
unfoldable pub line : ℕ → ℕ → Line
line seed k = line_of k (state_before seed k)

-- the first so many lines
abbrev pub lines_of : ℕ → ℕ → List Line
lines_of seed count = map (line seed) (range_with_len 0 count)

-- the bytes of a script: its lines one after another, each ended by a line feed
abbrev pub script_of : List Line → List ℕ
script_of lines = flat_map (λ l. line_text l ++ 10 ∷ []) lines

-- the sample file that an order mentions
abbrev pub file_of : Order → Option ℕ
file_of (orders.Record into file) = Some file
file_of (orders.Concat into first second) = None
file_of (orders.Sub into rope start len) = None
file_of (orders.Replace into rope start len with) = None
file_of (orders.Length rope) = None
file_of (orders.Play lane rope start len) = None
file_of (orders.Retain key rope) = None
file_of (orders.Forget key) = None
file_of (orders.Advance moment) = None
file_of orders.Sweep = None

-- each number once, in the order in which they first stand
abbrev pub each_once : List ℕ → List ℕ
each_once [] = []
each_once (n ∷ ns) = n ∷ filter (λ m. not (m == n)) (each_once ns)

-- the sample files that lines mention, each once, by their first mention
abbrev pub files_of : List Line → List ℕ
files_of lines = each_once (filter_map (λ l. file_of l.order) lines)

-- files seen, and one that is mentioned next, where it is new
abbrev pub mention : List ℕ → Option ℕ → List ℕ
mention seen None = seen
mention seen (Some n) = if list_any (λ m. m == n) seen then seen else seen ++ n ∷ []

-- the samples of files
abbrev pub tapes_of : List ℕ → List (List ℕ)
tapes_of files = map file_bytes files
