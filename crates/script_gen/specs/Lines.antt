-- The lines of a script.
use Rattle.std.specs.Prelude.{ℕ, ◌+◌, ◌-◌, ◌*◌, ◌==◌, if◌then◌else◌, List, [], ◌∷◌, ◌++◌, decimal, codes}
use Rattle.voice_model.specs.Text.{spaced}
use Rattle.script_gen.specs.declared.lines.Order.{Order}
use Rattle.script_gen.specs.declared.lines.Order.TheVariants as orders
use Rattle.script_gen.specs.declared.lines.Line.{Line}
use Rattle.script_gen.specs.Draws.{state, draw}

-- what a line of a kind asks for, the letters drawn from left to right from a state
abbrev pub order_of : ℕ → ℕ → ℕ → ℕ → Order
order_of kind caller k x =
    if kind == 0 then orders.Record (draw x 0 16) (draw x 1 8) else (
    if kind == 1 then orders.Concat (draw x 0 16) (draw x 1 16) (draw x 2 16) else (
    if kind == 2 then orders.Sub (draw x 0 16) (draw x 1 16) (draw x 2 500) (draw x 3 500) else (
    if kind == 3 then orders.Replace (draw x 0 16) (draw x 1 16) (draw x 2 400) (draw x 3 100) (draw x 4 16) else (
    if kind == 4 then orders.Length (draw x 0 16) else (
    if kind == 5 then orders.Play (caller - 1) (draw x 0 16) (draw x 1 500) (draw x 2 2000) else (
    if kind == 6 then orders.Retain (draw x 0 64) (draw x 1 16) else (
    if kind == 7 then orders.Forget (draw x 0 64) else (
    if kind == 8 then orders.Advance (10 * (k + 1)) else orders.Sweep))))))))

-- how many letters a line of a kind has
abbrev pub draws_of : ℕ → ℕ
draws_of kind =
    if kind == 0 then 2 else (
    if kind == 1 then 3 else (
    if kind == 2 then 4 else (
    if kind == 3 then 5 else (
    if kind == 4 then 1 else (
    if kind == 5 then 3 else (
    if kind == 6 then 2 else (
    if kind == 7 then 1 else 0)))))))

-- the caller of the line that is drawn from a state
abbrev pub caller_of : ℕ → ℕ
caller_of x = 1 + draw x 0 4

-- the kind of the line that is drawn from a state
abbrev pub kind_of : ℕ → ℕ
kind_of x = draw x 1 10

-- line k as it is drawn from a state
abbrev pub line_of : ℕ → ℕ → Line
line_of k x = record { caller = caller_of x; order = order_of (kind_of x) (caller_of x) k (state x 2) }

-- the state after the line that is drawn from a state
abbrev pub after_line : ℕ → ℕ
after_line x = state (state x 2) (draws_of (kind_of x))

-- the name of a variable
abbrev pub variable : ℕ → List ℕ
variable n = codes "v" ++ decimal n

-- the name of a sample file
abbrev pub file_name : ℕ → List ℕ
file_name n = codes "g" ++ decimal n

-- a key
abbrev pub key_name : ℕ → List ℕ
key_name n = codes "k" ++ decimal n

-- the words after a line's caller
abbrev pub words_of : Order → List (List ℕ)
words_of (orders.Record into file) = variable into ∷ codes "=" ∷ codes "record" ∷ file_name file ∷ []
words_of (orders.Concat into first second) = variable into ∷ codes "=" ∷ codes "concat" ∷ variable first ∷ variable second ∷ []
words_of (orders.Sub into rope start len) = variable into ∷ codes "=" ∷ codes "sub" ∷ variable rope ∷ decimal start ∷ decimal len ∷ []
words_of (orders.Replace into rope start len with) = variable into ∷ codes "=" ∷ codes "replace" ∷ variable rope ∷ decimal start ∷ decimal len ∷ variable with ∷ []
words_of (orders.Length rope) = codes "length" ∷ variable rope ∷ []
words_of (orders.Play lane rope start len) = codes "play" ∷ decimal lane ∷ variable rope ∷ decimal start ∷ decimal len ∷ codes "out" ∷ []
words_of (orders.Retain key rope) = codes "retain" ∷ codes "held" ∷ key_name key ∷ variable rope ∷ codes "-" ∷ []
words_of (orders.Forget key) = codes "forget" ∷ codes "held" ∷ key_name key ∷ []
words_of (orders.Advance moment) = codes "advance" ∷ decimal moment ∷ []
words_of orders.Sweep = codes "sweep" ∷ codes "64" ∷ []

-- the text of a line without its end: its words, with a space between two
abbrev pub line_text : Line → List ℕ
line_text line = decimal line.caller ++ spaced (words_of line.order)
