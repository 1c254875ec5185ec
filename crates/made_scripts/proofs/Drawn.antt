-- What a generated line holds: numbers that are few, and a play for the lane of its own caller.
use Rattle.std.proofs.Common.{◌≡◌, ℕ, suc, zero, ◌+◌, ◌/◌, ◌^◌, ◌<◌, ◌≤◌, Bool, true, false, cond, eqb, map, arith, lit<, lit≤}
use Rattle.std.specs.List.{range_with_len}
use Rattle.std.proofs.lemmas.Nat.{mod_below}
use Rattle.script_gen.specs.declared.lines.Order.{Order}
use Rattle.script_gen.specs.declared.lines.Order.TheVariants as orders
use Rattle.script_gen.specs.declared.lines.Line.{Line}
use Rattle.script_gen.specs.Draws.{next, state, draw}
use Rattle.script_gen.specs.Lines.{order_of, caller_of, kind_of}
use Rattle.script_gen.specs.Scripts.{state_before, line, lines_of}
use Rattle.script_lang.specs.Grammar.{Every}
use Rattle.made_scripts.proofs.Named.{Few}

-- what an order of a caller holds
abbrev pub Within : ℕ → Order → Type 0
Within caller (orders.Record into file) = Few into × Few file
Within caller (orders.Concat into first second) = Few into × Few first × Few second
Within caller (orders.Sub into rope start len) = Few into × Few rope × Few start × Few len
Within caller (orders.Replace into rope start len with) = Few into × Few rope × Few start × Few len × Few with
Within caller (orders.Length rope) = Few rope
Within caller (orders.Play lane rope start len) = (caller ≡ lane + 1) × (lane ≤ 15) × Few rope × Few start × Few len
Within caller (orders.Retain key rope) = Few key × Few rope
Within caller (orders.Forget key) = Few key
Within caller (orders.Advance moment) = Few moment
Within caller orders.Sweep = Unit {0}

-- what a generated line holds
pub record IsDrawn (l : Line) : Type 0 where
  pub least : 1 ≤ l.caller
  pub most : l.caller ≤ 4
  pub within : Within l.caller l.order

drawn : (x i n : ℕ) → 0 < n → n ≤ 2 ^ 20 → Few (draw x i n)
drawn x i n some most = let h = mod_below (next (state x i) / 2 ^ 33) n some in omega (arith, h)

choose : (caller : ℕ) (t : Bool) (a b : Order) → Within caller a → Within caller b → Within caller (cond t a b)
choose caller true a b p q = p
choose caller false a b p q = q

order_within : (kind caller k x : ℕ) → 1 ≤ caller → caller ≤ 4 → k < 65535 → Within caller (order_of kind caller k x)
order_within kind caller k x least most few =
    choose caller (eqb kind 0) _ _ (drawn x 0 16 (lit< tt) (lit≤ tt), drawn x 1 8 (lit< tt) (lit≤ tt))
    (choose caller (eqb kind 1) _ _ (drawn x 0 16 (lit< tt) (lit≤ tt), drawn x 1 16 (lit< tt) (lit≤ tt), drawn x 2 16 (lit< tt) (lit≤ tt))
    (choose caller (eqb kind 2) _ _ (drawn x 0 16 (lit< tt) (lit≤ tt), drawn x 1 16 (lit< tt) (lit≤ tt), drawn x 2 500 (lit< tt) (lit≤ tt), drawn x 3 500 (lit< tt) (lit≤ tt))
    (choose caller (eqb kind 3) _ _ (drawn x 0 16 (lit< tt) (lit≤ tt), drawn x 1 16 (lit< tt) (lit≤ tt), drawn x 2 400 (lit< tt) (lit≤ tt), drawn x 3 100 (lit< tt) (lit≤ tt), drawn x 4 16 (lit< tt) (lit≤ tt))
    (choose caller (eqb kind 4) _ _ (drawn x 0 16 (lit< tt) (lit≤ tt))
    (choose caller (eqb kind 5) _ _ (omega arith, omega arith, drawn x 0 16 (lit< tt) (lit≤ tt), drawn x 1 500 (lit< tt) (lit≤ tt), drawn x 2 2000 (lit< tt) (lit≤ tt))
    (choose caller (eqb kind 6) _ _ (drawn x 0 64 (lit< tt) (lit≤ tt), drawn x 1 16 (lit< tt) (lit≤ tt))
    (choose caller (eqb kind 7) _ _ (drawn x 0 64 (lit< tt) (lit≤ tt))
    (choose caller (eqb kind 8) _ _ (omega arith) tt))))))))

caller_few : (x : ℕ) → (1 ≤ caller_of x) × (caller_of x ≤ 4)
caller_few x = let h = mod_below (next (state x 0) / 2 ^ 33) 4 (lit< tt) in (omega (arith, h), omega (arith, h))

line_drawn : (seed k : ℕ) → k < 65535 → IsDrawn (line seed k)
unfolding line
line_drawn seed k few =
    let x = state_before seed k in
    let c = caller_few x in
    record { least = c.0; most = c.1; within = order_within (kind_of x) (caller_of x) k (state x 2) c.0 c.1 few }

all_drawn : (seed from count : ℕ) → from + count ≤ 65535 → Every IsDrawn (map (line seed) (range_with_len from count))
all_drawn seed from zero few = tt
all_drawn seed from (suc n) few = (line_drawn seed from (omega arith), all_drawn seed (from + 1) n (omega arith))

pub lines_drawn : (seed count : ℕ) → count ≤ 65535 → Every IsDrawn (lines_of seed count)
lines_drawn seed count few = all_drawn seed 0 count (omega arith)
