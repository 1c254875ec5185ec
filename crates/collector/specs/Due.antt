-- Which ropes a sweep removes, as the tables tell.
--     once b      1 where it holds, else 0
--     copies n xs      how often a number stands in a list
--     Rises xs      no number is above one behind it
--     AreLowest low all      some of the numbers, of which none is above one of the others
--     is_by now due, ids_by now dues      whether a rope is due up to a moment;  the ropes that are
--     rows_kept now rows      the rows that are not expired
--     rows_left counts rows id      how many rows of a rope are left, as a count tells that has the ropes of which some went
--     is_kept ropes id      whether a rope is live and kept by a row
--     AreKept rows ropes      a live rope is kept exactly where a row names it
--     has_only_expired now rows id      whether every row of a rope is expired
--     is_gone now until rows rope, gone_ids now until rows ropes      whether a sweep removes a live rope;  the numbers of those that it removes
--     IsShown, AreShown graces ropes lives      the table keeps a live rope of the durable part;  it keeps just these
--     AreEqual graces      a rope waits equally long whichever class it lost last
--     ShowsDue table interests now wait form d      the tables show a durable part, as far as a sweep in an area of that form looks at it
--     due_count form d      how many ropes of a durable part are due
use Rattle.std.specs.Prelude.{◌≡◌, ℕ, ◌+◌, ◌<◌, ◌≤◌, ◌⊎◌, Bool, false, not, ◌&&◌, ◌==◌, nat_le, nat_eq, cond, List, [], ◌∷◌, map, filter, length, unwrap_or}
use Rattle.std.specs.HashMap.{HashMap, get}
use Rattle.voice_units.specs.declared.shapes.Graces.{Graces}
use Rattle.voice_model.specs.State.{Durable, Live, has_row}
use Rattle.voice_model.specs.Changes.{is_expired, is_due, without_expired, wait_of}
use Rattle.voice_model.specs.declared.calls.Row.{Row}
use Rattle.rope_table.specs.declared.ropes.Rope.{Rope}
use Rattle.rope_table.specs.declared.dues.Due.{Due}
use Rattle.rope_table.specs.Table.{Table, Every, kept_at}
use Rattle.interest_table.specs.Table.{rows_of}

-- 1 where it holds, else 0
abbrev pub once : Bool → ℕ
once b = cond b 1 0

-- how often a number stands in a list
abbrev pub copies : ℕ → List ℕ → ℕ
copies n [] = 0
copies n (x ∷ xs) = once (x == n) + copies n xs

-- no number is above one behind it
abbrev pub Rises : List ℕ → Type 0
Rises [] = Unit {0}
Rises (x ∷ xs) = Every (λ y. x ≤ y) xs × Rises xs

-- some of the numbers, of which none is above one of the others
pub record AreLowest (low all : List ℕ) : Type 0 where
  pub others : List ℕ
  pub parts : (n : ℕ) → copies n all ≡ copies n low + copies n others
  pub below : (n : ℕ) → 0 < copies n low → Every (λ y. n ≤ y) others

-- whether a rope is due up to a moment
abbrev pub is_by : ℕ → Due → Bool
is_by now due = nat_le due.at now

-- the ropes that are
abbrev pub ids_by : ℕ → List Due → List ℕ
ids_by now dues = map (λ due. due.id) (filter (is_by now) dues)

-- how many rows of a rope are left; the count has the ropes of which some went
abbrev pub rows_left : {H : Type 0} → HashMap ℕ ℕ H → List Row → ℕ → ℕ
rows_left counts rows id = unwrap_or (get nat_eq counts id) (rows_of id rows)

-- whether a rope is live and kept by a row
abbrev pub is_kept : List Rope → ℕ → Bool
is_kept ropes id = unwrap_or (kept_at ropes id) false

-- a live rope is kept exactly where a row names it
abbrev pub AreKept : List Row → List Rope → Type 0
AreKept rows ropes = Every (λ rope. rope.kept ≡ has_row rows rope.id) ropes

-- the rows that are not expired
abbrev pub rows_kept : ℕ → List Row → List Row
rows_kept now rows = filter (λ row. not (is_expired now row)) rows

-- whether every row of a rope is expired
abbrev pub has_only_expired : ℕ → List Row → ℕ → Bool
has_only_expired now rows id = not (has_row (rows_kept now rows) id)

-- whether a sweep removes a live rope: one that rows keep where all of these are expired and it need not wait then, another where it was idle for its wait
abbrev pub is_gone : ℕ → ℕ → List Row → Rope → Bool
is_gone now until rows rope = cond rope.kept ((until == 0) && has_only_expired now rows rope.id) (nat_le (rope.idle + rope.wait) now)

-- the numbers of the live ropes that a sweep removes
abbrev pub gone_ids : ℕ → ℕ → List Row → List Rope → List ℕ
gone_ids now until rows ropes = map (λ (rope : Rope). rope.id) (filter (is_gone now until rows) ropes)

-- the table keeps a live rope of the durable part
pub record IsShown {A : Type 0} (graces : Graces) (rope : Rope) (live : Live A) : Type 0 where
  pub id : rope.id ≡ live.id
  pub idle : rope.idle ≡ live.idle
  pub last : rope.last ≡ live.last
  pub wait : rope.wait ≡ wait_of graces live.last

-- the table keeps just these live ropes, in this order
abbrev pub AreShown : {A : Type 0} → Graces → List Rope → List (Live A) → Type 0
AreShown graces [] [] = Unit {0}
AreShown graces [] (live ∷ lives) = ⊥
AreShown graces (rope ∷ ropes) [] = ⊥
AreShown graces (rope ∷ ropes) (live ∷ lives) = IsShown graces rope live × AreShown graces ropes lives

-- a rope waits equally long whichever class it lost last
pub record AreEqual (graces : Graces) : Type 0 where
  pub held : graces.held ≡ graces.until
  pub listed : graces.listed ≡ graces.until
  pub common : graces.common ≡ graces.until

-- the tables show a durable part, as far as a sweep in an area of that form looks at it; form 1 knows one grace alone
pub record ShowsDue {A : Type 0} (table : Table) (interests : List Row) (now wait form : ℕ) (d : Durable A) : Type 0 where
  pub ropes : AreShown d.shape.graces table.ropes d.ropes
  pub rows : d.rows ≡ interests
  pub moment : d.moment ≡ now
  pub until : d.shape.graces.until ≡ wait
  pub graces : (form ≡ 2) ⊎ AreEqual d.shape.graces

-- how many ropes of a durable part are due, once the expired rows are gone
abbrev pub due_count : {A : Type 0} → ℕ → Durable A → ℕ
due_count form d = let left = without_expired form d in length (filter (is_due left) left.ropes)
