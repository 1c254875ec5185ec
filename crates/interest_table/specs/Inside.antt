-- What the table holds: the rows by stamps that rise, the stamps by class and key, how many rows each rope has, and how many bytes their keys and notes have.
--     no_row, kept, entry_of      a row that stands for none;  the row of a stamp;  a stamp and its row
--     row_in      the row of an entry
--     same_name      whether two classes and keys are the same
--     stamp_at rows      the stamp under a class and key
--     stamp_in rows index      the stamp of the row at an index
--     row_in_place, row_under      the row at an index that was found;  the row under a stamp, by the index of each stamp
--     row_found at stamp      the row of a stamp that was found
--     Stamped, stamped_of      rows under stamps, and how many more fit without memory;  those of these parts
--     stamp_of rows class key, row_of rows stamp      the stamp under a class and key;  the row under a stamp
--     IsSame old new      the rows, their stamps and places are the same
--     ArePlaced rows places      each row's stamp has the row's index, and no other stamp has one
--     among, without      whether a stamp is in a list;  the stamps but for one
--     AllKept at stamps      each stamp has a row
--     Rises low stamps top      stamps rise from low on, below top
--     first_keys test n rows      the keys of the first n rows that pass a test
--     is_due, is_that      whether a row is of class Until and its note spells a moment;  whether a moment is the one that was found
--     place, place_of      where a moment and a stamp stand among expiries, by moment and then by stamp;  where an expiry does
--     AllFit      moments and stamps of expiries are below 2^64
--     AreOrdered      expiries rise by their places
--     IsDated at stamps expiries      expiries are of exactly the rows that are due at some moment
--     IsEntered, IsTaken      one expiry more;  one fewer
--     IsGained, IsLost      the expiries once a row came under a stamp;  once it went
--     Leads, NoneDue      the first expiry is of this stamp and is due;  no expiry is due
--     stamps_due, due_front      the stamps of the expiries that are due;  of those in front of the first that is not
--     Grows low numbers      numbers do not fall, from low on
--     times      how often a number stands in a list
--     IsDueStamps now expiries stamps      the stamps of the expiries that are due, rising
--     is_listed      whether a row is of class Listed
--     listed_of at stamps      the stamps of those whose rows are
--     IsDelisted      the stamps of the rows of class Listed once a row went
--     Listing      the rows with their stamps, the next stamp, and how many more rows fit without memory
--     IsListing names at stamps next      what each list of rows keeps
--     IsTimed names at stamps expiries listed next      what it keeps with its expiries and the stamps of its rows of class Listed
--     AreShort rows      keys have at most 64 bytes, and notes 128
--     rows_counted counts rope      how many rows of a rope were counted
--     IsTold tally rows      a tally tells of these rows
--     Lost old new gone      a tally lost these rows
--     IsTable rows tally      what each table keeps
use Rattle.std.specs.Prelude.{◌≡◌, ℕ, ◌+◌, ◌-◌, ◌<◌, ◌≤◌, ◌^◌, ◌==◌, ◌&&◌, ◌*◌, ◌++◌, min, Bool, true, false, cond, List, [], ◌∷◌, map, filter, take, nat_le, length, Option, Some, None, unwrap_or, bytes_eq, slice_get}
use Rattle.std.specs.Prelude.{nat_eq}
use Rattle.std.specs.Map.{lookup}
use Rattle.std.specs.Option.{option_map}
use Rattle.indexmap.specs.IndexMap as index
use Rattle.counted_row.specs.Row as counted
use Rattle.voice_model.specs.declared.calls.Row.{Row}
use Rattle.voice_model.specs.declared.calls.Class.{Class}
use Rattle.voice_model.specs.declared.calls.Class.TheVariants.{Held}
use Rattle.disk_areas.specs.Numbers.{spelled_number}
use Rattle.voice_model.specs.State.{class_number, is_row}
use Rattle.voice_model.specs.Valid.{Once}
use Rattle.interest_table.specs.declared.stamped.NamedRow.{NamedRow}
use Rattle.interest_table.specs.declared.expiries.Expiry.{Expiry}
use Rattle.interest_table.specs.declared.tally.Tally.{Tally}
use Rattle.interest_table.specs.Table.{Table, rows_of, key_bytes_of, note_bytes_of}

-- a row that stands for none
abbrev pub no_row : Row
no_row = record { class = Held; key = []; rope = 0; note = [] }

-- the row of a stamp
abbrev pub kept : (ℕ → Option Row) → ℕ → Row
kept at stamp = unwrap_or (at stamp) no_row

-- a stamp and its row
abbrev pub entry_of : (ℕ → Option Row) → ℕ → ℕ × Row
entry_of at stamp = (stamp, kept at stamp)

-- the row of an entry
abbrev pub row_in : (ℕ × Row) → Row
row_in e = e.1

-- whether two classes and keys are the same
abbrev pub same_name : Class → List ℕ → Class → List ℕ → Bool
same_name class key other_class other_key = (class_number other_class == class_number class) && bytes_eq other_key key

-- the stamp under a class and key
abbrev pub stamp_at : List (NamedRow × ℕ) → Class → List ℕ → Option ℕ
stamp_at rows class key = lookup (λ named. same_name class key named.row.class named.row.key) rows

-- the stamp of the row at an index
abbrev pub stamp_in : List (NamedRow × ℕ) → ℕ → Option ℕ
stamp_in rows i = option_map (λ e. e.1) (slice_get rows i)

-- the row at an index that was found
abbrev pub row_in_place : List (NamedRow × ℕ) → Option ℕ → Option Row
row_in_place rows None = None
row_in_place rows (Some i) = option_map (λ e. e.0.row) (slice_get rows i)

-- the row under a stamp, by the index of each stamp
abbrev pub row_under : List (NamedRow × ℕ) → List (ℕ × ℕ) → ℕ → Option Row
row_under rows places stamp = row_in_place rows (lookup (nat_eq stamp) places)

-- the row of a stamp that was found
abbrev pub row_found : (ℕ → Option Row) → Option ℕ → Option Row
row_found at None = None
row_found at (Some stamp) = at stamp

-- rows with their stamps, the index of each stamp's row, and how many more fit without memory
pub record Stamped : Type 0 where
  pub rows : List (NamedRow × ℕ)
  pub places : List (ℕ × ℕ)
  pub spare : ℕ

-- those of these parts
abbrev pub stamped_of : {S T : Type 0} → index.IndexMap NamedRow ℕ S → index.IndexMap ℕ ℕ T → Stamped
stamped_of rows places = record { rows = rows.entries; places = places.entries; spare = min (index.spare rows) (index.spare places) }

-- the stamp under a class and key
abbrev pub stamp_of : Stamped → Class → List ℕ → Option ℕ
stamp_of rows class key = stamp_at rows.rows class key

-- the row under a stamp
abbrev pub row_of : Stamped → ℕ → Option Row
row_of rows stamp = row_under rows.rows rows.places stamp

-- the rows, their stamps and places are the same
abbrev pub IsSame : Stamped → Stamped → Type 0
IsSame old new = (new.rows ≡ old.rows) × (new.places ≡ old.places)

-- each row's stamp has the row's index, and no other stamp has one
pub record ArePlaced (rows : List (NamedRow × ℕ)) (places : List (ℕ × ℕ)) : Type 0 where
  pub placed : (i stamp : ℕ) → stamp_in rows i ≡ Some stamp → lookup (nat_eq stamp) places ≡ Some i
  pub stands : (stamp i : ℕ) → lookup (nat_eq stamp) places ≡ Some i → stamp_in rows i ≡ Some stamp

-- whether a stamp is in a list
abbrev pub among : ℕ → List ℕ → Bool
among s [] = false
among s (t ∷ ts) = cond (s == t) true (among s ts)

-- the stamps but for one
abbrev pub without : ℕ → List ℕ → List ℕ
without s [] = []
without s (t ∷ ts) = cond (s == t) (without s ts) (t ∷ without s ts)

-- each stamp has a row
abbrev pub AllKept : (ℕ → Option Row) → List ℕ → Type 0
AllKept at [] = Unit {0}
AllKept at (s ∷ ss) = (at s ≡ Some (kept at s)) × AllKept at ss

-- stamps rise from low on, below top
abbrev pub Rises : ℕ → List ℕ → ℕ → Type 0
Rises low [] top = low ≤ top
Rises low (s ∷ ss) top = (low ≤ s) × Rises (s + 1) ss top

-- the keys of the first n rows that pass a test
abbrev pub first_keys : (Row → Bool) → ℕ → List Row → List (List ℕ)
first_keys test n rows = map (λ row. row.key) (take n (filter test rows))

-- whether a row is of class Until and its note spells this moment
abbrev pub is_due : ℕ → Row → Bool
is_due moment row = (class_number row.class == 2) && (spelled_number row.note == moment)

-- whether this moment is the one that was found
abbrev pub is_that : ℕ → Option ℕ → Bool
is_that moment None = false
is_that moment (Some found) = found == moment

-- where a moment and a stamp stand among expiries, by moment and then by stamp
abbrev pub place : ℕ → ℕ → ℕ
place moment stamp = moment * 2 ^ 64 + stamp

-- where an expiry does
abbrev pub place_of : Expiry → ℕ
place_of e = place e.moment e.stamp

-- moments and stamps of expiries are below 2^64
abbrev pub AllFit : List Expiry → Type 0
AllFit [] = Unit {0}
AllFit (e ∷ es) = (e.moment < 2 ^ 64) × (e.stamp < 2 ^ 64) × AllFit es

-- expiries rise by their places
pub record AreOrdered (expiries : List Expiry) : Type 0 where
  pub rising : Rises 0 (map place_of expiries) (2 ^ 128)
  pub fit : AllFit expiries

-- expiries are of exactly the rows that are due at some moment
pub record IsDated (at : ℕ → Option Row) (stamps : List ℕ) (expiries : List Expiry) : Type 0 where
  pub ordered : AreOrdered expiries
  pub exact : (moment stamp : ℕ) → moment < 2 ^ 64 → stamp < 2 ^ 64 → among (place moment stamp) (map place_of expiries) ≡ (among stamp stamps && is_due moment (kept at stamp))

-- one expiry more
abbrev pub IsEntered : Expiry → List Expiry → List Expiry → Type 0
IsEntered coming old new = AreOrdered old → AllFit (coming ∷ []) → among (place_of coming) (map place_of old) ≡ false → AreOrdered new × ((p : ℕ) → among p (map place_of new) ≡ cond (p == place_of coming) true (among p (map place_of old)))

-- one expiry fewer
abbrev pub IsTaken : Expiry → List Expiry → List Expiry → Type 0
IsTaken gone old new = AreOrdered old → among (place_of gone) (map place_of old) ≡ true → AreOrdered new × (map place_of new ≡ without (place_of gone) (map place_of old))

-- the expiries once a row came under a stamp
abbrev pub IsGained : Row → ℕ → List Expiry → List Expiry → Type 0
IsGained row stamp old new = (at more : ℕ → Option Row) (stamps : List ℕ) → IsDated at stamps old → among stamp stamps ≡ false → more stamp ≡ Some row → ((other : ℕ) → (stamp == other) ≡ false → more other ≡ at other) → IsDated more (stamps ++ stamp ∷ []) new

-- the expiries once the row of a stamp went
abbrev pub IsLost : Row → ℕ → List Expiry → List Expiry → Type 0
IsLost row stamp old new = (at left : ℕ → Option Row) (stamps : List ℕ) → IsDated at stamps old → among stamp stamps ≡ true → at stamp ≡ Some row → ((other : ℕ) → (stamp == other) ≡ false → left other ≡ at other) → IsDated left (without stamp stamps) new

-- the first expiry is of this stamp and is due
abbrev pub Leads : ℕ → ℕ → List Expiry → Type 0
Leads now stamp [] = ⊥
Leads now stamp (e ∷ es) = (e.stamp ≡ stamp) × (e.moment ≤ now)

-- no expiry is due
abbrev pub NoneDue : ℕ → List Expiry → Type 0
NoneDue now [] = Unit {0}
NoneDue now (e ∷ es) = now < e.moment

-- the stamps of the expiries that are due
abbrev pub stamps_due : ℕ → List Expiry → List ℕ
stamps_due now expiries = map (λ e. e.stamp) (filter (λ e. nat_le e.moment now) expiries)

-- the stamps of the expiries that are due, in front of the first that is not
abbrev pub due_front : ℕ → List Expiry → List ℕ
due_front now [] = []
due_front now (e ∷ es) = cond (nat_le e.moment now) (e.stamp ∷ due_front now es) []

-- numbers do not fall, from low on
abbrev pub Grows : ℕ → List ℕ → Type 0
Grows low [] = Unit {0}
Grows low (n ∷ ns) = (low ≤ n) × Grows n ns

-- how often a number stands in a list
abbrev pub times : ℕ → List ℕ → ℕ
times n [] = 0
times n (m ∷ ms) = cond (n == m) (1 + times n ms) (times n ms)

-- the stamps of the expiries that are due, rising
pub record IsDueStamps (now : ℕ) (expiries : List Expiry) (stamps : List ℕ) : Type 0 where
  pub rising : Grows 0 stamps
  pub same : AreOrdered expiries → (stamp : ℕ) → times stamp stamps ≡ times stamp (stamps_due now expiries)

-- whether a row is of class Listed
abbrev pub is_listed : Row → Bool
is_listed row = class_number row.class == 3

-- the stamps of those whose rows are
abbrev pub listed_of : (ℕ → Option Row) → List ℕ → List ℕ
listed_of at stamps = filter (λ stamp. is_listed (kept at stamp)) stamps

-- the stamps of the rows of class Listed once the row of a stamp went
abbrev pub IsDelisted : Row → ℕ → List ℕ → List ℕ → Type 0
IsDelisted row stamp old new = (top : ℕ) → Rises 0 old top → among stamp old ≡ is_listed row → new ≡ without stamp old

-- the rows with their stamps, the next stamp, and how many more rows fit without memory
pub record Listing : Type 0 where
  pub entries : List (ℕ × Row)
  pub next : ℕ
  pub spare : ℕ

-- the list of these parts
abbrev pub list_of : Stamped → counted.Row ℕ → counted.Row Expiry → counted.Row ℕ → ℕ → Listing
list_of rows order expiries listed next = record {
  entries = map (entry_of (row_of rows)) order.items;
  next = next;
  spare = min rows.spare (min (min order.spare (min expiries.spare listed.spare)) (2 ^ 63 - next));
}

-- each stamp has a row, which is found under its class and key; what is found there is a stamp of the list, and only those have rows
pub record IsListing (names : Class → List ℕ → Option ℕ) (at : ℕ → Option Row) (stamps : List ℕ) (next : ℕ) : Type 0 where
  pub rising : Rises 0 stamps next
  pub stands : (s : ℕ) → among s stamps ≡ true → (at s ≡ Some (kept at s)) × (names (kept at s).class (kept at s).key ≡ Some s)
  pub known : (class : Class) (key : List ℕ) (s : ℕ) → names class key ≡ Some s → (among s stamps ≡ true) × (is_row class key (kept at s) ≡ true)
  pub only : (s : ℕ) (row : Row) → at s ≡ Some row → among s stamps ≡ true
  pub limit : next ≤ 2 ^ 63

-- what a list keeps with its expiries and the stamps of its rows of class Listed
pub record IsTimed (names : Class → List ℕ → Option ℕ) (at : ℕ → Option Row) (stamps : List ℕ) (expiries : List Expiry) (listed : List ℕ) (next : ℕ) : Type 0 where
  pub listing : IsListing names at stamps next
  pub dated : IsDated at stamps expiries
  pub apart : listed ≡ listed_of at stamps

-- keys have at most 64 bytes, and notes 128
abbrev pub AreShort : List Row → Type 0
AreShort [] = Unit {0}
AreShort (row ∷ rows) = (length row.key ≤ 64) × (length row.note ≤ 128) × AreShort rows

-- how many rows of a rope were counted
abbrev pub rows_counted : {H : Type 0} → index.IndexMap ℕ ℕ H → ℕ → ℕ
rows_counted counts rope = unwrap_or (index.get nat_eq counts rope) 0

-- a tally tells of these rows
pub record IsTold (tally : Tally) (rows : List Row) : Type 0 where
  pub counts : (rope : ℕ) → rows_counted tally.counts rope ≡ rows_of rope rows
  pub keys : tally.key_bytes ≡ key_bytes_of rows
  pub notes : tally.note_bytes ≡ note_bytes_of rows

-- a tally lost these rows
pub record Lost (old new : Tally) (gone : List Row) : Type 0 where
  pub counts : (rope : ℕ) → rows_counted new.counts rope ≡ rows_counted old.counts rope - rows_of rope gone
  pub keys : new.key_bytes ≡ old.key_bytes - key_bytes_of gone
  pub notes : new.note_bytes ≡ old.note_bytes - note_bytes_of gone
  pub spare : index.spare old.counts ≤ index.spare new.counts

-- the table of these parts
abbrev pub seen : Listing → Tally → Table
seen listing tally = record { rows = map row_in listing.entries; spare = min listing.spare (index.spare tally.counts) }

-- no two rows have one class and key; the tally tells of the rows
pub record IsTable (listing : Listing) (tally : Tally) : Type 0 where
  pub once : Once (map row_in listing.entries)
  pub told : IsTold tally (map row_in listing.entries)
  pub short : AreShort (map row_in listing.entries)
  pub few : length listing.entries < 2 ^ 32
