use Rattle.std.proofs.Common.{rules, ◌≡◌, ◌+◌, ℕ, List, length, take, Bool, Some, refl, sym, ap, ◌∙◌, subst, arith}
use Rattle.std.specs.Prelude.{IsTrue, not}
use Rattle.std.proofs.lemmas.List.{with_items_is}
use Rattle.voice_outside.specs.Disk.{Now, segment}
use Rattle.disk_areas.specs.Areas.{Journal as Reading}
use Rattle.disk_areas.specs.Areas.{Records, JournalReading, current_head}
use Rattle.voice_journal.specs.Readings.{Reads, OtherIs}
use Rattle.voice_journal.specs.Places.{area_start}
use Rattle.voice_journal.specs.Lent.{lent}
use Rattle.voice_journal.specs.Parsed.{placed, head_of, IsOther}
use Rattle.voice_journal.specs.Records.{IsParsed}
use Rattle.voice_journal.specs.declared.parsing.Parsed.{Parsed}
use Rattle.voice_journal.specs.declared.parsing.Parsed.TheVariants.{Sound, Broken}
use Rattle.voice_journal.proofs.Steps.{on_ok}
use Rattle.voice_journal.proofs.Lending.{lent_front}
use Rattle.voice_journal.proofs.Areas.{IsArea, reads_opened, other_opened}
use Rattle.voice_journal.proofs.Damages.{same_place, stands_not}
use Rattle.voice_journal.proofs.seats.Journal.open.Given as given
use Rattle.voice_journal.proofs.seats.Journal.open.Goals as goal
use Rattle.voice_journal.proofs.seats.Journal.open.Goals.{After-deref}

-- what was read fills the room
filled : (g : given.Over) (c : After-deref g) → length c.read_part.new.into ≡ c.in_ok-room.room.len
filled g c = search rules

-- the room is what was read
room_is : (g : given.Over) (c : After-deref g) → c.deref.result.now ≡ c.read_part.new.into
room_is g c = c.deref.ensures.value ∙ with_items_is c.in_ok-room.room c.read_part.new.into (filled g c)

-- the records of the room are those of what was read
parsed_as : (g : given.Over) (c : After-deref g) (was is : Parsed) → was ≡ is → IsParsed c.start_of-start.result c.deref.result.now was → IsParsed c.start_of-start.result c.read_part.new.into is
parsed_as g c was is e parsed =
    subst (λ (l : List ℕ). IsParsed c.start_of-start.result l is) (room_is g c) (subst (λ (p : Parsed). IsParsed c.start_of-start.result c.deref.result.now p) e parsed)

-- an honest disk has shown its current area, and a crash from now on leaves the bytes that were read
seen : (g : given.Over) (c : After-deref g) → IsTrue (g.D.Disk.told c.args.disk.now).honest
    → IsArea (g.D.Disk.told c.args.disk.now).bytes c.read_part.new.into c.in_ok-shape.shape c.in_ok-current.current.second c.in_ok-current.current.is_closed c.in_ok-current.current.epoch
    × Now (g.D.Disk.told c.read_part.new.disk) (λ image. image ≡ (g.D.Disk.told c.args.disk.now).bytes)
seen g c honest =
    let shape = c.in_ok-shape.shape in
    let disk = c.args.disk.now in
    let bytes = (g.D.Disk.told disk).bytes in
    let current = c.in_ok-current.current in
    let start = area_start shape current.second in
    let h1 = subst (λ (b : Bool). IsTrue b) (sym c.read_shape.ensures.looks.honest) honest in
    let h2 = subst (λ (b : Bool). IsTrue b) (sym c.read_current.ensures.looks.honest) h1 in
    let d2 = g.D.Disk.told c.read_current.new.disk in
    let still1 = c.read_shape.ensures.looks.still honest in
    let still2 = c.read_current.ensures.looks.still h1 in
    let still3 = c.read_part.ensures.looks.still h2 in
    let laws = g.met.D.Disk g.world.𝓛 g.world.𝓜 g.world.𝓡 ((λ s x. x), (λ x. x), (λ x. x), λ x. x) in
    let whole : length bytes ≡ (g.D.Disk.told disk).size = laws.sized disk _ bytes honest (laws.present disk honest) in
    let read = on_ok c.read_part.result _ (sym c.is_err.ensures.value ∙ c.if-is_err.false) (c.read_part.ensures.filled h2) in
    let room : length c.deref_mut.result.now ≡ shape.area = search rules in (
      record {
        fits = omega (arith, c.in_ok-shape.ensures.fits, c.read_shape.ensures.looks.size, whole);
        shape_is = c.in_ok-shape.ensures.value honest;
        head = subst (λ (b : List ℕ). current_head shape b ≡ Some (head_of shape current.second current.epoch)) still1.bytes (c.in_ok-current.ensures.value h1);
        other = subst (λ (b : List ℕ). IsOther current.is_closed (area_start shape (not current.second)) b current.epoch) still1.bytes (c.in_ok-current.ensures.other h1);
        area_is =
            read ∙ ap (λ (n : ℕ). segment d2.bytes c.start_of-start.result n) room ∙ ap (λ (a : ℕ). segment d2.bytes a shape.area) c.start_of-start.ensures.value ∙ ap (λ (b : List ℕ). segment b start shape.area) (still2.bytes ∙ still1.bytes);
      },
      λ image left. c.in_ok-shape.ensures.settled honest image (still2.now image (still3.now image left)),
    )

pub overflow_add-result : goal.overflow_add-result
overflow_add-result g c =
    let after = (goal.at.overflow_add-result g c).After-deref in
    let len : length c.read_part.new.into ≡ c.in_ok-shape.shape.area = filled g after ∙ c.in_ok-room.ensures.len in
    let bound = (parsed_as g after _ _ c.in-Broken.is c.in_ok-gate.ensures).1 in
    let most = c.in_ok-shape.shape.conditions.area_limit in
    let start = c.start_of-start.ensures.within in
    omega (arith, bound, len, most, start)

pub returns-in-Broken-clause-bad : goal.returns-in-Broken-clause-bad
returns-in-Broken-clause-bad g c =
    λ honest place e.
    let after = (goal.at.returns-in-Broken-clause-bad g c).After-deref in
    let parsed = parsed_as g after _ _ c.in-Broken.is c.in_ok-gate.ensures in
    let gate = c.in-Broken.gate in
    let there : c.start_of-start.result + gate ≡ place = search rules in
    reads_opened _ _ _ _ _ _ (Records.Broken gate) (seen g after honest).0 parsed.0 ∙ ap (λ (n : ℕ). JournalReading.Damaged n) (ap (λ (n : ℕ). n + gate) (sym c.start_of-start.ensures.value) ∙ there)

pub returns-in_ok-bytes-in-Sound-clause-reads : goal.returns-in_ok-bytes-in-Sound-clause-reads
returns-in_ok-bytes-in-Sound-clause-reads g c =
    λ honest.
    let after = (goal.at.returns-in_ok-bytes-in-Sound-clause-reads g c).After-deref in
    let into = c.read_part.new.into in
    let current = c.in_ok-current.current in
    let known = seen g after honest in
    let parsed = parsed_as g after _ _ c.in-Sound.is c.in_ok-gate.ensures in
    let gate = c.in-Sound.gate in
    let rs = parsed.0 in
    let are = parsed.1 in
    let spans = c.in-Sound.spans.items in
    let copied : c.in_ok-bytes-in-Sound.bytes.items ≡ take gate c.deref-in-Sound.result.now = search rules in
    let kept : c.in_ok-bytes-in-Sound.bytes.items ≡ take gate into = copied ∙ ap (λ (l : List ℕ). take gate l) (c.deref-in-Sound.ensures.value ∙ with_items_is c.in_ok-room.room into (filled g after)) in
    let within = are.within in
    let same : lent c.in_ok-bytes-in-Sound.bytes.items spans ≡ placed c.start_of-start.result rs = ap (λ (l : List ℕ). lent l spans) kept ∙ lent_front into gate spans are.inside (omega (arith, within)) ∙ are.show in
    let r : Reading = record { shape = c.in_ok-shape.shape; start = area_start c.in_ok-shape.shape current.second; epoch = current.epoch; records = rs; gate = gate } in
    let reads : Reads (g.D.Disk.told c.args.disk.now).bytes r = reads_opened _ _ _ _ _ _ (Records.Sound rs gate) known.0 are.records in (
      r,
      record {
        reads = reads;
        payloads = same ∙ ap (λ (n : ℕ). placed n rs) c.start_of-start.ensures.value;
        stands = record {
          at = record { shape_is = refl; start = refl; epoch = refl; gate = refl };
          sure = refl;
          each = λ image left. subst (λ (i : List ℕ). Reads i r × OtherIs current.is_closed r i) (sym (known.1 image left)) (reads, other_opened _ r _ _ refl known.0.other);
        };
      },
    )

pub returns-in-Broken-clause-damaged : goal.returns-in-Broken-clause-damaged
returns-in-Broken-clause-damaged g c = λ honest place is. same_place _ place (sym (returns-in-Broken-clause-bad g c honest _ refl) ∙ is)

pub returns-in_ok-bytes-in-Sound-clause-damaged : goal.returns-in_ok-bytes-in-Sound-clause-damaged
returns-in_ok-bytes-in-Sound-clause-damaged g c =
    λ honest place is.
    let opened = returns-in_ok-bytes-in-Sound-clause-reads g c honest in
    absurd (stands_not opened.0 place (sym opened.1.reads ∙ is))
