-- A mirror that was opened and served: what its packets came to.
use Rattle.std.proofs.Common.{◌∙◌, ℕ, ◌+◌, ◌≤◌, Bool, List, IsTrue, inr, refl, sym, subst, arith}
use Rattle.voice_outside.specs.Disk.{Told}
use Rattle.voice_units.specs.declared.shapes.Shape.{Shape}
use Rattle.voice_journal.specs.Looks.{Looks}
use Rattle.crash_laws.specs.Standing.{IsHonest}
use Rattle.voice_model.specs.Samples.{Tagged}
use Rattle.voice_model.specs.State.{Durable, Effect}
use Rattle.mirror_packets.specs.Packets.{Packet}
use Rattle.mirror_readings.specs.Readings.{MirrorReading}
use Rattle.mirror_effects.specs.Laws.{FrontsGrow}
use Rattle.voice_mirror.specs.declared.answers.Taken.{Taken}
use Rattle.voice_mirror.specs.Shown.{MirrorState, IsOpened, IsRead}
use Rattle.voice_mirror.specs.Promoting.{Goes}
use Rattle.voice_mirror.specs.Serving.{Serves, AreHeld, HaveRisen, HasFront, packets_calls}
use Rattle.voice_mirror.proofs.Fronted.{front_opened, front_since, front_now}
use Rattle.mirror_commands.specs.Feeding.{AreOfList, KeepsFronts, EndsWith, IsServed, Stays, GoesOn, ServesFronts, block_of, IsBounded}

-- the counts of a disk behind an opening and what followed
pub goes_by : (most : ℕ) (old mid new : Told) → Looks 6 old mid → Goes most mid new → Goes (6 + most) old new
goes_by most old mid new looks goes =
    let a = looks.later in
    let b = goes.later in
    let c = looks.faults in
    let d = goes.faults in
    let e = looks.calls in
    let f = goes.calls in
    record { size = goes.size ∙ looks.size; honest = goes.honest ∙ looks.honest; later = omega (arith, a, b); calls = omega (arith, e, f); faults = omega (arith, c, d) }

pub goes_on : (most : ℕ) (old new : Told) → Goes most old new → GoesOn old new
goes_on most old new goes = record { size = goes.size; honest = goes.honest; later = goes.later; faults = goes.faults }

-- within the calls by the blocks that an honest disk has
pub bounded : (packets : List Packet) (old mid new : Told) → Looks 6 old mid → (s : MirrorState) → (IsTrue old.honest → IsRead old.bytes s) → Goes (packets_calls s.journal.shape.block packets) mid new → IsBounded packets old new
bounded packets old mid new looks s read goes honest =
    let is = read honest in
    subst (λ (reading : MirrorReading). new.calls ≤ old.calls + (6 + packets_calls (block_of reading) packets)) (sym is.reads)
    (subst (λ (shape : Shape). new.calls ≤ old.calls + (6 + packets_calls shape.block packets)) is.shape (goes_by (packets_calls s.journal.shape.block packets) old mid new looks goes).calls)

-- an opening alone is
pub bounded_looked : (packets : List Packet) (old new : Told) → Looks 6 old new → IsBounded packets old new
bounded_looked packets old new looks honest = let calls = looks.calls in omega (arith, calls)

pub goes_looked : (old new : Told) → Looks 6 old new → GoesOn old new
goes_looked old new looks = record { size = looks.size; honest = looks.honest; later = looks.later; faults = looks.faults }

-- faults that rose behind the opening rose
risen_by : (answers : List Taken) (old mid new : ℕ) → old ≤ mid → HaveRisen answers mid new → HaveRisen answers old new
risen_by answers old mid new le risen low = let more = risen low in omega (arith, le, more)

module _ (grow : FrontsGrow) (old mid new : Told) (looks : Looks 6 old mid) (s t : MirrorState) (packets : List Packet)
    (opened : IsTrue old.honest → IsOpened old.bytes old.calls mid s) (honest_then : IsTrue old.honest → IsHonest new) (fronts : ServesFronts packets mid new s t) where
  -- a mirror that had a front has one
  has : (honest : IsTrue old.honest) (start : Durable Tagged) (effects : List (Effect Tagged)) (j : ℕ) → AreOfList packets old.bytes start effects j → HasFront start effects (opened honest).had.kept j (opened honest).t0 new t
  has honest start effects j of =
      let is = opened honest in
      fronts (subst (λ (x : Bool). IsTrue x) (sym looks.honest) honest) start effects is.had.kept j is.t0 of.legal of.out_of (front_opened start effects j old.bytes old.calls mid s of.within of.had is)

  pub keeps : IsTrue old.honest → KeepsFronts packets old new
  keeps honest start effects j of image left =
      let is = opened honest in
      let at = honest_then honest in
      front_since grow start effects is.had.kept j is.t0 new at t (has honest start effects j of) image (at.since is.t0 (old.calls + 2) image is.soon left)

  pub ends : IsTrue old.honest → EndsWith packets t.position old new
  ends honest start effects j of =
      let is = opened honest in
      front_now grow start effects is.had.kept j is.t0 new (honest_then honest) t (has honest start effects j of)

  pub stays : Stays packets old new
  stays honest = inr (keeps honest)

  pub served_by : (IsTrue old.honest → IsRead old.bytes s) → (answers : List Taken) → Serves s packets answers t → AreHeld packets answers t.position → HaveRisen answers mid.faults new.faults → IsServed packets answers t.position old new
  served_by read answers serves held risen = record {
    first = s;
    last = t;
    read = read;
    serves = serves;
    position_is = refl;
    held = held;
    faults = risen_by answers old.faults mid.faults new.faults looks.faults risen;
    fronts = keeps;
    ended = ends;
  }
