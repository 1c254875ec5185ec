-- The steps of a change, from what the journal knows.
use Rattle.std.proofs.Common.{◌≡◌, ℕ, ◌+◌, ◌*◌, ◌^◌, ◌<◌, ◌≤◌, List, [], ◌∷◌, length, Bool, true, false, refl, ap, sym, ◌∙◌, subst, arith, Some, None}
use Rattle.std.specs.Prelude.{not}
use Rattle.voice_outside.specs.Disk.{Told, AgreesOutside, Now, Leaves, WroteSynced, IsSettled}
use Rattle.disk_areas.specs.Areas.{Journal}
use Rattle.voice_journal.specs.Readings.{Reads, OtherIs, IsPending, other_start, with_payload, switched, frame, framed_size, data_start, Without, WithinLand}
use Rattle.voice_journal.specs.Spelled.{area_bytes}
use Rattle.voice_journal.specs.Places.{JournalValue, area_start, landed, commit_place, closed_after}
use Rattle.voice_journal.specs.Stands.{Stands, StandsInDoubt, IsReady, IsKept, IsWhole}
use Rattle.voice_journal.specs.declared.seats.Doubt.{Doubt}
use Rattle.voice_journal.specs.declared.seats.Doubt.TheVariants.{Record, Area}
use Rattle.voice_journal.proofs.Moves.{reads_current, reads_closed, reads_older}
use Rattle.voice_journal.proofs.Filling.{frame_pending, area_pending, length-frame, length-area_bytes}
use Rattle.std.proofs.Common.{get_or}
use Rattle.voice_journal.proofs.Filling.{byte_of}
use Rattle.voice_journal.proofs.Steps.{area_high, area_low, other_at, area_at, each_kept, crash_kept, commit_pending, commit_crash, commit_landed}

-- the journal once what is in doubt has landed
abbrev pub after : JournalValue → Doubt → JournalValue
after j d = record { shape = j.shape; seat = landed j.seat d; doubt = None; is_closed = closed_after j.is_closed d }

abbrev pub doubting : JournalValue → Doubt → JournalValue
doubting j d = record { shape = j.shape; seat = j.seat; doubt = Some d; is_closed = j.is_closed }

module _ (w v : JournalValue) (same : w ≡ v) (d : Doubt) (old new : Told) (r s : Journal) (place : ℕ) (at : place ≡ commit_place w.shape w.seat d) (low : 64 ≤ place) (high : place + 1 ≤ data_start w.shape)
    (ready : IsReady v d old r s) (wrote : WroteSynced place (1 ∷ []) old new) where
  here : IsReady w d old r s
  here = subst (λ (j : JournalValue). IsReady j d old r s) (sym same) ready

  each : Now old (IsPending place r s (closed_after w.is_closed d))
  each = subst (λ (n : ℕ). Now old (IsPending n r s (closed_after w.is_closed d))) (sym at) here.each

  within : place + 1 ≤ 64 + 2 * r.shape.area
  within = omega (arith, high, area_at w.shape w.seat r here.at)

  pub commit_fails : StandsInDoubt (doubting w d) new r s
  commit_fails = record {
    doubt = d;
    unsure = refl;
    ready = record {
      at = record { shape_is = here.at.shape_is; start = here.at.start; epoch = here.at.epoch; gate = here.at.gate };
      next = record { shape_is = here.next.shape_is; start = here.next.start; epoch = here.next.epoch; gate = here.next.gate };
      each = subst (λ (n : ℕ). Now new (IsPending n r s (closed_after w.is_closed d))) at (commit_pending old new r s (closed_after w.is_closed d) place each low within wrote);
    };
  }

  pub commit_crashes : Leaves old new (WithinLand r s old)
  commit_crashes = commit_crash old new r s (closed_after w.is_closed d) place each low within wrote

  -- it lands what `d` says, however that is written
  pub commit_lands : (e : Doubt) → d ≡ e → new.may_leave new.calls new.bytes → IsSettled place (1 ∷ []) new → Stands (after w e) new s
  commit_lands e is present done =
      let lands : Stands (after w d) new s = record {
        at = record { shape_is = here.next.shape_is; start = here.next.start; epoch = here.next.epoch; gate = here.next.gate };
        sure = refl;
        each = commit_landed old new r s (closed_after w.is_closed d) place each low within wrote present done;
      } in
      subst (λ (x : Doubt). Stands (after w x) new s) is lands

-- a frame's write
module _ (w v : JournalValue) (same : w ≡ v) (old new : Told) (r : Journal) (p bytes : List ℕ) (from : ℕ) (at : from ≡ area_start w.shape w.seat.second + w.seat.gate + 1) (spelled : bytes ≡ frame p)
    (room : w.seat.gate + 5 + length p < w.shape.area) (present : old.may_leave old.calls old.bytes) (stands : Stands v old r) (wrote : WroteSynced from bytes old new) where
  mine : Stands w old r
  mine = subst (λ (j : JournalValue). Stands j old r) (sym same) stands

  place_is : area_start w.shape w.seat.second + w.seat.gate ≡ r.start + r.gate
  place_is = let s = mine.at.start in let g = mine.at.gate in omega (arith, s, g)

  area_is : w.shape.area ≡ r.shape.area
  area_is = area_at w.shape w.seat r mine.at

  written : WroteSynced (r.start + r.gate + 1) (frame p) old new
  written =
      let from_is : from ≡ r.start + r.gate + 1 = at ∙ ap (λ (n : ℕ). n + 1) place_is in
      subst (λ (l : List ℕ). WroteSynced (r.start + r.gate + 1) l old new) spelled (subst (λ (n : ℕ). WroteSynced n bytes old new) from_is wrote)

  fits : r.gate + 5 + length p < r.shape.area
  fits = let g = mine.at.gate in omega (arith, g, area_is, room)

  begins : 64 ≤ r.start
  begins = let s = mine.at.start in omega (arith, s, area_low w.shape w.seat.second)

  ends : r.start + r.shape.area ≤ 64 + 2 * r.shape.area
  ends = let s = mine.at.start in omega (arith, s, area_is, area_high w.shape w.seat.second)

  frame_step : (a b : List ℕ) → AgreesOutside (r.start + r.gate + 1) (length (frame p)) a b → Reads a r × OtherIs w.is_closed r a → Reads b r × OtherIs w.is_closed r b
  frame_step a b agrees is = reads_current w.is_closed a b r (r.start + r.gate + 1) (length (frame p)) (omega arith) (omega (arith, fits, length-frame p)) agrees is

  high : r.start + r.gate + 1 + length (frame p) ≤ 64 + 2 * r.shape.area
  high = omega (arith, fits, length-frame p, ends)

  frame_each : Now new (λ image. Reads image r × OtherIs w.is_closed r image)
  frame_each = each_kept old new r w.is_closed w.is_closed (r.start + r.gate + 1) (length (frame p)) mine.each (omega (arith, begins)) high frame_step (frame p) refl written

  pub frame_kept : IsKept v old new r
  frame_kept = record {
    stands = record { at = stands.at; sure = stands.sure; each = subst (λ (j : JournalValue). Now new (λ image. Reads image r × OtherIs j.is_closed r image)) same frame_each };
    crash = crash_kept old new r w.is_closed w.is_closed (r.start + r.gate + 1) (length (frame p)) mine.each (omega (arith, begins)) high frame_step (frame p) refl written;
  }

  frame_whole_here : new.may_leave new.calls new.bytes → IsSettled from bytes new → IsWhole w (Record (length p)) new r (with_payload r p)
  frame_whole_here present_new done' =
      let from_is : from ≡ r.start + r.gate + 1 = at ∙ ap (λ (n : ℕ). n + 1) place_is in
      let done : IsSettled (r.start + r.gate + 1) (frame p) new = subst (λ (l : List ℕ). IsSettled (r.start + r.gate + 1) l new) spelled (subst (λ (n : ℕ). IsSettled n bytes new) from_is done') in
      let pending : IsPending (r.start + r.gate) r (with_payload r p) w.is_closed new.bytes = frame_pending w.is_closed new.bytes r p (frame_each new.bytes present_new) done.written fits in
      record {
        ready = record {
          at = mine.at;
          next = record { shape_is = mine.at.shape_is; start = mine.at.start; epoch = mine.at.epoch; gate = let g = mine.at.gate in omega (arith, g) };
          each = λ image left.
              subst (λ (i : List ℕ). IsPending (area_start w.shape w.seat.second + w.seat.gate) r (with_payload r p) w.is_closed i) (sym (done.settled image left))
              (subst (λ (n : ℕ). IsPending n r (with_payload r p) w.is_closed new.bytes) (sym place_is) pending);
        };
        settled = done.settled;
      }

  pub frame_whole : new.may_leave new.calls new.bytes → IsSettled from bytes new → IsWhole v (Record (length p)) new r (with_payload r p)
  frame_whole present_new done = subst (λ (j : JournalValue). IsWhole j (Record (length p)) new r (with_payload r p)) same (frame_whole_here present_new done)

-- the other head's gate is closed
module _ (w v : JournalValue) (same : w ≡ v) (unknown : w.is_closed ≡ false) (old new : Told) (r : Journal) (from : ℕ) (at : from ≡ area_start w.shape (not w.seat.second)) (stands : Stands v old r) (wrote : WroteSynced from (0 ∷ []) old new) where
  my : Stands w old r
  my = subst (λ (j : JournalValue). Stands j old r) (sym same) stands

  from_is : from ≡ other_start r
  from_is = at ∙ other_at w.shape w.seat r my.at

  wrote_it : WroteSynced (other_start r) (0 ∷ []) old new
  wrote_it = subst (λ (n : ℕ). WroteSynced n (0 ∷ []) old new) from_is wrote

  before : Now old (λ image. Reads image r × OtherIs false r image)
  before = subst (λ (b : Bool). Now old (λ image. Reads image r × OtherIs b r image)) unknown my.each

  low_other : 64 ≤ other_start r
  low_other = omega (arith, area_low w.shape (not w.seat.second), at, from_is)

  high_other : other_start r + 1 ≤ 64 + 2 * r.shape.area
  high_other = let least = r.shape.conditions.area_least in omega (arith, area_high w.shape (not w.seat.second), at, from_is, area_at w.shape w.seat r my.at)

  step : (a b : List ℕ) → AgreesOutside (other_start r) 1 a b → Reads a r × OtherIs false r a → Reads b r × OtherIs false r b
  step a b agrees is = reads_older a b r agrees is

  each_open : Now new (λ image. Reads image r × OtherIs false r image)
  each_open = each_kept old new r false false (other_start r) 1 before low_other high_other step (0 ∷ []) refl wrote_it

  crash_open : Leaves old new (Without r old)
  crash_open = crash_kept old new r false false (other_start r) 1 before low_other high_other step (0 ∷ []) refl wrote_it

  pub close_fails : IsKept v old new r
  close_fails = record {
    stands = record {
      at = stands.at;
      sure = stands.sure;
      each = subst (λ (j : JournalValue). Now new (λ image. Reads image r × OtherIs j.is_closed r image)) same (subst (λ (b : Bool). Now new (λ image. Reads image r × OtherIs b r image)) (sym unknown) each_open);
    };
    crash = crash_open;
  }

  pub close_done : new.may_leave new.calls new.bytes → IsSettled from (0 ∷ []) new → IsKept (record { shape = w.shape; seat = w.seat; doubt = w.doubt; is_closed = true }) old new r
  close_done present done' =
      let done : IsSettled (other_start r) (0 ∷ []) new = subst (λ (n : ℕ). IsSettled n (0 ∷ []) new) from_is done' in
      let zero : get_or new.bytes (other_start r) 0 ≡ 0 = byte_of new.bytes (other_start r) 0 done.written in
      record {
        stands = record {
          at = record { shape_is = my.at.shape_is; start = my.at.start; epoch = my.at.epoch; gate = my.at.gate };
          sure = my.sure;
          each = λ image left.
              ((each_open image left).0, λ one. absurd (let there = ap (λ (i : List ℕ). get_or i (other_start r) 0) (done.settled image left) in omega (arith, there, zero, one)));
        };
        crash = crash_open;
      }

-- the other area's contents
module _ (w v : JournalValue) (same : w ≡ v) (known : w.is_closed ≡ true) (old new : Told) (r : Journal) (ps : List (List ℕ)) (bytes : List ℕ) (from : ℕ) (at : from ≡ area_start w.shape (not w.seat.second) + 1)
    (spelled : bytes ≡ area_bytes (w.seat.epoch + 1) ps) (room : framed_size ps + 17 ≤ w.shape.area) (limit : w.seat.epoch < 2 ^ 48) (stands : Stands v old r) (wrote : WroteSynced from bytes old new) where
  stands_here : Stands w old r
  stands_here = subst (λ (j : JournalValue). Stands j old r) (sym same) stands

  other_place : area_start w.shape (not w.seat.second) ≡ other_start r
  other_place = other_at w.shape w.seat r stands_here.at

  behind_it : from ≡ other_start r + 1
  behind_it = at ∙ ap (λ (n : ℕ). n + 1) other_place

  contents : bytes ≡ area_bytes (r.epoch + 1) ps
  contents = spelled ∙ ap (λ (n : ℕ). area_bytes (n + 1) ps) stands_here.at.epoch

  wrote_area : WroteSynced (other_start r + 1) (area_bytes (r.epoch + 1) ps) old new
  wrote_area = subst (λ (l : List ℕ). WroteSynced (other_start r + 1) l old new) contents (subst (λ (n : ℕ). WroteSynced n bytes old new) behind_it wrote)

  closed_before : Now old (λ image. Reads image r × OtherIs true r image)
  closed_before = subst (λ (b : Bool). Now old (λ image. Reads image r × OtherIs b r image)) known stands_here.each

  size_is : length (area_bytes (r.epoch + 1) ps) ≡ 16 + framed_size ps
  size_is = length-area_bytes (r.epoch + 1) ps

  one_area : w.shape.area ≡ r.shape.area
  one_area = area_at w.shape w.seat r stands_here.at

  low_area : 64 ≤ other_start r + 1
  low_area = omega (arith, area_low w.shape (not w.seat.second), other_place)

  high_area : other_start r + 1 + length (area_bytes (r.epoch + 1) ps) ≤ 64 + 2 * r.shape.area
  high_area = omega (arith, area_high w.shape (not w.seat.second), other_place, one_area, size_is, room)

  area_step : (a b : List ℕ) → AgreesOutside (other_start r + 1) (length (area_bytes (r.epoch + 1) ps)) a b → Reads a r × OtherIs true r a → Reads b r × OtherIs true r b
  area_step a b agrees is = reads_closed a b r (other_start r + 1) (length (area_bytes (r.epoch + 1) ps)) (omega arith) (omega (arith, one_area, size_is, room)) agrees is

  each_area : Now new (λ image. Reads image r × OtherIs true r image)
  each_area = each_kept old new r true true (other_start r + 1) (length (area_bytes (r.epoch + 1) ps)) closed_before low_area high_area area_step (area_bytes (r.epoch + 1) ps) refl wrote_area

  pub area_kept : IsKept v old new r
  area_kept = record {
    stands = record {
      at = stands.at;
      sure = stands.sure;
      each = subst (λ (j : JournalValue). Now new (λ image. Reads image r × OtherIs j.is_closed r image)) same (subst (λ (b : Bool). Now new (λ image. Reads image r × OtherIs b r image)) (sym known) each_area);
    };
    crash = crash_kept old new r true true (other_start r + 1) (length (area_bytes (r.epoch + 1) ps)) closed_before low_area high_area area_step (area_bytes (r.epoch + 1) ps) refl wrote_area;
  }

  area_whole_here : new.may_leave new.calls new.bytes → IsSettled from bytes new → IsWhole w (Area (16 + framed_size ps)) new r (switched r ps)
  area_whole_here present done' =
      let done : IsSettled (other_start r + 1) (area_bytes (r.epoch + 1) ps) new =
      subst (λ (l : List ℕ). IsSettled (other_start r + 1) l new) contents (subst (λ (n : ℕ). IsSettled n bytes new) behind_it done') in
      let e = stands_here.at.epoch in
      let pending : IsPending (other_start r) r (switched r ps) false new.bytes = area_pending new.bytes r ps (each_area new.bytes present) done.written (omega (arith, one_area, room)) (omega (arith, e, limit)) in
      record {
        ready = record {
          at = stands_here.at;
          next = record { shape_is = stands_here.at.shape_is; start = other_place; epoch = ap (λ (n : ℕ). n + 1) e; gate = refl };
          each = λ image left.
              subst (λ (i : List ℕ). IsPending (area_start w.shape (not w.seat.second)) r (switched r ps) false i) (sym (done.settled image left))
              (subst (λ (n : ℕ). IsPending n r (switched r ps) false new.bytes) (sym other_place) pending);
        };
        settled = done.settled;
      }

  pub area_whole : new.may_leave new.calls new.bytes → IsSettled from bytes new → IsWhole v (Area (16 + framed_size ps)) new r (switched r ps)
  area_whole present done = subst (λ (j : JournalValue). IsWhole j (Area (16 + framed_size ps)) new r (switched r ps)) same (area_whole_here present done)
