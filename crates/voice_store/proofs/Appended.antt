-- A change that is appended: what that leaves once it has landed.
use Rattle.std.proofs.Common.{◌≡◌, ℕ, ◌+◌, ◌-◌, ◌≤◌, [], length, Bool, true, cond, IsTrue, refl, sym, ◌∙◌, ap, subst, arith}
use Rattle.std.proofs.lemmas.Bool.{le-leb}
use Rattle.voice_outside.specs.Disk.{Told}
use Rattle.voice_journal.specs.Places.{landed as landed_seat}
use Rattle.voice_model.specs.Samples.{Tagged}
use Rattle.voice_model.specs.State.{State, Effect}
use Rattle.voice_model.specs.Changes.{committed, changed, frame_size, base_size, form_after_switch}
use Rattle.voice_model.specs.Spelling.{change_in}
use Rattle.voice_model.specs.Replay.{Rebuilt, acted}
use Rattle.voice_model.specs.Step.{state_after}
use Rattle.voice_model.specs.declared.calls.Call.{Call}
use Rattle.voice_model.specs.declared.calls.Reply.{Reply}
use Rattle.voice_model.specs.declared.calls.Reply.TheVariants as replies
use Rattle.voice_model.specs.declared.calls.Why.TheVariants as why
use Rattle.voice_model.specs.declared.changes.Change.{Change}
use Rattle.voice_model.proofs.ReadAgain.{spelled_is_read}
use Rattle.running_tables.specs.Running.{Runs}
use Rattle.crash_laws.specs.Calls.{IsChange, IsCommitted}
use Rattle.crash_laws.specs.Foundations.{Foundations}
use Rattle.crash_laws.proofs.Commits.{acted_form, appends_carry}
use Rattle.voice_store.specs.declared.inside.Inside.{Inside}
use Rattle.voice_store.specs.declared.going.Going.{Going}
use Rattle.voice_store.specs.declared.committing.Plan.TheVariants as plans
use Rattle.voice_store.specs.Going.{payload_in}
use Rattle.voice_store.specs.Stood.{tapes_of, last_of, in_form, Fills, IsSeated}
use Rattle.voice_store.specs.Ways.{FitsBehind}
use Rattle.voice_store.specs.Trying.{Trying, place_of}
use Rattle.voice_store.proofs.Played.{changed_shape}
use Rattle.voice_store.proofs.Planned.{Planned, known, closed, done, said, next_done, waits}

-- the state with the change, by whether its frame fits the area
abbrev pub committed_by : Bool → State → Effect Tagged → State
committed_by fits s effect =
    let after = changed s.form s.kept effect in
    let frame = frame_size s.form s.shape.block effect in
    let to = form_after_switch s.form after in
    record s {
      kept = after;
      left = cond fits (s.left - frame) (s.shape.area - 17 - base_size to after);
      epoch = cond fits s.epoch (s.epoch + 1);
      form = cond fits s.form to;
    }

-- where it fits, the area stays
pub fits_behind : (s : State) (effect : Effect Tagged) → frame_size s.form s.kept.shape.block effect ≤ s.left → committed s s.form effect ≡ committed_by true s effect
fits_behind s effect fits = ap (λ (b : Bool). committed_by b s effect) (le-leb (frame_size s.form s.kept.shape.block effect) s.left fits)

module _ {first : State} {t0 : ℕ} {old : Told} {s : Inside} {b : Rebuilt} {going : Going} {c : Change} {effect : Effect Tagged} {caller : ℕ} {call : Call} {reply : Reply}
    (tr : Trying first t0 old s b going c effect caller call reply) (laws : Foundations) (fits : FitsBehind (last_of first s) effect) where
  abbrev last : State
  last = last_of first s

  is_then : done tr ≡ committed_by true (closed tr) effect
  is_then = fits_behind (closed tr) effect fits.fits

  change : IsTrue old.honest → IsChange old.bytes last effect b (payload_in going) c
  change h = record {
    spelled = ap change_in (known tr).payload ∙ spelled_is_read c (known tr).grammar;
    brings_it = (known tr).kind;
    legal = (known tr).legal;
    does = tr.does h;
  }

  -- the form stays
  form : (acted b c).form ≡ b.form
  form = acted_form b c (known tr).kind

  fills_then : Fills tr.fill (acted b c) (done tr)
  fills_then = subst (λ (t : State). Fills tr.fill (acted b c) t) (sym is_then) (record { spots = tr.brings_it.spots; kept = tr.brings_it.kept; form = form ∙ tr.upright.fills.form })

  seated_then : IsSeated (record s.journal { seat = landed_seat s.journal.seat (place_of going plans.Append) }) (done tr)
  seated_then =
      let was = tr.upright.seated in
      let left = was.left in
      let frame = tr.frame in
      let long = fits.fits in
      subst (λ (t : State). IsSeated (record s.journal { seat = landed_seat s.journal.seat (place_of going plans.Append) }) t) (sym is_then)
      (record { shape = changed_shape last.form last.kept effect ∙ was.shape; left = omega (arith, left, frame, long); epoch = was.epoch })

  committed_then : (calls : ℕ) → IsCommitted last effect last.form (state_after last (tapes_of s) (said tr reply calls))
  committed_then calls =
      let is = next_done tr calls ∙ is_then in
      record { kept = ap (λ (t : State). t.kept) is; doubt = ap (λ (t : State). t.doubt) is ∙ tr.may.sure; form = ap (λ (t : State). t.form) is }

  pub appended : Planned tr plans.Append
  appended = record {
    after = acted b c;
    fills = fills_then;
    seated = seated_then;
    tables = λ held takings parts shows. subst (λ (f : ℕ). Runs held [] takings (in_form f parts) (acted b c)) (shows.in_form ∙ form ∙ sym (known tr).runs.in_form) shows;
    places = λ holders there. there;
    held_done = λ new journal h moments does stays.
        (appends_carry laws old new).ok first (tapes_of s) t0 s.journal journal b b s.history.items effect (payload_in going) c (said tr reply new.calls) moments (tr.upright.held h) tr.may.sure (change h) does stays refl (committed_then new.calls);
    held_waits = λ new journal h moments doubts stays.
        (appends_carry laws old new).doubt first (tapes_of s) t0 s.journal journal b b s.history.items effect (payload_in going) c (said tr (replies.No why.InDoubt) new.calls) moments (tr.upright.held h) tr.may.sure (change h) doubts stays refl
        (fits.fits, waits tr new.calls);
  }
