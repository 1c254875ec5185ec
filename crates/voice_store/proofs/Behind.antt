-- A change that fits behind the other records, on its way without memory.
use Rattle.std.proofs.Common.{◌≡◌, ℕ, ◌+◌, ◌≤◌, List, length, Option, sym, ap, subst, arith}
use Rattle.std.specs.Prelude.{Result, Ok, Err, IfSome, IsOk}
use Rattle.voice_outside.specs.Disk.{Told}
use Rattle.voice_model.specs.Samples.{Tagged}
use Rattle.voice_model.specs.State.{State, Effect}
use Rattle.voice_model.specs.Changes.{frame_size}
use Rattle.voice_model.specs.declared.calls.Call.{Call}
use Rattle.voice_model.specs.declared.calls.Reply.{Reply}
use Rattle.row_calls.specs.declared.outcomes.Growth.{Growth}
use Rattle.ready_changes.specs.declared.ReadyChange.{ReadyChange}
use Rattle.voice_store.specs.declared.inside.Inside.{Inside}
use Rattle.voice_store.specs.Stood.{last_of, tapes_of}
use Rattle.voice_store.specs.Altering.{Alters}
use Rattle.voice_store.specs.Spare.{FitsBehindOthers}
use Rattle.voice_store.proofs.Altered.{keeps}
use Rattle.voice_store.proofs.Heard.{last_reserved}

-- what is Ok is no error
pub no_err : {A E P : Type 0} (r : Result A E) (e : E) → r ≡ Err e → IsOk r → P
no_err (Ok x) e is ok = cc
no_err (Err f) e is ok = cc

-- the bytes of a change that is ready fit the rest of the area
pub fits_rest : (first : State) (t0 : ℕ) (disk : Told) (s : Inside) (call : Call) (ready : ReadyChange) (reply : Reply) (growth : Growth) → Alters first t0 disk s call ready reply growth
    → FitsBehindOthers (last_of first s) (tapes_of s) call → 5 + length ready.payload.items + s.journal.seat.gate + 1 ≤ s.journal.shape.area
fits_rest first t0 disk s call ready reply growth h fits =
    let last = last_of first s in
    let k = keeps first t0 disk s call ready reply growth h in
    let small : frame_size last.form last.kept.shape.block k.effect ≤ last.left = subst (λ (o : Option (Effect Tagged)). IfSome o (λ effect. frame_size last.form last.kept.shape.block effect ≤ last.left)) k.is fits in
    let frame = k.frame in
    let left = h.stood.upright.seated.left in
    omega (arith, small, frame, left)

-- room in the history changes nothing of that
pub fits_reserved : (first : State) (s s' : Inside) (call : Call) → s' ≡ record s { history = s'.history } → s'.history.items ≡ s.history.items
    → FitsBehindOthers (last_of first s) (tapes_of s) call → FitsBehindOthers (last_of first s') (tapes_of s') call
fits_reserved first s s' call rest items fits =
    subst (λ (tapes : List (List ℕ)). FitsBehindOthers (last_of first s') tapes call) (sym (ap (λ (x : Inside). tapes_of x) rest))
    (subst (λ (l : State). FitsBehindOthers l (tapes_of s) call) (sym (last_reserved first s s' rest items)) fits)
