-- What a crash may leave of a history.
--     with_landing s tapes entries      the entries, and the landing of the change that is then in doubt, if there is one
--     moment_of t0 entries k      the moment at which entry k was answered, and t0 for k = 0
--     Held      each image that may be left after entry k is recovered as the durable part after j entries, for some j of at least k
use Rattle.std.specs.Prelude.{◌≡◌, ℕ, zero, suc, ◌≤◌, List, [], ◌∷◌, ◌++◌, length, take, Option, Some, is_some, cond}
use Rattle.voice_model.specs.Samples.{Tagged}
use Rattle.voice_model.specs.State.{State, Durable}
use Rattle.voice_model.specs.Step.{after}
use Rattle.voice_model.specs.declared.calls.Entry.{Entry}
use Rattle.voice_model.specs.declared.calls.Call.TheVariants as calls
use Rattle.voice_model.specs.declared.calls.Reply.TheVariants as replies

abbrev pub landing : Entry
landing = record { caller = 0; call = calls.Landed; reply = replies.Done; ack = 0 }

abbrev pub with_landing : State → List (List ℕ) → List Entry → List Entry
with_landing s tapes entries = entries ++ cond (is_some (after s tapes entries).doubt) (landing ∷ []) []

abbrev pub moment_of : ℕ → List Entry → ℕ → ℕ
moment_of t0 entries zero = t0
moment_of t0 [] (suc k) = t0
moment_of t0 (e ∷ es) (suc k) = moment_of e.ack es k

abbrev pub durable_after : State → List (List ℕ) → List Entry → ℕ → Durable Tagged
durable_after s tapes entries k = (after s tapes (take k entries)).kept

-- may_leave t image: a crash at some moment since t may have left the image
pub record Held (recovered : List ℕ → Option (Durable Tagged)) (may_leave : ℕ → List ℕ → Type 0) (s : State) (tapes : List (List ℕ)) (t0 : ℕ) (entries : List Entry) : Type 0 where
  pub each :
      (k : ℕ) (image : List ℕ) → k ≤ length entries → may_leave (moment_of t0 entries k) image
      → (j : ℕ) × (k ≤ j) × (recovered image ≡ Some (durable_after s tapes (with_landing s tapes entries) j))
