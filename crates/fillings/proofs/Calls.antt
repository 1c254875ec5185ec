-- The change of a call that nothing refuses may be replayed, and does there what the call did.
use Rattle.std.proofs.Common.{◌≡◌, ℕ, ◌+◌, ◌≤◌, nat_lt, Bool, true, false, cond, List, [], ◌∷◌, length, Option, Some, None, refl, sym, ◌∙◌, ap, subst, arith}
use Rattle.voice_units.specs.Spots.{Spot}
use Rattle.voice_units.specs.Blocks.{blocks_for}
use Rattle.voice_model.specs.Samples.{Tagged, spot_of, bytes_of, recording, recorded_from}
use Rattle.voice_model.specs.State.{State, Durable, Effect}
use Rattle.voice_model.specs.State.Effect.{Recorded, Edited, Retained, Forgotten, Counted, Swept, Advanced}
use Rattle.voice_model.specs.Changes.{effect_of, changed, unless_empty, if_any, unlisted_keys, expired_rows, swept_ropes}
use Rattle.voice_model.specs.Step.{refusal}
use Rattle.voice_model.specs.Replay.{Rebuilt, is_legal, acted, filled, recovered}
use Rattle.voice_model.specs.Base.{change_of}
use Rattle.voice_model.specs.Valid.{IsState, InRange, TakesFree}
use Rattle.voice_model.specs.Places.{IsPlaced}
use Rattle.voice_model.specs.declared.calls.Row.{Row}
use Rattle.voice_model.specs.declared.calls.Call.{Call}
use Rattle.voice_model.specs.declared.calls.Call.TheVariants as calls
use Rattle.voice_model.proofs.FitsOfCalls.{recorded_length}
use Rattle.voice_model.proofs.LegalOfCalls.{made_of_call, legal_of_call}
use Rattle.fillings.specs.Laws.{HasBytes, HasRecording}
use Rattle.fillings.proofs.Acted.{plain_filled}
use Rattle.fillings.proofs.Edits.{call_again}
use Rattle.fillings.proofs.Recordings.{recorded_filled}

pub call_legal : (image : List ℕ) (b : Rebuilt) (s : State) (tapes : List (List ℕ)) (call : Call) (addresses : List ℕ) (effect : Effect Tagged) → recovered image b ≡ s.kept → b.form ≡ s.form → IsState s → InRange call → refusal s tapes call ≡ None → effect_of s tapes call ≡ Some effect → TakesFree b addresses effect → is_legal b (change_of b.form addresses effect) ≡ true
call_legal image b s tapes call addresses effect same form h range free e takes =
    let at_its_place : (x : Spot) → spot_of (filled image b x) ≡ x = λ x. refl in
    legal_of_call (filled image b) at_its_place b s tapes call addresses effect same form h range free e takes

-- ---- recordings of calls have the next number

abbrev NextIf : ℕ → Option (Effect Tagged) → Type 0
NextIf next None = Unit {0}
NextIf next (Some (Recorded id samples)) = id ≡ next
NextIf next (Some _) = Unit {0}

counted_next : (next : ℕ) (keys all : List (List ℕ)) → NextIf next (unless_empty keys (Counted all))
counted_next next [] all = tt
counted_next next (key ∷ keys) all = tt

later_next : (next : ℕ) (is_later : Bool) (moment : ℕ) → NextIf next (cond is_later (Some (Advanced moment)) None)
later_next next true moment = tt
later_next next false moment = tt

swept_next : (next : ℕ) (rows : List Row) (ids : List ℕ) → NextIf next (if_any rows ids)
swept_next next [] [] = tt
swept_next next [] (id ∷ ids) = tt
swept_next next (row ∷ rows) ids = tt

next_by : (s : State) (tapes : List (List ℕ)) (call : Call) → NextIf s.next (effect_of s tapes call)
next_by s tapes (calls.Record take) = refl
next_by s tapes (calls.End lane) = refl
next_by s tapes (calls.Census keys) = counted_next s.next (unlisted_keys s.rows keys) (unlisted_keys s.rows keys)
next_by s tapes (calls.Advance moment) = later_next s.next (nat_lt s.moment moment) moment
next_by s tapes (calls.Sweep limit) = swept_next s.next (expired_rows s.kept) (swept_ropes s.form s.kept limit)
next_by s tapes _ = tt

-- ---- what it does

bytes_recorded : (id place : ℕ) (bytes : List ℕ) → bytes_of (recorded_from id place bytes) ≡ bytes
bytes_recorded id place [] = refl
bytes_recorded id place (byte ∷ bytes) = ap (λ l. byte ∷ l) (bytes_recorded id (place + 1) bytes)

recording_does : (image : List ℕ) (b : Rebuilt) (id : ℕ) (samples : List Tagged) (bytes addresses : List ℕ) → samples ≡ recording id bytes → IsPlaced b → b.next ≤ id → length addresses ≡ blocks_for b.shape.block (length samples) → HasBytes image b.shape addresses (bytes_of samples) → recovered image (acted b (change_of b.form addresses (Recorded id samples))) ≡ changed b.form (recovered image b) (Recorded id samples)
recording_does image b id samples bytes addresses is placed next count holds =
    let long : length samples ≡ length bytes = ap length is ∙ recorded_length id 0 bytes in
    let has : HasBytes image b.shape addresses bytes = subst (HasBytes image b.shape addresses) (ap bytes_of is ∙ bytes_recorded id 0 bytes) holds in
    ap (λ l. recovered image (acted b (change_of b.form addresses (Recorded id l)))) is
    ∙ recorded_filled image b id bytes addresses placed next (count ∙ ap (blocks_for b.shape.block) long) has
    ∙ ap (λ l. changed b.form (recovered image b) (Recorded id l)) (sym is)

effect_does : (image : List ℕ) (b : Rebuilt) (s : State) (tapes : List (List ℕ)) (call : Call) (addresses : List ℕ) (effect : Effect Tagged) → recovered image b ≡ s.kept → IsPlaced b → effect_of s tapes call ≡ Some effect → TakesFree b addresses effect → HasRecording image b.shape addresses effect → recovered image (acted b (change_of b.form addresses effect)) ≡ changed b.form (recovered image b) effect
effect_does image b s tapes call addresses (Recorded id samples) same placed e takes holds =
    let made = made_of_call s tapes call (Recorded id samples) e in
    let number : id ≡ s.next = subst (NextIf s.next) e (next_by s tapes call) in
    let next : b.next ≡ s.next = ap (λ (d : Durable Tagged). d.next) same in
    recording_does image b id samples made.0 addresses made.1 placed (omega (arith, number, next)) takes.0 holds
effect_does image b s tapes call addresses (Edited id samples) same placed e takes holds = plain_filled image b addresses (Edited id samples) tt (call_again image b s tapes call (Edited id samples) same e tt)
effect_does image b s tapes call addresses (Retained row) same placed e takes holds = plain_filled image b addresses (Retained row) tt refl
effect_does image b s tapes call addresses (Forgotten class key) same placed e takes holds = plain_filled image b addresses (Forgotten class key) tt refl
effect_does image b s tapes call addresses (Counted keys) same placed e takes holds = plain_filled image b addresses (Counted keys) tt refl
effect_does image b s tapes call addresses (Swept ids) same placed e takes holds = plain_filled image b addresses (Swept ids) tt refl
effect_does image b s tapes call addresses (Advanced moment) same placed e takes holds = plain_filled image b addresses (Advanced moment) tt refl

pub call_does : (image : List ℕ) (b : Rebuilt) (s : State) (tapes : List (List ℕ)) (call : Call) (addresses : List ℕ) (effect : Effect Tagged) → recovered image b ≡ s.kept → b.form ≡ s.form → IsPlaced b → effect_of s tapes call ≡ Some effect → TakesFree b addresses effect → HasRecording image b.shape addresses effect → recovered image (acted b (change_of b.form addresses effect)) ≡ changed s.form s.kept effect
call_does image b s tapes call addresses effect same form placed e takes holds =
    effect_does image b s tapes call addresses effect same placed e takes holds
    ∙ ap (λ (n : ℕ). changed n (recovered image b) effect) form
    ∙ ap (λ (d : Durable Tagged). changed s.form d effect) same
