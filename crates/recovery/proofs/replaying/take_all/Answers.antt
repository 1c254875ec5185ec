use Rattle.std.proofs.Common.{◌≡◌, ◌+◌, Result, Ok, Err, sym, ◌∙◌, ap, drop, ℕ, arith}
use Rattle.std.proofs.lemmas.Option.{slice_get_within}
use Rattle.voice_model.specs.Image.{Replayed, replayed}
use Rattle.recovery.specs.declared.replaying.ReplayError.{ReplayError}
use Rattle.recovery.specs.declared.replaying.ReplayError.TheVariants.{BadChange}
use Rattle.recovery.specs.Shown.{numbered}
use Rattle.recovery.specs.Replayed.{bytes_of, records_of}
use Rattle.recovery.proofs.TakenSoFar.{one_more, one_refused, next_record, no_record}
use Rattle.recovery.proofs.replaying.take_all.Goals as goal

same_index : (i k : ℕ) → ◌≡◌ {A = Result (Unit {0}) ReplayError} (Err (BadChange i)) (Err (BadChange k)) → i ≡ k
same_index i k e = let same : BadChange i ≡ BadChange k = cc in cc

pub returns-then-not-branch-clause-bad : goal.returns-then-not-branch-clause-bad
returns-then-not-branch-clause-bad c = λ k e.
    let payloads = c.args.payloads.now in
    let i = c.loop-payload.index in
    let h = c.loop-payload.invariant.0 in
    one_refused c.args.shape.now c.loop-payload.building (records_of payloads) (numbered i (bytes_of (drop i payloads))) (numbered (i + 1) (bytes_of (drop (i + 1) payloads))) _ h
    (next_record payloads i _ c.in-Some.ensures.1) (sym c.if-not-branch.true ∙ c.in_ok-take.ensures.legal h.what h.builds h.in_shape)
    ∙ ap Replayed.Refused (same_index i k e)

pub overflow_add-index : goal.overflow_add-index
overflow_add-index c =
    let within = slice_get_within c.args.payloads.now c.loop-payload.index _ c.in-Some.ensures.1 in
    omega (arith, within, c.requires.count)

pub loop-payload-preserved : goal.loop-payload-preserved
loop-payload-preserved c =
    let payloads = c.args.payloads.now in
    let i = c.loop-payload.index in
    let h = c.loop-payload.invariant.0 in
    let within = slice_get_within payloads i _ c.in-Some.ensures.1 in (
      one_more c.args.shape.now c.loop-payload.building c.take.new.building (records_of payloads) (numbered i (bytes_of (drop i payloads))) (numbered (i + 1) (bytes_of (drop (i + 1) payloads))) _ h
          (next_record payloads i _ c.in-Some.ensures.1) (c.in_ok-take.ensures.done h.what h.builds h.in_shape (ap Ok c.if-not-branch.false)),
      omega (arith, within),
    )

pub returns-clause-ok : goal.returns-clause-ok
returns-clause-ok c =
    let h = c.loop-payload.invariant.0 in (h.what, h.builds, h.same ∙ ap (replayed h.what) (no_record c.args.payloads.now c.loop-payload.index c.in_default.ensures))
