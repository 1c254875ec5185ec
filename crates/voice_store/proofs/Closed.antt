-- How many device calls an End takes.
use Rattle.std.proofs.Common.{◌≡◌, ℕ, ◌+◌, ◌-◌, ◌/◌, ◌≤◌, length, refl, sym, ◌∙◌, ap, arith}
use Rattle.voice_units.specs.Blocks.{blocks_for}
use Rattle.voice_outside.specs.Disk.{Told}
use Rattle.voice_journal.specs.Places.{JournalValue}
use Rattle.voice_model.specs.State.{State}
use Rattle.voice_model.specs.Changes.{taking_of}
use Rattle.voice_model.specs.Replay.{Rebuilt}
use Rattle.voice_model.specs.declared.calls.Call.TheVariants as calls
use Rattle.next_ropes.specs.declared.NextRope.{NextRope}
use Rattle.voice_store.specs.declared.inside.Inside.{Inside}
use Rattle.voice_store.specs.declared.committing.Plan.{Plan}
use Rattle.voice_store.specs.Stood.{last_of, tapes_of}
use Rattle.voice_store.specs.Trying.{IsPlan}
use Rattle.voice_store.specs.Ends.{HoldsEnding, ended_by, whole_in}
use Rattle.voice_store.specs.DeviceCalls.{plan_calls, blocks_written, effect_calls, change_calls}
use Rattle.voice_store.proofs.Counted.{plan_within, change_made}
use Rattle.voice_store.proofs.Ended.{unrefused, many, whole_is, block_same}

-- its last block, where that is not whole
blocks_ended : (s : State) (lane : ℕ) → blocks_written s (calls.End lane) (ended_by s lane) ≡ blocks_for s.kept.shape.block (length (taking_of s lane)) - length (taking_of s lane) / s.kept.shape.block
unfolding blocks_written
blocks_ended s lane = refl

module _ (first : State) (t0 : ℕ) (disk : Told) (s : Inside) (lane : ℕ) (rope : NextRope) (h : HoldsEnding first t0 disk s lane rope) where
  abbrev last : State
  last = last_of first s

  made : effect_calls last (calls.End lane) (ended_by last lane) ≡ change_calls last (tapes_of s) (calls.End lane)
  made = change_made last (tapes_of s) (calls.End lane) (ended_by last lane) (unrefused first t0 disk s lane rope h) refl

  blocks : blocks_written last (calls.End lane) (ended_by last lane) ≡ length rope.addresses.items - whole_in s lane
  blocks =
      blocks_ended last lane
      ∙ ap (λ n. blocks_for n (length (taking_of last lane)) - length (taking_of last lane) / n) (block_same first t0 disk s lane rope h)
      ∙ ap (λ n. n - length (taking_of last lane) / s.journal.shape.block) (sym (many first t0 disk s lane rope h))
      ∙ ap (λ n. length rope.addresses.items - n) (sym (whole_is first t0 disk s lane rope h))

  -- of which the write of the last block failed
  pub unended_within : (new : ℕ) → new ≤ disk.calls + (length rope.addresses.items - whole_in s lane) → new ≤ disk.calls + change_calls last (tapes_of s) (calls.End lane)
  unended_within new le = omega (arith, le, blocks, made)

  -- of which it is written
  pub ended_within : (journal : JournalValue) (r : Rebuilt) (plan : Plan) (mid new : ℕ) → IsPlan journal last (ended_by last lane) r plan
      → mid ≤ disk.calls + (length rope.addresses.items - whole_in s lane) → new ≤ mid + plan_calls plan → new ≤ disk.calls + change_calls last (tapes_of s) (calls.End lane)
  ended_within journal r plan mid new goes le more =
      let few = plan_within journal last (ended_by last lane) r plan goes in
      omega (arith, le, more, few, blocks, made)
