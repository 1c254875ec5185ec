-- Recordings, before the journal is asked.
use Rattle.std.proofs.Common.{◌≡◌, ℕ, List, length, None, sym, ◌∙◌, ap, arith}
use Rattle.voice_units.specs.declared.pieces.Take.{Take}
use Rattle.voice_outside.specs.Disk.{Told}
use Rattle.voice_model.specs.State.{State}
use Rattle.voice_model.specs.Room.{free}
use Rattle.voice_model.specs.Tapes.{HasTake, tape_of, taken}
use Rattle.voice_model.specs.Step.{first_of}
use Rattle.voice_model.specs.declared.calls.Call.TheVariants as calls
use Rattle.rope_algebra.proofs.Parts.{length-slice}
use Rattle.voice_blocks.specs.Holders.{open_in}
use Rattle.edits.specs.Shown.{before_journal}
use Rattle.voice_store.specs.declared.inside.Inside.{Inside}
use Rattle.voice_store.specs.Keeping.{refused_by}
use Rattle.voice_store.specs.Stood.{Stood, last_of, tapes_of}
use Rattle.voice_store.proofs.Kept.{is_sure, same_number}
use Rattle.voice_store.proofs.Spare.{free_is_open}

pub taken_many : (tapes : List (List ℕ)) (take : Take) → HasTake tapes take → length (taken tapes take) ≡ take.len
taken_many tapes take has =
    let part = length-slice (tape_of tapes take.tape) take.from take.len in
    let within = has.within in
    omega (arith, part, within)

module _ (first : State) (t0 : ℕ) (disk : Told) (s : Inside) (take : Take) (stood : Stood first t0 disk s) (none : s.doubt ≡ None) (many : length (taken (tapes_of s) take) ≡ take.len) where
  abbrev last : State
  last = last_of first s

  free_is : free last ≡ open_in s.parts.blocks.holders
  free_is = free_is_open first t0 disk s stood

  next_is : last.next ≡ s.parts.next
  next_is = sym ((is_sure first t0 disk s stood none).tables.kept.next ∙ same_number first t0 disk s stood none)

  pub refused_so : first_of (before_journal last (tapes_of s) (calls.Record take)) ≡ refused_by s.parts.next s.journal.shape.block (open_in s.parts.blocks.holders) take.len
  refused_so =
      ap (λ next. refused_by next last.shape.block (free last) (length (taken (tapes_of s) take))) next_is
      ∙ ap (λ block. refused_by s.parts.next block (free last) (length (taken (tapes_of s) take))) (ap (λ shape. shape.block) stood.upright.seated.shape)
      ∙ ap (λ spare. refused_by s.parts.next s.journal.shape.block spare (length (taken (tapes_of s) take))) free_is
      ∙ ap (λ n. refused_by s.parts.next s.journal.shape.block (open_in s.parts.blocks.holders) n) many
