-- How long a recording is that only the journal may refuse, and how few device calls its samples take.
use Rattle.voice_store.specs.Filled.{IsPadded}
use Rattle.std.proofs.Common.{◌≡◌, ℕ, ◌*◌, ◌≤◌, ◌<◌, ◌^◌, List, [], ◌∷◌, length, Option, None, sym, ◌∙◌, subst, arith}
use Rattle.std.specs.Prelude.{nat_lt, slice_index, Result, Ok, Err, OnOk}
use Rattle.std.proofs.lemmas.Bool.{ltb-false}
use Rattle.voice_units.specs.Blocks.{blocks_for}
use Rattle.voice_units.specs.declared.pieces.Take.{Take}
use Rattle.voice_units.specs.declared.shapes.Shape.{Shape}
use Rattle.voice_outside.specs.Disk.{Told, MakesAtMost}
use Rattle.fillings.specs.Laws.{HasBytes}
use Rattle.recording_writer.specs.Wrote.{byte_place}
use Rattle.voice_blocks.specs.Holders.{open_in}
use Rattle.voice_model.specs.State.{State}
use Rattle.voice_model.specs.Step.{if_long, when, last_rope}
use Rattle.voice_model.specs.declared.calls.Why.{Why}
use Rattle.voice_model.specs.declared.calls.Why.TheVariants as why
use Rattle.voice_model.proofs.FitsOfCalls.{all_none, not_when, not_long}
use Rattle.voice_store.specs.declared.inside.Inside.{Inside}
use Rattle.voice_store.specs.Stood.{tapes_of}
use Rattle.voice_store.specs.Keeping.{MakesRecording, refused_by}
use Rattle.voice_store.proofs.Recorded.{taken_many, refused_so}

pub made_fewer : {T E : Type 0} (few many : ℕ) (old new : Told) (r : Result T E) → few ≤ many → MakesAtMost few old new r → MakesAtMost many old new r
made_fewer few many old new r le made = record {
  size = made.size;
  honest = made.honest;
  later = made.later;
  calls = let calls = made.calls in omega (arith, calls, le);
  faults = made.faults;
  cause = made.cause;
}

on_ok_then : {T E : Type 0} (r : Result T E) (P Q : Type 0) → (P → Q) → OnOk r P → OnOk r Q
on_ok_then (Ok x) P Q f p = f p
on_ok_then (Err e) P Q f p = tt

-- what was written stands at its addresses
pub has_bytes : {T E : Type 0} (r : Result T E) (image : List ℕ) (shape shape' : Shape) (addresses addresses' bytes bytes' : List ℕ) → shape ≡ shape' → addresses ≡ addresses' → bytes ≡ bytes'
    → OnOk r ((k : ℕ) → k < length bytes → slice_index image (byte_place shape addresses k) ≡ slice_index bytes k) → OnOk r (HasBytes image shape' addresses' bytes')
has_bytes r image shape shape' addresses addresses' bytes bytes' same at is written =
    on_ok_then r ((k : ℕ) → k < length bytes → slice_index image (byte_place shape addresses k) ≡ slice_index bytes k) (HasBytes image shape' addresses' bytes')
    (λ each. subst (λ (x : Shape). HasBytes image x addresses' bytes') same
    (subst (λ (l : List ℕ). HasBytes image shape l bytes') at
    (subst (λ (l : List ℕ). HasBytes image shape addresses l) is (record { each = each }))))
    written

-- and zeros stand behind it
pub is_padded : {T E : Type 0} (r : Result T E) (image : List ℕ) (shape shape' : Shape) (addresses addresses' bytes bytes' : List ℕ) → shape ≡ shape' → addresses ≡ addresses' → bytes ≡ bytes'
    → OnOk r ((k : ℕ) → length bytes ≤ k → k < length addresses * shape.block → slice_index image (byte_place shape addresses k) ≡ 0) → OnOk r (IsPadded image shape' addresses' (length bytes'))
is_padded r image shape shape' addresses addresses' bytes bytes' same at is written =
    on_ok_then r ((k : ℕ) → length bytes ≤ k → k < length addresses * shape.block → slice_index image (byte_place shape addresses k) ≡ 0) (IsPadded image shape' addresses' (length bytes'))
    (λ each. subst (λ (x : Shape). IsPadded image x addresses' (length bytes')) same
    (subst (λ (l : List ℕ). IsPadded image shape l (length bytes')) at
    (subst (λ (l : List ℕ). IsPadded image shape addresses (length l)) is (record { each = each }))))
    written

module _ (first : State) (t0 : ℕ) (disk : Told) (s : Inside) (take : Take) (h : MakesRecording first t0 disk s take) where
  none_holds : refused_by s.parts.next s.journal.shape.block (open_in s.parts.blocks.holders) take.len ≡ None
  none_holds = sym (refused_so first t0 disk s take h.stood h.sure (taken_many (tapes_of s) take h.has)) ∙ h.unrefused

  abbrev spare : ℕ
  spare = open_in s.parts.blocks.holders

  abbrev need : ℕ
  need = blocks_for s.journal.shape.block take.len

  abbrev reasons : List (Option Why)
  reasons = if_long take.len ∷ when (nat_lt last_rope s.parts.next) why.IdsSpent ∷ when (nat_lt spare need) (why.NoRoom need spare) ∷ []

  pub long : take.len ≤ 2 ^ 30
  long = not_long take.len (all_none reasons none_holds).0

  pub enough : blocks_for s.journal.shape.block take.len ≤ open_in s.parts.blocks.holders
  enough = ltb-false spare need (not_when (nat_lt spare need) (why.NoRoom need spare) (all_none reasons none_holds).1.1.0)
