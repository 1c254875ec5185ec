-- The rope of an open recording is made ready.
use Rattle.std.proofs.Common.{◌≡◌, ℕ, ◌+◌, ◌≤◌, ◌<◌, ◌==◌, ◌^◌, true, List, [], length, refl, sym, ◌∙◌, ap, subst, arith}
use Rattle.voice_units.specs.declared.pieces.Piece.{Piece}
use Rattle.voice_units.specs.declared.shapes.Shape.{Shape}
use Rattle.voice_units.specs.Spots.{spots_from, samples_in, pieces_of}
use Rattle.voice_units.specs.Blocks.{blocks_for}
use Rattle.voice_model.specs.Replay.{Rebuilt}
use Rattle.voice_model.specs.Spelling.{keeps_grammar, spelling}
use Rattle.voice_blocks.specs.declared.owner.Owner.TheVariants.{Taking}
use Rattle.recovery.specs.declared.parts.Parts.{Parts}
use Rattle.running_tables.specs.Running.{Runs, taken}
use Rattle.next_ropes.specs.declared.NextRope.{NextRope}
use Rattle.next_ropes.specs.Ready.{most_held, next_change, recorded_change}
use Rattle.next_ropes.proofs.Performed.{few_new}
use Rattle.next_ropes.proofs.Readied.{uses_fit}
use Rattle.open_recordings.specs.Blocks.{AreAddresses}
use Rattle.open_recordings.specs.Ending.{HasTaken, IsEnding}
use Rattle.open_recordings.proofs.Counted.{same_count}
use Rattle.open_recordings.proofs.Listed.{given_listed}
use Rattle.open_recordings.proofs.Pledged.{samples_of, change_of}
use Rattle.open_recordings.proofs.Spelled.{may_end, kind_of, legal_of, end_grammar}

-- the blocks of an open recording have addresses, one for each of so many blocks
pub record HasAll (held : List (List Piece)) (takings : List ℕ) (parts : Parts) (b : Rebuilt) (lane len count : ℕ) : Type 0 where
  pub runs : Runs held [] takings parts b
  pub blocks : taken takings lane ≡ blocks_for b.shape.block len
  pub needed : count ≡ blocks_for b.shape.block len
  pub number : b.next ≤ 2 ^ 48
  pub long : len ≤ 2 ^ 30
  pub list : List ℕ
  pub listed : AreAddresses parts.blocks.holders (Taking lane) 0 count list

-- tables that show the same, with room
pub still_taken : (shape : Shape) (lane len : ℕ) (old new : Parts) → HasTaken shape lane len old → ((held : List (List Piece)) (takings : List ℕ) (b : Rebuilt) → Runs held [] takings old b → Runs held [] takings new b) → HasTaken shape lane len new
still_taken shape lane len old new h same = record { held = h.held; takings = h.takings; what = h.what; runs = same h.held h.takings h.what h.runs; in_shape = h.in_shape; blocks = h.blocks }

-- whichever they are seen to hold
pub has_all : (held : List (List Piece)) (takings : List ℕ) (parts : Parts) (b : Rebuilt) (shape : Shape) (lane len count : ℕ) → HasTaken shape lane len parts → Runs held [] takings parts b → b.next ≤ 2 ^ 48 → len ≤ 2 ^ 30 → count ≡ blocks_for shape.block len → HasAll held takings parts b lane len count
has_all held takings parts b shape lane len count known runs number long is =
    let all = given_listed parts.blocks.holders (Taking lane) 0 count (λ k low high. runs.given.recordings lane k (omega (arith, high, blocks, needed))) in
    record { runs = runs; blocks = blocks; needed = needed; number = number; long = long; list = all.0; listed = all.1 }
  where
    block : shape.block ≡ b.shape.block
    block = sym (ap (λ (s : Shape). s.block) known.in_shape) ∙ sym known.runs.kept.block ∙ runs.kept.block

    blocks : taken takings lane ≡ blocks_for b.shape.block len
    blocks = same_count held [] takings known.held [] known.takings parts b known.what lane runs known.runs ∙ known.blocks ∙ ap (λ n. blocks_for n len) block

    needed : count ≡ blocks_for b.shape.block len
    needed = is ∙ ap (λ n. blocks_for n len) block

module _ (held : List (List Piece)) (takings : List ℕ) (parts : Parts) (b : Rebuilt) (lane len count : ℕ) (h : HasAll held takings parts b lane len count) where
  in_form : AreAddresses parts.blocks.holders (Taking lane) 0 (blocks_for b.shape.block len) h.list
  in_form = subst (λ n. AreAddresses parts.blocks.holders (Taking lane) 0 n h.list) h.needed h.listed

  pub all_grammar : keeps_grammar (recorded_change b.form b.next len h.list) ≡ true
  all_grammar = end_grammar held [] takings parts b lane len h.list h.runs h.number h.long in_form

  pub ending_ready : (next : NextRope) → length held ≤ most_held → next.id ≡ b.next → next.recorded ≡ true → next.pieces ≡ pieces_of (spots_from b.next 0 len) → samples_in next.pieces ≡ len → next.addresses.items ≡ h.list
      → next.payload.items ≡ spelling (recorded_change b.form b.next len h.list) → 1 ≤ parts.ropes.spare_ropes → count ≤ parts.ropes.spare_pairs → length parts.ropes.ropes + most_held + 1 < 2 ^ 32 → IsEnding held takings lane parts b next (next_change b.form next)
  ending_ready next limit number recorded pieces samples listed payload room pairs few =
      subst (IsEnding held takings lane parts b next) (sym is)
      (record {
        runs = h.runs;
        recorded = recorded;
        blocks = h.blocks ∙ ap (blocks_for b.shape.block) (sym samples);
        addresses = subst (AreAddresses parts.blocks.holders (Taking lane) 0 (taken takings lane)) (sym listed) (subst (λ n. AreAddresses parts.blocks.holders (Taking lane) 0 n h.list) (sym h.blocks) in_form);
        legal = legal_of b (b.form == 2) b.next len h.list refl h.runs.valid.forms (may_end held [] takings parts b h.runs lane len h.list in_form);
        kind = kind_of (b.form == 2) b.next len h.list;
        grammar = all_grammar;
        change = sym is;
        number = number;
        pieces = pieces ∙ sym (ap pieces_of (samples_of (b.form == 2) b.next len h.list));
        payload = payload;
        room = room;
        pairs =
            let block = h.runs.kept.block in
            let some = b.shape.conditions.some_block in
            let most = few_new parts.ropes next.pieces b.next len (omega (arith, block, some)) pieces in
            let same : blocks_for parts.ropes.block len ≡ blocks_for b.shape.block len = ap (λ n. blocks_for n len) block in
            let needed = h.needed in
            omega (arith, most, same, needed, pairs);
        fits = λ pair e. uses_fit held parts b.kept h.runs.kept limit few pair;
      })
    where
      is : next_change b.form next ≡ recorded_change b.form b.next len h.list
      is =
          change_of b.form next recorded
          ∙ ap (λ n. recorded_change b.form n (samples_in next.pieces) next.addresses.items) number
          ∙ ap (λ n. recorded_change b.form b.next n next.addresses.items) samples
          ∙ ap (recorded_change b.form b.next len) listed
