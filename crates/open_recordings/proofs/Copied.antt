-- An open recording that ends, in a copy of the tables.
use Rattle.std.proofs.Common.{◌≡◌, ℕ, ◌≤◌, ◌^◌, List, [], length, sym, ◌∙◌, ap, subst, arith}
use Rattle.voice_units.specs.declared.pieces.Piece.{Piece}
use Rattle.voice_units.specs.Spots.{spots_of, samples_in}
use Rattle.voice_units.specs.Blocks.{has_pair, pairs_at, blocks_for}
use Rattle.voice_model.specs.Replay.{Rebuilt}
use Rattle.voice_model.specs.declared.changes.Change.{Change}
use Rattle.voice_blocks.specs.Holders.{Holders}
use Rattle.voice_blocks.specs.declared.owner.Owner.TheVariants.{Taking}
use Rattle.recovery.specs.declared.parts.Parts.{Parts}
use Rattle.running_tables.specs.Running.{taken}
use Rattle.running_tables.proofs.Taken.{reshown}
use Rattle.next_ropes.specs.declared.NextRope.{NextRope}
use Rattle.next_ropes.specs.Copies.{IsAlike}
use Rattle.next_ropes.proofs.Performed.{few_new, alike_shows}
use Rattle.open_recordings.specs.Blocks.{AreAddresses}
use Rattle.open_recordings.specs.Ending.{IsEnding}
use Rattle.open_recordings.proofs.Counted.{taken_few}
use Rattle.open_recordings.proofs.Pledged.{whole}

module _ (held : List (List Piece)) (takings : List ℕ) (lane : ℕ) (old : Parts) (b : Rebuilt) (next : NextRope) (c : Change) (h : IsEnding held takings lane old b next c) where
  -- its addresses are few
  pub few_addresses : length next.addresses.items ≤ 2 ^ 20
  few_addresses =
      let few = taken_few held [] takings old b lane h.runs in
      let many = h.addresses.many in
      omega (arith, few, many)

  pub copied : (new : Parts) → IsAlike old new → 1 ≤ new.ropes.spare_ropes → length next.addresses.items ≤ new.ropes.spare_pairs → IsEnding held takings lane new b next c
  copied new same room spare = record {
    runs = reshown held [] takings old new b h.runs (alike_shows held b.kept old new same h.runs.kept) same.form same.holders;
    recorded = h.recorded;
    blocks = h.blocks;
    addresses = subst (λ (l : Holders). AreAddresses l (Taking lane) 0 (taken takings lane) next.addresses.items) (sym same.holders) h.addresses;
    legal = h.legal;
    kind = h.kind;
    grammar = h.grammar;
    change = h.change;
    number = h.number;
    pieces = h.pieces;
    payload = h.payload;
    room = room;
    pairs =
        let block = same.block ∙ h.runs.kept.block in
        let some = b.shape.conditions.some_block in
        let most = few_new new.ropes next.pieces next.id (samples_in next.pieces) (omega (arith, block, some)) (whole held takings lane old b next c h) in
        let count : blocks_for new.ropes.block (samples_in next.pieces) ≡ length next.addresses.items = ap (λ n. blocks_for n (samples_in next.pieces)) block ∙ sym h.blocks ∙ sym h.addresses.many in
        omega (arith, most, count, spare);
    fits = λ pair e.
        let uses = same.uses pair in
        let before = h.fits pair (ap (λ n. has_pair (pairs_at n (spots_of next.pieces)) pair) (sym same.block) ∙ e) in
        omega (arith, uses, before);
  }
