use Rattle.std.proofs.Common.{◌≡◌, ℕ, not, List, length, drop}
use Rattle.std.specs.Prelude.{filter}
use Rattle.voice_units.specs.declared.pieces.Piece.{Piece}
use Rattle.voice_model.specs.State.{among}
use Rattle.voice_blocks.specs.Holders.{holder_at}
use Rattle.rope_table.specs.declared.ropes.Rope.{Rope}
use Rattle.rope_table.specs.Table.{Counts}
use Rattle.recovery.specs.Placing.{in_use}
use Rattle.recovery.proofs.parts.Parts.remove_ropes.Given as goal

abbrev pub invariant-loop-id : goal.invariant-loop-id
invariant-loop-id l = record {
  ropes : filter (λ (rope : Rope). not (among l.ids rope.id)) l.fn.self.ropes.ropes ≡ filter (λ (rope : Rope). not (among (drop l.id-index l.ids) rope.id)) l.self.ropes.ropes;
  block : l.self.ropes.block ≡ l.fn.self.ropes.block;
  counts : (held : List (List Piece)) → Counts l.fn.self.ropes held → Counts l.self.ropes held;
  holders : ((a : ℕ) → in_use l.fn.self.ropes (holder_at l.fn.self.blocks.holders a) ≡ holder_at l.fn.self.blocks.holders a) → (a : ℕ) → holder_at l.self.blocks.holders a ≡ in_use l.self.ropes (holder_at l.fn.self.blocks.holders a);
  size : length l.self.blocks.holders ≡ length l.fn.self.blocks.holders;
  interests : l.self.interests ≡ l.fn.self.interests;
  moment : l.self.moment ≡ l.fn.self.moment;
  next : l.self.next ≡ l.fn.self.next;
  form : l.self.form ≡ l.fn.self.form;
}
