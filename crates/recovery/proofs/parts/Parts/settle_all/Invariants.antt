use Rattle.std.proofs.Common.{◌≡◌, List, map, drop}
use Rattle.voice_units.specs.declared.pieces.Piece.{Piece}
use Rattle.voice_model.specs.State.{class_number}
use Rattle.rope_table.specs.Table.{Counts}
use Rattle.recovery.specs.Shown.{left_idle}
use Rattle.recovery.proofs.parts.Parts.settle_all.Given as goal

abbrev pub invariant-loop-rope : goal.invariant-loop-rope
invariant-loop-rope l = record {
  ropes : map (left_idle l.fn.self.form l.graces l.fn.self.moment (class_number l.class) l.fn.self.interests.rows l.ropes) l.fn.self.ropes.ropes ≡ map (left_idle l.fn.self.form l.graces l.fn.self.moment (class_number l.class) l.fn.self.interests.rows (drop l.rope-index l.ropes)) l.self.ropes.ropes;
  block : l.self.ropes.block ≡ l.fn.self.ropes.block;
  counts : (held : List (List Piece)) → Counts l.fn.self.ropes held → Counts l.self.ropes held;
  interests : l.self.interests ≡ l.fn.self.interests;
  blocks : l.self.blocks ≡ l.fn.self.blocks;
  moment : l.self.moment ≡ l.fn.self.moment;
  next : l.self.next ≡ l.fn.self.next;
  form : l.self.form ≡ l.fn.self.form;
}
