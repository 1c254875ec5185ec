use Rattle.std.proofs.Common.{◌≡◌, ◌*◌, ◌≤◌, length, take}
use Rattle.std.specs.Prelude.{flat_map}
use Rattle.voice_model.specs.Spelling.{text_bytes}
use Rattle.change_codec.proofs.putting.keys_size.Given as goal

abbrev pub invariant-loop-key : goal.invariant-loop-key
invariant-loop-key l = record {
  value : l.size ≡ length (flat_map text_bytes (take l.key-index l.keys));
  most : l.size ≤ 65 * l.key-index;
}
