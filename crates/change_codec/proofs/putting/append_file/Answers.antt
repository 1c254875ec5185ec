use Rattle.std.proofs.Common.{length}
use Rattle.std.specs.Prelude.{flat_map}
use Rattle.disk_areas.specs.Numbers.{number_bytes}
use Rattle.voice_model.specs.Spelling.{pair_bytes}
use Rattle.change_codec.specs.Widths.{bytes_of}
use Rattle.change_codec.proofs.Joined.{joined3}
use Rattle.change_codec.proofs.Sizes.{addresses_fit}
use Rattle.change_codec.proofs.putting.append_file.Goals as goal

pub append_pairs-requires-clause-small : goal.append_pairs-requires-clause-small
append_pairs-requires-clause-small c = addresses_fit (bytes_of c.args.width) c.args.file c.args.pairs.now c.requires.fit

pub returns-clause-items : goal.returns-clause-items
returns-clause-items c =
    joined3 _ (number_bytes 8 c.args.file) (number_bytes 4 (length c.args.pairs.now)) (flat_map (pair_bytes (bytes_of c.args.width)) c.args.pairs.now) _ _ _
    c.append_id.ensures.items c.append_4.ensures.items c.append_pairs.ensures.items
