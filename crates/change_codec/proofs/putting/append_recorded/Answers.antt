use Rattle.std.proofs.Common.{length}
use Rattle.std.specs.Prelude.{flat_map}
use Rattle.disk_areas.specs.Numbers.{number_bytes}
use Rattle.change_codec.specs.Widths.{bytes_of}
use Rattle.change_codec.proofs.Joined.{joined4}
use Rattle.change_codec.proofs.putting.append_recorded.Goals as goal

pub returns-clause-items : goal.returns-clause-items
returns-clause-items c =
    joined4 _ (number_bytes 8 c.args.id) (number_bytes 4 c.args.len) (number_bytes 4 (length c.args.addresses.now)) (flat_map (number_bytes (bytes_of c.args.width)) c.args.addresses.now) _ _ _ _
    c.append_id.ensures.items c.append_4.ensures.items c.append_4-2.ensures.items c.append_addresses.ensures.items
