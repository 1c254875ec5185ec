use Rattle.std.proofs.Common.{◌≡◌, ◌∙◌, ◌-◌, length, take, drop}
use Rattle.byteorder.specs.Endian.{big_number}
use Rattle.disk_areas.proofs.Digits.{big_8}
use Rattle.disk_areas.proofs.numbers.read_8.Goals as goal

pub returns : goal.returns
returns c =
    let seen : c.read_u64.result ≡ big_number 8 (take (length c.args.bytes.now - c.args.at) (drop c.args.at c.args.bytes.now)) = c.read_u64.ensures in
    seen ∙ big_8 c.args.at c.args.bytes.now c.requires
