use Rattle.std.proofs.Common.{◌≡◌, ◌∙◌, ◌-◌, length, take, drop}
use Rattle.byteorder.specs.Endian.{big_number}
use Rattle.disk_areas.proofs.Digits.{big_2}
use Rattle.disk_areas.proofs.numbers.read_2.Goals as goal

pub returns : goal.returns
returns c =
    let seen : c.read_u16.result ≡ big_number 2 (take (length c.args.bytes.now - c.args.at) (drop c.args.at c.args.bytes.now)) = c.read_u16.ensures in
    seen ∙ big_2 c.args.at c.args.bytes.now c.requires
