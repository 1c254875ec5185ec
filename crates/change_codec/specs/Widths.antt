-- The two widths of an address.
--     bytes_of width      how many bytes an address takes: 2 in form 1, 4 in form 2
use Rattle.std.specs.Prelude.{ℕ}
use Rattle.change_codec.specs.declared.appending.Width.{Width}
use Rattle.change_codec.specs.declared.appending.Width.TheVariants.{Narrow, Wide}

-- 2 in form 1, 4 in form 2
abbrev pub bytes_of : Width → ℕ
bytes_of Narrow = 2
bytes_of Wide = 4
