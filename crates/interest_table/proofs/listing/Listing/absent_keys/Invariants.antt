use Rattle.std.proofs.Common.{◌≡◌, ◌++◌, ◌≤◌, ◌-◌, length, map, drop}
use Rattle.voice_model.specs.Changes.{is_unlisted, unlisted_keys}
use Rattle.interest_table.specs.Inside.{row_of, kept, first_keys}
use Rattle.interest_table.proofs.listing.Listing.absent_keys.Given as goal

-- the keys so far and those of the rows that are left, 65,535 in all
abbrev pub invariant-loop-run : goal.invariant-loop-run
invariant-loop-run l = record {
  keys : l.keys.items ++ first_keys (is_unlisted l.named.keys) (65535 - length l.keys.items) (map (kept (row_of l.self-inside.rows)) (drop l.place l.self-inside.listed.items)) ≡ unlisted_keys (map (kept (row_of l.self-inside.rows)) l.self-inside.listed.items) l.named.keys;
  most : length l.keys.items ≤ 65535;
  within : l.place ≤ length l.self-inside.listed.items;
}

abbrev pub decreases-loop-run : goal.decreases-loop-run
decreases-loop-run l = length l.self-inside.listed.items - l.place
