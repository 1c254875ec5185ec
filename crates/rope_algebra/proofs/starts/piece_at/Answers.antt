use Rattle.std.proofs.Common.{rules, nat_le}
use Rattle.std.proofs.lemmas.List.Sorted.{IsPartitionPoint-from_clause}
use Rattle.rope_algebra.proofs.Begun.{IsFound, found, begun_apart}
use Rattle.rope_algebra.proofs.starts.piece_at.Goals as goal

is_found : (c : goal.After-saturating_sub) → IsFound c.args.at c.saturating_sub.result c.args.pieces.now c.args.starts.now
is_found c =
    found c.args.at c.partition_point-begun.result c.saturating_sub.result c.args.pieces.now c.args.starts.now c.requires.some c.requires.starts c.saturating_sub.ensures c.partition_point-begun.ensures.bound
    (IsPartitionPoint-from_clause (λ s. nat_le s c.args.at) c.args.starts.now c.partition_point-begun.result c.partition_point-begun.ensures.partitioned
    (begun_apart c.args.at c.args.pieces.now c.args.starts.now c.requires.starts) (λ a r f' called. search rules))

pub returns-clause-within : goal.returns-clause-within
returns-clause-within c = (is_found c).within

pub returns-clause-begun : goal.returns-clause-begun
returns-clause-begun c = (is_found c).begun

pub returns-clause-next : goal.returns-clause-next
returns-clause-next c = (is_found c).next
