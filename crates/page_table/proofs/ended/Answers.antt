use Rattle.std.proofs.Common.{rules, arith, sym, ℕ, Bool}
use Rattle.std.proofs.lemmas.List.Sorted.{IsPartitionPoint-from_clause, IsPartitionedBy-leb}
use Rattle.std.proofs.lemmas.List.Sums.{prefix_len_is}
use Rattle.std.specs.Prelude.{nat_le}
use Rattle.page_table.proofs.Rising.{pair_end, ends_rise}
use Rattle.page_table.proofs.ended.Goals as goal

pub returns : goal.returns
returns c =
    let early : ℕ × ℕ → Bool = λ pair. nat_le (pair_end pair) c.args.addr in
    let place = c.partition_point.result in
    let parts =
    IsPartitionPoint-from_clause early c.args.chunks.now place c.partition_point.ensures.partitioned
    (IsPartitionedBy-leb pair_end c.args.chunks.now c.args.addr (ends_rise 0 c.args.chunks.now c.requires))
    (λ a r f called. search rules)
    in
    sym (prefix_len_is early c.args.chunks.now place (0, 0) c.partition_point.ensures.bound
    (λ k below. parts.0 k (0, 0) (omega arith) below) (λ below. parts.1 place (0, 0) (omega arith) below))
