use Rattle.std.proofs.Common.{rules, arith, sym, subst, ℕ, Bool, List}
use Rattle.std.proofs.lemmas.List.Sorted.{IsPartitionPoint-from_clause, IsPartitionedBy-leb}
use Rattle.std.proofs.lemmas.List.Sums.{prefix_len_is}
use Rattle.std.specs.List.Sorted.{IsNonDecreasingBy}
use Rattle.std.specs.Prelude.{nat_le}
use Rattle.page_table.specs.Taken.{listed}
use Rattle.page_table.proofs.Ends.{ends_from-rise, holds}
use Rattle.page_table.proofs.scatter.chunk_holding.Goals as goal

pub lies_in-requires : goal.lies_in-requires
lies_in-requires c =
    subst (λ (es : List ℕ). IsNonDecreasingBy (λ (end : ℕ). end) es) (sym c.requires.sums) (ends_from-rise 0 (listed c.args.chunks.now))

pub returns-then-lies_in : goal.returns-then-lies_in
returns-then-lies_in c =
    holds c.args.chunks.now c.args.ends.now c.args.off _ c.requires.sums c.requires.aligned c.requires.within
    (c.lies_in.ensures.there c.if-lies_in.true)

pub returns-else-lies_in : goal.returns-else-lies_in
returns-else-lies_in c =
    let early : ℕ → Bool = λ end. nat_le end c.args.off in
    let ends = c.args.ends.now in
    let place = c.partition_point.result in
    let rise : IsNonDecreasingBy (λ (end : ℕ). end) ends =
    subst (λ (es : List ℕ). IsNonDecreasingBy (λ (end : ℕ). end) es) (sym c.requires.sums) (ends_from-rise 0 (listed c.args.chunks.now)) in
    let parts =
    IsPartitionPoint-from_clause early ends place c.partition_point.ensures.partitioned
    (IsPartitionedBy-leb (λ (end : ℕ). end) ends c.args.off rise)
    (λ a r f called. search rules)
    in
    let is =
    prefix_len_is early ends place 0 c.partition_point.ensures.bound (λ k below. parts.0 k 0 (omega arith) below)
    (λ below. parts.1 place 0 (omega arith) below) in
    holds c.args.chunks.now c.args.ends.now c.args.off place c.requires.sums c.requires.aligned c.requires.within (sym is)
