use Rattle.std.proofs.Common.{leb, leb-false, leb-true, rules}
use Rattle.std.proofs.lemmas.List.Sorted.{IsPartitionPoint-from_clause, IsPartitionedBy-leb}
use Rattle.mold_index.specs.declared.entry.Entry.{Entry}
use Rattle.mold_index.proofs.entries.count_up_to.Goals as goal

pub returns-clause-split : goal.returns-clause-split
returns-clause-split c = λ up.
    let parted = IsPartitionedBy-leb (λ (e : Entry). e.number) c.args.entries.now c.args.number up in
    let point =
    IsPartitionPoint-from_clause (λ (e : Entry). leb e.number c.args.number) c.args.entries.now c.partition_point.result
    c.partition_point.ensures.partitioned parted (λ a r q k. search rules) in (
      λ k d low high. leb-true _ _ (point.0 k d low high),
      λ k d low high. leb-false _ _ (point.1 k d low high),
    )
