use Rattle.std.proofs.Common.{None, sym, ap, subst, ◌∙◌, arith}
use Rattle.slab.specs.Slab.{Slab, Updates}
use Rattle.mold_receiver.specs.Batch.{followed_by}
use Rattle.mold_receiver.specs.declared.segment.Segment.{Segment}
use Rattle.mold_receiver.specs.Segments.{bytes_at, live_at}
use Rattle.mold_receiver.proofs.ExchangeLemmas.{memory_count, memory_ends, memory_messages, memory_within}
use Rattle.mold_receiver.proofs.SegmentLemmas.{lost_gone}
use Rattle.mold_receiver.proofs.segments.Segments.deliver.Goals as goal

pub take_over-old-requires-clause-counted : goal.take_over-old-requires-clause-counted
take_over-old-requires-clause-counted c =
    let old = c.args.self.now in
    omega (
      arith,
      c.requires.counted,
      memory_count (bytes_at old c.args.key) c.take_out-memory.result.items c.args.ends.items (live_at old c.args.key)
          c.take_out-memory.ensures.bytes c.requires.ends c.requires.blocks,
    )

pub take_over-old-requires-clause-ends : goal.take_over-old-requires-clause-ends
take_over-old-requires-clause-ends c =
    let old = c.args.self.now in
    memory_ends (bytes_at old c.args.key) c.take_out-memory.result.items c.args.ends.items (live_at old c.args.key)
    c.take_out-memory.ensures.bytes c.requires.ends c.requires.blocks

pub take_over-old-requires-clause-within : goal.take_over-old-requires-clause-within
take_over-old-requires-clause-within c =
    let old = c.args.self.now in
    memory_within (bytes_at old c.args.key) c.take_out-memory.result.items c.args.ends.items (live_at old c.args.key)
    c.take_out-memory.ensures.bytes c.requires.ends c.requires.blocks

pub returns-clause-lost : goal.returns-clause-lost
returns-clause-lost c =
    let old = c.args.self.now in
    lost_gone old c.save.new.self c.args.key (live_at old c.args.key) (omega arith)
    (subst (λ (t : Slab Segment). Updates old.table t c.args.key None) (sym c.save.ensures.table)
    c.take_out-memory.ensures.gone)

pub returns-clause-added : goal.returns-clause-added
returns-clause-added c =
    let old = c.args.self.now in
    c.take_over-old.ensures
    ∙ ap (followed_by c.args.batch.now c.args.next)
    (memory_messages (bytes_at old c.args.key) c.take_out-memory.result.items c.args.ends.items
    (live_at old c.args.key) c.take_out-memory.ensures.bytes c.requires.ends c.requires.blocks)
