use Rattle.std.proofs.Common.{◌≡◌, ◌+◌, ◌-◌, take, drop, sym, ap, ◌∙◌, arith}
use Rattle.std.specs.Option.{option_map}
use Rattle.mold_receiver.specs.Segments.{bytes_at}
use Rattle.mold_receiver.specs.Shelf.{message_on}
use Rattle.mold_receiver.proofs.ShelfLemmas.{slot_in}
use Rattle.mold_receiver.proofs.RunLemmas.{end_low, span_get, span_whole}
use Rattle.mold_receiver.proofs.shelf.Shelf.run.Goals as goal

pub returns-in-None-clause-none : goal.returns-in-None-clause-none
returns-in-None-clause-none c =
    let old = c.args.self.now in
    slot_in old.segments old.ring c.args.slot
    ∙ ap (option_map (message_on old.segments)) (sym c.in-None.ensures)

pub overflow_sub-end : goal.overflow_sub-end
overflow_sub-end c =
    let bytes = bytes_at c.args.self.now.segments c.in-Some.first.segment in
    omega (arith, c.extent-count.ensures.ends, end_low bytes c.in-Some.first.start c.extent-count.result.0)

pub returns-in-Some-clause-some : goal.returns-in-Some-clause-some
returns-in-Some-clause-some c =
    let old = c.args.self.now in
    let first = c.in-Some.first in
    let extent = c.extent-count.ensures in
    let count = c.extent-count.result.0 in
    let end = c.extent-count.result.1 in
    let bytes = bytes_at old.segments first.segment in
    let span = c.split_at-in-Some.result.0.now in
    let is : span ≡ take (end - first.start) (drop first.start bytes) = c.split_at-in-Some.ensures.front
    ∙ ap (take (end - first.start)) (c.split_at.ensures.back ∙ ap (drop first.start) c.bytes-bytes.ensures) in
    record {
      some = extent.some;
      whole = span_whole bytes span first.start end count extent.ends extent.within is;
      there = λ i m at.
          let found = span_get bytes span first.start end count extent.ends extent.within is i m at in
          slot_in old.segments old.ring (c.args.slot + i)
          ∙ ap (option_map (message_on old.segments)) (extent.there i found.0)
          ∙ found.1;
    }
