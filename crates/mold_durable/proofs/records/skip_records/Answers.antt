use Rattle.std.proofs.Common.{◌-◌, Err, false, drop, take, arith}
use Rattle.mold_durable.specs.MessageTaker.{HasTaken}
use Rattle.mold_durable.proofs.ReadingLemmas.{skipped_next, skips}
use Rattle.mold_durable.proofs.TakenLemmas.{taken_next}
use Rattle.mold_durable.proofs.records.skip_records.Goals as goal

pub returns-in-Err : goal.returns-in-Err
returns-in-Err g c =
    skips (HasTaken g.T.MessageTaker.holds false c.args.taker.now c.records.taker) c.args.most c.args.start
    c.records.count c.records.at c.args.bytes.now c.split_at.result.1.now (Err c.in-Err.error) c.split_at.ensures.back
    c.records.invariant.0 c.in-Err.ensures.refused

pub records-preserved : goal.records-preserved
records-preserved g c =
    let holds = g.T.MessageTaker.holds in
    let before = c.args.taker.now in
    let len = c.in-Ok-Message.len in
    let rest = c.split_at.result.1.now in
    let next = rw c.in-Ok-Message.field-0-is at c.in-Ok-Message.ensures.next in (
      skipped_next (HasTaken holds false before c.records.taker) (HasTaken holds false before c.take.new.self) c.args.most
          c.args.start c.records.count c.records.at len c.args.bytes.now rest c.split_at.ensures.back c.records.invariant.0
          next (taken_next holds before c.records.taker c.take.new.self (take (len - 4) (drop 4 rest))
          c.in_ok-take-in-Ok-Message.ensures),
      omega (arith, c.records.invariant.1, next.0),
    )
