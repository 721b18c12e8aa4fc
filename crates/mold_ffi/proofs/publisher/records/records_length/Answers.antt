use Rattle.std.proofs.Common.{◌+◌, ◌-◌, drop, arith}
use Rattle.mold_ffi.proofs.RecordLemmas.{added_all, added_more, found_at, found_within, none_at}
use Rattle.mold_ffi.proofs.publisher.records.records_length.Goals as goal

pub returns-in_default : goal.returns-in_default
returns-in_default c =
    let messages = c.args.journal.now.messages in
    let old = c.messages in
    added_all (drop (c.args.from - 1) messages) (drop (old.number - 1) messages) old.size
    (none_at messages old.number old.invariant.some c.in_default.ensures) old.invariant.added

pub overflow_add-number : goal.overflow_add-number
overflow_add-number c =
    let old = c.messages in
    omega (
      arith,
      found_within c.args.journal.now.messages old.number c.in-Some.message.now old.invariant.some c.in-Some.ensures,
      c.next-next.ensures.journal.few,
    )

pub messages-smaller : goal.messages-smaller
messages-smaller c =
    let old = c.messages in
    omega (
      arith,
      found_within c.args.journal.now.messages old.number c.in-Some.message.now old.invariant.some c.in-Some.ensures,
    )

pub messages-preserved : goal.messages-preserved
messages-preserved c =
    let messages = c.args.journal.now.messages in
    let old = c.messages in
    let message = c.in-Some.message.now in
    record {
      some = omega arith;
      added = rw c.saturating_add-size.ensures (
          added_more (drop (c.args.from - 1) messages) (drop (old.number - 1) messages)
          (drop (old.number + 1 - 1) messages) message old.size
          (found_at messages old.number message old.invariant.some c.in-Some.ensures) old.invariant.added
          );
    }
