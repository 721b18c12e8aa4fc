use Rattle.std.proofs.Common.{◌+◌, ◌-◌, List, ℕ, length, drop, ap, arith}
use Rattle.mold_ffi.proofs.RecordLemmas.{fills_all, fills_more, fills_room, found_at, found_short, found_within}
use Rattle.mold_ffi.proofs.RecordLemmas.{none_at}
use Rattle.mold_ffi.proofs.publisher.records.put_records.Goals as goal

pub returns-in_default : goal.returns-in_default
returns-in_default c =
    let messages = c.args.journal.now.messages in
    let old = c.messages in
    fills_all c.args.buffer.now old.buffer (drop (c.args.from - 1) messages) (drop (old.number - 1) messages) old.used
    (none_at messages old.number old.invariant.some c.in_default.ensures) old.invariant.fills

pub record_head-requires : goal.record_head-requires
record_head-requires c =
    let journal = c.args.journal.now in
    omega (
      arith,
      found_short journal.max_message journal.messages c.messages.number c.in-Some.message.now c.messages.invariant.some
          c.next-next.ensures.journal.each c.in-Some.ensures,
      c.max_message-longest.ensures,
      c.max_message-longest.type_inv,
    )

pub copy_after-requires : goal.copy_after-requires
copy_after-requires c =
    let messages = c.args.journal.now.messages in
    let old = c.messages in
    let message = c.in-Some.message.now in
    omega (
      arith,
      fills_room c.args.buffer.now old.buffer (drop (c.args.from - 1) messages) (drop (old.number - 1) messages)
          (drop (old.number + 1 - 1) messages) message old.used
          (found_at messages old.number message old.invariant.some c.in-Some.ensures) c.requires.room
          old.invariant.fills,
      ap (λ (t : List ℕ). length t) c.record_head.ensures,
      old.auto.buffer,
    )

pub copy_after-requires-in-messages : goal.copy_after-requires-in-messages
copy_after-requires-in-messages c =
    let messages = c.args.journal.now.messages in
    let old = c.messages in
    let message = c.in-Some.message.now in
    omega (
      arith,
      fills_room c.args.buffer.now old.buffer (drop (c.args.from - 1) messages) (drop (old.number - 1) messages)
          (drop (old.number + 1 - 1) messages) message old.used
          (found_at messages old.number message old.invariant.some c.in-Some.ensures) c.requires.room
          old.invariant.fills,
      old.auto.buffer,
      c.copy_after.auto.buffer,
    )

pub overflow_add-number : goal.overflow_add-number
overflow_add-number c =
    let old = c.messages in
    omega (
      arith,
      found_within c.args.journal.now.messages old.number c.in-Some.message.now old.invariant.some c.in-Some.ensures,
      c.next-next.ensures.journal.few,
    )

pub messages-smaller : goal.messages-smaller
messages-smaller c =
    let old = c.messages in
    omega (
      arith,
      found_within c.args.journal.now.messages old.number c.in-Some.message.now old.invariant.some c.in-Some.ensures,
    )

pub messages-preserved : goal.messages-preserved
messages-preserved c =
    let messages = c.args.journal.now.messages in
    let old = c.messages in
    let message = c.in-Some.message.now in
    record {
      some = omega arith;
      fills = fills_more c.args.buffer.now old.buffer c.copy_after.new.buffer c.copy_after-in-messages.new.buffer
          c.record_head.result (drop (c.args.from - 1) messages) (drop (old.number - 1) messages)
          (drop (old.number + 1 - 1) messages) message old.used
          (found_at messages old.number message old.invariant.some c.in-Some.ensures) old.invariant.fills
          c.record_head.ensures c.copy_after.ensures c.copy_after-in-messages.ensures;
    }
