use Rattle.std.proofs.Common.{◌+◌, ◌++◌, true, false, length, ◌∙◌, inr, arith}
use Rattle.mold_durable.specs.MessageTaker.{HasTaken}
use Rattle.mold_durable.proofs.MomentLemmas.{reads_joined}
use Rattle.mold_durable.proofs.ReadingLemmas.{next_near, piece_since, read_all, read_fault, read_more}
use Rattle.mold_durable.proofs.TakenLemmas.{taken_closed, taken_joined}
use Rattle.mold_durable.proofs.recovery.read_records.Goals as goal

pub returns-in-Ok-true-clause-found : goal.returns-in-Ok-true-clause-found
returns-in-Ok-true-clause-found g c =
    let shows = g.S.Storage.shows c.args.storage.now in
    let holds = g.T.MessageTaker.holds in
    let earlier = HasTaken holds false c.args.taker.now c.pieces.taker in
    let later = HasTaken holds false c.pieces.taker c.read_piece.new.taker in
    let size = length c.read_piece.new.buffer in
    let so_far = c.pieces.invariant.found in
    let next = piece_since shows (g.S.Storage.shows c.pieces.storage) later c.args.most c.pieces.count c.pieces.end size
    c.in-Ok.skipped c.pieces.invariant.read.shown.1 c.in-Ok.ensures.found in
    let more = next.found.records in
    read_all shows earlier later c.args.most c.pieces.count c.pieces.end size c.in-Ok.skipped so_far next
    (HasTaken holds true c.args.taker.now c.close.new.self)
    (taken_closed holds c.args.taker.now c.read_piece.new.taker c.close.new.self (so_far.messages ++ more.messages)
    (taken_joined holds false c.args.taker.now c.pieces.taker c.read_piece.new.taker so_far.messages more.messages
    so_far.taken more.taken) c.close.ensures)
    true (c.pieces.end + c.in-Ok.skipped.len + 2)
    (grind (arith, c.in-Ok-true.is, c.in-Ok-true.field-0-is, c.in-Ok-true.field-0-test)) (omega arith)

pub returns-in-Ok-false-clause-found : goal.returns-in-Ok-false-clause-found
returns-in-Ok-false-clause-found g c =
    let shows = g.S.Storage.shows c.args.storage.now in
    let holds = g.T.MessageTaker.holds in
    let earlier = HasTaken holds false c.args.taker.now c.pieces.taker in
    let later = HasTaken holds false c.pieces.taker c.read_piece.new.taker in
    let size = length c.read_piece.new.buffer in
    let so_far = c.pieces.invariant.found in
    let next = piece_since shows (g.S.Storage.shows c.pieces.storage) later c.args.most c.pieces.count c.pieces.end size
    c.in-Ok.skipped c.pieces.invariant.read.shown.1 c.in-Ok.ensures.found in
    let more = next.found.records in
    read_all shows earlier later c.args.most c.pieces.count c.pieces.end size c.in-Ok.skipped so_far next
    (HasTaken holds false c.args.taker.now c.read_piece.new.taker)
    (taken_joined holds false c.args.taker.now c.pieces.taker c.read_piece.new.taker so_far.messages more.messages
    so_far.taken more.taken)
    false (c.pieces.end + c.in-Ok.skipped.len)
    (grind (arith, c.in-Ok-false.is, c.in-Ok-false.field-0-is, c.in-Ok-false.field-0-test)) (omega arith)

pub returns-then-skipped-eq0-clause-refused : goal.returns-then-skipped-eq0-clause-refused
returns-then-skipped-eq0-clause-refused g c =
    let shows = g.S.Storage.shows c.args.storage.now in
    let holds = g.T.MessageTaker.holds in
    let earlier = HasTaken holds false c.args.taker.now c.pieces.taker in
    let later = HasTaken holds false c.pieces.taker c.read_piece.new.taker in
    let size = length c.read_piece.new.buffer in
    let next = piece_since shows (g.S.Storage.shows c.pieces.storage) later c.args.most c.pieces.count c.pieces.end size
    c.in-Ok.skipped c.pieces.invariant.read.shown.1 c.in-Ok.ensures.found in
    inr (read_fault shows earlier later c.args.most c.pieces.count c.pieces.end size c.in-Ok.skipped
    c.pieces.invariant.found next c.in-Err-stop.error (omega (arith, c.ranges.most.fits))
    (omega (arith, c.requires.long, c.pieces.auto.buffer, c.read_piece.auto.buffer)) c.if-skipped-eq0.true c.in-Err-stop.is)

pub pieces-preserved : goal.pieces-preserved
pieces-preserved g c =
    let shows = g.S.Storage.shows c.args.storage.now in
    let holds = g.T.MessageTaker.holds in
    let earlier = HasTaken holds false c.args.taker.now c.pieces.taker in
    let later = HasTaken holds false c.pieces.taker c.read_piece.new.taker in
    let size = length c.read_piece.new.buffer in
    let so_far = c.pieces.invariant.found in
    let next = piece_since shows (g.S.Storage.shows c.pieces.storage) later c.args.most c.pieces.count c.pieces.end size
    c.in-Ok.skipped c.pieces.invariant.read.shown.1 c.in-Ok.ensures.found in
    let more = next.found.records in
    record {
      read = reads_joined g.S.Storage.shows g.S.Storage.may_leave g.S.Storage.moment g.S.Storage.left_since
          c.args.storage.now c.pieces.storage c.read_piece.new.storage c.pieces.invariant.read c.read_piece.ensures.read;
      found = read_more shows earlier later c.args.most c.pieces.count c.pieces.end size c.in-Ok.skipped so_far next
          (HasTaken holds false c.args.taker.now c.read_piece.new.taker)
          (taken_joined holds false c.args.taker.now c.pieces.taker c.read_piece.new.taker so_far.messages more.messages
          so_far.taken more.taken);
      near = next_near shows earlier later c.args.most c.pieces.count c.pieces.end size c.in-Ok.skipped so_far next
          c.if-skipped-eq0.false;
      failures = c.in-Ok.ensures.failures ∙ c.pieces.invariant.failures;
    }
