use Rattle.std.proofs.Common.{false}
use Rattle.mold_durable.specs.MessageTaker.{HasTaken}
use Rattle.mold_durable.proofs.MomentLemmas.{reads_one}
use Rattle.mold_durable.proofs.ReadingLemmas.{piece_read}
use Rattle.mold_durable.proofs.recovery.read_piece.Goals as goal

pub returns-in-Ok-skip_records-clause-read : goal.returns-in-Ok-skip_records-clause-read
returns-in-Ok-skip_records-clause-read g c =
    reads_one g.S.Storage.shows g.S.Storage.may_leave g.S.Storage.moment g.S.Storage.left_since c.args.storage.now
    c.read_at.new.self (g.met.S.Storage.only_now c.args.storage.now) c.read_at.ensures.shown c.read_at.ensures.crash
    c.read_at.ensures.time

pub returns-in-Err-skip_records-clause-read : goal.returns-in-Err-skip_records-clause-read
returns-in-Err-skip_records-clause-read g c =
    reads_one g.S.Storage.shows g.S.Storage.may_leave g.S.Storage.moment g.S.Storage.left_since c.args.storage.now
    c.read_at.new.self (g.met.S.Storage.only_now c.args.storage.now) c.read_at.ensures.shown c.read_at.ensures.crash
    c.read_at.ensures.time

pub returns-in-Err-clause-read : goal.returns-in-Err-clause-read
returns-in-Err-clause-read g c =
    reads_one g.S.Storage.shows g.S.Storage.may_leave g.S.Storage.moment g.S.Storage.left_since c.args.storage.now
    c.read_at.new.self (g.met.S.Storage.only_now c.args.storage.now) c.read_at.ensures.shown c.read_at.ensures.crash
    c.read_at.ensures.time

pub returns-in-Ok-skip_records-clause-found : goal.returns-in-Ok-skip_records-clause-found
returns-in-Ok-skip_records-clause-found g c =
    piece_read (g.S.Storage.shows c.args.storage.now)
    (HasTaken g.T.MessageTaker.holds false c.args.taker.now c.skip_records.new.taker) c.args.most c.args.read.count
    c.args.read.end c.in-Ok.count c.read_at.new.buffer c.in-Ok-skip_records.skipped c.in-Ok.ensures.count.0
    c.in-Ok.ensures.within c.in-Ok-skip_records.ensures c.in-Ok.ensures.bytes
