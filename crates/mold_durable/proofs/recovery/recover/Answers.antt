use Rattle.std.proofs.Common.{refl}
use Rattle.mold_session.specs.Journal.{fresh_journal}
use Rattle.mold_durable.specs.MessageTaker.{HasTaken, continued}
use Rattle.mold_durable.proofs.MomentLemmas.{reads_joined, reads_more}
use Rattle.mold_durable.proofs.OpenLemmas.{records_refused}
use Rattle.mold_durable.proofs.ReadingLemmas.{all_since}
use Rattle.mold_durable.proofs.recovery.recover.Goals as goal

pub returns-in-Err-read_records-clause-read : goal.returns-in-Err-read_records-clause-read
returns-in-Err-read_records-clause-read g c =
    reads_joined g.S.Storage.shows g.S.Storage.may_leave g.S.Storage.moment g.S.Storage.left_since c.args.storage.now
    c.read_head.new.storage c.read_records.new.storage c.read_head.ensures.read c.read_records.ensures.read

pub returns-in-Err-read_records-clause-refused : goal.returns-in-Err-read_records-clause-refused
returns-in-Err-read_records-clause-refused g c =
    records_refused c.args.most c.in-Ok.session.0 (g.S.Storage.shows c.args.storage.now)
    (g.S.Storage.shows c.read_head.new.storage) c.in-Err-read_records.error c.in-Ok.ensures.named
    c.read_head.ensures.read.shown.1 c.in-Ok.ensures.head c.in-Err-read_records.ensures.refused

pub returns-in-Ok-sync-clause-read : goal.returns-in-Ok-sync-clause-read
returns-in-Ok-sync-clause-read g c =
    let so_far = reads_joined g.S.Storage.shows g.S.Storage.may_leave g.S.Storage.moment g.S.Storage.left_since
    c.args.storage.now c.read_head.new.storage c.read_records.new.storage c.read_head.ensures.read
    c.read_records.ensures.read in
    reads_more g.S.Storage.shows g.S.Storage.may_leave g.S.Storage.moment g.S.Storage.left_since c.args.storage.now
    c.read_records.new.storage c.sync.new.self so_far c.sync.ensures.shown c.sync.ensures.crash c.sync.ensures.time

pub returns-in-Ok-sync-clause-durable : goal.returns-in-Ok-sync-clause-durable
returns-in-Ok-sync-clause-durable g c = λ bytes left.
    c.read_head.ensures.read.shown.0 bytes
    (c.read_records.ensures.read.shown.0 bytes (c.in-Ok-sync.ensures.durable bytes left))

pub returns-in-Ok-sync-clause-found : goal.returns-in-Ok-sync-clause-found
returns-in-Ok-sync-clause-found g c =
    let holds = g.T.MessageTaker.holds in
    let taker = c.read_records.new.taker in
    let records = c.in-Ok-read_records.records in
    let fresh = fresh_journal c.in-Ok.session c.args.most in
    all_since (g.S.Storage.shows c.args.storage.now) (g.S.Storage.shows c.read_head.new.storage)
    (HasTaken holds records.closed c.in-Ok-begin.taker taker)
    (λ messages. holds taker (continued fresh messages records.closed)) c.args.most records.count records.end
    records.closed c.read_head.ensures.read.shown.1
    (λ messages listed taken. taken fresh c.in-Ok-begin.ensures refl listed) c.in-Ok-read_records.ensures.found

pub returns-in-Err-sync-clause-read : goal.returns-in-Err-sync-clause-read
returns-in-Err-sync-clause-read g c =
    let so_far = reads_joined g.S.Storage.shows g.S.Storage.may_leave g.S.Storage.moment g.S.Storage.left_since
    c.args.storage.now c.read_head.new.storage c.read_records.new.storage c.read_head.ensures.read
    c.read_records.ensures.read in
    reads_more g.S.Storage.shows g.S.Storage.may_leave g.S.Storage.moment g.S.Storage.left_since c.args.storage.now
    c.read_records.new.storage c.sync.new.self so_far c.sync.ensures.shown c.sync.ensures.crash c.sync.ensures.time
