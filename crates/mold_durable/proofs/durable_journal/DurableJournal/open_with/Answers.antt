use Rattle.std.proofs.Common.{false, ap, arith}
use Rattle.mold_session.specs.Journal.{fresh_journal}
use Rattle.mold_durable.specs.Group.{GroupState}
use Rattle.mold_durable.specs.MessageTaker.{continued}
use Rattle.mold_durable.proofs.LifeLemmas.{reopened, retaken}
use Rattle.mold_durable.proofs.OpenLemmas.{opened_with}
use Rattle.mold_durable.proofs.durable_journal.DurableJournal.open_with.Goals as goal

pub returns-in-Ok-recover-clause-settled : goal.returns-in-Ok-recover-clause-settled
returns-in-Ok-recover-clause-settled g c =
    let found = c.in-Ok-recover.found in
    let holds = g.T.MessageTaker.holds in
    opened_with g.S.Storage.shows g.S.Storage.may_leave (g.S.Storage.shows c.args.storage)
    (λ messages. holds found.taker (continued (fresh_journal found.session c.args.max_message) messages
    found.records.closed)) (record {
      storage = c.recover.new.storage;
      session = found.session;
      max_message = c.args.max_message;
      committed = found.records.count;
      end = found.records.end;
      closed = found.records.closed;
      waiting = c.in-Ok.group.messages;
      broken = false;
    }) c.in-Ok-recover.ensures.named c.in-Ok-recover.ensures.head (omega (arith, c.ranges.max_message.fits))
    c.in-Ok-recover.ensures.found holds found.taker (λ held. held) c.recover.ensures.read.shown.0
    c.in-Ok-recover.ensures.durable

pub returns-in-Ok-recover-clause-found : goal.returns-in-Ok-recover-clause-found
returns-in-Ok-recover-clause-found g c = λ life bytes shown file.
    reopened g.S.Storage.shows g.S.Storage.may_leave c.one_session_law.ensures.session _ life bytes
    (returns-in-Ok-recover-clause-settled g c).is (ap (λ (s : GroupState). s.messages) c.in-Ok.ensures)
    (c.recover.ensures.read.shown.1 bytes shown) file

pub returns-in-Ok-recover-clause-taken : goal.returns-in-Ok-recover-clause-taken
returns-in-Ok-recover-clause-taken g c = λ life bytes shown file.
    retaken g.S.Storage.shows g.S.Storage.may_leave c.one_session_law.ensures.session g.T.MessageTaker.holds _ life bytes
    (returns-in-Ok-recover-clause-settled g c) (c.recover.ensures.read.shown.1 bytes shown) file

pub returns-in-Err-clause-accepted : goal.returns-in-Err-clause-accepted
returns-in-Err-clause-accepted g c = λ life bytes shown file each.
    c.one_session_law.ensures.no_fault c.args.max_message life.session life.committed life.closed bytes c.in-Err.error
    (omega (arith, c.ranges.max_message.fits)) file each (c.in-Err.ensures.refused bytes shown)
