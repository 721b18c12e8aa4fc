use Rattle.std.proofs.Common.{sym, ◌∙◌, Ok, Err}
use Rattle.std.specs.Prelude.{Result, OnErr}
use Rattle.mold_receiver.specs.Wanted.{lacks}
use Rattle.mold_rounds.proofs.CatchUpLemmas.{stands_count, stands_more, stands_none, stands_stopped, stands_whole}
use Rattle.mold_rounds.proofs.FilledLemmas.{batch_follows, batch_more}
use Rattle.mold_rounds.proofs.catching.catch_up.Goals as goal

pub loop-request-init : goal.loop-request-init
loop-request-init c = stands_none c.args.receiver.now c.args.batch.now c.args.journal.now c.args.server.now

pub take_round-requires-clause-follows : goal.take_round-requires-clause-follows
take_round-requires-clause-follows c =
    let stands = c.loop-request.invariant in
    batch_follows c.followed_law.ensures.follows c.args.receiver.now c.loop-request.receiver
    c.args.journal.now.messages c.args.batch.now c.loop-request.batch stands.ahead c.requires.follows stands.batch

pub loop-request-preserved : goal.loop-request-preserved
loop-request-preserved c =
    let made = c.in_ok-take_round.ensures in
    stands_more c.followed_law.ensures.twice c.args.receiver.now c.args.batch.now c.args.journal.now c.args.server.now
    c.loop-request.count c.loop-request.receiver c.take_round.new.receiver c.loop-request.batch c.take_round.new.batch
    c.loop-request.server c.take_round.new.server c.loop-request.invariant made.round made.ahead made.batch
    made.counted made.server

pub returns-in_err-take_round-clause-batch : goal.returns-in_err-take_round-clause-batch
returns-in_err-take_round-clause-batch c =
    let stands = c.loop-request.invariant in
    let part = c.in_err-take_round.ensures in
    batch_more c.followed_law.ensures.twice c.args.receiver.now c.loop-request.receiver c.args.journal.now.messages
    c.args.batch.now c.loop-request.batch c.take_round.new.batch c.take_round.new.receiver.next stands.ahead
    part.ahead.next stands.batch part.batch

on_err : {T E : Type 0} {P : Type 0} (r : Result T E) → P → OnErr r P
on_err (Ok x) p = tt
on_err (Err e) p = p

pub returns-in_err-take_round-clause-stopped : goal.returns-in_err-take_round-clause-stopped
returns-in_err-take_round-clause-stopped c =
    let part = c.in_err-take_round.ensures in
    on_err c.from_residual.result
    (stands_stopped c.args.receiver.now c.args.batch.now c.args.journal.now c.args.server.now c.loop-request.count
    c.loop-request.receiver c.take_round.new.receiver c.loop-request.batch c.loop-request.server
    c.take_round.new.server c.loop-request.invariant part.some part.part part.counted part.server)

pub returns-clause-rounds : goal.returns-clause-rounds
returns-clause-rounds c =
    stands_count c.args.receiver.now c.args.batch.now c.args.journal.now c.args.server.now c.loop-request.count
    c.loop-request.receiver c.loop-request.batch c.loop-request.server c.loop-request.invariant
    (c.ranges_walk_law.ensures.none (lacks c.loop-request.receiver.store) c.loop-request.receiver.next)
    (c.wanted_law.ensures.none c.loop-request.receiver (sym c.wanted.ensures.wanted ∙ c.in_default.is))

pub returns-clause-whole : goal.returns-clause-whole
returns-clause-whole c =
    stands_whole c.args.receiver.now c.args.batch.now c.args.journal.now c.args.server.now c.loop-request.count
    c.loop-request.receiver c.loop-request.batch c.loop-request.server c.loop-request.invariant
    c.wanted.ensures.well_formed
    (c.wanted_law.ensures.none c.loop-request.receiver (sym c.wanted.ensures.wanted ∙ c.in_default.is))
