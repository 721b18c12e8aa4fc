use Rattle.std.proofs.Common.{◌∙◌, ap, subst}
use Rattle.mold_durable.specs.Storage.{LeavesOnly}
use Rattle.mold_durable_publisher.specs.Told.{IsTold}
use Rattle.mold_durable_publisher.specs.declared.durable_publisher.DurablePublisher.{DurablePublisher}
use Rattle.mold_feeder.specs.Gathering.{with_waiting}
use Rattle.mold_feeder.proofs.GatheringLemmas.{crash_commit, crash_unused, group_failed, group_taken, told_unused}
use Rattle.mold_feeder.proofs.gathering.take_group.Goals as goal

pub returns-in_err-gathered-clause-told : goal.returns-in_err-gathered-clause-told
returns-in_err-gathered-clause-told g c = λ life datagram is so.
    told_unused g.S.Storage.shows g.S.Storage.may_leave g.S.Storage.moment g.S.Storage.left_since
    g.met.S.Storage.only_now c.told_law.ensures.later_file c.args.publisher.now life datagram
    c.gather.new.publisher.durable.storage is so c.gather.ensures.storage

pub returns-in-Ok-clause-taken : goal.returns-in-Ok-clause-taken
returns-in-Ok-clause-taken g c = λ life is.
    let so_far = c.in_ok-gathered.ensures.gathered life is in
    group_taken g.S.Storage.shows g.S.Storage.may_leave g.S.Storage.moment g.S.Storage.left_since life c.args.most
    c.args.publisher.now c.gather.new.publisher c.commit.new.self _ _ c.in_ok-gathered.gathered so_far
    (c.in-Ok.ensures.acknowledged (with_waiting life so_far.messages) so_far.publishes)
    (ap (λ (p : DurablePublisher g.row.S.Denot). p.publisher) c.in-Ok.ensures.done)

pub returns-in-Ok-clause-told : goal.returns-in-Ok-clause-told
returns-in-Ok-clause-told g c = λ life datagram is so.
    let so_far = c.in_ok-gathered.ensures.gathered life is in
    subst (λ (s : g.row.S.Denot). LeavesOnly g.S.Storage.moment g.S.Storage.left_since s c.commit.new.self.durable.storage
    (IsTold datagram)) c.gather.ensures.storage
    (c.commit.ensures.told (with_waiting life so_far.messages) datagram so_far.publishes so)

pub returns-in-Err-clause-told : goal.returns-in-Err-clause-told
returns-in-Err-clause-told g c = λ life datagram is so.
    let so_far = c.in_ok-gathered.ensures.gathered life is in
    subst (λ (s : g.row.S.Denot). LeavesOnly g.S.Storage.moment g.S.Storage.left_since s c.commit.new.self.durable.storage
    (IsTold datagram)) c.gather.ensures.storage
    (c.commit.ensures.told (with_waiting life so_far.messages) datagram so_far.publishes so)

pub returns-in_err-gathered-clause-crash : goal.returns-in_err-gathered-clause-crash
returns-in_err-gathered-clause-crash g c = λ life is intact.
    crash_unused g.S.Storage.shows g.S.Storage.may_leave g.S.Storage.moment g.S.Storage.left_since
    g.met.S.Storage.only_now c.args.publisher.now c.gather.new.publisher life is intact c.gather.ensures.storage

pub returns-in-Ok-clause-crash : goal.returns-in-Ok-clause-crash
returns-in-Ok-clause-crash g c = λ life is intact.
    let so_far = c.in_ok-gathered.ensures.gathered life is in
    crash_commit g.S.Storage.shows g.S.Storage.may_leave g.S.Storage.moment g.S.Storage.left_since life
    c.args.publisher.now.durable.storage c.gather.new.publisher c.commit.new.self so_far.messages so_far.publishes
    c.gather.ensures.storage (ap (λ (p : DurablePublisher g.row.S.Denot). p.publisher) c.in-Ok.ensures.done)
    (c.commit.ensures.any_moment (with_waiting life so_far.messages)
    (so_far.publishes.lives (c.gather.ensures.intact ∙ intact)))

pub returns-in-Err-clause-crash : goal.returns-in-Err-clause-crash
returns-in-Err-clause-crash g c = λ life is intact.
    let so_far = c.in_ok-gathered.ensures.gathered life is in
    crash_commit g.S.Storage.shows g.S.Storage.may_leave g.S.Storage.moment g.S.Storage.left_since life
    c.args.publisher.now.durable.storage c.gather.new.publisher c.commit.new.self so_far.messages so_far.publishes
    c.gather.ensures.storage (ap (λ (p : DurablePublisher g.row.S.Denot). p.publisher) c.in-Err.ensures.after)
    (c.commit.ensures.any_moment (with_waiting life so_far.messages)
    (so_far.publishes.lives (c.gather.ensures.intact ∙ intact)))

pub returns-in-Err-clause-grows : goal.returns-in-Err-clause-grows
returns-in-Err-clause-grows g c = λ life is.
    group_failed g.S.Storage.shows g.S.Storage.may_leave g.S.Storage.moment g.S.Storage.left_since
    g.M.MessageReader.input_kind life c.args.most c.args.publisher.now c.gather.new.publisher c.commit.new.self _ _
    c.in_ok-gathered.gathered (c.in_ok-gathered.ensures.gathered life is)
    (ap (λ (p : DurablePublisher g.row.S.Denot). p.publisher) c.in-Err.ensures.after)
