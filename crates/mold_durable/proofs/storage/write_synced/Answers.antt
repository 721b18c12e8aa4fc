use Rattle.std.proofs.Common.{length}
use Rattle.mold_durable.specs.Storage.{IsTornOf}
use Rattle.mold_durable.proofs.MomentLemmas.{started, goes_on, torn_start, torn_step}
use Rattle.mold_durable.proofs.storage.write_synced.Goals as goal

pub returns-in_err-write_at-clause-any_moment : goal.returns-in_err-write_at-clause-any_moment
returns-in_err-write_at-clause-any_moment g c =
    let old = c.args.storage.now in
    let size = length c.args.bytes.now in
    let P = IsTornOf (g.S.Storage.may_leave old) c.args.at size in
    let start = started g.S.Storage.moment g.S.Storage.left_since old P
    (λ b left. torn_start (g.S.Storage.may_leave old) c.args.at size b (g.met.S.Storage.only_now old b left)) in
    goes_on g.S.Storage.moment g.S.Storage.left_since old old c.write_at.new.self P _ start c.write_at.ensures.time
    (torn_step (g.S.Storage.may_leave old) _ c.args.at size c.write_at.ensures.crash)

pub returns-in_err-sync-clause-any_moment : goal.returns-in_err-sync-clause-any_moment
returns-in_err-sync-clause-any_moment g c =
    let old = c.args.storage.now in
    let size = length c.args.bytes.now in
    let P = IsTornOf (g.S.Storage.may_leave old) c.args.at size in
    let start = started g.S.Storage.moment g.S.Storage.left_since old P
    (λ b left. torn_start (g.S.Storage.may_leave old) c.args.at size b (g.met.S.Storage.only_now old b left)) in
    let after = torn_step (g.S.Storage.may_leave old) _ c.args.at size c.write_at.ensures.crash in
    let wrote = goes_on g.S.Storage.moment g.S.Storage.left_since old old c.write_at.new.self P _ start
    c.write_at.ensures.time after in
    goes_on g.S.Storage.moment g.S.Storage.left_since old c.write_at.new.self c.sync.new.self P _ wrote
    c.sync.ensures.time (λ b now. after b (c.sync.ensures.crash b now))

pub returns-clause-any_moment : goal.returns-clause-any_moment
returns-clause-any_moment g c =
    let old = c.args.storage.now in
    let size = length c.args.bytes.now in
    let P = IsTornOf (g.S.Storage.may_leave old) c.args.at size in
    let start = started g.S.Storage.moment g.S.Storage.left_since old P
    (λ b left. torn_start (g.S.Storage.may_leave old) c.args.at size b (g.met.S.Storage.only_now old b left)) in
    let after = torn_step (g.S.Storage.may_leave old) _ c.args.at size c.write_at.ensures.crash in
    let wrote = goes_on g.S.Storage.moment g.S.Storage.left_since old old c.write_at.new.self P _ start
    c.write_at.ensures.time after in
    goes_on g.S.Storage.moment g.S.Storage.left_since old c.write_at.new.self c.sync.new.self P _ wrote
    c.sync.ensures.time (λ b now. after b (c.sync.ensures.crash b now))
