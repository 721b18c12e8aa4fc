use Rattle.std.proofs.Common.{refl}
use Rattle.mold_durable.proofs.CrashLemmas.{live_first, not_refused, opened_prefix}
use Rattle.mold_durable.proofs.crash.open_after_crash.Goals as goal

pub returns-clause-kept : goal.returns-clause-kept
returns-clause-kept g c = λ messages bytes settled now left.
    let session = c.args.journal.now.session in
    let live = live_first g.S.Storage.shows g.S.Storage.may_leave session messages c.args.journal.now refl settled in
    let later = (c.take_steps.ensures.any_moment session messages live).each bytes left in
    opened_prefix g.D.Storage.shows g.D.Storage.may_leave c.args.disk session messages bytes later now c.open.result
    c.open.ensures.found

pub returns-clause-accepted : goal.returns-clause-accepted
returns-clause-accepted g c = λ messages bytes settled now left.
    let session = c.args.journal.now.session in
    let live = live_first g.S.Storage.shows g.S.Storage.may_leave session messages c.args.journal.now refl settled in
    let later = (c.take_steps.ensures.any_moment session messages live).each bytes left in
    not_refused g.D.Storage.shows g.D.Storage.may_leave c.args.disk session messages bytes later now c.open.result
    c.open.ensures.accepted
