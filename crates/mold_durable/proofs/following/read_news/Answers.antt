use Rattle.std.proofs.Common.{ℕ, ◌+◌, false, true, List, ◌++◌, sym, subst, ◌∙◌, arith}
use Rattle.mold_durable.specs.Following.{Reaches}
use Rattle.mold_durable.proofs.FollowerLemmas.{found_closing, found_message, found_shut, passes_trans, reaches_closing}
use Rattle.mold_durable.proofs.FollowerLemmas.{reaches_more, reaches_shut, records_more, taken_closing, taken_message}
use Rattle.mold_durable.proofs.FollowerLemmas.{taken_shut, told_more}
use Rattle.mold_durable.proofs.following.read_news.Goals as goal

pub returns-in-Ok-Closing-clause-found : goal.returns-in-Ok-Closing-clause-found
returns-in-Ok-Closing-clause-found g c = λ writer bytes told shown writes has.
    let moment = g.F.GrowingFile.moment in
    let first = moment c.args.file.now in
    let start = moment c.records.file in
    let stop = moment c.read_next.new.file in
    let old = c.records.news.messages in
    let new = c.read_next.new.news.messages in
    let at = c.records.at in
    let i = c.records.invariant in
    let found = c.in-Ok-Closing.field-0 in
    let before = i.told writer bytes told shown writes has in
    let same = taken_closing at.count at.end _ old new found c.in-Ok-Closing.field-0-is c.in-Ok-Closing.ensures.taken in
    let ended = found_closing writer (told ++ old) start stop old new found c.in-Ok-Closing.field-0-is
    (c.in-Ok-Closing.ensures.found writer bytes (told ++ old) (i.passes.kept bytes shown) writes before) in
    subst (λ (t : List (List ℕ)). Reaches writer (told ++ t) first stop (record {
      records = record { count = at.count; end = at.end + 2; closed = true };
      more = false;
    })) (sym same)
    (reaches_closing writer bytes writes (told ++ old) at.count at.end first start stop at.opened
    (omega (arith, i.passes.later, c.read_next.ensures.passes.later)) before ended)

pub returns-in-Ok-Shut-clause-found : goal.returns-in-Ok-Shut-clause-found
returns-in-Ok-Shut-clause-found g c = λ writer bytes told shown writes has.
    let moment = g.F.GrowingFile.moment in
    let first = moment c.args.file.now in
    let start = moment c.records.file in
    let stop = moment c.read_next.new.file in
    let old = c.records.news.messages in
    let new = c.read_next.new.news.messages in
    let at = c.records.at in
    let i = c.records.invariant in
    let found = c.in-Ok-Shut.field-0 in
    let before = i.told writer bytes told shown writes has in
    let same = taken_shut at.count at.end _ old new found c.in-Ok-Shut.field-0-is c.in-Ok-Shut.ensures.taken in
    let shut = found_shut writer (told ++ old) start stop old new found c.in-Ok-Shut.field-0-is
    (c.in-Ok-Shut.ensures.found writer bytes (told ++ old) (i.passes.kept bytes shown) writes before) in
    subst (λ (t : List (List ℕ)). Reaches writer (told ++ t) first stop (record {
      records = record { count = at.count; end = at.end; closed = false };
      more = false;
    })) (sym same)
    (reaches_shut writer bytes writes (told ++ old) at.count at.end first start stop at.opened i.passes.later before
    shut)

pub returns-in-Err-clause-accepted : goal.returns-in-Err-clause-accepted
returns-in-Err-clause-accepted g c = λ writer bytes told shown writes each has.
    let i = c.records.invariant in
    c.in-Err.ensures.accepted writer bytes (told ++ c.records.news.messages) (i.passes.kept bytes shown) writes each
    (i.told writer bytes told shown writes has)

pub returns-then-at-start-ge-LOOK_BYTES-clause-found : goal.returns-then-at-start-ge-LOOK_BYTES-clause-found
returns-then-at-start-ge-LOOK_BYTES-clause-found g c = λ writer bytes told shown writes has.
    let moment = g.F.GrowingFile.moment in
    let start = moment c.records.file in
    let stop = moment c.read_next.new.file in
    let old = c.records.news.messages in
    let new = c.read_next.new.news.messages in
    let at = c.records.at in
    let i = c.records.invariant in
    let m = c.in-Ok-Message in
    let before = i.told writer bytes told shown writes has in
    reaches_more writer (told ++ new) (at.count + 1) (at.end + m.len) (moment c.args.file.now) stop m.opened
    (told_more writer told old new at.count at.end start stop m.len at.opened m.opened before
    (found_message writer (told ++ old) start stop m.len old new m.field-0 m.opened m.field-0-is
    (m.ensures.found writer bytes (told ++ old) (i.passes.kept bytes shown) writes before)))

pub records-preserved : goal.records-preserved
records-preserved g c =
    let history = g.F.GrowingFile.history in
    let moment = g.F.GrowingFile.moment in
    let start = moment c.records.file in
    let stop = moment c.read_next.new.file in
    let old = c.records.news.messages in
    let new = c.read_next.new.news.messages in
    let at = c.records.at in
    let i = c.records.invariant in
    let m = c.in-Ok-Message in
    let takes = taken_message at.count at.end _ m.len old new m.field-0 m.opened m.field-0-is m.ensures.taken in
    let longer = records_more old new takes.message takes.added in
    record {
      passes = passes_trans history moment g.F.GrowingFile.synced c.args.file.now c.records.file c.read_next.new.file
          i.passes c.read_next.ensures.passes;
      told = λ writer bytes told shown writes has.
          let before = i.told writer bytes told shown writes has in
          told_more writer told old new at.count at.end start stop m.len at.opened m.opened before
          (found_message writer (told ++ old) start stop m.len old new m.field-0 m.opened m.field-0-is
          (m.ensures.found writer bytes (told ++ old) (i.passes.kept bytes shown) writes before));
      few = omega (arith, takes.few);
      near = takes.near;
      long = omega (arith, i.long, takes.long, longer);
      early = omega (arith, i.long, takes.long, longer, c.if-at-start-ge-LOOK_BYTES.false);
      failures = m.ensures.failures ∙ i.failures;
    }
