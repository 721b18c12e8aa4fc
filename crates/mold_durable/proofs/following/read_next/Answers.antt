use Rattle.std.proofs.Common.{true, refl, arith}
use Rattle.mold_durable.specs.Following.{HasTold}
use Rattle.mold_durable.specs.GrowingFile.{Passes}
use Rattle.mold_durable.proofs.FollowerLemmas.{finds_since, gate_passed, passes_same, told_known}
use Rattle.mold_durable.proofs.following.read_next.Goals.{then-not-at+in-Ok-true, else-not-at}
use Rattle.mold_durable.proofs.following.read_next.Goals as goal

pub returns-in-Ok-clause-found : goal.returns-in-Ok-clause-found
returns-in-Ok-clause-found g c = λ writer bytes told shown writes has.
    let history = g.F.GrowingFile.history in
    let moment = g.F.GrowingFile.moment in
    let synced = g.F.GrowingFile.synced in
    let start = moment c.args.file.now in
    let at = c.args.at in
    let passed : Passes history moment synced c.args.file.now c.if-not-at.file
    × HasTold writer told at.count at.end true (moment c.if-not-at.file) =
    elim c.if-not-at.branch [
      | then-not-at+in-Ok-true w ↦ rw w.file-is (
        w.read_gate.ensures.passes,
        gate_passed writer bytes writes told at.count at.end start (moment w.read_gate.new.file) at.opened
            w.in-Ok-true.field-0 w.read_gate.ensures.passes.later has w.in-Ok-true.field-0-test
            (w.in-Ok-true.ensures.gate writer bytes told shown writes has),
      )
      | else-not-at w ↦ rw w.file-is (
        passes_same history moment synced c.args.file.now,
        told_known writer told at.count at.end start at.opened (grind (arith, w.if-not-at.false)) has,
      )
    ]
    in
    finds_since writer told start (moment c.if-not-at.file) (moment c.read_record.new.file) c.args.news.now.messages
    c.args.news.now.messages c.read_record.new.news.messages c.in-Ok.found passed.0.later refl
    (c.in-Ok.ensures.found writer bytes told (passed.0.kept bytes shown) writes passed.1)

pub returns-in-Err-read_record-clause-accepted : goal.returns-in-Err-read_record-clause-accepted
returns-in-Err-read_record-clause-accepted g c = λ writer bytes told shown writes each has.
    let history = g.F.GrowingFile.history in
    let moment = g.F.GrowingFile.moment in
    let synced = g.F.GrowingFile.synced in
    let start = moment c.args.file.now in
    let at = c.args.at in
    let passed : Passes history moment synced c.args.file.now c.if-not-at.file
    × HasTold writer told at.count at.end true (moment c.if-not-at.file) =
    elim c.if-not-at.branch [
      | then-not-at+in-Ok-true w ↦ rw w.file-is (
        w.read_gate.ensures.passes,
        gate_passed writer bytes writes told at.count at.end start (moment w.read_gate.new.file) at.opened
            w.in-Ok-true.field-0 w.read_gate.ensures.passes.later has w.in-Ok-true.field-0-test
            (w.in-Ok-true.ensures.gate writer bytes told shown writes has),
      )
      | else-not-at w ↦ rw w.file-is (
        passes_same history moment synced c.args.file.now,
        told_known writer told at.count at.end start at.opened (grind (arith, w.if-not-at.false)) has,
      )
    ]
    in
    c.in-Err-read_record.ensures.accepted writer bytes told (passed.0.kept bytes shown) writes each passed.1
