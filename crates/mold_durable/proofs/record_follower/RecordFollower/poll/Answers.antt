use Rattle.std.proofs.Common.{refl, sym, ap, subst}
use Rattle.mold_messages.specs.Listed.{Listed}
use Rattle.mold_durable.specs.Follower.{Follows, RecordFollowerState, follower_of}
use Rattle.mold_durable.specs.Following.{AllWithin}
use Rattle.mold_durable.proofs.FollowerLemmas.{follows_on, follows_still, told_by}
use Rattle.mold_durable.proofs.record_follower.RecordFollower.poll.Goals as goal

pub returns-in-Ok-clause-gained : goal.returns-in-Ok-clause-gained
returns-in-Ok-clause-gained g c = λ writer bytes told writes follows.
    let history = g.F.GrowingFile.history in
    let moment = g.F.GrowingFile.moment in
    let synced = g.F.GrowingFile.synced in
    let f = c.self.inside in
    let look = c.in-Ok.look in
    let has = subst (λ (s : RecordFollowerState).
    Follows history synced writer bytes (follower_of c.args.file.now s) told) (sym c.self.view_is) follows in
    let new : RecordFollowerState = record {
      session = f.session;
      max_message = f.max_message;
      count = look.records.count;
      end = look.records.end;
      closed = look.records.closed;
      news = c.read_durable.new.news.messages;
    } in
    follows_on history moment synced writer bytes writes told _ (follower_of c.read_durable.new.file new) look
    c.read_durable.ensures.passes refl refl refl refl has (c.in-Ok.ensures.found writer bytes told has.shown writes
    (told_by history moment synced writer bytes writes told _ (g.met.F.GrowingFile.synced_now c.args.file.now)
    c.if-self.false has))

pub returns-in-Ok-clause-nothing : goal.returns-in-Ok-clause-nothing
returns-in-Ok-clause-nothing g c = λ writer bytes told writes follows none.
    let history = g.F.GrowingFile.history in
    let moment = g.F.GrowingFile.moment in
    let synced = g.F.GrowingFile.synced in
    let f = c.self.inside in
    let has = subst (λ (s : RecordFollowerState).
    Follows history synced writer bytes (follower_of c.args.file.now s) told) (sym c.self.view_is) follows in
    (c.in-Ok.ensures.found writer bytes told has.shown writes
    (told_by history moment synced writer bytes writes told _ (g.met.F.GrowingFile.synced_now c.args.file.now)
    c.if-self.false has)).all none

pub returns-in-Err-clause-gained : goal.returns-in-Err-clause-gained
returns-in-Err-clause-gained g c = λ writer bytes told writes follows.
    let history = g.F.GrowingFile.history in
    let synced = g.F.GrowingFile.synced in
    let f = c.self.inside in
    let has = subst (λ (s : RecordFollowerState).
    Follows history synced writer bytes (follower_of c.args.file.now s) told) (sym c.self.view_is) follows in
    let new : RecordFollowerState = record {
      session = f.session;
      max_message = f.max_message;
      count = f.records.count;
      end = f.records.end;
      closed = f.records.closed;
      news = c.clear-in-Err.new.self.messages;
    } in
    follows_still history g.F.GrowingFile.moment synced writer bytes writes told _
    (follower_of c.read_durable.new.file new) c.read_durable.ensures.passes refl refl refl refl
    (ap (λ (l : Listed). l.messages) c.clear-in-Err.ensures) has

pub returns-in-Err-clause-accepted : goal.returns-in-Err-clause-accepted
returns-in-Err-clause-accepted g c = λ writer bytes told writes each follows.
    let history = g.F.GrowingFile.history in
    let moment = g.F.GrowingFile.moment in
    let synced = g.F.GrowingFile.synced in
    let f = c.self.inside in
    let has = subst (λ (s : RecordFollowerState).
    Follows history synced writer bytes (follower_of c.args.file.now s) told) (sym c.self.view_is) follows in
    c.in-Err.ensures.accepted writer bytes told has.shown writes
    (subst (λ (s : RecordFollowerState). AllWithin s.max_message writer) (sym c.self.view_is) each)
    (told_by history moment synced writer bytes writes told _ (g.met.F.GrowingFile.synced_now c.args.file.now)
    c.if-self.false has)
