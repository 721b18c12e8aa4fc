use Rattle.std.proofs.Common.{refl}
use Rattle.mold_repair.specs.declared.step.RepairStep.TheVariants.{Take}
use Rattle.mold_recorder.proofs.AppendingLemmas.{some_none}
use Rattle.mold_recorder.proofs.RecordingLemmas.{called_step}
use Rattle.mold_recorder.proofs.feed_recorder.FeedRecorder.take.Goals as goal

pub returns-in-Err-clause-taken : goal.returns-in-Err-clause-taken
returns-in-Err-clause-taken g c =
    let old = c.args.self.now.feed in
    let new = c.deliver.new.self in
    record {
      messages = new.batch.messages;
      called = called_step (Take (g.D.PortSet.state old.ports).now c.args.origin c.args.datagram) old.repairer
          new.repairer new.batch (c.deliver.ensures.taken, refl) c.deliver.ensures.options;
      appended = tt;
      some = some_none g.S.Storage.shows g.S.Storage.may_leave g.S.Storage.moment g.S.Storage.left_since
          g.met.S.Storage.only_now
          c.args.journal.now new.batch.messages;
    }

pub returns-clause-taken : goal.returns-clause-taken
returns-clause-taken g c =
    let old = c.args.self.now.feed in
    let new = c.deliver.new.self in
    record {
      messages = new.batch.messages;
      called = called_step (Take (g.D.PortSet.state old.ports).now c.args.origin c.args.datagram) old.repairer
          new.repairer new.batch (c.deliver.ensures.taken, refl) c.deliver.ensures.options;
      appended = c.append_batch.ensures.appended;
      some = c.append_batch.ensures.some;
    }
