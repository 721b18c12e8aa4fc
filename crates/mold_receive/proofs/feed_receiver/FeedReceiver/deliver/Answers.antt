use Rattle.std.proofs.Common.{ℕ, ap, subst, sym, ◌∙◌}
use Rattle.mold_receiver.specs.Batch.{Handed}
use Rattle.mold_repair.specs.Run.{HasTaken}
use Rattle.mold_repair.specs.declared.repairer.Repairer.{Repairer}
use Rattle.mold_receive.proofs.feed_receiver.FeedReceiver.deliver.Goals as goal

pub returns-in-Err : goal.returns-in-Err
returns-in-Err g c =
    let old = c.args.self.now in
    let now = (g.D.PortSet.state old.ports).now in
    record {
      taken = subst (λ (r : Repairer). HasTaken old.repairer r now c.args.origin c.args.datagram.now
          c.refuse.new.self.batch) (sym c.refuse.ensures.repairer)
          (subst (λ (h : Handed). HasTaken old.repairer c.take.new.repairer now c.args.origin c.args.datagram.now h)
          (sym c.refuse.ensures.batch)
          (subst (λ (t : ℕ). HasTaken old.repairer c.take.new.repairer t c.args.origin c.args.datagram.now
          c.take.new.batch) c.now-now.ensures.value c.take.ensures.taken));
      options = ap (λ (r : Repairer). r.options) c.refuse.ensures.repairer ∙ c.take.ensures.options;
      ports = c.refuse.ensures.ports;
      text = c.refuse.ensures.text;
      format = c.refuse.ensures.format;
    }
