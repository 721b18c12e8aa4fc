use Rattle.std.proofs.Common.{◌∙◌, ap, sym}
use Rattle.mold_receiver.specs.Origin.{line_of}
use Rattle.mold_repair.specs.Origin.{receiver_origin}
use Rattle.mold_repair.specs.declared.options.RepairOptions.{RepairOptions}
use Rattle.mold_ffi.proofs.RepairerLemmas.{follows_datagram}
use Rattle.mold_ffi.proofs.repairer.batched_repairer.BatchedRepairer.take.Goals as goal

pub invariant_of-self : goal.invariant_of-self
invariant_of-self c =
    let old = c.args.self.now in
    record {
      followed = follows_datagram c.taken_law.ensures c.followed_law.ensures.follows (line_of (receiver_origin c.args.origin))
          c.args.bytes.now old.repairer.arbiter c.take.new.self.arbiter old.batch c.take.new.batch c.take.result
          old.followed c.take.ensures.taken c.take.ensures.refused c.take.ensures.batch;
      served = old.served ∙ sym (ap (λ (o : RepairOptions). o.servers) c.take.ensures.options);
    }
