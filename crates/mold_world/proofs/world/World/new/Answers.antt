use Rattle.std.proofs.Common.{◌∙◌, sym, subst, arith, ap}
use Rattle.mold_session.specs.Journal.{JournalState}
use Rattle.mold_session.specs.Publisher.{PublisherState}
use Rattle.mold_session.specs.Server.{ServerState}
use Rattle.mold_world.specs.Kept.{IsWorld}
use Rattle.mold_world.proofs.world.World.new.Goals as goal

pub invariant_of-result : goal.invariant_of-result
invariant_of-result c =
    let publisher = c.publisher.view_is ∙ c.in-Ok.ensures.made in
    let server = c.in-Ok-new.ensures.made in
    let limits = c.in_ok-check_world.ensures.limits in
    let session = c.args.session in
    let is = c.run_law.ensures.begins session c.args.limit c.args.server_limit c.args.burst c.args.windows.now
    (record { named = c.has_name.ensures; limited = limits.0; served = limits.1; room = limits.2 })
    in
    record {
      world = subst IsWorld (sym (λ j. record {
        publisher = publisher j;
        server_limit = (server j).limit;
        burst = (server j).burst;
        sent = (c.new-3.ensures j).messages;
        subscribers = c.in_ok-make_subscribers.ensures j;
      })) is;
      serves =
          let told = ap (λ (t : ServerState). t.max_message) server in
          let kept = ap (λ (t : JournalState). t.max_message) c.journal.ensures in
          let same = ap (λ (t : PublisherState). t.journal.max_message) c.publisher.view_is in
          omega (arith, told, kept, same, c.max_message-max_message.ensures);
    }
