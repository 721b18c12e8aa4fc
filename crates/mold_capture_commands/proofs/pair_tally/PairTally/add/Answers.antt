use Rattle.std.proofs.Common.{ap, sym, ◌∙◌}
use Rattle.mold_capture_commands.specs.SessionState.{tally_more}
use Rattle.mold_capture_commands.proofs.PairLemmas.{fault_more}
use Rattle.mold_capture_commands.proofs.pair_tally.PairTally.add.Goals as goal

pub returns-in-Ok : goal.returns-in-Ok
returns-in-Ok c = c.add_packet.ensures ∙ ap (tally_more c.args.self.now) (sym c.in-Ok.is)

pub returns-in-Err : goal.returns-in-Err
returns-in-Err c =
    let tally = c.args.self.now in
    let count = c.saturating_add-self.ensures in
    (λ i. record {
      datagrams = count i;
      first = tally.first;
      last = tally.last;
      heartbeats = tally.heartbeats;
      end = tally.end;
    })
    ∙ fault_more tally c.in-Err.field-0
    ∙ ap (tally_more tally) (sym c.in-Err.is)
