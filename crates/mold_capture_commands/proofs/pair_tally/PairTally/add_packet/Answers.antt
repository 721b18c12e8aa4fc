use Rattle.std.proofs.Common.{◌∙◌, Some, max, min}
use Rattle.mold_capture_commands.specs.Pairs.{greatest, joint, least, numbers_from}
use Rattle.mold_capture_commands.proofs.PairLemmas.{data_more, end_more, heartbeat_more}
use Rattle.mold_capture_commands.proofs.pair_tally.PairTally.add_packet.Goals as goal

pub returns-in-Data : goal.returns-in-Data
returns-in-Data c =
    let tally = c.args.self.now in
    let numbers = numbers_from c.args.packet.now.sequence c.in-Data.blocks in
    let count = c.saturating_add-self.ensures in
    c.add_messages.ensures
    ∙ (λ i. record {
      datagrams = count i;
      first = joint min tally.first (least numbers);
      last = joint max tally.last (greatest numbers);
      heartbeats = tally.heartbeats;
      end = tally.end;
    })
    ∙ data_more tally c.args.packet.now c.in-Data.blocks c.in-Data.is

pub returns-in-Heartbeat : goal.returns-in-Heartbeat
returns-in-Heartbeat c =
    let tally = c.args.self.now in
    let count = c.saturating_add-self.ensures in
    let beats = c.saturating_add-self-in-Heartbeat.ensures in
    (λ i. record {
      datagrams = count i;
      first = tally.first;
      last = tally.last;
      heartbeats = beats i;
      end = tally.end;
    })
    ∙ heartbeat_more tally c.args.packet.now c.in-Heartbeat.is

pub returns-in-End : goal.returns-in-End
returns-in-End c =
    let tally = c.args.self.now in
    let count = c.saturating_add-self.ensures in
    (λ i. record {
      datagrams = count i;
      first = tally.first;
      last = tally.last;
      heartbeats = tally.heartbeats;
      end = Some c.args.packet.now.sequence;
    })
    ∙ end_more tally c.args.packet.now c.in-End.is
