use Rattle.std.proofs.Common.{ap, sym, ◌∙◌, max, min}
use Rattle.mold_capture_commands.specs.Pairs.{joint}
use Rattle.mold_capture_commands.proofs.pair_tally.PairTally.add_messages.Goals as goal

pub returns : goal.returns
returns c =
    let first = c.lesser.ensures ∙ ap (joint min c.args.self.now.first) (sym c.last_number.ensures.first) in
    let last = c.greater.ensures ∙ ap (joint max c.args.self.now.last) (sym c.last_number.ensures.last) in
    (λ i. record {
      datagrams = c.args.self.now.datagrams;
      first = first i;
      last = last i;
      heartbeats = c.args.self.now.heartbeats;
      end = c.args.self.now.end;
    })
