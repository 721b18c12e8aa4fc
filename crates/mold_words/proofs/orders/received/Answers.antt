use Rattle.mold_words.proofs.orders.received.Goals as goal

pub invariant_of-result : goal.invariant_of-result
invariant_of-result c =
    let start = c.args.start in
    let lines = c.args.lines in
    let requests = c.args.requests in
    let receiver = c.args.receiver in
    record {
      named = start.named;
      first = start.first;
      ported_a = lines.ported_a;
      ported_b = lines.ported_b;
      sourced = lines.sourced;
      served = c.requires;
      windowed = receiver.windowed;
      storing = receiver.storing;
      patient = requests.patient;
      timed = requests.timed;
      doubling = requests.doubling;
      asking = requests.asking;
      flying = requests.flying;
      giving_up = requests.giving_up;
      audited = receiver.audited;
      daily = receiver.daily;
    }
