use Rattle.std.proofs.Common.{◌+◌, ◌-◌, take, drop, length-take, sym, arith}
use Rattle.mold_pcap.proofs.WindowLemmas.{taken_after}
use Rattle.mold_pcap.proofs.window.read_after.Goals as goal

pub returns-clause-read : goal.returns-clause-read
returns-clause-read g c =
    let count = c.in_ok-count.count in
    let h = c.in_ok-count.ensures in
    record {
      few = omega (
        arith,
        c.read.auto.buffer,
        h.count.0,
        length-take ((c.args.end + 65536) - c.args.end)
            (drop c.args.end c.args.bytes.now),
      );
      added = take count c.read.new.buffer;
      long = sym h.count.1;
      joined = taken_after c.args.end count ((c.args.end + 65536) - c.args.end) c.args.bytes.now c.read.new.buffer
          (omega arith) h.count.0;
      consumed = h.bytes.0;
    }
