use Rattle.std.proofs.Common.{[], ap, append-nil, arith, refl, sym}
use Rattle.mold_session.specs.Reader.{ReaderState}
use Rattle.mold_session.proofs.reader.JournalReader.take_blocks.Goals as goal

pub returns-then-most-eq0 : goal.returns-then-most-eq0
returns-then-most-eq0 c = record {
  messages = [];
  passes = record {
    same = refl;
    last = refl;
    few = omega arith;
    counted = omega arith;
    below = omega (arith, c.self.invariant, ap (λ (r : ReaderState). r.count) c.self.view_is);
    each = tt;
    parts = refl;
  };
  appended = sym (append-nil c.args.out.now.items);
}
