use Rattle.std.proofs.Common.{[], refl, sym, arith, length-append}
use Rattle.std.proofs.lemmas.Bool.{true≢false}
use Rattle.mold_session.specs.Records.{head_3}
use Rattle.mold_durable.proofs.HeadLemmas.{length-head_3}
use Rattle.mold_durable.proofs.record_follower.RecordFollower.open.Goals as goal

pub returns-clause-follows : goal.returns-clause-follows
returns-clause-follows g c = λ writer bytes shown writes. record {
  shown = c.read_head.ensures.passes.kept bytes shown;
  named = c.in-Ok.ensures.found writer bytes shown writes;
  counted = refl;
  ends = omega (
    arith,
    length-append (head_3 writer.session.0) [],
    length-head_3 writer.session.0 (writes.file 0).named,
  );
  durable = record { extra = writer.messages (g.F.GrowingFile.synced c.read_head.new.file); longer = refl };
  whole = λ flag. absurd (true≢false (sym flag));
}
