use Rattle.std.proofs.Common.{◌≡◌, ℕ, ◌+◌, ◌-◌, ◌<◌, ◌^◌, false, List, ◌++◌, length}
use Rattle.mold_wire.specs.declared.limits.TheConstants.{MAX_NUMBER}
use Rattle.mold_session.specs.Records.{records}
use Rattle.mold_durable.specs.Following.{HasTold, Writer, Writes}
use Rattle.mold_durable.specs.GrowingFile.{Passes}
use Rattle.mold_durable.specs.declared.following.TheConstants.{LOOK_BYTES}
use Rattle.mold_durable.proofs.following.read_news.Given as goal

-- The records before offset `end` were read.
abbrev pub invariant-records : goal.invariant-records
invariant-records g l = record {
  passes : Passes g.F.GrowingFile.history g.F.GrowingFile.moment g.F.GrowingFile.synced l.fn.file l.file;
  told : (writer : Writer) (bytes : ℕ → List ℕ) (told : List (List ℕ)) → g.F.GrowingFile.history l.fn.file bytes →
      Writes writer bytes → HasTold writer told l.start.count l.start.end false (g.F.GrowingFile.moment l.fn.file) →
      HasTold writer (told ++ l.news.messages) l.at.count l.at.end l.at.opened (g.F.GrowingFile.moment l.file);
  few : l.at.count < MAX_NUMBER;
  near : l.at.end < 2 ^ 63;
  long : l.at.end ≡ l.start.end + length (records l.news.messages);
  early : l.at.end < l.start.end + LOOK_BYTES;
  failures : g.F.GrowingFile.failed l.file ≡ g.F.GrowingFile.failed l.fn.file;
}

abbrev pub decreases-records : goal.decreases-records
decreases-records g l = 9223372036854775808 - l.at.end
