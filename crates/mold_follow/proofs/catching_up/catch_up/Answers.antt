use Rattle.std.proofs.Common.{◌++◌, ap, refl, sym, ◌∙◌, ℕ, List, arith}
use Rattle.mold_durable.specs.Follower.{RecordFollowerState}
use Rattle.mold_durable.specs.Following.{Writer, Writes}
use Rattle.mold_indexed_file.specs.Shown.{IndexedState}
use Rattle.mold_follow.specs.Serving.{Serves}
use Rattle.mold_follow.proofs.CatchUpLemmas.{counts_poll, front_twice, has_all_earlier, serves_longer, serves_news}
use Rattle.mold_follow.proofs.catching_up.catch_up.Given.{Over}
use Rattle.mold_follow.proofs.catching_up.catch_up.Goals.{In_ok-push_news}
use Rattle.mold_follow.proofs.catching_up.catch_up.Goals as goal

-- What the server has after one more look.
looked : (g : Over) (c : In_ok-push_news g) (writer : Writer) (bytes : ℕ → List ℕ) (told : List (List ℕ)) →
    Writes writer bytes →
    Serves g.F.GrowingFile.history g.F.GrowingFile.moment g.F.GrowingFile.synced writer bytes c.looks.indexed
    c.looks.follower told →
    Serves g.F.GrowingFile.history g.F.GrowingFile.moment g.F.GrowingFile.synced writer bytes c.push_news.new.indexed
    c.poll.new.follower (told ++ c.poll.new.follower.news)
looked g c writer bytes told writes serves =
    serves_news g.F.GrowingFile.history g.F.GrowingFile.moment g.F.GrowingFile.synced c.growing_file_law.ensures writer
    bytes c.looks.indexed c.poll.new.self c.push_news.new.indexed c.looks.follower c.poll.new.follower told
    (g.met.F.GrowingFile.synced_now c.poll.new.self.file) writes serves c.poll.ensures.kept c.poll.ensures.index
    c.poll.ensures.shown (c.poll.ensures.gained writer bytes told writes serves.follows)
    c.in_ok-push_news.ensures.kept (rw c.news.ensures at c.in_ok-push_news.ensures.shown)

pub returns-then-not-more-clause-serves : goal.returns-then-not-more-clause-serves
returns-then-not-more-clause-serves g c = λ writer bytes told writes serves.
    let was = c.looks.invariant.serves writer bytes told writes serves in
    record {
      told = was.told ++ c.poll.new.follower.news;
      longer = front_twice was.longer (record { extra = c.poll.new.follower.news; longer = refl });
      serves = looked g (goal.at.returns-then-not-more-clause-serves g c).In_ok-push_news writer bytes was.told writes
          was.serves;
      all = has_all_earlier writes _ _ c.looks.invariant.later
          (c.in-Ok.ensures.nothing writer bytes was.told writes was.serves.follows c.if-not-more.true);
    }

pub looks-preserved : goal.looks-preserved
looks-preserved g c =
    let polled = c.poll.ensures.index
    ∙ ap (λ (s : IndexedState g.row.F.Denot). record s { file = c.poll.new.self.file }) c.looks.invariant.kept in
    let pushed = c.in_ok-push_news.ensures.kept in
    record {
      serves = λ writer bytes told writes serves.
          let was = c.looks.invariant.serves writer bytes told writes serves in
          serves_longer g.F.GrowingFile.history g.F.GrowingFile.moment g.F.GrowingFile.synced writer bytes
          c.push_news.new.indexed c.poll.new.follower told was.told c.poll.new.follower.news was.longer
          (looked g (goal.at.looks-preserved g c).In_ok-push_news writer bytes was.told writes was.serves);
      failures = ap (λ (s : IndexedState g.row.F.Denot). g.F.GrowingFile.failed s.file) pushed
          ∙ (c.in-Ok.ensures.cause ∙ c.looks.invariant.failures);
      later = omega (
        arith,
        c.looks.invariant.later,
        c.poll.ensures.passes.later,
        ap (λ (s : IndexedState g.row.F.Denot). g.F.GrowingFile.moment s.file) pushed,
      );
      kept = pushed
          ∙ ap (λ (s : IndexedState g.row.F.Denot). record s { index = c.push_news.new.indexed.index }) polled
          ∙ ap (λ (file : g.row.F.Denot).
          record c.args.indexed.now { file = file; index = c.push_news.new.indexed.index })
          (sym (ap (λ (s : IndexedState g.row.F.Denot). s.file) pushed));
      follower = c.poll.ensures.kept
          ∙ ap (λ (f : RecordFollowerState). record f {
            count = c.poll.new.follower.count;
            end = c.poll.new.follower.end;
            closed = c.poll.new.follower.closed;
            news = c.poll.new.follower.news;
          }) c.looks.invariant.follower;
    }

pub returns-in-Err-clause-failures : goal.returns-in-Err-clause-failures
returns-in-Err-clause-failures g c =
    counts_poll c.in-Err.error c.load_error.result _ _ _ c.load_error.ensures c.looks.invariant.failures
    c.in-Err.ensures.cause

pub returns-then-not-more-clause-failures : goal.returns-then-not-more-clause-failures
returns-then-not-more-clause-failures g c =
    ap (λ (s : IndexedState g.row.F.Denot). g.F.GrowingFile.failed s.file) c.in_ok-push_news.ensures.kept
    ∙ (c.in-Ok.ensures.cause ∙ c.looks.invariant.failures)
