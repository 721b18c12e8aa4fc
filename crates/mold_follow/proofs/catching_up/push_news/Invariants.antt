use Rattle.std.proofs.Common.{◌≡◌, ◌+◌, ◌<◌, ◌≤◌, ◌^◌, ◌++◌, ℕ, List, length}
use Rattle.mold_follow.specs.Serving.{with_messages}
use Rattle.mold_indexed_file.specs.Shown.{IsInFile, Shows}
use Rattle.mold_session.specs.Journal.{JournalState}
use Rattle.mold_follow.proofs.catching_up.push_news.Given as goal

-- The messages so far are added. The iterator has the others.
abbrev pub invariant-loop-message : goal.invariant-loop-message
invariant-loop-message g l = record {
  shown :
      (journal : JournalState) → Shows g.F.GrowingFile.history g.F.GrowingFile.moment l.fn.indexed journal →
      IsInFile g.F.GrowingFile.history g.F.GrowingFile.moment l.fn.indexed.file l.fn.indexed.version
      (with_messages (journal.messages ++ l.news.messages) journal) →
      (told : List (List ℕ)) × ((told ++ l.message-iterator ≡ journal.messages ++ l.news.messages)
      × Shows g.F.GrowingFile.history g.F.GrowingFile.moment l.indexed (with_messages told journal));
  counted : l.indexed.index.count + length l.message-iterator ≡ l.fn.indexed.index.count + length l.news.messages;
  rest : length l.message-iterator ≤ length l.news.messages;
  few : length l.message-iterator < length l.news.messages → l.fn.indexed.index.count < 2 ^ 64;
  kept : l.indexed ≡ record l.fn.indexed { index = l.indexed.index };
}
