use Rattle.std.proofs.Common.{◌≡◌, ◌++◌, [], ◌∷◌, ℕ, List, length, append_assoc, append-nil, ap}
use Rattle.std.proofs.Common.{refl, subst, sym, ◌∙◌, arith}
use Rattle.mold_follow.specs.Serving.{with_messages}
use Rattle.mold_indexed_file.specs.Shown.{IndexedState, IsInFile, Shows}
use Rattle.mold_follow.proofs.CatchUpLemmas.{next_in_file}
use Rattle.mold_follow.proofs.catching_up.push_news.Goals as goal

pub loop-message-preserved : goal.loop-message-preserved
loop-message-preserved g c =
    let history = g.F.GrowingFile.history in
    let moment = g.F.GrowingFile.moment in
    let step : c.loop-message.message-iterator ≡ c.in-Some.message.now ∷ c.next.new.self = c.in-Some.ensures.steps in
    let long = ap (λ (t : List (List ℕ)). length t) step in
    let same = c.loop-message.invariant.kept in
    record {
      shown = λ journal shows has.
          let was = c.loop-message.invariant.shown journal shows has in
          let parts : was.0 ++ c.in-Some.message.now ∷ c.next.new.self ≡ journal.messages ++ c.args.news.now.messages =
          ap (λ (t : List (List ℕ)). was.0 ++ t) (sym step) ∙ was.1.0 in
          let here : IsInFile history moment c.loop-message.indexed.file c.loop-message.indexed.version
          (with_messages (journal.messages ++ c.args.news.now.messages) journal) =
          subst (λ (s : IndexedState g.row.F.Denot). IsInFile history moment s.file s.version
          (with_messages (journal.messages ++ c.args.news.now.messages) journal)) (sym same) has in (
            was.0 ++ c.in-Some.message.now ∷ [],
            (
              append_assoc was.0 (c.in-Some.message.now ∷ []) c.next.new.self ∙ parts,
              c.in_ok-push_message.ensures.shown (with_messages was.0 journal) c.in-Some.message.now was.1.1 refl
                  (next_in_file history moment g.F.GrowingFile.synced c.prefix_law.ensures c.loop-message.indexed.file
                  c.loop-message.indexed.version journal was.0 c.next.new.self
                  (journal.messages ++ c.args.news.now.messages)
                  c.in-Some.message.now parts here),
            ),
          );
      counted = omega (arith, c.in_ok-push_message.ensures.counted, c.loop-message.invariant.counted, long);
      rest = omega (arith, c.loop-message.invariant.rest, long);
      few = λ some. omega (
        arith,
        c.in_ok-push_message.ensures.index.few,
        c.loop-message.invariant.counted,
        c.loop-message.invariant.rest,
      );
      kept = c.in_ok-push_message.ensures.kept
          ∙ ap (λ (s : IndexedState g.row.F.Denot). record s { index = c.push_message.new.indexed.index }) same;
    }

pub returns-clause-shown : goal.returns-clause-shown
returns-clause-shown g c = λ journal shows has.
    let was = c.loop-message.invariant.shown journal shows has in
    let none : c.loop-message.message-iterator ≡ [] = c.in-None.ensures.steps.0 in
    let all : was.0 ≡ journal.messages ++ c.args.news.now.messages =
    sym (append-nil was.0) ∙ ap (λ (t : List (List ℕ)). was.0 ++ t) (sym none) ∙ was.1.0 in
    subst (λ (t : List (List ℕ)). Shows g.F.GrowingFile.history g.F.GrowingFile.moment c.loop-message.indexed
    (with_messages t journal)) all was.1.1
