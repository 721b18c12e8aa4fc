use Rattle.std.proofs.Common.{◌≡◌, sym, subst, ◌∙◌, List, ℕ, true}
use Rattle.mold_durable_law.proofs.HistoryLemmas.{all_allowed, all_run, history_begun, life_moved}
use Rattle.mold_durable_law.specs.History.{after_all, all_steps, begun}
use Rattle.mold_world.specs.Headline.{HasAll, IsPrefix}
use Rattle.mold_world.specs.Machine.{Machine}
use Rattle.mold_durable_law.proofs.laws.durable_law.Goals as goal

pub returns-clause-life : goal.returns-clause-life
returns-clause-life c history moment = life_moved history moment

pub returns-clause-says : goal.returns-clause-says
returns-clause-says c history datagram so =
    (tt, record { packet = so.packet; spelled = so.spelled; named = so.named; is_true = so.so })

pub returns-clause-steps : goal.returns-clause-steps
returns-clause-steps c session events may = all_allowed (begun session) events (history_begun session) may

pub returns-clause-run : goal.returns-clause-run
returns-clause-run c session events = all_run (begun session) events

pub returns-clause-books : goal.returns-clause-books
returns-clause-books c session events receiver may =
    subst (λ (m : Machine). IsPrefix (m.logs receiver).book m.published) (sym (all_run (begun session) events))
    (c.safety_law.ensures.books session (all_steps (begun session) events) receiver
    (all_allowed (begun session) events (history_begun session) may))

pub returns-clause-whole : goal.returns-clause-whole
returns-clause-whole c session events receiver may ended =
    subst (λ (m : Machine). HasAll m receiver) (sym (all_run (begun session) events))
    (c.safety_law.ensures.whole session (all_steps (begun session) events) receiver
    (all_allowed (begun session) events (history_begun session) may)
    (subst (λ (m : Machine). (m.logs receiver).ended ≡ true) (all_run (begun session) events) ended))

pub returns-clause-recovered : goal.returns-clause-recovered
returns-clause-recovered c session other events receiver bytes messages closed may left file =
    subst (λ (m : List (List ℕ)). IsPrefix ((after_all (begun session) events).machine.logs receiver).book m)
    ((c.one_file_law.ensures.one_journal_3 _ other _ messages _ closed bytes left file).1)
    (returns-clause-books c session events receiver may)

pub returns-clause-recovered_whole : goal.returns-clause-recovered_whole
returns-clause-recovered_whole c session other events receiver bytes messages closed may ended left file =
    let all = returns-clause-whole c session events receiver may ended in
    let same = c.one_file_law.ensures.one_journal_3 _ other _ messages _ closed bytes left file in
    (sym same.2 ∙ all.closed, all.whole ∙ same.1)
