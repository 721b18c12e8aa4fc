use Rattle.std.proofs.Common.{◌≡◌, ℕ, List, [], false, refl, sym, append-nil, subst}
use Rattle.std.specs.Prelude.{Some}
use Rattle.mold_day_law.proofs.DayLemmas.{DayLaws, carried_published, few_committed, kept_all, life_recorded}
use Rattle.mold_day_law.proofs.DayLemmas.{lives_recorded, recorded, served, session_after}
use Rattle.mold_day_law.specs.Recorders.{HasBegun}
use Rattle.mold_durable_law.specs.History.{after_all, begun}
use Rattle.mold_wire.specs.Truth.{published_at}
use Rattle.mold_wire.specs.declared.session.Session.{Session}
use Rattle.mold_day_law.proofs.laws.day_law.Given.{Over}
use Rattle.mold_day_law.proofs.laws.day_law.Goals.{After-true_stays_law}
use Rattle.mold_day_law.proofs.laws.day_law.Goals as goal

laws : (g : Over) → After-true_stays_law g → DayLaws
laws g c = record {
  machine = record {
    one_packet = c.one_spelling_law.ensures.one_packet;
    grows = c.true_stays_law.ensures.published;
    closes = c.true_stays_law.ensures.closed;
    carried = c.true_packet_law.ensures.carried;
    keeps = c.true_stays_law.ensures.message;
  };
  begins = c.told_law.ensures.begins;
  goes_on = c.told_law.ensures.goes_on;
  later = c.told_law.ensures.later;
  moved = c.durable_law.ensures.life;
  anew = c.honest_stays_law.ensures.within;
  taken = c.taken_law.ensures;
  honest = c.safe_law.ensures.honest;
  pieces = c.safe_law.ensures.pieces;
  one_file = c.one_file_law.ensures.one_journal_3;
}

pub returns-clause-carried : goal.returns-clause-carried
returns-clause-carried g c session events place datagram packet number message may sent spelled carries =
    carried_published (laws g c).machine (after_all (begun session) events).machine place datagram packet number message
    (kept_all (laws g c) session events may) sent spelled carries

pub returns-clause-carried_file : goal.returns-clause-carried_file
returns-clause-carried_file g c session other events place datagram packet number message bytes messages closed may sent
    spelled carries left file =
    subst (λ (m : List (List ℕ)). published_at m number ≡ Some message)
    ((laws g c).one_file _ other _ messages _ closed bytes left file).1
    (returns-clause-carried g c session events place datagram packet number message may sent spelled carries)

pub returns-clause-serves : goal.returns-clause-serves
returns-clause-serves g c session events later messages datagram may prefix so =
    served (laws g c) session events later messages datagram may prefix so

pub returns-clause-ends : goal.returns-clause-ends
returns-clause-ends g c lines servers first old new before after ended = record {
  took = first;
  part = record { rest = []; parts = sym (append-nil first) };
  end = new;
  messages = ended.messages;
  delivered = ended.delivered;
  leaves = ended.leaves;
}

pub returns-clause-recorded : goal.returns-clause-recorded
returns-clause-recorded g c session events life may has prefix =
    life_recorded (laws g c) (after_all (begun session) events) (kept_all (laws g c) session events may)
    (few_committed (laws g c) session events may) g.S.Storage.shows g.S.Storage.may_leave g.S.Storage.moment
    g.S.Storage.left_since life has prefix

pub returns-clause-finished : goal.returns-clause-finished
returns-clause-finished g c session events messages lines servers first old new before after may started is arrived
    prefix =
    let has = recorded (laws g c) (after_all (begun session) events).machine (kept_all (laws g c) session events may)
    (few_committed (laws g c) session events may) g.S.Storage.shows g.S.Storage.may_leave lines servers first old new
    before messages is.messages
    (subst (λ (s : Session). HasBegun g.S.Storage.shows g.S.Storage.may_leave s messages old.repairer before)
    (sym (session_after (begun session) events)) started) is.delivered arrived prefix in
    record { prefix = has.prefix; whole = has.whole }

pub returns-clause-lives : goal.returns-clause-lives
returns-clause-lives g c session events lives may have =
    lives_recorded (laws g c) (after_all (begun session) events) (kept_all (laws g c) session events may)
    (few_committed (laws g c) session events may) _ g.S.Storage.shows g.S.Storage.may_leave g.S.Storage.moment
    g.S.Storage.left_since [] false lives have (record { behind = (after_all (begun session) events).machine.published; parts = refl })
