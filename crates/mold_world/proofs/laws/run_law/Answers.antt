use Rattle.mold_world.proofs.EventLemmas.{AllLaws, event_kept, run_kept, world_books, world_whole}
use Rattle.mold_world.proofs.RunLemmas.{begins, handed_run}
use Rattle.mold_world.proofs.StandingLemmas.{begins_as_machine}
use Rattle.mold_world.proofs.StepLemmas.{event_steps}
use Rattle.mold_world.proofs.laws.run_law.Goals.{After-answered_law}
use Rattle.mold_world.proofs.laws.run_law.Goals as goal

all_laws : After-answered_law → AllLaws
all_laws c = record {
  sending = record {
    may = c.publisher_law.ensures.may;
    published = c.publisher_law.ensures.published;
    sent = c.publisher_law.ensures.sent;
    closed = c.publisher_law.ensures.closed;
    datagram = c.sending_law.ensures.datagram;
    heartbeat = c.sending_law.ensures.heartbeat;
    end = c.sending_law.ensures.end;
    grows = c.true_stays_law.ensures.published;
    closes = c.true_stays_law.ensures.closed;
  };
  receivers = record {
    take = c.honest_take_law.ensures;
    taken = c.taken_law.ensures;
    stored = c.nothing_new_law.ensures.stored;
    follows = c.followed_law.ensures.follows;
    published = c.honest_stays_law.ensures.published;
    closed = c.honest_stays_law.ensures.closed;
    fresh = c.honest_stays_law.ensures.fresh;
    read = c.reading_law.ensures.read;
  };
  answers = record {
    answerable = c.answered_law.ensures.answerable;
    plan = c.answered_law.ensures.plan;
    within = c.answered_law.ensures.within;
    answer_is = c.answered_law.ensures.answer;
    told = c.sending_law.ensures.planned;
    asks = c.wanted_law.ensures.asks;
    gap = c.wanted_law.ensures.gap;
  };
}

pub returns : goal.returns
returns c = record {
  begins = begins (all_laws c);
  kept = λ w new happening report is same. event_kept (all_laws c) w happening (report, new) is same;
  run = run_kept (all_laws c);
  books = world_books;
  whole = world_whole;
  handed = handed_run (all_laws c) (record { keeps = c.true_stays_law.ensures.message });
  starts = begins_as_machine;
  steps = λ w new happening report is same.
      event_steps (all_laws c) (record { handed = c.nothing_new_law.ensures.handed }) w happening (report, new) is same;
}
