use Rattle.std.proofs.Common.{◌≡◌, refl, sym, ap, ◌∙◌}
use Rattle.std.proofs.lemmas.Option.{slice_get_past, slice_get_read}
use Rattle.mold_receiver.specs.View.{View}
use Rattle.mold_receiver.specs.Wanted.{wanted}
use Rattle.mold_world.proofs.EventLemmas.{AnswerLaws, wanted_answerable}
use Rattle.mold_world.proofs.RequestRowLemmas.{ask_applied, ask_nobody, ask_nothing}
use Rattle.mold_world.specs.Inside.{world_of}
use Rattle.mold_world.specs.World.{WorldState}
use Rattle.mold_world.proofs.participants.Participants.ask.Goals as goal

pub returns-in_default-clause-applied : goal.returns-in_default-clause-applied
returns-in_default-clause-applied c =
    let items : c.deref.result.now ≡ c.args.self.now.subscribers.items = c.deref.ensures.value in
    let behind = rw items at c.in_default.ensures.lookup.3 in
    (ask_nobody (world_of c.args.self.now) c.args.r (slice_get_past c.args.self.now.subscribers.items c.args.r behind), refl)

pub returns-in-Some-wanted-clause-applied : goal.returns-in-Some-wanted-clause-applied
returns-in-Some-wanted-clause-applied c =
    let w : WorldState = world_of c.args.self.now in
    let items : c.deref.result.now ≡ c.args.self.now.subscribers.items = c.deref.ensures.value in
    let here = slice_get_read c.args.self.now.subscribers.items _ c.args.r c.in-Some.subscriber.now refl
    (rw items at c.in-Some.ensures.lookup.3.0) (rw items at c.in-Some.ensures.lookup.1)
    in
    let want = c.in-Some-wanted.ensures.wanted ∙ ap (λ (t : View). wanted t) c.receiver.ensures in
    let answers : AnswerLaws = record {
      answerable = c.answered_law.ensures.answerable;
      plan = c.answered_law.ensures.plan;
      within = c.answered_law.ensures.within;
      answer_is = c.answered_law.ensures.answer;
      told = c.sending_law.ensures.planned;
      asks = c.wanted_law.ensures.asks;
      gap = c.wanted_law.ensures.gap;
    } in
    ask_applied w (world_of c.request.new.self) c.args.r c.in-Some.subscriber.now c.in-Some-wanted.request c.encode.result
    c.request.result here want
    (c.answered_law.ensures.asked w.publisher.journal c.in-Some-wanted.request c.encode.result c.encode.ensures
    (wanted_answerable answers w.publisher.journal w.sent c.in-Some.subscriber.now c.in-Some-wanted.request
    (c.requires.world.subscribers c.args.r c.in-Some.subscriber.now here) (sym want)))
    c.request.ensures.applied

pub returns-in-None-clause-applied : goal.returns-in-None-clause-applied
returns-in-None-clause-applied c =
    let items : c.deref.result.now ≡ c.args.self.now.subscribers.items = c.deref.ensures.value in
    let here = slice_get_read c.args.self.now.subscribers.items _ c.args.r c.in-Some.subscriber.now refl
    (rw items at c.in-Some.ensures.lookup.3.0) (rw items at c.in-Some.ensures.lookup.1)
    in
    ask_nothing (world_of c.args.self.now) c.args.r c.in-Some.subscriber.now here
    (c.in-None.ensures.wanted ∙ ap (λ (t : View). wanted t) c.receiver.ensures)
