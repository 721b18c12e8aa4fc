use Rattle.std.proofs.Common.{ℕ, ◌+◌, ◌<◌, ◌∙◌, List, ap, arith, length, max, min, subst, sym}
use Rattle.std.specs.List.{list_all}
use Rattle.mold_pacing.specs.Flight.{NoneInFlight, are_apart, ends_below, flies_from, is_ascending, is_over, waits_until}
use Rattle.mold_pacing.specs.Table.{without}
use Rattle.mold_pacing.proofs.ApartLemmas.{sent_apart}
use Rattle.mold_pacing.proofs.EndLemmas.{all_placed, all_without, sent_ends}
use Rattle.mold_pacing.proofs.SentLemmas.{pause_some, sent_bounded, sent_flies, sent_waits, without_ascending}
use Rattle.mold_pacing.specs.declared.flight.Flight.{Flight}
use Rattle.mold_pacing.specs.declared.state.PacerState.{PacerState}
use Rattle.mold_pacing.proofs.LawLemmas.{learned_marked, learned_most, learned_now, learned_opens}
use Rattle.mold_pacing.proofs.PlaceLemmas.{sent_ascending, sent_length}
use Rattle.mold_pacing.proofs.pacer.Pacer.send.Goals as goal

pub invariant_of-self : goal.invariant_of-self
invariant_of-self c =
    let old = c.args.self.now in
    let fs = old.flights.items in
    let sent = c.next_flight-sent.result in
    let leaves = c.args.place.leaves in
    let before = c.args.place.before in
    let learns = c.learn-state.ensures in
    let now = ap (λ (s : PacerState). s.now) c.ask-self.ensures ∙ ap (λ (s : PacerState). s.now) learns
    ∙ learned_now old.options before old.state in
    let marked = ap (λ (s : PacerState). s.marked) c.ask-self.ensures ∙ ap (λ (s : PacerState). s.marked) learns
    ∙ learned_marked old.options before old.state in
    let opens = ap (λ (s : PacerState). s.opens) c.ask-self.ensures in
    let most = ap (λ (s : PacerState). s.most) c.ask-self.ensures ∙ ap (λ (s : PacerState). s.most) learns in
    let is = c.next_flight-sent.ensures in
    let first = ap (λ (f : Flight). f.first) is in
    let end = ap (λ (f : Flight). f.end) is in
    let until = ap (λ (f : Flight). f.until) is in
    let flies : old.state.now < sent.until = omega (arith, until, pause_some old.options before old.options.waits.0) in
    let some = learned_most old.options before old.state old.options.asks.0 old.learned.0 old.learned.1 in
    record {
      sorted = ap (is_ascending 0) c.replace.ensures.items ∙ sent_ascending sent leaves fs old.sorted;
      apart = ap (λ (n : ℕ). are_apart n 0 c.replace.new.flights.items) now
          ∙ ap (are_apart old.state.now 0) c.replace.ensures.items
          ∙ sent_apart old.state.now sent leaves fs (without_ascending leaves fs old.sorted)
          (subst (λ (n : ℕ). NoneInFlight fs old.state.now n sent.end) (sym first)
          (subst (λ (n : ℕ). NoneInFlight fs old.state.now c.args.ask.first n) (sym end) c.requires.free)) (omega (arith, first, end, c.requires.some)) flies old.apart;
      waits = rw c.min.ensures (ap (list_all (waits_until (min old.bounds.over sent.until))) c.replace.ensures.items
          ∙ sent_waits old.bounds.over sent leaves fs old.waits);
      low = ap (λ (n : ℕ). list_all (flies_from n c.min-2.result) c.replace.new.flights.items) now
          ∙ (rw c.min-2.ensures (ap (list_all (flies_from old.state.now (min old.bounds.low sent.first))) c.replace.ensures.items
          ∙ sent_flies old.state.now old.bounds.low sent leaves fs old.low));
      bounded = rw c.max.ensures (ap (list_all (ends_below (max old.bounds.end sent.end))) c.replace.ensures.items
          ∙ sent_bounded old.bounds.end sent leaves fs old.bounded);
      few = omega (
        arith,
        c.replace.new.flights.ok.0,
        ap (λ (t : List Flight). length t) c.replace.ensures.items,
        sent_length sent fs old.options.places old.state.now leaves c.requires.place.can
            (omega (arith, old.few, old.flights.ok.0)),
      );
      room = omega (arith, c.replace.ensures.capacity, old.room);
      timed = omega (arith, now, old.timed);
      past = omega (arith, now, marked, old.past);
      learned = (omega (arith, most, some.0), omega (arith, most, some.1));
      opens = omega (
        arith,
        now,
        opens,
        ap (λ (s : PacerState). s.now) learns,
        ap (λ (s : PacerState). s.opens) learns,
        learned_now old.options before old.state,
        learned_opens old.options before old.state,
        c.requires.opened,
      );
      ends = ap (λ (n : ℕ). list_all (is_over (n + old.options.ceiling)) c.replace.new.flights.items) now
          ∙ ap (list_all (is_over (old.state.now + old.options.ceiling))) c.replace.ensures.items
          ∙ all_placed (is_over (old.state.now + old.options.ceiling)) sent (without leaves fs)
          (ap (is_over (old.state.now + old.options.ceiling)) c.next_flight-sent.ensures
          ∙ sent_ends old.options old.state.now c.args.place.before c.args.ask old.options.waits.1)
          (all_without (is_over (old.state.now + old.options.ceiling)) leaves fs old.ends);
    }
