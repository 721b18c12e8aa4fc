-- Rounds of catching up, one after the other.
use Rattle.std.proofs.Common.{◌≡◌, ℕ, suc, ◌+◌, ◌-◌, ◌<◌, ◌≤◌, List, [], refl, sym, ap, subst, ◌∙◌}
use Rattle.std.proofs.Common.{arith, min}
use Rattle.std.specs.Prelude.{Option, None, Some}
use Rattle.std.specs.FinMap as finite
use Rattle.std.specs.Ordering.{nat_cmp}
use Rattle.std.specs.Cmp.{nat_cmp_total}
use Rattle.mold_rule.specs.Ranges.{ranges}
use Rattle.mold_receiver.specs.Batch.{Handed, followed_by}
use Rattle.mold_receiver.specs.Store.{Message}
use Rattle.mold_receiver.specs.View.{View, IsWellFormed}
use Rattle.mold_receiver.specs.Wanted.{lacks, missing}
use Rattle.mold_rounds.proofs.FilledLemmas.{FollowedTwice, ahead_more, ahead_none, batch_more, batch_none}
use Rattle.mold_rounds.proofs.RoundsLemmas.{rounds_none}
use Rattle.mold_rounds.specs.CatchUp.{IsPartOfRound, IsStopped, caught_up}
use Rattle.mold_rounds.specs.CatchUp.{counted_by, filled, round_answer, rounds_view}
use Rattle.mold_rounds.specs.CatchUp.{views_after}
use Rattle.mold_rounds.specs.Rounds.{rounds}
use Rattle.mold_rounds.specs.Taking.{IsAhead, IsRound}
use Rattle.mold_session.specs.Journal.{JournalState}
use Rattle.mold_session.specs.Server.{IsServer, ServerState, counted}

-- The state after `count` rounds.
pub record StandsAfter (old : View) (before : Handed) (journal : JournalState) (server : ServerState) (count : ℕ)
    (now : View) (at : Handed) (served : ServerState) : Type 0 where
  pub view : now ≡ rounds_view old journal.messages server.limit server.burst count
  pub left : rounds old journal.messages server.limit server.burst
      ≡ count + rounds now journal.messages server.limit server.burst
  pub few : count + missing now ≤ missing old
  pub ahead : IsAhead old now
  pub batch : at ≡ followed_by before old.next (filled old journal.messages now.next)
  pub answered : served ≡ counted_by server count

pub stands_none : (old : View) (before : Handed) (journal : JournalState) (server : ServerState) →
    StandsAfter old before journal server 0 old before server
unfolding rounds_view
stands_none old before journal server =
    let none : server.answered ≡ server.answered + min 0 (18446744073709551615 - server.answered) = omega arith in
    record {
      view = refl;
      left = omega arith;
      few = omega arith;
      ahead = ahead_none old;
      batch = batch_none old journal.messages before;
      answered = λ i. record server { answered = none i };
    }

-- One more request is counted.
counted_more : (server served still : ServerState) (count : ℕ) → served ≡ counted_by server count → IsServer served →
    still ≡ counted served → still ≡ counted_by server (suc count)
counted_more server served still count is small one =
    let bound : served.answered ≡ server.answered + min count (18446744073709551615 - server.answered) =
    ap (λ (s : ServerState). s.answered) is
    in
    let more : min 18446744073709551615 (server.answered + min count (18446744073709551615 - server.answered) + 1)
    ≡ server.answered + min (suc count) (18446744073709551615 - server.answered) =
    omega (arith, bound, small.counted)
    in
    one ∙ ap counted is ∙ (λ i. record server { answered = more i })

-- A server's limits stay when it counts requests.
round_of : (w now : View) (published : List Message) (server served : ServerState) (count : ℕ) →
    served ≡ counted_by server count → IsRound now published served.limit served.burst w →
    IsRound now published server.limit server.burst w
round_of w now published server served count is round =
    subst (λ (s : ServerState). IsRound now published s.limit s.burst w) is round

one_view_more : (old w now : View) (published : List Message) (limit burst count : ℕ) →
    now ≡ rounds_view old published limit burst count →
    w ≡ views_after now (round_answer now published limit burst) →
    w ≡ rounds_view old published limit burst (suc count)
unfolding rounds_view
one_view_more old w now published limit burst count is one =
    one ∙ ap (λ (x : View). views_after x (round_answer x published limit burst)) is

pub stands_more : FollowedTwice → (old : View) (before : Handed) (journal : JournalState) (server : ServerState)
    (count : ℕ) (now w : View) (at after : Handed) (served still : ServerState) →
    StandsAfter old before journal server count now at served →
    IsRound now journal.messages served.limit served.burst w → IsAhead now w →
    after ≡ followed_by at now.next (filled now journal.messages w.next) → still ≡ counted served →
    IsServer served → StandsAfter old before journal server (count + 1) w after still
stands_more twice old before journal server count now w at after served still is made ahead batch one small =
    let round = round_of w now journal.messages server served count is.answered made in
    let next : suc count ≡ count + 1 = omega arith in
    record {
      view = one_view_more old w now journal.messages server.limit server.burst count is.view round.view
          ∙ ap (rounds_view old journal.messages server.limit server.burst) next;
      left = omega (arith, is.left, round.rest);
      few = omega (arith, is.few, round.fewer);
      ahead = ahead_more old now w is.ahead ahead;
      batch = batch_more twice old now journal.messages before at after w.next is.ahead ahead.next is.batch batch;
      answered = counted_more server served still count is.answered small one ∙ ap (counted_by server) next;
    }

nothing : (o : Option Message) → ((m : Message) → o ≡ Some m → ⊥) → o ≡ None
nothing None never = refl
nothing (Some m) never = absurd (never m refl)

-- A view that wants nothing stores nothing.
pub stands_whole : (old : View) (before : Handed) (journal : JournalState) (server : ServerState) (count : ℕ)
    (now : View) (at : Handed) (served : ServerState) → StandsAfter old before journal server count now at served →
    IsWellFormed now → now.next ≡ now.known → now ≡ caught_up old
stands_whole old before journal server count now at served is well done =
    let empty : now.store ≡ finite.empty =
    finite.same_map nat_cmp_total finite.nat_cmp-IsAntisymmetric now.store finite.empty
    (λ q. nothing (finite.get now.store q)
    (λ m stored. omega (arith, done, (well.stored q m stored).0, (well.stored q m stored).2))
    ∙ sym (finite.get-empty nat_cmp q))
    in
    let next = done ∙ is.ahead.known in
    λ i. record {
      session = is.ahead.session i;
      next = next i;
      known = is.ahead.known i;
      ended = is.ahead.ended i;
      store = empty i;
      window = is.ahead.window i;
      room = is.ahead.room i;
    }

-- The rounds that were done are those that were needed.
pub stands_count : (old : View) (before : Handed) (journal : JournalState) (server : ServerState) (count : ℕ)
    (now : View) (at : Handed) (served : ServerState) → StandsAfter old before journal server count now at served →
    ranges (lacks now.store) now.next 0 ≡ [] → now.next ≡ now.known →
    count ≡ rounds old journal.messages server.limit server.burst
stands_count old before journal server count now at served is none done =
    omega (arith, is.left, rounds_none now journal.messages server.limit server.burst done none)

-- A round stopped early.
pub stands_stopped : (old : View) (before : Handed) (journal : JournalState) (server : ServerState) (count : ℕ)
    (now w : View) (at : Handed) (served still : ServerState) →
    StandsAfter old before journal server count now at served →
    0 < rounds now journal.messages served.limit served.burst →
    IsPartOfRound now journal.messages served.limit served.burst w → still ≡ counted served → IsServer served →
    IsStopped old journal server w still
stands_stopped old before journal server count now w at served still is needed part one small =
    let more : 0 < rounds now journal.messages server.limit server.burst =
    subst (λ (s : ServerState). 0 < rounds now journal.messages s.limit s.burst) is.answered needed
    in
    let here : IsPartOfRound now journal.messages server.limit server.burst w =
    subst (λ (s : ServerState). IsPartOfRound now journal.messages s.limit s.burst w) is.answered part
    in
    record {
      done = count;
      some_left = omega (arith, is.left, more);
      part = subst (λ (x : View). IsPartOfRound x journal.messages server.limit server.burst w) is.view here;
      answered = counted_more server served still count is.answered small one;
    }
