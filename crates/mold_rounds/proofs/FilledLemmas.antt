-- Delivery in parts, from view to view.
use Rattle.std.proofs.Common.{◌≡◌, ℕ, zero, suc, ◌+◌, ◌-◌, ◌≤◌, List, [], ◌∷◌, ◌++◌, length, refl, sym, ap, subst}
use Rattle.std.proofs.Common.{◌∙◌, arith}
use Rattle.std.specs.Prelude.{Option, unwrap_or, is_some}
use Rattle.std.specs.Option.{option_or}
use Rattle.mold_receiver.specs.Batch.{Follows, Handed, followed_by}
use Rattle.mold_receiver.specs.Gap.{Took, messages_from}
use Rattle.mold_receiver.specs.Store.{Message}
use Rattle.mold_receiver.specs.View.{View}
use Rattle.mold_rounds.specs.CatchUp.{filled, message_of}
use Rattle.mold_rounds.specs.Taking.{IsAhead}
use Rattle.mold_wire.specs.Truth.{published_at}

from_length : (message : ℕ → Message) (number count : ℕ) → length (messages_from message number count) ≡ count
unfolding messages_from
from_length message number zero = refl
from_length message number (suc count) = ap suc (from_length message (suc number) count)

from_parts : (message : ℕ → Message) (number count more : ℕ) →
    messages_from message number count ++ messages_from message (number + count) more
    ≡ messages_from message number (count + more)
unfolding messages_from
from_parts message number zero more =
    let at : number + 0 ≡ number = omega arith in
    let all : more ≡ 0 + more = omega arith in
    ap (λ (n : ℕ). messages_from message n more) at ∙ ap (messages_from message number) all
from_parts message number (suc count) more =
    let at : number + suc count ≡ suc number + count = omega arith in
    let all : suc (count + more) ≡ suc count + more = omega arith in
    ap (λ (n : ℕ). message number ∷ (messages_from message (suc number) count ++ messages_from message n more)) at
    ∙ ap (λ (t : List Message). message number ∷ t) (from_parts message (suc number) count more)
    ∙ ap (messages_from message number) all

from_same : (message other : ℕ → Message) (number count : ℕ) →
    ((at : ℕ) → number ≤ at → message at ≡ other at) →
    messages_from message number count ≡ messages_from other number count
unfolding messages_from
from_same message other number zero same = refl
from_same message other number (suc count) same =
    let rest = from_same message other (suc number) count (λ at from. same at (omega (arith, from))) in
    λ i. same number (omega arith) i ∷ rest i

-- The messages delivered up to a view, followed by those delivered from it on.
filled_parts : (v w : View) (published : List Message) (to : ℕ) → IsAhead v w → w.next ≤ to →
    filled v published w.next ++ filled w published to ≡ filled v published to
filled_parts v w published to ahead on =
    let same = from_same (message_of w published) (message_of v published) w.next (to - w.next)
    (λ at from. ap (λ (o : Option Message). unwrap_or (option_or o (published_at published at)) [])
    (ahead.same at from))
    in
    let at : w.next ≡ v.next + (w.next - v.next) = omega (arith, ahead.next) in
    let all : w.next - v.next + (to - w.next) ≡ to - v.next = omega (arith, ahead.next, on) in
    ap (λ (t : List Message). filled v published w.next ++ t)
    (same ∙ ap (λ (n : ℕ). messages_from (message_of v published) n (to - w.next)) at)
    ∙ from_parts (message_of v published) v.next (w.next - v.next) (to - w.next)
    ∙ ap (messages_from (message_of v published) v.next) all

-- The law of batches.
abbrev pub FollowedTwice : Type 0
FollowedTwice = (batch : Handed) (next : ℕ) (messages : List Message) (after : ℕ) (others : List Message) →
    next + length messages ≡ after →
    followed_by (followed_by batch next messages) after others ≡ followed_by batch next (messages ++ others)

-- The batch grows from view to view.
pub batch_more : FollowedTwice → (v w : View) (published : List Message) (before at after : Handed) (to : ℕ) →
    IsAhead v w → w.next ≤ to → at ≡ followed_by before v.next (filled v published w.next) →
    after ≡ followed_by at w.next (filled w published to) →
    after ≡ followed_by before v.next (filled v published to)
batch_more twice v w published before at after to ahead on first then_more =
    then_more
    ∙ ap (λ (b : Handed). followed_by b w.next (filled w published to)) first
    ∙ twice before v.next (filled v published w.next) w.next (filled w published to)
    (omega (arith, ahead.next, from_length (message_of v published) v.next (w.next - v.next)))
    ∙ ap (followed_by before v.next) (filled_parts v w published to ahead on)

-- If `next` is unchanged, nothing is delivered.
pub batch_none : (v : View) (published : List Message) (before : Handed) →
    before ≡ followed_by before v.next (filled v published v.next)
unfolding messages_from
batch_none v published before =
    let none : 0 ≡ v.next - v.next = omega arith in
    ap (λ (n : ℕ). followed_by before v.next (messages_from (message_of v published) v.next n)) none

-- The batch stays ready for the next number.
pub batch_follows : ((batch : Handed) (next : ℕ) (messages : List Message) →
    Follows batch next → Follows (followed_by batch next messages) (next + length messages)) →
    (v w : View) (published : List Message) (before after : Handed) → IsAhead v w → Follows before v.next →
    after ≡ followed_by before v.next (filled v published w.next) → Follows after w.next
batch_follows follows v w published before after ahead first is =
    let at : v.next + length (filled v published w.next) ≡ w.next =
    omega (arith, ahead.next, from_length (message_of v published) v.next (w.next - v.next))
    in
    subst (λ (b : Handed). Follows b w.next) (sym is)
    (subst (λ (n : ℕ). Follows (followed_by before v.next (filled v published w.next)) n) at
    (follows before v.next (filled v published w.next) first))

pub ahead_none : (v : View) → IsAhead v v
ahead_none v = record {
  next = omega arith;
  session = refl;
  known = refl;
  ended = refl;
  window = refl;
  room = refl;
  same = λ number from. refl;
}

pub ahead_more : (u v w : View) → IsAhead u v → IsAhead v w → IsAhead u w
ahead_more u v w one other = record {
  next = omega (arith, one.next, other.next);
  session = other.session ∙ one.session;
  known = other.known ∙ one.known;
  ended = other.ended ∙ one.ended;
  window = other.window ∙ one.window;
  room = other.room ∙ one.room;
  same = λ number from. other.same number from ∙ one.same number (omega (arith, other.next, from));
}

pub ahead_of : (v : View) (count : ℕ) (w : View) → Took v count w → IsAhead v w
ahead_of v count w took = record {
  next = omega (arith, took.low);
  session = took.session;
  known = took.known;
  ended = took.ended;
  window = took.window;
  room = took.room;
  same = took.same;
}

-- Messages that were received in two parts are the same as received at once.
pub took_twice : (v : View) (one : ℕ) (w : View) (other : ℕ) (x : View) → Took v one w → Took w other x →
    w.next ≡ v.next + one → Took v (one + other) x
took_twice v one w other x first second at = record {
  low = omega (arith, at, second.low);
  high = omega (arith, second.high, first.known);
  session = second.session ∙ first.session;
  known = second.known ∙ first.known;
  ended = second.ended ∙ first.ended;
  window = second.window ∙ first.window;
  room = second.room ∙ first.room;
  had = λ number from below.
      ap is_some (sym (first.same number (omega (arith, at, from))))
      ∙ second.had number (omega (arith, at, from)) below;
  none = second.none;
  same = λ number from.
      second.same number from ∙ first.same number (omega (arith, at, second.low, from));
}
