-- A receiver of the world stays valid. This holds while the session goes on, when the receiver accepts or refuses a
-- datagram, and when it restarts.
use Rattle.std.proofs.Common.{◌≡◌, ℕ, zero, suc, ◌+◌, ◌-◌, ◌<◌, ◌≤◌, List, [], ◌∷◌, ◌++◌, length}
use Rattle.std.proofs.Common.{take, drop, refl, sym, ap, subst, ◌∙◌, inl, inr, arith}
use Rattle.std.specs.Prelude.{◌⊎◌, Option, Some, Bool, true, false, Result, Ok, Err, slice_get}
use Rattle.std.specs.FinMap as finite
use Rattle.std.specs.Ordering.{nat_cmp}
use Rattle.std.proofs.Math.Seq.{take-add}
use Rattle.std.proofs.lemmas.Option.{none-some, same_Some, slice_get_past}
use Rattle.std.proofs.lemmas.List.{append-nil, length-take, take_at, take-append-le}
use Rattle.mold_wire.specs.Packet.{Spells}
use Rattle.mold_wire.specs.Reading.{reading}
use Rattle.mold_wire.specs.Truth.{Carries, IsTruePacket, published_at}
use Rattle.mold_wire.specs.declared.packet.Packet.{Packet}
use Rattle.mold_wire.specs.declared.packet.Body.{Body}
use Rattle.mold_wire.specs.declared.packet.Body.TheVariants.{Data, Heartbeat, End}
use Rattle.mold_wire.specs.declared.session.Session.{Session}
use Rattle.mold_receiver.specs.Arbiter.{Arbitration, arbitrated}
use Rattle.mold_receiver.specs.Batch.{Follows, Handed, followed_by, handed_from}
use Rattle.mold_receiver.specs.Honest.{IsHonest, IsTakenHonestly}
use Rattle.mold_receiver.specs.Receive.{IsTakenPacket, Reception, ended_after, receive, view_after}
use Rattle.mold_receiver.specs.View.{View, fresh}
use Rattle.mold_rule.specs.declared.refusal.Refusal.{Refusal}
use Rattle.mold_session.specs.Journal.{JournalState, appended}
use Rattle.mold_session.specs.Truthful.{IsTrueDatagram}
use Rattle.mold_world.proofs.MachineLemmas.{at_place, prefix_from}
use Rattle.mold_world.specs.Effect.{book_after, given, restarted_at}
use Rattle.mold_world.specs.Kept.{IsSubscriberKept}
use Rattle.mold_world.specs.Machine.{IsEndSent, IsSentAs, end_packet}
use Rattle.mold_world.specs.World.{SubscriberState}
use Rattle.mold_world.specs.Event.{line_of}
use Rattle.mold_world.specs.declared.way.Way.{Way}
use Rattle.mold_world.specs.declared.way.Way.TheVariants.{Answer, Line}

-- The laws of the receiver and of `mold_wire`.
pub record ReceiverLaws : Type 0 where
  pub take : (v : View) (packet : Packet) (bytes : List ℕ) (published : List (List ℕ)) (closed : Bool) →
      IsHonest v published closed → Spells packet bytes → packet.session ≡ v.session →
      IsTruePacket packet published closed → IsTakenHonestly v bytes published closed
  pub taken : (v : View) (bytes : List ℕ) (r : Reception) → receive v bytes ≡ Ok r → IsTakenPacket v bytes r
  pub stored : (v : View) (p : Packet) (number : ℕ) (m : List ℕ) →
      finite.get (view_after v p).store number ≡ Some m → (finite.get v.store number ≡ Some m) ⊎ Carries p number m
  pub follows : (batch : Handed) (next : ℕ) (messages : List (List ℕ)) → Follows batch next →
      Follows (followed_by batch next messages) (next + length messages)
  pub published : (v : View) (messages : List (List ℕ)) (message : List ℕ) → IsHonest v messages false →
      IsHonest v (messages ++ message ∷ []) false
  pub closed : (v : View) (messages : List (List ℕ)) → IsHonest v messages false → IsHonest v messages true
  pub fresh : (session : Session) (next window : ℕ) (messages : List (List ℕ)) (closed : Bool) → 1 ≤ next →
      next ≤ length messages + 1 → length messages < 18446744073709551615 →
      IsHonest (fresh session next window) messages closed
  pub read : (packet : Packet) (bytes : List ℕ) → Spells packet bytes → reading bytes ≡ Ok packet

pub get_longer :
    {X : Type 0} (front behind : List X) (place : ℕ) (element : X) → slice_get front place ≡ Some element →
    slice_get (front ++ behind) place ≡ Some element
get_longer [] behind place element is = absurd (none-some element is)
get_longer (first ∷ front) behind zero element is = is
get_longer (first ∷ front) behind (suc place) element is = get_longer front behind place element is

-- A datagram that was sent stays sent.
sent_longer :
    (sent more : List (List ℕ)) (number : ℕ) (message : List ℕ) → IsSentAs sent number message →
    IsSentAs (sent ++ more) number message
sent_longer sent more number message is = record {
  place = is.place;
  bytes = is.bytes;
  packet = is.packet;
  found = get_longer sent more is.place is.bytes is.found;
  spelled = is.spelled;
  carried = is.carried;
}

end_longer :
    (sent more : List (List ℕ)) (session : Session) (number : ℕ) → IsEndSent sent session number →
    IsEndSent (sent ++ more) session number
end_longer sent more session number is = record {
  place = is.place;
  bytes = is.bytes;
  found = get_longer sent more is.place is.bytes is.found;
  spelled = is.spelled;
}

pub place_sent :
    (journal : JournalState) (sent more : List (List ℕ)) (subscriber : SubscriberState) → IsSubscriberKept journal sent subscriber →
    IsSubscriberKept journal (sent ++ more) subscriber
place_sent journal sent more subscriber kept = record {
  session = kept.session;
  honest = kept.honest;
  book = kept.book;
  follows = kept.follows;
  stored = λ number message found. sent_longer sent more number message (kept.stored number message found);
  ends = λ end told. end_longer sent more journal.session end (kept.ends end told);
}

-- A receiver's next number is at most the next number to publish.
next_within :
    (journal : JournalState) (sent : List (List ℕ)) (subscriber : SubscriberState) → IsSubscriberKept journal sent subscriber →
    subscriber.arbitration.view.next - 1 ≤ length journal.messages
next_within journal sent subscriber kept =
    omega (arith, kept.honest.well_formed.ahead, kept.honest.known, kept.honest.well_formed.first)

pub place_published :
    (laws : ReceiverLaws) (journal : JournalState) (sent : List (List ℕ)) (message : List ℕ) (subscriber : SubscriberState) →
    journal.closed ≡ false → IsSubscriberKept journal sent subscriber → IsSubscriberKept (appended journal message) sent subscriber
place_published laws journal sent message subscriber unclosed kept =
    let view : View = subscriber.arbitration.view in
    record {
      session = kept.session;
      honest = subst (λ (t : Bool). IsHonest view (journal.messages ++ message ∷ []) t) (sym unclosed)
          (laws.published view journal.messages message
          (subst (λ (t : Bool). IsHonest view journal.messages t) unclosed kept.honest));
      book = kept.book
          ∙ sym (take-append-le (view.next - 1) journal.messages (message ∷ []) (next_within journal sent subscriber kept));
      follows = kept.follows;
      stored = kept.stored;
      ends = kept.ends;
    }

honest_once_closed :
    (laws : ReceiverLaws) (view : View) (messages : List (List ℕ)) (closed : Bool) → IsHonest view messages closed →
    IsHonest view messages true
honest_once_closed laws view messages true is = is
honest_once_closed laws view messages false is = laws.closed view messages is

pub place_closed :
    (laws : ReceiverLaws) (journal : JournalState) (sent : List (List ℕ)) (subscriber : SubscriberState) →
    IsSubscriberKept journal sent subscriber → IsSubscriberKept (record journal { closed = true }) sent subscriber
place_closed laws journal sent subscriber kept = record {
  session = kept.session;
  honest = honest_once_closed laws subscriber.arbitration.view journal.messages journal.closed kept.honest;
  book = kept.book;
  follows = kept.follows;
  stored = kept.stored;
  ends = kept.ends;
}

-- The receiver after a datagram, given the receiving rule's result.
abbrev given_by : SubscriberState → Way → List ℕ → Result Reception Refusal → SubscriberState
given_by subscriber way bytes outcome = record {
  arbitration = arbitrated (line_of way) bytes subscriber.arbitration outcome;
  book = book_after subscriber.book subscriber.arbitration.view.next outcome;
}

pub view_taken :
    (way : Way) (bytes : List ℕ) (old : Arbitration) (r : Reception) →
    (arbitrated (line_of way) bytes old (Ok r)).view ≡ r.view
view_taken Answer bytes old r = refl
view_taken (Line line) bytes old r = refl

pub view_refused :
    (way : Way) (bytes : List ℕ) (old : Arbitration) (refused : Refusal) →
    (arbitrated (line_of way) bytes old (Err refused)).view ≡ old.view
view_refused Answer bytes old refused = refl
view_refused (Line line) bytes old refused = refl

pub followed_messages :
    (book : Handed) (next : ℕ) (messages : List (List ℕ)) →
    (followed_by book next messages).messages ≡ book.messages ++ messages
followed_messages book next [] = sym (append-nil book.messages)
followed_messages book next (message ∷ messages) = refl

get_dropped :
    {X : Type 0} (number : ℕ) (elements : List X) (place : ℕ) →
    slice_get (drop number elements) place ≡ slice_get elements (number + place)
get_dropped zero elements place = ap (λ (t : ℕ). slice_get elements t) (omega arith)
get_dropped (suc number) [] place = sym (slice_get_past [] (suc number + place) (omega arith))
get_dropped (suc number) (element ∷ elements) place =
    let next : suc (number + place) ≡ suc number + place = omega arith in
    get_dropped number elements place ∙ ap (λ (t : ℕ). slice_get (element ∷ elements) t) next

-- Published messages from the next number on extend the book.
book_longer :
    (published handed : List (List ℕ)) (next : ℕ) → 1 ≤ next →
    ((i : ℕ) (message : List ℕ) → slice_get handed i ≡ Some message →
    published_at published (next + i) ≡ Some message) →
    take (next - 1) published ++ handed ≡ take (next + length handed - 1) published
book_longer published handed next first each =
    let front = prefix_from handed (drop (next - 1) published) (λ i message is.
    get_dropped (next - 1) published i
    ∙ sym (at_place published (next - 1 + i))
    ∙ ap (λ (t : ℕ). published_at published t) (let z : 1 + (next - 1 + i) ≡ next + i = omega (arith, first) in z)
    ∙ each i message is)
    in
    let sum : next + length handed - 1 ≡ next - 1 + length handed = omega (arith, first) in
    sym
    (ap (λ (t : ℕ). take t published) sum
    ∙ take-add (next - 1) (length handed) published
    ∙ ap (λ (t : List (List ℕ)). take (next - 1) published ++ t)
    (ap (λ (t : List (List ℕ)). take (length handed) t) front.parts
    ∙ take_at handed front.behind (length handed) refl))

-- An end that is known after a packet was known before or is the packet's.
end_told :
    (body : Body) (sequence end : ℕ) (ended : Option ℕ) → ended_after body sequence ended ≡ Some end →
    (ended ≡ Some end) ⊎ ((body ≡ End) × (sequence ≡ end))
end_told (Data messages) sequence end ended is = inl is
end_told Heartbeat sequence end ended is = inl is
end_told End sequence end ended is = inr (refl, same_Some sequence end is)

-- A true datagram was sent.
pub record IsSentTruly (journal : JournalState) (sent : List (List ℕ)) (bytes : List ℕ) : Type 0 where
  pub place : ℕ
  pub found : slice_get sent place ≡ Some bytes
  pub told : IsTrueDatagram journal bytes

pub same_Ok : {T E : Type 0} (one other : T) (r : Result T E) → r ≡ Ok one → r ≡ Ok other → one ≡ other
same_Ok one other r is too = let e = is in let f = too in cc

-- A packet of the session whose body is an end is the end packet with its number.
is_end_packet :
    (packet : Packet) (session : Session) (end : ℕ) → packet.session ≡ session → packet.body ≡ End →
    packet.sequence ≡ end → packet ≡ end_packet session end
is_end_packet packet session end named body number =
    λ i. record { session = named i; sequence = number i; body = body i }

-- The receiver accepted a packet that was sent.
taken_kept :
    (laws : ReceiverLaws) (journal : JournalState) (sent : List (List ℕ)) (subscriber : SubscriberState) (way : Way)
    (bytes : List ℕ) (r : Reception) → IsSubscriberKept journal sent subscriber → IsSentTruly journal sent bytes →
    receive subscriber.arbitration.view bytes ≡ Ok r → IsHonest r.view journal.messages journal.closed →
    ((i : ℕ) (message : List ℕ) → slice_get r.handed i ≡ Some message →
    published_at journal.messages (subscriber.arbitration.view.next + i) ≡ Some message) →
    IsSubscriberKept journal sent (given_by subscriber way bytes (Ok r))
taken_kept laws journal sent subscriber way bytes r kept truly received honest handed =
    let v : View = subscriber.arbitration.view in
    let is = laws.taken v bytes r received in
    let packet : Packet = is.packet in
    let told = truly.told in
    let same : told.packet ≡ packet = same_Ok told.packet packet (reading bytes)
    (laws.read told.packet bytes told.spelled) is.read
    in
    let spelled : Spells packet bytes = subst (λ (t : Packet). Spells t bytes) same told.spelled in
    let view : r.view ≡ view_after v packet = ap (λ (t : Reception). t.view) is.taken in
    let moved : r.view.next ≡ v.next + length r.handed =
    ap (λ (t : View). t.next) view
    ∙ ap (λ (t : List (List ℕ)). v.next + length t) (sym (ap (λ (t : Reception). t.handed) is.taken))
    in
    let now : (given_by subscriber way bytes (Ok r)).arbitration.view ≡ r.view =
    view_taken way bytes subscriber.arbitration r
    in
    record {
      session = ap (λ (t : View). t.session) now ∙ ap (λ (t : View). t.session) view ∙ kept.session;
      honest = subst (λ (t : View). IsHonest t journal.messages journal.closed) (sym now) honest;
      book = followed_messages subscriber.book v.next r.handed
          ∙ ap (λ (t : List (List ℕ)). t ++ r.handed) kept.book
          ∙ book_longer journal.messages r.handed v.next kept.honest.well_formed.first handed
          ∙ ap (λ (t : ℕ). take (t - 1) journal.messages) (sym (ap (λ (t : View). t.next) now ∙ moved));
      follows = subst (λ (t : ℕ). Follows (followed_by subscriber.book v.next r.handed) t)
          (sym (ap (λ (t : View). t.next) now ∙ moved)) (laws.follows subscriber.book v.next r.handed kept.follows);
      stored = λ number message found.
          elim (laws.stored v packet number message
          (sym (ap (λ (t : View). finite.get t.store number) (now ∙ view)) ∙ found)) [
            | inl before ↦ kept.stored number message before
            | inr carried ↦ record {
              place = truly.place;
              bytes = bytes;
              packet = packet;
              found = truly.found;
              spelled = spelled;
              carried = carried;
            }
          ];
      ends = λ end known.
          elim (end_told packet.body packet.sequence end v.ended
          (sym (ap (λ (t : View). t.ended) (now ∙ view)) ∙ known)) [
            | inl before ↦ kept.ends end before
            | inr here ↦ record {
              place = truly.place;
              bytes = bytes;
              found = truly.found;
              spelled = subst (λ (t : Packet). Spells t bytes)
                  (is_end_packet packet journal.session end (is.session ∙ kept.session) here.0 here.1) spelled;
            }
          ];
    }

-- So a receiver stays valid when it receives what was sent.
pub given_kept :
    (laws : ReceiverLaws) (journal : JournalState) (sent : List (List ℕ)) (subscriber : SubscriberState) (way : Way)
    (bytes : List ℕ) → IsSubscriberKept journal sent subscriber → IsSentTruly journal sent bytes →
    IsSubscriberKept journal sent (given subscriber way bytes)
given_kept laws journal sent subscriber way bytes kept truly =
    let v : View = subscriber.arbitration.view in
    let told = truly.told in
    let took = laws.take v told.packet bytes journal.messages journal.closed kept.honest told.spelled
    (told.session ∙ sym kept.session) told.so
    in
    subst (λ (t : Result Reception Refusal). IsSubscriberKept journal sent (given_by subscriber way bytes t))
    (sym took.received)
    (taken_kept laws journal sent subscriber way bytes took.reception kept truly took.received took.honest took.handed)

-- It stays valid when it refuses bytes, since only a report changes.
refused_kept :
    (journal : JournalState) (sent : List (List ℕ)) (subscriber : SubscriberState) (way : Way) (bytes : List ℕ)
    (refused : Refusal) → IsSubscriberKept journal sent subscriber →
    IsSubscriberKept journal sent (given_by subscriber way bytes (Err refused))
refused_kept journal sent subscriber way bytes refused kept =
    let now = view_refused way bytes subscriber.arbitration refused in
    subst (λ (t : View). IsSubscriberKept journal sent (record {
      arbitration = record { view = t; reports = (arbitrated (line_of way) bytes subscriber.arbitration (Err refused)).reports };
      book = subscriber.book;
    })) (sym now)
    (record {
      session = kept.session;
      honest = kept.honest;
      book = kept.book;
      follows = kept.follows;
      stored = kept.stored;
      ends = kept.ends;
    })

pub noise_kept :
    (journal : JournalState) (sent : List (List ℕ)) (subscriber : SubscriberState) (way : Way) (bytes : List ℕ)
    (refused : Refusal) → receive subscriber.arbitration.view bytes ≡ Err refused → IsSubscriberKept journal sent subscriber →
    IsSubscriberKept journal sent (given subscriber way bytes)
noise_kept journal sent subscriber way bytes refused is kept =
    subst (λ (t : Result Reception Refusal). IsSubscriberKept journal sent (given_by subscriber way bytes t)) (sym is)
    (refused_kept journal sent subscriber way bytes refused kept)

-- Messages that are cut to their first ones.
cut_from :
    (first : ℕ) (messages : List (List ℕ)) (next kept count : ℕ) → count ≡ kept + 1 →
    Follows (record { first = first; messages = messages }) next → length messages ≡ next - 1 → 1 ≤ next →
    1 ≤ count → count ≤ next → Follows (handed_from first (take kept messages)) count
cut_from first messages next zero count is follows whole some one few = tt
cut_from first [] next (suc kept) count is follows whole some one few = tt
cut_from first (message ∷ messages) next (suc kept) count is follows whole some one few =
    omega (arith, is, follows, whole, few, length-take kept messages)

-- A book that is cut to its first messages ends just before the restart's number.
cut_follows :
    (book : Handed) (next count : ℕ) → Follows book next → length book.messages ≡ next - 1 → 1 ≤ next →
    1 ≤ count → count ≤ next → Follows (handed_from book.first (take (count - 1) book.messages)) count
cut_follows book next count follows whole first some few =
    cut_from book.first book.messages next (count - 1) count (omega (arith, some)) follows whole first some few

pub handed_messages : (first : ℕ) (messages : List (List ℕ)) → (handed_from first messages).messages ≡ messages
handed_messages first [] = refl
handed_messages first (message ∷ messages) = refl

take_twice : {X : Type 0} (few many : ℕ) (xs : List X) → few ≤ many → take few (take many xs) ≡ take few xs
take_twice zero many xs less = refl
take_twice (suc few) zero xs less = absurd (omega (arith, less))
take_twice (suc few) (suc many) [] less = refl
take_twice {X = X} (suc few) (suc many) (x ∷ xs) less =
    ap (λ (t : List X). x ∷ t) (take_twice few many xs (omega (arith, less)))

-- It stays valid when it restarts.
pub renewed_kept :
    (laws : ReceiverLaws) (journal : JournalState) (sent : List (List ℕ)) (subscriber : SubscriberState) (next : ℕ) →
    length journal.messages < 18446744073709551615 → 1 ≤ next → next ≤ subscriber.arbitration.view.next →
    IsSubscriberKept journal sent subscriber → IsSubscriberKept journal sent (restarted_at subscriber next)
renewed_kept laws journal sent subscriber next few first reached kept =
    let v : View = subscriber.arbitration.view in
    let within = next_within journal sent subscriber kept in
    let whole : length subscriber.book.messages ≡ v.next - 1 =
    omega (arith, ap (λ (t : List (List ℕ)). length t) kept.book, length-take (v.next - 1) journal.messages, within)
    in
    record {
      session = kept.session;
      honest = laws.fresh v.session next v.window journal.messages journal.closed first
          (omega (arith, reached, within, kept.honest.well_formed.first)) few;
      book = handed_messages subscriber.book.first (take (next - 1) subscriber.book.messages)
          ∙ ap (λ (t : List (List ℕ)). take (next - 1) t) kept.book
          ∙ take_twice (next - 1) (v.next - 1) journal.messages (omega (arith, reached));
      follows = cut_follows subscriber.book v.next next kept.follows whole kept.honest.well_formed.first first reached;
      stored = λ number message found. absurd (none-some message (sym (finite.get-empty nat_cmp number) ∙ found));
      ends = λ end known. absurd (none-some end known);
    }
