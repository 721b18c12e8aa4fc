-- What a publisher over ports has sent.
use Rattle.std.proofs.Common.{◌≡◌, ℕ, zero, suc, ◌+◌, ◌-◌, ◌≤◌, Bool, true, false, ◌&&◌, is_some, nat_le, List, [], ◌∷◌, ◌++◌}
use Rattle.std.proofs.Common.{length, drop, Option, None, Some, refl, sym, ap, subst, ◌∙◌, arith, length-append}
use Rattle.std.proofs.Common.{length-drop, cond, replicate}
use Rattle.std.specs.List.{AllByRecursion}
use Rattle.std.proofs.lemmas.Bool.{eq-eqb, ne_eqb}
use Rattle.mold_wire.specs.Packing.{front, packet_length}
use Rattle.mold_wire.specs.declared.packet.Packet.{Packet}
use Rattle.mold_durable.specs.DurableJournal.{DurableState}
use Rattle.mold_durable.specs.Life.{Life, Moment, after as after_moment}
use Rattle.mold_durable.specs.Life.Moment.{Close}
use Rattle.mold_durable.specs.Storage.{IsWithin}
use Rattle.mold_durable_publisher.specs.DurablePublisher.{Publishes, after_committed, next_committed}
use Rattle.mold_durable_publisher.specs.Told.{IsLaterFile, IsLife, IsTold, IsTrueNow}
use Rattle.mold_durable_publisher.specs.declared.durable_publisher.DurablePublisher.{DurablePublisher}
use Rattle.mold_port_set.specs.PortSet.{PortSetState}
use Rattle.mold_input.specs.Entries.{InputEntries}
use Rattle.mold_session.specs.Publisher.{Lends, PublisherState, after_datagram, next_end, next_front, next_heartbeat}
use Rattle.mold_feeder.specs.FeedLines.{LinesState, SendsOn, datagram_of, lines_at, repeated}
use Rattle.mold_feeder.specs.Feeder.{AreTold, HasEnded, HasSent, HasTurned, TakesSome, ended, ended_life, sends_at}
use Rattle.mold_feeder.specs.Feeder.{sent_of}
use Rattle.mold_feeder.specs.Gathering.{with_committed}
use Rattle.mold_feeder.specs.declared.gathered.Gathered.{Gathered}
use Rattle.mold_feeder.specs.declared.feed_end.FeedEnd.{FeedEnd}
use Rattle.mold_feeder.specs.declared.feed_lines.FeedLines.{FeedLines}
use Rattle.mold_feeder.specs.declared.feeder.Feeder.{Feeder}
use Rattle.mold_feeder.specs.declared.send_counts.LineCounts.{LineCounts}
use Rattle.mold_feeder.proofs.LineLemmas.{sends_more}

-- ---- the messages of the next data packet

front_cases : (fits : Bool) (message : List ℕ) (rest : List (List ℕ)) (count : ℕ) → length rest ≤ count →
    length (cond fits (message ∷ rest) []) ≤ count + 1
front_cases true message rest count few = omega (arith, few)
front_cases false message rest count few = omega arith

front_few : (limit : ℕ) (messages : List (List ℕ)) (most : ℕ) → length (front limit messages most) ≤ length messages
unfolding front
front_few limit messages zero = omega arith
front_few limit [] (suc most) = omega arith
front_few limit (message ∷ messages) (suc most) =
    omega (
      arith,
      front_cases (nat_le (packet_length (message ∷ [])) limit) message
          (front (limit - (2 + length message)) messages most) (length messages)
          (front_few (limit - (2 + length message)) messages most),
    )

durable_cases : {S : Type 0} (publisher : DurablePublisher S) (count : ℕ) → length publisher.durable.waiting ≡ count →
    (after_committed publisher).durable ≡ publisher.durable
durable_cases publisher zero none = rw (eq-eqb (length publisher.durable.waiting) 0 none) refl
durable_cases publisher (suc count) some =
    rw (ne_eqb (length publisher.durable.waiting) 0 (λ none. absurd (omega (arith, none, some)))) refl

-- The durable journal is the same after the next data packet.
pub after_durable : {S : Type 0} (publisher : DurablePublisher S) → (after_committed publisher).durable ≡ publisher.durable
after_durable publisher = durable_cases publisher (length publisher.durable.waiting) refl

journal_cases : {S : Type 0} (publisher : DurablePublisher S) (count : ℕ) → length publisher.durable.waiting ≡ count →
    (after_committed publisher).publisher.journal ≡ publisher.publisher.journal
journal_cases publisher zero none = rw (eq-eqb (length publisher.durable.waiting) 0 none) refl
journal_cases publisher (suc count) some =
    rw (ne_eqb (length publisher.durable.waiting) 0 (λ none. absurd (omega (arith, none, some)))) refl

-- The journal is the same after the next data packet.
pub after_journal : {S : Type 0} (publisher : DurablePublisher S) →
    (after_committed publisher).publisher.journal ≡ publisher.publisher.journal
after_journal publisher = journal_cases publisher (length publisher.durable.waiting) refl

onward_cases : {S : Type 0} (publisher : DurablePublisher S) (count : ℕ) → length publisher.durable.waiting ≡ count →
    publisher.publisher.sent ≤ (after_committed publisher).publisher.sent
onward_cases publisher zero none =
    rw (eq-eqb (length publisher.durable.waiting) 0 none) (omega arith)
onward_cases publisher (suc count) some =
    rw (ne_eqb (length publisher.durable.waiting) 0 (λ none. absurd (omega (arith, none, some)))) (omega arith)

-- The next data packet adds to the messages that were sent.
pub after_onward : {S : Type 0} (publisher : DurablePublisher S) →
    publisher.publisher.sent ≤ (after_committed publisher).publisher.sent
after_onward publisher = onward_cases publisher (length publisher.durable.waiting) refl

module _ {S : Type 0} (shows may_leave : S → List ℕ → Type 0) (publisher : DurablePublisher S) (life : Life)
    (is : Publishes shows may_leave publisher life) where
  -- If no message waits, the messages of the next data packet are committed.
  sent_committed : length publisher.durable.waiting ≡ 0 →
      publisher.publisher.sent + length (next_front publisher.publisher) ≤ length life.committed
  sent_committed none =
      let messages = publisher.publisher.journal.messages in
      let all : length messages ≡ length life.committed = omega (
        arith,
        ap (λ (ms : List (List ℕ)). length ms) is.held,
        length-append life.committed life.waiting,
        ap (λ (ms : List (List ℕ)). length ms) is.waits,
        none,
      ) in
      omega (
        arith,
        all,
        is.sent,
        length-drop publisher.publisher.sent messages,
        front_few publisher.publisher.limit (drop publisher.publisher.sent messages) (length messages),
      )

  sent_all : length publisher.durable.waiting ≡ 0 →
      Publishes shows may_leave (record publisher { publisher = after_datagram publisher.publisher }) life
  sent_all none = record {
    possible = is.possible;
    named = is.named;
    held = is.held;
    sent = sent_committed none;
    closed = is.closed;
    longest = is.longest;
    durable_named = is.durable_named;
    counted = is.counted;
    waits = is.waits;
    durable_closed = is.durable_closed;
    left = is.left;
    lives = is.lives;
    indexed = is.indexed;
    part = is.part;
  }

  after_cases : (count : ℕ) → length publisher.durable.waiting ≡ count →
      Publishes shows may_leave (after_committed publisher) life
  after_cases zero none = rw (eq-eqb (length publisher.durable.waiting) 0 none) (sent_all none)
  after_cases (suc count) some =
      rw (ne_eqb (length publisher.durable.waiting) 0 (λ none. absurd (omega (arith, none, some)))) is

  -- The session has the same life after the next data packet.
  pub after_publishes : Publishes shows may_leave (after_committed publisher) life
  after_publishes = after_cases (length publisher.durable.waiting) refl

-- The same was sent on the lines.
pub lines_same : {S L P : Type 0} (state : L → PortSetState P) (one other : Feeder S L) → one.ports ≡ other.ports →
    one.counts ≡ other.counts → sent_of state one ≡ sent_of state other
lines_same {L = L} state one other ports counts =
    ap (λ (c : LineCounts). lines_at (state one.ports).sent c) counts
    ∙ ap (λ (p : L). lines_at (state p).sent other.counts) ports

module _ {S L P : Type 0} (shows may_leave : S → List ℕ → Type 0) (modeled : Bool) (state : L → PortSetState P)
    (lines : FeedLines P) where
  -- What is sent at a time, if it is the next data packet.
  pub sends_data : (time : ℕ) (feeder new : Feeder S L) →
      (is_some (next_committed feeder.publisher) && nat_le feeder.pace.opens time) ≡ true →
      HasSent shows may_leave modeled state lines (datagram_of (next_committed feeder.publisher)) feeder new →
      HasSent shows may_leave modeled state lines (sends_at time feeder) feeder new
  sends_data time feeder new may sent = rw may sent

  next_cases : (packet : Option Packet) (bytes : List ℕ) (old new : Feeder S L) → Lends packet (Some bytes) →
      (modeled ≡ true → SendsOn lines (bytes ∷ []) (sent_of state old) (sent_of state new)) →
      (modeled ≡ true → (state new.ports).given ≡ (state old.ports).given) →
      (state new.ports).now ≡ (state old.ports).now → new.publisher ≡ after_committed old.publisher →
      ((life : Life) → Publishes shows may_leave old.publisher life → IsTrueNow life bytes) →
      ((life : Life) → Publishes shows may_leave old.publisher life →
      IsWithin (IsTold bytes) (may_leave old.publisher.durable.storage)) →
      HasSent shows may_leave modeled state lines (datagram_of packet) old new
  next_cases None bytes old new lends sends given clock same truth told = absurd lends
  next_cases (Some packet) bytes old new lends sends given clock same truth told =
      let durable : new.publisher.durable ≡ old.publisher.durable =
      ap (λ (p : DurablePublisher S). p.durable) same ∙ after_durable old.publisher in
      subst (λ (b : List ℕ). HasSent shows may_leave modeled state lines (b ∷ []) old new) lends.spelled (record {
        sends = sends;
        given = given;
        clock = clock;
        storage = durable;
        journal = ap (λ (p : DurablePublisher S). p.publisher.journal) same ∙ after_journal old.publisher;
        onward = subst (λ (p : DurablePublisher S). old.publisher.publisher.sent ≤ p.publisher.sent) (sym same)
            (after_onward old.publisher);
        told = λ life is. record {
          now = (truth life is, tt);
          left = (
            subst (λ (d : DurableState S). IsWithin (IsTold bytes) (may_leave d.storage)) (sym durable) (told life is),
            tt,
          );
        };
        publishes = λ life is.
            subst (λ (p : DurablePublisher S). Publishes shows may_leave p life) (sym same)
            (after_publishes shows may_leave old.publisher life is);
      })

  -- The next data packet was sent.
  pub sent_next : (bytes : List ℕ) (old new : Feeder S L) → Lends (next_committed old.publisher) (Some bytes) →
      (modeled ≡ true → SendsOn lines (bytes ∷ []) (sent_of state old) (sent_of state new)) →
      (modeled ≡ true → (state new.ports).given ≡ (state old.ports).given) →
      (state new.ports).now ≡ (state old.ports).now → new.publisher ≡ after_committed old.publisher →
      ((life : Life) → Publishes shows may_leave old.publisher life → IsTrueNow life bytes) →
      ((life : Life) → Publishes shows may_leave old.publisher life →
      IsWithin (IsTold bytes) (may_leave old.publisher.durable.storage)) →
      HasSent shows may_leave modeled state lines (datagram_of (next_committed old.publisher)) old new
  sent_next bytes old new = next_cases (next_committed old.publisher) bytes old new

  turn_at : (life now : Life) (old mid new : Feeder S L) (known left : Option InputEntries) (taken : Option Gathered) →
      TakesSome shows may_leave life old mid known left taken → mid.ports ≡ old.ports → mid.counts ≡ old.counts →
      HasSent shows may_leave modeled state lines (sends_at (state mid.ports).now mid) mid new →
      Publishes shows may_leave mid.publisher now → now.waiting ≡ [] →
      HasTurned shows may_leave modeled state lines life old new known left taken
  turn_at life now old mid new known left taken takes ports counts sent is none = record {
    mid = mid;
    group = takes;
    ports = ports;
    counts = counts;
    sent = sent;
    now = now;
    publishes = sent.publishes now is;
    none = none;
    sends = λ modeled.
        subst (λ (p : L). SendsOn lines (sends_at (state p).now mid) (sent_of state old) (sent_of state new)) ports
        (subst (λ (l : LinesState P). SendsOn lines (sends_at (state mid.ports).now mid) l (sent_of state new))
        (lines_same state mid old ports counts) (sent.sends modeled));
    told = subst (λ (p : L). AreTold may_leave new.publisher now (sends_at (state p).now mid)) ports (sent.told now is);
  }

  -- A turn took a group or nothing, and then sent what was due.
  pub turn_done : (life : Life) (old mid new : Feeder S L) (known left : Option InputEntries) (taken : Option Gathered) →
      Publishes shows may_leave old.publisher life → life.waiting ≡ [] →
      TakesSome shows may_leave life old mid known left taken → mid.ports ≡ old.ports → mid.counts ≡ old.counts →
      HasSent shows may_leave modeled state lines (sends_at (state mid.ports).now mid) mid new →
      HasTurned shows may_leave modeled state lines life old new known left taken
  turn_done life old mid new known left None is none takes ports counts sent =
      let still : Publishes shows may_leave mid.publisher life =
      subst (λ (f : Feeder S L). Publishes shows may_leave f.publisher life) (sym takes.0) is in
      turn_at life life old mid new known left None takes ports counts sent still none
  turn_done life old mid new known left (Some gathered) is none takes ports counts sent =
      turn_at life (with_committed life takes.messages) old mid new known left (Some gathered) takes ports counts sent
      takes.publishes refl

-- ---- datagrams that are sent several times

all_copies : (P : List ℕ → Type 0) (times : ℕ) (datagram : List ℕ) → P datagram →
    AllByRecursion P (replicate times datagram)
all_copies P zero datagram is = tt
all_copies P (suc times) datagram is = (is, all_copies P times datagram is)

all_both : (P : List ℕ → Type 0) (xs ys : List (List ℕ)) → AllByRecursion P xs → AllByRecursion P ys →
    AllByRecursion P (xs ++ ys)
all_both P [] ys first second = second
all_both P (x ∷ xs) ys first second = (first.0, all_both P xs ys first.1 second)

all_also : (P Q : List ℕ → Type 0) (xs : List (List ℕ)) → ((x : List ℕ) → P x → Q x) → AllByRecursion P xs →
    AllByRecursion Q xs
all_also P Q [] follows all = tt
all_also P Q (x ∷ xs) follows all = (follows x all.0, all_also P Q xs follows all.1)

module _ {S L P : Type 0} (shows may_leave : S → List ℕ → Type 0) (modeled : Bool) (state : L → PortSetState P)
    (lines : FeedLines P) where
  -- Nothing was sent.
  pub sent_nothing : (feeder : Feeder S L) → HasSent shows may_leave modeled state lines [] feeder feeder
  sent_nothing feeder = record {
    sends = λ _. refl;
    given = λ _. refl;
    clock = refl;
    storage = refl;
    journal = refl;
    onward = omega arith;
    told = λ life is. record { now = tt; left = tt };
    publishes = λ life is. is;
  }

  -- A datagram was sent several times, and the publisher is the same.
  pub sent_often : (packet : Option Packet) (times : ℕ) (bytes : List ℕ) (old new : Feeder S L) →
      Lends packet (Some bytes) →
      (modeled ≡ true → SendsOn lines (replicate times bytes) (sent_of state old) (sent_of state new)) →
      (modeled ≡ true → (state new.ports).given ≡ (state old.ports).given) →
      (state new.ports).now ≡ (state old.ports).now → new.publisher ≡ old.publisher →
      ((life : Life) → Publishes shows may_leave old.publisher life → IsTrueNow life bytes) →
      ((life : Life) → Publishes shows may_leave old.publisher life →
      IsWithin (IsTold bytes) (may_leave old.publisher.durable.storage)) →
      HasSent shows may_leave modeled state lines (repeated times packet) old new
  sent_often None times bytes old new lends sends given clock same truth told = absurd lends
  sent_often (Some packet) times bytes old new lends sends given clock same truth told =
      subst (λ (b : List ℕ). HasSent shows may_leave modeled state lines (replicate times b) old new) lends.spelled (record {
        sends = sends;
        given = given;
        clock = clock;
        storage = ap (λ (p : DurablePublisher S). p.durable) same;
        journal = ap (λ (p : DurablePublisher S). p.publisher.journal) same;
        onward = subst (λ (p : DurablePublisher S). old.publisher.publisher.sent ≤ p.publisher.sent) (sym same)
            (omega arith);
        told = λ life is.
            subst (λ (p : DurablePublisher S). AreTold may_leave p life (replicate times bytes)) (sym same) (record {
              now = all_copies (IsTrueNow life) times bytes (truth life is);
              left = all_copies (λ datagram. IsWithin (IsTold datagram) (may_leave old.publisher.durable.storage)) times bytes
                  (told life is);
            });
        publishes = λ life is. subst (λ (p : DurablePublisher S). Publishes shows may_leave p life) (sym same) is;
      })

-- ---- the end

-- What a datagram states is true at the end, if it was true before.
true_ended : (stays : Bool) (life : Life) (datagram : List ℕ) → IsTrueNow (after_moment life Close) datagram →
    IsTrueNow life datagram → IsTrueNow (cond stays life (after_moment life Close)) datagram
true_ended true life datagram closed so = so
true_ended false life datagram closed so = closed

module _ {S L P : Type 0} (shows may_leave : S → List ℕ → Type 0) (modeled : Bool) (state : L → PortSetState P)
    (lines : FeedLines P)
    (moment : (life : Life) (moment : Moment) (datagram : List ℕ) → IsLife life → IsTrueNow life datagram →
    IsTrueNow (after_moment life moment) datagram)
    (later : (life : Life) (datagram bytes : List ℕ) → IsTrueNow life datagram → IsLaterFile life bytes →
    IsTold datagram bytes) where
  -- Datagrams that are true now are true of every file that a crash leaves.
  are_told : (publisher : DurablePublisher S) (life : Life) (datagrams : List (List ℕ)) →
      Publishes shows may_leave publisher life → AllByRecursion (IsTrueNow life) datagrams →
      AreTold may_leave publisher life datagrams
  are_told publisher life datagrams is all = record {
    now = all;
    left = all_also (IsTrueNow life) (λ datagram. IsWithin (IsTold datagram) (may_leave publisher.durable.storage))
        datagrams (λ datagram so bytes left. later life datagram bytes so (is.left bytes left)) all;
  }

  -- Heartbeats were sent, the session was closed or stays open, and end packets were sent.
  pub has_ended : (end : FeedEnd) (life : Life) (old beaten shut new : Feeder S L) →
      Publishes shows may_leave old.publisher life →
      HasSent shows may_leave modeled state lines (repeated end.beats (next_heartbeat old.publisher.publisher)) old beaten →
      Publishes shows may_leave shut.publisher (ended_life end life) → shut.ports ≡ beaten.ports →
      shut.counts ≡ beaten.counts →
      shut.publisher.publisher ≡ ended end old.publisher.publisher →
      HasSent shows may_leave modeled state lines (repeated end.ends (next_end shut.publisher.publisher)) shut new →
      new.publisher ≡ shut.publisher → HasEnded shows may_leave modeled state lines end life old new
  has_ended end life old beaten shut new is beats now ports counts same ends kept =
      let first = repeated end.beats (next_heartbeat old.publisher.publisher) in
      let second = repeated end.ends (next_end (ended end old.publisher.publisher)) in
      let last : HasSent shows may_leave modeled state lines second shut new =
      subst (λ (p : PublisherState). HasSent shows may_leave modeled state lines (repeated end.ends (next_end p)) shut new)
      same ends in
      let publishes : Publishes shows may_leave new.publisher (ended_life end life) =
      last.publishes (ended_life end life) now in
      record {
        publisher = ap (λ (p : DurablePublisher S). p.publisher) kept ∙ same;
        publishes = publishes;
        sends = λ modeled.
            sends_more lines first second (sent_of state old) (sent_of state beaten) (sent_of state new)
            (beats.sends modeled)
            (subst (λ (l : LinesState P). SendsOn lines second l (sent_of state new))
            (lines_same state shut beaten ports counts) (last.sends modeled));
        told = are_told new.publisher (ended_life end life) (first ++ second) publishes
            (all_both (IsTrueNow (ended_life end life)) first second
            (all_also (IsTrueNow life) (IsTrueNow (ended_life end life)) first
            (λ datagram so. true_ended end.stays_open life datagram (moment life Close datagram is.possible so) so)
            (beats.told life is).now)
            (last.told (ended_life end life) now).now);
      }
