-- What every allowed step of the machine keeps, and so every list of allowed steps.
use Rattle.std.proofs.Common.{◌≡◌, ℕ, zero, suc, ◌+◌, ◌-◌, ◌<◌, leb, List, [], ◌∷◌, ◌++◌, length, length-append}
use Rattle.std.proofs.Common.{take, drop, refl, sym, ap, subst, ◌∙◌, inl, inr, arith}
use Rattle.std.specs.Prelude.{Some, None, Bool, true, false, ◌⊎◌, slice_get, ◌==◌}
use Rattle.std.proofs.lemmas.Bool.{cond_both, cond-true, le-leb, false≢true}
use Rattle.std.proofs.lemmas.Option.{none-some, same_Some}
use Rattle.std.proofs.lemmas.List.{append-nil, nil_from_length, take-append-drop}
use Rattle.mold_wire.specs.Packet.{Spells}
use Rattle.mold_wire.specs.Truth.{Carries, IsTruePacket, published_at}
use Rattle.mold_wire.specs.declared.packet.Packet.{Packet}
use Rattle.mold_wire.specs.declared.session.Session.{Session}
use Rattle.mold_world.specs.Headline.{ArePublished, HandOn, HasAll, IsPrefix, all_handed, handed_from, handed_in}
use Rattle.mold_world.specs.Machine.{AreAllowed, IsAllowed, IsEndSent, IsSaid, IsSentAs, Machine, ReceiverLog, Step}
use Rattle.mold_world.specs.Machine.{after, end_packet, run, with_log, start}
use Rattle.mold_world.specs.Machine.Step.{Publish, Close, Send, Deliver, Restart, Nothing}

-- The laws of packets, for any published messages.
pub record Laws : Type 0 where
  pub one_packet : (one other : Packet) (bytes : List ℕ) → Spells one bytes → Spells other bytes → one ≡ other
  pub grows : (packet : Packet) (published : List (List ℕ)) (message : List ℕ) →
      length published < 18446744073709551614 → IsTruePacket packet published false →
      IsTruePacket packet (published ++ message ∷ []) false
  pub closes : (packet : Packet) (published : List (List ℕ)) → IsTruePacket packet published false → IsTruePacket packet published true
  pub carried : (packet : Packet) (published : List (List ℕ)) (closed : Bool) (number : ℕ) (message : List ℕ) →
      IsTruePacket packet published closed → Carries packet number message → published_at published number ≡ Some message
  pub keeps : (published behind : List (List ℕ)) (number : ℕ) (message : List ℕ) →
      published_at published number ≡ Some message → published_at (published ++ behind) number ≡ Some message

-- Each message of the book is the one that was published with its number.
abbrev Within : List (List ℕ) → List (List ℕ) → Type 0
Within book published =
    (number : ℕ) (message : List ℕ) → published_at book number ≡ Some message → published_at published number ≡ Some message

pub record IsKept (machine : Machine) : Type 0 where
  pub said : (place : ℕ) (bytes : List ℕ) → slice_get machine.sent place ≡ Some bytes → IsSaid machine bytes
  pub books : (receiver : ℕ) → Within (machine.logs receiver).book machine.published
  pub whole : (receiver : ℕ) → (machine.logs receiver).ended ≡ true →
      (machine.closed ≡ true) × (length (machine.logs receiver).book ≡ length machine.published)

-- An element of two joined lists is in one of them.
pub append_cases :
    {X : Type 0} (front back : List X) (place : ℕ) (element : X) → slice_get (front ++ back) place ≡ Some element →
    (slice_get front place ≡ Some element)
    ⊎ ((behind : ℕ) × (place ≡ length front + behind) × (slice_get back behind ≡ Some element))
append_cases [] back place element is = inr (place, omega arith, is)
append_cases (first ∷ front) back zero element is = inl is
append_cases (first ∷ front) back (suc place) element is =
    elim (append_cases front back place element is) [
      | inl before ↦ inl before
      | inr after_it ↦ inr (after_it.0, omega (arith, after_it.1), after_it.2)
    ]

-- The first message has number 1.
pub at_place : (messages : List (List ℕ)) (place : ℕ) → published_at messages (1 + place) ≡ slice_get messages place
at_place messages place =
    cond-true (leb 1 (1 + place)) (slice_get messages (1 + place - 1)) None (le-leb 1 (1 + place) (omega arith))
    ∙ ap (λ (t : ℕ). slice_get messages t) (omega arith)

-- A message of two joined lists is in one of them, with its number.
published_cases :
    (front back : List (List ℕ)) (number : ℕ) (message : List ℕ) →
    published_at (front ++ back) number ≡ Some message → (published_at front number ≡ Some message)
    ⊎ ((behind : ℕ) × (number ≡ length front + 1 + behind) × (slice_get back behind ≡ Some message))
published_cases front back zero message is = absurd (none-some message is)
published_cases front back (suc place) message is =
    let next : 1 + place ≡ suc place = omega arith in
    let stands : slice_get (front ++ back) place ≡ Some message =
    sym (at_place (front ++ back) place) ∙ ap (λ (t : ℕ). published_at (front ++ back) t) next ∙ is
    in
    elim (append_cases front back place message stands) [
      | inl before ↦ inl (sym (ap (λ (t : ℕ). published_at front t) next) ∙ at_place front place ∙ before)
      | inr behind ↦ inr (behind.0, omega (arith, behind.1), behind.2)
    ]

-- One receiver is replaced, and the others are unchanged.
at_standing :
    (P : ReceiverLog → Type 0) (logs : ℕ → ReceiverLog) (receiver : ℕ) (log : ReceiverLog) (other : ℕ) →
    P log → P (logs other) → P (with_log logs receiver log other)
at_standing P logs receiver log other new old =
    cond_both (other == receiver) log (logs other) P (λ _. new) (λ _. old)

-- A publication.
kept_published :
    (laws : Laws) (machine : Machine) (message : List ℕ) → IsKept machine → IsAllowed machine (Publish message) →
    IsKept (after machine (Publish message))
kept_published laws machine message kept allowed = record {
  said = λ place bytes found.
      let said = kept.said place bytes found in
      let open_now = subst (λ (t : Bool). IsTruePacket said.packet machine.published t) allowed.0 said.is_true in
      record {
        packet = said.packet;
        spelled = said.spelled;
        named = said.named;
        is_true = subst (λ (t : Bool). IsTruePacket said.packet (machine.published ++ message ∷ []) t) (sym allowed.0)
            (laws.grows said.packet machine.published message allowed.1 open_now);
      };
  books = λ receiver number other is.
      laws.keeps machine.published (message ∷ []) number other (kept.books receiver number other is);
  whole = λ receiver ended. absurd (false≢true (sym allowed.0 ∙ (kept.whole receiver ended).0));
}

true_once_closed :
    (laws : Laws) (packet : Packet) (published : List (List ℕ)) (closed : Bool) → IsTruePacket packet published closed →
    IsTruePacket packet published true
true_once_closed laws packet published true is = is
true_once_closed laws packet published false is = laws.closes packet published is

-- The closing of the session.
kept_closed : (laws : Laws) (machine : Machine) → IsKept machine → IsKept (after machine Close)
kept_closed laws machine kept = record {
  said = λ place bytes found.
      let said = kept.said place bytes found in
      record {
        packet = said.packet;
        spelled = said.spelled;
        named = said.named;
        is_true = true_once_closed laws said.packet machine.published machine.closed said.is_true;
      };
  books = kept.books;
  whole = λ receiver ended. (refl, (kept.whole receiver ended).1);
}

pub one_alone : (bytes other : List ℕ) (place : ℕ) → slice_get (bytes ∷ []) place ≡ Some other → bytes ≡ other
one_alone bytes other zero is = same_Some bytes other is
one_alone bytes other (suc place) is = absurd (none-some other is)

-- A datagram that is sent.
kept_sent :
    (machine : Machine) (bytes : List ℕ) → IsKept machine → IsSaid machine bytes → IsKept (after machine (Send bytes))
kept_sent machine bytes kept said = record {
  said = λ place other found.
      let now : IsSaid machine other =
      elim (append_cases machine.sent (bytes ∷ []) place other found) [
        | inl before ↦ kept.said place other before
        | inr new ↦ subst (λ (t : List ℕ). IsSaid machine t) (one_alone bytes other new.0 new.2) said
      ]
      in
      record { packet = now.packet; spelled = now.spelled; named = now.named; is_true = now.is_true };
  books = kept.books;
  whole = kept.whole;
}

-- What was sent with a number was published with it.
sent_is_published :
    (laws : Laws) (machine : Machine) (number : ℕ) (message : List ℕ) → IsKept machine →
    IsSentAs machine.sent number message → published_at machine.published number ≡ Some message
sent_is_published laws machine number message kept sent =
    let said = kept.said sent.place sent.bytes sent.found in
    let same = laws.one_packet sent.packet said.packet sent.bytes sent.spelled said.spelled in
    laws.carried said.packet machine.published machine.closed number message said.is_true
    (subst (λ (t : Packet). Carries t number message) same sent.carried)

-- If an end packet was sent, the session is closed and the packet has its length.
end_is_true :
    (laws : Laws) (machine : Machine) (number : ℕ) → IsKept machine → IsEndSent machine.sent machine.session number →
    (machine.closed ≡ true) × (number ≡ length machine.published + 1)
end_is_true laws machine number kept sent =
    let said = kept.said sent.place sent.bytes sent.found in
    let same = laws.one_packet said.packet (end_packet machine.session number) sent.bytes said.spelled sent.spelled in
    let told = subst (λ (t : Packet). IsTruePacket t machine.published machine.closed) same said.is_true in
    told.said

-- A receiver is replaced by a valid one, and the others are unchanged.
kept_standing :
    (machine : Machine) (receiver : ℕ) (log : ReceiverLog) → IsKept machine →
    Within log.book machine.published →
    (log.ended ≡ true → (machine.closed ≡ true) × (length log.book ≡ length machine.published)) →
    IsKept (record machine { logs = with_log machine.logs receiver log })
kept_standing machine receiver log kept within whole = record {
  said = λ place bytes found.
      let said = kept.said place bytes found in
      record { packet = said.packet; spelled = said.spelled; named = said.named; is_true = said.is_true };
  books = λ other.
      at_standing (λ (s : ReceiverLog). Within s.book machine.published) machine.logs receiver log other
      within (kept.books other);
  whole = λ other.
      at_standing (λ (s : ReceiverLog). s.ended ≡ true →
      (machine.closed ≡ true) × (length s.book ≡ length machine.published)) machine.logs receiver log
      other whole (kept.whole other);
}

-- A delivery.
kept_delivered :
    (laws : Laws) (machine : Machine) (receiver : ℕ) (messages : List (List ℕ)) (ended : Bool) → IsKept machine →
    IsAllowed machine (Deliver receiver messages ended) → IsKept (after machine (Deliver receiver messages ended))
kept_delivered laws machine receiver messages ended kept allowed =
    let book : List (List ℕ) = (machine.logs receiver).book in
    let log : ReceiverLog = record { book = book ++ messages; ended = ended } in
    let longer : Within (book ++ messages) machine.published = λ number message is.
    elim (published_cases book messages number message is) [
      | inl before ↦ kept.books receiver number message before
      | inr new ↦ sent_is_published laws machine number message kept
          (subst (λ (t : ℕ). IsSentAs machine.sent t message) (sym new.1) (allowed.0 new.0 message new.2))
    ]
    in
    let whole : ended ≡ true → (machine.closed ≡ true) × (length (book ++ messages) ≡ length machine.published) =
    λ is.
    let told = end_is_true laws machine (length (book ++ messages) + 1) kept (allowed.1 is) in
    (told.0, omega (arith, told.1))
    in
    kept_standing machine receiver log kept longer whole

-- A restart.
kept_restarted :
    (laws : Laws) (machine : Machine) (receiver next : ℕ) → IsKept machine →
    IsKept (after machine (Restart receiver next))
kept_restarted laws machine receiver next kept =
    let book : List (List ℕ) = (machine.logs receiver).book in
    let front : List (List ℕ) = take (next - 1) book in
    let log : ReceiverLog = record { book = front; ended = false } in
    let shorter : Within front machine.published = λ number message is.
    kept.books receiver number message
    (subst (λ (t : List (List ℕ)). published_at t number ≡ Some message) (take-append-drop (next - 1) book)
    (laws.keeps front (drop (next - 1) book) number message is))
    in
    kept_standing machine receiver log kept shorter (λ is. absurd (false≢true is))

kept_after :
    (laws : Laws) (machine : Machine) (step : Step) → IsKept machine → IsAllowed machine step →
    IsKept (after machine step)
kept_after laws machine (Publish message) kept allowed = kept_published laws machine message kept allowed
kept_after laws machine Close kept allowed = kept_closed laws machine kept
kept_after laws machine (Send bytes) kept allowed = kept_sent machine bytes kept allowed
kept_after laws machine (Deliver receiver messages ended) kept allowed =
    kept_delivered laws machine receiver messages ended kept allowed
kept_after laws machine (Restart receiver next) kept allowed = kept_restarted laws machine receiver next kept
kept_after laws machine Nothing kept allowed = kept

pub kept_start : (session : Session) → IsKept (start session)
kept_start session = record {
  said = λ place bytes found. absurd (none-some bytes found);
  books = λ receiver number message is. is;
  whole = λ receiver ended. absurd (false≢true ended);
}

pub kept_run :
    (laws : Laws) (machine : Machine) (steps : List Step) → IsKept machine → AreAllowed machine steps →
    IsKept (run machine steps)
kept_run laws machine [] kept allowed = kept
kept_run laws machine (step ∷ steps) kept allowed =
    kept_run laws (after machine step) steps (kept_after laws machine step kept allowed.0) allowed.1

-- Published messages keep their numbers while the machine runs.
published_after :
    (laws : Laws) (machine : Machine) (step : Step) (number : ℕ) (message : List ℕ) →
    published_at machine.published number ≡ Some message →
    published_at (after machine step).published number ≡ Some message
published_after laws machine (Publish other) number message is =
    laws.keeps machine.published (other ∷ []) number message is
published_after laws machine Close number message is = is
published_after laws machine (Send bytes) number message is = is
published_after laws machine (Deliver receiver messages ended) number message is = is
published_after laws machine (Restart receiver next) number message is = is
published_after laws machine Nothing number message is = is

published_later :
    (laws : Laws) (machine : Machine) (steps : List Step) (number : ℕ) (message : List ℕ) →
    published_at machine.published number ≡ Some message →
    published_at (run machine steps).published number ≡ Some message
published_later laws machine [] number message is = is
published_later laws machine (step ∷ steps) number message is =
    published_later laws (after machine step) steps number message (published_after laws machine step number message is)

-- Delivered messages with consecutive numbers, each published with its number.
pub handed_published :
    (published : List (List ℕ)) (receiver number : ℕ) (messages : List (List ℕ)) →
    ((place : ℕ) (message : List ℕ) → slice_get messages place ≡ Some message →
    published_at published (number + place) ≡ Some message) →
    ArePublished published (handed_from receiver number messages)
handed_published published receiver number [] each = tt
handed_published published receiver number (message ∷ messages) each = (
  ap (λ (t : ℕ). published_at published t) (omega arith) ∙ each zero message refl,
  handed_published published receiver (number + 1) messages (λ place other is.
      ap (λ (t : ℕ). published_at published t) (omega arith) ∙ each (suc place) other is),
)

handed_in_step :
    (laws : Laws) (machine : Machine) (step : Step) → IsKept machine → IsAllowed machine step →
    ArePublished machine.published (handed_in machine step)
handed_in_step laws machine (Publish message) kept allowed = tt
handed_in_step laws machine Close kept allowed = tt
handed_in_step laws machine (Send bytes) kept allowed = tt
handed_in_step laws machine (Deliver receiver messages ended) kept allowed =
    handed_published machine.published receiver (length (machine.logs receiver).book + 1) messages
    (λ place message is.
    sent_is_published laws machine (length (machine.logs receiver).book + 1 + place) message kept
    (allowed.0 place message is))
handed_in_step laws machine (Restart receiver next) kept allowed = tt
handed_in_step laws machine Nothing kept allowed = tt

-- A message that was published with its number stays published with it.
pub each_later :
    (before later : List (List ℕ)) (handed : List HandOn) →
    ((number : ℕ) (message : List ℕ) → published_at before number ≡ Some message →
    published_at later number ≡ Some message) → ArePublished before handed → ArePublished later handed
each_later before later [] grows are = tt
each_later before later (one ∷ handed) grows are =
    (grows one.number one.message are.0, each_later before later handed grows are.1)

pub both_published :
    (published : List (List ℕ)) (front back : List HandOn) → ArePublished published front →
    ArePublished published back → ArePublished published (front ++ back)
both_published published [] back are behind = behind
both_published published (one ∷ front) back are behind = (are.0, both_published published front back are.1 behind)

pub handed_run :
    (laws : Laws) (machine : Machine) (steps : List Step) → IsKept machine → AreAllowed machine steps →
    ArePublished (run machine steps).published (all_handed machine steps)
handed_run laws machine [] kept allowed = tt
handed_run laws machine (step ∷ steps) kept allowed =
    let next : Machine = after machine step in
    both_published (run next steps).published (handed_in machine step) (all_handed next steps)
    (each_later machine.published (run next steps).published (handed_in machine step)
    (λ number message is.
    published_later laws next steps number message (published_after laws machine step number message is))
    (handed_in_step laws machine step kept allowed.0))
    (handed_run laws next steps (kept_after laws machine step kept allowed.0) allowed.1)

-- A list that agrees with another at each of its indexes is a prefix of it.
pub prefix_from :
    (front whole : List (List ℕ)) →
    ((place : ℕ) (message : List ℕ) → slice_get front place ≡ Some message → slice_get whole place ≡ Some message) →
    IsPrefix front whole
prefix_from [] whole agrees = record { behind = whole; parts = refl }
prefix_from (message ∷ front) [] agrees = absurd (none-some message (agrees zero message refl))
prefix_from (message ∷ front) (other ∷ whole) agrees =
    let rest = prefix_from front whole (λ place. agrees (suc place)) in
    record {
      behind = rest.behind;
      parts = ap (λ (t : List ℕ). t ∷ whole) (same_Some other message (agrees zero message refl))
          ∙ ap (λ (t : List (List ℕ)). message ∷ t) rest.parts;
    }

-- Each book is a prefix of the published messages.
pub book_is_prefix :
    (machine : Machine) (receiver : ℕ) → IsKept machine →
    IsPrefix (machine.logs receiver).book machine.published
book_is_prefix machine receiver kept =
    let book : List (List ℕ) = (machine.logs receiver).book in
    prefix_from book machine.published (λ place message is.
    sym (at_place machine.published place)
    ∙ kept.books receiver (1 + place) message (at_place book place ∙ is))

pub prefix_same : (front whole : List (List ℕ)) → IsPrefix front whole → length front ≡ length whole → front ≡ whole
prefix_same front whole is same =
    let none : is.behind ≡ [] =
    nil_from_length is.behind (omega (
      arith,
      same,
      ap (λ (t : List (List ℕ)). length t) is.parts,
      length-append front is.behind,
    ))
    in
    sym (is.parts ∙ ap (λ (t : List (List ℕ)). front ++ t) none ∙ append-nil front)

-- If a receiver reports the end, its book is all of them.
pub ended_has_all :
    (machine : Machine) (receiver : ℕ) → IsKept machine → (machine.logs receiver).ended ≡ true →
    HasAll machine receiver
ended_has_all machine receiver kept ended = record {
  closed = (kept.whole receiver ended).0;
  whole = prefix_same (machine.logs receiver).book machine.published (book_is_prefix machine receiver kept)
      (kept.whole receiver ended).1;
}
