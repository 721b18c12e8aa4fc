-- What a publisher over ports has done so far.
use Rattle.std.proofs.Common.{arith, ◌≡◌, ◌∙◌, inl, inr, ℕ, ◌≤◌, Bool, cond, not, true, false, List, [], ◌∷◌, ◌++◌, take}
use Rattle.std.proofs.Common.{Option, None, Some, Result, Ok, Err, ap, refl, sym, subst, append_assoc, append-nil}
use Rattle.std.proofs.lemmas.List.{take-append-le}
use Rattle.std.specs.Prelude.{IfErr, IfOk, OnErr, OnOk, is_ok}
use Rattle.std.specs.Io.KnownBytes.{Appends}
use Rattle.std.proofs.KnownBytes.{Appends-trans}
use Rattle.std.specs.List.{AllByRecursion}
use Rattle.mold_durable.specs.DurableJournal.{DurableState}
use Rattle.mold_durable.specs.Life.{IsFileOf, Life, Moment, after as after_moment}
use Rattle.mold_durable.specs.Life.Moment.{Close, Commit}
use Rattle.mold_durable.specs.Storage.{LeavesOnly}
use Rattle.mold_durable_publisher.specs.DurablePublisher.{IsAtRest, Publishes, ShowsBytes, WasServed}
use Rattle.mold_durable_publisher.specs.Told.{IsLife, IsTrueNow}
use Rattle.mold_durable_publisher.specs.declared.durable_publisher.DurablePublisher.{DurablePublisher}
use Rattle.mold_port_set.specs.PortSet.{PortSetState}
use Rattle.mold_ports.specs.Ports.{Datagram, Failure, Port, Quiet, Receipt, cut, next_of, received}
use Rattle.mold_session.specs.Journal.{JournalState}
use Rattle.mold_session.specs.Loading.{CountsLoad, CountsLoadFault}
use Rattle.mold_session.specs.Records.{SpellsJournal3}
use Rattle.mold_session.specs.Server.{ServerState, checked_request, judged, request_refusal, unless}
use Rattle.mold_session.specs.declared.error.AnswerError.{AnswerError}
use Rattle.mold_session.specs.declared.error.FileError.{FileError}
use Rattle.mold_session.specs.declared.error.FileError.TheVariants as file
use Rattle.mold_wire.specs.Request.{request_reading}
use Rattle.mold_wire.specs.declared.error.RequestError.{RequestError}
use Rattle.mold_wire.specs.declared.error.RequestError.TheVariants as fault
use Rattle.mold_wire.specs.declared.limits.TheConstants.{MAX_LIMIT}
use Rattle.mold_wire.specs.declared.packet.Packet.{Packet}
use Rattle.mold_wire.specs.declared.request.Request.{Request}
use Rattle.mold_feeder.specs.FeedLines.{LinesState, SendsOn}
use Rattle.mold_input.specs.Entries.{InputEntries}
use Rattle.mold_input.specs.declared.input_kind.InputKind.{InputKind}
use Rattle.mold_session.specs.Publisher.{PublisherState, closed}
use Rattle.mold_feeder.specs.Feeder.{HasEnded, HasSent, HasSentBeats, HasTurned, IsFileAtEnd, sends_at, sends_at_end}
use Rattle.mold_feeder.specs.Feeder.{sent_of}
use Rattle.mold_feeder.specs.Feeding.{FeedState, HasBroken, HasFed, HasReplied, IsFileLeft, IsGroupFile, MayFail}
use Rattle.mold_feeder.specs.Feeding.{NothingFailed, Replies, Reply, all_of, closes_at, first_messages, grown, shut}
use Rattle.mold_feeder.specs.Feeding.{lines_of, state_of}
use Rattle.mold_feeder.specs.Gathering.{Grows, IsFileUpTo, with_committed, with_waiting}
use Rattle.mold_feeder.specs.Requests.{OffersFront, RepliesTo, responses, responses_to, sent_journal}
use Rattle.mold_feeder.specs.declared.feed.Feed.{Feed}
use Rattle.mold_feeder.specs.declared.feed_end.FeedEnd.{FeedEnd}
use Rattle.mold_feeder.specs.declared.feed_lines.FeedLines.{FeedLines}
use Rattle.mold_feeder.specs.declared.feed_stop.FeedStop.{FeedStop}
use Rattle.mold_feeder.specs.declared.feed_stop.FeedStop.TheVariants.{Ended, Other, Refused}
use Rattle.mold_feeder.specs.declared.feeder.Feeder.{Feeder}
use Rattle.mold_feeder.specs.declared.gathered.Gathered.{Gathered}
use Rattle.mold_feeder.specs.declared.requests.Requests.{Requests}
use Rattle.mold_feeder.proofs.FeederLemmas.{lines_same}
use Rattle.mold_feeder.proofs.GatheringLemmas.{file_now, leaves_both, leaves_still, leaves_weaker}
use Rattle.mold_feeder.proofs.LineLemmas.{sends_more}

-- ---- groups

all_more : (first second : List (List (List ℕ))) → all_of (first ++ second) ≡ all_of first ++ all_of second
all_more [] second = refl
all_more (group ∷ groups) second =
    ap (λ (ms : List (List ℕ)). group ++ ms) (all_more groups second) ∙ sym (append_assoc group (all_of groups) (all_of second))

pub grown_none : (life : Life) → life.waiting ≡ [] → grown life [] ≡ life
grown_none life none =
    ap (λ (ms : List (List ℕ)). record life { committed = ms; waiting = [] }) (append-nil life.committed)
    ∙ ap (λ (ms : List (List ℕ)). record life { waiting = ms }) (sym none)

both_groups : (life : Life) (first second : List (List (List ℕ))) →
    (life.committed ++ all_of first) ++ all_of second ≡ life.committed ++ all_of (first ++ second)
both_groups life first second =
    append_assoc life.committed (all_of first) (all_of second)
    ∙ ap (λ (ms : List (List ℕ)). life.committed ++ ms) (sym (all_more first second))

pub grown_more : (life : Life) (first second : List (List (List ℕ))) →
    grown (grown life first) second ≡ grown life (first ++ second)
grown_more life first second =
    ap (λ (ms : List (List ℕ)). record life { committed = ms; waiting = [] }) (both_groups life first second)

-- A file of the committed messages has the first of any groups: none.
no_group : (life : Life) (groups : List (List (List ℕ))) (bytes : List ℕ) → IsFileOf life bytes →
    IsGroupFile life groups bytes
no_group life groups bytes file = record {
  front = [];
  rest = groups;
  parts = refl;
  file = subst (λ (ms : List (List ℕ)). SpellsJournal3 life.session ms life.closed bytes)
      (sym (append-nil life.committed)) file;
}

left_first : (closes : Bool) (life : Life) (first second : List (List (List ℕ))) (bytes : List ℕ) →
    IsFileLeft false life first bytes → IsFileLeft closes life (first ++ second) bytes
left_first closes life first second bytes (inl file) =
    inl (record {
      front = file.front;
      rest = file.rest ++ second;
      parts = ap (λ (gs : List (List (List ℕ))). gs ++ second) file.parts ∙ append_assoc file.front file.rest second;
      file = file.file;
    })
left_first closes life first second bytes (inr file) = let e = file.0 in absurd (cc)

left_second : (closes : Bool) (life : Life) (first second : List (List (List ℕ))) (bytes : List ℕ) →
    IsFileLeft closes (grown life first) second bytes → IsFileLeft closes life (first ++ second) bytes
left_second closes life first second bytes (inl file) =
    inl (record {
      front = first ++ file.front;
      rest = file.rest;
      parts = ap (λ (gs : List (List (List ℕ))). first ++ gs) file.parts ∙ sym (append_assoc first file.front file.rest);
      file = subst (λ (ms : List (List ℕ)). SpellsJournal3 life.session ms life.closed bytes)
          (both_groups life first file.front) file.file;
    })
left_second closes life first second bytes (inr file) =
    inr (
      file.0,
      subst (λ (ms : List (List ℕ)). SpellsJournal3 life.session ms true bytes) (both_groups life first second) file.1,
    )

none_before : (front rest : List (List (List ℕ))) → [] ≡ front ++ rest → front ≡ []
none_before [] rest is = refl
none_before (group ∷ groups) rest is = absurd (cc)

-- Every file after the session was closed or not is one with all groups.
left_after : (closes : Bool) (life : Life) (groups : List (List (List ℕ))) (bytes : List ℕ) →
    IsFileLeft false (shut closes (grown life groups)) [] bytes → IsFileLeft closes life groups bytes
left_after closes life groups bytes (inr file) = let e = file.0 in absurd (cc)
left_after false life groups bytes (inl file) =
    inl (record {
      front = groups;
      rest = [];
      parts = sym (append-nil groups);
      file = subst (λ (ms : List (List ℕ)). SpellsJournal3 life.session ms life.closed bytes)
          (ap (λ (gs : List (List (List ℕ))). (life.committed ++ all_of groups) ++ all_of gs)
          (none_before file.front file.rest file.parts) ∙ append-nil (life.committed ++ all_of groups)) file.file;
    })
left_after true life groups bytes (inl file) =
    inr (
      refl,
      subst (λ (ms : List (List ℕ)). SpellsJournal3 life.session ms true bytes)
          (ap (λ (gs : List (List (List ℕ))). (life.committed ++ all_of groups) ++ all_of gs)
          (none_before file.front file.rest file.parts) ∙ append-nil (life.committed ++ all_of groups)) file.file,
    )

-- ---- what is replied

refusal_same : (one other : JournalState) (request : Request) → one.session ≡ other.session →
    one.messages ≡ other.messages → request_refusal one request ≡ request_refusal other request
refusal_same one other request session messages = rw (session, messages) refl

judged_same : (one other : JournalState) (reading : Result Request RequestError) → one.session ≡ other.session →
    one.messages ≡ other.messages → judged one reading ≡ judged other reading
judged_same one other (Err (fault.RequestLength len)) session messages = refl
judged_same one other (Ok request) session messages =
    ap (λ (r : Option AnswerError). unless r request) (refusal_same one other request session messages)

answers_same : (one other : JournalState) (server mine : ServerState) (checked : Result Request AnswerError) →
    one.session ≡ other.session → one.messages ≡ other.messages → server.limit ≡ mine.limit → server.burst ≡ mine.burst →
    responses_to one server checked ≡ responses_to other mine checked
answers_same one other server mine (Err why) session messages limit burst = refl
answers_same one other server mine (Ok request) session messages limit burst =
    rw (session, messages, limit, burst) refl

responses_same : (one other : JournalState) (server mine : ServerState) (request : List ℕ) →
    one.session ≡ other.session → one.messages ≡ other.messages → server.limit ≡ mine.limit → server.burst ≡ mine.burst →
    responses one server request ≡ responses other mine request
responses_same one other server mine request session messages limit burst =
    ap (responses_to one server) (judged_same one other (request_reading request) session messages)
    ∙ answers_same one other server mine (checked_request other request) session messages limit burst

-- The replies depend only on the session, on these messages, and on the server's limits.
pub replies_alike : {P : Type 0} (one other : JournalState) (server mine : ServerState) (whole : Bool)
    (receipt : Receipt P) (old new : Port P) → one.session ≡ other.session → one.messages ≡ other.messages → server.limit ≡ mine.limit →
    server.burst ≡ mine.burst → RepliesTo one server whole receipt old new → RepliesTo other mine whole receipt old new
replies_alike one other server mine whole (Datagram from request) old new session messages limit burst replies =
    subst (λ (packets : List Packet). OffersFront from whole packets old new)
    (responses_same one other server mine request session messages limit burst) replies
replies_alike one other server mine whole Quiet old new session messages limit burst replies = replies
replies_alike one other server mine whole Failure old new session messages limit burst replies = replies

-- The first messages stay the same.
abbrev pub KeepsFirst : ℕ → JournalState → JournalState → Type 0
KeepsFirst sent one other = (count : ℕ) → count ≤ sent → take count one.messages ≡ take count other.messages

replies_later : {P : Type 0} (one other : JournalState) (server mine : ServerState) (sent : ℕ) (asked : List Reply)
    (old new : Port P) → one.session ≡ other.session → KeepsFirst sent one other → server.limit ≡ mine.limit →
    server.burst ≡ mine.burst → AllByRecursion (λ reply. reply.count ≤ sent) asked → Replies one server asked old new →
    Replies other mine asked old new
replies_later one other server mine sent [] old new session first limit burst few replies = replies
replies_later one other server mine sent (reply ∷ asked) old new session first limit burst few replies = (
  replies.0,
  replies_alike (first_messages reply.count one) (first_messages reply.count other) server mine reply.whole
      (cut MAX_LIMIT (next_of old)) (received old) replies.0 session (first reply.count few.0) limit burst replies.1,
  replies_later one other server mine sent asked replies.0 new session first limit burst few.1 replies.2,
)

replies_more : {P : Type 0} (journal : JournalState) (server : ServerState) (first second : List Reply)
    (old mid new : Port P) → Replies journal server first old mid → Replies journal server second mid new →
    Replies journal server (first ++ second) old new
replies_more journal server [] second old mid new one other =
    subst (λ (p : Port _). Replies journal server second p new) one other
replies_more journal server (reply ∷ asked) second old mid new one other =
    (one.0, one.1, replies_more journal server asked second one.0 mid new one.2 other)

all_less : (less more : ℕ) (asked : List Reply) → less ≤ more → AllByRecursion (λ reply. reply.count ≤ less) asked →
    AllByRecursion (λ reply. reply.count ≤ more) asked
all_less less more [] le few = tt
all_less less more (reply ∷ asked) le few = (omega (arith, le, few.0), all_less less more asked le few.1)

all_both : (P : Reply → Type 0) (xs ys : List Reply) → AllByRecursion P xs → AllByRecursion P ys → AllByRecursion P (xs ++ ys)
all_both P [] ys first second = second
all_both P (x ∷ xs) ys first second = (first.0, all_both P xs ys first.1 second)

replied_more : {S P : Type 0} (shows : S → List ℕ → Type 0) (answers : Bool) (before between after : ℕ)
    (one other : JournalState) (less more : ℕ) (server mine : ServerState) (old mid new : Port P) → one.session ≡ other.session → KeepsFirst less one other → mine.limit ≡ server.limit →
    mine.burst ≡ server.burst → less ≤ more → HasReplied shows answers before between one less server old mid →
    HasReplied shows answers between after other more mine mid new →
    HasReplied shows answers before after other more server old new
replied_more shows answers before between after one other less more server mine old mid new session first limit burst le
    earlier later = record {
      asked = earlier.asked ++ later.asked;
      few = all_both (λ reply. reply.count ≤ more) earlier.asked later.asked
          (all_less less more earlier.asked le earlier.few) later.few;
      replies = λ modeled shown.
          replies_more other server earlier.asked later.asked old mid new
          (replies_later one other server server less earlier.asked old mid session first refl refl earlier.few
          (earlier.replies modeled shown))
          (replies_later other other mine server more later.asked mid new refl (λ count le. refl) limit burst later.few
          (later.replies modeled shown));
      failures = λ few.
          let first = earlier.failures few in
          let second = later.failures first.1 in
          (omega (arith, first.0, second.0), second.1);
      whole = λ shown none.
          let first = earlier.failures (omega (arith, none.0, none.1)) in
          let second = later.failures first.1 in
          let same : between ≡ before = omega (arith, first.0, second.0, none.0) in
          all_both (λ reply. reply.whole ≡ true) earlier.asked later.asked
          (earlier.whole shown (same, omega (arith, same, none.0, none.1)))
          (later.whole shown (omega (arith, same, none.0), none.1));
    }

-- No request was received.
pub replied_none : {S P : Type 0} (shows : S → List ℕ → Type 0) (answers : Bool) (before after : ℕ)
    (journal : JournalState) (sent : ℕ) (server : ServerState) (old new : Port P) → after ≡ before → new ≡ old →
    HasReplied shows answers before after journal sent server old new
replied_none shows answers before after journal sent server old new same silent = record {
  asked = [];
  few = tt;
  replies = λ modeled shown. silent;
  failures = λ few. (omega (arith, same), omega (arith, same, few));
  whole = λ shown none. tt;
}

-- How a call that reads changes the count of failures.
fault_counted : (old new : ℕ) (error : FileError) → CountsLoadFault old new error → MayFail old new
fault_counted old new (file.Short len) counts = λ few. (omega (arith, counts), omega (arith, counts, few))
fault_counted old new file.BadMagic counts = λ few. (omega (arith, counts), omega (arith, counts, few))
fault_counted old new (file.BadFlag byte) counts = λ few. (omega (arith, counts), omega (arith, counts, few))
fault_counted old new file.Full counts = λ few. (omega (arith, counts), omega (arith, counts, few))
fault_counted old new (file.TooLong len) counts = λ few. (omega (arith, counts), omega (arith, counts, few))
fault_counted old new (file.BlockCut number) counts = λ few. (omega (arith, counts), omega (arith, counts, few))
fault_counted old new (file.CountDiffers count found) counts = λ few. (omega (arith, counts), omega (arith, counts, few))
fault_counted old new (file.Damaged number) counts = λ few. (omega (arith, counts), omega (arith, counts, few))
fault_counted old new file.Read counts = λ few. (omega (arith, counts, few), omega (arith, counts, few))
fault_counted old new file.Write counts = λ few. (omega (arith, counts), omega (arith, counts, few))
fault_counted old new file.Memory counts = λ few. (omega (arith, counts), omega (arith, counts, few))

counted : {T : Type 0} (old new : ℕ) (result : Result T FileError) → CountsLoad old new result → MayFail old new
counted old new (Ok x) counts = λ few. (omega (arith, counts), omega (arith, counts, few))
counted old new (Err error) counts = fault_counted old new error counts

-- A response is whole if no read failed.
whole_of : {T : Type 0} (old new : ℕ) (result : Result T FileError) → CountsLoad old new result →
    IfErr result (λ error. error ≡ file.Read) → NothingFailed old new → is_ok result ≡ true
whole_of old new (Ok x) counts refused none = refl
whole_of old new (Err error) counts refused none =
    let read = subst (CountsLoadFault old new) refused counts in
    absurd (omega (arith, read, none.0, none.1))

-- The error of a response that is not whole.
read_error : {S : Type 0} (shows may_leave : S → List ℕ → Type 0) (publisher : DurablePublisher S)
    (result : Result (Unit {0}) FileError) (life : Life) → ShowsBytes shows →
    IsAtRest shows may_leave publisher life →
    IfErr result (λ error. (life : Life) → ShowsBytes shows → IsAtRest shows may_leave publisher life →
    error ≡ file.Read) → IfErr result (λ error. error ≡ file.Read)
read_error shows may_leave publisher (Ok x) life shown is refused = tt
read_error shows may_leave publisher (Err error) life shown is refused = refused life shown is

-- ---- the life of a journal that is closed or not

shut_committed : (closes : Bool) (life : Life) → (shut closes life).committed ≡ life.committed
shut_committed false life = refl
shut_committed true life = refl

shut_open : (closes : Bool) (life : Life) → closes ≡ false → (shut closes life).closed ≡ life.closed
shut_open false life is = refl
shut_open true life is = absurd (cc)

shut_waiting : (closes : Bool) (life : Life) → (shut closes life).waiting ≡ life.waiting
shut_waiting false life = refl
shut_waiting true life = refl

shut_session : (closes : Bool) (life : Life) → (shut closes life).session ≡ life.session
shut_session false life = refl
shut_session true life = refl

-- A publisher at rest has exactly the committed messages.
pub messages_now : {S : Type 0} {shows may_leave : S → List ℕ → Type 0} (closes : Bool) (life : Life)
    (publisher : DurablePublisher S) → IsAtRest shows may_leave publisher (shut closes life) →
    publisher.publisher.journal.messages ≡ life.committed
messages_now closes life publisher is =
    is.publishes.held
    ∙ ap (λ (ms : List (List ℕ)). (shut closes life).committed ++ ms) is.none
    ∙ append-nil (shut closes life).committed
    ∙ shut_committed closes life

pub session_now : {S : Type 0} {shows may_leave : S → List ℕ → Type 0} (closes : Bool) (life : Life)
    (publisher : DurablePublisher S) → IsAtRest shows may_leave publisher (shut closes life) →
    publisher.publisher.journal.session ≡ life.session
session_now closes life publisher is = is.publishes.named ∙ shut_session closes life

-- ---- all that a publisher has done

true_all : (P Q : List ℕ → Type 0) (xs ys : List (List ℕ)) → ((x : List ℕ) → P x → Q x) → AllByRecursion P xs →
    AllByRecursion Q ys → AllByRecursion Q (xs ++ ys)
true_all P Q [] ys follows first second = second
true_all P Q (x ∷ xs) ys follows first second = (follows x first.0, true_all P Q xs ys follows first.1 second)

shut_grown : (closes : Bool) (life : Life) (first second : List (List (List ℕ))) →
    shut closes (grown (grown life first) second) ≡ shut closes (grown life (first ++ second))
shut_grown closes life first second = ap (shut closes) (grown_more life first second)

module _ {S P Q : Type 0} (shows may_leave : S → List ℕ → Type 0) (moment : S → ℕ)
    (left_since : S → ℕ → List ℕ → Type 0) (failed : S → ℕ) (modeled answers : Bool) (lines : FeedLines P) where
  -- The messages that were committed stay the first ones.
  keeps_first : (life : Life) (first second : List (List (List ℕ))) (closes : Bool) (mid new : FeedState S P Q) →
      IsAtRest shows may_leave mid.publisher (shut false (grown life first)) →
      IsAtRest shows may_leave new.publisher (shut closes (grown (grown life first) second)) →
      KeepsFirst mid.publisher.publisher.sent mid.publisher.publisher.journal new.publisher.publisher.journal
  keeps_first life first second closes mid new before after = λ count le.
      let committed = life.committed ++ all_of first in
      ap (take count) (messages_now false (grown life first) mid.publisher before)
      ∙ sym (take-append-le count committed (all_of second) (omega (arith, le, before.publishes.sent)))
      ∙ sym (ap (take count) (messages_now closes (grown (grown life first) second) new.publisher after))

  -- The publisher went on.
  pub fed_then : (life : Life) (first second : List (List (List ℕ))) (closes : Bool) (old mid new : FeedState S P Q) →
      HasFed shows may_leave moment left_since failed modeled answers lines life first false old mid →
      HasFed shows may_leave moment left_since failed modeled answers lines (grown life first) second closes mid new →
      HasFed shows may_leave moment left_since failed modeled answers lines life (first ++ second) closes old new
  fed_then life first second closes old mid new one other = record {
    rests = subst (IsAtRest shows may_leave new.publisher) (shut_grown closes life first second) other.rests;
    leaves = leaves_both moment left_since old.publisher.durable.storage mid.publisher.durable.storage
        new.publisher.durable.storage (IsFileLeft false life first) (IsFileLeft closes (grown life first) second)
        (IsFileLeft closes life (first ++ second)) (left_first closes life first second)
        (left_second closes life first second) one.leaves other.leaves;
    datagrams = one.datagrams ++ other.datagrams;
    sends = λ is.
        sends_more lines one.datagrams other.datagrams (lines_of old) (lines_of mid) (lines_of new) (one.sends is)
        (other.sends is);
    so = subst (λ (l : Life). AllByRecursion (IsTrueNow l) (one.datagrams ++ other.datagrams))
        (shut_grown closes life first second)
        (true_all (IsTrueNow (grown life first)) (IsTrueNow (shut closes (grown (grown life first) second))) one.datagrams
        other.datagrams other.later one.so other.so);
    later = λ datagram is.
        subst (λ (l : Life). IsTrueNow l datagram) (shut_grown closes life first second)
        (other.later datagram (one.later datagram is));
    replied = replied_more shows answers (failed old.publisher.durable.storage)
        (failed mid.publisher.durable.storage) (failed new.publisher.durable.storage) mid.publisher.publisher.journal new.publisher.publisher.journal
        mid.publisher.publisher.sent new.publisher.publisher.sent old.server mid.server old.requests mid.requests
        new.requests
        (session_now false (grown life first) mid.publisher one.rests
        ∙ sym (session_now closes (grown (grown life first) second) new.publisher other.rests)) (keeps_first life first second closes mid new one.rests other.rests)
        (ap (λ (s : ServerState). s.limit) one.limits) (ap (λ (s : ServerState). s.burst) one.limits) other.onward
        one.replied other.replied;
    limits = other.limits ∙ ap (λ (s : ServerState). record s { answered = new.server.answered }) one.limits;
    onward = omega (arith, one.onward, other.onward);
  }

  -- The publisher went on, and committed nothing more.
  pub fed_after : (life : Life) (groups : List (List (List ℕ))) (closes : Bool) (old mid new : FeedState S P Q) →
      HasFed shows may_leave moment left_since failed modeled answers lines life groups closes old mid →
      HasFed shows may_leave moment left_since failed
      modeled answers lines (shut closes (grown life groups)) [] false mid new
      →
      HasFed shows may_leave moment left_since failed modeled answers lines life groups closes old new
  fed_after life groups closes old mid new one other =
      let last = shut closes (grown life groups) in
      let same : grown last [] ≡ last = grown_none last one.rests.none in
      let rests : IsAtRest shows may_leave new.publisher last =
      subst (IsAtRest shows may_leave new.publisher) same other.rests in
      record {
        rests = rests;
        leaves = leaves_both moment left_since old.publisher.durable.storage mid.publisher.durable.storage
            new.publisher.durable.storage (IsFileLeft closes life groups) (IsFileLeft false last [])
            (IsFileLeft closes life groups) (λ bytes file. file) (left_after closes life groups) one.leaves
            other.leaves;
        datagrams = one.datagrams ++ other.datagrams;
        sends = λ is.
            sends_more lines one.datagrams other.datagrams (lines_of old) (lines_of mid) (lines_of new) (one.sends is)
            (other.sends is);
        so = true_all (IsTrueNow last) (IsTrueNow last) one.datagrams other.datagrams (λ datagram is. is) one.so
            (subst (λ (l : Life). AllByRecursion (IsTrueNow l) other.datagrams) same other.so);
        later = one.later;
        replied = replied_more shows answers (failed old.publisher.durable.storage)
            (failed mid.publisher.durable.storage) (failed new.publisher.durable.storage) mid.publisher.publisher.journal new.publisher.publisher.journal
            mid.publisher.publisher.sent new.publisher.publisher.sent old.server mid.server old.requests mid.requests
            new.requests
            (session_now closes (grown life groups) mid.publisher one.rests
            ∙ sym (session_now closes (grown life groups) new.publisher rests))
            (λ count le.
            ap (take count)
            (messages_now closes (grown life groups) mid.publisher one.rests
            ∙ sym (messages_now closes (grown life groups) new.publisher rests)))
            (ap (λ (s : ServerState). s.limit) one.limits) (ap (λ (s : ServerState). s.burst) one.limits) other.onward
            one.replied other.replied;
        limits = other.limits ∙ ap (λ (s : ServerState). record s { answered = new.server.answered }) one.limits;
        onward = omega (arith, one.onward, other.onward);
      }

  -- The publisher then served.
  pub fed_serving : (life : Life) (groups : List (List (List ℕ))) (closes : Bool) (old mid new : FeedState S P Q) →
      HasFed shows may_leave moment left_since failed modeled answers lines life groups closes old mid →
      ((life : Life) → IsAtRest shows may_leave mid.publisher life →
      HasFed shows may_leave moment left_since failed modeled answers lines life [] false mid new) →
      HasFed shows may_leave moment left_since failed modeled answers lines life groups closes old new
  fed_serving life groups closes old mid new one serves =
      fed_after life groups closes old mid new one (serves (shut closes (grown life groups)) one.rests)

-- What a crash leaves of a publisher at rest.
file_at_rest : {S : Type 0} {shows may_leave : S → List ℕ → Type 0} (life : Life) (publisher : DurablePublisher S)
    (groups : List (List (List ℕ))) (bytes : List ℕ) → IsAtRest shows may_leave publisher life →
    may_leave publisher.durable.storage bytes → IsFileLeft false life groups bytes
file_at_rest {shows = shows} {may_leave = may_leave} life publisher groups bytes is left =
    inl (no_group life groups bytes
    (file_now shows may_leave publisher life (is.publishes.lives is.intact) bytes left))

module _ {S P Q : Type 0} (shows may_leave : S → List ℕ → Type 0) (moment : S → ℕ)
    (left_since : S → ℕ → List ℕ → Type 0) (failed : S → ℕ) (modeled answers : Bool) (lines : FeedLines P)
    (only_now : (storage : S) (bytes : List ℕ) → left_since storage (moment storage) bytes → may_leave storage bytes) where
  -- The storage was not used.
  pub fed_still : (life : Life) (old new : FeedState S P Q) (datagrams : List (List ℕ)) →
      IsAtRest shows may_leave old.publisher life → new.publisher.durable ≡ old.publisher.durable →
      Publishes shows may_leave new.publisher life →
      (modeled ≡ true → SendsOn lines datagrams (lines_of old) (lines_of new)) →
      AllByRecursion (IsTrueNow life) datagrams →
      HasReplied shows answers (failed old.publisher.durable.storage) (failed new.publisher.durable.storage)
      new.publisher.publisher.journal new.publisher.publisher.sent old.server old.requests new.requests → new.server ≡ record old.server { answered = new.server.answered } →
      old.publisher.publisher.sent ≤ new.publisher.publisher.sent →
      HasFed shows may_leave moment left_since failed modeled answers lines life [] false old new
  fed_still life old new datagrams is durable publishes sends so replied limits onward = record {
    rests = subst (IsAtRest shows may_leave new.publisher) (sym (grown_none life is.none)) (record {
      publishes = publishes;
      none = is.none;
      intact = ap (λ (d : DurableState S). d.broken) durable ∙ is.intact;
    });
    leaves = subst (λ (d : DurableState S). LeavesOnly moment left_since old.publisher.durable.storage d.storage
        (IsFileLeft false life [])) (sym durable) (record {
          later = omega arith;
          each = λ bytes left.
              file_at_rest life old.publisher [] bytes is (only_now old.publisher.durable.storage bytes left);
          before = λ earlier bytes le left. inl left;
        });
    datagrams = datagrams;
    sends = sends;
    so = subst (λ (l : Life). AllByRecursion (IsTrueNow l) datagrams) (sym (grown_none life is.none)) so;
    later = λ datagram true. subst (λ (l : Life). IsTrueNow l datagram) (sym (grown_none life is.none)) true;
    replied = replied;
    limits = limits;
    onward = onward;
  }

  -- Nothing has happened.
  pub fed_yet : (life : Life) (old : FeedState S P Q) → IsAtRest shows may_leave old.publisher life →
      HasFed shows may_leave moment left_since failed modeled answers lines life [] false old old
  fed_yet life old is =
      fed_still life old old [] is refl is.publishes (λ _. refl) tt
      (replied_none shows answers _ _ old.publisher.publisher.journal old.publisher.publisher.sent old.server
      old.requests old.requests refl refl) refl (omega arith)

  -- The publisher waited.
  pub fed_waited : (life : Life) (old new : FeedState S P Q) → IsAtRest shows may_leave old.publisher life →
      new.publisher ≡ old.publisher → (modeled ≡ true → lines_of new ≡ lines_of old) →
      new.requests ≡ old.requests → new.server ≡ old.server →
      HasFed shows may_leave moment left_since failed modeled answers lines life [] false old new
  fed_waited life old new is same sends requests server =
      fed_still life old new [] is (ap (λ (p : DurablePublisher S). p.durable) same)
      (subst (λ (p : DurablePublisher S). Publishes shows may_leave p life) (sym same) is.publishes) sends tt
      (replied_none shows answers _ _ new.publisher.publisher.journal new.publisher.publisher.sent old.server
      old.requests new.requests (ap (λ (p : DurablePublisher S). failed p.durable.storage) same) requests)
      (server ∙ ap (λ (s : ServerState). record old.server { answered = s.answered }) (sym server))
      (subst (λ (p : DurablePublisher S). old.publisher.publisher.sent ≤ p.publisher.sent) (sym same) (omega arith))

  -- The publisher replied to a request.
  pub fed_replied : (life : Life) (old new : FeedState S P Q) (result : Result (Unit {0}) FileError) →
      IsAtRest shows may_leave old.publisher life →
      WasServed shows may_leave moment left_since old.publisher new.publisher → lines_of new ≡ lines_of old →
      ((life : Life) → ShowsBytes shows → IsAtRest shows may_leave old.publisher life → answers ≡ true →
      RepliesTo (sent_journal old.publisher.publisher) old.server (is_ok result) (cut MAX_LIMIT (next_of old.requests))
      (received old.requests) new.requests) →
      IfErr result (λ error. (life : Life) → ShowsBytes shows → IsAtRest shows may_leave old.publisher life →
      error ≡ file.Read) →
      CountsLoad (failed old.publisher.durable.storage) (failed new.publisher.durable.storage) result →
      new.server ≡ record old.server { answered = new.server.answered } →
      HasFed shows may_leave moment left_since failed modeled answers lines life [] false old new
  fed_replied life old new result is served silent replies refused counts limits =
      let same : new.publisher.publisher ≡ old.publisher.publisher =
      ap (λ (p : DurablePublisher S). p.publisher) served.kept in
      record {
        rests = subst (IsAtRest shows may_leave new.publisher) (sym (grown_none life is.none)) (record {
          publishes = served.lives life is.publishes;
          none = is.none;
          intact = ap (λ (p : DurablePublisher S). p.durable.broken) served.kept ∙ is.intact;
        });
        leaves = leaves_weaker moment left_since old.publisher.durable.storage new.publisher.durable.storage
            (may_leave old.publisher.durable.storage) (IsFileLeft false life [])
            (λ bytes left. file_at_rest life old.publisher [] bytes is left) served.reads.any_moment;
        datagrams = [];
        sends = λ _. silent;
        so = tt;
        later = λ datagram true. subst (λ (l : Life). IsTrueNow l datagram) (sym (grown_none life is.none)) true;
        replied = record {
          asked = record { count = old.publisher.publisher.sent; whole = is_ok result } ∷ [];
          few = (omega (arith, ap (λ (p : PublisherState). p.sent) same), tt);
          replies = λ modeled shown. (
            new.requests,
            replies_alike (sent_journal old.publisher.publisher)
                (first_messages old.publisher.publisher.sent new.publisher.publisher.journal) old.server old.server
                (is_ok result) (cut MAX_LIMIT (next_of old.requests)) (received old.requests) new.requests
                (ap (λ (p : PublisherState). p.journal.session) (sym same))
                (ap (λ (p : PublisherState). take old.publisher.publisher.sent p.journal.messages) (sym same)) refl refl
                (replies life shown is modeled),
            refl,
          );
          failures = counted (failed old.publisher.durable.storage) (failed new.publisher.durable.storage) result counts;
          whole = λ shown none. (
            whole_of (failed old.publisher.durable.storage) (failed new.publisher.durable.storage) result counts
                (read_error shows may_leave old.publisher result life shown is refused) none,
            tt,
          );
        };
        limits = limits;
        onward = omega (arith, ap (λ (p : PublisherState). p.sent) same);
      }

  -- The publisher sent datagrams on its lines.
  pub fed_beaten : {L : Type 0} (state : L → PortSetState P) (life : Life) (old new : Feeder S L)
      (datagrams : List (List ℕ)) (asked : Port Q) (server : ServerState) → IsAtRest shows may_leave old.publisher life →
      HasSent shows may_leave modeled state lines datagrams old new →
      HasFed shows may_leave moment left_since failed modeled answers lines life [] false
      (record { publisher = old.publisher; ports = state old.ports; counts = old.counts; requests = asked; server = server })
      (record { publisher = new.publisher; ports = state new.ports; counts = new.counts; requests = asked; server = server })
  fed_beaten state life old new datagrams asked server is sent =
      fed_still life (record { publisher = old.publisher; ports = state old.ports; counts = old.counts; requests = asked; server = server })
      (record { publisher = new.publisher; ports = state new.ports; counts = new.counts; requests = asked; server = server }) datagrams is
      sent.storage (sent.publishes life is.publishes) sent.sends (sent.told life is.publishes).now
      (replied_none shows answers _ _ new.publisher.publisher.journal new.publisher.publisher.sent server asked asked
      (ap (λ (d : DurableState S). failed d.storage) sent.storage) refl) refl sent.onward

-- ---- a turn

grown_group : (life : Life) (messages : List (List ℕ)) → life.waiting ≡ [] →
    with_committed life messages ≡ grown life (messages ∷ [])
grown_group life messages none =
    ap (λ (ms : List (List ℕ)). record life { committed = life.committed ++ (ms ++ messages); waiting = [] }) none
    ∙ ap (λ (ms : List (List ℕ)). record life { committed = life.committed ++ ms; waiting = [] }) (sym (append-nil messages))

up_to_left : {S : Type 0} (life : Life) (messages : List (List ℕ)) (publisher : DurablePublisher S) (bytes : List ℕ) →
    publisher.publisher.journal.messages ≡ life.committed ++ messages → IsFileUpTo life publisher bytes →
    IsFileLeft false life (messages ∷ []) bytes
up_to_left life messages publisher bytes held (inl file) = inl (no_group life (messages ∷ []) bytes file)
up_to_left life messages publisher bytes held (inr file) =
    inl (record {
      front = messages ∷ [];
      rest = [];
      parts = refl;
      file = subst (λ (ms : List (List ℕ)). SpellsJournal3 life.session ms life.closed bytes)
          (held ∙ ap (λ (ms : List (List ℕ)). life.committed ++ ms) (sym (append-nil messages))) file;
    })

module _ {S P Q : Type 0} (shows may_leave : S → List ℕ → Type 0) (moment : S → ℕ)
    (left_since : S → ℕ → List ℕ → Type 0) (failed : S → ℕ) (modeled answers : Bool) (lines : FeedLines P)
    (only_now : (storage : S) (bytes : List ℕ) → left_since storage (moment storage) bytes → may_leave storage bytes)
    (stays : (life : Life) (event : Moment) (datagram : List ℕ) → IsLife life → IsTrueNow life datagram →
    IsTrueNow (after_moment life event) datagram) where
  -- A turn took a group or nothing.
  pub fed_turned : {L : Type 0} (state : L → PortSetState P) (life : Life) (old new : Feeder S L)
      (known left : Option InputEntries) (taken : Option Gathered) (asked : Port Q) (server : ServerState) →
      IsAtRest shows may_leave old.publisher life →
      HasTurned shows may_leave modeled state lines life old new known left taken →
      LeavesOnly moment left_since old.publisher.durable.storage new.publisher.durable.storage
      (IsFileUpTo life new.publisher) → new.publisher.durable.broken ≡ old.publisher.durable.broken →
      failed new.publisher.durable.storage ≡ failed old.publisher.durable.storage →
      (groups : List (List (List ℕ)))
      × HasFed shows may_leave moment left_since failed modeled answers lines life groups false
      (record { publisher = old.publisher; ports = state old.ports; counts = old.counts; requests = asked; server = server })
      (record { publisher = new.publisher; ports = state new.ports; counts = new.counts; requests = asked; server = server })
  fed_turned {L} state life old new known left None asked server is turned crash intact unfailed = (
    [],
    fed_beaten shows may_leave moment left_since failed modeled answers lines only_now state life old new
        (sends_at (state turned.mid.ports).now turned.mid) asked server is
        (subst (λ (f : Feeder S L). HasSent shows may_leave modeled state lines
        (sends_at (state turned.mid.ports).now turned.mid) f new) turned.group.0 turned.sent),
  )
  fed_turned {L} state life old new known left (Some gathered) asked server is turned crash intact unfailed =
      let group = turned.group in
      let messages = turned.group.messages in
      let now = with_committed life messages in
      let datagrams = sends_at (state turned.mid.ports).now turned.mid in
      let added : new.publisher.publisher.journal.messages ≡ old.publisher.publisher.journal.messages ++ messages =
      ap (λ (j : JournalState). j.messages) turned.sent.journal ∙ group.added in
      let held : old.publisher.publisher.journal.messages ≡ life.committed = messages_now false life old.publisher is in
      let onward : old.publisher.publisher.sent ≤ new.publisher.publisher.sent =
      omega (arith, group.sent, turned.sent.onward) in (
        messages ∷ [],
        record {
          rests = subst (IsAtRest shows may_leave new.publisher) (grown_group life messages is.none) (record {
            publishes = turned.sent.publishes now group.publishes;
            none = refl;
            intact = intact ∙ is.intact;
          });
          leaves = leaves_weaker moment left_since old.publisher.durable.storage new.publisher.durable.storage
              (IsFileUpTo life new.publisher) (IsFileLeft false life (messages ∷ []))
              (λ bytes file.
              up_to_left life messages new.publisher bytes
              (added ∙ ap (λ (ms : List (List ℕ)). ms ++ messages) held) file) crash;
          datagrams = datagrams;
          sends = λ is_modeled.
              subst (λ (l : LinesState P). SendsOn lines datagrams l (sent_of state new))
              (lines_same state turned.mid old turned.ports turned.counts) (turned.sent.sends is_modeled);
          so = subst (λ (l : Life). AllByRecursion (IsTrueNow l) datagrams) (grown_group life messages is.none)
              (turned.sent.told now group.publishes).now;
          later = λ datagram true.
              subst (λ (l : Life). IsTrueNow l datagram) (grown_group life messages is.none)
              (stays (with_waiting life messages) Commit datagram group.possible true);
          replied = replied_none shows answers (failed old.publisher.durable.storage)
              (failed new.publisher.durable.storage) new.publisher.publisher.journal new.publisher.publisher.sent server
              asked asked unfailed refl;
          limits = refl;
          onward = onward;
        },
      )

-- ---- the end

shut_ended : (stays : Bool) (life : Life) → life.waiting ≡ [] →
    cond stays life (after_moment life Close) ≡ shut (not stays) (grown life [])
shut_ended true life none = sym (grown_none life none)
shut_ended false life none =
    ap (λ (ms : List (List ℕ)). record life { committed = life.committed ++ ms; closed = true; waiting = [] }) none

ended_waiting : (stays : Bool) (life : Life) → life.waiting ≡ [] → (cond stays life (after_moment life Close)).waiting ≡ []
ended_waiting true life none = none
ended_waiting false life none = refl

at_end_left : (stays : Bool) (life : Life) (groups : List (List (List ℕ))) (bytes : List ℕ) → all_of groups ≡ [] →
    life.waiting ≡ [] → IsFileAtEnd stays life bytes → IsFileLeft (not stays) life groups bytes
at_end_left stays life groups bytes empty none (inl file) = inl (no_group life groups bytes file)
at_end_left stays life groups bytes empty none (inr file) =
    inr (
      ap not file.0,
      subst (λ (ms : List (List ℕ)). SpellsJournal3 life.session (life.committed ++ ms) true bytes) (none ∙ sym empty)
          file.1,
    )

ended_onward : (end : FeedEnd) (stays : Bool) (publisher : PublisherState) →
    publisher.sent ≤ (cond stays publisher (closed publisher)).sent
ended_onward end true publisher = omega arith
ended_onward end false publisher = omega arith

module _ (stays : (life : Life) (event : Moment) (datagram : List ℕ) → IsLife life → IsTrueNow life datagram →
    IsTrueNow (after_moment life event) datagram) where
  true_at_end : (stays_open : Bool) (life : Life) (datagram : List ℕ) → IsLife life → IsTrueNow life datagram →
      IsTrueNow (cond stays_open life (after_moment life Close)) datagram
  true_at_end true life datagram possible so = so
  true_at_end false life datagram possible so = stays life Close datagram possible so

module _ {S P Q : Type 0} (shows may_leave : S → List ℕ → Type 0) (moment : S → ℕ)
    (left_since : S → ℕ → List ℕ → Type 0) (failed : S → ℕ) (modeled answers : Bool) (lines : FeedLines P)
    (stays : (life : Life) (event : Moment) (datagram : List ℕ) → IsLife life → IsTrueNow life datagram →
    IsTrueNow (after_moment life event) datagram) where
  -- The session was ended.
  pub fed_ended : {L : Type 0} (state : L → PortSetState P) (end : FeedEnd) (life : Life) (old new : Feeder S L)
      (asked : Port Q) (server : ServerState) → IsAtRest shows may_leave old.publisher life →
      HasEnded shows may_leave modeled state lines end life old new →
      LeavesOnly moment left_since old.publisher.durable.storage new.publisher.durable.storage
      (IsFileAtEnd end.stays_open life) → new.publisher.durable.broken ≡ old.publisher.durable.broken →
      failed new.publisher.durable.storage ≡ failed old.publisher.durable.storage →
      HasFed shows may_leave moment left_since failed modeled answers lines life [] (not end.stays_open)
      (record { publisher = old.publisher; ports = state old.ports; counts = old.counts; requests = asked; server = server })
      (record { publisher = new.publisher; ports = state new.ports; counts = new.counts; requests = asked; server = server })
  fed_ended state end life old new asked server is ended crash intact unfailed =
      let same = shut_ended end.stays_open life is.none in
      let onward : old.publisher.publisher.sent ≤ new.publisher.publisher.sent =
      subst (λ (p : PublisherState). old.publisher.publisher.sent ≤ p.sent) (sym ended.publisher)
      (ended_onward end end.stays_open old.publisher.publisher) in
      record {
        rests = subst (IsAtRest shows may_leave new.publisher) same (record {
          publishes = ended.publishes;
          none = ended_waiting end.stays_open life is.none;
          intact = intact ∙ is.intact;
        });
        leaves = leaves_weaker moment left_since old.publisher.durable.storage new.publisher.durable.storage
            (IsFileAtEnd end.stays_open life) (IsFileLeft (not end.stays_open) life [])
            (λ bytes. at_end_left end.stays_open life [] bytes refl is.none) crash;
        datagrams = sends_at_end end old.publisher.publisher;
        sends = ended.sends;
        so = subst (λ (l : Life). AllByRecursion (IsTrueNow l) (sends_at_end end old.publisher.publisher)) same
            ended.told.now;
        later = λ datagram true.
            subst (λ (l : Life). IsTrueNow l datagram) same
            (true_at_end stays end.stays_open life datagram is.publishes.possible true);
        replied = replied_none shows answers (failed old.publisher.durable.storage)
            (failed new.publisher.durable.storage) new.publisher.publisher.journal new.publisher.publisher.sent server
            asked asked unfailed refl;
        limits = refl;
        onward = onward;
      }

  -- The session was ended, and the publisher then served.
  pub fed_ended_on : {L : Type 0} (state : L → PortSetState P) (end : FeedEnd) (life : Life) (old new : Feeder S L)
      (asked : Port Q) (server : ServerState) (last : FeedState S P Q) → IsAtRest shows may_leave old.publisher life →
      HasEnded shows may_leave modeled state lines end life old new →
      LeavesOnly moment left_since old.publisher.durable.storage new.publisher.durable.storage
      (IsFileAtEnd end.stays_open life) → new.publisher.durable.broken ≡ old.publisher.durable.broken →
      failed new.publisher.durable.storage ≡ failed old.publisher.durable.storage →
      ((life : Life) → IsAtRest shows may_leave new.publisher life →
      HasFed shows may_leave moment left_since failed modeled answers lines life [] false
      (record { publisher = new.publisher; ports = state new.ports; counts = new.counts; requests = asked; server = server }) last) →
      HasFed shows may_leave moment left_since failed modeled answers lines life [] (not end.stays_open)
      (record { publisher = old.publisher; ports = state old.ports; counts = old.counts; requests = asked; server = server }) last
  fed_ended_on state end life old new asked server last is ended crash intact unfailed serves =
      fed_serving shows may_leave moment left_since failed modeled answers lines life [] (not end.stays_open)
      (record { publisher = old.publisher; ports = state old.ports; counts = old.counts; requests = asked; server = server })
      (record { publisher = new.publisher; ports = state new.ports; counts = new.counts; requests = asked; server = server }) last
      (fed_ended state end life old new asked server is ended crash intact unfailed) serves

-- ---- a publisher that waits or reads

module _ {S P Q : Type 0} (shows may_leave : S → List ℕ → Type 0) (moment : S → ℕ)
    (left_since : S → ℕ → List ℕ → Type 0) (failed : S → ℕ) (modeled answers : Bool) (lines : FeedLines P)
    (only_now : (storage : S) (bytes : List ℕ) → left_since storage (moment storage) bytes → may_leave storage bytes)
    {L D M K : Type 0} (state : L → PortSetState P) (port : D → Port Q) where
  -- The publisher waited.
  pub fed_rested : (life : Life) (old new : Feed S L D M K) → IsAtRest shows may_leave old.feeder.publisher life →
      new.feeder.publisher ≡ old.feeder.publisher →
      (modeled ≡ true → sent_of state new.feeder ≡ sent_of state old.feeder) → new.requests ≡ old.requests →
      HasFed shows may_leave moment left_since failed modeled answers lines life [] false (state_of state port old)
      (state_of state port new)
  fed_rested life old new is same sent requests =
      fed_waited shows may_leave moment left_since failed modeled answers lines only_now life (state_of state port old)
      (state_of state port new) is same sent (ap (λ (r : Requests D). port r.port) requests)
      (ap (λ (r : Requests D). r.server) requests)

  -- The publisher then waited.
  pub fed_paused : (life : Life) (groups : List (List (List ℕ))) (closes : Bool) (old : FeedState S P Q)
      (mid new : Feed S L D M K) →
      HasFed shows may_leave moment left_since failed
      modeled answers lines life groups closes old (state_of state port mid) →
      new.feeder.publisher ≡ mid.feeder.publisher →
      (modeled ≡ true → sent_of state new.feeder ≡ sent_of state mid.feeder) →
      new.requests ≡ mid.requests →
      HasFed shows may_leave moment left_since failed
      modeled answers lines life groups closes old (state_of state port new)
  fed_paused life groups closes old mid new fed same sent requests =
      fed_after shows may_leave moment left_since failed
      modeled answers lines life groups closes old (state_of state port mid)
      (state_of state port new) fed
      (fed_rested (shut closes (grown life groups)) mid new fed.rests same sent requests)

  -- The publisher then changed its input only.
  pub fed_same : (life : Life) (groups : List (List (List ℕ))) (closes : Bool) (old : FeedState S P Q)
      (mid new : Feed S L D M K) →
      HasFed shows may_leave moment left_since failed
      modeled answers lines life groups closes old (state_of state port mid) →
      new.feeder ≡ mid.feeder → new.requests ≡ mid.requests →
      HasFed shows may_leave moment left_since failed
      modeled answers lines life groups closes old (state_of state port new)
  fed_same life groups closes old mid new fed feeder requests =
      fed_paused life groups closes old mid new fed (ap (λ (f : Feeder S L). f.publisher) feeder)
      (λ _. ap (λ (f : Feeder S L). sent_of state f) feeder) requests

  -- The publisher waited, and sent what was due.
  pub fed_served_on : (life : Life) (old : FeedState S P Q) (mid paused new : Feed S L D M K) →
      HasFed shows may_leave moment left_since failed
      modeled answers lines life [] false old (state_of state port mid) →
      paused.feeder.publisher ≡ mid.feeder.publisher →
      (modeled ≡ true → sent_of state paused.feeder ≡ sent_of state mid.feeder) →
      paused.requests ≡ mid.requests →
      ((life : Life) → IsAtRest shows may_leave paused.feeder.publisher life →
      HasFed shows may_leave moment left_since failed modeled answers lines life [] false (state_of state port paused)
      (state_of state port new)) →
      HasFed shows may_leave moment left_since failed modeled answers lines life [] false old (state_of state port new)
  fed_served_on life old mid paused new fed same sent requests serves =
      fed_serving shows may_leave moment left_since failed
      modeled answers lines life [] false old (state_of state port paused)
      (state_of state port new) (fed_paused life [] false old mid paused fed same sent requests) serves

  -- The publisher waited, sent what was due, and then changed its input only.
  pub fed_compared : (life : Life) (old : FeedState S P Q) (mid paused served new : Feed S L D M K) →
      HasFed shows may_leave moment left_since failed
      modeled answers lines life [] false old (state_of state port mid) →
      paused.feeder.publisher ≡ mid.feeder.publisher →
      (modeled ≡ true → sent_of state paused.feeder ≡ sent_of state mid.feeder) →
      paused.requests ≡ mid.requests →
      ((life : Life) → IsAtRest shows may_leave paused.feeder.publisher life →
      HasFed shows may_leave moment left_since failed modeled answers lines life [] false (state_of state port paused)
      (state_of state port served)) → new.feeder ≡ served.feeder → new.requests ≡ served.requests →
      HasFed shows may_leave moment left_since failed modeled answers lines life [] false old (state_of state port new)
  fed_compared life old mid paused served new fed same sent requests serves feeder asked =
      fed_same life [] false old served new
      (fed_served_on life old mid paused served fed same sent requests serves) feeder asked

-- ---- a fault

pub not_open : (stays : Bool) → not stays ≡ true → stays ≡ false
not_open false is = refl
not_open true is = absurd (cc)

-- If the session was closed, it does not stay open, and its input has ended.
pub ended_at : (end : FeedEnd) (stop : FeedStop) (P : FeedStop → Type 0) → P stop → closes_at end stop ≡ true →
    (end.stays_open ≡ false) × P Ended
ended_at end Ended P so is = (not_open end.stays_open is, so)
ended_at end (Refused number refusal) P so is = absurd (cc)
ended_at end (Other number compared) P so is = absurd (cc)

module _ {S P Q : Type 0} (shows may_leave : S → List ℕ → Type 0) (moment : S → ℕ)
    (left_since : S → ℕ → List ℕ → Type 0) (failed : S → ℕ) (modeled answers : Bool) (lines : FeedLines P)
    (taken may_close : JournalState → Type 0) (life : Life) where
  -- The publisher went on, and then ended with a fault.
  pub broken_then : (first : List (List (List ℕ))) (old mid new : FeedState S P Q) →
      HasFed shows may_leave moment left_since failed modeled answers lines life first false old mid →
      HasBroken shows may_leave moment left_since failed
      modeled answers lines taken may_close (grown life first) mid new →
      HasBroken shows may_leave moment left_since failed modeled answers lines taken may_close life old new
  broken_then first old mid new one other = record {
    mid = other.mid;
    groups = first ++ other.groups;
    closes = other.closes;
    fed = fed_then shows may_leave moment left_since failed
        modeled answers lines life first other.groups other.closes old mid
        other.mid one other.fed;
    last = other.last;
    closing = other.closing;
    alone = other.alone;
    leaves = subst (λ (l : Life). LeavesOnly moment left_since other.mid.publisher.durable.storage
        new.publisher.durable.storage (IsFileLeft other.closing l (other.last ∷ [])))
        (shut_grown other.closes life first other.groups) other.leaves;
    allowed = other.allowed;
    journal = other.journal;
    joined = other.joined;
    so_far = other.so_far;
    silent = other.silent;
    unanswered = other.unanswered;
  }

  -- What the journals satisfy is weaker.
  pub broken_weaker : (less few : JournalState → Type 0) (old new : FeedState S P Q) →
      ((journal : JournalState) → less journal → taken journal) →
      ((journal : JournalState) → few journal → may_close journal) →
      HasBroken shows may_leave moment left_since failed modeled answers lines less few life old new →
      HasBroken shows may_leave moment left_since failed modeled answers lines taken may_close life old new
  broken_weaker less few old new follows closes broken = record {
    mid = broken.mid;
    groups = broken.groups;
    closes = broken.closes;
    fed = broken.fed;
    last = broken.last;
    closing = broken.closing;
    alone = broken.alone;
    leaves = broken.leaves;
    allowed = λ is. closes broken.mid.publisher.publisher.journal (broken.allowed is);
    journal = broken.journal;
    joined = broken.joined;
    so_far = λ is. follows broken.journal (broken.so_far is);
    silent = broken.silent;
    unanswered = broken.unanswered;
  }

module _ {S P Q : Type 0} (shows may_leave : S → List ℕ → Type 0) (moment : S → ℕ)
    (left_since : S → ℕ → List ℕ → Type 0) (failed : S → ℕ) (modeled answers : Bool) (lines : FeedLines P)
    (only_now : (storage : S) (bytes : List ℕ) → left_since storage (moment storage) bytes → may_leave storage bytes)
    (taken may_close : JournalState → Type 0) (life : Life) where
  -- A call failed that changed nothing of the session.
  pub broken_at : (groups : List (List (List ℕ))) (closes : Bool) (old new : FeedState S P Q) →
      (closes ≡ false → taken new.publisher.publisher.journal) →
      (closes ≡ true → may_close new.publisher.publisher.journal) →
      HasFed shows may_leave moment left_since failed modeled answers lines life groups closes old new →
      HasBroken shows may_leave moment left_since failed modeled answers lines taken may_close life old new
  broken_at groups closes old new so_far allowed fed =
      let now = shut closes (grown life groups) in
      record {
        mid = new;
        groups = groups;
        closes = closes;
        fed = fed;
        last = [];
        closing = false;
        alone = λ _. refl;
        leaves = leaves_still moment left_since may_leave only_now new.publisher.durable.storage
            (IsFileLeft false now ([] ∷ []))
            (λ bytes left. file_at_rest now new.publisher ([] ∷ []) bytes fed.rests left);
        allowed = λ is. elim is [
          | inl closed ↦ allowed closed
          | inr closing ↦ absurd (cc)
        ];
        journal = new.publisher.publisher.journal;
        joined = sym (append-nil new.publisher.publisher.journal.messages);
        so_far = λ is. so_far is.0;
        silent = λ _. refl;
        unanswered = refl;
      }

  -- A call failed that changed nothing of a session that was not closed.
  pub broken_now : (groups : List (List (List ℕ))) (old new : FeedState S P Q) →
      taken new.publisher.publisher.journal →
      HasFed shows may_leave moment left_since failed modeled answers lines life groups false old new →
      HasBroken shows may_leave moment left_since failed modeled answers lines taken may_close life old new
  broken_now groups old new so_far fed = broken_at groups false old new (λ _. so_far) (λ is. absurd (cc)) fed

  -- A call failed after the publisher stopped.
  pub broken_after : (end : FeedEnd) (stop : FeedStop) (old mid new : FeedState S P Q) →
      IsAtRest shows may_leave old.publisher life →
      (new.publisher.publisher.journal.closed ≡ old.publisher.publisher.journal.closed →
      taken new.publisher.publisher.journal) →
      (closes_at end stop ≡ true → may_close new.publisher.publisher.journal) →
      HasFed shows may_leave moment left_since failed modeled answers lines life [] false old mid →
      (groups : List (List (List ℕ)))
      × HasFed shows may_leave moment left_since failed
      modeled answers lines (grown life []) groups (closes_at end stop) mid
      new → HasBroken shows may_leave moment left_since failed modeled answers lines taken may_close life old new
  broken_after end stop old mid new is so_far allowed begun ran =
      broken_at ran.0 (closes_at end stop) old new
      (λ kept. so_far (ran.1.rests.publishes.closed
      ∙ shut_open (closes_at end stop) (grown (grown life []) ran.0) kept ∙ sym is.publishes.closed)) allowed
      (fed_then shows may_leave moment left_since failed
      modeled answers lines life [] ran.0 (closes_at end stop) old mid new
      begun ran.1)

  -- A turn failed to take a group, after it replied to a request.
  pub broken_turn : {L : Type 0} (state : L → PortSetState P) (kind : InputKind) (known : Option InputEntries)
      (old new : Feeder S L) (asked : Port Q) (server : ServerState) → IsAtRest shows may_leave old.publisher life →
      Grows kind known old.publisher new.publisher →
      taken new.publisher.publisher.journal →
      LeavesOnly moment left_since old.publisher.durable.storage new.publisher.durable.storage
      (IsFileUpTo life new.publisher) → new.ports ≡ old.ports →
      HasBroken shows may_leave moment left_since failed modeled answers lines taken may_close life
      (record { publisher = old.publisher; ports = state old.ports; counts = old.counts; requests = asked; server = server })
      (record { publisher = new.publisher; ports = state new.ports; counts = new.counts; requests = asked; server = server })
  broken_turn {L} state kind known old new asked server is grows so_far crash ports =
      let messages = grows.messages in
      let added =
      grows.added ∙ ap (λ (ms : List (List ℕ)). ms ++ messages) (messages_now false life old.publisher is) in
      record {
        mid = record { publisher = old.publisher; ports = state old.ports; counts = old.counts; requests = asked; server = server };
        groups = [];
        closes = false;
        fed = fed_yet shows may_leave moment left_since failed modeled answers lines only_now life
            (record { publisher = old.publisher; ports = state old.ports; counts = old.counts; requests = asked; server = server }) is;
        last = messages;
        closing = false;
        alone = λ is. absurd (cc);
        leaves = subst (λ (l : Life). LeavesOnly moment left_since old.publisher.durable.storage
            new.publisher.durable.storage (IsFileLeft false l (messages ∷ []))) (sym (grown_none life is.none))
            (leaves_weaker moment left_since old.publisher.durable.storage new.publisher.durable.storage
            (IsFileUpTo life new.publisher) (IsFileLeft false life (messages ∷ []))
            (λ bytes. up_to_left life messages new.publisher bytes added) crash);
        allowed = λ is. elim is [
          | inl closed ↦ absurd (cc)
          | inr closing ↦ absurd (cc)
        ];
        journal = new.publisher.publisher.journal;
        joined = grows.added;
        so_far = λ _. so_far;
        silent = λ _. ap (λ (p : L). (state p).sent) ports;
        unanswered = refl;
      }

  -- The session was to be closed after heartbeats, and the closing failed.
  pub broken_end : {L : Type 0} (state : L → PortSetState P) (end : FeedEnd) (old new : Feeder S L) (asked : Port Q)
      (server : ServerState) → IsAtRest shows may_leave old.publisher life →
      HasSentBeats shows may_leave modeled state lines end.beats old new →
      LeavesOnly moment left_since old.publisher.durable.storage new.publisher.durable.storage
      (IsFileAtEnd end.stays_open life) →
      ((journal : JournalState) → journal ≡ old.publisher.publisher.journal → taken journal) →
      ((journal : JournalState) → end.stays_open ≡ false → journal ≡ old.publisher.publisher.journal →
      may_close journal) →
      HasBroken shows may_leave moment left_since failed modeled answers lines taken may_close life
      (record { publisher = old.publisher; ports = state old.ports; counts = old.counts; requests = asked; server = server })
      (record { publisher = new.publisher; ports = state new.ports; counts = new.counts; requests = asked; server = server })
  broken_end {L} state end old new asked server is beats_sent crash so_far allowed =
      let left = IsFileLeft (not end.stays_open) life ([] ∷ []) in
      record {
        mid = record {
          publisher = beats_sent.mid.publisher;
          ports = state beats_sent.mid.ports;
          counts = beats_sent.mid.counts;
          requests = asked;
          server =
              server;
        };
        groups = [];
        closes = false;
        fed = fed_beaten shows may_leave moment left_since failed
            modeled answers lines only_now state life old beats_sent.mid
            _ asked server is beats_sent.sent;
        last = [];
        closing = not end.stays_open;
        alone = λ _. refl;
        leaves = subst (λ (d : DurableState S). LeavesOnly moment left_since d.storage new.publisher.durable.storage
            (IsFileLeft (not end.stays_open) (grown life []) ([] ∷ []))) (sym beats_sent.sent.storage)
            (subst (λ (l : Life). LeavesOnly moment left_since old.publisher.durable.storage
            new.publisher.durable.storage (IsFileLeft (not end.stays_open) l ([] ∷ []))) (sym (grown_none life is.none))
            (leaves_weaker moment left_since old.publisher.durable.storage new.publisher.durable.storage
            (IsFileAtEnd end.stays_open life) left
            (λ bytes. at_end_left end.stays_open life ([] ∷ []) bytes refl is.none) crash));
        allowed = λ is. elim is [
          | inl closed ↦ absurd (cc)
          | inr closing ↦ allowed beats_sent.mid.publisher.publisher.journal (not_open end.stays_open closing)
              beats_sent.sent.journal
        ];
        journal = beats_sent.mid.publisher.publisher.journal;
        joined = sym (append-nil beats_sent.mid.publisher.publisher.journal.messages);
        so_far = λ _. so_far beats_sent.mid.publisher.publisher.journal beats_sent.sent.journal;
        silent = λ _. ap (λ (p : L). (state p).sent) beats_sent.silent;
        unanswered = refl;
      }

-- ---- results

pub turned_ok : {T E : Type 0} (result : Result T E) (P : T → Type 0) (A Q : Type 0) → ((x : T) → P x → A → Q) →
    IfOk result P → OnOk result A → OnOk result Q
turned_ok (Ok x) P A Q follows is also = follows x is also
turned_ok (Err why) P A Q follows is also = tt

pub turned_err : {T E : Type 0} (result : Result T E) (A B Q : Type 0) → (A → B → Q) → OnErr result A → OnErr result B →
    OnErr result Q
turned_err (Ok x) A B Q follows is also = tt
turned_err (Err why) A B Q follows is also = follows is also

pub both_ok : {T E : Type 0} (result : Result T E) (A B : Type 0) → OnOk result A → OnOk result B → OnOk result (A × B)
both_ok (Ok x) A B first second = (first, second)
both_ok (Err why) A B first second = tt

pub ok_always : {T E : Type 0} (result : Result T E) (Q : Type 0) → Q → OnOk result Q
ok_always (Ok x) Q is = is
ok_always (Err why) Q is = tt

-- The first text was written, and then the last one, which was made in an empty text.
pub said_all : (old mid new : Option (List ℕ)) (first last before after : List ℕ) → Appends old mid first →
    before ≡ [] → after ≡ before ++ last → Appends mid new after → Appends old new (first ++ last)
said_all old mid new first last before after one empty grows other =
    Appends-trans old mid new first last one
    (subst (Appends mid new) (grows ∙ ap (λ (t : List ℕ). t ++ last) empty) other)
