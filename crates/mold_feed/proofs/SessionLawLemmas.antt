-- From the messages that are published to what a listener prints, by the laws of publishing, serving and listening.
use Rattle.std.proofs.Common.{◌≡◌, ℕ, ◌+◌, ◌≤◌, Bool, true, List, [], ◌∷◌, ◌++◌, length, Option, None}
use Rattle.std.proofs.Common.{Result, inl, inr, sym, ap, subst, ◌∙◌}
use Rattle.std.specs.List.{AllByRecursion}
use Rattle.mold_devices.specs.declared.fault.CommandFault.{CommandFault}
use Rattle.mold_feed.specs.Received.{Gives, GivesOnly, HasFinished, HasListened, CanReceive, ReceivesOnly, IsFed, IsHarmless, IsForeign}
use Rattle.mold_feed.specs.Received.{PrintsMessages, PrintsMessagesAmong, published_text}
use Rattle.mold_listen.specs.Listening.{ListenerState, beginning, is_finished, listened_lines, listening, status}
use Rattle.mold_input.specs.Entries.{InputEntries}
use Rattle.mold_input.specs.declared.message_format.MessageFormat.{MessageFormat}
use Rattle.mold_send.specs.PublishLoop.{PublishRun}
use Rattle.mold_turns.specs.Runs.{Ran, run}
use Rattle.mold_feed.specs.Sent.{AllSent, IsCopy, IsOpening, IsPublished, IsSent, IsServed}
use Rattle.mold_serve.specs.Serving.{ResponderState, Service, serving}
use Rattle.mold_listen.specs.Text.{handed_text, printable}
use Rattle.mold_feed.proofs.MessagesPrintedLemmas.{HasCome, has_come, prints_among, prints_messages}
use Rattle.mold_feed.proofs.OpeningLemmas.{OpeningLaws, begins_at, begins_honest, begins_in, left_by, left_session}
use Rattle.mold_feed.proofs.SentLemmas.{sent_one}
use Rattle.mold_ports.specs.Ports.{Port, Receipt, Datagram, Quiet, Failure}
use Rattle.mold_publish.specs.Publishing.{input_published}
use Rattle.mold_receiver.specs.Arbiter.{Arbitration}
use Rattle.mold_receiver.specs.Honest.{IsHonest}
use Rattle.mold_receiver.specs.View.{fresh}
use Rattle.mold_session.specs.Answer.{between}
use Rattle.mold_session.specs.Journal.{JournalState}
use Rattle.mold_session.specs.Truthful.{MayAnswer, IsTrueDatagram}
use Rattle.mold_wire.specs.Truth.{IsTruePacket}
use Rattle.mold_wire.specs.declared.session.Session.{Session}

-- the laws about what a publisher and its servers send
pub record SentLaws (P : Type 0) : Type 0 where
  pub published : (a b : P) (beats ends limit : ℕ) (journal : JournalState) (input : InputEntries)
      (result : Result ℕ CommandFault) (before after : Port P)
      (text_old text_new file_old file_new : Option (List ℕ)) → IsOpening journal limit →
      PublishRun a b beats ends limit (input_published journal input) result before after text_old text_new file_old
      file_new → AllSent (IsTrueDatagram (left_by journal input)) before.sent →
      AllSent (IsTrueDatagram (left_by journal input)) after.sent
  pub served : (service : Service) (choices : List (List Bool)) (start : ResponderState P) →
      MayAnswer service.journal service.limit → AllSent (IsTrueDatagram service.journal) start.port.sent →
      AllSent (IsTrueDatagram service.journal) (run (serving service) choices start).port.sent

-- the laws that the law of the session depends on
pub record FeedLaws (P : Type 0) : Type 0 where
  pub opening : OpeningLaws
  pub sent : SentLaws P
  pub received : (journal : JournalState) (server : P) (burst : ℕ) (choices : List Bool) (start : ListenerState P) →
      IsHonest start.progress.arbitration.view journal.messages journal.closed →
      start.progress.arbitration.view.session ≡ journal.session → ReceivesOnly (IsHarmless journal) start →
      HasListened start.progress.outgoing.format journal (CanReceive start) start.progress.arbitration.view.next
      start.progress.outgoing.stopped start.progress.outgoing.text
      (run (listening server burst) choices start).progress
  pub plain : (journal : JournalState) (server : P) (burst : ℕ) (choices : List Bool) (start : ListenerState P) →
      IsHonest start.progress.arbitration.view journal.messages journal.closed →
      start.progress.arbitration.view.session ≡ journal.session → ReceivesOnly (IsTrueDatagram journal) start →
      (run (listening server burst) choices start).progress.outgoing.text
      ≡ start.progress.outgoing.text ++ handed_text start.progress.outgoing.format start.progress.arbitration.view.next
      (printable start.progress.outgoing.format start.progress.outgoing.stopped
      (between journal.messages start.progress.arbitration.view.next
      (run (listening server burst) choices start).progress.arbitration.view.next))
  pub finished : (journal : JournalState) (server : P) (burst : ℕ) (choices : List Bool) (start : ListenerState P) →
      IsHonest start.progress.arbitration.view journal.messages journal.closed →
      start.progress.arbitration.view.session ≡ journal.session → ReceivesOnly (IsHarmless journal) start →
      is_finished (run (listening server burst) choices start).progress ≡ true →
      HasFinished journal (run (listening server burst) choices start).progress

-- ---- what was sent is true

-- a port that had sent nothing
pub none_sent : {P : Type 0} (Good : List ℕ → Type 0) (sent : List (P × List ℕ)) → sent ≡ [] → AllSent Good sent
none_sent {P} Good sent none = subst (λ (s : List (P × List ℕ)). AllSent Good s) (sym none) tt

-- what is true of a copy is true of the journal
copy_tells : (journal copy : JournalState) (bytes : List ℕ) → IsCopy journal copy → IsTrueDatagram copy bytes →
    IsTrueDatagram journal bytes
copy_tells journal copy bytes is modeled = record {
  packet = modeled.packet;
  spelled = modeled.spelled;
  session = modeled.session ∙ is.session;
  so =
      subst (λ (ms : List (List ℕ)). IsTruePacket modeled.packet ms journal.closed) is.messages
      (subst (λ (c : Bool). IsTruePacket modeled.packet copy.messages c) is.closed modeled.so);
}

-- ---- what the ports give

each_weaker : {X : Type 0} (Q R : X → Type 0) → ((x : X) → Q x → R x) → (xs : List X) → AllByRecursion Q xs →
    AllByRecursion R xs
each_weaker Q R weaker [] each = tt
each_weaker Q R weaker (x ∷ xs) each = (weaker x each.0, each_weaker Q R weaker xs each.1)

gives_weaker : {P : Type 0} (Good Other : List ℕ → Type 0) → ((bytes : List ℕ) → Good bytes → Other bytes) →
    (receipt : Receipt P) → Gives Good receipt → Gives Other receipt
gives_weaker Good Other weaker (Datagram from bytes) gives = weaker _ gives
gives_weaker Good Other weaker Quiet gives = tt
gives_weaker Good Other weaker Failure gives = tt

pub port_weaker : {P : Type 0} (Good Other : List ℕ → Type 0) → ((bytes : List ℕ) → Good bytes → Other bytes) →
    (port : Port P) → GivesOnly Good port → GivesOnly Other port
port_weaker Good Other weaker port gives = each_weaker (Gives Good) (Gives Other) (gives_weaker Good Other weaker) port.comes gives

hears_weaker : {P : Type 0} (Good Other : List ℕ → Type 0) → ((bytes : List ℕ) → Good bytes → Other bytes) →
    (s : ListenerState P) → ReceivesOnly Good s → ReceivesOnly Other s
hears_weaker Good Other weaker s hears = record {
  a = port_weaker Good Other weaker s.a hears.a;
  b = port_weaker Good Other weaker s.b hears.b;
  requests = port_weaker Good Other weaker s.requests hears.requests;
}

module _ {P : Type 0} (laws : SentLaws P) (limit : ℕ) (journal : JournalState) (input : InputEntries)
    (opening : IsOpening journal limit) where
  published_tells : (bytes : List ℕ) → IsPublished P journal limit input bytes → IsTrueDatagram (left_by journal input) bytes
  published_tells bytes is =
      let Good = IsTrueDatagram (left_by journal input) in
      sent_one Good is.after.sent is.to bytes
      (laws.published is.a is.b is.beats is.ends limit journal input is.result is.before is.after is.text_old is.text_new
      is.file_old is.file_new opening is.publishing (none_sent Good is.before.sent is.nothing))
      is.sent

  served_tells : (bytes : List ℕ) → IsServed P (left_by journal input) bytes → IsTrueDatagram (left_by journal input) bytes
  served_tells bytes is =
      let Good = IsTrueDatagram is.service.journal in
      copy_tells (left_by journal input) is.service.journal bytes is.copy
      (sent_one Good (run (serving is.service) is.choices is.start).port.sent is.to bytes
      (laws.served is.service is.choices is.start is.answers (none_sent Good is.start.port.sent is.nothing))
      is.sent)

  sent_tells : (bytes : List ℕ) → IsSent P journal limit input bytes → IsTrueDatagram (left_by journal input) bytes
  sent_tells bytes (inl is) = published_tells bytes is
  sent_tells bytes (inr is) = served_tells bytes is

  pub fed_harmless : (bytes : List ℕ) → IsFed P journal limit input bytes → IsHarmless (left_by journal input) bytes
  fed_harmless bytes (inl is) = inl (sent_tells bytes is)
  fed_harmless bytes (inr strange) =
      inr (subst (λ (s : Session). IsForeign s bytes) (sym (left_session journal input)) strange)

-- ---- what a listener of the session prints

module _ {P : Type 0} (laws : FeedLaws P) (limit : ℕ) (journal : JournalState) (input : InputEntries)
    (opening : IsOpening journal limit) where
  module _ (first window : ℕ) (least : 1 ≤ first) (within : first ≤ length (left_by journal input).messages + 1)
      (arbitration : Arbitration) (anew : arbitration.view ≡ fresh journal.session first window) where
    honest : IsHonest arbitration.view (left_by journal input).messages (left_by journal input).closed
    honest = begins_honest laws.opening limit journal input opening first window least within arbitration anew

    in_session : arbitration.view.session ≡ (left_by journal input).session
    in_session = begins_in laws.opening limit journal input opening first window least within arbitration anew

    at_first : arbitration.view.next ≡ first
    at_first = begins_at laws.opening limit journal input opening first window least within arbitration anew

    module _ (format : MessageFormat) (reporting : Bool) (burst turns : ℕ) (server : P) (a b requests : Port P)
        {E : Type 0} (agrees : ListenerState P → Type 0)
        (result : Result ℕ E) (old new : Option (List ℕ)) (sent : List (P × List ℕ))
        (ran : Ran (listening server burst) turns (beginning format a b requests arbitration)
        (listened_lines reporting) status agrees result old new sent) where
      abbrev start : ListenerState P
      start = beginning format a b requests arbitration

      abbrev ending : ListenerState P
      ending = run (listening server burst) ran.choices start

      abbrev next : ℕ
      next = ending.progress.arbitration.view.next

      has_received : ReceivesOnly (IsHarmless (left_by journal input)) start →
          HasListened format (left_by journal input) (CanReceive start) first None [] ending.progress
      has_received hears =
          subst (λ (n : ℕ). HasListened format (left_by journal input) (CanReceive start) n None [] ending.progress) at_first
          (laws.received (left_by journal input) server burst ran.choices start honest in_session hears)

      has_finished : ReceivesOnly (IsHarmless (left_by journal input)) start → is_finished ending.progress ≡ true →
          HasFinished (left_by journal input) ending.progress
      has_finished hears =
          laws.finished (left_by journal input) server burst ran.choices start honest in_session hears

      -- the ports give only what was sent of the session
      all_true : ReceivesOnly (IsSent P journal limit input) start → ReceivesOnly (IsTrueDatagram (left_by journal input)) start
      all_true sent =
          hears_weaker (IsSent P journal limit input) (IsTrueDatagram (left_by journal input))
          (sent_tells laws.sent limit journal input opening) start sent

      all_harmless : ReceivesOnly (IsTrueDatagram (left_by journal input)) start →
          ReceivesOnly (IsHarmless (left_by journal input)) start
      all_harmless hears =
          hears_weaker (IsTrueDatagram (left_by journal input)) (IsHarmless (left_by journal input))
          (λ bytes modeled. inl modeled) start hears

      text_received : ReceivesOnly (IsTrueDatagram (left_by journal input)) start →
          ending.progress.outgoing.text ≡ published_text format (left_by journal input) first next
      text_received hears =
          laws.plain (left_by journal input) server burst ran.choices start honest in_session hears
          ∙ ap (λ (n : ℕ). published_text format (left_by journal input) n next) at_first

      comes_to : ReceivesOnly (IsHarmless (left_by journal input)) start →
          HasCome format reporting (left_by journal input) first ending result old new
      comes_to hears =
          has_come (left_by journal input) (CanReceive start) (has_received hears) (has_finished hears) ran.whole ran.front

      pub session_prints_among : ReceivesOnly (IsFed P journal limit input) start →
          PrintsMessagesAmong format reporting (CanReceive start) (left_by journal input) first result old new
      session_prints_among fed =
          let hears = hears_weaker (IsFed P journal limit input) (IsHarmless (left_by journal input))
          (fed_harmless laws.sent limit journal input opening) start fed in
          prints_among (left_by journal input) (CanReceive start) (has_received hears) (comes_to hears)

      pub session_prints_messages : ReceivesOnly (IsSent P journal limit input) start →
          PrintsMessages format reporting (left_by journal input) first result old new
      session_prints_messages sent =
          let hears = all_true sent in
          prints_messages (comes_to (all_harmless hears)) (text_received hears)
