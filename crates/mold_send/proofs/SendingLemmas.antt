-- Data that are sent on two lines, in order.
use Rattle.std.proofs.Common.{arith, ◌≡◌, ◌∙◌, ℕ, zero, suc, ◌+◌, ◌<◌, ◌≤◌, Bool, true, false, List, [], ◌∷◌, ◌++◌, length, map}
use Rattle.std.proofs.Common.{Option, None, Some, Result, Ok, Err, ap, refl, sym, subst, append_assoc, append-nil, replicate, length-append}
use Rattle.std.specs.Borrow.{Bor}
use Rattle.std.specs.Prelude.{IfSome, IsErr, OnOk, OnErr}
use Rattle.std.specs.Io.KnownBytes.{prepend_known}
use Rattle.std.proofs.KnownBytes.{prepend_known-nil}
use Rattle.mold_input.specs.Entries.{Entry, InputEntries, known_input}
use Rattle.mold_input.specs.declared.input_kind.InputKind.{InputKind}
use Rattle.mold_input.specs.declared.input_kind.InputKind.TheVariants.{Lines, Blocks}
use Rattle.mold_wire.specs.Packet.{spelling_of}
use Rattle.mold_wire.specs.Packing.{Fits}
use Rattle.mold_wire.specs.declared.packet.Packet.{Packet}
use Rattle.mold_session.specs.Datagrams.{data_packet}
use Rattle.mold_session.specs.Journal.{JournalState}
use Rattle.mold_session.specs.Publisher.{Lends, PublisherState, next_datagram, after_datagram}
use Rattle.mold_turns.specs.Runs.{Begins}
use Rattle.mold_turns.proofs.RunLemmas.{begins_more, begins_trans, begins_whole, none_answered, none_ok}
use Rattle.mold_publish.specs.Sending.{all_but_last, packets_after, packets_before}
use Rattle.mold_ports.specs.Ports.{Port}
use Rattle.mold_send.specs.PublishLoop.{IsSame, IsSameLines, PublicationState, Sends, SendsBoth, SendsMessages, both, lines_state}
use Rattle.mold_send.specs.declared.publication.Publication.{Publication}
use Rattle.mold_send.specs.declared.sending.TwoLines.{TwoLines}
use Rattle.mold_send.specs.PublishLoop.{data_after, offer, packets_to_send}
use Rattle.mold_send.specs.PublishLoop.{spelled_some}
use Rattle.mold_publish.specs.Publishing.{PublishedInput, input_published, HasRoom, IsJustFull, Fills}
use Rattle.mold_publish.specs.declared.message_refusal.MessageRefusal.{MessageRefusal}
use Rattle.mold_publish.specs.declared.filling.Filled.TheVariants.{Full, End, Refused}
use Rattle.mold_publish.proofs.DatagramLemmas.{PackingLaws, grown, full_front, full_datagram, full_packets, full_room}
use Rattle.mold_publish.proofs.DatagramLemmas.{more_packets, list_of, room_packets}

-- ---- sends

-- one list of datagrams after another
pub sends_more : {P : Type 0} (a b : P) (xs ys : List (List ℕ)) (old mid new : PublicationState P) → Sends (both a b xs) old mid →
    Sends (both a b ys) mid new → Sends (both a b (xs ++ ys)) old new
sends_more a b [] ys old mid new first second = subst (λ (o : PublicationState _). Sends (both a b ys) o new) first second
sends_more a b (x ∷ xs) ys old mid new first second =
    (first.0, (first.1.0, sends_more a b xs ys (offer first.1.0 b x (offer first.0 a x old)) mid new first.1.1 second))

-- to `a` and then to `b`
pub sends_on_both : {P : Type 0} (a b to : P) (datagram : List ℕ) (old mid new : PublicationState P) →
    Sends ((a, datagram) ∷ []) old mid → Sends ((to, datagram) ∷ []) mid new → to ≡ b →
    Sends (both a b (datagram ∷ [])) old new
sends_on_both {P} a b to datagram old mid new first second same = (
  first.0,
  (
    second.0,
    second.1
        ∙ ap (λ (p : PublicationState P). offer second.0 to datagram p) first.1
        ∙ ap (λ (t : P). offer second.0 t datagram (offer first.0 a datagram old)) same,
  ),
)

-- ---- the sender stays the same

pub lines_at_first : {D A : Type 0} (lines : TwoLines D A) → IsSameLines lines lines
lines_at_first lines = record { port = refl; a = refl; b = refl; outgoing = refl }

pub lines_twice : {D A : Type 0} {one two three : TwoLines D A} → IsSameLines one two → IsSameLines two three →
    IsSameLines one three
lines_twice first second = record {
  port = second.port ∙ first.port;
  a = second.a ∙ first.a;
  b = second.b ∙ first.b;
  outgoing = second.outgoing ∙ first.outgoing;
}

pub same_at_first : {D A : Type 0} (publication : Publication D A) → IsSame publication publication
same_at_first publication = record { publisher = refl; two_lines = lines_at_first publication.two_lines }

-- the same sender sends to the same two addresses
pub sends_same : {D P : Type 0} (port : D → Port P) (datagrams : List (List ℕ)) (old mid new : TwoLines D P) →
    IsSameLines old mid → SendsBoth port datagrams mid new →
    Sends (both old.a.now old.b.now datagrams) (lines_state port mid) (lines_state port new)
sends_same {D} {P} port datagrams old mid new same sends =
    subst (λ (to : Bor P). Sends (both to.now old.b.now datagrams) (lines_state port mid) (lines_state port new)) same.a
    (subst (λ (to : Bor P). Sends (both mid.a.now to.now datagrams) (lines_state port mid) (lines_state port new)) same.b
    sends)

pub sends_behind : {D P : Type 0} (port : D → Port P) (xs ys : List (List ℕ)) (old mid new : TwoLines D P) →
    IsSameLines old mid → SendsBoth port xs old mid → SendsBoth port ys mid new → SendsBoth port (xs ++ ys) old new
sends_behind port xs ys old mid new same first second =
    sends_more old.a.now old.b.now xs ys _ _ _ first (sends_same port ys old mid new same second)

pub replicate_push : {A : Type 0} (n : ℕ) (x : A) → replicate n x ++ x ∷ [] ≡ replicate (n + 1) x
replicate_push zero x = refl
replicate_push {A} (suc n) x =
    ap (λ (l : List A). x ∷ l) (replicate_push n x)
    ∙ ap (λ (m : ℕ). replicate m x) (let same : suc (n + 1) ≡ suc n + 1 = omega arith in same)

offer_sends : {P : Type 0} (fails : Bool) (to : P) (bytes : List ℕ) (publication : PublicationState P) →
    Begins publication.port.sent (offer fails to bytes publication).port.sent
offer_sends true to bytes publication = begins_whole publication.port.sent
offer_sends false to bytes publication = begins_more publication.port.sent _

-- the state if no further send fails
pub record Ended {P : Type 0} (a b : P) (datagrams : List (List ℕ)) (start : PublicationState P) : Type 0 where
  pub end : PublicationState P
  pub sends : Sends (both a b datagrams) start end
  pub sent : Begins start.port.sent end.port.sent

pub ended : {P : Type 0} (a b : P) (datagrams : List (List ℕ)) (start : PublicationState P) → Ended a b datagrams start
ended a b [] start = record { end = start; sends = refl; sent = begins_whole start.port.sent }
ended a b (datagram ∷ datagrams) start =
    let one = offer false a datagram start in
    let other = offer false b datagram one in
    let rest = ended a b datagrams other in
    record {
      end = rest.end;
      sends = (false, (false, rest.sends));
      sent =
          begins_trans (offer_sends false a datagram start)
          (begins_trans (offer_sends false b datagram one) rest.sent);
    }

-- ---- what remains to be sent

spelled_list : (datagram : Option Packet) → map spelling_of (list_of datagram) ≡ spelled_some datagram
spelled_list None = refl
spelled_list (Some packet) = refl

no_last : (datagram : Option Packet) → map spelling_of (all_but_last (list_of datagram)) ≡ []
unfolding all_but_last
no_last None = refl
no_last (Some packet) = refl

first_kept : (packet : Packet) (packets : List Packet) → 0 < length packets →
    all_but_last (packet ∷ packets) ≡ packet ∷ all_but_last packets
unfolding all_but_last
first_kept packet [] some = absurd (omega arith)
first_kept packet (next ∷ packets) some = refl

-- the datagram that is sent before a refusal, of the messages that were not sent yet
abbrev pub spelled_before : InputKind → PublisherState → List (List ℕ)
spelled_before Lines now = []
spelled_before Blocks now = spelled_some (next_datagram now)

-- the first of several packets is sent before a refusal
first_before : (kind : InputKind) (packet : Packet) (packets : List Packet) → 0 < length packets →
    packets_before kind (packet ∷ packets) ≡ packet ∷ packets_before kind packets
first_before Lines packet packets some = first_kept packet packets some
first_before Blocks packet packets some = refl

-- the first of several packets is sent first
first_sent : (limit sent then : ℕ) (journal : JournalState) (packet : Packet) (refused : Option MessageRefusal) →
    packets_after limit sent journal ≡ packet ∷ packets_after limit then journal →
    0 < length (packets_after limit then journal) →
    packets_to_send limit sent journal refused ≡ packet ∷ packets_to_send limit then journal refused
first_sent limit sent then journal packet None packets some = packets
first_sent limit sent then journal packet (Some refusal) packets some =
    ap (λ (ps : List Packet). packets_before refusal.kind ps) packets
    ∙ first_before refusal.kind packet (packets_after limit then journal) some

pub full_data : PackingLaws → (now : PublisherState) → IsJustFull now → (input : InputEntries) →
    data_after now.limit now.sent (input_published now.journal input)
    ≡ spelled_some (next_datagram now)
    ++ data_after now.limit (after_datagram now).sent (input_published now.journal input)
full_data laws now full input =
    let published = input_published now.journal input in
    let more = grown input now.journal in
    let packet = data_packet now.journal.session (now.sent + 1) full.found in
    ap (λ (ps : List Packet). map spelling_of ps)
    (first_sent now.limit now.sent (now.sent + length full.found) published.journal packet published.refused
    (full_packets laws now full published.journal more) (more_packets laws now full published.journal more))
    ∙ ap (λ (d : Option Packet). spelled_some d ++ data_after now.limit (now.sent + length full.found) published)
    (sym (full_datagram laws now full))
    ∙ ap (λ (ms : List (List ℕ)).
    spelled_some (next_datagram now) ++ data_after now.limit (now.sent + length ms) published)
    (sym (full_front laws now full))

-- the borrowed bytes are the datagram of the packet
pub lent_some : (datagram : Option Packet) (bytes : List ℕ) → Lends datagram (Some bytes) →
    spelled_some datagram ≡ bytes ∷ []
lent_some None bytes lends = absurd lends
lent_some (Some packet) bytes lends = ap (λ (xs : List ℕ). xs ∷ []) (sym lends.spelled)

pub lent_none : (datagram : Option Packet) → Lends datagram None → spelled_some datagram ≡ []
lent_none None lends = refl
lent_none (Some packet) lends = absurd lends

-- ---- the data so far

-- if the input is known, the offered datagrams and those that remain are the data of the whole input
abbrev pub LeftToSend : PublisherState → PublisherState → Option InputEntries → Option InputEntries → List (List ℕ) → Type 0
LeftToSend start now None left front = Unit {0}
LeftToSend start now (Some input) None front = ⊥
LeftToSend start now (Some input) (Some left) front =
    (data_after start.limit start.sent (input_published start.journal input)
    ≡ front ++ data_after now.limit now.sent (input_published now.journal left))
    × (input_published start.journal input ≡ input_published now.journal left)

pub record SentSoFar {P : Type 0} (a b : P) (start now : PublisherState) (known left : Option InputEntries)
    (old new : PublicationState P) (count : ℕ) : Type 0 where
  pub front : List (List ℕ)
  pub sends : Sends (both a b front) old new
  pub counted : count ≡ length front
  pub behind : LeftToSend start now known left front

pub left_same : (start : PublisherState) (known : Option InputEntries) → LeftToSend start start known known []
left_same start None = tt
left_same start (Some input) = (refl, refl)

pub sent_none : {P : Type 0} (a b : P) (start : PublisherState) (known : Option InputEntries) (publication : PublicationState P)
    (count : ℕ) → count ≡ 0 → SentSoFar a b start start known known publication publication count
sent_none a b start known publication count none =
    record { front = []; sends = refl; counted = none; behind = left_same start known }

-- another publisher of the same limit with as many messages sent has the same data
data_same : (one other : PublisherState) (first second : PublishedInput) → other.limit ≡ one.limit →
    other.sent ≡ one.sent → first ≡ second →
    data_after one.limit one.sent first ≡ data_after other.limit other.sent second
data_same one other first second limit sent same =
    ap (λ (n : ℕ). data_after n one.sent first) (sym limit)
    ∙ ap (λ (n : ℕ). data_after other.limit n first) (sym sent)
    ∙ ap (data_after other.limit other.sent) same

pub left_full : PackingLaws → (start before now : PublisherState) (known left behind : Option InputEntries)
    (front : List (List ℕ)) → LeftToSend start before known left front → Fills before now left behind Full →
    LeftToSend start (after_datagram now) known behind (front ++ spelled_some (next_datagram now))
left_full laws start before now None left behind front so_far filled = tt
left_full laws start before now (Some input) None behind front so_far filled = absurd so_far
left_full laws start before now (Some input) (Some xs) None front so_far filled = absurd filled.input
left_full laws start before now (Some input) (Some xs) (Some ys) front so_far filled = (
  so_far.0
      ∙ ap (λ (ds : List (List ℕ)). front ++ ds)
      (data_same before now _ (input_published now.journal ys) filled.limit filled.sent filled.input
      ∙ full_data laws now filled.room ys)
      ∙ sym (append_assoc front (spelled_some (next_datagram now))
      (data_after now.limit (after_datagram now).sent (input_published now.journal ys))),
  so_far.1 ∙ filled.input,
)

-- one more datagram was offered
pub sent_full : {P : Type 0} → PackingLaws → (a b : P) (start before now after : PublisherState)
    (known left behind : Option InputEntries) (old mid new : PublicationState P) (count counted : ℕ) →
    SentSoFar a b start before known left old mid count → Fills before now left behind Full →
    after ≡ after_datagram now → Sends (both a b (spelled_some (next_datagram now))) mid new →
    counted ≡ count + length (spelled_some (next_datagram now)) →
    SentSoFar a b start after known behind old new counted
sent_full {P} laws a b start before now after known left behind old mid new count counted so_far filled sent sends more =
    subst (λ (p : PublisherState). SentSoFar a b start p known behind old new counted) (sym sent)
    (record {
      front = so_far.front ++ spelled_some (next_datagram now);
      sends = sends_more a b so_far.front (spelled_some (next_datagram now)) old mid new so_far.sends sends;
      counted =
          omega (arith, more, so_far.counted, length-append so_far.front (spelled_some (next_datagram now)));
      behind = left_full laws start before now known left behind so_far.front so_far.behind filled;
    })

-- after a fault, what was offered is a prefix
pub begun : (start now : PublisherState) (known left : Option InputEntries) (front : List (List ℕ)) →
    LeftToSend start now known left front → IfSome known (λ input.
    Begins front (data_after start.limit start.sent (input_published start.journal input)))
begun start now None left front so_far = tt
begun start now (Some input) None front so_far = absurd so_far
begun start now (Some input) (Some xs) front so_far = record { rest = _; parts = so_far.0 }

pub any_known : (known : Option InputEntries) (Q : InputEntries → Type 0) → ((input : InputEntries) → Q input) → IfSome known Q
any_known None Q all = tt
any_known (Some input) Q all = all input

pub sent_cut : {P E : Type 0} (a b : P) (start now last : PublisherState) (known left : Option InputEntries)
    (result : Result (Option MessageRefusal) E) (old new : PublicationState P) (count : ℕ) →
    SentSoFar a b start now known left old new count → IsErr result →
    SendsMessages a b start last known result old new count
sent_cut a b start now last known left result old new count so_far failed = record {
  front = so_far.front;
  sends = so_far.sends;
  counted = none_ok result _ failed;
  begins = begun start now known left so_far.front so_far.behind;
  whole = none_answered result _ failed;
}

-- nothing was offered yet
pub sent_not : {P E : Type 0} (a b : P) (start last : PublisherState) (known : Option InputEntries)
    (result : Result (Option MessageRefusal) E) (old : PublicationState P) (count : ℕ) → IsErr result →
    SendsMessages a b start last known result old old count
sent_not a b start last known result old count failed = record {
  front = [];
  sends = refl;
  counted = none_ok result _ failed;
  begins = any_known known _ (λ input. record { rest = _; parts = refl });
  whole = none_answered result _ failed;
}

-- all the data were offered
abbrev pub AllSent : PublisherState → JournalState → Option MessageRefusal → List (List ℕ) → InputEntries → Type 0
AllSent start journal refused front input =
    (data_after start.limit start.sent (input_published start.journal input) ≡ front)
    × (input_published start.journal input ≡ record { journal = journal; refused = refused })

pub begun_all : (start : PublisherState) (journal : JournalState) (refused : Option MessageRefusal) (known : Option InputEntries)
    (front : List (List ℕ)) → IfSome known (AllSent start journal refused front) → IfSome known (λ input.
    Begins front (data_after start.limit start.sent (input_published start.journal input)))
begun_all start journal refused None front all = tt
begun_all start journal refused (Some input) front all =
    record { rest = []; parts = all.0 ∙ sym (append-nil front) }

pub left_end : PackingLaws → (start before now : PublisherState) (known left behind : Option InputEntries)
    (front : List (List ℕ)) → LeftToSend start before known left front → Fills before now left behind End →
    IfSome known (AllSent start now.journal None (front ++ spelled_some (next_datagram now)))
left_end laws start before now None left behind front so_far filled = tt
left_end laws start before now (Some input) None behind front so_far filled = absurd so_far
left_end laws start before now (Some input) (Some xs) None front so_far filled = absurd filled.input
left_end laws start before now (Some input) (Some xs) (Some ys) front so_far filled =
    let published : PublishedInput = record { journal = now.journal; refused = None } in (
      so_far.0
          ∙ ap (λ (ds : List (List ℕ)). front ++ ds)
          (data_same before now _ published filled.limit filled.sent filled.input
          ∙ ap (λ (ps : List Packet). map spelling_of ps) (room_packets laws now filled.room)
          ∙ spelled_list (next_datagram now)),
      so_far.1 ∙ filled.input,
    )

-- an entry is refused: the packet of the messages that were not sent yet is sent unless the input is of lines
last_before : PackingLaws → (now : PublisherState) (kind : InputKind) → HasRoom now →
    map spelling_of (packets_before kind (packets_after now.limit now.sent now.journal)) ≡ spelled_before kind now
last_before laws now Lines room =
    ap (λ (ps : List Packet). map spelling_of (all_but_last ps)) (room_packets laws now room) ∙ no_last (next_datagram now)
last_before laws now Blocks room =
    ap (λ (ps : List Packet). map spelling_of ps) (room_packets laws now room) ∙ spelled_list (next_datagram now)

left_refused : PackingLaws → (start before now : PublisherState) (known left behind : Option InputEntries)
    (refusal : MessageRefusal) (front : List (List ℕ)) → LeftToSend start before known left front →
    Fills before now left behind (Refused refusal) →
    IfSome known (AllSent start now.journal (Some refusal) (front ++ spelled_before refusal.kind now))
left_refused laws start before now None left behind refusal front so_far filled = tt
left_refused laws start before now (Some input) None behind refusal front so_far filled = absurd so_far
left_refused laws start before now (Some input) (Some xs) None refusal front so_far filled = absurd filled.input
left_refused laws start before now (Some input) (Some xs) (Some ys) refusal front so_far filled =
    let published : PublishedInput = record { journal = now.journal; refused = Some refusal } in (
      so_far.0
          ∙ ap (λ (ds : List (List ℕ)). front ++ ds)
          (data_same before now _ published filled.limit filled.sent filled.input
          ∙ last_before laws now refusal.kind filled.room),
      so_far.1 ∙ filled.input,
    )

-- of an input of lines, nothing more is offered
pub left_lines : PackingLaws → (start before now : PublisherState) (known left behind : Option InputEntries)
    (refusal : MessageRefusal) (front : List (List ℕ)) → LeftToSend start before known left front →
    Fills before now left behind (Refused refusal) → refusal.kind ≡ Lines →
    IfSome known (AllSent start now.journal (Some refusal) front)
left_lines laws start before now known left behind refusal front so_far filled lines =
    subst (λ (ds : List (List ℕ)). IfSome known (AllSent start now.journal (Some refusal) ds))
    (ap (λ (kind : InputKind). front ++ spelled_before kind now) lines ∙ append-nil front)
    (left_refused laws start before now known left behind refusal front so_far filled)

-- of an input of blocks, the last datagram is offered
pub left_blocks : PackingLaws → (start before now : PublisherState) (known left behind : Option InputEntries)
    (refusal : MessageRefusal) (front : List (List ℕ)) → LeftToSend start before known left front →
    Fills before now left behind (Refused refusal) → refusal.kind ≡ Blocks →
    IfSome known (AllSent start now.journal (Some refusal) (front ++ spelled_some (next_datagram now)))
left_blocks laws start before now known left behind refusal front so_far filled blocks =
    subst (λ (kind : InputKind).
    IfSome known (AllSent start now.journal (Some refusal) (front ++ spelled_before kind now))) blocks
    (left_refused laws start before now known left behind refusal front so_far filled)

pub sent_end : {P E : Type 0} → PackingLaws → (a b : P) (start before now after : PublisherState)
    (known left behind : Option InputEntries) (old mid new : PublicationState P) (count counted : ℕ) →
    SentSoFar a b start before known left old mid count → Fills before now left behind End →
    after ≡ after_datagram now → Sends (both a b (spelled_some (next_datagram now))) mid new →
    counted ≡ count + length (spelled_some (next_datagram now)) →
    SendsMessages {E = E} a b start after known (Ok None) old new counted
sent_end {P} {E} laws a b start before now after known left behind old mid new count counted so_far filled sent sends more =
    let front = so_far.front ++ spelled_some (next_datagram now) in
    let all = left_end laws start before now known left behind so_far.front so_far.behind filled in
    subst (λ (p : PublisherState). SendsMessages {E = E} a b start p known (Ok None) old new counted) (sym sent)
    (record {
      front = front;
      sends = sends_more a b so_far.front (spelled_some (next_datagram now)) old mid new so_far.sends sends;
      counted =
          omega (arith, more, so_far.counted, length-append so_far.front (spelled_some (next_datagram now)));
      begins = begun_all start now.journal None known front all;
      whole = all;
    })

-- an entry of an input of lines is refused
pub sent_refused : {P E : Type 0} → PackingLaws → (a b : P) (start before now : PublisherState)
    (known left behind : Option InputEntries) (refusal : MessageRefusal) (old new : PublicationState P) (count : ℕ) →
    SentSoFar a b start before known left old new count → Fills before now left behind (Refused refusal) →
    refusal.kind ≡ Lines → SendsMessages {E = E} a b start now known (Ok (Some refusal)) old new count
sent_refused {P} {E} laws a b start before now known left behind refusal old new count so_far filled lines =
    let whole = left_lines laws start before now known left behind refusal so_far.front so_far.behind filled lines in
    record {
      front = so_far.front;
      sends = so_far.sends;
      counted = so_far.counted;
      begins = begun_all start now.journal (Some refusal) known so_far.front whole;
      whole = whole;
    }

-- an entry of an input of blocks is refused, and the last datagram is sent
pub sent_before : {P E : Type 0} → PackingLaws → (a b : P) (start before now after : PublisherState)
    (known left behind : Option InputEntries) (refusal : MessageRefusal) (old mid new : PublicationState P)
    (count counted : ℕ) → SentSoFar a b start before known left old mid count →
    Fills before now left behind (Refused refusal) → refusal.kind ≡ Blocks →
    after ≡ after_datagram now → Sends (both a b (spelled_some (next_datagram now))) mid new →
    counted ≡ count + length (spelled_some (next_datagram now)) →
    SendsMessages {E = E} a b start after known (Ok (Some refusal)) old new counted
sent_before {P} {E} laws a b start before now after known left behind refusal old mid new count counted so_far filled
    blocks sent sends more =
    let front = so_far.front ++ spelled_some (next_datagram now) in
    let whole = left_blocks laws start before now known left behind refusal so_far.front so_far.behind filled blocks in
    subst (λ (p : PublisherState). SendsMessages {E = E} a b start p known (Ok (Some refusal)) old new counted) (sym sent)
    (record {
      front = front;
      sends = sends_more a b so_far.front (spelled_some (next_datagram now)) old mid new so_far.sends sends;
      counted =
          omega (arith, more, so_far.counted, length-append so_far.front (spelled_some (next_datagram now)));
      begins = begun_all start now.journal (Some refusal) known front whole;
      whole = whole;
    })

found_some : (limit : ℕ) (found : List (List ℕ)) (last : List ℕ) → ¬ Fits limit (found ++ last ∷ []) →
    Fits limit (last ∷ []) → 0 < length found
found_some limit [] last unfit alone = absurd (unfit alone)
found_some limit (message ∷ found) last unfit alone = omega arith

-- a full publisher sends at least one message with its datagram
full_more : PackingLaws → (now : PublisherState) (count counted : ℕ) → IsJustFull now → count ≤ now.sent →
    counted ≡ count + length (spelled_some (next_datagram now)) → counted ≤ (after_datagram now).sent
full_more laws now count counted full few more =
    omega (
      arith,
      few,
      more,
      found_some now.limit full.found full.last full.more full.alone,
      ap (λ (ms : List (List ℕ)). length ms) (full_front laws now full),
      ap (λ (d : Option Packet). length (spelled_some d)) (full_datagram laws now full),
    )

-- after a full publisher's datagram, the remaining messages fit one, and no more datagrams than messages were sent
pub full_went : PackingLaws → (before now after : PublisherState) (count counted : ℕ) → IsJustFull now →
    now.sent ≡ before.sent → count ≤ before.sent → after ≡ after_datagram now →
    counted ≡ count + length (spelled_some (next_datagram now)) → HasRoom after × (counted ≤ after.sent)
full_went laws before now after count counted full same few is more =
    subst (λ (p : PublisherState). HasRoom p × (counted ≤ p.sent)) (sym is) (
      full_room laws now full,
      full_more laws now count counted full (subst (λ (n : ℕ). count ≤ n) (sym same) few) more,
    )

-- before the first message
pub sent_begun : {P : Type 0} (kind : InputKind) (entries : List ℕ → List Entry) (a b : P) (start : PublisherState)
    (known : Option (List ℕ)) (rest : List ℕ) (publication : PublicationState P) (count : ℕ) → rest ≡ [] → count ≡ 0 →
    SentSoFar a b start start (known_input kind entries known) (known_input kind entries (prepend_known rest known))
    publication publication count
sent_begun kind entries a b start known rest publication count empty none =
    subst (λ (l : Option (List ℕ)).
    SentSoFar a b start start (known_input kind entries known) (known_input kind entries l) publication publication count)
    (sym (ap (λ (xs : List ℕ). prepend_known xs known) empty ∙ prepend_known-nil known))
    (sent_none a b start (known_input kind entries known) publication count none)

-- a session can be closed if all messages are sent
pub close_done : {T E : Type 0} (result : Result T E) (sent all : ℕ) (Q : Type 0) → OnErr result (sent + 1 ≤ all) →
    sent ≡ all → OnOk result Q → Q
close_done (Ok _) sent all Q refused same done = done
close_done (Err _) sent all Q refused same done = absurd (omega (arith, refused, same))
