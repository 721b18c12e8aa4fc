-- Lemmas about the datagrams that a loop's publisher passes for the messages of a source.
use Rattle.std.proofs.Common.{arith, ◌≡◌, ◌∙◌, ℕ, ◌+◌, List, [], ◌++◌, length}
use Rattle.std.proofs.Common.{Option, None, Some, Result, Ok, ap, refl, sym, subst, length-append}
use Rattle.std.specs.Prelude.{IfSome, IsErr}
use Rattle.std.specs.Io.KnownBytes.{prepend_known}
use Rattle.std.proofs.KnownBytes.{prepend_known-nil}
use Rattle.mold_devices.specs.Devices.{AppendsPrefix}
use Rattle.mold_input.specs.Entries.{Entry, InputEntries, known_input}
use Rattle.mold_input.specs.declared.input_kind.InputKind.{InputKind}
use Rattle.mold_input.specs.declared.input_kind.InputKind.TheVariants.{Lines, Blocks}
use Rattle.mold_publish.proofs.DatagramLemmas.{PackingLaws}
use Rattle.mold_publish.specs.Publishing.{Fills}
use Rattle.mold_publish.specs.declared.filling.Filled.TheVariants.{Full, End, Refused}
use Rattle.mold_publish.specs.declared.message_refusal.MessageRefusal.{MessageRefusal}
use Rattle.mold_session.specs.Publisher.{PublisherState, after_datagram, next_datagram}
use Rattle.mold_loop.proofs.HeardLemmas.{Heard, HeardFront, received_cut, received_failed, received_more, received_none, received_still}
use Rattle.mold_loop.proofs.HeardLemmas.{routed_more}
use Rattle.mold_send.proofs.SendingLemmas.{LeftToSend, any_known, begun, begun_all, left_end, left_full, left_lines, left_blocks, left_same}
use Rattle.mold_turns.proofs.RunLemmas.{begins_more, none_answered, none_ok}
use Rattle.mold_loop.specs.Looping.{BeginsData, IsData, LineState, PassRests, ReceivesMessages}
use Rattle.mold_loop.specs.Passing.{routed}
use Rattle.mold_send.specs.PublishLoop.{spelled_some}
use Rattle.mold_turns.specs.Runs.{Begins}
use Rattle.mold_loop.specs.declared.loop_parts.Drops.{Drops}
use Rattle.mold_loop.specs.declared.loop_parts.Routes.{Routes}

-- the datagrams passed and those that remain are the data of the whole input
pub record HeardSoFar {P : Type 0} (drops : Drops) (a b : P) (start now : PublisherState)
    (known left : Option InputEntries) (before after : LineState P) (old new errors_old errors_new : Option (List ℕ))
    (count : ℕ) : Type 0 where
  pub front : List (List ℕ)
  pub counted : count ≡ length front
  pub behind : LeftToSend start now known left front
  pub received : Heard a b (routed drops 1 front) before after old new errors_old errors_new

-- before the first message
pub so_far_begun : {P : Type 0} (kind : InputKind) (entries : List ℕ → List Entry) (drops : Drops) (a b : P)
    (start : PublisherState) (known : Option (List ℕ))
    (rest : List ℕ) (s : LineState P) (held errors : Option (List ℕ)) → rest ≡ [] →
    HeardSoFar drops a b start start (known_input kind entries known) (known_input kind entries (prepend_known rest known))
    s s held held errors errors 0
so_far_begun kind entries drops a b start known rest s held errors empty =
    subst (λ (l : Option (List ℕ)).
    HeardSoFar drops a b start start (known_input kind entries known) (known_input kind entries l) s s held held errors
    errors 0)
    (sym (ap (λ (xs : List ℕ). prepend_known xs known) empty ∙ prepend_known-nil known))
    (record {
      front = [];
      counted = refl;
      behind = left_same start (known_input kind entries known);
      received = received_none a b s held errors;
    })

routed_next : (drops : Drops) (front ys : List (List ℕ)) (count : ℕ) → count ≡ length front →
    routed drops 1 front ++ routed drops (count + 1) ys ≡ routed drops 1 (front ++ ys)
routed_next drops front ys count counted =
    ap (λ (n : ℕ). routed drops 1 front ++ routed drops n ys)
    (let e : count + 1 ≡ 1 + length front = omega (arith, counted) in e)
    ∙ sym (routed_more drops 1 front ys)

-- the publisher's next datagram is passed, and some text is written
received_next : {P T E : Type 0} (drops : Drops) (a b : P) (start before now : PublisherState)
    (known left : Option InputEntries) (first here there : LineState P)
    (old mid new errors_old errors_mid errors_new : Option (List ℕ)) (count : ℕ)
    (value : T) → (so_far : HeardSoFar drops a b start before known left first here old mid errors_old errors_mid
    count) →
    PassRests {T = T} {E = E} a b (routed drops (count + 1) (spelled_some (next_datagram now))) (Ok value) here there mid
    new errors_mid errors_new →
    Heard a b (routed drops 1 (so_far.front ++ spelled_some (next_datagram now))) first there old new errors_old
    errors_new
received_next drops a b start before now known left first here there old mid new errors_old errors_mid errors_new count
    value so_far has =
    subst (λ (l : List (Routes × List ℕ)). Heard a b l first there old new errors_old errors_new)
    (routed_next drops so_far.front (spelled_some (next_datagram now)) count so_far.counted)
    (received_more a b value so_far.received has)

-- one more datagram is passed, and some text is written
pub so_far_full : {P T E : Type 0} → PackingLaws → (drops : Drops) (a b : P) (start before now after : PublisherState)
    (known left behind : Option InputEntries) (first here there : LineState P)
    (old mid new errors_old errors_mid errors_new : Option (List ℕ))
    (count counted : ℕ) (value : T) → HeardSoFar drops a b start before known left first here old mid errors_old
    errors_mid count →
    Fills before now left behind Full → after ≡ after_datagram now →
    PassRests {T = T} {E = E} a b (routed drops (count + 1) (spelled_some (next_datagram now))) (Ok value) here there mid
    new errors_mid errors_new →
    counted ≡ count + length (spelled_some (next_datagram now)) →
    HeardSoFar drops a b start after known behind first there old new errors_old errors_new counted
so_far_full {P} laws drops a b start before now after known left behind first here there old mid new errors_old
    errors_mid errors_new count counted value
    so_far filled sent has more =
    subst (λ (p : PublisherState). HeardSoFar drops a b start p known behind first there old new errors_old errors_new
    counted) (sym sent)
    (record {
      front = so_far.front ++ spelled_some (next_datagram now);
      counted =
          omega (arith, more, so_far.counted, length-append so_far.front (spelled_some (next_datagram now)));
      behind = left_full laws start before now known left behind so_far.front so_far.behind filled;
      received = received_next drops a b start before now known left first here there old mid new errors_old errors_mid
          errors_new count value so_far has;
    })

-- a fault: the datagrams passed are a prefix
hears_cut : {P E : Type 0} (drops : Drops) (a b : P) (start last : PublisherState) (known : Option InputEntries)
    (front : List (List ℕ)) (result : Result (Option MessageRefusal) E) (first here : LineState P)
    (old new errors_old errors_new : Option (List ℕ)) → HeardFront a b (routed drops 1 front) first here old new
    errors_old errors_new →
    IfSome known (BeginsData start front) → IsErr result →
    ReceivesMessages drops a b start last known result first here old new errors_old errors_new
hears_cut drops a b start last known front result first here old new errors_old errors_new with_receipt begins failed =
    record {
      front = front;
      passes = with_receipt.passes;
      are = with_receipt.are;
      written = with_receipt.written;
      appended = with_receipt.appended;
      said = with_receipt.said;
      told = with_receipt.told;
      whole = none_ok result _ failed;
      text = with_receipt.text;
      side = with_receipt.side;
      offered = with_receipt.offered;
      begins = begins;
      all = none_answered result _ failed;
    }

-- a fault before anything is passed
pub hears_none : {P E : Type 0} (drops : Drops) (a b : P) (start last : PublisherState) (known : Option InputEntries)
    (result : Result (Option MessageRefusal) E) (s : LineState P) (held errors : Option (List ℕ)) → IsErr result →
    ReceivesMessages drops a b start last known result s s held held errors errors
hears_none drops a b start last known result s held errors failed =
    hears_cut drops a b start last known [] result s s held held errors errors
    (received_still a b (received_none a b s held errors))
    (any_known known _ (λ input. record { rest = _; parts = refl })) failed

-- a fault while a datagram is passed, or in the write after it
hears_more : {P T E F : Type 0} (drops : Drops) (a b : P) (start now last : PublisherState)
    (known left : Option InputEntries) (first here there : LineState P)
    (old mid new errors_old errors_mid errors_new : Option (List ℕ)) (count : ℕ)
    (ys : List (List ℕ)) (step : Result T F) (result : Result (Option MessageRefusal) E) →
    (so_far : HeardSoFar drops a b start now known left first here old mid errors_old errors_mid count) →
    PassRests a b (routed drops (count + 1) ys) step here there mid new errors_mid errors_new →
    IfSome known (BeginsData start (so_far.front ++ ys)) → IsErr result →
    ReceivesMessages drops a b start last known result first there old new errors_old errors_new
hears_more drops a b start now last known left first here there old mid new errors_old errors_mid errors_new count ys
    step result so_far has begins failed =
    hears_cut drops a b start last known (so_far.front ++ ys) result first there old new errors_old errors_new
    (subst (λ (l : List (Routes × List ℕ)). HeardFront a b l first there old new errors_old errors_new)
    (routed_next drops so_far.front ys count so_far.counted)
    (received_failed a b step so_far.received has))
    begins failed

pub hears_full : {P T E F : Type 0} → PackingLaws → (drops : Drops) (a b : P) (start before now last : PublisherState)
    (known left behind : Option InputEntries) (first here there : LineState P)
    (old mid new errors_old errors_mid errors_new : Option (List ℕ)) (count : ℕ)
    (step : Result T F) (result : Result (Option MessageRefusal) E) →
    HeardSoFar drops a b start before known left first here old mid errors_old errors_mid count → Fills before now left
    behind Full →
    PassRests a b (routed drops (count + 1) (spelled_some (next_datagram now))) step here there mid new errors_mid
    errors_new →
    IsErr result → ReceivesMessages drops a b start last known result first there old new errors_old errors_new
hears_full laws drops a b start before now last known left behind first here there old mid new errors_old errors_mid
    errors_new count step result so_far
    filled has failed =
    let front = so_far.front ++ spelled_some (next_datagram now) in
    hears_more drops a b start before last known left first here there old mid new errors_old errors_mid errors_new
    count (spelled_some (next_datagram now))
    step result so_far has
    (begun start (after_datagram now) known behind front
    (left_full laws start before now known left behind so_far.front so_far.behind filled))
    failed

-- a fault between two datagrams, and then a prefix of the text is written
pub hears_unwritten : {P E : Type 0} (drops : Drops) (a b : P) (start now last : PublisherState)
    (known left : Option InputEntries) (result : Result (Option MessageRefusal) E) (first here there : LineState P)
    (old mid new errors_old errors_new : Option (List ℕ)) (count : ℕ) → HeardSoFar drops a b start now known left first
    here old mid errors_old errors_new count →
    there.publisher ≡ here.publisher → AppendsPrefix mid new here.progress.outgoing.text → IsErr result →
    ReceivesMessages drops a b start last known result first there old new errors_old errors_new
hears_unwritten drops a b start now last known left result first here there old mid new errors_old errors_new count
    so_far same cut failed =
    hears_cut drops a b start last known so_far.front result first there old new errors_old errors_new
    (received_cut a b there same so_far.received cut)
    (begun start now known left so_far.front so_far.behind) failed

-- a fault while the last datagram is passed, or in the write after it
pub hears_last : {P T E F : Type 0} → PackingLaws → (drops : Drops) (a b : P) (start before now last : PublisherState)
    (known left behind : Option InputEntries) (first here there : LineState P)
    (old mid new errors_old errors_mid errors_new : Option (List ℕ)) (count : ℕ)
    (step : Result T F) (result : Result (Option MessageRefusal) E) →
    HeardSoFar drops a b start before known left first here old mid errors_old errors_mid count → Fills before now left
    behind End →
    PassRests a b (routed drops (count + 1) (spelled_some (next_datagram now))) step here there mid new errors_mid
    errors_new →
    IsErr result → ReceivesMessages drops a b start last known result first there old new errors_old errors_new
hears_last laws drops a b start before now last known left behind first here there old mid new errors_old errors_mid
    errors_new count step result so_far
    filled has failed =
    let front = so_far.front ++ spelled_some (next_datagram now) in
    hears_more drops a b start before last known left first here there old mid new errors_old errors_mid errors_new
    count (spelled_some (next_datagram now))
    step result so_far has
    (begun_all start now.journal None known front
    (left_end laws start before now known left behind so_far.front so_far.behind filled))
    failed

-- all data are passed
hears_all : {P E : Type 0} (drops : Drops) (a b : P) (start now : PublisherState) (known : Option InputEntries)
    (front : List (List ℕ)) (refused : Option MessageRefusal) (first here : LineState P)
    (old new errors_old errors_new : Option (List ℕ)) →
    Heard a b (routed drops 1 front) first here old new errors_old errors_new →
    IfSome known (IsData start front now.journal refused) →
    ReceivesMessages {E = E} drops a b start now known (Ok refused) first here old new errors_old errors_new
hears_all {P} drops a b start now known front refused first here old new errors_old errors_new with_receipt all =
    record {
      front = front;
      passes = with_receipt.passes;
      are = with_receipt.are;
      written = with_receipt.written;
      appended = with_receipt.appended;
      said = with_receipt.said;
      told = with_receipt.told;
      whole = with_receipt.whole;
      text =
          subst (λ (s : LineState P). Begins with_receipt.written s.progress.outgoing.text) (sym with_receipt.whole)
          (begins_more with_receipt.written here.progress.outgoing.text);
      side =
          subst (λ (s : LineState P). Begins with_receipt.said s.progress.outgoing.side) (sym with_receipt.whole)
          (begins_more with_receipt.said here.progress.outgoing.side);
      offered = ap (λ (s : LineState P). s.publisher) (sym with_receipt.whole);
      begins = begun_all start now.journal refused known front all;
      all = all;
    }

-- all data are passed, and some text is written
pub hears_end : {P T E F : Type 0} → PackingLaws → (drops : Drops) (a b : P) (start before now after : PublisherState)
    (known left behind : Option InputEntries) (first here there : LineState P)
    (old mid new errors_old errors_mid errors_new : Option (List ℕ)) (count : ℕ)
    (value : T) → HeardSoFar drops a b start before known left first here old mid errors_old errors_mid count →
    Fills before now left behind End →
    PassRests {T = T} {E = F} a b (routed drops (count + 1) (spelled_some (next_datagram now))) (Ok value) here there mid
    new errors_mid errors_new →
    after ≡ after_datagram now →
    ReceivesMessages {E = E} drops a b start after known (Ok None) first there old new errors_old errors_new
hears_end {P} {T} {E} laws drops a b start before now after known left behind first here there old mid new errors_old
    errors_mid errors_new count value
    so_far filled has sent =
    let front = so_far.front ++ spelled_some (next_datagram now) in
    subst (λ (p : PublisherState). ReceivesMessages {E = E} drops a b start p known (Ok None) first there old new
    errors_old errors_new) (sym sent)
    (hears_all drops a b start (after_datagram now) known front None first there old new errors_old errors_new
    (received_next drops a b start before now known left first here there old mid new errors_old errors_mid errors_new
    count value so_far has)
    (left_end laws start before now known left behind so_far.front so_far.behind filled))

-- an entry of an input of lines is refused
pub hears_refused : {P E : Type 0} → PackingLaws → (drops : Drops) (a b : P) (start before now : PublisherState)
    (known left behind : Option InputEntries) (refusal : MessageRefusal) (first here : LineState P)
    (old new errors_old errors_new : Option (List ℕ)) (count : ℕ) → HeardSoFar drops a b start before known left first
    here old new errors_old errors_new count →
    Fills before now left behind (Refused refusal) → refusal.kind ≡ Lines →
    ReceivesMessages {E = E} drops a b start now known (Ok (Some refusal)) first here old new errors_old errors_new
hears_refused laws drops a b start before now known left behind refusal first here old new errors_old errors_new count
    so_far filled lines =
    hears_all drops a b start now known so_far.front (Some refusal) first here old new errors_old errors_new
    so_far.received
    (left_lines laws start before now known left behind refusal so_far.front so_far.behind filled lines)

-- an entry of an input of blocks is refused: a fault while the last datagram is passed, or in the write after it
pub hears_last_before : {P T E F : Type 0} → PackingLaws → (drops : Drops) (a b : P)
    (start before now last : PublisherState) (known left behind : Option InputEntries) (refusal : MessageRefusal)
    (first here there : LineState P) (old mid new errors_old errors_mid errors_new : Option (List ℕ)) (count : ℕ)
    (step : Result T F) (result : Result (Option MessageRefusal) E) →
    HeardSoFar drops a b start before known left first here old mid errors_old errors_mid count →
    Fills before now left behind (Refused refusal) → refusal.kind ≡ Blocks →
    PassRests a b (routed drops (count + 1) (spelled_some (next_datagram now))) step here there mid new errors_mid
    errors_new →
    IsErr result → ReceivesMessages drops a b start last known result first there old new errors_old errors_new
hears_last_before laws drops a b start before now last known left behind refusal first here there old mid new
    errors_old errors_mid errors_new count step
    result so_far filled blocks has failed =
    let front = so_far.front ++ spelled_some (next_datagram now) in
    hears_more drops a b start before last known left first here there old mid new errors_old errors_mid errors_new
    count (spelled_some (next_datagram now))
    step result so_far has
    (begun_all start now.journal (Some refusal) known front
    (left_blocks laws start before now known left behind refusal so_far.front so_far.behind filled blocks))
    failed

-- all data before it are passed, and some text is written
pub hears_before : {P T E F : Type 0} → PackingLaws → (drops : Drops) (a b : P) (start before now after : PublisherState)
    (known left behind : Option InputEntries) (refusal : MessageRefusal) (first here there : LineState P)
    (old mid new errors_old errors_mid errors_new : Option (List ℕ)) (count : ℕ)
    (value : T) → HeardSoFar drops a b start before known left first here old mid errors_old errors_mid count →
    Fills before now left behind (Refused refusal) → refusal.kind ≡ Blocks →
    PassRests {T = T} {E = F} a b (routed drops (count + 1) (spelled_some (next_datagram now))) (Ok value) here there mid
    new errors_mid errors_new →
    after ≡ after_datagram now →
    ReceivesMessages {E = E} drops a b start after known (Ok (Some refusal)) first there old new errors_old errors_new
hears_before {P} {T} {E} laws drops a b start before now after known left behind refusal first here there old mid new
    errors_old errors_mid errors_new
    count value so_far filled blocks has sent =
    let front = so_far.front ++ spelled_some (next_datagram now) in
    subst (λ (p : PublisherState). ReceivesMessages {E = E} drops a b start p known (Ok (Some refusal)) first there old
    new errors_old errors_new)
    (sym sent)
    (hears_all drops a b start (after_datagram now) known front (Some refusal) first there old new errors_old errors_new
    (received_next drops a b start before now known left first here there old mid new errors_old errors_mid errors_new
    count value so_far has)
    (left_blocks laws start before now known left behind refusal so_far.front so_far.behind filled blocks))
