-- The state of a publisher of which only some messages are in memory.
use Rattle.std.proofs.Common.{◌≡◌, ℕ, ◌+◌, ◌-◌, ◌<◌, List, ◌++◌, length, take, drop, sym, ap, subst, ◌∙◌}
use Rattle.std.proofs.Common.{length-append, length-drop, arith}
use Rattle.std.specs.List.{AllByRecursion}
use Rattle.std.proofs.Math.Seq.{drop-append_seam, drop-append-add, take-append-add}
use Rattle.std.proofs.lemmas.List.{length-take, take_all}
use Rattle.mold_wire.specs.Packer.{PackerState}
use Rattle.mold_messages.specs.Listed.{byte_count}
use Rattle.mold_session.specs.Journal.{JournalState}
use Rattle.mold_session.specs.Publisher.{IsPublisher, PublisherState, after_datagram, next_front, retracted, unsent_of}
use Rattle.mold_session.proofs.FrontLemmas.{each_drop}
use Rattle.mold_session.proofs.PublisherLemmas.{IsNext}
use Rattle.mold_session.proofs.StateLemmas.{stays_retracted}
use Rattle.mold_unsent.specs.Unsent.{IsUnsent, publisher_of}

-- What holds of each message of the publisher holds of each message in memory.
pub each_in_memory : (P : List ℕ → Type 0) (earlier : JournalState) (list : List (List ℕ)) →
    AllByRecursion P (earlier.messages ++ list) → AllByRecursion P list
each_in_memory P earlier list each =
    subst (λ (t : List (List ℕ)). AllByRecursion P t) (drop-append_seam earlier.messages list)
    (each_drop P (length earlier.messages) (earlier.messages ++ list) each)

-- The unsent messages are those of the list that were not packed.
pub unsent_in_memory : (earlier : JournalState) (list : List (List ℕ)) (packed limit : ℕ) →
    drop packed list ≡ unsent_of (publisher_of earlier list packed limit)
unsent_in_memory earlier list packed limit = sym (drop-append-add earlier.messages list packed)

-- The list without its last message is that of the publisher without its last message.
pub retracts : (earlier : JournalState) (list : List (List ℕ)) (packed limit : ℕ) → 0 < length list →
    publisher_of earlier (take (length list - 1) list) packed limit ≡ retracted (publisher_of earlier list packed limit)
retracts earlier list packed limit some =
    let same : earlier.messages ++ take (length list - 1) list
    ≡ take (length (earlier.messages ++ list) - 1) (earlier.messages ++ list) =
    sym (take-append-add earlier.messages list (length list - 1))
    ∙ ap (λ (n : ℕ). take n (earlier.messages ++ list))
    (omega (arith, some, length-append earlier.messages list))
    in
    ap (λ (t : List (List ℕ)). record (publisher_of earlier list packed limit) {
      journal = record earlier { messages = t };
    }) same

pub still_unsent : (earlier : JournalState) (list shorter : List (List ℕ)) (packed limit : ℕ) →
    shorter ≡ take (length list - 1) list → packed < length list → IsUnsent earlier list packed limit →
    IsUnsent earlier shorter packed limit
still_unsent earlier list shorter packed limit same few is =
    let some : 0 < length list = omega (arith, few) in
    rw same (record {
      within = omega (arith, length-take (length list - 1) list, few);
      publisher = subst IsPublisher (sym (retracts earlier list packed limit some))
          (stays_retracted (publisher_of earlier list packed limit) is.publisher
          (omega (arith, few, length-append earlier.messages list)));
    })

-- The bytes of the messages in memory that were not packed are those of the unsent messages.
pub joined_in_memory : (earlier : JournalState) (list : List (List ℕ)) (packed limit all : ℕ) → all ≡ length list →
    byte_count (take (all - packed) (drop packed list))
    ≡ byte_count (unsent_of (publisher_of earlier list packed limit))
joined_in_memory earlier list packed limit all counted =
    ap (λ (t : List (List ℕ)). byte_count t)
    (take_all (all - packed) (drop packed list) (omega (arith, counted, length-drop packed list))
    ∙ unsent_in_memory earlier list packed limit)

-- The state after the next datagram was packed.
pub after_packed :
    (earlier : JournalState) (list : List (List ℕ)) (packed : ℕ) (old new : PackerState) (count : ℕ) →
    IsNext (publisher_of earlier list packed old.limit) old new count →
    publisher_of earlier list (packed + count) new.limit ≡ after_datagram (publisher_of earlier list packed old.limit)
after_packed earlier list packed old new count next =
    let before : PublisherState = publisher_of earlier list packed old.limit in
    let sum : length earlier.messages + (packed + count) ≡ before.sent + length (next_front before) =
    omega (arith, next.counted)
    in
    ap (λ (n : ℕ). publisher_of earlier list (packed + count) n) next.limit
    ∙ ap (λ (n : ℕ). record before { sent = n }) sum

pub next_packed :
    (earlier : JournalState) (list : List (List ℕ)) (packed : ℕ) (old new : PackerState) (count : ℕ) →
    IsNext (publisher_of earlier list packed old.limit) old new count →
    IsPublisher (record (publisher_of earlier list packed old.limit) {
      sent = (publisher_of earlier list packed old.limit).sent + count;
    }) → IsUnsent earlier list (packed + count) new.limit
next_packed earlier list packed old new count next is =
    let before : PublisherState = publisher_of earlier list packed old.limit in
    let sum : before.sent + count ≡ length earlier.messages + (packed + count) = omega arith in
    let same : record before { sent = before.sent + count } ≡ publisher_of earlier list (packed + count) new.limit =
    ap (λ (n : ℕ). record before { sent = n }) sum
    ∙ ap (λ (n : ℕ). publisher_of earlier list (packed + count) n) (sym next.limit)
    in
    record {
      within = omega (arith, next.within, length-append earlier.messages list);
      publisher = subst IsPublisher same is;
    }
