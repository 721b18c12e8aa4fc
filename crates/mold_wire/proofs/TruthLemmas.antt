-- What packets state about a session, and why it stays true as the session goes on.
use Rattle.std.proofs.Common.{◌≡◌, ℕ, zero, suc, ◌+◌, ◌-◌, ◌<◌, ◌≤◌, leb, List, [], ◌∷◌, ◌++◌, length, length-append}
use Rattle.std.proofs.Common.{take, drop, refl, sym, ap, subst, ◌∙◌, inl, inr, arith, get_or}
use Rattle.std.specs.Prelude.{Option, Some, None, Bool, true, false, slice_get}
use Rattle.std.proofs.lemmas.Bool.{cond_both, cond-true, cond-false, cases_lt, lt-leb, le-leb, false≢true}
use Rattle.std.proofs.lemmas.Option.{none-some, slice_get_past, slice_get-get_or, slice_get_within, get_or_from_slice_get}
use Rattle.std.proofs.lemmas.List.{same_lists, get_or_default, length-drop, get_or-drop, get_or-take, length-take-le}
use Rattle.mold_wire.specs.Packet.{IsPacket, IsBody, messages_of, top_of}
use Rattle.mold_wire.specs.Truth.{message_at, Carries, published_at, IsTrueBody, IsTruePacket}
use Rattle.mold_wire.specs.declared.packet.Packet.{Packet}
use Rattle.mold_wire.specs.declared.packet.Body.{Body}
use Rattle.mold_wire.specs.declared.packet.Body.TheVariants.{Data, Heartbeat, End}

-- The messages of a list have consecutive numbers, from `first` on.
pub message_at-from :
    (first : ℕ) (messages : List (List ℕ)) (number index : ℕ) → number ≡ first + index →
    message_at first messages number ≡ slice_get messages index
message_at-from first messages number index is =
    cond-true (leb first number) (slice_get messages (number - first)) None (le-leb first number (omega (arith, is)))
    ∙ ap (λ (t : ℕ). slice_get messages t) (omega (arith, is))

-- An element of a list keeps its index when the list gets longer.
slice_get-longer :
    {X : Type 0} (front behind : List X) (index : ℕ) (element : X) → slice_get front index ≡ Some element →
    slice_get (front ++ behind) index ≡ Some element
slice_get-longer [] behind index element is = absurd (none-some element is)
slice_get-longer (first ∷ front) behind zero element is = is
slice_get-longer (first ∷ front) behind (suc index) element is = slice_get-longer front behind index element is

-- A published message keeps its number when more messages are published.
pub published_at-longer :
    (published behind : List (List ℕ)) (number : ℕ) (message : List ℕ) → published_at published number ≡ Some message →
    published_at (published ++ behind) number ≡ Some message
published_at-longer published behind zero message is = absurd (none-some message is)
published_at-longer published behind (suc index) message is =
    let next : suc index ≡ 1 + index = omega arith in
    message_at-from 1 (published ++ behind) (suc index) index next
    ∙ slice_get-longer published behind index message (sym (message_at-from 1 published (suc index) index next) ∙ is)

-- What is true of an open session stays true when one more message is published.
true_longer :
    (body : Body) (sequence : ℕ) (published : List (List ℕ)) (message : List ℕ) →
    IsTrueBody body sequence published false → IsTrueBody body sequence (published ++ message ∷ []) false
true_longer (Data messages) sequence published message is = (
  is.0,
  λ number carried at.
      published_at-longer published (message ∷ []) number carried (is.1 number carried at),
)
true_longer Heartbeat sequence published message is =
    (is.0, omega (arith, is.1, length-append published (message ∷ [])))
true_longer End sequence published message is = absurd (false≢true is.0)

pub true_grows :
    (packet : Packet) (published : List (List ℕ)) (message : List ℕ) → length published < 18446744073709551614 →
    IsTruePacket packet published false → IsTruePacket packet (published ++ message ∷ []) false
true_grows packet published message few is = record {
  few = omega (arith, few, length-append published (message ∷ []));
  said = true_longer packet.body packet.sequence published message is.said;
}

true_of_closed :
    (body : Body) (sequence : ℕ) (published : List (List ℕ)) → IsTrueBody body sequence published false →
    IsTrueBody body sequence published true
true_of_closed (Data messages) sequence published is = is
true_of_closed Heartbeat sequence published is = is
true_of_closed End sequence published is = absurd (false≢true is.0)

-- What is true of an open session stays true when the session closes.
pub true_closes :
    (packet : Packet) (published : List (List ℕ)) → IsTruePacket packet published false → IsTruePacket packet published true
true_closes packet published is = record {
  few = is.few;
  said = true_of_closed packet.body packet.sequence published is.said;
}

-- Each message of a true data packet was published with its number.
stands_at :
    (messages published : List (List ℕ)) (sequence index : ℕ) → 1 ≤ sequence →
    ((number : ℕ) (message : List ℕ) → message_at sequence messages number ≡ Some message →
    published_at published number ≡ Some message) → index < length messages →
    slice_get published (sequence - 1 + index) ≡ Some (get_or messages index [])
stands_at messages published sequence index first said within =
    sym (message_at-from 1 published (sequence + index) (sequence - 1 + index) (omega (arith, first)))
    ∙ said (sequence + index) (get_or messages index [])
    (message_at-from sequence messages (sequence + index) index refl ∙ slice_get-get_or messages index [] within)

-- So the number of the last message is not above that of the last published one.
within_published :
    (messages published : List (List ℕ)) (sequence : ℕ) → 1 ≤ sequence →
    ((number : ℕ) (message : List ℕ) → message_at sequence messages number ≡ Some message →
    published_at published number ≡ Some message) → 0 < length messages →
    sequence + length messages ≤ length published + 1
within_published messages published sequence first said some =
    let last : ℕ = length messages - 1 in
    let inside : last < length messages = omega (arith, some) in
    let stands = slice_get_within published (sequence - 1 + last) (get_or messages last [])
    (stands_at messages published sequence last first said inside)
    in
    omega (arith, first, some, stands)

top_within :
    (body : Body) (sequence : ℕ) (published : List (List ℕ)) (closed : Bool) → IsBody body →
    IsTrueBody body sequence published closed → sequence + length (messages_of body) ≤ length published + 1
top_within (Data messages) sequence published closed is said = within_published messages published sequence said.0 said.1 is.0
top_within Heartbeat sequence published closed is said = omega (arith, said.1)
top_within End sequence published closed is said = omega (arith, said.1)

pub true_top :
    (packet : Packet) (published : List (List ℕ)) (closed : Bool) → IsPacket packet →
    IsTruePacket packet published closed → top_of packet ≤ length published + 1
true_top packet published closed is told =
    top_within packet.body packet.sequence published closed is.body told.said

piece_of :
    (body : Body) (sequence : ℕ) (published : List (List ℕ)) (closed : Bool) →
    IsTrueBody body sequence published closed → sequence + length (messages_of body) ≤ length published + 1 →
    messages_of body ≡ take (length (messages_of body)) (drop (sequence - 1) published)
piece_of (Data messages) sequence published closed said within =
    let all : length messages ≤ length (drop (sequence - 1) published) =
    omega (arith, said.0, within, length-drop (sequence - 1) published)
    in
    same_lists messages (take (length messages) (drop (sequence - 1) published))
    (sym (length-take-le (length messages) (drop (sequence - 1) published) all)) (λ index other inside.
    sym
    (get_or-take (length messages) (drop (sequence - 1) published) index other inside
    ∙ get_or-drop (sequence - 1) published index other
    ∙ get_or_from_slice_get published (sequence - 1 + index) (get_or messages index []) other
    (stands_at messages published sequence index said.0 said.1 inside)
    ∙ get_or_default messages index [] other inside))
piece_of Heartbeat sequence published closed said within = refl
piece_of End sequence published closed said within = refl

-- So a true packet's messages are consecutive published messages.
pub true_messages :
    (packet : Packet) (published : List (List ℕ)) (closed : Bool) → IsPacket packet →
    IsTruePacket packet published closed →
    messages_of packet.body ≡ take (length (messages_of packet.body)) (drop (packet.sequence - 1) published)
true_messages packet published closed is told =
    piece_of packet.body packet.sequence published closed told.said (true_top packet published closed is told)

slice_get-drop :
    {X : Type 0} (number : ℕ) (elements : List X) (index : ℕ) →
    slice_get (drop number elements) index ≡ slice_get elements (number + index)
slice_get-drop zero elements index = ap (λ (t : ℕ). slice_get elements t) (omega arith)
slice_get-drop (suc number) [] index = sym (slice_get_past [] (suc number + index) (omega arith))
slice_get-drop (suc number) (element ∷ elements) index =
    let next : suc (number + index) ≡ suc number + index = omega arith in
    slice_get-drop number elements index ∙ ap (λ (t : ℕ). slice_get (element ∷ elements) t) next

-- A data packet with consecutive published messages and their numbers is true.
pub piece_is_true :
    (packet : Packet) (published behind : List (List ℕ)) (closed : Bool) →
    length published < 18446744073709551615 → 1 ≤ packet.sequence →
    packet.body ≡ Data (messages_of packet.body) →
    drop (packet.sequence - 1) published ≡ messages_of packet.body ++ behind → IsTruePacket packet published closed
piece_is_true packet published behind closed few first carries parts = record {
  few = few;
  said = subst (λ (t : Body). IsTrueBody t packet.sequence published closed) (sym carries) (
    first,
    λ number message at.
        let messages : List (List ℕ) = messages_of packet.body in
        elim (cases_lt number packet.sequence) [
          | inl below ↦ absurd (none-some message
              (sym (cond-false (leb packet.sequence number) _ None (lt-leb packet.sequence number below)) ∙ at))
          | inr behind_it ↦
              let index : ℕ = number - packet.sequence in
              let found = sym (message_at-from packet.sequence messages number index (omega (arith, behind_it))) ∙ at in
              message_at-from 1 published number (packet.sequence - 1 + index) (omega (arith, behind_it, first))
              ∙ sym (slice_get-drop (packet.sequence - 1) published index)
              ∙ ap (λ (t : List (List ℕ)). slice_get t index) parts
              ∙ slice_get-longer messages behind index message found
        ],
  );
}

-- An empty list has no message with any number.
message_in_none : (first number : ℕ) → message_at first [] number ≡ None
message_in_none first number =
    cond_both (leb first number) (slice_get [] (number - first)) None (λ (t : Option (List ℕ)). t ≡ None)
    (λ _. refl) (λ _. refl)

-- The messages that a true packet carries were published with their numbers.
carried_body :
    (body : Body) (sequence : ℕ) (published : List (List ℕ)) (closed : Bool) (number : ℕ) (message : List ℕ) →
    IsTrueBody body sequence published closed → message_at sequence (messages_of body) number ≡ Some message →
    published_at published number ≡ Some message
carried_body (Data messages) sequence published closed number message said at = said.1 number message at
carried_body Heartbeat sequence published closed number message said at =
    absurd (none-some message (sym (message_in_none sequence number) ∙ at))
carried_body End sequence published closed number message said at =
    absurd (none-some message (sym (message_in_none sequence number) ∙ at))

pub true_carries :
    (packet : Packet) (published : List (List ℕ)) (closed : Bool) (number : ℕ) (message : List ℕ) →
    IsTruePacket packet published closed → Carries packet number message → published_at published number ≡ Some message
true_carries packet published closed number message told at =
    carried_body packet.body packet.sequence published closed number message told.said at
