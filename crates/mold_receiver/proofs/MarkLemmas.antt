-- Message blocks in copied bytes, and the messages that are marked there.
use Rattle.std.proofs.Common.{◌≡◌, ℕ, ◌+◌, ◌≤◌, List, [], ◌∷◌, ◌++◌, length, length-append, take, drop}
use Rattle.std.proofs.Common.{append_assoc, refl, sym, ap, ◌∙◌, arith}
use Rattle.std.proofs.lemmas.List.{append-nil, drop-drop, drop_at, length-drop, take_at}
use Rattle.mold_wire.specs.Block.{IsMessage, be16, block, blocks}
use Rattle.byteorder.specs.Endian.{big_number}
use Rattle.mold_receiver.specs.Handing.{HasMore}
use Rattle.mold_receiver.specs.Places.{IsBlockAt, length_at, message_in}
use Rattle.mold_receiver.specs.Store.{Message}

two_long : (n : ℕ) → length (be16 n) ≡ 2
two_long n = refl

-- A message block is at the offset `at` of the bytes, and the blocks of other messages follow it.
pub record IsThere (bytes : List ℕ) (at : ℕ) (message : Message) (messages : List Message) : Type 0 where
  pub within : at + 2 + length message ≤ length bytes
  pub lies : take (length message) (drop (at + 2) bytes) ≡ message
  pub behind : drop (at + 2 + length message) bytes ≡ blocks messages

pub is_there :
    (bytes : List ℕ) (at : ℕ) (message : Message) (messages : List Message) →
    drop at bytes ≡ blocks (message ∷ messages) → IsThere bytes at message messages
is_there bytes at message messages there =
    let long = two_long (length message) in
    let parts : blocks (message ∷ messages) ≡ be16 (length message) ++ message ++ blocks messages =
    append_assoc (be16 (length message)) message (blocks messages) in
    let total : at + 2 + length message ≤ length bytes =
    omega (
      arith,
      ap (λ (t : List ℕ). length t) there,
      length-drop at bytes,
      length-append (block message) (blocks messages),
      length-append (be16 (length message)) message,
      long,
    ) in
    let from : drop (at + 2) bytes ≡ message ++ blocks messages =
    sym (drop-drop 2 at bytes)
    ∙ ap (drop 2) (there ∙ parts)
    ∙ drop_at (be16 (length message)) (message ++ blocks messages) 2 long in
    record {
      within = total;
      lies = ap (take (length message)) from ∙ take_at message (blocks messages) (length message) refl;
      behind = sym (drop-drop (length message) (at + 2) bytes)
          ∙ ap (drop (length message)) from
          ∙ drop_at message (blocks messages) (length message) refl;
    }

-- The block of a message that is short enough is read as that message.
pub length_there :
    (bytes : List ℕ) (at : ℕ) (message : Message) (messages : List Message) → IsMessage message →
    drop at bytes ≡ blocks (message ∷ messages) → length_at bytes at ≡ length message
length_there bytes at message messages short there =
    ap (λ (t : List ℕ). big_number 2 (take 2 t)) (there
    ∙ append_assoc (be16 (length message)) message (blocks messages)) ∙ omega (arith, short)

pub block_there :
    (bytes : List ℕ) (at : ℕ) (message : Message) (messages : List Message) → IsMessage message →
    drop at bytes ≡ blocks (message ∷ messages) → IsBlockAt bytes at
block_there bytes at message messages short there =
    omega (arith, length_there bytes at message messages short there, (is_there bytes at message messages there).within)

pub message_there :
    (bytes : List ℕ) (at : ℕ) (message : Message) (messages : List Message) → IsMessage message →
    drop at bytes ≡ blocks (message ∷ messages) → message_in bytes at ≡ message
message_there bytes at message messages short there =
    ap (λ (n : ℕ). take n (drop (at + 2) bytes)) (length_there bytes at message messages short there)
    ∙ (is_there bytes at message messages there).lies

-- The state of a loop that marks messages: those already marked, and those that remain.
pub record IsMarking (old new left whole : List Message) : Type 0 where
  pub more : List Message
  pub messages : new ≡ old ++ more
  pub parts : more ++ left ≡ whole

pub marking_none : (old whole : List Message) → IsMarking old old whole whole
marking_none old whole = record { more = []; messages = sym (append-nil old); parts = refl }

pub marking_one :
    (old new newer : List Message) (message : Message) (left whole : List Message) →
    IsMarking old new (message ∷ left) whole → newer ≡ new ++ message ∷ [] → IsMarking old newer left whole
marking_one old new newer message left whole is pushed = record {
  more = is.more ++ message ∷ [];
  messages = pushed
      ∙ ap (λ (t : List Message). t ++ message ∷ []) is.messages
      ∙ append_assoc old is.more (message ∷ []);
  parts = append_assoc is.more (message ∷ []) left ∙ is.parts;
}

pub marking_done : (old new whole : List Message) → IsMarking old new [] whole → new ≡ old ++ whole
marking_done old new whole is =
    is.messages ∙ ap (λ (t : List Message). old ++ t) (sym (append-nil is.more) ∙ is.parts)

pub marking_more : (old new left whole : List Message) → IsMarking old new left whole → HasMore old new whole
marking_more old new left whole is = record {
  more = is.more;
  left = left;
  messages = is.messages;
  parts = is.parts;
}

-- Bytes that begin with the block of a message, cut after it.
pub record IsCut (bytes : List ℕ) (message : Message) (messages : List Message) : Type 0 where
  pub within : 2 + length message ≤ length bytes
  pub first : take (2 + length message) bytes ≡ block message
  pub behind : drop (2 + length message) bytes ≡ blocks messages

pub is_cut :
    (bytes : List ℕ) (message : Message) (messages : List Message) → bytes ≡ blocks (message ∷ messages) →
    IsCut bytes message messages
is_cut bytes message messages is =
    let long : length (block message) ≡ 2 + length message =
    omega (arith, length-append (be16 (length message)) message, two_long (length message)) in
    record {
      within = omega (
        arith,
        ap (λ (t : List ℕ). length t) is,
        length-append (block message) (blocks messages),
        long,
      );
      first = ap (take (2 + length message)) is
          ∙ take_at (block message) (blocks messages) (2 + length message) long;
      behind = ap (drop (2 + length message)) is
          ∙ drop_at (block message) (blocks messages) (2 + length message) long;
    }
