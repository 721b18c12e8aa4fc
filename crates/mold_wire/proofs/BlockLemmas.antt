-- Whole blocks at the start of the bytes, and the messages read from them.
use Rattle.std.proofs.Common.{◌≡◌, ℕ, suc, ◌+◌, ◌-◌, ◌<◌, ◌^◌, List, [], ◌∷◌, ◌++◌, length, length-append, take, drop}
use Rattle.std.proofs.Common.{refl, sym, ap, subst, ◌∙◌, append_assoc, arith}
use Rattle.std.specs.Prelude.{◌==◌}
use Rattle.std.specs.Bool.{one_answer}
use Rattle.std.specs.List.{AllByRecursion}
use Rattle.std.specs.Cmp.Lexicographic.{pointwise, pointwise_decides, bytes_decides}
use Rattle.std.proofs.lemmas.List.{take_at, drop_at, append-nil, append_cancel_left}
use Rattle.byteorder.specs.Endian.{big_number}
use Rattle.mold_wire.specs.Block.{be16, IsMessage, block, blocks, messages_at, AreBlocks}
use Rattle.mold_wire.specs.Block.{IsBlockAndRest, AreBlocksAndRest, BeginsNoBlock, AreCutBlocks}

-- The two bytes of a number read as that number.
pub big_number-be16 : (number : ℕ) (rest : List ℕ) → number < 2 ^ 16 → big_number 2 (be16 number ++ rest) ≡ number
big_number-be16 number rest fits = omega arith

pub blocks-append : (front back : List (List ℕ)) → blocks (front ++ back) ≡ blocks front ++ blocks back
blocks-append [] back = refl
blocks-append (message ∷ front) back =
    ap (λ (t : List ℕ). block message ++ t) (blocks-append front back)
    ∙ sym (append_assoc (block message) (blocks front) (blocks back))

pub each-append :
    (front : List (List ℕ)) (message : List ℕ) → AllByRecursion IsMessage front → IsMessage message →
    AllByRecursion IsMessage (front ++ message ∷ [])
each-append [] message each one = (one, tt)
each-append (first ∷ front) message each one = (each.0, each-append front message each.1 one)

-- If no block was skipped, the rest is all of the bytes.
pub blocks_none : (bytes : List ℕ) → AreBlocksAndRest 0 bytes bytes
blocks_none bytes = record { messages = []; counted = refl; each = tt; parts = refl }

-- One more block extends the whole blocks at the start.
pub blocks_more :
    (number : ℕ) (bytes rest message more : List ℕ) → AreBlocksAndRest number bytes rest →
    IsBlockAndRest rest message more → AreBlocksAndRest (number + 1) bytes more
blocks_more number bytes rest message more found next = record {
  messages = found.messages ++ message ∷ [];
  counted = omega (arith, length-append found.messages (message ∷ []), found.counted);
  each = each-append found.messages message found.each next.each;
  parts =
      found.parts
      ∙ ap (λ (t : List ℕ). blocks found.messages ++ t) next.parts
      ∙ sym (append_assoc (blocks found.messages) (block message) more)
      ∙ ap (λ (t : List ℕ). t ++ more) (
      ap (λ (t : List ℕ). blocks found.messages ++ t) (sym (append-nil (block message)))
      ∙ sym (blocks-append found.messages (message ∷ []))
      );
}

pub cut_behind :
    (number : ℕ) (bytes rest : List ℕ) → AreBlocksAndRest number bytes rest → BeginsNoBlock rest →
    AreCutBlocks number bytes
cut_behind number bytes rest found cut = record { rest = rest; whole = found; cut = cut }

-- The first message read is that of the first block.
pub messages_at-block :
    (number : ℕ) (message rest : List ℕ) → IsMessage message →
    messages_at (suc number) (block message ++ rest) ≡ message ∷ messages_at number rest
unfolding messages_at
messages_at-block number message rest fits =
    let len : big_number 2 (be16 (length message) ++ (message ++ rest)) ≡ length message =
    big_number-be16 (length message) (message ++ rest) fits
    in
    rw (len, take_at message rest (length message) refl, drop_at message rest (length message) refl) refl

-- The blocks of some messages read as these messages, whatever bytes follow.
pub messages_at-blocks :
    (messages : List (List ℕ)) (rest : List ℕ) → AllByRecursion IsMessage messages →
    messages_at (length messages) (blocks messages ++ rest) ≡ messages
unfolding messages_at
messages_at-blocks [] rest each = refl
messages_at-blocks (message ∷ messages) rest each =
    ap (messages_at (suc (length messages))) (append_assoc (block message) (blocks messages) rest)
    ∙ messages_at-block (length messages) message (blocks messages ++ rest) each.0
    ∙ ap (λ (t : List (List ℕ)). message ∷ t) (messages_at-blocks messages rest each.1)

-- Whole blocks that nothing follows are all of the bytes.
pub are_blocks :
    (number : ℕ) (bytes rest : List ℕ) → AreBlocksAndRest number bytes rest → rest ≡ [] → AreBlocks number bytes
are_blocks number bytes rest found none =
    let all : bytes ≡ blocks found.messages =
    found.parts ∙ ap (λ (t : List ℕ). blocks found.messages ++ t) none ∙ append-nil (blocks found.messages)
    in
    let read : messages_at number bytes ≡ found.messages =
    ap (λ (n : ℕ). messages_at n bytes) (sym found.counted)
    ∙ ap (messages_at (length found.messages)) (all ∙ sym (append-nil (blocks found.messages)))
    ∙ messages_at-blocks found.messages [] found.each
    in
    record {
      spelled = all ∙ ap blocks (sym read);
      number = ap (λ (t : List (List ℕ)). length t) read ∙ found.counted;
      each = subst (λ (t : List (List ℕ)). AllByRecursion IsMessage t) (sym read) found.each;
    }

-- The first of the remaining blocks, and the blocks after it.
pub record FirstBlock (left number : ℕ) (bytes message rest : List ℕ) : Type 0 where
  pub first : messages_at left bytes ≡ message ∷ messages_at number rest
  pub others : AreBlocks number rest

first_of_more :
    (number : ℕ) (bytes message rest : List ℕ) → AreBlocks (suc number) bytes → IsBlockAndRest bytes message rest →
    FirstBlock (suc number) number bytes message rest
first_of_more number bytes message rest whole found =
    let first : messages_at (suc number) bytes ≡ message ∷ messages_at number rest =
    ap (messages_at (suc number)) found.parts ∙ messages_at-block number message rest found.each
    in
    let both : block message ++ rest ≡ block message ++ blocks (messages_at number rest) =
    sym found.parts ∙ whole.spelled ∙ ap blocks first
    in
    let each : AllByRecursion IsMessage (message ∷ messages_at number rest) =
    subst (λ (t : List (List ℕ)). AllByRecursion IsMessage t) first whole.each
    in
    record {
      first = first;
      others = record {
        spelled = append_cancel_left (block message) rest (blocks (messages_at number rest)) both;
        number = omega (arith, whole.number, ap (λ (t : List (List ℕ)). length t) first);
        each = each.1;
      };
    }

pub first_block :
    (left number : ℕ) (bytes message rest : List ℕ) → left ≡ suc number → AreBlocks left bytes →
    IsBlockAndRest bytes message rest → FirstBlock left number bytes message rest
first_block left number bytes message rest more whole found =
    subst (λ (n : ℕ). FirstBlock n number bytes message rest) (sym more)
    (first_of_more number bytes message rest (subst (λ (n : ℕ). AreBlocks n bytes) more whole) found)

begins_of_more : (number : ℕ) (bytes : List ℕ) → AreBlocks (suc number) bytes → BeginsNoBlock bytes → ⊥
unfolding messages_at
begins_of_more number bytes whole none =
    let behind = drop (big_number 2 bytes) (drop 2 bytes) in
    none
    (take (big_number 2 bytes) (drop 2 bytes))
    (blocks (messages_at number behind))
    whole.each.0
    whole.spelled

-- If whole blocks remain, the bytes start with a whole block.
pub block_begins : (left : ℕ) (bytes : List ℕ) → 0 < left → AreBlocks left bytes → BeginsNoBlock bytes → ⊥
block_begins left bytes more whole none =
    let e : left ≡ suc (left - 1) = omega arith in
    begins_of_more (left - 1) bytes (subst (λ (n : ℕ). AreBlocks n bytes) e whole) none

-- The blocks of two lists with the same number of messages are equal exactly when the messages are equal.
pub same_blocks :
    (count number : ℕ) (one other : List ℕ) → count ≡ number → AreBlocks count one → AreBlocks number other →
    pointwise ◌==◌ one other ≡ pointwise (pointwise ◌==◌) (messages_at count one) (messages_at number other)
same_blocks count number one other same_number is also =
    let messages = pointwise_decides bytes_decides (messages_at count one) (messages_at number other) in
    one_answer (pointwise ◌==◌ one other)
    (pointwise (pointwise ◌==◌) (messages_at count one) (messages_at number other))
    (bytes_decides one other) (
      λ same. is.spelled ∙ ap blocks (messages.0 same) ∙ sym also.spelled,
      λ same. messages.1 (ap (messages_at count) same ∙ ap (λ (n : ℕ). messages_at n other) same_number),
    )

pub ruleset skipped = (blocks_none, blocks_more, cut_behind)
