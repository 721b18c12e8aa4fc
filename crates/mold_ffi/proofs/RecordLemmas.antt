-- Records that are written to the start of a buffer.
use Rattle.std.proofs.Common.{◌≡◌, ℕ, zero, suc, ◌+◌, ◌-◌, ◌*◌, ◌≤◌, ◌^◌, min, List, [], ◌∷◌, ◌++◌, length, take, drop}
use Rattle.std.proofs.Common.{None, Some, slice_get, inl, inr, refl, sym, ap, subst, ◌∙◌, append_assoc}
use Rattle.std.proofs.Common.{length-append, arith}
use Rattle.std.specs.List.{AllByRecursion}
use Rattle.std.proofs.Math.Seq.{drop-cons}
use Rattle.std.proofs.lemmas.List.{drop_all, append-nil}
use Rattle.std.proofs.lemmas.List.Sums.{sum_by-cons}
use Rattle.std.proofs.lemmas.Option.{slice_get_cases, slice_get_within, get_or_from_slice_get, none-some, same_Some}
use Rattle.mold_wire.specs.Block.{be16}
use Rattle.mold_session.proofs.HeadLemmas.{length-magic_3}
use Rattle.mold_session.proofs.PuttingLemmas.{puts_none, puts_more}
use Rattle.mold_session.specs.File.{file_length}
use Rattle.mold_session.specs.Journal.{IsWithin, message_numbered}
use Rattle.mold_session.specs.Putting.{Puts}
use Rattle.mold_session.specs.Records.{head_3, magic_3, record_of, records}

-- ---- the message with a number

-- A message is the first of those from its number on.
pub found_at :
    (messages : List (List ℕ)) (number : ℕ) (message : List ℕ) → 1 ≤ number →
    Some message ≡ message_numbered messages number →
    drop (number - 1) messages ≡ message ∷ drop (number + 1 - 1) messages
found_at messages number message some is =
    let index = number - 1 in
    let next : number ≡ suc index = omega (arith, some) in
    let here : slice_get messages index ≡ Some message = sym (is ∙ ap (message_numbered messages) next) in
    let after : suc index ≡ number + 1 - 1 = omega (arith, some) in
    drop-cons messages index message (slice_get_within messages index message here)
    ∙ ap (λ (m : List ℕ). m ∷ drop (suc index) messages) (get_or_from_slice_get messages index message message here)
    ∙ ap (λ (n : ℕ). message ∷ drop n messages) after

-- The message with a number is one of the messages.
pub found_within :
    (messages : List (List ℕ)) (number : ℕ) (message : List ℕ) → 1 ≤ number →
    Some message ≡ message_numbered messages number → number ≤ length messages
found_within messages number message some is =
    let index = number - 1 in
    let next : number ≡ suc index = omega (arith, some) in
    let here : slice_get messages index ≡ Some message = sym (is ∙ ap (message_numbered messages) next) in
    omega (arith, slice_get_within messages index message here)

-- If no message has the number, no message is left from there on.
pub none_at :
    (messages : List (List ℕ)) (number : ℕ) → 1 ≤ number → None ≡ message_numbered messages number →
    drop (number - 1) messages ≡ []
none_at messages number some is =
    let index = number - 1 in
    let next : number ≡ suc index = omega (arith, some) in
    let here : slice_get messages index ≡ None = sym (is ∙ ap (message_numbered messages) next) in
    elim (slice_get_cases messages index).1 [
      | inl found ↦ absurd (none-some found.0 (sym here ∙ found.2))
      | inr past ↦ drop_all index messages past.0
    ]

each_at :
    (most : ℕ) (messages : List (List ℕ)) (index : ℕ) (message : List ℕ) → AllByRecursion (IsWithin most) messages →
    slice_get messages index ≡ Some message → length message ≤ most
each_at most [] index message each here = absurd (none-some message here)
each_at most (first ∷ messages) zero message each here =
    subst (λ (m : List ℕ). length m ≤ most) (same_Some first message here) each.0
each_at most (first ∷ messages) (suc index) message each here = each_at most messages index message each.1 here

-- The message with a number is within the limit of the messages.
pub found_short :
    (most : ℕ) (messages : List (List ℕ)) (number : ℕ) (message : List ℕ) → 1 ≤ number →
    AllByRecursion (IsWithin most) messages → Some message ≡ message_numbered messages number → length message ≤ most
found_short most messages number message some each is =
    let index = number - 1 in
    let next : number ≡ suc index = omega (arith, some) in
    each_at most messages index message each (sym (is ∙ ap (message_numbered messages) next))

-- ---- the length of the records

-- The records of a message and of those after it.
pub record_long :
    (message : List ℕ) (rest : List (List ℕ)) →
    length (records (message ∷ rest)) ≡ 4 + length message + length (records rest)
record_long message rest = omega (arith, length-append (record_of message) (records rest))

-- The invariant of the loop that adds the lengths. `size` counts the records before those of the messages `rest`.
pub record HasAdded (all rest : List (List ℕ)) (size : ℕ) : Type 0 where
  pub done : ℕ
  pub total : done + length (records rest) ≡ length (records all)
  pub sized : size ≡ min done (2 ^ 64 - 1)

pub added_none : (all : List (List ℕ)) → HasAdded all all 0
added_none all = record { done = 0; total = omega arith; sized = omega arith }

pub added_more :
    (all left rest : List (List ℕ)) (message : List ℕ) (size : ℕ) → left ≡ message ∷ rest → HasAdded all left size →
    HasAdded all rest (min (size + (4 + length message)) (2 ^ 64 - 1))
added_more all left rest message size some has =
    let long = ap (λ (t : List (List ℕ)). length (records t)) some in
    record {
      done = has.done + (4 + length message);
      total = omega (arith, has.total, long, record_long message rest);
      sized = omega (arith, has.sized);
    }

pub added_all :
    (all left : List (List ℕ)) (size : ℕ) → left ≡ [] → HasAdded all left size →
    size ≡ min (length (records all)) (2 ^ 64 - 1)
added_all all left size none has =
    omega (arith, has.sized, has.total, ap (λ (t : List (List ℕ)). length (records t)) none)

-- ---- the bytes of the records

-- The invariant of the loop that writes the records. The first `used` bytes of the buffer are those before the records
-- of the messages `rest`.
pub record Fills (old new : List ℕ) (all rest : List (List ℕ)) (used : ℕ) : Type 0 where
  pub done : List ℕ
  pub parts : records all ≡ done ++ records rest
  pub put : Puts old new done used

pub fills_none : (bytes : List ℕ) (all : List (List ℕ)) → Fills bytes bytes all all 0
fills_none bytes all = record { done = []; parts = refl; put = puts_none bytes }

-- The buffer has room for the next record.
pub fills_room :
    (old new : List ℕ) (all left rest : List (List ℕ)) (message : List ℕ) (used : ℕ) → left ≡ message ∷ rest →
    length (records all) ≤ length old → Fills old new all left used → used + (4 + length message) ≤ length old
fills_room old new all left rest message used some room fills =
    omega (
      arith,
      room,
      fills.put.sized,
      ap (λ (t : List ℕ). length t) fills.parts,
      length-append fills.done (records left),
      ap (λ (t : List (List ℕ)). length (records t)) some,
      record_long message rest,
    )

pub fills_more :
    (old mid half new head : List ℕ) (all left rest : List (List ℕ)) (message : List ℕ) (used : ℕ) →
    left ≡ message ∷ rest → Fills old mid all left used → head ≡ 1 ∷ 0 ∷ be16 (length message) →
    half ≡ take used mid ++ (head ++ drop (length head) (drop used mid)) →
    new ≡ take (used + 4) half ++ (message ++ drop (length message) (drop (used + 4) half)) →
    Fills old new all rest (used + 4 + length message)
fills_more old mid half new head all left rest message used some fills is_head first second =
    let start = 1 ∷ 0 ∷ be16 (length message) in
    let one : Puts old half (fills.done ++ start) (used + 4) =
    puts_more old mid half fills.done start used fills.put
    (subst (λ (t : List ℕ). half ≡ take used mid ++ (t ++ drop (length t) (drop used mid))) is_head first)
    in
    let two : Puts old new ((fills.done ++ start) ++ message) (used + 4 + length message) =
    puts_more old half new (fills.done ++ start) message (used + 4) one second
    in
    record {
      done = (fills.done ++ start) ++ message;
      parts =
          fills.parts
          ∙ ap (λ (t : List (List ℕ)). fills.done ++ records t) some
          ∙ ap (λ (t : List ℕ). fills.done ++ t) (append_assoc start message (records rest))
          ∙ sym (append_assoc fills.done start (message ++ records rest))
          ∙ sym (append_assoc (fills.done ++ start) message (records rest));
      put = two;
    }

pub fills_all :
    (old new : List ℕ) (all left : List (List ℕ)) (used : ℕ) → left ≡ [] → Fills old new all left used →
    Puts old new (records all) used
fills_all old new all left used none fills =
    subst (λ (t : List ℕ). Puts old new t used)
    (sym (fills.parts ∙ ap (λ (t : List (List ℕ)). fills.done ++ records t) none ∙ append-nil fills.done))
    fills.put

-- ---- the head

-- The two parts of a head over zeros, one after the other, and a shut gate.
pub empty_put :
    (zeros mid bytes magic name : List ℕ) →
    zeros ≡ 0 ∷ 0 ∷ 0 ∷ 0 ∷ 0 ∷ 0 ∷ 0 ∷ 0 ∷ 0 ∷ 0 ∷ 0 ∷ 0 ∷ 0 ∷ 0 ∷ 0 ∷ 0 ∷ 0 ∷ 0 ∷ 0 ∷ [] → magic ≡ magic_3 → length name ≡ 10 →
    mid ≡ take 0 zeros ++ (magic ++ drop (length magic) (drop 0 zeros)) →
    bytes ≡ take 8 mid ++ (name ++ drop (length name) (drop 8 mid)) → bytes ≡ head_3 name ++ 0 ∷ []
empty_put zeros mid bytes magic name are is named first second =
    let one : Puts zeros mid magic (0 + length magic) = puts_more zeros zeros mid [] magic 0 (puts_none zeros) first in
    let eight : 0 + length magic ≡ 8 = omega (arith, length-magic_3, ap (λ (t : List ℕ). length t) is) in
    let half : Puts zeros mid magic_3 8 =
    subst (λ (n : ℕ). Puts zeros mid magic_3 n) eight
    (subst (λ (t : List ℕ). Puts zeros mid t (0 + length magic)) is one)
    in
    let two : Puts zeros bytes (magic_3 ++ name) (8 + length name) =
    puts_more zeros mid bytes magic_3 name 8 half second
    in
    let long : 8 + length name ≡ 18 = omega (arith, named) in
    two.put
    ∙ ap (λ (n : ℕ). (magic_3 ++ name) ++ drop n zeros) long
    ∙ ap (λ (t : List ℕ). (magic_3 ++ name) ++ drop 18 t) are

-- ---- the offset of the end

-- A record takes two bytes more than a block.
pub records_long : (messages : List (List ℕ)) →
    length (records messages) + 27 ≡ file_length messages + 2 * length messages
records_long [] = refl
records_long (message ∷ messages) =
    omega (
      arith,
      records_long messages,
      record_long message messages,
      sum_by-cons (λ (m : List ℕ). 2 + length m) message messages,
    )
