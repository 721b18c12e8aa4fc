-- The file of a journal while it is written.
use Rattle.std.proofs.Common.{◌≡◌, ℕ, ◌<◌, ◌≤◌, ◌^◌, Bool, List, [], ◌∷◌, ◌++◌, length, Option, refl, sym, ap, subst, ◌∙◌, append_assoc, append-nil, arith}
use Rattle.std.specs.List.{AllByRecursion}
use Rattle.std.specs.Io.KnownBytes.{Appends}
use Rattle.std.proofs.KnownBytes.{Appends-nil, Appends-trans}
use Rattle.mold_wire.specs.Block.{be16, block, blocks}
use Rattle.mold_wire.specs.declared.session.Session.{Session}
use Rattle.mold_devices.specs.Devices.{AppendsPrefix}
use Rattle.mold_session.specs.File.{head_2, AppendsFile, AppendsFilePrefix}
use Rattle.mold_session.specs.Journal.{AreMessages, IsWithin}
use Rattle.mold_session.specs.Moving.{Moves}
use Rattle.mold_session.proofs.MovingLemmas.{front_more, front_after, moves_both, moves_front_more}

pub blocks-append : (front back : List (List ℕ)) → blocks (front ++ back) ≡ blocks front ++ blocks back
blocks-append [] back = refl
blocks-append (message ∷ front) back =
    ap (λ (t : List ℕ). block message ++ t) (blocks-append front back)
    ∙ sym (append_assoc (block message) (blocks front) (blocks back))

-- The block of a message is put as two parts: its length field and its bytes.
pub block_moves : (old mid new : Option (List ℕ)) (kept len held message still : List ℕ) → len ≡ be16 (length message) →
    Moves old mid kept len held → Moves mid new held message still → Moves old new kept (block message) still
block_moves old mid new kept len held message still same p q =
    subst (λ (t : List ℕ). Moves old new kept (t ++ message) still) same
    (moves_both old mid new kept len held message still p q)

pub block_front : (old new : Option (List ℕ)) (kept len message : List ℕ) → len ≡ be16 (length message) →
    AppendsPrefix old new (kept ++ len) → AppendsPrefix old new (kept ++ block message)
block_front old new kept len message same p =
    subst (AppendsPrefix old new) (append_assoc kept len message ∙ ap (λ (t : List ℕ). kept ++ (t ++ message)) same)
    (front_more old new (kept ++ len) message p)

pub block_front_behind : (old mid new : Option (List ℕ)) (kept len held message : List ℕ) →
    len ≡ be16 (length message) → Moves old mid kept len held → AppendsPrefix mid new (held ++ message) →
    AppendsPrefix old new (kept ++ block message)
block_front_behind old mid new kept len held message same p q =
    subst (λ (t : List ℕ). AppendsPrefix old new (kept ++ (t ++ message))) same
    (moves_front_more old mid new kept len held message p q)

-- The head and the blocks of the messages in `done` were put. The messages in `rest` remain.
pub record Saves (old new : Option (List ℕ)) (head : List ℕ) (all rest : List (List ℕ)) (kept : List ℕ) : Type 0 where
  pub done : List (List ℕ)
  pub parts : all ≡ done ++ rest
  pub moved : Moves old new [] (head ++ blocks done) kept

pub saves_none : (held : Option (List ℕ)) (head : List ℕ) (all rest : List (List ℕ)) (kept : List ℕ) → rest ≡ all →
    kept ≡ head → Saves held held head all rest kept
saves_none held head all rest kept same begun = record {
  done = [];
  parts = sym same;
  moved = record { written = []; parts = append-nil head ∙ sym begun; appended = Appends-nil held };
}

-- The next message has at most 65,535 bytes if all messages do.
each_next : (done : List (List ℕ)) (message : List ℕ) (rest : List (List ℕ)) →
    AllByRecursion (IsWithin 65535) (done ++ message ∷ rest) → length message ≤ 65535
each_next [] message rest each = each.0
each_next (first ∷ done) message rest each = each_next done message rest each.1

pub next_within : (all done left : List (List ℕ)) (message : List ℕ) (rest : List (List ℕ)) → AreMessages 65535 all →
    left ≡ message ∷ rest → all ≡ done ++ left → length message < 2 ^ 16
next_within all done left message rest are some parts =
    let each : length message ≤ 65535 =
    each_next done message rest
    (subst (AllByRecursion (IsWithin 65535)) (parts ∙ ap (λ (t : List (List ℕ)). done ++ t) some) are.each)
    in
    omega (arith, each)

pub next_fits : (old new : Option (List ℕ)) (head : List ℕ) (all left : List (List ℕ)) (message : List ℕ)
    (rest : List (List ℕ)) (kept : List ℕ) → AreMessages 65535 all → left ≡ message ∷ rest →
    Saves old new head all left kept → length message < 2 ^ 16
next_fits old new head all left message rest kept are some saves =
    next_within all saves.done left message rest are some saves.parts

pub blocks_one_more : (done : List (List ℕ)) (message : List ℕ) (head : List ℕ) →
    (head ++ blocks done) ++ block message ≡ head ++ blocks (done ++ message ∷ [])
blocks_one_more done message head =
    append_assoc head (blocks done) (block message)
    ∙ ap (λ (t : List ℕ). head ++ t)
    (ap (λ (t : List ℕ). blocks done ++ t) (sym (append-nil (block message)))
    ∙ sym (blocks-append done (message ∷ [])))

pub saves_more : (old mid new : Option (List ℕ)) (head : List ℕ) (all left : List (List ℕ)) (message : List ℕ)
    (rest : List (List ℕ)) (kept still : List ℕ) → left ≡ message ∷ rest → Saves old mid head all left kept →
    Moves mid new kept (block message) still → Saves old new head all rest still
saves_more old mid new head all left message rest kept still some saves next = record {
  done = saves.done ++ message ∷ [];
  parts =
      saves.parts
      ∙ ap (λ (t : List (List ℕ)). saves.done ++ t) some
      ∙ sym (append_assoc saves.done (message ∷ []) rest);
  moved = subst (λ (t : List ℕ). Moves old new [] t still) (blocks_one_more saves.done message head)
      (moves_both old mid new [] (head ++ blocks saves.done) kept (block message) still saves.moved next);
}

-- The bytes of the whole file are the bytes so far and the blocks of the remaining messages.
whole : (head : List ℕ) (all done rest : List (List ℕ)) → all ≡ done ++ rest →
    (head ++ blocks done) ++ blocks rest ≡ head ++ blocks all
whole head all done rest parts =
    append_assoc head (blocks done) (blocks rest)
    ∙ ap (λ (t : List ℕ). head ++ t) (sym (blocks-append done rest))
    ∙ ap (λ (t : List (List ℕ)). head ++ blocks t) (sym parts)

pub saves_front_in_block : (old mid new : Option (List ℕ)) (head : List ℕ) (all left : List (List ℕ))
    (message : List ℕ) (rest : List (List ℕ)) (kept : List ℕ) → left ≡ message ∷ rest →
    Saves old mid head all left kept → AppendsPrefix mid new (kept ++ block message) →
    AppendsPrefix old new (head ++ blocks all)
saves_front_in_block old mid new head all left message rest kept some saves p =
    let begun : AppendsPrefix old new ((head ++ blocks saves.done) ++ block message) =
    moves_front_more old mid new [] (head ++ blocks saves.done) kept (block message) saves.moved p
    in
    subst (AppendsPrefix old new) (
    append_assoc (head ++ blocks saves.done) (block message) (blocks rest)
    ∙ ap (λ (t : List (List ℕ)). (head ++ blocks saves.done) ++ blocks t) (sym some)
    ∙ whole head all saves.done left saves.parts
    )
    (front_more old new ((head ++ blocks saves.done) ++ block message) (blocks rest) begun)

pub saves_front : (old mid new : Option (List ℕ)) (head : List ℕ) (all rest : List (List ℕ)) (kept : List ℕ) →
    Saves old mid head all rest kept → AppendsPrefix mid new kept → AppendsPrefix old new (head ++ blocks all)
saves_front old mid new head all rest kept saves p =
    let begun : AppendsPrefix old new (head ++ blocks saves.done) =
    subst (AppendsPrefix old new) (sym saves.moved.parts)
    (front_after old mid new saves.moved.written kept saves.moved.appended p)
    in
    subst (AppendsPrefix old new) (whole head all saves.done rest saves.parts)
    (front_more old new (head ++ blocks saves.done) (blocks rest) begun)

pub saves_all : (old mid new : Option (List ℕ)) (head : List ℕ) (all rest : List (List ℕ)) (kept : List ℕ) →
    Saves old mid head all rest kept → rest ≡ [] → Appends mid new kept → Appends old new (head ++ blocks all)
saves_all old mid new head all rest kept saves none p =
    subst (Appends old new) (
    sym saves.moved.parts
    ∙ sym (append-nil (head ++ blocks saves.done))
    ∙ ap (λ (t : List (List ℕ)). (head ++ blocks saves.done) ++ blocks t) (sym none)
    ∙ whole head all saves.done rest saves.parts
    )
    (Appends-trans old mid new saves.moved.written kept saves.moved.appended p)

-- The written bytes are the file of a journal, or a prefix of it.
pub file_saved : (old new : Option (List ℕ)) (session : Session) (closed : Bool) (count : ℕ)
    (messages : List (List ℕ)) → length session.0 ≡ 10 → AreMessages 65535 messages → count ≡ length messages →
    Appends old new (head_2 session.0 closed count ++ blocks messages) → AppendsFile old new session messages closed
file_saved old new session closed count messages named listed counted p = record {
  file = head_2 session.0 closed count ++ blocks messages;
  spelled = record {
    named = named;
    listed = listed;
    spelled = ap (λ (n : ℕ). head_2 session.0 closed n ++ blocks messages) counted;
  };
  appended = p;
}

pub file_begun : (old new : Option (List ℕ)) (session : Session) (closed : Bool) (count : ℕ)
    (messages : List (List ℕ)) → length session.0 ≡ 10 → AreMessages 65535 messages → count ≡ length messages →
    AppendsPrefix old new (head_2 session.0 closed count ++ blocks messages) →
    AppendsFilePrefix old new session messages closed
file_begun old new session closed count messages named listed counted p = record {
  file = head_2 session.0 closed count ++ blocks messages;
  spelled = record {
    named = named;
    listed = listed;
    spelled = ap (λ (n : ℕ). head_2 session.0 closed n ++ blocks messages) counted;
  };
  appended = p;
}

-- A message within a bound of 16 bits is within the bound of a block.
each_within : (most : ℕ) (messages : List (List ℕ)) → most < 65536 → AllByRecursion (IsWithin most) messages →
    AllByRecursion (IsWithin 65535) messages
each_within most [] bound each = tt
each_within most (message ∷ messages) bound each =
    let first : length message ≤ most = each.0 in
    (omega (arith, first), each_within most messages bound each.1)

pub are_file_messages : (most : ℕ) (messages : List (List ℕ)) → most < 65536 → AreMessages most messages →
    AreMessages 65535 messages
are_file_messages most messages bound are =
    record { few = are.few; each = each_within most messages bound are.each }
