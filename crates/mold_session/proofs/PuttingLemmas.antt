-- Bytes copied to the start of a buffer, one text after another.
use Rattle.std.proofs.Common.{◌≡◌, ℕ, ◌+◌, ◌<◌, ◌^◌, Bool, List, [], ◌∷◌, ◌++◌, length, take, drop, refl, sym, ap, subst, ◌∙◌}
use Rattle.std.proofs.Common.{append_assoc, append-nil, length-append, arith}
use Rattle.std.proofs.lemmas.List.{take_at, drop_at, drop-drop, drop_all}
use Rattle.std.proofs.lemmas.List.Sums.{sum_by-cons}
use Rattle.std.specs.List.{sum_by}
use Rattle.mold_wire.specs.Block.{be16, be64, blocks}
use Rattle.mold_wire.specs.declared.session.Session.{Session}
use Rattle.mold_session.specs.File.{closed_byte, magic_2, head_2, file_length}
use Rattle.mold_session.specs.Journal.{AreMessages}
use Rattle.mold_session.specs.Putting.{Puts, PutsFile}
use Rattle.mold_session.proofs.SavingLemmas.{blocks_one_more, next_within}

pub puts_none : (bytes : List ℕ) → Puts bytes bytes [] 0
puts_none bytes = record { sized = refl; put = refl }

-- A text is copied after the one before it.
pub puts_more :
    (old mid new text more : List ℕ) (used : ℕ) → Puts old mid text used →
    new ≡ take used mid ++ (more ++ drop (length more) (drop used mid)) →
    Puts old new (text ++ more) (used + length more)
puts_more old mid new text more used puts next =
    let fore : take used mid ≡ text =
    ap (λ (t : List ℕ). take used t) puts.put ∙ take_at text (drop used old) used (sym puts.sized)
    in
    let rear : drop used mid ≡ drop used old =
    ap (λ (t : List ℕ). drop used t) puts.put ∙ drop_at text (drop used old) used (sym puts.sized)
    in
    let behind : drop (length more) (drop used mid) ≡ drop (used + length more) old =
    ap (λ (t : List ℕ). drop (length more) t) rear ∙ drop-drop (length more) used old
    in
    record {
      sized = omega (arith, puts.sized, length-append text more);
      put =
          next
          ∙ ap (λ (t : List ℕ). t ++ (more ++ drop (length more) (drop used mid))) fore
          ∙ ap (λ (t : List ℕ). text ++ (more ++ t)) behind
          ∙ sym (append_assoc text more (drop (used + length more) old));
    }

puts_of :
    (old new text same : List ℕ) (used size : ℕ) → text ≡ same → used ≡ size → Puts old new text used →
    Puts old new same size
puts_of old new text same used size is long puts =
    subst (λ (t : List ℕ). Puts old new t size) is (subst (λ (n : ℕ). Puts old new text n) long puts)

-- The buffer has the head and the blocks of the messages in `done`. It has room for the blocks of the messages
-- in `rest`.
pub record Fills (old new head : List ℕ) (all rest : List (List ℕ)) (used : ℕ) : Type 0 where
  pub done : List (List ℕ)
  pub parts : all ≡ done ++ rest
  pub put : Puts old new (head ++ blocks done) used
  pub total : used + sum_by (λ message. 2 + length message) rest ≡ file_length all

pub fills_none :
    (old new head : List ℕ) (all rest : List (List ℕ)) → rest ≡ all → length head ≡ 27 →
    new ≡ take 0 old ++ (head ++ drop (length head) (drop 0 old)) → Fills old new head all rest 27
fills_none old new head all rest same long next = record {
  done = [];
  parts = sym same;
  put = puts_of old new head (head ++ []) (0 + length head) 27 (sym (append-nil head)) (omega (arith, long))
      (puts_more old old new [] head 0 (puts_none old) next);
  total = ap file_length same;
}

-- The buffer has room for the block of the next message.
pub fills_room :
    (old new head : List ℕ) (all left : List (List ℕ)) (message : List ℕ) (rest : List (List ℕ)) (used : ℕ) →
    left ≡ message ∷ rest → Fills old new head all left used →
    used + (2 + length message) + sum_by (λ m. 2 + length m) rest ≡ file_length all
fills_room old new head all left message rest used some fills =
    omega (
      arith,
      fills.total,
      ap (λ (t : List (List ℕ)). sum_by (λ (m : List ℕ). 2 + length m) t) some,
      sum_by-cons (λ (m : List ℕ). 2 + length m) message rest,
    )

pub fills_more :
    (old mid half new head len : List ℕ) (all left : List (List ℕ)) (message : List ℕ) (rest : List (List ℕ))
    (used : ℕ) → left ≡ message ∷ rest → Fills old mid head all left used → len ≡ be16 (length message) →
    half ≡ take used mid ++ (len ++ drop (length len) (drop used mid)) →
    new ≡ take (used + 2) half ++ (message ++ drop (length message) (drop (used + 2) half)) →
    Fills old new head all rest (used + 2 + length message)
fills_more old mid half new head len all left message rest used some fills spelled first second =
    let front : Puts old half ((head ++ blocks fills.done) ++ be16 (length message)) (used + 2) =
    puts_more old mid half (head ++ blocks fills.done) (be16 (length message)) used fills.put
    (subst (λ (t : List ℕ). half ≡ take used mid ++ (t ++ drop (length t) (drop used mid))) spelled first)
    in
    let both :
    Puts old new (((head ++ blocks fills.done) ++ be16 (length message)) ++ message) (used + 2 + length message) =
    puts_more old half new ((head ++ blocks fills.done) ++ be16 (length message)) message (used + 2) front second
    in
    record {
      done = fills.done ++ message ∷ [];
      parts =
          fills.parts
          ∙ ap (λ (t : List (List ℕ)). fills.done ++ t) some
          ∙ sym (append_assoc fills.done (message ∷ []) rest);
      put = subst (λ (t : List ℕ). Puts old new t (used + 2 + length message))
          (append_assoc (head ++ blocks fills.done) (be16 (length message)) message
          ∙ blocks_one_more fills.done message head)
          both;
      total = omega (arith, fills_room old mid head all left message rest used some fills);
    }

-- The next message is no longer than a block allows.
pub fills_fits :
    (old new head : List ℕ) (all left : List (List ℕ)) (message : List ℕ) (rest : List (List ℕ)) (used : ℕ) →
    AreMessages 65535 all → left ≡ message ∷ rest → Fills old new head all left used → length message < 2 ^ 16
fills_fits old new head all left message rest used are some fills =
    next_within all fills.done left message rest are some fills.parts

-- When no message remains, the buffer has the whole file.
pub fills_all :
    (old new : List ℕ) (session : Session) (closed : Bool) (all rest : List (List ℕ)) (used : ℕ) →
    length session.0 ≡ 10 → AreMessages 65535 all → rest ≡ [] →
    Fills old new (head_2 session.0 closed (length all)) all rest used → PutsFile old new session all closed used
fills_all old new session closed all rest used named listed none fills = record {
  file = head_2 session.0 closed (length all) ++ blocks all;
  spelled = record { named = named; listed = listed; spelled = refl };
  put = subst (λ (t : List (List ℕ)). Puts old new (head_2 session.0 closed (length all) ++ blocks t) used)
      (sym (append-nil fills.done) ∙ ap (λ (t : List (List ℕ)). fills.done ++ t) (sym none) ∙ sym fills.parts)
      fills.put;
}

pub fills_size :
    (old new head : List ℕ) (all rest : List (List ℕ)) (used : ℕ) → rest ≡ [] → Fills old new head all rest used →
    used ≡ file_length all
fills_size old new head all rest used none fills =
    omega (arith, fills.total, ap (λ (t : List (List ℕ)). sum_by (λ (m : List ℕ). 2 + length m) t) none)

-- The four parts of a head, one after another, fill the buffer.
pub head_put :
    (zeros a b c bytes magic name flag number : List ℕ) (closed : Bool) (count : ℕ) → length zeros ≡ 27 →
    magic ≡ magic_2 → length magic_2 ≡ 8 → length name ≡ 10 → flag ≡ closed_byte closed ∷ [] → number ≡ be64 count →
    a ≡ take 0 zeros ++ (magic ++ drop (length magic) (drop 0 zeros)) →
    b ≡ take 8 a ++ (name ++ drop (length name) (drop 8 a)) →
    c ≡ take 18 b ++ (flag ++ drop (length flag) (drop 18 b)) →
    bytes ≡ take 19 c ++ (number ++ drop (length number) (drop 19 c)) → bytes ≡ head_2 name closed count
head_put zeros a b c bytes magic name flag number closed count long is_magic eight named is_flag is_number first
    second third fourth =
    let one : Puts zeros a magic_2 8 =
    puts_of zeros a ([] ++ magic) magic_2 (0 + length magic) 8 is_magic
    (omega (arith, ap (λ (t : List ℕ). length t) is_magic, eight))
    (puts_more zeros zeros a [] magic 0 (puts_none zeros) first)
    in
    let two : Puts zeros b (magic_2 ++ name) 18 =
    puts_of zeros b (magic_2 ++ name) (magic_2 ++ name) (8 + length name) 18 refl (omega (arith, named))
    (puts_more zeros a b magic_2 name 8 one second)
    in
    let three : Puts zeros c ((magic_2 ++ name) ++ closed_byte closed ∷ []) 19 =
    puts_of zeros c ((magic_2 ++ name) ++ flag) ((magic_2 ++ name) ++ closed_byte closed ∷ []) (18 + length flag) 19
    (ap (λ (t : List ℕ). (magic_2 ++ name) ++ t) is_flag)
    (omega (arith, ap (λ (t : List ℕ). length t) is_flag))
    (puts_more zeros b c (magic_2 ++ name) flag 18 two third)
    in
    let four : Puts zeros bytes (((magic_2 ++ name) ++ closed_byte closed ∷ []) ++ be64 count) 27 =
    puts_of zeros bytes (((magic_2 ++ name) ++ closed_byte closed ∷ []) ++ number)
    (((magic_2 ++ name) ++ closed_byte closed ∷ []) ++ be64 count) (19 + length number) 27
    (ap (λ (t : List ℕ). ((magic_2 ++ name) ++ closed_byte closed ∷ []) ++ t) is_number)
    (omega (arith, ap (λ (t : List ℕ). length t) is_number))
    (puts_more zeros c bytes ((magic_2 ++ name) ++ closed_byte closed ∷ []) number 19 three fourth)
    in
    four.put
    ∙ ap (λ (t : List ℕ). (((magic_2 ++ name) ++ closed_byte closed ∷ []) ++ be64 count) ++ t)
    (drop_all 27 zeros (omega (arith, long)))
    ∙ append-nil (((magic_2 ++ name) ++ closed_byte closed ∷ []) ++ be64 count)
    ∙ append_assoc (magic_2 ++ name) (closed_byte closed ∷ []) (be64 count)
    ∙ append_assoc magic_2 name (closed_byte closed ∷ be64 count)
