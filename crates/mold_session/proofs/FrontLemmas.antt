-- Longest prefixes of messages: what the laws of mold_wire state about them, for all messages and for the first
-- ones.
use Rattle.std.proofs.Common.{◌≡◌, ℕ, zero, suc, ◌+◌, ◌-◌, ◌<◌, ◌≤◌, List, [], ◌∷◌, ◌++◌, length, length-append, take}
use Rattle.std.proofs.Common.{drop, refl, sym, ap, ◌∙◌, append_assoc, arith}
use Rattle.std.proofs.Math.Seq.{take-append-add}
use Rattle.std.proofs.lemmas.List.{length-take, take-append-drop}
use Rattle.std.specs.List.{AllByRecursion}
use Rattle.mold_wire.specs.declared.packet.Body.TheVariants.{Data}
use Rattle.mold_wire.specs.Packer.{body_with}
use Rattle.mold_wire.specs.Packing.{Fits, IsFront, front}
use Rattle.mold_session.specs.Answer.{FitAlone}
use Rattle.mold_session.specs.Datagrams.{first_part}
use Rattle.mold_session.specs.Journal.{IsWithin}

pub each_drop :
    {X : Type 0} (P : X → Type 0) (n : ℕ) (xs : List X) → AllByRecursion P xs → AllByRecursion P (drop n xs)
each_drop P zero xs each = each
each_drop P (suc n) [] each = tt
each_drop P (suc n) (x ∷ xs) each = each_drop P n xs each.1

pub each_take :
    {X : Type 0} (P : X → Type 0) (n : ℕ) (xs : List X) → AllByRecursion P xs → AllByRecursion P (take n xs)
each_take P zero xs each = tt
each_take P (suc n) [] each = tt
each_take P (suc n) (x ∷ xs) each = (each.0, each_take P n xs each.1)

-- The messages of a journal fit the datagrams of its publisher or server, each by itself.
pub fit_alone :
    (longest limit : ℕ) (messages : List (List ℕ)) → longest + 22 ≤ limit →
    AllByRecursion (IsWithin longest) messages → FitAlone limit messages
fit_alone longest limit [] room each = tt
fit_alone longest limit (message ∷ messages) room each =
    (omega (arith, each.0, room), fit_alone longest limit messages room each.1)

abbrev pub FrontIs : Type 0
FrontIs =
    (limit : ℕ) (messages : List (List ℕ)) (most : ℕ) → 20 ≤ limit →
    IsFront limit messages most (front limit messages most)

abbrev pub OnlyFront : Type 0
OnlyFront =
    (limit : ℕ) (messages : List (List ℕ)) (most : ℕ) (found : List (List ℕ)) → IsFront limit messages most found →
    found ≡ front limit messages most

abbrev pub SomeFront : Type 0
SomeFront =
    (limit : ℕ) (message : List ℕ) (messages found : List (List ℕ)) (most : ℕ) →
    IsFront limit (message ∷ messages) most found → 0 < most → Fits limit (message ∷ []) → 0 < length found

-- A message of `limit - 22` bytes or fewer fits a datagram by itself.
abbrev pub Alone : Type 0
Alone = (limit : ℕ) (message : List ℕ) → length message + 22 ≤ limit → Fits limit (message ∷ [])

-- A prefix has at most as many messages as the list.
pub front_within :
    (limit : ℕ) (messages : List (List ℕ)) (most : ℕ) (found : List (List ℕ)) → IsFront limit messages most found →
    length found ≤ length messages
front_within limit messages most found longest =
    omega (arith, ap (λ (t : List (List ℕ)). length t) longest.parts, length-append found longest.behind)

-- If each message fits by itself, the longest prefix of a list with messages has a message.
pub some_front :
    (limit : ℕ) (messages : List (List ℕ)) (most : ℕ) (found : List (List ℕ)) → SomeFront → Alone →
    FitAlone limit messages → 0 < length messages → 0 < most → IsFront limit messages most found → 0 < length found
some_front limit [] most found some alone each more most_some longest = absurd (omega arith)
some_front limit (message ∷ messages) most found some alone each more most_some longest =
    some limit message messages found most longest most_some (alone limit message each.0)

-- The longest prefix of at most `most` messages is the longest prefix of the first `most` messages.
pub front_of_taken :
    (limit : ℕ) (messages : List (List ℕ)) (most : ℕ) (found : List (List ℕ)) → IsFront limit messages most found →
    IsFront limit (take most messages) (length (take most messages)) found
front_of_taken limit messages most found longest =
    let behind : List (List ℕ) = take (most - length found) longest.behind in
    let sum : most ≡ length found + (most - length found) = omega (arith, longest.few) in
    let parts : take most messages ≡ found ++ behind =
    ap (λ (t : List (List ℕ)). take most t) longest.parts
    ∙ ap (λ (n : ℕ). take n (found ++ longest.behind)) sum
    ∙ take-append-add found longest.behind (most - length found)
    in
    record {
      behind = behind;
      parts = parts;
      few = omega (arith, ap (λ (t : List (List ℕ)). length t) parts, length-append found behind);
      fits = longest.fits;
      longest = λ other more is few fits. longest.longest other (more ++ drop most messages)
          (sym (take-append-drop most messages)
          ∙ ap (λ (t : List (List ℕ)). t ++ drop most messages) is
          ∙ append_assoc other more (drop most messages))
          (omega (arith, few, length-take most messages)) fits;
    }

pub first_of_taken :
    (limit : ℕ) (messages : List (List ℕ)) (most : ℕ) (found : List (List ℕ)) → OnlyFront →
    IsFront limit messages most found → found ≡ first_part limit (take most messages)
first_of_taken limit messages most found only longest =
    only limit (take most messages) (length (take most messages)) found
    (front_of_taken limit messages most found longest)

pub data_body : (messages : List (List ℕ)) → 0 < length messages → body_with messages ≡ Data messages
data_body [] some = absurd (omega arith)
data_body (message ∷ messages) some = refl
