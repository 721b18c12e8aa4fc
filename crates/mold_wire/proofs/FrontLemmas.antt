-- The longest prefix of a list of messages that fits.
use Rattle.std.proofs.Common.{◌≡◌, ℕ, zero, suc, ◌+◌, ◌-◌, ◌<◌, ◌≤◌, leb, List, [], ◌∷◌, ◌++◌, length, length-append}
use Rattle.std.proofs.Common.{take, drop, refl, sym, ap, subst, ◌∙◌, append_assoc, inl, inr, arith}
use Rattle.std.proofs.lemmas.Bool.{cond_both, cond-true, cases_lt, leb-true, le-leb}
use Rattle.std.proofs.lemmas.List.{append-nil, take_at, take-append-drop, take-append-le}
use Rattle.mold_wire.specs.Packing.{packet_length, Fits, IsFront, front}
use Rattle.mold_wire.proofs.PackingLemmas.{packet_length_of_none, packet_length-more, packet_length-append}
use Rattle.mold_wire.proofs.PackingLemmas.{packet_length_alone, least_packet_length}

-- If the first message fits alone, the longest prefix is that message and the longest prefix of the rest that
-- fits in the remaining bytes.
pub front-more :
    (limit : ℕ) (message : List ℕ) (messages : List (List ℕ)) (most : ℕ) → Fits limit (message ∷ []) →
    front limit (message ∷ messages) (suc most) ≡ message ∷ front (limit - (2 + length message)) messages most
unfolding front
front-more limit message messages most fits =
    cond-true (leb (packet_length (message ∷ [])) limit) _ _ (le-leb (packet_length (message ∷ [])) limit fits)

-- The result of `front` is a prefix of the messages.
front-parts :
    (limit : ℕ) (messages : List (List ℕ)) (most : ℕ) →
    messages ≡ front limit messages most ++ drop (length (front limit messages most)) messages
unfolding front
front-parts limit messages zero = refl
front-parts limit [] (suc most) = refl
front-parts limit (message ∷ messages) (suc most) =
    cond_both (leb (packet_length (message ∷ [])) limit) _ _
    (λ (t : List (List ℕ)). message ∷ messages ≡ t ++ drop (length t) (message ∷ messages))
    (λ _. ap (λ (t : List (List ℕ)). message ∷ t) (front-parts (limit - (2 + length message)) messages most))
    (λ _. refl)

front-few : (limit : ℕ) (messages : List (List ℕ)) (most : ℕ) → length (front limit messages most) ≤ most
unfolding front
front-few limit messages zero = omega arith
front-few limit [] (suc most) = omega arith
front-few limit (message ∷ messages) (suc most) =
    cond_both (leb (packet_length (message ∷ [])) limit) _ _ (λ (t : List (List ℕ)). length t ≤ suc most)
    (λ _. omega (arith, front-few (limit - (2 + length message)) messages most))
    (λ _. omega arith)

front-fits : (limit : ℕ) (messages : List (List ℕ)) (most : ℕ) → 20 ≤ limit → Fits limit (front limit messages most)
unfolding front
front-fits limit messages zero room = omega (arith, packet_length_of_none)
front-fits limit [] (suc most) room = omega (arith, packet_length_of_none)
front-fits limit (message ∷ messages) (suc most) room =
    let left : ℕ = limit - (2 + length message) in
    cond_both (leb (packet_length (message ∷ [])) limit) _ _ (λ (t : List (List ℕ)). Fits limit t)
    (λ alone.
    let fits : packet_length (message ∷ []) ≤ limit = leb-true _ _ alone in
    let behind : Fits left (front left messages most) =
    front-fits left messages most (omega (arith, packet_length_alone message))
    in
    omega (arith, packet_length-more message (front left messages most), packet_length_alone message))
    (λ _. omega (arith, packet_length_of_none))

-- A prefix that fits is at most as long as the result of `front`.
front-longest :
    (limit : ℕ) (messages : List (List ℕ)) (most number : ℕ) → number ≤ most → number ≤ length messages →
    Fits limit (take number messages) → number ≤ length (front limit messages most)
unfolding front
front-longest limit messages most zero few short fits = omega arith
front-longest limit messages zero (suc number) few short fits = absurd (omega arith)
front-longest limit [] (suc most) (suc number) few short fits = absurd (omega arith)
front-longest limit (message ∷ messages) (suc most) (suc number) few short fits =
    let taken : List (List ℕ) = take number messages in
    let left : ℕ = limit - (2 + length message) in
    let all : packet_length (message ∷ taken) ≤ limit = fits in
    let alone : Fits limit (message ∷ []) =
    omega (arith, packet_length-more message taken, least_packet_length taken, packet_length_alone message)
    in
    let behind : number ≤ length (front left messages most) =
    front-longest left messages most number (omega arith) (omega arith)
    (omega (arith, packet_length-more message taken))
    in
    subst (λ (t : List (List ℕ)). suc number ≤ length t) (sym (front-more limit message messages most alone))
    (omega arith)

-- A prefix of length n is the first n elements of the list.
front_taken :
    (messages found behind : List (List ℕ)) → messages ≡ found ++ behind → found ≡ take (length found) messages
front_taken messages found behind parts =
    sym (take_at found behind (length found) refl) ∙ ap (λ (t : List (List ℕ)). take (length found) t) (sym parts)

front_short : (messages found behind : List (List ℕ)) → messages ≡ found ++ behind → length found ≤ length messages
front_short messages found behind parts =
    omega (arith, ap (λ (t : List (List ℕ)). length t) parts, length-append found behind)

pub front_is :
    (limit : ℕ) (messages : List (List ℕ)) (most : ℕ) → 20 ≤ limit →
    IsFront limit messages most (front limit messages most)
front_is limit messages most room = record {
  behind = drop (length (front limit messages most)) messages;
  parts = front-parts limit messages most;
  few = front-few limit messages most;
  fits = front-fits limit messages most room;
  longest = λ other more parts few fits.
      front-longest limit messages most (length other) few (front_short messages other more parts)
      (subst (λ (t : List (List ℕ)). Fits limit t) (front_taken messages other more parts) fits);
}

-- There is only one longest prefix.
pub one_front :
    (limit : ℕ) (messages : List (List ℕ)) (most : ℕ) (one other : List (List ℕ)) → IsFront limit messages most one →
    IsFront limit messages most other → one ≡ other
one_front limit messages most one other is also =
    let same : length one ≡ length other =
    omega (
      arith,
      is.longest other also.behind also.parts also.few also.fits,
      also.longest one is.behind is.parts is.few is.fits,
    )
    in
    front_taken messages one is.behind is.parts
    ∙ ap (λ (n : ℕ). take n messages) same
    ∙ sym (front_taken messages other also.behind also.parts)

pub front_only :
    (limit : ℕ) (messages : List (List ℕ)) (most : ℕ) (found : List (List ℕ)) → IsFront limit messages most found →
    found ≡ front limit messages most
front_only limit messages most found is =
    one_front limit messages most found (front limit messages most) is
    (front_is limit messages most (omega (arith, is.fits, least_packet_length found)))

-- A packet with a prefix of the messages is at most as long as a packet with all of them.
front_within : (one more : List (List ℕ)) → packet_length one ≤ packet_length (one ++ more)
front_within one more = omega (arith, packet_length-append one more, least_packet_length more)

-- The message after a prefix does not fit, if there is one and the prefix has fewer than `most` messages.
abbrev Stops : ℕ → ℕ → List (List ℕ) → List (List ℕ) → Type 0
Stops limit most found behind =
    (next : List ℕ) (more : List (List ℕ)) →
    behind ≡ next ∷ more → length found < most → Fits limit (found ++ next ∷ []) → ⊥

longest_of :
    (limit : ℕ) (messages : List (List ℕ)) (most : ℕ) (found behind : List (List ℕ)) → messages ≡ found ++ behind →
    Stops limit most found behind →
    (other more : List (List ℕ)) → messages ≡ other ++ more → length other ≤ most → Fits limit other →
    length other ≤ length found
longest_of limit messages most found [] parts stops other more others few fits =
    omega (
      arith,
      front_short messages other more others,
      ap (λ (t : List (List ℕ)). length t) parts,
      length-append found [],
    )
longest_of limit messages most found (next ∷ behind) parts stops other more others few fits =
    elim (cases_lt (length found) (length other)) [
      | inl shorter ↦
          let longer : List (List ℕ) = found ++ next ∷ [] in
          let number : length longer ≤ length other = omega (arith, length-append found (next ∷ [])) in
          let laid : messages ≡ longer ++ behind = parts ∙ sym (append_assoc found (next ∷ []) behind) in
          let front_of_other : longer ≡ take (length longer) other =
          front_taken messages longer behind laid
          ∙ ap (λ (t : List (List ℕ)). take (length longer) t) others
          ∙ take-append-le (length longer) other more number
          in
          let whole : other ≡ longer ++ drop (length longer) other =
          sym (take-append-drop (length longer) other)
          ∙ ap (λ (t : List (List ℕ)). t ++ drop (length longer) other) (sym front_of_other)
          in
          let shorter_packet : packet_length longer ≤ packet_length other =
          subst (λ (t : List (List ℕ)). packet_length longer ≤ packet_length t) (sym whole)
          (front_within longer (drop (length longer) other))
          in
          absurd (stops next behind refl (omega arith) (omega arith))
      | inr not_shorter ↦ not_shorter
    ]

-- A prefix that fits is the longest one if the next message, if any, is one too many or does not fit.
pub front_stops :
    (limit : ℕ) (messages : List (List ℕ)) (most : ℕ) (found behind : List (List ℕ)) → messages ≡ found ++ behind →
    length found ≤ most → Fits limit found →
    Stops limit most found behind →
    IsFront limit messages most found
front_stops limit messages most found behind parts few fits stops = record {
  behind = behind;
  parts = parts;
  few = few;
  fits = fits;
  longest = λ other more others few_others fits_others.
      longest_of limit messages most found behind parts stops other more others few_others fits_others;
}

-- If at least one message is allowed and the first one fits alone, the longest prefix is not empty.
pub front_some :
    (limit : ℕ) (message : List ℕ) (messages found : List (List ℕ)) (most : ℕ) →
    IsFront limit (message ∷ messages) most found → 0 < most → Fits limit (message ∷ []) → 0 < length found
front_some limit message messages found most is some fits = is.longest (message ∷ []) messages refl some fits

-- If all messages are allowed and fit, they are the longest prefix.
pub front_whole :
    (limit : ℕ) (messages : List (List ℕ)) (most : ℕ) → length messages ≤ most → Fits limit messages →
    IsFront limit messages most messages
front_whole limit messages most few fits = record {
  behind = [];
  parts = sym (append-nil messages);
  few = few;
  fits = fits;
  longest = λ other more parts few_others fits_others. front_short messages other more parts;
}
