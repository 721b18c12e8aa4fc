-- Messages by the offsets at which they end.
use Rattle.std.proofs.Common.{◌≡◌, ℕ, zero, suc, ◌+◌, ◌-◌, ◌<◌, ◌≤◌, List, [], ◌∷◌, ◌++◌, length, length-append}
use Rattle.std.proofs.Common.{get_or, take, drop, min, refl, sym, ap, subst, ◌∙◌, Some, arith, slice_get}
use Rattle.std.proofs.Common.{add-one, set}
use Rattle.std.proofs.lemmas.List.{take_rest, drop_min, drop_at, take_all, length-take-le}
use Rattle.std.proofs.lemmas.List.{length-drop, take-append-le, drop-append-le, take-append-drop}
use Rattle.std.proofs.lemmas.List.Sums.{sum_by-cons}
use Rattle.mold_messages.specs.Listed.{byte_count, extended}
use Rattle.mold_messages.specs.Offsets.{pieces, IsRising, start_at}

pub length-pieces : (s start : ℕ) (ends bytes : List ℕ) → length (pieces s start ends bytes) ≡ length ends
unfolding pieces
length-pieces s start [] bytes = refl
length-pieces s start (end ∷ ends) bytes = ap suc (length-pieces s end ends bytes)

-- The first offset is at most the last one.
pub rising_within : (s start : ℕ) (ends : List ℕ) (total : ℕ) → IsRising s start ends total → start ≤ total
unfolding IsRising
rising_within s start [] total rising = omega (arith, rising)
rising_within s start (end ∷ ends) total rising = omega (arith, rising.0, rising_within s end ends total rising.1)

-- A message ends where the next one starts.
pub place_behind :
    (start : ℕ) (ends : List ℕ) (i d : ℕ) → i < length ends → start_at start ends (suc i) ≡ get_or ends i d
unfolding start_at
place_behind start [] i d within = absurd (omega arith)
place_behind start (end ∷ ends) zero d within = refl
place_behind start (end ∷ ends) (suc i) d within = place_behind end ends i d (omega arith)

pub place_first : (start : ℕ) (ends : List ℕ) → start_at start ends zero ≡ start
unfolding start_at
place_first start [] = refl
place_first start (end ∷ ends) = refl

-- The messages from an index on.
pub pieces-drop :
    (s start : ℕ) (ends bytes : List ℕ) (i : ℕ) →
    drop i (pieces s start ends bytes) ≡ pieces s (start_at start ends i) (drop i ends) bytes
unfolding pieces start_at
pieces-drop s start [] bytes zero = refl
pieces-drop s start [] bytes (suc i) = refl
pieces-drop s start (end ∷ ends) bytes zero = refl
pieces-drop s start (end ∷ ends) bytes (suc i) = pieces-drop s end ends bytes i

pub rising-drop :
    (s start : ℕ) (ends : List ℕ) (total i : ℕ) → IsRising s start ends total →
    IsRising s (start_at start ends i) (drop i ends) total
unfolding IsRising start_at
rising-drop s start [] total zero rising = rising
rising-drop s start [] total (suc i) rising = rising
rising-drop s start (end ∷ ends) total zero rising = rising
rising-drop s start (end ∷ ends) total (suc i) rising = rising-drop s end ends total i rising.1

pub start_at-drop :
    (start : ℕ) (ends : List ℕ) (i n : ℕ) → i ≤ length ends →
    start_at (start_at start ends i) (drop i ends) n ≡ start_at start ends (i + n)
unfolding start_at
start_at-drop start [] zero n within = ap (start_at start []) (sym (omega arith))
start_at-drop start [] (suc i) n within = absurd (omega arith)
start_at-drop start (end ∷ ends) zero n within = ap (start_at start (end ∷ ends)) (omega arith)
start_at-drop start (end ∷ ends) (suc i) n within =
    let e : suc i + n ≡ suc (i + n) = omega arith in
    start_at-drop end ends i n (omega arith) ∙ sym (ap (start_at start (end ∷ ends)) e)

-- A later message does not start before an earlier one.
pub place_later :
    (s start : ℕ) (ends : List ℕ) (total i : ℕ) → IsRising s start ends total → start ≤ start_at start ends i
unfolding IsRising start_at
place_later s start [] total zero rising = omega arith
place_later s start [] total (suc i) rising = omega arith
place_later s start (end ∷ ends) total zero rising = omega arith
place_later s start (end ∷ ends) total (suc i) rising = omega (arith, rising.0, place_later s end ends total i rising.1)

pub place_within :
    (s start : ℕ) (ends : List ℕ) (total i : ℕ) → IsRising s start ends total → start_at start ends i ≤ total
place_within s start ends total i rising = rising_within s (start_at start ends i) (drop i ends) total
    (rising-drop s start ends total i rising)

pub place_ordered :
    (s start : ℕ) (ends : List ℕ) (total i j : ℕ) → IsRising s start ends total → i ≤ j → j ≤ length ends →
    start_at start ends i ≤ start_at start ends j
place_ordered s start ends total i j rising ordered within =
    let e : i + (j - i) ≡ j = omega arith in
    let same : start_at (start_at start ends i) (drop i ends) (j - i) ≡ start_at start ends j =
    start_at-drop start ends i (j - i) (omega arith) ∙ ap (start_at start ends) e
    in
    omega (
      arith,
      same,
      place_later s (start_at start ends i) (drop i ends) total (j - i)
          (rising-drop s start ends total i rising),
    )

-- A message starts after the bytes before it.
pub place_next :
    (s start : ℕ) (ends : List ℕ) (total i : ℕ) → IsRising s start ends total → i < length ends →
    start_at start ends i + s ≤ start_at start ends (suc i)
unfolding IsRising start_at
place_next s start [] total i rising within = absurd (omega arith)
place_next s start (end ∷ ends) total zero rising within = omega (arith, rising.0, place_first end ends)
place_next s start (end ∷ ends) total (suc i) rising within = place_next s end ends total i rising.1 (omega arith)

-- The message at an index of the list.
pub piece_at :
    (s start : ℕ) (ends bytes : List ℕ) (i : ℕ) → i < length ends →
    slice_get (pieces s start ends bytes) i ≡ Some
    (take (start_at start ends (suc i) - (start_at start ends i + s)) (drop (start_at start ends i + s) bytes))
unfolding pieces start_at
piece_at s start [] bytes i within = absurd (omega arith)
piece_at s start (end ∷ ends) bytes zero within = ap (λ (n : ℕ). Some (take (n - (start + s)) (drop (start + s) bytes)))
    (sym (place_first end ends))
piece_at s start (end ∷ ends) bytes (suc i) within = piece_at s end ends bytes i (omega arith)

-- A part of the bytes stays the same if more bytes follow.
pub part_of_front :
    (start end : ℕ) (bytes more : List ℕ) → start ≤ end → end ≤ length bytes →
    take (end - start) (drop start (bytes ++ more)) ≡ take (end - start) (drop start bytes)
part_of_front start end bytes more ordered within =
    ap (λ (t : List ℕ). take (end - start) t) (drop-append-le start bytes more (omega arith))
    ∙ take-append-le (end - start) (drop start bytes) more (omega (arith, length-drop start bytes))

-- Bytes after the last message do not change the messages.
pub pieces_front :
    (s start : ℕ) (ends : List ℕ) (total : ℕ) (bytes more : List ℕ) → IsRising s start ends total →
    total ≤ length bytes → pieces s start ends (bytes ++ more) ≡ pieces s start ends bytes
unfolding pieces IsRising
pieces_front s start [] total bytes more rising fits = refl
pieces_front s start (end ∷ ends) total bytes more rising fits =
    let same : take (end - (start + s)) (drop (start + s) (bytes ++ more)) ≡ take (end - (start + s))
    (drop (start + s) bytes) =
    part_of_front (start + s) end bytes more rising.0 (omega (arith, rising_within s end ends total rising.1, fits))
    in
    ap (λ (t : List ℕ). t ∷ pieces s end ends (bytes ++ more)) same
    ∙ ap (λ (t : List (List ℕ)). take (end - (start + s)) (drop (start + s) bytes) ∷ t)
    (pieces_front s end ends total bytes more rising.1 fits)

-- The messages with one more.
pub pieces_push :
    (s start : ℕ) (ends bytes : List ℕ) (end : ℕ) →
    pieces s start (ends ++ end ∷ []) bytes ≡ pieces s start ends bytes ++ take
    (end - (start_at start ends (length ends) + s)) (drop (start_at start ends (length ends) + s) bytes) ∷ []
unfolding pieces start_at
pieces_push s start [] bytes end = refl
pieces_push s start (first ∷ ends) bytes end =
    ap (λ (t : List (List ℕ)). take (first - (start + s)) (drop (start + s) bytes) ∷ t)
    (pieces_push s first ends bytes end)

pub rising_push :
    (s start : ℕ) (ends : List ℕ) (total end : ℕ) → IsRising s start ends total → total + s ≤ end →
    IsRising s start (ends ++ end ∷ []) end
unfolding IsRising
rising_push s start [] total end rising more = (omega (arith, rising), refl)
rising_push s start (first ∷ ends) total end rising more = (rising.0, rising_push s first ends total end rising.1 more)

-- The first `n` messages.
pub pieces-take :
    (s start : ℕ) (ends bytes : List ℕ) (n : ℕ) →
    take n (pieces s start ends bytes) ≡ pieces s start (take n ends) bytes
unfolding pieces
pieces-take s start [] bytes zero = refl
pieces-take s start [] bytes (suc n) = refl
pieces-take s start (end ∷ ends) bytes zero = refl
pieces-take s start (end ∷ ends) bytes (suc n) =
    ap (λ (t : List (List ℕ)). take (end - (start + s)) (drop (start + s) bytes) ∷ t) (pieces-take s end ends bytes n)

pub rising-take :
    (s start : ℕ) (ends : List ℕ) (total n : ℕ) → IsRising s start ends total →
    IsRising s start (take n ends) (start_at start ends n)
unfolding IsRising start_at
rising-take s start [] total zero rising = refl
rising-take s start [] total (suc n) rising = refl
rising-take s start (end ∷ ends) total zero rising = refl
rising-take s start (end ∷ ends) total (suc n) rising = (rising.0, rising-take s end ends total n rising.1)

pub rising_cut :
    (s start : ℕ) (ends bytes : List ℕ) (n : ℕ) → IsRising s start ends (length bytes) →
    IsRising s start (take n ends) (length (take (start_at start ends n) bytes))
rising_cut s start ends bytes n rising =
    subst (λ (m : ℕ). IsRising s start (take n ends) m)
    (sym (length-take-le (start_at start ends n) bytes (place_within s start ends (length bytes) n rising)))
    (rising-take s start ends (length bytes) n rising)

-- Bytes after the last message can be discarded.
pub pieces_tight :
    (s start : ℕ) (ends : List ℕ) (total : ℕ) (bytes : List ℕ) → IsRising s start ends total → total ≤ length bytes →
    pieces s start ends (take total bytes) ≡ pieces s start ends bytes
pieces_tight s start ends total bytes rising fits =
    sym (pieces_front s start ends total (take total bytes) (drop total bytes) rising
    (omega (arith, length-take-le total bytes fits)))
    ∙ ap (λ (t : List ℕ). pieces s start ends t) (take-append-drop total bytes)

pub pieces_cut :
    (s start : ℕ) (ends bytes : List ℕ) (n : ℕ) → IsRising s start ends (length bytes) →
    pieces s start (take n ends) (take (start_at start ends n) bytes) ≡ take n (pieces s start ends bytes)
pieces_cut s start ends bytes n rising =
    pieces_tight s start (take n ends) (start_at start ends n) bytes (rising-take s start ends (length bytes) n rising)
    (place_within s start ends (length bytes) n rising)
    ∙ sym (pieces-take s start ends bytes n)

-- The length of the first messages together is the offset of the next one.
joined_front :
    (start : ℕ) (ends bytes : List ℕ) (n : ℕ) → IsRising 0 start ends (length bytes) →
    start + byte_count (take n (pieces 0 start ends bytes)) ≡ start_at start ends n
unfolding pieces IsRising start_at
joined_front start [] bytes zero rising = omega arith
joined_front start [] bytes (suc n) rising = omega arith
joined_front start (end ∷ ends) bytes zero rising = omega arith
joined_front start (end ∷ ends) bytes (suc n) rising =
    let piece : List ℕ = take (end - (start + 0)) (drop (start + 0) bytes) in
    let long : length piece ≡ end - (start + 0) =
    length-take-le (end - (start + 0)) (drop (start + 0) bytes)
    (omega (arith, length-drop (start + 0) bytes, rising_within 0 end ends (length bytes) rising.1))
    in
    let more : byte_count (piece ∷ take n (pieces 0 end ends bytes)) ≡ length piece + byte_count
    (take n (pieces 0 end ends bytes)) =
    sum_by-cons (λ (m : List ℕ). length m) piece (take n (pieces 0 end ends bytes))
    in
    omega (arith, long, more, rising.0, joined_front end ends bytes n rising.1)

-- The length of the messages from one index to another together.
pub joined_between :
    (start : ℕ) (ends bytes : List ℕ) (i j : ℕ) → IsRising 0 start ends (length bytes) → i ≤ j → j ≤ length ends →
    start_at start ends i + byte_count (take (j - i) (drop i (pieces 0 start ends bytes))) ≡ start_at start ends j
joined_between start ends bytes i j rising ordered within =
    let e : i + (j - i) ≡ j = omega arith in
    ap (λ (t : List (List ℕ)). start_at start ends i + byte_count (take (j - i) t)) (pieces-drop 0 start ends bytes i)
    ∙ joined_front (start_at start ends i) (drop i ends) bytes (j - i)
    (rising-drop 0 start ends (length bytes) i rising)
    ∙ start_at-drop start ends i (j - i) (omega arith)
    ∙ ap (start_at start ends) e

pub place_last :
    (s start : ℕ) (ends : List ℕ) (total : ℕ) → IsRising s start ends total → start_at start ends (length ends) ≡ total
unfolding IsRising start_at
place_last s start [] total rising = rising
place_last s start (end ∷ ends) total rising = place_last s end ends total rising.1

-- The length of all messages together is the number of bytes.
pub joined_all :
    (ends bytes : List ℕ) → IsRising 0 0 ends (length bytes) → byte_count (pieces 0 0 ends bytes) ≡ length bytes
joined_all ends bytes rising =
    let all : take (length ends) (pieces 0 0 ends bytes) ≡ pieces 0 0 ends bytes =
    take_all (length ends) (pieces 0 0 ends bytes) (omega (arith, length-pieces 0 0 ends bytes))
    in
    let e : 0 + byte_count (take (length ends) (pieces 0 0 ends bytes)) ≡ length bytes =
    joined_front 0 ends bytes (length ends) rising ∙ place_last 0 0 ends (length bytes) rising
    in
    sym (ap byte_count all) ∙ omega (arith, e)

-- No message remains.
pub pieces_none : (s start : ℕ) (ends bytes : List ℕ) → length ends ≡ 0 → pieces s start ends bytes ≡ []
unfolding pieces
pieces_none s start [] bytes none = refl
pieces_none s start (end ∷ ends) bytes none = absurd (omega arith)

-- The first remaining message, and the offsets after it.
pub rising_first :
    (s start : ℕ) (left : List ℕ) (end : ℕ) (ends : List ℕ) (total : ℕ) → left ≡ end ∷ ends →
    IsRising s start left total → (start + s ≤ end) × IsRising s end ends total
unfolding IsRising
rising_first s start left end ends total some rising = subst (λ (t : List ℕ). IsRising s start t total) some rising

pub pieces_first :
    (s start : ℕ) (left : List ℕ) (end : ℕ) (ends bytes : List ℕ) → left ≡ end ∷ ends →
    pieces s start left bytes ≡ take (end - (start + s)) (drop (start + s) bytes) ∷ pieces s end ends bytes
unfolding pieces
pieces_first s start left end ends bytes some = ap (λ (t : List ℕ). pieces s start t bytes) some

-- The bytes from the offset where a message starts to the offset where it ends are that message.
pub piece_is :
    (s : ℕ) (ends bytes lent part : List ℕ) (messages : List (List ℕ)) (i start end : ℕ) → i < length ends →
    start ≡ start_at 0 ends i + s → end ≡ start_at 0 ends (i + 1) → lent ≡ bytes →
    part ≡ take (end - start) (drop start lent) → pieces s 0 ends bytes ≡ messages → Some part ≡ slice_get messages i
piece_is s ends bytes lent part messages i start end within begins stops same is seen =
    let next : i + 1 ≡ suc i = add-one i in
    let found : slice_get (pieces s 0 ends bytes) i ≡ Some
    (take (start_at 0 ends (suc i) - (start_at 0 ends i + s)) (drop (start_at 0 ends i + s) bytes)) =
    piece_at s 0 ends bytes i within
    in
    cc

-- The offsets and messages from an index on.
pub rising_from :
    (ends bytes lent : List ℕ) (first start total : ℕ) → lent ≡ ends → start ≡ start_at 0 ends first →
    total ≡ length bytes → IsRising 0 0 ends (length bytes) →
    IsRising 0 start (take (length lent - first) (drop first lent)) total
rising_from ends bytes lent first start total same begins all rising =
    rw (take_rest lent first, same, begins, all) (rising-drop 0 0 ends (length bytes) first rising)

pub pieces_from :
    (ends bytes lent shared : List ℕ) (messages : List (List ℕ)) (i first start : ℕ) → lent ≡ ends → shared ≡ bytes →
    start ≡ start_at 0 ends first → first ≡ min (length ends) i → pieces 0 0 ends bytes ≡ messages →
    pieces 0 start (take (length lent - first) (drop first lent)) shared ≡ drop i messages
pieces_from ends bytes lent shared messages i first start same all begins least seen =
    let cut : first ≡ min i (length (pieces 0 0 ends bytes)) = omega (arith, length-pieces 0 0 ends bytes) in
    rw (take_rest lent first, same, begins, all, ← seen)
    (sym (pieces-drop 0 0 ends bytes first) ∙ ap (λ (n : ℕ). drop n (pieces 0 0 ends bytes)) cut ∙ drop_min i
    (pieces 0 0 ends bytes))

-- The messages after an offset and bytes were appended.
pub record Pushed (ends bytes message new_ends new_bytes : List ℕ) : Type 0 where
  pub rising : IsRising 0 0 new_ends (length new_bytes)
  pub messages : pieces 0 0 new_ends new_bytes ≡ pieces 0 0 ends bytes ++ message ∷ []

pub pushed :
    (ends bytes message new_ends new_bytes : List ℕ) (end : ℕ) → IsRising 0 0 ends (length bytes) →
    new_ends ≡ ends ++ end ∷ [] → new_bytes ≡ bytes ++ message → end ≡ length new_bytes →
    Pushed ends bytes message new_ends new_bytes
pushed ends bytes message new_ends new_bytes end rising more joined stops =
    let sum : length bytes + length message ≡ end = omega
    (arith, length-append bytes message, ap (λ (t : List ℕ). length t) joined) in
    let last : ℕ = start_at 0 ends (length ends) in
    let at : length bytes ≡ last + 0 = omega (arith, place_last 0 0 ends (length bytes) rising) in
    let all : take (end - (last + 0)) (drop (last + 0) (bytes ++ message)) ≡ message =
    ap (take (end - (last + 0))) (drop_at bytes message (last + 0) at)
    ∙ take_all (end - (last + 0)) message (omega (arith, at, sum))
    in
    record {
      rising = rw (more, ← stops) (rising_push 0 0 ends (length bytes) end rising (omega arith));
      messages = rw (more, joined) (pieces_push 0 0 ends (bytes ++ message) end
          ∙ ap (λ (t : List (List ℕ)). t ++ take (end - (last + 0)) (drop (last + 0) (bytes ++ message)) ∷ [])
          (pieces_front 0 0 ends (length bytes) bytes message rising (omega arith))
          ∙ ap (λ (t : List ℕ). pieces 0 0 ends bytes ++ t ∷ []) all);
    }

-- The messages after offsets and bytes were cut off.
pub record Cut (ends bytes : List ℕ) (keep : ℕ) (new_ends new_bytes : List ℕ) : Type 0 where
  pub rising : IsRising 0 0 new_ends (length new_bytes)
  pub messages : pieces 0 0 new_ends new_bytes ≡ take keep (pieces 0 0 ends bytes)

pub cut :
    (ends bytes : List ℕ) (keep end : ℕ) (new_ends new_bytes : List ℕ) → IsRising 0 0 ends (length bytes) →
    end ≡ start_at 0 ends keep → new_ends ≡ take keep ends → new_bytes ≡ take end bytes →
    Cut ends bytes keep new_ends new_bytes
cut ends bytes keep end new_ends new_bytes rising stops fewer shorter = record {
  rising = rw (fewer, shorter, stops) (rising_cut 0 0 ends bytes keep rising);
  messages = rw (fewer, shorter, stops) (pieces_cut 0 0 ends bytes keep rising);
}

-- The bytes are appended to the last message.
pieces_extend :
    (start : ℕ) (ends bytes more : List ℕ) (end i : ℕ) → length ends ≡ suc i → IsRising 0 start ends (length bytes) →
    length bytes + length more ≡ end →
    pieces 0 start (set ends i end) (bytes ++ more) ≡ extended (pieces 0 start ends bytes) more
unfolding pieces IsRising
pieces_extend start [] bytes more end i last rising sum = absurd (omega arith)
pieces_extend start (first ∷ []) bytes more end zero last rising sum =
    let within : start + 0 ≤ length bytes = omega (arith, rising.0, rising.1) in
    let all : take (first - (start + 0)) (drop (start + 0) bytes) ≡ drop (start + 0) bytes =
    take_all (first - (start + 0)) (drop (start + 0) bytes) (omega (arith, length-drop (start + 0) bytes, rising.1))
    in
    ap (λ (t : List ℕ). t ∷ []) (
    ap (λ (t : List ℕ). take (end - (start + 0)) t) (drop-append-le (start + 0) bytes more within)
    ∙ take_all (end - (start + 0)) (drop (start + 0) bytes ++ more)
    (omega (arith, length-append (drop (start + 0) bytes) more, length-drop (start + 0) bytes))
    ∙ ap (λ (t : List ℕ). t ++ more) (sym all)
    )
pieces_extend start (first ∷ []) bytes more end (suc i) last rising sum = absurd (omega arith)
pieces_extend start (first ∷ second ∷ ends) bytes more end zero last rising sum = absurd (omega arith)
pieces_extend start (first ∷ second ∷ ends) bytes more end (suc i) last rising sum =
    let same : take (first - (start + 0)) (drop (start + 0) (bytes ++ more)) ≡ take (first - (start + 0))
    (drop (start + 0) bytes) =
    part_of_front (start + 0) first bytes more rising.0 (rising_within 0 first (second ∷ ends) (length bytes) rising.1)
    in
    ap (λ (t : List ℕ). t ∷ pieces 0 first (set (second ∷ ends) i end) (bytes ++ more)) same
    ∙ ap (λ (t : List (List ℕ)). take (first - (start + 0)) (drop (start + 0) bytes) ∷ t)
    (pieces_extend first (second ∷ ends) bytes more end i (omega arith) rising.1 sum)

rising_extend :
    (start : ℕ) (ends : List ℕ) (total end i : ℕ) → length ends ≡ suc i → IsRising 0 start ends total → total ≤ end →
    IsRising 0 start (set ends i end) end
unfolding IsRising
rising_extend start [] total end i last rising more = absurd (omega arith)
rising_extend start (first ∷ []) total end zero last rising more = (omega (arith, rising.0, rising.1), refl)
rising_extend start (first ∷ []) total end (suc i) last rising more = absurd (omega arith)
rising_extend start (first ∷ second ∷ ends) total end zero last rising more = absurd (omega arith)
rising_extend start (first ∷ second ∷ ends) total end (suc i) last rising more =
    (rising.0, rising_extend first (second ∷ ends) total end i (omega arith) rising.1 more)

-- The messages after the last offset moved and bytes were appended.
pub record Extended (ends bytes more new_ends new_bytes : List ℕ) : Type 0 where
  pub rising : IsRising 0 0 new_ends (length new_bytes)
  pub messages : pieces 0 0 new_ends new_bytes ≡ extended (pieces 0 0 ends bytes) more

pub extends :
    (ends bytes more new_ends new_bytes : List ℕ) (end i : ℕ) → IsRising 0 0 ends (length bytes) → length ends ≡ i + 1 →
    new_ends ≡ set ends i end → new_bytes ≡ bytes ++ more → end ≡ length new_bytes →
    Extended ends bytes more new_ends new_bytes
extends ends bytes more new_ends new_bytes end i rising last moved joined stops =
    let sum : length bytes + length more ≡ end = omega
    (arith, length-append bytes more, ap (λ (t : List ℕ). length t) joined) in
    let at : length ends ≡ suc i = omega arith in
    record {
      rising = rw (moved, ← stops) (rising_extend 0 ends (length bytes) end i at rising (omega arith));
      messages = rw (moved, joined) (pieces_extend 0 ends bytes more end i at rising sum);
    }
