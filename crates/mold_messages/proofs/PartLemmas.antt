-- Messages as parts of bytes.
use Rattle.std.proofs.Common.{◌≡◌, ℕ, zero, suc, ◌+◌, ◌-◌, ◌≤◌, List, [], ◌∷◌, ◌++◌, length}
use Rattle.std.proofs.Common.{take, drop, refl, sym, ap, subst, ◌∙◌, arith}
use Rattle.std.proofs.lemmas.List.{length-take-le}
use Rattle.mold_messages.specs.Offsets.{pieces, IsRising, start_at}
use Rattle.mold_messages.specs.Parts.{AreWithin, Marked, end_of, marked_by}
use Rattle.mold_messages.specs.declared.parts.TheConstants.{SPACING}
use Rattle.mold_messages.proofs.PlaceLemmas.{pieces-take, pieces_front, pieces_push}
use Rattle.mold_messages.proofs.PlaceLemmas.{pieces_tight, place_within, rising-take, rising_push}

-- The last of the first `n` offsets is the offset at which the message before index `n` ends.
last_of_first :
    (start : ℕ) (ends : List ℕ) (n : ℕ) →
    start_at start (take n ends) (length (take n ends)) ≡ start_at start ends n
unfolding start_at
last_of_first start [] zero = refl
last_of_first start [] (suc n) = refl
last_of_first start (end ∷ ends) zero = refl
last_of_first start (end ∷ ends) (suc n) = last_of_first end ends n

last_pushed :
    (start : ℕ) (ends : List ℕ) (end : ℕ) → start_at start (ends ++ end ∷ []) (length (ends ++ end ∷ [])) ≡ end
unfolding start_at
last_pushed start [] end = refl
last_pushed start (first ∷ ends) end = last_pushed first ends end

-- The empty list.
pub within_none : (ends : List ℕ) (total : ℕ) → ends ≡ [] → AreWithin ends total
unfolding IsRising start_at
within_none ends total none = rw none (refl, omega arith)

pub marked_none :
    (ends bytes : List ℕ) → ends ≡ [] → bytes ≡ [] →
    marked_by ends bytes ≡ record { messages = []; end = 0; bytes = [] }
unfolding pieces start_at
marked_none ends bytes none empty = rw (none, empty) refl

-- The list after bytes were appended.
pub marked_append :
    (ends bytes more new_bytes : List ℕ) (old : Marked) → marked_by ends bytes ≡ old → AreWithin ends (length bytes) →
    new_bytes ≡ bytes ++ more → marked_by ends new_bytes ≡ record old { bytes = old.bytes ++ more }
marked_append ends bytes more new_bytes old seen within joined =
    subst (λ (m : Marked). marked_by ends new_bytes ≡ record m { bytes = m.bytes ++ more }) seen
    (ap (marked_by ends) joined
    ∙ ap (λ (t : List (List ℕ)). record (marked_by ends (bytes ++ more)) { messages = t })
    (pieces_front SPACING 0 ends (end_of ends) bytes more within.0 within.1))

-- The list with one more message.
pub within_push :
    (ends new_ends : List ℕ) (total end : ℕ) → AreWithin ends total → end_of ends + SPACING ≤ end → end ≤ total →
    new_ends ≡ ends ++ end ∷ [] → AreWithin new_ends total
within_push ends new_ends total end within apart fits more =
    let last = last_pushed 0 ends end in
    rw more (
      subst (λ (n : ℕ). IsRising SPACING 0 (ends ++ end ∷ []) n) (sym last)
          (rising_push SPACING 0 ends (end_of ends) end within.0 apart),
      omega (arith, last, fits),
    )

pub marked_push :
    (ends new_ends bytes : List ℕ) (end : ℕ) (old : Marked) → marked_by ends bytes ≡ old →
    new_ends ≡ ends ++ end ∷ [] →
    marked_by new_ends bytes ≡ record {
      messages = old.messages ++ take (end - (old.end + SPACING)) (drop (old.end + SPACING) old.bytes) ∷ [];
      end = end;
      bytes = old.bytes;
    }
marked_push ends new_ends bytes end old seen more =
    subst (λ (m : Marked). marked_by new_ends bytes ≡ record {
      messages = m.messages ++ take (end - (m.end + SPACING)) (drop (m.end + SPACING) m.bytes) ∷ [];
      end = end;
      bytes = m.bytes;
    }) seen
    (ap (λ (t : List ℕ). marked_by t bytes) more
    ∙ ap (λ (t : List (List ℕ)). record (marked_by (ends ++ end ∷ []) bytes) { messages = t })
    (pieces_push SPACING 0 ends bytes end)
    ∙ ap (λ (n : ℕ). record {
      messages = pieces SPACING 0 ends bytes ++ take (end - (end_of ends + SPACING))
          (drop (end_of ends + SPACING) bytes) ∷ [];
      end = n;
      bytes = bytes;
    }) (last_pushed 0 ends end))

-- The list without the bytes after the last message.
pub within_cut :
    (ends bytes new_bytes : List ℕ) → AreWithin ends (length bytes) → new_bytes ≡ take (end_of ends) bytes →
    AreWithin ends (length new_bytes)
within_cut ends bytes new_bytes within shorter =
    let long : length new_bytes ≡ end_of ends =
    ap (λ (t : List ℕ). length t) shorter ∙ length-take-le (end_of ends) bytes within.1 in
    (within.0, omega (arith, long))

pub marked_cut :
    (ends bytes new_bytes : List ℕ) (old : Marked) → marked_by ends bytes ≡ old → AreWithin ends (length bytes) →
    new_bytes ≡ take (end_of ends) bytes → marked_by ends new_bytes ≡ record old { bytes = take old.end old.bytes }
marked_cut ends bytes new_bytes old seen within shorter =
    subst (λ (m : Marked). marked_by ends new_bytes ≡ record m { bytes = take m.end m.bytes }) seen
    (ap (marked_by ends) shorter
    ∙ ap (λ (t : List (List ℕ)). record (marked_by ends (take (end_of ends) bytes)) { messages = t })
    (pieces_tight SPACING 0 ends (end_of ends) bytes within.0 within.1))

-- The first `keep` messages of the list.
pub within_fewer :
    (ends : List ℕ) (total keep : ℕ) (new_ends : List ℕ) → AreWithin ends total → new_ends ≡ take keep ends →
    AreWithin new_ends total
within_fewer ends total keep new_ends within fewer =
    let last = last_of_first 0 ends keep in
    rw fewer (
      subst (λ (n : ℕ). IsRising SPACING 0 (take keep ends) n) (sym last)
          (rising-take SPACING 0 ends (end_of ends) keep within.0),
      omega (arith, last, place_within SPACING 0 ends (end_of ends) keep within.0, within.1),
    )

pub parts_fewer :
    (ends bytes : List ℕ) (keep : ℕ) (new_ends : List ℕ) (old : Marked) → marked_by ends bytes ≡ old →
    new_ends ≡ take keep ends → pieces SPACING 0 new_ends bytes ≡ take keep old.messages
parts_fewer ends bytes keep new_ends old seen fewer =
    ap (λ (t : List ℕ). pieces SPACING 0 t bytes) fewer
    ∙ sym (pieces-take SPACING 0 ends bytes keep)
    ∙ ap (λ (m : Marked). take keep m.messages) seen
