-- Messages by the offsets at which they end.
use Rattle.std.proofs.Common.{◌≡◌, ℕ, zero, suc, ◌+◌, ◌-◌, ◌<◌, ◌≤◌, List, [], ◌∷◌, ◌++◌, length, length-append, take, drop}
use Rattle.std.proofs.Common.{get_or, refl, sym, ap, ◌∙◌, inl, inr, Some, slice_get, arith}
use Rattle.std.proofs.lemmas.Bool.{cases_lt}
use Rattle.std.proofs.lemmas.List.{get_or_append_left, get_or_push, get_or-take, length_push, length-take-le, length-drop, take_all}
use Rattle.std.proofs.lemmas.List.{take-append-le, drop-append-le, drop_at, take-append-drop}
use Rattle.std.proofs.lemmas.List.FromFn.{length-map-range_with_len, get_or-map-range_with_len, fill_by_all}
use Rattle.std.proofs.lemmas.Option.{slice_get-get_or}
use Rattle.mold_capture.specs.Ends.{end_of}
use Rattle.mold_capture.specs.Kept.{piece, pieces, AreEnds}

pub length-pieces : (ends bytes : List ℕ) → length (pieces ends bytes) ≡ length ends
unfolding pieces
length-pieces ends bytes = length-map-range_with_len (piece ends bytes) 0 (length ends)

pub piece_at : (ends bytes : List ℕ) (i : ℕ) → i < length ends → slice_get (pieces ends bytes) i ≡ Some (piece ends bytes i)
unfolding pieces
piece_at ends bytes i within =
    slice_get-get_or (pieces ends bytes) i [] (omega (arith, length-pieces ends bytes))
    ∙ ap Some (get_or-map-range_with_len (piece ends bytes) 0 (length ends) i i [] within (omega arith))

-- A list with the same messages.
same_pieces : (ends bytes : List ℕ) (list : List (List ℕ)) → length list ≡ length ends →
    ((i : ℕ) → i < length ends → get_or list i [] ≡ piece ends bytes i) → pieces ends bytes ≡ list
unfolding pieces
same_pieces ends bytes list long each = sym (fill_by_all (piece ends bytes) list (length ends) [] long each)

get_or-pieces : (ends bytes : List ℕ) (i : ℕ) → i < length ends → get_or (pieces ends bytes) i [] ≡ piece ends bytes i
unfolding pieces
get_or-pieces ends bytes i within =
    get_or-map-range_with_len (piece ends bytes) 0 (length ends) i i [] within (omega arith)

pub pieces_none : (ends bytes : List ℕ) → ends ≡ [] → pieces ends bytes ≡ []
pieces_none ends bytes none =
    same_pieces ends bytes [] (sym (ap (λ (t : List ℕ). length t) none))
    (λ i within. absurd (omega (arith, within, ap (λ (t : List ℕ). length t) none)))

pub ends_none : (ends bytes : List ℕ) → ends ≡ [] → bytes ≡ [] → AreEnds ends bytes
ends_none ends bytes none nothing =
    let no : length ends ≡ 0 = ap (λ (t : List ℕ). length t) none in
    let few : length bytes ≡ 0 = ap (λ (t : List ℕ). length t) nothing in
    record {
      ordered = λ i within. absurd (omega arith);
      last = ap (end_of ends) no ∙ sym few;
    }

rest_ordered : (ends bytes : List ℕ) → AreEnds ends bytes → (i n : ℕ) → i + n ≡ length ends → end_of ends i ≤ length bytes
rest_ordered ends bytes are i zero all =
    let here : i ≡ length ends = omega arith in
    omega (arith, ap (end_of ends) here, are.last)
rest_ordered ends bytes are i (suc n) all =
    omega (arith, are.ordered i (omega arith), rest_ordered ends bytes are (suc i) n (omega arith))

-- Each message ends within the bytes.
pub end_within : (ends bytes : List ℕ) → AreEnds ends bytes → (i : ℕ) → i ≤ length ends → end_of ends i ≤ length bytes
end_within ends bytes are i within = rest_ordered ends bytes are i (length ends - i) (omega arith)

end_append : (ends : List ℕ) (end i : ℕ) → i ≤ length ends → end_of (ends ++ end ∷ []) i ≡ end_of ends i
end_append ends end zero within = refl
end_append ends end (suc i) within = get_or_append_left ends (end ∷ []) 0 i (omega arith)

-- The messages with one more.
pub record IsPushed (ends bytes message now more : List ℕ) : Type 0 where
  pub are : AreEnds ends bytes
  pub ends_more : now ≡ ends ++ (end_of ends (length ends) + length message) ∷ []
  pub bytes_more : more ≡ bytes ++ message

new_end : (ends bytes message now more : List ℕ) → IsPushed ends bytes message now more → (i : ℕ) →
    i ≡ suc (length ends) → end_of now i ≡ length bytes + length message
new_end ends bytes message now more is zero here = absurd (omega (arith, here))
new_end ends bytes message now more is (suc i) here =
    ap (λ (t : List ℕ). get_or t i 0) is.ends_more
    ∙ get_or_push ends (end_of ends (length ends) + length message) 0 i (omega (arith, here))
    ∙ ap (λ (n : ℕ). n + length message) is.are.last

old_end : (ends bytes message now more : List ℕ) → IsPushed ends bytes message now more → (i : ℕ) →
    i ≤ length ends → end_of now i ≡ end_of ends i
old_end ends bytes message now more is i within =
    ap (λ (t : List ℕ). end_of t i) is.ends_more
    ∙ end_append ends (end_of ends (length ends) + length message) i within

part_of_front : (start end : ℕ) (bytes more : List ℕ) → start ≤ end → end ≤ length bytes →
    take (end - start) (drop start (bytes ++ more)) ≡ take (end - start) (drop start bytes)
part_of_front start end bytes more ordered within =
    ap (λ (t : List ℕ). take (end - start) t) (drop-append-le start bytes more (omega arith))
    ∙ take-append-le (end - start) (drop start bytes) more (omega (arith, length-drop start bytes))

push_piece : (ends bytes message now more : List ℕ) → IsPushed ends bytes message now more → (i : ℕ) →
    i < length ends + 1 → get_or (pieces ends bytes ++ message ∷ []) i [] ≡ piece now more i
push_piece ends bytes message now more is i within =
    elim (cases_lt i (length ends)) [
      | inl old ↦
          let start = old_end ends bytes message now more is i (omega arith) in
          let end = old_end ends bytes message now more is (suc i) (omega arith) in
          get_or_append_left (pieces ends bytes) (message ∷ []) [] i (omega (arith, old, length-pieces ends bytes))
          ∙ get_or-pieces ends bytes i old
          ∙ sym (part_of_front (end_of ends i) (end_of ends (suc i)) bytes message (is.are.ordered i old)
          (end_within ends bytes is.are (suc i) (omega arith)))
          ∙ ap (λ (t : List ℕ). take (end_of ends (suc i) - end_of ends i) (drop (end_of ends i) t)) (sym is.bytes_more)
          ∙ (λ j. take (sym end j - sym start j) (drop (sym start j) more))
      | inr new ↦
          let here : i ≡ length ends = omega arith in
          let start : end_of now i ≡ length bytes =
          old_end ends bytes message now more is i (omega arith) ∙ ap (end_of ends) here ∙ is.are.last in
          let end : end_of now (suc i) ≡ length bytes + length message =
          new_end ends bytes message now more is (suc i) (ap suc here) in
          let size : end_of now (suc i) - end_of now i ≡ length message = omega (arith, start, end) in
          get_or_push (pieces ends bytes) message [] i (length-pieces ends bytes ∙ sym here)
          ∙ sym (take_all (length message) message (omega arith))
          ∙ ap (take (length message)) (sym (drop_at bytes message (length bytes) refl))
          ∙ (λ j. take (sym size j) (drop (sym start j) (sym is.bytes_more j)))
    ]

pub pieces_push : (ends bytes message now more : List ℕ) → IsPushed ends bytes message now more →
    pieces now more ≡ pieces ends bytes ++ message ∷ []
pieces_push ends bytes message now more is =
    let long : length now ≡ length ends + 1 =
    ap (λ (t : List ℕ). length t) is.ends_more ∙ length_push ends (end_of ends (length ends) + length message) in
    same_pieces now more (pieces ends bytes ++ message ∷ [])
    (omega (arith, long, length_push (pieces ends bytes) message, length-pieces ends bytes))
    (λ i within. push_piece ends bytes message now more is i (omega (arith, within, long)))

pub ends_push : (ends bytes message now more : List ℕ) → IsPushed ends bytes message now more → AreEnds now more
ends_push ends bytes message now more is =
    let long : length now ≡ length ends + 1 =
    ap (λ (t : List ℕ). length t) is.ends_more ∙ length_push ends (end_of ends (length ends) + length message) in
    let all : length more ≡ length bytes + length message =
    ap (λ (t : List ℕ). length t) is.bytes_more ∙ length-append bytes message in
    record {
      ordered = λ i within.
          elim (cases_lt i (length ends)) [
            | inl old ↦
                omega (
                  arith,
                  is.are.ordered i old,
                  old_end ends bytes message now more is i (omega arith),
                  old_end ends bytes message now more is (suc i) (omega arith),
                )
            | inr new ↦
                let here : i ≡ length ends = omega (arith, within, long, new) in
                omega (
                  arith,
                  old_end ends bytes message now more is i (omega arith),
                  ap (end_of ends) here,
                  is.are.last,
                  new_end ends bytes message now more is (suc i) (ap suc here),
                )
          ];
      last =
          let here : length now ≡ suc (length ends) = omega (arith, long) in
          new_end ends bytes message now more is (length now) here ∙ sym all;
    }

-- The first messages.
pub record IsCut (ends bytes : List ℕ) (keep : ℕ) (now fewer : List ℕ) : Type 0 where
  pub are : AreEnds ends bytes
  pub within : keep ≤ length ends
  pub ends_cut : now ≡ take keep ends
  pub bytes_cut : fewer ≡ take (end_of ends keep) bytes

cut_end : (ends bytes : List ℕ) (keep : ℕ) (now fewer : List ℕ) → IsCut ends bytes keep now fewer → (i : ℕ) → i ≤ keep →
    end_of now i ≡ end_of ends i
cut_end ends bytes keep now fewer cut zero within = refl
cut_end ends bytes keep now fewer cut (suc i) within =
    ap (λ (t : List ℕ). get_or t i 0) cut.ends_cut ∙ get_or-take keep ends i 0 (omega arith)

length-cut : (ends bytes : List ℕ) (keep : ℕ) (now fewer : List ℕ) → IsCut ends bytes keep now fewer → length now ≡ keep
length-cut ends bytes keep now fewer cut =
    ap (λ (t : List ℕ). length t) cut.ends_cut ∙ length-take-le keep ends cut.within

bytes-cut : (ends bytes : List ℕ) (keep : ℕ) (now fewer : List ℕ) → IsCut ends bytes keep now fewer →
    length fewer ≡ end_of ends keep
bytes-cut ends bytes keep now fewer cut =
    ap (λ (t : List ℕ). length t) cut.bytes_cut
    ∙ length-take-le (end_of ends keep) bytes (end_within ends bytes cut.are keep cut.within)

pub ends_cut : (ends bytes : List ℕ) (keep : ℕ) (now fewer : List ℕ) → IsCut ends bytes keep now fewer → AreEnds now fewer
ends_cut ends bytes keep now fewer cut =
    let count = length-cut ends bytes keep now fewer cut in
    record {
      ordered = λ i within.
          omega (
            arith,
            cut.are.ordered i (omega (arith, within, count, cut.within)),
            cut_end ends bytes keep now fewer cut i (omega (arith, within, count)),
            cut_end ends bytes keep now fewer cut (suc i) (omega (arith, within, count)),
          );
      last =
          ap (end_of now) count ∙ cut_end ends bytes keep now fewer cut keep (omega arith)
          ∙ sym (bytes-cut ends bytes keep now fewer cut);
    }

pub pieces_cut : (ends bytes : List ℕ) (keep : ℕ) (now fewer : List ℕ) → IsCut ends bytes keep now fewer →
    pieces now fewer ≡ take keep (pieces ends bytes)
pieces_cut ends bytes keep now fewer cut =
    let count = length-cut ends bytes keep now fewer cut in
    let are = ends_cut ends bytes keep now fewer cut in
    let whole : fewer ++ drop (end_of ends keep) bytes ≡ bytes =
    ap (λ (t : List ℕ). t ++ drop (end_of ends keep) bytes) cut.bytes_cut ∙ take-append-drop (end_of ends keep) bytes in
    same_pieces now fewer (take keep (pieces ends bytes))
    (omega (
      arith,
      count,
      length-take-le keep (pieces ends bytes) (omega (arith, length-pieces ends bytes, cut.within)),
    ))
    (λ i within.
    let start = cut_end ends bytes keep now fewer cut i (omega (arith, within, count)) in
    let end = cut_end ends bytes keep now fewer cut (suc i) (omega (arith, within, count)) in
    get_or-take keep (pieces ends bytes) i [] (omega (arith, within, count))
    ∙ get_or-pieces ends bytes i (omega (arith, within, count, cut.within))
    ∙ (λ j. take (sym end j - sym start j) (drop (sym start j) (sym whole j)))
    ∙ part_of_front (end_of now i) (end_of now (suc i)) fewer (drop (end_of ends keep) bytes) (are.ordered i within)
    (end_within now fewer are (suc i) within))
