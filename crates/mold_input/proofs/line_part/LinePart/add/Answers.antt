use Rattle.std.proofs.Common.{arith, ◌≡◌, ◌∙◌, ◌<◌, ap, sym, subst, List, [], ◌∷◌, ℕ, length, length-append, replicate, ◌++◌, true, false}
use Rattle.mold_input.specs.Entries.{line_entry}
use Rattle.mold_input.specs.LongLines.{IsSameStart, PartState, bytes_of}
use Rattle.mold_input.specs.declared.limits.TheConstants.{MAX_LINE}
use Rattle.mold_input.proofs.LongLemmas.{bad_replaced, digits, digits_counted, not_both, part_bad, part_good, part_length}
use Rattle.mold_input.proofs.line_part.LinePart.add.Goals as goal
use Rattle.mold_input.proofs.line_part.LinePart.add.Goals.{else-self-eq0-via-then-self-eq0+else-bytes-saturating_sub, else-self-eq0-via-else-self-eq0}
use Rattle.mold_input.proofs.line_part.LinePart.add.Goals.{else-are_digits-via-then-are_digits+else-are_digits-2, else-are_digits-via-else-are_digits}

pub returns-then-are_digits-2-clause-same : goal.returns-then-are_digits-2-clause-same
returns-then-are_digits-2-clause-same c =
    let n = c.self.inside.counted in
    let kept = c.self.inside.kept.items in
    let bytes = c.args.bytes.now in
    let all = (replicate n 48 ++ kept) ++ bytes in
    let shown : bytes_of c.args.self.now ≡ replicate n 48 ++ kept = ap bytes_of (sym c.self.view_is) in
    let len : c.in-Some.counted ≡ length all =
    omega (
      arith,
      c.in-Some.ensures,
      ap (λ (t : List ℕ). length t) shown,
      length-append (replicate n 48 ++ kept) bytes,
    ) in
    let first : digits kept ≡ true =
    ap digits (sym c.as_slice.ensures.value) ∙ sym c.are_digits.ensures ∙ c.if-are_digits.true in
    let second : digits bytes ≡ true = sym c.are_digits-then-are_digits.ensures ∙ c.if-are_digits-2.true in
    let long : MAX_LINE < c.in-Some.counted =
    elim c.else-self-eq0.branch [
      | else-self-eq0-via-then-self-eq0+else-bytes-saturating_sub w ↦
          omega (
            arith,
            len,
            length-append (replicate n 48 ++ kept) bytes,
            part_length n kept,
            w.if-bytes-saturating_sub.false,
            w.saturating_sub.ensures,
            w.len.ensures,
          )
      | else-self-eq0-via-else-self-eq0 w ↦
          omega (
            arith,
            len,
            length-append (replicate n 48 ++ kept) bytes,
            part_length n kept,
            c.self.invariant (omega (arith, w.if-self-eq0.false)),
          )
    ] in
    subst (λ (t : List ℕ).
    IsSameStart line_entry (replicate c.in-Some.counted 48 ++ t) (bytes_of c.args.self.now ++ bytes))
    (sym c.clear.ensures.items)
    (subst (λ (t : List ℕ). IsSameStart line_entry (replicate c.in-Some.counted 48 ++ []) (t ++ bytes)) (sym shown)
    (digits_counted c.in-Some.counted all len (part_good n kept bytes first second) long))

pub returns-clause-same : goal.returns-clause-same
returns-clause-same c =
    let n = c.self.inside.counted in
    let kept = c.self.inside.kept.items in
    let bytes = c.args.bytes.now in
    let shown : bytes_of c.args.self.now ≡ replicate n 48 ++ kept = ap bytes_of (sym c.self.view_is) in
    let bad : digits ((replicate n 48 ++ kept) ++ bytes) ≡ false =
    part_bad n kept bytes
    (not_both (digits kept) (digits bytes) (λ good.
    elim c.else-are_digits.branch [
      | else-are_digits-via-then-are_digits+else-are_digits-2 w ↦
          sym w.are_digits-then-are_digits.ensures ∙ w.if-are_digits-2.false
      | else-are_digits-via-else-are_digits w ↦
          let not_good = sym c.are_digits.ensures ∙ w.if-are_digits.false in
          let is = c.as_slice.ensures.value in
          absurd (cc)
    ])) in
    let is = c.self-2.view_is ∙ c.clear-2.ensures in
    let items = c.extend_from_slice-2.new.self.items in
    let dot : replicate c.self-2.inside.counted 48 ++ items ≡ 46 ∷ [] =
    ap (λ (k : ℕ). replicate k 48 ++ items) (ap (λ (s : PartState). s.counted) is)
    ∙ c.in_ok-extend_from_slice.ensures.items
    ∙ ap (λ (t : List ℕ). t ++ 46 ∷ []) (ap (λ (s : PartState). s.kept) is)
    in
    subst (λ (t : List ℕ). IsSameStart line_entry t (bytes_of c.args.self.now ++ bytes)) (sym dot)
    (subst (λ (t : List ℕ). IsSameStart line_entry (46 ∷ []) (t ++ bytes)) (sym shown)
    (bad_replaced ((replicate n 48 ++ kept) ++ bytes) bad))
