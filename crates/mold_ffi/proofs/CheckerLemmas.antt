-- What a checker knows from datagrams that it takes one after the other.
use Rattle.std.proofs.Common.{◌≡◌, ℕ, suc, arith, List, [], ◌∷◌, ◌++◌, None, sym, ap, ◌∙◌, subst, append_assoc, append-nil, All}
use Rattle.mold_wire.specs.Block.{IsBytes}
use Rattle.mold_capture.specs.Consistent.{Consistent}
use Rattle.mold_capture.specs.Refusal.{reason}
use Rattle.mold_capture.specs.Seen.{Seen, after, seen_of}
use Rattle.mold_ffi.specs.Laws.{AreTaken, said}

module _ (accepted : (list : List (List ℕ)) (bytes : List ℕ) → Consistent list → IsBytes bytes → reason list bytes ≡ None → Consistent (list ++ bytes ∷ []))
    (told : (list : List (List ℕ)) (bytes : List ℕ) → Consistent (list ++ bytes ∷ []) → seen_of (list ++ bytes ∷ []) ≡ after (seen_of list) bytes) where
  -- A datagram that is taken joins those before it.
  pub all_joined : (list before : List (List ℕ)) → Consistent before → All IsBytes list → AreTaken (seen_of before) list
      → Consistent (before ++ list) × (said (seen_of before) list ≡ seen_of (before ++ list))
  all_joined [] before consistent bytes taken =
      (subst Consistent (sym (append-nil before)) consistent, ap seen_of (sym (append-nil before)))
  all_joined (one ∷ list) before consistent bytes taken =
      let first : IsBytes one = bytes 0 [] (omega arith) in
      let others : All IsBytes list = λ k d within. bytes (suc k) d (omega (arith, within)) in
      let next = accepted before one consistent first taken.0 in
      let same = told before one next in
      let rest = all_joined list (before ++ one ∷ []) next others (subst (λ (s : Seen). AreTaken s list) (sym same) taken.1) in
      let shifted = append_assoc before (one ∷ []) list in
      (subst Consistent shifted rest.0, ap (λ (s : Seen). said s list) (sym same) ∙ rest.1 ∙ ap seen_of shifted)
