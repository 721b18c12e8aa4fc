use Rattle.std.proofs.Common.{◌≡◌, ℕ, List, arith, ap, subst, get_or, inl, inr, ◌∙◌}
use Rattle.std.proofs.lemmas.Bool.{cases_lt}
use Rattle.mold_session.specs.Records.{magic_3}
use Rattle.mold_durable.proofs.head.is_start.Goals as goal
use Rattle.mold_durable.proofs.head.is_start.Goals.{else-bytes-at-via-else-bytes-at}
use Rattle.mold_durable.proofs.head.is_start.Goals.{else-bytes-at-via-then-bytes-at+else-bytes-at-ne0}

pub loop-at-preserved : goal.loop-at-preserved
loop-at-preserved c =
    let i = c.loop-at.invariant in
    let bytes = c.args.bytes.now in
    record {
      named = i.named;
      before = λ index below. elim (cases_lt index c.loop-at.at) [
        | inl earlier ↦ i.before index earlier
        | inr last ↦
            let e : c.loop-at.at ≡ index = omega (arith, below, last) in
            elim c.else-bytes-at.branch [
              | else-bytes-at-via-then-bytes-at+else-bytes-at-ne0 w ↦
                  inr (subst (λ (k : ℕ). get_or bytes k 0 ≡ 0) e w.if-bytes-at-ne0.false)
              | else-bytes-at-via-else-bytes-at w ↦
                  inl (subst (λ (k : ℕ). get_or bytes k 0 ≡ get_or magic_3 k 0) e
                  (w.if-bytes-at.false ∙ ap (λ (l : List ℕ). get_or l c.loop-at.at 0) i.named))
            ]
      ];
    }
