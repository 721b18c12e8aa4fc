use Rattle.std.proofs.Common.{◌≡◌, ◌+◌, ◌++◌, ◌∷◌, [], ℕ, List, sym, ap, ◌∙◌, inl, inr, refl, arith}
use Rattle.std.specs.Prelude.{Some}
use Rattle.std.proofs.lemmas.Bool.{cases_eq}
use Rattle.mold_receiver.specs.Places.{end_from, ends_from, length_at, place_at}
use Rattle.mold_receiver.proofs.ExchangeLemmas.{ends_more}
use Rattle.mold_receiver.proofs.RunLemmas.{end_more}
use Rattle.mold_receiver.proofs.ring.Ring.list_ends.Goals as goal

pub block_end-end-requires : goal.block_end-end-requires
block_end-end-requires c =
    c.requires.blocks (c.args.slot + c.loop-i.i) _ (c.is_at.ensures.same.0 c.if-not-is_at.false) refl

pub loop-i-preserved : goal.loop-i-preserved
loop-i-preserved c =
    let inv = c.loop-i.invariant in
    let bytes = c.args.bytes.now in
    let i = c.loop-i.i in
    let at = c.is_at.ensures.same.0 c.if-not-is_at.false in
    let next : c.block_end-end.result ≡ end_from bytes 0 (i + 1) =
    omega (arith, c.block_end-end.ensures, inv.ends, ap (length_at bytes) inv.ends, end_more bytes 0 i) in
    record {
      listed = c.push_reserved.ensures.items
          ∙ ap (λ (t : List ℕ). t ++ c.block_end-end.result ∷ []) inv.listed
          ∙ ap (λ (n : ℕ). ends_from bytes 0 i ++ n ∷ []) next
          ∙ sym (ends_more bytes 0 i);
      ends = next;
      there = λ j low. elim (cases_eq j i) [
        | inl same ↦
            ap (λ (n : ℕ). place_at c.args.self.now (c.args.slot + n)) same
            ∙ at
            ∙ ap (λ (n : ℕ). Some (record { segment = c.args.segment; start = n })) (inv.ends
            ∙ ap (end_from bytes 0) (sym same))
        | inr other ↦ inv.there j (omega (arith, low, other))
      ];
      long = omega (arith, c.push_reserved.ensures.len, inv.long);
      room = omega (arith, c.push_reserved.ensures.capacity, inv.room);
    }
