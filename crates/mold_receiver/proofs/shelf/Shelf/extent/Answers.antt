use Rattle.std.proofs.Common.{◌≡◌, ◌+◌, ℕ, List, sym, ap, subst, ◌∙◌, inl, inr, arith}
use Rattle.std.specs.Prelude.{Some}
use Rattle.std.proofs.lemmas.Bool.{cases_eq}
use Rattle.mold_receiver.specs.Places.{IsBlockAt, end_from, length_at, place_at}
use Rattle.mold_receiver.specs.Segments.{bytes_at}
use Rattle.mold_receiver.proofs.ReleaseLemmas.{place_there}
use Rattle.mold_receiver.proofs.RunLemmas.{end_more}
use Rattle.mold_receiver.proofs.shelf.Shelf.extent.Goals as goal

pub loop-first-init : goal.loop-first-init
loop-first-init c =
    let old = c.args.self.now in
    let slot = c.args.slot in
    let first = c.args.first in
    let bytes = bytes_at old.segments first.segment in
    let size = ap (λ (t : List ℕ). length_at t first.start) c.requires.bytes in
    let here : slot + 0 ≡ slot = omega arith in
    record {
      some = omega arith;
      ends = omega (arith, c.block_end-end.ensures, size);
      within = omega (arith, c.block_end-end.ensures, size, c.requires.kept.within slot first c.requires.there);
      there = λ i low.
          let zero : i ≡ 0 = omega (arith, low) in
          subst (λ (n : ℕ). place_at old.ring (slot + n) ≡ Some
          (record { segment = first.segment; start = end_from bytes first.start n })) (sym zero)
          (ap (place_at old.ring) here ∙ c.requires.there);
      fits = omega (arith, place_there old.ring slot first c.requires.there);
    }

pub block_end-end-requires-in-loop-first : goal.block_end-end-requires-in-loop-first
block_end-end-requires-in-loop-first c =
    let old = c.args.self.now in
    let at = c.is_at.ensures.same.0 c.loop-first-test.true in
    subst (λ (t : List ℕ). IsBlockAt t c.loop-first.end) (sym c.requires.bytes)
    (c.requires.kept.within (c.args.slot + c.loop-first.count) _ at)

pub loop-first-smaller : goal.loop-first-smaller
loop-first-smaller c =
    let at = c.is_at.ensures.same.0 c.loop-first-test.true in
    omega (arith, place_there c.args.self.now.ring (c.args.slot + c.loop-first.count) _ at)

pub loop-first-preserved : goal.loop-first-preserved
loop-first-preserved c =
    let old = c.args.self.now in
    let i = c.loop-first.invariant in
    let first = c.args.first in
    let bytes = bytes_at old.segments first.segment in
    let at = c.is_at.ensures.same.0 c.loop-first-test.true in
    let size = ap (λ (t : List ℕ). length_at t c.loop-first.end) c.requires.bytes in
    record {
      some = omega arith;
      ends = omega (
        arith,
        c.block_end-end-in-loop-first.ensures,
        size,
        end_more bytes first.start c.loop-first.count,
        i.ends,
        ap (length_at bytes) i.ends,
      );
      within = omega (
        arith,
        c.block_end-end-in-loop-first.ensures,
        size,
        c.requires.kept.within (c.args.slot + c.loop-first.count) _ at,
      );
      there = λ j low. elim (cases_eq j c.loop-first.count) [
        | inl same ↦
            ap (λ (n : ℕ). place_at old.ring (c.args.slot + n)) same
            ∙ at
            ∙ ap (λ (n : ℕ). Some (record { segment = first.segment; start = n })) (i.ends
            ∙ ap (end_from bytes first.start) (sym same))
        | inr other ↦ i.there j (omega (arith, low, other))
      ];
      fits = omega (arith, place_there old.ring (c.args.slot + c.loop-first.count) _ at);
    }
