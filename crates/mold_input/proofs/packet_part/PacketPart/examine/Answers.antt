use Rattle.std.proofs.Common.{arith, ◌≡◌, ◌∙◌, ◌+◌, ◌*◌, ◌++◌, ap, sym, subst, List, ℕ, length, take, true}
use Rattle.mold_input.specs.LongLines.{IsSameStart}
use Rattle.mold_input.specs.PacketLines.{content}
use Rattle.mold_input.specs.PacketPart.{odd_digit}
use Rattle.mold_input.proofs.LongLemmas.{digits}
use Rattle.mold_input.proofs.RefusedLemmas.{IsShortened, even_length, found_long, long_length, shortened}
use Rattle.mold_input.proofs.packet_part.PacketPart.examine.Goals as goal

pub shortened-requires : goal.shortened-requires
shortened-requires c =
    let kept = c.self.inside.kept.items in
    let long = found_long kept c.deref.result.now c.len.result c.in-Some.at c.in_ok-at.field-0 c.deref.ensures.value
    (c.len.ensures ∙ c.self.inside.kept.ok.0) c.in_ok-at.ensures c.in-Some.is in
    omega (
      arith,
      long_length _ c.in-Some.at long,
      even_length kept,
      ap (λ (t : List ℕ). length t) c.as_slice.ensures.value,
    )

-- The line that takes the place of the kept bytes.
short_is : (c : goal.After-self-1) → IsShortened c.in_ok-self-inside.field-0.items c.self.inside.kept.items
short_is c =
    let kept = c.self.inside.kept.items in
    let at = c.in-Some.at in
    let long = found_long kept c.deref.result.now c.len.result at c.in_ok-at.field-0 c.deref.ensures.value
    (c.len.ensures ∙ c.self.inside.kept.ok.0) c.in_ok-at.ensures c.in-Some.is in
    let good : digits kept ≡ true = ap digits c.self.view_is ∙ c.requires in
    let items =
    c.in_ok-self-inside.ensures
    ∙ ap (λ (t : List ℕ). take (2 * (at + 1)) t ++ odd_digit (length t)) c.as_slice.ensures.value in
    subst (λ (t : List ℕ). IsShortened t kept) (sym items) (shortened kept at good long)

pub invariant_of-self : goal.invariant_of-self
invariant_of-self c = (λ is. (short_is c).decided, λ is. absurd (cc))

pub returns-in_ok-self-inside : goal.returns-in_ok-self-inside
returns-in_ok-self-inside c =
    subst (λ (t : List ℕ). IsSameStart content c.in_ok-self-inside.field-0.items t) c.self.view_is (short_is c).same
