use Rattle.std.proofs.Common.{◌≡◌, ◌∙◌, ◌+◌, ◌++◌, ◌∷◌, [], sym, subst, List, ℕ, length, true, false, Result, Ok, Err}
use Rattle.std.specs.Prelude.{OnOk}
use Rattle.mold_input.specs.LongLines.{IsSameStart}
use Rattle.mold_input.specs.PacketLines.{content}
use Rattle.mold_input.specs.PacketPart.{even_part, odd_digit}
use Rattle.mold_input.proofs.LongLemmas.{digits}
use Rattle.mold_input.proofs.RefusedLemmas.{counted_start, dots_start}
use Rattle.mold_input.proofs.packet_part.PacketPartPart.add.Goals as goal

-- Without an error, the new bytes are such a start.
on_ok : {T E : Type 0} (result : Result T E) (new other all : List ℕ) → OnOk result (new ≡ other) →
    IsSameStart content other all → OnOk result (IsSameStart content new all)
on_ok (Ok _) new other all is same = subst (λ (t : List ℕ). IsSameStart content t all) (sym is) same
on_ok (Err _) new other all is same = tt

pub returns-then-not-are_digits : goal.returns-then-not-are_digits
returns-then-not-are_digits c =
    let bad : digits c.args.more.now ≡ false = sym c.are_digits.ensures ∙ c.if-not-are_digits.true in
    on_ok c.refuse.result c.refuse.new.self (46 ∷ 46 ∷ []) (c.args.self.now ++ c.args.more.now) c.refuse.ensures
    (dots_start c.args.self.now c.args.more.now bad)

pub returns-then-self : goal.returns-then-self
returns-then-self c =
    let kept = c.self.inside.kept.items in
    let more = c.args.more.now in
    let good : digits more ≡ true = sym c.are_digits.ensures ∙ c.if-not-are_digits.false in
    let counted : List ℕ = even_part kept ++ odd_digit (length kept + length more) in
    on_ok c.count_digits.result c.count_digits.new.kept.items counted (c.args.self.now ++ more)
    c.count_digits.ensures.kept
    (subst (λ (t : List ℕ). IsSameStart content counted (t ++ more)) c.self.view_is
    (counted_start kept more (c.self.invariant.0 c.if-self.true) good))
