use Rattle.std.proofs.Common.{◌≡◌, List, ℕ, ◌∙◌, ap, length, arith}
use Rattle.std.specs.Prelude.{◌==◌}
use Rattle.std.specs.Cmp.Lexicographic.{pointwise}
use Rattle.mold_wire.specs.Block.{messages_at}
use Rattle.mold_wire.proofs.BlockLemmas.{same_blocks}
use Rattle.mold_wire.proofs.blocks.BlocksPartialEq.eq.Goals as goal

pub returns-then-len : goal.returns-then-len
returns-then-len c =
    let one = c.self.inside in
    let other = c.other.inside in
    let same_count : one.count ≡ other.count =
    omega (
      arith,
      c.self.invariant.2.number,
      ap (λ (t : List (List ℕ)). length t) c.self.view_is,
      ap (λ (t : List (List ℕ)). length t) c.other.view_is,
      c.other.invariant.2.number,
    )
    in
    c.eq.ensures
    ∙ same_blocks one.count other.count one.bytes.now other.bytes.now same_count c.self.invariant.2 c.other.invariant.2
    ∙ ap (λ (t : List (List ℕ)). pointwise (pointwise ◌==◌) t (messages_at other.count other.bytes.now)) c.self.view_is
    ∙ ap (λ (t : List (List ℕ)). pointwise (pointwise ◌==◌) c.args.self.now t) c.other.view_is
