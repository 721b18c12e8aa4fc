use Rattle.std.proofs.Common.{rules, arith, ◌≡◌, ℕ, [], ◌∷◌, refl, ap}
use Rattle.std.proofs.lemmas.Grind.{common_steps}
use Rattle.mold_session.specs.File.{closed_byte}
use Rattle.mold_session.proofs.HeadLemmas.{length-magic_2}
use Rattle.mold_session.proofs.PuttingLemmas.{head_put}
use Rattle.mold_session.proofs.saving.head.Goals as goal

pub returns-clause-head : goal.returns-clause-head
returns-clause-head c =
    let byte : c.from.result ≡ closed_byte c.args.closed = grind (arith, common_steps) in
    head_put _ c.put_after.new.bytes c.put_after-2.new.bytes c.put_after-3.new.bytes c.put_after-4.new.bytes
    c.second_magic.result c.args.session.0 (c.from.result ∷ []) c.write_u64.new.buf c.args.closed c.args.count refl
    c.second_magic.ensures length-magic_2 (search rules) (ap (λ (n : ℕ). n ∷ []) byte) c.write_u64.ensures
    c.put_after.ensures c.put_after-2.ensures c.put_after-3.ensures c.put_after-4.ensures
