use Rattle.std.proofs.Common.{Bor, List, ℕ, length, arith, sym}
use Rattle.std.proofs.lemmas.Bool.{eqb-false}
use Rattle.mold_ffi.proofs.LoanLemmas.{told_first}
use Rattle.mold_ffi.proofs.listener.batch.lend_messages.Goals as goal

pub returns-in-Some-clause-lent : goal.returns-in-Some-clause-lent
returns-in-Some-clause-lent c =
    told_first (λ (bytes : Bor (List ℕ)). bytes.now) c.args.messages.now c.args.batch.now.messages c.in-Some.bytes
    (sym c.in-Some.ensures)
    (omega (arith, eqb-false (length c.args.messages.now) 0 (sym c.if-not-is_empty.ensures)))
