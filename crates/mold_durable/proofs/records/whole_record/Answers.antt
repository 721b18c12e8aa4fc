use Rattle.std.proofs.Common.{◌+◌, List, ℕ, sym, subst, drop, arith}
use Rattle.mold_session.specs.Checking.{HasRecord}
use Rattle.mold_durable.proofs.ReadingLemmas.{whole_parts}
use Rattle.mold_durable.proofs.records.whole_record.Goals as goal

pub returns-clause-record : goal.returns-clause-record
returns-clause-record c =
    subst (λ (len : ℕ). HasRecord c.args.most c.args.rest.now (drop (4 + len) c.args.rest.now)) (sym c.from-2.ensures)
    (whole_parts c.args.most c.in_ok-len.len c.args.rest.now c.in_ok-len.ensures
    (omega (arith, c.if-rest-from.false, c.from.ensures, c.in_ok-len.ensures.within)))
