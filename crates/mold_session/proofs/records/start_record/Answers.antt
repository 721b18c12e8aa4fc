use Rattle.std.proofs.Common.{ℕ, ◌∷◌, [], arith, subst}
use Rattle.std.specs.Io.KnownBytes.{Consumes, prepend_known}
use Rattle.mold_session.proofs.RecordReadingLemmas.{kind_unknown}
use Rattle.mold_session.proofs.records.start_record.Goals as goal

pub returns-then-kind-ne-CLOSING_KIND-clause-refused : goal.returns-then-kind-ne-CLOSING_KIND-clause-refused
returns-then-kind-ne-CLOSING_KIND-clause-refused g c = λ most.
    kind_unknown (prepend_known c.args.piece.now (g.S.Source.left c.args.source.now))
    (prepend_known c.next_byte.new.piece (g.S.Source.left c.next_byte.new.source))
    (prepend_known c.next_byte-2.new.piece (g.S.Source.left c.next_byte-2.new.source)) most c.args.count c.in-Some-2.kind
    (subst (λ (n : ℕ). Consumes (prepend_known c.args.piece.now (g.S.Source.left c.args.source.now))
    (prepend_known c.next_byte.new.piece (g.S.Source.left c.next_byte.new.source)) (n ∷ [])) c.if-gate-ne-OPEN_GATE.false
    (rw c.in-Some.is at c.in_ok-gate.ensures.given))
    (rw c.in-Some-2.is at c.in_ok-kind.ensures.given)
    (omega (arith, c.if-kind-eq-MESSAGE_KIND.false, c.if-kind-ne-CLOSING_KIND.true))
