use Rattle.std.proofs.Common.{◌∙◌, arith, inl, inr, sym}
use Rattle.std.proofs.lemmas.Bool.{cases_lt}
use Rattle.mold_audit.specs.Kept.{Contradicts}
use Rattle.mold_audit.proofs.CheckLemmas.{contradicts_after, contradicts_here, contradicts_later}
use Rattle.mold_audit.proofs.CheckLemmas.{none_below, none_past, none_without_messages}
use Rattle.mold_audit.proofs.audit.Audit.check.Goals as goal

pub returns-then-number-self : goal.returns-then-number-self
returns-then-number-self c = λ number is.
    let rest = c.loop-message.invariant.later number is in
    elim (cases_lt number c.loop-message.number) [
      | inl below ↦ none_below _ _ _ number below rest
      | inr above ↦ none_past _ _ _ number (omega arith) rest
    ]

pub returns-then-differs : goal.returns-then-differs
returns-then-differs c =
    let a = c.args.self.now in
    let first = c.loop-message.number in
    let message = c.in-Some.message.now in
    let rest = c.next.new.self in
    let here : Contradicts a first c.loop-message.message-iterator first =
    rw c.in-Some.ensures.steps (contradicts_here a first message rest (sym c.differs.ensures ∙ c.if-differs.true)) in
    record {
      contradicts = c.loop-message.invariant.before first here;
      least = λ earlier below is. none_below _ _ _ earlier below (c.loop-message.invariant.later earlier is);
    }

pub returns : goal.returns
returns c = λ number is.
    none_without_messages _ _ number (rw c.in-None.ensures.steps.0 at c.loop-message.invariant.later number is)

pub loop-message-preserved : goal.loop-message-preserved
loop-message-preserved c =
    let a = c.args.self.now in
    let first = c.loop-message.number in
    let message = c.in-Some.message.now in
    let rest = c.next.new.self in
    let old = c.loop-message.invariant in
    record {
      later = λ number is. contradicts_after a first message rest number (sym c.differs.ensures ∙ c.if-differs.false)
          (rw c.in-Some.ensures.steps at old.later number is);
      before = λ number is.
          old.before number (rw c.in-Some.ensures.steps (contradicts_later a first message rest number is));
    }
