use Rattle.std.proofs.Common.{◌∙◌, refl}
use Rattle.mold_show.proofs.PackJournalLemmas.{all_appended, begun, not_appended, one_more_appended, refused_appended}
use Rattle.mold_show.proofs.pack_journal.append_messages.Goals as goal

pub messages-init : goal.messages-init
messages-init g c = record {
  appended = begun g.M.MessageReader.input_kind g.M.MessageReader.entries _ _ _ c.in_ok-messages.ensures;
  failed = refl;
}

pub messages-preserved : goal.messages-preserved
messages-preserved g c = record {
  appended =
      one_more_appended _ _ _ _ _ _ _ (g.M.MessageReader.found c.advance.new.self) c.message.result.now
      c.messages.invariant.appended (rw c.in-Message.is at c.in_ok-advance.ensures.next) c.message.ensures
      (rw (c.in_default.is, c.kind-kind.ensures) at c.in_ok-refusal.ensures);
  failed = c.in_ok-advance.ensures.failures ∙ c.messages.invariant.failed;
}

pub returns-in-End-clause-input : goal.returns-in-End-clause-input
returns-in-End-clause-input g c =
    all_appended _ _ _ _ _ _ (g.M.MessageReader.found c.advance.new.self) c.messages.invariant.appended
    (rw c.in-End.is at c.in_ok-advance.ensures.next)

pub returns-in-Fault-clause-input : goal.returns-in-Fault-clause-input
returns-in-Fault-clause-input g c =
    rw (c.kind-kind.ensures, c.from_fault-why.ensures, c.is_closed.ensures)
    (not_appended _ _ _ _ _ _ (g.M.MessageReader.found c.advance.new.self) c.in-Fault.why
    c.messages.invariant.appended (rw c.in-Fault.is at c.in_ok-advance.ensures.next))

pub returns-in-Some-clause-input : goal.returns-in-Some-clause-input
returns-in-Some-clause-input g c =
    refused_appended _ _ _ _ _ _ _ (g.M.MessageReader.found c.advance.new.self) c.message.result.now c.in-Some.refusal
    c.messages.invariant.appended (rw c.in-Message.is at c.in_ok-advance.ensures.next) c.message.ensures
    (rw (c.in-Some.is, c.kind-kind.ensures) at c.in_ok-refusal.ensures)
