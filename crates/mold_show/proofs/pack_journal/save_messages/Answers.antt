use Rattle.mold_show.proofs.PackJournalLemmas.{saved_all, saved_nothing}
use Rattle.mold_show.proofs.pack_journal.save_messages.Goals as goal

pub returns-in-Some-clause-whole : goal.returns-in-Some-clause-whole
returns-in-Some-clause-whole g c =
    saved_nothing _ c.append_messages.new.journal _ _ _ _ _
    (rw (c.in-Some.is, c.new-journal.ensures) at c.in_ok-refusal.ensures.input) c.next.ensures.value

pub returns-clause-whole : goal.returns-clause-whole
returns-clause-whole g c =
    saved_all _ c.append_messages.new.journal c.save_closed.new.journal _ _ _ _ _
    (rw (c.in-None.is, c.new-journal.ensures) at c.in_ok-refusal.ensures.input) c.save_closed.ensures.same
    c.next-in-None.ensures.value c.in_ok-save_closed-in-None.ensures.whole
