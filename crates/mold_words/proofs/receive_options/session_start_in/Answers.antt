use Rattle.mold_words.proofs.receive_options.session_start_in.Goals as goal

pub invariant_of-result-clause-named : goal.invariant_of-result-clause-named
invariant_of-result-clause-named c = c.in_ok-session.ensures.named

pub invariant_of-result-clause-first : goal.invariant_of-result-clause-first
invariant_of-result-clause-first c = c.in_ok-next.ensures.within
