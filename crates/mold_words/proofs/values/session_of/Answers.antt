use Rattle.std.proofs.Common.{◌∙◌, sym}
use Rattle.mold_words.proofs.ValueLemmas.{no_session, spaced, named}
use Rattle.mold_words.proofs.values.session_of.Goals as goal

pub returns-then-not-is_session-clause-value : goal.returns-then-not-is_session-clause-value
returns-then-not-is_session-clause-value c =
    no_session c.args.text.now (sym c.is_session.ensures ∙ c.if-not-is_session.true)

pub returns-clause-value : goal.returns-clause-value
returns-clause-value c =
    rw (c.copy_from_slice.ensures.after, c.as_bytes.ensures.value)
    (spaced c.args.text.now (sym c.is_session.ensures ∙ c.if-not-is_session.false))

pub returns-clause-named : goal.returns-clause-named
returns-clause-named c =
    rw (c.copy_from_slice.ensures.after, c.as_bytes.ensures.value)
    (named c.args.text.now (sym c.is_session.ensures ∙ c.if-not-is_session.false))
