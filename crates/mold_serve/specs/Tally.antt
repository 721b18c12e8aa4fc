-- What a server has printed and counted.
use Rattle.std.specs.Prelude.{◌++◌, ℕ, List, ◌∷◌, [], codes, decimal, Option}
use Rattle.std.specs.Io.KnownBytes.{Appends}
use Rattle.mold_devices.specs.Devices.{one_more}
use Rattle.mold_session.specs.declared.error.AnswerError.{AnswerError}
use Rattle.mold_turns.specs.Outgoing.{OutgoingState, failed_once, nothing_out, with_more}
use Rattle.mold_refusals.specs.Words.{answer_words}
use Rattle.mold_serve.specs.declared.tally.Tally.{Tally}
use Rattle.mold_text.specs.Line.{line_of}
use Rattle.mold_text.specs.Text.{refused_line}

-- The line of a refused request.
abbrev pub request_refused_text : AnswerError → List ℕ
request_refused_text why = refused_line (answer_words why)

-- The line of a response that was sent, with the sequence number and the message count of its header.
abbrev pub answered_text : ℕ → ℕ → List ℕ
answered_text sequence count = line_of (codes "answered" ∷ decimal sequence ∷ decimal count ∷ [])

-- A tally without text and with counts of 0.
abbrev pub no_tally : Tally
no_tally = record { outgoing = nothing_out; answered = 0; refused = 0; quiet = 0 }

-- The tally with another text and another count of failures.
abbrev pub with_outgoing : OutgoingState → Tally → Tally
with_outgoing outgoing tally = record {
  outgoing = outgoing;
  answered = tally.answered;
  refused = tally.refused;
  quiet = tally.quiet;
}

-- The tally after a response with this sequence number and message count was sent.
abbrev pub with_answered : ℕ → ℕ → Tally → Tally
with_answered sequence count tally = record {
  outgoing = with_more (answered_text sequence count) tally.outgoing;
  answered = one_more tally.answered;
  refused = tally.refused;
  quiet = tally.quiet;
}

-- The tally after a request was refused.
abbrev pub with_refused : AnswerError → Tally → Tally
with_refused why tally = record {
  outgoing = with_more (request_refused_text why) tally.outgoing;
  answered = tally.answered;
  refused = one_more tally.refused;
  quiet = tally.quiet;
}

-- The tally after a receive that gave nothing.
abbrev pub with_quiet : Tally → Tally
with_quiet tally = record {
  outgoing = tally.outgoing;
  answered = tally.answered;
  refused = tally.refused;
  quiet = one_more tally.quiet;
}

-- The tally after a send or a receive that failed.
abbrev pub with_failed : Tally → Tally
with_failed tally = with_outgoing (failed_once tally.outgoing) tally

-- The last line of a server: the number of responses sent, refused requests, receives that gave nothing, and failures.
abbrev pub served_line : Tally → List ℕ
served_line tally =
    line_of
    (codes "answered"
    ∷ decimal tally.answered
    ∷ codes "refused"
    ∷ decimal tally.refused
    ∷ codes "quiet"
    ∷ decimal tally.quiet
    ∷ codes "failed"
    ∷ decimal tally.outgoing.failures
    ∷ [])

-- The loop wrote the text of its turns, and then the last line of a server with these counts.
pub record EndsServed (old new : Option (List ℕ)) : Type 0 where
  -- the text of the turns
  pub text : List ℕ
  pub tally : Tally
  pub appended : Appends old new (text ++ served_line tally)
