use Rattle.mold_session.specs.Loading.{message_spelling}
use Rattle.mold_index.specs.Scan.{AreMessagesAndRest}
use Rattle.mold_index.proofs.scan.find_message.Given as goal

-- The messages that were skipped are whole.
abbrev pub invariant-loop-index : goal.invariant-loop-index
invariant-loop-index l = AreMessagesAndRest (message_spelling l.version) l.index l.fn.bytes l.rest
