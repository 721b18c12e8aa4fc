use Rattle.std.proofs.Common.{◌∙◌, ap, sym}
use Rattle.std.proofs.lemmas.Bool.{false≢true}
use Rattle.std.specs.Option.{is_some}
use Rattle.mold_turns.specs.Outgoing.{OutgoingState}
use Rattle.mold_listen.proofs.ListenLemmas.{stopped_handed}
use Rattle.mold_listen.proofs.printer.print_to_empty.Goals as goal

pub returns-else-is_none-clause-handed : goal.returns-else-is_none-clause-handed
returns-else-is_none-clause-handed c =
    stopped_handed c.args.batch.now.first c.args.batch.now.messages c.args.outgoing.now
    (λ none.
    false≢true
    (sym (ap is_some (ap (λ (o : OutgoingState). o.stopped) c.outgoing.view_is ∙ none)) ∙ c.if-is_none.ensures))
