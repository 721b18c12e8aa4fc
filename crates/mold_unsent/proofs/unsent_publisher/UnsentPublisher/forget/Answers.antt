use Rattle.mold_session.specs.Journal.{IsWithin}
use Rattle.mold_unsent.proofs.UnsentLemmas.{each_in_memory}
use Rattle.mold_unsent.proofs.unsent_publisher.UnsentPublisher.forget.Goals as goal

pub append_all-requires-clause-each : goal.append_all-requires-clause-each
append_all-requires-clause-each c =
    let f = c.self.inside in
    each_in_memory (IsWithin f.earlier.max_message) f.earlier f.list.messages c.self.invariant.publisher.journaled.each
