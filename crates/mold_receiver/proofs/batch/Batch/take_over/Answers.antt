use Rattle.std.proofs.Common.{List, length, ap, arith}
use Rattle.mold_receiver.specs.Places.{messages_from}
use Rattle.mold_receiver.specs.Store.{Message}
use Rattle.mold_receiver.proofs.ExchangeLemmas.{batch_is, ends_within, list_messages}
use Rattle.mold_receiver.proofs.RunLemmas.{messages_long}
use Rattle.mold_receiver.proofs.batch.Batch.take_over.Goals as goal

pub exchange-requires : goal.exchange-requires
exchange-requires c =
    ends_within c.args.memory.items c.args.ends.items (length c.args.ends.items) c.requires.ends c.requires.within

pub invariant_of-self : goal.invariant_of-self
invariant_of-self c =
    let bytes = c.args.memory.items in
    let ends = c.args.ends.items in
    let all = list_messages bytes ends (length ends) c.exchange.new.self c.requires.ends c.exchange.ensures.list in (
      omega (
        arith,
        c.requires.counted,
        ap (λ (t : List Message). length t) all,
        messages_long bytes 0 (length ends),
      ),
      λ own. absurd (cc own),
    )

pub returns : goal.returns
returns c =
    let bytes = c.args.memory.items in
    let ends = c.args.ends.items in
    batch_is c.args.self.now c.args.next (messages_from bytes 0 (length ends)) c.exchange.new.self.messages
    c.requires.empty
    (list_messages bytes ends (length ends) c.exchange.new.self c.requires.ends c.exchange.ensures.list)
