use Rattle.std.proofs.Common.{◌≡◌, [], List, length, ap, ◌∙◌, arith}
use Rattle.mold_messages.specs.Parts.{Marked}
use Rattle.mold_receiver.specs.Batch.{handed_from}
use Rattle.mold_receiver.specs.Store.{Message}
use Rattle.mold_receiver.proofs.ExchangeLemmas.{ends_within, list_end, list_messages}
use Rattle.mold_receiver.proofs.batch.Batch.restore.Goals as goal

pub exchange-requires : goal.exchange-requires
exchange-requires c = ends_within c.clear-2.new.self.items c.clear.new.self.items 0 c.clear.ensures.items (omega arith)

pub invariant_of-self : goal.invariant_of-self
invariant_of-self c =
    let bytes = c.clear-2.new.self.items in
    let ends = c.clear.new.self.items in
    let list = c.exchange.new.self in
    let none : list.messages ≡ [] = list_messages bytes ends 0 list c.clear.ensures.items c.exchange.ensures.list in
    let long : length list.bytes ≡ 0 =
    ap (λ (l : Marked). length l.bytes) c.exchange.ensures.list ∙ ap length c.clear-2.ensures.items in (
      omega (arith, c.self.invariant.0, ap (λ (t : List Message). length t) none),
      λ own. omega (arith, long, list_end bytes ends 0 list c.clear.ensures.items c.exchange.ensures.list),
    )

pub returns : goal.returns
returns c =
    ap (handed_from c.self.inside.first)
    (list_messages c.clear-2.new.self.items c.clear.new.self.items 0 c.exchange.new.self c.clear.ensures.items
    c.exchange.ensures.list)
