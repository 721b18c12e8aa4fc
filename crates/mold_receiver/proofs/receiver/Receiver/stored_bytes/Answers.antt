use Rattle.std.proofs.Common.{sym, ap, ◌∙◌}
use Rattle.mold_receiver.specs.Store.{stored_bytes}
use Rattle.mold_receiver.specs.View.{View}
use Rattle.mold_receiver.proofs.SizeLemmas.{bytes_slots}
use Rattle.mold_receiver.proofs.receiver.Receiver.stored_bytes.Goals as goal

pub returns-clause-bytes : goal.returns-clause-bytes
returns-clause-bytes c =
    let a = c.self.inside in
    c.bytes.ensures ∙ sym (bytes_slots a.next a.slots) ∙ ap (λ (v : View). stored_bytes v.store) c.self.view_is
