use Rattle.std.proofs.Common.{◌≡◌, ◌∷◌, List, ℕ, length, refl, sym, ap, ◌∙◌, arith}
use Rattle.mold_receiver.specs.Keeping.{fresh}
use Rattle.mold_receiver.specs.Shelf.{slots_on}
use Rattle.mold_receiver.specs.Store.{Message}
use Rattle.mold_receiver.proofs.KeepLemmas.{fresh_some}
use Rattle.mold_receiver.proofs.keep.has_fresh.Goals as goal

pub returns-then-is_free : goal.returns-then-is_free
returns-then-is_free c =
    let slots = slots_on c.args.shelf.now in
    let slot = c.loop-message.slot in
    let some = fresh_some slots slot c.in-Some._message.now c.next.new.self (sym c.if-is_free.ensures) in
    let same : length (fresh slots slot (c.in-Some._message.now ∷ c.next.new.self)) ≡ length
    (fresh slots c.args.first c.args.blocks.now) =
    ap (λ (t : List Message). length (fresh slots slot t)) (sym c.in-Some.ensures.steps)
    ∙ ap (λ (t : List (ℕ × Message)). length t) c.loop-message.invariant.same in
    (λ _. omega (arith, some, same), λ _. refl)
