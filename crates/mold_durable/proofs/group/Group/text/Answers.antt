use Rattle.std.proofs.Common.{◌≡◌, ◌-◌, ◌<◌, inl, inr, ℕ, Bool, true, false, List, length, take, drop, ap, subst, sym, ◌∙◌, arith, length-drop}
use Rattle.std.proofs.lemmas.Bool.{true≢false}
use Rattle.std.proofs.lemmas.List.{take_all}
use Rattle.mold_durable.specs.Group.{GroupState, HasRecord, IsGroup, IsTextOf, messages_in}
use Rattle.mold_durable.proofs.GroupLemmas.{text_of_closing, text_of_open}
use Rattle.mold_durable.proofs.group.Group.text.Goals as goal

rest_all : (bytes : List ℕ) → take (length bytes - 1) (drop 1 bytes) ≡ drop 1 bytes
rest_all bytes = take_all (length bytes - 1) (drop 1 bytes) (omega (arith, length-drop 1 bytes))

pub returns-then-self : goal.returns-then-self
returns-then-self c =
    let f = c.self.inside in
    let group = subst (λ (b : Bool). IsGroup f.count b f.bytes.items) c.if-self.true c.self.invariant in
    let view = ap (λ (b : Bool). record { messages = messages_in f.count f.bytes.items; closes = b }) (sym c.if-self.true) ∙ c.self.view_is in
    subst (λ (s : GroupState). IsTextOf s (take (length c.deref.result.now - 1) (drop 1 c.deref.result.now))) view
    (subst (λ (t : List ℕ). IsTextOf (record { messages = messages_in f.count f.bytes.items; closes = true }) t)
    (ap (drop 1) (sym c.deref.ensures.value) ∙ sym (rest_all c.deref.result.now))
    (text_of_closing f.count f.bytes.items group))

some_message : (group : GroupState) → group.closes ≡ false → HasRecord group → 0 < length group.messages
some_message group unclosed (inl some) = some
some_message group unclosed (inr closes) = absurd (true≢false (sym closes ∙ unclosed))

pub returns : goal.returns
returns c =
    let f = c.self.inside in
    let group = subst (λ (b : Bool). IsGroup f.count b f.bytes.items) c.if-self.false c.self.invariant in
    let view = ap (λ (b : Bool). record { messages = messages_in f.count f.bytes.items; closes = b }) (sym c.if-self.false) ∙ c.self.view_is in
    let unclosed = ap (λ (s : GroupState). s.closes) (sym view) in
    let some = some_message c.args.self.now unclosed c.requires in
    let here : 0 < length (messages_in f.count f.bytes.items) =
    subst (λ (s : GroupState). 0 < length s.messages) (sym view) some
    in
    let size : length f.bytes.items - 3 ≡ c.len.result - 2 - 1 = omega arith in
    subst (λ (s : GroupState). IsTextOf s (take (c.len.result - 2 - 1) (drop 1 c.deref-2.result.now))) view
    (subst (λ (t : List ℕ). IsTextOf (record { messages = messages_in f.count f.bytes.items; closes = false }) t)
    (ap (λ (n : ℕ). take n (drop 1 f.bytes.items)) size
    ∙ ap (λ (t : List ℕ). take (c.len.result - 2 - 1) (drop 1 t)) (sym c.deref-2.ensures.value))
    (text_of_open f.count f.bytes.items group here))
