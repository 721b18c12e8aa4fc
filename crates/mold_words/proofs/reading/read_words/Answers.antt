use Rattle.std.proofs.Common.{◌∙◌, Bool, ap, inl, refl, string_bytes, sym}
use Rattle.clap.specs.Words.{app_of, is_simple_and_free}
use Rattle.mold_words.proofs.FaultLemmas.{gives-none, says-none, tells-none, tells-nothing, tells-parse}
use Rattle.mold_words.proofs.OrderLemmas.{mold_is_free, none-order, none-taken, order_of-matches, taken-by}
use Rattle.mold_words.specs.Faults.{value_fault}
use Rattle.mold_words.proofs.reading.read_words.Goals as goal

pub returns-then-is_empty-clause-taken : goal.returns-then-is_empty-clause-taken
returns-then-is_empty-clause-taken c =
    none-taken string_bytes c.args.words.now (sym c.is_empty.ensures ∙ c.if-is_empty.true)

pub returns-then-is_empty-clause-order : goal.returns-then-is_empty-clause-order
returns-then-is_empty-clause-order c =
    none-order string_bytes c.args.words.now (sym c.is_empty.ensures ∙ c.if-is_empty.true)

pub returns-then-is_empty-clause-no_words : goal.returns-then-is_empty-clause-no_words
returns-then-is_empty-clause-no_words c = λ _. refl

pub returns-in-Ok-order_from-clause-taken : goal.returns-in-Ok-order_from-clause-taken
returns-in-Ok-order_from-clause-taken c =
    let same = c.in_ok-command.ensures in
    taken-by _ (app_of c.in_ok-command.command) same
    (c.in-Ok.ensures.kinds (ap is_simple_and_free same ∙ mold_is_free))

pub returns-in-Ok-order_from-clause-order : goal.returns-in-Ok-order_from-clause-order
returns-in-Ok-order_from-clause-order c =
    order_of-matches _ (app_of c.in_ok-command.command) c.in-Ok.matches c.in_ok-command.ensures c.in-Ok.ensures.matches
    ∙ c.in-Ok-order_from.ensures

pub returns-in-Ok-clause-refused : goal.returns-in-Ok-clause-refused
returns-in-Ok-clause-refused c =
    let gives = gives-none _ (app_of c.in_ok-command.command) c.in-Ok.matches c.in-Err-order_from.none c.text.result
    c.in_ok-command.ensures c.in-Ok.ensures.matches c.in-Err-order_from.ensures c.text.ensures in
    λ wanted say. says-none _ c.in-Err-order_from.none _ c.text.result c.value_fault.result wanted gives
    (c.value_fault.ensures ∙ ap (λ (b : Bool). value_fault b c.text.result) c.is_address.ensures) say

pub returns-in-Ok-clause-fault : goal.returns-in-Ok-clause-fault
returns-in-Ok-clause-fault c =
    let gives = gives-none _ (app_of c.in_ok-command.command) c.in-Ok.matches c.in-Err-order_from.none c.text.result
    c.in_ok-command.ensures c.in-Ok.ensures.matches c.in-Err-order_from.ensures c.text.ensures in
    tells-none _ c.in-Err-order_from.none _ c.text.result c.value_fault.result gives
    (c.value_fault.ensures ∙ ap (λ (b : Bool). value_fault b c.text.result) c.is_address.ensures)

pub returns-clause-fault : goal.returns-clause-fault
returns-clause-fault c =
    let same = c.in_ok-command.ensures in
    let has = c.in-Err.ensures.kinds (ap is_simple_and_free same ∙ mold_is_free) in
    inl (tells-parse _ (app_of c.in_ok-command.command) c.in-Err.error c.kind.result c.to_string.result
    c.fault_for.result same has c.kind.ensures c.fault_for.ensures)

pub returns-clause-refused : goal.returns-clause-refused
returns-clause-refused c =
    let same = c.in_ok-command.ensures in
    let has = c.in-Err.ensures.kinds (ap is_simple_and_free same ∙ mold_is_free) in
    λ wanted say. tells-nothing _ c.fault_for.result say.0
    (tells-parse _ (app_of c.in_ok-command.command) c.in-Err.error c.kind.result c.to_string.result
    c.fault_for.result same has c.kind.ensures c.fault_for.ensures)
