use Rattle.std.proofs.Common.{◌≡◌, ◌+◌, ◌-◌, ℕ, Some, sym, ap, ◌∙◌, arith, drop, take}
use Rattle.mold_pcap.specs.Options.{first_option, next_clock, padded, with_option}
use Rattle.mold_pcap.proofs.OptionLemmas.{clock_step, clock_end, dropped}
use Rattle.mold_pcap.proofs.options.read_clock.Goals as goal

pub returns : goal.returns
returns c =
    sym (clock_end c.args.order c.loop-code.clock c.loop-code.left.now
    (sym c.first_option.ensures.found ∙ c.in_default.is))
    ∙ c.loop-code.invariant

pub loop-code-preserved : goal.loop-code-preserved
loop-code-preserved c =
    let order = c.args.order in
    let left = c.loop-code.left.now in
    let len = c.in-Some.len in
    let is : first_option order left ≡ Some (c.in-Some.code, len) = sym c.first_option.ensures.found ∙ c.in-Some.is in
    let same_len : c.from-len.result ≡ len = c.from-len.ensures in
    let value : take ((4 + c.from-len.result) - 4) (drop 4 left) ≡ take len (drop 4 left) =
    ap (λ (n : ℕ). take n (drop 4 left)) (omega arith)
    in
    let rest : c.split_at.result.1.now ≡ drop (4 + padded len) left =
    c.split_at.ensures.back
    ∙ ap (λ (n : ℕ). drop n left) c.min-used.ensures
    ∙ dropped (4 + padded c.from-len.result) left
    ∙ ap (λ (n : ℕ). drop (4 + padded n) left) same_len
    in
    let clock : c.with_option-clock.result ≡ next_clock order c.loop-code.clock left (c.in-Some.code, len) =
    c.with_option-clock.ensures ∙ ap (with_option order c.loop-code.clock c.in-Some.code) value
    in
    let step = clock_step order c.loop-code.clock left (c.in-Some.code, len)
    (omega (arith, c.in-Some.ensures.within)) is in
    let here = c.loop-code.invariant in
    cc
