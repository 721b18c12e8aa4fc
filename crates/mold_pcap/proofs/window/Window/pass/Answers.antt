use Rattle.std.proofs.Common.{◌≡◌, ◌+◌, ◌-◌, ◌≤◌, ℕ, List, length, length-drop, ap, subst, sym, ◌∙◌, arith}
use Rattle.std.specs.Io.KnownBytes.{prepend_known}
use Rattle.mold_pcap.specs.Windows.{Passes}
use Rattle.mold_pcap.proofs.WindowLemmas.{on_true, passes_here, passes_kept, passes_on}
use Rattle.mold_pcap.proofs.window.Window.pass.Goals as goal

pub loop-left-preserved : goal.loop-left-preserved
loop-left-preserved g c =
    let part = c.min-part.result in
    let window = c.fill.new.self in
    let source = g.S.Source.left c.fill.new.source in
    let known = prepend_known c.args.self.now (g.S.Source.left c.args.source.now) in
    let mid = prepend_known c.loop-left.self (g.S.Source.left c.loop-left.source) in
    let len : length c.rest.result.now ≡ length window = ap (λ (t : List ℕ). length t) c.rest.ensures in
    let within : part ≤ length window = omega (arith, len, c.min-part.ensures) in
    let few : part ≤ c.loop-left.left = omega (arith, c.min-part.ensures) in
    let some : 1 ≤ length window = on_true c.in_ok-fill.field-0 (1 ≤ length window) c.if-not-branch.false
    c.in_ok-fill.ensures.whole in
    let here : Passes part (prepend_known window source) (prepend_known c.skip.new.self source) =
    subst (λ (t : List ℕ). Passes part (prepend_known window source) (prepend_known t source)) (sym c.skip.ensures)
    (passes_here window source part within)
    in
    let both = passes_on known mid (prepend_known c.skip.new.self source) (c.args.count - c.loop-left.left) part
    c.loop-left.invariant.passed
    (passes_kept mid (prepend_known window source)
    (prepend_known c.skip.new.self source) part c.in_ok-fill.ensures.same here)
    in
    let count : c.args.count - (c.loop-left.left - part) ≡ (c.args.count - c.loop-left.left) + part =
    omega (arith, few, c.loop-left.invariant.few)
    in
    let left : length c.skip.new.self ≡ length window - part =
    ap (λ (t : List ℕ). length t) c.skip.ensures ∙ length-drop part window
    in
    let work = c.in_ok-fill.ensures.work in
    let before = c.loop-left.invariant.work in
    record {
      few = omega (arith, c.loop-left.invariant.few);
      passed = subst (λ (n : ℕ). Passes n known (prepend_known c.skip.new.self source)) (sym count) both;
      work = omega (arith, left, work, before);
      less = λ _. omega (arith, left, work, before, some, len, c.min-part.ensures, c.loop-left-test.true);
      failures = c.in_ok-fill.ensures.failures ∙ c.loop-left.invariant.failures;
    }
