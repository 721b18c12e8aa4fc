use Rattle.std.proofs.Common.{◌≡◌, ◌+◌, ◌-◌, ◌≤◌, ℕ, List, length, ap, subst, sym, ◌∙◌, arith}
use Rattle.std.specs.Io.KnownBytes.{prepend_known}
use Rattle.mold_pcap.specs.Numbers.{number}
use Rattle.mold_pcap.specs.Windows.{Passes}
use Rattle.mold_pcap.proofs.WindowLemmas.{end_here, on_true, passes_here, passes_kept, passes_on}
use Rattle.mold_pcap.proofs.passing.pass_block.Goals as goal

pub returns-clause-passed : goal.returns-clause-passed
returns-clause-passed g c =
    let total = c.args.total in
    let window = c.fill.new.self in
    let source = g.S.Source.left c.fill.new.source in
    let known = prepend_known c.args.window.now (g.S.Source.left c.args.source.now) in
    let mid = prepend_known c.pass.new.self (g.S.Source.left c.pass.new.source) in
    let passed : Passes (total - 4) known mid =
    on_true c.in_ok-pass.field-0 (Passes (total - 4) known mid) c.if-not-branch.false c.in_ok-pass.ensures.passed
    in
    let long : 4 ≤ length window =
    on_true c.in_ok-fill.field-0 (4 ≤ length window) c.if-not-branch-2.false c.in_ok-fill.ensures.whole
    in
    let kept = c.in_ok-fill.ensures.same in
    let here : Passes 4 (prepend_known window source) (prepend_known c.skip.new.self source) =
    subst (λ (t : List ℕ). Passes 4 (prepend_known window source) (prepend_known t source)) (sym c.skip.ensures)
    (passes_here window source 4 long)
    in
    let both = passes_on known mid (prepend_known c.skip.new.self source) (total - 4) 4 passed
    (passes_kept mid (prepend_known window source) (prepend_known c.skip.new.self source) 4 kept here)
    in
    let all : (total - 4) + 4 ≡ total = omega (arith, c.requires) in
    let is : number c.args.order 4 window ≡ total =
    ap (number c.args.order 4) (sym c.rest.ensures) ∙ sym c.u32_at.ensures ∙ c.if-u32_at-total.false
    in (
      subst (λ (n : ℕ). Passes n known (prepend_known c.skip.new.self source)) all both,
      end_here known mid c.args.order (total - 4) total window source passed kept long is,
    )
