use Rattle.std.proofs.Common.{◌+◌, ◌-◌, ◌≤◌, List, ℕ, length, drop, ap, ◌∙◌, arith}
use Rattle.std.proofs.lemmas.List.{length-take, length-drop}
use Rattle.mold_pcap.proofs.WindowLemmas.{skipped}
use Rattle.mold_pcap.proofs.window.Window.skip.Goals as goal

pub returns : goal.returns
returns c =
    let bytes = c.self.inside.bytes.items in
    let start = c.self.inside.start in
    let end = c.self.inside.end in
    let is = ap (λ (t : List ℕ). length t) c.self.view_is in
    let within : c.args.n + start ≤ end =
    omega (
      arith,
      is,
      c.requires,
      length-take (end - start) (drop start bytes),
      length-drop start bytes,
      c.self.invariant,
    )
    in
    skipped bytes start end c.args.n within ∙ ap (drop c.args.n) c.self.view_is
