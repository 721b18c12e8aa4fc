use Rattle.std.proofs.Common.{◌≡◌, ◌∙◌, ap, refl, rules}
use Rattle.std.proofs.lemmas.Result.{on_ok_weaker}
use Rattle.mold_listen.specs.Listening.{Progress}
use Rattle.mold_loop.specs.Looping.{LineState, after_line_if}
use Rattle.mold_ports.specs.Ports.{Port}
use Rattle.mold_receiver.specs.declared.line.Line.TheVariants.{B}
use Rattle.mold_turns.proofs.OutgoingLemmas.{keeps_both}
use Rattle.mold_turns.proofs.RunLemmas.{begins_trans}
use Rattle.mold_loop.proofs.local_feed.LocalFeed.receive_on_lines.Goals as goal

lines_are : {P : Type 0} (one two : LineState P) → one.publisher ≡ two.publisher → one.a ≡ two.a → one.b ≡ two.b →
    one.progress ≡ two.progress → one ≡ two
lines_are {P = P} one two publisher a b progress =
    let to : Port P → Port P → Port P → Progress → LineState P =
    λ p x y e. record { publisher = p; a = x; b = y; progress = e } in
    ap (λ (p : Port P). to p one.a one.b one.progress) publisher
    ∙ ap (λ (p : Port P). to two.publisher p one.b one.progress) a
    ∙ ap (λ (p : Port P). to two.publisher two.a p one.progress) b
    ∙ ap (to two.publisher two.a two.b) progress

pub returns-clause-received : goal.returns-clause-received
returns-clause-received g c = λ t.
    on_ok_weaker c.receive_if-2.result
    (λ is.
    lines_are _ _ refl (c.receive_if.ensures.port t) (c.receive_if-2.ensures.port t)
    (is ∙ ap (after_line_if c.args.routes.b B (g.D.Datagrams.port c.args.self.now.ports.now.b))
    (c.in_ok-receive_if.ensures.received t)))
    (c.receive_if-2.ensures.received t)

pub returns-in_err-receive_if-clause-only : goal.returns-in_err-receive_if-clause-only
returns-in_err-receive_if-clause-only g c = record {
  same = record { ports = refl; options = refl; buffer = search rules; listener = refl };
  server = refl;
  requests = refl;
  a = λ t. c.receive_if.ensures.sent t;
  b = λ t. refl;
}

pub returns-clause-only : goal.returns-clause-only
returns-clause-only g c = record {
  same = record { ports = refl; options = refl; buffer = search rules; listener = refl };
  server = refl;
  requests = refl;
  a = λ t. c.receive_if.ensures.sent t;
  b = λ t. c.receive_if-2.ensures.sent t;
}

pub returns-clause-prints : goal.returns-clause-prints
returns-clause-prints g c = begins_trans c.receive_if.ensures.prints c.receive_if-2.ensures.prints

pub returns-clause-keeps : goal.returns-clause-keeps
returns-clause-keeps g c = keeps_both c.receive_if.ensures.keeps c.receive_if-2.ensures.keeps
