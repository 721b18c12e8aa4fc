use Rattle.std.proofs.Common.{◌≡◌, ◌+◌, ℕ, List, take, drop, true, sym, ap, refl, subst, ◌∙◌, Option}
use Rattle.std.specs.Io.KnownBytes.{prepend_known}
use Rattle.mold_devices.specs.Lines.{LineState, rest_in}
use Rattle.mold_devices.proofs.LineLemmas.{found_end, gives_read}
use Rattle.mold_input.specs.LongLines.{GivesStart}
use Rattle.mold_input.specs.PacketLines.{content}
use Rattle.mold_input.specs.declared.packet_lines.PacketLines.TheInside.{Inside}
use Rattle.mold_input.proofs.packet_lines.PacketLines.advance.Goals as goal
use Rattle.mold_input.proofs.packet_lines.PacketLines.advance.Given.{Over}
use Rattle.mold_input.proofs.packet_lines.PacketLines.advance.Goals.{After-clear, in-Some, in_default}

-- The bytes of the piece after the previous line are the remaining bytes.
rest_is : (g : Over) → (c : After-clear g) → c.args.self.now.rest ≡ c.match-self.self-inside.piece.value
rest_is g c =
    let shown : c.args.self.now.rest ≡ rest_in c.self.inside.inside c.self.inside.piece.value =
    sym (ap (λ (s : LineState). s.rest) c.self.view_is)
    in
    elim c.match-self.branch [
      | in-Some w ↦
          shown
          ∙ ap (λ (o : Option ℕ). rest_in o c.self.inside.piece.value) w.in-Some.is
          ∙ ap (λ (t : List ℕ). drop (w.in-Some.len + 1) t) (sym w.deref_mut.ensures.value)
          ∙ sym w.skip.ensures
          ∙ sym (ap (λ (l : Inside). l.piece.value) w.self-inside-is)
      | in_default w ↦
          shown
          ∙ ap (λ (o : Option ℕ). rest_in o c.self.inside.piece.value) w.in_default.is
          ∙ sym (ap (λ (l : Inside). l.piece.value) w.self-inside-is)
    ]

pub returns-in-Some-memchr-clause-line : goal.returns-in-Some-memchr-clause-line
returns-in-Some-memchr-clause-line g c =
    let known = g.S.Source.left c.args.source.now in
    let piece = c.match-self.self-inside.piece.value in
    let at = c.in-Some-memchr.at in
    let same = rest_is g (goal.at.returns-in-Some-memchr-clause-line g c).After-clear in
    let rest = prepend_known (drop (at + 1) piece) known in
    subst (λ (t : List ℕ). GivesStart content (prepend_known t known) rest true (take at piece)) (sym same)
    (record {
      whole = take at piece;
      gives = gives_read known piece at
          (found_end c.rest.result.now piece at (c.rest.ensures.value ∙ c.deref.ensures) c.in-Some-memchr.ensures);
      same = refl;
    })
