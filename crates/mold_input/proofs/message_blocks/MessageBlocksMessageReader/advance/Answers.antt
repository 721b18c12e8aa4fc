use Rattle.std.proofs.Common.{◌≡◌, ◌∙◌, ◌+◌, ℕ, List, drop, sym, ap, Option}
use Rattle.mold_input.specs.Blocks.{unread_in}
use Rattle.mold_input.specs.Entries.{ReaderState}
use Rattle.mold_input.specs.declared.message_blocks.MessageBlocks.TheInside.{Inside}
use Rattle.mold_input.proofs.BlockLemmas.{gives_found}
use Rattle.mold_input.proofs.message_blocks.MessageBlocksMessageReader.advance.Goals as goal
use Rattle.mold_input.proofs.message_blocks.MessageBlocksMessageReader.advance.Given.{Over}
use Rattle.mold_input.proofs.message_blocks.MessageBlocksMessageReader.advance.Goals.{After-clear, in-Some, in_default}

-- The bytes of the piece after the previous block are the unread bytes.
rest_is : (g : Over) → (c : After-clear g) → c.args.self.now.unread ≡ c.match-self.self-inside.piece.value
rest_is g c =
    let shown : c.args.self.now.unread ≡ unread_in c.self.inside.inside c.self.inside.piece.value =
    sym (ap (λ (s : ReaderState). s.unread) c.self.view_is)
    in
    elim c.match-self.branch [
      | in-Some w ↦
          shown
          ∙ ap (λ (o : Option ℕ). unread_in o c.self.inside.piece.value) w.in-Some.is
          ∙ ap (λ (t : List ℕ). drop (2 + w.in-Some.len) t) (sym w.deref_mut.ensures.value)
          ∙ sym w.skip.ensures
          ∙ sym (ap (λ (l : Inside). l.piece.value) w.self-inside-is)
      | in_default w ↦
          shown
          ∙ ap (λ (o : Option ℕ). unread_in o c.self.inside.piece.value) w.in_default.is
          ∙ sym (ap (λ (l : Inside). l.piece.value) w.self-inside-is)
    ]

pub returns-in-Some-whole_block-clause-next : goal.returns-in-Some-whole_block-clause-next
returns-in-Some-whole_block-clause-next g c =
    let same = rest_is g (goal.at.returns-in-Some-whole_block-clause-next g c).After-clear in
    rw same
    (gives_found _ (g.S.Source.left c.args.source.now) c.match-self.self-inside.piece.value c.in-Some-whole_block.len
    (c.rest.ensures.value ∙ c.deref.ensures) c.in-Some-whole_block.ensures)
