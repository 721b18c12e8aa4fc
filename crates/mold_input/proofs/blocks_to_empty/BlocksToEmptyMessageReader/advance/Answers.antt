use Rattle.std.proofs.Common.{◌≡◌, ◌∙◌, ℕ, List, Bool, ap, sym, length}
use Rattle.mold_input.specs.BlocksToEmpty.{unread_to_empty}
use Rattle.mold_input.specs.Entries.{ReaderState}
use Rattle.mold_input.specs.declared.next.Next.TheVariants.{Message}
use Rattle.mold_input.proofs.ToEmptyLemmas.{gives_last, gives_none, is_no_message}
use Rattle.mold_input.proofs.blocks_to_empty.BlocksToEmptyMessageReader.advance.Goals as goal

pub returns-then-self-clause-next : goal.returns-then-self-clause-next
returns-then-self-clause-next g c =
    let same : c.args.self.now.unread ≡ unread_to_empty c.self.inside.ended c.self.inside.blocks.unread =
    sym (ap (λ (s : ReaderState). s.unread) c.self.view_is) in
    let ended = same ∙ ap (λ (e : Bool). unread_to_empty e c.self.inside.blocks.unread) c.if-self.true in
    rw ended (gives_none (g.S.Source.left c.args.source.now) c.self.inside.blocks.unread c.args.self.now.message)

pub returns-clause-next : goal.returns-clause-next
returns-clause-next g c =
    let same : c.args.self.now.unread ≡ unread_to_empty c.self.inside.ended c.self.inside.blocks.unread =
    sym (ap (λ (s : ReaderState). s.unread) c.self.view_is) in
    let reading = same ∙ ap (λ (e : Bool). unread_to_empty e c.self.inside.blocks.unread) c.if-self.false in
    let empty : c.in_ok-next.next ≡ Message → length c.advance.new.self.message ≡ 0 =
    λ is. ap (λ (t : List ℕ). length t) (sym c.message.ensures) ∙ c.is_more.ensures.last c.if-is_more.false is in
    rw reading
    (rw c.last_of.ensures
    (gives_last _ (g.S.Source.left c.advance.new.source) c.advance.new.self.unread c.in_ok-next.next
    c.advance.new.self.message empty c.in_ok-next.ensures.next))

pub returns-clause-work : goal.returns-clause-work
returns-clause-work g c = λ is. absurd (is_no_message c.in_ok-next.next (sym c.last_of.ensures ∙ is))
