use Rattle.std.proofs.Common.{◌∙◌, ap}
use Rattle.mold_input.specs.LongLines.{bytes_of}
use Rattle.mold_feeder.specs.ToEmpty.{bytes_in, source_left}
use Rattle.mold_feeder.specs.declared.piece_input.PieceInput.{PieceInput}
use Rattle.mold_feeder.proofs.InputLemmas.{lacks_ready, nil_second, rest_added, rest_ended}
use Rattle.mold_feeder.proofs.piece_input.PieceInput.pull.Goals as goal

pub returns-then-not-more-clause-rest : goal.returns-then-not-more-clause-rest
returns-then-not-more-clause-rest g c =
    let self = c.args.self.now in
    let last = c.replace-last.ensures.value in
    let after = c.replace-last.ensures.after in
    let none = ap bytes_of c.new.ensures in
    let of = c.of.ensures in
    rest_ended g.M.MessageReader.entries (g.M.InputReader.unread self.come.messages) self.come.source c.of.result
    (bytes_of self.part) (bytes_of c.replace-last.new.dest) (bytes_in c.refill.new.self) (source_left g.K.Source.left self.source)
    (source_left g.K.Source.left c.refill.new.self) (c.requires.input.taken (lacks_ready self.ready self.ended c.requires.lacks))
    c.empty_law.ensures.none c.in_ok-more.ensures.bytes (c.in_ok-more.ensures.end c.if-not-more.true).0
    (c.in_ok-more.ensures.end c.if-not-more.true).1 (of ∙ ap bytes_of last) (ap bytes_of after ∙ none)

pub add_piece-requires-clause-none : goal.add_piece-requires-clause-none
add_piece-requires-clause-none g c =
    let self = c.args.self.now in
    nil_second g.M.MessageReader.entries (g.M.InputReader.unread self.come.messages) self.come.source
    (c.requires.input.taken (lacks_ready self.ready self.ended c.requires.lacks))

pub returns-clause-rest : goal.returns-clause-rest
returns-clause-rest g c =
    let self = c.args.self.now in
    rest_added g.M.MessageReader.entries (g.M.InputReader.unread self.come.messages)
    (g.M.InputReader.unread c.add_piece.new.self.come.messages) self.come.source c.add_piece.new.self.come.source
    (bytes_of self.part) (bytes_of c.add_piece.new.self.part) (bytes_in c.refill.new.self) (source_left g.K.Source.left self.source)
    (source_left g.K.Source.left c.refill.new.self) (source_left g.K.Source.left c.add_piece.new.self.source)
    (ap g.M.InputReader.unread c.in_ok-add_piece.ensures.messages)
    (ap (λ (i : PieceInput g.row.M.Denot g.row.K.Denot). source_left g.K.Source.left i.source) c.in_ok-add_piece.ensures.rest)
    (c.requires.input.taken (lacks_ready self.ready self.ended c.requires.lacks)) c.empty_law.ensures.none
    c.in_ok-more.ensures.bytes c.in_ok-add_piece.ensures.split
