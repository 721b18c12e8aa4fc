use Rattle.std.proofs.Common.{ℕ, List, [], ◌∷◌, ◌++◌, length, sym, subst, ◌∙◌}
use Rattle.std.specs.Prelude.{IfSome}
use Rattle.std.proofs.lemmas.Result.{err_from_is_err_and}
use Rattle.std.specs.Io.KnownBytes.{prepend_known}
use Rattle.mold_session.proofs.FileLemmas.{passed_on}
use Rattle.mold_session.specs.Loading.{Refuses}
use Rattle.mold_session.specs.declared.loading.FileHead.{FileHead}
use Rattle.mold_index.specs.Index.{Indexes}
use Rattle.mold_index.specs.Layouts.{lengths_of}
use Rattle.mold_indexed_file.specs.Opened.{AddFault, IsIndexOf, OpenFault}
use Rattle.mold_indexed_file.proofs.OpeningLemmas.{adding_refused, reading_end, reading_more, reading_passed}
use Rattle.mold_indexed_file.proofs.OpeningLemmas.{reading_refused}
use Rattle.mold_indexed_file.proofs.opening.read_index.Goals as goal

pub returns-in_err-advance_within-clause-refused : goal.returns-in_err-advance_within-clause-refused
returns-in_err-advance_within-clause-refused g c =
    let known = g.S.Source.left c.args.source.now in
    passed_on c.from_residual-in_err-advance_within.result c.in_err-advance_within.field-0.0
    (Refuses (OpenFault c.args.max_message) known)
    (err_from_is_err_and c.from_residual-in_err-advance_within.result c.from_residual-in_err-advance_within.ensures.1)
    (reading_refused c.args.max_message known
    (prepend_known c.messages.reader.rest (g.S.Source.left c.messages.source)) c.messages.reader c.messages.index
    c.in_err-advance_within.field-0.0 c.messages.invariant.reading
    c.in_err-advance_within.ensures.refused)

pub messages-preserved : goal.messages-preserved
messages-preserved g c =
    let most = c.args.max_message in
    let known = g.S.Source.left c.args.source.now in
    let left = g.S.Source.left c.advance_within.new.source in
    let reader = c.advance_within.new.self in
    let reading = c.messages.invariant.reading in
    let lengths = lengths_of reading.messages in
    record {
      reading = reading_passed most known left reader c.pass_messages.new.self c.add_message.new.index
          c.pass_messages.new.taker
          (reading_more most known (prepend_known c.messages.reader.rest (g.S.Source.left c.messages.source))
          (prepend_known reader.rest left) c.messages.reader reader c.messages.index c.add_message.new.index reading
          (rw c.if-branch.true at c.in_ok-advance_within.ensures.next)
          (rw c.if-branch.true at c.in_ok-advance_within.ensures.within)
          c.in_ok-add_message.ensures.layout
          (subst (λ (m : List ℕ). Indexes c.add_message.new.index (lengths ++ length m ∷ [])) c.message.ensures
          (c.in_ok-add_message.ensures.indexes lengths reading.indexes)))
          c.pass_messages.ensures;
      counted = c.in_ok-advance_within.ensures.failures ∙ c.messages.invariant.counted;
    }

pub returns-in_err-add_message-clause-refused : goal.returns-in_err-add_message-clause-refused
returns-in_err-add_message-clause-refused g c =
    let most = c.args.max_message in
    let known = g.S.Source.left c.args.source.now in
    let error = c.in_err-add_message.field-0.0 in
    passed_on c.from_residual-in_err-add_message.result error (Refuses (OpenFault most) known)
    (err_from_is_err_and c.from_residual-in_err-add_message.result c.from_residual-in_err-add_message.ensures.1)
    (adding_refused most known (prepend_known c.messages.reader.rest (g.S.Source.left c.messages.source))
    (prepend_known c.advance_within.new.self.rest (g.S.Source.left c.advance_within.new.source)) c.messages.reader
    c.advance_within.new.self c.messages.index error c.messages.invariant.reading
    (rw c.if-branch.true at c.in_ok-advance_within.ensures.next)
    (subst (λ (m : List ℕ). AddFault c.messages.index (length m) error) c.message.ensures
    c.in_err-add_message.ensures.refused))

pub returns-clause-is : goal.returns-clause-is
returns-clause-is g c =
    let most = c.args.max_message in
    let known = g.S.Source.left c.args.source.now in
    subst (λ (h : FileHead). IfSome known (λ bytes. IsIndexOf most bytes h c.messages.index)) (sym c.head-2.ensures)
    (reading_end most known (prepend_known c.messages.reader.rest (g.S.Source.left c.messages.source))
    c.messages.reader c.messages.index c.advance_within.new.self.head c.messages.invariant.reading
    (rw c.if-branch.false at c.in_ok-advance_within.ensures.end))
