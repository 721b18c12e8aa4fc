use Rattle.std.proofs.Common.{◌≡◌, ◌∙◌, ◌+◌, ℕ, List, ap, drop, sym, subst, take}
use Rattle.std.specs.Io.KnownBytes.{prepend_known}
use Rattle.mold_devices.proofs.LineLemmas.{found_end, gives_read}
use Rattle.mold_input.specs.Entries.{GivesNext, ReaderState, known_entries, line_entries, line_entry}
use Rattle.mold_input.specs.LongLines.{IsEntry}
use Rattle.mold_input.proofs.StartLemmas.{gives_entry}
use Rattle.mold_input.proofs.hex_lines.HexLinesMessageReader.advance.Goals as goal

pub returns-in-Some-clause-next : goal.returns-in-Some-clause-next
returns-in-Some-clause-next g c =
    let left = g.S.Source.left c.args.source.now in
    let piece = c.self.inside.piece.value in
    let at = c.in-Some.at in
    let next = c.in_ok-next.next in
    let message = c.read_line.new.message.items in
    let shown : piece ≡ c.args.self.now.unread = ap (λ (s : ReaderState). s.unread) c.self.view_is in
    let rest = c.skip.ensures ∙ ap (λ (t : List ℕ). drop (at + 1) t) c.deref_mut.ensures.value in
    let line = c.rest-in-Some.ensures.value ∙ c.deref-in-Some.ensures in
    subst (λ (t : List ℕ). GivesNext (known_entries line_entries (prepend_known t left))
    (known_entries line_entries (prepend_known c.skip.new.self left)) next message) shown
    (subst (λ (t : List ℕ). GivesNext (known_entries line_entries (prepend_known piece left))
    (known_entries line_entries (prepend_known t left)) next message) (sym rest)
    (gives_entry (prepend_known piece left) (prepend_known (drop (at + 1) piece) left) (take at piece) next message
    (gives_read left piece at (found_end c.rest.result.now piece at (c.rest.ensures.value ∙ c.deref.ensures) c.in-Some.ensures))
    (subst (λ (t : List ℕ). IsEntry (line_entry (take at t)) next message) line c.in_ok-next.ensures)))
