use Rattle.std.proofs.Common.{◌≡◌, ◌∙◌, ◌+◌, ◌++◌, ap, append_assoc, drop, length, List, ℕ, refl, replicate, subst, sym, take, take-append-drop}
use Rattle.mold_devices.specs.Lines.{HasNoEnd}
use Rattle.mold_devices.proofs.LineLemmas.{HasNoEnd-append, none_found}
use Rattle.mold_input.specs.Entries.{line_entries}
use Rattle.mold_input.specs.LongLines.{PartState, bytes_of}
use Rattle.mold_feeder.specs.Pieces.{AreWhole}
use Rattle.mold_feeder.proofs.PieceLemmas.{front_dropped, front_taken, lines_whole, no_end_after, same_entries, split_at}
use Rattle.mold_feeder.proofs.piece_reader.HexLinesPieceReader.add.Goals as goal
use Rattle.mold_feeder.proofs.piece_reader.HexLinesPieceReader.add.Goals.{In_ok-whole}

pub returns-in_default-clause-part : goal.returns-in_default-clause-part
returns-in_default-clause-part c =
    let none = none_found c.args.bytes.now c.args.bytes.now refl c.in_default.ensures in
    c.in_ok-add.ensures.same.no_end (HasNoEnd-append (bytes_of c.args.part.now) c.args.bytes.now c.requires none)

pub returns-in_default-clause-split : goal.returns-in_default-clause-split
returns-in_default-clause-split c = λ more.
    let part = bytes_of c.args.part.now in
    let bytes = c.args.bytes.now in
    let new = bytes_of c.add.new.self in
    let none = none_found bytes bytes refl c.in_default.ensures in
    ap (λ (p : PartState). line_entries (bytes_of p) ++ line_entries (new ++ more)) c.new.ensures
    ∙ same_entries new (part ++ bytes) more c.in_ok-add.ensures.same (HasNoEnd-append part bytes c.requires none)
    ∙ ap line_entries (append_assoc part bytes more)

-- The whole lines, and the rest of the piece.
shown : (c : In_ok-whole) →
    bytes_of c.in_ok-whole.whole ≡ bytes_of c.args.part.now ++ take (c.in-Some.at + 1) c.args.bytes.now
shown c =
    let part = c.args.part.now in
    let at = c.in-Some.at in
    let count = length c.kept-before.result.now + at + 1 in
    ap bytes_of c.in_ok-whole.ensures.whole
    ∙ ap (λ (s : PartState). replicate s.counted 48 ++ take count s.kept) c.in_ok-extend.ensures
    ∙ ap (λ (t : List ℕ). replicate part.counted 48 ++ t)
    (front_taken part.kept c.args.bytes.now (length c.kept-before.result.now) at count
    (ap (λ (t : List ℕ). length t) c.kept-before.ensures) refl)
    ∙ sym (append_assoc (replicate part.counted 48) part.kept (take (at + 1) c.args.bytes.now))

rest : (c : In_ok-whole) → bytes_of c.split.new.self ≡ drop (c.in-Some.at + 1) c.args.bytes.now
rest c =
    let part = c.args.part.now in
    let at = c.in-Some.at in
    let count = length c.kept-before.result.now + at + 1 in
    ap bytes_of c.in_ok-whole.ensures.left
    ∙ ap (λ (s : PartState). drop count s.kept) c.in_ok-extend.ensures
    ∙ front_dropped part.kept c.args.bytes.now (length c.kept-before.result.now) at count
    (ap (λ (t : List ℕ). length t) c.kept-before.ensures) refl

lines : (c : In_ok-whole) →
    AreWhole line_entries (bytes_of c.args.part.now ++ take (c.in-Some.at + 1) c.args.bytes.now)
lines c = lines_whole (bytes_of c.args.part.now) c.args.bytes.now c.in-Some.at c.in-Some.ensures.0.high c.in-Some.ensures.1

pub returns-clause-whole : goal.returns-clause-whole
returns-clause-whole c = subst (AreWhole line_entries) (sym (shown c)) (lines c)

pub returns-clause-part : goal.returns-clause-part
returns-clause-part c = subst HasNoEnd (sym (rest c)) (no_end_after c.args.bytes.now c.in-Some.at c.in-Some.ensures.0)

pub returns-clause-split : goal.returns-clause-split
returns-clause-split c = λ more.
    let part = bytes_of c.args.part.now in
    let bytes = c.args.bytes.now in
    let at = c.in-Some.at in
    ap (λ (t : List ℕ). line_entries t ++ line_entries (bytes_of c.split.new.self ++ more)) (shown c)
    ∙ ap (λ (t : List ℕ). line_entries (part ++ take (at + 1) bytes) ++ line_entries (t ++ more)) (rest c)
    ∙ split_at line_entries (part ++ take (at + 1) bytes) (drop (at + 1) bytes) part bytes more (lines c)
    (append_assoc part (take (at + 1) bytes) (drop (at + 1) bytes)
    ∙ ap (λ (t : List ℕ). part ++ t) (take-append-drop (at + 1) bytes))
