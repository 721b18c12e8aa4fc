use Rattle.std.proofs.Common.{◌≡◌, ◌∙◌, ◌++◌, ◌-◌, ◌+◌, arith, ap, drop, sym, ℕ, length, List, take, replicate}
use Rattle.mold_feeder.proofs.PieceLemmas.{Given, buffer_filled, nothing_left, read_left, read_split}
use Rattle.mold_feeder.proofs.arrived.ArrivedSource.read.Goals as goal

pub returns-clause-left : goal.returns-clause-left
returns-clause-left c =
    let digits = c.self.inside.digits in
    let read = c.self.inside.read in
    let first = c.min-digits.result in
    let count = c.min-count.result in
    let bytes = c.self.inside.bytes.items in
    let given : Given digits read first count bytes c.args.buffer.now = record {
      digit = c.min-digits.ensures;
      byte = omega (arith, c.min-count.ensures, c.len.ensures);
    } in
    read_left digits read first count bytes c.args.buffer.now given
    ∙ ap (drop (length c.args.buffer.now)) c.self.view_is

pub returns-clause-bytes : goal.returns-clause-bytes
returns-clause-bytes c =
    let digits = c.self.inside.digits in
    let read = c.self.inside.read in
    let first = c.min-digits.result in
    let count = c.min-count.result in
    let bytes = c.self.inside.bytes.items in
    let buffer = c.args.buffer.now in
    let mid = c.put_digits.new.buffer in
    let new = c.put_bytes.new.buffer in
    let left = replicate (digits - first) 48 ++ drop (read + count) bytes in
    let given : Given digits read first count bytes buffer = record {
      digit = c.min-digits.ensures;
      byte = omega (arith, c.min-count.ensures, c.len.ensures);
    } in
    let copied = take (read + count - read) (drop read c.deref.result.now) in
    let exact : read + count - read ≡ count = omega arith in
    let same : copied ≡ take count (drop read bytes) =
    ap (λ (n : ℕ). take n (drop read c.deref.result.now)) exact
    ∙ ap (λ (t : List ℕ). take count (drop read t)) c.deref.ensures.value
    in
    let rest = drop (first + length copied) mid in
    let filled : take (first + count) new ≡ replicate first 48 ++ take count (drop read bytes) =
    buffer_filled digits read first count bytes buffer given mid new rest c.put_digits.ensures
    (c.put_bytes.ensures ∙ ap (λ (t : List ℕ). take first mid ++ (t ++ rest)) same)
    in (
      sym c.self.view_is
          ∙ read_split digits read first count bytes buffer given
          ∙ ap (λ (t : List ℕ). t ++ left) (sym filled),
      λ none room.
          nothing_left digits read first count bytes buffer given none
          (omega (arith, room, c.put_bytes.auto.buffer, c.put_digits.auto.buffer)),
    )
