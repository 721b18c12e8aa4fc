-- What a window has after reads and skips.
use Rattle.std.proofs.Common.{◌≡◌, ℕ, ◌+◌, ◌-◌, ◌<◌, ◌≤◌, List, ◌++◌, length, length-append, length-drop, take, drop}
use Rattle.std.proofs.Common.{Option, None, Some, refl, sym, ap, ◌∙◌, append_assoc, arith}
use Rattle.std.proofs.Common.{Bool, true, false}
use Rattle.std.proofs.lemmas.Bool.{false≢true}
use Rattle.std.proofs.lemmas.List.{drop-append-le, drop-drop, drop-take, length-take-le, take-append-le}
use Rattle.std.specs.Bool.{OnFalse, OnTrue}
use borrow.Rule.Slice.PartMut.{post_of, put_mid}
use lib.Seq.{take-append-add}
use Rattle.std.specs.Io.KnownBytes.{Consumes, IsAtEnd, Keeps, prepend_known}
use Rattle.std.specs.Prelude.{IfSome}
use Rattle.mold_pcap.specs.Numbers.{number}
use Rattle.mold_pcap.specs.Windows.{IsShort, Passes}
use Rattle.mold_pcap.specs.declared.order.Order.{Order}
use Rattle.mold_pcap.proofs.LookLemmas.{number_first}

-- A part of a buffer without its first bytes.
pub skipped : (bytes : List ℕ) (start end n : ℕ) → n + start ≤ end →
    take (end - (start + n)) (drop (start + n) bytes) ≡ drop n (take (end - start) (drop start bytes))
skipped bytes start end n within =
    let left = end - (start + n) in
    let whole : end - start ≡ n + left = omega arith in
    sym (
    ap (λ (m : ℕ). drop n (take m (drop start bytes))) whole
    ∙ drop-take n left (drop start bytes)
    ∙ ap (take left) (drop-drop n start bytes)
    )

-- Bytes that were read are after those that were there.
pub reads_more : (known left : Option (List ℕ)) (old new added : List ℕ) → new ≡ old ++ added →
    Consumes known left added → Keeps (prepend_known old known) (prepend_known new left)
reads_more None left old new added joined read = tt
reads_more (Some xs) None old new added joined read = absurd read
reads_more (Some xs) (Some ys) old new added joined read =
    ap (λ (t : List ℕ). t ++ ys) joined ∙ append_assoc old added ys ∙ ap (λ (t : List ℕ). old ++ t) (sym read)

-- Bytes that are there are passed.
pub passes_here : (bytes : List ℕ) (left : Option (List ℕ)) (n : ℕ) → n ≤ length bytes →
    Passes n (prepend_known bytes left) (prepend_known (drop n bytes) left)
passes_here bytes None n within = tt
passes_here bytes (Some ys) n within = (omega (arith, length-append bytes ys), sym (drop-append-le n bytes ys within))

pub passes_kept : (one other left : Option (List ℕ)) (n : ℕ) → Keeps one other → Passes n other left → Passes n one left
passes_kept None other left n kept passed = tt
passes_kept (Some xs) None left n kept passed = absurd kept
passes_kept (Some xs) (Some ys) None n kept passed = absurd passed
passes_kept (Some xs) (Some ys) (Some zs) n kept passed =
    (omega (arith, ap (λ (t : List ℕ). length t) kept, passed.0), passed.1 ∙ ap (drop n) kept)

-- Some bytes were passed, and then others.
pub passes_on : (one other left : Option (List ℕ)) (n m : ℕ) → Passes n one other → Passes m other left →
    Passes (n + m) one left
passes_on None other left n m first second = tt
passes_on (Some xs) None left n m first second = absurd first
passes_on (Some xs) (Some ys) None n m first second = absurd second
passes_on (Some xs) (Some ys) (Some zs) n m first second =
    let rest : length ys ≡ length xs - n = ap (λ (t : List ℕ). length t) first.1 ∙ length-drop n xs in
    (omega (arith, rest, first.0, second.0), second.1 ∙ ap (drop m) first.1 ∙ drop-drop m n xs)

pub passes_none : (known : Option (List ℕ)) → Passes 0 known known
passes_none None = tt
passes_none (Some xs) = (omega arith, refl)

pub short_kept : (one other : Option (List ℕ)) (n : ℕ) → Keeps one other → IsShort n other → IsShort n one
short_kept None other n kept short = tt
short_kept (Some xs) None n kept short = absurd kept
short_kept (Some xs) (Some ys) n kept short = omega (arith, ap (λ (t : List ℕ). length t) kept, short)

-- After some bytes were passed, too few remain.
pub short_after : (one other : Option (List ℕ)) (n m : ℕ) → Passes n one other → IsShort m other → IsShort (n + m) one
short_after None other n m passed short = tt
short_after (Some xs) None n m passed short = absurd passed
short_after (Some xs) (Some ys) n m passed short =
    omega (arith, ap (λ (t : List ℕ). length t) passed.1, length-drop n xs, passed.0, short)

-- At the end of the source, only the bytes of the window remain.
pub short_at_end : (bytes : List ℕ) (left : Option (List ℕ)) (n : ℕ) → length bytes < n → IsAtEnd left →
    IsShort n (prepend_known bytes left)
short_at_end bytes None n few ended = tt
short_at_end bytes (Some ys) n few ended =
    omega (arith, length-append bytes ys, ap (λ (t : List ℕ). length t) ended, few)

-- The first bytes after a write to a part of the memory.
pub taken_after : (end n k : ℕ) (old part : List ℕ) → end ≤ length old → n ≤ length part →
    take (end + n) (put_mid end k old part) ≡ take end old ++ take n part
taken_after end n k old part within few =
    let front : List ℕ = take end old in
    let long : length front ≡ end = length-take-le end old within in
    ap (λ (m : ℕ). take (m + n) (put_mid end k old part)) (sym long)
    ∙ take-append-add front (part ++ post_of end k old) n
    ∙ ap (λ (t : List ℕ). front ++ t) (take-append-le n part (post_of end k old) few)

-- The length at the end of a block, after its other bytes were passed.
pub end_here : (one other : Option (List ℕ)) (order : Order) (n value : ℕ) (window : List ℕ) (left : Option (List ℕ)) →
    Passes n one other → Keeps other (prepend_known window left) → 4 ≤ length window → number order 4 window ≡ value →
    IfSome one (λ bytes. number order 4 (drop n bytes) ≡ value)
end_here None other order n value window left passed kept long is = tt
end_here (Some xs) None order n value window left passed kept long is = absurd passed
end_here (Some xs) (Some ys) order n value window None passed kept long is = absurd kept
end_here (Some xs) (Some ys) order n value window (Some zs) passed kept long is =
    ap (number order 4) (sym passed.1 ∙ sym kept) ∙ number_first order 4 window zs long ∙ is

-- A block whose end is there has all its bytes.
pub long_after : (one other : Option (List ℕ)) (n m : ℕ) (window : List ℕ) (left : Option (List ℕ)) →
    Passes n one other →
    Keeps other (prepend_known window left) → m ≤ length window → IfSome one (λ bytes. n + m ≤ length bytes)
long_after None other n m window left passed kept long = tt
long_after (Some xs) None n m window left passed kept long = absurd passed
long_after (Some xs) (Some ys) n m window None passed kept long = absurd kept
long_after (Some xs) (Some ys) n m window (Some zs) passed kept long =
    omega (
      arith,
      ap (λ (t : List ℕ). length t) passed.1,
      length-drop n xs,
      passed.0,
      ap (λ (t : List ℕ). length t) kept,
      length-append window zs,
      long,
    )

pub on_true : (b : Bool) (P : Type 0) → b ≡ true → OnTrue b P → P
on_true true P is p = p
on_true false P is p = absurd (false≢true is)

pub on_false : (b : Bool) (P : Type 0) → b ≡ false → OnFalse b P → P
on_false true P is p = absurd (false≢true (sym is))
on_false false P is p = p
