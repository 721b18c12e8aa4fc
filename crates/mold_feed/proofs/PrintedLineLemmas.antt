-- The messages between two numbers of a session, and the printed lines that make up a listener's text.
use Rattle.std.proofs.Common.{◌≡◌, ℕ, suc, ◌+◌, ◌-◌, ◌≤◌, List, [], ◌∷◌, ◌++◌, length, get_or, take, drop}
use Rattle.std.proofs.Common.{refl, sym, ap, ◌∙◌, arith, length-drop, take-add}
use Rattle.std.specs.Prelude.{Some, slice_get}
use Rattle.std.specs.List.{AllByRecursion}
use Rattle.std.proofs.lemmas.List.{drop-drop, drop-take, get_or_default, get_or-drop, get_or-take, length-take-le}
use Rattle.std.proofs.lemmas.List.{same_lists, take-take}
use Rattle.std.proofs.lemmas.List.Concat.{flat_map-append}
use Rattle.std.proofs.lemmas.Option.{get_or_from_slice_get, slice_get-get_or, slice_get_within}
use Rattle.mold_input.specs.declared.message_format.MessageFormat.{MessageFormat}
use Rattle.mold_receiver.specs.Store.{Message, numbered}
use Rattle.mold_session.specs.Answer.{between}
use Rattle.mold_wire.specs.Truth.{published_at}
use Rattle.mold_wire.specs.declared.session.Session.{Session}
use Rattle.mold_wire.proofs.TruthLemmas.{message_at-from}
use Rattle.mold_feed.specs.Received.{PrintedLine, Handed, Refuses, RefusesForeign, handed_of, printed_line, printed_lines_text}
use Rattle.mold_listen.specs.Text.{handed_text, message_text}

-- ---- between two numbers

-- no message is between a number and itself
pub between_none : (published : List Message) (number : ℕ) → between published number number ≡ []
between_none published number =
    ap (λ (n : ℕ). take n (drop (number - 1) published)) (let e : number - number ≡ 0 = omega arith in e)

pub length-between : (published : List Message) (from to : ℕ) → 1 ≤ from → to ≤ length published + 1 →
    length (between published from to) ≡ to - from
length-between published from to first within =
    length-take-le (to - from) (drop (from - 1) published)
    (omega (arith, first, within, length-drop (from - 1) published))

-- the messages between two numbers are those up to a third number and those from there on
pub between_joined : (published : List Message) (from mid to : ℕ) → 1 ≤ from → from ≤ mid → mid ≤ to →
    between published from to ≡ between published from mid ++ between published mid to
between_joined published from mid to first low high =
    let behind : List Message = drop (from - 1) published in
    let sum : to - from ≡ mid - from + (to - mid) = omega (arith, low, high) in
    let index : from - 1 + (mid - from) ≡ mid - 1 = omega (arith, first, low) in
    ap (λ (n : ℕ). take n behind) sum
    ∙ take-add (mid - from) (to - mid) behind
    ∙ ap (λ (l : List Message). take (mid - from) behind ++ take (to - mid) l)
    (drop-drop (mid - from) (from - 1) published ∙ ap (λ (n : ℕ). drop n published) index)

-- the messages between two numbers are the same in a prefix of the messages that is long enough
pub between_front : (published : List Message) (count from to : ℕ) → 1 ≤ from → from ≤ to → to ≤ count + 1 →
    between (take count published) from to ≡ between published from to
between_front published count from to first low high =
    let before : ℕ = from - 1 in
    let more : ℕ = count - before in
    let sum : count ≡ before + more = omega (arith, first, low, high) in
    ap (λ (n : ℕ). take (to - from) (drop before (take n published))) sum
    ∙ ap (take (to - from)) (drop-take before more published)
    ∙ take-take (to - from) more (drop before published) (omega (arith, first, low, high))

-- a function that maps numbered messages one by one can be split at a third number
pub counted_joined : {X : Type 0} (F : ℕ → List Message → List X) →
    ((number : ℕ) (xs ys : List Message) → F number (xs ++ ys) ≡ F number xs ++ F (number + length xs) ys) →
    (published : List Message) (from mid to : ℕ) → 1 ≤ from → from ≤ mid → mid ≤ to → mid ≤ length published + 1 →
    F from (between published from to) ≡ F from (between published from mid) ++ F mid (between published mid to)
counted_joined {X} F joins published from mid to first low high within =
    let front : List Message = between published from mid in
    let behind : List Message = between published mid to in
    let next : from + length front ≡ mid = omega (arith, low, length-between published from mid first within) in
    ap (F from) (between_joined published from mid to first low high)
    ∙ joins from front behind
    ∙ ap (λ (n : ℕ). F from front ++ F n behind) next

-- messages each of which is in a list, from an index on, are the part of the list from there on
stands_within : (index : ℕ) (messages published : List Message) → index ≤ length published →
    ((i : ℕ) (m : Message) → slice_get messages i ≡ Some m → slice_get published (index + i) ≡ Some m) →
    index + length messages ≤ length published
stands_within index [] published low each = omega (arith, low)
stands_within index (message ∷ messages) published low each =
    let last : ℕ = length messages in
    let some : slice_get (message ∷ messages) last ≡ Some (get_or (message ∷ messages) last []) =
    slice_get-get_or (message ∷ messages) last [] (omega arith) in
    let within = slice_get_within published (index + last) (get_or (message ∷ messages) last [])
    (each last (get_or (message ∷ messages) last []) some) in
    omega (arith, within)

is_piece : (index : ℕ) (messages published : List Message) → index ≤ length published →
    ((i : ℕ) (m : Message) → slice_get messages i ≡ Some m → slice_get published (index + i) ≡ Some m) →
    messages ≡ take (length messages) (drop index published)
is_piece index messages published low each =
    let count : ℕ = length messages in
    let all : count ≤ length (drop index published) =
    omega (arith, stands_within index messages published low each, length-drop index published) in
    same_lists messages (take count (drop index published)) (sym (length-take-le count (drop index published) all))
    (λ i other inside.
    sym
    (get_or-take count (drop index published) i other inside
    ∙ get_or-drop index published i other
    ∙ get_or_from_slice_get published (index + i) (get_or messages i []) other
    (each i (get_or messages i []) (slice_get-get_or messages i [] inside))
    ∙ get_or_default messages i [] other inside))

-- messages each of which is the published one with its number are those between two numbers
pub handed_between : (published messages : List Message) (next after : ℕ) → 1 ≤ next → next ≤ length published + 1 →
    after ≡ next + length messages →
    ((i : ℕ) (m : Message) → slice_get messages i ≡ Some m → published_at published (next + i) ≡ Some m) →
    messages ≡ between published next after
handed_between published messages next after first within more each =
    let count : length messages ≡ after - next = omega (arith, more) in
    is_piece (next - 1) messages published (omega (arith, within)) (λ i m is.
    sym (message_at-from 1 published (next + i) (next - 1 + i) (omega (arith, first))) ∙ each i m is)
    ∙ ap (λ (n : ℕ). take n (drop (next - 1) published)) count

-- ---- messages after messages

pub numbered-append : (number : ℕ) (xs ys : List Message) →
    numbered number (xs ++ ys) ≡ numbered number xs ++ numbered (number + length xs) ys
numbered-append number [] ys = ap (λ (n : ℕ). numbered n ys) (omega arith)
numbered-append number (x ∷ xs) ys =
    ap (λ (l : List (ℕ × Message)). (number, x) ∷ l) (numbered-append (suc number) xs ys)
    ∙ ap (λ (n : ℕ). (number, x) ∷ numbered (suc number) xs ++ numbered n ys)
    (let e : suc number + length xs ≡ number + suc (length xs) = omega arith in e)

-- ---- printed lines

-- the printed lines of delivered messages, with numbers from the given one on
unfoldable pub handing : ℕ → List Message → List PrintedLine
handing number [] = []
handing number (message ∷ messages) = Handed number message ∷ handing (suc number) messages

pub handing-append : (number : ℕ) (xs ys : List Message) →
    handing number (xs ++ ys) ≡ handing number xs ++ handing (number + length xs) ys
unfolding handing
handing-append number [] ys = ap (λ (n : ℕ). handing n ys) (omega arith)
handing-append number (x ∷ xs) ys =
    ap (λ (l : List PrintedLine). Handed number x ∷ l) (handing-append (suc number) xs ys)
    ∙ ap (λ (n : ℕ). Handed number x ∷ handing (suc number) xs ++ handing n ys)
    (let e : suc number + length xs ≡ number + suc (length xs) = omega arith in e)

pub handed_of-handing : (number : ℕ) (messages : List Message) → handed_of (handing number messages) ≡ numbered number messages
unfolding handing
handed_of-handing number [] = refl
handed_of-handing number (message ∷ messages) =
    ap (λ (l : List (ℕ × Message)). (number, message) ∷ l) (handed_of-handing (suc number) messages)

pub text-handing : (format : MessageFormat) (number : ℕ) (messages : List Message) →
    printed_lines_text format (handing number messages) ≡ handed_text format number messages
unfolding handing handed_text
text-handing format number [] = refl
text-handing format number (message ∷ messages) =
    ap (λ (l : List ℕ). message_text format number message ++ l)
    (text-handing format (suc number) messages
    ∙ ap (λ (n : ℕ). handed_text format n messages) (let e : suc number ≡ number + 1 = omega arith in e))

pub refused-handing : (Good : List ℕ → Type 0) (session : Session) (number : ℕ) (messages : List Message) →
    AllByRecursion (RefusesForeign Good session) (handing number messages)
unfolding handing
refused-handing Good session number [] = tt
refused-handing Good session number (message ∷ messages) = (tt, refused-handing Good session (suc number) messages)

-- printed lines after printed lines
pub handed_of-append : (xs ys : List PrintedLine) → handed_of (xs ++ ys) ≡ handed_of xs ++ handed_of ys
handed_of-append [] ys = refl
handed_of-append (Handed number message ∷ xs) ys =
    ap (λ (l : List (ℕ × Message)). (number, message) ∷ l) (handed_of-append xs ys)
handed_of-append (Refuses bytes why ∷ xs) ys = handed_of-append xs ys

pub text-append : (format : MessageFormat) (xs ys : List PrintedLine) →
    printed_lines_text format (xs ++ ys) ≡ printed_lines_text format xs ++ printed_lines_text format ys
text-append format xs ys = flat_map-append (printed_line format) xs ys

pub refused-append : (Good : List ℕ → Type 0) (session : Session) (xs ys : List PrintedLine) →
    AllByRecursion (RefusesForeign Good session) xs → AllByRecursion (RefusesForeign Good session) ys →
    AllByRecursion (RefusesForeign Good session) (xs ++ ys)
refused-append Good session [] ys one other = other
refused-append Good session (x ∷ xs) ys one other = (one.0, refused-append Good session xs ys one.1 other)

pub refused-weaker : (Good Came : List ℕ → Type 0) (session : Session) → ((bytes : List ℕ) → Good bytes → Came bytes) →
    (printed_lines : List PrintedLine) → AllByRecursion (RefusesForeign Good session) printed_lines →
    AllByRecursion (RefusesForeign Came session) printed_lines
refused-weaker Good Came session weaker [] all = tt
refused-weaker Good Came session weaker (Handed number message ∷ printed_lines) all =
    (tt, refused-weaker Good Came session weaker printed_lines all.1)
refused-weaker Good Came session weaker (Refuses bytes why ∷ printed_lines) all =
    ((weaker bytes all.0.0, all.0.1, all.0.2), refused-weaker Good Came session weaker printed_lines all.1)
