-- The events of a script. A line has words separated by single spaces, and the first word names an event.
use Rattle.std.specs.Prelude.{ℕ, List, [], ◌∷◌, codes, ◌==◌, if◌then◌else◌}
use Rattle.std.specs.Prelude.{Option, None, Some, option_map, Result, Ok, Err}
use Rattle.std.specs.Str.{bytes_eq}
use Rattle.hex.specs.Hex.{decode_of}
use Rattle.hex.specs.declared.error.FromHexError.{FromHexError}
use Rattle.mold_devices.specs.Lines.{onto_first}
use Rattle.mold_digits.specs.Numbers.{decimal_of as number_in}
use Rattle.mold_receiver.specs.declared.line.Line.TheVariants.{A, B}
use Rattle.mold_world.specs.Event.{Happening}
use Rattle.mold_world.specs.declared.event.EventOf.TheVariants.{Publish, Datagram, Heartbeat, Close, End}
use Rattle.mold_world.specs.declared.event.EventOf.TheVariants.{Request, Ask, Deliver, Noise, Restart}
use Rattle.mold_world.specs.declared.way.Way.{Way}
use Rattle.mold_world.specs.declared.way.Way.TheVariants.{Answer, Line}

-- The words of a line. Each space separates two words, so two spaces in a row have an empty word between them.
abbrev pub words_of : List ℕ → List (List ℕ)
words_of [] = [] ∷ []
words_of (byte ∷ bytes) = if byte == 32 then [] ∷ words_of bytes else onto_first byte (words_of bytes)

-- The bytes that were decoded from hexadecimal digits, or none if the digits are not valid.
abbrev pub spelled : Result (List ℕ) FromHexError → Option (List ℕ)
spelled (Ok bytes) = Some bytes
spelled (Err error) = None

-- The bytes that a word encodes: two hexadecimal digits for each byte, or `-` for no bytes.
unfoldable pub bytes_in : List ℕ → Option (List ℕ)
bytes_in [] = None
bytes_in (byte ∷ bytes) =
    if bytes_eq (byte ∷ bytes) (codes "-") then Some [] else spelled (decode_of (byte ∷ bytes))

-- How a datagram reaches a receiver: on line `a` or `b`, or as a response, for which the word is `answer`.
abbrev pub way_in : List ℕ → Option Way
way_in word =
    if bytes_eq word (codes "a") then Some (Line A)
    else if bytes_eq word (codes "b") then Some (Line B)
    else if bytes_eq word (codes "answer") then Some Answer
    else None

-- The event of one word: `datagram`, `heartbeat`, `end` or `close`.
abbrev pub plain : List ℕ → Option Happening
plain name =
    if bytes_eq name (codes "datagram") then Some Datagram
    else if bytes_eq name (codes "heartbeat") then Some Heartbeat
    else if bytes_eq name (codes "end") then Some End
    else if bytes_eq name (codes "close") then Some Close
    else None

-- The event of two words: `publish` or `request` with bytes, or `ask` with a receiver.
abbrev pub with_one : List ℕ → List ℕ → Option Happening
with_one name value =
    if bytes_eq name (codes "publish") then option_map (λ bytes. Publish bytes) (bytes_in value)
    else if bytes_eq name (codes "request") then option_map (λ bytes. Request bytes) (bytes_in value)
    else if bytes_eq name (codes "ask") then option_map (λ receiver. Ask receiver) (number_in value)
    else None

-- The restart of a receiver, if both numbers are valid.
abbrev pub restart_at : Option ℕ → Option ℕ → Option Happening
restart_at None next = None
restart_at (Some receiver) None = None
restart_at (Some receiver) (Some next) = Some (Restart receiver next)

-- The event of three words: `restart` with a receiver and a number.
abbrev pub with_two : List ℕ → List ℕ → List ℕ → Option Happening
with_two name receiver next =
    if bytes_eq name (codes "restart") then restart_at (number_in receiver) (number_in next) else None

-- The delivery of a datagram, if all three words are valid.
abbrev pub delivery : Option ℕ → Option Way → Option ℕ → Option Happening
delivery None way place = None
delivery (Some receiver) None place = None
delivery (Some receiver) (Some way) None = None
delivery (Some receiver) (Some way) (Some place) = Some (Deliver receiver way place)

-- Noise for a receiver, if all three words are valid.
abbrev pub noise : Option ℕ → Option Way → Option (List ℕ) → Option Happening
noise None way bytes = None
noise (Some receiver) None bytes = None
noise (Some receiver) (Some way) None = None
noise (Some receiver) (Some way) (Some bytes) = Some (Noise receiver way bytes)

-- The event of four words: `deliver` or `noise`, with a receiver, a way, and a datagram's index or bytes.
abbrev pub with_three : List ℕ → List ℕ → List ℕ → List ℕ → Option Happening
with_three name receiver way value =
    if bytes_eq name (codes "deliver") then delivery (number_in receiver) (way_in way) (number_in value)
    else if bytes_eq name (codes "noise") then noise (number_in receiver) (way_in way) (bytes_in value)
    else None

-- The event of these words, or none if they are not valid.
abbrev pub happening_in : List (List ℕ) → Option Happening
happening_in [] = None
happening_in (name ∷ []) = plain name
happening_in (name ∷ value ∷ []) = with_one name value
happening_in (name ∷ receiver ∷ next ∷ []) = with_two name receiver next
happening_in (name ∷ receiver ∷ way ∷ value ∷ []) = with_three name receiver way value
happening_in (name ∷ receiver ∷ way ∷ value ∷ more ∷ words) = None

-- The event of a line, or none if the line has no valid event.
unfoldable pub happening_of : List ℕ → Option Happening
happening_of line = happening_in (words_of line)
