-- The text that a command has written so far, turn by turn.
use Rattle.std.proofs.Common.{◌≡◌, ℕ, List, ◌++◌, [], Option, None, Some, length, take, sym, ap, subst, ◌∙◌}
use Rattle.std.proofs.Common.{append_assoc, append-nil}
use Rattle.std.specs.Prelude.{IfSome}
use Rattle.std.specs.Io.KnownBytes.{Appends}
use Rattle.std.proofs.KnownBytes.{Appends-trans}
use Rattle.mold_devices.specs.Devices.{AppendsPrefix}
use Rattle.mold_devices.specs.Turns.{Printing, Goes, GoesOver, IsTurn}
use Rattle.mold_devices.specs.declared.turn.Turn.{Turn}
use Rattle.mold_devices.specs.declared.turn.Turn.TheVariants.{More, Done}
use Rattle.mold_devices.proofs.DeviceLemmas.{front_after, front_more}

-- A moment of a run: what the command writes from here on, for which input, what the sink holds, and the text
-- that is still to be sent.
pub record Moment : Type 0 where
  pub prints : Printing
  pub left : Option (List ℕ)
  pub held : Option (List ℕ)
  pub text : List ℕ

-- The text for the whole input is what was written since the start, the text that is still to be sent, and
-- what the command writes later.
pub record TellsOver (start now : Moment) (input left : List ℕ) : Type 0 where
  pub written : List ℕ
  pub sent : Appends start.held now.held written
  pub parts : start.prints.text input ≡ written ++ (now.text ++ now.prints.text left)
  pub ends : start.prints.status input ≡ now.prints.status left

-- The same if the source exposes its bytes. Otherwise the relation states nothing.
abbrev pub Tells : Moment → Moment → Option (List ℕ) → Option (List ℕ) → Type 0
Tells start now None left = Unit {0}
Tells start now (Some input) None = ⊥
Tells start now (Some input) (Some left) = TellsOver start now input left

pub record Told (start now : Moment) : Type 0 where
  pub tells : Tells start now start.left now.left

-- A command that has written everything: it writes nothing more and ends with the status.
abbrev pub ended : ℕ → Printing
ended status = record { text = λ input. []; status = λ input. status }

-- What the command writes after a turn.
abbrev pub printed_after : Printing → Turn → Printing
printed_after next More = next
printed_after next (Done status) = ended status

-- A turn adds the text for the input that it reads.
turn_goes : (before after : Printing) (input left added : List ℕ) (turn : Turn) →
    Goes before after input left added turn →
    (before.text input ≡ added ++ (printed_after after turn).text left)
    × (before.status input ≡ (printed_after after turn).status left)
turn_goes before after input left added More goes = goes
turn_goes before after input left added (Done status) goes = (goes.0 ∙ sym (append-nil added), goes.1)

turn_tells : (start now : Moment) (after : Printing) (known left rest : Option (List ℕ)) (next added : List ℕ)
    (turn : Turn) → Tells start now known left → next ≡ now.text ++ added →
    GoesOver now.prints after left rest added turn →
    Tells start (record { prints = printed_after after turn; left = rest; held = now.held; text = next }) known rest
turn_tells start now after None left rest next added turn told written goes = tt
turn_tells start now after (Some input) None rest next added turn told written goes = absurd told
turn_tells start now after (Some input) (Some xs) None next added turn told written goes = absurd goes
turn_tells start now after (Some input) (Some xs) (Some ys) next added turn told written goes =
    let whole = turn_goes now.prints after xs ys added turn goes in
    let last = (printed_after after turn).text ys in
    record {
      written = told.written;
      sent = told.sent;
      parts =
          told.parts
          ∙ ap (λ (t : List ℕ). told.written ++ (now.text ++ t)) whole.0
          ∙ ap (λ (t : List ℕ). told.written ++ t) (sym (append_assoc now.text added last))
          ∙ ap (λ (t : List ℕ). told.written ++ (t ++ last)) (sym written);
      ends = told.ends ∙ whole.1;
    }

-- One more turn.
pub told_turn : {start now : Moment} {after : Printing} {left : Option (List ℕ)} {text : List ℕ} {turn : Turn} →
    Told start now → IsTurn now.prints after now.left left now.text text turn →
    Told start (record { prints = printed_after after turn; left = left; held = now.held; text = text })
told_turn {start} {now} {after} {left} {text} {turn} told is = record {
  tells = turn_tells start now after start.left now.left left text is.added turn told.tells is.written is.goes;
}

sent_tells : (start now : Moment) (known left held : Option (List ℕ)) (text : List ℕ) →
    Tells start now known left → Appends now.held held now.text → text ≡ [] →
    Tells start (record { prints = now.prints; left = left; held = held; text = text }) known left
sent_tells start now None left held text told sent empty = tt
sent_tells start now (Some input) None held text told sent empty = absurd told
sent_tells start now (Some input) (Some xs) held text told sent empty = record {
  written = told.written ++ now.text;
  sent = Appends-trans start.held now.held held told.written now.text told.sent sent;
  parts =
      told.parts
      ∙ sym (append_assoc told.written now.text (now.prints.text xs))
      ∙ ap (λ (t : List ℕ). (told.written ++ now.text) ++ (t ++ now.prints.text xs)) (sym empty);
  ends = told.ends;
}

-- The text is written, and the buffer is empty again.
pub told_sent : {start now : Moment} (held : Option (List ℕ)) (text : List ℕ) → Told start now →
    Appends now.held held now.text → text ≡ [] →
    Told start (record { prints = now.prints; left = now.left; held = held; text = text })
told_sent {start} {now} held text told sent empty = record {
  tells = sent_tells start now start.left now.left held text told.tells sent empty;
}

front_tells : (start now : Moment) (known left held : Option (List ℕ)) →
    Tells start now known left → AppendsPrefix now.held held now.text →
    IfSome known (λ input. AppendsPrefix start.held held (start.prints.text input))
front_tells start now None left held told sent = tt
front_tells start now (Some input) None held told sent = absurd told
front_tells start now (Some input) (Some xs) held told sent =
    let more = now.prints.text xs in
    subst (λ (t : List ℕ). AppendsPrefix start.held held t) (sym told.parts)
    (front_after start.held now.held held told.written (now.text ++ more) told.sent
    (front_more now.held held now.text more sent))

-- A prefix of the text is written.
pub told_front : {start now : Moment} {held : Option (List ℕ)} {text : List ℕ} → Told start now → text ≡ now.text →
    AppendsPrefix now.held held text →
    IfSome start.left (λ input. AppendsPrefix start.held held (start.prints.text input))
told_front {start} {now} {held} {text} told same sent =
    front_tells start now start.left now.left held told.tells
    (subst (λ (t : List ℕ). AppendsPrefix now.held held t) same sent)

-- The text before a turn is restored when the text that the turn added is cut off.
pub restored : (found added cut : List ℕ) (len : ℕ) → cut ≡ take len added → len ≡ length found →
    take (length found) added ≡ found → cut ≡ found
restored found added cut len is long kept = is ∙ ap (λ (n : ℕ). take n added) long ∙ kept

whole_tells : (start : Moment) (status : ℕ) (known left mid held : Option (List ℕ)) (text : List ℕ) →
    Tells start (record { prints = ended status; left = left; held = mid; text = text }) known left →
    Appends mid held text →
    IfSome known (λ input.
    Appends start.held held (start.prints.text input) × (status ≡ start.prints.status input))
whole_tells start status None left mid held text told sent = tt
whole_tells start status (Some input) None mid held text told sent = absurd told
whole_tells start status (Some input) (Some xs) mid held text told sent = (
  subst (λ (t : List ℕ). Appends start.held held t)
      (sym (told.parts ∙ ap (λ (t : List ℕ). told.written ++ t) (append-nil text)))
      (Appends-trans start.held mid held told.written text told.sent sent),
  sym told.ends,
)

-- The last turn's text is written.
pub told_whole : {start : Moment} {left mid : Option (List ℕ)} {text : List ℕ} (status : ℕ) (held : Option (List ℕ)) →
    Told start (record { prints = ended status; left = left; held = mid; text = text }) → Appends mid held text →
    IfSome start.left (λ input.
    Appends start.held held (start.prints.text input) × (status ≡ start.prints.status input))
told_whole {start} {left} {mid} {text} status held told sent =
    whole_tells start status start.left left mid held text told.tells sent
