-- Outgoing text with other text before it or after it.
use Rattle.std.proofs.Common.{arith, ◌≡◌, ◌∙◌, ℕ, Bool, List, [], ◌++◌, Option, ap, append_assoc}
use Rattle.std.proofs.Common.{append-nil, refl, sym}
use Rattle.mold_input.specs.declared.message_format.MessageFormat.{MessageFormat}
use Rattle.mold_input.specs.declared.message_format.MessageFormat.TheVariants.{Lines, Blocks, BlocksToEmpty}
use Rattle.mold_turns.specs.Outgoing.{IsBounded, KeepsSide, OutgoingState, note_side, note_text, said_out, with_both, with_front}
use Rattle.mold_turns.specs.Outgoing.{with_fronts, with_more, with_note}

-- two states with the same parts are the same
pub outgoing_is : (one two : OutgoingState) → one.text ≡ two.text → one.side ≡ two.side →
    one.failures ≡ two.failures → one.format ≡ two.format → one.stopped ≡ two.stopped → one ≡ two
outgoing_is one two text side failures format stopped =
    let to : List ℕ → List ℕ → ℕ → MessageFormat → Option ℕ → OutgoingState =
    λ t s n f stop. record { text = t; side = s; failures = n; format = f; stopped = stop } in
    ap (λ (t : List ℕ). to t one.side one.failures one.format one.stopped) text
    ∙ ap (λ (t : List ℕ). to two.text t one.failures one.format one.stopped) side
    ∙ ap (λ (n : ℕ). to two.text two.side n one.format one.stopped) failures
    ∙ ap (λ (f : MessageFormat). to two.text two.side two.failures f one.stopped) format
    ∙ ap (to two.text two.side two.failures two.format) stopped

-- if a prefix of the text was written, the former text is that prefix and the rest
pub written_front : (old new : OutgoingState) (front : List ℕ) → old.text ≡ front ++ new.text →
    new.failures ≡ old.failures → new.side ≡ old.side → new.format ≡ old.format → new.stopped ≡ old.stopped →
    old ≡ with_front front new
written_front old new front parts failures side format stopped =
    outgoing_is old (with_front front new) parts (sym side) (sym failures) (sym format) (sym stopped)

-- no text is bounded
pub bounded_none : (live : Bool) → IsBounded live []
bounded_none live = (λ t. refl, omega arith)

-- texts put before others are one text each
pub fronts_twice : (front said back more : List ℕ) (outgoing : OutgoingState) →
    with_fronts front said (with_fronts back more outgoing) ≡ with_fronts (front ++ back) (said ++ more) outgoing
fronts_twice front said back more outgoing =
    outgoing_is (with_fronts front said (with_fronts back more outgoing))
    (with_fronts (front ++ back) (said ++ more) outgoing) (sym (append_assoc front back outgoing.text))
    (sym (append_assoc said more outgoing.side)) refl refl refl

-- two texts put before another one are one text
pub front_twice : (front back : List ℕ) (outgoing : OutgoingState) →
    with_front front (with_front back outgoing) ≡ with_front (front ++ back) outgoing
front_twice front back outgoing = fronts_twice front [] back [] outgoing

-- appending text changes nothing of the text put before
pub more_after : (front more : List ℕ) (outgoing : OutgoingState) →
    with_more more (with_front front outgoing) ≡ with_front front (with_more more outgoing)
more_after front more outgoing =
    outgoing_is (with_more more (with_front front outgoing)) (with_front front (with_more more outgoing))
    (append_assoc front outgoing.text more) refl refl refl refl

-- the same for both texts
pub both_after : (front said more beside : List ℕ) (outgoing : OutgoingState) →
    with_both more beside (with_fronts front said outgoing) ≡ with_fronts front said (with_both more beside outgoing)
both_after front said more beside outgoing =
    outgoing_is (with_both more beside (with_fronts front said outgoing))
    (with_fronts front said (with_both more beside outgoing)) (append_assoc front outgoing.text more)
    (append_assoc said outgoing.side beside) refl refl refl

-- the text for standard error was written, and is put before again
pub said_before : (outgoing : OutgoingState) → outgoing ≡ with_fronts [] outgoing.side (said_out outgoing)
said_before outgoing =
    outgoing_is outgoing (with_fronts [] outgoing.side (said_out outgoing)) refl (sym (append-nil outgoing.side)) refl
    refl refl

-- the text for standard error was written, and then a prefix of the text
pub said_front : (old mid new : OutgoingState) (front : List ℕ) → mid ≡ said_out old → mid.text ≡ front ++ new.text →
    new.failures ≡ mid.failures → new.side ≡ mid.side → new.format ≡ mid.format → new.stopped ≡ mid.stopped →
    old ≡ with_front front (with_fronts [] old.side new)
said_front old mid new front is parts failures side format stopped =
    said_before old
    ∙ ap (with_fronts [] old.side) (sym is ∙ written_front mid new front parts failures side format stopped)

-- an empty note changes nothing
pub note_none : (outgoing : OutgoingState) → outgoing ≡ with_note [] outgoing
note_none outgoing =
    outgoing_is outgoing (with_note [] outgoing)
    (sym (append-nil outgoing.text) ∙ ap (λ (t : List ℕ). outgoing.text ++ t) (texts outgoing.format))
    (sym (append-nil outgoing.side) ∙ ap (λ (t : List ℕ). outgoing.side ++ t) (sides outgoing.format)) refl refl refl
  where
    texts : (format : MessageFormat) → [] ≡ note_text format []
    texts Lines = refl
    texts Blocks = refl
    texts BlocksToEmpty = refl

    sides : (format : MessageFormat) → [] ≡ note_side format []
    sides Lines = refl
    sides Blocks = refl
    sides BlocksToEmpty = refl

-- two notes are one
pub note_twice : (one two : List ℕ) (outgoing : OutgoingState) →
    with_note two (with_note one outgoing) ≡ with_note (one ++ two) outgoing
note_twice one two outgoing =
    outgoing_is (with_note two (with_note one outgoing)) (with_note (one ++ two) outgoing)
    (append_assoc outgoing.text (note_text outgoing.format one) (note_text outgoing.format two)
    ∙ ap (λ (t : List ℕ). outgoing.text ++ t) (texts outgoing.format one two))
    (append_assoc outgoing.side (note_side outgoing.format one) (note_side outgoing.format two)
    ∙ ap (λ (t : List ℕ). outgoing.side ++ t) (sides outgoing.format one two)) refl refl refl
  where
    texts : (format : MessageFormat) (one two : List ℕ) →
        note_text format one ++ note_text format two ≡ note_text format (one ++ two)
    texts Lines one two = refl
    texts Blocks one two = refl
    texts BlocksToEmpty one two = refl

    sides : (format : MessageFormat) (one two : List ℕ) →
        note_side format one ++ note_side format two ≡ note_side format (one ++ two)
    sides Lines one two = refl
    sides Blocks one two = refl
    sides BlocksToEmpty one two = refl

-- Two steps that keep the format, and among lines the text for standard error.
pub keeps_same : (o : OutgoingState) → KeepsSide o o
keeps_same o = record { format = refl; side = λ _. refl }

pub keeps_both : {first mid last : OutgoingState} → KeepsSide first mid → KeepsSide mid last → KeepsSide first last
keeps_both one two = record {
  format = two.format ∙ one.format;
  side = λ lines. two.side (one.format ∙ lines) ∙ one.side lines;
}
