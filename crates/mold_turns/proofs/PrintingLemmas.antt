-- What is written before the last line, and together with it.
use Rattle.std.proofs.Common.{◌≡◌, ◌∙◌, ℕ, List, [], ◌++◌, Option, Result, Ok, Err, ap, append_assoc, append-nil}
use Rattle.std.proofs.Common.{drop, length, refl, subst, sym, take, take-append-drop}
use Rattle.std.proofs.lemmas.List.{take_at}
use Rattle.std.specs.Prelude.{OnErr, OnOk}
use Rattle.std.proofs.KnownBytes.{Appends-nil, Appends-trans}
use Rattle.std.specs.Io.KnownBytes.{Appends}
use Rattle.mold_devices.specs.Devices.{AppendsPrefix}
use Rattle.mold_turns.specs.Outgoing.{OutgoingState, with_more}
use Rattle.mold_turns.specs.Runs.{Begins}

pub front_none : (held : Option (List ℕ)) (text : List ℕ) → AppendsPrefix held held text
front_none held text = record { front = []; rest = text; parts = refl; appended = Appends-nil held }

pub front_whole : (old new : Option (List ℕ)) (text more : List ℕ) → Appends old new text →
    AppendsPrefix old new (text ++ more)
front_whole old new text more appended = record { front = text; rest = more; parts = refl; appended = appended }

pub front_all : (old new : Option (List ℕ)) (text : List ℕ) → Appends old new text → AppendsPrefix old new text
front_all old new text appended =
    record { front = text; rest = []; parts = sym (append-nil text); appended = appended }

pub front_more : (old new : Option (List ℕ)) (text more : List ℕ) → AppendsPrefix old new text →
    AppendsPrefix old new (text ++ more)
front_more old new text more cut = record {
  front = cut.front;
  rest = cut.rest ++ more;
  parts = ap (λ (t : List ℕ). t ++ more) cut.parts ∙ append_assoc cut.front cut.rest more;
  appended = cut.appended;
}

pub front_behind : (old mid new : Option (List ℕ)) (text line more : List ℕ) → Appends old mid text → line ≡ more →
    AppendsPrefix mid new line → AppendsPrefix old new (text ++ more)
front_behind old mid new text line more appended same cut = record {
  front = text ++ cut.front;
  rest = cut.rest;
  parts =
      ap (λ (t : List ℕ). text ++ t) (sym same ∙ cut.parts) ∙ sym (append_assoc text cut.front cut.rest);
  appended = Appends-trans old mid new text cut.front appended cut.appended;
}

pub whole_behind : (old mid new : Option (List ℕ)) (text line more : List ℕ) → Appends old mid text → line ≡ more →
    Appends mid new line → Appends old new (text ++ more)
whole_behind old mid new text line more first same second =
    subst (λ (t : List ℕ). Appends old new (text ++ t)) same (Appends-trans old mid new text line first second)

-- the former text is a prefix of the text
pub begins_kept : (old new : List ℕ) → take (length old) new ≡ old → Begins old new
begins_kept old new kept = record {
  rest = drop (length old) new;
  parts = sym (take-append-drop (length old) new) ∙ ap (λ (t : List ℕ). t ++ drop (length old) new) kept;
}

pub kept_begins : (old new : List ℕ) → Begins old new → take (length old) new ≡ old
kept_begins old new begins =
    ap (take (length old)) begins.parts ∙ take_at old begins.rest (length old) refl

-- as many bytes as the former text had are the former text
pub former_text : (old new : List ℕ) (len : ℕ) → Begins old new → len ≡ length old → take len new ≡ old
former_text old new len begins is = ap (λ (n : ℕ). take n new) is ∙ kept_begins old new begins

-- text was appended, or part of it followed the former text when memory ran out
pub begins_pushed : {T E : Type 0} (result : Result T E) (old new more : List ℕ) → OnOk result (new ≡ old ++ more) →
    OnErr result (take (length old) new ≡ old) → Begins old new
begins_pushed (Ok _) old new more whole kept = record { rest = more; parts = whole }
begins_pushed (Err _) old new more whole kept = begins_kept old new kept

pub begins_with_more : {T E : Type 0} (result : Result T E) (old new : OutgoingState) (more : List ℕ) →
    OnOk result (new ≡ with_more more old) → OnErr result (take (length old.text) new.text ≡ old.text) →
    Begins old.text new.text
begins_with_more (Ok _) old new more whole kept =
    record { rest = more; parts = ap (λ (o : OutgoingState). o.text) whole }
begins_with_more (Err _) old new more whole kept = begins_kept old.text new.text kept
