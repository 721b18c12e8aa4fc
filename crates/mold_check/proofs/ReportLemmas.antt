-- What was written of a report.
use Rattle.std.proofs.Common.{◌≡◌, ℕ, List, [], ◌∷◌, ◌++◌, Option, length, take, drop, refl, sym, ap, subst, ◌∙◌}
use Rattle.std.proofs.Common.{append_assoc, append-nil, take-append-drop}
use Rattle.std.specs.Io.KnownBytes.{Appends}
use Rattle.std.proofs.KnownBytes.{Appends-nil, Appends-trans}
use Rattle.std.specs.Prelude.{Result, Ok, Err, IsErr, IsErrAnd, IfErr}
use Rattle.mold_devices.specs.Devices.{AppendsPrefix, Counts, one_more}
use Rattle.mold_devices.specs.Writing.{Moves}
use Rattle.mold_devices.specs.declared.fault.CommandFault.{CommandFault}
use Rattle.mold_devices.specs.declared.fault.CommandFault.TheVariants as fault
use Rattle.mold_rule.specs.Ranges as lacking
use Rattle.mold_capture.specs.Verdict.{ranges_of}
use Rattle.mold_capture.specs.declared.verdict.Range.{Range}
use Rattle.mold_devices.specs.Faults.{CountsSink, CountsSinkFault}
use Rattle.mold_check.specs.Report.{Keeps, missing_line, missing_text}

-- Nothing was written.
pub front_none : (held : Option (List ℕ)) (text : List ℕ) → AppendsPrefix held held text
front_none held text = record { front = []; rest = text; parts = refl; appended = Appends-nil held }

pub front_more : (old new : Option (List ℕ)) (text more all : List ℕ) → all ≡ text ++ more →
    AppendsPrefix old new text → AppendsPrefix old new all
front_more old new text more all is p = record {
  front = p.front;
  rest = p.rest ++ more;
  parts = is ∙ ap (λ l. l ++ more) p.parts ∙ append_assoc p.front p.rest more;
  appended = p.appended;
}

front_after : (old mid new : Option (List ℕ)) (text more : List ℕ) → Appends old mid text →
    AppendsPrefix mid new more → AppendsPrefix old new (text ++ more)
front_after old mid new text more p q = record {
  front = text ++ q.front;
  rest = q.rest;
  parts = ap (λ l. text ++ l) q.parts ∙ sym (append_assoc text q.front q.rest);
  appended = Appends-trans old mid new text q.front p q.appended;
}

-- A part of the first text and the lines of some ranges was written, and `text` is the rest.
pub record HasSent (old now : Option (List ℕ)) (begun : List ℕ) (done : List Range) (text : List ℕ) : Type 0 where
  pub written : List ℕ
  pub sent : Appends old now written
  pub parts : begun ++ missing_text (ranges_of done) ≡ written ++ text

pub sent_none : (old : Option (List ℕ)) (begun : List ℕ) → HasSent old old begun [] begun
sent_none old begun = record { written = []; sent = Appends-nil old; parts = append-nil begun }

missing_append : (done more : List Range) →
    missing_text (ranges_of (done ++ more)) ≡ missing_text (ranges_of done) ++ missing_text (ranges_of more)
missing_append [] more = refl
missing_append (r ∷ done) more =
    let line = missing_line (lacking.range r.first r.last) in
    ap (λ t. line ++ t) (missing_append done more)
    ∙ sym (append_assoc line (missing_text (ranges_of done)) (missing_text (ranges_of more)))

-- One more line was appended.
pub sent_more : (old now : Option (List ℕ)) (begun : List ℕ) (done next : List Range) (r : Range) (text more : List ℕ) →
    HasSent old now begun done text → next ≡ done ++ r ∷ [] →
    more ≡ text ++ missing_line (lacking.range r.first r.last) → HasSent old now begun next more
sent_more old now begun done next r text more has is written =
    let line = missing_line (lacking.range r.first r.last) in
    record {
      written = has.written;
      sent = has.sent;
      parts =
          ap (λ (l : List Range). begun ++ missing_text (ranges_of l)) is
          ∙ ap (λ t. begun ++ t) (missing_append done (r ∷ []) ∙ ap (λ t. missing_text (ranges_of done) ++ t) (append-nil line))
          ∙ sym (append_assoc begun (missing_text (ranges_of done)) line)
          ∙ ap (λ t. t ++ line) has.parts
          ∙ append_assoc has.written text line
          ∙ ap (λ t. has.written ++ t) (sym written);
    }

-- A prefix of the text so far was written, and the rest is still to be written.
pub sent_moved : (old mid now : Option (List ℕ)) (begun : List ℕ) (done : List Range) (text left : List ℕ) →
    HasSent old mid begun done text → Moves mid now text left → HasSent old now begun done left
sent_moved old mid now begun done text left has moves = record {
  written = has.written ++ moves.front;
  sent = Appends-trans old mid now has.written moves.front has.sent moves.appended;
  parts =
      has.parts ∙ ap (λ t. has.written ++ t) moves.parts ∙ sym (append_assoc has.written moves.front left);
}

-- A prefix of the text so far was written.
pub sent_front : (old mid now : Option (List ℕ)) (begun : List ℕ) (done all rest : List Range) (text : List ℕ) →
    HasSent old mid begun done text → all ≡ done ++ rest → AppendsPrefix mid now text →
    AppendsPrefix old now (begun ++ missing_text (ranges_of all))
sent_front old mid now begun done all rest text has is front =
    front_more old now (has.written ++ text) (missing_text (ranges_of rest)) (begun ++ missing_text (ranges_of all))
    (ap (λ (l : List Range). begun ++ missing_text (ranges_of l)) is
    ∙ ap (λ t. begun ++ t) (missing_append done rest)
    ∙ sym (append_assoc begun (missing_text (ranges_of done)) (missing_text (ranges_of rest)))
    ∙ ap (λ t. t ++ missing_text (ranges_of rest)) has.parts)
    (front_after old mid now has.written text has.sent front)

pub split_at : (all : List Range) (i : ℕ) → all ≡ take i all ++ drop i all
split_at all i = sym (take-append-drop i all)

-- All of the text was written.
pub sent_all : (old mid now : Option (List ℕ)) (begun : List ℕ) (done all : List Range) (text : List ℕ) →
    HasSent old mid begun done text → all ≡ done → Appends mid now text →
    Appends old now (begun ++ missing_text (ranges_of all))
sent_all old mid now begun done all text has is out =
    subst (Appends old now)
    (sym (ap (λ (l : List Range). begun ++ missing_text (ranges_of l)) is ∙ has.parts))
    (Appends-trans old mid now has.written text has.sent out)

-- ---- the text is written if an allocation fails

-- All of the text was written.
pub keeps_all : (old new : Option (List ℕ)) (text : List ℕ) → Appends old new text → Keeps old new text
keeps_all old new text whole =
    record { more = []; appended = subst (Appends old new) (sym (append-nil text)) whole }

-- The text that an allocation did not change was written.
pub keeps_former : (old new : Option (List ℕ)) (text now : List ℕ) (len : ℕ) → len ≡ length text →
    take (length text) now ≡ text → Appends old new (take len now) → Keeps old new text
keeps_former old new text now len is kept whole =
    keeps_all old new text (subst (Appends old new) (ap (λ (n : ℕ). take n now) is ∙ kept) whole)

pub front_former : (old new : Option (List ℕ)) (text more now : List ℕ) (len : ℕ) → len ≡ length text →
    take (length text) now ≡ text → AppendsPrefix old new (take len now) → AppendsPrefix old new (text ++ more)
front_former old new text more now len is kept front =
    front_more old new text more (text ++ more) refl
    (subst (AppendsPrefix old new) (ap (λ (n : ℕ). take n now) is ∙ kept) front)

-- More text was appended, and all of it was written, perhaps followed by more.
pub keeps_more : (old new : Option (List ℕ)) (text line more : List ℕ) → more ≡ text ++ line → Keeps old new more →
    Keeps old new text
keeps_more old new text line more is kept = record {
  more = line ++ kept.more;
  appended =
      subst (Appends old new) (ap (λ t. t ++ kept.more) is ∙ append_assoc text line kept.more) kept.appended;
}

-- The lines before a failed one were written.
pub sent_kept : (old mid now : Option (List ℕ)) (begun : List ℕ) (done : List Range) (text : List ℕ) →
    HasSent old mid begun done text → Appends mid now text → Keeps old now begun
sent_kept old mid now begun done text has out = record {
  more = missing_text (ranges_of done);
  appended = subst (Appends old now) (sym has.parts) (Appends-trans old mid now has.written text has.sent out);
}

-- A fault that is passed on.
pub kept_on : {T : Type 0} (r : Result T CommandFault) (why : CommandFault) (P : Type 0) →
    IsErr r × IsErrAnd r (λ f. f ≡ why) → (why ≡ fault.Memory → P) → IfErr r (λ f. f ≡ fault.Memory → P)
kept_on (Ok x) why P is kept = tt
kept_on (Err f) why P is kept = λ memory. kept (sym is.1 ∙ memory)

-- A write that failed.
pub never_memory : {T : Type 0} (r : Result T CommandFault) (P : Type 0) → IfErr r (λ f. f ≡ fault.Write) →
    IfErr r (λ f. f ≡ fault.Memory → P)
never_memory (Ok x) P write = tt
never_memory (Err f) P write = λ memory. let no : ⊥ = cc in absurd no

-- The count of failures after a fault that is returned.
pub counts_err : {T : Type 0} (old new : ℕ) (r : Result T CommandFault) (why : CommandFault) →
    IsErr r × IsErrAnd r (λ f. f ≡ why) → CountsSinkFault old new why → CountsSink old new r
counts_err old new (Ok x) why is counts = absurd is.1
counts_err old new (Err f) why is counts = subst (CountsSinkFault old new) (sym is.1) counts

pub counts_write : (old mid new : ℕ) (why : CommandFault) → why ≡ fault.Write → mid ≡ old → new ≡ one_more mid →
    CountsSinkFault old new why
counts_write old mid new why is before more = subst (CountsSinkFault old new) (sym is) (more ∙ ap one_more before)

pub counts_sent : {T : Type 0} (old mid new : ℕ) (r : Result T CommandFault) → mid ≡ old → Counts mid new r →
    IfErr r (λ f. f ≡ fault.Write) → CountsSink old new r
counts_sent old mid new (Ok x) before counts why = counts ∙ before
counts_sent old mid new (Err f) before counts why = counts_write old mid new f why before counts
