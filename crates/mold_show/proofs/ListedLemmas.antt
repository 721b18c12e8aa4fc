-- What the text of a list of messages adds to that of the messages before them.
use Rattle.std.proofs.Common.{◌≡◌, ℕ, ◌+◌, ◌-◌, Bool, true, false, List, [], ◌∷◌, ◌++◌, length, Option, None, Some}
use Rattle.std.proofs.Common.{refl, sym, ap, subst, ◌∙◌, append_assoc, append-nil, length-append, arith, inl, inr, ⊎_elim}
use Rattle.std.proofs.Common.{true≢false}
use Rattle.std.specs.Prelude.{◌&&◌, if◌then◌else◌, option_map}
use Rattle.std.proofs.lemmas.Bool.{cases_Bool}
use Rattle.mold_input.specs.declared.message_format.MessageFormat.{MessageFormat}
use Rattle.mold_input.specs.declared.message_format.MessageFormat.TheVariants.{Lines, Blocks, BlocksToEmpty}
use Rattle.mold_session.specs.declared.error.FileError.{FileError}
use Rattle.mold_show.specs.Dump.{PassesNext, dump_fault, dumped, first_number, has_unprintable, is_dumped, messages_text}
use Rattle.mold_show.specs.Dump.{next_text, printed}
use Rattle.mold_show.specs.Listed.{first_refused, is_refused, list_text}
use Rattle.mold_show.specs.declared.dump_fault.DumpFault.{DumpFault}
use Rattle.mold_show.specs.declared.dump_fault.DumpFault.TheVariants.{Empty, File}
use Rattle.mold_show.specs.declared.dump_options.DumpOptions.{DumpOptions}
use Rattle.mold_show.proofs.DumpedLemmas.{number_asked, passes_more, printable_all, stopped, texts_more}

-- The fault of a dump whose list has a first message that is refused, or none.
abbrev pub fault_at : Option ℕ → Option FileError → Option DumpFault
fault_at None fault = option_map File fault
fault_at (Some number) fault = Some (Empty number)

-- What a list of messages adds.
pub record AddsList (options : DumpOptions) (told news : List (List ℕ)) (text : List ℕ) (refused : Option ℕ) : Type 0 where
  pub texts : messages_text options.format (printed options (told ++ news))
      ≡ messages_text options.format (dumped options told) ++ text
  pub passes : refused ≡ None → has_unprintable options.format (dumped options (told ++ news)) ≡ false
  pub fault : (fault : Option FileError) → dump_fault options (told ++ news) fault ≡ fault_at refused fault

unprintable_is : (format : MessageFormat) (message : List ℕ) → has_unprintable format (message ∷ []) ≡ true →
    (format ≡ BlocksToEmpty) × (message ≡ [])
unprintable_is Lines message is = absurd (true≢false (sym is))
unprintable_is Blocks message is = absurd (true≢false (sym is))
unprintable_is BlocksToEmpty [] is = (refl, refl)
unprintable_is BlocksToEmpty (byte ∷ bytes) is = absurd (true≢false (sym is))

and_parts : (a b : Bool) → a && b ≡ true → (a ≡ true) × (b ≡ true)
and_parts true b both = (refl, both)
and_parts false b both = absurd (true≢false (sym both))

not_both : (a b : Bool) → a && b ≡ false → a ≡ true → b ≡ false
not_both true b none is = none
not_both false b none is = absurd (true≢false (sym is))

fault_none : (options : DumpOptions) (messages : List (List ℕ)) (fault : Option FileError) →
    has_unprintable options.format (dumped options messages) ≡ false →
    dump_fault options messages fault ≡ option_map File fault
fault_none options messages fault none =
    ap
    (λ (b : Bool).
    if b then Some (Empty (first_number options + length (printed options messages))) else option_map File fault)
    none

fault_some : (options : DumpOptions) (messages : List (List ℕ)) (fault : Option FileError) →
    has_unprintable options.format (dumped options messages) ≡ true →
    dump_fault options messages fault ≡ Some (Empty (first_number options + length (printed options messages)))
fault_some options messages fault stops =
    ap
    (λ (b : Bool).
    if b then Some (Empty (first_number options + length (printed options messages))) else option_map File fault)
    stops

-- no message
adds_none : (options : DumpOptions) (told : List (List ℕ)) →
    has_unprintable options.format (dumped options told) ≡ false → AddsList options told [] [] None
adds_none options told none =
    let same : told ++ [] ≡ told = append-nil told in
    let passes : has_unprintable options.format (dumped options (told ++ [])) ≡ false =
    ap (λ (t : List (List ℕ)). has_unprintable options.format (dumped options t)) same ∙ none in
    record {
      texts =
          ap (messages_text options.format) (printable_all options.format (dumped options (told ++ [])) passes)
          ∙ ap (λ (t : List (List ℕ)). messages_text options.format (dumped options t)) same
          ∙ sym (append-nil (messages_text options.format (dumped options told)));
      passes = λ is. passes;
      fault = λ fault. fault_none options (told ++ []) fault passes;
    }

-- an empty message that is refused
adds_refused : (options : DumpOptions) (told news : List (List ℕ)) (message : List ℕ) →
    has_unprintable options.format (dumped options told) ≡ false →
    is_refused options (length told) message ≡ true →
    AddsList options told (message ∷ news) [] (Some (length told + 1))
adds_refused options told news message none refused =
    let parts = and_parts (is_dumped options (length told)) (has_unprintable options.format (message ∷ [])) refused in
    let empty = unprintable_is options.format message parts.1 in
    let split : told ++ message ∷ news ≡ (told ++ [] ∷ []) ++ news =
    ap (λ (m : List ℕ). told ++ m ∷ news) empty.1 ∙ sym (append_assoc told ([] ∷ []) news) in
    let is = stopped options told news empty.0 none parts.0 in
    let shown : printed options (told ++ message ∷ news) ≡ dumped options told =
    ap (printed options) split ∙ is.printed in
    let stops : has_unprintable options.format (dumped options (told ++ message ∷ news)) ≡ true =
    ap (λ (t : List (List ℕ)). has_unprintable options.format (dumped options t)) split ∙ is.stops in
    record {
      texts =
          ap (messages_text options.format) shown
          ∙ sym (append-nil (messages_text options.format (dumped options told)));
      passes = λ absent. let no : ⊥ = cc in absurd no;
      fault = λ fault.
          fault_some options (told ++ message ∷ news) fault stops
          ∙ ap (λ (t : List (List ℕ)). Some (Empty (first_number options + length t))) shown
          ∙ ap (λ (n : ℕ). Some (Empty n)) (number_asked options told parts.0);
    }

-- a message that is not refused, and those after it
adds_more : (options : DumpOptions) (told news : List (List ℕ)) (message : List ℕ) (rest : List ℕ) (refused : Option ℕ) →
    AddsList options (told ++ message ∷ []) news rest refused →
    AddsList options told (message ∷ news) (next_text options (length told) message ++ rest) refused
adds_more options told news message rest refused adds =
    let same : (told ++ message ∷ []) ++ news ≡ told ++ message ∷ news = append_assoc told (message ∷ []) news in
    let before = messages_text options.format (dumped options told) in
    record {
      texts =
          ap (λ (t : List (List ℕ)). messages_text options.format (printed options t)) (sym same)
          ∙ adds.texts
          ∙ ap (λ (t : List ℕ). t ++ rest) (texts_more options told message)
          ∙ append_assoc before (next_text options (length told) message) rest;
      passes = λ is.
          ap (λ (t : List (List ℕ)). has_unprintable options.format (dumped options t)) (sym same) ∙ adds.passes is;
      fault = λ fault. ap (λ (t : List (List ℕ)). dump_fault options t fault) (sym same) ∙ adds.fault fault;
    }

passes_one : (options : DumpOptions) (told : List (List ℕ)) (message : List ℕ) →
    is_refused options (length told) message ≡ false → PassesNext options (length told) message
passes_one options told message none asked =
    not_both (is_dumped options (length told)) (has_unprintable options.format (message ∷ [])) none asked

-- a first message that is refused, or not
adds_if : (options : DumpOptions) (told news : List (List ℕ)) (message : List ℕ) (text : List ℕ) (refused : Option ℕ)
    (stops : Bool) → is_refused options (length told) message ≡ stops →
    has_unprintable options.format (dumped options told) ≡ false →
    (has_unprintable options.format (dumped options (told ++ message ∷ [])) ≡ false →
    AddsList options (told ++ message ∷ []) news text refused) →
    AddsList options told (message ∷ news) (if stops then [] else next_text options (length told) message ++ text)
    (if stops then Some (length told + 1) else refused)
adds_if options told news message text refused true is none adds = adds_refused options told news message none is
adds_if options told news message text refused false is none adds =
    adds_more options told news message text refused
    (adds (passes_more options told message none (passes_one options told message is)))

one_longer : (told : List (List ℕ)) (message : List ℕ) → length (told ++ message ∷ []) ≡ length told + 1
one_longer told message = length-append told (message ∷ [])

-- What a list adds to the messages before it, all of which can be printed if they are asked for.
pub adds_list : (options : DumpOptions) (told news : List (List ℕ)) →
    has_unprintable options.format (dumped options told) ≡ false →
    AddsList options told news (list_text options (length told) news) (first_refused options (length told) news)
unfolding list_text first_refused
adds_list options told [] none = adds_none options told none
adds_list options told (message ∷ news) none =
    adds_if options told news message (list_text options (length told + 1) news)
    (first_refused options (length told + 1) news) (is_refused options (length told) message) refl none
    (λ passes.
    subst
    (λ (n : ℕ).
    AddsList options (told ++ message ∷ []) news (list_text options n news) (first_refused options n news))
    (one_longer told message)
    (adds_list options (told ++ message ∷ []) news passes))

-- the same, if the number of the messages before is another expression
pub adds_list_at : (options : DumpOptions) (told news : List (List ℕ)) (before : ℕ) → before ≡ length told →
    has_unprintable options.format (dumped options told) ≡ false →
    AddsList options told news (list_text options before news) (first_refused options before news)
adds_list_at options told news before is none =
    subst
    (λ (n : ℕ). AddsList options told news (list_text options n news) (first_refused options n news))
    (sym is)
    (adds_list options told news none)
