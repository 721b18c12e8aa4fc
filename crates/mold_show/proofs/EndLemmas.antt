-- How a dump ends, and what it has then printed of the file.
use Rattle.std.proofs.Common.{◌≡◌, ◌⊎◌, ℕ, ◌+◌, Bool, true, false}
use Rattle.std.proofs.Common.{List, [], ◌∷◌, ◌++◌, length, Option, None, Some}
use Rattle.std.proofs.Common.{Result, Ok, Err, refl, sym, ap, subst, ◌∙◌, append_assoc, append-nil, inl, inr}
use Rattle.std.specs.Prelude.{IfSome, IfOk, IsErrAnd, OnOk, if◌then◌else◌, option_map}
use Rattle.std.proofs.Common.{⊎_elim}
use Rattle.std.proofs.lemmas.Option.{none-some}
use Rattle.std.specs.Io.KnownBytes.{Appends}
use Rattle.std.proofs.KnownBytes.{Appends-trans}
use Rattle.mold_devices.specs.Devices.{AppendsPrefix, one_more}
use Rattle.mold_devices.specs.Faults.{CountsCommand, CountsFault}
use Rattle.mold_devices.specs.declared.fault.CommandFault.{CommandFault}
use Rattle.mold_devices.specs.declared.fault.CommandFault.TheVariants as command
use Rattle.mold_input.specs.declared.message_format.MessageFormat.{MessageFormat}
use Rattle.mold_input.specs.declared.message_format.MessageFormat.TheVariants.{Lines, Blocks, BlocksToEmpty}
use Rattle.mold_session.specs.Contents.{FileContents, Gives, IsFront}
use Rattle.mold_session.specs.Loading.{Refuses, SpellsFile}
use Rattle.mold_session.specs.Reader.{ReaderState, EndsWith}
use Rattle.mold_session.specs.declared.error.FileError.{FileError}
use Rattle.mold_session.specs.declared.error.FileError.TheVariants.{TooLong, Memory, BadMagic, Short, BlockCut, Read, Write, Full, CountDiffers, BadFlag, Damaged}
use Rattle.mold_session.specs.declared.loading.FileHead.{FileHead}
use Rattle.mold_show.specs.Dump.{CountsDump, CountsEither, CountsEnd}
use Rattle.mold_show.specs.Dump.{HasContents, IsTold, dump_errors, dump_fault, dump_status, dump_text, dumped}
use Rattle.mold_show.specs.Dump.{ended_errors, ended_line, ended_text, ends_session, fault_line, fault_of, fault_status}
use Rattle.mold_show.specs.Dump.{fault_text, first_number, has_unprintable, is_dumped, last_text, messages_text, printed}
use Rattle.mold_show.specs.Dump.{reaches_end, states_closed, RefusesNext}
use Rattle.mold_show.specs.declared.dump_fault.DumpFault.{DumpFault}
use Rattle.mold_show.specs.declared.dump_fault.DumpFault.TheVariants.{Empty, File}
use Rattle.mold_show.specs.declared.dump_options.DumpOptions.{DumpOptions}
use Rattle.mold_show.proofs.DumpLemmas.{Dumping, FileLaws, Gathered, ReaderLaws, front_after, front_more, gathered_none, texts_front}
use Rattle.mold_show.proofs.DumpedLemmas.{number_asked, printable_all, stopped}

-- ---- a file states in one way whether its session is closed

pub closed_of : FileLaws → (head : FileHead) (messages : List (List ℕ)) (bytes : List ℕ) (others : List (List ℕ))
    (fault : Option FileError) (gives : Gives bytes others fault) → SpellsFile head messages head.version bytes →
    fault ≡ None → states_closed bytes others fault gives ≡ head.closed
closed_of laws head messages bytes others None gives spelled none =
    (laws.one_file gives.0 head others messages bytes gives.1 spelled).2
closed_of laws head messages bytes others (Some error) gives spelled none = absurd (none-some error (sym none))

-- ---- how a dump ended

-- The file ended after these messages, and `mark` is what its head makes of the end.
pub record EndsWhole (options : DumpOptions) (known : Option (List ℕ)) (messages : List (List ℕ)) (mark : List ℕ) :
    Type 0 where
  pub head : FileHead
  pub spelled : IfSome known (λ bytes. SpellsFile head messages head.version bytes)
  pub marked : mark ≡ last_text options.format None (reaches_end options head.closed (length messages))

-- An empty message that cannot be printed follows these messages.
pub record StopsAt (options : DumpOptions) (known : Option (List ℕ)) (messages : List (List ℕ)) (number : ℕ) :
    Type 0 where
  pub first : IfSome known (λ bytes. (contents : FileContents bytes) → IsFront (messages ++ [] ∷ []) contents.messages)
  pub asked : is_dumped options (length messages) ≡ true
  pub format : options.format ≡ BlocksToEmpty
  pub counted : number ≡ length messages + 1

-- How a dump ended after these messages, and the mark that it appended.
abbrev pub Ends : DumpOptions → Option (List ℕ) → List (List ℕ) → List ℕ → Option DumpFault → Type 0
Ends options known messages mark None = EndsWhole options known messages mark
Ends options known messages mark (Some (File error)) =
    Refuses (λ bytes why. Gives bytes messages (Some why)) known error × (mark ≡ [])
Ends options known messages mark (Some (Empty number)) = StopsAt options known messages number × (mark ≡ [])

-- The dump's messages, its fault and what follows the messages.
record IsFinished (options : DumpOptions) (bytes : List ℕ) (contents : FileContents bytes) (messages : List (List ℕ))
    (mark : List ℕ) (ended : Option DumpFault) : Type 0 where
  printed : printed options contents.messages ≡ dumped options messages
  fault : fault_of options contents ≡ ended
  last : (rest : List ℕ) → rest ≡ ended_text options.format ended → IsTold ended →
      last_text options.format ended (ends_session options contents) ≡ mark ++ rest

-- The line about the end is the line of the fault.
line_told : (ended : Option DumpFault) → IsTold ended → ended_line ended ≡ fault_line ended
line_told None told = refl
line_told (Some (Empty number)) told = refl
line_told (Some (File Read)) told = absurd told
line_told (Some (File Memory)) told = absurd told
line_told (Some (File Write)) told = refl
line_told (Some (File (Short len))) told = refl
line_told (Some (File BadMagic)) told = refl
line_told (Some (File (BadFlag byte))) told = refl
line_told (Some (File Full)) told = refl
line_told (Some (File (TooLong len))) told = refl
line_told (Some (File (BlockCut number))) told = refl
line_told (Some (File (CountDiffers count found))) told = refl
line_told (Some (File (Damaged number))) told = refl

pub errors_told : (format : MessageFormat) (ended : Option DumpFault) → IsTold ended →
    ended_errors format ended ≡ fault_text format ended
errors_told Lines ended told = refl
errors_told Blocks ended told = line_told ended told
errors_told BlocksToEmpty ended told = line_told ended told

pub no_text : (format : MessageFormat) → ended_text format None ≡ []
no_text Lines = refl
no_text Blocks = refl
no_text BlocksToEmpty = refl

pub last_told : (format : MessageFormat) (fault : DumpFault) (ends : Bool) → IsTold (Some fault) →
    last_text format (Some fault) ends ≡ ended_text format (Some fault)
last_told Lines fault ends told = sym (line_told (Some fault) told)
last_told Blocks fault ends told = refl
last_told BlocksToEmpty fault ends told = refl

last_refused : (format : MessageFormat) (fault : DumpFault) (ends : Bool) (mark rest : List ℕ) → mark ≡ [] →
    rest ≡ ended_text format (Some fault) → IsTold (Some fault) → last_text format (Some fault) ends ≡ mark ++ rest
last_refused format fault ends mark rest none is told =
    last_told format fault ends told ∙ sym is ∙ ap (λ (t : List ℕ). t ++ rest) (sym none)

-- The file has the fault that was returned.
gives_told : (bytes : List ℕ) (messages : List (List ℕ)) (error : FileError) →
    Refuses (λ bytes why. Gives bytes messages (Some why)) (Some bytes) error → IsTold (Some (File error)) →
    Gives bytes messages (Some error)
gives_told bytes messages Read refused told = absurd told
gives_told bytes messages Memory refused told = absurd told
gives_told bytes messages Write refused told = absurd refused
gives_told bytes messages (Short len) refused told = refused
gives_told bytes messages BadMagic refused told = refused
gives_told bytes messages (BadFlag byte) refused told = refused
gives_told bytes messages Full refused told = refused
gives_told bytes messages (TooLong len) refused told = refused
gives_told bytes messages (BlockCut number) refused told = refused
gives_told bytes messages (CountDiffers count found) refused told = refused
gives_told bytes messages (Damaged number) refused told = refused

-- If all messages asked for can be printed, the fault is that of the file.
pub file_fault : (options : DumpOptions) (messages : List (List ℕ)) (fault : Option FileError) →
    has_unprintable options.format (dumped options messages) ≡ false →
    dump_fault options messages fault ≡ option_map File fault
file_fault options messages fault none =
    ap
    (λ (b : Bool).
    if b then Some (Empty (first_number options + length (printed options messages))) else option_map File fault)
    none

module _ (laws : ReaderLaws) (options : DumpOptions) (bytes : List ℕ) (contents : FileContents bytes)
    (messages : List (List ℕ)) (passes : has_unprintable options.format (dumped options messages) ≡ false)
    (mark : List ℕ) where
  -- The file has these messages and this fault.
  as_read : (fault : Option FileError) → Gives bytes messages fault →
      (contents.messages ≡ messages) × (contents.fault ≡ fault)
  as_read fault gives = laws.one bytes contents (record { messages = messages; fault = fault; gives = gives })

  all_printed : contents.messages ≡ messages → printed options contents.messages ≡ dumped options messages
  all_printed same = ap (printed options) same ∙ printable_all options.format (dumped options messages) passes

  fault_read : (fault : Option FileError) → contents.messages ≡ messages → contents.fault ≡ fault →
      fault_of options contents ≡ option_map File fault
  fault_read fault same is =
      file_fault options contents.messages contents.fault
      (ap (λ (ms : List (List ℕ)). has_unprintable options.format (dumped options ms)) same ∙ passes)
      ∙ ap (option_map File) is

  finished_whole : (head : FileHead) → SpellsFile head messages head.version bytes →
      mark ≡ last_text options.format None (reaches_end options head.closed (length messages)) →
      IsFinished options bytes contents messages mark None
  finished_whole head spelled marked =
      let same = as_read None (head, spelled) in
      let ends : ends_session options contents ≡ reaches_end options head.closed (length messages) =
      ap (λ (c : Bool). reaches_end options c (length contents.messages))
      (closed_of laws.files head messages bytes contents.messages contents.fault contents.gives spelled same.1)
      ∙ ap (λ (ms : List (List ℕ)). reaches_end options head.closed (length ms)) same.0
      in
      record {
        printed = all_printed same.0;
        fault = fault_read None same.0 same.1;
        last = λ rest is told.
            ap (last_text options.format None) ends
            ∙ sym marked
            ∙ sym (append-nil mark)
            ∙ ap (λ (t : List ℕ). mark ++ t) (sym (is ∙ no_text options.format));
      }

  finished_file : (error : FileError) → Gives bytes messages (Some error) → mark ≡ [] →
      IsFinished options bytes contents messages mark (Some (File error))
  finished_file error gives none =
      let same = as_read (Some error) gives in
      record {
        printed = all_printed same.0;
        fault = fault_read (Some error) same.0 same.1;
        last = λ rest is told.
            last_refused options.format (File error) (ends_session options contents) mark rest none is told;
      }

  finished_empty : (number : ℕ) → StopsAt options (Some bytes) messages number → mark ≡ [] →
      IsFinished options bytes contents messages mark (Some (Empty number))
  finished_empty number stops none =
      let first = stops.first contents in
      let found = stopped options messages first.extra stops.format passes stops.asked in
      let shown = ap (printed options) first.longer ∙ found.printed in
      record {
        printed = shown;
        fault =
            ap
            (λ (b : Bool).
            if b then Some (Empty (first_number options + length (printed options contents.messages)))
            else option_map File contents.fault)
            (ap (λ (ms : List (List ℕ)). has_unprintable options.format (dumped options ms)) first.longer
            ∙ found.stops)
            ∙ ap (λ (ms : List (List ℕ)). Some (Empty (first_number options + length ms))) shown
            ∙ ap (λ (n : ℕ). Some (Empty n)) (number_asked options messages stops.asked ∙ sym stops.counted);
        last = λ rest is told.
            last_refused options.format (Empty number) (ends_session options contents) mark rest none is told;
      }

  finished : (ended : Option DumpFault) → Ends options (Some bytes) messages mark ended → IsTold ended →
      IsFinished options bytes contents messages mark ended
  finished None ends told = finished_whole ends.head ends.spelled ends.marked
  finished (Some (Empty number)) ends told = finished_empty number ends.0 ends.1
  finished (Some (File error)) ends told = finished_file error (gives_told bytes messages error ends.0 told) ends.1

  -- What is printed on standard error.
  errors_are : (ended : Option DumpFault) → Ends options (Some bytes) messages mark ended → IsTold ended →
      dump_errors options contents ≡ ended_errors options.format ended
  errors_are ended ends told =
      ap (fault_text options.format) (finished ended ends told).fault ∙ sym (errors_told options.format ended told)

  status_is : (ended : Option DumpFault) → Ends options (Some bytes) messages mark ended → IsTold ended →
      dump_status options contents ≡ fault_status ended
  status_is ended ends told = ap fault_status (finished ended ends told).fault

  -- What is printed on standard output: what was written, what was gathered, and how the dump ended.
  text_is : (ended : Option DumpFault) (written text now : List ℕ) → Ends options (Some bytes) messages mark ended →
      IsTold ended → messages_text options.format (dumped options messages) ≡ written ++ text → now ≡ text ++ mark →
      dump_text options contents ≡ written ++ (now ++ ended_text options.format ended)
  text_is ended written text now ends told parts is =
      let done = finished ended ends told in
      let rest = ended_text options.format ended in
      let session = ends_session options contents in
      ap (λ (ms : List (List ℕ)). messages_text options.format ms ++ last_text options.format (fault_of options contents) session)
      done.printed
      ∙ ap (λ (e : Option DumpFault). messages_text options.format (dumped options messages) ++ last_text options.format e session)
      done.fault
      ∙ ap (λ (t : List ℕ). messages_text options.format (dumped options messages) ++ t) (done.last rest refl told)
      ∙ ap (λ (t : List ℕ). t ++ (mark ++ rest)) parts
      ∙ append_assoc written text (mark ++ rest)
      ∙ ap (λ (t : List ℕ). written ++ t) (sym (append_assoc text mark rest))
      ∙ ap (λ (t : List ℕ). written ++ (t ++ rest)) (sym is)

-- The output reports how the dump ended, or it has nothing about it, and no mark.
record IsUntold (ended : Option DumpFault) : Type 0 where
  line : ended_line ended ≡ []
  marked : (options : DumpOptions) (known : Option (List ℕ)) (messages : List (List ℕ)) (mark : List ℕ) →
      Ends options known messages mark ended → mark ≡ []

is_told : (ended : Option DumpFault) → IsTold ended ⊎ IsUntold ended
is_told None = inl tt
is_told (Some (Empty number)) = inl tt
is_told (Some (File Read)) = inr (record { line = refl; marked = λ options known messages mark ends. ends.1 })
is_told (Some (File Memory)) = inr (record { line = refl; marked = λ options known messages mark ends. ends.1 })
is_told (Some (File Write)) = inl tt
is_told (Some (File (Short len))) = inl tt
is_told (Some (File BadMagic)) = inl tt
is_told (Some (File (BadFlag byte))) = inl tt
is_told (Some (File Full)) = inl tt
is_told (Some (File (TooLong len))) = inl tt
is_told (Some (File (BlockCut number))) = inl tt
is_told (Some (File (CountDiffers count found))) = inl tt
is_told (Some (File (Damaged number))) = inl tt

untold_text : (format : MessageFormat) (ended : Option DumpFault) → ended_line ended ≡ [] → ended_text format ended ≡ []
untold_text Lines ended none = none
untold_text Blocks ended none = refl
untold_text BlocksToEmpty ended none = refl

untold_errors : (format : MessageFormat) (ended : Option DumpFault) → ended_line ended ≡ [] →
    ended_errors format ended ≡ []
untold_errors Lines ended none = refl
untold_errors Blocks ended none = none
untold_errors BlocksToEmpty ended none = none

-- ---- what was written at the end

-- The messages that were read, what was written and gathered of them, and how the dump ended.
pub record Ending (options : DumpOptions) (known old mid : Option (List ℕ)) (now : List ℕ) (ended : Option DumpFault) :
    Type 0 where
  pub messages : List (List ℕ)
  pub text : List ℕ
  pub mark : List ℕ
  pub gathered : Gathered options known old mid messages text
  pub ends : Ends options known messages mark ended
  pub parts : now ≡ text ++ mark

module _ (laws : ReaderLaws) (options : DumpOptions) (bytes : List ℕ) (old mid new : Option (List ℕ)) (now : List ℕ)
    (ended : Option DumpFault) (ending : Ending options (Some bytes) old mid now ended)
    (contents : FileContents bytes) where
  known_front : AppendsPrefix mid new (now ++ ended_text options.format ended) →
      AppendsPrefix old new (dump_text options contents)
  known_front begun = ⊎_elim
      (λ told.
      subst (AppendsPrefix old new)
      (sym (text_is laws options bytes contents ending.messages ending.gathered.passes ending.mark ended
      ending.gathered.written ending.text now ending.ends told ending.gathered.parts ending.parts))
      (front_after old mid new ending.gathered.written (now ++ ended_text options.format ended) ending.gathered.sent
      begun))
      (λ untold.
      let none = untold.marked options (Some bytes) ending.messages ending.mark ending.ends in
      texts_front options bytes old mid new ending.messages ending.text contents ending.gathered
      (subst (AppendsPrefix mid new)
      (ap (λ (t : List ℕ). now ++ t) (untold_text options.format ended untold.line)
      ∙ append-nil now
      ∙ ending.parts
      ∙ ap (λ (t : List ℕ). ending.text ++ t) none
      ∙ append-nil ending.text)
      begun))
      (is_told ended)

  known_errors : (before after : Option (List ℕ)) → AppendsPrefix before after (ended_errors options.format ended) →
      AppendsPrefix before after (dump_errors options contents)
  known_errors before after begun = ⊎_elim
      (λ told.
      subst (AppendsPrefix before after)
      (sym (errors_are laws options bytes contents ending.messages ending.gathered.passes ending.mark ended ending.ends
      told))
      begun)
      (λ untold.
      front_more before after [] (dump_errors options contents) (dump_errors options contents) refl
      (subst (AppendsPrefix before after) (untold_errors options.format ended untold.line) begun))
      (is_told ended)

  known_whole : (status : ℕ) → IsTold ended →
      Appends mid new (now ++ ended_text options.format ended) × (status ≡ fault_status ended) →
      Appends old new (dump_text options contents) × (status ≡ dump_status options contents)
  known_whole status told sent = (
    subst (Appends old new)
        (sym (text_is laws options bytes contents ending.messages ending.gathered.passes ending.mark ended
        ending.gathered.written ending.text now ending.ends told ending.gathered.parts ending.parts))
        (Appends-trans old mid new ending.gathered.written (now ++ ended_text options.format ended)
        ending.gathered.sent sent.0),
    sent.1
        ∙ sym (status_is laws options bytes contents ending.messages ending.gathered.passes ending.mark ended
        ending.ends told),
  )

  known_report : (before after : Option (List ℕ)) → IsTold ended →
      Appends before after (ended_errors options.format ended) → Appends before after (dump_errors options contents)
  known_report before after told sent =
      subst (Appends before after)
      (sym (errors_are laws options bytes contents ending.messages ending.gathered.passes ending.mark ended ending.ends
      told))
      sent

has_contents : ReaderLaws → (options : DumpOptions) (bytes : List ℕ) (messages : List (List ℕ)) (mark : List ℕ)
    (ended : Option DumpFault) (status : ℕ) → Ends options (Some bytes) messages mark ended → IsTold ended →
    status ≡ fault_status ended → HasContents options bytes status
has_contents laws options bytes messages mark None status ends told is =
    inl (record { messages = messages; fault = None; gives = (ends.head, ends.spelled) })
has_contents laws options bytes messages mark (Some (Empty number)) status ends told is = inr (ends.0.format, is)
has_contents laws options bytes messages mark (Some (File error)) status ends told is = inl (record {
  messages = messages;
  fault = Some error;
  gives = gives_told bytes messages error ends.0 told;
})

-- What was gathered and how the dump ended were written, or a prefix of that.
pub ended_front : ReaderLaws → (options : DumpOptions) (known old mid new : Option (List ℕ)) (now : List ℕ)
    (ended : Option DumpFault) → Ending options known old mid now ended →
    AppendsPrefix mid new (now ++ ended_text options.format ended) →
    IfSome known (λ bytes. (contents : FileContents bytes) → AppendsPrefix old new (dump_text options contents))
ended_front laws options None old mid new now ended ending begun = tt
ended_front laws options (Some bytes) old mid new now ended ending begun =
    λ contents. known_front laws options bytes old mid new now ended ending contents begun

-- The line about the end was written to the errors, or a prefix of it.
pub ended_errors_front : ReaderLaws → (options : DumpOptions) (known old mid before after : Option (List ℕ))
    (now : List ℕ) (ended : Option DumpFault) → Ending options known old mid now ended →
    AppendsPrefix before after (ended_errors options.format ended) →
    IfSome known (λ bytes. (contents : FileContents bytes) → AppendsPrefix before after (dump_errors options contents))
ended_errors_front laws options None old mid before after now ended ending begun = tt
ended_errors_front laws options (Some bytes) old mid before after now ended ending begun =
    λ contents. known_errors laws options bytes old mid mid now ended ending contents before after begun

-- All was written.
pub ended_whole : ReaderLaws → (options : DumpOptions) (known old mid new : Option (List ℕ)) (now : List ℕ)
    (ended : Option DumpFault) {F : Type 0} (result : Result ℕ F) → Ending options known old mid now ended →
    OnOk result (IsTold ended) →
    IfOk result (λ status. Appends mid new (now ++ ended_text options.format ended) × (status ≡ fault_status ended)) →
    IfOk result (λ status. IfSome known (λ bytes. (contents : FileContents bytes) →
    Appends old new (dump_text options contents) × (status ≡ dump_status options contents)))
ended_whole laws options None old mid new now ended (Ok status) ending told sent = tt
ended_whole laws options (Some bytes) old mid new now ended (Ok status) ending told sent =
    λ contents. known_whole laws options bytes old mid new now ended ending contents status told sent
ended_whole laws options known old mid new now ended (Err fault) ending told sent = tt

-- The line about the end was written to the errors.
pub ended_report : ReaderLaws → (options : DumpOptions) (known old mid before after : Option (List ℕ)) (now : List ℕ)
    (ended : Option DumpFault) {F : Type 0} (result : Result ℕ F) → Ending options known old mid now ended →
    OnOk result (IsTold ended) → OnOk result (Appends before after (ended_errors options.format ended)) →
    OnOk result (IfSome known (λ bytes. (contents : FileContents bytes) →
    Appends before after (dump_errors options contents)))
ended_report laws options None old mid before after now ended (Ok status) ending told sent = tt
ended_report laws options (Some bytes) old mid before after now ended (Ok status) ending told sent =
    λ contents. known_report laws options bytes old mid mid now ended ending contents before after told sent
ended_report laws options known old mid before after now ended (Err fault) ending told sent = tt

-- The file has contents, or an empty message ended the dump.
pub ended_contents : ReaderLaws → (options : DumpOptions) (known old mid new : Option (List ℕ)) (now : List ℕ)
    (ended : Option DumpFault) {F : Type 0} (result : Result ℕ F) → Ending options known old mid now ended →
    OnOk result (IsTold ended) →
    IfOk result (λ status. Appends mid new (now ++ ended_text options.format ended) × (status ≡ fault_status ended)) →
    IfOk result (λ status. IfSome known (λ bytes. HasContents options bytes status))
ended_contents laws options None old mid new now ended (Ok status) ending told sent = tt
ended_contents laws options (Some bytes) old mid new now ended (Ok status) ending told sent =
    has_contents laws options bytes ending.messages ending.mark ended status ending.ends told sent.1
ended_contents laws options known old mid new now ended (Err fault) ending told sent = tt

-- ---- the three ends

-- The head of the file was refused.
pub ending_head : (options : DumpOptions) (known old : Option (List ℕ)) (text : List ℕ) (error : FileError) →
    text ≡ [] → Refuses (λ bytes why. Gives bytes [] (Some why)) known error →
    Ending options known old old text (Some (File error))
ending_head options known old text error none refused = record {
  messages = [];
  text = text;
  mark = [];
  gathered = gathered_none options known old text none;
  ends = (refused, refl);
  parts = sym (append-nil text);
}

-- The file was read to its end.
pub ending_whole : ReaderLaws → (options : DumpOptions) (known left old mid : Option (List ℕ)) (reader : ReaderState)
    (head : FileHead) (text now : List ℕ) → Dumping options known left old mid reader text →
    EndsWith left reader head →
    now ≡ text ++ last_text options.format None (reaches_end options head.closed reader.count) →
    Ending options known old mid now None
ending_whole laws options known left old mid reader head text now so_far ends is =
    let mark = last_text options.format None (reaches_end options head.closed reader.count) in
    record {
      messages = so_far.messages;
      text = text;
      mark = mark;
      gathered = so_far.gathered;
      ends = record {
        head = head;
        spelled = laws.file known left reader so_far.messages head so_far.read ends;
        marked = ap (λ (n : ℕ). last_text options.format None (reaches_end options head.closed n))
            so_far.read.counted;
      };
      parts = is;
    }

-- The next message was refused.
pub ending_refused : ReaderLaws → (options : DumpOptions) (known left after old mid : Option (List ℕ))
    (reader next : ReaderState) (text now : List ℕ) (fault : DumpFault) →
    Dumping options known left old mid reader text → RefusesNext options left after reader next fault → now ≡ text →
    Ending options known old mid now (Some fault)
ending_refused laws options known left after old mid reader next text now (File error) so_far refused is = record {
  messages = so_far.messages;
  text = text;
  mark = [];
  gathered = so_far.gathered;
  ends = (laws.refused known left reader so_far.messages error so_far.read refused, refl);
  parts = is ∙ sym (append-nil text);
}
ending_refused laws options known left after old mid reader next text now (Empty number) so_far refused is =
    let messages = so_far.messages in
    let read = laws.next known left after reader next messages so_far.read refused.reads in
    record {
      messages = messages;
      text = text;
      mark = [];
      gathered = so_far.gathered;
      ends = (
        record {
          first = subst
              (λ (m : List ℕ).
              IfSome known (λ bytes. (contents : FileContents bytes) → IsFront (messages ++ m ∷ []) contents.messages))
              refused.empty (laws.front known after next (messages ++ next.message ∷ []) read);
          asked = subst (λ (n : ℕ). is_dumped options n ≡ true) so_far.read.counted refused.asked;
          format = refused.format;
          counted = refused.counted ∙ ap (λ (n : ℕ). n + 1) so_far.read.counted;
        },
        refl,
      );
      parts = is ∙ sym (append-nil text);
    }

-- ---- the line about the end

-- A fault that the output reports.
pub record IsRefusal (fault : DumpFault) : Type 0 where
  pub told : IsTold (Some fault)
  pub line : ended_line (Some fault) ≡ fault_line (Some fault)
  pub counts : (old new : ℕ) → CountsEnd old new (Some fault) → new ≡ old

pub other_refusal : (error : FileError) → (error ≡ Read → ⊥) → (error ≡ Memory → ⊥) → IsRefusal (File error)
other_refusal Read no_read no_memory = absurd (no_read refl)
other_refusal Memory no_read no_memory = absurd (no_memory refl)
other_refusal Write no_read no_memory = record { told = tt; line = refl; counts = λ old new counts. counts }
other_refusal (Short len) no_read no_memory = record { told = tt; line = refl; counts = λ old new counts. counts }
other_refusal BadMagic no_read no_memory = record { told = tt; line = refl; counts = λ old new counts. counts }
other_refusal (BadFlag byte) no_read no_memory = record { told = tt; line = refl; counts = λ old new counts. counts }
other_refusal Full no_read no_memory = record { told = tt; line = refl; counts = λ old new counts. counts }
other_refusal (TooLong len) no_read no_memory = record { told = tt; line = refl; counts = λ old new counts. counts }
other_refusal (BlockCut number) no_read no_memory = record { told = tt; line = refl; counts = λ old new counts. counts }
other_refusal (CountDiffers count found) no_read no_memory =
    record { told = tt; line = refl; counts = λ old new counts. counts }
other_refusal (Damaged number) no_read no_memory = record { told = tt; line = refl; counts = λ old new counts. counts }

-- ---- counts of failures

-- Only the output may have failed.
pub counts_output : (format : MessageFormat) (source output errors : ℕ × ℕ) (result : Result ℕ CommandFault) →
    CountsCommand source.0 source.1 output.0 output.1 result → errors.1 ≡ errors.0 →
    CountsDump format source output errors result
counts_output Lines source output errors result counts same = (counts, same)
counts_output Blocks source output errors result counts same = inl (counts, same)
counts_output BlocksToEmpty source output errors result counts same = inl (counts, same)

-- The output failed while messages were read.
pub counts_write : (format : MessageFormat) (result : Result ℕ CommandFault) (cause : CommandFault)
    (source output errors : ℕ × ℕ) (mid : ℕ) → IsErrAnd result (λ fault. fault ≡ cause) → cause ≡ command.Write →
    output.1 ≡ one_more mid → mid ≡ output.0 → source.1 ≡ source.0 → errors.1 ≡ errors.0 →
    CountsDump format source output errors result
counts_write format (Ok _) cause source output errors mid is write counted same read unsent = absurd is
counts_write format (Err fault) cause source output errors mid is write counted same read unsent =
    counts_output format source output errors (Err fault)
    (subst (CountsFault source.0 source.1 output.0 output.1) (sym (is ∙ write))
    (inl read, counted ∙ ap one_more same))
    unsent

-- The source may have failed before the output does.
counts_end : (old new : ℕ) (ended : Option DumpFault) → CountsEnd old new ended → (new ≡ old) ⊎ (new ≡ one_more old)
counts_end old new None counts = inl counts
counts_end old new (Some (Empty number)) counts = inl counts
counts_end old new (Some (File Read)) counts = inr counts
counts_end old new (Some (File Memory)) counts = inl counts
counts_end old new (Some (File Write)) counts = inl counts
counts_end old new (Some (File (Short len))) counts = inl counts
counts_end old new (Some (File BadMagic)) counts = inl counts
counts_end old new (Some (File (BadFlag byte))) counts = inl counts
counts_end old new (Some (File Full)) counts = inl counts
counts_end old new (Some (File (TooLong len))) counts = inl counts
counts_end old new (Some (File (BlockCut number))) counts = inl counts
counts_end old new (Some (File (CountDiffers count found))) counts = inl counts
counts_end old new (Some (File (Damaged number))) counts = inl counts

-- The output failed before anything was written to the errors.
pub counts_unsent : (old new : ℕ) (ended : Option DumpFault) (before after errors : ℕ) → CountsEnd old new ended →
    after ≡ one_more before → CountsEither (old, new) (before, after) (errors, errors) (Err command.Write)
counts_unsent old new ended before after errors counts failed = inl ((counts_end old new ended counts, failed), refl)
