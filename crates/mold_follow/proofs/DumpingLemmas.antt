-- What a dump that follows a file has written, look after look.
use Rattle.std.proofs.Common.{◌≡◌, ◌⊎◌, ℕ, ◌+◌, List, [], ◌++◌, length, Option, None, Some, Bool, true, false, Result, Ok, Err}
use Rattle.std.proofs.Common.{sym, ap, subst, ◌∙◌, append_assoc, append-nil, length-append, refl, arith, ⊎_elim}
use Rattle.std.specs.Prelude.{if◌then◌else◌, IfErr, IfOk, IsErrAnd, OnOk}
use Rattle.std.specs.Io.KnownBytes.{Appends}
use Rattle.std.proofs.KnownBytes.{Appends-nil, Appends-trans}
use Rattle.mold_devices.specs.Devices.{AppendsPrefix, one_more}
use Rattle.mold_devices.specs.declared.fault.CommandFault.{CommandFault}
use Rattle.mold_devices.specs.declared.fault.CommandFault.TheVariants as command
use Rattle.mold_durable.specs.Reading.{IsOfDevice, file_error}
use Rattle.mold_durable.specs.declared.error.OpenError.{OpenError}
use Rattle.mold_durable.specs.declared.error.OpenError.TheVariants as opening
use Rattle.mold_serve.specs.FileError.{device_fault}
use Rattle.mold_follow.specs.Dumping.{BreaksAfter, EndsAfter, FollowsToEnd, FollowsToFault, GoesOn, Looks, Outputs}
use Rattle.mold_follow.specs.Dumping.{Returned, followed_text, is_over, mark_of}
use Rattle.mold_follow.specs.declared.looked.Looked.TheVariants.{Ended, Paused, Stopped}
use Rattle.mold_follow.specs.declared.looked.Looked.{Looked}
use Rattle.mold_durable.specs.Follower.{FollowerState, Follows}
use Rattle.mold_durable.specs.Following.{AllWithin, Writer, Writes}
use Rattle.mold_input.specs.declared.message_format.MessageFormat.{MessageFormat}
use Rattle.mold_input.specs.declared.message_format.MessageFormat.TheVariants.{Lines, Blocks, BlocksToEmpty}
use Rattle.mold_session.specs.declared.error.FileError.{FileError}
use Rattle.mold_session.specs.declared.error.FileError.TheVariants.{BadFlag, BadMagic, BlockCut, CountDiffers, Damaged, Full}
use Rattle.mold_session.specs.declared.error.FileError.TheVariants.{Memory, Read, Short, TooLong, Write}
use Rattle.mold_show.specs.Dump.{CountsDump, CountsEnd, IsTold, dump_fault, dumped, ended_errors, ended_text, fault_status, fault_text}
use Rattle.mold_show.specs.Dump.{has_unprintable, last_text, messages_text, printed, reaches_end}
use Rattle.mold_show.specs.declared.dump_fault.DumpFault.{DumpFault}
use Rattle.mold_show.specs.declared.dump_fault.DumpFault.TheVariants.{Empty, File}
use Rattle.mold_show.specs.declared.dump_options.DumpOptions.{DumpOptions}
use Rattle.mold_show.proofs.DumpLemmas.{front_after, front_more}
use Rattle.mold_show.proofs.DumpedLemmas.{none_pass, no_texts, printable_all}
use Rattle.mold_show.proofs.EndLemmas.{errors_told, last_told, no_text}
use Rattle.mold_show.proofs.ListedLemmas.{AddsList, adds_list_at, fault_at}
use Rattle.mold_show.specs.Listed.{HasFront, ListsUntil, first_refused, list_text}

-- An error of the bytes is reported.
pub told_error : (error : FileError) → device_fault error ≡ None → IsTold (Some (File error))
told_error Read is = let none : ⊥ = cc in absurd none
told_error Write is = tt
told_error Memory is = let none : ⊥ = cc in absurd none
told_error (Short len) is = tt
told_error BadMagic is = tt
told_error (BadFlag byte) is = tt
told_error Full is = tt
told_error (TooLong len) is = tt
told_error (BlockCut number) is = tt
told_error (CountDiffers count found) is = tt
told_error (Damaged number) is = tt

-- An error of the bytes is none of a device.
pub not_of_device : (error : OpenError) → device_fault (file_error error) ≡ None → IsOfDevice error → ⊥
not_of_device opening.Read is device = let none : ⊥ = cc in none
not_of_device opening.Write is device = let none : ⊥ = cc in none
not_of_device opening.Memory is device = let none : ⊥ = cc in none
not_of_device (opening.Short len) is device = device
not_of_device opening.BadMagic is device = device
not_of_device opening.Full is device = device
not_of_device (opening.TooLong len) is device = device
not_of_device (opening.Damaged number) is device = device

-- Nothing was written yet.
pub goes_none : (options : DumpOptions) (output errors : Option (List ℕ)) →
    GoesOn options [] (output, output) (errors, errors)
goes_none options output errors = record {
  printable = none_pass options;
  text = subst (Appends output output) (sym (no_texts options)) (Appends-nil output);
  quiet = refl;
}

-- A look adds these messages to those before it.
module _ (options : DumpOptions) (told news : List (List ℕ)) (start mid first before : Option (List ℕ))
    (going : GoesOn options told (start, mid) (first, before)) (rest : List ℕ) (refused : Option ℕ)
    (adds : AddsList options told news rest refused) where
  abbrev shown : List ℕ
  shown = messages_text options.format (dumped options told)

  -- All messages of the look were written.
  pub goes_more : refused ≡ None → (end last : Option (List ℕ)) → Appends mid end rest → last ≡ before →
      GoesOn options (told ++ news) (start, end) (first, last)
  goes_more none end last sent same =
      let all : messages_text options.format (dumped options (told ++ news)) ≡ shown ++ rest =
      ap (messages_text options.format)
      (sym (printable_all options.format (dumped options (told ++ news)) (adds.passes none)))
      ∙ adds.texts
      in
      record {
        printable = adds.passes none;
        text = subst (Appends start end) (sym all) (Appends-trans start mid end shown rest going.text sent);
        quiet = same ∙ going.quiet;
      }

  -- The text at the end of a dump, with the mark of the end or the line of the fault.
  pub end_text : (fault : Option FileError) (ended : Option DumpFault) (closed : Bool) (mark now : List ℕ) →
      dump_fault options (told ++ news) fault ≡ ended →
      last_text options.format ended (reaches_end options closed (length (told ++ news)))
      ≡ mark ++ ended_text options.format ended → now ≡ rest ++ mark →
      followed_text options (told ++ news) fault closed ≡ shown ++ (now ++ ended_text options.format ended)
  end_text fault ended closed mark now is marked parts =
      let line = ended_text options.format ended in
      let reaches = reaches_end options closed (length (told ++ news)) in
      ap (λ (t : List ℕ). t ++ last_text options.format (dump_fault options (told ++ news) fault) reaches) adds.texts
      ∙ ap (λ (e : Option DumpFault). (shown ++ rest) ++ last_text options.format e reaches) is
      ∙ ap (λ (t : List ℕ). (shown ++ rest) ++ t) marked
      ∙ append_assoc shown rest (mark ++ line)
      ∙ ap (λ (t : List ℕ). shown ++ t) (sym (append_assoc rest mark line))
      ∙ ap (λ (t : List ℕ). shown ++ (t ++ line)) (sym parts)

  -- The dump ended.
  pub ends_so : (fault : Option FileError) (ended : Option DumpFault) (closed : Bool) (mark now : List ℕ) (status : ℕ)
      (end last : Option (List ℕ)) → dump_fault options (told ++ news) fault ≡ ended →
      last_text options.format ended (reaches_end options closed (length (told ++ news)))
      ≡ mark ++ ended_text options.format ended → now ≡ rest ++ mark → IsTold ended →
      Appends mid end (now ++ ended_text options.format ended) × (status ≡ fault_status ended) →
      Appends before last (ended_errors options.format ended) →
      (fault_status ended ≡ 0 → is_over options closed (length (told ++ news)) ≡ true) →
      EndsAfter options (told ++ news) fault closed status (start, end) (first, last)
  ends_so fault ended closed mark now status end last is marked parts tells sent report over =
      let line = ended_text options.format ended in
      let said = fault_text options.format (dump_fault options (told ++ news) fault) in
      record {
        text =
            subst (Appends start end) (sym (end_text fault ended closed mark now is marked parts))
            (Appends-trans start mid end shown (now ++ line) going.text sent.0);
        report =
            subst (λ (b : Option (List ℕ)). Appends b last said) going.quiet
            (subst (Appends before last)
            (sym (ap (fault_text options.format) is ∙ sym (errors_told options.format ended tells))) report);
        ended = sent.1 ∙ ap fault_status (sym is);
        over = λ zero. over (sym sent.1 ∙ zero);
      }

  -- A prefix of the text was written.
  pub breaks_so : (error : Option FileError) (closed : Bool) (fault : CommandFault) (piece more : List ℕ)
      (end : Option (List ℕ)) → followed_text options (told ++ news) error closed ≡ shown ++ (piece ++ more) →
      AppendsPrefix mid end piece → (fault ≡ command.Read → ⊥) →
      BreaksAfter options (told ++ news) fault (start, end)
  breaks_so error closed fault piece more end is begun other = record {
    error = error;
    closed = closed;
    front =
        front_more start end (shown ++ piece) more (followed_text options (told ++ news) error closed)
        (is ∙ sym (append_assoc shown piece more))
        (front_after start mid end shown piece going.text begun);
    whole = λ read. absurd (other read);
  }

-- ---- faults

-- What holds of the error of a `?`.
pub if_err : {T : Type 0} (result : Result T CommandFault) (cause : CommandFault) (P : CommandFault → Type 0) →
    IsErrAnd result (λ fault. fault ≡ cause) → P cause → IfErr result P
if_err (Ok _) cause P is holds = tt
if_err (Err fault) cause P is holds = subst P (sym is) holds

pub write_not_read : (fault : CommandFault) → fault ≡ command.Write → fault ≡ command.Read → ⊥
write_not_read fault write read = let none : ⊥ = cc in none

memory_untold : (format : MessageFormat) → ended_text format (Some (File Memory)) ≡ []
memory_untold Lines = refl
memory_untold Blocks = refl
memory_untold BlocksToEmpty = refl

-- A failed allocation does not change the count of failures.
pub until_counts : (options : DumpOptions) (count : ℕ) (news : List (List ℕ)) (text : List ℕ) (fault : DumpFault) →
    ListsUntil options count news text fault → CountsEnd 0 0 (Some fault)
until_counts options count news text (Empty number) until = refl
until_counts options count news text (File error) until =
    subst (λ (e : FileError). CountsEnd 0 0 (Some (File e))) (sym until.0) refl

error_counts : (error : FileError) → device_fault error ≡ None → CountsEnd 0 0 (Some (File error))
error_counts Read is = let none : ⊥ = cc in absurd none
error_counts Write is = refl
error_counts Memory is = refl
error_counts (Short len) is = refl
error_counts BadMagic is = refl
error_counts (BadFlag byte) is = refl
error_counts Full is = refl
error_counts (TooLong len) is = refl
error_counts (BlockCut number) is = refl
error_counts (CountDiffers count found) is = refl
error_counts (Damaged number) is = refl

-- ---- the news of a look

no_more_failures : 0 ≡ one_more 0 → ⊥
no_more_failures is = omega (arith, is)

no_read : (format : MessageFormat) (output errors : ℕ × ℕ) → CountsDump format (0, 0) output errors (Err command.Read) → ⊥
no_read Lines output errors counts = no_more_failures counts.0.0
no_read Blocks output errors counts =
    ⊎_elim (λ one. no_more_failures one.0.0) (λ other. no_more_failures other.0.0) counts
no_read BlocksToEmpty output errors counts =
    ⊎_elim (λ one. no_more_failures one.0.0) (λ other. no_more_failures other.0.0) counts

-- Only a failed read of the file is the fault `Read`.
pub not_read : (format : MessageFormat) (ended : Option DumpFault) (output errors : ℕ × ℕ) (fault : CommandFault) →
    CountsEnd 0 0 ended →
    ((old new : ℕ) → CountsEnd old new ended → CountsDump format (old, new) output errors (Err fault)) →
    fault ≡ command.Read → ⊥
not_read format ended output errors fault none counts is =
    let read : CountsDump format (0, 0) output errors (Err command.Read) =
    subst (λ (f : CommandFault). CountsDump format (0, 0) output errors (Err f)) is (counts 0 0 none) in
    no_read format output errors read

module _ (options : DumpOptions) (told news : List (List ℕ)) (start mid first before : Option (List ℕ))
    (going : GoesOn options told (start, mid) (first, before)) (count total : ℕ) (closed : Bool)
    (counted : count ≡ length told) (sum : total ≡ count + length news) where
  adds : AddsList options told news (list_text options count news) (first_refused options count news)
  adds = adds_list_at options told news count counted going.printable

  long : length (told ++ news) ≡ total
  long = omega (arith, length-append told news, counted, sum)

  over_after : (over : Bool) → over ≡ is_over options closed total → over ≡ true →
      is_over options closed (length (told ++ news)) ≡ true
  over_after over is holds = ap (is_over options closed) long ∙ sym is ∙ holds

  no_mark : (over : Bool) (text : List ℕ) → over ≡ is_over options closed total → over ≡ false →
      text ≡ list_text options count news ++ mark_of options closed total → text ≡ list_text options count news
  no_mark over text is shut parts =
      parts
      ∙ ap
      (λ (b : Bool).
      list_text options count news
      ++ (if b then last_text options.format None (reaches_end options closed total) else []))
      (sym is ∙ shut)
      ∙ append-nil (list_text options count news)

  -- The dump goes on.
  pub news_go_on : (over : Bool) (text : List ℕ) (end last : Option (List ℕ)) → over ≡ is_over options closed total →
      over ≡ false → first_refused options count news ≡ None →
      text ≡ list_text options count news ++ mark_of options closed total → Appends mid end text → last ≡ before →
      GoesOn options (told ++ news) (start, end) (first, last)
  news_go_on over text end last is shut none parts sent same =
      goes_more options told news start mid first before going (list_text options count news)
      (first_refused options count news) adds none end last
      (subst (Appends mid end) (no_mark over text is shut parts) sent) same

  with_mark : (over : Bool) (text : List ℕ) → over ≡ is_over options closed total → over ≡ true →
      text ≡ list_text options count news ++ mark_of options closed total →
      text ≡ list_text options count news
      ++ last_text options.format None (reaches_end options closed (length (told ++ news)))
  with_mark over text is holds parts =
      parts
      ∙ ap
      (λ (b : Bool).
      list_text options count news
      ++ (if b then last_text options.format None (reaches_end options closed total) else []))
      (sym is ∙ holds)
      ∙ ap
      (λ (n : ℕ). list_text options count news ++ last_text options.format None (reaches_end options closed n))
      (sym long)

  no_fault : first_refused options count news ≡ None → dump_fault options (told ++ news) None ≡ None
  no_fault none = adds.fault None ∙ ap (λ (r : Option ℕ). fault_at r None) none

  -- The dump is over.
  pub news_end : (over : Bool) (text : List ℕ) (status : ℕ) (end last : Option (List ℕ)) →
      over ≡ is_over options closed total → over ≡ true → first_refused options count news ≡ None →
      text ≡ list_text options count news ++ mark_of options closed total →
      Appends mid end (text ++ ended_text options.format None) × (status ≡ fault_status None) →
      Appends before last (ended_errors options.format None) →
      EndsAfter options (told ++ news) None closed status (start, end) (first, last)
  news_end over text status end last is holds none parts sent report =
      let mark = last_text options.format None (reaches_end options closed (length (told ++ news))) in
      ends_so options told news start mid first before going (list_text options count news)
      (first_refused options count news) adds None None closed mark text status end last (no_fault none)
      (sym (append-nil mark) ∙ ap (λ (t : List ℕ). mark ++ t) (sym (no_text options.format)))
      (with_mark over text is holds parts) tt sent report (λ zero. over_after over is holds)

  -- An empty message cannot be printed.
  pub news_refused : (fault : DumpFault) (text : List ℕ) (status : ℕ) (end last : Option (List ℕ)) →
      ListsUntil options count news text fault → IsTold (Some fault) →
      Appends mid end (text ++ ended_text options.format (Some fault)) × (status ≡ fault_status (Some fault)) →
      Appends before last (ended_errors options.format (Some fault)) →
      EndsAfter options (told ++ news) None closed status (start, end) (first, last)
  news_refused (File error) text status end last until tells sent report =
      absurd (subst (λ (e : FileError). IsTold (Some (File e))) until.0 tells)
  news_refused (Empty number) text status end last until tells sent report =
      ends_so options told news start mid first before going (list_text options count news)
      (first_refused options count news) adds None (Some (Empty number)) closed [] text status end last
      (adds.fault None ∙ ap (λ (r : Option ℕ). fault_at r None) until.1)
      (last_told options.format (Empty number) (reaches_end options closed (length (told ++ news))) tells)
      (until.0 ∙ sym (append-nil (list_text options count news))) tells sent report
      (λ zero. let none : ⊥ = omega (arith, zero) in absurd none)

  -- The text of all messages, with what follows it.
  all_text : followed_text options (told ++ news) None closed
      ≡ messages_text options.format (dumped options told)
      ++ (list_text options count news
      ++ last_text options.format (dump_fault options (told ++ news) None)
      (reaches_end options closed (length (told ++ news))))
  all_text =
      let last = last_text options.format (dump_fault options (told ++ news) None)
      (reaches_end options closed (length (told ++ news))) in
      ap (λ (t : List ℕ). t ++ last) adds.texts
      ∙ append_assoc (messages_text options.format (dumped options told)) (list_text options count news) last

  -- A fault ended the dump while a prefix of the text was written.
  pub news_break : (fault : CommandFault) (piece more : List ℕ) (end : Option (List ℕ)) →
      list_text options count news
      ++ last_text options.format (dump_fault options (told ++ news) None)
      (reaches_end options closed (length (told ++ news))) ≡ piece ++ more →
      AppendsPrefix mid end piece → (fault ≡ command.Read → ⊥) →
      BreaksAfter options (told ++ news) fault (start, end)
  news_break fault piece more end is begun other =
      breaks_so options told news start mid first before going (list_text options count news)
      (first_refused options count news) adds None closed fault piece more end
      (all_text ∙ ap (λ (t : List ℕ). messages_text options.format (dumped options told) ++ t) is) begun other

  marked : (over : Bool) (text whole last : List ℕ) → whole ≡ list_text options count news ++ last →
      text ≡ list_text options count news ++ (if over then last else []) → HasFront text whole
  marked true text whole last is parts = record { more = []; parts = is ∙ sym parts ∙ sym (append-nil text) }
  marked false text whole last is parts = record {
    more = last;
    parts = is ∙ ap (λ (t : List ℕ). t ++ last) (sym (append-nil (list_text options count news)) ∙ sym parts);
  }

  -- The text for no fault, followed by what is after the mark.
  pub text_parts : (text : List ℕ) → first_refused options count news ≡ None →
      text ≡ list_text options count news ++ mark_of options closed total → HasFront text
      (list_text options count news
      ++ last_text options.format (dump_fault options (told ++ news) None)
      (reaches_end options closed (length (told ++ news))))
  text_parts text none parts =
      let last = last_text options.format None (reaches_end options closed total) in
      let whole : last_text options.format (dump_fault options (told ++ news) None)
      (reaches_end options closed (length (told ++ news))) ≡ last =
      ap
      (λ (e : Option DumpFault). last_text options.format e (reaches_end options closed (length (told ++ news))))
      (no_fault none)
      ∙ ap (λ (n : ℕ). last_text options.format None (reaches_end options closed n)) long
      in
      marked (is_over options closed total) text
      (list_text options count news
      ++ last_text options.format (dump_fault options (told ++ news) None)
      (reaches_end options closed (length (told ++ news))))
      last (ap (λ (t : List ℕ). list_text options count news ++ t) whole) parts

  -- No text follows the mark.
  pub over_front : (text : List ℕ) (end : Option (List ℕ)) → AppendsPrefix mid end (text ++ ended_text options.format None) →
      AppendsPrefix mid end text
  over_front text end begun =
      subst (AppendsPrefix mid end)
      (ap (λ (t : List ℕ). text ++ t) (no_text options.format) ∙ append-nil text) begun

  -- A fault ended the dump while it wrote why it stopped.
  pub fault_break : (fault : DumpFault) (cause : CommandFault) (text : List ℕ) (end : Option (List ℕ)) →
      ListsUntil options count news text fault →
      AppendsPrefix mid end (text ++ ended_text options.format (Some fault)) → (cause ≡ command.Read → ⊥) →
      BreaksAfter options (told ++ news) cause (start, end)
  fault_break (Empty number) cause text end until begun other =
      let line = ended_text options.format (Some (Empty number)) in
      let reaches = reaches_end options closed (length (told ++ news)) in
      news_break cause (text ++ line) [] end
      (ap (λ (e : Option DumpFault). list_text options count news ++ last_text options.format e reaches)
      (adds.fault None ∙ ap (λ (r : Option ℕ). fault_at r None) until.1)
      ∙ ap (λ (t : List ℕ). list_text options count news ++ t) (last_told options.format (Empty number) reaches tt)
      ∙ ap (λ (t : List ℕ). t ++ line) (sym until.0)
      ∙ sym (append-nil (text ++ line)))
      begun other
  fault_break (File error) cause text end until begun other =
      let last = last_text options.format (dump_fault options (told ++ news) None)
      (reaches_end options closed (length (told ++ news))) in
      news_break cause text (until.1.more ++ last) end
      (ap (λ (t : List ℕ). t ++ last) until.1.parts ∙ append_assoc text until.1.more last)
      (subst (AppendsPrefix mid end)
      (ap (λ (e : FileError). text ++ ended_text options.format (Some (File e))) until.0
      ∙ ap (λ (t : List ℕ). text ++ t) (memory_untold options.format)
      ∙ append-nil text)
      begun)
      other

-- ---- no news

-- No message adds no text.
adds_nothing : (options : DumpOptions) (told : List (List ℕ)) →
    has_unprintable options.format (dumped options told) ≡ false → AddsList options told [] [] None
unfolding list_text first_refused
adds_nothing options told printable = adds_list_at options told [] (length told) refl printable

module _ (options : DumpOptions) (told : List (List ℕ)) (start mid first before : Option (List ℕ))
    (going : GoesOn options told (start, mid) (first, before)) where
  -- A call or an allocation failed before anything was written.
  pub none_break : (fault : CommandFault) → BreaksAfter options (told ++ []) fault (start, mid)
  none_break fault =
      let texts = (adds_nothing options told going.printable).texts in
      let shown = messages_text options.format (dumped options told) in
      let all = messages_text options.format (printed options (told ++ [])) in
      let same : all ≡ shown = texts ∙ append-nil shown in
      let last = last_text options.format (dump_fault options (told ++ []) None)
      (reaches_end options false (length (told ++ []))) in
      record {
        error = None;
        closed = false;
        front =
            front_more start mid shown last (followed_text options (told ++ []) None false)
            (ap (λ (t : List ℕ). t ++ last) same)
            (record { front = shown; rest = []; parts = sym (append-nil shown); appended = going.text });
        whole = λ read. subst (Appends start mid) (sym same) going.text;
      }

  -- The file has an error.
  pub error_end : (error : FileError) (closed : Bool) (text : List ℕ) (status : ℕ) (end last : Option (List ℕ)) →
      text ≡ [] → IsTold (Some (File error)) →
      Appends mid end (text ++ ended_text options.format (Some (File error))) × (status ≡ 2) →
      Appends before last (ended_errors options.format (Some (File error))) →
      EndsAfter options (told ++ []) (Some error) closed status (start, end) (first, last)
  error_end error closed text status end last empty tells sent report =
      ends_so options told [] start mid first before going [] None (adds_nothing options told going.printable) (Some error)
      (Some (File error)) closed [] text status end last
      ((adds_nothing options told going.printable).fault (Some error))
      (last_told options.format (File error) (reaches_end options closed (length (told ++ []))) tells) empty tells sent
      report
      (λ zero. let none : ⊥ = omega (arith, zero) in absurd none)

  -- A fault ended the dump while it wrote that error.
  pub error_break : (error : FileError) (text : List ℕ) (end : Option (List ℕ)) (output errors : ℕ × ℕ)
      (result : Result ℕ CommandFault) → text ≡ [] → device_fault error ≡ None →
      AppendsPrefix mid end (text ++ ended_text options.format (Some (File error))) →
      ((old new : ℕ) → CountsEnd old new (Some (File error)) →
      CountsDump options.format (old, new) output errors result) →
      IfErr result (λ fault. BreaksAfter options (told ++ []) fault (start, end))
  error_break error text end output errors (Ok status) empty is begun counts = tt
  error_break error text end output errors (Err fault) empty is begun counts =
      let piece = text ++ ended_text options.format (Some (File error)) in
      breaks_so options told [] start mid first before going [] None (adds_nothing options told going.printable) (Some error)
      false fault piece [] end
      (end_text options told [] start mid first before going [] None (adds_nothing options told going.printable)
      (Some error) (Some (File error)) false [] text ((adds_nothing options told going.printable).fault (Some error))
      (last_told options.format (File error) (reaches_end options false (length (told ++ []))) (told_error error is))
      empty
      ∙ ap (λ (t : List ℕ). messages_text options.format (dumped options told) ++ t) (sym (append-nil piece)))
      begun
      (not_read options.format (Some (File error)) output errors fault (error_counts error is) counts)

  -- How the dump ended after that error.
  pub error_outcome : (error : FileError) (closed : Bool) (text : List ℕ) (end last : Option (List ℕ))
      (result : Result ℕ CommandFault) → text ≡ [] → device_fault error ≡ None →
      IfOk result (λ status. Appends mid end (text ++ ended_text options.format (Some (File error))) × (status ≡ 2)) →
      OnOk result (Appends before last (ended_errors options.format (Some (File error)))) →
      IfOk result (λ status. EndsAfter options (told ++ []) (Some error) closed status (start, end) (first, last))
  error_outcome error closed text end last (Err fault) empty is sent report = tt
  error_outcome error closed text end last (Ok status) empty is sent report =
      error_end error closed text status end last empty (told_error error is) sent report

  -- A fault ended the dump before the news of a look were written.
  pub idle_break : (news : List (List ℕ)) (fault : CommandFault) → (fault ≡ command.Read → ⊥) →
      BreaksAfter options (told ++ news) fault (start, mid)
  idle_break news fault other =
      let adds = adds_list_at options told news (length told) refl going.printable in
      let shown = messages_text options.format (dumped options told) in
      let rest = list_text options (length told) news in
      let last = last_text options.format (dump_fault options (told ++ news) None)
      (reaches_end options false (length (told ++ news))) in
      record {
        error = None;
        closed = false;
        front =
            front_more start mid shown (rest ++ last) (followed_text options (told ++ news) None false)
            (ap (λ (t : List ℕ). t ++ last) adds.texts ∙ append_assoc shown rest last)
            (record { front = shown; rest = []; parts = sym (append-nil shown); appended = going.text });
        whole = λ read. absurd (other read);
      }

-- The messages with the news, if there are none or if they are in a list.
pub without_news : (P : List (List ℕ) → Type 0) (told news : List (List ℕ)) → news ≡ [] → P (told ++ []) → P (told ++ news)
without_news P told news none = subst (λ (t : List (List ℕ)). P (told ++ t)) (sym none)

pub with_list : (P : List (List ℕ) → Type 0) (told news list : List (List ℕ)) → list ≡ news → P (told ++ list) →
    P (told ++ news)
with_list P told news list is = subst (λ (t : List (List ℕ)). P (told ++ t)) is

-- What is closed is what the follower states.
pub with_closed : (P : Bool → Type 0) (one other : Bool) → one ≡ other → P one → P other
with_closed P one other is = subst P is

pub memory_not_read : command.Memory ≡ command.Read → ⊥
memory_not_read is = let none : ⊥ = cc in none

-- ---- look after look

-- The looks so far: the messages that they returned, and that all of them that are asked for are written.
pub record IsDumping {F : Type 0} (history : F → (ℕ → List ℕ) → Type 0) (synced : F → ℕ) (options : DumpOptions)
    (old new : FollowerState F) (count : ℕ) (output errors : Outputs) : Type 0 where
  pub messages : List (List ℕ)
  pub returned : Returned history synced old new messages
  pub going : GoesOn options messages output errors
  pub counted : count ≡ length messages

pub dumping_first : {F : Type 0} (history : F → (ℕ → List ℕ) → Type 0) (synced : F → ℕ) (options : DumpOptions)
    (follower : FollowerState F) (output errors : Option (List ℕ)) →
    IsDumping history synced options follower follower 0 (output, output) (errors, errors)
dumping_first history synced options follower output errors = record {
  messages = [];
  returned = record { longest = refl; follows = λ writer bytes writes follows. follows };
  going = goes_none options output errors;
  counted = refl;
}

module _ {F : Type 0} (history : F → (ℕ → List ℕ) → Type 0) (synced : F → ℕ) (options : DumpOptions)
    (old mid new : FollowerState F) (count : ℕ) (start first sent said : Option (List ℕ))
    (dumping : IsDumping history synced options old mid count (start, sent) (first, said))
    (follows : (writer : Writer) (bytes : ℕ → List ℕ) (told : List (List ℕ)) → Writes writer bytes →
    Follows history synced writer bytes mid told → Follows history synced writer bytes new (told ++ new.news))
    (longest : new.max_message ≡ mid.max_message) where
  returned_more : Returned history synced old new (dumping.messages ++ new.news)
  returned_more = record {
    longest = longest ∙ dumping.returned.longest;
    follows = λ writer bytes writes was.
        follows writer bytes dumping.messages writes (dumping.returned.follows writer bytes writes was);
  }

  -- The dump goes on after a look.
  pub dumping_more : (after : ℕ) (end last : Option (List ℕ)) → after ≡ count + length new.news →
      GoesOn options (dumping.messages ++ new.news) (start, end) (first, last) →
      IsDumping history synced options old new after (start, end) (first, last)
  dumping_more after end last more going = record {
    messages = dumping.messages ++ new.news;
    returned = returned_more;
    going = going;
    counted = omega (arith, more, dumping.counted, length-append dumping.messages new.news);
  }

  -- The dump ended.
  pub dumping_ended : (status : ℕ) (end last : Option (List ℕ)) →
      Looks history synced options mid new dumping.messages (start, end) (first, last) (Ended status) →
      FollowsToEnd history synced options old new (start, end) (first, last) (Some status)
  dumping_ended status end last looks = record {
    messages = dumping.messages ++ new.news;
    returned = returned_more;
    fault = looks.fault;
    proper = λ writer bytes writes within was.
        looks.proper writer bytes writes
        (subst (λ (n : ℕ). AllWithin n writer) (sym dumping.returned.longest) within)
        (dumping.returned.follows writer bytes writes was);
    left = looks.left;
  }

  -- A fault ended the dump.
  pub dumping_broken : (fault : CommandFault) (end : Option (List ℕ)) →
      BreaksAfter options (dumping.messages ++ new.news) fault (start, end) →
      FollowsToFault history synced options old new (start, end) fault
  dumping_broken fault end broken =
      record { messages = dumping.messages ++ new.news; returned = returned_more; broken = broken }

-- The dump goes on after all looks.
pub dumping_left : {F : Type 0} {history : F → (ℕ → List ℕ) → Type 0} {synced : F → ℕ} {options : DumpOptions}
    {old new : FollowerState F} {count : ℕ} {output errors : Outputs} →
    IsDumping history synced options old new count output errors →
    FollowsToEnd history synced options old new output errors None
dumping_left dumping = record {
  messages = dumping.messages;
  returned = dumping.returned;
  fault = None;
  proper = λ writer bytes writes within was. refl;
  left = dumping.going;
}

-- The dump ended, or goes on, after a look.
pub look_ended : {F : Type 0} (history : F → (ℕ → List ℕ) → Type 0) (synced : F → ℕ) (options : DumpOptions)
    (old new : FollowerState F) (told : List (List ℕ)) (output errors : Outputs) (looked : Looked) (status : ℕ) →
    looked ≡ Ended status → Looks history synced options old new told output errors looked →
    Looks history synced options old new told output errors (Ended status)
look_ended history synced options old new told output errors looked status is looks =
    subst (Looks history synced options old new told output errors) is looks

pub look_goes_on : {F : Type 0} (history : F → (ℕ → List ℕ) → Type 0) (synced : F → ℕ) (options : DumpOptions)
    (old new : FollowerState F) (told : List (List ℕ)) (output errors : Outputs) (looked : Looked) →
    (looked ≡ Stopped) ⊎ (looked ≡ Paused) → Looks history synced options old new told output errors looked →
    GoesOn options (told ++ new.news) output errors
look_goes_on history synced options old new told output errors looked is looks = ⊎_elim
    (λ stops. (subst (Looks history synced options old new told output errors) stops looks).left)
    (λ pauses. (subst (Looks history synced options old new told output errors) pauses looks).left)
    is
