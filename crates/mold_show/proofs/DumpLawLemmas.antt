-- What is printed for a journal's file is published as the same messages.
use Rattle.std.proofs.Common.{◌≡◌, ℕ, zero, suc, ◌+◌, ◌-◌, ◌*◌, ◌/◌, ◌%◌, ◌<◌, ◌≤◌, ◌==◌, Bool, true, false, cond, nat_lt, List, [], ◌∷◌}
use Rattle.std.proofs.Common.{◌++◌, length, length-append, map, Option, None, Some, Result, Ok, refl, sym, ap}
use Rattle.std.proofs.Common.{◌∙◌, append_assoc, append-nil, subst, arith}
use Rattle.std.proofs.lemmas.Bool.Decides.{nat_tests}
use Rattle.std.proofs.lemmas.List.{take_all}
use Rattle.std.specs.List.{AllByRecursion, list_any}
use Rattle.std.specs.Prelude.{◌&&◌, option_map, slice_index}
use Rattle.hex.specs.Hex.{decode_of, encode_lower, encode_with, lower_digits}
use Rattle.hex.proofs.HexLemmas.{decode_of-encode_lower}
use Rattle.mold_wire.specs.Block.{IsBytes, be16, block, blocks}
use Rattle.mold_devices.specs.Lines.{lines_of, onto_first}
use Rattle.mold_session.specs.Contents.{FileContents}
use Rattle.mold_session.specs.File.{head_1, head_2}
use Rattle.mold_session.specs.Journal.{IsWithin, JournalState, append_refusal, appended, fresh_journal}
use Rattle.mold_session.specs.Loading.{SpellsFile}
use Rattle.mold_session.specs.Records.{head_3, record_of, records}
use Rattle.mold_wire.specs.declared.block.TheConstants.{MAX_MESSAGE}
use Rattle.mold_wire.specs.declared.limits.TheConstants.{MESSAGE_OVERHEAD}
use Rattle.mold_session.specs.declared.error.AppendError.{AppendError}
use Rattle.mold_session.specs.declared.error.AppendError.TheVariants.{Closed, TooLong, Full}
use Rattle.mold_session.specs.declared.error.FileError.{FileError}
use Rattle.mold_session.specs.declared.file_version.FileVersion.{FileVersion}
use Rattle.mold_session.specs.declared.file_version.FileVersion.TheVariants.{One, Two, Three}
use Rattle.mold_session.specs.declared.loading.FileHead.{FileHead}
use Rattle.mold_input.specs.declared.input_fault.InputFault.TheVariants as fault
use Rattle.mold_input.specs.declared.input_kind.InputKind.TheVariants as kind
use Rattle.mold_input.specs.declared.limits.TheConstants.{MAX_LINE}
use Rattle.mold_input.specs.declared.message_format.MessageFormat.{MessageFormat}
use Rattle.mold_input.specs.declared.message_format.MessageFormat.TheVariants.{Lines, Blocks, BlocksToEmpty}
use Rattle.mold_publish.specs.Publishing.{PublishedInput, fault_refusal, line_outcome, lines_published, published_from}
use Rattle.mold_publish.specs.Publishing.{refused_for, unless_refused}
use Rattle.mold_publish.specs.declared.message_refusal.MessageRefusal.{MessageRefusal}
use Rattle.mold_text.specs.Line.{joined}
use Rattle.mold_show.specs.Dump.{PrintsAll, dump_text, dumped, end_mark, ends_session, fault_line, fault_of}
use Rattle.mold_show.specs.Dump.{fault_status, fault_text, has_unprintable, is_empty, last_text, message_line}
use Rattle.mold_show.specs.Dump.{messages_text, printable, reaches_end}
use Rattle.mold_show.specs.declared.dump_fault.DumpFault.{DumpFault}
use Rattle.mold_show.specs.declared.dump_fault.DumpFault.TheVariants.{File}
use Rattle.mold_show.specs.declared.dump_options.DumpOptions.{DumpOptions}
use Rattle.mold_show.proofs.DumpLemmas.{FileLaws}
use Rattle.mold_show.proofs.DumpedLemmas.{le_true, printable_all}
use Rattle.mold_show.proofs.EndLemmas.{closed_of, file_fault}

-- ---- lines of digits

-- No digit is the end of a line.
digit_stays : (place : ℕ) → (slice_index lower_digits place == 10) ≡ false
digit_stays zero = refl
digit_stays (suc zero) = refl
digit_stays (suc (suc zero)) = refl
digit_stays (suc (suc (suc zero))) = refl
digit_stays (suc (suc (suc (suc zero)))) = refl
digit_stays (suc (suc (suc (suc (suc zero))))) = refl
digit_stays (suc (suc (suc (suc (suc (suc zero)))))) = refl
digit_stays (suc (suc (suc (suc (suc (suc (suc zero))))))) = refl
digit_stays (suc (suc (suc (suc (suc (suc (suc (suc zero)))))))) = refl
digit_stays (suc (suc (suc (suc (suc (suc (suc (suc (suc zero))))))))) = refl
digit_stays (suc (suc (suc (suc (suc (suc (suc (suc (suc (suc zero)))))))))) = refl
digit_stays (suc (suc (suc (suc (suc (suc (suc (suc (suc (suc (suc zero))))))))))) = refl
digit_stays (suc (suc (suc (suc (suc (suc (suc (suc (suc (suc (suc (suc zero)))))))))))) = refl
digit_stays (suc (suc (suc (suc (suc (suc (suc (suc (suc (suc (suc (suc (suc zero))))))))))))) = refl
digit_stays (suc (suc (suc (suc (suc (suc (suc (suc (suc (suc (suc (suc (suc (suc zero)))))))))))))) = refl
digit_stays (suc (suc (suc (suc (suc (suc (suc (suc (suc (suc (suc (suc (suc (suc (suc zero))))))))))))))) = refl
digit_stays (suc (suc (suc (suc (suc (suc (suc (suc (suc (suc (suc (suc (suc (suc (suc (suc place)))))))))))))))) = refl

abbrev HasNoEnd : List ℕ → Type 0
HasNoEnd [] = Unit {0}
HasNoEnd (byte ∷ bytes) = ((byte == 10) ≡ false) × HasNoEnd bytes

digits_stay : (message : List ℕ) → HasNoEnd (encode_lower message)
unfolding encode_with
digits_stay [] = tt
digits_stay (byte ∷ message) = (digit_stays (byte / 16), (digit_stays (byte % 16), digits_stay message))

cut_line : (line rest : List ℕ) → HasNoEnd line → lines_of (line ++ 10 ∷ rest) ≡ line ∷ lines_of rest
cut_line [] rest stays = refl
cut_line (byte ∷ line) rest stays =
    let behind = lines_of (line ++ 10 ∷ rest) in
    ap (λ (b : Bool). cond b ([] ∷ behind) (onto_first byte behind)) stays.0
    ∙ ap (onto_first byte) (cut_line line rest stays.1)

line_is : (message : List ℕ) → message_line message ≡ encode_lower message ++ 10 ∷ []
unfolding joined
line_is message = ap (λ (t : List ℕ). t ++ 10 ∷ []) (append-nil (encode_lower message))

printed_lines : (messages : List (List ℕ)) → lines_of (messages_text Lines messages) ≡ map encode_lower messages
printed_lines [] = refl
printed_lines (message ∷ messages) =
    let rest = messages_text Lines messages in
    ap (λ (t : List ℕ). lines_of (t ++ rest)) (line_is message)
    ∙ ap lines_of (append_assoc (encode_lower message) (10 ∷ []) rest)
    ∙ cut_line (encode_lower message) rest (digits_stay message)
    ∙ ap (λ (t : List (List ℕ)). encode_lower message ∷ t) (printed_lines messages)

-- ---- the messages of a file are bytes

front_bytes : (one other : List ℕ) → IsBytes (one ++ other) → IsBytes one
front_bytes [] other are i = omega arith
front_bytes (byte ∷ one) other are zero = are zero
front_bytes (byte ∷ one) other are (suc i) = front_bytes one other (λ k. are (suc k)) i

back_bytes : (one other : List ℕ) → IsBytes (one ++ other) → IsBytes other
back_bytes [] other are = are
back_bytes (byte ∷ one) other are = back_bytes one other (λ k. are (suc k))

message_bytes : (messages : List (List ℕ)) → IsBytes (blocks messages) → AllByRecursion IsBytes messages
message_bytes [] are = tt
message_bytes (message ∷ messages) are = (
  back_bytes (be16 (length message)) message (front_bytes (block message) (blocks messages) are),
  message_bytes messages (back_bytes (block message) (blocks messages) are),
)

record_bytes : (messages : List (List ℕ)) → IsBytes (records messages) → AllByRecursion IsBytes messages
record_bytes [] are = tt
record_bytes (message ∷ messages) are = (
  back_bytes (1 ∷ 0 ∷ be16 (length message)) message (front_bytes (record_of message) (records messages) are),
  record_bytes messages (back_bytes (record_of message) (records messages) are),
)

file_bytes : (bytes : List ℕ) (head : FileHead) (messages : List (List ℕ)) (version : FileVersion) → IsBytes bytes →
    SpellsFile head messages version bytes → AllByRecursion IsBytes messages
file_bytes bytes head messages One are spelled =
    message_bytes messages (back_bytes (head_1 head.session.0) (blocks messages)
    (subst IsBytes spelled.1.spelled are))
file_bytes bytes head messages (Two count) are spelled =
    message_bytes messages (back_bytes (head_2 head.session.0 head.closed (length messages)) (blocks messages)
    (subst IsBytes spelled.spelled are))
file_bytes bytes head messages Three are spelled =
    record_bytes messages (front_bytes (records messages) spelled.rest
    (back_bytes (head_3 head.session.0) (records messages ++ spelled.rest) (subst IsBytes spelled.spelled are)))

file_few : (bytes : List ℕ) (head : FileHead) (messages : List (List ℕ)) (version : FileVersion) →
    SpellsFile head messages version bytes → length messages < 18446744073709551615
file_few bytes head messages One spelled = spelled.1.listed.few
file_few bytes head messages (Two count) spelled = spelled.listed.few
file_few bytes head messages Three spelled = spelled.listed.few

file_short : (bytes : List ℕ) (head : FileHead) (messages : List (List ℕ)) (version : FileVersion) →
    SpellsFile head messages version bytes → AllByRecursion (IsWithin MAX_MESSAGE) messages
file_short bytes head messages One spelled = spelled.1.listed.each
file_short bytes head messages (Two count) spelled = spelled.listed.each
file_short bytes head messages Three spelled = spelled.listed.each

-- ---- the messages that are published

short_enough : (a b : ℕ) → b ≤ a → nat_lt a b ≡ false
short_enough a b holds = grind (arith, nat_tests)

not_last : (a b : ℕ) → a < b → (a == b) ≡ false
not_last a b holds = grind (arith, nat_tests)

not_refused : (journal : JournalState) (message : List ℕ) → journal.closed ≡ false →
    length message ≤ journal.max_message → length journal.messages < 18446744073709551614 →
    append_refusal journal message ≡ None
not_refused journal message opened within few =
    let full : Option AppendError = cond (length journal.messages == 18446744073709551614) (Some Full) None in
    ap (λ (b : Bool). cond b (Some Closed)
    (cond (nat_lt journal.max_message (length message)) (Some (TooLong (length message))) full)) opened
    ∙ ap (λ (b : Bool). cond b (Some (TooLong (length message))) full)
    (short_enough journal.max_message (length message) within)
    ∙ ap (λ (b : Bool). cond b (Some Full) None) (not_last (length journal.messages) 18446744073709551614 few)

all_published : (messages : List (List ℕ)) (journal : JournalState) → journal.closed ≡ false →
    AllByRecursion IsBytes messages → AllByRecursion (IsWithin journal.max_message) messages →
    AllByRecursion (IsWithin MAX_MESSAGE) messages → length journal.messages + length messages < 18446744073709551615 →
    lines_published journal (map encode_lower messages)
    ≡ record { journal = record journal { messages = journal.messages ++ messages }; refused = None }
unfolding lines_published
all_published [] journal opened are within short few =
    ap (λ (ms : List (List ℕ)).
    let published : PublishedInput = record { journal = record journal { messages = ms }; refused = None } in published)
    (sym (append-nil journal.messages))
all_published (message ∷ messages) journal opened are within short few =
    let fits : length message ≤ journal.max_message = within.0 in
    let outcome : line_outcome journal (decode_of (encode_lower message)) ≡ Ok message =
    ap (line_outcome journal) (decode_of-encode_lower message are.0)
    ∙ ap (λ (b : Bool). cond b (refused_for kind.Lines (fault_refusal (fault.TooLong (length message)) journal.closed))
    (unless_refused kind.Lines message (append_refusal journal message)))
    (short_enough MAX_LINE (2 * length message) (omega (arith, short.0)))
    ∙ ap (unless_refused kind.Lines message) (not_refused journal message opened fits (omega (arith, few)))
    in
    ap (λ (r : Result (List ℕ) MessageRefusal).
    published_from journal r (λ next. lines_published next (map encode_lower messages))) outcome
    ∙ all_published messages (appended journal message) opened are.1 within.1 short.1
    (omega (arith, few, length-append journal.messages (message ∷ [])))
    ∙ ap (λ (ms : List (List ℕ)).
    let published : PublishedInput = record { journal = record journal { messages = ms }; refused = None } in published)
    (append_assoc journal.messages (message ∷ []) messages)

-- ---- the law

-- The contents of a file are unique.
abbrev pub OneContents : Type 0
OneContents = (bytes : List ℕ) (one other : FileContents bytes) →
    (one.messages ≡ other.messages) × (one.fault ≡ other.fault)

-- The options of a dump of all of at most `count` messages.
abbrev pub dump_all : ℕ → MessageFormat → DumpOptions
dump_all count format = record { from = 1; count = count; format = format }

-- The contents of the file of a journal.
same_contents : OneContents → (head : FileHead) (messages : List (List ℕ)) (bytes : List ℕ)
    (contents : FileContents bytes) → SpellsFile head messages head.version bytes →
    (contents.messages ≡ messages) × (contents.fault ≡ None)
same_contents law head messages bytes contents spelled =
    law bytes contents (record { messages = messages; fault = None; gives = (head, spelled) })

lines_printed : OneContents → (head : FileHead) (messages : List (List ℕ)) (bytes : List ℕ)
    (contents : FileContents bytes) (count : ℕ) → SpellsFile head messages head.version bytes →
    length messages ≤ count → dump_text (dump_all count Lines) contents ≡ messages_text Lines messages
lines_printed law head messages bytes contents count spelled all =
    let same = same_contents law head messages bytes contents spelled in
    let options = dump_all count Lines in
    ap (λ (ms : List (List ℕ)). messages_text Lines (dumped options ms) ++ fault_line (option_map File contents.fault))
    same.0
    ∙ ap (λ (e : Option FileError). messages_text Lines (dumped options messages) ++ fault_line (option_map File e))
    same.1
    ∙ append-nil (messages_text Lines (dumped options messages))
    ∙ ap (messages_text Lines) (take_all count messages all)

pub dump_published : OneContents → (head : FileHead) (messages : List (List ℕ)) (bytes : List ℕ)
    (contents : FileContents bytes) (limit count : ℕ) → IsBytes bytes → SpellsFile head messages head.version bytes →
    AllByRecursion (IsWithin (limit - 22)) messages → length messages ≤ count →
    lines_published (fresh_journal head.session (limit - MESSAGE_OVERHEAD))
    (lines_of (dump_text (dump_all count Lines) contents))
    ≡ record { journal = record (fresh_journal head.session (limit - MESSAGE_OVERHEAD)) { messages = messages }; refused = None }
dump_published law head messages bytes contents limit count are spelled within all =
    ap (λ (t : List ℕ). lines_published (fresh_journal head.session (limit - MESSAGE_OVERHEAD)) (lines_of t))
    (lines_printed law head messages bytes contents count spelled all)
    ∙ ap (lines_published (fresh_journal head.session (limit - MESSAGE_OVERHEAD))) (printed_lines messages)
    ∙ all_published messages (fresh_journal head.session (limit - MESSAGE_OVERHEAD)) refl (file_bytes bytes head messages head.version are spelled) within
    (file_short bytes head messages head.version spelled)
    (omega (arith, file_few bytes head messages head.version spelled))

-- ---- blocks

module _ (law : OneContents) (head : FileHead) (messages : List (List ℕ)) (bytes : List ℕ)
    (contents : FileContents bytes) (count : ℕ) (spelled : SpellsFile head messages head.version bytes)
    (all : length messages ≤ count) where
  same_as_file : (contents.messages ≡ messages) × (contents.fault ≡ None)
  same_as_file = same_contents law head messages bytes contents spelled

  all_asked : (format : MessageFormat) → dumped (dump_all count format) contents.messages ≡ messages
  all_asked format = ap (dumped (dump_all count format)) same_as_file.0 ∙ take_all count messages all

  -- The file has no fault.
  no_fault : (format : MessageFormat) → has_unprintable format messages ≡ false →
      fault_of (dump_all count format) contents ≡ None
  no_fault format none =
      file_fault (dump_all count format) contents.messages contents.fault
      (ap (has_unprintable format) (all_asked format) ∙ none)
      ∙ ap (option_map File) same_as_file.1

  no_errors : (format : MessageFormat) → fault_text format None ≡ []
  no_errors Lines = refl
  no_errors Blocks = refl
  no_errors BlocksToEmpty = refl

  -- What is printed, for a format whose end prints `mark`.
  printed_all : (format : MessageFormat) (mark : List ℕ) → has_unprintable format messages ≡ false →
      last_text format None (ends_session (dump_all count format) contents) ≡ mark →
      PrintsAll (dump_all count format) contents (messages_text format messages ++ mark)
  printed_all format mark none last =
      let options = dump_all count format in
      record {
        output =
            ap (λ (ms : List (List ℕ)). messages_text format ms ++ last_text format (fault_of options contents) (ends_session options contents))
            (ap (printable format) (all_asked format) ∙ printable_all format messages none)
            ∙ ap (λ (e : Option DumpFault). messages_text format messages ++ last_text format e (ends_session options contents))
            (no_fault format none)
            ∙ ap (λ (t : List ℕ). messages_text format messages ++ t) last;
        errors = ap (fault_text format) (no_fault format none) ∙ no_errors format;
        status = ap fault_status (no_fault format none);
      }

  pub blocks_printed : PrintsAll (dump_all count Blocks) contents (blocks messages)
  blocks_printed =
      subst (PrintsAll (dump_all count Blocks) contents) (append-nil (blocks messages)) (printed_all Blocks [] refl refl)

  and_true : (b : Bool) → b && true ≡ b
  and_true true = refl
  and_true false = refl

  -- Whether the session is dumped to its end.
  ends_as : FileLaws → ends_session (dump_all count BlocksToEmpty) contents ≡ head.closed
  ends_as laws =
      let options = dump_all count BlocksToEmpty in
      ap (λ (c : Bool). reaches_end options c (length contents.messages))
      (closed_of laws head messages bytes contents.messages contents.fault contents.gives spelled same_as_file.1)
      ∙ ap (λ (ms : List (List ℕ)). reaches_end options head.closed (length ms)) same_as_file.0
      ∙ ap (λ (b : Bool). head.closed && b) (le_true (length messages - (1 - 1)) count (omega (arith, all)))
      ∙ and_true head.closed

  pub ended_printed : FileLaws → (closed : Bool) → list_any is_empty messages ≡ false → head.closed ≡ closed →
      PrintsAll (dump_all count BlocksToEmpty) contents (blocks messages ++ end_mark closed)
  ended_printed laws closed none is =
      printed_all BlocksToEmpty (end_mark closed) none (ap end_mark (ends_as laws ∙ is))
