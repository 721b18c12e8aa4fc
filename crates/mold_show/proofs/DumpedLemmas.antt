-- Which messages are printed, one message after another.
use Rattle.std.proofs.Common.{◌≡◌, ℕ, ◌+◌, ◌-◌, ◌<◌, ◌≤◌, Bool, true, false, nat_le, nat_lt, List, [], ◌∷◌, ◌++◌, length}
use Rattle.std.proofs.Common.{length-append, length-drop, take, drop, sym, ap, ◌∙◌, append_assoc, append-nil, arith}
use Rattle.std.proofs.Common.{◌⊎◌, ⊎_elim, inl, inr, refl, true≢false}
use Rattle.std.specs.Prelude.{◌&&◌, if◌then◌else◌}
use Rattle.std.specs.List.{list_any}
use Rattle.std.proofs.lemmas.Bool.{cases_lt}
use Rattle.std.proofs.lemmas.Bool.Decides.{nat_tests}
use Rattle.std.proofs.lemmas.List.{drop-append-le, take-append-le, take_all, drop_all}
use Rattle.std.proofs.lemmas.List.Concat.{flat_map-append}
use Rattle.mold_input.specs.declared.message_format.MessageFormat.{MessageFormat}
use Rattle.mold_input.specs.declared.message_format.MessageFormat.TheVariants.{Lines, Blocks, BlocksToEmpty}
use Rattle.mold_show.specs.Dump.{PassesNext, blocks_left, dumped, has_unprintable, is_dumped, is_empty, message_text}
use Rattle.mold_show.specs.Dump.{messages_text, messages_to_empty, next_text, plain_blocks, printable, printed}
use Rattle.mold_show.specs.declared.dump_options.DumpOptions.{DumpOptions}
use Rattle.mold_wire.specs.Block.{blocks}

pub le_true : (a b : ℕ) → a ≤ b → nat_le a b ≡ true
le_true a b holds = grind (arith, nat_tests)

le_false : (a b : ℕ) → b < a → nat_le a b ≡ false
le_false a b holds = grind (arith, nat_tests)

lt_true : (a b : ℕ) → a < b → nat_lt a b ≡ true
lt_true a b holds = grind (arith, nat_tests)

lt_false : (a b : ℕ) → b ≤ a → nat_lt a b ≡ false
lt_false a b holds = grind (arith, nat_tests)

not_first : (a b : Bool) → a ≡ false → a && b ≡ false
not_first a b one = ap (λ (x : Bool). x && b) one

-- Messages with one more, if that is to be printed.
more_if : Bool → List (List ℕ) → List ℕ → List (List ℕ)
more_if asked messages message = messages ++ (if asked then message ∷ [] else [])

taken_more : (count : ℕ) (messages : List (List ℕ)) (message : List ℕ) →
    take count (messages ++ message ∷ []) ≡ more_if (nat_lt (length messages) count) (take count messages) message
unfolding more_if
taken_more count messages message = ⊎_elim
    (λ within.
    take_all count (messages ++ message ∷ []) (omega (arith, within, length-append messages (message ∷ [])))
    ∙ ap (λ (t : List (List ℕ)). t ++ message ∷ []) (sym (take_all count messages (omega (arith, within))))
    ∙ ap (λ (b : Bool). take count messages ++ (if b then message ∷ [] else []))
    (sym (lt_true (length messages) count within)))
    (λ beyond.
    take-append-le count messages (message ∷ []) beyond
    ∙ sym (append-nil (take count messages))
    ∙ ap (λ (b : Bool). take count messages ++ (if b then message ∷ [] else []))
    (sym (lt_false (length messages) count beyond)))
    (cases_lt (length messages) count)

none_taken : (count : ℕ) → let none : List (List ℕ) = [] in take count none ≡ none
none_taken count = take_all count [] (omega arith)

dumped_more : (options : DumpOptions) (messages : List (List ℕ)) (message : List ℕ) →
    dumped options (messages ++ message ∷ [])
    ≡ more_if (is_dumped options (length messages)) (dumped options messages) message
unfolding more_if
dumped_more options messages message =
    let from = options.from in
    let count = options.count in
    ⊎_elim
    (λ above.
    ap (take count)
    (drop_all (from - 1) (messages ++ message ∷ []) (omega (arith, above, length-append messages (message ∷ []))))
    ∙ ap (take count) (sym (drop_all (from - 1) messages (omega (arith, above))))
    ∙ sym (append-nil (dumped options messages))
    ∙ ap (λ (b : Bool). dumped options messages ++ (if b then message ∷ [] else []))
    (sym (not_first (nat_le (from - 1) (length messages)) (nat_lt (length messages - (from - 1)) count)
    (le_false (from - 1) (length messages) above))))
    (λ within.
    ap (take count) (drop-append-le (from - 1) messages (message ∷ []) within)
    ∙ taken_more count (drop (from - 1) messages) message
    ∙ ap (λ (n : ℕ). more_if (nat_lt n count) (dumped options messages) message)
    (length-drop (from - 1) messages)
    ∙ ap (λ (b : Bool). more_if (b && nat_lt (length messages - (from - 1)) count) (dumped options messages) message)
    (sym (le_true (from - 1) (length messages) within)))
    (cases_lt (length messages) (from - 1))

texts_if : (format : MessageFormat) (asked : Bool) (messages : List (List ℕ)) (message : List ℕ) →
    messages_text format (more_if asked messages message)
    ≡ messages_text format messages ++ (if asked then message_text format message else [])
unfolding more_if
texts_if format true messages message =
    flat_map-append (message_text format) messages (message ∷ [])
    ∙ ap (λ (t : List ℕ). messages_text format messages ++ t) (append-nil (message_text format message))
texts_if format false messages message =
    ap (messages_text format) (append-nil messages) ∙ sym (append-nil (messages_text format messages))

pub texts_more : (options : DumpOptions) (messages : List (List ℕ)) (message : List ℕ) →
    messages_text options.format (dumped options (messages ++ message ∷ []))
    ≡ messages_text options.format (dumped options messages) ++ next_text options (length messages) message
texts_more options messages message =
    ap (messages_text options.format) (dumped_more options messages message)
    ∙ texts_if options.format (is_dumped options (length messages)) (dumped options messages) message

-- ---- messages that can be printed

any_front : (front more : List (List ℕ)) → list_any is_empty front ≡ false →
    list_any is_empty (front ++ more) ≡ list_any is_empty more
any_front [] more none = refl
any_front ([] ∷ front) more none = absurd (true≢false none)
any_front ((byte ∷ bytes) ∷ front) more none = any_front front more none

to_empty_front : (front more : List (List ℕ)) → list_any is_empty front ≡ false →
    messages_to_empty (front ++ more) ≡ front ++ messages_to_empty more
unfolding messages_to_empty
to_empty_front [] more none = refl
to_empty_front ([] ∷ front) more none = absurd (true≢false none)
to_empty_front ((byte ∷ bytes) ∷ front) more none =
    ap (λ (t : List (List ℕ)). (byte ∷ bytes) ∷ t) (to_empty_front front more none)

unprintable_front : (format : MessageFormat) (front more : List (List ℕ)) → has_unprintable format front ≡ false →
    has_unprintable format (front ++ more) ≡ has_unprintable format more
unprintable_front Lines front more none = refl
unprintable_front Blocks front more none = refl
unprintable_front BlocksToEmpty front more none = any_front front more none

printable_front : (format : MessageFormat) (front more : List (List ℕ)) → has_unprintable format front ≡ false →
    printable format (front ++ more) ≡ front ++ printable format more
printable_front Lines front more none = refl
printable_front Blocks front more none = refl
printable_front BlocksToEmpty front more none = to_empty_front front more none

unprintable_none : (format : MessageFormat) → has_unprintable format [] ≡ false
unprintable_none Lines = refl
unprintable_none Blocks = refl
unprintable_none BlocksToEmpty = refl

printable_none : (format : MessageFormat) → let none : List (List ℕ) = [] in printable format none ≡ none
unfolding messages_to_empty
printable_none Lines = refl
printable_none Blocks = refl
printable_none BlocksToEmpty = refl

-- If all messages can be printed, all are printed.
pub printable_all : (format : MessageFormat) (messages : List (List ℕ)) → has_unprintable format messages ≡ false →
    printable format messages ≡ messages
printable_all format messages none =
    ap (printable format) (sym (append-nil messages))
    ∙ printable_front format messages [] none
    ∙ ap (λ (t : List (List ℕ)). messages ++ t) (printable_none format)
    ∙ append-nil messages

passes_if : (format : MessageFormat) (asked : Bool) (messages : List (List ℕ)) (message : List ℕ) →
    has_unprintable format messages ≡ false → (asked ≡ true → has_unprintable format (message ∷ []) ≡ false) →
    has_unprintable format (more_if asked messages message) ≡ false
unfolding more_if
passes_if format true messages message none passes =
    unprintable_front format messages (message ∷ []) none ∙ passes refl
passes_if format false messages message none passes = ap (has_unprintable format) (append-nil messages) ∙ none

-- One more message was read, and it can be printed if it is asked for.
pub passes_more : (options : DumpOptions) (messages : List (List ℕ)) (message : List ℕ) →
    has_unprintable options.format (dumped options messages) ≡ false →
    PassesNext options (length messages) message →
    has_unprintable options.format (dumped options (messages ++ message ∷ [])) ≡ false
passes_more options messages message none passes =
    ap (has_unprintable options.format) (dumped_more options messages message)
    ∙ passes_if options.format (is_dumped options (length messages)) (dumped options messages) message none passes

-- ---- a prefix of the messages

-- The messages asked for of a prefix are a prefix of those of all messages.
record HasRest (options : DumpOptions) (front all : List (List ℕ)) : Type 0 where
  rest : List (List ℕ)
  parts : dumped options all ≡ dumped options front ++ rest

first_rest : (options : DumpOptions) (front extra : List (List ℕ)) → HasRest options front (front ++ extra)
unfolding more_if
first_rest options front [] = record {
  rest = [];
  parts = ap (dumped options) (append-nil front) ∙ sym (append-nil (dumped options front));
}
first_rest options front (message ∷ extra) =
    let others = first_rest options (front ++ message ∷ []) extra in
    let more : List (List ℕ) = if is_dumped options (length front) then message ∷ [] else [] in
    record {
      rest = more ++ others.rest;
      parts =
          ap (dumped options) (sym (append_assoc front (message ∷ []) extra))
          ∙ others.parts
          ∙ ap (λ (t : List (List ℕ)). t ++ others.rest) (dumped_more options front message)
          ∙ append_assoc (dumped options front) more others.rest;
    }

-- The bytes of a prefix of the messages, all of which can be printed, are a prefix of the bytes of all messages.
pub record HasTexts (options : DumpOptions) (front all : List (List ℕ)) : Type 0 where
  pub more : List ℕ
  pub texts : messages_text options.format (printed options all)
      ≡ messages_text options.format (dumped options front) ++ more

pub first_texts : (options : DumpOptions) (front extra : List (List ℕ)) →
    has_unprintable options.format (dumped options front) ≡ false → HasTexts options front (front ++ extra)
first_texts options front extra none =
    let others = first_rest options front extra in
    let format = options.format in
    record {
      more = messages_text format (printable format others.rest);
      texts =
          ap (λ (t : List (List ℕ)). messages_text format (printable format t)) others.parts
          ∙ ap (messages_text format) (printable_front format (dumped options front) others.rest none)
          ∙ flat_map-append (message_text format) (dumped options front) (printable format others.rest);
    }

dumped_none : (options : DumpOptions) → let none : List (List ℕ) = [] in dumped options none ≡ none
dumped_none options = ap (take options.count) (drop_all (options.from - 1) [] (omega arith)) ∙ none_taken options.count

pub no_texts : (options : DumpOptions) → messages_text options.format (dumped options []) ≡ []
no_texts options = ap (messages_text options.format) (dumped_none options)

pub none_pass : (options : DumpOptions) → has_unprintable options.format (dumped options []) ≡ false
none_pass options =
    ap (has_unprintable options.format) (dumped_none options) ∙ unprintable_none options.format

-- ---- an empty message that cannot be printed

-- What follows about the messages if an empty message that cannot be printed follows `front`.
pub record IsStopped (options : DumpOptions) (front all : List (List ℕ)) : Type 0 where
  pub printed : printed options all ≡ dumped options front
  pub stops : has_unprintable options.format (dumped options all) ≡ true

stopped_parts : (options : DumpOptions) (front all rest : List (List ℕ)) → options.format ≡ BlocksToEmpty →
    has_unprintable options.format (dumped options front) ≡ false →
    dumped options all ≡ dumped options front ++ [] ∷ rest → IsStopped options front all
unfolding messages_to_empty
stopped_parts options front all rest is none parts =
    let shown = dumped options front in
    record {
      printed =
          ap (printable options.format) parts
          ∙ printable_front options.format shown ([] ∷ rest) none
          ∙ ap (λ (f : MessageFormat). shown ++ printable f ([] ∷ rest)) is
          ∙ append-nil shown;
      stops =
          ap (has_unprintable options.format) parts
          ∙ unprintable_front options.format shown ([] ∷ rest) none
          ∙ ap (λ (f : MessageFormat). has_unprintable f ([] ∷ rest)) is;
    }

pub stopped : (options : DumpOptions) (front extra : List (List ℕ)) → options.format ≡ BlocksToEmpty →
    has_unprintable options.format (dumped options front) ≡ false → is_dumped options (length front) ≡ true →
    IsStopped options front ((front ++ [] ∷ []) ++ extra)
unfolding more_if
stopped options front extra is none asked =
    let others = first_rest options (front ++ [] ∷ []) extra in
    stopped_parts options front ((front ++ [] ∷ []) ++ extra) others.rest is none
    (others.parts
    ∙ ap (λ (t : List (List ℕ)). t ++ others.rest) (dumped_more options front [])
    ∙ ap (λ (b : Bool). (dumped options front ++ (if b then [] ∷ [] else [])) ++ others.rest) asked
    ∙ append_assoc (dumped options front) ([] ∷ []) others.rest)

both_true : (a b : Bool) → a && b ≡ true → (a ≡ true) × (b ≡ true)
both_true true b both = (refl, both)
both_true false b both = absurd (true≢false (sym both))

true_le : (a b : ℕ) → nat_le a b ≡ true → a ≤ b
true_le a b holds = grind (arith, nat_tests)

true_lt : (a b : ℕ) → nat_lt a b ≡ true → a < b
true_lt a b holds = grind (arith, nat_tests)

-- The number of a message that is asked for.
pub number_asked : (options : DumpOptions) (front : List (List ℕ)) → is_dumped options (length front) ≡ true →
    options.from - 1 + 1 + length (dumped options front) ≡ length front + 1
number_asked options front asked =
    let both = both_true (nat_le (options.from - 1) (length front))
    (nat_lt (length front - (options.from - 1)) options.count) asked in
    let after = true_le (options.from - 1) (length front) both.0 in
    let within = true_lt (length front - (options.from - 1)) options.count both.1 in
    let all : dumped options front ≡ drop (options.from - 1) front =
    take_all options.count (drop (options.from - 1) front) (omega (arith, within, length-drop (options.from - 1) front)) in
    omega (arith, after, ap length all, length-drop (options.from - 1) front)

-- ---- messages that are printed as the blocks that the file has

none_of : (messages : List (List ℕ)) → length messages ≤ 0 → messages ≡ []
none_of [] few = refl
none_of (message ∷ messages) few = absurd (omega (arith, few))

-- Only plain blocks permit messages to be printed as the file's blocks.
permitted : (format : MessageFormat) (started : Bool) (count : ℕ) (more : List (List ℕ)) →
    length more ≤ plain_blocks format started count →
    (more ≡ []) ⊎ ((format ≡ Blocks) × ((started ≡ true) × (length more ≤ count)))
permitted Lines started count more few = inl (none_of more few)
permitted Blocks true count more few = inr (refl, (refl, few))
permitted Blocks false count more few = inl (none_of more few)
permitted BlocksToEmpty started count more few = inl (none_of more few)

-- All these messages are asked for.
dumped_all : (options : DumpOptions) (messages more : List (List ℕ)) → options.from - 1 ≤ length messages →
    length messages - (options.from - 1) + length more ≤ options.count →
    dumped options (messages ++ more) ≡ dumped options messages ++ more
dumped_all options messages more started few =
    let skipped = options.from - 1 in
    let asked = drop skipped messages in
    let long : length asked ≡ length messages - skipped = length-drop skipped messages in
    ap (take options.count) (drop-append-le skipped messages more started)
    ∙ take_all options.count (asked ++ more) (omega (arith, length-append asked more, long, few))
    ∙ ap (λ (t : List (List ℕ)). t ++ more) (sym (take_all options.count asked (omega (arith, long, few))))

-- What follows if the blocks of `more` are appended to the output.
pub record ArePrinted (options : DumpOptions) (messages more : List (List ℕ)) : Type 0 where
  pub passes : has_unprintable options.format (dumped options (messages ++ more)) ≡ false
  pub texts : messages_text options.format (dumped options (messages ++ more))
      ≡ messages_text options.format (dumped options messages) ++ blocks more

no_more : (options : DumpOptions) (messages more : List (List ℕ)) →
    has_unprintable options.format (dumped options messages) ≡ false → more ≡ [] → ArePrinted options messages more
no_more options messages more none is =
    let same : messages ++ more ≡ messages = ap (λ (t : List (List ℕ)). messages ++ t) is ∙ append-nil messages in
    let texts = messages_text options.format (dumped options messages) in
    record {
      passes = ap (λ (t : List (List ℕ)). has_unprintable options.format (dumped options t)) same ∙ none;
      texts =
          ap (λ (t : List (List ℕ)). messages_text options.format (dumped options t)) same
          ∙ sym (append-nil texts)
          ∙ ap (λ (t : List (List ℕ)). texts ++ blocks t) (sym is);
    }

all_more : (options : DumpOptions) (messages more : List (List ℕ)) → options.format ≡ Blocks →
    dumped options (messages ++ more) ≡ dumped options messages ++ more → ArePrinted options messages more
all_more options messages more is asked =
    let shown = dumped options messages in
    record {
      passes = ap (λ (f : MessageFormat). has_unprintable f (dumped options (messages ++ more))) is;
      texts =
          ap (messages_text options.format) asked
          ∙ flat_map-append (message_text options.format) shown more
          ∙ ap (λ (f : MessageFormat). messages_text options.format shown ++ messages_text f more) is;
    }

some_more : (options : DumpOptions) (messages more : List (List ℕ)) → options.format ≡ Blocks →
    options.from - 1 ≤ length messages → length more ≤ options.count - (length messages - (options.from - 1)) →
    has_unprintable options.format (dumped options messages) ≡ false → ArePrinted options messages more
some_more options messages [] is started few none = no_more options messages [] none refl
some_more options messages (message ∷ more) is started few none =
    all_more options messages (message ∷ more) is
    (dumped_all options messages (message ∷ more) started (omega (arith, few)))

-- Blocks that the file has were appended to the output.
pub printed_blocks : (options : DumpOptions) (messages more : List (List ℕ)) →
    length more ≤ blocks_left options (length messages) →
    has_unprintable options.format (dumped options messages) ≡ false → ArePrinted options messages more
printed_blocks options messages more few none =
    let count = options.count - (length messages - (options.from - 1)) in
    ⊎_elim
    (λ is. no_more options messages more none is)
    (λ blocks_asked.
    some_more options messages more blocks_asked.0
    (true_le (options.from - 1) (length messages) blocks_asked.1.0) blocks_asked.1.1 none)
    (permitted options.format (nat_le (options.from - 1) (length messages)) count more few)
