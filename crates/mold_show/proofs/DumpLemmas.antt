-- What was written of the messages of a file.
use Rattle.std.proofs.Common.{◌≡◌, ℕ, ◌≤◌, false, length}
use Rattle.std.proofs.Common.{List, [], ◌∷◌, ◌++◌, Option, None, Some}
use Rattle.std.proofs.Common.{refl, sym, ap, subst, ◌∙◌, append_assoc}
use Rattle.std.specs.Prelude.{IfSome}
use Rattle.std.specs.Io.KnownBytes.{Appends, prepend_known}
use Rattle.std.proofs.KnownBytes.{Appends-nil, Appends-trans}
use Rattle.mold_devices.specs.Devices.{AppendsPrefix}
use Rattle.mold_devices.specs.Writing.{Moves}
use Rattle.mold_session.specs.Contents.{FileContents, Gives, IsFront}
use Rattle.mold_session.specs.Loading.{Refuses, SpellsFile}
use Rattle.mold_session.specs.Reader.{EndsWith, HasRead, PassesBlocks, ReaderState, ReadsNext, RestFault, TakesBlocks}
use Rattle.mold_session.specs.declared.error.FileError.{FileError}
use Rattle.mold_session.specs.declared.loading.FileHead.{FileHead}
use Rattle.mold_show.specs.Dump.{PassesNext, blocks_left, dump_errors}
use Rattle.mold_show.specs.Dump.{dump_text, dumped}
use Rattle.mold_show.specs.Dump.{ends_session, fault_of}
use Rattle.mold_show.specs.Dump.{has_unprintable, last_text, messages_text, next_text, printed}
use Rattle.mold_show.specs.declared.dump_options.DumpOptions.{DumpOptions}
use Rattle.mold_show.proofs.DumpedLemmas.{first_texts, no_texts, none_pass, passes_more, printed_blocks}
use Rattle.mold_show.proofs.DumpedLemmas.{texts_more}
use Rattle.mold_wire.specs.Block.{blocks}
use Rattle.mold_wire.specs.declared.block.TheConstants.{MAX_MESSAGE}

-- ---- what was written so far

-- A part of the bytes of these messages was written, and the rest is gathered. The messages are a prefix of the
-- file's messages, and those asked for can all be printed.
pub record Gathered (options : DumpOptions) (known old now : Option (List ℕ)) (messages : List (List ℕ))
    (text : List ℕ) : Type 0 where
  pub first : IfSome known (λ bytes. (contents : FileContents bytes) → IsFront messages contents.messages)
  pub passes : has_unprintable options.format (dumped options messages) ≡ false
  pub written : List ℕ
  pub sent : Appends old now written
  pub parts : messages_text options.format (dumped options messages) ≡ written ++ text

-- The messages were read by the reader, and their bytes are written or gathered.
pub record Dumping (options : DumpOptions) (known left old now : Option (List ℕ)) (reader : ReaderState)
    (text : List ℕ) : Type 0 where
  pub messages : List (List ℕ)
  pub read : HasRead known left reader messages
  pub gathered : Gathered options known old now messages text

-- The law of mold_session that bytes are the file of at most one journal.
pub record FileLaws : Type 0 where
  pub one_file : (head other : FileHead) (messages others : List (List ℕ)) (bytes : List ℕ) →
      SpellsFile head messages head.version bytes → SpellsFile other others other.version bytes →
      (head.session ≡ other.session) × (messages ≡ others) × (head.closed ≡ other.closed)

-- The laws of mold_session about a reader and about files.
pub record ReaderLaws : Type 0 where
  pub one : (bytes : List ℕ) (one other : FileContents bytes) →
      (one.messages ≡ other.messages) × (one.fault ≡ other.fault)
  pub next : (known left after : Option (List ℕ)) (reader next : ReaderState) (messages : List (List ℕ)) →
      HasRead known left reader messages → ReadsNext left after reader next →
      HasRead known after next (messages ++ next.message ∷ [])
  pub blocks : (known left : Option (List ℕ)) (reader next : ReaderState) (limit : ℕ)
      (messages more : List (List ℕ)) → HasRead known (prepend_known reader.rest left) reader messages →
      PassesBlocks limit reader next more → HasRead known (prepend_known next.rest left) next (messages ++ more)
  pub refused : (known left : Option (List ℕ)) (reader : ReaderState) (messages : List (List ℕ))
      (error : FileError) → HasRead known left reader messages →
      Refuses (RestFault MAX_MESSAGE reader.head.version reader.count) left error →
      Refuses (λ bytes why. Gives bytes messages (Some why)) known error
  pub front : (known left : Option (List ℕ)) (reader : ReaderState) (messages : List (List ℕ)) →
      HasRead known left reader messages →
      IfSome known (λ bytes. (contents : FileContents bytes) → IsFront messages contents.messages)
  pub file : (known left : Option (List ℕ)) (reader : ReaderState) (messages : List (List ℕ)) (head : FileHead) →
      HasRead known left reader messages → EndsWith left reader head →
      IfSome known (λ bytes. SpellsFile head messages head.version bytes)
  pub files : FileLaws

none_first : (known : Option (List ℕ)) →
    IfSome known (λ bytes. (contents : FileContents bytes) → IsFront [] contents.messages)
none_first None = tt
none_first (Some bytes) = λ contents. record { extra = contents.messages; longer = refl }

-- No message was read yet.
pub gathered_none : (options : DumpOptions) (known old : Option (List ℕ)) (text : List ℕ) → text ≡ [] →
    Gathered options known old old [] text
gathered_none options known old text none = record {
  first = none_first known;
  passes = none_pass options;
  written = [];
  sent = Appends-nil old;
  parts = no_texts options ∙ sym none;
}

pub dumping_none : (options : DumpOptions) (known left old : Option (List ℕ)) (reader : ReaderState) (text : List ℕ) →
    HasRead known left reader [] → text ≡ [] → Dumping options known left old old reader text
dumping_none options known left old reader text read none =
    record { messages = []; read = read; gathered = gathered_none options known old text none }

-- One more message was read.
pub dumping_more : ReaderLaws → (options : DumpOptions) (known left after old now : Option (List ℕ))
    (reader next : ReaderState) (text more : List ℕ) → Dumping options known left old now reader text →
    ReadsNext left after reader next → more ≡ text ++ next_text options reader.count next.message →
    PassesNext options reader.count next.message → Dumping options known after old now next more
dumping_more laws options known left after old now reader next text more so_far reads added passes =
    let messages = so_far.messages in
    let read = laws.next known left after reader next messages so_far.read reads in
    let texts = messages_text options.format (dumped options messages) in
    let written = so_far.gathered.written in
    let last = next_text options reader.count next.message in
    record {
      messages = messages ++ next.message ∷ [];
      read = read;
      gathered = record {
        first = laws.front known after next (messages ++ next.message ∷ []) read;
        passes = passes_more options messages next.message so_far.gathered.passes
            (subst (λ (n : ℕ). PassesNext options n next.message) so_far.read.counted passes);
        written = written;
        sent = so_far.gathered.sent;
        parts =
            texts_more options messages next.message
            ∙ ap (λ (n : ℕ). texts ++ next_text options n next.message) (sym so_far.read.counted)
            ∙ ap (λ (t : List ℕ). t ++ last) so_far.gathered.parts
            ∙ append_assoc written text last
            ∙ ap (λ (t : List ℕ). written ++ t) (sym added);
      };
    }

-- Blocks that the file has were taken.
pub dumping_blocks : ReaderLaws → (options : DumpOptions) (known left old now : Option (List ℕ))
    (reader next : ReaderState) (text more : List ℕ) →
    Dumping options known (prepend_known reader.rest left) old now reader text →
    TakesBlocks (blocks_left options reader.count) reader next text more →
    Dumping options known (prepend_known next.rest left) old now next more
dumping_blocks laws options known left old now reader next text more so_far takes =
    let messages = so_far.messages in
    let taken = takes.messages in
    let after = prepend_known next.rest left in
    let read = laws.blocks known left reader next (blocks_left options reader.count) messages taken so_far.read
    takes.passes in
    let shown = printed_blocks options messages taken
    (subst (λ (n : ℕ). length taken ≤ blocks_left options n) so_far.read.counted takes.passes.few)
    so_far.gathered.passes in
    let written = so_far.gathered.written in
    record {
      messages = messages ++ taken;
      read = read;
      gathered = record {
        first = laws.front known after next (messages ++ taken) read;
        passes = shown.passes;
        written = written;
        sent = so_far.gathered.sent;
        parts =
            shown.texts
            ∙ ap (λ (t : List ℕ). t ++ blocks taken) so_far.gathered.parts
            ∙ append_assoc written text (blocks taken)
            ∙ ap (λ (t : List ℕ). written ++ t) (sym takes.appended);
      };
    }

-- A prefix of the gathered text was sent, and the rest is still gathered.
pub dumping_moved : (options : DumpOptions) (known left old mid now : Option (List ℕ)) (reader : ReaderState)
    (text rest : List ℕ) → Dumping options known left old mid reader text → Moves mid now text rest →
    Dumping options known left old now reader rest
dumping_moved options known left old mid now reader text rest so_far moves =
    let gathered = so_far.gathered in
    record {
      messages = so_far.messages;
      read = so_far.read;
      gathered = record {
        first = gathered.first;
        passes = gathered.passes;
        written = gathered.written ++ moves.front;
        sent = Appends-trans old mid now gathered.written moves.front gathered.sent moves.appended;
        parts =
            gathered.parts
            ∙ ap (λ (t : List ℕ). gathered.written ++ t) moves.parts
            ∙ sym (append_assoc gathered.written moves.front rest);
      };
    }

-- ---- a prefix of the text

pub front_more : (old new : Option (List ℕ)) (text more all : List ℕ) → all ≡ text ++ more →
    AppendsPrefix old new text → AppendsPrefix old new all
front_more old new text more all is begun = record {
  front = begun.front;
  rest = begun.rest ++ more;
  parts = is ∙ ap (λ (t : List ℕ). t ++ more) begun.parts ∙ append_assoc begun.front begun.rest more;
  appended = begun.appended;
}

pub front_after : (old mid new : Option (List ℕ)) (text more : List ℕ) → Appends old mid text → AppendsPrefix mid new more →
    AppendsPrefix old new (text ++ more)
front_after old mid new text more sent begun = record {
  front = text ++ begun.front;
  rest = begun.rest;
  parts = ap (λ (t : List ℕ). text ++ t) begun.parts ∙ sym (append_assoc text begun.front begun.rest);
  appended = Appends-trans old mid new text begun.front sent begun.appended;
}

-- Nothing was written, which is a prefix of any text.
pub nothing_written : (old : Option (List ℕ)) (text : List ℕ) → AppendsPrefix old old text
nothing_written old text = record { front = []; rest = text; parts = refl; appended = Appends-nil old }

pub texts_front : (options : DumpOptions) (bytes : List ℕ) (old mid new : Option (List ℕ)) (messages : List (List ℕ))
    (text : List ℕ) (contents : FileContents bytes) → Gathered options (Some bytes) old mid messages text →
    AppendsPrefix mid new text → AppendsPrefix old new (dump_text options contents)
texts_front options bytes old mid new messages text contents gathered begun =
    let first = gathered.first contents in
    let texts = first_texts options messages first.extra gathered.passes in
    let last = last_text options.format (fault_of options contents) (ends_session options contents) in
    let shown = messages_text options.format (dumped options messages) in
    front_more old new (gathered.written ++ text) (texts.more ++ last) (dump_text options contents)
    (ap (λ (t : List (List ℕ)). messages_text options.format (printed options t) ++ last) first.longer
    ∙ ap (λ (t : List ℕ). t ++ last) texts.texts
    ∙ append_assoc shown texts.more last
    ∙ ap (λ (t : List ℕ). t ++ (texts.more ++ last)) gathered.parts)
    (front_after old mid new gathered.written text gathered.sent begun)

-- A prefix of the gathered text was written.
pub gathered_front : (options : DumpOptions) (known old mid new : Option (List ℕ)) (messages : List (List ℕ))
    (text : List ℕ) → Gathered options known old mid messages text → AppendsPrefix mid new text →
    IfSome known (λ bytes. (contents : FileContents bytes) → AppendsPrefix old new (dump_text options contents))
gathered_front options None old mid new messages text gathered begun = tt
gathered_front options (Some bytes) old mid new messages text gathered begun =
    λ contents. texts_front options bytes old mid new messages text contents gathered begun

-- Nothing was written to the errors yet.
pub unsent_errors : (options : DumpOptions) (known old new : Option (List ℕ)) → new ≡ old →
    IfSome known (λ bytes. (contents : FileContents bytes) → AppendsPrefix old new (dump_errors options contents))
unsent_errors options None old new is = tt
unsent_errors options (Some bytes) old new is = λ contents.
    subst (λ (n : Option (List ℕ)). AppendsPrefix old n (dump_errors options contents)) (sym is)
    (nothing_written old (dump_errors options contents))
