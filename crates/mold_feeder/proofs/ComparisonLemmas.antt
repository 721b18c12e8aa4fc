-- The entries of an input that are compared one by one.
use Rattle.std.proofs.Common.{◌≡◌, ℕ, zero, suc, ◌+◌, ◌-◌, ◌≤◌, cond, Bool, true, false, nat_lt, List, [], ◌∷◌, ◌++◌, length}
use Rattle.std.proofs.Common.{map, take, Option, None, Some, Ok, Err, refl, sym, subst, ap, ◌∙◌, append_assoc, arith}
use Rattle.std.proofs.lemmas.List.{map-append}
use Rattle.std.proofs.lemmas.Slice.Eq.{bytes_eq-Decides}
use Rattle.std.specs.Prelude.{⊤, IfErr, Result}
use Rattle.std.specs.List.{slice_get}
use Rattle.std.specs.Str.{bytes_eq}
use Rattle.mold_input.specs.Entries.{Entry}
use Rattle.mold_publish.specs.declared.refusal_reason.RefusalReason.{RefusalReason}
use Rattle.mold_session.specs.Journal.{JournalState, message_numbered}
use Rattle.mold_feeder.specs.Comparison.{ComparesAll, ComparesFirst, ComparesNext, StopsAt, compared_entry}
use Rattle.mold_feeder.specs.Comparison.{IsDeviceFault, compared_with, number_after}
use Rattle.mold_feeder.specs.JournalMessages.{IsOfDevice}
use Rattle.mold_feeder.specs.declared.compare_fault.CompareFault.{CompareFault}
use Rattle.mold_feeder.specs.declared.compare_fault.CompareFault.TheVariants.{File}
use Rattle.mold_session.specs.declared.error.FileError.{FileError}
use Rattle.mold_feeder.specs.declared.compared.Compared.{Compared}
use Rattle.mold_feeder.specs.declared.compared.Compared.TheVariants.{Same, Differs, Refused, End}

-- ---- one entry

same_bytes : (is : Bool) (other message : List ℕ) → bytes_eq other message ≡ is → cond is Same Differs ≡ Same →
    other ≡ message
same_bytes true other message is same = (bytes_eq-Decides other message).0 is
same_bytes false other message is same = absurd (cc)

same_with : (other : Option (List ℕ)) (message : List ℕ) → compared_with other message ≡ Same → other ≡ Some message
same_with None message same = absurd (cc)
same_with (Some other) message same = ap Some (same_bytes (bytes_eq other message) other message refl same)

same_short : (long : Bool) (why : RefusalReason) (other : Option (List ℕ)) (message : List ℕ) →
    cond long (Refused why) (compared_with other message) ≡ Same → other ≡ Some message
same_short true why other message same = absurd (cc)
same_short false why other message same = same_with other message same

-- An entry that is the same as the journal's message is that message.
pub record IsSame (journal : JournalState) (number : ℕ) (entry : Entry) : Type 0 where
  pub message : List ℕ
  pub is : entry ≡ Ok message
  pub there : message_numbered journal.messages number ≡ Some message

is_same : (journal : JournalState) (number : ℕ) (entry : Entry) → compared_entry journal number entry ≡ Same →
    IsSame journal number entry
is_same journal number (Err why) same = absurd (cc)
is_same journal number (Ok message) same = record {
  message = message;
  is = refl;
  there = same_short (nat_lt journal.max_message (length message)) _ (message_numbered journal.messages number) message same;
}

-- ---- the messages up to a number

take_next : (messages : List (List ℕ)) (index : ℕ) (message : List ℕ) → slice_get messages index ≡ Some message →
    take (suc index) messages ≡ take index messages ++ message ∷ []
take_next [] index message there = absurd (cc)
take_next (first ∷ rest) zero message there = ap (λ (m : List ℕ). m ∷ []) (cc)
take_next (first ∷ rest) (suc index) message there =
    ap (λ (ms : List (List ℕ)). first ∷ ms) (take_next rest index message there)

pub numbered_next : (messages : List (List ℕ)) (number : ℕ) (message : List ℕ) → 1 ≤ number →
    message_numbered messages number ≡ Some message →
    take (number + 1 - 1) messages ≡ take (number - 1) messages ++ message ∷ []
numbered_next messages zero message some there = absurd (omega (arith, some))
numbered_next messages (suc index) message some there =
    let first : suc index + 1 - 1 ≡ suc index = omega arith in
    let second : suc index - 1 ≡ index = omega arith in
    rw first (rw second (take_next messages index message there))

-- ---- all entries

-- The entries so far are the journal's messages up to number `at`, and `left` remain.
abbrev pub SoFar : JournalState → ℕ → ℕ → Option (List Entry) → Option (List Entry) → Type 0
SoFar journal from at None left = ⊤
SoFar journal from at (Some entries) None = ⊥
SoFar journal from at (Some entries) (Some left) =
    map Ok (take (from - 1) journal.messages) ++ entries ≡ map Ok (take (at - 1) journal.messages) ++ left

pub compared_nothing : (journal : JournalState) (from : ℕ) (known : Option (List Entry)) → SoFar journal from from known known
compared_nothing journal from None = tt
compared_nothing journal from (Some entries) = refl

one_more : (journal : JournalState) (from at : ℕ) (all entries left : List Entry) → 1 ≤ at →
    map Ok (take (from - 1) journal.messages) ++ all ≡ map Ok (take (at - 1) journal.messages) ++ entries →
    ComparesFirst journal at entries left Same →
    map Ok (take (from - 1) journal.messages) ++ all ≡ map Ok (take (at + 1 - 1) journal.messages) ++ left
one_more journal from at all [] left some so_far first = absurd (cc)
one_more journal from at all (entry ∷ entries) left some so_far first =
    let one = is_same journal at entry (sym first.0) in
    let front = take (at - 1) journal.messages in
    so_far
    ∙ ap (λ (e : Entry). map Ok front ++ e ∷ entries) one.is
    ∙ sym (append_assoc (map Ok front) (Ok one.message ∷ []) entries)
    ∙ ap (λ (es : List Entry). es ++ entries) (sym (map-append Ok front (one.message ∷ [])))
    ∙ ap (λ (ms : List (List ℕ)). map Ok ms ++ entries) (sym (numbered_next journal.messages at one.message some one.there))
    ∙ ap (λ (es : List Entry). map Ok (take (at + 1 - 1) journal.messages) ++ es) (sym first.1)

pub compared_more : (journal : JournalState) (from at : ℕ) (known mid left : Option (List Entry)) → 1 ≤ at →
    SoFar journal from at known mid → ComparesNext journal at mid left Same → SoFar journal from (at + 1) known left
compared_more journal from at None mid left some so_far next = tt
compared_more journal from at (Some all) None left some so_far next = absurd so_far
compared_more journal from at (Some all) (Some entries) None some so_far next = absurd next
compared_more journal from at (Some all) (Some entries) (Some left) some so_far next =
    one_more journal from at all entries left some so_far next

-- A fault of the file that is passed on.
pub file_fault : {T : Type 0} (result : Result T CompareFault) (error : FileError) →
    ((x : CompareFault) × (result ≡ Err x) × (x ≡ File error)) → IsOfDevice error → IfErr result IsDeviceFault
file_fault {T} result error found is =
    subst (λ (r : Result T CompareFault). IfErr r IsDeviceFault) (sym found.1)
    (subst IsDeviceFault (sym found.2) is)

pub same_fault : {T : Type 0} (result : Result T CompareFault) (fault : CompareFault) →
    ((x : CompareFault) × (result ≡ Err x) × (x ≡ fault)) → IsDeviceFault fault → IfErr result IsDeviceFault
same_fault {T} result fault found is =
    subst (λ (r : Result T CompareFault). IfErr r IsDeviceFault) (sym found.1) (subst IsDeviceFault (sym found.2) is)

-- The number of the message at which a comparison stops.
pub number_kept : (compared : Compared) (number : ℕ) → (compared ≡ Same → ⊥) → number_after compared number ≡ number
number_kept Same number other = absurd (other refl)
number_kept Differs number other = refl
number_kept (Refused why) number other = refl
number_kept End number other = refl

-- All messages were compared.
pub compared_whole : (journal : JournalState) (from at : ℕ) (known left : Option (List Entry)) →
    SoFar journal from at known left → at ≡ length journal.messages + 1 → ComparesAll journal from at known left Same
compared_whole journal from at None left so_far all = tt
compared_whole journal from at (Some entries) None so_far all = absurd so_far
compared_whole journal from at (Some entries) (Some left) so_far all =
    record { mid = left; same = so_far; stops = (all, refl) }

stops_at : (journal : JournalState) (at : ℕ) (entries left : List Entry) (compared : Compared) → (compared ≡ Same → ⊥) →
    ComparesFirst journal at entries left compared → StopsAt journal at entries left compared
stops_at journal at entries left Same other first = absurd (other refl)
stops_at journal at entries left Differs other first = first
stops_at journal at entries left (Refused why) other first = first
stops_at journal at entries left End other first = first

-- An entry is not the journal's message.
pub compared_other : (journal : JournalState) (from at : ℕ) (known mid left : Option (List Entry)) (compared : Compared) →
    (compared ≡ Same → ⊥) → SoFar journal from at known mid → ComparesNext journal at mid left compared →
    ComparesAll journal from at known left compared
compared_other journal from at None mid left compared other so_far next = tt
compared_other journal from at (Some all) None left compared other so_far next = absurd so_far
compared_other journal from at (Some all) (Some entries) None compared other so_far next = absurd next
compared_other journal from at (Some all) (Some entries) (Some left) compared other so_far next =
    record { mid = entries; same = so_far; stops = stops_at journal at entries left compared other next }
