-- The messages at the start of some bytes are unique.
use Rattle.std.proofs.Common.{◌≡◌, ℕ, zero, suc, ◌<◌, ◌≤◌, List, [], ◌∷◌, ◌++◌, length, drop, flat_map, sym, ap}
use Rattle.std.proofs.Common.{◌∙◌, append_assoc, inl, inr, arith}
use Rattle.std.proofs.lemmas.Bool.{cases_lt}
use Rattle.std.proofs.lemmas.List.{drop_all, length-drop}
use Rattle.std.specs.List.{AllByRecursion}
use Rattle.mold_wire.specs.Block.{IsMessage}
use Rattle.mold_session.specs.Loading.{message_spelling}
use Rattle.mold_session.specs.declared.file_version.FileVersion.{FileVersion}
use Rattle.mold_session.specs.declared.file_version.FileVersion.TheVariants.{One, Two, Three}
use Rattle.mold_session.proofs.FileLawLemmas.{SameBlock, block_here}
use Rattle.mold_index.specs.Scan.{EndAfter, FindsMessage, IsMessageAndRest}
use Rattle.mold_index.proofs.ScanLemmas.{one_skipped}

-- Two messages at the start of the same bytes are the same, and so are the bytes after them.
same_message : (version : FileVersion) (one other more rest : List ℕ) → IsMessage one → IsMessage other →
    message_spelling version one ++ more ≡ message_spelling version other ++ rest → SameBlock one other more rest
same_message One one other more rest fits also same =
    block_here one other more rest (omega (arith, fits)) (omega (arith, also)) same
same_message (Two count) one other more rest fits also same =
    block_here one other more rest (omega (arith, fits)) (omega (arith, also)) same
same_message Three one other more rest fits also same =
    block_here one other more rest (omega (arith, fits)) (omega (arith, also)) (ap (λ (t : List ℕ). drop 2 t) same)

-- The bytes after the first messages are the others, and what follows them.
skipped_are : (version : FileVersion) (before messages : List (List ℕ)) (more rest : List ℕ) →
    AllByRecursion IsMessage before → AllByRecursion IsMessage messages → length before ≤ length messages →
    flat_map (message_spelling version) before ++ more ≡ flat_map (message_spelling version) messages ++ rest →
    more ≡ flat_map (message_spelling version) (drop (length before) messages) ++ rest
skipped_are version [] messages more rest each also few same = same
skipped_are version (first ∷ before) [] more rest each also few same = absurd (omega (arith, few))
skipped_are version (first ∷ before) (message ∷ messages) more rest each also few same =
    let spelling = message_spelling version in
    let is = same_message version first message (flat_map spelling before ++ more) (flat_map spelling messages ++ rest)
    each.0 also.0
    (sym (append_assoc (spelling first) (flat_map spelling before) more)
    ∙ same
    ∙ append_assoc (spelling message) (flat_map spelling messages) rest) in
    skipped_are version before messages more rest each.1 also.1 (omega (arith, few)) is.behind

each_drop : (k : ℕ) (messages : List (List ℕ)) → AllByRecursion IsMessage messages →
    AllByRecursion IsMessage (drop k messages)
each_drop zero messages each = each
each_drop (suc k) [] each = tt
each_drop (suc k) (message ∷ messages) each = each_drop k messages each.1

pub one_found : (version : FileVersion) (skip : ℕ) (bytes one other rest more : List ℕ) →
    FindsMessage (message_spelling version) skip bytes one rest →
    FindsMessage (message_spelling version) skip bytes other more → (one ≡ other) × (rest ≡ more)
one_found version skip bytes one other rest more finds also =
    let a = finds.skipped in
    let b = also.skipped in
    let next : finds.next
    ≡ flat_map (message_spelling version) (drop (length a.messages) b.messages) ++ also.next =
    skipped_are version a.messages b.messages finds.next also.next a.each b.each (omega (arith, a.counted, b.counted))
    (sym a.parts ∙ b.parts) in
    let none : drop (length a.messages) b.messages ≡ [] =
    drop_all (length a.messages) b.messages (omega (arith, a.counted, b.counted)) in
    let same : finds.next ≡ also.next =
    next ∙ ap (λ (t : List (List ℕ)). flat_map (message_spelling version) t ++ also.next) none in
    let is = same_message version one other rest more finds.found.fits also.found.fits
    (sym finds.found.parts ∙ same ∙ also.found.parts) in
    (is.message, is.behind)

-- A list that is not empty begins with an element.
begins_by : (version : FileVersion) (messages : List (List ℕ)) (bytes rest : List ℕ) → 0 < length messages →
    AllByRecursion IsMessage messages → bytes ≡ flat_map (message_spelling version) messages ++ rest →
    (message more : List ℕ) × IsMessageAndRest (message_spelling version) bytes message more
begins_by version [] bytes rest some each parts = absurd (omega (arith, some))
begins_by version (message ∷ messages) bytes rest some each parts = (
  message,
  flat_map (message_spelling version) messages ++ rest,
  record {
    fits = each.0;
    parts =
        parts
        ∙ append_assoc (message_spelling version message) (flat_map (message_spelling version) messages) rest;
  },
)

pub no_end : (version : FileVersion) (skip count : ℕ) (bytes message rest : List ℕ) →
    FindsMessage (message_spelling version) skip bytes message rest →
    EndAfter (message_spelling version) count bytes → skip < count
no_end version skip count bytes message rest finds end =
    elim (cases_lt skip count) [
      | inl before ↦ before
      | inr past ↦
          let all = one_skipped (message_spelling version) skip bytes finds.next message rest finds.skipped finds.found in
          let first = end.whole in
          let parts = skipped_are version first.messages all.messages end.rest rest first.each all.each
          (omega (arith, first.counted, all.counted, past)) (sym first.parts ∙ all.parts) in
          let long : 0 < length (drop (length first.messages) all.messages) =
          omega (arith, length-drop (length first.messages) all.messages, first.counted, all.counted, past) in
          let (one, more, is) = begins_by version (drop (length first.messages) all.messages) end.rest rest long
          (each_drop (length first.messages) all.messages all.each) parts in
          absurd (end.none one more is)
    ]
