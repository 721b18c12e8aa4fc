-- Messages that are skipped one by one.
use Rattle.std.proofs.Common.{ℕ, ◌+◌, List, [], ◌∷◌, ◌++◌, flat_map, refl, sym, ap, ◌∙◌}
use Rattle.std.proofs.Common.{append_assoc, append-nil, arith}
use Rattle.std.proofs.lemmas.Grind.{flat_map-append}
use Rattle.std.proofs.lemmas.List.{length_push}
use Rattle.mold_wire.proofs.BlockLemmas.{each-append}
use Rattle.mold_index.specs.Scan.{AreMessagesAndRest, BeginsNoMessage, EndAfter, FindsMessage, IsMessageAndRest}

pub none_skipped : (spelling : List ℕ → List ℕ) (bytes : List ℕ) → AreMessagesAndRest spelling 0 bytes bytes
none_skipped spelling bytes = record { messages = []; counted = refl; each = tt; parts = refl }

pub one_skipped : (spelling : List ℕ → List ℕ) (count : ℕ) (bytes rest message more : List ℕ) →
    AreMessagesAndRest spelling count bytes rest → IsMessageAndRest spelling rest message more →
    AreMessagesAndRest spelling (count + 1) bytes more
one_skipped spelling count bytes rest message more are next = record {
  messages = are.messages ++ message ∷ [];
  counted = omega (arith, are.counted, length_push are.messages message);
  each = each-append are.messages message are.each next.fits;
  parts =
      are.parts
      ∙ ap (λ (t : List ℕ). flat_map spelling are.messages ++ t) next.parts
      ∙ sym (append_assoc (flat_map spelling are.messages) (spelling message) more)
      ∙ ap (λ (t : List ℕ). (flat_map spelling are.messages ++ t) ++ more) (sym (append-nil (spelling message)))
      ∙ ap (λ (t : List ℕ). t ++ more) (sym (flat_map-append spelling are.messages (message ∷ [])));
}

pub ends_after : (spelling : List ℕ → List ℕ) (count : ℕ) (bytes rest : List ℕ) →
    AreMessagesAndRest spelling count bytes rest → BeginsNoMessage spelling rest → EndAfter spelling count bytes
ends_after spelling count bytes rest are none = record { rest = rest; whole = are; none = none }

pub finds_after : (spelling : List ℕ → List ℕ) (skip : ℕ) (bytes next message rest : List ℕ) →
    AreMessagesAndRest spelling skip bytes next → IsMessageAndRest spelling next message rest →
    FindsMessage spelling skip bytes message rest
finds_after spelling skip bytes next message rest are found = record { next = next; skipped = are; found = found }

pub ruleset skipped = (none_skipped, one_skipped, ends_after, finds_after)
