-- The plan's next packet, packed from a piece of a file.
use Rattle.std.proofs.Common.{◌≡◌, inl, inr, ℕ, ◌+◌, ◌-◌, ◌<◌, ◌≤◌, List, [], ◌∷◌, ◌++◌, length, take, drop, get_or}
use Rattle.std.proofs.Common.{refl}
use Rattle.std.proofs.Common.{sym, ap, ap₂, subst, ◌∙◌, arith}
use Rattle.std.proofs.lemmas.List.{drop_more, length-drop, take-append-drop}
use Rattle.mold_wire.specs.Packer.{Begun, HasRoom, Open, PackerState}
use Rattle.mold_wire.specs.Packing.{Fits}
use Rattle.mold_session.proofs.FrontLemmas.{Alone, OnlyFront, SomeFront}
use Rattle.mold_session.proofs.PackingLemmas.{OneMore, Stops}
use Rattle.mold_session.proofs.ServingLemmas.{packed_next}
use Rattle.mold_session.specs.Answer.{IsPlan, PlanState}
use Rattle.mold_session.specs.Journal.{IsJournal, JournalState}
use Rattle.mold_session.specs.Loading.{message_spelling}
use Rattle.mold_session.specs.Serving.{HasPackedNext, MayPack}
use Rattle.mold_session.specs.declared.file_version.FileVersion.{FileVersion}
use Rattle.mold_index.specs.declared.piece.Piece.{Piece}
use Rattle.mold_indexed_file.specs.Packed.{HasPackedFrom}
use Rattle.mold_indexed_file.proofs.FoundLemmas.{IsPieceOf, same_found, same_next}

-- The messages after those that were packed don't fit, or the plan has none.
no_more : (version : FileVersion) (journal : JournalState) (limit from to : ℕ) (piece : Piece) (bytes : List ℕ)
    (plan : PlanState) (packer : PackerState) (count : ℕ) → OneMore → packer.limit ≡ limit → plan.from ≡ from →
    IsPieceOf version journal limit from to piece bytes →
    (all : HasPackedFrom (message_spelling version) (from - piece.entry.number) (to - from) bytes plan.session plan.from
    packer count) → (next : List ℕ) (more : List (List ℕ)) →
    drop (length all.found) (drop (from - 1) journal.messages) ≡ next ∷ more → length all.found < to - from →
    Fits limit (all.found ++ next ∷ []) → ⊥
no_more version journal limit from to piece bytes plan packer count one_more same at is all next more follows fewer fits
    =
    elim all.stops [
      | inl most ↦ omega (arith, most, all.counted, fewer)
      | inr long ↦
          let those = drop (from - 1) journal.messages in
          let found_fits : Fits limit all.found = subst (λ (n : ℕ). Fits n all.found) same all.packed.fits in
          let inside : length all.found < length those =
          omega (arith, length-drop (from - 1) journal.messages, is.first, is.last, fewer) in
          let this : long.message ≡ get_or those (length all.found) [] =
          same_next version journal limit from to piece bytes all.found all.rest long.message long.rest [] is
          all.packed.finds found_fits (omega (arith, fewer)) long.begins in
          let both : get_or those (length all.found) [] ∷ drop (length all.found + 1) those ≡ next ∷ more =
          sym (drop_more those (length all.found) [] inside) ∙ follows in
          let one : get_or those (length all.found) [] ≡ next = cc in
          let room : HasRoom packer.limit (Open plan.session plan.from all.found) (length long.message) =
          omega (arith, fits, one_more all.found next, same, ap (λ (m : List ℕ). length m) (this ∙ one)) in
          long.full (subst (λ (b : Begun). HasRoom packer.limit b (length long.message)) (sym all.packed.begun) room)
    ]

-- The packed messages are the plan's next packet.
pub packed_from : (version : FileVersion) (journal : JournalState) (plan : PlanState) (piece : Piece) (bytes : List ℕ)
    (old new : PackerState) (count : ℕ) → OneMore → Stops → OnlyFront → SomeFront → Alone → IsPlan plan →
    IsJournal journal → MayPack journal old.limit plan → new.limit ≡ old.limit →
    IsPieceOf version journal old.limit plan.from plan.to piece bytes →
    HasPackedFrom (message_spelling version) (plan.from - piece.entry.number) (plan.to - plan.from) bytes plan.session
    plan.from new count → HasPackedNext old new journal plan count
packed_from version journal plan piece bytes old new count one_more stops only some alone planned journaled may same is
    all =
    let those = drop (plan.from - 1) journal.messages in
    let fits : Fits old.limit all.found = subst (λ (n : ℕ). Fits n all.found) same all.packed.fits in
    let few : plan.from + length all.found ≤ plan.to = omega (arith, all.counted, all.few, planned.1) in
    let found : all.found ≡ take (length all.found) those =
    same_found version journal old.limit plan.from plan.to piece bytes all.found all.rest is all.packed.finds fits few
    in
    let parts : those ≡ all.found ++ drop (length all.found) those =
    sym (take-append-drop (length all.found) those)
    ∙ ap (λ (t : List (List ℕ)). t ++ drop (length all.found) those) (sym found) in
    let made : ℕ → Begun → PackerState = λ limit begun. record { limit = limit; begun = begun } in
    packed_next old new journal plan plan.session plan.from plan.to those count only some alone planned journaled
    may.room
    may.planned.to refl refl refl refl (record {
      found = all.found;
      counted = all.counted;
      begun = ap₂ made same all.packed.begun;
      longest = stops old.limit those (plan.to - plan.from) all.found (drop (length all.found) those) parts
          (omega (arith, all.counted, all.few)) fits
          (no_more version journal old.limit plan.from plan.to piece bytes plan new count one_more same refl is all);
    })
