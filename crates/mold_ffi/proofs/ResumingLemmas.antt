-- Files that begin with the magic bytes of version 3.
use Rattle.std.proofs.Common.{◌≡◌, ◌⊎◌, inl, inr, ℕ, Bool, false, List, length, take, sym, ◌∙◌}
use Rattle.mold_wire.specs.Block.{blocks}
use Rattle.mold_wire.specs.declared.session.Session.{Session}
use Rattle.mold_session.proofs.HeadLemmas.{behind_1, behind_2, magic_1_or_3, magic_2_or_3}
use Rattle.mold_session.specs.File.{SpellsJournal, SpellsJournal2}
use Rattle.mold_session.specs.Records.{SpellsJournal3, magic_3}

-- The file of a journal with these magic bytes is of version 3.
pub only_third :
    (session : Session) (messages : List (List ℕ)) (closed : Bool) (bytes : List ℕ) → take 8 bytes ≡ magic_3 →
    ((closed ≡ false) × SpellsJournal session messages bytes)
    ⊎ (SpellsJournal2 session messages closed bytes ⊎ SpellsJournal3 session messages closed bytes) →
    SpellsJournal3 session messages closed bytes
only_third session messages closed bytes magic (inl first) =
    absurd (magic_1_or_3 (sym (behind_1 session.0 bytes (blocks messages) first.1.named first.1.spelled).magic ∙ magic))
only_third session messages closed bytes magic (inr (inl second)) =
    absurd (magic_2_or_3 (
    sym (behind_2 session.0 bytes (blocks messages) closed (length messages) second.named second.spelled).magic ∙ magic
    ))
only_third session messages closed bytes magic (inr (inr third)) = third
