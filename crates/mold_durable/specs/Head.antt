-- What a crash leaves while a storage gets the head of a journal.
use Rattle.std.specs.Prelude.{◌≡◌, ◌⊎◌, ◌<◌, ◌≤◌, ℕ, Bool, false, List, [], ◌++◌, length, get_or}
use Rattle.mold_wire.specs.declared.session.Session.{Session}
use Rattle.mold_session.specs.Records.{head_3, magic_3, SpellsJournal3}

-- The bytes are not the file of any journal.
abbrev pub SpellsNone : List ℕ → Type 0
SpellsNone bytes =
    (session : Session) (messages : List (List ℕ)) (closed : Bool) → SpellsJournal3 session messages closed bytes → ⊥

-- The bytes are not the file of any journal, or they are the file of the session's open journal without messages.
abbrev pub IsNoneOrEmpty : Session → List ℕ → Type 0
IsNoneOrEmpty session bytes = SpellsNone bytes ⊎ SpellsJournal3 session [] false bytes

-- The bytes begin with the head of this session's journal.
pub record HasHead (session : Session) (bytes : List ℕ) : Type 0 where
  pub rest : List ℕ
  pub parts : bytes ≡ head_3 session.0 ++ rest

-- Each of the first eight bytes is that of the magic bytes at its index, or zero.
abbrev pub IsStart : List ℕ → Type 0
IsStart bytes =
    (at : ℕ) → at < 8 → at < length bytes → (get_or bytes at 0 ≡ get_or magic_3 at 0) ⊎ (get_or bytes at 0 ≡ 0)

-- The bytes are a prefix of the head of a journal without messages and the shut gate after it, in which zeros may be in
-- place of magic bytes. These are the files that the creator of a journal leaves if it is killed.
pub record IsUnfinished (bytes : List ℕ) : Type 0 where
  pub start : IsStart bytes
  pub few : length bytes ≤ 19
  pub shut : length bytes ≡ 19 → get_or bytes 18 0 ≡ 0
