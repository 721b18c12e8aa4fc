-- The layouts of a journal's file.
use Rattle.std.specs.Prelude.{◌≡◌, ℕ, List, ◌++◌, length, map}
use Rattle.mold_session.specs.declared.file_version.FileVersion.{FileVersion}
use Rattle.mold_session.specs.declared.file_version.FileVersion.TheVariants.{One, Two, Three}
use Rattle.mold_index.specs.declared.layout.Layout.{Layout}

-- The layout of a journal's file of this version.
abbrev pub layout_of : FileVersion → Layout
layout_of One = record { start = 18; overhead = 2 }
layout_of (Two count) = record { start = 27; overhead = 2 }
layout_of Three = record { start = 18; overhead = 4 }

-- The lengths of the messages, in bytes.
abbrev pub lengths_of : List (List ℕ) → List ℕ
lengths_of messages = map (λ message. length message) messages

-- The bytes begin with these bytes.
pub record BeginsWith (start bytes : List ℕ) : Type 0 where
  pub rest : List ℕ
  pub parts : bytes ≡ start ++ rest
