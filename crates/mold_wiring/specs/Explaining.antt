-- What is printed about a file before the line of a fault.
use Rattle.std.specs.Prelude.{ℕ, List, ◌++◌, codes}

-- The line that explains a fault: `error: `, the name of the file, a colon, a space, the reason, and the byte 0A.
abbrev pub explanation_line : List ℕ → List ℕ → List ℕ
explanation_line name reason = codes "error: " ++ name ++ codes ": " ++ reason ++ codes "\n"
