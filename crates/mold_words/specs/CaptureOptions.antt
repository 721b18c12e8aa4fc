-- Defines the values of the options about captures.
use Rattle.std.specs.Prelude.{ℕ, Bool, List, codes, length, nat_lt, ◌||◌, ◌==◌, if◌then◌else◌}
use Rattle.std.specs.Prelude.{Option, None, Some, count_by, option_map}
use Rattle.std.specs.Str.{bytes_eq}
use Rattle.clap.specs.Words.{Text}
use Rattle.mold_words.specs.Values.{number_of, session_of}
use Rattle.mold_words.specs.declared.addresses.TheConstants.{MAX_PORT}

-- Whether a filter can name this destination port: it is not 0.
abbrev pub is_port : ℕ → Bool
is_port port = nat_lt 0 port

-- The destination port that a text gives, from 1 to 65,535.
abbrev pub port_of : Text → Option ℕ
port_of text = number_of 1 MAX_PORT text

-- Whether the name of a capture is `-`, which is standard input.
abbrev pub is_input : Text → Bool
is_input name = bytes_eq name (codes "-")

-- The names of captures, if there is at least one and at most one is standard input.
unfoldable pub captures_of : List Text → Option (List Text)
captures_of names = if length names == 0 || nat_lt 1 (count_by is_input names) then None else Some names

-- The session that a text names, if the text is valid or there is none.
abbrev pub session_or_none : Option Text → Option (Option (List ℕ))
session_or_none None = Some None
session_or_none (Some text) = option_map (λ session. Some session) (session_of text)
