-- Defines the commands and options of `mold`, and the program that they are to `clap`.
use Rattle.std.specs.Prelude.{Bool, List, [], ◌∷◌, Some, true, codes, fold}
use Rattle.std.specs.List.{list_any}
use Rattle.std.specs.Str.{bytes_eq}
use Rattle.clap.specs.Words.{App, Rule, Text, new_app, new_rule, with_rule, with_subcommand}
use Rattle.clap.specs.declared.builder.ArgAction.TheVariants.{Append, Set, SetTrue}
use Rattle.mold_words.specs.declared.table.Kind.{Kind}
use Rattle.mold_words.specs.declared.table.Kind.TheVariants.{Flag, Optional, Repeated, Required, RequiredRepeated, Word}

-- The command `show` with its options.
abbrev pub show_command : Text × List (Text × Kind)
show_command = (
  codes "show",
  (codes "request", Flag) ∷ (codes "capture", Repeated) ∷ (codes "port", Repeated) ∷ (codes "group", Repeated)
      ∷ (codes "session", Optional) ∷ [],
)

-- The command `pack` with its options.
abbrev pub pack_command : Text × List (Text × Kind)
pack_command = (
  codes "pack",
  (codes "session", Required) ∷ (codes "limit", Optional) ∷ (codes "journal", Optional)
      ∷ (codes "blocks", Flag) ∷ (codes "end-at-empty", Flag) ∷ [],
)

-- The command `sim` with its options.
abbrev pub sim_command : Text × List (Text × Kind)
sim_command = (
  codes "sim",
  (codes "session", Required) ∷ (codes "limit", Optional) ∷ (codes "server-limit", Optional)
      ∷ (codes "window", Optional) ∷ (codes "receivers", Optional) ∷ (codes "burst", Optional) ∷ [],
)

-- The command `check` with its options.
abbrev pub check_command : Text × List (Text × Kind)
check_command = (
  codes "check",
  (codes "folder", Word) ∷ (codes "capture", Repeated) ∷ (codes "port", Repeated) ∷ (codes "group", Repeated)
      ∷ (codes "session", Optional) ∷ (codes "journal", Optional) ∷ (codes "each", Flag) ∷ (codes "digest", Flag) ∷ [],
)

-- The command `extract` with its options.
abbrev pub extract_command : Text × List (Text × Kind)
extract_command = (
  codes "extract",
  (codes "folder", Word) ∷ (codes "capture", Repeated) ∷ (codes "port", Repeated) ∷ (codes "group", Repeated)
      ∷ (codes "session", Optional) ∷ (codes "to", Required) ∷ (codes "blocks", Flag) ∷ (codes "lines", Flag)
      ∷ (codes "from", Optional) ∷ (codes "count", Optional) ∷ [],
)

-- The command `sessions` with its options.
abbrev pub sessions_command : Text × List (Text × Kind)
sessions_command = (
  codes "sessions",
  (codes "capture", RequiredRepeated) ∷ (codes "port", Repeated) ∷ (codes "group", Repeated) ∷ [],
)

-- The command `publish` with its options.
abbrev pub publish_command : Text × List (Text × Kind)
publish_command = (
  codes "publish",
  (codes "session", Required) ∷ (codes "limit", Optional) ∷ (codes "a", Required) ∷ (codes "b", Required)
      ∷ (codes "journal", Required) ∷ (codes "beats", Optional) ∷ (codes "ends", Optional)
      ∷ (codes "blocks", Flag) ∷ (codes "end-at-empty", Flag) ∷ [],
)

-- The command `feed` with its options.
abbrev pub feed_command : Text × List (Text × Kind)
feed_command = (
  codes "feed",
  (codes "session", Required) ∷ (codes "limit", Optional) ∷ (codes "a", Required) ∷ (codes "b", Optional)
      ∷ (codes "interface-a", Optional) ∷ (codes "interface-b", Optional) ∷ (codes "ttl", Optional)
      ∷ (codes "journal", Required) ∷ (codes "append", Flag) ∷ (codes "bind", Optional)
      ∷ (codes "burst", Optional) ∷ (codes "rate", Optional) ∷ (codes "idle", Optional)
      ∷ (codes "beats", Optional) ∷ (codes "ends", Optional) ∷ (codes "open", Flag)
      ∷ (codes "linger", Optional) ∷ (codes "blocks", Flag) ∷ (codes "end-at-empty", Flag) ∷ [],
)

-- The command `serve` with its options.
abbrev pub serve_command : Text × List (Text × Kind)
serve_command = (
  codes "serve",
  (codes "journal", Required) ∷ (codes "follow", Flag) ∷ (codes "limit", Optional) ∷ (codes "burst", Optional)
      ∷ (codes "bind", Required) ∷ (codes "turns", Optional) ∷ (codes "live", Flag) ∷ [],
)

-- The command `listen` with its options.
abbrev pub listen_command : Text × List (Text × Kind)
listen_command = (
  codes "listen",
  (codes "session", Required) ∷ (codes "next", Optional) ∷ (codes "window", Optional) ∷ (codes "a", Required)
      ∷ (codes "b", Required) ∷ (codes "server", Required) ∷ (codes "burst", Optional)
      ∷ (codes "turns", Optional) ∷ (codes "live", Flag) ∷ (codes "report", Flag) ∷ (codes "blocks", Flag)
      ∷ (codes "end-at-empty", Flag) ∷ [],
)

-- The command `receive` with its options.
abbrev pub receive_command : Text × List (Text × Kind)
receive_command = (
  codes "receive",
  (codes "session", Optional) ∷ (codes "learn", Flag) ∷ (codes "next", Optional) ∷ (codes "from-now", Flag)
      ∷ (codes "a", Required) ∷ (codes "b", Optional) ∷ (codes "source-a", Optional)
      ∷ (codes "source-b", Optional) ∷ (codes "server", Repeated) ∷ (codes "any-responder", Flag)
      ∷ (codes "window", Optional) ∷ (codes "store", Optional) ∷ (codes "patience", Optional)
      ∷ (codes "timeout", Optional) ∷ (codes "ceiling", Optional) ∷ (codes "requests", Optional)
      ∷ (codes "in-flight", Optional)
      ∷ (codes "give-up", Optional) ∷ (codes "audit", Optional) ∷ (codes "quiet", Optional)
      ∷ (codes "stats", Optional) ∷ (codes "journal", Optional) ∷ (codes "no-sync", Flag) ∷ (codes "blocks", Flag)
      ∷ (codes "end-at-empty", Flag) ∷ [],
)

-- The command `loop` with its options.
abbrev pub loop_command : Text × List (Text × Kind)
loop_command = (
  codes "loop",
  (codes "session", Required) ∷ (codes "limit", Optional) ∷ (codes "server-limit", Optional)
      ∷ (codes "window", Optional) ∷ (codes "burst", Optional) ∷ (codes "drop-a", Optional)
      ∷ (codes "drop-b", Optional) ∷ (codes "turns", Optional) ∷ (codes "report", Flag)
      ∷ (codes "blocks", Flag) ∷ (codes "end-at-empty", Flag) ∷ [],
)

-- The command `upgrade` with its options.
abbrev pub upgrade_command : Text × List (Text × Kind)
upgrade_command = (
  codes "upgrade",
  (codes "journal", Required) ∷ (codes "to", Required) ∷ (codes "close", Flag) ∷ [],
)

-- The command `close` with its option.
abbrev pub close_command : Text × List (Text × Kind)
close_command = (codes "close", (codes "journal", Required) ∷ [])

-- The command `dump` with its options.
abbrev pub dump_command : Text × List (Text × Kind)
dump_command = (
  codes "dump",
  (codes "journal", Required) ∷ (codes "follow", Flag) ∷ (codes "from", Optional) ∷ (codes "count", Optional)
      ∷ (codes "blocks", Flag) ∷ (codes "end-at-empty", Flag) ∷ [],
)

-- The commands, each with its options, in the order in which help lists them.
abbrev pub commands : List (Text × List (Text × Kind))
commands = show_command ∷ pack_command ∷ sim_command ∷ check_command ∷ extract_command ∷ sessions_command
    ∷ publish_command ∷ feed_command ∷ serve_command ∷ listen_command ∷ receive_command ∷ loop_command
    ∷ upgrade_command ∷ close_command ∷ dump_command ∷ []

-- Whether the text is the name of a command.
abbrev pub is_command : Text → Bool
is_command name = list_any (λ command. bytes_eq command.0 name) commands

-- The `clap` rule of an option with this name. A flag has no value, and any other option has one. A repeated option may
-- be given several times. A positional argument is given without its name, and may be left out.
abbrev pub rule_for : Text → Kind → Rule
rule_for name Flag = record (new_rule name) { long = Some name; action = Some SetTrue }
rule_for name Optional =
    record (new_rule name) { long = Some name; action = Some Set; value_names = 1 }
rule_for name Repeated =
    record (new_rule name) { long = Some name; action = Some Append; value_names = 1 }
rule_for name Required =
    record (new_rule name) { long = Some name; action = Some Set; value_names = 1; required = true }
rule_for name RequiredRepeated =
    record (new_rule name) { long = Some name; action = Some Append; value_names = 1; required = true }
rule_for name Word = record (new_rule name) { action = Some Set; value_names = 1 }

-- A command with one more option.
abbrev pub with_option : App → Text × Kind → App
with_option app option = with_rule app (rule_for option.0 option.1)

-- A command with all its options.
abbrev pub command_app : Text × List (Text × Kind) → App
command_app command = fold with_option (new_app command.0) command.1

-- A program with one more command.
abbrev pub with_command : App → Text × List (Text × Kind) → App
with_command app command = with_subcommand app (command_app command).top

-- The program without commands. Its arguments do not start with the program's name, and it has a version.
abbrev pub bare_app : App
bare_app = let app = new_app (codes "mold") in
    record app { top = record app.top { no_binary_name = true; has_version = true } }

-- The program as `clap` describes it, with all its commands.
unfoldable pub mold_app : App
mold_app = fold with_command bare_app commands
