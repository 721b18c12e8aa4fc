-- Defines the order that command-line arguments give.
use Rattle.std.specs.Prelude.{◌≡◌, ℕ, Bool, List, [], Option, Some, None, codes, false, true, if◌then◌else◌, is_some}
use Rattle.std.specs.Prelude.{◌&&◌, ◌||◌, ◌==◌, length, nat_lt, not, option_map, ◌∷◌, unwrap_or}
use Rattle.std.specs.List.{list_any}
use Rattle.std.specs.Option.{option_and_then, option_map_or}
use Rattle.std.specs.Str.{bytes_eq}
use Rattle.clap.specs.Words.{Row, Text, all_of, fault_of, first_of, subcommand_of}
use Rattle.mold_input.specs.declared.message_format.MessageFormat.{MessageFormat}
use Rattle.mold_input.specs.declared.message_format.MessageFormat.TheVariants.{Lines, Blocks, BlocksToEmpty}
use Rattle.mold_words.specs.Addresses.{HostPort, address_of, host_of}
use Rattle.mold_words.specs.LinePorts.{Port, line_port_of}
use Rattle.mold_words.specs.CaptureOptions.{captures_of, port_of, session_or_none}
use Rattle.mold_words.specs.IpAddresses.{ip_of}
use Rattle.mold_words.specs.Values.{session_of, number_of, values_of}
use Rattle.mold_words.specs.Arguments.{Arguments, LineArguments, ListenValues, LocalArguments, PublishedArguments}
use Rattle.mold_words.specs.Arguments.{ReceiveArguments, ReceiverValues, RequestArguments, SentArguments}
use Rattle.mold_words.specs.Arguments.{StartValues, TimeArguments}
use Rattle.mold_words.specs.Arguments.{InputArguments, from_captures, from_folder, from_lines}
use Rattle.mold_words.specs.Arguments.{JudgingArguments, each_judged, saved_judged, whole_judged}
use Rattle.mold_words.specs.Arguments.{check_wanted, close_wanted, dump_wanted, extract_wanted, feed_wanted}
use Rattle.mold_words.specs.Arguments.{listen_wanted, loop_wanted, pack_journal_wanted, pack_wanted, publish_wanted}
use Rattle.mold_words.specs.Arguments.{receive_wanted, record_wanted, serve_wanted, show_wanted, sim_wanted}
use Rattle.mold_words.specs.Arguments.{upgrade_wanted, CaptureArguments, sessions_wanted}
use Rattle.mold_words.specs.Arguments.{show_captures_wanted}
use Rattle.mold_words.specs.Words.{mold_app}
use Rattle.mold_words.specs.declared.extract_form.ExtractForm.{ExtractForm}
use Rattle.mold_words.specs.declared.extract_form.ExtractForm.TheVariants.{Blocks as as_blocks, Lines as as_lines}
use Rattle.mold_words.specs.declared.options.TheConstants.{MAX_TURNS}
use Rattle.mold_wire.specs.declared.limits.TheConstants.{MAX_BURST, MAX_WIDE_WINDOW, MAX_WINDOW}
use Rattle.mold_words.specs.declared.options.TheConstants.{DEFAULT_LIMIT, DEFAULT_TURNS, DEFAULT_WINDOW}
use Rattle.mold_words.specs.declared.feed_options.TheConstants.{DEFAULT_LINGER}
use Rattle.mold_words.specs.declared.receive_options.TheConstants.{MAX_SERVERS}
use Rattle.mold_wire.specs.declared.limits.TheConstants.{MAX_LIMIT, MAX_NUMBER, MIN_LIMIT}

-- `clap` finds no error in the arguments `words`.
abbrev pub AreTaken : List Text → Type 0
AreTaken words = fault_of mold_app words ≡ []

-- Whether the flag of this name is given. Then its value is `true`.
abbrev pub flag_in : Text → List Row → Bool
flag_in name rows = option_map_or (λ text. bytes_eq text (codes "true")) (first_of name rows) false

-- All values of the option of this name, in the order in which they are given.
abbrev pub texts_in : Text → List Row → List Text
texts_in name rows = unwrap_or (all_of name rows) []

-- The session that the option of this name gives, if its value is valid.
abbrev pub session_in : Text → List Row → Option (List ℕ)
session_in name rows = option_and_then session_of (first_of name rows)

-- The number of an option's text if it is from `least` to `most`, or `usual` if there is no text.
abbrev pub number_or : ℕ → ℕ → ℕ → Option Text → Option ℕ
number_or usual least most None = Some usual
number_or usual least most (Some text) = number_of least most text

-- The number of the option of this name, or `usual` if it is not given. The number must be from `least` to `most`.
abbrev pub number_in : Text → ℕ → ℕ → ℕ → List Row → Option ℕ
number_in name usual least most rows = number_or usual least most (first_of name rows)

-- The maximum datagram length that the option of this name gives, in bytes. The default is 1,400.
abbrev pub limit_in : Text → List Row → Option ℕ
limit_in name rows = number_in name DEFAULT_LIMIT MIN_LIMIT MAX_LIMIT rows

-- The receiver's window in messages. The default is 1,024.
abbrev pub window_in : List Row → Option ℕ
window_in rows = number_in (codes "window") DEFAULT_WINDOW 1 MAX_WINDOW rows

-- The maximum number of responses to a request. The default is 1.
abbrev pub burst_in : List Row → Option ℕ
burst_in rows = number_in (codes "burst") 1 1 MAX_BURST rows

-- The number of turns. The default is 1,000.
abbrev pub turns_in : List Row → Option ℕ
turns_in rows = number_in (codes "turns") DEFAULT_TURNS 1 MAX_TURNS rows

-- The sequence number of the first message. The default is 1.
abbrev pub from_in : List Row → Option ℕ
from_in rows = number_in (codes "from") 1 1 MAX_NUMBER rows

-- The maximum number of messages. Without `--count` it is `MAX_NUMBER`, and no journal and no session has more
-- messages.
abbrev pub count_in : List Row → Option ℕ
count_in rows = number_in (codes "count") MAX_NUMBER 0 MAX_NUMBER rows

-- Whether new records of the journal file are read while the command runs.
abbrev pub follow_in : List Row → Bool
follow_in rows = flag_in (codes "follow") rows

-- The number of turns of a server. `--turns` is not needed with `--follow`, and without it there is no bound then.
abbrev pub bound_of : Bool → Option Text → Option (Option ℕ)
bound_of true None = Some None
bound_of follows text = option_map Some (number_or DEFAULT_TURNS 1 MAX_TURNS text)

-- The number of turns of a server, which is `None` if it does not end.
unfoldable pub bound_in : List Row → Option (Option ℕ)
bound_in rows = bound_of (follow_in rows) (first_of (codes "turns") rows)

-- Whether text is written at the end of each turn.
abbrev pub live_in : List Row → Bool
live_in rows = flag_in (codes "live") rows

-- Whether reports of both lines are printed.
abbrev pub report_in : List Row → Bool
report_in rows = flag_in (codes "report") rows

-- The format that the flags `--blocks` and `--end-at-empty` choose. The second one requires the first one.
abbrev pub format_of : Bool → Bool → Option MessageFormat
format_of false false = Some Lines
format_of true false = Some Blocks
format_of true true = Some BlocksToEmpty
format_of false true = None

-- How the input or the output encodes messages, if the flags are valid together. Without flags it is lines.
unfoldable pub format_in : List Row → Option MessageFormat
format_in rows = format_of (flag_in (codes "blocks") rows) (flag_in (codes "end-at-empty") rows)

-- The limits of the publisher and of its server, if the server's is at least the publisher's.
unfoldable pub limits_in : List Row → Option (ℕ × ℕ)
limits_in rows =
    option_and_then
    (λ limit. option_and_then
    (λ server_limit. if nat_lt server_limit limit then None else Some (limit, server_limit))
    (limit_in (codes "server-limit") rows))
    (limit_in (codes "limit") rows)

-- The address that the option of this name gives, if its value is valid.
abbrev pub address_in : Text → List Row → Option HostPort
address_in name rows = option_and_then address_of (first_of name rows)

-- The option of this name is given, and its value is not an address.
abbrev pub is_no_address : List Row → Text → Bool
is_no_address rows name = option_map_or (λ text. not (is_some (address_of text))) (first_of name rows) false

-- The option of this name is given, and its value is not a port of a line.
abbrev pub is_no_port : List Row → Text → Bool
is_no_port rows name = option_map_or (λ text. not (is_some (line_port_of text))) (first_of name rows) false

-- The option of this name is given, and its value is not an IPv4 address.
abbrev pub is_no_host : List Row → Text → Bool
is_no_host rows name = option_map_or (λ text. not (is_some (host_of text))) (first_of name rows) false

-- Whether the value of an option that is an address is invalid, for all commands except `receive`.
abbrev pub has_invalid_address : List Row → Bool
has_invalid_address rows = list_any (is_no_address rows) (codes "a" ∷ codes "b" ∷ codes "server" ∷ codes "bind" ∷ [])

-- Whether the value of an option that is the IPv4 address of an interface is invalid.
abbrev pub has_invalid_interface : List Row → Bool
has_invalid_interface rows = list_any (is_no_host rows) (codes "interface-a" ∷ codes "interface-b" ∷ [])

-- Whether a value of `--server`, which may be given several times, is not an address.
abbrev pub has_invalid_server : List Row → Bool
has_invalid_server rows = list_any (λ text. not (is_some (address_of text))) (texts_in (codes "server") rows)

-- Whether a value of `--group`, which may be given several times, is not an address of IPv4 or IPv6.
abbrev pub has_invalid_group : List Row → Bool
has_invalid_group rows = list_any (λ text. not (is_some (ip_of text))) (texts_in (codes "group") rows)

-- Whether the value of any option of `receive` that takes an address is invalid.
unfoldable pub receives_no_address : List Row → Bool
receives_no_address rows =
    list_any (is_no_port rows) (codes "a" ∷ codes "b" ∷ [])
    || (list_any (is_no_host rows) (codes "source-a" ∷ codes "source-b" ∷ []) || has_invalid_server rows)

-- Whether the value of any option that takes an address is invalid, for the command of this name.
unfoldable pub has_no_address : Text → List Row → Bool
has_no_address name rows =
    if bytes_eq name (codes "receive") then receives_no_address rows
    else has_invalid_address rows || (has_invalid_interface rows || has_invalid_group rows)

-- Whether an option or argument of this name is given.
abbrev pub is_given : List Row → Text → Bool
is_given rows name = is_some (first_of name rows)

-- Whether an option is given that filters the datagrams of captures.
abbrev pub has_filter : List Row → Bool
has_filter rows = list_any (is_given rows) (codes "port" ∷ codes "group" ∷ codes "session" ∷ [])

-- The captures of these options and which of their datagrams pass, if the values are valid.
unfoldable pub captures_in : List Row → Option CaptureArguments
captures_in rows =
    option_and_then
    (λ ports. option_and_then
    (λ groups. option_and_then
    (λ session. option_map
    (λ captures. record { captures = captures; ports = ports; groups = groups; session = session })
    (captures_of (texts_in (codes "capture") rows)))
    (session_or_none (first_of (codes "session") rows)))
    (values_of ip_of (texts_in (codes "group") rows)))
    (values_of port_of (texts_in (codes "port") rows))

-- What `show` asks for with captures. Requests are not read from captures.
abbrev pub shown_captures : List Row → Option Arguments
shown_captures rows =
    if flag_in (codes "request") rows then None else option_map show_captures_wanted (captures_in rows)

-- What `show` asks for without captures. It has no filter.
abbrev pub shown_lines : List Row → Option Arguments
shown_lines rows = if has_filter rows then None else Some (show_wanted (flag_in (codes "request") rows))

-- What `show` asks for with these options, if their values are valid.
unfoldable pub show_of : List Row → Option Arguments
show_of rows = if is_given rows (codes "capture") then shown_captures rows else shown_lines rows

-- What `pack` asks for: to print packets, or to save a journal if the name of a file is given.
abbrev pub packed_to : List ℕ → ℕ → MessageFormat → Option Text → Arguments
packed_to session limit input None = pack_wanted session limit input
packed_to session limit input (Some journal) = pack_journal_wanted session limit input journal

-- What `pack` asks for with these options, if their values are valid.
unfoldable pub pack_of : List Row → Option Arguments
pack_of rows =
    option_and_then
    (λ session. option_and_then
    (λ limit. option_map (λ input. packed_to session limit input (first_of (codes "journal") rows)) (format_in rows))
    (limit_in (codes "limit") rows))
    (session_in (codes "session") rows)

-- The options that `sim` and `loop` share, if their values are valid.
unfoldable pub local_in : List Row → Option LocalArguments
local_in rows =
    option_and_then
    (λ session. option_and_then
    (λ limits. option_and_then
    (λ window. option_and_then
    (λ burst. Some (record {
      session = session;
      limit = limits.0;
      server_limit = limits.1;
      window = window;
      burst = burst;
    }))
    (burst_in rows))
    (window_in rows))
    (limits_in rows))
    (session_in (codes "session") rows)

-- What `sim` asks for with these options, if their values are valid.
unfoldable pub sim_of : List Row → Option Arguments
sim_of rows =
    option_and_then
    (λ local. option_and_then
    (λ receivers. Some (sim_wanted (record {
      session = local.session;
      limit = local.limit;
      server_limit = local.server_limit;
      window = local.window;
      receivers = receivers;
      burst = local.burst;
    })))
    (number_in (codes "receivers") 2 1 8 rows))
    (local_in rows)

-- The captures that `check` and `extract` read, if they have no folder.
abbrev pub captured_input : List Row → Option InputArguments
captured_input rows = if is_given rows (codes "folder") then None else option_map from_captures (captures_in rows)

-- The input of `check` and `extract` without captures. It has a folder and no filter. `-` asks to read lines on
-- standard input, and any other text names a folder.
abbrev pub folder_input : List Row → Option InputArguments
folder_input rows =
    if has_filter rows then None
    else option_map
    (λ folder. if bytes_eq folder (codes "-") then from_lines else from_folder folder)
    (first_of (codes "folder") rows)

-- Where `check` and `extract` read datagrams, if the values are valid.
unfoldable pub input_in : List Row → Option InputArguments
input_in rows = if is_given rows (codes "capture") then captured_input rows else folder_input rows

-- How `check` judges datagrams with this journal or none, and the flags `--each` and `--digest`. A journal excludes
-- both flags.
abbrev pub judging_of : Option Text → Bool → Bool → Option JudgingArguments
judging_of None false digest = Some (whole_judged digest)
judging_of None true digest = Some (each_judged digest)
judging_of (Some journal) false false = Some (saved_judged journal)
judging_of (Some journal) false true = None
judging_of (Some journal) true digest = None

-- How `check` judges datagrams, if the options are valid together.
unfoldable pub judging_in : List Row → Option JudgingArguments
judging_in rows =
    judging_of (first_of (codes "journal") rows) (flag_in (codes "each") rows) (flag_in (codes "digest") rows)

-- What `check` asks for with its argument and options, if their values are valid.
unfoldable pub check_of : List Row → Option Arguments
check_of rows =
    option_and_then
    (λ judging. option_map (λ input. check_wanted (record { input = input; judging = judging })) (input_in rows))
    (judging_in rows)

-- The form that the flags `--blocks` and `--lines` choose. Exactly one of them must be given.
abbrev pub form_of : Bool → Bool → Option ExtractForm
form_of true false = Some as_blocks
form_of false true = Some as_lines
form_of true true = None
form_of false false = None

-- The form in which `extract` writes messages, if the flags are valid together.
unfoldable pub form_in : List Row → Option ExtractForm
form_in rows = form_of (flag_in (codes "blocks") rows) (flag_in (codes "lines") rows)

-- What `extract` asks for with its argument and options, if their values are valid.
unfoldable pub extract_of : List Row → Option Arguments
extract_of rows =
    option_and_then
    (λ from. option_and_then
    (λ count. option_and_then
    (λ form. option_and_then
    (λ to. option_map
    (λ input. extract_wanted (record { input = input; to = to; form = form; from = from; count = count }))
    (input_in rows))
    (first_of (codes "to") rows))
    (form_in rows))
    (count_in rows))
    (from_in rows)

-- What `sessions` asks for with these options, if their values are valid.
unfoldable pub sessions_of : List Row → Option Arguments
sessions_of rows = option_map sessions_wanted (captures_in rows)

-- The session that `publish` and `feed` publish, if the values are valid.
unfoldable pub published_in : List Row → Option PublishedArguments
published_in rows =
    option_and_then
    (λ session. option_and_then
    (λ limit. option_and_then
    (λ beats. option_and_then
    (λ ends. Some (record { session = session; limit = limit; beats = beats; ends = ends }))
    (number_in (codes "ends") 1 0 1000 rows))
    (number_in (codes "beats") 1 0 1000 rows))
    (limit_in (codes "limit") rows))
    (session_in (codes "session") rows)

-- What `publish` asks for with these options, if their values are valid.
unfoldable pub publish_of : List Row → Option Arguments
publish_of rows =
    option_and_then
    (λ published. option_and_then
    (λ a. option_and_then
    (λ b. option_and_then
    (λ input. option_and_then
    (λ journal. Some (publish_wanted (record {
      session = published.session;
      limit = published.limit;
      a = a;
      b = b;
      journal = journal;
      beats = published.beats;
      ends = published.ends;
      input = input;
    })))
    (first_of (codes "journal") rows))
    (format_in rows))
    (address_in (codes "b") rows))
    (address_in (codes "a") rows))
    (published_in rows)

-- The address of a text, if it is one or there is no text.
abbrev pub address_or_none : Option Text → Option (Option HostPort)
address_or_none None = Some None
address_or_none (Some text) = option_map (λ address. Some address) (address_of text)

-- The four numbers of an IPv4 address if the text is one, and 0.0.0.0 if there is no text.
abbrev pub host_or_any : Option Text → Option (List ℕ)
host_or_any None = Some (0 ∷ 0 ∷ 0 ∷ 0 ∷ [])
host_or_any (Some text) = host_of text

-- The lines that `feed` sends a session on, if they are valid. An interface of line B requires line B.
unfoldable pub sent_lines_in : List Row → Option SentArguments
sent_lines_in rows =
    option_and_then
    (λ a. option_and_then
    (λ b. option_and_then
    (λ interface_a. option_and_then
    (λ interface_b. option_and_then
    (λ ttl. if not (is_some b) && is_some (first_of (codes "interface-b") rows) then None
    else Some (record { a = a; b = b; interface_a = interface_a; interface_b = interface_b; ttl = ttl }))
    (number_in (codes "ttl") 1 0 255 rows))
    (host_or_any (first_of (codes "interface-b") rows)))
    (host_or_any (first_of (codes "interface-a") rows)))
    (address_or_none (first_of (codes "b") rows)))
    (address_in (codes "a") rows)

-- How long `feed` responds to requests after the input has ended, if `--linger` is not given. Without `--bind` it
-- receives none.
abbrev pub usual_linger : Option Text → ℕ
usual_linger None = 0
usual_linger (Some address) = DEFAULT_LINGER

-- The times of `feed`, if they are valid.
unfoldable pub feed_times_in : List Row → Option TimeArguments
feed_times_in rows =
    option_and_then
    (λ idle. option_and_then
    (λ rate. option_and_then
    (λ linger. Some (record { idle = idle; rate = rate; linger = linger }))
    (number_in (codes "linger") (usual_linger (first_of (codes "bind") rows)) 0 86400000 rows))
    (number_in (codes "rate") 0 0 10000000 rows))
    (number_in (codes "idle") 1000 0 60000 rows)

-- What `feed` asks for with these options, if their values are valid.
unfoldable pub feed_of : List Row → Option Arguments
feed_of rows =
    option_and_then
    (λ published. option_and_then
    (λ lines. option_and_then
    (λ bind. option_and_then
    (λ burst. option_and_then
    (λ times. option_and_then
    (λ input. option_and_then
    (λ journal. Some (feed_wanted (record {
      session = published.session;
      limit = published.limit;
      lines = lines;
      journal = journal;
      append = flag_in (codes "append") rows;
      bind = bind;
      burst = burst;
      times = times;
      input = input;
      beats = published.beats;
      ends = published.ends;
      stays_open = flag_in (codes "open") rows;
    })))
    (first_of (codes "journal") rows))
    (format_in rows))
    (feed_times_in rows))
    (burst_in rows))
    (address_or_none (first_of (codes "bind") rows)))
    (sent_lines_in rows))
    (published_in rows)

-- What `serve` asks for with these options, if their values are valid.
unfoldable pub serve_of : List Row → Option Arguments
serve_of rows =
    option_and_then
    (λ journal. option_and_then
    (λ limit. option_and_then
    (λ burst. option_and_then
    (λ bind. option_and_then
    (λ turns. Some (serve_wanted (record {
      journal = journal;
      follow = follow_in rows;
      limit = limit;
      burst = burst;
      bind = bind;
      turns = turns;
      live = live_in rows;
    })))
    (bound_in rows))
    (address_in (codes "bind") rows))
    (burst_in rows))
    (limit_in (codes "limit") rows))
    (first_of (codes "journal") rows)

-- The options of `listen` apart from its addresses and its output, if their values are valid.
unfoldable pub listen_in : List Row → Option ListenValues
listen_in rows =
    option_and_then
    (λ session. option_and_then
    (λ next. option_and_then
    (λ window. option_and_then
    (λ burst. option_and_then
    (λ turns. Some (record { session = session; next = next; window = window; burst = burst; turns = turns }))
    (turns_in rows))
    (burst_in rows))
    (window_in rows))
    (number_in (codes "next") 1 1 9223372036854775807 rows))
    (session_in (codes "session") rows)

-- What `listen` asks for with these options, if their values are valid.
unfoldable pub listen_of : List Row → Option Arguments
listen_of rows =
    option_and_then
    (λ listen. option_and_then
    (λ a. option_and_then
    (λ b. option_and_then
    (λ server. option_and_then
    (λ output. Some (listen_wanted (record {
      session = listen.session;
      next = listen.next;
      window = listen.window;
      a = a;
      b = b;
      server = server;
      burst = listen.burst;
      turns = listen.turns;
      live = live_in rows;
      report = report_in rows;
      output = output;
    })))
    (format_in rows))
    (address_in (codes "server") rows))
    (address_in (codes "b") rows))
    (address_in (codes "a") rows))
    (listen_in rows)

-- The session that `--session` gives, or `None` if `--learn` is given. Exactly one of them must be given.
abbrev pub session_or_learned : Option Text → Bool → Option (Option (List ℕ))
session_or_learned None false = None
session_or_learned None true = Some None
session_or_learned (Some text) false = option_map (λ session. Some session) (session_of text)
session_or_learned (Some text) true = None

-- The session of the options, or `None` if it is learned.
unfoldable pub learned_in : List Row → Option (Option (List ℕ))
learned_in rows = session_or_learned (first_of (codes "session") rows) (flag_in (codes "learn") rows)

-- The number that `--next` gives, 1 without it, or `None` if `--from-now` is given. At most one of them may be given.
abbrev pub number_or_now : Option Text → Bool → Option (Option ℕ)
number_or_now None true = Some None
number_or_now (Some text) true = None
number_or_now None false = Some (Some 1)
number_or_now (Some text) false = option_map (λ number. Some number) (number_of 1 9223372036854775807 text)

-- The sequence number at which the options start, or `None` if it is that of the first packet.
unfoldable pub start_in : List Row → Option (Option ℕ)
start_in rows = number_or_now (first_of (codes "next") rows) (flag_in (codes "from-now") rows)

-- The port of a text, if it is one or there is no text.
abbrev pub port_or_none : Option Text → Option (Option Port)
port_or_none None = Some None
port_or_none (Some text) = option_map (λ port. Some port) (line_port_of text)

-- The four numbers of an IPv4 address, if the text is one or there is no text.
abbrev pub host_or_none : Option Text → Option (Option (List ℕ))
host_or_none None = Some None
host_or_none (Some text) = option_map (λ host. Some host) (host_of text)

-- The ports and the senders of the lines, if they are valid. A sender of line B requires line B.
unfoldable pub lines_in : List Row → Option LineArguments
lines_in rows =
    option_and_then
    (λ a. option_and_then
    (λ b. option_and_then
    (λ source_a. option_and_then
    (λ source_b. if is_some source_b && not (is_some b) then None
    else Some (record { a = a; b = b; source_a = source_a; source_b = source_b }))
    (host_or_none (first_of (codes "source-b") rows)))
    (host_or_none (first_of (codes "source-a") rows)))
    (port_or_none (first_of (codes "b") rows)))
    (option_and_then line_port_of (first_of (codes "a") rows))

-- The addresses of the servers, if there are at most 8 and all are valid.
unfoldable pub servers_in : List Row → Option (List HostPort)
servers_in rows =
    if nat_lt MAX_SERVERS (length (texts_in (codes "server") rows)) then None
    else values_of address_of (texts_in (codes "server") rows)

-- When and how often messages are requested, and who may respond, if the numbers are valid. The ceiling is at least
-- the timeout.
unfoldable pub requests_in : List Row → Option RequestArguments
requests_in rows =
    option_and_then
    (λ patience. option_and_then
    (λ timeout. option_and_then
    (λ ceiling. option_and_then
    (λ requests. option_and_then
    (λ in_flight. option_and_then
    (λ give_up. if nat_lt ceiling timeout then None
    else Some (record {
      patience = patience;
      timeout = timeout;
      ceiling = ceiling;
      requests = requests;
      in_flight = in_flight;
      give_up = give_up;
      any_responder = flag_in (codes "any-responder") rows;
    }))
    (number_in (codes "give-up") 0 0 1000 rows))
    (number_in (codes "in-flight") 256 1 4096 rows))
    (number_in (codes "requests") 1000 1 1000000 rows))
    (number_in (codes "ceiling") 1000 1 600000 rows))
    (number_in (codes "timeout") 50 1 60000 rows))
    (number_in (codes "patience") 0 200 1000000 rows)

-- The session and the sequence number at which the options start, if their values are valid.
unfoldable pub session_start_in : List Row → Option StartValues
session_start_in rows =
    option_and_then
    (λ session. option_map (λ next. record { session = session; next = next }) (start_in rows))
    (learned_in rows)

-- What the receiver keeps, when it ends, when it reports and how it prints messages, if the values are valid.
unfoldable pub receiver_in : List Row → Option ReceiverValues
receiver_in rows =
    option_and_then
    (λ window. option_and_then
    (λ store. option_and_then
    (λ audit. option_and_then
    (λ quiet. option_and_then
    (λ stats. option_map
    (λ output. record {
      window = window;
      store = store;
      audit = audit;
      quiet = quiet;
      stats = stats;
      output = output;
    })
    (format_in rows))
    (number_in (codes "stats") 0 0 86400 rows))
    (number_in (codes "quiet") 0 0 86400 rows))
    (number_in (codes "audit") 65536 0 1048576 rows))
    (number_in (codes "store") 1024 1 1048576 rows))
    (number_in (codes "window") MAX_WIDE_WINDOW 1 MAX_WIDE_WINDOW rows)

-- What `receive` asks for with the values of its groups of options.
abbrev pub received : StartValues → LineArguments → RequestArguments → ReceiverValues → List HostPort
    → ReceiveArguments
received start lines requests receiver servers = record {
  session = start.session;
  next = start.next;
  lines = lines;
  servers = servers;
  window = receiver.window;
  store = receiver.store;
  requests = requests;
  audit = receiver.audit;
  quiet = receiver.quiet;
  stats = receiver.stats;
  output = receiver.output;
}

-- What `receive` asks for with these options apart from a journal, if their values are valid. Without `--patience` it
-- is 0, and adapts.
unfoldable pub receive_in : List Row → Option ReceiveArguments
receive_in rows =
    option_and_then
    (λ start. option_and_then
    (λ lines. option_and_then
    (λ requests. option_and_then
    (λ receiver. option_and_then
    (λ servers. Some (received start lines requests receiver servers))
    (servers_in rows))
    (receiver_in rows))
    (requests_in rows))
    (lines_in rows))
    (session_start_in rows)

-- Whether a receiver starts at message 1.
abbrev pub starts_at_1 : Option ℕ → Bool
starts_at_1 None = false
starts_at_1 (Some number) = number == 1

-- Whether messages are printed as blocks.
abbrev pub is_blocks : MessageFormat → Bool
is_blocks Lines = false
is_blocks Blocks = true
is_blocks BlocksToEmpty = true

-- Whether these options exclude a journal: it has all messages from message 1 on, and nothing is printed.
abbrev pub excludes_journal : ReceiveArguments → Bool
excludes_journal receive =
    not (starts_at_1 receive.next) || (nat_lt 0 receive.requests.give_up || is_blocks receive.output)

-- What `receive` asks for with this journal or none. `--no-sync` requires a journal.
abbrev pub kept_in : Option Text → Bool → ReceiveArguments → Option Arguments
kept_in None no_sync receive = if no_sync then None else Some (receive_wanted receive)
kept_in (Some journal) no_sync receive =
    if excludes_journal receive then None
    else Some (record_wanted (record { receive = receive; journal = journal; sync = not no_sync }))

-- What `receive` asks for with these options, if their values are valid.
unfoldable pub receive_of : List Row → Option Arguments
receive_of rows =
    option_and_then (kept_in (first_of (codes "journal") rows) (flag_in (codes "no-sync") rows)) (receive_in rows)

-- What `loop` asks for with these options, if their values are valid.
unfoldable pub loop_of : List Row → Option Arguments
loop_of rows =
    option_and_then
    (λ local. option_and_then
    (λ drop_a. option_and_then
    (λ drop_b. option_and_then
    (λ turns. option_and_then
    (λ format. Some (loop_wanted (record {
      session = local.session;
      limit = local.limit;
      server_limit = local.server_limit;
      window = local.window;
      burst = local.burst;
      drop_a = drop_a;
      drop_b = drop_b;
      turns = turns;
      report = report_in rows;
      format = format;
    })))
    (format_in rows))
    (turns_in rows))
    (number_in (codes "drop-b") 0 0 1000 rows))
    (number_in (codes "drop-a") 0 0 1000 rows))
    (local_in rows)

-- What `upgrade` asks for with these options, if its two file names differ.
unfoldable pub upgrade_of : List Row → Option Arguments
upgrade_of rows =
    option_and_then
    (λ journal. option_and_then
    (λ to. if bytes_eq journal to then None else Some (upgrade_wanted journal to (flag_in (codes "close") rows)))
    (first_of (codes "to") rows))
    (first_of (codes "journal") rows)

-- What `close` asks for with these options.
unfoldable pub close_of : List Row → Option Arguments
close_of rows = option_and_then (λ journal. Some (close_wanted journal)) (first_of (codes "journal") rows)

-- What `dump` asks for with these options, if their values are valid.
unfoldable pub dump_of : List Row → Option Arguments
dump_of rows =
    option_and_then
    (λ journal. option_and_then
    (λ from. option_and_then
    (λ count. option_and_then
    (λ output. Some (dump_wanted (record {
      journal = journal;
      follow = follow_in rows;
      from = from;
      count = count;
      output = output;
    })))
    (format_in rows))
    (count_in rows))
    (from_in rows))
    (first_of (codes "journal") rows)

-- What a command over ports asks for with these options, if the command has this name and their values are valid.
unfoldable pub port_order_at : Text → List Row → Option Arguments
port_order_at name rows =
    if bytes_eq name (codes "publish") then publish_of rows
    else if bytes_eq name (codes "feed") then feed_of rows
    else if bytes_eq name (codes "serve") then serve_of rows
    else if bytes_eq name (codes "listen") then listen_of rows
    else if bytes_eq name (codes "receive") then receive_of rows
    else if bytes_eq name (codes "loop") then loop_of rows
    else None

-- What the command of this name asks for with these options, if their values are valid.
unfoldable pub order_at : Text → List Row → Option Arguments
order_at name rows =
    if bytes_eq name (codes "show") then show_of rows
    else if bytes_eq name (codes "pack") then pack_of rows
    else if bytes_eq name (codes "sim") then sim_of rows
    else if bytes_eq name (codes "check") then check_of rows
    else if bytes_eq name (codes "extract") then extract_of rows
    else if bytes_eq name (codes "sessions") then sessions_of rows
    else if bytes_eq name (codes "upgrade") then upgrade_of rows
    else if bytes_eq name (codes "close") then close_of rows
    else if bytes_eq name (codes "dump") then dump_of rows
    else port_order_at name rows

-- What a command that was found with its options asks for, if all values are valid. Without a command it is to show
-- packets.
abbrev pub order_in : Option (Text × List Row) → Option Arguments
order_in None = Some (show_wanted false)
order_in (Some found) = if has_no_address found.0 found.1 then None else order_at found.0 found.1

-- Whether the command that was found has an option with an invalid address.
abbrev pub lacks_address : Option (Text × List Row) → Bool
lacks_address None = false
lacks_address (Some found) = has_no_address found.0 found.1

-- What the arguments `words` ask for: the command that `clap` finds in them, if the values of its options are valid.
unfoldable pub order_of : List Text → Option Arguments
order_of words = order_in (subcommand_of mold_app words)

-- `clap` finds no error in the arguments `words`, and they ask for `wanted`.
abbrev pub Say : List Text → Arguments → Type 0
Say words wanted = AreTaken words × (order_of words ≡ Some wanted)
