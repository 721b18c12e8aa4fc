-- Defines the models of orders: what command-line arguments ask for.
use Rattle.std.specs.Prelude.{ℕ, Bool, List, Option, map, option_map, string_bytes}
use Rattle.clap.specs.Words.{Text}
use Rattle.mold_frame.specs.declared.ip_address.IpAddress.{IpAddress}
use Rattle.mold_input.specs.declared.message_format.MessageFormat.{MessageFormat}
use Rattle.mold_words.specs.Addresses.{HostPort, address_view}
use Rattle.mold_words.specs.LinePorts.{Port, line_port_view}
use Rattle.mold_words.specs.declared.capture_order.CaptureOrder.{CaptureOrder}
use Rattle.mold_words.specs.declared.extract_form.ExtractForm.{ExtractForm}
use Rattle.mold_words.specs.declared.feed_times.FeedTimes.{FeedTimes}
use Rattle.mold_words.specs.declared.input_order.InputOrder.{InputOrder}
use Rattle.mold_words.specs.declared.input_order.InputOrder.TheVariants.{Folder, Lines, Captures}
use Rattle.mold_words.specs.declared.judging.Judging.{Judging}
use Rattle.mold_words.specs.declared.judging.Judging.TheVariants.{Whole, Each, Save}
use Rattle.mold_words.specs.declared.line_options.LineOptions.{LineOptions}
use Rattle.mold_words.specs.declared.listen_options.ListenOptions.{ListenOptions}
use Rattle.mold_words.specs.declared.local_options.LocalOptions.{LocalOptions}
use Rattle.mold_words.specs.declared.published_options.PublishedOptions.{PublishedOptions}
use Rattle.mold_words.specs.declared.receive_order.ReceiveOrder.{ReceiveOrder}
use Rattle.mold_words.specs.declared.receiver_options.ReceiverOptions.{ReceiverOptions}
use Rattle.mold_words.specs.declared.request_options.RequestOptions.{RequestOptions}
use Rattle.mold_words.specs.declared.sent_lines.SentLines.{SentLines}
use Rattle.mold_words.specs.declared.start_options.StartOptions.{StartOptions}
use Rattle.mold_words.specs.declared.types.Order.{Order}
use Rattle.mold_words.specs.declared.types.Order.TheVariants.{Show, Pack, PackJournal, Sim, Check, Extract}
use Rattle.mold_words.specs.declared.types.Order.TheVariants.{Publish, Serve, Listen, Receive, Record, Loop}
use Rattle.mold_words.specs.declared.types.Order.TheVariants.{Feed, Upgrade, Close, Dump}
use Rattle.mold_words.specs.declared.types.Order.TheVariants.{ShowCaptures, Sessions}

-- The model of the options that `sim` and `loop` share.
pub record LocalArguments : Type 0 where
  pub session : List ℕ
  -- The maximum length of a datagram, in bytes.
  pub limit : ℕ
  -- The maximum length of a response, in bytes.
  pub server_limit : ℕ
  -- The window of a receiver, in messages.
  pub window : ℕ
  -- The maximum number of responses to a request.
  pub burst : ℕ

-- The model of a `sim` order.
pub record SimArguments : Type 0 where
  pub session : List ℕ
  -- The maximum length of a datagram, in bytes.
  pub limit : ℕ
  -- The maximum length of a response, in bytes.
  pub server_limit : ℕ
  -- The window of a receiver, in messages.
  pub window : ℕ
  -- The number of receivers.
  pub receivers : ℕ
  -- The maximum number of responses to a request.
  pub burst : ℕ

-- The model of the options of `publish` and `feed` about the session that they publish.
pub record PublishedArguments : Type 0 where
  pub session : List ℕ
  -- The maximum length of a datagram, in bytes.
  pub limit : ℕ
  -- The number of heartbeats after the messages.
  pub beats : ℕ
  -- The number of end packets after the heartbeats.
  pub ends : ℕ

-- The model of a `publish` order.
pub record PublishArguments : Type 0 where
  pub session : List ℕ
  -- The maximum length of a datagram, in bytes.
  pub limit : ℕ
  -- The address that line A is sent to.
  pub a : HostPort
  -- The address that line B is sent to.
  pub b : HostPort
  -- The name of the journal file.
  pub journal : Text
  -- The number of heartbeats after the messages.
  pub beats : ℕ
  -- The number of end packets after the heartbeats.
  pub ends : ℕ
  -- How the input encodes the messages.
  pub input : MessageFormat

-- The model of the options of `feed` about lines.
pub record SentArguments : Type 0 where
  -- The address that line A is sent to.
  pub a : HostPort
  -- The address that line B is sent to, if there is a second line.
  pub b : Option HostPort
  -- The IPv4 addresses that the lines are sent from.
  pub interface_a : List ℕ
  pub interface_b : List ℕ
  -- The TTL of a datagram to a multicast group.
  pub ttl : ℕ

-- The model of the options of `feed` about times.
pub record TimeArguments : Type 0 where
  -- The time without a datagram after which a heartbeat is sent, in milliseconds. With 0 none is.
  pub idle : ℕ
  -- The maximum number of messages in a second. With 0 there is none.
  pub rate : ℕ
  -- How long requests are responded to after the input has ended, in milliseconds.
  pub linger : ℕ

-- The model of a `feed` order.
pub record FeedArguments : Type 0 where
  pub session : List ℕ
  -- The maximum length of a datagram, in bytes.
  pub limit : ℕ
  pub lines : SentArguments
  -- The name of the journal file.
  pub journal : Text
  -- Whether the input has only the messages that follow those of the journal.
  pub append : Bool
  -- The address that receives requests, if there is one.
  pub bind : Option HostPort
  -- The maximum number of responses to a request.
  pub burst : ℕ
  pub times : TimeArguments
  -- How the input encodes the messages.
  pub input : MessageFormat
  -- The number of heartbeats after the messages.
  pub beats : ℕ
  -- The number of end packets after the heartbeats.
  pub ends : ℕ
  -- Whether the session stays open.
  pub stays_open : Bool

-- The model of a `serve` order.
pub record ServeArguments : Type 0 where
  -- The name of the journal file.
  pub journal : Text
  -- Whether new records of the file are read while requests are answered.
  pub follow : Bool
  -- The maximum length of a response, in bytes.
  pub limit : ℕ
  -- The maximum number of responses to a request.
  pub burst : ℕ
  -- The address that receives requests.
  pub bind : HostPort
  -- The number of turns, each of which makes one receive. With `None` it does not end.
  pub turns : Option ℕ
  -- Whether text is written at the end of each turn.
  pub live : Bool

-- The model of the options of `listen` apart from its addresses and its output.
pub record ListenValues : Type 0 where
  pub session : List ℕ
  -- The sequence number of the first message.
  pub next : ℕ
  -- The window of a receiver, in messages.
  pub window : ℕ
  -- The maximum number of responses to a request.
  pub burst : ℕ
  -- The maximum number of turns.
  pub turns : ℕ

-- The model of a `listen` order.
pub record ListenArguments : Type 0 where
  pub session : List ℕ
  -- The sequence number of the first message.
  pub next : ℕ
  -- The window of a receiver, in messages.
  pub window : ℕ
  -- The address that receives line A.
  pub a : HostPort
  -- The address that receives line B.
  pub b : HostPort
  -- The address that requests are sent to.
  pub server : HostPort
  -- The maximum number of responses to a request.
  pub burst : ℕ
  -- The maximum number of turns.
  pub turns : ℕ
  -- Whether text is written at the end of each turn.
  pub live : Bool
  -- Whether reports of both lines are printed before the last line.
  pub report : Bool
  -- The format in which messages are printed.
  pub output : MessageFormat

-- The model of the options of `receive` about lines.
pub record LineArguments : Type 0 where
  -- The port that receives line A.
  pub a : Port
  -- The port that receives line B, if there is a second line.
  pub b : Option Port
  -- The address that sends line A. `None` accepts all senders.
  pub source_a : Option (List ℕ)
  -- The same for line B.
  pub source_b : Option (List ℕ)

-- The model of the options of `receive` about requests.
pub record RequestArguments : Type 0 where
  -- How long a message is missing before it is requested, in microseconds. With 0 it adapts.
  pub patience : ℕ
  -- How long the first request for a message waits, in milliseconds.
  pub timeout : ℕ
  -- The maximum to which the timeout doubles, in milliseconds.
  pub ceiling : ℕ
  -- The maximum number of requests in a second.
  pub requests : ℕ
  -- The maximum number of requests in flight.
  pub in_flight : ℕ
  -- The number of unanswered requests after which a message is given up. With 0 none is.
  pub give_up : ℕ
  -- Whether responses are accepted from all senders. Otherwise the sender has the IPv4 address of a server.
  pub any_responder : Bool

-- The model of the options of `receive` about the start of a session.
pub record StartValues : Type 0 where
  -- The session. `None` asks for that of the first packet.
  pub session : Option (List ℕ)
  -- The sequence number of the first message. `None` asks for that of the first packet of the session.
  pub next : Option ℕ

-- The model of the options of `receive` about the receiver and its reports.
pub record ReceiverValues : Type 0 where
  -- The window of a receiver, in messages.
  pub window : ℕ
  -- The maximum size of the stored messages, in MiB.
  pub store : ℕ
  -- The number of delivered messages whose digests are kept.
  pub audit : ℕ
  -- The time without an accepted datagram after which `receive` ends, in seconds. With 0 it does not end.
  pub quiet : ℕ
  -- The time between two lines of statistics, in seconds. With 0 none is printed.
  pub stats : ℕ
  -- The format in which messages are printed.
  pub output : MessageFormat

-- The model of a `receive` order.
pub record ReceiveArguments : Type 0 where
  -- The session. `None` asks for that of the first packet.
  pub session : Option (List ℕ)
  -- The sequence number of the first message. `None` asks for that of the first packet of the session.
  pub next : Option ℕ
  pub lines : LineArguments
  -- The addresses that requests are sent to.
  pub servers : List HostPort
  -- The window of a receiver, in messages.
  pub window : ℕ
  -- The maximum size of the stored messages, in MiB.
  pub store : ℕ
  pub requests : RequestArguments
  -- The number of delivered messages whose digests are kept.
  pub audit : ℕ
  -- The time without an accepted datagram after which `receive` ends, in seconds. With 0 it does not end.
  pub quiet : ℕ
  -- The time between two lines of statistics, in seconds. With 0 none is printed.
  pub stats : ℕ
  -- The format in which messages are printed.
  pub output : MessageFormat

-- The model of a `receive` order with a journal.
pub record RecordArguments : Type 0 where
  pub receive : ReceiveArguments
  -- The name of the journal file.
  pub journal : Text
  -- Whether a commit waits for the disk.
  pub sync : Bool

-- The model of a `loop` order.
pub record LoopArguments : Type 0 where
  pub session : List ℕ
  -- The maximum length of a datagram, in bytes.
  pub limit : ℕ
  -- The maximum length of a response, in bytes.
  pub server_limit : ℕ
  -- The window of a receiver, in messages.
  pub window : ℕ
  -- The maximum number of responses to a request.
  pub burst : ℕ
  -- Line A leaves out every `drop_a`-th data packet, or none if it is 0.
  pub drop_a : ℕ
  -- Line B leaves out every `drop_b`-th data packet, or none if it is 0.
  pub drop_b : ℕ
  -- The maximum number of rounds of requests.
  pub turns : ℕ
  -- Whether reports of both lines are printed before the last line.
  pub report : Bool
  -- How the input encodes the messages, and the format in which they are printed.
  pub format : MessageFormat

-- The model of a `dump` order.
pub record DumpArguments : Type 0 where
  -- The name of the journal file.
  pub journal : Text
  -- Whether messages are printed as they are added to the file.
  pub follow : Bool
  -- The sequence number of the first message.
  pub from : ℕ
  -- The maximum number of messages.
  pub count : ℕ
  -- How the output encodes the messages.
  pub output : MessageFormat

-- The model of an order over captures.
pub record CaptureArguments : Type 0 where
  -- The names of the capture files, in the order in which they are read. `-` is standard input.
  pub captures : List Text
  -- The destination ports that pass. If there are none, every port passes.
  pub ports : List ℕ
  -- The destination addresses that pass. If there are none, every address passes.
  pub groups : List IpAddress
  -- The session that passes. With `None` every session passes.
  pub session : Option (List ℕ)

-- The model of where datagrams are read.
pub data InputArguments : Type 0 where
  -- The name of a folder.
  from_folder : Text → InputArguments
  from_lines : InputArguments
  from_captures : CaptureArguments → InputArguments

-- The model of how datagrams are judged.
pub data JudgingArguments : Type 0 where
  -- As one session, and whether digests are kept.
  whole_judged : Bool → JudgingArguments
  -- Each session by itself, and whether digests are kept.
  each_judged : Bool → JudgingArguments
  -- As one session, and the name of the file that a journal is saved in.
  saved_judged : Text → JudgingArguments

-- The model of a `check` order.
pub record CheckArguments : Type 0 where
  pub input : InputArguments
  pub judging : JudgingArguments

-- The model of an `extract` order.
pub record ExtractArguments : Type 0 where
  pub input : InputArguments
  -- The name of the file that is written.
  pub to : Text
  pub form : ExtractForm
  -- The sequence number of the first message.
  pub from : ℕ
  -- The maximum number of messages.
  pub count : ℕ

-- The model of an order: the command and the values of its options. `pack` has a session, the maximum datagram
-- length, how its input encodes the messages, and the journal file if there is one. `upgrade` has the two files and
-- whether the journal is closed, and `close` its file.
pub data Arguments : Type 0 where
  show_wanted : Bool → Arguments
  pack_wanted : List ℕ → ℕ → MessageFormat → Arguments
  pack_journal_wanted : List ℕ → ℕ → MessageFormat → Text → Arguments
  sim_wanted : SimArguments → Arguments
  check_wanted : CheckArguments → Arguments
  extract_wanted : ExtractArguments → Arguments
  show_captures_wanted : CaptureArguments → Arguments
  sessions_wanted : CaptureArguments → Arguments
  publish_wanted : PublishArguments → Arguments
  feed_wanted : FeedArguments → Arguments
  serve_wanted : ServeArguments → Arguments
  listen_wanted : ListenArguments → Arguments
  receive_wanted : ReceiveArguments → Arguments
  record_wanted : RecordArguments → Arguments
  loop_wanted : LoopArguments → Arguments
  upgrade_wanted : Text → Text → Bool → Arguments
  close_wanted : Text → Arguments
  dump_wanted : DumpArguments → Arguments

-- The model of the options of `listen` apart from its addresses and its output, as the program reads them.
abbrev pub listen_options_view : ListenOptions → ListenValues
listen_options_view options = record {
  session = options.session;
  next = options.next;
  window = options.window;
  burst = options.burst;
  turns = options.turns;
}

-- The model of the options that `sim` and `loop` share, as the program reads them.
abbrev pub local_options_view : LocalOptions → LocalArguments
local_options_view options = record {
  session = options.session;
  limit = options.limits.limit;
  server_limit = options.limits.server_limit;
  window = options.window;
  burst = options.burst;
}

-- The model of the options about a published session, as the program reads them.
abbrev pub published_options_view : PublishedOptions → PublishedArguments
published_options_view options = record {
  session = options.session;
  limit = options.limit;
  beats = options.beats;
  ends = options.ends;
}

-- The model of the options about lines, as the program reads them.
abbrev pub line_options_view : LineOptions → LineArguments
line_options_view options = record {
  a = line_port_view options.a;
  b = option_map line_port_view options.b;
  source_a = options.source_a;
  source_b = options.source_b;
}

-- The model of the options about requests, as the program reads them.
abbrev pub request_options_view : RequestOptions → RequestArguments
request_options_view options = record {
  patience = options.patience;
  timeout = options.timeout;
  ceiling = options.ceiling;
  requests = options.requests;
  in_flight = options.in_flight;
  give_up = options.give_up;
  any_responder = options.any_responder;
}

-- The model of the options about the start of a session, as the program reads them.
abbrev pub start_options_view : StartOptions → StartValues
start_options_view options = record { session = options.session; next = options.next }

-- The model of the options about the receiver, as the program reads them.
abbrev pub receiver_options_view : ReceiverOptions → ReceiverValues
receiver_options_view options = record {
  window = options.window;
  store = options.store;
  audit = options.audit;
  quiet = options.quiet;
  stats = options.stats;
  output = options.output;
}

-- The model of an order of `receive`, as the program reads it.
abbrev pub receive_view : ReceiveOrder → ReceiveArguments
receive_view order = record {
  session = order.session;
  next = order.next;
  lines = record {
    a = line_port_view order.a;
    b = option_map line_port_view order.b;
    source_a = order.source_a;
    source_b = order.source_b;
  };
  servers = map address_view order.servers.items;
  window = order.window;
  store = order.store;
  requests = record {
    patience = order.patience;
    timeout = order.timeout;
    ceiling = order.ceiling;
    requests = order.requests;
    in_flight = order.in_flight;
    give_up = order.give_up;
    any_responder = order.any_responder;
  };
  audit = order.audit;
  quiet = order.quiet;
  stats = order.stats;
  output = order.output;
}

-- The model of the options of `feed` about lines, as the program reads them.
abbrev pub sent_lines_view : SentLines → SentArguments
sent_lines_view lines = record {
  a = address_view lines.a;
  b = option_map address_view lines.b;
  interface_a = lines.interface_a;
  interface_b = lines.interface_b;
  ttl = lines.ttl;
}

-- The model of the options of `feed` about times, as the program reads them.
abbrev pub feed_times_view : FeedTimes → TimeArguments
feed_times_view times = record { idle = times.idle; rate = times.rate; linger = times.linger }

-- The model of an order over captures, as the program reads it.
abbrev pub capture_view : CaptureOrder → CaptureArguments
capture_view order = record {
  captures = map string_bytes order.captures.items;
  ports = order.ports.items;
  groups = order.groups.items;
  session = order.session;
}

-- The model of where datagrams are read, as the program reads it.
abbrev pub input_view : InputOrder → InputArguments
input_view (Folder name) = from_folder (string_bytes name)
input_view Lines = from_lines
input_view (Captures order) = from_captures (capture_view order)

-- The model of how datagrams are judged, as the program reads it.
abbrev pub judging_view : Judging → JudgingArguments
judging_view (Whole digest) = whole_judged digest
judging_view (Each digest) = each_judged digest
judging_view (Save journal) = saved_judged (string_bytes journal)

-- The model of the program's `Order`: its command and the values of its options.
abbrev pub view : Order → Arguments
view (Show request) = show_wanted request
view (Pack order) = pack_wanted order.session order.limit order.input
view (PackJournal order) =
    pack_journal_wanted order.pack.session order.pack.limit order.pack.input (string_bytes order.journal)
view (Sim order) = sim_wanted (record {
  session = order.session;
  limit = order.limits.limit;
  server_limit = order.limits.server_limit;
  window = order.window;
  receivers = order.receivers;
  burst = order.burst;
})
view (Check order) = check_wanted (record { input = input_view order.input; judging = judging_view order.judging })
view (Extract order) = extract_wanted (record {
  input = input_view order.input;
  to = string_bytes order.to;
  form = order.form;
  from = order.from;
  count = order.count;
})
view (ShowCaptures order) = show_captures_wanted (capture_view order)
view (Sessions order) = sessions_wanted (capture_view order)
view (Publish order) = publish_wanted (record {
  session = order.session;
  limit = order.limit;
  a = address_view order.a;
  b = address_view order.b;
  journal = string_bytes order.journal;
  beats = order.beats;
  ends = order.ends;
  input = order.input;
})
view (Feed order) = feed_wanted (record {
  session = order.session;
  limit = order.limit;
  lines = sent_lines_view order.lines;
  journal = string_bytes order.journal;
  append = order.append;
  bind = option_map address_view order.bind;
  burst = order.burst;
  times = feed_times_view order.times;
  input = order.input;
  beats = order.beats;
  ends = order.ends;
  stays_open = order.open;
})
view (Serve order) = serve_wanted (record {
  journal = string_bytes order.journal;
  follow = order.follow;
  limit = order.limit;
  burst = order.burst;
  bind = address_view order.bind;
  turns = order.turns;
  live = order.live;
})
view (Listen order) = listen_wanted (record {
  session = order.session;
  next = order.next;
  window = order.window;
  a = address_view order.a;
  b = address_view order.b;
  server = address_view order.server;
  burst = order.burst;
  turns = order.turns;
  live = order.live;
  report = order.report;
  output = order.output;
})
view (Receive order) = receive_wanted (receive_view order)
view (Record order) = record_wanted (record {
  receive = receive_view order.receive;
  journal = string_bytes order.journal;
  sync = order.sync;
})
view (Loop order) = loop_wanted (record {
  session = order.session;
  limit = order.limits.limit;
  server_limit = order.limits.server_limit;
  window = order.window;
  burst = order.burst;
  drop_a = order.drop_a;
  drop_b = order.drop_b;
  turns = order.turns;
  report = order.report;
  format = order.format;
})
view (Upgrade order) = upgrade_wanted (string_bytes order.journal) (string_bytes order.to) order.close
view (Close order) = close_wanted (string_bytes order.journal)
view (Dump order) = dump_wanted (record {
  journal = string_bytes order.journal;
  follow = order.follow;
  from = order.from;
  count = order.count;
  output = order.output;
})
