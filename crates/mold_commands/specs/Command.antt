-- Defines what an order that reads standard input prints for it, and its status.
use Rattle.std.specs.Prelude.{ℕ, List, [], ⊤, false}
use Rattle.mold_check.specs.CheckLines.{check_status, check_text}
use Rattle.mold_show.specs.Pack.{pack_text, pack_status}
use Rattle.mold_show.specs.Show.{show_text, show_status}
use Rattle.mold_sim.specs.Sim.{SimState, sim_beginning, sim_status, sim_text}
use Rattle.mold_words.specs.declared.input_order.InputOrder.{InputOrder}
use Rattle.mold_words.specs.declared.input_order.InputOrder.TheVariants.{Lines}
use Rattle.mold_words.specs.declared.judging.Judging.{Judging}
use Rattle.mold_words.specs.declared.judging.Judging.TheVariants.{Whole}
use Rattle.mold_words.specs.declared.sim_order.SimOrder.{SimOrder}
use Rattle.mold_words.specs.declared.types.Order.{Order}
use Rattle.mold_words.specs.declared.types.Order.TheVariants.{Show, Pack, PackJournal, Sim, Check, Extract}
use Rattle.mold_words.specs.declared.types.Order.TheVariants.{Publish, Feed, Serve, Listen, Receive, Record, Loop}
use Rattle.mold_words.specs.declared.types.Order.TheVariants.{Upgrade, Close, Dump, ShowCaptures, Sessions}

-- The state of the simulation at the start of the order's script.
abbrev pub sim_start : SimOrder → SimState
sim_start order = sim_beginning (record { 0 = order.session }) order.limits.limit order.limits.server_limit order.burst
    order.window order.receivers

-- The check reads lines and judges them as one session, of whose messages it keeps no digests.
abbrev pub ChecksLines : InputOrder → Judging → Type 0
ChecksLines Lines (Whole false) = ⊤
ChecksLines _ _ = ⊥

-- The text that such a check prints for the whole input.
abbrev pub lines_text : InputOrder → Judging → List ℕ → List ℕ
lines_text Lines (Whole false) input = check_text input
lines_text _ _ input = []

-- The status of such a check for the whole input.
abbrev pub lines_status : InputOrder → Judging → List ℕ → ℕ
lines_status Lines (Whole false) input = check_status input
lines_status _ _ input = 0

-- The order reads lines or message blocks from a source and prints text: it is `show`, `pack` without a journal, `sim`
-- or `check -` without options. `pack` with a journal writes a file too. Other checks, an extraction, an upgrade, a
-- close, a dump and the orders over captures read or write files, and the remaining orders use ports.
abbrev pub IsStreamed : Order → Type 0
IsStreamed (Show requests) = ⊤
IsStreamed (Pack order) = ⊤
IsStreamed (PackJournal order) = ⊥
IsStreamed (Sim order) = ⊤
IsStreamed (Check order) = ChecksLines order.input order.judging
IsStreamed (Extract order) = ⊥
IsStreamed (ShowCaptures order) = ⊥
IsStreamed (Sessions order) = ⊥
IsStreamed (Publish order) = ⊥
IsStreamed (Feed order) = ⊥
IsStreamed (Serve order) = ⊥
IsStreamed (Listen order) = ⊥
IsStreamed (Receive order) = ⊥
IsStreamed (Record order) = ⊥
IsStreamed (Loop order) = ⊥
IsStreamed (Upgrade order) = ⊥
IsStreamed (Close order) = ⊥
IsStreamed (Dump order) = ⊥

-- The text that an order prints for the whole input. It is empty if the order is not `IsStreamed`.
abbrev pub text : Order → List ℕ → List ℕ
text (Show requests) input = show_text requests input
text (Pack order) input = pack_text order.input (record { 0 = order.session }) order.limit input
text (PackJournal order) input = []
text (Sim order) input = sim_text (sim_start order) input
text (Check order) input = lines_text order.input order.judging input
text (Extract order) input = []
text (ShowCaptures order) input = []
text (Sessions order) input = []
text (Publish order) input = []
text (Feed order) input = []
text (Serve order) input = []
text (Listen order) input = []
text (Receive order) input = []
text (Record order) input = []
text (Loop order) input = []
text (Upgrade order) input = []
text (Close order) input = []
text (Dump order) input = []

-- The status of an order for the whole input: 0 if all is accepted, 2 if something is refused. For `check -` it is 1
-- if the session is not complete.
abbrev pub status : Order → List ℕ → ℕ
status (Show requests) input = show_status requests input
status (Pack order) input = pack_status order.input (record { 0 = order.session }) order.limit input
status (PackJournal order) input = 0
status (Sim order) input = sim_status (sim_start order) input
status (Check order) input = lines_status order.input order.judging input
status (Extract order) input = 0
status (ShowCaptures order) input = 0
status (Sessions order) input = 0
status (Publish order) input = 0
status (Feed order) input = 0
status (Serve order) input = 0
status (Listen order) input = 0
status (Receive order) input = 0
status (Record order) input = 0
status (Loop order) input = 0
status (Upgrade order) input = 0
status (Close order) input = 0
status (Dump order) input = 0
