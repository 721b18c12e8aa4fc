-- The states of a UDP port that is beside other ports.
use Rattle.std.specs.Prelude.{Option, None, Some, Result, Ok, Err}
use Rattle.mold_ports.specs.declared.outlook.Outlook.{Outlook}
use Rattle.mold_ports.specs.declared.outlook.Outlook.TheVariants.{Quiet, Busy, Asking, Unanswered}

-- The state after a datagram was sent.
abbrev pub after_sent : Outlook → Outlook
after_sent Quiet = Asking
after_sent Busy = Asking
after_sent Asking = Asking
after_sent Unanswered = Unanswered

-- The state after a receive that gave no datagram.
abbrev pub after_nothing : Outlook → Outlook
after_nothing Quiet = Quiet
after_nothing Busy = Quiet
after_nothing Asking = Unanswered
after_nothing Unanswered = Unanswered

-- The state of a UDP port (`UdpPort::outlook`) after a send, by the send's result. A send that failed does not change
-- the state.
abbrev pub after_send : {E : Type 0} → Result (Unit {0}) E → Outlook → Outlook
after_send (Ok unit) outlook = after_sent outlook
after_send (Err fault) outlook = outlook

-- The state of a UDP port (`UdpPort::outlook`) after a receive, by the receive's result.
abbrev pub after_receive : {A E : Type 0} → Result (Option A) E → Outlook → Outlook
after_receive (Ok (Some found)) outlook = Busy
after_receive (Ok None) outlook = after_nothing outlook
after_receive (Err fault) outlook = after_nothing outlook
