-- No line's `front` is above what the receiver knows.
use Rattle.std.proofs.Common.{◌≡◌, ℕ, ◌≤◌, max, List, sym, ap, ◌∙◌, arith}
use Rattle.std.specs.Prelude.{None, Some, Ok}
use Rattle.mold_wire.specs.Packet.{top_of}
use Rattle.mold_wire.specs.Reading.{reading}
use Rattle.mold_receiver.specs.declared.line.Line.{Line}
use Rattle.mold_receiver.specs.declared.line.Line.TheVariants.{A, B}
use Rattle.mold_receiver.specs.declared.line.LineReports.{LineReports}
use Rattle.mold_receiver.specs.Arbiter.{Arbitration, IsArbitration, arbitrated, reports_taken, reports_refused}
use Rattle.mold_receiver.specs.Batch.{Handed}
use Rattle.mold_receiver.specs.Own.{HasArbitratedOwn, HasHeard}
use Rattle.mold_receiver.specs.Receive.{Reception, receive, top_read}
use Rattle.mold_receiver.specs.Store.{Message}
use Rattle.mold_receiver.specs.declared.taken.Taken.{Taken}
use Rattle.mold_receiver.specs.View.{View}
use Rattle.mold_receiver.proofs.LawLemmas.{is_taken}

reports_kept : (line : Line) (reports : LineReports) (top known new : ℕ) → reports.a.front ≤ known →
    reports.b.front ≤ known
    → new ≡ max known top
    → ((reports_taken line reports top).a.front ≤ new) × ((reports_taken line reports top).b.front ≤ new)
reports_kept A reports top known new a b is = (omega (arith, a, is), omega (arith, b, is))
reports_kept B reports top known new a b is = (omega (arith, a, is), omega (arith, b, is))

-- This holds after a datagram was accepted on a line and after one was refused on it.
pub taken_kept : (line : Line) (old : Arbitration) (bytes : List ℕ) (r : Reception) → IsArbitration old →
    receive old.view bytes ≡ Ok r → IsArbitration (arbitrated (Some line) bytes old (Ok r))
taken_kept line old bytes r is received =
    let taken = is_taken old.view bytes r received in
    let known : r.view.known ≡ max old.view.known (top_of taken.packet) =
    ap (λ (t : Reception). t.view.known) taken.taken in
    let top : top_read (reading bytes) ≡ top_of taken.packet = ap top_read taken.read in
    let kept = reports_kept line old.reports
    (top_read (reading bytes)) old.view.known r.view.known is.front_a is.front_b (known
    ∙ ap (max old.view.known) (sym top)) in
    record { front_a = kept.0; front_b = kept.1 }

pub refused_kept : (line : Line) (view : View) (reports : LineReports) →
    IsArbitration (record { view = view; reports = reports })
    → IsArbitration (record { view = view; reports = reports_refused line reports })
refused_kept A view reports is = record { front_a = is.front_a; front_b = is.front_b }
refused_kept B view reports is = record { front_a = is.front_a; front_b = is.front_b }

-- It holds after a server's response, since `known` never falls.
pub answer_kept : (old : Arbitration) (bytes : List ℕ) (r : Reception) → IsArbitration old →
    receive old.view bytes ≡ Ok r → IsArbitration (record { view = r.view; reports = old.reports })
answer_kept old bytes r is received =
    let taken = is_taken old.view bytes r received in
    let known : r.view.known ≡ max old.view.known (top_of taken.packet) =
    ap (λ (t : Reception). t.view.known) taken.taken in
    record { front_a = omega (arith, is.front_a, known); front_b = omega (arith, is.front_b, known) }

-- The arbiter took a datagram of a line without a copy, as its receiver did.
pub heard_on : (line : Line) (old : Arbitration) (bytes : List ℕ) (view : View) (reports : LineReports) (top : ℕ)
    (own : List Message) (after : Handed) (taken : Taken)
    → HasHeard old.view bytes view own after taken → top ≡ top_read (reading bytes) →
    reports ≡ reports_taken line old.reports top
    → HasArbitratedOwn (Some line) old bytes (record { view = view; reports = reports }) own after taken
heard_on line old bytes view reports top own after taken h tops is =
    let noted = is ∙ ap (reports_taken line old.reports) tops in
    record {
      reception = h.reception;
      received = h.received;
      arbitration = (λ i. record { view = h.view i; reports = noted i })
          ∙ ap (arbitrated (Some line) bytes old) (sym h.received);
      delivers = h.delivers;
    }

-- The same for a server's response.
pub heard_off : (old : Arbitration) (bytes : List ℕ) (view : View) (own : List Message) (after : Handed) (taken : Taken)
    → HasHeard old.view bytes view own after taken
    → HasArbitratedOwn None old bytes (record { view = view; reports = old.reports }) own after taken
heard_off old bytes view own after taken h = record {
  reception = h.reception;
  received = h.received;
  arbitration = (λ i. record { view = h.view i; reports = old.reports })
      ∙ ap (arbitrated None bytes old) (sym h.received);
  delivers = h.delivers;
}
