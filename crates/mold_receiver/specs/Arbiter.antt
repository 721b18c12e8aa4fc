-- The arbiter of two lines as contracts describe it.
use Rattle.std.specs.Prelude.{◌≡◌, ◌⊎◌, ℕ, ◌+◌, ◌≤◌, max, List, Option, None, Some, Result, Ok, Err, refl}
use Rattle.std.specs.Io.Iter.{u64_saturate}
use Rattle.std.specs.Coded.{Coded, code_by, coded×, coded_ℕ}
use Rattle.mold_wire.specs.Reading.{reading}
use Rattle.mold_receiver.specs.declared.line.Line.{Line}
use Rattle.mold_receiver.specs.declared.line.Line.TheVariants.{A, B}
use Rattle.mold_receiver.specs.declared.line.LineReport.{LineReport}
use Rattle.mold_receiver.specs.declared.line.LineReports.{LineReports}
use Rattle.mold_rule.specs.declared.refusal.Refusal.{Refusal}
use Rattle.mold_rule.specs.declared.refusal.Refusal.TheVariants.{Memory}
use Rattle.mold_receiver.specs.declared.taken.Taken.{Taken}
use Rattle.mold_receiver.specs.Batch.{Handed, followed_by}
use Rattle.mold_receiver.specs.Receive.{IsCopied, Reception, receive, top_read}
use Rattle.mold_receiver.specs.View.{View, view_code}

-- The model of an arbiter: the receiver's view and the reports of both lines.
pub record Arbitration : Type 0 where
  pub view : View
  pub reports : LineReports

-- The code of a line's report: the tuple of its fields.
abbrev pub report_code : Coded LineReport
report_code = code_by (ℕ × (ℕ × ℕ)) (coded× coded_ℕ (coded× coded_ℕ coded_ℕ))
    (λ r. (r.datagrams, (r.refused, r.front)))
    (λ p. record { datagrams = p.0; refused = p.1.0; front = p.1.1 })
    (λ _. refl)

-- The code of an arbitration: the tuple of its view and its reports.
abbrev pub arbitration_code : Coded Arbitration
arbitration_code = code_by (View × (LineReport × LineReport)) (coded× view_code (coded× report_code report_code))
    (λ a. (a.view, (a.reports.a, a.reports.b)))
    (λ p. record { view = p.0; reports = record { a = p.1.0; b = p.1.1 } })
    (λ _. refl)

-- The report of this line, out of the reports of both lines.
abbrev pub report_on : Line → LineReports → LineReport
report_on A reports = reports.a
report_on B reports = reports.b

-- The report of a line after a packet with this top was accepted on it. A count that reaches 2^64 - 1 stays there.
abbrev pub report_taken : LineReport → ℕ → LineReport
report_taken report top = record {
  datagrams = u64_saturate (report.datagrams + 1);
  refused = report.refused;
  front = max report.front top;
}

-- The report of a line after a datagram was refused on it. A count that reaches 2^64 - 1 stays there.
abbrev pub report_refused : LineReport → LineReport
report_refused report = record {
  datagrams = report.datagrams;
  refused = u64_saturate (report.refused + 1);
  front = report.front;
}

-- The reports of both lines after a packet with this top was accepted on one of them.
abbrev pub reports_taken : Line → LineReports → ℕ → LineReports
reports_taken A reports top = record { a = report_taken reports.a top; b = reports.b }
reports_taken B reports top = record { a = reports.a; b = report_taken reports.b top }

-- The reports of both lines after a datagram was refused on one of them.
abbrev pub reports_refused : Line → LineReports → LineReports
reports_refused A reports = record { a = report_refused reports.a; b = reports.b }
reports_refused B reports = record { a = reports.a; b = report_refused reports.b }

-- The arbitration after a datagram arrived, given the result of the receiving rule. The datagram came on a line, or
-- it is a server's response if there is no line.
abbrev pub arbitrated : Option Line → List ℕ → Arbitration → Result Reception Refusal → Arbitration
arbitrated None bytes old (Ok reception) = record { view = reception.view; reports = old.reports }
arbitrated None bytes old (Err refused) = old
arbitrated (Some line) bytes old (Ok reception) = record {
  view = reception.view;
  reports = reports_taken line old.reports (top_read (reading bytes));
}
arbitrated (Some line) bytes old (Err refused) = record { view = old.view; reports = reports_refused line old.reports }

-- The arbitration after a datagram arrived on a line, or as a server's response if there is no line.
abbrev pub arbitrates : Option Line → List ℕ → Arbitration → Arbitration
arbitrates line bytes old = arbitrated line bytes old (receive old.view bytes)

-- No line's `front` is above the receiver's `known`.
pub record IsArbitration (a : Arbitration) : Type 0 where
  pub front_a : a.reports.a.front ≤ a.view.known
  pub front_b : a.reports.b.front ≤ a.view.known

-- The arbiter accepted a datagram. Its new arbitration and the batch are what the receiving rule states, and `taken`
-- has the rule's counts.
pub record HasArbitrated (line : Option Line) (old : Arbitration) (bytes : List ℕ) (before : Handed)
    (new : Arbitration) (after : Handed) (taken : Taken) : Type 0 where
  -- The effect of the datagram by the receiving rule.
  pub reception : Reception
  pub received : receive old.view bytes ≡ Ok reception
  pub arbitration : new ≡ arbitrates line bytes old
  pub batch : after ≡ followed_by before old.view.next reception.handed
  -- The counts that the arbiter returned are the rule's.
  pub told : taken ≡ reception.taken

-- The arbiter refused a datagram. Either an allocation failed, and nothing changed. Or the receiving rule refuses the
-- datagram: the view is unchanged, and if the datagram came on a line, the line's report counts it.
abbrev pub HasRefused : Option Line → Arbitration → List ℕ → Arbitration → Refusal → Type 0
HasRefused line old bytes new refused =
    ((refused ≡ Memory) × IsCopied old.view bytes × (new ≡ old)) ⊎
    ((receive old.view bytes ≡ Err refused) × (new ≡ arbitrates line bytes old))
