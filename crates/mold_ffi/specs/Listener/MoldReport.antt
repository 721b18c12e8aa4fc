-- The report of a line as the fields of a struct.
use Rattle.mold_receiver.specs.declared.line.LineReport.{LineReport}
use Rattle.mold_ffi.specs.declared.listener.mold_report.MoldReport.{MoldReport}

-- The fields of the report of a line.
abbrev pub reported : LineReport → MoldReport
reported report = record { datagrams = report.datagrams; refused = report.refused; front = report.front }
