-- The result of the receiving rule as the fields of a struct.
use Rattle.std.specs.Prelude.{ℕ, Result, Ok, Err}
use Rattle.mold_receiver.specs.Receive.{Reception}
use Rattle.mold_rule.specs.declared.refusal.Refusal.{Refusal}
use Rattle.mold_ffi.specs.Code.Refusal.{refusal_number}
use Rattle.mold_ffi.specs.declared.listener.mold_taken.MoldTaken.{MoldTaken}

-- The fields of a result of the receiving rule: the three counts, or the number that goes with the refusal. The padding
-- `unused` is unchanged.
abbrev pub taking_fields : Result Reception Refusal → ℕ → MoldTaken
taking_fields (Ok reception) unused = record {
  detail = 0;
  delivered = reception.taken.handed;
  kept = reception.taken.kept;
  dropped = reception.taken.beyond;
  unused = unused;
}
taking_fields (Err refusal) unused =
    record { detail = refusal_number refusal; delivered = 0; kept = 0; dropped = 0; unused = unused }
