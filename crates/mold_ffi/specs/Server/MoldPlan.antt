-- A plan as the fields of a struct.
use Rattle.mold_session.specs.Answer.{PlanState}
use Rattle.mold_ffi.specs.declared.server.mold_plan.MoldPlan.{MoldPlan}

-- The fields of a plan.
abbrev pub plan_fields : PlanState → MoldPlan
plan_fields plan = record { from = plan.from; to = plan.to; left = plan.left; session = plan.session.0 }

-- The plan with these fields.
abbrev pub plan_of : MoldPlan → PlanState
plan_of fields =
    record { session = record { 0 = fields.session }; from = fields.from; to = fields.to; left = fields.left }
