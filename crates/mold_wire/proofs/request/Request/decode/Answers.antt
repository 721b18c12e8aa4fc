use Rattle.std.proofs.Common.{◌∙◌}
use Rattle.mold_wire.proofs.RequestLemmas.{request_answer, request_reading-spelled}
use Rattle.mold_wire.proofs.request.Request.decode.Goals as goal

pub returns-clause-exact : goal.returns-clause-exact
returns-clause-exact c =
    request_answer c.read_request.result c.args.bytes.now c.read_request.ensures.spelled c.read_request.ensures.fault

pub returns-clause-only : goal.returns-clause-only
returns-clause-only c request spells = returns-clause-exact c ∙ request_reading-spelled request c.args.bytes.now spells
