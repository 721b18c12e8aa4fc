use Rattle.std.proofs.Common.{◌∙◌, arith}
use Rattle.mold_wire.proofs.ReadingLemmas.{reading_answer, reading-spelled, reading-fault}
use Rattle.mold_wire.proofs.reading.decode.Goals as goal

pub returns-clause-exact : goal.returns-clause-exact
returns-clause-exact c =
    reading_answer c.read_packet.result c.args.bytes.now (λ i. omega (arith, c.type_inv.bytes i))
    c.read_packet.ensures.spelled c.read_packet.ensures.fault

pub returns-clause-only : goal.returns-clause-only
returns-clause-only c packet spells = returns-clause-exact c ∙ reading-spelled packet c.args.bytes.now spells

pub returns-clause-refused : goal.returns-clause-refused
returns-clause-refused c error fault =
    returns-clause-exact c ∙ reading-fault error c.args.bytes.now (λ i. omega (arith, c.type_inv.bytes i)) fault
