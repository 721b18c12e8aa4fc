use Rattle.mold_wire.proofs.TruthLemmas.{true_top, true_messages, true_carries, piece_is_true}
use Rattle.mold_wire.proofs.laws.true_packet_law.Goals as goal

pub returns-clause-top : goal.returns-clause-top
returns-clause-top c packet published closed is told = true_top packet published closed is told

pub returns-clause-messages : goal.returns-clause-messages
returns-clause-messages c packet published closed is told = true_messages packet published closed is told

pub returns-clause-carried : goal.returns-clause-carried
returns-clause-carried c packet published closed number message told at =
    true_carries packet published closed number message told at

pub returns-clause-piece : goal.returns-clause-piece
returns-clause-piece c packet published behind closed few first carries parts =
    piece_is_true packet published behind closed few first carries parts
