-- The origin of a datagram.
use Rattle.mold_receiver.specs.declared.origin.Origin.{Origin}
use Rattle.mold_receiver.specs.declared.origin.Origin.TheVariants.{Line as OnLine, Response}
use Rattle.mold_repair.specs.declared.origin.RepairOrigin.{RepairOrigin}
use Rattle.mold_repair.specs.declared.origin.RepairOrigin.TheVariants.{Line, Server}

-- The origin as the arbiter sees it.
abbrev pub receiver_origin : RepairOrigin → Origin
receiver_origin (Line line) = OnLine line
receiver_origin (Server server) = Response
