-- The numbers by which a caller of a repairer names the origins of datagrams.
use Rattle.std.specs.Prelude.{ℕ, ◌-◌, ◌==◌, nat_lt, if◌then◌else◌, Option, None, Some}
use Rattle.mold_receiver.specs.declared.line.Line.TheVariants.{A, B}
use Rattle.mold_repair.specs.declared.origin.RepairOrigin.{RepairOrigin}
use Rattle.mold_repair.specs.declared.origin.RepairOrigin.TheVariants.{Line, Server}

-- The origin with this number: 0 is line A, 1 is line B, and each further one is a server, from server 0 on. No other
-- number names an origin.
abbrev pub repair_origin_at : ℕ → ℕ → Option RepairOrigin
repair_origin_at servers number = if number == 0 then Some (Line A) else if number == 1 then Some (Line B)
    else if nat_lt (number - 2) servers then Some (Server (number - 2)) else None
