use Rattle.std.proofs.Common.{◌≡◌, ◌+◌, ◌≤◌, length}
use Rattle.std.specs.Io.KnownBytes.{prepend_known}
use Rattle.mold_devices.specs.Lines.{work_left}
use Rattle.mold_input.proofs.JoiningLemmas.{Joining}
use Rattle.mold_input.proofs.message_blocks.join_block.Given as goal

-- The joined bytes were taken from the input, at most one block, and no device failed.
abbrev pub invariant-pieces : goal.invariant-pieces
invariant-pieces g l = record {
  joining : Joining (prepend_known l.fn.piece (g.S.Source.left l.fn.source))
      (prepend_known l.piece (g.S.Source.left l.source)) l.joined.items;
  work : work_left (g.S.Source.bound l.source) l.piece + length l.joined.items
      ≤ work_left (g.S.Source.bound l.fn.source) l.fn.piece;
  failures : g.S.Source.failed l.source ≡ g.S.Source.failed l.fn.source;
}

abbrev pub decreases-pieces : goal.decreases-pieces
decreases-pieces g l = work_left (g.S.Source.bound l.source) l.piece
