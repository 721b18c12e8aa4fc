-- What is known of a capture from the parts that were read.
use Rattle.std.specs.Prelude.{ℕ, ◌+◌, Bool, true, false, List, [], ◌∷◌, ◌++◌, length, Option, None, Some, nat_lt}
use Rattle.std.specs.Prelude.{if◌then◌else◌}
use Rattle.std.specs.Io.Iter.{u64_saturate}
use Rattle.mold_pcap.specs.declared.fault.CaptureFault.{CaptureFault}
use Rattle.mold_pcap.specs.declared.fault.CaptureFault.TheVariants.{Cut}
use Rattle.mold_pcap.specs.declared.interface.Interface.{Interface}
use Rattle.mold_pcap.specs.declared.kind.Kind.{Kind}
use Rattle.mold_pcap.specs.declared.kind.Kind.TheVariants.{Start, Classic, Blocks, Spent}
use Rattle.mold_pcap.specs.declared.limits.TheConstants.{MAX_INTERFACES}
use Rattle.mold_pcap.specs.declared.next.Next.{Next}
use Rattle.mold_pcap.specs.declared.next.Next.TheVariants.{Head, Section, Described}
use Rattle.mold_pcap.specs.declared.order.Order.{Order}
use Rattle.mold_pcap.specs.declared.order.Order.TheVariants.{Big}

-- The interfaces with one more, unless there are too many.
abbrev pub with_interface : List Interface → Interface → List Interface
with_interface interfaces interface =
    if nat_lt (length interfaces) MAX_INTERFACES then interfaces ++ interface ∷ [] else interfaces

-- What is known of a capture.
pub record FormatState : Type 0 where
  pub kind : Kind
  -- the order of the bytes of its numbers
  pub order : Order
  -- the offset of the next part
  pub at : ℕ
  -- the interfaces of the section
  pub interfaces : List Interface

-- Before the first part.
abbrev pub at_start : FormatState
at_start = record { kind = Start; order = Big; at = 0; interfaces = [] }

-- After a part of `used` bytes. The offset stays at `u64::MAX` once it is there.
abbrev pub moved_format : FormatState → ℕ → FormatState
moved_format format used = record format { at = u64_saturate (format.at + used) }

-- After a part of `used` bytes without a frame.
abbrev pub passed_format : FormatState → Next → ℕ → FormatState
passed_format format (Head order link resolution) used = record {
  kind = Classic link resolution;
  order = order;
  at = u64_saturate (format.at + used);
  interfaces = [];
}
passed_format format (Section order) used = record {
  kind = Blocks;
  order = order;
  at = u64_saturate (format.at + used);
  interfaces = [];
}
passed_format format (Described interface) used = record {
  kind = format.kind;
  order = format.order;
  at = u64_saturate (format.at + used);
  interfaces = with_interface format.interfaces interface;
}

-- After the end, or an error.
abbrev pub spent_format : FormatState → FormatState
spent_format format = record format { kind = Spent }

-- The fault of a capture that ends within the part that begins at this offset, or before it.
abbrev pub cut_in : ℕ → Bool → Option CaptureFault
cut_in at true = None
cut_in at false = Some (Cut at)

-- The fault of a capture that ends at this offset, or after a part of what begins there. Its head has to be there.
abbrev pub ends : Kind → ℕ → Bool → Option CaptureFault
ends Start at is_empty = Some (Cut at)
ends (Classic link resolution) at is_empty = cut_in at is_empty
ends Blocks at is_empty = cut_in at is_empty
ends Spent at is_empty = None
