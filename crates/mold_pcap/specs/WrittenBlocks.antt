-- Captures of pcapng as a writer writes them.
use Rattle.std.specs.Prelude.{◌≡◌, ◌≢◌, ℕ, ◌+◌, ◌-◌, ◌/◌, ◌%◌, ◌^◌, ◌<◌, ◌≤◌, Bool, true, false, List, [], ◌∷◌, ◌++◌}
use Rattle.std.specs.Prelude.{length, replicate, slice_get}
use Rattle.std.specs.Prelude.{Option, None, Some, IsSomeAnd, ⊤}
use Rattle.std.specs.List.{AllByRecursion, flat_map}
use Rattle.mold_pcap.specs.Blocks.{snapped}
use Rattle.mold_pcap.specs.Captures.{Frame}
use Rattle.mold_pcap.specs.Options.{padded, with_option}
use Rattle.mold_pcap.specs.Times.{units_time}
use Rattle.mold_pcap.specs.Written.{number_bytes}
use Rattle.mold_pcap.specs.declared.clock.Clock.{Clock}
use Rattle.mold_pcap.specs.declared.interface.Interface.{Interface}
use Rattle.mold_pcap.specs.declared.limits.TheConstants.{MAX_BLOCK, MAX_INTERFACES}
use Rattle.mold_pcap.specs.declared.order.Order.{Order}

-- An option of an interface description.
pub record WrittenOption : Type 0 where
  pub code : ℕ
  pub value : List ℕ

-- An option: its code, the length of its value, its value, and zeros up to a multiple of 4 bytes.
abbrev pub option_bytes : Order → WrittenOption → List ℕ
option_bytes order option = number_bytes order 2 option.code
    ++ (number_bytes order 2 (length option.value)
    ++ (option.value ++ replicate (padded (length option.value) - length option.value) 0))

-- What ends a list of options, if it is written.
abbrev pub end_bytes : Bool → List ℕ
end_bytes true = 0 ∷ 0 ∷ 0 ∷ 0 ∷ []
end_bytes false = []

-- The code of an option is not that of the end, and its numbers fit.
pub record IsOption (option : WrittenOption) : Type 0 where
  pub some : 0 < option.code
  pub code : option.code < 2 ^ 16
  pub value : length option.value < 2 ^ 16

-- The clock after options.
abbrev pub clock_after : Order → Clock → List WrittenOption → Clock
clock_after order clock [] = clock
clock_after order clock (option ∷ options) =
    clock_after order (with_option order clock option.code option.value) options

-- An interface description, with or without the option that ends a list.
pub record WrittenInterface : Type 0 where
  pub link : ℕ
  pub reserved : ℕ
  pub snaplen : ℕ
  pub options : List WrittenOption
  pub ended : Bool

-- The options, with the option that ends the list if it is there.
abbrev pub options_bytes : Order → WrittenInterface → List ℕ
options_bytes order w = flat_map (option_bytes order) w.options ++ end_bytes w.ended

-- The interface that is described.
abbrev pub described : Order → WrittenInterface → Interface
described order w = record {
  link = w.link;
  snaplen = w.snaplen;
  clock = clock_after order (record { tsresol = 6; tsoffset = 0 }) w.options;
}

-- An enhanced packet. `rest` is what follows the frame: its padding, and options.
pub record EnhancedPacket : Type 0 where
  pub interface : ℕ
  pub units : ℕ
  pub original : ℕ
  pub bytes : List ℕ
  pub rest : List ℕ

-- A simple packet. `rest` is the padding of its frame.
pub record SimplePacket : Type 0 where
  pub original : ℕ
  pub bytes : List ℕ
  pub rest : List ℕ

-- A block. A section header begins with the byte-order magic, which its bytes here do not have.
pub data Block : Type 0 where
  header : Order → List ℕ → Block
  description : WrittenInterface → Block
  enhanced : EnhancedPacket → Block
  simple : SimplePacket → Block
  another : ℕ → List ℕ → Block

-- The block's kind.
abbrev pub kind_of : Block → ℕ
kind_of (header order bytes) = 0x0a0d0d0a
kind_of (description w) = 1
kind_of (enhanced p) = 6
kind_of (simple p) = 3
kind_of (another kind bytes) = kind

-- The block's bytes between its first total length and its last one. A section header has its own order.
abbrev pub body_of : Order → Block → List ℕ
body_of order (header own bytes) = number_bytes order 4 0x1a2b3c4d ++ bytes
body_of order (description w) = number_bytes order 2 w.link
    ++ (number_bytes order 2 w.reserved ++ (number_bytes order 4 w.snaplen ++ options_bytes order w))
body_of order (enhanced p) = number_bytes order 4 p.interface
    ++ (number_bytes order 4 (p.units / 2 ^ 32)
    ++ (number_bytes order 4 (p.units % 2 ^ 32)
    ++ (number_bytes order 4 (length p.bytes)
    ++ (number_bytes order 4 p.original
    ++ (p.bytes ++ p.rest)))))
body_of order (simple p) = number_bytes order 4 p.original ++ (p.bytes ++ p.rest)
body_of order (another kind bytes) = bytes

-- The order of the numbers from a block on: a section header has its own.
abbrev pub order_after : Order → Block → Order
order_after order (header own bytes) = own
order_after order (description w) = order
order_after order (enhanced p) = order
order_after order (simple p) = order
order_after order (another kind bytes) = order

-- A block of this kind: its total length is before and after its body.
abbrev pub block_bytes : Order → ℕ → List ℕ → List ℕ
block_bytes order kind body = number_bytes order 4 kind
    ++ (number_bytes order 4 (12 + length body) ++ (body ++ number_bytes order 4 (12 + length body)))

-- The block with its kind and both total lengths.
abbrev pub written : Order → Block → List ℕ
written order block = block_bytes order (kind_of block) (body_of order block)

-- Blocks, one after another.
abbrev pub blocks_bytes : Order → List Block → List ℕ
blocks_bytes order [] = []
blocks_bytes order (block ∷ blocks) =
    written (order_after order block) block ++ blocks_bytes (order_after order block) blocks

-- The interfaces of the section after a block.
abbrev pub interfaces_after : Order → List Interface → Block → List Interface
interfaces_after order interfaces (header own bytes) = []
interfaces_after order interfaces (description w) = interfaces ++ described order w ∷ []
interfaces_after order interfaces (enhanced p) = interfaces
interfaces_after order interfaces (simple p) = interfaces
interfaces_after order interfaces (another kind bytes) = interfaces

-- The frame of an enhanced packet of this interface.
abbrev pub enhanced_frames : EnhancedPacket → Option Interface → List Frame
enhanced_frames p None = []
enhanced_frames p (Some interface) =
    record { link = interface.link; time = units_time interface.clock p.units; bytes = p.bytes } ∷ []

-- The frame of a simple packet of this interface.
abbrev pub simple_frames : SimplePacket → Option Interface → List Frame
simple_frames p None = []
simple_frames p (Some interface) = record { link = interface.link; time = None; bytes = p.bytes } ∷ []

-- The frames of a block, in a section with these interfaces.
abbrev pub block_frames : List Interface → Block → List Frame
block_frames interfaces (header own bytes) = []
block_frames interfaces (description w) = []
block_frames interfaces (enhanced p) = enhanced_frames p (slice_get interfaces p.interface)
block_frames interfaces (simple p) = simple_frames p (slice_get interfaces 0)
block_frames interfaces (another kind bytes) = []

-- The frames of blocks, which follow those that state this order and these interfaces.
abbrev pub frames_in : Order → List Interface → List Block → List Frame
frames_in order interfaces [] = []
frames_in order interfaces (block ∷ blocks) = block_frames interfaces block
    ++ frames_in (order_after order block) (interfaces_after order interfaces block) blocks

-- The kind is not one of those that are read.
pub record IsOtherKind (kind : ℕ) : Type 0 where
  pub fits : kind < 2 ^ 32
  pub header : kind ≢ 0x0a0d0d0a
  pub description : kind ≢ 1
  pub simple : kind ≢ 3
  pub enhanced : kind ≢ 6

-- A captured frame of a simple packet is as long as the snapshot length allows.
abbrev pub IsSnapped : SimplePacket → Interface → Type 0
IsSnapped p interface = length p.bytes ≡ snapped interface.snaplen p.original

-- The length of a body is a multiple of 4, and its block has at most `most` bytes.
pub record IsBody (most : ℕ) (body : List ℕ) : Type 0 where
  pub fourths : length body % 4 ≡ 0
  pub few : 12 + length body ≤ most

-- The block's numbers fit, and its interface is one of these.
abbrev pub IsBlock : Order → List Interface → Block → Type 0
IsBlock order interfaces (header own bytes) = (12 ≤ length bytes) × IsBody MAX_BLOCK (body_of own (header own bytes))
IsBlock order interfaces (description w) = IsBody MAX_BLOCK (body_of order (description w)) × (w.link < 2 ^ 16)
    × (w.snaplen < 2 ^ 32) × AllByRecursion IsOption w.options × (length interfaces < MAX_INTERFACES)
IsBlock order interfaces (enhanced p) = IsBody MAX_BLOCK (body_of order (enhanced p)) × (p.interface < 2 ^ 32)
    × (p.units < 2 ^ 64) × IsSomeAnd (slice_get interfaces p.interface) (λ _. ⊤)
IsBlock order interfaces (simple p) = IsBody MAX_BLOCK (body_of order (simple p)) × (p.original < 2 ^ 32)
    × IsSomeAnd (slice_get interfaces 0) (IsSnapped p)
IsBlock order interfaces (another kind bytes) = IsOtherKind kind × IsBody (2 ^ 32 - 1) bytes

-- The same for blocks, one after another.
abbrev pub AreBlocks : Order → List Interface → List Block → Type 0
AreBlocks order interfaces [] = ⊤
AreBlocks order interfaces (block ∷ blocks) = IsBlock order interfaces block
    × AreBlocks (order_after order block) (interfaces_after order interfaces block) blocks
