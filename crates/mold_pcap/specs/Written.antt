-- Captures as a writer writes them.
use Rattle.std.specs.Prelude.{ℕ, ◌%◌, ◌^◌, ◌<◌, ◌≤◌, List, ◌++◌, length, Some}
use Rattle.byteorder.specs.Endian.{big_bytes, little_bytes}
use Rattle.mold_pcap.specs.Captures.{Frame}
use Rattle.mold_pcap.specs.Times.{classic_time}
use Rattle.mold_pcap.specs.declared.limits.TheConstants.{MAX_CAPTURED}
use Rattle.mold_pcap.specs.declared.order.Order.{Order}
use Rattle.mold_pcap.specs.declared.order.Order.TheVariants.{Big, Little}
use Rattle.mold_pcap.specs.declared.resolution.Resolution.{Resolution}
use Rattle.mold_pcap.specs.declared.resolution.Resolution.TheVariants.{Microseconds, Nanoseconds}

-- A number in `n` bytes.
abbrev pub number_bytes : Order → ℕ → ℕ → List ℕ
number_bytes Big n x = big_bytes n x
number_bytes Little n x = little_bytes n x

-- The magic of a classic capture.
abbrev pub magic_of : Resolution → ℕ
magic_of Microseconds = 0xa1b2c3d4
magic_of Nanoseconds = 0xa1b23c4d

-- The head of a classic capture of version 2. Its link type is the lower half of `network`.
pub record ClassicHead : Type 0 where
  pub order : Order
  pub resolution : Resolution
  pub minor : ℕ
  pub zone : ℕ
  pub accuracy : ℕ
  pub snaplen : ℕ
  pub network : ℕ

-- The head of the file: 24 bytes.
abbrev pub head_bytes : ClassicHead → List ℕ
head_bytes head = number_bytes head.order 4 (magic_of head.resolution)
    ++ (number_bytes head.order 2 2
    ++ (number_bytes head.order 2 head.minor
    ++ (number_bytes head.order 4 head.zone
    ++ (number_bytes head.order 4 head.accuracy
    ++ (number_bytes head.order 4 head.snaplen
    ++ number_bytes head.order 4 head.network)))))

-- A record of a classic capture: a frame with its time, and the length that it had before it was captured.
pub record ClassicRecord : Type 0 where
  pub seconds : ℕ
  pub fraction : ℕ
  pub original : ℕ
  pub bytes : List ℕ

-- The record: a head of 16 bytes, and the captured bytes.
abbrev pub record_bytes : Order → ClassicRecord → List ℕ
record_bytes order r = number_bytes order 4 r.seconds
    ++ (number_bytes order 4 r.fraction
    ++ (number_bytes order 4 (length r.bytes)
    ++ (number_bytes order 4 r.original
    ++ r.bytes)))

-- The numbers of a record fit, and its bytes are not too many.
pub record IsRecord (r : ClassicRecord) : Type 0 where
  pub seconds : r.seconds < 2 ^ 32
  pub fraction : r.fraction < 2 ^ 32
  pub bytes : length r.bytes ≤ MAX_CAPTURED

-- The frame of a record.
abbrev pub record_frame : ClassicHead → ClassicRecord → Frame
record_frame head r = record {
  link = head.network % 2 ^ 16;
  time = Some (classic_time r.seconds r.fraction head.resolution);
  bytes = r.bytes;
}
