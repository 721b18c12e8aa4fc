-- The head of a packet is what its header states.
use Rattle.std.proofs.Common.{◌≡◌, ℕ, ◌-◌, ◌≤◌, ◌==◌, Bool, true, false, cond, List}
use Rattle.std.proofs.Common.{Result, Ok, Err, length, take, drop, nat_lt, refl, sym, ap, ◌∙◌, arith}
use Rattle.std.proofs.lemmas.Bool.Decides.{nat_tests}
use Rattle.byteorder.specs.Endian.{big_number}
use Rattle.mold_receiver.specs.Receive.{Reception, receive, receive_read, top_read}
use Rattle.mold_receiver.specs.View.{View}
use Rattle.mold_repair.specs.Header.{IsRead, head}
use Rattle.mold_wire.specs.Packet.{stated_blocks}
use Rattle.mold_wire.specs.Reading.{blocks_at, body_of, packet_from, reading}
use Rattle.mold_wire.specs.declared.error.DecodeError.{DecodeError}
use Rattle.mold_wire.specs.declared.error.DecodeError.TheVariants.{Short, Trailing}
use Rattle.mold_wire.specs.declared.packet.Packet.{Packet}

-- The messages and the rest that a reading of blocks found.
abbrev Found : Type 0
Found = List (List ℕ) × List ℕ

abbrev read_ok : Packet → Result Packet DecodeError
read_ok packet = Ok packet

only_ok : (b : Bool) (one packet : Packet) (error : DecodeError) →
    cond b (read_ok one) (Err error) ≡ Ok packet → packet ≡ one
only_ok true one packet error same = (let eq : packet ≡ one = cc in eq)
only_ok false one packet error same = absurd (let none : ⊥ = cc in none)

-- What the header of a packet states.
pub record IsStated (bytes : List ℕ) (packet : Packet) : Type 0 where
  pub long : 20 ≤ length bytes
  pub sequence : packet.sequence ≡ big_number 8 (drop 10 bytes)

stated_from : (session : List ℕ) (sequence count len : ℕ) (r : Result Found ℕ) (packet : Packet)
    → packet_from session sequence count len r ≡ Ok packet → packet.sequence ≡ sequence
stated_from session sequence count len (Ok f) packet same =
    ap (λ (p : Packet). p.sequence) (only_ok (length f.1 == 0)
    (record { session = record { 0 = session }; sequence = sequence; body = body_of count f.0 }) packet
    (Trailing (len - length f.1)) same)
stated_from session sequence count len (Err index) packet same = absurd (let none : ⊥ = cc in none)

stated_by : (bytes : List ℕ) (packet : Packet) (b : Bool) (r : Result Found ℕ) → nat_lt (length bytes) 20 ≡ b
    → cond b (Err (Short (length bytes))) (packet_from (take 10 bytes) (big_number 8 (drop 10 bytes))
    (big_number 2 (drop 18 bytes)) (length bytes) r) ≡ Ok packet → IsStated bytes packet
stated_by bytes packet true r short same = absurd (let none : ⊥ = cc in none)
stated_by bytes packet false r short same = record {
  long = grind (arith, nat_tests, short);
  sequence = stated_from (take 10 bytes) (big_number 8 (drop 10 bytes)) (big_number 2 (drop 18 bytes)) (length bytes)
      r packet same;
}

pub stated : (bytes : List ℕ) (packet : Packet) → reading bytes ≡ Ok packet → IsStated bytes packet
unfolding reading
stated bytes packet read =
    stated_by bytes packet (nat_lt (length bytes) 20)
    (blocks_at (stated_blocks (big_number 2 (drop 18 bytes))) (drop 20 bytes)) refl read

accepted_by : (v : View) (bytes : List ℕ) (o : Result Packet DecodeError) (r : Reception) → reading bytes ≡ o →
    receive_read v o ≡ Ok r → IsRead bytes
accepted_by v bytes (Ok packet) r read same = record { packet = packet; read = read }
accepted_by v bytes (Err error) r read same = absurd (let none : ⊥ = cc in none)

-- A datagram that is accepted encodes a packet.
pub accepted : (v : View) (bytes : List ℕ) (r : Reception) → receive v bytes ≡ Ok r → IsRead bytes
accepted v bytes r same = accepted_by v bytes (reading bytes) r refl same

pub first_is : (bytes : List ℕ) (is : IsRead bytes) (first : ℕ) → first ≡ big_number 8 (drop 10 bytes)
    → first ≡ (head (reading bytes)).first
first_is bytes is first begins =
    begins ∙ sym (stated bytes is.packet is.read).sequence ∙ sym (ap (λ r. (head r).first) is.read)

end_is_by : (r : Result Packet DecodeError) → top_read r ≡ (head r).end
end_is_by (Ok packet) = refl
end_is_by (Err error) = refl

pub head_is : (bytes : List ℕ) (first top : ℕ) → first ≡ (head (reading bytes)).first → top ≡ top_read (reading bytes)
    → (record { first = first; end = top }) ≡ head (reading bytes)
head_is bytes first top begins ends =
    λ i. record { first = begins i; end = (ends ∙ end_is_by (reading bytes)) i }
