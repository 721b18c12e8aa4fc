-- Messages packed into a packet one after another.
use Rattle.std.proofs.Common.{◌≡◌, ℕ, ◌+◌, ◌*◌, ◌<◌, ◌≤◌, List, [], ◌∷◌, ◌++◌, length, length-append, refl, sym}
use Rattle.std.proofs.Common.{ap, subst, ◌∙◌, append_assoc, arith}
use Rattle.std.proofs.lemmas.List.Sums.{sum_by-cons}
use Rattle.std.specs.List.{sum_by}
use Rattle.mold_messages.specs.Listed.{byte_count}
use Rattle.mold_wire.specs.declared.session.Session.{Session}
use Rattle.mold_wire.specs.Packer.{PackerState, Open, IsLimit, HasRoom, with_message}
use Rattle.mold_wire.specs.Packing.{packet_length, Fits, IsFront}
use Rattle.mold_session.specs.File.{file_length}
use Rattle.mold_session.specs.Packing.{HasPacked}

-- A law of mold_wire: a prefix that fits and can't be extended is the longest one.
abbrev pub Stops : Type 0
Stops = (limit : ℕ) (messages : List (List ℕ)) (most : ℕ) (found behind : List (List ℕ)) →
    messages ≡ found ++ behind → length found ≤ most → Fits limit found →
    ((next : List ℕ) (more : List (List ℕ)) → behind ≡ next ∷ more → length found < most → Fits limit
    (found ++ next ∷ []) → ⊥) →
    IsFront limit messages most found

-- A law of mold_wire: the length of a packet with one more message.
abbrev pub OneMore : Type 0
OneMore =
    (messages : List (List ℕ)) (message : List ℕ) →
    packet_length (messages ++ message ∷ []) ≡ packet_length messages + (2 + length message)

abbrev pub packer_with : ℕ → Session → ℕ → List (List ℕ) → PackerState
packer_with limit session sequence found = record { limit = limit; begun = Open session sequence found }

-- The first `count` messages are in the open packet and fit it. The messages in `rest` remain.
pub record Gathers (limit : ℕ) (session : Session) (sequence : ℕ) (messages : List (List ℕ)) (most : ℕ)
    (packer : PackerState) (rest : List (List ℕ)) (count : ℕ) : Type 0 where
  pub found : List (List ℕ)
  pub parts : messages ≡ found ++ rest
  pub counted : count ≡ length found
  pub few : count ≤ most
  pub begun : packer ≡ packer_with limit session sequence found
  pub fits : Fits limit found

pub gathers_none :
    (limit : ℕ) (session : Session) (sequence : ℕ) (messages : List (List ℕ)) (most : ℕ) (packer : PackerState)
    (rest : List (List ℕ)) → IsLimit limit → packet_length [] ≡ 20 → packer ≡ packer_with limit session sequence [] →
    rest ≡ messages → Gathers limit session sequence messages most packer rest 0
gathers_none limit session sequence messages most packer rest limited none begun all = record {
  found = [];
  parts = sym all;
  counted = refl;
  few = omega arith;
  begun = begun;
  fits = omega (arith, none, limited.0);
}

pub gathers_more :
    (limit : ℕ) (session : Session) (sequence : ℕ) (messages : List (List ℕ)) (most : ℕ) (packer : PackerState)
    (rest : List (List ℕ)) (count : ℕ) (message : List ℕ) (more : List (List ℕ)) (new : PackerState) → OneMore →
    Gathers limit session sequence messages most packer rest count → (count ≡ most → ⊥) → rest ≡ message ∷ more →
    new ≡ record { limit = packer.limit; begun = with_message message packer.begun } →
    HasRoom packer.limit packer.begun (length message) →
    Gathers limit session sequence messages most new more (count + 1)
gathers_more limit session sequence messages most packer rest count message more new one_more had fewer next grown
    room =
    let within : packet_length had.found + (2 + length message) ≤ limit =
    subst (λ (p : PackerState). HasRoom p.limit p.begun (length message)) had.begun room
    in
    record {
      found = had.found ++ message ∷ [];
      parts = had.parts ∙ ap (λ (t : List (List ℕ)). had.found ++ t) next ∙ sym
          (append_assoc had.found (message ∷ []) more);
      counted = omega (arith, had.counted, length-append had.found (message ∷ []));
      few = omega (arith, had.few, fewer);
      begun = grown ∙ ap (λ (p : PackerState). record { limit = p.limit; begun = with_message message p.begun })
          had.begun;
      fits = omega (arith, within, one_more had.found message);
    }

-- The longest prefix is packed when no message remains, when `most` messages are packed, or when the next
-- message doesn't fit.
pub packed_all :
    (old : PackerState) (session : Session) (sequence : ℕ) (messages : List (List ℕ)) (most : ℕ)
    (packer : PackerState) (rest : List (List ℕ)) (count : ℕ) → Stops →
    Gathers old.limit session sequence messages most packer rest count → rest ≡ [] →
    HasPacked old packer session sequence messages most count
packed_all old session sequence messages most packer rest count stops had none = record {
  found = had.found;
  counted = had.counted;
  begun = had.begun;
  longest = stops old.limit messages most had.found rest had.parts (omega (arith, had.counted, had.few)) had.fits
      (λ next more some few fits. let e : [] ≡ next ∷ more = sym none ∙ some in cc);
}

pub packed_most :
    (old : PackerState) (session : Session) (sequence : ℕ) (messages : List (List ℕ)) (most : ℕ)
    (packer new : PackerState) (rest : List (List ℕ)) (count : ℕ) → Stops →
    Gathers old.limit session sequence messages most packer rest count → count ≡ most → new ≡ packer →
    HasPacked old new session sequence messages most count
packed_most old session sequence messages most packer new rest count stops had all same = record {
  found = had.found;
  counted = had.counted;
  begun = same ∙ had.begun;
  longest = stops old.limit messages most had.found rest had.parts (omega (arith, had.counted, had.few)) had.fits
      (λ next more some few fits. omega (arith, few, had.counted, all));
}

pub packed_full :
    (old : PackerState) (session : Session) (sequence : ℕ) (messages : List (List ℕ)) (most : ℕ)
    (packer : PackerState) (rest : List (List ℕ)) (count : ℕ) (message : List ℕ) (more : List (List ℕ))
    (new : PackerState) → OneMore → Stops → Gathers old.limit session sequence messages most packer rest count →
    rest ≡ message ∷ more → new ≡ packer → (HasRoom packer.limit packer.begun (length message) → ⊥) →
    HasPacked old new session sequence messages most count
packed_full old session sequence messages most packer rest count message more new one_more stops had next same full =
    let no_room : packet_length had.found + (2 + length message) ≤ old.limit → ⊥ =
    subst (λ (p : PackerState). HasRoom p.limit p.begun (length message) → ⊥) had.begun full
    in
    record {
      found = had.found;
      counted = had.counted;
      begun = same ∙ had.begun;
      longest = stops old.limit messages most had.found rest had.parts (omega (arith, had.counted, had.few)) had.fits
          (λ other others some few fits.
          let both : message ∷ more ≡ other ∷ others = sym next ∙ some in
          let one : other ≡ message = cc in
          no_room (omega (arith, one_more had.found other, ap (λ (t : List ℕ). length t) one, fits)));
    }

-- The length of blocks, from the number of messages and their total length.
lengths_and_bytes :
    (messages : List (List ℕ)) →
    sum_by (λ message. 2 + length message) messages ≡ 2 * length messages + byte_count messages
lengths_and_bytes [] = refl
lengths_and_bytes (message ∷ messages) =
    omega (
      arith,
      sum_by-cons (λ (m : List ℕ). 2 + length m) message messages,
      sum_by-cons (λ (m : List ℕ). length m)
          message messages,
      lengths_and_bytes messages,
    )

pub packet_bytes :
    (messages : List (List ℕ)) → packet_length messages ≡ 20 + (2 * length messages + byte_count messages)
unfolding packet_length
packet_bytes messages = ap (λ (n : ℕ). 20 + n) (lengths_and_bytes messages)

-- The length of a file, from the number of messages and their total length.
pub file_bytes :
    (messages : List (List ℕ)) → file_length messages ≡ 27 + (2 * length messages + byte_count messages)
file_bytes messages = ap (λ (n : ℕ). 27 + n) (lengths_and_bytes messages)
