-- Messages of a piece of a file, packed into a packet one after another.
use Rattle.std.proofs.Common.{◌≡◌, inl, inr, ℕ, ◌+◌, ◌-◌, ◌<◌, ◌≤◌, List, [], ◌∷◌, ◌++◌, length, flat_map, refl, sym}
use Rattle.std.proofs.Common.{ap, subst, ◌∙◌, append_assoc, append-nil, arith}
use Rattle.std.proofs.lemmas.Grind.{flat_map-append}
use Rattle.mold_wire.proofs.BlockLemmas.{each-append}
use Rattle.mold_wire.specs.Packer.{Begun, HasRoom, IsLimit, Open, PackerState, with_message}
use Rattle.mold_wire.specs.Packing.{packet_length}
use Rattle.mold_wire.specs.declared.session.Session.{Session}
use Rattle.mold_session.proofs.PackingLemmas.{OneMore}
use Rattle.mold_session.specs.Answer.{PlanState}
use Rattle.mold_session.specs.Loading.{message_spelling}
use Rattle.mold_session.specs.declared.file_version.FileVersion.{FileVersion}
use Rattle.mold_index.specs.Scan.{FindsMessage, IsMessageAndRest}
use Rattle.mold_indexed_file.specs.Buffer.{BufferState}
use Rattle.mold_indexed_file.specs.Packed.{HasMessages, HasNoRoom, HasPackedPiece, IsTooLong}

-- The messages so far are in the packet.
pub record Gathers (spelling : List ℕ → List ℕ) (skip : ℕ) (bytes : List ℕ) (session : Session) (sequence limit : ℕ)
    (packer : PackerState) (rest : List ℕ) (count : ℕ) : Type 0 where
  pub found : List (List ℕ)
  pub counted : count ≡ length found
  pub packed : HasMessages spelling skip bytes session sequence packer found rest
  pub same : packer.limit ≡ limit

-- The packet is open, and the messages before it are skipped.
pub has_none : (spelling : List ℕ → List ℕ) (skip : ℕ) (bytes : List ℕ) (session : Session) (sequence : ℕ)
    (old new : PackerState) (message rest : List ℕ) → packet_length [] ≡ 20 → IsLimit old.limit →
    (finds : FindsMessage spelling skip bytes message rest) →
    new ≡ record { limit = old.limit; begun = Open session sequence [] } →
    HasMessages spelling skip bytes session sequence new [] finds.next
has_none spelling skip bytes session sequence old new message rest none limited finds begun = record {
  finds = record { next = finds.next; skipped = finds.skipped; each = tt; parts = refl };
  begun = ap (λ (p : PackerState). p.begun) begun;
  fits = omega (arith, none, limited.0, ap (λ (p : PackerState). p.limit) begun);
}

-- One more message was added.
pub has_more : (spelling : List ℕ → List ℕ) (skip : ℕ) (bytes : List ℕ) (session : Session) (sequence : ℕ)
    (old new : PackerState) (found : List (List ℕ)) (rest message more : List ℕ) → OneMore →
    HasMessages spelling skip bytes session sequence old found rest → IsMessageAndRest spelling rest message more →
    HasRoom old.limit old.begun (length message) →
    new ≡ record { limit = old.limit; begun = with_message message old.begun } →
    HasMessages spelling skip bytes session sequence new (found ++ message ∷ []) more
has_more spelling skip bytes session sequence old new found rest message more one_more had next room added =
    let within : packet_length found + (2 + length message) ≤ old.limit =
    rw had.begun at room in
    record {
      finds = record {
        next = had.finds.next;
        skipped = had.finds.skipped;
        each = each-append found message had.finds.each next.fits;
        parts =
            had.finds.parts
            ∙ ap (λ (t : List ℕ). flat_map spelling found ++ t) next.parts
            ∙ sym (append_assoc (flat_map spelling found) (spelling message) more)
            ∙ ap (λ (t : List ℕ). (flat_map spelling found ++ t) ++ more) (sym (append-nil (spelling message)))
            ∙ ap (λ (t : List ℕ). t ++ more) (sym (flat_map-append spelling found (message ∷ [])));
      };
      begun = ap (λ (p : PackerState). p.begun) added ∙ ap (with_message message) had.begun;
      fits = omega (arith, within, one_more found message, ap (λ (p : PackerState). p.limit) added);
    }

pub gathers_first : (spelling : List ℕ → List ℕ) (skip : ℕ) (bytes : List ℕ) (session : Session) (sequence : ℕ)
    (old started new : PackerState) (message rest : List ℕ) → OneMore → packet_length [] ≡ 20 → IsLimit old.limit →
    FindsMessage spelling skip bytes message rest →
    started ≡ record { limit = old.limit; begun = Open session sequence [] } →
    HasRoom started.limit started.begun (length message) →
    new ≡ record { limit = started.limit; begun = with_message message started.begun } →
    Gathers spelling skip bytes session sequence old.limit new rest 1
gathers_first spelling skip bytes session sequence old started new message rest one_more none limited finds begun room
    added =
    record {
      found = message ∷ [];
      counted = refl;
      packed = has_more spelling skip bytes session sequence started new [] finds.next message rest one_more
          (has_none spelling skip bytes session sequence old started message rest none limited finds begun) finds.found
          room
          added;
      same = ap (λ (p : PackerState). p.limit) added ∙ ap (λ (p : PackerState). p.limit) begun;
    }

-- No message was packed, because the first one is too long.
none_packed : (version : FileVersion) (buffer : BufferState) (plan : PlanState) (packer : PackerState)
    (found : List (List ℕ)) (rest : List ℕ) → OneMore → 0 ≡ length found →
    HasMessages (message_spelling version) (plan.from - buffer.entry.number) buffer.bytes plan.session plan.from packer
    found rest → HasNoRoom (message_spelling version) packer rest → IsTooLong version buffer plan packer.limit
none_packed version buffer plan packer [] rest one_more none has full = record {
  message = full.message;
  has = record {
    rest = full.rest;
    finds = record {
      next = has.finds.next;
      skipped = has.finds.skipped;
      found = record { fits = full.begins.fits; parts = has.finds.parts ∙ full.begins.parts };
    };
  };
  long = λ fits.
      let room : HasRoom packer.limit (Open plan.session plan.from []) (length full.message) =
      omega (arith, fits, one_more [] full.message) in
      full.full (subst (λ (b : Begun). HasRoom packer.limit b (length full.message)) (sym has.begun) room);
}
none_packed version buffer plan packer (message ∷ found) rest one_more none has full = absurd (omega (arith, none))

pub too_long : (version : FileVersion) (buffer : BufferState) (plan : PlanState) (packer : PackerState) → OneMore →
    plan.from < plan.to → HasPackedPiece version buffer plan packer 0 → IsTooLong version buffer plan packer.limit
too_long version buffer plan packer one_more some all =
    elim all.stops [
      | inl most ↦ absurd (omega (arith, most, some))
      | inr full ↦ none_packed version buffer plan packer all.found all.rest one_more all.counted all.packed full
    ]
