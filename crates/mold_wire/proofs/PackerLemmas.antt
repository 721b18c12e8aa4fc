-- What the fields of a packer represent, and how writing a header or a block changes it.
use Rattle.std.proofs.Common.{◌≡◌, ℕ, ◌+◌, ◌<◌, ◌≤◌, Bool, true, false, List, [], ◌∷◌, ◌++◌, length, length-append}
use Rattle.std.proofs.Common.{take, drop, refl, sym, ap, subst, ◌∙◌, append_assoc, arith, lit<}
use Rattle.std.specs.List.{AllByRecursion}
use Rattle.std.proofs.lemmas.List.{take_at, drop_at, drop-drop, append-nil, length-take-le, length-drop}
use Rattle.mold_wire.specs.declared.session.Session.{Session}
use Rattle.mold_wire.specs.declared.header.Header.{Header}
use Rattle.mold_wire.specs.declared.packet.Body.{Body}
use Rattle.mold_wire.specs.declared.packet.Body.TheVariants.{Heartbeat, End}
use Rattle.mold_wire.specs.Block.{be16, be64, IsMessage, block, blocks}
use Rattle.mold_wire.specs.Header.{header_bytes, IsHeaderAndRest, recounted}
use Rattle.mold_wire.specs.Packet.{IsBody, IsPacket, Spells, count_of, messages_of, spelling_of}
use Rattle.mold_wire.specs.Packing.{packet_length}
use Rattle.mold_wire.specs.Packer.{Begun, Nothing, Open, Ended, PackerState, IsLimit, SpellsBegun, FitsBegun, HasRoom}
use Rattle.mold_wire.specs.Packer.{with_message, body_with, open_packet, end_packet}
use Rattle.mold_wire.specs.Buffer.{Fields, over, begun_of, begun_in, state_of, IsTold, Holds, CanHold}
use Rattle.mold_wire.specs.Reading.{reading}
use Rattle.mold_wire.proofs.ReadingLemmas.{reading-spelled}
use Rattle.mold_wire.proofs.BlockLemmas.{blocks-append, each-append}
use Rattle.mold_wire.proofs.HeaderLemmas.{header_counted, length-counted, length-header_bytes, take-header_bytes}
use Rattle.mold_wire.proofs.PackingLemmas.{least_packet_length, spelling_length}

messages_with : (messages : List (List ℕ)) → messages_of (body_with messages) ≡ messages
messages_with [] = refl
messages_with (message ∷ messages) = refl

-- If no bytes are used, nothing is begun.
reads_nothing :
    (is_open : Bool) (bytes : List ℕ) → is_open ≡ false → bytes ≡ [] → begun_of is_open (reading bytes) ≡ Nothing
unfolding reading
reads_nothing is_open bytes closed none =
    ap (λ (b : Bool). begun_of b (reading bytes)) closed ∙ ap (λ (t : List ℕ). begun_of false (reading t)) none

-- The used bytes read as the packet that was begun.
reads_begun :
    (is_open : Bool) (count : ℕ) (bytes : List ℕ) (begun : Begun) → IsTold is_open count begun →
    SpellsBegun begun bytes → begun_of is_open (reading bytes) ≡ begun
reads_begun is_open count bytes Nothing told spells = reads_nothing is_open bytes told spells
reads_begun is_open count bytes (Open session sequence messages) told spells =
    ap (λ (b : Bool). begun_of b (reading bytes)) told.0
    ∙ ap (begun_of true) (reading-spelled (open_packet session sequence messages) bytes spells)
    ∙ ap (λ (t : List (List ℕ)). Open session sequence t) (messages_with messages)
reads_begun is_open count bytes (Ended session sequence) told spells =
    ap (λ (b : Bool). begun_of b (reading bytes)) told
    ∙ ap (begun_of false) (reading-spelled (end_packet session sequence) bytes spells)

abbrev pub state : ℕ → Begun → PackerState
state limit begun = record { limit = limit; begun = begun }

-- The fields represent what their bytes read as, and users see this state.
pub record Shows (fields : Fields) (seen_as : PackerState) : Type 0 where
  pub holds : Holds fields (begun_in fields)
  pub seen : state_of fields ≡ seen_as

-- Users see the packet that the fields represent.
pub shows :
    (fields : Fields) (limit : ℕ) (begun : Begun) → length fields.items ≡ limit → Holds fields begun →
    Shows fields (state limit begun)
shows fields limit begun long holds =
    let same : begun_in fields ≡ begun =
    reads_begun fields.is_open fields.count (take fields.used fields.items) begun holds.told holds.spelled
    in
    record {
      holds = subst (λ (b : Begun). Holds fields b) (sym same) holds;
      seen =
          ap (λ (n : ℕ). state n (begun_in fields)) long
          ∙ ap (λ (b : Begun). state limit b) same;
    }

limit_shown : (fields : Fields) (seen_as : PackerState) → Shows fields seen_as → IsLimit seen_as.limit
limit_shown fields seen_as shown = subst (λ (s : PackerState). IsLimit s.limit) shown.seen shown.holds.limit

-- A new packer has begun nothing.
pub made :
    (items : List ℕ) (limit : ℕ) → length items ≡ limit → IsLimit limit →
    Shows (over items 0 0 false) (state limit Nothing)
made items limit long is_limit =
    shows (over items 0 0 false) limit Nothing long
    (record {
      limit = subst (λ (n : ℕ). IsLimit n) (sym long) is_limit;
      within = omega arith;
      told = refl;
      spelled = refl;
    })

-- The buffer of this length after `new` was written at its start.
abbrev pub written_over : ℕ → List ℕ → List ℕ → List ℕ
written_over len new old = take len (new ++ drop (length new) old)

-- If `new` is as long as the buffer, the buffer is `new`.
all_written : (len : ℕ) (new old : List ℕ) → length new ≡ len → written_over len new old ≡ new
all_written len new old long = take_at new (drop (length new) old) len long

-- A buffer that was overwritten represents what was written.
pub shows_over :
    (used count : ℕ) (is_open : Bool) (begun : Begun) (fields : Fields) (seen_as : PackerState) (len : ℕ)
    (new : List ℕ) → Shows fields seen_as → length fields.items ≡ len → length new ≡ len →
    Holds (over new used count is_open) begun →
    Shows (over (written_over len new fields.items) used count is_open) (state seen_as.limit begun)
shows_over used count is_open begun fields seen_as len new shown whole long holds =
    let items : List ℕ = written_over len new fields.items in
    let same : items ≡ new = all_written len new fields.items long in
    shows (over items used count is_open) seen_as.limit begun
    (ap (λ (t : List ℕ). length t) same ∙ long ∙ sym whole ∙ ap (λ (s : PackerState). s.limit) shown.seen)
    (subst (λ (t : List ℕ). Holds (over t used count is_open) begun) (sym same) holds)

abbrev pub header_of : Session → ℕ → ℕ → Header
header_of session sequence count = record { session = session; sequence = sequence; count = count }

-- The bytes after a header.
pub behind_header :
    (header : Header) (items rest : List ℕ) → IsHeaderAndRest header items rest → drop 20 items ≡ rest
behind_header header items rest stands =
    let head : List ℕ = header_bytes header.session.0 header.sequence header.count in
    ap (λ (t : List ℕ). drop 20 t) stands.parts
    ∙ drop_at head rest 20 (length-header_bytes header.session.0 header.sequence header.count stands.session)

-- A header alone encodes a packet without messages.
header_spells :
    (session : Session) (sequence : ℕ) (body : Body) (items rest : List ℕ) →
    IsHeaderAndRest (header_of session sequence (count_of body)) items rest → IsBody body → messages_of body ≡ [] →
    Spells (record { session = session; sequence = sequence; body = body }) (take 20 items)
header_spells session sequence body items rest stands is_body none =
    let head : List ℕ = header_bytes session.0 sequence (count_of body) in
    record {
      is_packet = record { session = stands.session; sequence = stands.sequence; body = is_body };
      spelled =
          ap (λ (t : List ℕ). take 20 t) stands.parts
          ∙ take-header_bytes session.0 sequence (count_of body) rest stands.session
          ∙ sym (append-nil head)
          ∙ ap (λ (t : List (List ℕ)). head ++ blocks t) (sym none);
    }

-- A header with message count 0 is an open packet.
pub started :
    (session : Session) (sequence : ℕ) (items rest : List ℕ) → IsLimit (length items) →
    IsHeaderAndRest (header_of session sequence 0) items rest →
    Holds (over items 20 0 true) (Open session sequence [])
started session sequence items rest is_limit stands = record {
  limit = is_limit;
  within = omega (arith, is_limit.0);
  told = (refl, refl);
  spelled = header_spells session sequence Heartbeat items rest stands tt refl;
}

-- A header with the message count of an end packet is an end packet.
pub ended :
    (session : Session) (sequence count : ℕ) (items rest : List ℕ) → IsLimit (length items) →
    IsHeaderAndRest (header_of session sequence 65535) items rest →
    Holds (over items 20 count false) (Ended session sequence)
ended session sequence count items rest is_limit stands = record {
  limit = is_limit;
  within = omega (arith, is_limit.0);
  told = refl;
  spelled = header_spells session sequence End items rest stands tt refl;
}

-- The number of used bytes is the length of a packet with the open packet's messages.
used_by :
    (fields : Fields) (session : Session) (sequence : ℕ) (messages : List (List ℕ)) →
    Holds fields (Open session sequence messages) → packet_length messages ≡ fields.used
used_by fields session sequence messages holds =
    sym (ap packet_length (messages_with messages))
    ∙ sym (spelling_length (open_packet session sequence messages) (take fields.used fields.items) holds.spelled)
    ∙ length-take-le fields.used fields.items holds.within

pub has_room :
    (fields : Fields) (begun : Begun) (len : ℕ) → Holds fields begun → fields.is_open ≡ true →
    fields.used + (2 + len) ≤ length fields.items → HasRoom (length fields.items) begun len
has_room fields Nothing len holds is_open room = let shut : fields.is_open ≡ false = holds.told in cc
has_room fields (Open session sequence messages) len holds is_open room =
    omega (arith, used_by fields session sequence messages holds)
has_room fields (Ended session sequence) len holds is_open room =
    let shut : fields.is_open ≡ false = holds.told in cc

-- The properties of a packet that has room for one more message.
pub record Room (fields : Fields) (len : ℕ) : Type 0 where
  pub is_open : fields.is_open ≡ true
  pub header : 20 ≤ fields.used
  pub few : fields.count < 65534
  pub fits : fields.used + (2 + len) ≤ length fields.items

pub room_left :
    (fields : Fields) (begun : Begun) (len : ℕ) → Holds fields begun → HasRoom (length fields.items) begun len →
    Room fields len
room_left fields Nothing len holds room = absurd room
room_left fields (Open session sequence messages) len holds room =
    let taken : packet_length messages ≡ fields.used = used_by fields session sequence messages holds in
    record {
      is_open = holds.told.0;
      header = omega (arith, least_packet_length messages);
      few = omega (arith, least_packet_length messages, holds.told.1, holds.limit.1);
      fits = omega arith;
    }
room_left fields (Ended session sequence) len holds room = absurd room

room_held :
    (fields : Fields) (seen_as : PackerState) (len : ℕ) → Shows fields seen_as →
    HasRoom seen_as.limit seen_as.begun len → HasRoom (length fields.items) (begun_in fields) len
room_held fields seen_as len shown room =
    subst (λ (s : PackerState). HasRoom s.limit s.begun len) (sym shown.seen) room

pub shown_room :
    (fields : Fields) (seen_as : PackerState) (len : ℕ) → Shows fields seen_as →
    HasRoom seen_as.limit seen_as.begun len → Room fields len
shown_room fields seen_as len shown room =
    room_left fields (begun_in fields) len shown.holds (room_held fields seen_as len shown room)

-- The fields of a packer satisfy `CanHold`.
pub can_hold_begun :
    (fields : Fields) (begun : Begun) → Holds fields begun →
    CanHold (length fields.items) fields.used fields.count fields.is_open
can_hold_begun fields Nothing holds =
    let shut : fields.is_open ≡ false = holds.told in
    record { is_limit = holds.limit; within = holds.within; laid = λ is_open. cc }
can_hold_begun fields (Open session sequence messages) holds = record {
  is_limit = holds.limit;
  within = holds.within;
  laid =
      λ is_open.
      omega (arith, least_packet_length messages, holds.told.1, used_by fields session sequence messages holds);
}
can_hold_begun fields (Ended session sequence) holds =
    let shut : fields.is_open ≡ false = holds.told in
    record { is_limit = holds.limit; within = holds.within; laid = λ is_open. cc }

begun_fits : (fields : Fields) (begun : Begun) → Holds fields begun → FitsBegun (length fields.items) begun
begun_fits fields Nothing holds = tt
begun_fits fields (Open session sequence messages) holds =
    omega (arith, used_by fields session sequence messages holds, holds.within)
begun_fits fields (Ended session sequence) holds = tt

pub shown_fits :
    (fields : Fields) (seen_as : PackerState) → Shows fields seen_as → FitsBegun seen_as.limit seen_as.begun
shown_fits fields seen_as shown =
    subst (λ (s : PackerState). FitsBegun s.limit s.begun) shown.seen (begun_fits fields (begun_in fields) shown.holds)

each_with : (messages : List (List ℕ)) → IsBody (body_with messages) → AllByRecursion IsMessage messages
each_with [] is = tt
each_with (message ∷ messages) is = is.2

-- The body of an open packet with one more message.
body_pushed :
    (messages : List (List ℕ)) (message : List ℕ) → length messages < 65534 →
    AllByRecursion IsMessage (messages ++ message ∷ []) → IsBody (body_with (messages ++ message ∷ []))
body_pushed [] message few each = (lit< tt, lit< tt, each)
body_pushed (first ∷ messages) message few each =
    (omega arith, omega (arith, length-append messages (message ∷ [])), each)

count_pushed :
    (messages : List (List ℕ)) (message : List ℕ) →
    count_of (body_with (messages ++ message ∷ [])) ≡ length messages + 1
count_pushed [] message = refl
count_pushed (first ∷ messages) message = omega (arith, length-append messages (message ∷ []))

-- Changing the message count in the header does not change the blocks.
recounted_is :
    (session : Session) (sequence count old : ℕ) (packet behind : List ℕ) → length session.0 ≡ 10 →
    packet ≡ header_bytes session.0 sequence old ++ behind →
    recounted count packet ≡ header_bytes session.0 sequence count ++ behind
recounted_is session sequence count old packet behind ten was =
    let front : List ℕ = session.0 ++ be64 sequence in
    let eighteen : length front ≡ 18 = length-counted session.0 sequence ten in
    let laid : packet ≡ front ++ (be16 old ++ behind) = was ∙ header_counted session.0 sequence old behind in
    let kept : take 18 packet ≡ front =
    ap (λ (t : List ℕ). take 18 t) laid ∙ take_at front (be16 old ++ behind) 18 eighteen
    in
    let carried : drop 2 (drop 18 packet) ≡ behind =
    ap (λ (t : List ℕ). drop 2 (drop 18 t)) laid
    ∙ ap (λ (t : List ℕ). drop 2 t) (drop_at front (be16 old ++ behind) 18 eighteen)
    in
    ap (λ (t : List ℕ). t ++ (be16 count ++ drop 2 (drop 18 packet))) kept
    ∙ ap (λ (t : List ℕ). front ++ (be16 count ++ t)) carried
    ∙ sym (header_counted session.0 sequence count behind)

-- A packet becomes the packet with one more message if the block follows it and the count grows by one.
packet_pushed :
    (session : Session) (sequence count : ℕ) (messages : List (List ℕ)) (message packet rest items : List ℕ) →
    Spells (open_packet session sequence messages) packet → count ≡ length messages → length messages < 65534 →
    IsMessage message → items ≡ recounted (count + 1) packet ++ (block message ++ rest) → (size : ℕ) →
    size ≡ length packet + (2 + length message) →
    Spells (open_packet session sequence (messages ++ message ∷ [])) (take size items)
packet_pushed session sequence count messages message packet rest items spells counted few fits laid size sized =
    let all : List (List ℕ) = messages ++ message ∷ [] in
    let head : List ℕ = header_bytes session.0 sequence (count + 1) in
    let ten = spells.is_packet.session in
    let was : packet ≡ header_bytes session.0 sequence (count_of (body_with messages)) ++ blocks messages =
    spells.spelled
    ∙ ap (λ (t : List (List ℕ)). header_bytes session.0 sequence (count_of (body_with messages)) ++ blocks t)
    (messages_with messages)
    in
    let renewed : recounted (count + 1) packet ≡ head ++ blocks messages =
    recounted_is session sequence (count + 1) (count_of (body_with messages)) packet (blocks messages) ten was
    in
    let joined : blocks messages ++ block message ≡ blocks all =
    sym
    (blocks-append messages (message ∷ []) ∙ ap (λ (t : List ℕ). blocks messages ++ t) (append-nil (block message)))
    in
    let parts : items ≡ (head ++ blocks all) ++ rest =
    laid
    ∙ ap (λ (t : List ℕ). t ++ (block message ++ rest)) renewed
    ∙ sym (append_assoc (head ++ blocks messages) (block message) rest)
    ∙ ap (λ (t : List ℕ). t ++ rest)
    (append_assoc head (blocks messages) (block message) ∙ ap (λ (t : List ℕ). head ++ t) joined)
    in
    let number : count_of (body_with all) ≡ count + 1 = omega (arith, count_pushed messages message, counted) in
    let each = each-append messages message (each_with messages spells.is_packet.body) fits in
    let is : IsPacket (open_packet session sequence all) =
    record { session = ten; sequence = spells.is_packet.sequence; body = body_pushed messages message few each }
    in
    let whole : head ++ blocks all ≡ spelling_of (open_packet session sequence all) =
    ap (λ (n : ℕ). header_bytes session.0 sequence n ++ blocks all) (sym number)
    ∙ ap (λ (t : List (List ℕ)). header_bytes session.0 sequence (count_of (body_with all)) ++ blocks t)
    (sym (messages_with all))
    in
    let whole_length : length (head ++ blocks all) ≡ size =
    omega (
      arith,
      sized,
      ap (λ (t : List ℕ). length t) was,
      length-append (header_bytes session.0 sequence (count_of (body_with messages))) (blocks messages),
      length-header_bytes session.0 sequence (count_of (body_with messages)) ten,
      length-append head (blocks all),
      length-header_bytes session.0 sequence (count + 1) ten,
      ap (λ (t : List ℕ). length t) joined,
      length-append (blocks messages) (block message),
      length-append (be16 (length message)) message,
    )
    in
    record {
      is_packet = is;
      spelled = ap (λ (t : List ℕ). take size t) parts ∙ take_at (head ++ blocks all) rest size whole_length ∙ whole;
    }

-- Adding a message does not change the bytes after it.
pub behind_added :
    (used count : ℕ) (old new message : List ℕ) → 20 ≤ used → used ≤ length old →
    new ≡ recounted count (take used old) ++ (block message ++ drop (length message) (drop 2 (drop used old))) →
    drop (used + (2 + length message)) new ≡ drop (used + (2 + length message)) old
behind_added used count old new message header within laid =
    let packet : List ℕ = take used old in
    let kept : List ℕ = drop (length message) (drop 2 (drop used old)) in
    let long : length (recounted count packet) ≡ used =
    omega (
      arith,
      length-append (take 18 packet) (be16 count ++ drop 2 (drop 18 packet)),
      length-append (be16 count) (drop 2 (drop 18 packet)),
      length-take-le used old within,
      length-take-le 18 packet (omega (arith, length-take-le used old within)),
      length-drop 18 packet,
      length-drop 2 (drop 18 packet),
    )
    in
    sym (drop-drop (2 + length message) used new)
    ∙ ap (λ (t : List ℕ). drop (2 + length message) t)
    (ap (λ (t : List ℕ). drop used t) laid ∙ drop_at (recounted count packet) (block message ++ kept) used long)
    ∙ drop_at (block message) kept (2 + length message) (length-append (be16 (length message)) message)
    ∙ drop-drop (length message) 2 (drop used old)
    ∙ drop-drop (2 + length message) used old

-- A message that was written after an open packet is added to it.
pub added :
    (used count : ℕ) (old new rest message : List ℕ) (begun : Begun) → Holds (over old used count true) begun →
    used + (2 + length message) ≤ length old → length new ≡ length old →
    new ≡ recounted (count + 1) (take used old) ++ (block message ++ rest) →
    Holds (over new (used + (2 + length message)) (count + 1) true) (with_message message begun)
added used count old new rest message Nothing holds room long laid =
    absurd (has_room (over old used count true) Nothing (length message) holds refl room)
added used count old new rest message (Open session sequence messages) holds room long laid =
    let taken : packet_length messages ≡ used = used_by (over old used count true) session sequence messages holds in
    let few : length messages < 65534 = omega (arith, least_packet_length messages, holds.limit.1) in
    record {
      limit = subst (λ (n : ℕ). IsLimit n) (sym long) holds.limit;
      within = omega arith;
      told = (refl, omega (arith, holds.told.1, length-append messages (message ∷ [])));
      spelled =
          packet_pushed session sequence count messages message (take used old) rest new holds.spelled holds.told.1 few
          (omega (arith, holds.limit.1)) laid (used + (2 + length message))
          (omega (arith, length-take-le used old holds.within));
    }
added used count old new rest message (Ended session sequence) holds room long laid =
    absurd (has_room (over old used count true) (Ended session sequence) (length message) holds refl room)

-- The same for the packer whose buffer the message was written into.
pub shows_added :
    (size : ℕ) (fields : Fields) (seen_as : PackerState) (len : ℕ) (old new message : List ℕ) → Shows fields seen_as →
    length fields.items ≡ len → length new ≡ len → old ≡ fields.items →
    HasRoom seen_as.limit seen_as.begun (length message) →
    ((begun : Begun) → Holds (over old fields.used fields.count true) begun →
    Holds (over new size (fields.count + 1) true) (with_message message begun)) →
    Shows (over (written_over len new fields.items) size (fields.count + 1) fields.is_open)
    (state seen_as.limit (with_message message seen_as.begun))
shows_added size fields seen_as len old new message shown whole long is_old room added =
    let begun : Begun = begun_in fields in
    let is_open : fields.is_open ≡ true = (shown_room fields seen_as (length message) shown room).is_open in
    let held : Holds (over old fields.used fields.count true) begun =
    subst (λ (t : List ℕ). Holds (over t fields.used fields.count true) begun) (sym is_old)
    (subst (λ (b : Bool). Holds (over fields.items fields.used fields.count b) begun) is_open shown.holds)
    in
    shows_over size (fields.count + 1) fields.is_open (with_message message seen_as.begun) fields seen_as len new shown
    whole long
    (subst (λ (b : Bool). Holds (over new size (fields.count + 1) b) (with_message message seen_as.begun)) (sym is_open)
    (subst (λ (s : PackerState). Holds (over new size (fields.count + 1) true) (with_message message s.begun)) shown.seen
    (added begun held)))
