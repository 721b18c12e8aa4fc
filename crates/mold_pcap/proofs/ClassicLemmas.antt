-- Classic captures are read back as they were written.
use Rattle.std.proofs.Common.{◌≡◌, ℕ, ◌+◌, ◌%◌, ◌<◌, ltb, List, [], ◌∷◌, ◌++◌, map, length, length-append, take, drop}
use Rattle.std.proofs.Common.{None, Some, refl, sym, ap, ◌∙◌, arith}
use Rattle.std.proofs.lemmas.Bool.{cond-false}
use Rattle.std.proofs.lemmas.List.{drop-drop, drop_at, take_at}
use Rattle.std.specs.Io.Iter.{u64_saturate}
use Rattle.std.specs.List.{AllByRecursion, flat_map}
use Rattle.mold_pcap.specs.Captures.{after_frame, captured, frame_at}
use Rattle.mold_pcap.specs.Classic.{head_at, record_at, record_of, record_place, variant_of}
use Rattle.mold_pcap.specs.Formats.{FormatState, at_start}
use Rattle.mold_pcap.specs.Laws.{ReadsRecords}
use Rattle.mold_pcap.specs.Looks.{look, start_at}
use Rattle.mold_pcap.specs.Numbers.{number}
use Rattle.mold_pcap.specs.Written.{ClassicHead, ClassicRecord, IsRecord, head_bytes, number_bytes, record_bytes}
use Rattle.mold_pcap.specs.Written.{record_frame}
use Rattle.mold_pcap.specs.declared.kind.Kind.TheVariants.{Classic}
use Rattle.mold_pcap.specs.declared.look.Look.TheVariants.{Passed, Framed}
use Rattle.mold_pcap.specs.declared.next.Next.TheVariants.{Head}
use Rattle.mold_pcap.specs.declared.place.Place.{Place}
use Rattle.mold_pcap.specs.declared.order.Order.{Order}
use Rattle.mold_pcap.specs.declared.order.Order.TheVariants.{Big, Little}
use Rattle.mold_pcap.specs.Times.{classic_time}
use Rattle.mold_pcap.specs.declared.stamp.Stamp.TheVariants as stamp
use Rattle.mold_pcap.specs.declared.resolution.Resolution.{Resolution}
use Rattle.mold_pcap.specs.declared.resolution.Resolution.TheVariants.{Microseconds, Nanoseconds}
use Rattle.mold_pcap.proofs.CaptureLemmas.{captured_nil, step_is}
use Rattle.mold_pcap.proofs.LookLemmas.{is_not_below}
use Rattle.mold_pcap.proofs.NumberLemmas.{after_4, after_8, after_16, long_4, reads_back}

-- ---- the head

-- The head of a capture with this order and resolution, before other bytes.
abbrev headed : Order → Resolution → ℕ → ℕ → ℕ → ℕ → ℕ → List ℕ → List ℕ
headed order resolution minor zone accuracy snaplen network rest = head_bytes (record {
  order = order;
  resolution = resolution;
  minor = minor;
  zone = zone;
  accuracy = accuracy;
  snaplen = snaplen;
  network = network;
}) ++ rest

-- What the look at such a head is.
abbrev IsHead : Order → Resolution → ℕ → List ℕ → Type 0
IsHead order resolution network bytes = look at_start bytes ≡ Passed (Head order (network % 65536) resolution) 24

module _ (minor zone accuracy snaplen network : ℕ) (rest : List ℕ) (fits : network < 4294967296) where
  head_long : (order : Order) (resolution : Resolution) →
      length (headed order resolution minor zone accuracy snaplen network rest) ≡ 24 + length rest
  head_long Big Microseconds = omega arith
  head_long Big Nanoseconds = omega arith
  head_long Little Microseconds = omega arith
  head_long Little Nanoseconds = omega arith

  head_look : (order : Order) (resolution : Resolution) →
      IsHead order resolution network (headed order resolution minor zone accuracy snaplen network rest)
  unfolding look start_at variant_of head_at
  head_look Big Microseconds =
      let bytes = headed Big Microseconds minor zone accuracy snaplen network rest in
      let long = head_long Big Microseconds in
      cond-false (ltb (length bytes) 4) _ _ (is_not_below (length bytes) 4 (omega (arith, long)))
      ∙ cond-false (ltb (length bytes) 24) _ _ (is_not_below (length bytes) 24 (omega (arith, long)))
      ∙ ap (λ (n : ℕ). Passed (Head Big (n % 65536) Microseconds) 24) (reads_back Big 4 network rest fits)
  head_look Big Nanoseconds =
      let bytes = headed Big Nanoseconds minor zone accuracy snaplen network rest in
      let long = head_long Big Nanoseconds in
      cond-false (ltb (length bytes) 4) _ _ (is_not_below (length bytes) 4 (omega (arith, long)))
      ∙ cond-false (ltb (length bytes) 24) _ _ (is_not_below (length bytes) 24 (omega (arith, long)))
      ∙ ap (λ (n : ℕ). Passed (Head Big (n % 65536) Nanoseconds) 24) (reads_back Big 4 network rest fits)
  head_look Little Microseconds =
      let bytes = headed Little Microseconds minor zone accuracy snaplen network rest in
      let long = head_long Little Microseconds in
      cond-false (ltb (length bytes) 4) _ _ (is_not_below (length bytes) 4 (omega (arith, long)))
      ∙ cond-false (ltb (length bytes) 24) _ _ (is_not_below (length bytes) 24 (omega (arith, long)))
      ∙ ap (λ (n : ℕ). Passed (Head Little (n % 65536) Microseconds) 24) (reads_back Little 4 network rest fits)
  head_look Little Nanoseconds =
      let bytes = headed Little Nanoseconds minor zone accuracy snaplen network rest in
      let long = head_long Little Nanoseconds in
      cond-false (ltb (length bytes) 4) _ _ (is_not_below (length bytes) 4 (omega (arith, long)))
      ∙ cond-false (ltb (length bytes) 24) _ _ (is_not_below (length bytes) 24 (omega (arith, long)))
      ∙ ap (λ (n : ℕ). Passed (Head Little (n % 65536) Nanoseconds) 24) (reads_back Little 4 network rest fits)

  head_rest : (order : Order) (resolution : Resolution) →
      drop 24 (headed order resolution minor zone accuracy snaplen network rest) ≡ rest
  head_rest Big Microseconds = refl
  head_rest Big Nanoseconds = refl
  head_rest Little Microseconds = refl
  head_rest Little Nanoseconds = refl

-- ---- records

-- A record before other bytes, field by field.
abbrev recorded : Order → ClassicRecord → List ℕ → List ℕ
recorded order r rest = number_bytes order 4 r.seconds ++ (number_bytes order 4 r.fraction
    ++ (number_bytes order 4 (length r.bytes) ++ (number_bytes order 4 r.original ++ (r.bytes ++ rest))))

recorded_is : (order : Order) (r : ClassicRecord) (rest : List ℕ) → record_bytes order r ++ rest ≡ recorded order r rest
recorded_is Big r rest = refl
recorded_is Little r rest = refl

-- The format between two records.
abbrev between_records : Order → ℕ → Resolution → ℕ → FormatState
between_records order link resolution at =
    record { kind = Classic link resolution; order = order; at = at; interfaces = [] }

-- The place of a record's frame.
abbrev place_of : ℕ → Resolution → ClassicRecord → Place
place_of link resolution r = record {
  link = link;
  start = 16;
  len = length r.bytes;
  stamp = stamp.Classic r.seconds r.fraction resolution;
}

module _ (order : Order) (link : ℕ) (resolution : Resolution) (at : ℕ) (r : ClassicRecord) (rest : List ℕ)
    (is : IsRecord r) where
  recorded_long : length (recorded order r rest) ≡ 16 + (length r.bytes + length rest)
  recorded_long = omega (
    arith,
    long_4 order r.seconds (number_bytes order 4 r.fraction
        ++ (number_bytes order 4 (length r.bytes) ++ (number_bytes order 4 r.original ++ (r.bytes ++ rest)))),
    long_4 order r.fraction
        (number_bytes order 4 (length r.bytes) ++ (number_bytes order 4 r.original ++ (r.bytes ++ rest))),
    long_4 order (length r.bytes) (number_bytes order 4 r.original ++ (r.bytes ++ rest)),
    long_4 order r.original (r.bytes ++ rest),
    length-append r.bytes rest,
  )

  recorded_place : record_place order link resolution (recorded order r rest) ≡ place_of link resolution r
  recorded_place =
      let seconds : number order 4 (recorded order r rest) ≡ r.seconds = reads_back order 4 r.seconds _ is.seconds in
      let fraction : number order 4 (drop 4 (recorded order r rest)) ≡ r.fraction =
      ap (number order 4) (after_4 order r.seconds _) ∙ reads_back order 4 r.fraction _ is.fraction
      in
      let len : number order 4 (drop 8 (recorded order r rest)) ≡ length r.bytes =
      ap (number order 4) (after_8 order r.seconds r.fraction _)
      ∙ reads_back order 4 (length r.bytes) _ (omega (arith, is.bytes))
      in
      rw (seconds, fraction, len) refl

  record_look : look (between_records order link resolution at) (recorded order r rest)
      ≡ Framed (place_of link resolution r) (16 + length r.bytes)
  unfolding look record_at
  record_look =
      let bytes = recorded order r rest in
      let place = place_of link resolution r in
      let long = recorded_long in
      cond-false (ltb (length bytes) 16) _ _ (is_not_below (length bytes) 16 (omega (arith, long)))
      ∙ ap (λ (p : Place). record_of at p (length bytes)) recorded_place
      ∙ cond-false (ltb 262144 (length r.bytes)) _ _ (is_not_below 262144 (length r.bytes) (omega (arith, is.bytes)))
      ∙ cond-false (ltb (length bytes) (16 + length r.bytes)) _ _
      (is_not_below (length bytes) (16 + length r.bytes) (omega (arith, long)))

  record_read : captured (between_records order link resolution at) (record_bytes order r ++ rest)
      ≡ after_frame (record {
        link = link;
        time = Some
            (classic_time r.seconds r.fraction resolution);
        bytes = r.bytes;
      })
      (captured (between_records order link resolution (u64_saturate (at + (16 + length r.bytes)))) rest)
  record_read =
      let bytes = recorded order r rest in
      let behind : drop 16 bytes ≡ r.bytes ++ rest = after_16 order r.seconds r.fraction
      (length r.bytes) r.original (r.bytes ++ rest) in
      let frame : take (length r.bytes) (drop 16 bytes) ≡ r.bytes =
      ap (take (length r.bytes)) behind ∙ take_at r.bytes rest (length r.bytes) refl
      in
      let left : drop (16 + length r.bytes) bytes ≡ rest =
      sym (drop-drop (length r.bytes) 16 bytes) ∙ ap (drop (length r.bytes)) behind
      ∙ drop_at r.bytes rest (length r.bytes) refl
      in
      ap (captured (between_records order link resolution at)) (recorded_is order r rest)
      ∙ step_is (between_records order link resolution at) bytes (Framed (place_of link resolution r)
      (16 + length r.bytes))
      record_look
      ∙ ap (λ (t : List ℕ). after_frame (frame_at (place_of link resolution r) bytes)
      (captured (between_records order link resolution (u64_saturate (at + (16 + length r.bytes)))) t)) left
      ∙ ap (λ (t : List ℕ). after_frame
      (record { link = link; time = Some (classic_time r.seconds r.fraction resolution); bytes = t })
      (captured (between_records order link resolution (u64_saturate (at + (16 + length r.bytes)))) rest)) frame

all_read : (head : ClassicHead) (records : List ClassicRecord) (at : ℕ) → AllByRecursion IsRecord records →
    captured (between_records head.order (head.network % 65536) head.resolution at)
    (flat_map (record_bytes head.order) records)
    ≡ record { frames = map (record_frame head) records; fault = None }
all_read head [] at each = captured_nil (between_records head.order (head.network % 65536) head.resolution at)
all_read head (r ∷ records) at each =
    let later = u64_saturate (at + (16 + length r.bytes)) in
    record_read head.order (head.network % 65536) head.resolution at r (flat_map
    (record_bytes head.order) records) each.0
    ∙ ap (after_frame (record_frame head r)) (all_read head records later each.1)

-- A classic capture is read back as it was written.
pub records_read : (head : ClassicHead) (records : List ClassicRecord) → ReadsRecords head records
records_read head records fits each =
    let rest = flat_map (record_bytes head.order) records in
    let link = head.network % 65536 in
    step_is at_start (head_bytes head ++ rest) (Passed (Head head.order link head.resolution) 24)
    (head_look head.minor head.zone head.accuracy head.snaplen head.network rest fits head.order head.resolution)
    ∙ ap (captured (between_records head.order link head.resolution 24))
    (head_rest head.minor head.zone head.accuracy head.snaplen head.network rest fits head.order head.resolution)
    ∙ all_read head records 24 each
