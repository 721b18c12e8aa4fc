-- Blocks are read back as they were written.
use Rattle.std.proofs.Common.{◌≡◌, ℕ, ◌+◌, ◌-◌, ◌*◌, ◌/◌, ◌%◌, ◌<◌, ◌≤◌, Bool, false, true, ltb, eqb, List, [], ◌∷◌}
use Rattle.std.proofs.Common.{◌++◌, length, length-append, take, drop, Option, None, Some, refl, sym, ap, ◌∙◌}
use Rattle.std.proofs.Common.{append_assoc, arith}
use Rattle.std.proofs.lemmas.Bool.{cond-false, cond-true}
use Rattle.std.proofs.lemmas.Bool.Decides.{nat_tests}
use Rattle.std.proofs.lemmas.List.{drop-drop, drop_at, length-replicate, take_at}
use Rattle.std.proofs.lemmas.Nat.{shr_below}
use Rattle.std.specs.Io.Iter.{u64_saturate}
use Rattle.std.specs.List.{AllByRecursion, flat_map}
use Rattle.std.specs.Prelude.{◌≢◌, IsSomeAnd, replicate, slice_get, ⊤}
use Rattle.mold_pcap.specs.Blocks.{block_at, description_at, enhanced_at, enhanced_of, enhanced_place, framed_in}
use Rattle.mold_pcap.specs.Blocks.{interface_in, kind_at, or_look}
use Rattle.mold_pcap.specs.Blocks.{order_of, other_at, section_at, section_by, section_in, simple_at, simple_of}
use Rattle.mold_pcap.specs.Blocks.{simple_place, snapped, wrong_block}
use Rattle.mold_pcap.specs.Captures.{Capture, Frame, after_frame, captured, frame_at}
use Rattle.mold_pcap.specs.Formats.{FormatState, at_start, with_interface}
use Rattle.mold_pcap.specs.Laws.{ReadsBlocks}
use Rattle.mold_pcap.specs.Looks.{look, start_at}
use Rattle.mold_pcap.specs.Numbers.{number}
use Rattle.mold_pcap.specs.Options.{clock_of, first_option, padded, with_option}
use Rattle.mold_pcap.specs.Written.{number_bytes}
use Rattle.mold_pcap.specs.WrittenBlocks.{AreBlocks, Block, EnhancedPacket, IsBlock, IsBody, IsOption, IsOtherKind}
use Rattle.mold_pcap.specs.WrittenBlocks.{IsSnapped, SimplePacket, WrittenInterface, WrittenOption}
use Rattle.mold_pcap.specs.WrittenBlocks.{another, block_bytes, block_frames, blocks_bytes, body_of, clock_after}
use Rattle.mold_pcap.specs.WrittenBlocks.{described, description, end_bytes, enhanced, enhanced_frames, frames_in}
use Rattle.mold_pcap.specs.WrittenBlocks.{header}
use Rattle.mold_pcap.specs.WrittenBlocks.{interfaces_after, option_bytes, options_bytes, order_after, simple}
use Rattle.mold_pcap.specs.WrittenBlocks.{simple_frames, written}
use Rattle.mold_pcap.specs.declared.clock.Clock.{Clock}
use Rattle.mold_pcap.specs.declared.interface.Interface.{Interface}
use Rattle.mold_pcap.specs.declared.kind.Kind.TheVariants.{Blocks}
use Rattle.mold_pcap.specs.declared.look.Look.{Look}
use Rattle.mold_pcap.specs.declared.look.Look.TheVariants.{Passed, Framed, Other}
use Rattle.mold_pcap.specs.declared.next.Next.TheVariants.{Section, Described}
use Rattle.mold_pcap.specs.declared.place.Place.{Place}
use Rattle.mold_pcap.specs.Times.{time_of}
use Rattle.mold_pcap.specs.declared.stamp.Stamp.TheVariants.{Units}
use Rattle.mold_pcap.specs.declared.order.Order.{Order}
use Rattle.mold_pcap.specs.declared.order.Order.TheVariants.{Big, Little}
use Rattle.mold_pcap.proofs.CaptureLemmas.{captured_nil, other_whole, step_is}
use Rattle.mold_pcap.proofs.LookLemmas.{is_below, is_not_below}
use Rattle.mold_pcap.proofs.NumberLemmas.{after_2, after_4, after_8, after_12, after_20, long_2, long_4, reads_back}
use Rattle.mold_pcap.proofs.OptionLemmas.{clock_end, clock_step}

is_equal : (a b : ℕ) → a ≡ b → eqb a b ≡ true
is_equal a b same = grind (arith, nat_tests)

is_other : (a b : ℕ) → a ≢ b → eqb a b ≡ false
is_other a b differs = grind (arith, nat_tests)

-- ---- any block

-- A block before other bytes, field by field.
abbrev laid : Order → ℕ → List ℕ → List ℕ → List ℕ
laid order kind body rest = number_bytes order 4 kind
    ++ (number_bytes order 4 (12 + length body) ++ (body ++ (number_bytes order 4 (12 + length body) ++ rest)))

laid_is : (order : Order) (kind : ℕ) (body rest : List ℕ) → block_bytes order kind body ++ rest
    ≡ laid order kind body rest
laid_is Big kind body rest =
    ap (λ (t : List ℕ). number_bytes Big 4 kind ++ (number_bytes Big 4 (12 + length body) ++ t))
    (append_assoc body (number_bytes Big 4 (12 + length body)) rest)
laid_is Little kind body rest =
    ap (λ (t : List ℕ). number_bytes Little 4 kind ++ (number_bytes Little 4 (12 + length body) ++ t))
    (append_assoc body (number_bytes Little 4 (12 + length body)) rest)

-- The format between two blocks.
abbrev between_blocks : Order → List Interface → ℕ → FormatState
between_blocks order interfaces at = record { kind = Blocks; order = order; at = at; interfaces = interfaces }

module _ (order : Order) (kind : ℕ) (body rest : List ℕ) (fits : 12 + length body < 4294967296) where
  laid_long : length (laid order kind body rest) ≡ (12 + length body) + length rest
  laid_long =
      let end = number_bytes order 4 (12 + length body) ++ rest in
      omega (
        arith,
        long_4 order kind (number_bytes order 4 (12 + length body) ++ (body ++ end)),
        long_4 order (12 + length body) (body ++ end),
        length-append body end,
        long_4 order (12 + length body) rest,
      )

  laid_total : number order 4 (drop 4 (laid order kind body rest)) ≡ 12 + length body
  laid_total = ap (number order 4) (after_4 order kind _) ∙ reads_back order 4 (12 + length body) _ fits

  laid_body : drop 8 (laid order kind body rest) ≡ body ++ (number_bytes order 4 (12 + length body) ++ rest)
  laid_body = after_8 order kind (12 + length body) _

  laid_end : drop ((12 + length body) - 4) (laid order kind body rest) ≡ number_bytes order 4 (12 + length body) ++ rest
  laid_end =
      let bytes = laid order kind body rest in
      let n : (12 + length body) - 4 ≡ 8 + length body = omega arith in
      ap (λ (m : ℕ). drop m bytes) n
      ∙ sym (drop-drop (length body) 8 bytes)
      ∙ ap (drop (length body)) laid_body
      ∙ drop_at body (number_bytes order 4 (12 + length body) ++ rest) (length body) refl

  laid_last : number order 4 (drop ((12 + length body) - 4) (laid order kind body rest)) ≡ 12 + length body
  laid_last = ap (number order 4) laid_end ∙ reads_back order 4 (12 + length body) rest fits

  laid_rest : drop (12 + length body) (laid order kind body rest) ≡ rest
  laid_rest =
      let bytes = laid order kind body rest in
      let n : 12 + length body ≡ ((12 + length body) - 4) + 4 = omega arith in
      ap (λ (m : ℕ). drop m bytes) n
      ∙ sym (drop-drop 4 ((12 + length body) - 4) bytes)
      ∙ ap (drop 4) laid_end
      ∙ after_4 order (12 + length body) rest

  -- A field of the body.
  laid_field : (k : ℕ) → drop (8 + k) (laid order kind body rest)
      ≡ drop k (body ++ (number_bytes order 4 (12 + length body) ++ rest))
  laid_field k = sym (drop-drop k 8 (laid order kind body rest)) ∙ ap (drop k) laid_body

  laid_right : (at least : ℕ) → least ≤ 12 + length body → 12 + length body ≤ 327680 → length body % 4 ≡ 0 →
      wrong_block at order least (12 + length body) (laid order kind body rest) ≡ None
  unfolding wrong_block
  laid_right at least enough most fourths =
      let total = 12 + length body in
      let bytes = laid order kind body rest in
      let long = laid_long in
      cond-false (ltb total least) _ _ (is_not_below total least enough)
      ∙ cond-true (eqb (total % 4) 0) _ _ (is_equal (total % 4) 0 (omega (arith, fourths)))
      ∙ cond-false (ltb 327680 total) _ _ (is_not_below 327680 total most)
      ∙ cond-false (ltb (length bytes) total) _ _ (is_not_below (length bytes) total (omega (arith, long)))
      ∙ cond-true (eqb (number order 4 (drop (total - 4) bytes)) total) _ _ (is_equal _ total laid_last)

  laid_block : (at : ℕ) (interfaces : List Interface) → kind < 4294967296 →
      look (between_blocks order interfaces at) (laid order kind body rest)
      ≡ kind_at at order interfaces kind (laid order kind body rest)
  unfolding look block_at
  laid_block at interfaces few =
      let bytes = laid order kind body rest in
      let long = laid_long in
      cond-false (ltb (length bytes) 8) _ _ (is_not_below (length bytes) 8 (omega (arith, long)))
      ∙ ap (λ (k : ℕ). kind_at at order interfaces k bytes) (reads_back order 4 kind _ few)

-- The capture with these frames before its own.
abbrev with_frames : List Frame → Capture → Capture
with_frames frames capture = record { frames = frames ++ capture.frames; fault = capture.fault }

-- The rest of a capture after a block.
abbrev after_block : Order → List Interface → ℕ → Block → List ℕ → Capture
after_block order interfaces at block rest = with_frames (block_frames interfaces block)
    (captured (between_blocks (order_after order block) (interfaces_after order interfaces block) at) rest)

-- ---- other blocks

module _ (order : Order) (interfaces : List Interface) (at kind : ℕ) (body rest : List ℕ) (other : IsOtherKind kind)
    (is : IsBody 4294967295 body) where
  other_look : look (between_blocks order interfaces at) (laid order kind body rest) ≡ Other (12 + length body)
  unfolding kind_at other_at
  other_look =
      let total = 12 + length body in
      let bytes = laid order kind body rest in
      let fits : total < 4294967296 = omega (arith, is.few) in
      laid_block order kind body rest fits at interfaces other.fits
      ∙ cond-false (eqb kind 168627466) _ _ (is_other kind 168627466 other.header)
      ∙ cond-false (eqb kind 1) _ _ (is_other kind 1 other.description)
      ∙ cond-false (eqb kind 3) _ _ (is_other kind 3 other.simple)
      ∙ cond-false (eqb kind 6) _ _ (is_other kind 6 other.enhanced)
      ∙ ap (other_at at) (laid_total order kind body rest fits)
      ∙ cond-false (ltb total 12) _ _ (is_not_below total 12 (omega arith))
      ∙ cond-true (eqb (total % 4) 0) _ _ (is_equal (total % 4) 0 (omega (arith, is.fourths)))

  other_read : captured (between_blocks order interfaces at) (block_bytes order kind body ++ rest)
      ≡ captured (between_blocks order interfaces (u64_saturate (at + (12 + length body)))) rest
  other_read =
      let total = 12 + length body in
      let bytes = laid order kind body rest in
      let fits : total < 4294967296 = omega (arith, is.few) in
      let format = between_blocks order interfaces at in
      let later = between_blocks order interfaces (u64_saturate (at + total)) in
      ap (captured format) (laid_is order kind body rest)
      ∙ step_is format bytes (Other total) other_look
      ∙ other_whole format total bytes (captured later (drop total bytes))
      (let long = laid_long order kind body rest fits in omega (arith, long)) (laid_last order kind body rest fits)
      ∙ ap (captured later) (laid_rest order kind body rest fits)

-- ---- section headers

-- The kind of a section header reads the same in both orders.
same_kind : (order own : Order) (bytes : List ℕ) → number order 4 (number_bytes own 4 168627466 ++ bytes) ≡ 168627466
same_kind Big Big bytes = refl
same_kind Big Little bytes = refl
same_kind Little Big bytes = refl
same_kind Little Little bytes = refl

-- The byte-order magic states the order in which it was written.
same_order : (own : Order) (bytes : List ℕ) → order_of (number Big 4 (number_bytes own 4 439041101 ++ bytes)) ≡ Some own
unfolding order_of
same_order Big bytes = refl
same_order Little bytes = refl

module _ (own : Order) (bytes rest : List ℕ) (enough : 12 ≤ length bytes)
    (is : IsBody 327680 (number_bytes own 4 439041101 ++ bytes)) where
  abbrev header_bytes : List ℕ
  header_bytes = laid own 168627466 (number_bytes own 4 439041101 ++ bytes) rest

  header_look : (at : ℕ) → section_at at header_bytes
      ≡ Passed (Section own) (12 + length (number_bytes own 4 439041101 ++ bytes))
  unfolding section_at section_in
  header_look at =
      let body = number_bytes own 4 439041101 ++ bytes in
      let total = 12 + length body in
      let fits : total < 4294967296 = omega (arith, is.few) in
      let all = header_bytes in
      let long = laid_long own 168627466 body rest fits in
      let body_long = long_4 own 439041101 bytes in
      let end = number_bytes own 4 total ++ rest in
      let magic : order_of (number Big 4 (drop 8 all)) ≡ Some own =
      ap (λ (t : List ℕ). order_of (number Big 4 t))
      (laid_body own 168627466 body rest fits ∙ append_assoc (number_bytes own 4 439041101) bytes end)
      ∙ same_order own (bytes ++ end)
      in
      cond-false (ltb (length all) 12) _ _ (is_not_below (length all) 12 (omega (arith, long)))
      ∙ ap (λ (o : Option Order). section_by at o all) magic
      ∙ ap (λ (n : ℕ). or_look (wrong_block at own 28 n all) (Passed (Section own) n))
      (laid_total own 168627466 body rest fits)
      ∙ ap (λ (o : Option Look). or_look o (Passed (Section own) total))
      (laid_right own 168627466 body rest fits at 28 (omega (arith, body_long, enough)) is.few is.fourths)

  -- A section header is read back, in a capture of either order.
  header_read : (order : Order) (interfaces : List Interface) (at : ℕ) →
      captured (between_blocks order interfaces at) (written own (header own bytes) ++ rest)
      ≡ captured (between_blocks own [] (u64_saturate (at + (12 + length (number_bytes own 4 439041101
      ++ bytes))))) rest
  unfolding look block_at kind_at
  header_read order interfaces at =
      let body = number_bytes own 4 439041101 ++ bytes in
      let total = 12 + length body in
      let fits : total < 4294967296 = omega (arith, is.few) in
      let all = header_bytes in
      let long = laid_long own 168627466 body rest fits in
      let format = between_blocks order interfaces at in
      let later = between_blocks own [] (u64_saturate (at + total)) in
      let here : look format all ≡ Passed (Section own) total =
      cond-false (ltb (length all) 8) _ _ (is_not_below (length all) 8 (omega (arith, long)))
      ∙ ap (λ (k : ℕ). kind_at at order interfaces k all) (same_kind order own (number_bytes own 4 total ++ (body
      ++ (number_bytes own 4 total ++ rest))))
      ∙ header_look at
      in
      ap (captured format) (laid_is own 168627466 body rest)
      ∙ step_is format all (Passed (Section own) total) here
      ∙ ap (captured later) (laid_rest own 168627466 body rest fits)

  -- The first section header is read back.
  first_read : captured at_start (written own (header own bytes) ++ rest)
      ≡ captured (between_blocks own [] (u64_saturate (0 + (12 + length (number_bytes own 4 439041101 ++ bytes))))) rest
  unfolding look start_at
  first_read =
      let body = number_bytes own 4 439041101 ++ bytes in
      let total = 12 + length body in
      let fits : total < 4294967296 = omega (arith, is.few) in
      let all = header_bytes in
      let long = laid_long own 168627466 body rest fits in
      let later = between_blocks own [] (u64_saturate (0 + total)) in
      let kind = same_kind Big own (number_bytes own 4 total ++ (body ++ (number_bytes own 4 total ++ rest))) in
      let here : look at_start all ≡ Passed (Section own) total =
      cond-false (ltb (length all) 4) _ _ (is_not_below (length all) 4 (omega (arith, long)))
      ∙ cond-true (eqb (number Big 4 all) 168627466) _ _ (is_equal (number Big 4 all) 168627466 kind)
      ∙ header_look 0
      in
      ap (captured at_start) (laid_is own 168627466 body rest)
      ∙ step_is at_start all (Passed (Section own) total) here
      ∙ ap (captured later) (laid_rest own 168627466 body rest fits)

-- ---- interface descriptions

-- An option before other bytes, field by field.
abbrev opted : Order → WrittenOption → List ℕ → List ℕ
opted order o rest = number_bytes order 2 o.code ++ (number_bytes order 2 (length o.value)
    ++ (o.value ++ (replicate (padded (length o.value) - length o.value) 0 ++ rest)))

opted_is : (order : Order) (o : WrittenOption) (rest : List ℕ) → option_bytes order o ++ rest ≡ opted order o rest
opted_is Big o rest =
    ap (λ (t : List ℕ). number_bytes Big 2 o.code ++ (number_bytes Big 2 (length o.value) ++ t))
    (append_assoc o.value (replicate (padded (length o.value) - length o.value) 0) rest)
opted_is Little o rest =
    ap (λ (t : List ℕ). number_bytes Little 2 o.code ++ (number_bytes Little 2 (length o.value) ++ t))
    (append_assoc o.value (replicate (padded (length o.value) - length o.value) 0) rest)

after_2_2 : (order : Order) (x y : ℕ) (rest : List ℕ) →
    drop 4 (number_bytes order 2 x ++ (number_bytes order 2 y ++ rest)) ≡ rest
after_2_2 Big x y rest = refl
after_2_2 Little x y rest = refl

module _ (order : Order) (o : WrittenOption) (rest : List ℕ) (is : IsOption o) where
  opted_long : length (opted order o rest) ≡ 4 + (padded (length o.value) + length rest)
  opted_long =
      let pad : List ℕ = replicate (padded (length o.value) - length o.value) 0 in
      omega (
        arith,
        long_2 order o.code (number_bytes order 2 (length o.value) ++ (o.value ++ (pad ++ rest))),
        long_2 order (length o.value) (o.value ++ (pad ++ rest)),
        length-append o.value (pad ++ rest),
        length-append pad rest,
        length-replicate {A = ℕ} (padded (length o.value) - length o.value) 0,
      )

  opted_found : first_option order (opted order o rest) ≡ Some (o.code, length o.value)
  unfolding first_option
  opted_found =
      let bytes = opted order o rest in
      let long = opted_long in
      let code : number order 2 bytes ≡ o.code = reads_back order 2 o.code _ is.code in
      let len : number order 2 (drop 2 bytes) ≡ length o.value =
      ap (number order 2) (after_2 order o.code _) ∙ reads_back order 2 (length o.value) _ is.value
      in
      let last : Option (ℕ × ℕ) = Some (number order 2 bytes, number order 2 (drop 2 bytes)) in
      cond-false (ltb (length bytes) 4) _ _ (is_not_below (length bytes) 4 (omega (arith, long)))
      ∙ cond-false (eqb (number order 2 bytes) 0) _ _
      (is_other (number order 2 bytes) 0 (λ zero. absurd (omega (arith, code, zero, is.some))))
      ∙ cond-false (ltb (length bytes) (4 + number order 2 (drop 2 bytes))) _ _
      (is_not_below (length bytes) (4 + number order 2 (drop 2 bytes)) (omega (arith, long, len)))
      ∙ ap (λ (n : ℕ). Some (n, number order 2 (drop 2 bytes))) code
      ∙ ap (λ (n : ℕ). Some (o.code, n)) len

  opted_value : take (length o.value) (drop 4 (opted order o rest)) ≡ o.value
  opted_value = ap (take (length o.value)) (after_2_2 order o.code (length o.value) _)
      ∙ take_at o.value _ (length o.value) refl

  opted_rest : drop (4 + padded (length o.value)) (opted order o rest) ≡ rest
  opted_rest =
      let pad : List ℕ = replicate (padded (length o.value) - length o.value) 0 in
      let long : length (o.value ++ pad) ≡ padded (length o.value) =
      omega (arith, length-append o.value pad, length-replicate {A = ℕ} (padded (length o.value) - length o.value) 0)
      in
      sym (drop-drop (padded (length o.value)) 4 (opted order o rest))
      ∙ ap (drop (padded (length o.value))) (after_2_2 order o.code (length o.value) _
      ∙ sym (append_assoc o.value pad rest))
      ∙ drop_at (o.value ++ pad) rest (padded (length o.value)) long

  option_read : (clock : Clock) → clock_of order clock (option_bytes order o ++ rest)
      ≡ clock_of order (with_option order clock o.code o.value) rest
  option_read clock =
      let bytes = opted order o rest in
      let long = opted_long in
      ap (clock_of order clock) (opted_is order o rest)
      ∙ clock_step order clock bytes (o.code, length o.value) (omega (arith, long)) opted_found
      ∙ ap (λ (v : List ℕ). clock_of order (with_option order clock o.code v) (drop (4 + padded
      (length o.value)) bytes)) opted_value
      ∙ ap (clock_of order (with_option order clock o.code o.value)) opted_rest

end_found : (order : Order) (ended : Bool) → first_option order (end_bytes ended) ≡ None
unfolding first_option
end_found Big true = refl
end_found Little true = refl
end_found Big false = refl
end_found Little false = refl

-- Options are read back.
options_read : (order : Order) (clock : Clock) (options : List WrittenOption) (ended : Bool) →
    AllByRecursion IsOption options →
    clock_of order clock (flat_map (option_bytes order) options ++ end_bytes ended) ≡ clock_after order clock options
options_read order clock [] ended each = clock_end order clock (end_bytes ended) (end_found order ended)
options_read order clock (o ∷ options) ended each =
    let rest = flat_map (option_bytes order) options ++ end_bytes ended in
    ap (clock_of order clock) (append_assoc (option_bytes order o) (flat_map (option_bytes order) options)
    (end_bytes ended))
    ∙ option_read order o rest each.0 clock
    ∙ options_read order (with_option order clock o.code o.value) options ended each.1

-- The body of a description, before other bytes.
module _ (order : Order) (w : WrittenInterface) (tail : List ℕ) where
  abbrev about : List ℕ
  about = body_of order (description w) ++ tail

  about_link : w.link < 65536 → number order 2 about ≡ w.link
  about_link fits = ap (number order 2) (append_assoc (number_bytes order 2 w.link)
      (number_bytes order 2 w.reserved ++ (number_bytes order 4 w.snaplen ++ options_bytes order w)) tail)
      ∙ reads_back order 2 w.link _ fits

about_4 : (order : Order) (w : WrittenInterface) (tail : List ℕ) →
    drop 4 (about order w tail) ≡ number_bytes order 4 w.snaplen ++ (options_bytes order w ++ tail)
about_4 Big w tail = refl
about_4 Little w tail = refl

about_8 : (order : Order) (w : WrittenInterface) (tail : List ℕ) →
    drop 8 (about order w tail) ≡ options_bytes order w ++ tail
about_8 Big w tail = refl
about_8 Little w tail = refl

about_long : (order : Order) (w : WrittenInterface) → length (body_of order (description w))
    ≡ 8 + length (options_bytes order w)
about_long order w = omega (
  arith,
  long_2 order w.link (number_bytes order 2 w.reserved ++ (number_bytes order 4 w.snaplen ++ options_bytes order w)),
  long_2 order w.reserved (number_bytes order 4 w.snaplen ++ options_bytes order w),
  long_4 order w.snaplen (options_bytes order w),
)

module _ (order : Order) (interfaces : List Interface) (at : ℕ) (w : WrittenInterface) (rest : List ℕ)
    (block : IsBlock order interfaces (description w)) where
  abbrev described_bytes : List ℕ
  described_bytes = laid order 1 (body_of order (description w)) rest

  description_interface : interface_in order (12 + length (body_of order (description w))) described_bytes
      ≡ described order w
  description_interface =
      let body = body_of order (description w) in
      let fits : 12 + length body < 4294967296 = omega (arith, block.0.few) in
      let end = number_bytes order 4 (12 + length body) ++ rest in
      let link : number order 2 (drop 8 described_bytes) ≡ w.link =
      ap (number order 2) (laid_body order 1 body rest fits) ∙ about_link order w end block.1
      in
      let snaplen : number order 4 (drop 12 described_bytes) ≡ w.snaplen =
      ap (number order 4) (laid_field order 1 body rest fits 4 ∙ about_4 order w end)
      ∙ reads_back order 4 w.snaplen (options_bytes order w ++ end) block.2
      in
      let len : (12 + length body) - 20 ≡ length (options_bytes order w) = omega (arith, about_long order w) in
      let options : take ((12 + length body) - 20) (drop 16 described_bytes) ≡ options_bytes order w =
      ap (take ((12 + length body) - 20)) (laid_field order 1 body rest fits 8 ∙ about_8 order w end)
      ∙ take_at (options_bytes order w) end ((12 + length body) - 20) (sym len)
      in
      let clock : clock_of order (record { tsresol = 6; tsoffset = 0 }) (take ((12 + length body) - 20)
      (drop 16 described_bytes))
      ≡ clock_after order (record { tsresol = 6; tsoffset = 0 }) w.options =
      ap (clock_of order (record { tsresol = 6; tsoffset = 0 })) options
      ∙ options_read order (record { tsresol = 6; tsoffset = 0 }) w.options w.ended block.3
      in
      rw (link, snaplen, clock) refl

  description_read : captured (between_blocks order interfaces at) (written order (description w) ++ rest)
      ≡ captured (between_blocks order (interfaces ++ described order w ∷ [])
      (u64_saturate (at + (12 + length (body_of order (description w)))))) rest
  unfolding kind_at description_at
  description_read =
      let body = body_of order (description w) in
      let total = 12 + length body in
      let fits : total < 4294967296 = omega (arith, block.0.few) in
      let bytes = described_bytes in
      let format = between_blocks order interfaces at in
      let saturated = u64_saturate (at + total) in
      let here : look format bytes ≡ Passed (Described (described order w)) total =
      laid_block order 1 body rest fits at interfaces (omega arith)
      ∙ ap (λ (n : ℕ). or_look (wrong_block at order 20 n bytes) (Passed (Described (interface_in order n bytes)) n))
      (laid_total order 1 body rest fits)
      ∙ ap (λ (o : Option Look). or_look o (Passed (Described (interface_in order total bytes)) total))
      (laid_right order 1 body rest fits at 20 (omega (arith, about_long order w)) block.0.few block.0.fourths)
      ∙ ap (λ (i : Interface). Passed (Described i) total) description_interface
      in
      let added : with_interface interfaces (described order w) ≡ interfaces ++ described order w ∷ [] =
      cond-true (ltb (length interfaces) 1024) _ _ (is_below (length interfaces) 1024 block.4)
      in
      ap (captured format) (laid_is order 1 body rest)
      ∙ step_is format bytes (Passed (Described (described order w)) total) here
      ∙ ap (λ (i : List Interface). captured (between_blocks order i saturated) (drop total bytes)) added
      ∙ ap (captured (between_blocks order (interfaces ++ described order w ∷ []) saturated))
      (laid_rest order 1 body rest fits)

-- ---- packets

-- The frame of a packet block, of which the look is known.
packet_read : (order : Order) (interfaces : List Interface) (at kind : ℕ) (body rest : List ℕ) (place : Place)
    (bytes tail : List ℕ) → 12 + length body < 4294967296 →
    look (between_blocks order interfaces at) (laid order kind body rest) ≡ Framed place (12 + length body) →
    drop place.start (laid order kind body rest) ≡ bytes ++ tail → place.len ≡ length bytes →
    captured (between_blocks order interfaces at) (block_bytes order kind body ++ rest)
    ≡ after_frame (record { link = place.link; time = time_of place.stamp; bytes = bytes })
    (captured (between_blocks order interfaces (u64_saturate (at + (12 + length body)))) rest)
packet_read order interfaces at kind body rest place bytes tail fits here start len =
    let all = laid order kind body rest in
    let total = 12 + length body in
    let format = between_blocks order interfaces at in
    let later = between_blocks order interfaces (u64_saturate (at + total)) in
    let frame : take place.len (drop place.start all) ≡ bytes =
    ap (take place.len) start ∙ take_at bytes tail place.len (sym len)
    in
    ap (captured format) (laid_is order kind body rest)
    ∙ step_is format all (Framed place total) here
    ∙ ap (λ (t : List ℕ). after_frame (frame_at place all) (captured later t)) (laid_rest order kind body rest fits)
    ∙ ap (λ (t : List ℕ). after_frame (record { link = place.link; time = time_of place.stamp; bytes = t })
    (captured later rest)) frame

-- The body of an enhanced packet before other bytes, field by field.
abbrev packed : Order → EnhancedPacket → List ℕ → List ℕ
packed order p tail = number_bytes order 4 p.interface ++ (number_bytes order 4 (p.units / 4294967296)
    ++ (number_bytes order 4 (p.units % 4294967296) ++ (number_bytes order 4 (length p.bytes)
    ++ (number_bytes order 4 p.original ++ (p.bytes ++ (p.rest ++ tail))))))

packed_is : (order : Order) (p : EnhancedPacket) (tail : List ℕ) → body_of order (enhanced p) ++ tail
    ≡ packed order p tail
packed_is Big p tail = ap (λ (t : List ℕ). number_bytes Big 4 p.interface ++ (number_bytes Big 4 (p.units / 4294967296)
    ++ (number_bytes Big 4 (p.units % 4294967296) ++ (number_bytes Big 4 (length p.bytes)
    ++ (number_bytes Big 4 p.original ++ t))))) (append_assoc p.bytes p.rest tail)
packed_is Little p tail = ap (λ (t : List ℕ). number_bytes Little 4 p.interface
    ++ (number_bytes Little 4 (p.units / 4294967296)
    ++ (number_bytes Little 4 (p.units % 4294967296) ++ (number_bytes Little 4 (length p.bytes)
    ++ (number_bytes Little 4 p.original ++ t))))) (append_assoc p.bytes p.rest tail)

packed_long : (order : Order) (p : EnhancedPacket) → length (body_of order (enhanced p))
    ≡ 20 + (length p.bytes + length p.rest)
packed_long Big p = omega (arith, length-append p.bytes p.rest)
packed_long Little p = omega (arith, length-append p.bytes p.rest)

-- Some interface has this number.
some_interface : (found : Option Interface) (P : Interface → Type 0) → IsSomeAnd found P → (i : Interface)
    × (found ≡ Some i) × P i
some_interface None P some = absurd some
some_interface (Some i) P some = (i, refl, some)

module _ (order : Order) (interfaces : List Interface) (at : ℕ) (p : EnhancedPacket) (rest : List ℕ)
    (block : IsBlock order interfaces (enhanced p)) where
  abbrev enhanced_bytes : List ℕ
  enhanced_bytes = laid order 6 (body_of order (enhanced p)) rest

  -- A field of the packet.
  enhanced_field : (k : ℕ) → drop (8 + k) enhanced_bytes
      ≡ drop k (packed order p (number_bytes order 4 (12 + length (body_of order (enhanced p))) ++ rest))
  enhanced_field k =
      let body = body_of order (enhanced p) in
      let fits : 12 + length body < 4294967296 = omega (arith, block.0.few) in
      laid_field order 6 body rest fits k ∙ ap (drop k) (packed_is order p (number_bytes order 4
      (12 + length body) ++ rest))

  place_is : (i : Interface) → enhanced_place order enhanced_bytes i
      ≡ record { link = i.link; start = 28; len = length p.bytes; stamp = Units p.units i.clock }
  place_is i =
      let body = body_of order (enhanced p) in
      let long = packed_long order p in
      let upper : number order 4 (drop 12 enhanced_bytes) ≡ p.units / 4294967296 =
      ap (number order 4) (enhanced_field 4 ∙ after_4 order p.interface _)
      ∙ reads_back order 4 (p.units / 4294967296) _ (shr_below p.units 32 32 block.2)
      in
      let lower : number order 4 (drop 16 enhanced_bytes) ≡ p.units % 4294967296 =
      ap (number order 4) (enhanced_field 8 ∙ after_8 order p.interface (p.units / 4294967296) _)
      ∙ reads_back order 4 (p.units % 4294967296) _ (omega arith)
      in
      let len : number order 4 (drop 20 enhanced_bytes) ≡ length p.bytes =
      ap (number order 4) (enhanced_field 12 ∙ after_12 order p.interface (p.units / 4294967296)
      (p.units % 4294967296) _)
      ∙ reads_back order 4 (length p.bytes) _ (omega (arith, long, block.0.few))
      in
      let units : number order 4 (drop 12 enhanced_bytes) * 4294967296 + number order 4 (drop 16 enhanced_bytes)
      ≡ p.units =
      omega (arith, upper, lower)
      in
      rw (units, len) refl

  enhanced_read : captured (between_blocks order interfaces at) (written order (enhanced p) ++ rest)
      ≡ with_frames (enhanced_frames p (slice_get interfaces p.interface))
      (captured (between_blocks order interfaces (u64_saturate (at + (12 + length (body_of order (enhanced p)))))) rest)
  unfolding kind_at enhanced_at
  enhanced_read =
      let body = body_of order (enhanced p) in
      let total = 12 + length body in
      let fits : total < 4294967296 = omega (arith, block.0.few) in
      let all = enhanced_bytes in
      let long = packed_long order p in
      let found = some_interface (slice_get interfaces p.interface) (λ _. ⊤) block.3 in
      let i = found.0 in
      let place : Place = record { link = i.link; start = 28; len = length p.bytes; stamp = Units p.units i.clock } in
      let later = between_blocks order interfaces (u64_saturate (at + total)) in
      let number_is : number order 4 (drop 8 all) ≡ p.interface =
      ap (number order 4) (enhanced_field 0) ∙ reads_back order 4 p.interface _ block.1
      in
      let interface : slice_get interfaces (number order 4 (drop 8 all)) ≡ Some i =
      ap (slice_get interfaces) number_is ∙ found.1
      in
      let here : look (between_blocks order interfaces at) all ≡ Framed place total =
      laid_block order 6 body rest fits at interfaces (omega arith)
      ∙ ap (λ (n : ℕ). or_look (wrong_block at order 32 n all)
      (enhanced_of at order n all (slice_get interfaces (number order 4 (drop 8 all)))))
      (laid_total order 6 body rest fits)
      ∙ ap (λ (o : Option Look). or_look o
      (enhanced_of at order total all (slice_get interfaces (number order 4 (drop 8 all)))))
      (laid_right order 6 body rest fits at 32 (omega (arith, long)) block.0.few block.0.fourths)
      ∙ ap (enhanced_of at order total all) interface
      ∙ ap (framed_in at total) (place_is i)
      ∙ cond-false (ltb total ((28 + length p.bytes) + 4)) _ _
      (is_not_below total ((28 + length p.bytes) + 4) (omega (arith, long)))
      in
      let start : drop 28 all ≡ p.bytes ++ (p.rest ++ (number_bytes order 4 total ++ rest)) =
      enhanced_field 20
      ∙ after_20 order p.interface (p.units / 4294967296) (p.units % 4294967296) (length p.bytes) p.original _
      in
      packet_read order interfaces at 6 body rest place p.bytes (p.rest ++ (number_bytes order 4 total
      ++ rest)) fits here start refl
      ∙ ap (λ (o : Option Interface). with_frames (enhanced_frames p o) (captured later rest)) (sym found.1)

-- The body of a simple packet before other bytes.
spare_is : (order : Order) (p : SimplePacket) (tail : List ℕ) →
    body_of order (simple p) ++ tail ≡ number_bytes order 4 p.original ++ (p.bytes ++ (p.rest ++ tail))
spare_is Big p tail = ap (λ (t : List ℕ). number_bytes Big 4 p.original ++ t) (append_assoc p.bytes p.rest tail)
spare_is Little p tail = ap (λ (t : List ℕ). number_bytes Little 4 p.original ++ t) (append_assoc p.bytes p.rest tail)

module _ (order : Order) (interfaces : List Interface) (at : ℕ) (p : SimplePacket) (rest : List ℕ)
    (block : IsBlock order interfaces (simple p)) where
  simple_read : captured (between_blocks order interfaces at) (written order (simple p) ++ rest)
      ≡ with_frames (simple_frames p (slice_get interfaces 0))
      (captured (between_blocks order interfaces (u64_saturate (at + (12 + length (body_of order (simple p)))))) rest)
  unfolding kind_at simple_at
  simple_read =
      let body = body_of order (simple p) in
      let total = 12 + length body in
      let fits : total < 4294967296 = omega (arith, block.0.few) in
      let all = laid order 3 body rest in
      let end = number_bytes order 4 total ++ rest in
      let long : length body ≡ 4 + (length p.bytes + length p.rest) =
      omega (arith, long_4 order p.original (p.bytes ++ p.rest), length-append p.bytes p.rest)
      in
      let found = some_interface (slice_get interfaces 0) (IsSnapped p) block.2 in
      let i = found.0 in
      let place : Place = simple_place p.original i in
      let later = between_blocks order interfaces (u64_saturate (at + total)) in
      let original : number order 4 (drop 8 all) ≡ p.original =
      ap (number order 4) (laid_body order 3 body rest fits ∙ spare_is order p end)
      ∙ reads_back order 4 p.original _ block.1
      in
      let here : look (between_blocks order interfaces at) all ≡ Framed place total =
      laid_block order 3 body rest fits at interfaces (omega arith)
      ∙ ap (λ (n : ℕ). or_look (wrong_block at order 16 n all) (simple_of at order n all (slice_get interfaces 0)))
      (laid_total order 3 body rest fits)
      ∙ ap (λ (o : Option Look). or_look o (simple_of at order total all (slice_get interfaces 0)))
      (laid_right order 3 body rest fits at 16 (omega (arith, long)) block.0.few block.0.fourths)
      ∙ ap (simple_of at order total all) found.1
      ∙ ap (λ (n : ℕ). framed_in at total (simple_place n i)) original
      ∙ cond-false (ltb total ((12 + snapped i.snaplen p.original) + 4)) _ _
      (is_not_below total ((12 + snapped i.snaplen p.original) + 4) (omega (arith, long, found.2)))
      in
      let start : drop 12 all ≡ p.bytes ++ (p.rest ++ end) =
      laid_field order 3 body rest fits 4
      ∙ ap (drop 4) (spare_is order p end)
      ∙ after_4 order p.original (p.bytes ++ (p.rest ++ end))
      in
      packet_read order interfaces at 3 body rest place p.bytes (p.rest ++ end) fits here start (sym found.2)
      ∙ ap (λ (o : Option Interface). with_frames (simple_frames p o) (captured later rest)) (sym found.1)

-- ---- blocks, one after another

-- The offset after a block.
abbrev offset_after : Order → ℕ → Block → ℕ
offset_after order at block = u64_saturate (at + (12 + length (body_of (order_after order block) block)))

block_read : (order : Order) (interfaces : List Interface) (at : ℕ) (block : Block) (rest : List ℕ) →
    IsBlock order interfaces block →
    captured (between_blocks order interfaces at) (written (order_after order block) block ++ rest)
    ≡ after_block order interfaces (offset_after order at block) block rest
block_read order interfaces at (header own bytes) rest is = header_read own bytes rest is.0 is.1 order interfaces at
block_read order interfaces at (description w) rest is = description_read order interfaces at w rest is
block_read order interfaces at (enhanced p) rest is = enhanced_read order interfaces at p rest is
block_read order interfaces at (simple p) rest is = simple_read order interfaces at p rest is
block_read order interfaces at (another kind bytes) rest is = other_read order interfaces at kind bytes rest is.0 is.1

all_blocks : (order : Order) (interfaces : List Interface) (at : ℕ) (blocks : List Block) →
    AreBlocks order interfaces blocks →
    captured (between_blocks order interfaces at) (blocks_bytes order blocks)
    ≡ record { frames = frames_in order interfaces blocks; fault = None }
all_blocks order interfaces at [] are = captured_nil (between_blocks order interfaces at)
all_blocks order interfaces at (block ∷ blocks) are =
    let later = order_after order block in
    block_read order interfaces at block (blocks_bytes later blocks) are.0
    ∙ ap (with_frames (block_frames interfaces block))
    (all_blocks later (interfaces_after order interfaces block) (offset_after order at block) blocks are.1)

-- A pcapng capture is read back as it was written.
pub blocks_read : (order : Order) (bytes : List ℕ) (blocks : List Block) → ReadsBlocks order bytes blocks
blocks_read order bytes blocks are =
    first_read order bytes (blocks_bytes order blocks) are.0.0 are.0.1
    ∙ all_blocks order [] (u64_saturate (0 + (12 + length (number_bytes order 4 439041101 ++ bytes)))) blocks are.1
