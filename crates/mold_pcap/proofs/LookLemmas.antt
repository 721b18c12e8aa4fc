-- A look at the next part stays the same when more bytes are there.
use Rattle.std.proofs.Common.{◌≡◌, ℕ, ◌+◌, ◌-◌, ◌%◌, ◌<◌, ◌≤◌, Bool, true, false, cond, ltb, eqb, List, [], ◌++◌}
use Rattle.std.proofs.Common.{length, length-append, length-drop, take, drop, Option, None, Some, refl, sym, ap, subst}
use Rattle.std.proofs.Common.{◌∙◌, arith}
use Rattle.std.proofs.lemmas.Bool.{cond-true, cond-false}
use Rattle.std.proofs.lemmas.List.{drop-append-le, take-append-le}
use Rattle.std.proofs.lemmas.Bool.Decides.{nat_tests}
use Rattle.std.specs.Prelude.{slice_get}
use Rattle.byteorder.specs.Numbers.{big_from-append, little_from-append}
use Rattle.mold_pcap.specs.Blocks.{block_at, description_at, enhanced_at, enhanced_of, enhanced_place, framed_in}
use Rattle.mold_pcap.specs.Blocks.{interface_in, kind_at, or_look, order_of, other_at}
use Rattle.mold_pcap.specs.Blocks.{section_at, section_by, section_in, simple_at, simple_of, simple_place, wrong_block}
use Rattle.mold_pcap.specs.Classic.{head_at, head_by, record_at, record_of, record_place, variant_of}
use Rattle.mold_pcap.specs.Formats.{FormatState}
use Rattle.mold_pcap.specs.Looks.{IsLook, look, look_by, start_at}
use Rattle.mold_pcap.specs.Numbers.{number}
use Rattle.mold_pcap.specs.declared.fault.CaptureFault.TheVariants.{BadBlock, NoCapture, TooLong}
use Rattle.mold_pcap.specs.declared.interface.Interface.{Interface}
use Rattle.mold_pcap.specs.declared.kind.Kind.{Kind}
use Rattle.mold_pcap.specs.declared.kind.Kind.TheVariants.{Start, Classic, Blocks, Spent}
use Rattle.mold_pcap.specs.declared.look.Look.{Look}
use Rattle.mold_pcap.specs.declared.look.Look.TheVariants.{Short, Refused, Ended, Passed, Other, Framed}
use Rattle.mold_pcap.specs.declared.next.Next.TheVariants.{Head, Section, Described}
use Rattle.mold_pcap.specs.declared.place.Place.{Place}
use Rattle.mold_pcap.specs.declared.resolution.Resolution.{Resolution}
use Rattle.mold_pcap.specs.declared.order.Order.{Order}
use Rattle.mold_pcap.specs.declared.order.Order.TheVariants.{Big, Little}

-- The look `later` at `there` bytes goes with this one at the first `here` of them: it is the same, unless more bytes
-- were needed and are there. A part has what it uses.
abbrev pub IsSound : Look → Look → ℕ → ℕ → Type 0
IsSound (Short need) later here there = (here < need) × (need ≤ 327680) × (there < need → later ≡ Short need)
IsSound (Refused why) later here there = later ≡ Refused why
IsSound Ended later here there = later ≡ Ended
IsSound (Passed next used) later here there = (later ≡ Passed next used) × (0 < used) × (used ≤ here)
IsSound (Other total) later here there = (later ≡ Other total) × (12 ≤ total)
IsSound (Framed place used) later here there =
    (later ≡ Framed place used) × (0 < used) × (used ≤ here) × (place.start + place.len ≤ used)

-- ---- numbers

-- A number does not depend on the bytes after it.
pub number_first : (order : Order) (n : ℕ) (xs ys : List ℕ) → n ≤ length xs → number order n (xs ++ ys)
    ≡ number order n xs
number_first Big n xs ys within = big_from-append n xs ys within
number_first Little n xs ys within = little_from-append n xs ys within

-- The same for a number that begins later.
pub number_in : (order : Order) (n k : ℕ) (xs ys : List ℕ) → k + n ≤ length xs →
    number order n (drop k (xs ++ ys)) ≡ number order n (drop k xs)
number_in order n k xs ys within =
    ap (number order n) (drop-append-le k xs ys (omega arith))
    ∙ number_first order n (drop k xs) ys (omega (arith, length-drop k xs))

-- ---- tests

sound_test : (b : Bool) (x y x' y' : Look) (here there : ℕ) → (b ≡ true → IsSound x x' here there) →
    (b ≡ false → IsSound y y' here there) → IsSound (cond b x y) (cond b x' y') here there
sound_test true x y x' y' here there yes' no' = yes' refl
sound_test false x y x' y' here there yes' no' = no' refl

short_by : (b c : Bool) (need : ℕ) (x x' : Look) (here there : ℕ) → need ≤ 327680 → (b ≡ true → here < need) →
    (there < need → c ≡ true) → (b ≡ false → c ≡ false) → (b ≡ false → IsSound x x' here there) →
    IsSound (cond b (Short need) x) (cond c (Short need) x') here there
short_by true c need x x' here there most few more same sound =
    (few refl, most, λ fewer. cond-true c (Short need) x' (more fewer))
short_by false c need x x' here there most few more same sound =
    subst (λ (l : Look). IsSound x l here there) (sym (cond-false c (Short need) x' (same refl))) (sound refl)

pub below : (a b : ℕ) → ltb a b ≡ true → a < b
below a b is = grind (arith, nat_tests)

pub not_below : (a b : ℕ) → ltb a b ≡ false → b ≤ a
not_below a b is = grind (arith, nat_tests)

pub is_below : (a b : ℕ) → a < b → ltb a b ≡ true
is_below a b less = grind (arith, nat_tests)

pub is_not_below : (a b : ℕ) → b ≤ a → ltb a b ≡ false
is_not_below a b less = grind (arith, nat_tests)

-- A test whether enough bytes are there.
sound_short : (need : ℕ) (x x' : Look) (here there : ℕ) → here ≤ there → need ≤ 327680 →
    (need ≤ here → IsSound x x' here there) →
    IsSound (cond (ltb here need) (Short need) x) (cond (ltb there need) (Short need) x') here there
sound_short need x x' here there le most sound = short_by (ltb here need) (ltb there need) need x x' here there most
    (below here need) (is_below there need)
    (λ is. is_not_below there need (let enough = not_below here need is in omega (arith, enough)))
    (λ is. sound (not_below here need is))

-- ---- classic captures

module _ (xs ys : List ℕ) where
  longer : length xs ≤ length (xs ++ ys)
  longer = omega (arith, length-append xs ys)

  -- What is sound for these bytes and more.
  abbrev Stays : Look → Look → Type 0
  Stays x x' = IsSound x x' (length xs) (length (xs ++ ys))

  -- A look that depends on a number within the first bytes.
  by_number : {A : Type 0} (f : A → Look) (x : Look) (a b : A) → b ≡ a → Stays x (f a) → Stays x (f b)
  by_number f x a b same sound = subst (λ l. Stays x (f l)) (sym same) sound

  head_sound : (order : Order) (resolution : Resolution) →
      Stays (head_at order resolution xs) (head_at order resolution (xs ++ ys))
  unfolding head_at
  head_sound order resolution =
      let head = λ (bytes : List ℕ). Passed (Head order (number order 4 (drop 20 bytes) % 65536) resolution) 24 in
      let by_version = λ (bytes : List ℕ). cond (eqb (number order 2 (drop 4 bytes)) 2) (head bytes)
      (Refused NoCapture) in
      sound_short 24 (by_version xs) (by_version (xs ++ ys)) (length xs) (length (xs
      ++ ys)) longer (omega arith) (λ long.
      let version = number_in order 2 4 xs ys (omega arith) in
      let link = number_in order 4 20 xs ys (omega arith) in
      rw (version, link)
      (sound_test (eqb (number order 2 (drop 4 xs)) 2) (head xs) (Refused NoCapture) (head xs) (Refused NoCapture)
      (length xs) (length (xs ++ ys)) (λ is. (refl, omega arith, long)) (λ is. refl)))

  head_by_sound : (variant : Option (Order × Resolution)) → Stays (head_by variant xs) (head_by variant (xs ++ ys))
  head_by_sound None = refl
  head_by_sound (Some variant) = head_sound variant.0 variant.1

  record_of_sound : (at : ℕ) (place : Place) → place.start ≡ 16 →
      Stays (record_of at place (length xs)) (record_of at place (length (xs ++ ys)))
  record_of_sound at place start =
      let by_len = λ (there : ℕ). cond (ltb there (16 + place.len)) (Short (16 + place.len)) (Framed place
      (16 + place.len)) in
      sound_test (ltb 262144 place.len) (Refused (TooLong at)) (by_len (length xs)) (Refused (TooLong at))
      (by_len (length (xs ++ ys))) (length xs) (length (xs ++ ys)) (λ is. refl)
      (λ is.
      let few = not_below 262144 place.len is in
      sound_short (16 + place.len) (Framed place (16 + place.len)) (Framed place (16 + place.len)) (length xs)
      (length (xs ++ ys)) longer (omega (arith, few)) (λ long. (refl, omega arith, long, omega (arith, start))))

  record_sound : (at : ℕ) (order : Order) (link : ℕ) (resolution : Resolution) →
      Stays (record_at at order link resolution xs) (record_at at order link resolution (xs ++ ys))
  unfolding record_at
  record_sound at order link resolution =
      sound_short 16 (record_of at (record_place order link resolution xs) (length xs))
      (record_of at (record_place order link resolution (xs ++ ys)) (length (xs ++ ys))) (length xs) (length (xs ++ ys))
      longer (omega arith) (λ long.
      let len = number_in order 4 8 xs ys (omega arith) in
      let seconds = number_first order 4 xs ys (omega arith) in
      let fraction = number_in order 4 4 xs ys (omega arith) in
      let same : record_place order link resolution (xs ++ ys) ≡ record_place order link resolution xs =
      rw (len, seconds, fraction) refl in
      subst (λ (place : Place). Stays (record_of at (record_place order link resolution xs) (length xs))
      (record_of at place (length (xs ++ ys)))) (sym same)
      (record_of_sound at (record_place order link resolution xs) refl))

  -- ---- blocks

  or_test : (b : Bool) (w v w' v' : Option Look) (x x' : Look) → (b ≡ true → Stays (or_look w x) (or_look w' x')) →
      (b ≡ false → Stays (or_look v x) (or_look v' x')) → Stays (or_look (cond b w v) x) (or_look (cond b w' v') x')
  or_test true w v w' v' x x' yes' no' = yes' refl
  or_test false w v w' v' x x' yes' no' = no' refl

  or_short : (b c : Bool) (need : ℕ) (w w' : Option Look) (x x' : Look) → need ≤ 327680 → (b ≡ true →
      length xs < need) →
      (length (xs ++ ys) < need → c ≡ true) → (b ≡ false → c ≡ false) →
      (b ≡ false → Stays (or_look w x) (or_look w' x')) →
      Stays (or_look (cond b (Some (Short need)) w) x) (or_look (cond c (Some (Short need)) w') x')
  or_short true c need w w' x x' most few more same sound = (
    few refl,
    most,
    λ fewer. ap (λ (o : Option Look). or_look o x') (cond-true c (Some (Short need)) w'
        (more fewer)),
  )
  or_short false c need w w' x x' most few more same sound =
      subst (λ (o : Option Look). Stays (or_look w x) (or_look o x')) (sym (cond-false c (Some (Short need)) w'
      (same refl)))
      (sound refl)

  -- A block of a kind that is read stays what it is once it is there whole.
  block_sound : (at : ℕ) (order : Order) (least total : ℕ) (x x' : Look) → 12 ≤ least →
      (total ≤ length xs → least ≤ total → Stays x x') →
      Stays (or_look (wrong_block at order least total xs) x) (or_look (wrong_block at order least total (xs ++ ys)) x')
  unfolding wrong_block
  block_sound at order least total x x' some sound =
      let bad = Some (Refused (BadBlock at)) in
      let end = λ (bytes : List ℕ). cond (eqb (number order 4 (drop (total - 4) bytes)) total) None bad in
      let whole = λ (bytes : List ℕ). cond (ltb (length bytes) total) (Some (Short total)) (end bytes) in
      let few = λ (bytes : List ℕ). cond (ltb 327680 total) (Some (Refused (TooLong at))) (whole bytes) in
      or_test (ltb total least) bad (cond (eqb (total % 4) 0) (few xs) bad) bad (cond (eqb (total % 4) 0) (few
      (xs ++ ys)) bad)
      x x' (λ is. refl) (λ long.
      let enough = not_below total least long in
      or_test (eqb (total % 4) 0) (few xs) bad (few (xs ++ ys)) bad x x' (λ is.
      or_test (ltb 327680 total) (Some (Refused (TooLong at))) (whole xs) (Some (Refused (TooLong at))) (whole
      (xs ++ ys))
      x x' (λ much. refl) (λ most.
      let most = not_below 327680 total most in
      or_short (ltb (length xs) total) (ltb (length (xs ++ ys)) total) total (end xs) (end (xs ++ ys)) x x' most
      (below (length xs) total) (is_below (length (xs ++ ys)) total)
      (λ is. is_not_below (length (xs ++ ys)) total (let there = not_below (length xs) total is in omega
      (arith, there, longer)))
      (λ is.
      let there = not_below (length xs) total is in
      let last = number_in order 4 (total - 4) xs ys (omega (arith, there, enough)) in
      subst (λ (n : ℕ). Stays (or_look (end xs) x) (or_look (cond (eqb n total) None bad) x')) (sym last)
      (or_test (eqb (number order 4 (drop (total - 4) xs)) total) None bad None bad x x'
      (λ same. sound there enough) (λ other. refl)))))
      (λ is. refl))

  section_in_sound : (at : ℕ) (order : Order) → 12 ≤ length xs →
      Stays (section_in at order xs) (section_in at order (xs ++ ys))
  unfolding section_in
  section_in_sound at order long =
      let total = number order 4 (drop 4 xs) in
      let same = number_in order 4 4 xs ys (omega arith) in
      subst (λ (n : ℕ). Stays (or_look (wrong_block at order 28 total xs) (Passed (Section order) total))
      (or_look (wrong_block at order 28 n (xs ++ ys)) (Passed (Section order) n))) (sym same)
      (block_sound at order 28 total (Passed (Section order) total) (Passed (Section order) total) (omega arith)
      (λ there enough. (refl, omega arith, there)))

  section_by_sound : (at : ℕ) (order : Option Order) → 12 ≤ length xs →
      Stays (section_by at order xs) (section_by at order (xs ++ ys))
  section_by_sound at None long = refl
  section_by_sound at (Some order) long = section_in_sound at order long

  section_sound : (at : ℕ) → Stays (section_at at xs) (section_at at (xs ++ ys))
  unfolding section_at
  section_sound at =
      let by_magic = λ (bytes : List ℕ). section_by at (order_of (number Big 4 (drop 8 bytes))) bytes in
      sound_short 12 (by_magic xs) (by_magic (xs ++ ys)) (length xs) (length (xs ++ ys)) longer (omega arith) (λ long.
      let magic = number_in Big 4 8 xs ys (omega arith) in
      subst (λ (n : ℕ). Stays (by_magic xs) (section_by at (order_of n) (xs ++ ys))) (sym magic)
      (section_by_sound at (order_of (number Big 4 (drop 8 xs))) long))

  description_sound : (at : ℕ) (order : Order) (total : ℕ) →
      Stays (description_at at order total xs) (description_at at order total (xs ++ ys))
  unfolding description_at
  description_sound at order total =
      let described = λ (bytes : List ℕ). Passed (Described (interface_in order total bytes)) total in
      block_sound at order 20 total (described xs) (described (xs ++ ys)) (omega arith) (λ there enough.
      let link = number_in order 2 8 xs ys (omega arith) in
      let snaplen = number_in order 4 12 xs ys (omega arith) in
      let options : take (total - 20) (drop 16 (xs ++ ys)) ≡ take (total - 20) (drop 16 xs) =
      ap (take (total - 20)) (drop-append-le 16 xs ys (omega arith))
      ∙ take-append-le (total - 20) (drop 16 xs) ys (omega (arith, length-drop 16 xs))
      in
      let same : interface_in order total (xs ++ ys) ≡ interface_in order total xs = rw (link, snaplen, options) refl in
      subst (λ (i : Interface). Stays (described xs) (Passed (Described i) total)) (sym same)
      (refl, omega arith, there))

  framed_sound : (at total : ℕ) (place : Place) → 0 < total → total ≤ length xs →
      Stays (framed_in at total place) (framed_in at total place)
  framed_sound at total place some there =
      sound_test (ltb total (place.start + place.len + 4)) (Refused (BadBlock at)) (Framed place total)
      (Refused (BadBlock at)) (Framed place total) (length xs) (length (xs ++ ys)) (λ is. refl)
      (λ is. let fits = not_below total (place.start + place.len + 4) is in (refl, some, there, omega (arith, fits)))

  enhanced_of_sound : (at : ℕ) (order : Order) (total : ℕ) (found : Option Interface) → 32 ≤ total → total ≤ length xs →
      Stays (enhanced_of at order total xs found) (enhanced_of at order total (xs ++ ys) found)
  enhanced_of_sound at order total None enough there = refl
  enhanced_of_sound at order total (Some interface) enough there =
      let place = λ (bytes : List ℕ). enhanced_place order bytes interface in
      let len = number_in order 4 20 xs ys (omega arith) in
      let upper = number_in order 4 12 xs ys (omega arith) in
      let lower = number_in order 4 16 xs ys (omega arith) in
      let same : enhanced_place order (xs ++ ys) interface ≡ enhanced_place order xs interface = rw
      (len, upper, lower) refl in
      subst (λ (p : Place). Stays (framed_in at total (place xs)) (framed_in at total p)) (sym same)
      (framed_sound at total (place xs) (omega arith) there)

  enhanced_sound : (at : ℕ) (order : Order) (interfaces : List Interface) (total : ℕ) →
      Stays (enhanced_at at order interfaces total xs) (enhanced_at at order interfaces total (xs ++ ys))
  unfolding enhanced_at
  enhanced_sound at order interfaces total =
      let packet = λ (bytes : List ℕ).
      enhanced_of at order total bytes (slice_get interfaces (number order 4 (drop 8 bytes))) in
      block_sound at order 32 total (packet xs) (packet (xs ++ ys)) (omega arith) (λ there enough.
      let same = number_in order 4 8 xs ys (omega arith) in
      subst (λ (n : ℕ). Stays (packet xs) (enhanced_of at order total (xs ++ ys) (slice_get interfaces n))) (sym same)
      (enhanced_of_sound at order total (slice_get interfaces (number order 4 (drop 8 xs))) enough there))

  simple_of_sound : (at : ℕ) (order : Order) (total : ℕ) (found : Option Interface) → 16 ≤ total → total ≤ length xs →
      Stays (simple_of at order total xs found) (simple_of at order total (xs ++ ys) found)
  simple_of_sound at order total None enough there = refl
  simple_of_sound at order total (Some interface) enough there =
      let place = λ (len : ℕ). simple_place len interface in
      let same = number_in order 4 8 xs ys (omega arith) in
      subst (λ (n : ℕ). Stays (framed_in at total (place (number order 4 (drop 8 xs)))) (framed_in at total (place n)))
      (sym same) (framed_sound at total (place (number order 4 (drop 8 xs))) (omega arith) there)

  simple_sound : (at : ℕ) (order : Order) (interfaces : List Interface) (total : ℕ) →
      Stays (simple_at at order interfaces total xs) (simple_at at order interfaces total (xs ++ ys))
  unfolding simple_at
  simple_sound at order interfaces total =
      let packet = λ (bytes : List ℕ). simple_of at order total bytes (slice_get interfaces 0) in
      block_sound at order 16 total (packet xs) (packet (xs ++ ys)) (omega arith)
      (λ there enough. simple_of_sound at order total (slice_get interfaces 0) enough there)

  other_sound : (at total : ℕ) → Stays (other_at at total) (other_at at total)
  unfolding other_at
  other_sound at total =
      let bad = Refused (BadBlock at) in
      let other = cond (eqb (total % 4) 0) (Other total) bad in
      sound_test (ltb total 12) bad other bad other (length xs) (length (xs ++ ys)) (λ is. refl) (λ is.
      let enough = not_below total 12 is in
      sound_test (eqb (total % 4) 0) (Other total) bad (Other total) bad (length xs) (length (xs ++ ys))
      (λ four. (refl, enough)) (λ odd. refl))

  kind_sound : (at : ℕ) (order : Order) (interfaces : List Interface) (kind : ℕ) → 8 ≤ length xs →
      Stays (kind_at at order interfaces kind xs) (kind_at at order interfaces kind (xs ++ ys))
  unfolding kind_at
  kind_sound at order interfaces kind long =
      let total = number order 4 (drop 4 xs) in
      let by_total = λ (n : ℕ) (bytes : List ℕ).
      cond (eqb kind 168627466) (section_at at bytes) (
      cond (eqb kind 1) (description_at at order n bytes) (
      cond (eqb kind 3) (simple_at at order interfaces n bytes) (
      cond (eqb kind 6) (enhanced_at at order interfaces n bytes) (other_at at n)))) in
      let here = length xs in
      let there = length (xs ++ ys) in
      let same = number_in order 4 4 xs ys (omega arith) in
      subst (λ (n : ℕ). Stays (by_total total xs) (by_total n (xs ++ ys))) (sym same)
      (sound_test (eqb kind 168627466) _ _ _ _ here there (λ is. section_sound at) (λ is.
      sound_test (eqb kind 1) _ _ _ _ here there (λ is. description_sound at order total) (λ is.
      sound_test (eqb kind 3) _ _ _ _ here there (λ is. simple_sound at order interfaces total) (λ is.
      sound_test (eqb kind 6) _ _ _ _ here there (λ is. enhanced_sound at order interfaces total) (λ is.
      other_sound at total)))))

  block_at_sound : (at : ℕ) (order : Order) (interfaces : List Interface) →
      Stays (block_at at order interfaces xs) (block_at at order interfaces (xs ++ ys))
  unfolding block_at
  block_at_sound at order interfaces =
      let by_kind = λ (bytes : List ℕ). kind_at at order interfaces (number order 4 bytes) bytes in
      sound_short 8 (by_kind xs) (by_kind (xs ++ ys)) (length xs) (length (xs ++ ys)) longer (omega arith) (λ long.
      let same = number_first order 4 xs ys (omega arith) in
      subst (λ (n : ℕ). Stays (by_kind xs) (kind_at at order interfaces n (xs ++ ys))) (sym same)
      (kind_sound at order interfaces (number order 4 xs) long))

  -- ---- any capture

  start_sound : (at : ℕ) → Stays (start_at at xs) (start_at at (xs ++ ys))
  unfolding start_at
  start_sound at =
      let by_magic = λ (n : ℕ) (bytes : List ℕ).
      cond (eqb n 168627466) (section_at at bytes) (head_by (variant_of n) bytes) in
      let magic = number Big 4 xs in
      sound_short 4 (by_magic magic xs) (by_magic (number Big 4 (xs ++ ys)) (xs ++ ys)) (length xs) (length (xs ++ ys))
      longer (omega arith) (λ long.
      let same = number_first Big 4 xs ys (omega arith) in
      subst (λ (n : ℕ). Stays (by_magic magic xs) (by_magic n (xs ++ ys))) (sym same)
      (sound_test (eqb magic 168627466) _ _ _ _ (length xs) (length (xs ++ ys)) (λ is. section_sound at)
      (λ is. head_by_sound (variant_of magic))))

  look_by_sound : (kind : Kind) (format : FormatState) → Stays (look_by kind format xs) (look_by kind format (xs ++ ys))
  look_by_sound Start format = start_sound format.at
  look_by_sound (Classic link resolution) format = record_sound format.at format.order link resolution
  look_by_sound Blocks format = block_at_sound format.at format.order format.interfaces
  look_by_sound Spent format = refl

  -- A look stays the same when more bytes are there.
  pub look_sound : (format : FormatState) → Stays (look format xs) (look format (xs ++ ys))
  unfolding look
  look_sound format = look_by_sound format.kind format

look_from : (x later : Look) (here there : ℕ) (bytes : List ℕ) → length bytes ≡ here → IsSound x later here there →
    IsLook x bytes
look_from (Short need) later here there bytes same sound = (omega (arith, sound.0), sound.1)
look_from (Refused why) later here there bytes same sound = tt
look_from Ended later here there bytes same sound = tt
look_from (Passed next used) later here there bytes same sound = (sound.1, omega (arith, sound.2))
look_from (Other total) later here there bytes same sound = sound.1
look_from (Framed place used) later here there bytes same sound = (sound.1, omega (arith, sound.2), sound.3)

-- A part has the bytes that it uses, or needs more than are there.
pub is_look : (format : FormatState) (bytes : List ℕ) → IsLook (look format bytes) bytes
is_look format bytes = look_from (look format bytes) (look format (bytes ++ [])) (length bytes) (length (bytes
    ++ [])) bytes
    refl (look_sound bytes [] format)
