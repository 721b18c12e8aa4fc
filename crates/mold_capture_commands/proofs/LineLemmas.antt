-- The pairs of a list of datagrams, in the order of their first appearance.
use Rattle.std.proofs.Common.{◌≡◌, ℕ, zero, suc, ◌≤◌, Bool, true, false, not, cond, List, [], ◌∷◌, ◌++◌, map, length, refl, sym, ap, ◌∙◌, subst, arith, true≢false}
use Rattle.std.specs.Prelude.{IfSome, None, Option, Result, Some, if◌then◌else◌, is_some, position, slice_get}
use Rattle.std.specs.List.{IsDistinct, filter, flat_map}
use Rattle.std.specs.Map.{keys_of, lookup, values_of}
use Rattle.indexmap.specs.IndexMap.{insert_entry, set_value_at}
use Rattle.indexmap.proofs.MapLemmas.{Found as FoundAt, Found-position, Missing-position, index-first, insert_entry-first, some_index}
use Rattle.indexmap.proofs.RemoveLemmas.{own_first}
use Rattle.mold_frame.specs.Carried.{Datagram}
use Rattle.mold_wire.specs.Reading.{reading}
use Rattle.mold_wire.specs.declared.error.DecodeError.{DecodeError}
use Rattle.mold_wire.specs.declared.packet.Packet.{Packet}
use Rattle.mold_capture_commands.specs.Filter.{Found, Passed, Skipped, Partial, Unread}
use Rattle.mold_capture_commands.specs.Pairs.{distinct, pair_of, readings_of, same_pair, tally_of}
use Rattle.mold_capture_commands.specs.SessionState.{all_counted, frame_counted, lines_more, lines_text, no_tally, nothing_counted, tally_more}
use Rattle.mold_capture_commands.specs.Sessions.{datagrams, pair_text, pairs_text}
use Rattle.mold_capture_commands.specs.declared.pair.Pair.{Pair}
use Rattle.mold_capture_commands.specs.declared.pair_tally.PairTally.{PairTally}
use Rattle.mold_capture_commands.specs.declared.session_frames.SessionFrames.{SessionFrames}
use Rattle.mold_capture_commands.proofs.PairLemmas.{pair_apart, pair_law, pair_equal, pair_same, tallied, tally_is}

-- ---- filters

filter_comm : {X : Type 0} (f g : X → Bool) (xs : List X) → filter f (filter g xs) ≡ filter g (filter f xs)
filter_comm f g [] = refl
filter_comm {X} f g (x ∷ xs) = at (f x) (g x) refl refl (filter_comm f g xs)
  where
    at : (a b : Bool) → f x ≡ a → g x ≡ b → filter f (filter g xs) ≡ filter g (filter f xs) →
        filter f (cond b (x ∷ filter g xs) (filter g xs)) ≡ filter g (cond a (x ∷ filter f xs) (filter f xs))
    at true true ef eg rest =
        ap (λ (c : Bool). cond c (x ∷ filter f (filter g xs)) (filter f (filter g xs))) ef
        ∙ ap (λ (l : List X). x ∷ l) rest
        ∙ sym (ap (λ (c : Bool). cond c (x ∷ filter g (filter f xs)) (filter g (filter f xs))) eg)
    at true false ef eg rest =
        rest ∙ sym (ap (λ (c : Bool). cond c (x ∷ filter g (filter f xs)) (filter g (filter f xs))) eg)
    at false true ef eg rest =
        ap (λ (c : Bool). cond c (x ∷ filter f (filter g xs)) (filter f (filter g xs))) ef ∙ rest
    at false false ef eg rest = rest

filter_within : {X : Type 0} (f g : X → Bool) → ((x : X) → f x ≡ true → g x ≡ true) → (xs : List X) →
    filter f (filter g xs) ≡ filter f xs
filter_within f g within [] = refl
filter_within {X} f g within (x ∷ xs) = at (f x) (g x) refl refl (filter_within f g within xs)
  where
    at : (a b : Bool) → f x ≡ a → g x ≡ b → filter f (filter g xs) ≡ filter f xs →
        filter f (cond b (x ∷ filter g xs) (filter g xs)) ≡ cond a (x ∷ filter f xs) (filter f xs)
    at a true ef eg rest =
        ap (λ (l : List X). cond (f x) (x ∷ l) l) rest
        ∙ ap (λ (c : Bool). cond c (x ∷ filter f xs) (filter f xs)) ef
    at true false ef eg rest = absurd (true≢false (sym (within x ef) ∙ eg))
    at false false ef eg rest = rest

map_filter : {X Y : Type 0} (g : X → Y) (f : Y → Bool) (xs : List X) →
    map g (filter (λ x. f (g x)) xs) ≡ filter f (map g xs)
map_filter g f [] = refl
map_filter {X} {Y} g f (x ∷ xs) = at (f (g x)) (map_filter g f xs)
  where
    at : (b : Bool) → map g (filter (λ x. f (g x)) xs) ≡ filter f (map g xs) →
        map g (cond b (x ∷ filter (λ x. f (g x)) xs) (filter (λ x. f (g x)) xs))
        ≡ cond b (g x ∷ filter f (map g xs)) (filter f (map g xs))
    at true rest = ap (λ (l : List Y). g x ∷ l) rest
    at false rest = rest

map_passed : {X Y : Type 0} (f : X → Bool) (g h : X → Y) → ((x : X) → f x ≡ true → g x ≡ h x) → (xs : List X) →
    map g (filter f xs) ≡ map h (filter f xs)
map_passed f g h same [] = refl
map_passed {X} {Y} f g h same (x ∷ xs) = at (f x) refl (map_passed f g h same xs)
  where
    at : (b : Bool) → f x ≡ b → map g (filter f xs) ≡ map h (filter f xs) →
        map g (cond b (x ∷ filter f xs) (filter f xs)) ≡ map h (cond b (x ∷ filter f xs) (filter f xs))
    at true is rest = λ i. same x is i ∷ rest i
    at false is rest = rest

filter_shorter : {X : Type 0} (f : X → Bool) (xs : List X) → length (filter f xs) ≤ length xs
filter_shorter f [] = omega arith
filter_shorter {X} f (x ∷ xs) = at (f x) (filter_shorter f xs)
  where
    at : (b : Bool) → length (filter f xs) ≤ length xs →
        length (cond b (x ∷ filter f xs) (filter f xs)) ≤ suc (length xs)
    at true rest = omega (arith, rest)
    at false rest = omega (arith, rest)

-- ---- distinct pairs

-- Another pair.
abbrev differs : Pair → Pair → Bool
differs pair other = not (same_pair other pair)

not_false : (b : Bool) → not b ≡ false → b ≡ true
not_false true is = refl
not_false false is = absurd (true≢false is)

not_true : (b : Bool) → not b ≡ true → b ≡ false
not_true true is = absurd (true≢false (sym is))
not_true false is = refl

distinct_filter : (pair : Pair) (pairs : List Pair) →
    distinct (filter (differs pair) pairs) ≡ filter (differs pair) (distinct pairs)
unfolding distinct
distinct_filter pair [] = refl
distinct_filter pair (first ∷ pairs) = at (differs pair first) refl (distinct_filter pair pairs)
  where
    at : (b : Bool) → differs pair first ≡ b →
        distinct (filter (differs pair) pairs) ≡ filter (differs pair) (distinct pairs) →
        distinct (cond b (first ∷ filter (differs pair) pairs) (filter (differs pair) pairs))
        ≡ cond b (first ∷ filter (differs pair) (filter (differs first) (distinct pairs)))
        (filter (differs pair) (filter (differs first) (distinct pairs)))
    at true is rest =
        ap (λ (l : List Pair). first ∷ filter (differs first) l) rest
        ∙ ap (λ (l : List Pair). first ∷ l) (filter_comm (differs first) (differs pair) (distinct pairs))
    at false is rest =
        rest
        ∙ sym (filter_within (differs pair) (differs pair) (λ x e. e) (distinct pairs))
        ∙ ap (λ (p : Pair). filter (differs pair) (filter (differs p) (distinct pairs)))
        (sym (pair_equal first pair (not_false (same_pair first pair) is)))

-- ---- the lines of datagrams

-- The lines after the datagrams.
abbrev all_noted : List (Pair × PairTally) → List Datagram → List (Pair × PairTally)
all_noted lines [] = lines
all_noted lines (d ∷ list) = all_noted (lines_more lines (pair_of d) (reading d.payload)) list

-- The datagrams of other pairs.
abbrev others : Pair → List Datagram → List Datagram
others pair list = filter (λ d. differs pair (pair_of d)) list

-- The line of a pair.
abbrev line_in : List Datagram → Pair → Pair × PairTally
line_in list pair = (pair, tallied no_tally (readings_of pair list))

-- The lines of a list of datagrams.
abbrev lines_in : List Datagram → List (Pair × PairTally)
lines_in list = map (line_in list) (distinct (map pair_of list))

lines_are : (s : SessionFrames) (list : List Found) → (all_counted s list).lines ≡ all_noted s.lines (datagrams list)
unfolding all_counted datagrams
lines_are s [] = refl
lines_are s (Passed d ∷ list) = lines_are (frame_counted s (Passed d)) list
lines_are s (Skipped ∷ list) = lines_are (frame_counted s Skipped) list
lines_are s (Partial ∷ list) = lines_are (frame_counted s Partial) list
lines_are s (Unread ∷ list) = lines_are (frame_counted s Unread) list

-- The first line counts its datagrams, and the others count the rest.
abbrev IsFirstLine : Pair → PairTally → List (Pair × PairTally) → List Datagram → Type 0
IsFirstLine pair tally lines list =
    all_noted ((pair, tally) ∷ lines) list
    ≡ (pair, tallied tally (readings_of pair list)) ∷ all_noted lines (others pair list)

first_line : (line : Pair × PairTally) (lines : List (Pair × PairTally)) (list : List Datagram) →
    IsFirstLine line.0 line.1 lines list
unfolding lines_more readings_of
first_line line lines [] = refl
first_line line lines (d ∷ list) =
    at (same_pair (pair_of d) line.0)
    (first_line (line.0, tally_more line.1 (reading d.payload)) lines list)
    (first_line line (lines_more lines (pair_of d) (reading d.payload)) list)
  where
    at : (b : Bool) → IsFirstLine line.0 (tally_more line.1 (reading d.payload)) lines list →
        IsFirstLine line.0 line.1 (lines_more lines (pair_of d) (reading d.payload)) list →
        all_noted (if b then (line.0, tally_more line.1 (reading d.payload)) ∷ lines
        else line ∷ lines_more lines (pair_of d) (reading d.payload)) list
        ≡ (
          line.0,
          tallied line.1 (map (λ (d : Datagram). reading d.payload)
              (cond b (d ∷ filter (λ (d : Datagram). same_pair (pair_of d) line.0) list)
              (filter (λ (d : Datagram). same_pair (pair_of d) line.0) list))),
        )
        ∷ all_noted lines (cond (not b) (d ∷ others line.0 list) (others line.0 list))
    at true same other = same
    at false same other = other

-- A datagram of another pair does not change a line.
other_line : (d : Datagram) (list : List Datagram) (pair : Pair) → differs (pair_of d) pair ≡ true →
    line_in (others (pair_of d) list) pair ≡ line_in (d ∷ list) pair
unfolding readings_of
other_line d list pair apart =
    let other = pair_apart pair (pair_of d) (not_true (same_pair pair (pair_of d)) apart) in
    ap (λ (l : List Datagram). (pair, tallied no_tally (map (λ (d : Datagram). reading d.payload) l)))
    (filter_within (λ (x : Datagram). same_pair (pair_of x) pair) (λ (x : Datagram). differs (pair_of d) (pair_of x))
    (λ x is. ap (differs (pair_of d)) (pair_equal (pair_of x) pair is) ∙ apart) list
    ∙ ap (λ (c : Bool). cond c (d ∷ filter (λ (x : Datagram). same_pair (pair_of x) pair) list)
    (filter (λ (x : Datagram). same_pair (pair_of x) pair) list)) (sym other))

-- The first line of a list.
own_line : (d : Datagram) (list : List Datagram) →
    (pair_of d, tallied (tally_more no_tally (reading d.payload)) (readings_of (pair_of d) list))
    ≡ line_in (d ∷ list) (pair_of d)
unfolding readings_of
own_line d list =
    ap (λ (c : Bool). (
      pair_of d,
      tallied no_tally (map (λ (d : Datagram). reading d.payload)
          (cond c (d ∷ filter (λ (x : Datagram). same_pair (pair_of x) (pair_of d)) list)
          (filter (λ (x : Datagram). same_pair (pair_of x) (pair_of d)) list))),
    )) (sym (pair_same (pair_of d)))

other_lines : (d : Datagram) (list : List Datagram) →
    lines_in (others (pair_of d) list)
    ≡ map (line_in (d ∷ list)) (filter (differs (pair_of d)) (distinct (map pair_of list)))
other_lines d list =
    ap (λ (l : List Pair). map (line_in (others (pair_of d) list)) (distinct l))
    (map_filter pair_of (differs (pair_of d)) list)
    ∙ ap (map (line_in (others (pair_of d) list))) (distinct_filter (pair_of d) (map pair_of list))
    ∙ map_passed (differs (pair_of d)) (line_in (others (pair_of d) list)) (line_in (d ∷ list)) (other_line d list)
    (distinct (map pair_of list))

noted_in : (n : ℕ) (list : List Datagram) → length list ≤ n → all_noted [] list ≡ lines_in list
unfolding distinct lines_more
noted_in n [] small = refl
noted_in zero (d ∷ list) small = absurd (omega (arith, small))
noted_in (suc n) (d ∷ list) small =
    let rest = noted_in n (others (pair_of d) list)
    (omega (arith, small, filter_shorter (λ (x : Datagram). differs (pair_of d) (pair_of x)) list)) in
    first_line (pair_of d, tally_more no_tally (reading d.payload)) [] list
    ∙ (λ i. own_line d list i ∷ (rest ∙ other_lines d list) i)

pub noted_are : (list : List Datagram) → all_noted [] list ≡ lines_in list
noted_are list = noted_in (length list) list (omega arith)

-- ---- their text

text_in : (list : List Datagram) (pairs : List Pair) →
    lines_text (map (line_in list) pairs) ≡ flat_map (λ pair. pair_text pair (tally_of (readings_of pair list))) pairs
text_in list [] = refl
text_in list (pair ∷ pairs) =
    λ i. pair_text pair (tally_is (readings_of pair list) i) ++ text_in list pairs i

pub pairs_are : (list : List Found) → lines_text (all_counted nothing_counted list).lines ≡ pairs_text (datagrams list)
pairs_are list =
    ap lines_text (lines_are nothing_counted list ∙ noted_are (datagrams list))
    ∙ text_in (datagrams list) (distinct (map pair_of (datagrams list)))

-- ---- one more datagram in the table

-- The tally of a pair, or that of no datagram.
abbrev known : Option PairTally → PairTally
known None = no_tally
known (Some tally) = tally

more_is_insert : (lines : List (Pair × PairTally)) (pair : Pair) (read : Result Packet DecodeError) →
    lines_more lines pair read
    ≡ insert_entry same_pair lines pair (tally_more (known (lookup (same_pair pair) lines)) read)
unfolding lines_more
more_is_insert [] pair read = refl
more_is_insert (line ∷ lines) pair read = at (same_pair pair line.0) (more_is_insert lines pair read)
  where
    at : (b : Bool) → lines_more lines pair read
        ≡ insert_entry same_pair lines pair (tally_more (known (lookup (same_pair pair) lines)) read) →
        (if b then (line.0, tally_more line.1 read) ∷ lines else line ∷ lines_more lines pair read)
        ≡ (if b then (line.0, tally_more (known (cond b (Some line.1) (lookup (same_pair pair) lines))) read) ∷ lines
        else line ∷ insert_entry same_pair lines pair
        (tally_more (known (cond b (Some line.1) (lookup (same_pair pair) lines))) read))
    at true rest = refl
    at false rest = ap (λ (l : List (Pair × PairTally)). line ∷ l) rest

-- A pair that is not there.
pub more_new : (lines : List (Pair × PairTally)) (pair : Pair) (read : Result Packet DecodeError) →
    position (same_pair pair) (keys_of lines) ≡ None →
    lines_more lines pair read ≡ insert_entry same_pair lines pair (tally_more no_tally read)
more_new lines pair read absent =
    more_is_insert lines pair read
    ∙ ap (λ (v : Option PairTally). insert_entry same_pair lines pair (tally_more (known v) read))
    (Missing-position (same_pair pair) lines absent).value

-- A pair that is there.
pub more_at : (lines new : List (Pair × PairTally)) (pair : Pair) (read : Result Packet DecodeError) (index : ℕ) →
    position (same_pair pair) (keys_of lines) ≡ Some index →
    IfSome (slice_get (values_of lines) index) (λ tally. new ≡ set_value_at lines index (tally_more tally read)) →
    new ≡ lines_more lines pair read
more_at lines new pair read index there is =
    by (Found-position (same_pair pair) lines index there) (slice_get (values_of lines) index) refl is
  where
    by : (found : FoundAt (same_pair pair) lines index) (value : Option PairTally) → slice_get (values_of lines) index ≡ value →
        IfSome value (λ tally. new ≡ set_value_at lines index (tally_more tally read)) →
        new ≡ lines_more lines pair read
    by found None at is =
        absurd (true≢false (ap is_some (sym there) ∙ some_index (same_pair pair) lines ∙ ap is_some (found.value ∙ at)))
    by found (Some tally) at is =
        is
        ∙ sym (insert_entry-first same_pair pair (tally_more tally read) lines index found.first)
        ∙ ap (λ (v : Option PairTally). insert_entry same_pair lines pair (tally_more (known v) read)) (sym (found.value ∙ at))
        ∙ sym (more_is_insert lines pair read)

-- The key at an index is that of a pair.
pub place_of : (lines : List (Pair × PairTally)) (index : ℕ) (pair key : Pair) (tally : PairTally) →
    IsDistinct same_pair (keys_of lines) → slice_get lines index ≡ Some (key, tally) → same_pair pair key ≡ true →
    position (same_pair pair) (keys_of lines) ≡ Some index
place_of lines index pair key tally unique at same =
    subst (λ (p : Pair). position (same_pair p) (keys_of lines) ≡ Some index) (sym (pair_equal pair key same))
    (index-first (same_pair key) lines index (own_first same_pair pair_law lines index key tally unique at))
