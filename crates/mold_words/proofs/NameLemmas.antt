-- Lemmas about the command that accepted arguments name: it is one of the program's, since `help` is a request.
use Rattle.std.proofs.Common.{arith, ◌≡◌, ◌∙◌, ◌&&◌, ◌||◌, ℕ, Bool, cond, codes, true, false, not}
use Rattle.std.proofs.Common.{List, [], ◌∷◌, Option, Some, None, IfSome, ap, refl, subst, sym, true≢false}
use Rattle.std.specs.Prelude.{find, fold, option_map}
use Rattle.std.specs.List.{list_all, list_any}
use Rattle.std.specs.Str.{bytes_eq}
use Rattle.std.proofs.lemmas.Bool.Decides.{nat_tests}
use Rattle.std.proofs.lemmas.Slice.Eq.{bytes_eq-Decides}
use Rattle.clap.specs.Words.{App, Kinds, Rule, Shape, Text, built, subcommand_of}
use Rattle.clap.specs.Kinds.{or_else}
use Rattle.clap.specs.Faults.{other_fault, turn_fault, walk_fault, word_fault}
use Rattle.clap.specs.Lexer.{long_of}
use Rattle.clap.specs.Simple.{argument_words, entered, label_of, names_of, rows_at}
use Rattle.clap.specs.Walk.{Held, Names, Outcome, Step, Waiting, Walk, after_flag, after_step, answers_to}
use Rattle.clap.specs.Walk.{arg_by_index, done, idle, is_empty, long_or_other, next, nothing_held, option}
use Rattle.clap.specs.Walk.{plain, plain_word, positional, refused, short_or_plain, stop_after, subcommand}
use Rattle.clap.specs.Walk.{subcommand_met, subcommand_or_other, to_positional, trailing, value, waits}
use Rattle.clap.specs.Walk.{walk_from, walked, walked_from, word_met}
use Rattle.clap.specs.declared.error.kind.ErrorKind.{ErrorKind}
use Rattle.clap.proofs.WalkLemmas.{both}
use Rattle.mold_words.specs.Orders.{AreTaken}
use Rattle.mold_words.specs.Words.{is_command, mold_app}

-- ---- no accepted argument is read as `help`

abbrev IsNoHelp : Text → Type 0
IsNoHelp name = bytes_eq name (codes "help") ≡ false

abbrev StepsOn : Step → Type 0
StepsOn (subcommand name) = IsNoHelp name
StepsOn _ = Unit {0}

abbrev StopsOn : Option (Text × List Text) → Type 0
StopsOn None = Unit {0}
StopsOn (Some found) = IsNoHelp found.0

both_none : (first second : Kinds) → or_else first second ≡ [] → (first ≡ []) × (second ≡ [])
both_none [] second none = (refl, none)
both_none (kind ∷ kinds) second none = cc

no_help : (is off : Bool) (kind : ErrorKind) (kinds : Kinds)
    → off ≡ false → cond (is && not off) (kind ∷ kinds) [] ≡ [] → is ≡ false
no_help false off kind kinds on none = refl
no_help true true kind kinds on none = absurd (true≢false on)
no_help true false kind kinds on none = cc

module _ (rules : List Rule) (waiting : Waiting) (word : Text) where
  plain_steps : (w : Waiting) (h : Held) → StepsOn (plain_word rules w word h).1
  plain_steps idle h = tt
  plain_steps (option id) h = tt
  plain_steps positional h = tt

  flag_steps : (outcome : Outcome) (h : Held) → StepsOn (after_flag rules waiting word h outcome).1
  flag_steps done h = tt
  flag_steps (waits id) h = tt
  flag_steps plain h = plain_steps waiting h
  flag_steps refused h = plain_steps waiting h

  short_steps : (flags : Option Text) (h : Held) → StepsOn (short_or_plain rules waiting word flags h).1
  short_steps (Some flags) h = flag_steps _ _
  short_steps None h = plain_steps waiting h

  long_steps : (long : Option (Text × Option Text)) (h : Held)
      → StepsOn (long_or_other rules waiting word long h).1
  long_steps (Some found) h = flag_steps _ _
  long_steps None h = short_steps _ h

  dash_steps : (is : Bool) (position : ℕ) (h : Held)
      → StepsOn (cond is (h, trailing position) (long_or_other rules waiting word (long_of word) h)).1
  dash_steps true position h = tt
  dash_steps false position h = long_steps (long_of word) h

-- ---- a walk over accepted arguments stops at a command of another name

module _ (s : Shape) (names : Names) (enabled : s.disable_help_subcommand ≡ false) where
  met_steps : (met : Option Text) (waiting : Waiting) (position : ℕ) (word : Text) (h : Held)
      → other_fault s met word h ≡ [] → StepsOn (subcommand_or_other s.rules met waiting position word h).1
  met_steps (Some name) waiting position word h none =
      no_help (bytes_eq name (codes "help")) s.disable_help_subcommand _ _ enabled none
  met_steps None waiting position word h none =
      dash_steps s.rules waiting word (bytes_eq word (45 ∷ 45 ∷ [])) position h

  word_steps : (is_trailing : Bool) (waiting : Waiting) (position : ℕ) (word : Text) (h : Held)
      → word_fault s names is_trailing waiting word h ≡ []
      → StepsOn (word_met s.rules names is_trailing waiting position word h).1
  word_steps true waiting position word h none = tt
  word_steps false waiting position word h none =
      met_steps (subcommand_met names waiting word) waiting position word h none

  goes_on : (w : Walk) → w.stopped ≡ None → StopsOn w.stopped
  goes_on w none = subst StopsOn (sym none) tt

  positional_stops : (found : Option Rule) (word : Text) (w : Walk) (h : Held)
      → w.stopped ≡ None → StopsOn (to_positional s.rules found word w h).stopped
  positional_stops None word w h none = goes_on w none
  positional_stops (Some rule) word w h none = tt

  step_stops : (word : Text) (w : Walk) (h : Held) (step : Step)
      → w.stopped ≡ None → StepsOn step → StopsOn (after_step s.rules word w h step).stopped
  step_stops word w h (next waiting) none on = goes_on w none
  step_stops word w h (trailing position) none on = goes_on w none
  step_stops word w h (subcommand name) none on = on
  step_stops word w h value none on = positional_stops (arg_by_index s.rules w.position) word w h none

  turn_stops : (w : Walk) (word : Text) (stop : Option (Text × List Text))
      → w.stopped ≡ stop → StopsOn stop → turn_fault s names (record w { stopped = stop }) word ≡ []
      → StopsOn (walked_from s.rules names stop w word).stopped
  turn_stops w word (Some found) is on none = on
  turn_stops w word None is on none =
      let met = word_met s.rules names w.is_trailing w.waiting w.position word w.held in
      let passes = (both_none _ _ none).0 in
      step_stops word w met.0 met.1 is
      (word_steps w.is_trailing w.waiting w.position word w.held passes)

  walk_stops : (w : Walk) (words : List Text) → StopsOn w.stopped → walk_fault s names w words ≡ []
      → StopsOn (fold (walked s.rules names) w words).stopped
  unfolding walk_fault walked
  walk_stops w [] on none = on
  walk_stops w (word ∷ rest) on none =
      let each = both_none _ _ none in
      walk_stops (walked s.rules names w word) rest (turn_stops w word w.stopped refl on each.0) each.1

-- ---- that command is one of the program's

abbrev is_own : Shape → Bool
is_own s = is_empty s.aliases && (is_command s.name || bytes_eq s.name (codes "help"))

by_name : (aliases : List Text) (word : Text) (is : Bool) → is_empty aliases ≡ true
    → (is || list_any (λ alias. bytes_eq alias word) aliases) ≡ true → is ≡ true
by_name [] word true none here = refl
by_name [] word false none here = here
by_name (alias ∷ rest) word is none here = absurd (grind (arith, nat_tests))

other_than : (is help : Bool) → (is || help) ≡ true → help ≡ false → is ≡ true
other_than true help any other = refl
other_than false help any other = absurd (true≢false (sym any ∙ other))

module _ (stop : Text × List Text) (other : IsNoHelp stop.0) where
  abbrev is_here : Shape → Bool
  is_here s = answers_to stop.0 (label_of s)

  abbrev EntersOwn : Option Shape → Type 0
  EntersOwn found = IfSome (option_map (λ s. rows_at s stop.1) found) (λ p. is_command p.0 ≡ true)

  own_name : (s : Shape) → is_own s ≡ true → is_here s ≡ true → is_command s.name ≡ true
  own_name s own here =
      let each = both (is_empty s.aliases) _ own in
      let is = by_name s.aliases stop.0 (bytes_eq s.name stop.0) each.0 here in
      let same : s.name ≡ stop.0 = (bytes_eq-Decides s.name stop.0).0 is in
      other_than (is_command s.name) _ each.1 (ap (λ (t : Text). bytes_eq t (codes "help")) same ∙ other)

  own_first : (here : Bool) (s : Shape) (rest : List Shape) → is_here s ≡ here → is_own s ≡ true
      → EntersOwn (find is_here rest) → EntersOwn (cond here (Some s) (find is_here rest))
  own_first true s rest here own behind = own_name s own here
  own_first false s rest here own behind = behind

  own_entered : (subs : List Shape) → list_all is_own subs ≡ true → EntersOwn (find is_here subs)
  own_entered [] own = tt
  own_entered (s ∷ rest) own =
      let each = both (is_own s) (list_all is_own rest) own in
      own_first (is_here s) s rest refl each.0 (own_entered rest each.1)

entered_own : (app : App) (stop : Option (Text × List Text))
    → list_all is_own app.subs ≡ true → StopsOn stop → IfSome (entered app stop) (λ p. is_command p.0 ≡ true)
entered_own app None own on = tt
entered_own app (Some stop) own on = own_entered stop on app.subs own

mold_is_own : list_all is_own (built mold_app).subs ≡ true
unfolding mold_app
mold_is_own = refl

mold_has_help : (built mold_app).top.disable_help_subcommand ≡ false
unfolding mold_app
mold_has_help = refl

-- the command that accepted arguments name is one of the program's
pub taken-own : (words : List Text) → AreTaken words
    → IfSome (subcommand_of mold_app words) (λ found. is_command found.0 ≡ true)
taken-own words taken =
    let app = built mold_app in
    let given = argument_words mold_app words in
    entered_own app (stop_after app.top.rules (names_of app) given) mold_is_own
    (walk_stops app.top (names_of app) mold_has_help (walk_from nothing_held) given tt (both_none _ _ taken).0)
