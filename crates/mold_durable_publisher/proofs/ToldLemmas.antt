-- What a datagram states stays true.
use Rattle.std.proofs.Common.{◌≡◌, inl, inr, ℕ, ◌+◌, Bool, true, List, [], ◌∷◌, ◌++◌, length}
use Rattle.std.proofs.Common.{Some, refl, sym, ap, subst, ◌∙◌, append-nil, length-append, arith}
use Rattle.mold_wire.specs.declared.packet.Body.{Body}
use Rattle.mold_wire.specs.declared.packet.Body.TheVariants.{Data, Heartbeat, End}
use Rattle.mold_wire.specs.declared.session.Session.{Session}
use Rattle.mold_wire.specs.Truth.{IsTrueBody, published_at}
use Rattle.mold_session.specs.Records.{SpellsJournal3}
use Rattle.mold_durable.specs.Life.{IsFileAround, Life, MayHappen, Moment, after as after_moment, born}
use Rattle.mold_durable.specs.Life.Moment.{Append, Close, Commit, Crash}
use Rattle.mold_durable_publisher.specs.Told.{IsLater, IsLaterFile, IsLife, IsTold, IsTrueNow, IsTrueOf}
use Rattle.std.proofs.lemmas.Bool.{false≢true}

-- A law of mold_wire: a message keeps its number when more messages are published.
abbrev pub Keeps : Type 0
Keeps =
    (published behind : List (List ℕ)) (number : ℕ) (message : List ℕ) → published_at published number ≡ Some message →
    published_at (published ++ behind) number ≡ Some message

body_later : Keeps → (body : Body) (sequence : ℕ) (before after extra : List (List ℕ)) (was is : Bool) → after ≡ before ++ extra →
    (was ≡ true → (is ≡ true) × (after ≡ before)) → IsTrueBody body sequence before was →
    IsTrueBody body sequence after is
body_later keeps (Data messages) sequence before after extra was is longer over so = (
  so.0,
  λ number message carried. subst (λ (ms : List (List ℕ)). published_at ms number ≡ Some message) (sym longer)
      (keeps before extra number message (so.1 number message carried)),
)
body_later keeps Heartbeat sequence before after extra was is longer over so =
    (so.0, omega (arith, so.1, ap (λ (ms : List (List ℕ)). length ms) longer, length-append before extra))
body_later keeps End sequence before after extra was is longer over so =
    let both = over so.0 in
    (both.0, so.1 ∙ ap (λ (ms : List (List ℕ)). length ms + 1) (sym both.1))

pub true_later : Keeps → (session : Session) (before after : List (List ℕ)) (was is : Bool) (datagram : List ℕ) →
    IsLater before was after is → IsTrueOf session before was datagram → IsTrueOf session after is datagram
true_later keeps session before after was is datagram later one = record {
  packet = one.packet;
  spelled = one.spelled;
  named = one.named;
  so = record {
    few = later.few;
    said = body_later keeps one.packet.body one.packet.sequence before after later.extra was is later.longer later.over
        one.so.said;
  };
}

pub told_file : (session : Session) (messages : List (List ℕ)) (closed : Bool) (datagram bytes : List ℕ) →
    IsTrueOf session messages closed datagram → SpellsJournal3 session messages closed bytes → IsTold datagram bytes
told_file session messages closed datagram bytes so file =
    record { session = session; messages = messages; closed = closed; file = file; so = so }

pub told_later : Keeps → (life : Life) (datagram bytes : List ℕ) → IsTrueNow life datagram → IsLaterFile life bytes →
    IsTold datagram bytes
told_later keeps life datagram bytes so later =
    told_file life.session later.messages later.closed datagram bytes
    (true_later keeps life.session life.committed later.messages life.closed later.closed datagram later.later so) later.file

-- The committed messages at the same time.
pub same_later : (life : Life) → IsLife life → IsLater life.committed life.closed life.committed life.closed
same_later life is = record {
  extra = [];
  longer = sym (append-nil life.committed);
  few = omega (arith, is.few);
  over = λ closed. (closed, refl);
}

-- The committed messages after something happened.
pub moment_later : (life : Life) (moment : Moment) → IsLife life →
    IsLater life.committed life.closed (after_moment life moment).committed (after_moment life moment).closed
moment_later life (Append message) is = same_later life is
moment_later life Commit is = record {
  extra = life.waiting;
  longer = refl;
  few = omega (arith, length-append life.committed life.waiting, is.few);
  over = λ closed. (
    closed,
    ap (λ (ms : List (List ℕ)). life.committed ++ ms) (is.none closed) ∙ append-nil life.committed,
  );
}
moment_later life Close is = record {
  extra = life.waiting;
  longer = refl;
  few = omega (arith, length-append life.committed life.waiting, is.few);
  over = λ closed. (
    refl,
    ap (λ (ms : List (List ℕ)). life.committed ++ ms) (is.none closed) ∙ append-nil life.committed,
  );
}
moment_later life Crash is = same_later life is

-- The session of a life never changes.
session_kept : (life : Life) (moment : Moment) → life.session ≡ (after_moment life moment).session
session_kept life (Append message) = refl
session_kept life Commit = refl
session_kept life Close = refl
session_kept life Crash = refl

pub true_moment : Keeps → (life : Life) (moment : Moment) (datagram : List ℕ) → IsLife life → IsTrueNow life datagram →
    IsTrueNow (after_moment life moment) datagram
true_moment keeps life moment datagram is so =
    subst (λ (s : Session). IsTrueOf s (after_moment life moment).committed (after_moment life moment).closed datagram)
    (session_kept life moment)
    (true_later keeps life.session life.committed (after_moment life moment).committed life.closed
    (after_moment life moment).closed datagram (moment_later life moment is) so)

pub told_around : Keeps → (life : Life) (moment : Moment) (datagram bytes : List ℕ) → IsLife life → IsTrueNow life datagram →
    IsFileAround life moment bytes → IsTold datagram bytes
told_around keeps life moment datagram bytes is so (inl before) =
    told_file life.session life.committed life.closed datagram bytes so before
told_around keeps life moment datagram bytes is so (inr around) =
    told_file (after_moment life moment).session (after_moment life moment).committed (after_moment life moment).closed
    datagram bytes (true_moment keeps life moment datagram is so) around

-- A file around a moment is a file of the committed messages, or of more.
pub later_around : (life : Life) (moment : Moment) (bytes : List ℕ) → IsLife life → IsFileAround life moment bytes →
    IsLaterFile life bytes
later_around life moment bytes is (inl before) = record {
  messages = life.committed;
  closed = life.closed;
  file = before;
  later = same_later life is;
}
later_around life moment bytes is (inr around) = record {
  messages = (after_moment life moment).committed;
  closed = (after_moment life moment).closed;
  file = subst (λ (s : Session). SpellsJournal3 s (after_moment life moment).committed (after_moment life moment).closed bytes)
      (sym (session_kept life moment)) around;
  later = moment_later life moment is;
}

pub life_begins : (session : Session) → IsLife (born session)
life_begins session = record { few = omega arith; none = λ closed. refl }

pub life_goes_on : (life : Life) (moment : Moment) → IsLife life → MayHappen life moment →
    IsLife (after_moment life moment)
life_goes_on life (Append message) is may = record {
  few = omega (arith, length-append life.waiting (message ∷ []), may.1);
  none = λ closed. absurd (false≢true (sym may.0 ∙ closed));
}
life_goes_on life Commit is may = record {
  few = omega (arith, length-append life.committed life.waiting, is.few);
  none = λ closed. refl;
}
life_goes_on life Close is may = record {
  few = omega (arith, length-append life.committed life.waiting, is.few);
  none = λ closed. refl;
}
life_goes_on life Crash is may = record { few = omega (arith, is.few); none = λ closed. refl }
