-- The receiver as contracts describe it.
use Rattle.std.specs.Prelude.{◌≡◌, ℕ, ◌+◌, ◌<◌, ◌≤◌, ◌^◌, List, length, Option, None, Some, refl}
use Rattle.std.specs.Coded.{Coded, code_by, coded×, coded_list, coded_ℕ, coded_option}
use Rattle.std.specs.FinMap as finite
use Rattle.std.specs.Ordering.{nat_cmp}
use Rattle.mold_wire.specs.declared.session.Session.{Session}
use Rattle.mold_receiver.specs.Slots.{Slot, store_of}
use Rattle.mold_receiver.specs.Store.{Message, Store, stored_bytes}
use Rattle.mold_receiver.specs.declared.limits.TheConstants.{MIN_STORE}
use Rattle.mold_wire.specs.declared.limits.TheConstants.{MAX_WIDE_WINDOW, MAX_WINDOW}

-- The model of a receiver: everything that its behavior depends on.
pub record View : Type 0 where
  -- The session that the receiver receives.
  pub session : Session
  -- The number of the next message to deliver.
  pub next : ℕ
  -- One more than the greatest number that the receiver knows of.
  pub known : ℕ
  -- One more than the number of the session's last message, once an end packet was accepted.
  pub ended : Option ℕ
  -- The stored messages: those that arrived above a gap.
  pub store : Store
  -- The receiver stores messages with numbers below `next` plus this.
  pub window : ℕ
  -- The greatest number of bytes of the stored messages, with the length fields of their blocks. None: no limit.
  pub room : Option ℕ

-- The code of a view: the tuple of its fields.
abbrev pub view_code : Coded View
view_code = code_by (List ℕ × (ℕ × (ℕ × (Option ℕ × (Store × (ℕ × Option ℕ))))))
    (coded× (coded_list coded_ℕ)
    (coded× coded_ℕ
    (coded× coded_ℕ
    (coded× (coded_option coded_ℕ)
    (coded× (finite.code {R = nat_cmp} coded_ℕ (coded_list coded_ℕ)) (coded× coded_ℕ (coded_option coded_ℕ)))))))
    (λ v. (v.session.0, (v.next, (v.known, (v.ended, (v.store, (v.window, v.room)))))))
    (λ p. record {
      session = record { 0 = p.0 };
      next = p.1.0;
      known = p.1.1.0;
      ended = p.1.1.1.0;
      store = p.1.1.1.1.0;
      window = p.1.1.1.1.1.0;
      room = p.1.1.1.1.1.1;
    })
    (λ _. refl)

-- These bytes are within the room, which has at least `MIN_STORE` bytes.
abbrev pub IsWithinRoom : Option ℕ → ℕ → Type 0
IsWithinRoom None bytes = Unit {0}
IsWithinRoom (Some room) bytes = (MIN_STORE ≤ room) × (bytes ≤ room)

-- What holds of every receiver's view. The numbers `next` and `known` are 1 to 2^64 - 1, and `next` is at most `known`.
-- Stored messages are above `next`, in the window and below `known`. If the session's end is known,
-- it equals `known`. The store is within its room.
pub record IsWellFormed (v : View) : Type 0 where
  pub first : 1 ≤ v.next
  pub ahead : v.next ≤ v.known
  pub last : v.known < 2 ^ 64
  pub stored : (number : ℕ) (message : Message) → finite.get v.store number ≡ Some message →
      (v.next < number) × (number < v.next + v.window) × (number < v.known)
  pub ends : (end : ℕ) → v.ended ≡ Some end → end ≡ v.known
  pub bounded : IsWithinRoom v.room (stored_bytes v.store)

-- The view of a new receiver that starts at `next`, with this room. It knows of no message and stores none.
abbrev pub fresh_within : Option ℕ → Session → ℕ → ℕ → View
fresh_within room session next window =
    record {
      session = session;
      next = next;
      known = next;
      ended = None;
      store = finite.empty;
      window = window;
      room = room;
    }

-- The view of a new receiver whose store has room for all messages.
abbrev pub fresh : Session → ℕ → ℕ → View
fresh session next window = fresh_within None session next window

-- The view of a receiver whose stored messages are in these slots. The first slot has the number `next`.
abbrev pub view_over : Option ℕ → Session → ℕ → ℕ → Option ℕ → List Slot → View
view_over room session next known ended slots =
    record {
      session = session;
      next = next;
      known = known;
      ended = ended;
      store = store_of next slots;
      window =
          length slots;
      room = room;
    }

-- The window is valid for `Receiver::new`: 1 to `MAX_WINDOW` messages.
abbrev pub IsWindow : ℕ → Type 0
IsWindow window = (1 ≤ window) × (window ≤ MAX_WINDOW)

-- The window is valid for `Receiver::wide`: 1 to `MAX_WIDE_WINDOW` messages. Each receiver has such a window.
abbrev pub IsWideWindow : ℕ → Type 0
IsWideWindow window = (1 ≤ window) × (window ≤ MAX_WIDE_WINDOW)

-- The room is valid for `Receiver::bounded`: it has no limit, or at least `MIN_STORE` bytes.
abbrev pub IsRoom : Option ℕ → Type 0
IsRoom room = IsWithinRoom room 0
