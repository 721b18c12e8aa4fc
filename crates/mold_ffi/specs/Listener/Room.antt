-- The room of a store as a number.
use Rattle.std.specs.Prelude.{ℕ, Option, None, Some, ◌==◌, if◌then◌else◌}

-- The room of a store, in bytes. If the number is 0, the store is not limited.
abbrev pub room_of : ℕ → Option ℕ
room_of store = if store == 0 then None else Some store
