-- The digest of a message.
use Rattle.std.specs.Prelude.{ℕ, List, ◌++◌, take}
use Rattle.sha2.specs.Sha256.{sha256}

-- The digest of a message under a key: the first 16 bytes of the SHA-256 digest of the key followed by the message.
unfoldable pub digest : List ℕ → List ℕ → List ℕ
digest key message = take 16 (sha256 (key ++ message))
