-- What `mold_server_new` returns and writes.
use Rattle.std.specs.Prelude.{◌≡◌, ◌⊎◌, ℕ, ◌-◌, List, Option, None, Some}
use Rattle.mold_wire.specs.declared.limits.TheConstants.{MESSAGE_OVERHEAD}
use Rattle.mold_ffi.specs.Server.Serving.{IsNotLoaded, IsOfFile}
use Rattle.mold_ffi.specs.declared.code.TheConstants as codes
use Rattle.mold_ffi.specs.declared.handle.held.Held.{Held}
use Rattle.mold_ffi.specs.declared.handle.held.Held.TheVariants.{Server}
use Rattle.mold_ffi.specs.declared.server.serving.Serving.{Serving}

-- A handle that was empty holds a server of the journal file.
pub record HasLoaded (limit burst : ℕ) (bytes : List ℕ) (code number : ℕ) (held : Option Held) : Type 0 where
  pub serving : Serving
  pub made : IsOfFile limit burst bytes serving
  pub by_code : code ≡ codes.DONE
  pub by_number : number ≡ 0
  pub held_is : held ≡ Some (Server serving)

-- Either the handle holds a server of the journal file, or it is empty. It is empty if the bytes are not such a file,
-- or if they are and an allocation failed.
abbrev pub Loads : ℕ → ℕ → List ℕ → ℕ → ℕ → Option Held → Type 0
Loads limit burst bytes code number held =
    HasLoaded limit burst bytes code number held
    ⊎ (IsNotLoaded (limit - MESSAGE_OVERHEAD) bytes code number × (held ≡ None))
