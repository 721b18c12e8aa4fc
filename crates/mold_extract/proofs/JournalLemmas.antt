-- The file of a journal.
use Rattle.std.proofs.Common.{◌≡◌, ℕ, ◌+◌, List, ◌++◌, ap, ◌∙◌, true}
use Rattle.std.specs.List.{flat_map}
use Rattle.mold_wire.specs.Block.{blocks}
use Rattle.mold_session.specs.File.{head_2}
use Rattle.mold_capture.specs.Seen.{Seen}
use Rattle.mold_extract.specs.Carried.{carried_between, messages_of}
use Rattle.mold_extract.specs.Journal.{journal_file}
use Rattle.mold_extract.specs.Text.{entry_block}
use Rattle.mold_extract.proofs.RunLemmas.{entry_blocks}

-- The head and the blocks are the file.
pub file_parts : (session : List ℕ) (seen : Seen) (count : ℕ) (head : List ℕ) (entries : List (ℕ × List ℕ)) →
    head ≡ head_2 session true count → entries ≡ carried_between seen.pairs 1 (count + 1) →
    head ++ flat_map entry_block entries ≡ journal_file session seen count
file_parts session seen count head entries is carried =
    ap (λ (t : List ℕ). t ++ flat_map entry_block entries) is
    ∙ ap (λ (t : List ℕ). head_2 session true count ++ t) (
    entry_blocks entries ∙ ap (λ (t : List (ℕ × List ℕ)). blocks (messages_of t)) carried
    )
