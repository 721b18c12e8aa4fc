use Rattle.std.proofs.Common.{◌≡◌, ◌-◌, ◌/◌, length}
use Rattle.std.specs.List.{fold}
use Rattle.mold_audit.specs.Digest.{stepped, words_at}
use Rattle.mold_audit.proofs.digest.digest_of.Given as goal

-- The steps of the remaining words come to those of all words.
abbrev pub invariant-loop-rest : goal.invariant-loop-rest
invariant-loop-rest l =
    fold stepped l.digest (words_at ((length l.rest - 1) / 8) l.rest)
    ≡ fold stepped (length l.message) (words_at ((length l.message - 1) / 8) l.message)

abbrev pub decreases-loop-rest : goal.decreases-loop-rest
decreases-loop-rest l = length l.rest
