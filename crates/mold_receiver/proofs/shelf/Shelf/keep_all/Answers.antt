use Rattle.std.proofs.Common.{◌≡◌, ◌+◌, ◌<◌, ℕ, List, length, ap, sym, subst, ◌∙◌, refl, arith}
use Rattle.std.specs.Prelude.{IfSome}
use Rattle.mold_receiver.specs.Keeping.{AreFree, filled}
use Rattle.mold_receiver.specs.Segments.{bytes_at}
use Rattle.mold_receiver.specs.Slots.{Slot}
use Rattle.mold_receiver.specs.Tight.{HasMarked, IsBeside}
use Rattle.mold_receiver.specs.declared.shelf.Shelf.{Shelf}
use Rattle.mold_receiver.proofs.KeptLemmas.{kept_more, more_on}
use Rattle.mold_receiver.proofs.PlacedLemmas.{blocks_long}
use Rattle.mold_receiver.proofs.SegmentLemmas.{more_appended}
use Rattle.mold_receiver.proofs.TightLemmas.{beside_there, if_some, near_appended, tight_left, tight_marked}
use Rattle.mold_receiver.proofs.shelf.Shelf.keep_all.Goals as goal

pub append-requires-clause-there : goal.append-requires-clause-there
append-requires-clause-there c =
    let old = c.args.self.now in
    if_some c.beside-beside.result _ (λ key. 0 < length (bytes_at old.segments key))
    (λ key is. beside_there old.segments old.ring c.args.slot (c.args.slot + c.from.result) key c.requires.kept.within is)
    c.beside-beside.ensures

pub append-requires-clause-some : goal.append-requires-clause-some
append-requires-clause-some c =
    omega (
      arith,
      blocks_long c.args.blocks.now,
      c.len.ensures.range.0,
      c.len.ensures.length,
      ap (λ (t : List ℕ). length t) c.bytes.ensures.blocks,
    )

pub mark_all-requires-clause-kept : goal.mark_all-requires-clause-kept
mark_all-requires-clause-kept c =
    kept_more c.args.self.now c.append.new.self c.requires.kept c.append.ensures.whole
    (more_appended c.args.self.now.segments c.append.new.self c.in_ok-begin.begin c.bytes.result.now
    c.in_ok-begin.ensures.appended)

pub mark_all-requires-clause-free : goal.mark_all-requires-clause-free
mark_all-requires-clause-free c =
    subst (λ (t : List Slot). AreFree t c.args.slot (length c.args.blocks.now))
    (sym (more_on c.args.self.now c.append.new.self c.requires.kept
    (more_appended c.args.self.now.segments c.append.new.self c.in_ok-begin.begin c.bytes.result.now
    c.in_ok-begin.ensures.appended))) c.requires.free

pub returns-clause-tight : goal.returns-clause-tight
returns-clause-tight c =
    let old = c.args.self.now in
    let count : c.from.result ≡ length c.args.blocks.now = c.from.ensures ∙ c.len.ensures.length in
    let end = c.args.slot + length c.args.blocks.now in
    let middle : Shelf = record old { segments = c.append.new.self } in
    let segment = c.in_ok-begin.begin.segment in
    tight_marked old middle c.mark_all.new.self c.in_ok-begin.begin c.bytes.result.now c.args.slot end c.requires.kept
    c.requires.tight refl c.in_ok-begin.ensures.appended
    (subst (λ (n : ℕ). HasMarked middle c.mark_all.new.self c.args.slot end segment n)
    (sym (ap (λ (t : List ℕ). length t) c.bytes.ensures.blocks)) c.mark_all.ensures.marked)
    (near_appended old c.args.slot end c.beside-beside.result c.in_ok-begin.begin.segment c.requires.kept
    c.requires.tight (omega arith)
    (subst (λ (n : ℕ). IfSome c.beside-beside.result (λ key. IsBeside old.ring c.args.slot (c.args.slot + n) key)) count
    c.beside-beside.ensures) c.in_ok-begin.ensures.beside)

pub returns-clause-filled : goal.returns-clause-filled
returns-clause-filled c =
    c.mark_all.ensures.filled
    ∙ ap (λ (t : List Slot). filled t c.args.slot c.args.blocks.now)
    (more_on c.args.self.now c.append.new.self c.requires.kept
    (more_appended c.args.self.now.segments c.append.new.self c.in_ok-begin.begin c.bytes.result.now
    c.in_ok-begin.ensures.appended))

pub returns-in_err-begin-clause-tight : goal.returns-in_err-begin-clause-tight
returns-in_err-begin-clause-tight c =
    tight_left c.args.self.now _ c.requires.kept c.requires.tight refl c.in_err-begin.ensures.same
