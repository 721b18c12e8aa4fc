use Rattle.std.proofs.Common.{◌≡◌, ◌+◌, ◌-◌, ◌≤◌, ◌++◌, ◌∷◌, [], List, ℕ, length, length-drop, take, drop, sym, ap, subst, ◌∙◌}
use Rattle.std.proofs.Common.{arith}
use Rattle.std.proofs.lemmas.List.{drop-drop, length-take-le}
use Rattle.mold_messages.specs.Parts.{Marked}
use Rattle.mold_receiver.specs.Places.{end_from, length_at, message_in, messages_from}
use Rattle.mold_receiver.specs.Store.{Message}
use Rattle.mold_receiver.proofs.MarkLemmas.{IsMarking, marking_one}
use Rattle.mold_receiver.proofs.RunLemmas.{first_end, first_fits, first_message}
use Rattle.mold_receiver.proofs.batch.mark_run.Goals.{After-length_at}
use Rattle.mold_receiver.proofs.batch.mark_run.Goals as goal

pub length_at-requires : goal.length_at-requires
length_at-requires c =
    omega (
      arith,
      first_fits c.args.run.bytes.now c.loop-left.at c.loop-left.left c.loop-left-test.true c.loop-left.invariant.ends,
    )

-- The next block is within the bytes of the list.
next_fits : (c : After-length_at) → c.args.begin + (c.loop-left.at + (2 + c.length_at.result)) ≤ length c.args.list.now.bytes
next_fits c =
    omega (
      arith,
      first_fits c.args.run.bytes.now c.loop-left.at c.loop-left.left c.loop-left-test.true c.loop-left.invariant.ends,
      ap (λ (t : List ℕ). length t) c.requires.there,
      length-drop c.args.begin c.args.list.now.bytes,
      c.length_at.ensures.length,
    )

pub overflow_add-at-in-loop-left : goal.overflow_add-at-in-loop-left
overflow_add-at-in-loop-left c = omega (arith, next_fits (goal.at.overflow_add-at-in-loop-left c).After-length_at, c.requires.fits)

pub overflow_add-begin : goal.overflow_add-begin
overflow_add-begin c =
    omega (arith, next_fits (goal.at.overflow_add-begin c).After-length_at, c.requires.fits)

pub mark-requires-clause-within : goal.mark-requires-clause-within
mark-requires-clause-within c =
    omega (
      arith,
      next_fits (goal.at.mark-requires-clause-within c).After-length_at,
      ap (λ (t : List ℕ). length t) c.loop-left.invariant.bytes,
    )

pub loop-left-preserved : goal.loop-left-preserved
loop-left-preserved c =
    let i = c.loop-left.invariant in
    let bytes = c.args.run.bytes.now in
    let at = c.loop-left.at in
    let left = c.loop-left.left in
    let end = c.loop-left.list.end in
    let some = c.loop-left-test.true in
    let size : c.length_at.result ≡ length_at bytes at = c.length_at.ensures.length in
    let next : at + 2 + length_at bytes at ≡ at + (2 + c.length_at.result) = omega (arith, size) in
    let marked = rw c.in_ok-mark.was at c.mark.ensures.added in
    let long : c.args.begin + (at + (2 + c.length_at.result)) - (end + 2) ≡ length_at bytes at =
    omega (arith, size, i.behind) in
    let from : end + 2 ≡ c.args.begin + (at + 2) = omega (arith, i.behind) in
    let lies : drop (end + 2) c.loop-left.list.bytes ≡ drop (at + 2) bytes =
    ap (λ (n : ℕ). drop n c.loop-left.list.bytes) from
    ∙ ap (drop (c.args.begin + (at + 2))) i.bytes
    ∙ sym (drop-drop (at + 2) c.args.begin c.args.list.now.bytes)
    ∙ ap (drop (at + 2)) c.requires.there in
    record {
      bytes = ap (λ (m : Marked). m.bytes) marked ∙ i.bytes;
      behind = ap (λ (m : Marked). m.end) marked;
      ends = ap (λ (n : ℕ). end_from bytes n (left - 1)) (sym next) ∙ sym (first_end bytes at left some) ∙ i.ends;
      marking = subst
          (λ (n : ℕ). IsMarking c.args.list.now.messages c.mark.new.self.messages (messages_from bytes n (left - 1))
          (messages_from bytes 0 c.args.run.count)) next
          (marking_one c.args.list.now.messages c.loop-left.list.messages c.mark.new.self.messages
          (message_in bytes at) (messages_from bytes (at + 2 + length_at bytes at) (left - 1))
          (messages_from bytes 0 c.args.run.count)
          (subst (λ (t : List Message). IsMarking c.args.list.now.messages c.loop-left.list.messages t
          (messages_from bytes 0 c.args.run.count)) (first_message bytes at left some) i.marking)
          (ap (λ (m : Marked). m.messages) marked
          ∙ ap (λ (t : Message). c.loop-left.list.messages ++ t ∷ [])
          (ap (λ (n : ℕ). take n (drop (end + 2) c.loop-left.list.bytes)) long
          ∙ ap (take (length_at bytes at)) lies)));
    }

pub returns-in_err-mark-clause-whole : goal.returns-in_err-mark-clause-whole
returns-in_err-mark-clause-whole c =
    let end = c.loop-left.list.end in
    let bytes = c.loop-left.list.bytes in
    let cut = rw c.in_err-mark.was at c.mark.ensures.cut in
    let fits : end ≤ length bytes =
    omega (
      arith,
      next_fits (goal.at.returns-in_err-mark-clause-whole c).After-length_at,
      ap (λ (t : List ℕ). length t) c.loop-left.invariant.bytes,
      c.loop-left.invariant.behind,
    ) in
    ap (λ (m : Marked). m.end) cut
    ∙ sym (length-take-le end bytes fits)
    ∙ sym (ap (λ (m : Marked). length m.bytes) cut)

pub returns-clause-whole : goal.returns-clause-whole
returns-clause-whole c =
    let i = c.loop-left.invariant in
    let none : c.loop-left.left ≡ 0 = omega (arith, c.loop-left-test.false) in
    omega (
      arith,
      i.behind,
      ap (λ (n : ℕ). end_from c.args.run.bytes.now c.loop-left.at n) none,
      i.ends,
      ap (λ (t : List ℕ). length t) i.bytes,
      ap (λ (t : List ℕ). length t) c.requires.there,
      length-drop c.args.begin c.args.list.now.bytes,
      c.requires.within,
    )
