use Rattle.std.proofs.Common.{◌≡◌, ◌+◌, ◌∙◌, sym, ap, arith, length, length-append, take}
use Rattle.std.proofs.lemmas.Grind.{common_steps}
use Rattle.mold_wire.specs.Block.{blocks}
use Rattle.mold_digest.specs.Digested.{digested, digests}
use Rattle.mold_digest.proofs.DigestedLemmas.{digested_data, digested_err, digested_plain, plain_body}
use Rattle.mold_digest.proofs.digested.push_digested.Goals as goal

pub returns-in_default : goal.returns-in_default
returns-in_default c =
    let same = digested_err c.args.key.now c.args.datagram.now c.in_default.field-0
    (sym c.decode.ensures.exact ∙ c.in_default.is) in
    rw same (grind (arith, common_steps, c.extend_from_slice.ensures.items))

pub returns-in_ok-extend_from_slice-in-Data : goal.returns-in_ok-extend_from_slice-in-Data
returns-in_ok-extend_from_slice-in-Data c =
    let same = digested_data c.args.key.now c.args.datagram.now c.in-Ok.packet c.in-Data.messages
    c.in-Ok.ensures.spelled (sym c.decode.ensures.exact ∙ c.in-Ok.is) c.in-Data.is in
    rw (sym same) (grind (
      arith,
      common_steps,
      c.push_digests.ensures,
      c.split_at.ensures.front,
      c.in_ok-extend_from_slice-in-Data.ensures.items,
    ))

pub returns-in-Heartbeat : goal.returns-in-Heartbeat
returns-in-Heartbeat c =
    let same = digested_plain c.args.key.now c.args.datagram.now c.in-Ok.packet
    c.in-Ok.ensures.spelled (sym c.decode.ensures.exact ∙ c.in-Ok.is)
    (plain_body c.args.key.now c.in-Ok.packet.body c.in-Heartbeat.is) in
    rw (sym same) (grind (arith, common_steps, c.extend_from_slice-in-Heartbeat.ensures.items))

pub returns-in_err-extend_from_slice-in-Data-clause-full :
    goal.returns-in_err-extend_from_slice-in-Data-clause-full
returns-in_err-extend_from_slice-in-Data-clause-full c =
    let key = c.args.key.now in
    let bytes = c.args.datagram.now in
    let rest = blocks (digests key c.in-Data.messages) in
    let same = digested_data key bytes c.in-Ok.packet c.in-Data.messages
    c.in-Ok.ensures.spelled (sym c.decode.ensures.exact ∙ c.in-Ok.is) c.in-Data.is in
    let total : length (take 20 bytes) + length rest ≡ length (digested key bytes) =
    sym (length-append (take 20 bytes) rest) ∙ ap length same in
    grind (arith, common_steps, total, c.in_err-extend_from_slice-in-Data.ensures.full, c.split_at.ensures.front)
