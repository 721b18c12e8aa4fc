use Rattle.std.proofs.Common.{◌≡◌, ◌∙◌, ◌+◌, ◌≤◌, ap, arith, length, None, Some, subst, sym}
use Rattle.std.proofs.lemmas.Option.{none-some}
use Rattle.mold_feed.specs.Sent.{blocks_input, lines_input, to_empty_input}
use Rattle.mold_feed.proofs.BlocksPrintedLemmas.{prints_blocks}
use Rattle.mold_feed.proofs.LinesPrintedLemmas.{all_lines, lines_before, lines_within, prints_lines, prints_refused}
use Rattle.mold_feed.proofs.SameBytesLemmas.{SameBytesLaws, same_bytes, same_to_mark}
use Rattle.mold_feed.proofs.TakingLemmas.{HearingLaws}
use Rattle.mold_feed.proofs.ToEmptyLemmas.{prints_to_empty}
use Rattle.mold_input.specs.declared.message_format.MessageFormat.TheVariants.{Blocks, BlocksToEmpty, Lines}
use Rattle.mold_loop.specs.Looping.{LoopRun}
use Rattle.mold_loop_law.proofs.LoopLawLemmas.{LoopLaws, loop_prints_messages, loop_prints_refused, no_refusal, server_may}
use Rattle.mold_feed.proofs.OpeningLemmas.{OpeningLaws, left_by, messages_within}
use Rattle.mold_loop_law.proofs.laws.loop_law.Given.{Over}
use Rattle.mold_loop_law.proofs.laws.loop_law.Goals.{After-reading_law}
use Rattle.mold_loop_law.proofs.laws.loop_law.Goals as goal
use Rattle.mold_publish.specs.Publishing.{PublishedInput, input_published, lines_published}

opening_laws : (g : Over) → After-reading_law g → OpeningLaws
opening_laws g c = record {
  answers = c.published_law.ensures.answers;
  begins = c.honest_stays_law.ensures.fresh;
}

progress : (g : Over) → After-reading_law g → HearingLaws
progress g c = record {
  take = c.honest_take_law.ensures;
  taken = c.taken_law.ensures;
  spelled = c.reading_law.ensures.spelled;
  fault = c.reading_law.ensures.fault;
}

laws : (g : Over) → After-reading_law g → LoopLaws g.row.D-Peer.Denot
laws g c = record {
  opening = opening_laws g c;
  served = c.served_law.ensures;
  offered = c.published_law.ensures.offered;
  progress = progress g c;
}

bytes_laws : (g : Over) → After-reading_law g → SameBytesLaws
bytes_laws g c = record {
  messages = c.published_law.ensures.messages;
  before = c.published_law.ensures.before;
  spelled = c.blocks_law.ensures.spelled;
  to_empty = c.blocks_to_empty_law.ensures.spelled;
}

pub returns-clause-messages : goal.returns-clause-messages
returns-clause-messages g c =
    λ format reporting drops a b to turns limit first window journal input server start start_left rounds rounds_left
    result old new errors_old errors_new opening unrefused serves longest least within anew blank in_format unstopped own ran.
    let may = server_may (opening_laws g c) limit journal input server opening serves longest in
    loop_prints_messages (laws g c) reporting drops a b to turns limit journal input server start start_left rounds
    rounds_left result old new errors_old errors_new opening (λ _. may) own ran first window least within anew format
    blank in_format unstopped unrefused

pub returns-clause-to_empty : goal.returns-clause-to_empty
returns-clause-to_empty g c =
    λ reporting drops a b to turns limit first window journal input server start start_left rounds rounds_left result old
    new errors_old errors_new opening unrefused serves longest least within anew blank in_blocks unstopped own ran.
    let may = server_may (opening_laws g c) limit journal input server opening serves longest in
    prints_to_empty (left_by journal input)
    (loop_prints_messages (laws g c) reporting drops a b to turns limit journal input server start start_left rounds
    rounds_left result old new errors_old errors_new opening (λ _. may) own ran first window least within anew
    BlocksToEmpty blank in_blocks unstopped unrefused)

pub returns-clause-same_bytes : goal.returns-clause-same_bytes
returns-clause-same_bytes g c =
    λ reporting drops a b to turns limit window journal bytes server start start_left rounds rounds_left result old new
    errors_old errors_new opening fits serves longest anew blank in_blocks unstopped own ran zero.
    let input = blocks_input bytes in
    let may = server_may (opening_laws g c) limit journal input server opening serves longest in
    let unrefused =
    no_refusal (laws g c) reporting drops a b to turns limit journal input server start start_left rounds rounds_left
    result old new errors_old errors_new opening (λ _. may) own ran zero in
    same_bytes (bytes_laws g c) limit journal opening bytes fits
    (prints_blocks (left_by journal input)
    (loop_prints_messages (laws g c) reporting drops a b to turns limit journal input server start start_left rounds
    rounds_left result old new errors_old errors_new opening (λ _. may) own ran 1 window (omega arith) (omega arith) anew
    Blocks blank in_blocks unstopped unrefused))
    zero

pub returns-clause-marked : goal.returns-clause-marked
returns-clause-marked g c =
    λ reporting drops a b to turns limit window journal bytes server start start_left rounds rounds_left result old new
    errors_old errors_new opening fits serves longest anew blank in_blocks unstopped own ran zero.
    let input = to_empty_input bytes in
    let may = server_may (opening_laws g c) limit journal input server opening serves longest in
    let unrefused =
    no_refusal (laws g c) reporting drops a b to turns limit journal input server start start_left rounds rounds_left
    result old new errors_old errors_new opening (λ _. may) own ran zero in
    same_to_mark (bytes_laws g c) limit journal opening bytes fits
    (prints_to_empty (left_by journal input)
    (loop_prints_messages (laws g c) reporting drops a b to turns limit journal input server start start_left rounds
    rounds_left result old new errors_old errors_new opening (λ _. may) own ran 1 window (omega arith) (omega arith) anew
    BlocksToEmpty blank in_blocks unstopped unrefused))
    zero

pub returns-clause-printed : goal.returns-clause-printed
returns-clause-printed g c =
    λ reporting drops a b to turns limit first window journal lines server start start_left rounds rounds_left result old
    new errors_old errors_new opening unrefused serves longest least most anew blank plain unstopped own ran.
    let input = lines_input lines in
    let same : input_published journal input ≡ lines_published journal lines =
    c.lines_published_law.ensures.lines journal lines in
    let whole : (input_published journal input).refused ≡ None =
    ap (λ (p : PublishedInput). p.refused) same ∙ unrefused in
    let all = all_lines lines (left_by journal input) (c.published_law.ensures.messages limit journal input opening whole) in
    let may = server_may (opening_laws g c) limit journal input server opening serves longest in
    prints_lines lines (left_by journal input) all
    (loop_prints_messages (laws g c) reporting drops a b to turns limit journal input server start start_left rounds
    rounds_left result old new errors_old errors_new opening (λ _. may) own
    (subst (λ (p : PublishedInput). LoopRun reporting drops a b to turns limit 0 p server start rounds result old new
    errors_old errors_new start_left rounds_left) (sym same) ran)
    first window least (lines_within lines (left_by journal input) first all most) anew Lines blank plain unstopped whole)

pub returns-clause-stopped : goal.returns-clause-stopped
returns-clause-stopped g c =
    λ format reporting drops a b to turns limit first window journal input why server start start_left rounds rounds_left
    result old new errors_old errors_new opening refused least most anew blank in_format unstopped own ran.
    let within = messages_within journal input first most in
    loop_prints_refused (laws g c) reporting drops a b to turns limit journal input server start start_left rounds
    rounds_left result old new errors_old errors_new opening
    (λ unrefused. absurd (none-some why (sym unrefused ∙ refused))) own ran first window least within anew format blank
    in_format unstopped why refused

pub returns-clause-refused : goal.returns-clause-refused
returns-clause-refused g c =
    λ reporting drops a b to turns limit first window journal lines why server start start_left rounds rounds_left result
    old new errors_old errors_new opening refused least most anew blank plain unstopped own ran.
    let input = lines_input lines in
    let same : input_published journal input ≡ lines_published journal lines =
    c.lines_published_law.ensures.lines journal lines in
    let stops : (input_published journal input).refused ≡ Some why =
    ap (λ (p : PublishedInput). p.refused) same ∙ refused in
    let within = messages_within journal input first
    (subst (λ (p : PublishedInput). first ≤ length p.journal.messages + 1) (sym same) most) in
    prints_refused lines (input_published journal input).journal.messages why
    (length (lines_published journal lines).journal.messages + 1)
    (ap (λ (p : PublishedInput). length p.journal.messages + 1) (sym same)) least
    (lines_before lines why (input_published journal input).journal
    (c.published_law.ensures.before limit journal input why opening stops))
    (loop_prints_refused (laws g c) reporting drops a b to turns limit journal input server start start_left rounds
    rounds_left result old new errors_old errors_new opening
    (λ unrefused. absurd (none-some why (sym unrefused ∙ stops))) own
    (subst (λ (p : PublishedInput). LoopRun reporting drops a b to turns limit 0 p server start rounds result old new
    errors_old errors_new start_left rounds_left) (sym same) ran)
    first window least within anew Lines blank plain unstopped why stops)
