use Rattle.std.proofs.Common.{◌≡◌, ◌∙◌, ◌+◌, List, length, take, None, Option, Some, ap, arith, subst, sym, ℕ}
use Rattle.mold_feed.specs.Received.{CanReceive, PrintsAmong}
use Rattle.mold_feed.specs.Sent.{IsOpening, lines_input}
use Rattle.mold_feed.proofs.LinesPrintedLemmas.{all_lines, lines_before, lines_within, prints_lines}
use Rattle.mold_feed.proofs.LinesPrintedLemmas.{prints_lines_among, prints_open}
use Rattle.mold_feed.proofs.LinesTextLemmas.{AreSpelled}
use Rattle.mold_feed.proofs.OpeningLemmas.{left_by, left_session}
use Rattle.mold_feed.proofs.laws.session_lines_law.Given.{Over}
use Rattle.mold_feed.proofs.laws.session_lines_law.Goals.{After-lines_published_law}
use Rattle.mold_feed.proofs.laws.session_lines_law.Goals as goal
use Rattle.mold_input.specs.declared.message_format.MessageFormat.TheVariants.{Lines}
use Rattle.mold_listen.specs.Listening.{beginning}
use Rattle.mold_publish.specs.Publishing.{PublishedInput, input_published, lines_published}
use Rattle.mold_publish.specs.declared.message_refusal.MessageRefusal.{MessageRefusal}
use Rattle.mold_send.specs.PublishLoop.{closed_unless}
use Rattle.mold_session.specs.Journal.{JournalState}
use Rattle.mold_wire.specs.declared.session.Session.{Session}

-- the messages of all lines are in the journal that is left
spelled : (g : Over) → After-lines_published_law g → (limit : ℕ) (journal : JournalState) (lines : List (List ℕ)) →
    IsOpening journal limit → (lines_published journal lines).refused ≡ None →
    AreSpelled lines (left_by journal (lines_input lines)).messages
spelled g c limit journal lines opening unrefused =
    all_lines lines (left_by journal (lines_input lines))
    (c.published_law.ensures.messages limit journal (lines_input lines) opening
    (ap (λ (p : PublishedInput). p.refused) (c.lines_published_law.ensures.lines journal lines) ∙ unrefused))

pub returns-clause-printed : goal.returns-clause-printed
returns-clause-printed g c =
    λ reporting limit first window turns burst journal lines server a b requests arbitration a_left b_left requests_left
    left result old new sent opening unrefused least most anew hears ran.
    let input = lines_input lines in
    let all = spelled g c limit journal lines opening unrefused in
    prints_lines lines (left_by journal input) all
    (c.session_law.ensures.printed Lines reporting limit first window turns burst journal input server a b requests
    arbitration a_left b_left requests_left left result old new sent opening least
    (lines_within lines (left_by journal input) first all most) anew hears ran)

pub returns-clause-among : goal.returns-clause-among
returns-clause-among g c =
    λ reporting limit first window turns burst journal lines server a b requests arbitration a_left b_left requests_left
    left result old new sent opening unrefused least most anew hears ran.
    let input = lines_input lines in
    let Came = CanReceive (beginning Lines a b requests arbitration) in
    let all = spelled g c limit journal lines opening unrefused in
    subst (λ (s : Session). PrintsAmong reporting s Came lines first result old new) (left_session journal input)
    (prints_lines_among lines (left_by journal input) Came all
    (c.session_law.ensures.among Lines reporting limit first window turns burst journal input server a b requests
    arbitration a_left b_left requests_left left result old new sent opening least
    (lines_within lines (left_by journal input) first all most) anew hears ran))

pub returns-clause-refused : goal.returns-clause-refused
returns-clause-refused g c =
    λ reporting limit first window turns burst journal lines why server a b requests arbitration a_left b_left
    requests_left left result old new sent opening refused least most anew hears ran.
    let input = lines_input lines in
    let same : input_published journal input ≡ lines_published journal lines =
    c.lines_published_law.ensures.lines journal lines in
    let stops : (input_published journal input).refused ≡ Some why = ap (λ (p : PublishedInput). p.refused) same ∙ refused in
    let before = c.published_law.ensures.before limit journal input why opening stops in
    let left_is : left_by journal input ≡ (input_published journal input).journal =
    ap (λ (r : Option MessageRefusal). closed_unless r (input_published journal input).journal) stops in
    let count : length (left_by journal input).messages ≡ length (lines_published journal lines).journal.messages =
    ap (λ (j : JournalState). length j.messages) left_is
    ∙ ap (λ (p : PublishedInput). length p.journal.messages) same in
    prints_open lines (left_by journal input) (length (lines_published journal lines).journal.messages + 1)
    (omega (arith, count)) least
    (subst (λ (j : JournalState). AreSpelled (take (length j.messages) lines) j.messages) (sym left_is)
    (lines_before lines why (input_published journal input).journal before))
    (ap (λ (j : JournalState). j.closed) left_is ∙ before.unclosed)
    (c.session_law.ensures.printed Lines reporting limit first window turns burst journal input server a b requests
    arbitration a_left b_left requests_left left result old new sent opening least (omega (arith, count, most)) anew
    hears ran)
