use Rattle.std.proofs.Common.{ap}
use Rattle.mold_publish.specs.Publishing.{PublishedInput, packed_status}
use Rattle.mold_session.specs.Publisher.{PublisherState, fresh_publisher}
use Rattle.mold_show.specs.Pack.{pack_status, pack_text, packed_text}
use Rattle.mold_show.proofs.laws.pack_lines_law.Goals as goal

pub returns-clause-text : goal.returns-clause-text
unfolding pack_text
returns-clause-text c session limit input =
    let publisher : PublisherState = fresh_publisher session limit in
    ap (λ (p : PublishedInput). packed_text publisher.limit publisher.sent p.journal p.refused)
    (c.lines_published_law.ensures.input publisher.journal input)

pub returns-clause-status : goal.returns-clause-status
unfolding pack_status
returns-clause-status c session limit input =
    ap (λ (p : PublishedInput). packed_status p.refused)
    (c.lines_published_law.ensures.input (fresh_publisher session limit).journal input)
