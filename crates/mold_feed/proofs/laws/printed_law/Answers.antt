use Rattle.mold_feed.proofs.BlocksPrintedLemmas.{blocks_text}
use Rattle.mold_feed.proofs.LinesTextLemmas.{entries_spelled, spelled_text, text_between}
use Rattle.mold_feed.proofs.laws.printed_law.Goals as goal

pub returns-clause-blocks : goal.returns-clause-blocks
returns-clause-blocks c = blocks_text

pub returns-clause-lines : goal.returns-clause-lines
returns-clause-lines c number lines messages read = spelled_text number lines messages (entries_spelled lines messages read)

pub returns-clause-between : goal.returns-clause-between
returns-clause-between c first next lines messages read =
    text_between lines messages first next (entries_spelled lines messages read)
