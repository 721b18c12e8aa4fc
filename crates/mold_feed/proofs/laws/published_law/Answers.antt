use Rattle.mold_feed.proofs.PublishedLemmas.{PublishedLaws, entries_read, entries_read_before, offered_true}
use Rattle.mold_feed.proofs.PublishedLemmas.{published_may, published_true}
use Rattle.mold_feed.proofs.laws.published_law.Given.{Over}
use Rattle.mold_feed.proofs.laws.published_law.Goals.{After-sending_law}
use Rattle.mold_feed.proofs.laws.published_law.Goals as goal

laws : (g : Over) → After-sending_law g → PublishedLaws
laws g c = record {
  may = c.publisher_law.ensures.may;
  told = c.sending_law.ensures.planned;
}

pub returns : goal.returns
returns g c = record {
  offered = offered_true (laws g c);
  sent = published_true (laws g c);
  messages = entries_read (laws g c);
  before = entries_read_before (laws g c);
  answers = published_may (laws g c);
}
