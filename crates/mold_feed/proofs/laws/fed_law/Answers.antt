use Rattle.mold_feed.proofs.SessionLawLemmas.{fed_harmless}
use Rattle.mold_feed.proofs.laws.fed_law.Goals as goal

pub returns : goal.returns
returns g c limit journal input bytes opening fed =
    fed_harmless (record { published = c.published_law.ensures.sent; served = c.served_law.ensures }) limit journal input
    opening bytes fed
