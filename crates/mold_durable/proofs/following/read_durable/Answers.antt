use Rattle.std.proofs.Common.{◌++◌}
use Rattle.mold_durable.proofs.FollowerLemmas.{reaches_later}
use Rattle.mold_durable.proofs.following.read_durable.Goals as goal

pub returns-in-Ok-sync-clause-found : goal.returns-in-Ok-sync-clause-found
returns-in-Ok-sync-clause-found g c = λ writer bytes told shown writes has.
    reaches_later writer bytes writes (told ++ c.read_news.new.news.messages)
    (g.F.GrowingFile.moment c.args.file.now) (g.F.GrowingFile.moment c.read_news.new.file)
    (g.F.GrowingFile.synced c.sync.new.self) c.in-Ok.look c.in-Ok-sync.ensures.durable
    (c.in-Ok.ensures.found writer bytes told shown writes has)
