use Rattle.std.proofs.Common.{◌≡◌, rules}
use Rattle.mold_durable.proofs.memory_storage.add_sync.Goals as goal

pub returns-clause-added : goal.returns-clause-added
returns-clause-added c =
    let same : c.in_ok-copy.copy.items ≡ c.args.bytes.now = search rules in
    (c.in_ok-copy.copy, same, c.in_ok-push.ensures.items)
