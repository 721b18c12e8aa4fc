use Rattle.mold_frame.proofs.AddressLemmas.{carried_addresses}
use Rattle.mold_frame.proofs.laws.address_law.Goals as goal

pub returns : goal.returns
returns c link bytes = carried_addresses link bytes
