use Rattle.rmeworld.proofs.Holders.{holders_put}
use Rattle.rmeworld.proofs.laws.only_holders_put.Goals as goal

pub returns : goal.returns
returns c = holders_put
