use Rattle.redomail.proofs.Safe.{seen}
use Rattle.redomail.proofs.laws.safe_is_seen.Goals as goal

pub returns : goal.returns
returns c = λ l p m old e w now h. seen l p m old e w now h
