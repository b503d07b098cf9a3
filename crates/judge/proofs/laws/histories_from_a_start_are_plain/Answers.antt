use Rattle.judge.proofs.Common.{state_of}
use Rattle.judge.proofs.Steps.{Allowed-from_leads}
use Rattle.judge.proofs.Starts.{IsPlainFrom-allowed}
use Rattle.judge.proofs.laws.histories_from_a_start_are_plain.Goals as goal

pub returns : goal.returns
returns c start deeds t accepted leads =
    IsPlainFrom-allowed start deeds accepted (Allowed-from_leads (state_of start) t deeds leads)
