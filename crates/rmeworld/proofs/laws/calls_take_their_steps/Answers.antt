use Rattle.rmeworld.proofs.CallBounds.{table_most}
use Rattle.rmeworld.proofs.CallWalks.{calls_take_their_steps}
use Rattle.rmeworld.proofs.laws.calls_take_their_steps.Goals as goal

pub returns-clause-reports : goal.returns-clause-reports
returns-clause-reports c = calls_take_their_steps

pub returns-clause-most : goal.returns-clause-most
returns-clause-most c = λ l began mended call a x some e. table_most l began some mended call a x e
