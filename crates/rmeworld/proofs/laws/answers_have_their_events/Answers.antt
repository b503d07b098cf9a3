use Rattle.rmeworld.proofs.ReplyEvents.{answers_have_their_events}
use Rattle.rmeworld.proofs.laws.answers_have_their_events.Goals as goal

pub returns : goal.returns
returns c = answers_have_their_events
