use Rattle.rmeworld.proofs.Asked.{every_deed_was_asked}
use Rattle.rmeworld.proofs.Replies.{replies_tell, stored_is_shown}
use Rattle.rmeworld.proofs.Sent.{every_message_was_sent, every_close_was_asked, every_ruin_was_asked}
use Rattle.rmeworld.proofs.laws.messages_were_sent.Goals as goal

pub returns-clause-sent : goal.returns-clause-sent
returns-clause-sent c = every_message_was_sent

pub returns-clause-closed : goal.returns-clause-closed
returns-clause-closed c = every_close_was_asked

pub returns-clause-ruined : goal.returns-clause-ruined
returns-clause-ruined c = every_ruin_was_asked

pub returns-clause-replies : goal.returns-clause-replies
returns-clause-replies c = replies_tell

pub returns-clause-asked : goal.returns-clause-asked
returns-clause-asked c = every_deed_was_asked

pub returns-clause-stored : goal.returns-clause-stored
returns-clause-stored c = stored_is_shown
