use Rattle.std.proofs.Common.{◌≡◌, ◌++◌, drop}
use Rattle.schedule.proofs.ReplaysCommon.{messages_text}
use Rattle.schedule.proofs.replays.last_words.put_messages.Given as goal

abbrev pub invariant-loop-message : goal.invariant-loop-message
invariant-loop-message l = (l.out.items ++ messages_text l.at (drop l.message-index l.messages) ≡ l.fn.out.items ++ messages_text 0 l.messages) × (l.at ≡ l.message-index)
