use Rattle.std.proofs.Common.{◌≡◌, ◌++◌, drop}
use Rattle.schedule.proofs.ReplaysCommon.{owns_text}
use Rattle.schedule.proofs.replays.last_words.put_owns.Given as goal

abbrev pub invariant-loop-own : goal.invariant-loop-own
invariant-loop-own l = (l.out.items ++ owns_text l.p (drop l.own-index l.owns) ≡ l.fn.out.items ++ owns_text 0 l.owns) × (l.p ≡ l.own-index)
