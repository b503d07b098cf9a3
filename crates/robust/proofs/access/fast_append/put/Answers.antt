use Rattle.robust.proofs.FastAppend.{put_may, put_goes, put_silent}
use Rattle.robust.proofs.access.fast_append.put.Goals as goal

pub returns-clause-at : goal.returns-clause-at
returns-clause-at c = put_goes c.args.port.now c.args.entry.now c.args.step c.args.i c.args.v c.requires.at c.requires.next c.store.new.self c.store.ensures

pub returns-clause-unanswered : goal.returns-clause-unanswered
returns-clause-unanswered c = put_silent c.args.port.now c.args.entry.now c.args.step c.args.i c.args.v c.requires.at c.requires.next c.store.new.self c.store.ensures c.requires.more

pub store-requires-clause-may : goal.store-requires-clause-may
store-requires-clause-may c = put_may c.args.port.now c.args.entry.now c.args.step c.args.i c.args.v c.requires.at c.requires.next
