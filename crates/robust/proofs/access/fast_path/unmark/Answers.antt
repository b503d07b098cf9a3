use Rattle.robust.proofs.AccessCommon.{Mark}
use Rattle.rmecore.specs.declared.word.Word.TheVariants.{Inside}
use Rattle.robust.proofs.Straight.{at_own, unmarked}
use Rattle.robust.proofs.access.fast_path.unmark.Goals as goal

pub returns-clause-advances : goal.returns-clause-advances
returns-clause-advances c = at_own c.args.port.now c.store.new.self c.by-own.result c.by-own.ensures.is Mark Inside 0 c.store.ensures

pub returns-clause-at : goal.returns-clause-at
returns-clause-at c = unmarked c.args.port.now c.store.new.self c.by-own.result c.by-own.ensures.is c.requires.at c.store.ensures
