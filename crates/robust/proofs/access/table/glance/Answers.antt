use Rattle.std.proofs.Common.{◌≡◌, sym, subst}
use Rattle.robust.proofs.AccessCommon.{Glance, glance_step, step_of, AwaitsNothing}
use Rattle.rmecore.specs.declared.word.Word.{Word}
use Rattle.table_runs.specs.Rule.{MayLoad, Did}
use Rattle.table_runs.specs.declared.entry.Step.{Step}
use Rattle.robust.specs.declared.access.pending_events.PendingEvents.{PendingEvents}
use Rattle.robust.proofs.access.table.glance.Goals as goal

-- a step with nothing pending is a glance's
is_glanced : (o : PendingEvents) (word : Word) → AwaitsNothing o → step_of o Glance word ≡ glance_step word
is_glanced o word n = λ i. record { crashed = n.0 i; start = n.1 i; kind = Glance; word = word }

pub load_named-requires-clause-step : goal.load_named-requires-clause-step
load_named-requires-clause-step c = is_glanced c.nothing-pending_events.result c.args.word c.nothing-pending_events.ensures

pub load_named-requires-clause-may : goal.load_named-requires-clause-may
load_named-requires-clause-may c = subst (λ (s : Step). MayLoad s c.args.at c.args.seat.now.me.0.view) (sym (is_glanced c.nothing-pending_events.result c.args.word c.nothing-pending_events.ensures)) c.requires.may

pub returns-clause-did : goal.returns-clause-did
returns-clause-did c = subst (λ (s : Step). Did s c.args.seat.now.me.0 c.load_named.result c.load_named.new.seat.me.0) (is_glanced c.nothing-pending_events.result c.args.word c.nothing-pending_events.ensures) c.load_named.ensures.did
