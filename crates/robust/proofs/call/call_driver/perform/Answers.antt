use Rattle.std.proofs.Common.{ℕ, IsSome, subst}
use Rattle.robust.proofs.CallCommon.{Access, moved_process_state}
use Rattle.rmecore.specs.Machine.{kind_of, word_of, carried_value}
use Rattle.robust.proofs.call.call_driver.perform.Goals as goal

pub read-requires-clause-allowed : goal.read-requires-clause-allowed
read-requires-clause-allowed c = subst (λ (a : Access). (v : ℕ) → IsSome (moved_process_state c.args.port.now (kind_of a) (word_of a) (carried_value a v))) c.in-Load.is c.requires.allowed

pub store-requires-clause-may : goal.store-requires-clause-may
store-requires-clause-may c = subst (λ (a : Access). (v : ℕ) → IsSome (moved_process_state c.args.port.now (kind_of a) (word_of a) (carried_value a v))) c.in-Store.is c.requires.allowed 0

pub step_past_end-requires-clause-may : goal.step_past_end-requires-clause-may
step_past_end-requires-clause-may c = subst (λ (a : Access). (v : ℕ) → IsSome (moved_process_state c.args.port.now (kind_of a) (word_of a) (carried_value a v))) c.in-Store.is c.requires.allowed 0
