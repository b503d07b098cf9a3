use Rattle.algorithm_lab.proofs.CoreMoves.{core_start, core_refuses_start, core_step, core_refuses_step, core_crash}
use Rattle.algorithm_lab.proofs.laws.a_core_makes_these_moves.Goals as goal

pub returns-clause-start : goal.returns-clause-start
returns-clause-start c = λ s t p call e takes. core_start s t p call e takes

pub returns-clause-no_start : goal.returns-clause-no_start
returns-clause-no_start c = λ s p call e is. core_refuses_start s p call e is

pub returns-clause-step : goal.returns-clause-step
returns-clause-step c = λ s t p h reached takes no least outer answers. core_step s t p h reached takes no least outer answers

pub returns-clause-no_step : goal.returns-clause-no_step
returns-clause-no_step c = λ s p e is. core_refuses_step s p e is

pub returns-clause-crash : goal.returns-clause-crash
returns-clause-crash c = λ s t p outer is takes. core_crash s t p outer is takes
