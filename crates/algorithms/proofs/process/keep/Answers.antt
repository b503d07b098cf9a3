use Rattle.std.proofs.Common.{inl, inr, arith, rules}
use Rattle.std.proofs.lemmas.Bool.{cases_lt}
use Rattle.algorithms.proofs.Names.{zeros_more, zeros_all, zeros_none}
use Rattle.algorithms.proofs.process.keep.Goals as goal

pub loop-name-preserved : goal.loop-name-preserved
loop-name-preserved c = record {
  zeros = zeros_more c.args.store.now _ c.args.lasting c.loop-name.name (omega arith) (omega arith) c.loop-name.invariant.zeros;
  none = λ h. absurd (omega arith);
}

pub returns : goal.returns
returns c = elim (cases_lt 64 c.args.lasting) [
  | inl high ↦ zeros_none c.args.store.now _ c.args.lasting c.loop-name.name (search rules) high (c.loop-name.invariant.none high) c.loop-name.invariant.zeros
  | inr low ↦ zeros_all c.args.store.now _ c.args.lasting c.loop-name.name (search rules) low (omega arith) c.loop-name.invariant.zeros
]
