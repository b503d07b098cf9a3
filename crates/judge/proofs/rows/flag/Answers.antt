use Rattle.judge.proofs.Common.{bit_at-pow_other}
use Rattle.std.proofs.lemmas.Nat.{one_shl}
use Rattle.judge.proofs.rows.flag.Goals as goal

pub returns-then-holds-clause-others : goal.returns-then-holds-clause-others
returns-then-holds-clause-others c = λ i ne. rw (one_shl c.args.q 64 c.requires) (bit_at-pow_other c.args.q i ne)
