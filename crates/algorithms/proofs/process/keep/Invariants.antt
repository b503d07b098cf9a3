use Rattle.std.proofs.Common.{◌≡◌, ◌-◌, ◌<◌, replicate}
use Rattle.std.proofs.Math.Seq.{paste}
use Rattle.algorithms.proofs.process.keep.Given as goal

-- the names after those that last are 0, as far as the loop has come
abbrev pub invariant-loop-name : goal.invariant-loop-name
invariant-loop-name l = record {
  zeros : l.store ≡ paste l.initial.store l.lasting (replicate (l.name - l.lasting) 0) (l.name - l.lasting);
  none : 64 < l.lasting → l.name ≡ l.lasting;
}
