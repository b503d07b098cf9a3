use Rattle.std.proofs.Common.{◌≡◌, ◌+◌, length, take}
use Rattle.rme_c.specs.Stores.{named_to}
use Rattle.rme_c.proofs.appends.name_row.Given as goal

abbrev pub invariant-loop-j : goal.invariant-loop-j
invariant-loop-j l = (length l.each ≡ 24) × (take (l.step + l.j) l.each ≡ named_to l.p l.entry.at l.entry.seq (l.step + l.j))
