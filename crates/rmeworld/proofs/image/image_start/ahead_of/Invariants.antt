use Rattle.rmeworld.proofs.ImageCommon.{start_of, own_at}
use Rattle.rmeworld.proofs.ImageStarts.{NamesBelow}
use Rattle.rmeworld.proofs.image.image_start.ahead_of.Given as goal

abbrev pub invariant-loop-q : goal.invariant-loop-q
invariant-loop-q l = NamesBelow ((start_of (own_at l.lock)).ahead l.p) l.q l.names.items
