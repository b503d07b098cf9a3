-- The process of a put's deeds.
use Rattle.std.proofs.Common.{◌&&◌, ◌==◌, refl}
use Rattle.redomail.proofs.Common.{cond_both, AreOwn}
use Rattle.redomail.specs.Laws.{PutsAreOwn}

pub puts_are_own : PutsAreOwn
puts_are_own l p w i v =
    cond_both (w i == v) _ _ (AreOwn p) (λ _. tt) (λ _.
    cond_both ((i == 3) && (v == 1)) _ _ (AreOwn p) (λ _. (refl, tt)) (λ _.
    cond_both (i == 2) _ _ (AreOwn p) (λ _. (refl, tt)) (λ _.
    cond_both ((i == 1) && (v == 1)) _ _ (AreOwn p) (λ _. (refl, tt)) (λ _.
    cond_both ((i == 0) && (v == 1)) _ _ (AreOwn p) (λ _. (refl, tt)) (λ _. tt)))))
