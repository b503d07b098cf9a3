use Rattle.std.proofs.Common.{◌≡◌, ℕ, zero, suc, ◌+◌, [], ◌∷◌, ◌++◌, refl, sym, ap, arith, append_assoc, append-nil}
use Rattle.rmecore.specs.Body.{zeros}
use Rattle.rmeworld.proofs.image.image_widener.push_zeros.Goals as goal

one_more : (n : ℕ) → zeros n ++ 0 ∷ [] ≡ zeros (n + 1)
one_more zero = refl
one_more (suc n) = let e : suc n + 1 ≡ suc (n + 1) = omega arith in rw e (ap (λ xs. 0 ∷ xs) (one_more n))

pub loop-k-init : goal.loop-k-init
loop-k-init c = sym (append-nil c.args.cells.now.items)

pub loop-k-preserved : goal.loop-k-preserved
loop-k-preserved c =
    let more = one_more c.loop-k.k in
    rw (c.in_ok-push.ensures.items, c.loop-k.invariant, ← more) (append_assoc c.args.cells.now.items (zeros c.loop-k.k) (0 ∷ []))
