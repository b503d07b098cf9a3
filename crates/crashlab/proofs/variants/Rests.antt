-- The processes of a new world of a variant.
use Rattle.std.proofs.Common.{◌≡◌, ℕ, zero, suc, ◌+◌, ◌<◌, [], ◌∷◌, ◌++◌, length, refl, sym, ap, ◌∙◌, subst, arith}
use Rattle.crashlab.proofs.Common.{length-replicate, zeros, Layout, size, IsSize, Variant, variant_resting, machine_state_at, IsVariantConfigured, at_rest_from, new_world, HasVariantConfiguration}

-- one more of them at the end
pub rest_more : (variant : Variant) (l : Layout) (limit p n : ℕ) → at_rest_from variant l limit p n ++ variant_resting variant l limit (p + n) ∷ [] ≡ at_rest_from variant l limit p (suc n)
rest_more variant l limit p zero = let e : p + 0 ≡ p = omega arith in ap (λ q. variant_resting variant l limit q ∷ []) e
rest_more variant l limit p (suc n) =
    let e : p + suc n ≡ p + 1 + n = omega arith in
    ap (λ rest. variant_resting variant l limit p ∷ rest) (ap (λ q. at_rest_from variant l limit (p + 1) n ++ variant_resting variant l limit q ∷ []) e ∙ rest_more variant l limit (p + 1) n)

length_rest : (variant : Variant) (l : Layout) (limit p n : ℕ) → length (at_rest_from variant l limit p n) ≡ n
length_rest variant l limit p zero = refl
length_rest variant l limit p (suc n) = ap suc (length_rest variant l limit (p + 1) n)

pub rest_at : (variant : Variant) (l : Layout) (limit p n q : ℕ) → q < n → machine_state_at (at_rest_from variant l limit p n) q ≡ variant_resting variant l limit (p + q)
rest_at variant l limit p zero q h = absurd (omega arith)
rest_at variant l limit p (suc n) zero h = let e : p ≡ p + 0 = omega arith in ap (variant_resting variant l limit) e
rest_at variant l limit p (suc n) (suc q) h = let e : p + 1 + q ≡ p + suc q = omega arith in rest_at variant l limit (p + 1) n q (omega arith) ∙ ap (variant_resting variant l limit) e

pub configured_new : (variant : Variant) (l : Layout) (limit : ℕ) → IsSize l → IsVariantConfigured (new_world variant l limit)
configured_new variant l limit sized =
    record {
      sized = sized;
      words_each = length-replicate l.procs zeros;
      cells_each = length-replicate (size l) 0;
      processes_each = length_rest variant l limit 0 l.procs;
      configurations = λ p below. subst (HasVariantConfiguration variant l limit p) (sym (rest_at variant l limit 0 l.procs p below)) (let e : 0 + p ≡ p = omega arith in (refl, refl, refl, e));
    }
