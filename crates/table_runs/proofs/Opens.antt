-- The members of a new table, and how many words it has.
use Rattle.std.proofs.Common.{◌≡◌, ℕ, zero, suc, ◌+◌, ◌-◌, ◌<◌, List, [], ◌∷◌, ◌++◌, map, sym, ap, ◌∙◌, subst, arith}
use Rattle.table_runs.proofs.Common.{Splits, Layout, IsLayout, size, place_at, SeatKnowledge, Setup, rest_known, count_from, TableRuleHolds, without_first, first_alone}
use Rattle.std.proofs.lemmas.List.{map-append}
use Rattle.std.proofs.lemmas.Nat.{mul-le}
use Rattle.table_runs.proofs.Runs.{count_step, above_absent}
use Rattle.table_runs.proofs.Keeps.{cuts}

pub size_small : (l : Layout) → IsLayout l → size l < 1000000
unfolding place_at
size_small l h = let m = mul-le (2 + l.width) l.cap 10 65536 (let w = h.most in omega arith) h.small in omega (arith, h.few, h.most, h.small)

rest_is : (s : Setup) (p : ℕ) → p < s.layout.procs → rest_known s p ≡ record { view = record { setup = s; answers = p ∷ count_from (suc p) (s.layout.procs - suc p); seen = [] }; reports = [] }
rest_is s p h = ap (λ (ps : List ℕ). record { view = record { setup = s; answers = ps; seen = [] }; reports = [] }) (count_step p s.layout.procs h)

pub cut_rest : (sizes : Setup) (id : ℕ) (s : Setup) (p : ℕ) (k : SeatKnowledge) → k ≡ rest_known s p → p < s.layout.procs → Splits (TableRuleHolds sizes) id k (without_first k) (first_alone k)
cut_rest sizes id s p k e h =
    subst (λ (x : SeatKnowledge). Splits (TableRuleHolds sizes) id x (without_first x) (first_alone x)) (sym (e ∙ rest_is s p h))
    (cuts sizes id s p (count_from (suc p) (s.layout.procs - suc p)) [] (above_absent p (suc p) (s.layout.procs - suc p) (omega arith)))

pub rest_step : (s : Setup) (p : ℕ) (k : SeatKnowledge) → k ≡ rest_known s p → p < s.layout.procs → without_first k ≡ rest_known s (p + 1)
rest_step s p k e h = ap without_first (e ∙ rest_is s p h) ∙ ap (rest_known s) (omega arith)

count_snoc : (k n : ℕ) → count_from k (suc n) ≡ count_from k n ++ (k + n) ∷ []
count_snoc k zero = ap (λ (x : ℕ). x ∷ []) (omega arith)
count_snoc k (suc n) = ap (λ (l : List ℕ). k ∷ l) (count_snoc (suc k) n ∙ ap (λ (x : ℕ). count_from (suc k) n ++ x ∷ []) (omega arith))

pub mapped_more : {A : Type 0} (f : ℕ → A) (p : ℕ) → map f (count_from 0 (p + 1)) ≡ map f (count_from 0 p) ++ f p ∷ []
mapped_more f p = (let e : p + 1 ≡ suc p = omega arith in ap (λ (q : ℕ). map f (count_from 0 q)) e) ∙ ap (map f) (count_snoc 0 p ∙ (let e : 0 + p ≡ p = omega arith in ap (λ (x : ℕ). count_from 0 p ++ x ∷ []) e)) ∙ map-append f (count_from 0 p) (p ∷ [])
