-- The local runs of the Bakery: where it comes to from the line after an access.
use Rattle.std.proofs.Common.{◌≡◌, ℕ, suc, ◌+◌, ◌-◌, ◌^◌, ◌<◌, max, true, false, cond, List, ◌∷◌, Option, Some, None, Result, Ok, refl, ap, ◌∙◌, arith}
use Rattle.std.specs.Prelude.{option_and_then, replicate}
use Rattle.std.proofs.lemmas.Bool.{lt-ltb}
use Rattle.algorithms.specs.Arrivals.{Arrival}
use Rattle.algorithms.specs.Values.{fitting, holds}
use Rattle.algorithm_lab.specs.Bakery.{IsBakery}
use Rattle.algorithms.specs.declared.algorithm.Algorithm.{Algorithm}
use Rattle.algorithms.specs.declared.condition.Condition.{Condition}
use Rattle.algorithms.specs.declared.constants.Constants.{Constants}
use Rattle.algorithms.specs.declared.line.AlgorithmDeed.{AlgorithmDeed}
use Rattle.algorithms.specs.declared.line.AlgorithmDeed.TheVariants.{Begin, Ready, Enter, Reenter, Leave, Quit}
use Rattle.algorithms.specs.declared.line.LineKind.TheVariants.{Local}
use Rattle.algorithms.specs.declared.line.LocalLine.TheVariants.{Branch, Next}
use Rattle.algorithms.specs.declared.line.Members.TheVariants.{Others}
use Rattle.algorithms.specs.declared.local.LocalState.{LocalState}
use Rattle.algorithms.specs.declared.noted.NotedDeeds.{NotedDeeds}
use Rattle.algorithms.specs.declared.refusal.AlgorithmRefusal.{AlgorithmRefusal}
use Rattle.algorithms.specs.LocalRuns.{nothing_noted, least_from, round_at, at_place, local_line_done}
use Rattle.algorithm_lab.proofs.BakeryComparisons.{eq_yes, eq_no, gt_yes}
use Rattle.algorithm_lab.proofs.BakeryLines.{HasForm, has_form, comes_to, sixty, goes, goes_back, stops, ends}

-- the private names c, k, i, m, j and v
pub record Names : Type 0 where
  pub c : ℕ
  pub k : ℕ
  pub i : ℕ
  pub m : ℕ
  pub j : ℕ
  pub v : ℕ

abbrev pub names : (c k i m j v : ℕ) → List ℕ
names c k i m j v = c ∷ k ∷ i ∷ m ∷ j ∷ v ∷ replicate 58 0

abbrev pub local : ℕ → List ℕ → NotedDeeds → LocalState
local at store noted = record { at = at; store = store; noted = noted }

abbrev pub one : AlgorithmDeed → NotedDeeds
one d = record { first = Some d; second = None; third = None }

-- it stops at an access, or ends with an answer
abbrev pub Stops : LocalState → Result Arrival AlgorithmRefusal
Stops s = Ok (record { answer = None; state = s })

abbrev pub Ends : ℕ → LocalState → Result Arrival AlgorithmRefusal
Ends answer s = Ok (record { answer = Some answer; state = s })

module _ (a : Algorithm) (b : IsBakery a) (c : Constants) where
  -- from this line with n lines more of its round
  abbrev pub From : ℕ → LocalState → Result Arrival AlgorithmRefusal
  From n s = comes_to a.lines.items c n s

  branch_yes : (n : ℕ) (s : LocalState) (condition : Condition) (otherwise : ℕ) → HasForm a.lines.items s.at (Local (Branch condition otherwise)) → holds c s.store condition ≡ Some true → From (suc n) s ≡ From n (at_place (s.at + 1) s)
  branch_yes n s condition otherwise h e = goes a.lines.items c n s (at_place (s.at + 1) s) _ h refl (ap (λ o. option_and_then (λ t. Some (at_place (cond t (s.at + 1) otherwise) s)) o) e)

  branch_no : (n : ℕ) (s : LocalState) (condition : Condition) (otherwise : ℕ) → HasForm a.lines.items s.at (Local (Branch condition otherwise)) → holds c s.store condition ≡ Some false → From (suc n) s ≡ From n (at_place otherwise s)
  branch_no n s condition otherwise h e = goes a.lines.items c n s (at_place otherwise s) _ h refl (ap (λ o. option_and_then (λ t. Some (at_place (cond t (s.at + 1) otherwise) s)) o) e)

  -- ---- the doorway, from its loop on

  pub spends : (n x k i m j v : ℕ) (d : NotedDeeds) → m ≡ c.limit → From (suc (suc n)) (local 21 (names x k i m j v) d) ≡ Stops (local 22 (names x k i m j v) d)
  spends n x k i m j v d e =
      branch_yes (suc n) (local 21 (names x k i m j v) d) _ _ (has_form a b 21 _ refl) (ap Some (eq_yes m c.limit e))
      ∙ stops a.lines.items c n (local 22 (names x k i m j v) d) _ (has_form a b 22 _ refl)

  pub takes : (n x k i m j v : ℕ) (d : NotedDeeds) → (m ≡ c.limit → ⊥) → m + 1 < 2 ^ 64 → From (suc (suc (suc n))) (local 21 (names x k i m j v) d) ≡ Stops (local 26 (names x (m + 1) i m j v) d)
  takes n x k i m j v d ne low =
      branch_no (suc (suc n)) (local 21 (names x k i m j v) d) _ _ (has_form a b 21 _ refl) (ap Some (eq_no m c.limit ne))
      ∙ goes a.lines.items c (suc n) (local 25 (names x k i m j v) d) (local 26 (names x (m + 1) i m j v) d) _ (has_form a b 25 _ refl) refl
      (ap (λ t. option_and_then (λ r. Some (local 26 (names x r i m j v) d)) (fitting t (m + 1))) (lt-ltb (m + 1) (2 ^ 64) low))
      ∙ stops a.lines.items c n (local 26 (names x (m + 1) i m j v) d) _ (has_form a b 26 _ refl)

  -- the head of a loop
  pub peeks_first : (n x k i m j v r : ℕ) (d : NotedDeeds) → least_from c Others 0 ≡ Some r → From (suc (suc n)) (local 17 (names x k i m j v) d) ≡ Stops (local 18 (names x k i m r v) d)
  peeks_first n x k i m j v r d e =
      goes a.lines.items c (suc n) (local 17 (names x k i m j v) d) (local 18 (names x k i m r v) d) _ (has_form a b 17 _ refl) refl (ap (λ o. Some (round_at 4 18 21 (local 17 (names x k i m j v) d) o)) e)
      ∙ stops a.lines.items c n (local 18 (names x k i m r v) d) _ (has_form a b 18 _ refl)

  pub peeks_none : (n x k i m j v : ℕ) (d : NotedDeeds) → least_from c Others 0 ≡ None → From (suc n) (local 17 (names x k i m j v) d) ≡ From n (local 21 (names x k i m 0 v) d)
  peeks_none n x k i m j v d e =
      goes a.lines.items c n (local 17 (names x k i m j v) d) (local 21 (names x k i m 0 v) d) _ (has_form a b 17 _ refl) refl (ap (λ o. Some (round_at 4 18 21 (local 17 (names x k i m j v) d) o)) e)

  pub waits_first : (n x k i m j v r : ℕ) (d : NotedDeeds) → least_from c Others 0 ≡ Some r → From (suc (suc n)) (local 29 (names x k i m j v) d) ≡ Stops (local 30 (names x k i m r v) d)
  waits_first n x k i m j v r d e =
      goes a.lines.items c (suc n) (local 29 (names x k i m j v) d) (local 30 (names x k i m r v) d) _ (has_form a b 29 _ refl) refl (ap (λ o. Some (round_at 4 30 33 (local 29 (names x k i m j v) d) o)) e)
      ∙ stops a.lines.items c n (local 30 (names x k i m r v) d) _ (has_form a b 30 _ refl)

  pub waits_none : (n x k i m j v : ℕ) (d : NotedDeeds) → least_from c Others 0 ≡ None → From (suc (suc n)) (local 29 (names x k i m j v) d) ≡ Stops (local 33 (names x k i m 0 v) d)
  waits_none n x k i m j v d e =
      goes a.lines.items c (suc n) (local 29 (names x k i m j v) d) (local 33 (names x k i m 0 v) d) _ (has_form a b 29 _ refl) refl (ap (λ o. Some (round_at 4 30 33 (local 29 (names x k i m j v) d) o)) e)
      ∙ stops a.lines.items c n (local 33 (names x k i m 0 v) d) _ (has_form a b 33 _ refl)

  -- the end of a loop
  further : (next body x k i m j v : ℕ) (d : NotedDeeds) (o : Option ℕ) → j + 1 < 2 ^ 64 → least_from c Others (j + 1) ≡ o
      → local_line_done c next (Next 4 Others body) (local (next - 1) (names x k i m j v) d) ≡ Some (round_at 4 body next (local (next - 1) (names x k i m j v) d) o)
  further next body x k i m j v d o low e =
      ap (λ t. option_and_then (λ r. Some (round_at 4 body next (local (next - 1) (names x k i m j v) d) r)) (option_and_then (λ r. Some (least_from c Others r)) (fitting t (j + 1)))) (lt-ltb (j + 1) (2 ^ 64) low)
      ∙ ap (λ r. Some (round_at 4 body next (local (next - 1) (names x k i m j v) d) r)) e

  -- after the access 18
  pub peeked_more : (n x k i m j v r : ℕ) → j + 1 < 2 ^ 64 → least_from c Others (j + 1) ≡ Some r
      → From (suc (suc (suc n))) (local 19 (names x k i m j v) nothing_noted) ≡ Stops (local 18 (names x k i (max m v) r v) nothing_noted)
  peeked_more n x k i m j v r low e =
      goes a.lines.items c (suc (suc n)) (local 19 (names x k i m j v) nothing_noted) (local 20 (names x k i (max m v) j v) nothing_noted) _ (has_form a b 19 _ refl) refl refl
      ∙ goes_back a.lines.items c (suc n) 59 (local 20 (names x k i (max m v) j v) nothing_noted) (local 18 (names x k i (max m v) r v) nothing_noted) _ _ (sixty a b) (has_form a b 20 _ refl) refl (further 21 18 x k i (max m v) j v nothing_noted (Some r) low e) (has_form a b 18 _ refl)

  pub peeked_last : (n x k i m j v : ℕ) → j + 1 < 2 ^ 64 → least_from c Others (j + 1) ≡ None
      → From (suc (suc n)) (local 19 (names x k i m j v) nothing_noted) ≡ From n (local 21 (names x k i (max m v) 0 v) nothing_noted)
  peeked_last n x k i m j v low e =
      goes a.lines.items c (suc n) (local 19 (names x k i m j v) nothing_noted) (local 20 (names x k i (max m v) j v) nothing_noted) _ (has_form a b 19 _ refl) refl refl
      ∙ goes a.lines.items c n (local 20 (names x k i (max m v) j v) nothing_noted) (local 21 (names x k i (max m v) 0 v) nothing_noted) _ (has_form a b 20 _ refl) refl (further 21 18 x k i (max m v) j v nothing_noted None low e)

  -- after the access 31 that passes
  pub passed_more : (n x k i m j v r : ℕ) → j + 1 < 2 ^ 64 → least_from c Others (j + 1) ≡ Some r
      → From (suc (suc n)) (local 32 (names x k i m j v) nothing_noted) ≡ Stops (local 30 (names x k i m r v) nothing_noted)
  passed_more n x k i m j v r low e =
      goes_back a.lines.items c (suc n) 59 (local 32 (names x k i m j v) nothing_noted) (local 30 (names x k i m r v) nothing_noted) _ _ (sixty a b) (has_form a b 32 _ refl) refl (further 33 30 x k i m j v nothing_noted (Some r) low e) (has_form a b 30 _ refl)

  pub passed_last : (n x k i m j v : ℕ) → j + 1 < 2 ^ 64 → least_from c Others (j + 1) ≡ None
      → From (suc (suc n)) (local 32 (names x k i m j v) nothing_noted) ≡ Stops (local 33 (names x k i m 0 v) nothing_noted)
  passed_last n x k i m j v low e =
      goes a.lines.items c (suc n) (local 32 (names x k i m j v) nothing_noted) (local 33 (names x k i m 0 v) nothing_noted) _ (has_form a b 32 _ refl) refl (further 33 30 x k i m j v nothing_noted None low e)
      ∙ stops a.lines.items c n (local 33 (names x k i m 0 v) nothing_noted) _ (has_form a b 33 _ refl)

  -- after the access 14
  pub opened : (n x k i m j v : ℕ) → From (suc (suc n)) (local 15 (names x k i m j v) nothing_noted) ≡ From n (local 17 (names x k i 0 j v) (one Begin))
  opened n x k i m j v =
      goes a.lines.items c (suc n) (local 15 (names x k i m j v) nothing_noted) (local 16 (names x k i m j v) (one Begin)) _ (has_form a b 15 _ refl) refl refl
      ∙ goes a.lines.items c n (local 16 (names x k i m j v) (one Begin)) (local 17 (names x k i 0 j v) (one Begin)) _ (has_form a b 16 _ refl) refl refl

  -- ---- the restart table, after the rereads of a lock

  pub relocks_doorway : (n k i m j v : ℕ) → k ≡ 0 → From (suc (suc (suc n))) (local 3 (names 1 k i m j v) nothing_noted) ≡ From n (local 17 (names 1 k i 0 j v) nothing_noted)
  relocks_doorway n k i m j v e =
      branch_yes (suc (suc n)) (local 3 (names 1 k i m j v) nothing_noted) _ _ (has_form a b 3 _ refl) (ap Some (eq_yes k 0 e))
      ∙ goes a.lines.items c (suc n) (local 4 (names 1 k i m j v) nothing_noted) (local 16 (names 1 k i m j v) nothing_noted) _ (has_form a b 4 _ refl) refl refl
      ∙ goes a.lines.items c n (local 16 (names 1 k i m j v) nothing_noted) (local 17 (names 1 k i 0 j v) nothing_noted) _ (has_form a b 16 _ refl) refl refl

  pub relocks_shut : (n k i m j v : ℕ) → 0 < k → From (suc (suc (suc (suc n)))) (local 3 (names 1 k i m j v) nothing_noted) ≡ Stops (local 28 (names 1 k i m j v) nothing_noted)
  relocks_shut n k i m j v some =
      branch_no (suc (suc (suc n))) (local 3 (names 1 k i m j v) nothing_noted) _ _ (has_form a b 3 _ refl) (ap Some (eq_no k 0 (λ e. omega arith)))
      ∙ branch_yes (suc (suc n)) (local 5 (names 1 k i m j v) nothing_noted) _ _ (has_form a b 5 _ refl) refl
      ∙ goes a.lines.items c (suc n) (local 6 (names 1 k i m j v) nothing_noted) (local 28 (names 1 k i m j v) nothing_noted) _ (has_form a b 6 _ refl) refl refl
      ∙ stops a.lines.items c n (local 28 (names 1 k i m j v) nothing_noted) _ (has_form a b 28 _ refl)

  -- choosing is 0
  relocks_unset : (n k i m j v : ℕ) → From (suc (suc n)) (local 3 (names 0 k i m j v) nothing_noted) ≡ From n (local 7 (names 0 k i m j v) nothing_noted)
  relocks_unset n k i m j v =
      branch_no (suc n) (local 3 (names 0 k i m j v) nothing_noted) _ _ (has_form a b 3 _ refl) refl
      ∙ branch_no n (local 5 (names 0 k i m j v) nothing_noted) _ _ (has_form a b 5 _ refl) refl

  pub relocks_waiting : (n k m j v : ℕ) → 0 < k → From (suc (suc (suc (suc n)))) (local 3 (names 0 k 0 m j v) nothing_noted) ≡ From n (local 29 (names 0 k 0 m j v) nothing_noted)
  relocks_waiting n k m j v some =
      relocks_unset (suc (suc n)) k 0 m j v
      ∙ branch_yes (suc n) (local 7 (names 0 k 0 m j v) nothing_noted) _ _ (has_form a b 7 _ refl) (ap (λ t. cond t (Some true) (Some false)) (gt_yes k some))
      ∙ goes a.lines.items c n (local 8 (names 0 k 0 m j v) nothing_noted) (local 29 (names 0 k 0 m j v) nothing_noted) _ (has_form a b 8 _ refl) refl refl

  pub relocks_inside : (n k m j v : ℕ) → 0 < k
      → From (suc (suc (suc (suc (suc (suc n)))))) (local 3 (names 0 k 1 m j v) nothing_noted) ≡ Ends 0 (local 11 (names 0 k 1 m j v) (one Reenter))
  relocks_inside n k m j v some =
      relocks_unset (suc (suc (suc (suc n)))) k 1 m j v
      ∙ branch_no (suc (suc (suc n))) (local 7 (names 0 k 1 m j v) nothing_noted) _ _ (has_form a b 7 _ refl) (ap (λ t. cond t (Some false) (Some false)) (gt_yes k some))
      ∙ branch_yes (suc (suc n)) (local 9 (names 0 k 1 m j v) nothing_noted) _ _ (has_form a b 9 _ refl) (ap Some (gt_yes k some))
      ∙ goes a.lines.items c (suc n) (local 10 (names 0 k 1 m j v) nothing_noted) (local 11 (names 0 k 1 m j v) (one Reenter)) _ (has_form a b 10 _ refl) refl refl
      ∙ ends a.lines.items c n (local 11 (names 0 k 1 m j v) (one Reenter)) 0 (has_form a b 11 _ refl)

  relocks_zero : (n i m j v : ℕ) → From (suc (suc (suc (suc n)))) (local 3 (names 0 0 i m j v) nothing_noted) ≡ From n (local 12 (names 0 0 i m j v) nothing_noted)
  relocks_zero n i m j v =
      relocks_unset (suc (suc n)) 0 i m j v
      ∙ branch_no (suc n) (local 7 (names 0 0 i m j v) nothing_noted) _ _ (has_form a b 7 _ refl) refl
      ∙ branch_no n (local 9 (names 0 0 i m j v) nothing_noted) _ _ (has_form a b 9 _ refl) refl

  pub relocks_idle : (n m j v : ℕ) → From (suc (suc (suc (suc (suc (suc n)))))) (local 3 (names 0 0 0 m j v) nothing_noted) ≡ Stops (local 14 (names 0 0 0 m j v) nothing_noted)
  relocks_idle n m j v =
      relocks_zero (suc (suc n)) 0 m j v
      ∙ branch_no (suc n) (local 12 (names 0 0 0 m j v) nothing_noted) _ _ (has_form a b 12 _ refl) refl
      ∙ stops a.lines.items c n (local 14 (names 0 0 0 m j v) nothing_noted) _ (has_form a b 14 _ refl)

  pub relocks_marked : (n m j v : ℕ) → From (suc (suc (suc (suc (suc (suc n)))))) (local 3 (names 0 0 1 m j v) nothing_noted) ≡ Stops (local 13 (names 0 0 1 m j v) nothing_noted)
  relocks_marked n m j v =
      relocks_zero (suc (suc n)) 1 m j v
      ∙ branch_yes (suc n) (local 12 (names 0 0 1 m j v) nothing_noted) _ _ (has_form a b 12 _ refl) refl
      ∙ stops a.lines.items c n (local 13 (names 0 0 1 m j v) nothing_noted) _ (has_form a b 13 _ refl)

  -- ---- the restart table, after the rereads of a recovery

  pub recovers_doorway : (n k i m j v : ℕ) → k ≡ 0 → From (suc (suc n)) (local 43 (names 1 k i m j v) nothing_noted) ≡ Ends 4 (local 44 (names 1 k i m j v) nothing_noted)
  recovers_doorway n k i m j v e =
      branch_yes (suc n) (local 43 (names 1 k i m j v) nothing_noted) _ _ (has_form a b 43 _ refl) (ap Some (eq_yes k 0 e))
      ∙ ends a.lines.items c n (local 44 (names 1 k i m j v) nothing_noted) 4 (has_form a b 44 _ refl)

  pub recovers_shut : (n k i m j v : ℕ) → 0 < k → From (suc (suc (suc n))) (local 43 (names 1 k i m j v) nothing_noted) ≡ Stops (local 46 (names 1 k i m j v) nothing_noted)
  recovers_shut n k i m j v some =
      branch_no (suc (suc n)) (local 43 (names 1 k i m j v) nothing_noted) _ _ (has_form a b 43 _ refl) (ap Some (eq_no k 0 (λ e. omega arith)))
      ∙ branch_yes (suc n) (local 45 (names 1 k i m j v) nothing_noted) _ _ (has_form a b 45 _ refl) refl
      ∙ stops a.lines.items c n (local 46 (names 1 k i m j v) nothing_noted) _ (has_form a b 46 _ refl)

  recovers_unset : (n k i m j v : ℕ) → From (suc (suc n)) (local 43 (names 0 k i m j v) nothing_noted) ≡ From n (local 48 (names 0 k i m j v) nothing_noted)
  recovers_unset n k i m j v =
      branch_no (suc n) (local 43 (names 0 k i m j v) nothing_noted) _ _ (has_form a b 43 _ refl) refl
      ∙ branch_no n (local 45 (names 0 k i m j v) nothing_noted) _ _ (has_form a b 45 _ refl) refl

  pub recovers_waiting : (n k m j v : ℕ) → 0 < k → From (suc (suc (suc (suc n)))) (local 43 (names 0 k 0 m j v) nothing_noted) ≡ Ends 5 (local 49 (names 0 k 0 m j v) nothing_noted)
  recovers_waiting n k m j v some =
      recovers_unset (suc (suc n)) k 0 m j v
      ∙ branch_yes (suc n) (local 48 (names 0 k 0 m j v) nothing_noted) _ _ (has_form a b 48 _ refl) (ap (λ t. cond t (Some true) (Some false)) (gt_yes k some))
      ∙ ends a.lines.items c n (local 49 (names 0 k 0 m j v) nothing_noted) 5 (has_form a b 49 _ refl)

  pub recovers_inside : (n k m j v : ℕ) → 0 < k
      → From (suc (suc (suc (suc (suc (suc n)))))) (local 43 (names 0 k 1 m j v) nothing_noted) ≡ Ends 6 (local 52 (names 0 k 1 m j v) (one Reenter))
  recovers_inside n k m j v some =
      recovers_unset (suc (suc (suc (suc n)))) k 1 m j v
      ∙ branch_no (suc (suc (suc n))) (local 48 (names 0 k 1 m j v) nothing_noted) _ _ (has_form a b 48 _ refl) (ap (λ t. cond t (Some false) (Some false)) (gt_yes k some))
      ∙ branch_yes (suc (suc n)) (local 50 (names 0 k 1 m j v) nothing_noted) _ _ (has_form a b 50 _ refl) (ap Some (gt_yes k some))
      ∙ goes a.lines.items c (suc n) (local 51 (names 0 k 1 m j v) nothing_noted) (local 52 (names 0 k 1 m j v) (one Reenter)) _ (has_form a b 51 _ refl) refl refl
      ∙ ends a.lines.items c n (local 52 (names 0 k 1 m j v) (one Reenter)) 6 (has_form a b 52 _ refl)

  recovers_zero : (n i m j v : ℕ) → From (suc (suc (suc (suc n)))) (local 43 (names 0 0 i m j v) nothing_noted) ≡ From n (local 53 (names 0 0 i m j v) nothing_noted)
  recovers_zero n i m j v =
      recovers_unset (suc (suc n)) 0 i m j v
      ∙ branch_no (suc n) (local 48 (names 0 0 i m j v) nothing_noted) _ _ (has_form a b 48 _ refl) refl
      ∙ branch_no n (local 50 (names 0 0 i m j v) nothing_noted) _ _ (has_form a b 50 _ refl) refl

  pub recovers_idle : (n m j v : ℕ) → From (suc (suc (suc (suc (suc (suc n)))))) (local 43 (names 0 0 0 m j v) nothing_noted) ≡ Ends 7 (local 54 (names 0 0 0 m j v) nothing_noted)
  recovers_idle n m j v =
      recovers_zero (suc (suc n)) 0 m j v
      ∙ branch_yes (suc n) (local 53 (names 0 0 0 m j v) nothing_noted) _ _ (has_form a b 53 _ refl) refl
      ∙ ends a.lines.items c n (local 54 (names 0 0 0 m j v) nothing_noted) 7 (has_form a b 54 _ refl)

  pub recovers_marked : (n m j v : ℕ) → From (suc (suc (suc (suc (suc (suc n)))))) (local 43 (names 0 0 1 m j v) nothing_noted) ≡ Stops (local 55 (names 0 0 1 m j v) nothing_noted)
  recovers_marked n m j v =
      recovers_zero (suc (suc n)) 1 m j v
      ∙ branch_no (suc n) (local 53 (names 0 0 1 m j v) nothing_noted) _ _ (has_form a b 53 _ refl) refl
      ∙ stops a.lines.items c n (local 55 (names 0 0 1 m j v) nothing_noted) _ (has_form a b 55 _ refl)

  -- ---- accesses with a note or an end after them

  pub spent : (n : ℕ) (store : List ℕ) → From (suc (suc n)) (local 23 store nothing_noted) ≡ Ends 1 (local 24 store (one Quit))
  spent n store =
      goes a.lines.items c (suc n) (local 23 store nothing_noted) (local 24 store (one Quit)) _ (has_form a b 23 _ refl) refl refl
      ∙ ends a.lines.items c n (local 24 store (one Quit)) 1 (has_form a b 24 _ refl)

  pub took : (n : ℕ) (store : List ℕ) → From (suc (suc n)) (local 27 store nothing_noted) ≡ Stops (local 28 store (one Ready))
  took n store =
      goes a.lines.items c (suc n) (local 27 store nothing_noted) (local 28 store (one Ready)) _ (has_form a b 27 _ refl) refl refl
      ∙ stops a.lines.items c n (local 28 store (one Ready)) _ (has_form a b 28 _ refl)

  pub entered : (n : ℕ) (store : List ℕ) → From (suc (suc n)) (local 34 store nothing_noted) ≡ Ends 2 (local 35 store (one Enter))
  entered n store =
      goes a.lines.items c (suc n) (local 34 store nothing_noted) (local 35 store (one Enter)) _ (has_form a b 34 _ refl) refl refl
      ∙ ends a.lines.items c n (local 35 store (one Enter)) 2 (has_form a b 35 _ refl)

  pub left : (n : ℕ) (store : List ℕ) → From (suc (suc n)) (local 37 store nothing_noted) ≡ Stops (local 38 store (one Leave))
  left n store =
      goes a.lines.items c (suc n) (local 37 store nothing_noted) (local 38 store (one Leave)) _ (has_form a b 37 _ refl) refl refl
      ∙ stops a.lines.items c n (local 38 store (one Leave)) _ (has_form a b 38 _ refl)

  pub withdrew : (n : ℕ) (store : List ℕ) → From (suc (suc n)) (local 58 store nothing_noted) ≡ Ends 9 (local 59 store (one Quit))
  withdrew n store =
      goes a.lines.items c (suc n) (local 58 store nothing_noted) (local 59 store (one Quit)) _ (has_form a b 58 _ refl) refl refl
      ∙ ends a.lines.items c n (local 59 store (one Quit)) 9 (has_form a b 59 _ refl)
