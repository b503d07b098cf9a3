-- Worlds of an algorithm: the first one, and processes that stay.
use Rattle.std.proofs.Common.{ℕ, zero, suc, ◌+◌, ◌<◌, ◌≡◌, ◌∙◌, sym, refl, ap, arith, add-one, nat_lt, Bool, true, false, if◌then◌else◌, List, [], ◌∷◌, ◌++◌, drop, length, replicate, slice_get, slice_set, Option, Some, None, Result, Ok, ok_or}
use Rattle.std.proofs.lemmas.List.{length-set}
use Rattle.algorithms.specs.Arrivals.{◌>>=◌}
use Rattle.algorithms.specs.FirstWords.{first_rows, rows_at_beginning}
use Rattle.algorithms.specs.Steps.{before_step, process_stopped_at, step_from}
use Rattle.algorithms.specs.Worlds.{AlgorithmWorldState, first_world, resting, constants_of, process_of, taken_by, stored_in, words_after_access, after_step, advance_in_world, advance}
use Rattle.algorithms.specs.declared.access.Address.{Address}
use Rattle.algorithms.specs.declared.access.Advanced.{Advanced}
use Rattle.algorithms.specs.declared.access.Taken.{Taken}
use Rattle.algorithms.specs.declared.algorithm.Algorithm.{Algorithm}
use Rattle.algorithms.specs.declared.first_values.InitializedAlgorithm.{InitializedAlgorithm}
use Rattle.algorithms.specs.declared.local.LocalState.{LocalState}
use Rattle.algorithms.specs.declared.process.AlgorithmPlace.TheVariants.{At}
use Rattle.algorithms.specs.declared.process.AlgorithmProcess.{AlgorithmProcess}
use Rattle.algorithms.specs.declared.refusal.AlgorithmRefusal.{AlgorithmRefusal}
use Rattle.algorithms.specs.declared.refusal.AlgorithmRefusal.TheVariants.{NoSuchProcess}

abbrev pub world_with : Algorithm → ℕ → ℕ → Option (List (List ℕ)) → List (List ℕ) → List AlgorithmProcess → AlgorithmWorldState
world_with a procs limit first words processes = record { algorithm = a; procs = procs; limit = limit; first_rows = first; words = words; processes = processes }

pub first_with : (s : InitializedAlgorithm) (procs limit : ℕ) (first : Option (List (List ℕ))) (words : List (List ℕ)) (processes : List AlgorithmProcess)
    → first ≡ first_rows s.algorithm procs limit s.first_values → words ≡ rows_at_beginning first (length s.algorithm.declarations.items) → processes ≡ replicate procs resting
    → world_with s.algorithm procs limit first words processes ≡ first_world s procs limit
first_with s procs limit first words processes f w p =
    ap (λ ws. world_with s.algorithm procs limit first ws processes) w
    ∙ ap (λ ps. world_with s.algorithm procs limit first (rows_at_beginning first (length s.algorithm.declarations.items)) ps) p
    ∙ ap (λ o. world_with s.algorithm procs limit o (rows_at_beginning o (length s.algorithm.declarations.items)) (replicate procs resting)) f

-- a store leaves as many rows as there are
stored_in_many : (words : List (List ℕ)) (address : Address) (v : ℕ) (o : Option (List ℕ)) → length (stored_in words address v o) ≡ length words
stored_in_many words address v None = refl
stored_in_many words address v (Some r) = length-set words address.declaration (slice_set r address.index v)

many_if : (words : List (List ℕ)) (address : Address) (v : ℕ) (b : Bool) → length (if b then stored_in words address v (slice_get words address.declaration) else words) ≡ length words
many_if words address v true = stored_in_many words address v (slice_get words address.declaration)
many_if words address v false = refl

pub stored_many : (words : List (List ℕ)) (address : Address) (stores : Option ℕ) → length (words_after_access words address stores) ≡ length words
stored_many words address None = refl
stored_many words address (Some v) = many_if words address v (nat_lt address.index 64)

-- a process that is set to what it is
pub set_as_it_is : (ps : List AlgorithmProcess) (p : ℕ) (x : AlgorithmProcess) → ok_or (slice_get ps p) NoSuchProcess ≡ Ok x → slice_set ps p x ≡ ps
set_as_it_is [] p x e = refl
set_as_it_is (y ∷ ps) zero x e = let same : y ≡ x = cc in ap (λ z. z ∷ ps) (sym same)
set_as_it_is (y ∷ ps) (suc p) x e = ap (λ zs. y ∷ zs) (set_as_it_is ps p x e)

-- a step that is taken, with the world after it
abbrev and_world : AlgorithmWorldState → ℕ → Taken → Result (Taken × AlgorithmWorldState) AlgorithmRefusal
and_world w p t = Ok (t, after_step w p t)

-- a blocked step leaves the processes as they are
pub blocked_step : (w now : AlgorithmWorldState) (p at : ℕ) (process : AlgorithmProcess) (a : Advanced) (s : LocalState) → process_of w p ≡ Ok process → process.place ≡ At at
    → taken_by w.algorithm (constants_of w p) w.words (process_stopped_at (before_step at process) None) ≡ Ok (step_from (before_step at process) a s) → a.blocked ≡ true
    → now ≡ record w { words = words_after_access w.words a.access.address a.access.stores } → advance w p ≡ Ok (a, now)
blocked_step w now p at process a s there place step blocked after =
    let before : AlgorithmProcess = process_stopped_at (before_step at process) None in
    let same : process_of w p ≡ Ok before = there ∙ ap (λ x. Ok (record { place = x; store = process.store })) place in
    let words : List (List ℕ) = words_after_access w.words a.access.address a.access.stores in
    ap (λ r. ((r >>= taken_by w.algorithm (constants_of w p) w.words) >>= and_world w p) >>= advance_in_world) same
    ∙ ap (λ r. (r >>= and_world w p) >>= advance_in_world) step
    ∙ ap (λ b. Ok (a, record w { words = words; processes = slice_set w.processes p (if b then before else process_stopped_at s a.answer) })) blocked
    ∙ ap (λ ps. Ok (a, record w { words = words; processes = ps })) (set_as_it_is w.processes p before same)
    ∙ ap (λ v. Ok (a, v)) (sym after)

set_suc : {A : Type 0} (n : ℕ) (y : A) (ys : List A) → n < length ys → slice_set (replicate n y ++ drop n ys) n y ≡ replicate (suc n) y ++ drop (suc n) ys
set_suc n y [] h = absurd (omega (arith, h))
set_suc zero y (x ∷ xs) h = refl
set_suc (suc n) y (x ∷ xs) h = ap (λ zs. y ∷ zs) (set_suc n y xs (omega (arith, h)))

-- one more place is set to the value that those before it have
pub set_next : {A : Type 0} (n : ℕ) (y : A) (ys : List A) → n < length ys → slice_set (replicate n y ++ drop n ys) n y ≡ replicate (n + 1) y ++ drop (n + 1) ys
set_next n y ys h = rw (add-one n) (set_suc n y ys h)
