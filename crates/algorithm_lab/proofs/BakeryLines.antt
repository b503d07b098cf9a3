-- The lines of the Bakery, and what one of them does to a process between two accesses.
use Rattle.std.proofs.Common.{◌≡◌, ℕ, zero, suc, ◌+◌, ◌-◌, Bool, true, false, if◌then◌else◌, List, [], ◌∷◌, map, length, Option, Some, None, Result, Ok, refl, sym, ap, ◌∙◌, arith}
use Rattle.std.specs.Prelude.{slice_get, ok_or}
use Rattle.algorithms.specs.Arrivals.{GoesOn, GoesBack, Arrival, RoundOutcome, Repeats, is_way_back, step_to, local_step_of, outcome_after, round_outcome, after_round, further_rounds, most_local_rounds, ◌>>=◌}
use Rattle.algorithms.specs.LocalRuns.{local_line_done}
use Rattle.algorithms.specs.Worlds.{access_at, access_line}
use Rattle.algorithm_lab.specs.Bakery.{IsBakery, form_of, bound_of, extent_of, lines}
use Rattle.algorithms.specs.declared.algorithm.Algorithm.{Algorithm}
use Rattle.algorithms.specs.declared.algorithm.Declaration.{Declaration}
use Rattle.algorithms.specs.declared.algorithm.Extent.TheVariants.{Each}
use Rattle.algorithms.specs.declared.constants.Constants.{Constants}
use Rattle.algorithms.specs.declared.expression.Expression.{Expression, Number, Limit}
use Rattle.algorithms.specs.declared.line.AccessLine.{AccessLine}
use Rattle.algorithms.specs.declared.line.LineKind.{LineKind}
use Rattle.algorithms.specs.declared.line.LineKind.TheVariants.{Access, Local, Done}
use Rattle.algorithms.specs.declared.line.AlgorithmLine.{AlgorithmLine}
use Rattle.algorithms.specs.declared.line.LocalLine.{LocalLine}
use Rattle.algorithms.specs.declared.local.LocalState.{LocalState}
use Rattle.algorithms.specs.declared.refusal.AlgorithmRefusal.{AlgorithmRefusal}
use Rattle.algorithms.specs.declared.refusal.AlgorithmRefusal.TheVariants.{OutOfRange, Malformed}
use Rattle.algorithms.proofs.LocalRounds.{one_further}

-- the line at a place has this form
pub record HasForm (all : List AlgorithmLine) (at : ℕ) (f : LineKind) : Type 0 where
  pub line : AlgorithmLine
  pub there : slice_get all at ≡ Some line
  pub form : line.form ≡ f

mapped_form : (all : List AlgorithmLine) (at : ℕ) (f : LineKind) → slice_get (map form_of all) at ≡ Some f → HasForm all at f
mapped_form [] at f e = cc
mapped_form (line ∷ all) zero f e = record { line = line; there = refl; form = cc }
mapped_form (line ∷ all) (suc at) f e = let rest = mapped_form all at f e in record { line = rest.line; there = rest.there; form = rest.form }

pub has_form : (a : Algorithm) → (b : IsBakery a) → (at : ℕ) (f : LineKind) → slice_get (lines b.lock_boxes b.recover_boxes) at ≡ Some f → HasForm a.lines.items at f
has_form a b at f e = mapped_form a.lines.items at f (ap (λ all. slice_get all at) b.lines ∙ e)

mapped_length : (all : List AlgorithmLine) → length (map form_of all) ≡ length all
mapped_length [] = refl
mapped_length (line ∷ all) = ap suc (mapped_length all)

pub sixty : (a : Algorithm) → IsBakery a → length a.lines.items ≡ 60
sixty a b = sym (mapped_length a.lines.items) ∙ ap length b.lines

mapped_bounds : (all : List Declaration) → length (map bound_of all) ≡ length all
mapped_bounds [] = refl
mapped_bounds (d ∷ all) = ap suc (mapped_bounds all)

pub three : (a : Algorithm) → IsBakery a → length a.declarations.items ≡ 3
three a b = sym (mapped_bounds a.declarations.items) ∙ ap length b.bounds

-- the declaration of a word, one for each process, has this bound
pub record HasBound (all : List Declaration) (index : ℕ) (bound : Option Expression) : Type 0 where
  pub declaration : Declaration
  pub there : slice_get all index ≡ Some declaration
  pub is : declaration.bound ≡ bound
  pub each : declaration.extent ≡ Each

mapped_bound : (all : List Declaration) (at : ℕ) (f : Option Expression) → slice_get (map bound_of all) at ≡ Some f → slice_get (map extent_of all) at ≡ Some Each → HasBound all at f
mapped_bound [] at f e g = cc
mapped_bound (d ∷ all) zero f e g = record { declaration = d; there = refl; is = cc; each = cc }
mapped_bound (d ∷ all) (suc at) f e g = let rest = mapped_bound all at f e g in record { declaration = rest.declaration; there = rest.there; is = rest.is; each = rest.each }

-- each word that has a bound is one of those of the processes
each_at : (at : ℕ) (f : Option Expression) → slice_get (Some (Number 1) ∷ Some Limit ∷ Some (Number 1) ∷ []) at ≡ Some f → slice_get (Each ∷ Each ∷ Each ∷ []) at ≡ Some Each
each_at zero f e = refl
each_at (suc zero) f e = refl
each_at (suc (suc zero)) f e = refl
each_at (suc (suc (suc at))) f e = absurd (cc)

pub has_bound : (a : Algorithm) → IsBakery a → (at : ℕ) (f : Option Expression) → slice_get (Some (Number 1) ∷ Some Limit ∷ Some (Number 1) ∷ []) at ≡ Some f → HasBound a.declarations.items at f
has_bound a b at f e =
    mapped_bound a.declarations.items at f (ap (λ all. slice_get all at) b.bounds ∙ e) (ap (λ all. slice_get all at) b.extents ∙ each_at at f e)

-- the access line at a place
pub access_there : (a : Algorithm) (at : ℕ) (line : AccessLine) → HasForm a.lines.items at (Access line) → access_at a at ≡ Ok line
access_there a at line h =
    ap (λ o. ok_or o (Malformed at) >>= (λ l. access_line at l.form)) h.there ∙ ap (λ f. access_line at f) h.form

-- where a process comes to from here by at most n lines of this round
abbrev pub comes_to : List AlgorithmLine → Constants → ℕ → LocalState → Result Arrival AlgorithmRefusal
comes_to all c n s = round_outcome all c n s >>= after_round (further_rounds all c most_local_rounds)

-- one line of a round
formed : (all : List AlgorithmLine) (c : Constants) (n : ℕ) (s : LocalState) (f : LineKind) (after : RoundOutcome → Result Arrival AlgorithmRefusal) → HasForm all s.at f
    → (round_outcome all c (suc n) s >>= after) ≡ ((local_step_of c f s >>= outcome_after (round_outcome all c n) s) >>= after)
formed all c n s f after h =
    ap (λ o. ((ok_or o (Malformed s.at) >>= (λ l. local_step_of c l.form s)) >>= outcome_after (round_outcome all c n) s) >>= after) h.there
    ∙ ap (λ g. (local_step_of c g s >>= outcome_after (round_outcome all c n) s) >>= after) h.form

leads : (all : List AlgorithmLine) (c : Constants) (n : ℕ) (s t : LocalState) (line : LocalLine) (back : Bool) (after : RoundOutcome → Result Arrival AlgorithmRefusal)
    → HasForm all s.at (Local line) → is_way_back line t.at ≡ back → local_line_done c (s.at + 1) line s ≡ Some t
    → (round_outcome all c (suc n) s >>= after) ≡ (outcome_after (round_outcome all c n) s (if back then GoesBack t else GoesOn t) >>= after)
leads all c n s t line back after h way done =
    formed all c n s (Local line) after h
    ∙ ap (λ o. ((ok_or o (OutOfRange s.at) >>= (λ next. Ok (step_to line next))) >>= outcome_after (round_outcome all c n) s) >>= after) done
    ∙ ap (λ b. outcome_after (round_outcome all c n) s (if b then GoesBack t else GoesOn t) >>= after) way

pub goes : (all : List AlgorithmLine) (c : Constants) (n : ℕ) (s t : LocalState) (line : LocalLine) → HasForm all s.at (Local line) → is_way_back line t.at ≡ false → local_line_done c (s.at + 1) line s ≡ Some t
    → comes_to all c (suc n) s ≡ comes_to all c n t
goes all c n s t line h way done = leads all c n s t line false (after_round (further_rounds all c most_local_rounds)) h way done

-- it is before an access, with this many rounds left
stops_with : (all : List AlgorithmLine) (c : Constants) (n rounds : ℕ) (s : LocalState) (line : AccessLine) → HasForm all s.at (Access line)
    → (round_outcome all c (suc n) s >>= after_round (further_rounds all c rounds)) ≡ Ok (record { answer = None; state = s })
stops_with all c n rounds s line h = formed all c n s (Access line) (after_round (further_rounds all c rounds)) h

pub stops : (all : List AlgorithmLine) (c : Constants) (n : ℕ) (s : LocalState) (line : AccessLine) → HasForm all s.at (Access line) → comes_to all c (suc n) s ≡ Ok (record { answer = None; state = s })
stops all c n s line h = stops_with all c n most_local_rounds s line h

-- the next round of a loop begins with an access
pub goes_back : (all : List AlgorithmLine) (c : Constants) (n m : ℕ) (s t : LocalState) (line : LocalLine) (access : AccessLine) → length all ≡ suc m → HasForm all s.at (Local line) → is_way_back line t.at ≡ true
    → local_line_done c (s.at + 1) line s ≡ Some t → HasForm all t.at (Access access) → comes_to all c (suc n) s ≡ Ok (record { answer = None; state = t })
goes_back all c n m s t line access size h way done there =
    leads all c n s t line true (after_round (further_rounds all c most_local_rounds)) h way done
    ∙ one_further all c most_local_rounds s.at t (omega arith)
    ∙ ap (λ (k : ℕ). round_outcome all c k t >>= after_round (further_rounds all c (most_local_rounds - 1))) size
    ∙ stops_with all c m (most_local_rounds - 1) t access there

pub ends : (all : List AlgorithmLine) (c : Constants) (n : ℕ) (s : LocalState) (answer : ℕ) → HasForm all s.at (Done answer) → comes_to all c (suc n) s ≡ Ok (record { answer = Some answer; state = s })
ends all c n s answer h = formed all c n s (Done answer) (after_round (further_rounds all c most_local_rounds)) h
