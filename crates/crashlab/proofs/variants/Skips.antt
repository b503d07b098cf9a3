-- A process whose repair leaves out its last number: where that put is next, it is skipped.
use Rattle.std.proofs.Common.{◌≡◌, ℕ, Bool, true, false, ◌==◌, if◌then◌else◌, Option, Some, None, IfSome, refl, sym, ap, ◌∙◌, subst}
use Rattle.crashlab.proofs.Common.{Access, Load, Store, Gets, Puts, Data as DataAt, kind_of, word_of, carried_value, Place, Inside, eqb_self, Reply, last_at, script_left, Pending, Script, Get as Asks}
use Rattle.crashlab.proofs.Common.{Put as Writes, Done, tail, Answer, Outcome, Mending, by_script, script_state_of, HasStep, Doing, only_process_state, process_after_script, MachineState, access_by, next_access, outcome, job_left}
use Rattle.crashlab.proofs.Common.{Change, Nothing, LeavesOut, Counts, Counted, Straight, LastSkipped, leaving_out, beside, variant_moved, variant_outer_by, variant_answer_by, variant_done_by}
use Rattle.crashlab.proofs.Common.{changed_script_state, is_put, VariantMachineState, variant_process_state_of, variant_stepped, unless_answered, plain_outcome, last_put_next}
use Rattle.rmeworld.specs.ProcessState.{ScriptState}
use Rattle.rmeworld.specs.MachineState.{machine_after_step}
use Rattle.crashlab.proofs.variants.Steady.{Steady, step_steady}
use Rattle.crashlab.proofs.variants.Rows.{process_of, Follows, plain_goes}
use Rattle.crashlab.proofs.variants.Repairs.{Unchanged, nothing_stays, IsMending, Mends, mends_of, lands, plain_lands, outcome_is, allowed_put, same_script, answered}

-- with no change left it goes by the lock's rows

skip_plain : (s : MachineState) (v : ℕ) → Steady s → Follows (process_of LastSkipped s Straight Nothing) v
skip_plain s v h = subst (Unchanged LastSkipped s v) (sym (nothing_stays (plain_outcome s v).answer)) (plain_goes LastSkipped s v h tt (λ a. (refl, refl, refl))).row

abbrev last_of : MachineState → ℕ
last_of s = last_at s.layout s.index

leave_step : (i : ℕ) (limit p : ℕ) (t : Place) (e : Script Reply) → is_put i (access_by limit p t (Doing Mending e)) ≡ false → HasStep e → HasStep (leaving_out i e)
leave_step i limit p t (Asks j rest) other h = tt
leave_step i limit p t (Writes j x rest) other h = subst (λ y. HasStep (if y then rest else Writes j x (leaving_out i rest))) (sym other) tt
leave_step i limit p t (Done r) other h = absurd h

leave_answer : (i : ℕ) (limit p : ℕ) (t : Place) (b : Bool) (e : Script Reply) → is_put i (access_by limit p t (Doing Mending e)) ≡ false → by_script Mending b (leaving_out i e) ≡ by_script Mending b e
leave_answer i limit p t b (Asks j rest) other = refl
leave_answer i limit p t b (Writes j x rest) other = ap (λ y. by_script Mending b (if y then rest else Writes j x (leaving_out i rest))) other
leave_answer i limit p t b (Done r) other = refl

-- whether the put comes next, by what is left of the script
next_is : (s : MachineState) (v : ℕ) (job : Pending) (e : Script Reply) → script_left job ≡ e → machine_after_step s v ≡ job_left s Mending job e → last_put_next (machine_after_step s v) ≡ is_put (last_of s) (access_by s.limit s.index Inside (Doing Mending e))
next_is s v job (Done r) reports is = ap last_put_next is
next_is s v job (Asks j rest) reports is = ap last_put_next is ∙ ap (λ f. is_put (last_of s) (access_by s.limit s.index Inside (Doing Mending f))) reports
next_is s v job (Writes j x rest) reports is = ap last_put_next is ∙ ap (λ f. is_put (last_of s) (access_by s.limit s.index Inside (Doing Mending f))) reports

-- where a step leads, and its outcome
abbrev SkipAfter : MachineState → ℕ → Bool → Option Answer → VariantMachineState
SkipAfter s v put o = if put then process_of LastSkipped (machine_after_step (machine_after_step s v) 0) Straight Nothing else process_of LastSkipped (machine_after_step s v) Straight (unless_answered o LeavesOut)

abbrev SkipOutcome : MachineState → ℕ → Bool → Outcome → Outcome
SkipOutcome s v put out = if put then plain_outcome (machine_after_step s v) 0 else out

abbrev Lands : MachineState → ℕ → Script Reply → Bool → Outcome → Type 0
Lands s v e put out =
    (Some (record { process_state = process_after_script s.mended s.barred Mending (leaving_out (last_of s) e); deviation = Straight }) ≡ Some (variant_process_state_of (SkipAfter s v put out.answer)))
    × (None ≡ (SkipOutcome s v put out).progress.outer) × (by_script Mending s.mended (leaving_out (last_of s) e) ≡ (SkipOutcome s v put out).answer) × (None ≡ (SkipOutcome s v put out).progress.done)

skip_past : (s : MachineState) (v : ℕ) (job : Pending) (j x : ℕ) (rest : Script Reply) (out : Outcome) → (j == last_of s) ≡ true → Steady s → s.lock ≡ Inside → script_left job ≡ Writes j x rest → machine_after_step s v ≡ job_left s Mending job (Writes j x rest) → Lands s v (Writes j x rest) true out
skip_past s v job j x rest out here h inside reports is =
    let t : MachineState = machine_after_step s v in
    let mended : t.mended ≡ s.mended = ap (λ u. u.mended) is in
    let barred : t.barred ≡ s.barred = ap (λ u. u.barred) is in
    let m : Mends t 0 = mends_of t 0 (step_steady s v h) (subst (λ u. IsMending u.script_state) (sym is) tt) in
    let at : script_state_of t.script_state ≡ Doing Mending (Writes j x rest) = ap (λ u. script_state_of u.script_state) is ∙ ap (λ f. Doing Mending f) reports in
    let same : m.script ≡ Writes j x rest = same_script _ _ (sym m.at ∙ at) in
    let reports' : script_left m.job ≡ rest = subst (λ f. script_left m.job ≡ tail f 0) same m.reports in
    let is' : machine_after_step t 0 ≡ job_left t Mending m.job rest = subst (λ f. machine_after_step t 0 ≡ job_left t Mending m.job (tail f 0)) same m.is in
    let out' = outcome_is t (Writes j x rest) (Store Puts (DataAt j) x) 0 at in
    let next : next_access t ≡ Some (Store Puts (DataAt j) x) = ap (λ e. access_by t.limit t.index t.lock e) at in
    let skipped : leaving_out (last_of s) (Writes j x rest) ≡ rest = ap (λ y. if y then rest else Writes j x (leaving_out (last_of s) rest)) here in (
      (λ i. Some (record { process_state = process_after_script (sym mended i) (sym barred i) Mending (skipped i); deviation = Straight })) ∙ plain_lands LastSkipped t 0 m.job rest (by_script Mending t.mended rest) m.inside reports' is' refl
          ∙ ap (λ change. Some (variant_process_state_of (process_of LastSkipped (machine_after_step t 0) Straight change))) (nothing_stays (by_script Mending t.mended rest)),
      sym (ap (λ o. (outcome t o 0).progress.outer) next ∙ out'.0),
      ap (by_script Mending s.mended) skipped ∙ ap (λ b. by_script Mending b rest) (sym mended) ∙ sym (ap (λ o. (outcome t o 0).answer) next ∙ out'.1),
      sym (ap (λ o. (outcome t o 0).progress.done) next ∙ out'.2),
    )

lands_on : (s : MachineState) (v : ℕ) (job : Pending) (e : Script Reply) (out : Outcome) → is_put (last_of s) (access_by s.limit s.index Inside (Doing Mending e)) ≡ false → s.lock ≡ Inside → script_left job ≡ e → machine_after_step s v ≡ job_left s Mending job e → out.progress.outer ≡ None → out.answer ≡ by_script Mending s.mended e → out.progress.done ≡ None → Lands s v e false out
lands_on s v job e out other inside reports is outer answer done = (
  lands LastSkipped LeavesOut s v job e out.answer (λ r. refl) (leave_step (last_of s) s.limit s.index Inside e other) inside reports is answer,
  sym outer,
  leave_answer (last_of s) s.limit s.index Inside s.mended e other ∙ sym answer,
  sym done,
)

lands_put : (s : MachineState) (v : ℕ) (job : Pending) (j x : ℕ) (rest : Script Reply) (out : Outcome) (put : Bool) → (j == last_of s) ≡ put → Steady s → s.lock ≡ Inside → script_left job ≡ Writes j x rest → machine_after_step s v ≡ job_left s Mending job (Writes j x rest) → out.progress.outer ≡ None → out.answer ≡ by_script Mending s.mended (Writes j x rest)
    → out.progress.done ≡ None → Lands s v (Writes j x rest) put out
lands_put s v job j x rest out true here h inside reports is outer answer done = skip_past s v job j x rest out here h inside reports is
lands_put s v job j x rest out false here h inside reports is outer answer done = lands_on s v job (Writes j x rest) out here inside reports is outer answer done

lands_by : (s : MachineState) (v : ℕ) (job : Pending) (e : Script Reply) (out : Outcome) → Steady s → s.lock ≡ Inside → script_left job ≡ e → machine_after_step s v ≡ job_left s Mending job e → out.progress.outer ≡ None → out.answer ≡ by_script Mending s.mended e → out.progress.done ≡ None → Lands s v e (last_put_next (machine_after_step s v)) out
lands_by s v job e out h inside reports is outer answer done = subst (λ y. Lands s v e y out) (sym (next_is s v job e reports is)) (by e reports is answer)
  where
    by : (e : Script Reply) → script_left job ≡ e → machine_after_step s v ≡ job_left s Mending job e → out.answer ≡ by_script Mending s.mended e → Lands s v e (is_put (last_of s) (access_by s.limit s.index Inside (Doing Mending e))) out
    by (Asks i rest) reports is answer = lands_on s v job (Asks i rest) out refl inside reports is outer answer done
    by (Writes j x rest) reports is answer = lands_put s v job j x rest out (j == last_of s) refl h inside reports is outer answer done
    by (Done r) reports is answer = lands_on s v job (Done r) out refl inside reports is outer answer done

abbrev SkipRow : MachineState → ℕ → Option Access → ScriptState → Outcome → Type 0
SkipRow s v o e out =
    IfSome o (λ a. (variant_moved LastSkipped s.layout s.limit s.index s.lock s.mended s.barred e Straight (kind_of a) (word_of a) (carried_value a v) ≡ Some (variant_process_state_of (SkipAfter s v (last_put_next (machine_after_step s v)) out.answer)))
    × (variant_outer_by LastSkipped s.index s.lock e Straight (kind_of a) (carried_value a v) ≡ (SkipOutcome s v (last_put_next (machine_after_step s v)) out).progress.outer)
    × (variant_answer_by LastSkipped s.lock s.mended s.barred e Straight (kind_of a) (carried_value a v) ≡ (SkipOutcome s v (last_put_next (machine_after_step s v)) out).answer)
    × (variant_done_by LastSkipped s.lock e Straight (kind_of a) (carried_value a v) ≡ (SkipOutcome s v (last_put_next (machine_after_step s v)) out).progress.done))

abbrev SkipGoal : MachineState → ℕ → ScriptState → Type 0
SkipGoal s v x = SkipRow s v (access_by s.limit s.index s.lock x) (changed_script_state LeavesOut s.layout s.index x) (outcome s (access_by s.limit s.index s.lock x) v)

skip_by : (s : MachineState) (v : ℕ) (e : Script Reply) (job : Pending) → is_put (last_of s) (access_by s.limit s.index s.lock (Doing Mending e)) ≡ false → Steady s → script_state_of s.script_state ≡ Doing Mending e → HasStep e → s.lock ≡ Inside → script_left job ≡ tail e v
    → machine_after_step s v ≡ job_left s Mending job (tail e v) → SkipGoal s v (Doing Mending e)
skip_by s v (Asks i rest) job other h at step inside reports is =
    let o = outcome_is s (Asks i rest) (Load Gets (DataAt i)) v at in
    let l = lands_by s v job (rest v) (outcome s (Some (Load Gets (DataAt i))) v) h inside reports is o.0 o.1 o.2 in
    (ap (λ y. beside Straight (only_process_state y (process_after_script s.mended s.barred Mending (leaving_out (last_of s) (rest v))))) (eqb_self i) ∙ l.0, l.1, l.2, l.3)
skip_by s v (Writes i x rest) job other h at step inside reports is =
    let o = outcome_is s (Writes i x rest) (Store Puts (DataAt i) x) v at in
    let l = lands_by s v job rest (outcome s (Some (Store Puts (DataAt i) x)) v) h inside reports is o.0 o.1 o.2 in
    subst (λ y. SkipRow s v (Some (Store Puts (DataAt i) x)) (Doing Mending (if y then rest else Writes i x (leaving_out (last_of s) rest))) (outcome s (Some (Store Puts (DataAt i) x)) v)) (sym other)
    (ap (λ y. beside Straight (only_process_state y (process_after_script s.mended s.barred Mending (leaving_out (last_of s) rest)))) (allowed_put i x) ∙ l.0, l.1, l.2, l.3)
skip_by s v (Done r) job other h at step inside reports is = absurd step

skips_row : (s : MachineState) (v : ℕ) → Steady s → IsMending s.script_state → last_put_next s ≡ false → Follows (process_of LastSkipped s Straight LeavesOut) v
skips_row s v h k other =
    let m = mends_of s v h k in
    let other' : is_put (last_of s) (access_by s.limit s.index s.lock (Doing Mending m.script)) ≡ false = ap (λ x. is_put (last_of s) (access_by s.limit s.index s.lock x)) (sym m.at) ∙ other in
    subst (SkipGoal s v) (sym m.at) (skip_by s v m.script m.job other' h m.at m.step m.inside m.reports m.is)

-- what a step leaves

abbrev pub FitsLeave : Change → MachineState → Type 0
FitsLeave Nothing s = Unit {0}
FitsLeave LeavesOut s = IsMending s.script_state × (last_put_next s ≡ false)
FitsLeave _ s = ⊥

abbrev pub SkipFits : VariantMachineState → Type 0
SkipFits t = Steady t.machine_state × FitsLeave t.change t.machine_state × (t.deviation ≡ Straight)

leave_fit : (s t : MachineState) (job : Pending) (b : Bool) (e : Script Reply) → t ≡ job_left s Mending job e → last_put_next t ≡ false → FitsLeave (unless_answered (by_script Mending b e) LeavesOut) t
leave_fit s t job b (Asks i rest) is other = (subst (λ u. IsMending u.script_state) (sym is) tt, other)
leave_fit s t job b (Writes i x rest) is other = (subst (λ u. IsMending u.script_state) (sym is) tt, other)
leave_fit s t job b (Done r) is other = subst (λ change. FitsLeave change t) (sym (answered b r LeavesOut)) tt

skip_fits : (s : MachineState) (v : ℕ) (put : Bool) → last_put_next (machine_after_step s v) ≡ put → Steady s → IsMending s.script_state → SkipFits (SkipAfter s v put (plain_outcome s v).answer)
skip_fits s v true e h k = (step_steady (machine_after_step s v) 0 (step_steady s v h), tt, refl)
skip_fits s v false e h k =
    let m = mends_of s v h k in
    let answer : (plain_outcome s v).answer ≡ by_script Mending s.mended (tail m.script v) = subst (λ x. (outcome s (access_by s.limit s.index s.lock x) v).answer ≡ by_script Mending s.mended (tail m.script v)) (sym m.at) (by m.script m.at m.step) in
    (step_steady s v h, subst (λ a. FitsLeave (unless_answered a LeavesOut) (machine_after_step s v)) (sym answer) (leave_fit s (machine_after_step s v) m.job s.mended (tail m.script v) m.is e), refl)
  where
    by : (f : Script Reply) → script_state_of s.script_state ≡ Doing Mending f → HasStep f → (outcome s (access_by s.limit s.index s.lock (Doing Mending f)) v).answer ≡ by_script Mending s.mended (tail f v)
    by (Asks i rest) at step = (outcome_is s (Asks i rest) (Load Gets (DataAt i)) v at).1
    by (Writes i x rest) at step = (outcome_is s (Writes i x rest) (Store Puts (DataAt i) x) v at).1
    by (Done r) at step = absurd step

pub skip_row : (s : MachineState) (change : Change) (v : ℕ) → Steady s → FitsLeave change s → Follows (process_of LastSkipped s Straight change) v
skip_row s Nothing v h fits = skip_plain s v h
skip_row s LeavesOut v h fits = skips_row s v h fits.0 fits.1
skip_row s Counts v h fits = absurd fits
skip_row s (Counted n) v h fits = absurd fits

pub skip_stays : (s : MachineState) (change : Change) (v : ℕ) → Steady s → FitsLeave change s → SkipFits (variant_stepped (process_of LastSkipped s Straight change) v)
skip_stays s Nothing v h fits = (step_steady s v h, subst (λ c. FitsLeave c (machine_after_step s v)) (sym (nothing_stays (plain_outcome s v).answer)) tt, refl)
skip_stays s LeavesOut v h fits = skip_fits s v (last_put_next (machine_after_step s v)) refl h fits.0
skip_stays s Counts v h fits = absurd fits
skip_stays s (Counted n) v h fits = absurd fits
