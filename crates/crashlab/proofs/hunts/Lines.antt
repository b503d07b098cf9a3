-- One more line of a hunt.
use Rattle.std.proofs.Common.{◌≡◌, ℕ, zero, suc, ◌+◌, ◌≤◌, nat_lt, lt-ltb, Bool, if◌then◌else◌, true, false, List, [], ◌∷◌, ◌++◌, map, Option, Some, None, Result, Ok, Err, IfSome, is_err, MatchResult, refl, sym, ap, ◌∙◌, subst, append-nil, append_assoc, arith}
use Rattle.std.specs.List.{range_with_len}
use Rattle.crashlab.proofs.Common.{cond_both, Deed, StandsAfter, empty_state, Call, list_of, Start, Scheduled, On, Variant, EndsMove, IsDeedGiven, with_line, first_world, deeds_of_lines, IsPlayed}
use Rattle.crashlab.proofs.Common.{Right, VariantState, advance_refusal, start_refusal, variant_step_report, variant_after_step, crash_deed, variant_after_crash}
use Rattle.rmecore.specs.declared.fault.Fault.{Fault}
use Rattle.judge.specs.Legal.{judged_all}
use Rattle.judge.specs.Kept.{Kept}
use Rattle.schedule.specs.declared.lines.line.Line.{Line}
use Rattle.schedule.specs.declared.lines.line.Line.TheVariants.{Step, Crash, CrashAll}
use Rattle.crashlab.specs.hunts.Hunts.{hunt_layout, is_answered, after_steps, after_crashes, after_line, after_lines, deeds_of_steps, deeds_of_line, Unless, MaySteps, MayLine, MayLines, IsOfHunt, IsFound, IsOneMove, EndsAtRefusal}
use Rattle.crashlab.specs.declared.variants.judge_feed.MoveOutcome.{MoveOutcome}
use Rattle.crashlab.specs.declared.variants.judge_feed.MoveOutcome.TheVariants.{Caught}
use Rattle.crashlab.specs.hunts.Found.{IsCaught}
use Rattle.crashlab.specs.variants.JudgeFeeds.{IsDeedRefused}
use Rattle.rmeworld.specs.Law.{EveryExecutionIsLegal}
use Rattle.crashlab.specs.variants.VariantWorlds.{variant_after_start, crash_refusal}
use Rattle.crashlab.proofs.variants.LockWorlds.{IsLock, lock_new, lock_started, lock_crashed, lock_advanced, lock_legal}
use Rattle.redomail.specs.declared.layout.Layout.{Layout}

after_more : (s : VariantState) (lines : List Line) (line : Line) → after_lines s (lines ++ line ∷ []) ≡ after_line (after_lines s lines) line
after_more s [] line = refl
after_more s (x ∷ xs) line = after_more (after_line s x) xs line

deeds_more : (s : VariantState) (lines : List Line) (line : Line) → deeds_of_lines s (lines ++ line ∷ []) ≡ deeds_of_lines s lines ++ deeds_of_line (after_lines s lines) line
deeds_more s [] line = append-nil (deeds_of_line s line)
deeds_more s (x ∷ xs) line = ap (λ rest. deeds_of_line s x ++ rest) (deeds_more (after_line s x) xs line) ∙ sym (append_assoc (deeds_of_line s x) (deeds_of_lines (after_line s x) xs) (deeds_of_line (after_lines (after_line s x) xs) line))

may_more : (s : VariantState) (lines : List Line) (line : Line) → MayLines s lines → MayLine (after_lines s lines) line → MayLines s (lines ++ line ∷ [])
may_more s [] line may one = (one, tt)
may_more s (x ∷ xs) line may one = (may.0, may_more (after_line s x) xs line may.1 one)

-- a single step
after_one : (s : VariantState) (p : ℕ) → after_steps s p 1 ≡ variant_after_step s p
after_one s p = cond_both (is_answered s p) (variant_after_step s p) (variant_after_step s p) (λ t. t ≡ variant_after_step s p) (λ _. refl) (λ _. refl)

deeds_one : (s : VariantState) (p : ℕ) → deeds_of_steps s p 1 ≡ list_of (variant_step_report s p).deed
deeds_one s p = ap (λ rest. list_of (variant_step_report s p).deed ++ rest) (cond_both (is_answered s p) [] [] (λ ds. ds ≡ []) (λ _. refl) (λ _. refl)) ∙ append-nil (list_of (variant_step_report s p).deed)

no_more : (b : Bool) → Unless b (Unit {0})
no_more true = tt
no_more false = tt

may_one : (s : VariantState) (p : ℕ) → advance_refusal s p ≡ None → MaySteps s p 1
may_one s p e = (e, no_more (is_answered s p))

module _ (variant : Variant) (schedule : Scheduled) (world : VariantState) (judge : Kept) (played : IsPlayed variant schedule world judge) (line : Line) (may : MayLine world line) where
  sized : IsOfHunt (with_line schedule line)
  sized = record { procs = played.size.procs; limit = played.size.limit; cap = played.size.cap; width = played.size.width }

  runs : MayLines (first_world variant) (schedule.lines ++ line ∷ [])
  runs = may_more (first_world variant) schedule.lines line played.runs (subst (λ s. MayLine s line) played.reached may)

  deeds : deeds_of_lines (first_world variant) (schedule.lines ++ line ∷ []) ≡ deeds_of_lines (first_world variant) schedule.lines ++ deeds_of_line world line
  deeds = deeds_more (first_world variant) schedule.lines line ∙ ap (λ s. deeds_of_lines (first_world variant) schedule.lines ++ deeds_of_line s line) (sym played.reached)

  -- the round goes on
  pub goes_on : (next : VariantState) (ds : List Deed) (later : Kept) → next ≡ after_line world line → deeds_of_line world line ≡ ds → StandsAfter (empty_state 3 64) (deeds_of_lines (first_world variant) schedule.lines ++ ds) later → IsPlayed variant (with_line schedule line) next later
  goes_on next ds later to done stands =
      record {
        size = sized;
        runs = runs;
        reached = to ∙ ap (λ s. after_line s line) played.reached ∙ sym (after_more (first_world variant) schedule.lines line);
        stands = subst (λ list. StandsAfter (empty_state 3 64) list later) (sym (deeds ∙ ap (λ list. deeds_of_lines (first_world variant) schedule.lines ++ list) done)) stands;
      }

  -- the judge refuses its deed
  pub is_caught : (d : Deed) (fault : Fault) → deeds_of_line world line ≡ d ∷ [] → judged_all (empty_state 3 64) (deeds_of_lines (first_world variant) schedule.lines ++ d ∷ []) ≡ Err fault → IsFound variant (with_line schedule line)
  is_caught d fault done refused =
      record {
        size = sized;
        runs = runs;
        before = deeds_of_lines (first_world variant) schedule.lines;
        last = d;
        fault = fault;
        deeds = deeds ∙ ap (λ list. deeds_of_lines (first_world variant) schedule.lines ++ list) done;
        legal = (played.stands.state, played.stands.legal);
        refused = refused;
      }

  -- its deed is the last line's
  pub is_last : IsOneMove line → EndsAtRefusal variant (with_line schedule line)
  is_last one = record { front = schedule.lines; last = line; lines = refl; one = one; legal = (played.stands.state, played.stands.legal) }

-- the lock's world after lines that it does not refuse

steps_lock : (l : Layout) (s : VariantState) (h : List Deed) (p k : ℕ) → IsLock l s h → MaySteps s p k → IsLock l (after_steps s p k) (h ++ deeds_of_steps s p k)
steps_lock l s h p zero lock may = subst (IsLock l s) (sym (append-nil h)) lock
steps_lock l s h p (suc k) lock may =
    let one = lock_advanced l s h p lock may.0 in
    by (is_answered s p) one may.1 (steps_lock l (variant_after_step s p) (h ++ list_of (variant_step_report s p).deed) p k one)
  where
    by : (b : Bool) → IsLock l (variant_after_step s p) (h ++ list_of (variant_step_report s p).deed) → Unless b (MaySteps (variant_after_step s p) p k)
        → (MaySteps (variant_after_step s p) p k → IsLock l (after_steps (variant_after_step s p) p k) ((h ++ list_of (variant_step_report s p).deed) ++ deeds_of_steps (variant_after_step s p) p k))
        → IsLock l (if b then variant_after_step s p else after_steps (variant_after_step s p) p k) (h ++ (list_of (variant_step_report s p).deed ++ (if b then [] else deeds_of_steps (variant_after_step s p) p k)))
    by true one may on = subst (λ ds. IsLock l (variant_after_step s p) (h ++ ds)) (sym (append-nil (list_of (variant_step_report s p).deed))) one
    by false one may on = subst (IsLock l (after_steps (variant_after_step s p) p k)) (append_assoc h (list_of (variant_step_report s p).deed) (deeds_of_steps (variant_after_step s p) p k)) (on may)

pub crashes_lock : (l : Layout) (s : VariantState) (h : List Deed) (p n : ℕ) → IsLock l s h → p + n ≤ s.layout.procs → IsLock l (after_crashes s p n) (h ++ map crash_deed (range_with_len p n))
crashes_lock l s h p zero lock low = subst (IsLock l s) (sym (append-nil h)) lock
crashes_lock l s h p (suc n) lock low =
    let there : nat_lt p s.layout.procs ≡ true = lt-ltb p s.layout.procs (omega (arith, low)) in
    let may : crash_refusal s p ≡ None = rw there refl in
    let one = lock_crashed l s h p lock may in
    subst (IsLock l (after_crashes (variant_after_crash s p) (p + 1) n)) (append_assoc h (crash_deed p ∷ []) (map crash_deed (range_with_len (p + 1) n)))
    (crashes_lock l (variant_after_crash s p) (h ++ crash_deed p ∷ []) (p + 1) n one (omega (arith, low)))

line_lock : (l : Layout) (s : VariantState) (h : List Deed) (line : Line) → IsLock l s h → MayLine s line → IsLock l (after_line s line) (h ++ deeds_of_line s line)
line_lock l s h (Start p call) lock may = subst (IsLock l (variant_after_start s p call)) (sym (append-nil h)) (lock_started l s h p lock call may)
line_lock l s h (Step p k) lock may = steps_lock l s h p k lock may
line_lock l s h (Crash p) lock may = lock_crashed l s h p lock may
line_lock l s h CrashAll lock may = crashes_lock l s h 0 s.layout.procs lock (omega arith)

lines_lock : (l : Layout) (s : VariantState) (h : List Deed) (lines : List Line) → IsLock l s h → MayLines s lines → IsLock l (after_lines s lines) (h ++ deeds_of_lines s lines)
lines_lock l s h [] lock may = subst (IsLock l s) (sym (append-nil h)) lock
lines_lock l s h (line ∷ lines) lock may =
    subst (IsLock l (after_lines (after_line s line) lines)) (append_assoc h (deeds_of_line s line) (deeds_of_lines (after_line s line) lines))
    (lines_lock l (after_line s line) (h ++ deeds_of_line s line) lines (line_lock l s h line lock may.0) may.1)

-- the lock theorem: nothing is found of the lock
never_found : EveryExecutionIsLegal → (schedule : Scheduled) → IsFound Right schedule → ⊥
never_found law schedule found =
    let legal = lock_legal law hunt_layout _ _ (lines_lock hunt_layout (first_world Right) [] schedule.lines (lock_new hunt_layout 1000000 refl) found.runs) in
    let both : Ok legal.0 ≡ Err found.fault = sym legal.1 ∙ ap (judged_all (empty_state 3 64)) found.deeds ∙ found.refused in
    cc

-- a move whose deed was given to the judge
reported_ends :
    (variant : Variant) (schedule : Scheduled) (world : VariantState) (judge : Kept) → IsPlayed variant schedule world judge → (line : Line) → IsOneMove line → MayLine world line
    → (next : VariantState) → next ≡ after_line world line → (deed : Option Deed) → deeds_of_line world line ≡ list_of deed
    → (made : MoveOutcome) (written : Scheduled) (later : Kept)
    → written ≡ with_line schedule line → IsDeedGiven (deeds_of_lines (first_world variant) schedule.lines) deed later made → EndsMove variant written next later made
reported_ends variant schedule world judge played line one may next to deed done On written later is reports =
    subst (λ s. IsPlayed variant s next later) (sym is) (goes_on variant schedule world judge played line may next (list_of deed) later to done reports)
reported_ends variant schedule world judge played line one may next to deed done Caught written later is reports =
    let h = deeds_of_lines (first_world variant) schedule.lines in
    let found = is_caught variant schedule world judge played line may reports.last reports.fault (done ∙ ap list_of reports.is) reports.refused in
    subst (IsCaught variant) (sym is) (record { found = found; ends = is_last variant schedule world judge played line may one; wrong = λ law right. never_found law (with_line schedule line) (subst (λ v. IsFound v (with_line schedule line)) right found) })

pub step_ends :
    (variant : Variant) (schedule : Scheduled) (world : VariantState) (judge : Kept) → IsPlayed variant schedule world judge → (p : ℕ) → advance_refusal world p ≡ None
    → (next : VariantState) → next ≡ variant_after_step world p → (deed : Option Deed) → deed ≡ (variant_step_report world p).deed
    → (made : MoveOutcome) (written : Scheduled) (later : Kept) → written ≡ with_line schedule (Step p 1) → IsDeedGiven (deeds_of_lines (first_world variant) schedule.lines) deed later made
    → EndsMove variant written next later made
step_ends variant schedule world judge played p may next to deed is made written later writes reports =
    reported_ends variant schedule world judge played (Step p 1) refl (may_one world p may) next (to ∙ sym (after_one world p)) deed
    (deeds_one world p ∙ ap list_of (sym is)) made written later writes reports

pub crash_ends :
    (variant : Variant) (schedule : Scheduled) (world : VariantState) (judge : Kept) → IsPlayed variant schedule world judge → (p : ℕ) → crash_refusal world p ≡ None
    → (next : VariantState) → next ≡ variant_after_crash world p → (made : MoveOutcome) (written : Scheduled) (later : Kept)
    → written ≡ with_line schedule (Crash p) → IsDeedGiven (deeds_of_lines (first_world variant) schedule.lines) (Some (crash_deed p)) later made → EndsMove variant written next later made
crash_ends variant schedule world judge played p may next to made written later is reports =
    reported_ends variant schedule world judge played (Crash p) tt may next to (Some (crash_deed p)) refl made written later is reports

pub start_ends :
    (variant : Variant) (schedule : Scheduled) (world : VariantState) (judge : Kept) → IsPlayed variant schedule world judge → (p : ℕ) (call : Call) → start_refusal world p call ≡ None
    → (next : VariantState) → next ≡ variant_after_start world p call → (made : MoveOutcome) (written : Scheduled) (later : Kept)
    → written ≡ with_line schedule (Start p call) → IsDeedGiven (deeds_of_lines (first_world variant) schedule.lines) None later made → EndsMove variant written next later made
start_ends variant schedule world judge played p call may next to made written later is reports =
    reported_ends variant schedule world judge played (Start p call) tt may next to None refl made written later is
    reports

-- what a move ends with, where the world took it
pub then_ends : {P Q : MoveOutcome → Type 0} (o : Option MoveOutcome) → ((m : MoveOutcome) → P m → Q m) → IfSome o P → IfSome o Q
then_ends None go h = tt
then_ends (Some m) go h = go m h

-- a deed that the judge has refused
pub is_refused : (P : Unit → Type 0) (r : Result Unit Fault) (history : List Deed) (d : Deed) (deed : Option Deed) → deed ≡ Some d → is_err r ≡ true → MatchResult r P (λ fault. judged_all (empty_state 3 64) (history ++ d ∷ []) ≡ Err fault) → IsDeedRefused history deed
is_refused P (Ok x) history d deed is err match = absurd (cc)
is_refused P (Err fault) history d deed is err match = record { last = d; is = is; fault = fault; refused = match }
