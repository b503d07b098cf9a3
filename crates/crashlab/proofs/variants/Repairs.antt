-- Processes whose repair is changed: one counts up from the count that it reads, one leaves out the last number.
use Rattle.std.proofs.Common.{◌≡◌, ℕ, Bool, true, false, ◌&&◌, ◌==◌, if◌then◌else◌, Option, Some, None, IfSome, refl, sym, ap, ◌∙◌, subst, eqb-true}
use Rattle.crashlab.proofs.Common.{cond_both, Access, Load, Store, Gets, Puts, Data as DataAt, kind_of, word_of, carried_value, Inside, eqb_self, Reply, IsLayout, script_left, Pending, job_after_word, Script, Get as Asks}
use Rattle.crashlab.proofs.Common.{Put as Writes, Done, tail, Answer, ScriptState as Chore, Does, Outcome, Mending, by_script, answer_by, done_by, script_state_of, HasStep, Doing}
use Rattle.crashlab.proofs.Common.{only_process_state, process_after_script, outer_by, MachineState, access_by, process_state_of, next_access, outcome, job_left, Change, Nothing, LeavesOut, Counts, Counted, Straight, Variant, CountUp}
use Rattle.crashlab.proofs.Common.{raised_count, counting_up, beside, variant_moved, variant_outer_by, variant_answer_by, variant_done_by, changed_script_state, changed_access, is_put, VariantMachineState}
use Rattle.crashlab.proofs.Common.{variant_process_state_of, silent_outcome, variant_stepped, changed_script, unless_answered, plain_outcome}
use Rattle.redomail.specs.declared.reply.Reply.TheVariants.{Ruined}
use Rattle.redomail.specs.Jobs.{FitsStage}
use Rattle.redomail.proofs.Feeding.{left_after}
use Rattle.rmeworld.specs.ScriptStates.{HoldsJob}
use Rattle.rmeworld.specs.ProcessState.{ScriptState}
use Rattle.rmeworld.specs.MachineState.{machine_after_step}
use Rattle.rmeworld.proofs.Ordered.{FitsChore}
use Rattle.crashlab.proofs.variants.Configurations.{step_stays}
use Rattle.crashlab.proofs.variants.Steady.{Steady, step_steady, changed_process_state}
use Rattle.crashlab.proofs.variants.Rows.{IsRow, process_of, Follows, plain_goes}

-- with no change left it goes by the lock's rows

pub nothing_stays : (o : Option Answer) → unless_answered o Nothing ≡ Nothing
nothing_stays None = refl
nothing_stays (Some a) = refl

abbrev pub Unchanged : Variant → MachineState → ℕ → Change → Type 0
Unchanged variant s v change = IfSome (next_access s) (IsRow variant s (variant_process_state_of (process_of variant s Straight Nothing)) (variant_process_state_of (process_of variant (machine_after_step s v) Straight change)) (plain_outcome s v) v)

pub count_plain : (s : MachineState) (v : ℕ) → Steady s → Follows (process_of CountUp s Straight Nothing) v
count_plain s v h = subst (Unchanged CountUp s v) (sym (nothing_stays (plain_outcome s v).answer)) (plain_goes CountUp s v h tt (λ a. (refl, refl, refl))).row

-- A process that mends: its script, and the job that the next step leaves.

abbrev pub IsMending : Chore → Type 0
IsMending (Does Mending job) = Unit {0}
IsMending _ = ⊥

pub record Mends (s : MachineState) (v : ℕ) : Type 0 where
  pub script : Script Reply
  pub at : script_state_of s.script_state ≡ Doing Mending script
  pub step : HasStep script
  pub inside : s.lock ≡ Inside
  pub job : Pending
  pub reports : script_left job ≡ tail script v
  pub is : machine_after_step s v ≡ job_left s Mending job (tail script v)

pub mends_of : (s : MachineState) (v : ℕ) → Steady s → IsMending s.script_state → Mends s v
mends_of s v h k = by s.script_state h.ordered.held h.ordered.fits k
  where
    by : (e : Chore) → HoldsJob e s.lock → FitsChore s.layout e → IsMending e → Mends (record s { script_state = e }) v
    by (Does Mending job) held fits k =
        let fed_is : script_left (job_after_word job v) ≡ tail (script_left job) v = left_after job.layout (subst IsLayout (sym fits.0) h.layout) job.sender job.stage v (subst (λ l. FitsStage l job.stage) (sym fits.0) fits.1) in
        record {
          script = script_left job;
          at = refl;
          step = held.1;
          inside = held.0;
          job = job_after_word job v;
          reports = fed_is;
          is = ap (job_left (record s { script_state = Does Mending job }) Mending (job_after_word job v)) fed_is;
        }
    by _ held fits k = absurd k

-- where a step of it leads, by what is left of its script

stands : (b c : Bool) (e : Script Reply) → HasStep e → process_after_script b c Mending e ≡ record { lock = Inside; mended = b; barred = c; script_state = Doing Mending e }
stands b c (Asks i rest) h = refl
stands b c (Writes i v rest) h = refl
stands b c (Done reply) h = absurd h

settles : (change : Change) (s : MachineState) (job : Pending) (e : Script Reply) → s.lock ≡ Inside → script_left job ≡ e → ((r : Reply) → changed_script change s.layout s.index (Done r) ≡ Done r)
    → (HasStep e → HasStep (changed_script change s.layout s.index e))
    → process_after_script s.mended s.barred Mending (changed_script change s.layout s.index e) ≡ changed_process_state (unless_answered (by_script Mending s.mended e) change) s.layout s.index (process_state_of (job_left s Mending job e))
settles change s job (Done r) inside reports done step =
    ap (process_after_script s.mended s.barred Mending) (done r)
settles change s job (Asks i rest) inside reports done step =
    stands s.mended s.barred (changed_script change s.layout s.index (Asks i rest)) (step tt)
    ∙ (λ k. record { lock = sym inside k; mended = s.mended; barred = s.barred; script_state = Doing Mending (changed_script change s.layout s.index (sym reports k)) })
settles change s job (Writes i v rest) inside reports done step =
    stands s.mended s.barred (changed_script change s.layout s.index (Writes i v rest)) (step tt)
    ∙ (λ k. record { lock = sym inside k; mended = s.mended; barred = s.barred; script_state = Doing Mending (changed_script change s.layout s.index (sym reports k)) })

pub lands : (variant : Variant) (change : Change) (s : MachineState) (v : ℕ) (job : Pending) (e : Script Reply) (o : Option Answer) → ((r : Reply) → changed_script change s.layout s.index (Done r) ≡ Done r)
    → (HasStep e → HasStep (changed_script change s.layout s.index e)) → s.lock ≡ Inside → script_left job ≡ e → machine_after_step s v ≡ job_left s Mending job e → o ≡ by_script Mending s.mended e
    → Some (record { process_state = process_after_script s.mended s.barred Mending (changed_script change s.layout s.index e); deviation = Straight }) ≡ Some (variant_process_state_of (process_of variant (machine_after_step s v) Straight (unless_answered o change)))
lands variant change s v job e o done step inside reports is answer =
    ap (λ y. Some (record { process_state = y; deviation = Straight })) (settles change s job e inside reports done step)
    ∙ (λ i. Some (record { process_state = changed_process_state (unless_answered (sym answer i) change) (same_layout i) (same_index i) (process_state_of (sym is i)); deviation = Straight }))
  where
    same_layout : s.layout ≡ (machine_after_step s v).layout
    same_layout = sym (step_stays s v).0

    same_index : s.index ≡ (machine_after_step s v).index
    same_index = sym (step_stays s v).2

-- after a step of a changed script, what is left of it is as it was
pub plain_lands : (variant : Variant) (s : MachineState) (v : ℕ) (job : Pending) (e : Script Reply) (o : Option Answer) → s.lock ≡ Inside → script_left job ≡ e → machine_after_step s v ≡ job_left s Mending job e → o ≡ by_script Mending s.mended e
    → Some (record { process_state = process_after_script s.mended s.barred Mending e; deviation = Straight }) ≡ Some (variant_process_state_of (process_of variant (machine_after_step s v) Straight (unless_answered o Nothing)))
plain_lands variant s v job e o inside reports is answer = lands variant Nothing s v job e o (λ r. refl) (λ h. h) inside reports is answer

-- the outcome of a step of a script
pub outcome_is : (s : MachineState) (e : Script Reply) (a : Access) (v : ℕ) → script_state_of s.script_state ≡ Doing Mending e → ((outcome s (Some a) v).progress.outer ≡ None) × ((outcome s (Some a) v).answer ≡ by_script Mending s.mended (tail e (carried_value a v))) × ((outcome s (Some a) v).progress.done ≡ None)
outcome_is s e a v at = (ap (λ x. outer_by s.index s.lock x (kind_of a) (carried_value a v)) at, ap (λ x. answer_by s.lock s.mended s.barred x (kind_of a) (carried_value a v)) at, ap (λ x. done_by s.lock x (kind_of a) (carried_value a v)) at)

pub allowed_put : (i x : ℕ) → ((i == i) && (x == x)) ≡ true
allowed_put i x = rw (eqb_self i, eqb_self x) refl

-- count up

count_step : (cap : ℕ) (e : Script Reply) → HasStep e → HasStep (counting_up cap e)
count_step cap (Asks i rest) h = tt
count_step cap (Writes i v rest) h = cond_both (i == 2) _ _ HasStep (λ _. tt) (λ _. tt)
count_step cap (Done r) h = absurd h

count_answer : (b : Bool) (cap : ℕ) (e : Script Reply) → by_script Mending b (counting_up cap e) ≡ by_script Mending b e
count_answer b cap (Asks i rest) = refl
count_answer b cap (Writes i v rest) = cond_both (i == 2) _ _ (λ x. by_script Mending b x ≡ None) (λ _. refl) (λ _. refl)
count_answer b cap (Done r) = refl

count_lands : (s : MachineState) (v : ℕ) (job : Pending) (e : Script Reply) (o : Option Answer) → s.lock ≡ Inside → script_left job ≡ e → machine_after_step s v ≡ job_left s Mending job e → o ≡ by_script Mending s.mended e
    → Some (record { process_state = process_after_script s.mended s.barred Mending (counting_up s.layout.cap e); deviation = Straight }) ≡ Some (variant_process_state_of (process_of CountUp (machine_after_step s v) Straight (unless_answered o Counts)))
count_lands s v job e o inside reports is answer = lands CountUp Counts s v job e o (λ r. refl) (count_step s.layout.cap e) inside reports is answer

-- with this put, or get, as the next step
abbrev CountAfter : MachineState → ℕ → Bool → Option Access → VariantMachineState
CountAfter s v put o = if put then process_of CountUp s Straight (Counted (raised_count s.layout.cap v)) else process_of CountUp (machine_after_step s v) Straight (unless_answered (outcome s o v).answer Counts)

abbrev CountOutcome : MachineState → ℕ → Bool → Option Access → Outcome
CountOutcome s v put o = if put then silent_outcome else outcome s o v

abbrev CountRow : MachineState → ℕ → Option Access → ScriptState → VariantMachineState → Outcome → Type 0
CountRow s v o e to out =
    IfSome o (λ a. (variant_moved CountUp s.layout s.limit s.index s.lock s.mended s.barred e Straight (kind_of a) (word_of a) (carried_value a v) ≡ Some (variant_process_state_of to))
    × (variant_outer_by CountUp s.index s.lock e Straight (kind_of a) (carried_value a v) ≡ out.progress.outer) × (variant_answer_by CountUp s.lock s.mended s.barred e Straight (kind_of a) (carried_value a v) ≡ out.answer)
    × (variant_done_by CountUp s.lock e Straight (kind_of a) (carried_value a v) ≡ out.progress.done))

abbrev CountGoal : MachineState → ℕ → ScriptState → Type 0
CountGoal s v x =
    CountRow s v (changed_access Counts (access_by s.limit s.index s.lock x)) (changed_script_state Counts s.layout s.index x) (CountAfter s v (is_put 2 (access_by s.limit s.index s.lock x)) (access_by s.limit s.index s.lock x))
    (CountOutcome s v (is_put 2 (access_by s.limit s.index s.lock x)) (access_by s.limit s.index s.lock x))

count_put : (s : MachineState) (v i x : ℕ) (rest : Script Reply) (job : Pending) (put : Bool) → (i == 2) ≡ put → script_state_of s.script_state ≡ Doing Mending (Writes i x rest) → s.lock ≡ Inside → script_left job ≡ rest → machine_after_step s v ≡ job_left s Mending job rest
    → CountRow s v (if put then Some (Load Gets (DataAt 2)) else Some (Store Puts (DataAt i) x)) (Doing Mending (if put then Asks 2 (λ count. Writes 2 (raised_count s.layout.cap count) rest) else Writes i x (counting_up s.layout.cap rest)))
    (CountAfter s v put (Some (Store Puts (DataAt i) x))) (CountOutcome s v put (Some (Store Puts (DataAt i) x)))
count_put s v i x rest job true e at inside reports is =
    let n : ℕ = raised_count s.layout.cap v in
    let two : i ≡ 2 = eqb-true i 2 e in
    let left_so : Doing Mending (Writes 2 n rest) ≡ changed_script_state (Counted n) s.layout s.index (script_state_of s.script_state) = ap (λ z. Doing Mending (Writes z n rest)) (sym two) ∙ ap (changed_script_state (Counted n) s.layout s.index) (sym at) in
    (λ k. Some (record { process_state = record { lock = sym inside k; mended = s.mended; barred = s.barred; script_state = left_so k }; deviation = Straight }), refl, refl, refl)
count_put s v i x rest job false e at inside reports is =
    let out = outcome_is s (Writes i x rest) (Store Puts (DataAt i) x) v at in (
      ap (λ y. beside Straight (only_process_state y (process_after_script s.mended s.barred Mending (counting_up s.layout.cap rest)))) (allowed_put i x) ∙ count_lands s v job rest (outcome s (Some (Store Puts (DataAt i) x)) v).answer inside reports is out.1,
      sym out.0,
      count_answer s.mended s.layout.cap rest ∙ sym out.1,
      sym out.2,
    )

count_by : (s : MachineState) (v : ℕ) (e : Script Reply) (job : Pending) → script_state_of s.script_state ≡ Doing Mending e → HasStep e → s.lock ≡ Inside → script_left job ≡ tail e v → machine_after_step s v ≡ job_left s Mending job (tail e v) → CountGoal s v (Doing Mending e)
count_by s v (Asks i rest) job at h inside reports is =
    let out = outcome_is s (Asks i rest) (Load Gets (DataAt i)) v at in (
      ap (λ y. beside Straight (only_process_state y (process_after_script s.mended s.barred Mending (counting_up s.layout.cap (rest v))))) (eqb_self i) ∙ count_lands s v job (rest v) (outcome s (Some (Load Gets (DataAt i))) v).answer inside reports is out.1,
      sym out.0,
      count_answer s.mended s.layout.cap (rest v) ∙ sym out.1,
      sym out.2,
    )
count_by s v (Writes i x rest) job at h inside reports is = count_put s v i x rest job (i == 2) refl at inside reports is
count_by s v (Done r) job at h inside reports is = absurd h

counts_row : (s : MachineState) (v : ℕ) → Steady s → IsMending s.script_state → Follows (process_of CountUp s Straight Counts) v
counts_row s v h k = let m = mends_of s v h k in subst (CountGoal s v) (sym m.at) (count_by s v m.script m.job m.at m.step m.inside m.reports m.is)

-- a put of count that puts the counted value
pub record FitsCounted (s : MachineState) : Type 0 where
  pub value : ℕ
  pub rest : Script Reply
  pub mending : IsMending s.script_state
  pub at : script_state_of s.script_state ≡ Doing Mending (Writes 2 value rest)

pub same_script : (e f : Script Reply) → Doing Mending e ≡ Doing Mending f → e ≡ f
same_script e f h = cc

abbrev CountedGoal : MachineState → ℕ → ℕ → ScriptState → Type 0
CountedGoal s n v x =
    CountRow s v (changed_access (Counted n) (access_by s.limit s.index s.lock x)) (changed_script_state (Counted n) s.layout s.index x) (process_of CountUp (machine_after_step s v) Straight (unless_answered (outcome s (access_by s.limit s.index s.lock x) v).answer Nothing))
    (outcome s (access_by s.limit s.index s.lock x) v)

pub counted_row : (s : MachineState) (n v : ℕ) → Steady s → FitsCounted s → Follows (process_of CountUp s Straight (Counted n)) v
counted_row s n v h fits =
    let m = mends_of s v h fits.mending in
    let e : m.script ≡ Writes 2 fits.value fits.rest = same_script _ _ (sym m.at ∙ fits.at) in
    let out = outcome_is s (Writes 2 fits.value fits.rest) (Store Puts (DataAt 2) fits.value) v fits.at in
    let reports : script_left m.job ≡ fits.rest = subst (λ f. script_left m.job ≡ tail f v) e m.reports in
    let is : machine_after_step s v ≡ job_left s Mending m.job fits.rest = subst (λ f. machine_after_step s v ≡ job_left s Mending m.job (tail f v)) e m.is in
    subst (CountedGoal s n v) (sym fits.at) (
      ap (λ y. beside Straight (only_process_state y (process_after_script s.mended s.barred Mending fits.rest))) (allowed_put 2 n) ∙ plain_lands CountUp s v m.job fits.rest (outcome s (Some (Store Puts (DataAt 2) fits.value)) v).answer m.inside reports is out.1,
      sym out.0,
      sym out.1,
      sym out.2,
    )

-- what a step leaves

abbrev pub FitsCount : Change → MachineState → Type 0
FitsCount Nothing s = Unit {0}
FitsCount Counts s = IsMending s.script_state
FitsCount (Counted n) s = FitsCounted s
FitsCount LeavesOut s = ⊥

-- where a script ends its call is answered
pub answered : (b : Bool) (r : Reply) (change : Change) → unless_answered (by_script Mending b (Done r)) change ≡ Nothing
answered b (Ruined ruined) change = refl
answered b _ change = refl

goes_on_fit : (s : MachineState) (job : Pending) (b : Bool) (e : Script Reply) → FitsCount (unless_answered (by_script Mending b e) Counts) (job_left s Mending job e)
goes_on_fit s job b (Asks i rest) = tt
goes_on_fit s job b (Writes i x rest) = tt
goes_on_fit s job b (Done r) = subst (λ change. FitsCount change (job_left s Mending job (Done r))) (sym (answered b r Counts)) tt

abbrev pub CountFits : VariantMachineState → Type 0
CountFits t = Steady t.machine_state × FitsCount t.change t.machine_state × (t.deviation ≡ Straight)

count_on : (s : MachineState) (v : ℕ) (e : Script Reply) (job : Pending) (o : Option Answer) → Steady s → machine_after_step s v ≡ job_left s Mending job e → o ≡ by_script Mending s.mended e → CountFits (process_of CountUp (machine_after_step s v) Straight (unless_answered o Counts))
count_on s v e job o h is answer =
    (step_steady s v h, subst (λ u. FitsCount (unless_answered o Counts) u) (sym is) (subst (λ a. FitsCount (unless_answered a Counts) (job_left s Mending job e)) (sym answer) (goes_on_fit s job s.mended e)), refl)

count_off : (s : MachineState) (v : ℕ) (o : Option Answer) → Steady s → CountFits (process_of CountUp (machine_after_step s v) Straight (unless_answered o Nothing))
count_off s v o h = (step_steady s v h, subst (λ change. FitsCount change (machine_after_step s v)) (sym (nothing_stays o)) tt, refl)

count_put_stays : (s : MachineState) (v i x : ℕ) (rest : Script Reply) (job : Pending) (put : Bool) → (i == 2) ≡ put → Steady s → IsMending s.script_state → script_state_of s.script_state ≡ Doing Mending (Writes i x rest) → machine_after_step s v ≡ job_left s Mending job rest
    → CountFits (CountAfter s v put (Some (Store Puts (DataAt i) x)))
count_put_stays s v i x rest job true e h k at is = (h, record { value = x; rest = rest; mending = k; at = at ∙ ap (λ z. Doing Mending (Writes z x rest)) (eqb-true i 2 e) }, refl)
count_put_stays s v i x rest job false e h k at is = count_on s v rest job _ h is (outcome_is s (Writes i x rest) (Store Puts (DataAt i) x) v at).1

abbrev CountStays : MachineState → ℕ → ScriptState → Type 0
CountStays s v x = CountFits (CountAfter s v (is_put 2 (access_by s.limit s.index s.lock x)) (access_by s.limit s.index s.lock x))

count_stays_by : (s : MachineState) (v : ℕ) (e : Script Reply) (job : Pending) → Steady s → IsMending s.script_state → script_state_of s.script_state ≡ Doing Mending e → HasStep e → machine_after_step s v ≡ job_left s Mending job (tail e v) → CountStays s v (Doing Mending e)
count_stays_by s v (Asks i rest) job h k at step is = count_on s v (rest v) job _ h is (outcome_is s (Asks i rest) (Load Gets (DataAt i)) v at).1
count_stays_by s v (Writes i x rest) job h k at step is = count_put_stays s v i x rest job (i == 2) refl h k at is
count_stays_by s v (Done r) job h k at step is = absurd step

counts_stay : (s : MachineState) (v : ℕ) → Steady s → (k : IsMending s.script_state) → CountStays s v (script_state_of s.script_state)
counts_stay s v h k = let m = mends_of s v h k in subst (CountStays s v) (sym m.at) (count_stays_by s v m.script m.job h k m.at m.step m.is)

pub count_row : (s : MachineState) (change : Change) (v : ℕ) → Steady s → FitsCount change s → Follows (process_of CountUp s Straight change) v
count_row s Nothing v h fits = count_plain s v h
count_row s Counts v h fits = counts_row s v h fits
count_row s (Counted n) v h fits = counted_row s n v h fits
count_row s LeavesOut v h fits = absurd fits

pub count_stays : (s : MachineState) (change : Change) (v : ℕ) → Steady s → FitsCount change s → CountFits (variant_stepped (process_of CountUp s Straight change) v)
count_stays s Nothing v h fits = count_off s v (plain_outcome s v).answer h
count_stays s Counts v h fits = counts_stay s v h fits
count_stays s (Counted n) v h fits = count_off s v (plain_outcome s v).answer h
count_stays s LeavesOut v h fits = absurd fits
