-- Which step a variant's process takes next, by its definition alone; and the variant that changes nothing.
use Rattle.std.proofs.Common.{◌≡◌, ℕ, ◌<◌, Bool, true, false, ◌==◌, if◌then◌else◌, Option, Some, refl, sym, ap, ◌∙◌, subst}
use Rattle.crashlab.proofs.Common.{Access, Load, Store, Gets, Puts, Data as DataAt, access, Place, next, Layout, Reply, last_at, Script, Get as Asks, Put as Writes, Done, Call, Consistent}
use Rattle.crashlab.proofs.Common.{ScriptState as Chore, Free as IsFree, Does, Mending, script_state_of, Doing, ProcessState, WorldEvent, Begins, Falls, Moves, next_process_state, begun_from, MachineState, access_by, Change}
use Rattle.crashlab.proofs.Common.{Nothing, LeavesOut, Counts, Counted, Deviation, Straight, Dropping, Over, Variant, Right, NoLook, NoTies, Renumber, ExitOnCrash, CountUp, LastSkipped, IsVariantRun, process_state_at}
use Rattle.crashlab.proofs.Common.{raised_count, counting_up, leaving_out, beside, variant_begun, variant_process_state, variant_outer, changed_script_state, changed_access, weigh_for_look, access_beside, is_put, VariantState}
use Rattle.crashlab.proofs.Common.{machine_state_at, access_at, variant_access}
use Rattle.rmeworld.specs.declared.call.Call.TheVariants.{Lock}
use Rattle.rmeworld.specs.ProcessState.{ScriptState, Free, Glances, lock_deed}
use Rattle.crashlab.specs.variants.VariantProcessStates.{variant_access_by, variant_access_at}
use Rattle.crashlab.specs.variants.VariantStands.{dropping_access}
use Rattle.crashlab.proofs.variants.Steady.{Steady, nothing_changed}
use Rattle.crashlab.proofs.variants.Rows.{MayGo, after_next}
use Rattle.crashlab.proofs.variants.Waits.{weighs, unweighed}
use Rattle.crashlab.proofs.variants.Repairs.{mends_of}
use Rattle.crashlab.proofs.variants.VariantRuns.{FitsChange, is_fit}

abbrev Chosen : Variant → Deviation → Change → MachineState → ScriptState → Type 0
Chosen variant d change s e = changed_access change (access_by s.limit s.index s.lock e) ≡ variant_access_by variant s.limit s.index s.lock (changed_script_state change s.layout s.index e) d

-- where no script is changed
unchanged : (variant : Variant) (d : Deviation) (s : MachineState) (o : Option Access) → o ≡ variant_access_by variant s.limit s.index s.lock (script_state_of s.script_state) d → o ≡ variant_access_by variant s.limit s.index s.lock (changed_script_state Nothing s.layout s.index (script_state_of s.script_state)) d
unchanged variant d s o is = is ∙ (λ i. variant_access_by variant s.limit s.index s.lock (sym (nothing_changed s.layout s.index (script_state_of s.script_state)) i) d)

-- where the variant takes what the lock would take
plainly : (variant : Variant) (d : Deviation) (s : MachineState) → variant_access variant s.limit s.index s.lock d ≡ access s.limit s.index s.lock → Chosen variant d Nothing s (script_state_of s.script_state)
plainly variant d s same = unchanged variant d s _ (by (script_state_of s.script_state))
  where
    by : (e : ScriptState) → access_by s.limit s.index s.lock e ≡ variant_access_by variant s.limit s.index s.lock e d
    by Free = sym same
    by (Doing purpose rest) = refl

looks_next : (s : MachineState) (e : ScriptState) → weigh_for_look (access_by s.limit s.index s.lock e) ≡ variant_access_by NoLook s.limit s.index s.lock e Straight
looks_next s Free = weighs s.limit s.index s.lock
looks_next s (Doing purpose x) = unweighed s.limit s.index s.lock purpose x

drops_next : (s : MachineState) (e : Chore) → dropping_access (record s { script_state = e }) e ≡ variant_access_by ExitOnCrash s.limit s.index s.lock (script_state_of e) Dropping
drops_next s IsFree = refl
drops_next s (Does purpose job) = refl

counts_next : (s : MachineState) (e : Script Reply) → Chosen CountUp Straight Counts s (Doing Mending e)
counts_next s (Asks i rest) = refl
counts_next s (Writes i v rest) = by (i == 2)
  where
    by : (put : Bool)
        → (if put then Some (Load Gets (DataAt 2)) else Some (Store Puts (DataAt i) v)) ≡ access_by s.limit s.index s.lock (Doing Mending (if put then Asks 2 (λ count. Writes 2 (raised_count s.layout.cap count) rest) else Writes i v (counting_up s.layout.cap rest)))
    by true = refl
    by false = refl
counts_next s (Done r) = refl

skips_next : (s : MachineState) (e : Script Reply) → is_put (last_at s.layout s.index) (access_by s.limit s.index s.lock (Doing Mending e)) ≡ false → Chosen LastSkipped Straight LeavesOut s (Doing Mending e)
skips_next s (Asks i rest) other = refl
skips_next s (Writes i v rest) other = ap (λ y. access_by s.limit s.index s.lock (Doing Mending (if y then rest else Writes i v (leaving_out (last_at s.layout s.index) rest)))) (sym other)
skips_next s (Done r) other = refl

chosen : (variant : Variant) (d : Deviation) (change : Change) (s : MachineState) → Steady s → MayGo variant d → FitsChange variant change s → access_beside variant d change s ≡ variant_access_by variant s.limit s.index s.lock (changed_script_state change s.layout s.index (script_state_of s.script_state)) d
chosen Right Straight Nothing s h may fits = plainly Right Straight s refl
chosen NoLook Straight Nothing s h may fits = unchanged NoLook Straight s _ (looks_next s (script_state_of s.script_state))
chosen NoTies Straight Nothing s h may fits = plainly NoTies Straight s refl
chosen Renumber Straight Nothing s h may fits = plainly Renumber Straight s refl
chosen Renumber (Over k) Nothing s h may fits = plainly Renumber (Over k) s refl
chosen ExitOnCrash Straight Nothing s h may fits = plainly ExitOnCrash Straight s refl
chosen ExitOnCrash Dropping Nothing s h may fits = unchanged ExitOnCrash Dropping s _ (drops_next s s.script_state)
chosen CountUp Straight Nothing s h may fits = plainly CountUp Straight s refl
chosen CountUp Straight Counts s h may fits = let m = mends_of s 0 h fits in subst (Chosen CountUp Straight Counts s) (sym m.at) (counts_next s m.script)
chosen CountUp Straight (Counted n) s h may fits = subst (Chosen CountUp Straight (Counted n) s) (sym fits.at) refl
chosen CountUp Straight LeavesOut s h may fits = absurd fits
chosen LastSkipped Straight Nothing s h may fits = plainly LastSkipped Straight s refl
chosen LastSkipped Straight LeavesOut s h may fits =
    let m = mends_of s 0 h fits.0 in
    let other : is_put (last_at s.layout s.index) (access_by s.limit s.index s.lock (Doing Mending m.script)) ≡ false = ap (λ x. is_put (last_at s.layout s.index) (access_by s.limit s.index s.lock x)) (sym m.at) ∙ fits.1 in
    subst (Chosen LastSkipped Straight LeavesOut s) (sym m.at) (skips_next s m.script other)
chosen LastSkipped Straight Counts s h may fits = absurd fits
chosen LastSkipped Straight (Counted n) s h may fits = absurd fits
chosen Renumber Dropping change s h may fits = absurd may
chosen ExitOnCrash (Over k) change s h may fits = absurd may
chosen variant Straight change s h may fits = absurd fits
chosen Renumber d change s h may fits = absurd fits
chosen ExitOnCrash d change s h may fits = absurd fits
chosen variant d change s h may fits = absurd may

pub a_choice : (s : VariantState) (p : ℕ) → IsVariantRun s → p < s.layout.procs → access_at s p ≡ variant_access_at s.variant s.limit p (process_state_at s p)
a_choice s p run below =
    let h = is_fit s run in
    let t = machine_state_at s.processes p in
    let configuration = h.configured.configurations p below in
    let fit = h.each p below in
    chosen t.variant t.deviation t.change t.machine_state fit.steady fit.deviation fit.change ∙ (λ i. variant_access_at (configuration.0 i) (configuration.2 i) (configuration.3 i) (process_state_at s p))

-- the lock itself

right_begins : (l : Layout) (p : ℕ) (s : Place) (b : Bool) (e : ScriptState) (c : Call) → variant_begun Right l p s b e c ≡ begun_from l p s b e c
right_begins l p s true e c = refl
right_begins l p s false (Doing purpose rest) c = refl
right_begins l p s false Free Consistent = refl
right_begins l p s false Free Lock = refl
right_begins l p s false Free _ = refl

pub right_process_states : (l : Layout) (limit : ℕ) (process_state : ProcessState) (h : WorldEvent) → variant_process_state Right l limit (record { process_state = process_state; deviation = Straight }) h ≡ beside Straight (next_process_state l limit process_state h)
right_process_states l limit process_state (Begins p c) = ap (beside Straight) (right_begins l p process_state.lock process_state.mended process_state.script_state c)
right_process_states l limit process_state (Falls p) = refl
right_process_states l limit process_state (Glances p word v) = refl
right_process_states l limit process_state (Moves p kind word v) = by process_state.script_state
  where
    by : (e : ScriptState) → variant_process_state Right l limit (record { process_state = record process_state { script_state = e }; deviation = Straight }) (Moves p kind word v) ≡ beside Straight (next_process_state l limit (record process_state { script_state = e }) (Moves p kind word v))
    by Free = after_next l p process_state.lock process_state.mended process_state.barred (next l.procs limit p process_state.lock kind word v)
    by (Doing purpose rest) = refl

pub right_deeds : (process_state : ProcessState) (h : WorldEvent) → variant_outer Right (record { process_state = process_state; deviation = Straight }) h ≡ lock_deed process_state h
right_deeds process_state (Begins p c) = refl
right_deeds process_state (Falls p) = refl
right_deeds process_state (Glances p word v) = refl
right_deeds process_state (Moves p kind word v) = by process_state.script_state
  where
    by : (e : ScriptState) → variant_outer Right (record { process_state = record process_state { script_state = e }; deviation = Straight }) (Moves p kind word v) ≡ lock_deed (record process_state { script_state = e }) (Moves p kind word v)
    by Free = refl
    by (Doing purpose rest) = refl
