-- A world of a variant stays seated.
use Rattle.std.proofs.Common.{◌≡◌, ◌≢◌, ℕ, ◌<◌, ◌⊎◌, List, length, slice_index_or, slice_set, Option, Some, None, IfSome, Result, Ok, Err, OnOk, OnErr, refl, sym, ap, ◌∙◌, subst, inl, inr, length-set}
use Rattle.std.proofs.Common.{get_or-set_same, get_or-set_other}
use Rattle.crashlab.proofs.Common.{cond_both, Access, Kind, Shut as Shuts, Own, Refusal, Word, kind_of, word_of, Place, Layout, Call, ScriptState as Chore, Free as IsFree, MachineState, next_access, machine_after_start, InWords}
use Rattle.crashlab.proofs.Common.{Change, LeavesOut, Counts, Deviation, Straight, Dropping, Over, Variant, Right, CountUp, LastSkipped, is_put, VariantMachineState, over_by, over_way, variant_stepped}
use Rattle.crashlab.proofs.Common.{stepped_beside, variant_started, by_row, last_put_next, VariantState, machine_state_at, IsVariantConfigured, HasVariantConfiguration}
use Rattle.std.proofs.lemmas.Bool.{cases_eq}
use Rattle.std.proofs.lemmas.List.{get_or_default}
use Rattle.rmeworld.specs.MachineState.{machine_after_step}
use Rattle.rmeworld.specs.WorldState.{HasConfiguration as HasWorldConfiguration}
use Rattle.rmeworld.proofs.WorldSteps.{keeps_stepped, keeps_started}
use Rattle.crashlab.specs.variants.VariantStands.{changed_row, process_led_to, part_beside, counted_up, left_out}

-- the process at p, where p is one of n
pub machine_state_here : (processes : List VariantMachineState) (p n : ℕ) (s : VariantMachineState) → s ≡ slice_index_or processes p s → p < n → length processes ≡ n → machine_state_at processes p ≡ s
machine_state_here processes p n s is below each = get_or_default processes p _ s (rw each below) ∙ sym is

-- what holds of each process at its place, once one has moved
pub set_each : (P : ℕ → VariantMachineState → Type 0) (s : VariantState) (p : ℕ) (t : VariantMachineState) → length s.processes ≡ s.layout.procs → P p t → p < s.layout.procs → ((q : ℕ) → q < s.layout.procs → P q (machine_state_at s.processes q)) → (q : ℕ) → q < s.layout.procs → P q (machine_state_at (slice_set s.processes p t) q)
set_each P s p t each h below all q less = go (cases_eq q p)
  where
    go : (q ≡ p) ⊎ (q ≢ p) → P q (machine_state_at (slice_set s.processes p t) q)
    go (inl e) = subst (λ r. P r (machine_state_at (slice_set s.processes p t) r)) (sym e) (subst (P p) (sym (get_or-set_same s.processes p t _ (rw each below))) h)
    go (inr ne) = subst (P q) (sym (get_or-set_other s.processes p q t _ ne)) (all q less)

pub configured : (s : VariantState) (words : List Own) (cells : List ℕ) (p : ℕ) (t : VariantMachineState) → IsVariantConfigured s → length words ≡ length s.words → length cells ≡ length s.cells → p < s.layout.procs → HasVariantConfiguration s.variant s.layout s.limit p t → IsVariantConfigured (record s { words = words; cells = cells; processes = slice_set s.processes p t })
configured s words cells p t h words_stay cells_stay below configuration =
    record {
      sized = h.sized;
      words_each = words_stay ∙ h.words_each;
      cells_each = cells_stay ∙ h.cells_each;
      processes_each = length-set s.processes p t ∙ h.processes_each;
      configurations = set_each (HasVariantConfiguration s.variant s.layout s.limit) s p t h.processes_each configuration below h.configurations;
    }

-- a process keeps its seat

abbrev pub Stays : VariantMachineState → VariantMachineState → Type 0
Stays s t = HasVariantConfiguration s.variant s.machine_state.layout s.machine_state.limit s.machine_state.index t

pub step_stays : (s : MachineState) (v : ℕ) → HasWorldConfiguration s.layout s.limit s.index (machine_after_step s v)
step_stays s v = keeps_stepped s s.script_state v

pub start_stays : (s : MachineState) (c : Call) → HasWorldConfiguration s.layout s.limit s.index (machine_after_start s c)
start_stays s c = keeps_started s s.mended c refl

machine_state_stays : (s : VariantMachineState) (v : ℕ) → Stays s (record s { machine_state = machine_after_step s.machine_state v })
machine_state_stays s v = let configuration = step_stays s.machine_state v in (refl, configuration.0, configuration.1, configuration.2)

led_stays : (s : VariantMachineState) (t : Place) (d : Deviation) → Stays s (process_led_to s t d)
led_stays s t Straight = (refl, refl, refl, refl)
led_stays s t _ = (refl, refl, refl, refl)

row_stays : (s : VariantMachineState) (v : ℕ) (o : Option (Place × Deviation)) → Stays s (by_row s o v)
row_stays s v None = machine_state_stays s v
row_stays s v (Some to) = led_stays s to.0 to.1

over_stays : (s : VariantMachineState) (k v : ℕ) (o : Option Access) → Stays s (over_way s k o v)
over_stays s k v None = (refl, refl, refl, refl)
over_stays s k v (Some a) = by (kind_of a)
  where
    by : (kind : Kind) → Stays s (over_by s k kind v)
    by Shuts = (refl, refl, refl, refl)
    by _ = machine_state_stays s v

part_stays : (e : Chore) (d : Deviation) (s : VariantMachineState) (v : ℕ) → Stays s (part_beside e d s v)
part_stays IsFree Straight s v = row_stays s v (changed_row s.variant s.machine_state v)
part_stays IsFree (Over k) s v = over_stays s k v (next_access s.machine_state)
part_stays IsFree Dropping s v = (refl, refl, refl, refl)
part_stays _ d s v = machine_state_stays s v

count_stays : (s : VariantMachineState) (change : Change) (v : ℕ) → Stays s (counted_up s change v)
count_stays s Counts v = cond_both (is_put 2 (next_access s.machine_state)) _ _ (Stays s) (λ _. (refl, refl, refl, refl)) (λ _. machine_state_stays s v)
count_stays s _ v = machine_state_stays s v

leave_stays : (s : VariantMachineState) (change : Change) (v : ℕ) → Stays s (left_out s change v)
leave_stays s LeavesOut v =
    let one = step_stays s.machine_state v in
    let two = step_stays (machine_after_step s.machine_state v) 0 in
    cond_both (last_put_next (machine_after_step s.machine_state v)) _ _ (Stays s) (λ _. (refl, two.0 ∙ one.0, two.1 ∙ one.1, two.2 ∙ one.2)) (λ _. machine_state_stays s v)
leave_stays s _ v = machine_state_stays s v

beside_stays : (variant : Variant) (d : Deviation) (s : VariantMachineState) (v : ℕ) → Stays s (stepped_beside variant d s v)
beside_stays Right d s v = machine_state_stays s v
beside_stays CountUp d s v = count_stays s s.change v
beside_stays LastSkipped d s v = leave_stays s s.change v
beside_stays _ d s v = part_stays s.machine_state.script_state d s v

pub variant_step_stays : (s : VariantMachineState) (v : ℕ) → Stays s (variant_stepped s v)
variant_step_stays s v = beside_stays s.variant s.deviation s v

pub variant_start_stays : (s : VariantMachineState) (c : Call) → Stays s (variant_started s c)
variant_start_stays s c = let configuration = start_stays s.machine_state c in (refl, configuration.0, configuration.1, configuration.2)

pub configuration_stays : {variant : Variant} {l : Layout} {limit p : ℕ} (s t : VariantMachineState) → Stays s t → HasVariantConfiguration variant l limit p s → HasVariantConfiguration variant l limit p t
configuration_stays s t a h = (a.0 ∙ h.0, a.1 ∙ h.1, a.2 ∙ h.2, a.3 ∙ h.3)

-- the seat of the process that an index gives
pub configuration_here : (s : VariantState) (p : ℕ) (t : VariantMachineState) → IsVariantConfigured s → t ≡ slice_index_or s.processes p t → p < s.layout.procs → HasVariantConfiguration s.variant s.layout s.limit p t
configuration_here s p t h is below = subst (HasVariantConfiguration s.variant s.layout s.limit p) (machine_state_here s.processes p s.layout.procs t is below h.processes_each) (h.configurations p below)

-- a step of p leaves a world seated
pub configured_stepped :
    (s : VariantState) (words : List Own) (cells : List ℕ) (p : ℕ) (t u : VariantMachineState) (v : ℕ) → IsVariantConfigured s → t ≡ slice_index_or s.processes p t → p < s.layout.procs → u ≡ variant_stepped t v
    → length words ≡ length s.words → length cells ≡ length s.cells → IsVariantConfigured (record s { words = words; cells = cells; processes = slice_set s.processes p u })
configured_stepped s words cells p t u v h at below is words_stay cells_stay =
    configured s words cells p u h words_stay cells_stay below (configuration_stays t u (subst (Stays t) (sym is) (variant_step_stays t v)) (configuration_here s p t h at below))

-- a start that is refused changes nothing
pub start_keeps :
    {variant : Variant} {l : Layout} {limit p : ℕ} (r : Result Unit Refusal) (s t : VariantMachineState) (c : Call) → OnOk r (t ≡ variant_started s c) → OnErr r (t ≡ s)
    → HasVariantConfiguration variant l limit p s → HasVariantConfiguration variant l limit p t
start_keeps (Ok done) s t c ok err configuration = configuration_stays s t (subst (Stays s) (sym ok) (variant_start_stays s c)) configuration
start_keeps (Err e) s t c ok err configuration = subst (HasVariantConfiguration _ _ _ _) (sym err) configuration

-- the word of a step, where there are as many words as processes
pub configuration_within : {variant : Variant} {l : Layout} {limit p n : ℕ} {word : Word} (t : VariantMachineState) (a : Access) → HasVariantConfiguration variant l limit p t → InWords t.machine_state.layout.procs (word_of a) → word ≡ word_of a → n ≡ l.procs → InWords n word
configuration_within {n = n} t a configuration within is each = subst (InWords n) (sym is) (subst (λ m. InWords m (word_of a)) (ap (λ (x : Layout). x.procs) configuration.1 ∙ sym each) within)

-- of the step that comes next
pub in_words :
    (s : VariantState) (p : ℕ) (t : VariantMachineState) → IsVariantConfigured s → t ≡ slice_index_or s.processes p t → p < s.layout.procs → (o : Option Access) (a : Access) (word : Word)
    → IfSome o (λ a. InWords t.machine_state.layout.procs (word_of a)) → o ≡ Some a → word ≡ word_of a → (n : ℕ) → n ≡ s.layout.procs → InWords n word
in_words s p t h at below o a word within some is n each = configuration_within t a (configuration_here s p t h at below) (subst (λ x. IfSome x (λ b. InWords t.machine_state.layout.procs (word_of b))) some within) is each
