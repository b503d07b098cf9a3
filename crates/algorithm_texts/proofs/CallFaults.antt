-- Which rule of labels, gotos, names, deeds and withdraws is broken first, and where.
use Rattle.std.proofs.Common.{◌≡◌, ℕ, zero, suc, ◌+◌, ◌<◌, ◌≤◌, Bool, true, false, cond, not, ◌&&◌, ◌||◌, leb, ltb, List, [], ◌∷◌, length, map, drop, reverse, get_or, Some, None, is_some, slice_get, refl, sym, ap, ◌∙◌, subst, inl, inr, arith, drop-cons}
use Rattle.std.specs.List.{find, list_any}
use Rattle.std.specs.Option.{option_map}
use Rattle.std.proofs.lemmas.Option.{same_Some, slice_get-map, slice_get-get_or, slice_get_past, get_or_from_slice_get}
use Rattle.std.proofs.lemmas.Bool.{leb-true, le-leb, ltb-true, ltb-false}
use Rattle.std.proofs.lemmas.List.{reverse-reverse}
use Rattle.algorithms.specs.Faults.{fault_of}
use Rattle.algorithms.specs.declared.fault.AlgorithmFault.{AlgorithmFault}
use Rattle.algorithms.specs.declared.fault.ReadFault.TheVariants.{FallsOff}
use Rattle.algorithms.specs.declared.line.AlgorithmLine.{AlgorithmLine}
use Rattle.algorithm_texts.specs.declared.lines.CallRead.{CallRead}
use Rattle.algorithm_texts.specs.declared.lines.Jump.{Jump}
use Rattle.algorithm_texts.specs.declared.lines.Label.{Label}
use Rattle.algorithm_texts.specs.Parts.{◌>>=◌}
use Rattle.algorithm_texts.specs.Drafts.{LineForm, Accessing, Assigning, SettingRow, Noting, Going, Branching, Beginning, Repeating, Ending, PlacedLine, form_with_place, leading, form_of, line_of}
use Rattle.algorithm_texts.specs.FinishedDrafts.{is_within, target_of, jump_led, jumps_led}
use Rattle.algorithm_texts.specs.TextFaults.{StaysAt, has_no_line, number_at, number_where, leads_nowhere, unfit_kind}
use Rattle.algorithm_texts.specs.Usage.{may_withdraw, uses, passes_at}
use Rattle.algorithm_texts.proofs.BlockTrees.{some_of}
use Rattle.algorithm_texts.proofs.RunMarks.{true_or_false}
use Rattle.algorithm_texts.proofs.Uses.{leading_cons, passes_line, passes_none}

-- ---- numbers of lines

leading_numbers : (lines : List PlacedLine) (at place k : ℕ) → number_at (leading lines at place (slice_get lines at)) k ≡ number_at lines k
leading_numbers [] at place k = refl
leading_numbers (line ∷ lines) zero place zero = refl
leading_numbers (line ∷ lines) zero place (suc k) = refl
leading_numbers (line ∷ lines) (suc at) place zero = ap (λ ls. number_at ls 0) (leading_cons line lines at place (slice_get lines at))
leading_numbers (line ∷ lines) (suc at) place (suc k) =
    ap (λ ls. number_at ls (suc k)) (leading_cons line lines at place (slice_get lines at)) ∙ leading_numbers lines at place k

-- a goto that leads to its label stays the line that it is
pub jump_numbers : (labels : List Label) (blocks : List (ℕ × ℕ)) (call : CallRead) (lines out : List PlacedLine) (jump : Jump)
    → jump_led labels blocks call lines jump ≡ Some out → (k : ℕ) → number_at out k ≡ number_at lines k
jump_numbers labels blocks call lines out jump e k =
    let z = some_of (target_of labels blocks call jump) (λ target. Some (leading lines jump.place target (slice_get lines jump.place))) out e in
    ap (λ ls. number_at ls k) (sym (same_Some (leading lines jump.place z.0 (slice_get lines jump.place)) out z.2)) ∙ leading_numbers lines jump.place z.0 k

pub jumps_numbers : (labels : List Label) (blocks : List (ℕ × ℕ)) (call : CallRead) (jumps : List Jump) (lines out : List PlacedLine)
    → jumps_led labels blocks call jumps lines ≡ Some out → (k : ℕ) → number_at out k ≡ number_at lines k
jumps_numbers labels blocks call [] lines out e k = ap (λ ls. number_at ls k) (sym (same_Some lines out e))
jumps_numbers labels blocks call (jump ∷ jumps) lines out e k = elim (true_or_false (is_within (call.«from», call.to) jump.place)) [
  | inl t ↦
      let y = some_of (jump_led labels blocks call lines jump) (jumps_led labels blocks call jumps) out
      (sym (ap (λ b. cond b (jump_led labels blocks call lines jump >>= jumps_led labels blocks call jumps) (jumps_led labels blocks call jumps lines)) t) ∙ e) in
      jumps_numbers labels blocks call jumps y.0 out y.2 k ∙ jump_numbers labels blocks call lines y.0 jump y.1 k
  | inr f ↦ jumps_numbers labels blocks call jumps lines out
      (sym (ap (λ b. cond b (jump_led labels blocks call lines jump >>= jumps_led labels blocks call jumps) (jumps_led labels blocks call jumps lines)) f) ∙ e) k
]

-- the line at a place
pub line_number : (lines : List AlgorithmLine) (at : ℕ) (line : AlgorithmLine) → slice_get lines at ≡ Some line → number_at (map line_of lines) at ≡ line.number
line_number lines at line e = ap number_where (slice_get-map line_of lines at) ∙ ap (λ o. number_where (option_map line_of o)) e

-- ---- gotos

and_no : (a b : Bool) → b ≡ false → (a && b) ≡ false
and_no true b h = h
and_no false b h = refl

-- a goto that leads to its label, or is of another call
pub leads_somewhere : (labels : List Label) (blocks : List (ℕ × ℕ)) (call : CallRead) (jump : Jump) (target : ℕ) → target_of labels blocks call jump ≡ Some target
    → leads_nowhere labels blocks call jump ≡ false
leads_somewhere labels blocks call jump target e =
    and_no (is_within (call.«from», call.to) jump.place) (not (is_some (target_of labels blocks call jump))) (ap (λ o. not (is_some o)) e)

pub of_another : (labels : List Label) (blocks : List (ℕ × ℕ)) (call : CallRead) (jump : Jump) → is_within (call.«from», call.to) jump.place ≡ false
    → leads_nowhere labels blocks call jump ≡ false
of_another labels blocks call jump e = ap (λ b. b && not (is_some (target_of labels blocks call jump))) e

pub leads_to_none : (labels : List Label) (blocks : List (ℕ × ℕ)) (call : CallRead) (jump : Jump) → is_within (call.«from», call.to) jump.place ≡ true
    → target_of labels blocks call jump ≡ None → leads_nowhere labels blocks call jump ≡ true
leads_to_none labels blocks call jump within none =
    ap (λ b. b && not (is_some (target_of labels blocks call jump))) within ∙ ap (λ o. not (is_some o)) none

pub jump_leads : (labels : List Label) (blocks : List (ℕ × ℕ)) (call : CallRead) (lines out : List PlacedLine) (jump : Jump) → jump_led labels blocks call lines jump ≡ Some out
    → leads_nowhere labels blocks call jump ≡ false
jump_leads labels blocks call lines out jump e =
    let z = some_of (target_of labels blocks call jump) (λ target. Some (leading lines jump.place target (slice_get lines jump.place))) out e in
    leads_somewhere labels blocks call jump z.0 z.1

-- one element after another
passed : {X : Type 0} (test : X → Bool) (x : X) (xs : List X) → test x ≡ false → find test (x ∷ xs) ≡ find test xs
passed test x xs f = ap (λ b. cond b (Some x) (find test xs)) f

-- gotos that all lead to their labels
pub none_lost : (labels : List Label) (blocks : List (ℕ × ℕ)) (call : CallRead) (jumps : List Jump) (lines out : List PlacedLine)
    → jumps_led labels blocks call jumps lines ≡ Some out → find (leads_nowhere labels blocks call) jumps ≡ None
none_lost labels blocks call [] lines out e = refl
none_lost labels blocks call (jump ∷ jumps) lines out e = elim (true_or_false (is_within (call.«from», call.to) jump.place)) [
  | inl t ↦
      let y = some_of (jump_led labels blocks call lines jump) (jumps_led labels blocks call jumps) out
      (sym (ap (λ b. cond b (jump_led labels blocks call lines jump >>= jumps_led labels blocks call jumps) (jumps_led labels blocks call jumps lines)) t) ∙ e) in
      passed (leads_nowhere labels blocks call) jump jumps (jump_leads labels blocks call lines y.0 jump y.1) ∙ none_lost labels blocks call jumps y.0 out y.2
  | inr f ↦ passed (leads_nowhere labels blocks call) jump jumps (of_another labels blocks call jump f) ∙ none_lost labels blocks call jumps lines out
      (sym (ap (λ b. cond b (jump_led labels blocks call lines jump >>= jumps_led labels blocks call jumps) (jumps_led labels blocks call jumps lines)) f) ∙ e)
]

pub pass_on : {X : Type 0} (test : X → Bool) (xs : List X) (i : ℕ) (x : X) → i < length xs → x ≡ get_or xs i x → test x ≡ false
    → find test (drop (i + 1) xs) ≡ find test (drop i xs)
pass_on test xs i x less at f =
    let next : i + 1 ≡ suc i = omega arith in
    ap (λ (n : ℕ). find test (drop n xs)) next
    ∙ sym (ap (find test) (drop-cons xs i x less) ∙ passed test (get_or xs i x) (drop (suc i) xs) (subst (λ y. test y ≡ false) at f))

-- a goto that is led, one that leads nowhere, and one of another call
pub led_on : (labels : List Label) (blocks : List (ℕ × ℕ)) (call : CallRead) (jumps : List Jump) (lines out : List PlacedLine) (i : ℕ) (jump : Jump) → i < length jumps
    → jump ≡ get_or jumps i jump → is_within (call.«from», call.to) jump.place ≡ true → jump_led labels blocks call lines jump ≡ Some out
    → jumps_led labels blocks call (drop i jumps) lines ≡ jumps_led labels blocks call (drop (i + 1) jumps) out
led_on labels blocks call jumps lines out i jump less at within led =
    let next : suc i ≡ i + 1 = omega arith in
    ap (λ js. jumps_led labels blocks call js lines) (drop-cons jumps i jump less)
    ∙ ap (λ j. jumps_led labels blocks call (j ∷ drop (suc i) jumps) lines) (sym at)
    ∙ ap (λ b. cond b (jump_led labels blocks call lines jump >>= jumps_led labels blocks call (drop (suc i) jumps)) (jumps_led labels blocks call (drop (suc i) jumps) lines)) within
    ∙ ap (λ o. o >>= jumps_led labels blocks call (drop (suc i) jumps)) led
    ∙ ap (λ (n : ℕ). jumps_led labels blocks call (drop n jumps) out) next

pub lost_on : (labels : List Label) (blocks : List (ℕ × ℕ)) (call : CallRead) (jumps : List Jump) (lines : List PlacedLine) (i : ℕ) (jump : Jump) → i < length jumps
    → jump ≡ get_or jumps i jump → is_within (call.«from», call.to) jump.place ≡ true → jump_led labels blocks call lines jump ≡ None
    → jumps_led labels blocks call (drop i jumps) lines ≡ None
lost_on labels blocks call jumps lines i jump less at within lost =
    ap (λ js. jumps_led labels blocks call js lines) (drop-cons jumps i jump less)
    ∙ ap (λ j. jumps_led labels blocks call (j ∷ drop (suc i) jumps) lines) (sym at)
    ∙ ap (λ b. cond b (jump_led labels blocks call lines jump >>= jumps_led labels blocks call (drop (suc i) jumps)) (jumps_led labels blocks call (drop (suc i) jumps) lines)) within
    ∙ ap (λ o. o >>= jumps_led labels blocks call (drop (suc i) jumps)) lost

pub skip_on : (labels : List Label) (blocks : List (ℕ × ℕ)) (call : CallRead) (jumps : List Jump) (lines : List PlacedLine) (i : ℕ) (jump : Jump) → i < length jumps
    → jump ≡ get_or jumps i jump → is_within (call.«from», call.to) jump.place ≡ false
    → jumps_led labels blocks call (drop i jumps) lines ≡ jumps_led labels blocks call (drop (i + 1) jumps) lines
skip_on labels blocks call jumps lines i jump less at other =
    let next : suc i ≡ i + 1 = omega arith in
    ap (λ js. jumps_led labels blocks call js lines) (drop-cons jumps i jump less)
    ∙ ap (λ j. jumps_led labels blocks call (j ∷ drop (suc i) jumps) lines) (sym at)
    ∙ ap (λ b. cond b (jump_led labels blocks call lines jump >>= jumps_led labels blocks call (drop (suc i) jumps)) (jumps_led labels blocks call (drop (suc i) jumps) lines)) other
    ∙ ap (λ (n : ℕ). jumps_led labels blocks call (drop n jumps) lines) next

pub found_here : {X : Type 0} (test : X → Bool) (xs : List X) (i : ℕ) (x : X) → i < length xs → x ≡ get_or xs i x → test x ≡ true → find test (drop i xs) ≡ Some x
found_here test xs i x less at t =
    ap (find test) (drop-cons xs i x less)
    ∙ ap (λ b. cond b (Some (get_or xs i x)) (find test (drop (suc i) xs))) (subst (λ y. test y ≡ true) at t)
    ∙ ap (λ y. Some y) (sym at)

-- ---- forms

pub kind_same : (form : LineForm) → unfit_kind (form_with_place 0 form) ≡ unfit_kind form
kind_same (Accessing a) = refl
kind_same (Assigning k value) = refl
kind_same (SettingRow row elements value) = refl
kind_same (Noting deed) = refl
kind_same (Going place) = refl
kind_same (Branching condition otherwise) = refl
kind_same (Beginning k members after) = refl
kind_same (Repeating k members body) = refl
kind_same (Ending answer) = refl

pub withdraw_same : (form : LineForm) → may_withdraw (form_with_place 0 form) ≡ may_withdraw form
withdraw_same (Accessing a) = refl
withdraw_same (Assigning k value) = refl
withdraw_same (SettingRow row elements value) = refl
withdraw_same (Noting deed) = refl
withdraw_same (Going place) = refl
withdraw_same (Branching condition otherwise) = refl
withdraw_same (Beginning k members after) = refl
withdraw_same (Repeating k members body) = refl
withdraw_same (Ending answer) = refl

-- ---- calls without lines

not_below : (a b : ℕ) → a < b → leb b a ≡ false
not_below a b h = elim (true_or_false (leb b a)) [
  | inl t ↦
      let k : b ≤ a = leb-true b a t in
      absurd (omega (arith, h, k))
  | inr f ↦ f
]

same_read : (calls : List CallRead) (i : ℕ) (d : CallRead) → i < length calls → get_or calls i d ≡ get_or calls i (get_or calls i d)
same_read calls i d less = sym (get_or_from_slice_get calls i (get_or calls i d) (get_or calls i d) (slice_get-get_or calls i d less))

-- a call that has lines
pub calls_passed : (items calls : List CallRead) (i : ℕ) (d : CallRead) → calls ≡ items → i < length calls → (get_or calls i d).«from» < (get_or calls i d).to
    → find has_no_line (drop i items) ≡ find has_no_line items → find has_no_line (drop (i + 1) items) ≡ find has_no_line items
calls_passed items calls i d e less h left =
    let x : CallRead = get_or calls i d in
    ap (λ cs. find has_no_line (drop (i + 1) cs)) (sym e)
    ∙ pass_on has_no_line calls i x less (same_read calls i d less) (not_below x.«from» x.to h)
    ∙ ap (λ cs. find has_no_line (drop i cs)) e
    ∙ left

-- the first that has none
pub empty_call : (items calls : List CallRead) (i : ℕ) (d : CallRead) (fault : AlgorithmFault) → calls ≡ items → i < length calls
    → (get_or calls i d).to ≤ (get_or calls i d).«from» → find has_no_line (drop i items) ≡ find has_no_line items
    → fault ≡ fault_of (get_or calls i d).number FallsOff
    → (call : CallRead) × (find has_no_line (reverse (reverse items)) ≡ Some call) × (fault ≡ fault_of call.number FallsOff)
empty_call items calls i d fault e less h left named =
    let x : CallRead = get_or calls i d in (
      x,
      ap (find has_no_line) (reverse-reverse items)
          ∙ sym left
          ∙ ap (λ cs. find has_no_line (drop i cs)) (sym e)
          ∙ found_here has_no_line calls i x less (same_read calls i d less) (le-leb x.to x.«from» h),
      named,
    )

-- ---- withdraws

pub withdraw_here : (lines : List AlgorithmLine) (at : ℕ) (line : AlgorithmLine) → slice_get lines at ≡ Some line
    → passes_at may_withdraw (uses (map line_of lines)) at ≡ may_withdraw (form_of line.form)
withdraw_here lines at line e = sym (passes_line may_withdraw withdraw_same lines at line e)

pub any_passed : (test : PlacedLine → Bool) (lines : List AlgorithmLine) (i : ℕ) (line : AlgorithmLine) → i < length lines → line ≡ get_or lines i line
    → test (line_of line) ≡ false → list_any test (map line_of (drop (i + 1) lines)) ≡ list_any test (map line_of (drop i lines))
any_passed test lines i line less at f =
    let next : i + 1 ≡ suc i = omega arith in
    ap (λ (n : ℕ). list_any test (map line_of (drop n lines))) next
    ∙ sym (ap (λ ls. list_any test (map line_of ls)) (drop-cons lines i line less)
    ∙ ap (λ b. b || list_any test (map line_of (drop (suc i) lines))) (subst (λ l. test (line_of l) ≡ false) at f))

pub all_stay : (lines : List AlgorithmLine) (n : ℕ) → length lines ≤ n → ((k : ℕ) → k < n → StaysAt (map line_of lines) k) → (at : ℕ) → StaysAt (map line_of lines) at
all_stay lines n whole none at = elim (true_or_false (ltb at (length lines))) [
  | inl t ↦
      let less : at < length lines = ltb-true at (length lines) t in
      none at (omega (arith, less, whole))
  | inr f ↦ sym (passes_none may_withdraw lines at (slice_get_past lines at (ltb-false at (length lines) f)))
]
