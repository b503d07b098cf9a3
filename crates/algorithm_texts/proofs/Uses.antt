-- What lines do, wherever they lead.
use Rattle.std.proofs.Common.{◌≡◌, ℕ, zero, suc, ◌<◌, Bool, true, false, cond, ltb, List, [], ◌∷◌, length, map, Option, Some, None, slice_get, refl, sym, ap, ◌∙◌, inl, inr}
use Rattle.std.specs.Option.{option_map}
use Rattle.std.proofs.lemmas.Bool.{false≢true, ltb-true, ltb-false}
use Rattle.std.proofs.lemmas.Option.{slice_get-map, slice_get_past, same_Some}
use Rattle.algorithms.specs.declared.algorithm.AlgorithmCall.{AlgorithmCall}
use Rattle.algorithms.specs.declared.algorithm.Promises.{Promises}
use Rattle.algorithms.specs.declared.line.AlgorithmLine.{AlgorithmLine}
use Rattle.algorithm_texts.specs.declared.lines.CallRead.{CallRead}
use Rattle.algorithm_texts.specs.declared.lines.Jump.{Jump}
use Rattle.algorithm_texts.specs.declared.lines.Label.{Label}
use Rattle.algorithm_texts.specs.declared.usage.Usage.{Usage}
use Rattle.algorithm_texts.specs.declared.usage.Usage.TheVariants.{Reads, Sets, Begins, Ends}
use Rattle.algorithm_texts.specs.Parts.{◌>>=◌}
use Rattle.algorithm_texts.specs.Drafts.{LineForm, Accessing, Assigning, SettingRow, Noting, Going, Branching, Beginning, Repeating, Ending, PlacedLine, form_of, line_of, form_with_place, leading}
use Rattle.algorithm_texts.specs.FinishedDrafts.{is_within, target_of, jump_led, jumps_led}
use Rattle.algorithm_texts.specs.Usage.{reads, sets, begins_loop, ends_loop, has_usage, fits, uses, passes_where, passes_at}
use Rattle.algorithm_texts.specs.Runs.{is_own, is_seen}
use Rattle.algorithm_texts.proofs.BlockTrees.{some_of}
use Rattle.algorithm_texts.proofs.RunMarks.{true_or_false}

-- the use of a line
pub use_at : (lines : List AlgorithmLine) (at : ℕ) (line : AlgorithmLine) → slice_get lines at ≡ Some line → slice_get (uses (map line_of lines)) at ≡ Some (form_with_place 0 (form_of line.form))
use_at lines at line e =
    slice_get-map (λ l. form_with_place 0 l.form) (map line_of lines) at
    ∙ ap (option_map (λ l. form_with_place 0 l.form)) (slice_get-map line_of lines at)
    ∙ ap (λ o. option_map (λ l. form_with_place 0 l.form) (option_map line_of o)) e

pub no_use_at : (lines : List AlgorithmLine) (at : ℕ) → slice_get lines at ≡ None → slice_get (uses (map line_of lines)) at ≡ None
no_use_at lines at e =
    slice_get-map (λ l. form_with_place 0 l.form) (map line_of lines) at
    ∙ ap (option_map (λ l. form_with_place 0 l.form)) (slice_get-map line_of lines at)
    ∙ ap (λ o. option_map (λ l. form_with_place 0 l.form) (option_map line_of o)) e

-- a test that does not ask where a line leads
pub passes_line : (test : LineForm → Bool) → ((form : LineForm) → test (form_with_place 0 form) ≡ test form) → (lines : List AlgorithmLine) (at : ℕ) (line : AlgorithmLine)
    → slice_get lines at ≡ Some line → test (form_of line.form) ≡ passes_at test (uses (map line_of lines)) at
passes_line test same lines at line e = sym (ap (passes_where test) (use_at lines at line e) ∙ same (form_of line.form))

pub passes_none : (test : LineForm → Bool) (lines : List AlgorithmLine) (at : ℕ) → slice_get lines at ≡ None → false ≡ passes_at test (uses (map line_of lines)) at
passes_none test lines at e = sym (ap (passes_where test) (no_use_at lines at e))

-- a place that passes has a line
pub passes_within : (test : LineForm → Bool) (forms : List LineForm) (at : ℕ) → passes_at test forms at ≡ true → at < length forms
passes_within test forms at h = elim (true_or_false (ltb at (length forms))) [
  | inl t ↦ ltb-true at (length forms) t
  | inr f ↦ absurd (false≢true (sym (ap (passes_where test) (slice_get_past forms at (ltb-false at (length forms) f))) ∙ h))
]

-- ---- gotos

led_twice : (place : ℕ) (form : LineForm) → form_with_place 0 (form_with_place place form) ≡ form_with_place 0 form
led_twice place (Accessing a) = refl
led_twice place (Assigning name value) = refl
led_twice place (SettingRow row elements value) = refl
led_twice place (Noting deed) = refl
led_twice place (Going target) = refl
led_twice place (Branching condition otherwise) = refl
led_twice place (Beginning name members after) = refl
led_twice place (Repeating name members body) = refl
led_twice place (Ending answer) = refl

pub leading_cons : (line : PlacedLine) (lines : List PlacedLine) (at place : ℕ) (o : Option PlacedLine)
    → leading (line ∷ lines) (suc at) place o ≡ line ∷ leading lines at place o
leading_cons line lines at place None = refl
leading_cons line lines at place (Some other) = refl

leading_uses : (lines : List PlacedLine) (at place : ℕ) → uses (leading lines at place (slice_get lines at)) ≡ uses lines
leading_uses [] at place = refl
leading_uses (line ∷ lines) zero place = ap (λ form. form ∷ uses lines) (led_twice place line.form)
leading_uses (line ∷ lines) (suc at) place =
    ap uses (leading_cons line lines at place (slice_get lines at)) ∙ ap (λ forms. form_with_place 0 line.form ∷ forms) (leading_uses lines at place)

jump_uses : (labels : List Label) (blocks : List (ℕ × ℕ)) (call : CallRead) (lines out : List PlacedLine) (jump : Jump)
    → jump_led labels blocks call lines jump ≡ Some out → uses out ≡ uses lines
jump_uses labels blocks call lines out jump e =
    let z = some_of (target_of labels blocks call jump) (λ target. Some (leading lines jump.place target (slice_get lines jump.place))) out e in
    ap uses (sym (same_Some (leading lines jump.place z.0 (slice_get lines jump.place)) out z.2)) ∙ leading_uses lines jump.place z.0

-- gotos that lead to their labels change nothing else
pub jumps_uses : (labels : List Label) (blocks : List (ℕ × ℕ)) (call : CallRead) (jumps : List Jump) (lines out : List PlacedLine)
    → jumps_led labels blocks call jumps lines ≡ Some out → uses out ≡ uses lines
jumps_uses labels blocks call [] lines out e = ap uses (sym (same_Some lines out e))
jumps_uses labels blocks call (jump ∷ jumps) lines out e = elim (true_or_false (is_within (call.«from», call.to) jump.place)) [
  | inl t ↦
      let y = some_of (jump_led labels blocks call lines jump) (jumps_led labels blocks call jumps) out
      (sym (ap (λ b. cond b (jump_led labels blocks call lines jump >>= jumps_led labels blocks call jumps) (jumps_led labels blocks call jumps lines)) t) ∙ e) in
      jumps_uses labels blocks call jumps y.0 out y.2 ∙ jump_uses labels blocks call lines y.0 jump y.1
  | inr f ↦ jumps_uses labels blocks call jumps lines out
      (sym (ap (λ b. cond b (jump_led labels blocks call lines jump >>= jumps_led labels blocks call jumps) (jumps_led labels blocks call jumps lines)) f) ∙ e)
]

-- ---- tests that do not ask where a line leads

reads_same : (name : ℕ) (form : LineForm) → reads name (form_with_place 0 form) ≡ reads name form
reads_same name (Accessing a) = refl
reads_same name (Assigning k value) = refl
reads_same name (SettingRow row elements value) = refl
reads_same name (Noting deed) = refl
reads_same name (Going place) = refl
reads_same name (Branching condition otherwise) = refl
reads_same name (Beginning k members after) = refl
reads_same name (Repeating k members body) = refl
reads_same name (Ending answer) = refl

sets_same : (name : ℕ) (form : LineForm) → sets name (form_with_place 0 form) ≡ sets name form
sets_same name (Accessing a) = refl
sets_same name (Assigning k value) = refl
sets_same name (SettingRow row elements value) = refl
sets_same name (Noting deed) = refl
sets_same name (Going place) = refl
sets_same name (Branching condition otherwise) = refl
sets_same name (Beginning k members after) = refl
sets_same name (Repeating k members body) = refl
sets_same name (Ending answer) = refl

begins_same : (name : ℕ) (form : LineForm) → begins_loop name (form_with_place 0 form) ≡ begins_loop name form
begins_same name (Accessing a) = refl
begins_same name (Assigning k value) = refl
begins_same name (SettingRow row elements value) = refl
begins_same name (Noting deed) = refl
begins_same name (Going place) = refl
begins_same name (Branching condition otherwise) = refl
begins_same name (Beginning k members after) = refl
begins_same name (Repeating k members body) = refl
begins_same name (Ending answer) = refl

ends_same : (name : ℕ) (form : LineForm) → ends_loop name (form_with_place 0 form) ≡ ends_loop name form
ends_same name (Accessing a) = refl
ends_same name (Assigning k value) = refl
ends_same name (SettingRow row elements value) = refl
ends_same name (Noting deed) = refl
ends_same name (Going place) = refl
ends_same name (Branching condition otherwise) = refl
ends_same name (Beginning k members after) = refl
ends_same name (Repeating k members body) = refl
ends_same name (Ending answer) = refl

pub usage_same : (usage : Usage) (name : ℕ) (form : LineForm) → has_usage usage name (form_with_place 0 form) ≡ has_usage usage name form
usage_same Reads name form = reads_same name form
usage_same Sets name form = sets_same name form
usage_same Begins name form = begins_same name form
usage_same Ends name form = ends_same name form

pub seen_same : (form : LineForm) → is_seen (form_with_place 0 form) ≡ is_seen form
seen_same (Accessing a) = refl
seen_same (Assigning k value) = refl
seen_same (SettingRow row elements value) = refl
seen_same (Noting deed) = refl
seen_same (Going place) = refl
seen_same (Branching condition otherwise) = refl
seen_same (Beginning k members after) = refl
seen_same (Repeating k members body) = refl
seen_same (Ending answer) = refl

pub own_same : (jumps : List Jump) (at : ℕ) (form : LineForm) → is_own jumps at (form_with_place 0 form) ≡ is_own jumps at form
own_same jumps at (Accessing a) = refl
own_same jumps at (Assigning k value) = refl
own_same jumps at (SettingRow row elements value) = refl
own_same jumps at (Noting deed) = refl
own_same jumps at (Going place) = refl
own_same jumps at (Branching condition otherwise) = refl
own_same jumps at (Beginning k members after) = refl
own_same jumps at (Repeating k members body) = refl
own_same jumps at (Ending answer) = refl

pub fits_same : (promises : Promises) (call : AlgorithmCall) (form : LineForm) → fits promises call (form_with_place 0 form) ≡ fits promises call form
fits_same promises call (Accessing a) = refl
fits_same promises call (Assigning k value) = refl
fits_same promises call (SettingRow row elements value) = refl
fits_same promises call (Noting deed) = refl
fits_same promises call (Going place) = refl
fits_same promises call (Branching condition otherwise) = refl
fits_same promises call (Beginning k members after) = refl
fits_same promises call (Repeating k members body) = refl
fits_same promises call (Ending answer) = refl
