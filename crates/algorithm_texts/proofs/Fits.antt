-- What is asked of a call stays when the gotos of other calls lead to their labels.
use Rattle.std.proofs.Common.{◌≡◌, ℕ, zero, suc, cond, [], ◌∷◌, ◌+◌, ◌<◌, ◌≤◌, Bool, true, false, not, ◌&&◌, ◌||◌, ltb, List, length, get_or, Option, Some, None, Result, Ok, Err, slice_get, position, refl, sym, ap, ◌∙◌, subst, inl, inr, arith}
use Rattle.std.specs.Prelude.{bytes_eq, OnOk}
use Rattle.std.proofs.lemmas.Bool.{false≢true, both_ways, not-true, ltb-true, ltb-false, lt-ltb}
use Rattle.std.proofs.lemmas.Slice.Eq.{bytes_eq-Decides}
use Rattle.std.specs.List.{position_or_len}
use Rattle.std.proofs.lemmas.List.Quantifiers.{position-Some}
use Rattle.std.proofs.lemmas.Option.{same_Some, none-some, slice_get_within, slice_get-get_or, get_or_from_slice_get}
use Rattle.algorithms.specs.declared.algorithm.AlgorithmCall.{AlgorithmCall}
use Rattle.algorithms.specs.declared.algorithm.AlgorithmCall.TheVariants.{Lock, Unlock, Recover, Withdraw}
use Rattle.algorithms.specs.declared.algorithm.Promises.{Promises}
use Rattle.algorithm_texts.specs.declared.lines.CallRead.{CallRead}
use Rattle.algorithm_texts.specs.declared.lines.Label.{Label}
use Rattle.algorithm_texts.specs.Drafts.{LineForm, PlacedLine, Drafted}
use Rattle.algorithm_texts.specs.FinishedDrafts.{is_label_in, jumps_led, with_lines, call_led, call_in, led_where, kind_led}
use Rattle.algorithm_texts.specs.Lawful.{LabelsDiffer, IsInLoop, LineFits, LinesFit, KindFits}
use Rattle.algorithm_texts.specs.Runs.{AllRuns, KindRuns, RunsFit}
use Rattle.algorithm_texts.specs.TextFaults.{LabelNewAt, number_at}
use Rattle.algorithm_texts.specs.Usage.{reads, sets, begins_loop, ends_loop, uses, passes_where, passes_at}
use Rattle.algorithm_texts.proofs.BlockTrees.{some_of}
use Rattle.algorithm_texts.proofs.CallFaults.{jumps_numbers}
use Rattle.algorithm_texts.proofs.RunMarks.{below_next, true_or_false, both_true, either, or_left, or_right}
use Rattle.algorithm_texts.proofs.Uses.{jumps_uses}

pub and_true : (a b : Bool) → a ≡ true → b ≡ true → (a && b) ≡ true
and_true true b h k = k
and_true false b h k = absurd (false≢true h)

-- a draft of which lines lead elsewhere
pub record Redirects (d now : Drafted) : Type 0 where
  pub lines : List PlacedLine
  pub is : now ≡ with_lines lines d
  pub same : uses lines ≡ uses d.lines
  pub numbers : (k : ℕ) → number_at lines k ≡ number_at d.lines k

pub call_redirects : (d now : Drafted) (call : CallRead) → call_led d call ≡ Some now → Redirects d now
call_redirects d now call e =
    let y = some_of (jumps_led d.labels d.blocks call d.jumps d.lines) (λ lines. Some (with_lines lines d)) now e in
    record {
      lines = y.0;
      is = sym (same_Some (with_lines y.0 d) now y.2);
      same = jumps_uses d.labels d.blocks call d.jumps d.lines y.0 y.1;
      numbers = jumps_numbers d.labels d.blocks call d.jumps d.lines y.0 y.1;
    }

pub where_redirects : (d now : Drafted) (o : Option CallRead) → led_where d o ≡ Some now → Redirects d now
where_redirects d now None e = record { lines = d.lines; is = sym (same_Some d now e); same = refl; numbers = λ k. refl }
where_redirects d now (Some call) e = call_redirects d now call e

fits_with : (d : Drafted) (lines : List PlacedLine) → uses lines ≡ uses d.lines → (read : CallRead) → LinesFit d read → LinesFit (with_lines lines d) read
fits_with d lines same read h = record {
  labels = h.labels;
  lines = λ at within. subst (λ us. LineFits us d.head.promises d.lasting (length d.names) read at) (sym same) (h.lines at within);
}

-- it is so where the gotos of a kind lead to their labels
pub kind_stays : (d now : Drafted) (kind other : AlgorithmCall) → kind_led other d ≡ Some now → KindFits d kind → KindFits now kind
kind_stays d now kind other e h =
    let r = where_redirects d now (call_in other d.calls) e in
    subst (λ x. KindFits x kind) (sym r.is) (λ read f. fits_with d r.lines r.same read (h read f))

-- ---- labels

-- a label that is the first of its name is new, where those before it are too
pub label_new : (labels : List Label) (call : CallRead) (n : ℕ) → ((j : ℕ) (b : Label) → j < n → slice_get labels j ≡ Some b → is_label_in call b ≡ true
    → position (λ label. bytes_eq label.name b.name && is_label_in call label) labels ≡ Some j)
    → (j : ℕ) → j < n → LabelNewAt labels call j
label_new labels call n all j near = λ i a b less ea eb ina inb same.
    let p = position-Some (λ label. bytes_eq label.name b.name && is_label_in call label) labels j a (all j b near eb inb) in
    let at : get_or labels i a ≡ a = get_or_from_slice_get labels i a a ea in
    both_ways (bytes_eq a.name b.name && is_label_in call a) (sym (ap (λ label. bytes_eq label.name b.name && is_label_in call label) at) ∙ p.2 i less) (and_true (bytes_eq a.name b.name) (is_label_in call a) same ina)

-- labels that are each the first of their name differ
pub labels_differ : (labels : List Label) (call : CallRead) (n : ℕ) → length labels ≤ n
    → ((j : ℕ) (b : Label) → j < n → slice_get labels j ≡ Some b → is_label_in call b ≡ true
    → position (λ label. bytes_eq label.name b.name && is_label_in call label) labels ≡ Some j)
    → LabelsDiffer labels call
labels_differ labels call n whole all i j a b less ea eb =
    let within : j < length labels = slice_get_within labels j b eb in
    label_new labels call n all j (omega (arith, within, whole)) i a b less ea eb

later : (b : Bool) (n at : ℕ) → n ≤ at → cond (not b) (1 + n) 0 ≤ suc at
later true n at h = omega arith
later false n at h = omega (arith, h)

first_place : {X : Type 0} (test : X → Bool) (xs : List X) (at : ℕ) (x : X) → slice_get xs at ≡ Some x → test x ≡ true → position_or_len test xs ≤ at
first_place test [] at x e h = omega arith
first_place test (y ∷ ys) zero x e h =
    let same : y ≡ x = get_or_from_slice_get (y ∷ ys) 0 x y e in
    let here : test y ≡ true = subst (λ z. test z ≡ true) (sym same) h in
    let none : position_or_len test (y ∷ ys) ≡ 0 = ap (λ b. cond (not b) (1 + position_or_len test ys) 0) here in
    omega (arith, none)
first_place test (y ∷ ys) (suc at) x e h =
    let k = first_place test ys at x e h in
    later (test y) (position_or_len test ys) at k

-- the first label of a name is the one that has it, where it is new
pub first_of_name : (labels : List Label) (call : CallRead) (at : ℕ) (label : Label) → LabelNewAt labels call at → slice_get labels at ≡ Some label → is_label_in call label ≡ true
    → position (λ other. bytes_eq other.name label.name && is_label_in call other) labels ≡ Some at
first_of_name labels call at label differ e h =
    let test : Label → Bool = λ other. bytes_eq other.name label.name && is_label_in call other in
    let own : test label ≡ true = and_true (bytes_eq label.name label.name) (is_label_in call label) ((bytes_eq-Decides label.name label.name).1 refl) h in
    let n = position_or_len test labels in
    let near : n ≤ at = first_place test labels at label e own in
    let within : at < length labels = slice_get_within labels at label e in
    let found : position test labels ≡ Some n = ap (λ b. cond b (Some n) None) (lt-ltb n (length labels) (omega (arith, near, within))) in
    let p = position-Some test labels n label found in
    let parts = both_true (bytes_eq (get_or labels n label).name label.name) (is_label_in call (get_or labels n label)) p.1 in
    elim (true_or_false (ltb n at)) [
      | inl t ↦ absurd (differ n (get_or labels n label) label (ltb-true n at t) (slice_get-get_or labels n label p.0) e parts.1 h parts.0)
      | inr f ↦
          let past : at ≤ n = ltb-false n at f in
          let same : n ≡ at = omega (arith, past, near) in
          found ∙ ap (λ (m : ℕ). Some m) same
    ]

-- ---- calls

pub on_both : {T E P Q R : Type 0} (r : Result T E) → (P → Q → R) → OnOk r P → OnOk r Q → OnOk r R
on_both (Ok x) f p q = f p q
on_both (Err e) f p q = tt

-- the call of this kind that is there is as is asked of it
pub one_fits : (d now : Drafted) (kind : AlgorithmCall) (found : CallRead) → call_in kind d.calls ≡ Some found → call_led d found ≡ Some now → LinesFit now found
    → KindFits now kind
one_fits d now kind found e led h read f =
    let r = call_redirects d now found led in
    let same : call_in kind now.calls ≡ call_in kind d.calls = ap (λ x. call_in kind x.calls) r.is in
    subst (λ c. LinesFit now c) (same_Some found read (sym e ∙ sym same ∙ f)) h

pub none_fits : (d : Drafted) (kind : AlgorithmCall) → call_in kind d.calls ≡ None → KindFits d kind
none_fits d kind e read f = absurd (none-some read (sym e ∙ f))

pub all_fit : (begun lock unlock recover withdraw : Drafted) → kind_led Lock begun ≡ Some lock → kind_led Unlock lock ≡ Some unlock → kind_led Recover unlock ≡ Some recover
    → kind_led Withdraw recover ≡ Some withdraw → KindFits lock Lock → KindFits unlock Unlock → KindFits recover Recover → KindFits withdraw Withdraw
    → (kind : AlgorithmCall) → KindFits withdraw kind
all_fit begun lock unlock recover withdraw a b c d l u r w Lock = kind_stays recover withdraw Lock Withdraw d (kind_stays unlock recover Lock Recover c (kind_stays lock unlock Lock Unlock b l))
all_fit begun lock unlock recover withdraw a b c d l u r w Unlock = kind_stays recover withdraw Unlock Withdraw d (kind_stays unlock recover Unlock Recover c u)
all_fit begun lock unlock recover withdraw a b c d l u r w Recover = kind_stays recover withdraw Recover Withdraw d r
all_fit begun lock unlock recover withdraw a b c d l u r w Withdraw = w

pub one_runs : (d : Drafted) (kind : AlgorithmCall) (found : CallRead) → call_in kind d.calls ≡ Some found → RunsFit d found → KindRuns d kind
one_runs d kind found e h read f = subst (λ c. RunsFit d c) (same_Some found read (sym e ∙ f)) h

pub none_runs : (d : Drafted) (kind : AlgorithmCall) → call_in kind d.calls ≡ None → KindRuns d kind
none_runs d kind e read f = absurd (none-some read (sym e ∙ f))

pub all_run : (d : Drafted) → KindRuns d Lock → KindRuns d Unlock → KindRuns d Recover → KindRuns d Withdraw → AllRuns d
all_run d l u r w Lock = l
all_run d l u r w Unlock = u
all_run d l u r w Recover = r
all_run d l u r w Withdraw = w

-- where there is no line, nothing is asked
pub no_line_fits : (forms : List LineForm) (promises : Promises) (lasting names : ℕ) (call : CallRead) (at : ℕ) → slice_get forms at ≡ None
    → LineFits forms promises lasting names call at
no_line_fits forms promises lasting names call at e = record {
  known = λ name l h. absurd (false≢true (sym (ap (passes_where (reads name)) e) ∙ h));
  free = λ name l h. absurd (false≢true (sym (ap (passes_where (sets name)) e) ∙ h));
  deed = λ form f. absurd (none-some form (sym e ∙ f));
}

-- ---- loops

-- before this place a loop with the name began, and has not ended
pub record IsOpen (forms : List LineForm) (call : CallRead) (name at : ℕ) : Type 0 where
  pub first : ℕ
  pub «from» : call.«from» ≤ first
  pub before : first < at
  pub begins : passes_at (begins_loop name) forms first ≡ true
  pub goes_on : (place : ℕ) → first ≤ place → place < at → passes_at (ends_loop name) forms place ≡ true → ⊥

-- no loop is open where the call begins
pub none_open : (forms : List LineForm) (call : CallRead) (name at : ℕ) → at ≤ call.«from» → IsOpen forms call name at → ⊥
none_open forms call name at h s = omega (arith, h, s.«from», s.before)

-- a loop begins at this place, or before it
open_or_here : (forms : List LineForm) (call : CallRead) (name at : ℕ) (b c : Bool) → (IsOpen forms call name at → b ≡ true) → c ≡ passes_at (begins_loop name) forms at
    → (first : ℕ) → call.«from» ≤ first → first ≤ at → passes_at (begins_loop name) forms first ≡ true
    → ((place : ℕ) → first ≤ place → place < at → passes_at (ends_loop name) forms place ≡ true → ⊥) → (b || c) ≡ true
open_or_here forms call name at b c h e first from before begins on = elim (true_or_false (ltb first at)) [
  | inl t ↦ or_left b c (h (record { first = first; «from» = from; before = ltb-true first at t; begins = begins; goes_on = on }))
  | inr f ↦
      let past : at ≤ first = ltb-false first at f in
      let same : first ≡ at = omega (arith, past, before) in
      or_right b c (e ∙ subst (λ x. passes_at (begins_loop name) forms x ≡ true) same begins)
]

pub in_loop_said : (forms : List LineForm) (call : CallRead) (name at : ℕ) (b c : Bool) → (IsOpen forms call name at → b ≡ true) → c ≡ passes_at (begins_loop name) forms at
    → IsInLoop forms call name at → (b || c) ≡ true
in_loop_said forms call name at b c h e s = open_or_here forms call name at b c h e s.first s.«from» s.before s.begins s.goes_on

pub open_in : (forms : List LineForm) (call : CallRead) (name at : ℕ) → IsOpen forms call name at → IsInLoop forms call name at
open_in forms call name at s = record { first = s.first; «from» = s.«from»; before = omega (arith, s.before); begins = s.begins; goes_on = s.goes_on }

pub begun_in : (forms : List LineForm) (call : CallRead) (name at : ℕ) → call.«from» ≤ at → passes_at (begins_loop name) forms at ≡ true → IsInLoop forms call name at
begun_in forms call name at from h = record {
  first = at;
  «from» = from;
  before = omega arith;
  begins = h;
  goes_on = λ place a b e. absurd (omega (arith, a, b));
}

-- a loop is open after a place that is in it and does not end it
pub open_on : (forms : List LineForm) (call : CallRead) (name at : ℕ) (ends : Bool) → IsInLoop forms call name at → ends ≡ passes_at (ends_loop name) forms at → not ends ≡ true
    → IsOpen forms call name (at + 1)
open_on forms call name at ends s e n = record {
  first = s.first;
  «from» = s.«from»;
  before = omega (arith, s.before);
  begins = s.begins;
  goes_on = below_next (λ place. passes_at (ends_loop name) forms place ≡ true → ⊥) s.first at s.goes_on (λ h. both_ways ends (not-true ends n) (e ∙ h));
}

-- a loop that is open before a place, or begins at it
pub in_loop : (forms : List LineForm) (call : CallRead) (name at : ℕ) (b : Bool) → call.«from» ≤ at → (b ≡ true → IsOpen forms call name at)
    → (b || passes_at (begins_loop name) forms at) ≡ true → IsInLoop forms call name at
in_loop forms call name at b from h e = elim (either b (passes_at (begins_loop name) forms at) e) [
  | inl t ↦ open_in forms call name at (h t)
  | inr t ↦ begun_in forms call name at from t
]

pub open_next : (forms : List LineForm) (call : CallRead) (name at : ℕ) (b : Bool) → call.«from» ≤ at → (b ≡ true → IsOpen forms call name at)
    → ((b || passes_at (begins_loop name) forms at) && not (passes_at (ends_loop name) forms at)) ≡ true → IsOpen forms call name (at + 1)
open_next forms call name at b from h e =
    let k = both_true (b || passes_at (begins_loop name) forms at) (not (passes_at (ends_loop name) forms at)) e in
    open_on forms call name at (passes_at (ends_loop name) forms at) (in_loop forms call name at b from h k.0) refl k.1

not_false : (b : Bool) → (b ≡ true → ⊥) → not b ≡ true
not_false true h = absurd (h refl)
not_false false h = refl

-- a loop that is open after a place is open before it, or begins at it, and it does not end it
pub open_said : (forms : List LineForm) (call : CallRead) (name at : ℕ) (b c ends : Bool) → (IsOpen forms call name at → b ≡ true) → c ≡ passes_at (begins_loop name) forms at
    → ends ≡ passes_at (ends_loop name) forms at → IsOpen forms call name (at + 1) → ((b || c) && not ends) ≡ true
open_said forms call name at b c ends h e f s =
    and_true (b || c) (not ends)
    (open_or_here forms call name at b c h e s.first s.«from» (omega (arith, s.before)) s.begins (λ place l k. s.goes_on place l (omega (arith, k))))
    (not_false ends (λ t. s.goes_on at (omega (arith, s.before)) (omega arith) (sym f ∙ t)))
