-- Marks of the places to which runs come.
use Rattle.std.proofs.Common.{◌≡◌, ◌⊎◌, ℕ, zero, suc, ◌+◌, ◌<◌, ◌≤◌, Bool, true, false, cond, not, ◌&&◌, ◌||◌, ltb, leb, eqb, List, [], ◌∷◌, length, replicate, set, get_or, Option, Some, None, slice_get, refl, sym, ap, ◌∙◌, subst, inl, inr, arith}
use Rattle.std.specs.List.{find, count_by}
use Rattle.std.proofs.lemmas.Bool.{false≢true, both_ways, not-true, ltb-true, ltb-false, leb-true, le-leb, lt-ltb, eqb-true, eq-eqb}
use Rattle.std.proofs.lemmas.Option.{slice_get-get_or, slice_get_past, none-some, same_Some}
use Rattle.std.proofs.lemmas.List.{length-set, length-replicate}
use Rattle.std.proofs.lemmas.List.Sums.{sum_by-set}
use Rattle.algorithm_texts.specs.declared.flow.RunKind.{RunKind}
use Rattle.algorithm_texts.specs.declared.lines.CallRead.{CallRead}
use Rattle.algorithm_texts.specs.Drafts.{Drafted, PlacedLine}
use Rattle.algorithm_texts.specs.FinishedDrafts.{is_in, is_marked, is_within}
use Rattle.algorithm_texts.specs.Marks.{is_free, free_way, past_marked, marks_from, IsClosed, KeepsMarks, MarksReached}
use Rattle.algorithm_texts.specs.Runs.{ways_after, ways_from, leads_to, RunComesTo, ComesOver, past_where, past_from, IsPlaceReached, HasNot}

-- ---- tests

pub both_true : (a b : Bool) → (a && b) ≡ true → (a ≡ true) × (b ≡ true)
both_true true b h = (refl, h)
both_true false b h = absurd (false≢true h)

pub true_or_false : (b : Bool) → (b ≡ true) ⊎ (b ≡ false)
true_or_false true = inl refl
true_or_false false = inr refl

pub or_right : (a b : Bool) → b ≡ true → (a || b) ≡ true
or_right true b h = refl
or_right false b h = h

pub or_left : (a b : Bool) → a ≡ true → (a || b) ≡ true
or_left true b h = refl
or_left false b h = absurd (false≢true h)

pub either : (a b : Bool) → (a || b) ≡ true → (a ≡ true) ⊎ (b ≡ true)
either true b h = inl refl
either false b h = inr h

-- ---- marks

-- the place that was marked, or one that was marked before
pub marked_set : (marks : List Bool) (place at : ℕ) → is_in (set marks place true) at ≡ true → (at ≡ place) ⊎ (is_in marks at ≡ true)
marked_set [] place at h = inr h
marked_set (m ∷ ms) zero zero h = inl refl
marked_set (m ∷ ms) zero (suc at) h = inr h
marked_set (m ∷ ms) (suc place) zero h = inr h
marked_set (m ∷ ms) (suc place) (suc at) h = elim (marked_set ms place at h) [ inl e ↦ inl (ap suc e) | inr k ↦ inr k ]

pub set_keeps : (marks : List Bool) (place : ℕ) → KeepsMarks marks (set marks place true)
set_keeps [] place at h = h
set_keeps (m ∷ ms) zero zero h = refl
set_keeps (m ∷ ms) zero (suc at) h = h
set_keeps (m ∷ ms) (suc place) zero h = h
set_keeps (m ∷ ms) (suc place) (suc at) h = set_keeps ms place at h

pub set_marks : (marks : List Bool) (place : ℕ) → place < length marks → is_in (set marks place true) place ≡ true
set_marks [] place h = absurd (omega (arith, h))
set_marks (m ∷ ms) zero h = refl
set_marks (m ∷ ms) (suc place) h = set_marks ms place (omega (arith, h))

pub free_parts : (marks : List Bool) (place : ℕ) → is_free marks place ≡ true → (place < length marks) × (is_in marks place ≡ false)
free_parts marks place h =
    let k = both_true (ltb place (length marks)) (not (is_in marks place)) h in
    (ltb-true place (length marks) k.0, not-true (is_in marks place) k.1)

-- a place within its marks is free or marked
pub free_or_in : (marks : List Bool) (place : ℕ) → place < length marks → is_free marks place ≡ false → is_in marks place ≡ true
free_or_in marks place l h = elim (true_or_false (is_in marks place)) [
  | inl e ↦ e
  | inr e ↦ absurd (both_ways (is_free marks place) h (ap (λ b. b && not (is_in marks place)) (lt-ltb place (length marks) l) ∙ ap not e))
]

one_left : (b : Bool) → b ≡ false → ◌≡◌ {A = ℕ} (cond (not b) 1 0) 1
one_left true e = absurd (false≢true (sym e))
one_left false e = refl

-- fewer places are left
pub fewer_left : (marks : List Bool) (place : ℕ) → is_free marks place ≡ true → count_by not (set marks place true) < count_by not marks
fewer_left marks place h =
    let p = free_parts marks place h in
    let within : place < length marks = p.0 in
    let at : get_or marks place true ≡ false = sym (ap is_marked (slice_get-get_or marks place true within)) ∙ p.1 in
    let s = sum_by-set (λ (x : Bool). cond (not x) 1 0) marks place true true within in
    let one = one_left (get_or marks place true) at in
    omega (arith, s, one)

-- ---- ways

leads_here : (w way : ℕ) (ws : List ℕ) → w ≡ way → leads_to (w ∷ ws) way ≡ true
leads_here w way ws e = or_left (eqb w way) (leads_to ws way) (eq-eqb w way e)

pub find_leads : (test : ℕ → Bool) (ws : List ℕ) (way : ℕ) → find test ws ≡ Some way → (test way ≡ true) × (leads_to ws way ≡ true)
find_leads test [] way e = absurd (none-some way e)
find_leads test (w ∷ ws) way e = elim (true_or_false (test w)) [
  | inl t ↦
      let same : w ≡ way = same_Some w way (sym (ap (λ b. cond b (Some w) (find test ws)) t) ∙ e) in
      (subst (λ x. test x ≡ true) same t, leads_here w way ws same)
  | inr t ↦
      let h = find_leads test ws way (sym (ap (λ b. cond b (Some w) (find test ws)) t) ∙ e) in
      (h.0, or_right (eqb w way) (leads_to ws way) h.1)
]

some_none : (w : ℕ) → Some w ≡ None → ⊥
some_none w e = none-some w (sym e)

pub find_none : (test : ℕ → Bool) (ws : List ℕ) (way : ℕ) → find test ws ≡ None → leads_to ws way ≡ true → test way ≡ false
find_none test [] way e h = absurd (false≢true h)
find_none test (w ∷ ws) way e h = elim (true_or_false (test w)) [
  | inl t ↦ absurd (some_none w (sym (ap (λ b. cond b (Some w) (find test ws)) t) ∙ e))
  | inr t ↦ elim (either (eqb w way) (leads_to ws way) h) [
    | inl s ↦ subst (λ x. test x ≡ false) (eqb-true w way s) t
    | inr k ↦ find_none test ws way (sym (ap (λ b. cond b (Some w) (find test ws)) t) ∙ e) k
  ]
]

-- a place that leads somewhere has a line
line_after : (least : ℕ) (runs : RunKind) (at way : ℕ) (lines : List PlacedLine) → leads_to (ways_after least runs at (slice_get lines at)) way ≡ true → at < length lines
line_after least runs at way lines h = elim (true_or_false (ltb at (length lines))) [
  | inl t ↦ ltb-true at (length lines) t
  | inr f ↦ absurd (false≢true (sym (ap (λ o. leads_to (ways_after least runs at o) way) (slice_get_past lines at (ltb-false at (length lines) f))) ∙ h))
]

-- such a line is of the call
pub leads_within : (d : Drafted) (call : CallRead) (runs : RunKind) (at way : ℕ) → leads_to (ways_from d call runs at) way ≡ true → at < length d.lines
leads_within d call runs at way h = elim (true_or_false (is_within (call.«from», call.to) at)) [
  | inl t ↦ line_after d.head.least runs at way d.lines (sym (ap (λ b. leads_to (cond b (ways_after d.head.least runs at (slice_get d.lines at)) []) way) t) ∙ h)
  | inr f ↦ absurd (false≢true (sym (ap (λ b. leads_to (cond b (ways_after d.head.least runs at (slice_get d.lines at)) []) way) f) ∙ h))
]

-- no line of another call leads anywhere
pub no_way_outside : (d : Drafted) (call : CallRead) (runs : RunKind) (marks : List Bool) (at : ℕ) → is_within (call.«from», call.to) at ≡ false
    → free_way d call runs marks at ≡ None
no_way_outside d call runs marks at f = elim (true_or_false (is_in marks at)) [
  | inl t ↦
      ap (λ b. cond b (find (is_free marks) (ways_from d call runs at)) None) t
      ∙ ap (λ b. find (is_free marks) (cond b (ways_after d.head.least runs at (slice_get d.lines at)) [])) f
  | inr e ↦ ap (λ b. cond b (find (is_free marks) (ways_from d call runs at)) None) e
]

pub free_way_leads : (d : Drafted) (call : CallRead) (runs : RunKind) (marks : List Bool) (at way : ℕ) → free_way d call runs marks at ≡ Some way
    → (is_in marks at ≡ true) × (is_free marks way ≡ true) × (leads_to (ways_from d call runs at) way ≡ true)
free_way_leads d call runs marks at way e = elim (true_or_false (is_in marks at)) [
  | inl t ↦
      let f = find_leads (is_free marks) (ways_from d call runs at) way (sym (ap (λ b. cond b (find (is_free marks) (ways_from d call runs at)) None) t) ∙ e) in
      (t, f.0, f.1)
  | inr f ↦ absurd (none-some way (sym (ap (λ b. cond b (find (is_free marks) (ways_from d call runs at)) None) f) ∙ e))
]

-- places that lead to none that is left are closed
pub closed_where : (d : Drafted) (call : CallRead) (runs : RunKind) (marks : List Bool) → ((at : ℕ) → free_way d call runs marks at ≡ None)
    → IsClosed d call runs marks
closed_where d call runs marks none at way marked leads within =
    let found : find (is_free marks) (ways_from d call runs at) ≡ None = sym (ap (λ b. cond b (find (is_free marks) (ways_from d call runs at)) None) marked) ∙ none at in
    free_or_in marks way within (find_none (is_free marks) (ways_from d call runs at) way found leads)

-- ---- runs

-- a run goes on to a place to which its last one leads
pub comes_on : (d : Drafted) (call : CallRead) (runs : RunKind) (Start : ℕ → Type 0) (at way : ℕ) → RunComesTo d call runs Start at
    → leads_to (ways_from d call runs at) way ≡ true → RunComesTo d call runs Start way
comes_on d call runs Start at way h leads = (suc h.0, (at, h.1, leads))

-- all marks are of places to which runs come, where one more is marked to which a line leads
pub comes_more : (d : Drafted) (call : CallRead) (runs : RunKind) (Start : ℕ → Type 0) (marks : List Bool) (from place : ℕ)
    → ((at : ℕ) → is_in marks at ≡ true → RunComesTo d call runs Start at) → free_way d call runs marks from ≡ Some place
    → (at : ℕ) → is_in (set marks place true) at ≡ true → RunComesTo d call runs Start at
comes_more d call runs Start marks from place all e at h =
    let w = free_way_leads d call runs marks from place e in
    elim (marked_set marks place at h) [
      | inl same ↦ subst (λ x. RunComesTo d call runs Start x) (sym same) (comes_on d call runs Start from place (all from w.0) w.2)
      | inr k ↦ all at k
    ]

over_other : (d : Drafted) (call : CallRead) (runs : RunKind) (S T : ℕ → Type 0) → ((at : ℕ) → S at → T at) → (n at : ℕ) → ComesOver d call runs S n at
    → ComesOver d call runs T n at
over_other d call runs S T all zero at h = all at h
over_other d call runs S T all (suc n) at h = (h.0, over_other d call runs S T all n h.0 h.1, h.2)

-- runs from some places are runs from others
pub comes_other : (d : Drafted) (call : CallRead) (runs : RunKind) (S T : ℕ → Type 0) → ((at : ℕ) → S at → T at) → (at : ℕ) → RunComesTo d call runs S at
    → RunComesTo d call runs T at
comes_other d call runs S T all at h = (h.0, over_other d call runs S T all h.0 at h.1)

over_marked : (d : Drafted) (call : CallRead) (runs : RunKind) (Start : ℕ → Type 0) (marks : List Bool) → length marks ≡ length d.lines + 1
    → IsClosed d call runs marks → ((at : ℕ) → at ≤ length d.lines → Start at → is_in marks at ≡ true)
    → (n at : ℕ) → at ≤ length d.lines → ComesOver d call runs Start n at → is_in marks at ≡ true
over_marked d call runs Start marks size closed start zero at within h = start at within h
over_marked d call runs Start marks size closed start (suc n) at within h =
    let line = leads_within d call runs h.0 at h.2 in
    closed h.0 at (over_marked d call runs Start marks size closed start n h.0 (omega (arith, line)) h.1) h.2 (omega (arith, size, within))

-- marks that are closed are on all places to which runs come
pub comes_marked : (d : Drafted) (call : CallRead) (runs : RunKind) (Start : ℕ → Type 0) (marks : List Bool) → length marks ≡ length d.lines + 1
    → IsClosed d call runs marks → ((at : ℕ) → at ≤ length d.lines → Start at → is_in marks at ≡ true)
    → (at : ℕ) → at ≤ length d.lines → RunComesTo d call runs Start at → is_in marks at ≡ true
comes_marked d call runs Start marks size closed start at within h = over_marked d call runs Start marks size closed start h.0 at within h.1

-- ---- loops

-- what holds of the places so far, and of this one, holds of those up to it
pub below_next : (P : ℕ → Type 0) (from place : ℕ) → ((at : ℕ) → from ≤ at → at < place → P at) → P place → (at : ℕ) → from ≤ at → at < place + 1 → P at
below_next P from place all here at a b = elim (true_or_false (ltb at place)) [
  | inl t ↦ all at a (ltb-true at place t)
  | inr f ↦
      let past : place ≤ at = ltb-false at place f in
      let same : place ≡ at = omega (arith, past, b) in
      subst P same here
]

-- what holds of the places up to the call's end holds of each of the call
pub all_within : (P : ℕ → Type 0) (call : CallRead) (place : ℕ) → ((at : ℕ) → call.«from» ≤ at → at < place → P at) → call.to ≤ place
    → (at : ℕ) → is_within (call.«from», call.to) at ≡ true → P at
all_within P call place all end at h =
    let k = both_true (leb call.«from» at) (ltb at call.to) h in
    let before : at < call.to = ltb-true at call.to k.1 in
    all at (leb-true call.«from» at k.0) (omega (arith, before, end))

pub none_everywhere : (d : Drafted) (call : CallRead) (runs : RunKind) (marks : List Bool) (place : ℕ)
    → ((at : ℕ) → call.«from» ≤ at → at < place → free_way d call runs marks at ≡ None) → call.to ≤ place → (at : ℕ) → free_way d call runs marks at ≡ None
none_everywhere d call runs marks place all end at = elim (true_or_false (is_within (call.«from», call.to) at)) [
  | inl t ↦ all_within (λ x. free_way d call runs marks x ≡ None) call place all end at t
  | inr f ↦ no_way_outside d call runs marks at f
]

-- marks that have been spread so far
pub record Spreads (d : Drafted) (call : CallRead) (runs : RunKind) (old marks : List Bool) : Type 0 where
  pub size : length marks ≡ length old
  pub kept : KeepsMarks old marks
  pub comes : (at : ℕ) → is_in marks at ≡ true → RunComesTo d call runs (λ first. is_in old first ≡ true) at

pub spreads_first : (d : Drafted) (call : CallRead) (runs : RunKind) (old : List Bool) → Spreads d call runs old old
spreads_first d call runs old = record { size = refl; kept = λ at h. h; comes = λ at h. (zero, h) }

pub spreads_on : (d : Drafted) (call : CallRead) (runs : RunKind) (old marks : List Bool) (from place : ℕ) → Spreads d call runs old marks
    → free_way d call runs marks from ≡ Some place → Spreads d call runs old (set marks place true)
spreads_on d call runs old marks from place s e = record {
  size = length-set marks place true ∙ s.size;
  kept = λ at h. set_keeps marks place at (s.kept at h);
  comes = comes_more d call runs (λ first. is_in old first ≡ true) marks from place s.comes e;
}

-- marks of the places after loops, of which the places so far are asked
pub record PastMarked (d : Drafted) (call : CallRead) (name : ℕ) (reached old marks : List Bool) (place : ℕ) : Type 0 where
  pub size : length marks ≡ length old
  pub kept : KeepsMarks old marks
  pub marked : (at : ℕ) → call.«from» ≤ at → at < place → (way : ℕ) → past_marked d call name reached at ≡ Some way → way < length marks → is_in marks way ≡ true
  pub comes : (way : ℕ) → is_in marks way ≡ true → (is_in old way ≡ true) ⊎ ((at : ℕ) × (past_marked d call name reached at ≡ Some way))

pub past_first : (d : Drafted) (call : CallRead) (name : ℕ) (reached old : List Bool) → PastMarked d call name reached old old call.«from»
past_first d call name reached old = record { size = refl; kept = λ at h. h; marked = λ at a b. absurd (omega (arith, a, b)); comes = λ at h. inl h }

pub past_on : (d : Drafted) (call : CallRead) (name : ℕ) (reached old marks : List Bool) (place way : ℕ) → PastMarked d call name reached old marks place
    → past_marked d call name reached place ≡ Some way → PastMarked d call name reached old (set marks way true) (place + 1)
past_on d call name reached old marks place way s e = record {
  size = length-set marks way true ∙ s.size;
  kept = λ at h. set_keeps marks way at (s.kept at h);
  marked = below_next (λ at. (other : ℕ) → past_marked d call name reached at ≡ Some other → other < length (set marks way true) → is_in (set marks way true) other ≡ true)
      call.«from» place
      (λ at a b other f l. set_keeps marks way other (s.marked at a b other f (subst (λ (n : ℕ). other < n) (length-set marks way true) l)))
      (λ other f l. let same : way ≡ other = same_Some way other (sym e ∙ f) in
      subst (λ x. is_in (set marks way true) x ≡ true) same
      (set_marks marks way (subst (λ x. x < length marks) (sym same) (subst (λ (n : ℕ). other < n) (length-set marks way true) l))));
  comes = λ other h. elim (marked_set marks way other h) [
    | inl same ↦ inr (place, e ∙ ap Some (sym same))
    | inr k ↦ s.comes other k
  ];
}

pub past_skip : (d : Drafted) (call : CallRead) (name : ℕ) (reached old marks : List Bool) (place : ℕ) → PastMarked d call name reached old marks place
    → past_marked d call name reached place ≡ None → PastMarked d call name reached old marks (place + 1)
past_skip d call name reached old marks place s e = record {
  size = s.size;
  kept = s.kept;
  marked = below_next (λ at. (other : ℕ) → past_marked d call name reached at ≡ Some other → other < length marks → is_in marks other ≡ true) call.«from» place s.marked
      (λ other f l. absurd (none-some other (sym e ∙ f)));
  comes = s.comes;
}

nothing : (b : Bool) (o : Option ℕ) → o ≡ None → cond b o None ≡ None
nothing true o h = h
nothing false o h = refl

past_within : (d : Drafted) (call : CallRead) (name : ℕ) (reached : List Bool) (at way : ℕ) → past_marked d call name reached at ≡ Some way
    → is_within (call.«from», call.to) at ≡ true
past_within d call name reached at way e = elim (true_or_false (is_within (call.«from», call.to) at)) [
  | inl t ↦ t
  | inr f ↦ absurd (none-some way (sym (nothing (is_in reached at) (past_from d call name at) (ap (λ b. cond b (past_where name d.head.least (at + 1) (slice_get d.lines at)) None) f)) ∙ e))
]

pub past_all : (d : Drafted) (call : CallRead) (name : ℕ) (reached old marks : List Bool) (place : ℕ) → PastMarked d call name reached old marks place → call.to ≤ place
    → (at way : ℕ) → past_marked d call name reached at ≡ Some way → way < length marks → is_in marks way ≡ true
past_all d call name reached old marks place s end at way e =
    all_within (λ x. (other : ℕ) → past_marked d call name reached x ≡ Some other → other < length marks → is_in marks other ≡ true) call place s.marked end at
    (past_within d call name reached at way e) way e

-- ---- marks at the beginning

pub none_in : (n at : ℕ) → is_in (replicate n false) at ≡ true → ⊥
none_in zero at h = false≢true h
none_in (suc n) zero h = false≢true h
none_in (suc n) (suc at) h = none_in n at h

pub length-marks_from : (n from : ℕ) (first : Bool) → length (marks_from n from first) ≡ n
length-marks_from n from true = length-set (replicate n false) from true ∙ length-replicate n false
length-marks_from n from false = length-replicate n false

-- the one that is set at first
pub first_in : (n from at : ℕ) → is_in (marks_from n from true) at ≡ true → at ≡ from
first_in n from at h = elim (marked_set (replicate n false) from at h) [ inl e ↦ e | inr k ↦ absurd (none_in n at k) ]

pub first_marked : (n from at : ℕ) → at ≡ from → at < n → is_in (marks_from n from true) at ≡ true
first_marked n from at e l =
    subst (λ x. is_in (marks_from n from true) x ≡ true) (sym e)
    (set_marks (replicate n false) from (subst (λ (m : ℕ). from < m) (sym (length-replicate n false)) (subst (λ (x : ℕ). x < n) e l)))

past_line : (d : Drafted) (call : CallRead) (name at way : ℕ) → past_from d call name at ≡ Some way → at < length d.lines
past_line d call name at way e = elim (true_or_false (ltb at (length d.lines))) [
  | inl t ↦ ltb-true at (length d.lines) t
  | inr f ↦ absurd (none-some way (sym (nothing (is_within (call.«from», call.to) at) (past_where name d.head.least (at + 1) (slice_get d.lines at))
      (ap (past_where name d.head.least (at + 1)) (slice_get_past d.lines at (ltb-false at (length d.lines) f)))) ∙ e))
]

past_parts : (d : Drafted) (call : CallRead) (name : ℕ) (reached : List Bool) (at way : ℕ) → past_marked d call name reached at ≡ Some way
    → (is_in reached at ≡ true) × (past_from d call name at ≡ Some way)
past_parts d call name reached at way e = elim (true_or_false (is_in reached at)) [
  | inl t ↦ (t, sym (ap (λ b. cond b (past_from d call name at) None) t) ∙ e)
  | inr f ↦ absurd (none-some way (sym (ap (λ b. cond b (past_from d call name at) None) f) ∙ e))
]

first_not : (n from at lasting name : ℕ) → is_in (marks_from n from (leb lasting name)) at ≡ true → (at ≡ from) × (lasting ≤ name)
first_not n from at lasting name h = elim (true_or_false (leb lasting name)) [
  | inl t ↦ (first_in n from at (subst (λ b. is_in (marks_from n from b) at ≡ true) t h), leb-true lasting name t)
  | inr f ↦ absurd (none_in n at (subst (λ b. is_in (marks_from n from b) at ≡ true) f h))
]

-- at places that are marked at first a run has not set the name
pub start_not : (d : Drafted) (call : CallRead) (name : ℕ) (reached items past : List Bool) (n : ℕ) → items ≡ marks_from n call.«from» (leb d.lasting name)
    → MarksReached d call reached
    → ((way : ℕ) → is_in past way ≡ true → (is_in items way ≡ true) ⊎ ((at : ℕ) × (past_marked d call name reached at ≡ Some way)))
    → (at : ℕ) → is_in past at ≡ true → HasNot d call name at
start_not d call name reached items past n begun reaches comes at h = elim (comes at h) [
  | inl k ↦ inl (first_not n call.«from» at d.lasting name (subst (λ ms. is_in ms at ≡ true) begun k))
  | inr k ↦ let p = past_parts d call name reached k.0 at k.1 in inr (k.0, reaches.comes k.0 p.0, p.1)
]

-- where a run has not set the name is marked
pub start_marked : (d : Drafted) (call : CallRead) (name : ℕ) (reached items past marks : List Bool) (n : ℕ) → n ≡ length d.lines + 1
    → items ≡ marks_from n call.«from» (leb d.lasting name) → KeepsMarks items past
    → ((at way : ℕ) → past_marked d call name reached at ≡ Some way → way < length past → is_in past way ≡ true)
    → length past ≡ n → KeepsMarks past marks → ((before : ℕ) → before ≤ length d.lines → IsPlaceReached d call before → is_in reached before ≡ true)
    → (at : ℕ) → at ≤ length d.lines → HasNot d call name at → is_in marks at ≡ true
start_marked d call name reached items past marks n size begun kept marked long keeps all at within (inl h) =
    keeps at (kept at (subst (λ ms. is_in ms at ≡ true) (sym (begun ∙ ap (marks_from n call.«from») (le-leb d.lasting name h.1))) (first_marked n call.«from» at h.0 (omega (arith, within, size)))))
start_marked d call name reached items past marks n size begun kept marked long keeps all at within (inr h) =
    let line = past_line d call name h.0 at h.2 in
    let there : is_in reached h.0 ≡ true = all h.0 (omega (arith, line)) h.1 in
    keeps at (marked h.0 at (ap (λ b. cond b (past_from d call name h.0) None) there ∙ h.2) (omega (arith, within, size, long)))

-- ---- marks that a loop sets

-- the places so far that are asked for are marked, and no others but those that were
pub record MarkedSo (from : ℕ) (Asked : ℕ → Type 0) (old marks : List Bool) (place : ℕ) : Type 0 where
  pub size : length marks ≡ length old
  pub kept : KeepsMarks old marks
  pub marked : (at : ℕ) → from ≤ at → at < place → Asked at → at < length marks → is_in marks at ≡ true
  pub comes : (at : ℕ) → is_in marks at ≡ true → (is_in old at ≡ true) ⊎ Asked at

pub so_first : (from : ℕ) (Asked : ℕ → Type 0) (old : List Bool) → MarkedSo from Asked old old from
so_first from Asked old = record { size = refl; kept = λ at h. h; marked = λ at a b. absurd (omega (arith, a, b)); comes = λ at h. inl h }

pub so_on : (from : ℕ) (Asked : ℕ → Type 0) (old marks : List Bool) (place : ℕ) → MarkedSo from Asked old marks place → Asked place
    → MarkedSo from Asked old (set marks place true) (place + 1)
so_on from Asked old marks place s here = record {
  size = length-set marks place true ∙ s.size;
  kept = λ at h. set_keeps marks place at (s.kept at h);
  marked = below_next (λ at. Asked at → at < length (set marks place true) → is_in (set marks place true) at ≡ true) from place
      (λ at a b h l. set_keeps marks place at (s.marked at a b h (subst (λ (n : ℕ). at < n) (length-set marks place true) l)))
      (λ h l. set_marks marks place (subst (λ (n : ℕ). place < n) (length-set marks place true) l));
  comes = λ at h. elim (marked_set marks place at h) [ inl e ↦ inr (subst Asked (sym e) here) | inr k ↦ s.comes at k ];
}

pub so_skip : (from : ℕ) (Asked : ℕ → Type 0) (old marks : List Bool) (place : ℕ) → MarkedSo from Asked old marks place → (Asked place → ⊥)
    → MarkedSo from Asked old marks (place + 1)
so_skip from Asked old marks place s none = record {
  size = s.size;
  kept = s.kept;
  marked = below_next (λ at. Asked at → at < length marks → is_in marks at ≡ true) from place s.marked (λ h l. absurd (none h));
  comes = s.comes;
}
