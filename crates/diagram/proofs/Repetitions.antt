-- The rows of events show just these events, also where a repetition is counted.
use Rattle.std.proofs.Common.{◌≡◌, ℕ, zero, suc, ◌+◌, ◌-◌, ◌^◌, ◌==◌, ◌&&◌, not, Bool, true, false, if◌then◌else◌, is_some, List, [], ◌∷◌, ◌++◌, length, slice_get, slice_set, Option, Some, None, refl, sym, ap, ◌∙◌, append_assoc, arith}
use Rattle.std.specs.Prelude.{nat_lt}
use Rattle.std.proofs.lemmas.Bool.{eqb-true}
use Rattle.std.proofs.lemmas.Grind.{replicate_next}
use Rattle.rmecore.specs.declared.core_done.CoreDone.{CoreDone}
use Rattle.rmecore.specs.declared.kind.Kind.{Kind}
use Rattle.rmecore.specs.declared.kind.Kind.TheVariants.{Look, Weigh}
use Rattle.rmecore.specs.declared.outer.Outer.{Outer}
use Rattle.rmecore.specs.declared.word.Word.{Word}
use Rattle.rmecore.specs.declared.word.Word.TheVariants.{Choosing, Number, Inside, Data}
use Rattle.redomail.specs.declared.deed.Deed.{Deed}
use Rattle.rmeworld.specs.declared.answer.Answer.{Answer}
use Rattle.rmeworld.specs.declared.stepped.Stepped.{Stepped}
use Rattle.diagram.proofs.Common.{append-nil, Happened, RowAct, DiagramRow, DiagramEvent, Took, Fell, events_in, events_shown, row_of, silent_step}
use Rattle.diagram.specs.declared.act.RowAct.TheVariants as acts
use Rattle.diagram.specs.Followed.{act_of_step}
use Rattle.diagram.specs.Repetitions.{wait_alike, is_same_word, is_bare, repeats, last_of, counted_by, counted_last, with_counted, with_row, with_events}
use Rattle.diagram.proofs.Heard.{events_last}

-- ---- a step that is repeated

same_kind : (a b : Kind) → wait_alike a b ≡ true → a ≡ b
same_kind Look Look is = refl
same_kind Weigh Weigh is = refl
same_kind _ _ is = absurd cc

same_word : (a b : Word) → is_same_word a b ≡ true → a ≡ b
same_word (Choosing i) (Choosing j) is = ap Choosing (eqb-true i j is)
same_word (Number i) (Number j) is = ap Number (eqb-true i j is)
same_word (Inside i) (Inside j) is = ap Inside (eqb-true i j is)
same_word (Data i) (Data j) is = ap Data (eqb-true i j is)
same_word _ _ is = absurd cc

none_of : {A B : Type 0} (a : Option A) (b : Option B) → (not (is_some a) && not (is_some b)) ≡ true → (a ≡ None) × (b ≡ None)
none_of None None is = (refl, refl)
none_of _ _ is = absurd cc

all_of_three : (a b c : Bool) → (a && b && c) ≡ true → (a ≡ true) × (b ≡ true) × (c ≡ true)
all_of_three true true true is = (refl, refl, refl)
all_of_three _ _ _ is = absurd cc

all_of_five : (a b c d e : Bool) → (a && b && c && d && e) ≡ true → (a ≡ true) × (b ≡ true) × (c ≡ true) × (d ≡ true) × (e ≡ true)
all_of_five true true true true true is = (refl, refl, refl, refl, refl)
all_of_five _ _ _ _ _ is = absurd cc

abbrev happened_of : Kind → Word → ℕ → Option Outer → Option CoreDone → Happened
happened_of kind word value outer done = record { kind = kind; word = word; value = value; outer = outer; done = done }

pub same_step : (first second : Happened) → repeats first second ≡ true → first ≡ second
same_step first second is =
    let all = all_of_five (wait_alike first.kind second.kind) (is_same_word first.word second.word) (first.value == second.value) (is_bare first) (is_bare second) is in
    let none = none_of first.outer first.done all.3 in
    let no_more = none_of second.outer second.done all.4 in
    ap (λ (kind : Kind). happened_of kind first.word first.value first.outer first.done) (same_kind first.kind second.kind all.0)
    ∙ ap (λ (word : Word). happened_of second.kind word first.value first.outer first.done) (same_word first.word second.word all.1)
    ∙ ap (λ (value : ℕ). happened_of second.kind second.word value first.outer first.done) (eqb-true first.value second.value all.2)
    ∙ ap (λ (outer : Option Outer). happened_of second.kind second.word second.value outer first.done) (none.0 ∙ sym no_more.0)
    ∙ ap (λ (done : Option CoreDone). happened_of second.kind second.word second.value second.outer done) (none.1 ∙ sym no_more.1)

-- ---- a row of one event

silent_is : (step : Stepped) → step.deed ≡ None → step.answer ≡ None → silent_step step.happened ≡ step
silent_is step no_deed no_answer =
    ap (λ (deed : Option Deed). record { happened = step.happened; deed = deed; answer = None }) (sym no_deed)
    ∙ ap (λ (answer : Option Answer). record { happened = step.happened; deed = step.deed; answer = answer }) (sym no_answer)

step_shown : (p : ℕ) (step : Stepped) (deed : Option Deed) (answer : Option Answer) → step.deed ≡ deed → step.answer ≡ answer → events_shown p (act_of_step deed answer step) ≡ Took p step ∷ []
step_shown p step None None no_deed no_answer = ap (λ (s : Stepped). Took p s ∷ []) (silent_is step no_deed no_answer)
step_shown p step None (Some answer) no_deed is = refl
step_shown p step (Some deed) answer is other = refl

row_shown : (event : DiagramEvent) → events_shown (row_of event).p (row_of event).act ≡ event ∷ []
row_shown (Took p step) = step_shown p step step.deed step.answer refl refl
row_shown (Fell p deed) = refl

-- ---- a row that is counted once more

counted_if : (p : ℕ) (old : DiagramRow) (before happened : Happened) (times : ℕ) (new : DiagramRow) (b : Bool) → (p == old.p && repeats before happened && nat_lt times (2 ^ 64 - 1)) ≡ b
    → old.act ≡ acts.Silent before times → (if b then Some (record { p = old.p; act = acts.Silent before (times + 1) }) else None) ≡ Some new
    → events_shown new.p new.act ≡ events_shown old.p old.act ++ Took p (silent_step happened) ∷ []
counted_if p old before happened times new false is at e = absurd cc
counted_if p old before happened times new true is at e =
    let all = all_of_three (p == old.p) (repeats before happened) (nat_lt times (2 ^ 64 - 1)) is in
    let again : DiagramRow = record { p = old.p; act = acts.Silent before (times + 1) } in
    let same : again ≡ new = cc in
    let x : DiagramEvent = Took old.p (silent_step before) in
    ap (λ (row : DiagramRow). events_shown row.p row.act) (sym same) ∙ replicate_next times x
    ∙ ap (λ (act : RowAct). events_shown old.p act ++ x ∷ []) (sym at)
    ∙ ap (λ (q : ℕ). events_shown old.p old.act ++ Took q (silent_step before) ∷ []) (sym (eqb-true p old.p all.0))
    ∙ ap (λ (h : Happened). events_shown old.p old.act ++ Took p (silent_step h) ∷ []) (same_step before happened all.1)

counted_silent : (p : ℕ) (old : DiagramRow) (before : RowAct) (happened : Happened) (new : DiagramRow) → old.act ≡ before → counted_by p old before (acts.Silent happened 1) ≡ Some new
    → events_shown new.p new.act ≡ events_shown old.p old.act ++ Took p (silent_step happened) ∷ []
counted_silent p old (acts.Silent before times) happened new at is =
    counted_if p old before happened times new (p == old.p && repeats before happened && nat_lt times (2 ^ 64 - 1)) refl at is
counted_silent p old (acts.Telling step) happened new at is = absurd cc
counted_silent p old (acts.Fell deed) happened new at is = absurd cc

no_step : (p : ℕ) (old : DiagramRow) (before : RowAct) (step : Stepped) (new : DiagramRow) → counted_by p old before (acts.Telling step) ≡ Some new → ⊥
no_step p old (acts.Silent happened times) step new is = cc
no_step p old (acts.Telling other) step new is = cc
no_step p old (acts.Fell deed) step new is = cc

no_crash : (p : ℕ) (old : DiagramRow) (before : RowAct) (deed : Deed) (new : DiagramRow) → counted_by p old before (acts.Fell deed) ≡ Some new → ⊥
no_crash p old (acts.Silent happened times) deed new is = cc
no_crash p old (acts.Telling step) deed new is = cc
no_crash p old (acts.Fell other) deed new is = cc

counted_step : (p : ℕ) (step : Stepped) (old new : DiagramRow) (deed : Option Deed) (answer : Option Answer) → step.deed ≡ deed → step.answer ≡ answer
    → counted_by p old old.act (act_of_step deed answer step) ≡ Some new → events_shown new.p new.act ≡ events_shown old.p old.act ++ Took p step ∷ []
counted_step p step old new None None no_deed no_answer is =
    counted_silent p old old.act step.happened new refl is ∙ ap (λ (s : Stepped). events_shown old.p old.act ++ Took p s ∷ []) (silent_is step no_deed no_answer)
counted_step p step old new None (Some answer) no_deed other is = absurd (no_step p old old.act step new is)
counted_step p step old new (Some deed) answer other more is = absurd (no_step p old old.act step new is)

counted_event : (event : DiagramEvent) (o : Option DiagramRow) (new : DiagramRow) → counted_last (row_of event) o ≡ Some new
    → (old : DiagramRow) × (o ≡ Some old) × (events_shown new.p new.act ≡ events_shown old.p old.act ++ event ∷ [])
counted_event event None new is = absurd cc
counted_event (Took p step) (Some old) new is = (old, refl, counted_step p step old new step.deed step.answer refl refl is)
counted_event (Fell p deed) (Some old) new is = absurd (no_crash p old old.act deed new is)

-- ---- rows

last_changed : (rows : List DiagramRow) (i : ℕ) (old new : DiagramRow) (x : DiagramEvent) → length rows ≡ suc i → slice_get rows i ≡ Some old → events_shown new.p new.act ≡ events_shown old.p old.act ++ x ∷ []
    → events_in (slice_set rows i new) ≡ events_in rows ++ x ∷ []
last_changed [] i old new x long at more = absurd cc
last_changed (row ∷ []) zero old new x long at more =
    let is : row ≡ old = cc in
    append-nil (events_shown new.p new.act) ∙ more ∙ ap (λ (r : DiagramRow). events_shown r.p r.act ++ x ∷ []) (sym is)
    ∙ ap (λ (es : List DiagramEvent). es ++ x ∷ []) (sym (append-nil (events_shown row.p row.act)))
last_changed (row ∷ next ∷ rows) zero old new x long at more = absurd (omega (arith, long))
last_changed (row ∷ rows) (suc i) old new x long at more =
    ap (λ (es : List DiagramEvent). events_shown row.p row.act ++ es) (last_changed rows i old new x (omega (arith, long)) at more)
    ∙ sym (append_assoc (events_shown row.p row.act) (events_in rows) (x ∷ []))

some_rows : (rows : List DiagramRow) (i : ℕ) (old : DiagramRow) → slice_get rows i ≡ Some old → length rows ≡ suc (length rows - 1)
some_rows [] i old at = absurd cc
some_rows (row ∷ rows) i old at = omega arith

event_shown : (rows : List DiagramRow) (event : DiagramEvent) → events_in (with_row rows (row_of event)) ≡ events_in rows ++ event ∷ []
event_shown rows event = by (counted_last (row_of event) (last_of rows)) refl
  where
    by : (o : Option DiagramRow) → counted_last (row_of event) (last_of rows) ≡ o → events_in (with_counted rows (row_of event) o) ≡ events_in rows ++ event ∷ []
    by None is = events_last rows (row_of event) ∙ ap (λ (es : List DiagramEvent). events_in rows ++ es) (row_shown event)
    by (Some new) is =
        let last = counted_event event (last_of rows) new is in
        last_changed rows (length rows - 1) last.0 new event (some_rows rows (length rows - 1) last.0 last.1) last.1 last.2

pub all_shown : (rows : List DiagramRow) (events : List DiagramEvent) → events_in (with_events rows events) ≡ events_in rows ++ events
all_shown rows [] = sym (append-nil (events_in rows))
all_shown rows (event ∷ events) =
    all_shown (with_row rows (row_of event)) events ∙ ap (λ (es : List DiagramEvent). es ++ events) (event_shown rows event) ∙ append_assoc (events_in rows) (event ∷ []) events
