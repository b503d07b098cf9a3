-- Steps of a script on the data words in a row, in terms of views alone.
use Rattle.std.proofs.Common.{◌≡◌, ℕ, zero, suc, ◌+◌, ◌*◌, ◌<◌, ◌≤◌, ◌==◌, ◌&&◌, true, false, List, [], ◌∷◌, ◌++◌, length, drop, slice_index, Option, Some, None, IsSome, ◌≢◌, nat_le, nat_lt, unwrap_or, refl, sym, ap, ◌∙◌, subst, arith, eq-eqb}
use Rattle.robust.proofs.AccessCommon.{Access, Load, Store, Get as Gets, Put as Puts, Data as DataAt, kind_of, word_of, carried_value, Inside, Reply, Stored, IsLayout, saturate, last_at, place_at, size, Script}
use Rattle.robust.proofs.AccessCommon.{puts, append_decision, record_of, held-small, length-store_steps, step-record, step-entry, step-disarm, place_low, place_up, place_small, Mail, Working, answer_at}
use Rattle.robust.proofs.AccessCommon.{by_script, blocked_by, Doing, ProcessState, next_process_state, access_by, TakenStep, Setup, IsSeatView, process_state_now, SeatView, moved_process_state, next_entry, Adds, CarriesPending, next_of, outcome_of}
use Rattle.robust.proofs.AccessCommon.{access_event, IsRun, process_state_moves, more, at_append, append_begun, HasLeft, steps_of, stored_so_far, free_process_state, Unanswered, EndsIn}
use Rattle.std.proofs.lemmas.List.{drop_all}
use Rattle.std.proofs.lemmas.Bool.{cond_both, eqb-false}
use Rattle.redomail.specs.Tasks.{early_reply}
use Rattle.redomail.specs.declared.layout.Layout.{Layout}
use Rattle.table_runs.specs.ReadMessages.{cells_of}
use Rattle.table_runs.proofs.Runs.{last_reads, legal_front}
use Rattle.table_runs.proofs.Shown.{runs_show}
use Rattle.redomail.specs.declared.record.Record.{Record}
use Rattle.robust.specs.declared.access.fast_append.NewEntry.{NewEntry}
use Rattle.redomail.specs.declared.task.Task.TheVariants as task
use Rattle.redomail.specs.Script.{Get as Asks, Put as Writes, Done}
use Rattle.robust.specs.FastAppend.{IsSenderOf}
use Rattle.robust.proofs.FreeSteps.{unanswered_none, unanswered_then, silent_by, ended_by}

-- an access of an append under way, by the holder
abbrev doing : ℕ → List ℕ → Script Reply → ProcessState
doing seq value left = record { lock = Inside; mended = true; barred = false; script_state = Doing (Working (task.Append seq value)) left }

-- one more step of an append, after some without an answer
module _ (x y z : SeatView) (k : ℕ) (p : Unanswered x k 0 y) (seq : ℕ) (value : List ℕ) (left after : Script Reply) (a : Access) (v : ℕ)
    (at : process_state_now y ≡ doing seq value left)
    (next : access_by y.setup.limit y.by Inside (Doing (Working (task.Append seq value)) left) ≡ Some a)
    (may : IsSome (moved_process_state y (kind_of a) (word_of a) (carried_value a v)))
    (adv : CarriesPending y (kind_of a) (word_of a) (carried_value a v) z)
    (says : answer_at (doing seq value left) (kind_of a) (carried_value a v) ≡ by_script (Working (task.Append seq value)) true after)
  where
    is_next : next_of y ≡ Some a
    is_next = ap (λ (q : ProcessState). access_by y.setup.limit y.by q.lock q.script_state) at ∙ next

    reported_so : (outcome_of y a v).answer ≡ by_script (Working (task.Append seq value)) true after
    reported_so = ap (λ (q : ProcessState). answer_at q (kind_of a) (carried_value a v)) at ∙ says

    silent : by_script (Working (task.Append seq value)) true after ≡ None → Unanswered x (k + 1) 0 z
    silent none = silent_by x y z k p a v is_next may adv (reported_so ∙ none) (ap (λ (q : ProcessState). blocked_by y.by q.lock q.script_state (kind_of a) (carried_value a v)) at)

    left_by : (s : Script Reply) → s ≡ after → HasLeft x (k + 1) s z
    left_by (Done reply) e = ended_by x y z k p a v is_next may adv (Mail reply) (reported_so ∙ ap (by_script (Working (task.Append seq value)) true) (sym e))
    left_by s e = silent (ap (by_script (Working (task.Append seq value)) true) (sym e))

    pub has_left : HasLeft x (k + 1) after z
    has_left = left_by after refl

-- a get
module _ (y : SeatView) (seq : ℕ) (value : List ℕ) (i v : ℕ) (rest : ℕ → Script Reply) (at : process_state_now y ≡ at_append seq value (Asks i rest)) where
  same_word : (i == i) ≡ true
  same_word = eq-eqb i i refl

  pub asked_may : IsSome (moved_process_state y Gets (DataAt i) v)
  asked_may = subst (λ (q : ProcessState). IsSome (next_process_state y.setup.layout y.setup.limit q (access_event y.by Gets (DataAt i) v))) (sym at) (rw same_word refl)

  module _ (z : SeatView) (adv : CarriesPending y Gets (DataAt i) v z) where
    pub asked_goes : process_state_now z ≡ at_append seq value (rest v)
    asked_goes = process_state_moves y z Gets (DataAt i) v adv ∙ ap (λ (q : ProcessState). unwrap_or (next_process_state y.setup.layout y.setup.limit q (access_event y.by Gets (DataAt i) v)) q) at ∙ rw same_word refl

    pub asked_left : (x : SeatView) (k : ℕ) → Unanswered x k 0 y → HasLeft x (k + 1) (rest v) z
    asked_left x k p = has_left x y z k p seq value (Asks i rest) (rest v) (Load Gets (DataAt i)) v at refl asked_may adv refl

-- a put
module _ (y : SeatView) (seq : ℕ) (value : List ℕ) (i v : ℕ) (rest : Script Reply) (at : process_state_now y ≡ at_append seq value (Writes i v rest)) where
  both_same : ((i == i) && (v == v)) ≡ true
  both_same = let a : (i == i) ≡ true = eq-eqb i i refl in let b : (v == v) ≡ true = eq-eqb v v refl in rw (a, b) refl

  pub written_may : IsSome (moved_process_state y Puts (DataAt i) v)
  written_may = subst (λ (q : ProcessState). IsSome (next_process_state y.setup.layout y.setup.limit q (access_event y.by Puts (DataAt i) v))) (sym at) (rw both_same refl)

  module _ (z : SeatView) (adv : CarriesPending y Puts (DataAt i) v z) where
    pub written_goes : process_state_now z ≡ at_append seq value rest
    written_goes = process_state_moves y z Puts (DataAt i) v adv ∙ ap (λ (q : ProcessState). unwrap_or (next_process_state y.setup.layout y.setup.limit q (access_event y.by Puts (DataAt i) v)) q) at ∙ rw both_same refl

    pub written_left : (x : SeatView) (k : ℕ) → Unanswered x k 0 y → HasLeft x (k + 1) rest z
    written_left x k p = has_left x y z k p seq value (Writes i v rest) rest (Store Puts (DataAt i) v) 0 at refl written_may adv refl

-- count is at most the mailbox's room
pub count_fits : (x y z : SeatView) (v : ℕ) (first : TakenStep) → IsSeatView x → Adds x first y → CarriesPending y Gets (DataAt 2) v z → v ≤ x.setup.layout.cap
count_fits x y z v first seat_view was adv =
    let a = adv.adds in
    let s = x.setup in
    let e = next_entry y Gets (DataAt 2) v in
    let run : IsRun s ((y.seen ++ a.between) ++ e ∷ []) = subst (λ (t : Setup × List TakenStep). IsRun t.0 t.1) (λ i. ((a.setup ∙ was.setup) i, a.seen i)) a.run in
    let is : cells_of s (y.seen ++ a.between) 2 ≡ v = last_reads s (y.seen ++ a.between) e run refl in
    let fits : cells_of s (y.seen ++ a.between) 2 ≤ s.layout.cap = (runs_show s (y.seen ++ a.between) seat_view.size.layout (legal_front s (y.seen ++ a.between) (e ∷ []) run)).1 in
    omega arith

-- the sizes of an entry are those of its sender's arena
pub lawful : (x : SeatView) (e : NewEntry) → IsSenderOf x e → IsSeatView x → IsLayout e.setup.layout
lawful x e of seat_view = subst (λ (s : Setup). IsLayout s.layout) of.0 seat_view.size.layout

-- a put that others follow
some_left : (xs : List (ℕ × ℕ)) (k : ℕ) → k < length xs → (e : ℕ × ℕ) × (rest : List (ℕ × ℕ)) × (drop k xs ≡ e ∷ rest)
some_left [] k h = absurd (omega arith)
some_left (x ∷ xs) zero h = (x, xs, refl)
some_left (x ∷ xs) (suc k) h = some_left xs k (omega arith)

module _ (y : SeatView) (e : NewEntry) (k i v : ℕ) (here : process_state_now y ≡ stored_so_far e k) (next : drop k (steps_of e) ≡ (i, v) ∷ drop (k + 1) (steps_of e)) where
  there : process_state_now y ≡ at_append e.seq e.value (Writes i v (puts (drop (k + 1) (steps_of e)) (Done Stored)))
  there = here ∙ ap (λ (xs : List (ℕ × ℕ)). at_append e.seq e.value (puts xs (Done Stored))) next

  pub put_may : IsSome (moved_process_state y Puts (DataAt i) v)
  put_may = written_may y e.seq e.value i v (puts (drop (k + 1) (steps_of e)) (Done Stored)) there

  module _ (z : SeatView) (adv : CarriesPending y Puts (DataAt i) v z) where
    pub put_goes : process_state_now z ≡ stored_so_far e (k + 1)
    put_goes = written_goes y e.seq e.value i v (puts (drop (k + 1) (steps_of e)) (Done Stored)) there z adv

    pub put_silent : k + 1 < 8 + 2 * length e.value → Unanswered y 1 0 z
    put_silent more =
        let long = length-store_steps e.setup.layout e.own (record_of e.at e.seq e.value) in
        let some = some_left (steps_of e) (k + 1) (omega arith) in
        let h = written_left y e.seq e.value i v (puts (drop (k + 1) (steps_of e)) (Done Stored)) there z adv y 0 (unanswered_none y) in
        subst (λ (xs : List (ℕ × ℕ)). HasLeft y (0 + 1) (puts xs (Done Stored)) z) some.2 h

-- the three gets of an append
module _ (x : SeatView) (seq : ℕ) (value : List ℕ) (at : process_state_now x ≡ append_begun x seq value) where
  pub closed_may : (v : ℕ) → IsSome (moved_process_state x Gets (DataAt 1) v)
  closed_may v = asked_may x seq value 1 v _ at

  module _ (y : SeatView) (closed : ℕ) (adv : CarriesPending x Gets (DataAt 1) closed y) where
    asks_count : process_state_now y ≡ at_append seq value (Asks 2 (λ count. Asks (last_at x.setup.layout x.by) (λ last. append_decision x.setup.layout x.by seq value closed count last)))
    asks_count = asked_goes x seq value 1 closed _ at y adv

    pub count_may : (v : ℕ) → IsSome (moved_process_state y Gets (DataAt 2) v)
    count_may v = asked_may y seq value 2 v _ asks_count

    module _ (z : SeatView) (count : ℕ) (adv2 : CarriesPending y Gets (DataAt 2) count z) (i : ℕ) (is : i ≡ last_at x.setup.layout x.by) where
      asks_last : process_state_now z ≡ at_append seq value (Asks i (λ last. append_decision x.setup.layout x.by seq value closed count last))
      asks_last =
          asked_goes y seq value 2 count _ asks_count z adv2
          ∙ ap (λ (j : ℕ). at_append seq value (Asks j (λ last. append_decision x.setup.layout x.by seq value closed count last))) (sym is)

      pub last_may : (v : ℕ) → IsSome (moved_process_state z Gets (DataAt i) v)
      last_may v = asked_may z seq value i v _ asks_last

      module _ (w : SeatView) (last : ℕ) (adv3 : CarriesPending z Gets (DataAt i) last w) where
        pub heads_go : process_state_now w ≡ at_append seq value (append_decision x.setup.layout x.by seq value closed count last)
        heads_go = asked_goes z seq value i last _ asks_last w adv3

        pub heads_left : HasLeft x 3 (append_decision x.setup.layout x.by seq value closed count last) w
        heads_left =
            let one : Unanswered x (0 + 1) 0 y = asked_left x seq value 1 closed _ at y adv x 0 (unanswered_none x) in
            let two : Unanswered x ((0 + 1) + 1) 0 z = asked_left y seq value 2 count _ asks_count z adv2 x (0 + 1) one in
            asked_left z seq value i last _ asks_last w adv3 x ((0 + 1) + 1) two

-- the rows of its puts, and the last puts
module _ (e : NewEntry) where
  abbrev l : Layout
  l = e.setup.layout

  abbrev r : Record
  r = record_of e.at e.seq e.value

  pub record_row : length e.value ≤ 8 → (j : ℕ) → j < 2 + length e.value → drop (0 + j) (steps_of e) ≡ (4 + j, slice_index (e.at ∷ e.seq ∷ e.value) j) ∷ drop (0 + j + 1) (steps_of e)
  record_row few j h =
      let a : j ≡ 0 + j = omega arith in
      subst (λ (n : ℕ). drop n (steps_of e) ≡ (4 + j, slice_index (e.at ∷ e.seq ∷ e.value) j) ∷ drop (n + 1) (steps_of e)) a (step-record l e.own r j few h)

  pub entry_row : (row start : ℕ) → row ≡ 2 + length e.value → start ≡ place_at l e.at → place_at l e.at + (2 + length e.value) ≤ 900000 → (j : ℕ) → j < 2 + length e.value
      → drop (row + 1 + j) (steps_of e) ≡ (start + j, slice_index (e.own ∷ e.seq ∷ e.value) j) ∷ drop (row + 1 + j + 1) (steps_of e)
  entry_row row start is at small j h =
      let k : row + 1 + j ≡ 3 + length e.value + j = omega arith in
      let here : saturate (place_at l e.at + j) ≡ start + j = held-small (place_at l e.at + j) (omega arith) ∙ ap (λ (n : ℕ). n + j) (sym at) in
      subst (λ (n : ℕ). drop (row + 1 + j) (steps_of e) ≡ (n, slice_index (e.own ∷ e.seq ∷ e.value) j) ∷ drop (row + 1 + j + 1) (steps_of e)) here (step-entry l e.own r (row + 1 + j) j k h)

  last_put_next : (k : ℕ) → k ≡ 7 + 2 * length e.value → drop k (steps_of e) ≡ (3, 0) ∷ []
  last_put_next k is =
      let long = length-store_steps l e.own r in
      let none : drop (k + 1) (steps_of e) ≡ [] = drop_all (k + 1) (steps_of e) (omega arith) in
      step-disarm l e.own r k is ∙ ap (λ (xs : List (ℕ × ℕ)). (3, 0) ∷ xs) none

-- the place of an entry
pub room_for : (l : Layout) (a : ℕ) → IsLayout l → a < l.cap → (place_at l a + 2 + l.width ≤ size l) × (size l ≤ 900000) × (10 + l.width + l.procs ≤ size l)
room_for l a lawful below = (place_up l a l.cap below, place_small l l.cap lawful lawful.small, place_low l l.cap)

-- the puts of a storing append in a row: two rows, with the commit between them, and the last three words
module _ (x y1 y2 y3 y4 y5 : SeatView) (e : NewEntry) (u1 : Unanswered x (2 + length e.value) 0 y1) (u2 : Unanswered y1 1 0 y2) (u3 : Unanswered y2 (2 + length e.value) 0 y3) (u4 : Unanswered y3 1 0 y4) (u5 : Unanswered y4 1 0 y5) where
  pub all_five : Unanswered x (((((2 + length e.value) + 1) + (2 + length e.value)) + 1) + 1) 0 y5
  all_five =
      unanswered_then x y4 y5 ((((2 + length e.value) + 1) + (2 + length e.value)) + 1) 1 0
      (unanswered_then x y3 y4 (((2 + length e.value) + 1) + (2 + length e.value)) 1 0 (unanswered_then x y2 y3 ((2 + length e.value) + 1) (2 + length e.value) 0 (unanswered_then x y1 y2 (2 + length e.value) 1 0 u1 u2) u3) u4) u5

module _ (y : SeatView) (e : NewEntry) (k : ℕ) (is : k ≡ 7 + 2 * length e.value) (here : process_state_now y ≡ stored_so_far e k) where
  one_left : process_state_now y ≡ at_append e.seq e.value (Writes 3 0 (Done Stored))
  one_left = here ∙ ap (λ (xs : List (ℕ × ℕ)). at_append e.seq e.value (puts xs (Done Stored))) (last_put_next e k is)

  pub disarm_may : IsSome (moved_process_state y Puts (DataAt 3) 0)
  disarm_may = written_may y e.seq e.value 3 0 (Done Stored) one_left

  module _ (z : SeatView) (adv : CarriesPending y Puts (DataAt 3) 0 z) where
    pub all_stored : process_state_now z ≡ free_process_state Inside true
    all_stored = written_goes y e.seq e.value 3 0 (Done Stored) one_left z adv

    pub all_ends : (x : SeatView) → Unanswered x (((((2 + length e.value) + 1) + (2 + length e.value)) + 1) + 1) 0 y → EndsIn x (8 + 2 * length e.value) (Mail Stored) z
    all_ends x five =
        let many : (((((2 + length e.value) + 1) + (2 + length e.value)) + 1) + 1) + 1 ≡ 8 + 2 * length e.value = omega arith in
        subst (λ (j : ℕ). EndsIn x j (Mail Stored) z) many (written_left y e.seq e.value 3 0 (Done Stored) one_left z adv x (((((2 + length e.value) + 1) + (2 + length e.value)) + 1) + 1) five)

-- an append that has no early reply finds room
pub early_room : (cap seq closed count last : ℕ) → early_reply cap seq closed count last ≡ None → count ≢ cap
early_room cap seq closed count last =
    let P : Option Reply → Type 0 = λ o. o ≡ None → count ≢ cap in
    cond_both (seq == 0) _ _ P (λ _. λ e. absurd (cc)) (λ _.
    cond_both (nat_le seq last) _ _ P (λ _. λ e. absurd (cc)) (λ _.
    cond_both (nat_lt (last + 1) seq) _ _ P (λ _. λ e. absurd (cc)) (λ _.
    cond_both (closed == 1) _ _ P (λ _. λ e. absurd (cc)) (λ _.
    cond_both (count == cap) _ _ P (λ _. λ e. absurd (cc)) (λ n. λ e. eqb-false count cap n)))))
