-- Two laws of runs: a process's state follows from its own entries, and an entry that is allowed prolongs a run.
use Rattle.std.proofs.Common.{◌≡◌, ◌≢◌, ℕ, zero, suc, ◌-◌, ◌<◌, ◌==◌, ◌≤◌, nat_lt, lt-ltb, le-ltb, ltb-true, Bool, true, false, if◌then◌else◌, List, [], ◌∷◌, ◌++◌, length, set, get_or, replicate, Option, Some, None, IsSome, unwrap_or, refl, sym, ap, ◌∙◌, subst, inl, inr, arith, append_assoc, append-nil, eq-eqb, ne_eqb, length-set, get_or-set_same, get_or-set_other}
use Rattle.table_runs.proofs.Common.{cases_Bool, cases_eq, length-replicate, get_or-replicate, filter-append, dite, ℕ_discrete, Kind, Glance, Own, Word}
use Rattle.table_runs.proofs.Common.{Choosing as ChoosingOf, Number as NumberOf, Data as DataAt, put, is_store, write, put_same, put_other, Layout, Words, size, Call, ProcessState, Begins, next_process_state, WorldEvent}
use Rattle.table_runs.proofs.Common.{at_rest, Moves, Falls, Glances, who, dead_process, GlobalState, at_first, Execution, last_global_state, put_cell, reading, state_after_event, own_world_events, words_after, cells_after, execution_front}
use Rattle.table_runs.proofs.Common.{execution_back, TakenStep, Setup, count_from, before, access_event, world_events, events_of_run, entries_of, IsRun, end_of, process_state_past, process_state_of, has, index, InTable, AllowsEvents, word_count, IsBeyond, Shows}
use Rattle.table_runs.proofs.Common.{stores}
use Rattle.rmecore.specs.declared.word.Word.TheVariants.{Inside as InsideOf}
use Rattle.rmeworld.specs.World.{ReadsWord}
use Rattle.rmeworld.proofs.ExecutionGrows.{process_states_are_own}

pub own-append : (p : ℕ) (xs ys : List TakenStep) → entries_of p (xs ++ ys) ≡ entries_of p xs ++ entries_of p ys
own-append p xs ys = filter-append (λ (e : TakenStep). e.by == p) xs ys

-- the entry is of p, or it isn't
pub own_mine : (p : ℕ) (e : TakenStep) → e.by ≡ p → entries_of p (e ∷ []) ≡ e ∷ []
own_mine p e h = rw (eq-eqb e.by p h)

pub own_other : (p : ℕ) (e : TakenStep) → e.by ≢ p → entries_of p (e ∷ []) ≡ []
own_other p e h = rw (ne_eqb e.by p h)

-- counting on from j
pub count_step : (j n : ℕ) → j < n → count_from j (n - j) ≡ j ∷ count_from (suc j) (n - suc j)
count_step j n h = let e : n - j ≡ suc (n - suc j) = omega arith in rw e refl

pub above_absent : (j k n : ℕ) → j < k → has j (count_from k n) ≡ false
above_absent j k zero h = refl
above_absent j k (suc n) h = rw (ne_eqb k j (λ (e : k ≡ j). omega arith)) (above_absent j (suc k) n (omega arith))

pub spelled-append : (xs ys : List TakenStep) → events_of_run (xs ++ ys) ≡ events_of_run xs ++ events_of_run ys
spelled-append [] ys = refl
spelled-append (x ∷ xs) ys = ap (λ (l : List WorldEvent). world_events x ++ l) (spelled-append xs ys) ∙ sym (append_assoc (world_events x) (events_of_run xs) (events_of_run ys))

pub spelled_snoc : (xs : List TakenStep) (e : TakenStep) → events_of_run (xs ++ e ∷ []) ≡ events_of_run xs ++ world_events e
spelled_snoc xs e = spelled-append xs (e ∷ []) ∙ ap (λ (l : List WorldEvent). events_of_run xs ++ l) (append-nil (world_events e))

-- a step is a glance, or a move of its kind
pub by_kind : (P : Kind → WorldEvent → Type 0) (p : ℕ) (word : Word) (v : ℕ) → P Glance (Glances p word v) → ((kind : Kind) → P kind (Moves p kind word v)) → (kind : Kind) → P kind (access_event p kind word v)
by_kind P p word v glance move Glance = glance
by_kind P p word v glance move kind = move kind

pub who_taken : (p : ℕ) (kind : Kind) (word : Word) (v : ℕ) → who (access_event p kind word v) ≡ p
who_taken p kind word v = by_kind (λ _ h. who h ≡ p) p word v refl (λ _. refl) kind

own_world_events-append : (p : ℕ) (xs ys : List WorldEvent) → own_world_events p (xs ++ ys) ≡ own_world_events p xs ++ own_world_events p ys
own_world_events-append p [] ys = refl
own_world_events-append p (x ∷ xs) ys =
    let later = own_world_events-append p xs ys in
    elim (cases_Bool (who x == p)) [ inl is ↦ rw is (ap (λ (l : List WorldEvent). x ∷ l) later) | inr is ↦ rw is later ]

-- each event that an entry is spelled out to is of the entry's process
own_all : (p q : ℕ) (h : WorldEvent) → who h ≡ q → (c : Bool) (o : Option Call) (b : Bool) → (q == p) ≡ b → own_world_events p (before c o q ++ h ∷ []) ≡ (if b then before c o q ++ h ∷ [] else [])
own_all p q h e false None true is = rw (e, is) refl
own_all p q h e false (Some call) true is = rw (e, is) refl
own_all p q h e true None true is = rw (e, is) refl
own_all p q h e true (Some call) true is = rw (e, is) refl
own_all p q h e _ _ _ is = rw (e, is) refl

pub own_spelled : (p : ℕ) (es : List TakenStep) → own_world_events p (events_of_run es) ≡ events_of_run (entries_of p es)
own_spelled p [] = refl
own_spelled p (e ∷ es) =
    let later = own_spelled p es in
    own_world_events-append p (world_events e) (events_of_run es)
    ∙ ap (λ (l : List WorldEvent). l ++ own_world_events p (events_of_run es)) (own_all p e.by (access_event e.by e.step.kind e.step.word e.value) (who_taken e.by e.step.kind e.step.word e.value) e.step.crashed e.step.start (e.by == p) refl)
    ∙ elim (cases_Bool (e.by == p)) [ inl is ↦ rw is (ap (λ (l : List WorldEvent). world_events e ++ l) later) | inr is ↦ rw is later ]

-- the first law: the state follows from the own entries
pub process_state_in_run : (s : Setup) (es : List TakenStep) (p : ℕ) → (end_of s es).process_states p ≡ process_state_of s p es
process_state_in_run s es p = process_states_are_own s.layout s.limit p at_first (events_of_run es) ∙ ap (process_state_past s at_rest) (own_spelled p es)

module _ (l : Layout) (limit : ℕ) where
  pub global_state-append : (w : GlobalState) (xs ys : List WorldEvent) → last_global_state l limit w (xs ++ ys) ≡ last_global_state l limit (last_global_state l limit w xs) ys
  global_state-append w [] ys = refl
  global_state-append w (x ∷ xs) ys = global_state-append (state_after_event l limit w x) xs ys

  pub execution-append : (w : GlobalState) (xs ys : List WorldEvent) → Execution l limit w xs → Execution l limit (last_global_state l limit w xs) ys → Execution l limit w (xs ++ ys)
  execution-append w [] ys r t = t
  execution-append w (x ∷ xs) ys r t = (r.0, execution-append (state_after_event l limit w x) xs ys r.1 t)

-- one entry, from the state of its process
module _ (s : Setup) (q : ℕ) (lt : q < s.layout.procs) (h : WorldEvent) (by : who h ≡ q) where
  move_goes : (w : GlobalState) (process_state : ProcessState) → w.process_states q ≡ process_state → AllowsEvents s process_state (h ∷ []) → ReadsWord w h → Execution s.layout s.limit w (h ∷ [])
  move_goes w process_state at goes reads =
      let here : w.process_states (who h) ≡ process_state = ap w.process_states by ∙ at in
      ((subst (λ (p : ℕ). p < s.layout.procs) (sym by) lt, subst (λ (x : ProcessState). IsSome (next_process_state s.layout s.limit x h)) (sym here) goes.0, reads), tt)

  start_goes : (w : GlobalState) (process_state : ProcessState) (call : Call) → w.process_states q ≡ process_state → AllowsEvents s process_state (Begins q call ∷ h ∷ []) → ((u : GlobalState) → u.words ≡ w.words → u.cells ≡ w.cells → ReadsWord u h) → Execution s.layout s.limit w (Begins q call ∷ h ∷ [])
  start_goes w process_state call at goes reads =
      let u : GlobalState = state_after_event s.layout s.limit w (Begins q call) in
      let there : u.process_states q ≡ unwrap_or (next_process_state s.layout s.limit process_state (Begins q call)) process_state =
      put_same w.process_states q _ ∙ ap (λ (x : ProcessState). unwrap_or (next_process_state s.layout s.limit x (Begins q call)) x) at in
      ((lt, subst (λ (x : ProcessState). IsSome (next_process_state s.layout s.limit x (Begins q call))) (sym at) goes.0, tt), move_goes u (unwrap_or (next_process_state s.layout s.limit process_state (Begins q call)) process_state) there goes.1 (reads u refl refl))

  entry_goes : (w : GlobalState) (process_state : ProcessState) (c : Bool) (o : Option Call) → w.process_states q ≡ process_state → AllowsEvents s process_state (before c o q ++ h ∷ []) → ((u : GlobalState) → u.words ≡ w.words → u.cells ≡ w.cells → ReadsWord u h) → Execution s.layout s.limit w (before c o q ++ h ∷ [])
  entry_goes w process_state false None at goes reads = move_goes w process_state at goes (reads w refl refl)
  entry_goes w process_state false (Some call) at goes reads = start_goes w process_state call at goes reads
  entry_goes w process_state true None at goes reads =
      let u : GlobalState = state_after_event s.layout s.limit w (Falls q) in
      ((lt, refl, tt), move_goes u dead_process (put_same w.process_states q dead_process) goes.1 (reads u refl refl))
  entry_goes w process_state true (Some call) at goes reads =
      let u : GlobalState = state_after_event s.layout s.limit w (Falls q) in
      ((lt, refl, tt), start_goes u dead_process call (put_same w.process_states q dead_process) goes.1 reads)

pub reading_same : (w u : GlobalState) (word : Word) → u.words ≡ w.words → u.cells ≡ w.cells → reading u word ≡ reading w word
reading_same w u (ChoosingOf p) e f = ap (λ (g : ℕ → Own). (g p).choosing) e
reading_same w u (NumberOf p) e f = ap (λ (g : ℕ → Own). (g p).number) e
reading_same w u (InsideOf p) e f = ap (λ (g : ℕ → Own). (g p).inside) e
reading_same w u (DataAt i) e f = ap (λ (g : Words). g i) f

reads_taken : (w u : GlobalState) (p : ℕ) (word : Word) (v : ℕ) (kind : Kind) → u.words ≡ w.words → u.cells ≡ w.cells → (is_store kind ≡ false → reading w word ≡ v) → ReadsWord u (access_event p kind word v)
reads_taken w u p word v kind e f =
    by_kind (λ kind h. (is_store kind ≡ false → reading w word ≡ v) → ReadsWord u h) p word v (λ r. reading_same w u word e f ∙ r refl) (λ kind r loads. reading_same w u word e f ∙ r loads) kind

-- the second law: an allowed entry prolongs a run
pub prolongs : (s : Setup) (es : List TakenStep) (e : TakenStep) → IsRun s es → e.by < s.layout.procs → AllowsEvents s (process_state_of s e.by es) (world_events e) → (stores e ≡ false → reading (end_of s es) e.step.word ≡ e.value) → IsRun s (es ++ e ∷ [])
prolongs s es e run lt goes reads =
    subst (Execution s.layout s.limit at_first) (sym (spelled_snoc es e))
    (execution-append s.layout s.limit at_first (events_of_run es) (world_events e) run
    (entry_goes s e.by lt (access_event e.by e.step.kind e.step.word e.value) (who_taken e.by e.step.kind e.step.word e.value) (end_of s es) (process_state_of s e.by es) e.step.crashed e.step.start (process_state_in_run s es e.by) goes
    (λ u same cells. reads_taken (end_of s es) u e.by e.step.word e.value e.step.kind same cells reads)))

-- a prefix of a run is a run
pub legal_front : (s : Setup) (xs ys : List TakenStep) → IsRun s (xs ++ ys) → IsRun s xs
legal_front s xs ys run = execution_front s.layout s.limit at_first (events_of_run xs) (events_of_run ys) (subst (Execution s.layout s.limit at_first) (spelled-append xs ys) run)

pub legal_back : (s : Setup) (xs ys : List TakenStep) → IsRun s (xs ++ ys) → Execution s.layout s.limit (end_of s xs) (events_of_run ys)
legal_back s xs ys run = execution_back s.layout s.limit at_first (events_of_run xs) (events_of_run ys) (subst (Execution s.layout s.limit at_first) (spelled-append xs ys) run)

-- the words after a step
abbrev pub words_now : (ℕ → Own) → Kind → Word → ℕ → ℕ → Own
words_now words kind word v = if is_store kind then write words word v else words

abbrev pub cells_now : Layout → Words → Kind → Word → ℕ → Words
cells_now l cells kind word v = if is_store kind then put_cell l cells word v else cells

module _ (l : Layout) (limit : ℕ) where
  pub entry_leaves : (w : GlobalState) (q : ℕ) (kind : Kind) (word : Word) (v : ℕ) (c : Bool) (o : Option Call)
      → ((last_global_state l limit w (before c o q ++ access_event q kind word v ∷ [])).words ≡ words_now w.words kind word v) × ((last_global_state l limit w (before c o q ++ access_event q kind word v ∷ [])).cells ≡ cells_now l w.cells kind word v)
  entry_leaves w q kind word v false None = by_kind (λ kind h. (words_after w.words h ≡ words_now w.words kind word v) × (cells_after l w.cells h ≡ cells_now l w.cells kind word v)) q word v (refl, refl) (λ _. (refl, refl)) kind
  entry_leaves w q kind word v true None = by_kind (λ kind h. (words_after w.words h ≡ words_now w.words kind word v) × (cells_after l w.cells h ≡ cells_now l w.cells kind word v)) q word v (refl, refl) (λ _. (refl, refl)) kind
  entry_leaves w q kind word v _ _ = by_kind (λ kind h. (words_after w.words h ≡ words_now w.words kind word v) × (cells_after l w.cells h ≡ cells_now l w.cells kind word v)) q word v (refl, refl) (λ _. (refl, refl)) kind

global_state_snoc : (s : Setup) (es : List TakenStep) (e : TakenStep) → end_of s (es ++ e ∷ []) ≡ last_global_state s.layout s.limit (end_of s es) (world_events e)
global_state_snoc s es e = ap (last_global_state s.layout s.limit at_first) (spelled_snoc es e) ∙ global_state-append s.layout s.limit at_first (events_of_run es) (world_events e)

pub words_snoc : (s : Setup) (es : List TakenStep) (e : TakenStep) → (end_of s (es ++ e ∷ [])).words ≡ words_now (end_of s es).words e.step.kind e.step.word e.value
words_snoc s es e = ap (λ (w : GlobalState). w.words) (global_state_snoc s es e) ∙ (entry_leaves s.layout s.limit (end_of s es) e.by e.step.kind e.step.word e.value e.step.crashed e.step.start).0

pub cells_snoc : (s : Setup) (es : List TakenStep) (e : TakenStep) → (end_of s (es ++ e ∷ [])).cells ≡ cells_now s.layout (end_of s es).cells e.step.kind e.step.word e.value
cells_snoc s es e = ap (λ (w : GlobalState). w.cells) (global_state_snoc s es e) ∙ (entry_leaves s.layout s.limit (end_of s es) e.by e.step.kind e.step.word e.value e.step.crashed e.step.start).1

put_keeps : (g : Own → ℕ) (words : ℕ → Own) (p : ℕ) (x : Own) (q : ℕ) → g x ≡ g (words p) → g (put words p x q) ≡ g (words q)
put_keeps g words p x q h =
    elim (cases_eq q p) [
      | inl e ↦ ap (λ (r : ℕ). g (put words p x r)) e ∙ ap g (put_same words p x) ∙ h ∙ ap (λ (r : ℕ). g (words r)) (sym e)
      | inr ne ↦ ap g (put_other words p x q ne)
    ]

-- the value that a store leaves
abbrev written : Setup → (ℕ → Own) → Words → Word → ℕ → GlobalState
written s words cells word v = record { words = write words word v; cells = put_cell s.layout cells word v; process_states = λ _. at_rest }

abbrev standing : (ℕ → Own) → Words → GlobalState
standing words cells = record { words = words; cells = cells; process_states = λ _. at_rest }

read_written_same : (s : Setup) (words : ℕ → Own) (cells : Words) (word : Word) (v : ℕ) → InTable s word → reading (written s words cells word v) word ≡ v
read_written_same s words cells (ChoosingOf p) v t = ap (λ (x : Own). x.choosing) (put_same words p _)
read_written_same s words cells (NumberOf p) v t = ap (λ (x : Own). x.number) (put_same words p _)
read_written_same s words cells (InsideOf p) v t = ap (λ (x : Own). x.inside) (put_same words p _)
read_written_same s words cells (DataAt i) v t = let below : nat_lt i (size s.layout) ≡ true = lt-ltb i (size s.layout) t in rw below (put_same cells i v)

read_written_other : (s : Setup) (words : ℕ → Own) (cells : Words) (a b : Word) (v : ℕ) → b ≢ a → reading (written s words cells a v) b ≡ reading (standing words cells) b
read_written_other s words cells (ChoosingOf p) (ChoosingOf q) v ne = ap (λ (x : Own). x.choosing) (put_other words p _ q (λ e. ne (ap ChoosingOf e)))
read_written_other s words cells (NumberOf p) (NumberOf q) v ne = ap (λ (x : Own). x.number) (put_other words p _ q (λ e. ne (ap NumberOf e)))
read_written_other s words cells (InsideOf p) (InsideOf q) v ne = ap (λ (x : Own). x.inside) (put_other words p _ q (λ e. ne (ap InsideOf e)))
read_written_other s words cells (DataAt i) (DataAt j) v ne = elim (cases_Bool (nat_lt i (size s.layout))) [ inl e ↦ rw e (put_other cells i v j (λ e. ne (ap DataAt e))) | inr e ↦ rw e refl ]
read_written_other s words cells (DataAt i) _ v ne = refl
read_written_other s words cells _ (DataAt j) v ne = refl
read_written_other s words cells _ (ChoosingOf q) v ne = put_keeps (λ (x : Own). x.choosing) words _ _ q refl
read_written_other s words cells _ (NumberOf q) v ne = put_keeps (λ (x : Own). x.number) words _ _ q refl
read_written_other s words cells _ (InsideOf q) v ne = put_keeps (λ (x : Own). x.inside) words _ _ q refl

pub index_within : (s : Setup) (word : Word) → InTable s word → index s word < word_count s
index_within s (ChoosingOf p) h = omega arith
index_within s _ h = omega arith

index_apart : (s : Setup) (a b : Word) → InTable s a → InTable s b → index s a ≡ index s b → a ≡ b
index_apart s (ChoosingOf p) (ChoosingOf q) h k e = ap ChoosingOf (omega arith)
index_apart s (NumberOf p) (NumberOf q) h k e = ap NumberOf (omega arith)
index_apart s (InsideOf p) (InsideOf q) h k e = ap InsideOf (omega arith)
index_apart s (DataAt i) (DataAt j) h k e = ap DataAt (omega arith)
index_apart s _ _ h k e = absurd (omega arith)

-- a new table
pub shows_rest : (s : Setup) → Shows s at_first (replicate (word_count s) 0)
shows_rest s = (length-replicate (word_count s) 0, λ word t. get_or-replicate (word_count s) (index s word) 0 0 (index_within s word t) ∙ zero_at word)
  where
    zero_at : (word : Word) → 0 ≡ reading at_first word
    zero_at (DataAt i) = refl
    zero_at _ = refl

-- a load leaves the words as they are
pub shows_load : (s : Setup) (es : List TakenStep) (e : TakenStep) (words : List ℕ) → stores e ≡ false → Shows s (end_of s es) words → Shows s (end_of s (es ++ e ∷ [])) words
shows_load s es e words loads h =
    let same : words_now (end_of s es).words e.step.kind e.step.word e.value ≡ (end_of s es).words = rw loads refl in
    let cells : cells_now s.layout (end_of s es).cells e.step.kind e.step.word e.value ≡ (end_of s es).cells = rw loads refl in
    (h.0, λ word t. h.1 word t ∙ sym (reading_same (end_of s es) (end_of s (es ++ e ∷ [])) word (words_snoc s es e ∙ same) (cells_snoc s es e ∙ cells)))

-- a store changes only its word
pub shows_store : (s : Setup) (es : List TakenStep) (e : TakenStep) (words : List ℕ) → stores e ≡ true → InTable s e.step.word → Shows s (end_of s es) words → Shows s (end_of s (es ++ e ∷ [])) (set words (index s e.step.word) e.value)
shows_store s es e words is t h =
    let a = e.step.word in
    let v = e.value in
    let old = end_of s es in
    let now = end_of s (es ++ e ∷ []) in
    let same : words_now old.words e.step.kind a v ≡ write old.words a v = rw is refl in
    let cells : cells_now s.layout old.cells e.step.kind a v ≡ put_cell s.layout old.cells a v = rw is refl in
    let there : (b : Word) → reading now b ≡ reading (written s old.words old.cells a v) b = λ b. reading_same (written s old.words old.cells a v) now b (words_snoc s es e ∙ same) (cells_snoc s es e ∙ cells) in (
      length-set words (index s a) v ∙ h.0,
      λ b k.
          dite (ℕ_discrete (index s b) (index s a))
          (λ (eq : index s b ≡ index s a).
          let one : b ≡ a = index_apart s b a k t eq in
          let long : index s a < length words = (let i = index_within s a t in let l = h.0 in omega arith) in
          ap (λ (i : ℕ). get_or (set words (index s a) v) i 0) eq ∙ get_or-set_same words (index s a) v 0 long ∙ sym (there b ∙ ap (reading (written s old.words old.cells a v)) one ∙ read_written_same s old.words old.cells a v t))
          (λ (ne : index s b ≢ index s a).
          get_or-set_other words (index s a) (index s b) v 0 ne ∙ h.1 b k
          ∙ sym (there b ∙ read_written_other s old.words old.cells a b v (λ one. ne (ap (index s) one)) ∙ reading_same old (standing old.words old.cells) b refl refl)),
    )

-- a data word past the mailbox's end reads 0, whatever was stored
beyond_zero : (s : Setup) (hs : List WorldEvent) (w : GlobalState) (i : ℕ) → size s.layout ≤ i → w.cells i ≡ 0 → (last_global_state s.layout s.limit w hs).cells i ≡ 0
beyond_zero s [] w i h z = z
beyond_zero s (x ∷ xs) w i h z = beyond_zero s xs (state_after_event s.layout s.limit w x) i h (after_one x)
  where
    put_one : (word : Word) (v : ℕ) → put_cell s.layout w.cells word v i ≡ 0
    put_one (DataAt j) v =
        elim (cases_Bool (nat_lt j (size s.layout))) [ inl e ↦ rw e (put_other w.cells j v i (λ (k : i ≡ j). let l : j < size s.layout = ltb-true j (size s.layout) e in absurd (omega arith)) ∙ z) | inr e ↦ rw e z ]
    put_one _ v = z

    by : (b : Bool) (word : Word) (v : ℕ) → (if b then put_cell s.layout w.cells word v else w.cells) i ≡ 0
    by true word v = put_one word v
    by false word v = z

    after_one : (x : WorldEvent) → cells_after s.layout w.cells x i ≡ 0
    after_one (Moves p kind word v) = by (is_store kind) word v
    after_one _ = z

pub reads_beyond : (s : Setup) (es : List TakenStep) (word : Word) → IsBeyond s word → reading (end_of s es) word ≡ 0
reads_beyond s es (DataAt i) h = beyond_zero s (events_of_run es) at_first i h refl
reads_beyond s es _ h = absurd h

-- a step there leaves the words as they are
pub shows_beyond : (s : Setup) (es : List TakenStep) (e : TakenStep) (words : List ℕ) → IsBeyond s e.step.word → Shows s (end_of s es) words → Shows s (end_of s (es ++ e ∷ [])) words
shows_beyond s es e words t h =
    elim (cases_Bool (is_store e.step.kind)) [
      | inl is ↦
          let a : words_now (end_of s es).words e.step.kind e.step.word e.value ≡ (end_of s es).words = rw is (same_words e.step.word t (end_of s es).words e.value) in
          let c : cells_now s.layout (end_of s es).cells e.step.kind e.step.word e.value ≡ (end_of s es).cells = rw is (same_cells e.step.word t (end_of s es).cells e.value) in
          (h.0, λ word k. h.1 word k ∙ sym (reading_same (end_of s es) (end_of s (es ++ e ∷ [])) word (words_snoc s es e ∙ a) (cells_snoc s es e ∙ c)))
      | inr is ↦ shows_load s es e words is h
    ]
  where
    same_words : (word : Word) → IsBeyond s word → (ws : ℕ → Own) (v : ℕ) → write ws word v ≡ ws
    same_words (DataAt i) k ws v = refl
    same_words _ k ws v = absurd k

    same_cells : (word : Word) → IsBeyond s word → (cells : Words) (v : ℕ) → put_cell s.layout cells word v ≡ cells
    same_cells (DataAt i) k cells v = let above : nat_lt i (size s.layout) ≡ false = le-ltb i (size s.layout) k in rw above refl
    same_cells _ k cells v = absurd k

-- the last entry of a run, if it is a load, read the word's value before it
move_read : (w : GlobalState) (p : ℕ) (word : Word) (v : ℕ) (kind : Kind) → ReadsWord w (access_event p kind word v) → is_store kind ≡ false → reading w word ≡ v
move_read w p word v kind = by_kind (λ kind h. ReadsWord w h → is_store kind ≡ false → reading w word ≡ v) p word v (λ r _. r) (λ kind r loads. r loads) kind

last_entry : (l : Layout) (limit : ℕ) (w : GlobalState) (q : ℕ) (kind : Kind) (word : Word) (v : ℕ) (c : Bool) (o : Option Call) → Execution l limit w ((before c o q ++ access_event q kind word v ∷ []) ++ []) → is_store kind ≡ false → reading w word ≡ v
last_entry l limit w q kind word v false None run loads = move_read w q word v kind run.0.2 loads
last_entry l limit w q kind word v false (Some call) run loads = sym (reading_same w (state_after_event l limit w (Begins q call)) word refl refl) ∙ move_read (state_after_event l limit w (Begins q call)) q word v kind run.1.0.2 loads
last_entry l limit w q kind word v true None run loads = sym (reading_same w (state_after_event l limit w (Falls q)) word refl refl) ∙ move_read (state_after_event l limit w (Falls q)) q word v kind run.1.0.2 loads
last_entry l limit w q kind word v true (Some call) run loads =
    sym (reading_same w (state_after_event l limit (state_after_event l limit w (Falls q)) (Begins q call)) word refl refl) ∙ move_read (state_after_event l limit (state_after_event l limit w (Falls q)) (Begins q call)) q word v kind run.1.1.0.2 loads

pub last_reads : (s : Setup) (es : List TakenStep) (e : TakenStep) → IsRun s (es ++ e ∷ []) → stores e ≡ false → reading (end_of s es) e.step.word ≡ e.value
last_reads s es e run loads = last_entry s.layout s.limit (end_of s es) e.by e.step.kind e.step.word e.value e.step.crashed e.step.start (legal_back s es (e ∷ []) run) loads

first_within : (l : Layout) (limit : ℕ) (w : GlobalState) (q : ℕ) (h : WorldEvent) → who h ≡ q → (c : Bool) (o : Option Call) (rest : List WorldEvent) → Execution l limit w ((before c o q ++ h ∷ []) ++ rest) → q < l.procs
first_within l limit w q h e false None rest run = subst (λ (p : ℕ). p < l.procs) e run.0.0
first_within l limit w q h e _ _ rest run = run.0.0

-- each entry of a run is of one of its processes
pub run_within : (s : Setup) (xs es : List TakenStep) → IsRun s (xs ++ es) → ((p : ℕ) → p < s.layout.procs → entries_of p es ≡ []) → es ≡ []
run_within s xs [] run h = refl
run_within s xs (e ∷ es) run h =
    let low : e.by < s.layout.procs = first_within s.layout s.limit (end_of s xs) e.by (access_event e.by e.step.kind e.step.word e.value) (who_taken e.by e.step.kind e.step.word e.value) e.step.crashed e.step.start (events_of_run es) (legal_back s xs (e ∷ es) run) in
    absurd (let k = sym (mine e es) ∙ h e.by low in cc)
  where
    mine : (e : TakenStep) (es : List TakenStep) → entries_of e.by (e ∷ es) ≡ e ∷ entries_of e.by es
    mine e es = rw (eq-eqb e.by e.by refl)
