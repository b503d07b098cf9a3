-- A word of the board holds what was put there last. Since its Enter, a process's own puts are the last ones.
use Rattle.std.proofs.Common.{◌≡◌, ℕ, ◌+◌, ◌*◌, ◌<◌, ◌==◌, ◌&&◌, nat_lt, lt-ltb, Bool, true, false, if◌then◌else◌, List, [], ◌∷◌, ◌++◌, Option, Some, None, refl, sym, ap, ◌∙◌, subst, arith, append_assoc, eqb-true, eq-eqb, inl, inr}
use Rattle.table_runs.proofs.Common.{and_parts, cases_Bool, eqb-false, true≢false, Kind, Word, Data as DataAt, put, is_store, put_same, put_other, Layout, IsLayout, Words}
use Rattle.table_runs.proofs.Common.{board_at, size, place_at, Answer, Call, WorldEvent, GlobalState, at_first, Execution, last_global_state, put_cell, holders_put, TakenStep, Setup, is_data, or_earlier, last_put, value_or}
use Rattle.table_runs.proofs.Common.{LastIsOwn, Served, IsSeatView, Seated, began, before, access_event, world_events, events_of_run, entries_of, IsRun, end_of}
use Rattle.rmeworld.specs.Holders.{puts_data, AllPutBy}
use Rattle.table_runs.specs.Board.{puts}
use Rattle.table_runs.proofs.Runs.{spelled-append, by_kind, who_taken, global_state-append, entry_leaves, cells_now}

pub none_earlier : (o : Option TakenStep) → or_earlier o None ≡ o
none_earlier None = refl
none_earlier (Some e) = refl

or_assoc : (a b c : Option TakenStep) → or_earlier (or_earlier a b) c ≡ or_earlier a (or_earlier b c)
or_assoc None b c = refl
or_assoc (Some e) b c = refl

value_joins : (a b : Option TakenStep) (v : ℕ) → value_or a (value_or b v) ≡ value_or (or_earlier a b) v
value_joins None b v = refl
value_joins (Some e) b v = refl

pub last-append : (s : Setup) (i : ℕ) (xs ys : List TakenStep) → last_put s i (xs ++ ys) ≡ or_earlier (last_put s i ys) (last_put s i xs)
last-append s i [] ys = sym (none_earlier (last_put s i ys))
last-append s i (x ∷ xs) ys = ap (λ (o : Option TakenStep). or_earlier o (if puts s i x then Some x else None)) (last-append s i xs ys) ∙ or_assoc (last_put s i ys) (last_put s i xs) (if puts s i x then Some x else None)

-- a word of the board is one of the data words
below_all : (w n x i : ℕ) → i < 4 → 6 + w + i < 10 + w + n + x
below_all w n x i low = omega arith

board_within : (l : Layout) (i : ℕ) → i < 4 → board_at l i < size l
unfolding place_at
board_within l i low = below_all l.width l.procs ((2 + l.width) * l.cap) i low

module _ (s : Setup) (i : ℕ) (low : i < 4) where
  abbrev at : ℕ
  at = board_at s.layout i

  put_at : (cells : Words) (word : Word) (v : ℕ) → put_cell s.layout cells word v at ≡ (if is_data at word then v else cells at)
  put_at cells (DataAt j) v = go (j == at) refl (nat_lt j (size s.layout)) refl
    where
      go : (b : Bool) → (j == at) ≡ b → (c : Bool) → nat_lt j (size s.layout) ≡ c → (if nat_lt j (size s.layout) then put cells j v else cells) at ≡ (if j == at then v else cells at)
      go true is true below = rw (is, below) (ap (put cells j v) (sym (eqb-true j at is)) ∙ put_same cells j v)
      go true is false above = absurd (let same = eqb-true j at is in let no : nat_lt j (size s.layout) ≡ true = ap (λ (k : ℕ). nat_lt k (size s.layout)) same ∙ lt-ltb at (size s.layout) (board_within s.layout i low) in true≢false (sym no ∙ above))
      go false is true below = rw (is, below) (put_other cells j v at (λ (e : at ≡ j). eqb-false j at is (sym e)))
      go false is false above = rw (is, above) refl
  put_at cells _ v = refl

  cell_now : (cells : Words) (kind : Kind) (word : Word) (v : ℕ) → cells_now s.layout cells kind word v at ≡ (if is_store kind && is_data at word then v else cells at)
  cell_now cells kind word v = elim (cases_Bool (is_store kind)) [ inl is ↦ rw is (put_at cells word v) | inr is ↦ rw is refl ]

  if_value : (b : Bool) (e : TakenStep) (v : ℕ) → (if b then e.value else v) ≡ value_or (if b then Some e else None) v
  if_value true e v = refl
  if_value false e v = refl

  board_after : (w : GlobalState) (es : List TakenStep) → (last_global_state s.layout s.limit w (events_of_run es)).cells at ≡ value_or (last_put s i es) (w.cells at)
  board_after w [] = refl
  board_after w (e ∷ es) =
      let u = last_global_state s.layout s.limit w (world_events e) in
      let here : u.cells at ≡ value_or (if puts s i e then Some e else None) (w.cells at) =
      ap (λ (c : Words). c at) (entry_leaves s.layout s.limit w e.by e.step.kind e.step.word e.value e.step.crashed e.step.start).1 ∙ cell_now w.cells e.step.kind e.step.word e.value ∙ if_value (puts s i e) e (w.cells at) in
      ap (λ (x : GlobalState). x.cells at) (global_state-append s.layout s.limit w (world_events e) (events_of_run es)) ∙ board_after u es ∙ ap (value_or (last_put s i es)) here ∙ value_joins (last_put s i es) (if puts s i e then Some e else None) (w.cells at)

  -- a word of the board holds what the run has put there last
  pub board_holds : (es : List TakenStep) → (end_of s es).cells at ≡ value_or (last_put s i es) 0
  board_holds es = board_after at_first es

all_back : (p : ℕ) (xs ys : List WorldEvent) → AllPutBy p (xs ++ ys) → AllPutBy p ys
all_back p [] ys h = h
all_back p (x ∷ xs) ys h = all_back p xs ys h.1

-- a put of the board stores into a data word
stores_data : (k : ℕ) (word : Word) (kind : Kind) → (is_store kind && is_data k word) ≡ true → (word ≡ DataAt k) × (is_store kind ≡ true)
stores_data k (DataAt j) kind e = let both = and_parts (is_store kind) (j == k) e in (ap DataAt (eqb-true j k both.1), both.0)
stores_data k _ kind e = absurd (true≢false (sym (and_parts (is_store kind) false e).1))

taken_puts : (k q : ℕ) (word : Word) (v : ℕ) (kind : Kind) → (is_store kind && is_data k word) ≡ true → puts_data (access_event q kind word v) ≡ true
taken_puts k q word v kind = by_kind (λ kind h. (is_store kind && is_data k word) ≡ true → puts_data h ≡ true) q word v (λ e. absurd (cc)) (λ kind e. let r = stores_data k word kind e in rw r.0 r.1) kind

puts_own : (s : Setup) (i p : ℕ) (es : List TakenStep) → AllPutBy p (events_of_run es) → last_put s i (entries_of p es) ≡ last_put s i es
puts_own s i p [] h = refl
puts_own s i p (e ∷ es) h = go (puts_own s i p es h'.1) (e.by == p) refl (puts s i e) refl
  where
    h' : AllPutBy p (access_event e.by e.step.kind e.step.word e.value ∷ events_of_run es)
    h' = all_back p (before e.step.crashed e.step.start e.by) (access_event e.by e.step.kind e.step.word e.value ∷ events_of_run es) (subst (AllPutBy p) (append_assoc (before e.step.crashed e.step.start e.by) (access_event e.by e.step.kind e.step.word e.value ∷ []) (events_of_run es)) h)

    mine : puts s i e ≡ true → e.by ≡ p
    mine is = sym (who_taken e.by e.step.kind e.step.word e.value) ∙ h'.0 (taken_puts (board_at s.layout i) e.by e.step.word e.value e.step.kind is)

    go : last_put s i (entries_of p es) ≡ last_put s i es → (b : Bool) → (e.by == p) ≡ b → (c : Bool) → puts s i e ≡ c → last_put s i (entries_of p (e ∷ es)) ≡ last_put s i (e ∷ es)
    go later true is c put = rw is (ap (λ (o : Option TakenStep). or_earlier o (if puts s i e then Some e else None)) later)
    go later false is true put = absurd (true≢false (sym (eq-eqb e.by p (mine put)) ∙ is))
    go later false is false put = rw is (later ∙ sym (none_earlier (last_put s i es)) ∙ ap (λ (b : Bool). or_earlier (last_put s i es) (if b then Some e else None)) (sym put))

-- since its Enter a process's own puts are the last
pub last_is_own : (s : Setup) (p i : ℕ) (es : List TakenStep) → IsLayout s.layout → p < s.layout.procs → IsRun s es → LastIsOwn s p i es
last_is_own s p i es layout below run since e k is =
    let reports : Execution s.layout s.limit at_first (events_of_run k.before ++ events_of_run since) = subst (Execution s.layout s.limit at_first) (ap events_of_run k.split ∙ spelled-append k.before since) run in
    let mine = holders_put s.layout s.limit p (events_of_run k.before) (events_of_run since) k.earlier layout below reports k.entered k.stays in
    ap (last_put s i) k.split ∙ last-append s i k.before since ∙ ap (λ (o : Option TakenStep). or_earlier o (last_put s i k.before)) (sym (puts_own s i p since mine) ∙ is)

pub last_is_own_after : (x y : Seated) (call : Call) (answers : List Answer) (mine : List TakenStep) (i : ℕ) → IsSeatView x.seat_view → Served (began x call) call answers 0 y mine → LastIsOwn x.seat_view.setup x.seat_view.by i y.seat_view.seen
last_is_own_after x y call answers mine i seat_view r =
    last_is_own x.seat_view.setup x.seat_view.by i y.seat_view.seen seat_view.size.layout seat_view.below (subst (λ (s : Setup). IsRun s y.seat_view.seen) r.calls.setup r.calls.run)
