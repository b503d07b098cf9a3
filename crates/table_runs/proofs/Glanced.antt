-- Glances in a row: what they add to a view, and what they read.
use Rattle.std.proofs.Common.{◌≡◌, ℕ, zero, suc, ◌+◌, ◌*◌, ◌-◌, ◌<◌, ◌≤◌, List, [], ◌∷◌, ◌++◌, length, refl, sym, ap, ◌∙◌, subst, arith, length-append, inl, inr, get_or-set_same, get_or-set_other, drop, Result, Ok, Err, IfOk, OnOk, OnErr}
use Rattle.table_runs.proofs.Common.{cases_eq, drop-append-le, drop_all, length-drop, slice_index, slice_set, Word, Data as DataAt, Layout, Message, saturate, Words, size, words_of, row, place_at, message}
use Rattle.table_runs.proofs.Common.{entry, entries, TakenStep, Setup, SeatView, IsSeatView, Calls, glance_step, glance_entry, Looks, cells_of, row_words, entry_words, AreGlances, up_to_count, ReadsFrom, Seated, IsRun}
use Rattle.redomail.proofs.Changes.{length-entries}
use Rattle.redomail.proofs.Words.{row-from_entry, place_low, place_up, place_small}
use Rattle.table_runs.specs.ReadMessages.{Glances}
use Rattle.table_runs.proofs.Called.{Grows, calls_grown}
use Rattle.table_runs.proofs.Runs.{last_reads, cells_snoc}
use Rattle.table_runs.proofs.Shown.{runs_show, entries_stand_in_runs}

abbrev pub entries_of : (x : Seated) (ws : List Word) (y : Seated) → Glances x ws y → List TakenStep
entries_of x [] y h = []
entries_of x (w ∷ ws) y h = glance_entry x.seat_view w h.1 ∷ entries_of h.0 ws y h.4

grows_glanced : (x : Seated) (ws : List Word) (y : Seated) (h : Glances x ws y) → Grows x.seat_view (entries_of x ws y h) y.seat_view
grows_glanced x [] y h = ap (λ (s : Seated). s.seat_view) h
grows_glanced x (w ∷ ws) y h = (h.0.seat_view, refl, h.2.adds, grows_glanced h.0 ws y h.4)

are_by : (x : Seated) (p : SeatView) (ws : List Word) (y : Seated) (h : Glances x ws y) → x.seat_view.by ≡ p.by → AreGlances p ws (entries_of x ws y h)
are_by x p [] y h e = tt
are_by x p (w ∷ ws) y h e = (ap (λ (q : ℕ). record { by = q; step = glance_step w; value = h.1 }) e, are_by h.0 p ws y h.4 (h.2.adds.by ∙ e))

pub are_glances : (x : Seated) (ws : List Word) (y : Seated) (h : Glances x ws y) → AreGlances x.seat_view ws (entries_of x ws y h)
are_glances x ws y h = are_by x x.seat_view ws y h refl

pub calls_glanced : (x : Seated) (ws : List Word) (y : Seated) (h : Glances x ws y) → IsRun x.seat_view.setup x.seat_view.seen → Calls x.seat_view (entries_of x ws y h) y.seat_view
calls_glanced x ws y h run = calls_grown x.seat_view y.seat_view (entries_of x ws y h) run (grows_glanced x ws y h)

-- glances leave the sizes, the pending events and the count of own steps
same_glanced : (x : Seated) (ws : List Word) (y : Seated) → Glances x ws y → (y.seat_view.setup ≡ x.seat_view.setup) × (y.seat_view.fallen ≡ x.seat_view.fallen) × (y.seat_view.start ≡ x.seat_view.start) × (y.steps ≡ x.steps)
same_glanced x [] y h = (ap (λ (s : Seated). s.seat_view.setup) h, ap (λ (s : Seated). s.seat_view.fallen) h, ap (λ (s : Seated). s.seat_view.start) h, ap (λ (s : Seated). s.steps) h)
same_glanced x (w ∷ ws) y h = let later = same_glanced h.0 ws y h.4 in (later.0 ∙ h.2.adds.setup, later.1 ∙ h.2.fallen, later.2 ∙ h.2.start, later.3 ∙ h.3)

pub setup_same : (x : Seated) (ws : List Word) (y : Seated) → Glances x ws y → y.seat_view.setup ≡ x.seat_view.setup
setup_same x ws y h = (same_glanced x ws y h).0

pub length_glanced : (x : Seated) (ws : List Word) (y : Seated) (h : Glances x ws y) → length (entries_of x ws y h) ≡ length ws
length_glanced x [] y h = refl
length_glanced x (w ∷ ws) y h = ap suc (length_glanced h.0 ws y h.4)

pub glances-append : (x : Seated) (ws : List Word) (y : Seated) (vs : List Word) (z : Seated) → Glances x ws y → Glances y vs z → Glances x (ws ++ vs) z
glances-append x [] y vs z h k = subst (λ (s : Seated). Glances s vs z) h k
glances-append x (w ∷ ws) y vs z h k = (h.0, h.1, h.2, h.3, glances-append h.0 ws y vs z h.4 k)

pub glances_snoc : (x : Seated) (ws : List Word) (y z : Seated) (w : Word) (v : ℕ) → Glances x ws y → Looks y.seat_view w v z.seat_view → z.steps ≡ y.steps → Glances x (ws ++ w ∷ []) z
glances_snoc x ws y z w v h looks steps = glances-append x ws y (w ∷ []) z h (z, v, looks, steps, refl)

pub length_row : (i n : ℕ) → length (row_words i n) ≡ n
length_row i zero = refl
length_row i (suc n) = omega (arith, length-append (row_words i n) (DataAt (i + n) ∷ []), length_row i n)

pub length_entries : (l : Layout) (a n : ℕ) → length (entry_words l a n) ≡ n * (2 + l.width)
length_entries l a zero = omega arith
length_entries l a (suc n) =
    let more = length-append (entry_words l a n) (row_words (place_at l (a + n)) (2 + l.width)) in
    let old = length_entries l a n in
    let row = length_row (place_at l (a + n)) (2 + l.width) in
    let grown : suc n * (2 + l.width) ≡ n * (2 + l.width) + (2 + l.width) = grind arith in
    omega (arith, more, old, row, grown)

-- a glance at a data word finds its value, the same before and after the glance
pub reports : (x y : SeatView) (i v : ℕ) → Looks x (DataAt i) v y → v ≡ cells_of y.setup y.seen i
reports x y i v h =
    let a = h.adds in
    let e : TakenStep = glance_entry x (DataAt i) v in
    let run : IsRun y.setup ((x.seen ++ a.between) ++ e ∷ []) = subst (IsRun y.setup) a.seen a.run in
    sym (last_reads y.setup (x.seen ++ a.between) e run refl)
    ∙ ap (λ (w : Words). w i) (sym (cells_snoc y.setup (x.seen ++ a.between) e))
    ∙ ap (λ (es : List TakenStep). cells_of y.setup es i) (sym a.seen)

-- words of rows and entries that are the same
row_word : (v w : Words) (i n k : ℕ) → row v i n ≡ row w i n → k < n → v (i + k) ≡ w (i + k)
row_word v w i zero k e h = absurd (omega arith)
row_word v w i (suc n) zero e h =
    let head : v i ≡ w i = cc in
    let same : i ≡ i + 0 = omega arith in
    subst (λ j. v j ≡ w j) same head
row_word v w i (suc n) (suc k) e h =
    let tail : row v (i + 1) n ≡ row w (i + 1) n = cc in
    let same : (i + 1) + k ≡ i + suc k = omega arith in
    subst (λ j. v j ≡ w j) same (row_word v w (i + 1) n k tail (omega arith))

entry_word : (l : Layout) (v w : Words) (a k : ℕ) → entry l v a ≡ entry l w a → k < 2 + l.width → v (place_at l a + k) ≡ w (place_at l a + k)
entry_word l v w a k e h =
    let p = place_at l a in
    let new = row-from_entry l v a (w p) (w (p + 1)) (row w (p + 2) l.width) e in
    let old = row-from_entry l w a (w p) (w (p + 1)) (row w (p + 2) l.width) refl in
    row_word v w p (suc (suc l.width)) k (new ∙ sym old) (omega arith)

-- what a later glance reads in an entry below count
pub stood : (x y z : Seated) (ws : List Word) (a k v : ℕ) → IsSeatView x.seat_view → Glances x ws y → Looks y.seat_view (DataAt (place_at x.seat_view.setup.layout a + k)) v z.seat_view → z.steps ≡ y.steps
    → a < cells_of x.seat_view.setup x.seat_view.seen 2 → k < 2 + x.seat_view.setup.layout.width → v ≡ cells_of x.seat_view.setup x.seat_view.seen (place_at x.seat_view.setup.layout a + k)
stood x y z ws a k v seat_view h looks steps below within =
    let s = x.seat_view.setup in
    let l = s.layout in
    let i : ℕ = place_at l a + k in
    let all = glances_snoc x ws y z (DataAt i) v h looks steps in
    let c = calls_glanced x (ws ++ DataAt i ∷ []) z all seat_view.run in
    let run : IsRun s (x.seat_view.seen ++ c.since) = subst (λ (t : Setup × List TakenStep). IsRun t.0 t.1) (λ j. (c.setup j, c.seen j)) c.run in
    let same = (entries_stand_in_runs s x.seat_view.seen c.since seat_view.size.layout run).1 a below in
    reports y.seat_view z.seat_view i v looks
    ∙ ap (λ (t : Setup × List TakenStep). cells_of t.0 t.1 i) (λ j. (c.setup j, c.seen j))
    ∙ entry_word l (cells_of s (x.seat_view.seen ++ c.since)) (cells_of s x.seat_view.seen) a k same within

-- an entry, from its words in a row
row_shift : (v w : Words) (i j n : ℕ) → ((k : ℕ) → k < n → v (i + k) ≡ w (j + k)) → row v i n ≡ row w j n
row_shift v w i j zero alike = refl
row_shift v w i j (suc n) alike =
    let zeros : (i ≡ i + 0) × (j ≡ j + 0) = (omega arith, omega arith) in
    let head : v i ≡ w j = ap v zeros.0 ∙ alike 0 (omega arith) ∙ ap w (sym zeros.1) in
    let tail = row_shift v w (i + 1) (j + 1) n (λ k h. let a : (i + 1) + k ≡ i + suc k = omega arith in let b : (j + 1) + k ≡ j + suc k = omega arith in ap v a ∙ alike (suc k) (omega arith) ∙ ap w (sym b)) in
    rw (head, tail) refl

pub entry_read : (l : Layout) (w : Words) (a : ℕ) (xs : List ℕ) → ((j : ℕ) → j < 2 + l.width → slice_index xs j ≡ w (place_at l a + j)) → message (slice_index xs 0) (slice_index xs 1) (row (words_of xs) 2 l.width) ≡ entry l w a
entry_read l w a xs read =
    let p = place_at l a in
    let zero_more : p + 0 ≡ p = omega arith in
    let sender : slice_index xs 0 ≡ w p = read 0 (omega arith) ∙ ap w zero_more in
    let seq : slice_index xs 1 ≡ w (p + 1) = read 1 (omega arith) in
    let value : row (words_of xs) 2 l.width ≡ row w (p + 2) l.width =
    row_shift (words_of xs) w 2 (p + 2) l.width (λ k h. let m : p + (2 + k) ≡ (p + 2) + k = omega arith in read (2 + k) (omega arith) ∙ ap w m) in
    rw (sender, seq, value) refl

-- one word more of a row
pub read_more : (xs : List ℕ) (k v : ℕ) (w : Words) (p : ℕ) → k < length xs → ((j : ℕ) → j < k → slice_index xs j ≡ w (p + j)) → v ≡ w (p + k) → (j : ℕ) → j < k + 1 → slice_index (slice_set xs k v) j ≡ w (p + j)
read_more xs k v w p long read is j h =
    elim (cases_eq j k) [
      | inl e ↦ ap (λ (i : ℕ). slice_index (slice_set xs k v) i) e ∙ get_or-set_same xs k v 0 long ∙ is ∙ ap (λ (i : ℕ). w (p + i)) (sym e)
      | inr ne ↦ get_or-set_other xs k j v 0 ne ∙ read j (omega (arith, ne))
    ]

-- the place of an entry below count
pub place_is : (x : SeatView) (s : Setup) (a r : ℕ) → IsSeatView x → s ≡ x.setup → a < cells_of x.setup x.seen 2 → r ≡ saturate (place_at s.layout a + 0)
    → (r ≡ place_at x.setup.layout a) × (place_at x.setup.layout a + 2 + x.setup.layout.width ≤ size x.setup.layout) × (size x.setup.layout ≤ 900000)
place_is x s a r seat_view e below is =
    let l = x.setup.layout in
    let room = (runs_show x.setup x.seen seat_view.size.layout seat_view.run).1 in
    let cap = seat_view.size.layout.small in
    let up = place_up l a l.cap (omega arith) in
    let small = place_small l l.cap seat_view.size.layout cap in
    let here : r ≡ saturate (place_at l a + 0) = is ∙ ap (λ (t : Setup). saturate (place_at t.layout a + 0)) e in
    (omega arith, omega arith, omega arith)

-- from a point of a run to a later one
pub later_stands : (x : Seated) (ws : List Word) (y : Seated) → IsSeatView x.seat_view → Glances x ws y
    → (cells_of x.seat_view.setup x.seat_view.seen 2 ≤ cells_of y.seat_view.setup y.seat_view.seen 2)
    × ((a : ℕ) → a < cells_of x.seat_view.setup x.seat_view.seen 2 → entry y.seat_view.setup.layout (cells_of y.seat_view.setup y.seat_view.seen) a ≡ entry x.seat_view.setup.layout (cells_of x.seat_view.setup x.seat_view.seen) a)
later_stands x ws y seat_view h =
    let s = x.seat_view.setup in
    let c = calls_glanced x ws y h seat_view.run in
    let P : Setup × List TakenStep → Type 0 = λ t. (cells_of s x.seat_view.seen 2 ≤ cells_of t.0 t.1 2) × ((a : ℕ) → a < cells_of s x.seat_view.seen 2 → entry t.0.layout (cells_of t.0 t.1) a ≡ entry s.layout (cells_of s x.seat_view.seen) a) in
    let run : IsRun s (x.seat_view.seen ++ c.since) = subst (λ (t : Setup × List TakenStep). IsRun t.0 t.1) (λ j. (c.setup j, c.seen j)) c.run in
    subst P (λ j. (sym c.setup j, sym c.seen j)) (entries_stand_in_runs s x.seat_view.seen c.since seat_view.size.layout run)

-- one place more
pub drop_more : (l : Layout) (w : Words) (place k : ℕ) → place ≤ k → drop place (entries l w k) ++ entry l w k ∷ [] ≡ drop place (entries l w (k + 1))
drop_more l w place k h =
    let long = length-entries l w k in
    let e : suc k ≡ k + 1 = omega arith in
    sym (drop-append-le place (entries l w k) (entry l w k ∷ []) (omega (arith, long))) ∙ ap (λ (n : ℕ). drop place (entries l w n)) e

pub drop_none : (l : Layout) (w : Words) (place k : ℕ) → k ≤ place → drop place (entries l w k) ≡ []
drop_none l w place k h = let long = length-entries l w k in drop_all place (entries l w k) (omega (arith, long))

pub words_more : (l : Layout) (place a : ℕ) → place ≤ a → entry_words l place (a - place) ++ row_words (place_at l a) (2 + l.width) ≡ entry_words l place ((a + 1) - place)
words_more l place a h =
    let e : suc (a - place) ≡ (a + 1) - place = omega arith in
    let f : a ≡ place + (a - place) = omega arith in
    ap (λ (n : ℕ). entry_words l place (a - place) ++ row_words (place_at l n) (2 + l.width)) f ∙ ap (entry_words l place) e

-- a reading: the glance of count, and those of the entries from the place on
module _ (x : Seated) (place count : ℕ) (y z : Seated) (messages : List Message) (seat_view : IsSeatView x.seat_view) (looks : Looks x.seat_view (DataAt 2) count y.seat_view) (steps : y.steps ≡ x.steps)
    (glances : Glances y (entry_words x.seat_view.setup.layout place (length messages)) z) (answer : messages ≡ drop place (entries x.seat_view.setup.layout (cells_of y.seat_view.setup y.seat_view.seen) count)) where
  run : IsRun x.seat_view.setup (up_to_count x.seat_view looks.adds.between count)
  run = subst (λ (t : Setup × List TakenStep). IsRun t.0 t.1) (λ j. (looks.adds.setup j, looks.adds.seen j)) looks.adds.run

  count_is : count ≡ cells_of x.seat_view.setup (up_to_count x.seat_view looks.adds.between count) 2
  count_is = reports x.seat_view y.seat_view 2 count looks ∙ ap (λ (t : Setup × List TakenStep). cells_of t.0 t.1 2) (λ j. (looks.adds.setup j, looks.adds.seen j))

  pub reads : ReadsFrom x place messages z
  reads =
      let s = x.seat_view.setup in
      let es = up_to_count x.seat_view looks.adds.between count in
      let words : List Word = DataAt 2 ∷ entry_words s.layout place (length messages) in
      let whole : Glances x words z = (y, count, looks, steps, glances) in
      let rest = calls_glanced y (entry_words s.layout place (length messages)) z glances looks.adds.run in
      let same = same_glanced x words z whole in
      let n : ℕ = length messages in
      let turned : suc (n * (2 + s.layout.width)) ≡ 1 + (2 + s.layout.width) * n = grind arith in
      let own : length (entries_of x words z whole) ≡ 1 + (2 + s.layout.width) * length messages = length_glanced x words z whole ∙ ap suc (length_entries s.layout place n) ∙ turned in
      record {
        between = looks.adds.between;
        apart = looks.adds.apart;
        count = count;
        shown = entries s.layout (cells_of s es) (cells_of s es 2);
        are_shown = (runs_show s es seat_view.size.layout run).0;
        counted = count_is ∙ sym (length-entries s.layout (cells_of s es) (cells_of s es 2));
        answer = answer ∙ ap (λ (t : Setup × List TakenStep × ℕ). drop place (entries s.layout (cells_of t.0 t.1) t.2)) (λ j. (looks.adds.setup j, looks.adds.seen j, count_is j));
        later = rest.since;
        seen = rest.seen ∙ ap (λ (es : List TakenStep). es ++ rest.since) looks.adds.seen;
        mine = entries_of x words z whole;
        calls = calls_glanced x words z whole seat_view.run;
        glances = are_glances x words z whole;
        own_steps = own;
        steps = same.3;
        fallen = same.1;
        start = same.2;
      }

-- the same, as the loop over the entries states it
pub reads_all : (x : Seated) (place count : ℕ) (y z : Seated) (messages : List Message) → IsSeatView x.seat_view → Looks x.seat_view (DataAt 2) count y.seat_view → y.steps ≡ x.steps → Glances y (entry_words y.seat_view.setup.layout place (count - place)) z
    → messages ≡ drop place (entries y.seat_view.setup.layout (cells_of y.seat_view.setup y.seat_view.seen) count) → ReadsFrom x place messages z
reads_all x place count y z messages seat_view looks steps glances answer =
    let w = cells_of y.seat_view.setup y.seat_view.seen in
    let l = y.seat_view.setup.layout in
    let long : length messages ≡ count - place = ap length answer ∙ length-drop place (entries l w count) ∙ ap (λ (k : ℕ). k - place) (length-entries l w count) in
    let looked : Glances y (entry_words x.seat_view.setup.layout place (length messages)) z = subst (λ (t : Setup × ℕ). Glances y (entry_words t.0.layout place t.1) z) (λ j. (looks.adds.setup j, sym long j)) glances in
    let reports : messages ≡ drop place (entries x.seat_view.setup.layout w count) = subst (λ (s : Setup). messages ≡ drop place (entries s.layout w count)) looks.adds.setup answer in
    reads x place count y z messages seat_view looks steps looked reports

pub both_ok : {T E : Type 0} (A C : T → Type 0) (B : Type 0) (r : Result T E) → IfOk r A → OnOk r B → ((v : T) → A v → B → C v) → IfOk r C
both_ok A C B (Ok v) a b f = f v a b
both_ok A C B (Err e) a b f = tt

pub either_way : {T E : Type 0} (A : T → Type 0) (B C : Type 0) (r : Result T E) → IfOk r A → OnErr r B → ((v : T) → A v → C) → (B → C) → C
either_way A B C (Ok v) a b f g = f v a
either_way A B C (Err e) a b f g = g b

-- a word of the table's head
pub count_within : (l : Layout) → 2 < size l
count_within l = let low = place_low l l.cap in omega arith
