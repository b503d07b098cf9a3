-- What the seat knows into which the other members' seats are joined, and what its glances find once it answers for all.
use Rattle.std.proofs.Common.{◌≡◌, ℕ, suc, ◌+◌, ◌<◌, ◌==◌, true, true≢false, List, [], ◌∷◌, ◌++◌, length, map, get_or, All, refl, sym, ap, ◌∙◌, subst, ⊎_elim, arith, append-nil, append_assoc, length-append, eq-eqb, eqb-true, remove}
use Rattle.table_runs.proofs.Common.{or_cases, All-nil, All-cons, All-append, All-head, All-tail, slice_index, Own, Word, size, reading, SeatKnowledge, TakenStep, View, Setup, OneArena, has_member, image_at}
use Rattle.table_runs.proofs.Common.{IsGlance, IsWholeView, IsGatheredRun, Gathers, Knows, Absorbs, AnswersAll, Looked, Stays, single_seat, view_of, glance_step, count_from, joined_knowledge, IsViewOf, Did, MayLoad, stepper, entry_of}
use Rattle.table_runs.proofs.Common.{Seated, entries_of, IsRun, end_of, has, index, InTable}
use Rattle.table_runs.specs.Rule.{IsPrefixOf}
use Rattle.table_runs.specs.GatheredRuns.{answers_of}
use Rattle.rmeworld.specs.declared.image.Image.{Image}
use Rattle.table_runs.proofs.Leads.{has_one}
use Rattle.table_runs.proofs.Keeps.{has-append_left, has-append_right}
use Rattle.table_runs.proofs.Runs.{own-append, own_mine, own_other, words_snoc, cells_snoc, reading_same, last_reads, legal_front, run_within}

-- a glance may be taken for any process
pub may_glance : (v : View) (s : Setup) (word : Word) (at : ℕ) → v.setup ≡ s → InTable s word → at ≡ index s word → has (stepper v) v.answers ≡ true → MayLoad (glance_step word) at v
may_glance v s word at e t is some = (
  subst (λ (z : Setup). at ≡ index z word) (sym e) is,
  subst (λ (z : Setup). InTable z word) (sym e) t,
  refl,
  λ found small. (some, (refl, tt)),
)

-- the first member steps
answers_first : (first : Seated) (xs : List Seated) → slice_index (answers_of first xs) 0 ≡ first.seat_view.by
answers_first first [] = refl
answers_first first (x ∷ xs) = first_of_more (answers_of first xs) (x.seat_view.by ∷ []) (some xs) ∙ answers_first first xs
  where
    first_of_more : (ps qs : List ℕ) → 0 < length ps → slice_index (ps ++ qs) 0 ≡ slice_index ps 0
    first_of_more [] qs h = absurd (omega arith)
    first_of_more (p ∷ ps) qs h = refl

    some : (ys : List Seated) → 0 < length (answers_of first ys)
    some [] = omega arith
    some (y ∷ ys) = let h = some ys in omega (arith, length-append (answers_of first ys) (y.seat_view.by ∷ []), h)

answers_has_first : (first : Seated) (xs : List Seated) → has first.seat_view.by (answers_of first xs) ≡ true
answers_has_first first [] = has_one first.seat_view.by
answers_has_first first (x ∷ xs) = has-append_left first.seat_view.by (answers_of first xs) (x.seat_view.by ∷ []) (answers_has_first first xs)

pub knows_some : (first : Seated) (xs : List Seated) (n : ℕ) (k : SeatKnowledge) → Knows first xs n k → has (stepper k.view) k.view.answers ≡ true
knows_some first xs n k h = subst (λ (ps : List ℕ). has (slice_index ps 0) ps ≡ true) (sym h.answers) (ap (λ (p : ℕ). has p (answers_of first xs)) (answers_first first xs) ∙ answers_has_first first xs)

-- each process whose member was joined is answered for
answers_has : (first : Seated) (xs : List Seated) (p : ℕ) → has_member p xs ≡ true → has p (answers_of first xs) ≡ true
answers_has first [] p h = absurd (true≢false (sym h))
answers_has first (x ∷ xs) p h =
    ⊎_elim
    (λ (e : (x.seat_view.by == p) ≡ true). has-append_right p (answers_of first xs) (x.seat_view.by ∷ []) (rw e refl))
    (λ (e : has_member p xs ≡ true). has-append_left p (answers_of first xs) (x.seat_view.by ∷ []) (answers_has first xs p e))
    (or_cases (x.seat_view.by == p) (has_member p xs) h)

answers_all : (first : Seated) (xs : List Seated) (p : ℕ) → has_member p (first ∷ xs) ≡ true → has p (answers_of first xs) ≡ true
answers_all first xs p h =
    ⊎_elim
    (λ (e : (first.seat_view.by == p) ≡ true). let same : first.seat_view.by ≡ p = eqb-true first.seat_view.by p e in subst (λ (q : ℕ). has q (answers_of first xs) ≡ true) same (answers_has_first first xs))
    (λ (e : has_member p xs ≡ true). answers_has first xs p e)
    (or_cases (first.seat_view.by == p) (has_member p xs) h)

answers_each : (first : Seated) (xs : List Seated) → All (λ (x : Seated). has x.seat_view.by (answers_of first xs) ≡ true) xs
answers_each first [] = All-nil _
answers_each first (x ∷ xs) =
    let P : Seated → Type 0 = λ (y : Seated). has y.seat_view.by (answers_of first (x ∷ xs)) ≡ true in
    All-cons P x xs (has-append_right x.seat_view.by (answers_of first xs) (x.seat_view.by ∷ []) (has_one x.seat_view.by))
    (λ i d h. has-append_left _ (answers_of first xs) (x.seat_view.by ∷ []) (answers_each first xs i d h))

-- a prefix of a prefix
begins_on : (xs ys zs : List TakenStep) → IsPrefixOf xs ys → IsPrefixOf ys zs → IsPrefixOf xs zs
begins_on xs ys zs a b = (a.0 ++ b.0, b.1 ∙ ap (λ (l : List TakenStep). l ++ b.0) a.1 ∙ append_assoc xs a.0 b.0)

pub all_left : {X : Type 0} (P : X → Type 0) (xs ys : List X) → All P (xs ++ ys) → All P xs
all_left P [] ys h = All-nil P
all_left P (x ∷ xs) ys h = All-cons P x xs (All-head P x (xs ++ ys) h) (all_left P xs ys (All-tail P x (xs ++ ys) h))

pub all_right : {X : Type 0} (P : X → Type 0) (xs ys : List X) → All P (xs ++ ys) → All P ys
all_right P [] ys h = h
all_right P (x ∷ xs) ys h = all_right P xs ys (All-tail P x (xs ++ ys) h)

-- each of the others is at the first one's table
pub one_table : (first : Seated) (others front taken : List Seated) (x : Seated) → OneArena (first ∷ others) → others ≡ (front ++ x ∷ []) ++ taken → x.seat_view.table ≡ first.seat_view.table
one_table first others front taken x a e =
    let P : Seated → Type 0 = λ (y : Seated). y.seat_view.table ≡ a.0 in
    let all : All P ((front ++ x ∷ []) ++ taken) = subst (All P) e (All-tail P first others a.1) in
    All-head P x [] (all_right P front (x ∷ []) (all_left P (front ++ x ∷ []) taken all)) ∙ sym (All-head P first others a.1)

pub in_itself : (v : View) → IsViewOf v.seen v
in_itself v = record { begins = ([], sym (append-nil v.seen)); own_are = λ p h. refl }

pub knows_first : (x : Seated) (k : SeatKnowledge) → k ≡ single_seat x.seat_view.setup x.seat_view.by x.seat_view.seen → Knows x [] 0 k
knows_first x k e =
    subst (Knows x [] 0) (sym e)
    record {
      setup = refl;
      answers = refl;
      tells = λ run inside reports. record {
        glances = [];
        are_glances = All-nil IsGlance;
        count_is = refl;
        begins = inside.begins;
        own_is = inside.own_are x.seat_view.by (has_one x.seat_view.by) ∙ sym (append-nil (entries_of x.seat_view.by x.seat_view.seen));
        whole = All-nil (IsWholeView x run);
      };
    }

-- one more glance
module _ (first : Seated) (xs : List Seated) (n : ℕ) (k l : SeatKnowledge) (word : Word) (found : ℕ) (h : Knows first xs n k) (d : Did (glance_step word) k found l) where
  abbrev front : List TakenStep
  front = k.view.seen ++ d.between

  abbrev g : TakenStep
  g = entry_of k.view (glance_step word) found

  g_by : g.by ≡ first.seat_view.by
  g_by = ap (λ (ps : List ℕ). slice_index ps 0) h.answers ∙ answers_first first xs

  before : IsGatheredRun first xs n front
  before = h.tells front (record { begins = (d.between, refl); own_are = λ p m. own-append p k.view.seen d.between ∙ ap (λ (es : List TakenStep). entries_of p k.view.seen ++ es) (d.apart p m) ∙ append-nil (entries_of p k.view.seen) }) d.reports

  answers : l.view.answers ≡ answers_of first xs
  answers = d.answers ∙ h.answers

  answered : (p : ℕ) → has p (answers_of first xs) ≡ true → has p l.view.answers ≡ true
  answered p m = subst (λ (ps : List ℕ). has p ps ≡ true) (sym answers) m

  module _ (run : List TakenStep) (inside : IsViewOf run l.view) where
    own_run : (p : ℕ) → has p (answers_of first xs) ≡ true → entries_of p run ≡ entries_of p front ++ entries_of p (g ∷ [])
    own_run p m = inside.own_are p (answered p m) ∙ ap (entries_of p) d.seen ∙ own-append p front (g ∷ [])

    front_begins : IsPrefixOf front run
    front_begins = begins_on front l.view.seen run (g ∷ [], d.seen) inside.begins

    other : (x : Seated) → has x.seat_view.by (answers_of first xs) ≡ true → IsWholeView first front x → IsWholeView first run x
    other x m w = record {
      begins = begins_on x.seat_view.seen front run w.begins front_begins;
      own_is = λ ne. own_run x.seat_view.by m ∙ ap (λ (es : List TakenStep). entries_of x.seat_view.by front ++ es) (own_other x.seat_view.by g (λ (e : g.by ≡ x.seat_view.by). ne (sym e ∙ g_by))) ∙ append-nil (entries_of x.seat_view.by front) ∙ w.own_is ne;
    }

    reported_more : IsGatheredRun first xs (n + 1) run
    reported_more =
        let p = first.seat_view.by in
        record {
          glances = before.glances ++ g ∷ [];
          are_glances = All-append IsGlance before.glances (g ∷ []) before.are_glances (All-cons IsGlance g [] (word, refl) (All-nil IsGlance));
          count_is = (let c = before.count_is in omega (arith, length-append before.glances (g ∷ []), c));
          begins = begins_on first.seat_view.seen front run before.begins front_begins;
          own_is = own_run p (answers_has_first first xs) ∙ ap (λ (es : List TakenStep). entries_of p front ++ es) (own_mine p g g_by) ∙ ap (λ (es : List TakenStep). es ++ g ∷ []) before.own_is ∙ append_assoc (entries_of p first.seat_view.seen) before.glances (g ∷ []);
          whole = λ i e m. other _ (answers_each first xs i e m) (before.whole i e m);
        }

  glanced_on : Knows first xs (n + 1) l
  glanced_on = record { setup = d.setup ∙ h.setup; answers = answers; tells = λ run inside reports. reported_more run inside }

-- one more seat
joined_on : (first : Seated) (xs : List Seated) (n : ℕ) (k : SeatKnowledge) (x : Seated) → Knows first xs n k → Knows first (x ∷ xs) n (joined_knowledge k (single_seat x.seat_view.setup x.seat_view.by x.seat_view.seen))
joined_on first xs n k x h =
    record {
      setup = h.setup;
      answers = ap (λ (ps : List ℕ). ps ++ x.seat_view.by ∷ []) h.answers;
      tells = λ run inside reports.
          let front = all_left (IsViewOf run) (k.view ∷ k.reports) (view_of x.seat_view ∷ []) reports in
          let back = All-head (IsViewOf run) (view_of x.seat_view) [] (all_right (IsViewOf run) (k.view ∷ k.reports) (view_of x.seat_view ∷ []) reports) in
          let t = h.tells run (All-head (IsViewOf run) k.view k.reports front) (All-tail (IsViewOf run) k.view k.reports front) in
          record {
            glances = t.glances;
            are_glances = t.are_glances;
            count_is = t.count_is;
            begins = t.begins;
            own_is = t.own_is;
            whole = All-cons (IsWholeView first run) x xs (record { begins = back.begins; own_is = λ ne. back.own_are x.seat_view.by (has_one x.seat_view.by) }) t.whole;
          };
    }

pub absorbs_on : (first : Seated) (xs : List Seated) (k l : SeatKnowledge) (x : Seated) → Knows first xs (length xs) k → Absorbs k x.seat_view l → Knows first (x ∷ xs) (length (x ∷ xs)) l
absorbs_on first xs k l x h a =
    let m : SeatKnowledge = a.2 in
    let more : Knows first xs (length xs + 1) m = glanced_on first xs (length xs) k m a.0 a.1 h a.3 in
    let long : length xs + 1 ≡ suc (length xs) = omega arith in
    subst (λ (t : ℕ × SeatKnowledge). Knows first (x ∷ xs) t.0 t.1) (λ i. (long i, sym a.4 i)) (joined_on first xs (length xs + 1) m x more)

-- the seat answers for all processes, once all members are joined into it
pub knows_all : (z : Setup) (first : Seated) (xs : List Seated) (n : ℕ) (k : SeatKnowledge) → z ≡ first.seat_view.setup → Knows first xs n k → 0 < first.seat_view.setup.layout.procs → ((p : ℕ) → p < first.seat_view.setup.layout.procs → has_member p (first ∷ xs) ≡ true) → AnswersAll z k.view
knows_all z first xs n k same h some all =
    subst (λ (s : Setup). AnswersAll s k.view) (sym same) (h.setup, λ p below. subst (λ (ps : List ℕ). has p ps ≡ true) (sym h.answers) (answers_all first xs p (all p below)), some)

pub all_some : (s : Setup) (v : View) → AnswersAll s v → has (stepper v) v.answers ≡ true
all_some s v a = first_there v.answers (a.1 0 a.2)
  where
    first_there : (ps : List ℕ) → has 0 ps ≡ true → has (slice_index ps 0) ps ≡ true
    first_there [] h = absurd (true≢false (sym h))
    first_there (q ∷ qs) h = rw (eq-eqb q q refl) refl

pub looked : (s : Setup) (k l : SeatKnowledge) (word : Word) (found : ℕ) → AnswersAll s k.view → Did (glance_step word) k found l → Looked s word k found l
looked s k l word found all d =
    let e : TakenStep = entry_of k.view (glance_step word) found in
    let setup : l.view.setup ≡ s = d.setup ∙ all.0 in
    let whole : IsRun s ((k.view.seen ++ d.between) ++ e ∷ []) = subst (λ (t : Setup × List TakenStep). IsRun t.0 t.1) (λ i. (setup i, d.seen i)) d.run in
    let none : d.between ≡ [] = run_within s k.view.seen d.between (legal_front s (k.view.seen ++ d.between) (e ∷ []) whole) (λ p h. d.apart p (all.1 p h)) in
    let here : k.view.seen ++ d.between ≡ k.view.seen = ap (λ (b : List TakenStep). k.view.seen ++ b) none ∙ append-nil k.view.seen in
    let seen : l.view.seen ≡ k.view.seen ++ e ∷ [] = d.seen ∙ ap (λ (es : List TakenStep). es ++ e ∷ []) here in
    let legal : IsRun s (k.view.seen ++ e ∷ []) = subst (λ (es : List TakenStep). IsRun s (es ++ e ∷ [])) here whole in
    record {
      setup = d.setup;
      answers = d.answers;
      run = legal_front s k.view.seen (e ∷ []) legal;
      words = ap (λ (es : List TakenStep). (end_of s es).words) seen ∙ words_snoc s k.view.seen e;
      cells = ap (λ (es : List TakenStep). (end_of s es).cells) seen ∙ cells_snoc s k.view.seen e;
      found_is = sym (last_reads s k.view.seen e legal refl);
      reports = subst (λ (es : List TakenStep). All (IsViewOf es) k.reports) here d.reports;
    }

pub looked_stays : (s : Setup) (word : Word) (k l : SeatKnowledge) (found : ℕ) → Looked s word k found l → Stays s k l
looked_stays s word k l found x = record { setup = x.setup; answers = x.answers; words = x.words; cells = x.cells }

pub stays_on : (s : Setup) (k l m : SeatKnowledge) → Stays s k l → Stays s l m → Stays s k m
stays_on s k l m x y = record { setup = y.setup ∙ x.setup; answers = y.answers ∙ x.answers; words = y.words ∙ x.words; cells = y.cells ∙ x.cells }

pub still_all : (s : Setup) (k l : SeatKnowledge) → Stays s k l → AnswersAll s k.view → AnswersAll s l.view
still_all s k l x all = (x.setup ∙ all.0, λ p h. subst (λ (ps : List ℕ). has p ps ≡ true) (sym x.answers) (all.1 p h), all.2)

-- what a later glance reads was in the word before
pub found_first : (s : Setup) (word : Word) (k l m : SeatKnowledge) (found : ℕ) → Stays s k l → Looked s word l found m → found ≡ reading (end_of s k.view.seen) word
found_first s word k l m found x y = y.found_is ∙ reading_same (end_of s k.view.seen) (end_of s l.view.seen) word x.words x.cells

pub first_removed : (xs ys : List Seated) (x : Seated) → 0 < length xs → x ≡ get_or xs 0 x → ys ≡ remove xs 0 → xs ≡ x ∷ ys
first_removed [] ys x h e f = absurd (omega arith)
first_removed (z ∷ zs) ys x h e f = λ i. sym e i ∷ sym f i

-- the words that were read are those of the end of the run
pub image_is : (z : Setup) (k l m : SeatKnowledge) (lock : List Own) (cells : List ℕ) → Stays z k l → Stays z l m → lock ≡ map (end_of z l.view.seen).words (count_from 0 z.layout.procs) → cells ≡ map (end_of z m.view.seen).cells (count_from 0 (size z.layout))
    → record { cap = z.layout.cap; cells = cells; limit = z.limit; lock = lock; version = 2; width = z.layout.width } ≡ image_at z (end_of z k.view.seen)
image_is z k l m lock cells x y e f =
    let locks : lock ≡ map (end_of z k.view.seen).words (count_from 0 z.layout.procs) = e ∙ ap (λ (g : ℕ → Own). map g (count_from 0 z.layout.procs)) x.words in
    let datas : cells ≡ map (end_of z k.view.seen).cells (count_from 0 (size z.layout)) = f ∙ ap (λ (g : ℕ → ℕ). map g (count_from 0 (size z.layout))) (y.cells ∙ x.cells) in
    λ i. record { cap = z.layout.cap; cells = datas i; limit = z.limit; lock = locks i; version = 2; width = z.layout.width }

pub gathers : (first : Seated) (xs : List Seated) (k : SeatKnowledge) (image : Image) → Knows first xs (length xs) k → ((p : ℕ) → p < first.seat_view.setup.layout.procs → has_member p (first ∷ xs) ≡ true)
    → IsRun first.seat_view.setup k.view.seen → All (IsViewOf k.view.seen) k.reports → image ≡ image_at first.seat_view.setup (end_of first.seat_view.setup k.view.seen) → Gathers (first ∷ xs) image
gathers first xs k image h all run reports is = record { first = first; others = xs; are = refl; all = all; run = k.view.seen; legal = run; reports = h.tells k.view.seen (in_itself k.view) reports; words = is }
