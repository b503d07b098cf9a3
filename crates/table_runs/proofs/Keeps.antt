-- Each step keeps the rule. What is proved here doesn't use the lock's machine.
use Rattle.std.proofs.Common.{◌≡◌, ◌≢◌, ◌⊎◌, ℕ, zero, suc, ◌+◌, ◌<◌, ◌≤◌, ◌==◌, ltb, Bool, true, false, cond, All, true≢false, List, [], ◌∷◌, ◌++◌, length, set, replicate, refl, sym, ap, ◌∙◌, subst, inl, inr, ⊎_elim, arith, eqb-true, eq-eqb, ne_eqb, length-set, length-append, append_assoc, append-nil, ltb-true, ltb-false}
use Rattle.table_runs.proofs.Common.{set-get_or, or_cases, All-nil, All-cons, All-append, slice_index, dite, ℕ_discrete, keeps, Allows, Splits, Joins, opening, ProcessState, at_rest, at_first, reading, SeatKnowledge, Step, TakenStep, View}
use Rattle.table_runs.proofs.Common.{Setup, count_from, joined_knowledge, IsViewOf, Did, MayLoad, stepper, entry_of, opening_known, longer, spent_known, SeatAnswersFor, AllFit, IsMember, IsRunOfTable, TableRuleHolds, MayTake, MayStore, MayStepPastEnd}
use Rattle.table_runs.proofs.Common.{world_events, events_of_run, entries_of, IsRun, end_of, process_state_past, process_state_of, has, index, InTable, AllowsEvents, word_count, IsBeyond, Shows, stores}
use mathlib.Core.Option.{Option, some, some-injective, some-ne-none}
use lib.ListN.{get_elem?}
use Rattle.atomic_table.specs.Table.{Act, Valid, stepped, carried_after}
use Rattle.atomic_table.proofs.Lists.{at_set, at_longer, at_last, set_here, set_else}
use Rattle.table_runs.specs.Rule.{IsPrefixOf, FitsRun}
use Rattle.std.proofs.lemmas.Bool.{or_left, or_right}
use Rattle.table_runs.proofs.Leads.{has_one}
use Rattle.table_runs.proofs.Runs.{own-append, own_other, prolongs, shows_load, shows_store, shows_beyond, reads_beyond, shows_rest}

nothing_after : (xs ys zs : List TakenStep) → xs ≡ ys ++ zs → length xs ≡ length ys → zs ≡ []
nothing_after xs ys [] e h = refl
nothing_after xs ys (z ∷ zs) e h = absurd (let k : length xs ≡ length (ys ++ z ∷ zs) = ap length e in omega (arith, length-append ys (z ∷ zs)))

-- a process that has all its entries in a prefix has none after it
pub none_after : (p : ℕ) (log xs rest : List TakenStep) → log ≡ xs ++ rest → entries_of p log ≡ entries_of p xs → entries_of p rest ≡ []
none_after p log xs rest e h = nothing_after (entries_of p log) (entries_of p xs) (entries_of p rest) (ap (entries_of p) e ∙ own-append p xs rest) (ap length h)

begins_more : (log xs : List TakenStep) (e : TakenStep) → IsPrefixOf xs log → IsPrefixOf xs (log ++ e ∷ [])
begins_more log xs e b = (b.0 ++ e ∷ [], ap (λ (l : List TakenStep). l ++ e ∷ []) b.1 ∙ append_assoc xs b.0 (e ∷ []))

-- a step of another process
own_kept : (p : ℕ) (log : List TakenStep) (e : TakenStep) → e.by ≢ p → entries_of p (log ++ e ∷ []) ≡ entries_of p log
own_kept p log e h = own-append p log (e ∷ []) ∙ ap (λ (l : List TakenStep). entries_of p log ++ l) (own_other p e h) ∙ append-nil (entries_of p log)

pub has-append : (p : ℕ) (xs ys : List ℕ) → has p (xs ++ ys) ≡ true → (has p xs ≡ true) ⊎ (has p ys ≡ true)
has-append p [] ys h = inr h
has-append p (x ∷ xs) ys h =
    elim (or_cases (x == p) (has p (xs ++ ys)) h) [
      | inl here ↦ inl (or_left (x == p) (has p xs) here)
      | inr later ↦ elim (has-append p xs ys later) [ inl first ↦ inl (or_right (x == p) (has p xs) first) | inr last ↦ inr last ]
    ]

pub has-append_left : (p : ℕ) (xs ys : List ℕ) → has p xs ≡ true → has p (xs ++ ys) ≡ true
has-append_left p [] ys h = absurd (cc)
has-append_left p (x ∷ xs) ys h =
    elim (or_cases (x == p) (has p xs) h) [ inl here ↦ or_left (x == p) (has p (xs ++ ys)) here | inr later ↦ or_right (x == p) (has p (xs ++ ys)) (has-append_left p xs ys later) ]

pub has-append_right : (p : ℕ) (xs ys : List ℕ) → has p ys ≡ true → has p (xs ++ ys) ≡ true
has-append_right p [] ys h = h
has-append_right p (x ∷ xs) ys h = or_right (x == p) (has p (xs ++ ys)) (has-append_right p xs ys h)

within : {A : Type 0} (l : List A) (i : ℕ) (x : A) → get_elem? l i ≡ some x → i < length l
within [] i x h = absurd (some-ne-none x (sym h))
within (y ∷ ys) zero x h = omega arith
within (y ∷ ys) (suc i) x h = let k : i < length ys = within ys i x h in omega arith

-- seat id still answers for p
member_set : (views : List SeatKnowledge) (owner : ℕ → ℕ) (id : ℕ) (v w : SeatKnowledge) (p : ℕ) → get_elem? views id ≡ some v → (has p v.view.answers ≡ true → has p w.view.answers ≡ true) → IsMember views owner p → IsMember (set views id w) owner p
member_set views owner id v w p at keep m =
    dite (ℕ_discrete (owner p) id)
    (λ (s : owner p ≡ id).
    let same_one : m.0 ≡ v = some-injective m.0 v (sym m.1 ∙ ap (get_elem? views) s ∙ at) in
    (w, ap (get_elem? (set views id w)) s ∙ set_here views id w (within views id v at), keep (ap (λ (u : SeatKnowledge). has p u.view.answers) (sym same_one) ∙ m.2)))
    (λ (s : owner p ≢ id). (m.0, set_else views id (owner p) w s ∙ m.1, m.2))

-- the one lemma for all kinds: an entry that is allowed at the stepper's place, and by the words, prolongs the run
module _ (sizes : Setup) (log : List TakenStep) (owner : ℕ → ℕ) (words : List ℕ) (views : List SeatKnowledge) (k : IsRunOfTable sizes log owner words views) (id : ℕ) (v : SeatKnowledge) (at : get_elem? views id ≡ some v) (step : Step) (value : ℕ) (may : MayTake step v.view value) where
  abbrev e : TakenStep
  e = entry_of v.view step value

  abbrev w : SeatKnowledge
  w = record { view = record { setup = v.view.setup; answers = v.view.answers; seen = log ++ e ∷ [] }; reports = [] }

  mine : SeatAnswersFor sizes log owner id v.view (stepper v.view)
  mine = (k.fits id v at).0.1 (stepper v.view) may.0

  longer_run : (stores e ≡ false → reading (end_of sizes log) step.word ≡ value) → IsRun sizes (log ++ e ∷ [])
  longer_run reads =
      let p = stepper v.view in
      let here : process_state_of sizes p v.view.seen ≡ process_state_of sizes p log = ap (λ (es : List TakenStep). process_state_past sizes at_rest (events_of_run es)) (sym mine.own_is) in
      let goes : AllowsEvents sizes (process_state_of sizes p v.view.seen) (world_events e) = subst (λ (z : Setup). AllowsEvents z (process_state_of z p v.view.seen) (world_events e)) mine.setup may.1 in
      prolongs sizes log e k.run mine.within (subst (λ (q : ProcessState). AllowsEvents sizes q (world_events e)) here goes) reads

  -- what was known of the caller's setup holds of the table's
  known : (P : Setup → Type 0) → P v.view.setup → P sizes
  known P h = subst P mine.setup h

  other_fits : (j : ℕ) (u : View) → j ≢ id → FitsRun sizes log owner j u → FitsRun sizes (log ++ e ∷ []) owner j u
  other_fits j u apart f = (
    begins_more log u.seen _ f.0,
    λ p h.
        let x = f.1 p h in
        record { setup = x.setup; within = x.within; seat = x.seat; own_is = own_kept p log _ (λ (s : stepper v.view ≡ p). apart (sym x.seat ∙ ap owner (sym s) ∙ mine.seat)) ∙ x.own_is },
  )

  here : AllFit sizes (log ++ e ∷ []) owner id w
  here = ((([], sym (append-nil _)), λ p h. let x = (k.fits id v at).0.1 p h in record { setup = x.setup; within = x.within; seat = x.seat; own_is = refl }), All-nil _)

  fits_after : (j : ℕ) (u : SeatKnowledge) → get_elem? (set views id w) j ≡ some u → AllFit sizes (log ++ e ∷ []) owner j u
  fits_after j u there =
      ⊎_elim
      (λ (x : (j ≡ id) × (w ≡ u)). subst (λ (y : ℕ × SeatKnowledge). AllFit sizes (log ++ e ∷ []) owner y.0 y.1) (λ i. (sym x.0 i, x.1 i)) here)
      (λ (x : (j ≢ id) × (get_elem? views j ≡ some u)). let f = k.fits j u x.1 in (other_fits j u.view x.0 f.0, λ i d h. other_fits j _ x.0 (f.1 i d h)))
      (at_set views id j w u there)

  kept_as : (now : List ℕ) → IsRun sizes (log ++ e ∷ []) → Shows sizes (end_of sizes (log ++ e ∷ [])) now → IsRunOfTable sizes (log ++ e ∷ []) owner now (set views id w)
  kept_as now run shows = record { run = run; shows = shows; fits = fits_after; members = λ p h. member_set views owner id v w p at (λ m. m) (k.members p h) }

  kept_load : InTable sizes step.word → stores e ≡ false → slice_index words (index sizes step.word) ≡ value → IsRunOfTable sizes (log ++ e ∷ []) owner words (set views id w)
  kept_load t loads reads = kept_as words (longer_run (λ _. sym (k.shows.1 step.word t) ∙ reads)) (shows_load sizes log e words loads k.shows)

  kept_store : InTable sizes step.word → stores e ≡ true → IsRunOfTable sizes (log ++ e ∷ []) owner (set words (index sizes step.word) value) (set views id w)
  kept_store t is = kept_as (set words (index sizes step.word) value) (longer_run (λ loads. absurd (true≢false (sym is ∙ loads)))) (shows_store sizes log e words is t k.shows)

  kept_beyond : IsBeyond sizes step.word → (stores e ≡ false → value ≡ 0) → IsRunOfTable sizes (log ++ e ∷ []) owner words (set views id w)
  kept_beyond t none = kept_as words (longer_run (λ loads. reads_beyond sizes log step.word t ∙ sym (none loads))) (shows_beyond sizes log e words t k.shows)

  reports : IsRun sizes (log ++ e ∷ []) → Did step v value w
  reports run =
      let f = k.fits id v at in
      record {
        setup = refl;
        answers = refl;
        none_reported = refl;
        between = f.0.0.0;
        seen = ap (λ (l : List TakenStep). l ++ e ∷ []) f.0.0.1;
        apart = λ p h. none_after p log v.view.seen f.0.0.0 f.0.0.1 (f.0.1 p h).own_is;
        run = subst (λ (z : Setup). IsRun z (log ++ e ∷ [])) (sym mine.setup) run;
        reports = subst (λ (l : List TakenStep). All (IsViewOf l) v.reports) f.0.0.1 (λ i d h. let g = f.1 i d h in record { begins = g.0; own_are = λ p m. (g.1 p m).own_is });
      }

  -- so the step may be taken, and the caller learns this
  allowed : (homes : List (Option (Unit {0}))) (c : List (ℕ × Unit {0})) (word new : ℕ) (now : List ℕ) → set words word new ≡ now → IsRunOfTable sizes (log ++ e ∷ []) owner now (set views id w)
      → (u : SeatKnowledge) × (a : Act (Unit {0})) × Valid homes c a × TableRuleHolds sizes (stepped (record { words = words; homes = homes; views = views }) word new id c u a) × (Did step v value u × (carried_after c a ≡ c))
  allowed homes c word new now same kept = (w, keeps, tt, (log ++ e ∷ [], owner, subst (λ (ws : List ℕ). IsRunOfTable sizes (log ++ e ∷ []) owner ws (set views id w)) (sym same) kept), (reports kept.run, refl))

pub loads : (sizes : Setup) (slots id : ℕ) (v : SeatKnowledge) (c : List (ℕ × Unit {0})) (step : Step) (word : ℕ)
    → MayLoad step word v.view
    → Allows (TableRuleHolds sizes) slots id (v, c) word (λ x. x) (λ found m. Did step v found m.0 × (m.1 ≡ c))
loads sizes slots id v c step word may s h homes at small =
    let value = slice_index s.words word in
    let m = may.3 value small in
    let there : (word ≡ index sizes step.word) × InTable sizes step.word =
    known sizes h.0 h.1 s.words s.views h.2 id v at step value m (λ z. (word ≡ index z step.word) × InTable z step.word) (may.0, may.1) in
    let k = kept_load sizes h.0 h.1 s.words s.views h.2 id v at step value m there.1 may.2 (ap (slice_index s.words) (sym there.0)) in
    allowed sizes h.0 h.1 s.words s.views h.2 id v at step value m s.homes c word value s.words (set-get_or s.words word 0) k

pub stores_kept : (sizes : Setup) (slots id : ℕ) (v : SeatKnowledge) (c : List (ℕ × Unit {0})) (step : Step) (word new : ℕ)
    → MayStore step word v.view new
    → Allows (TableRuleHolds sizes) slots id (v, c) word (λ _. new) (λ _ m. Did step v new m.0 × (m.1 ≡ c))
stores_kept sizes slots id v c step word new may s h homes at small =
    let m = may.3 in
    let there : (word ≡ index sizes step.word) × InTable sizes step.word =
    known sizes h.0 h.1 s.words s.views h.2 id v at step new m (λ z. (word ≡ index z step.word) × InTable z step.word) (may.0, may.1) in
    let k = kept_store sizes h.0 h.1 s.words s.views h.2 id v at step new m there.1 may.2 in
    allowed sizes h.0 h.1 s.words s.views h.2 id v at step new m s.homes c word new (set s.words (index sizes step.word) new) (ap (λ (i : ℕ). set s.words i new) there.0) k

pub passes : (sizes : Setup) (slots id : ℕ) (v : SeatKnowledge) (c : List (ℕ × Unit {0})) (step : Step) (word value : ℕ)
    → MayStepPastEnd step v.view value
    → Allows (TableRuleHolds sizes) slots id (v, c) word (λ x. x) (λ found m. Did step v value m.0 × (m.1 ≡ c))
passes sizes slots id v c step word value may s h homes at small =
    let m = may.2 in
    let there : IsBeyond sizes step.word = known sizes h.0 h.1 s.words s.views h.2 id v at step value m (λ z. IsBeyond z step.word) may.0 in
    let k = kept_beyond sizes h.0 h.1 s.words s.views h.2 id v at step value m there may.1 in
    allowed sizes h.0 h.1 s.words s.views h.2 id v at step value m s.homes c word (slice_index s.words word) s.words (set-get_or s.words word 0) k

own_same : (p : ℕ) (log xs ys rest : List TakenStep) → log ≡ ys ++ rest → entries_of p log ≡ entries_of p xs → (more : List TakenStep) → ys ≡ xs ++ more → entries_of p log ≡ entries_of p ys
own_same p log xs ys rest e h more f =
    let whole : log ≡ xs ++ (more ++ rest) = e ∙ ap (λ (l : List TakenStep). l ++ rest) f ∙ append_assoc xs more rest in
    let none : entries_of p (more ++ rest) ≡ [] = none_after p log xs (more ++ rest) whole h in
    let first : entries_of p more ≡ [] = front_empty (entries_of p more) (entries_of p rest) (sym (own-append p more rest) ∙ none) in
    h ∙ sym (ap (entries_of p) f ∙ own-append p xs more ∙ ap (λ (l : List TakenStep). entries_of p xs ++ l) first ∙ append-nil (entries_of p xs))
  where
    front_empty : (xs ys : List TakenStep) → xs ++ ys ≡ [] → xs ≡ []
    front_empty [] ys e = refl
    front_empty (x ∷ xs) ys e = absurd (cc)

-- of two prefixes of one list the shorter is a prefix of the longer
two_fronts : (log xs ys r t : List TakenStep) → log ≡ xs ++ r → log ≡ ys ++ t → length xs ≤ length ys → IsPrefixOf xs ys
two_fronts log [] ys r t e f h = (ys, refl)
two_fronts log (x ∷ xs) [] r t e f h = absurd (omega arith)
two_fronts [] (x ∷ xs) (y ∷ ys) r t e f h = absurd (cc)
two_fronts (l ∷ log) (x ∷ xs) (y ∷ ys) r t e f h =
    let e' : log ≡ xs ++ r = cc in
    let f' : log ≡ ys ++ t = cc in
    let same : x ≡ y = cc in
    let b = two_fronts log xs ys r t e' f' (omega arith) in
    (b.0, λ k. sym same k ∷ b.1 k)

longer_left : (log xs ys : List TakenStep) → IsPrefixOf xs log → IsPrefixOf ys log → (b : Bool) → ltb (length xs) (length ys) ≡ b → IsPrefixOf xs (longer xs ys) × IsPrefixOf ys (longer xs ys) × IsPrefixOf (longer xs ys) log
longer_left log xs ys f g true is = rw is (let h : length xs < length ys = ltb-true _ _ is in (two_fronts log xs ys f.0 g.0 f.1 g.1 (omega arith), ([], sym (append-nil ys)), g))
longer_left log xs ys f g false is = rw is (let h : length ys ≤ length xs = ltb-false _ _ is in (([], sym (append-nil xs)), two_fronts log ys xs g.0 f.0 g.1 f.1 h, f))

-- both of two prefixes are prefixes of the longer
pub longer_begins : (log xs ys : List TakenStep) → IsPrefixOf xs log → IsPrefixOf ys log → IsPrefixOf xs (longer xs ys) × IsPrefixOf ys (longer xs ys) × IsPrefixOf (longer xs ys) log
longer_begins log xs ys f g = longer_left log xs ys f g (ltb (length xs) (length ys)) refl

-- the numbers below n
pub has_count : (p k n : ℕ) → has p (count_from k n) ≡ true → (k ≤ p) × (p < k + n)
has_count p k zero h = absurd (true≢false (sym h))
has_count p k (suc n) h =
    ⊎_elim
    (λ (e : (k == p) ≡ true). let s : k ≡ p = eqb-true k p e in (omega arith, omega arith))
    (λ (e : has p (count_from (suc k) n) ≡ true). let r = has_count p (suc k) n e in (omega arith, omega arith))
    (or_cases (k == p) (has p (count_from (suc k) n)) h)

pub count_has : (p k n : ℕ) → k ≤ p → p < k + n → has p (count_from k n) ≡ true
count_has p k zero l h = absurd (omega arith)
count_has p k (suc n) l h =
    dite (ℕ_discrete k p)
    (λ (e : k ≡ p). rw (eq-eqb k p e))
    (λ (e : k ≢ p). rw (ne_eqb k p e) (count_has p (suc k) n (omega arith) (omega arith)))

pub opens : (sizes : Setup) (words : List ℕ) (homes : List (Unit {0})) → words ≡ replicate (word_count sizes) 0 → TableRuleHolds sizes (opening words homes (opening_known sizes))
opens sizes words homes e = ([], λ _. 0, record { run = tt; shows = subst (Shows sizes at_first) (sym e) (shows_rest sizes); fits = fits; members = members })
  where
    fits : (i : ℕ) (v : SeatKnowledge) → get_elem? (opening_known sizes ∷ []) i ≡ some v → AllFit sizes [] (λ _. 0) i v
    fits zero v h = subst (λ (u : SeatKnowledge). AllFit sizes [] (λ _. 0) 0 u) (some-injective _ _ h) ((([], refl), λ p m. record { setup = refl; within = (let r = has_count p 0 sizes.layout.procs m in omega arith); seat = refl; own_is = refl }), All-nil _)
    fits (suc i) v h = absurd (some-ne-none v (sym h))

    members : (p : ℕ) → p < sizes.layout.procs → IsMember (opening_known sizes ∷ []) (λ _. 0) p
    members p h = (opening_known sizes, refl, count_has p 0 sizes.layout.procs (omega arith) (omega arith))

at_end : {A : Type 0} (l : List A) (x y : A) (j : ℕ) → get_elem? (l ++ x ∷ []) j ≡ some y → (get_elem? l j ≡ some y) ⊎ ((j ≡ length l) × (x ≡ y))
at_end [] x y zero h = inr (refl, some-injective x y h)
at_end [] x y (suc j) h = absurd (some-ne-none y (sym h))
at_end (z ∷ l) x y zero h = inl h
at_end (z ∷ l) x y (suc j) h = ⊎_elim (λ m. inl m) (λ (m : (j ≡ length l) × (x ≡ y)). inr (let r : j ≡ length l = m.0 in omega arith, m.1)) (at_end l x y j h)

-- the owners once seat i answers for p
given : (ℕ → ℕ) → ℕ → ℕ → ℕ → ℕ
given owner p i q = cond (q == p) i (owner q)

given_it : (owner : ℕ → ℕ) (p i : ℕ) → given owner p i p ≡ i
unfolding given
given_it owner p i = rw (eq-eqb p p refl)

given_other : (owner : ℕ → ℕ) (p i q : ℕ) → q ≢ p → given owner p i q ≡ owner q
unfolding given
given_other owner p i q h = rw (ne_eqb q p h)

-- the owners once seat i answers for all processes of seat j
moved : (ℕ → ℕ) → ℕ → ℕ → ℕ → ℕ
moved owner j i q = cond (owner q == j) i (owner q)

moved_it : (owner : ℕ → ℕ) (j i q : ℕ) → owner q ≡ j → moved owner j i q ≡ i
unfolding moved
moved_it owner j i q h = rw (eq-eqb (owner q) j h)

moved_other : (owner : ℕ → ℕ) (j i q : ℕ) → owner q ≢ j → moved owner j i q ≡ owner q
unfolding moved
moved_other owner j i q h = rw (ne_eqb (owner q) j h)

own_seat : (sizes : Setup) (log : List TakenStep) (owner now : ℕ → ℕ) (i j : ℕ) (v u : View) (q : ℕ) → SeatAnswersFor sizes log owner i v q → now q ≡ j → u.setup ≡ v.setup → u.seen ≡ v.seen → SeatAnswersFor sizes log now j u q
own_seat sizes log owner now i j v u q x seat setup seen = record { setup = setup ∙ x.setup; within = x.within; seat = seat; own_is = x.own_is ∙ ap (entries_of q) (sym seen) }

-- the first process of a seat gets a seat of its own
module _ (sizes : Setup) (log : List TakenStep) (owner : ℕ → ℕ) (words : List ℕ) (views : List SeatKnowledge) (k : IsRunOfTable sizes log owner words views) (id : ℕ) (mine : Setup) (p : ℕ) (ps : List ℕ) (seen : List TakenStep) where
  abbrev whole : SeatKnowledge
  whole = record { view = record { setup = mine; answers = p ∷ ps; seen = seen }; reports = [] }

  abbrev left : SeatKnowledge
  left = record { view = record { setup = mine; answers = ps; seen = seen }; reports = [] }

  abbrev right : SeatKnowledge
  right = record { view = record { setup = mine; answers = p ∷ []; seen = seen }; reports = [] }

  abbrev cut_views : List SeatKnowledge
  cut_views = set views id left ++ right ∷ []

  abbrev now : ℕ → ℕ
  now = given owner p (length views)

  module _ (at : get_elem? views id ≡ some whole) (once : has p ps ≡ false) where
    apart : (q : ℕ) → has q ps ≡ true → q ≢ p
    apart q h e = true≢false (sym h ∙ ap (λ (r : ℕ). has r ps) e ∙ once)

    first_is : SeatAnswersFor sizes log owner id whole.view p
    first_is = (k.fits id whole at).0.1 p (or_left (p == p) (has p ps) (eq-eqb p p refl))

    left_fits : AllFit sizes log now id left
    left_fits = (
      (
        (k.fits id whole at).0.0,
        λ q h.
            let x = (k.fits id whole at).0.1 q (has-append_right q (p ∷ []) ps h) in
            own_seat sizes log owner now id id whole.view left.view q x (given_other owner p (length views) q (apart q h) ∙ x.seat) refl refl,
      ),
      All-nil _,
    )

    right_fits : AllFit sizes log now (length views) right
    right_fits = (
      (
        (k.fits id whole at).0.0,
        λ q h.
            let e : p ≡ q = ⊎_elim (λ (m : (p == q) ≡ true). eqb-true p q m) (λ (m : false ≡ true). absurd (true≢false (sym m))) (or_cases (p == q) false h) in
            subst (λ (r : ℕ). SeatAnswersFor sizes log now (length views) right.view r) e (own_seat sizes log owner now id (length views) whole.view right.view p first_is (given_it owner p (length views)) refl refl),
      ),
      All-nil _,
    )

    other_fits_cut : (j : ℕ) (u : View) → j ≢ id → FitsRun sizes log owner j u → FitsRun sizes log now j u
    other_fits_cut j u away f = (
      f.0,
      λ q h.
          let x = f.1 q h in
          own_seat sizes log owner now j j u u q x (given_other owner p (length views) q (λ (e : q ≡ p). away (sym x.seat ∙ ap owner e ∙ first_is.seat)) ∙ x.seat) refl refl,
    )

    cut_fits : (j : ℕ) (u : SeatKnowledge) → get_elem? cut_views j ≡ some u → AllFit sizes log now j u
    cut_fits j u there =
        ⊎_elim
        (λ (m : get_elem? (set views id left) j ≡ some u).
        ⊎_elim
        (λ (x : (j ≡ id) × (left ≡ u)). subst (λ (y : ℕ × SeatKnowledge). AllFit sizes log now y.0 y.1) (λ i. (sym x.0 i, x.1 i)) left_fits)
        (λ (x : (j ≢ id) × (get_elem? views j ≡ some u)). let f = k.fits j u x.1 in (other_fits_cut j u.view x.0 f.0, λ i d h. other_fits_cut j _ x.0 (f.1 i d h)))
        (at_set views id j left u m))
        (λ (m : (j ≡ length (set views id left)) × (right ≡ u)).
        subst (λ (y : ℕ × SeatKnowledge). AllFit sizes log now y.0 y.1) (λ i. (sym (m.0 ∙ length-set views id left) i, m.1 i)) right_fits)
        (at_end (set views id left) right u j there)

    cut_members : (q : ℕ) → q < sizes.layout.procs → IsMember cut_views now q
    cut_members q h =
        dite (ℕ_discrete q p)
        (λ (e : q ≡ p). (right, ap (get_elem? cut_views) (ap now e ∙ given_it owner p (length views)) ∙ at_last (set views id left) right (length views) (length-set views id left), ap (λ (r : ℕ). has r (p ∷ [])) e ∙ has_one p))
        (λ (e : q ≢ p).
        let m = member_set views owner id whole left q at (λ (t : has q (p ∷ ps) ≡ true). ⊎_elim (λ (s : (p == q) ≡ true). absurd (e (sym (eqb-true p q s)))) (λ s. s) (or_cases (p == q) (has q ps) t)) (k.members q h) in
        (m.0, ap (get_elem? cut_views) (given_other owner p (length views) q e) ∙ at_longer (set views id left) (right ∷ []) (owner q) m.0 m.1, m.2))

    cut_kept : IsRunOfTable sizes log now words cut_views
    cut_kept = record { run = k.run; shows = k.shows; fits = cut_fits; members = cut_members }

pub cuts : (sizes : Setup) (id : ℕ) (mine : Setup) (p : ℕ) (ps : List ℕ) (seen : List TakenStep) → has p ps ≡ false
    → Splits (TableRuleHolds sizes) id (record { view = record { setup = mine; answers = p ∷ ps; seen = seen }; reports = [] }) (record { view = record { setup = mine; answers = ps; seen = seen }; reports = [] }) (record { view = record { setup = mine; answers = p ∷ []; seen = seen }; reports = [] })
cuts sizes id mine p ps seen once s h at = (h.0, given h.1 p (length s.views), cut_kept sizes h.0 h.1 s.words s.views h.2 id mine p ps seen at once)

-- one seat answers for the processes of both
module _ (sizes : Setup) (log : List TakenStep) (owner : ℕ → ℕ) (words : List ℕ) (views : List SeatKnowledge) (k : IsRunOfTable sizes log owner words views) (id : ℕ) (v : SeatKnowledge) (other : ℕ) (w : SeatKnowledge) where
  abbrev both : SeatKnowledge
  both = joined_knowledge v w

  abbrev glued_views : List SeatKnowledge
  glued_views = set (set views id both) other spent_known

  abbrev seats : ℕ → ℕ
  seats = moved owner other id

  module _ (at : get_elem? views id ≡ some v) (two : other ≢ id) (there : get_elem? views other ≡ some w) (same : v.view.setup ≡ w.view.setup) where
    begins : IsPrefixOf v.view.seen (longer v.view.seen w.view.seen) × IsPrefixOf w.view.seen (longer v.view.seen w.view.seen) × IsPrefixOf (longer v.view.seen w.view.seen) log
    begins = longer_begins log v.view.seen w.view.seen (k.fits id v at).0.0 (k.fits other w there).0.0

    -- the owner of a process of this seat stays, the owner of one of the other's changes
    this_fits : (j : ℕ) (u : View) → j ≢ other → FitsRun sizes log owner j u → FitsRun sizes log seats j u
    this_fits j u away f = (
      f.0,
      λ q h.
          let x = f.1 q h in
          own_seat sizes log owner seats j j u u q x (moved_other owner other id q (λ (e : owner q ≡ other). away (sym x.seat ∙ e)) ∙ x.seat) refl refl,
    )

    that_fits : (u : View) → FitsRun sizes log owner other u → FitsRun sizes log seats id u
    that_fits u f = (f.0, λ q h. let x = f.1 q h in own_seat sizes log owner seats other id u u q x (moved_it owner other id q x.seat) refl refl)

    one : id ≢ other
    one c = two (sym c)

    both_answers : (q : ℕ) → (has q v.view.answers ≡ true) ⊎ (has q w.view.answers ≡ true) → SeatAnswersFor sizes log seats id both.view q
    both_answers q (inl h) =
        let x = (this_fits id v.view one (k.fits id v at).0).1 q h in
        record { setup = x.setup; within = x.within; seat = x.seat; own_is = own_same q log v.view.seen (longer v.view.seen w.view.seen) begins.2.0 begins.2.1 x.own_is begins.0.0 begins.0.1 }
    both_answers q (inr h) =
        let x = (that_fits w.view (k.fits other w there).0).1 q h in
        record { setup = same ∙ x.setup; within = x.within; seat = x.seat; own_is = own_same q log w.view.seen (longer v.view.seen w.view.seen) begins.2.0 begins.2.1 x.own_is begins.1.0 begins.1.1 }

    both_fits : AllFit sizes log seats id both
    both_fits = (
      (begins.2, λ q h. both_answers q (has-append q v.view.answers w.view.answers h)),
      All-append (FitsRun sizes log seats id) (v.view ∷ v.reports) (w.view ∷ w.reports)
          (All-cons (FitsRun sizes log seats id) v.view v.reports (this_fits id v.view one (k.fits id v at).0) (λ i d h. this_fits id _ one ((k.fits id v at).1 i d h)))
          (All-cons (FitsRun sizes log seats id) w.view w.reports (that_fits w.view (k.fits other w there).0) (λ i d h. that_fits _ ((k.fits other w there).1 i d h))),
    )

    spent_fits : AllFit sizes log seats other spent_known
    spent_fits = (((log, refl), λ q h. absurd (true≢false (sym h))), All-nil _)

    glued_fits : (j : ℕ) (u : SeatKnowledge) → get_elem? glued_views j ≡ some u → AllFit sizes log seats j u
    glued_fits j u m =
        ⊎_elim
        (λ (x : (j ≡ other) × (spent_known ≡ u)). subst (λ (y : ℕ × SeatKnowledge). AllFit sizes log seats y.0 y.1) (λ i. (sym x.0 i, x.1 i)) spent_fits)
        (λ (x : (j ≢ other) × (get_elem? (set views id both) j ≡ some u)).
        ⊎_elim
        (λ (y : (j ≡ id) × (both ≡ u)). subst (λ (z : ℕ × SeatKnowledge). AllFit sizes log seats z.0 z.1) (λ i. (sym y.0 i, y.1 i)) both_fits)
        (λ (y : (j ≢ id) × (get_elem? views j ≡ some u)). let f = k.fits j u y.1 in (this_fits j u.view x.0 f.0, λ i d h. this_fits j _ x.0 (f.1 i d h)))
        (at_set views id j both u x.1))
        (at_set (set views id both) other j spent_known u m)

    glued_members : (q : ℕ) → q < sizes.layout.procs → IsMember glued_views seats q
    glued_members q h =
        dite (ℕ_discrete (owner q) other)
        (λ (e : owner q ≡ other).
        let m = k.members q h in
        let same_one : m.0 ≡ w = some-injective m.0 w (sym m.1 ∙ ap (get_elem? views) e ∙ there) in
        (both, ap (get_elem? glued_views) (moved_it owner other id q e) ∙ set_else (set views id both) other id spent_known one ∙ set_here views id both (within views id v at), has-append_right q v.view.answers w.view.answers (ap (λ (u : SeatKnowledge). has q u.view.answers) (sym same_one) ∙ m.2)))
        (λ (e : owner q ≢ other).
        let m = member_set views owner id v both q at (λ (t : has q v.view.answers ≡ true). has-append_left q v.view.answers w.view.answers t) (k.members q h) in
        (m.0, ap (get_elem? glued_views) (moved_other owner other id q e) ∙ set_else (set views id both) other (owner q) spent_known e ∙ m.1, m.2))

    glued_kept : IsRunOfTable sizes log seats words glued_views
    glued_kept = record { run = k.run; shows = k.shows; fits = glued_fits; members = glued_members }

-- the rule knows one setup for both, since each answers for some process
pub glues : (sizes : Setup) (id : ℕ) (v : SeatKnowledge) (other : ℕ) (w : SeatKnowledge) (p q : ℕ) → has p v.view.answers ≡ true → has q w.view.answers ≡ true → Joins (TableRuleHolds sizes) id v other w (joined_knowledge v w) spent_known
glues sizes id v other w p q has_p has_q s h at two m =
    let there : get_elem? s.views other ≡ some w = sym (set_else s.views id other (joined_knowledge v w) two) ∙ m in
    let same : v.view.setup ≡ w.view.setup = ((h.2.fits id v at).0.1 p has_p).setup ∙ sym ((h.2.fits other w there).0.1 q has_q).setup in
    (h.0, moved h.1 other id, glued_kept sizes h.0 h.1 s.words s.views h.2 id v other w at two there same)
