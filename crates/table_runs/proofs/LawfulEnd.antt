-- The words at the end of a run are a lawful image.
use Rattle.std.proofs.Common.{◌≡◌, ℕ, zero, suc, ◌+◌, ◌<◌, ◌≤◌, ◌^◌, List, [], ◌∷◌, length, map, refl, sym, ap, ◌∙◌, inl, inr, arith}
use Rattle.table_runs.proofs.Common.{cases_lt, get_or_past, length-map, slice_index_or, Data as DataAt, Event, zeros, own_at, World, after, Run, final, Tied, kept, size, words_of, empty_state, IsSize}
use Rattle.table_runs.proofs.Common.{at_first, every_execution_leaves_an_image, projected, TakenStep, Setup, image_at, count_from, events_of_run, IsRun, end_of}
use Rattle.rmecore.specs.AbstractLock.{Abstract, nobody}
use Rattle.rmecore.specs.World.{at_rest as core_rest}
use Rattle.rmecore.proofs.Runs.{at_first as core_first}
use Rattle.rmeworld.specs.ImageRules.{IsLawfulImage}
use Rattle.rmeworld.specs.Reached.{IsImageOf}
use Rattle.table_runs.proofs.Runs.{reads_beyond}

length-count_from : (k n : ℕ) → length (count_from k n) ≡ n
length-count_from k zero = refl
length-count_from k (suc n) = ap suc (length-count_from (suc k) n)

pub length-counted : {A : Type 0} (f : ℕ → A) (n : ℕ) → length (map f (count_from 0 n)) ≡ n
length-counted f n = length-map (count_from 0 n) f ∙ length-count_from 0 n

at_counted : {A : Type 0} (f : ℕ → A) (k n p : ℕ) (d : A) → p < n → slice_index_or (map f (count_from k n)) p d ≡ f (k + p)
at_counted f k zero p d h = absurd (omega arith)
at_counted f k (suc n) zero d h = let e : k ≡ k + 0 = omega arith in ap f e
at_counted f k (suc n) (suc p) d h = let e : suc k + p ≡ k + suc p = omega arith in at_counted f (suc k) n p d (omega arith) ∙ ap f e

-- a list of a function's values, and the default past its end
from_counted : {A : Type 0} (f : ℕ → A) (n : ℕ) (d : A) → ((p : ℕ) → n ≤ p → f p ≡ d) → (p : ℕ) → slice_index_or (map f (count_from 0 n)) p d ≡ f p
from_counted f n d past p =
    elim (cases_lt p n) [
      | inl h ↦ (let e : 0 + p ≡ p = omega arith in at_counted f 0 n p d h ∙ ap f e)
      | inr h ↦ get_or_past (map f (count_from 0 n)) p d (let l = length-counted f n in omega (arith, l)) ∙ sym (past p h)
    ]

-- no event changes the words of a process with an index outside the world
beyond_same : (n limit : ℕ) (w : World) (a : Abstract) (es : List Event) → Tied n w a → Run n limit w es → (p : ℕ) → n ≤ p → (final n limit w es).words p ≡ w.words p
beyond_same n limit w a [] t run p past = refl
beyond_same n limit w a (e ∷ es) t run p past =
    let k = kept n limit w a e run.0 t in
    let low = run.0.0 in
    beyond_same n limit (after n limit w e) _ es k.1 run.1 p past ∙ k.2 p (λ same. omega arith)

words_beyond : (s : Setup) (es : List TakenStep) → IsRun s es → (p : ℕ) → s.layout.procs ≤ p → (end_of s es).words p ≡ zeros
words_beyond s es run p past =
    let r = projected s.layout s.limit at_first (events_of_run es) (λ q. tt) run in
    ap (λ (v : World). v.words p) (sym r.ends) ∙ beyond_same s.layout.procs s.limit core_rest nobody r.events (core_first s.layout.procs) r.run p past

-- the words of the list are those of the global state
pub cells_counted : (s : Setup) (es : List TakenStep) → IsRun s es → words_of (map (end_of s es).cells (count_from 0 (size s.layout))) ≡ (end_of s es).cells
cells_counted s es run =
    let w = end_of s es in
    λ i. λ p. from_counted w.cells (size s.layout) 0 (λ j past. reads_beyond s es (DataAt j) past) p i

own_counted : (s : Setup) (es : List TakenStep) → IsRun s es → own_at (map (end_of s es).words (count_from 0 s.layout.procs)) ≡ (end_of s es).words
own_counted s es run = λ i. λ p. from_counted (end_of s es).words s.layout.procs zeros (words_beyond s es run) p i

pub lawful_end : (s : Setup) (es : List TakenStep) → IsRun s es → IsSize s.layout → (1 ≤ s.limit) × (s.limit ≤ 2 ^ 62) → IsLawfulImage (image_at s (end_of s es))
lawful_end s es run sized limited =
    let l = s.layout in
    let w = end_of s es in
    let is : IsImageOf l s.limit w (image_at s w) = record {
      version = refl;
      layout = λ i. record { procs = length-counted w.words l.procs i; cap = l.cap; width = l.width };
      limited = refl;
      filled = length-counted w.cells (size l);
      words = own_counted s es run;
      cells = cells_counted s es run;
    } in
    every_execution_leaves_an_image l s.limit at_first (empty_state l.procs l.cap) (events_of_run es) (image_at s w) sized limited (inl (refl, refl)) run is
