-- A step of one process in a simulated core is a step of the definition.
use Rattle.std.proofs.Common.{◌≡◌, ℕ, ◌<◌, ◌≤◌, ◌++◌, true, false, List, [], ◌∷◌, length, take, slice_index_or, slice_set, replicate, Option, Some, None, IsSome, IfSome, unwrap_or, refl, sym, ap, ◌∙◌, subst, inl, inr, get_or-set_same, get_or-set_other, length-set}
use Rattle.rmecore.proofs.Common.{take-append_seam, cases_eq, cases_lt, get_or_default, get_or_past, get_or-replicate, length-replicate, Access, Store, Load, CoreCall, Own, Tally, Word, nobody}
use Rattle.rmecore.proofs.Common.{IsLawful, access, kind_of, word_of, carried_value, Standing, next_access, owner, IsLeast, IsAllowed, StoresOwn, absent_process, after_access, words_performed, put, Place, Rest, Dead}
use Rattle.rmecore.proofs.Common.{next, Event, Starts, Crashes, Steps, place_after_start, process, place_after_event, Simulated, zeros, own_at, standing_at, place_at, world_of, HasConfiguration, IsConfigured, Takes, new_tally, World}
use Rattle.rmecore.proofs.Common.{at_rest, is_store, read, May, after, IsReached, Reads, words_after_event}
use Rattle.rmecore.proofs.Invariant.{put_same, put_other}
use Rattle.rmecore.proofs.Accesses.{stores_own}
use Rattle.rmecore.proofs.Bounds.{final_lawful, rest_bounded, rest_rows}
use Rattle.rmecore.proofs.Images.{run_more, final_more}
use Rattle.rmecore.proofs.Runs.{at_first}

pub refill : {A : Type 0} (len : ℕ) (ws rest : List A) → length ws ≡ len → take len (ws ++ rest) ≡ ws
refill len ws rest e = rw (← e) (take-append_seam ws rest)

pub place_at-set : (processes : List Standing) (p : ℕ) (s : Standing) → p < length processes → place_at (slice_set processes p s) ≡ put (place_at processes) p s.place
place_at-set processes p s h = λ i. λ q. each q i
  where
    each : (q : ℕ) → place_at (slice_set processes p s) q ≡ put (place_at processes) p s.place q
    each q =
        elim (cases_eq q p) [
          | inl e ↦ subst (λ r. place_at (slice_set processes p s) r ≡ put (place_at processes) p s.place r) (sym e) (ap (λ t. t.place) (get_or-set_same processes p s _ h) ∙ sym (put_same (place_at processes) p s.place))
          | inr ne ↦ ap (λ t. t.place) (get_or-set_other processes p q s _ ne) ∙ sym (put_other (place_at processes) p s.place q ne)
        ]

-- the kind says whether the access loads or stores
abbrev pub KindFits : Access → Type 0
KindFits (Load kind word) = is_store kind ≡ false
KindFits (Store kind word x) = is_store kind ≡ true

fits_by : (p : ℕ) (a : Access) → StoresOwn p a → KindFits a
fits_by p (Load kind word) h = h
fits_by p (Store kind word x) h = h.0

pub kind_fits : (limit p : ℕ) (place : Place) → IfSome (access limit p place) KindFits
kind_fits limit p place = of (access limit p place) (stores_own limit p place)
  where
    of : (o : Option Access) → IfSome o (StoresOwn p) → IfSome o KindFits
    of None h = tt
    of (Some a) h = fits_by p a h

pub settled : (a : Access) (v x : ℕ) → v ≡ carried_value a x → carried_value a v ≡ v
settled (Load kind word) v x e = refl
settled (Store kind word y) v x e = sym e

pub stores : (words words' : ℕ → Own) (a : Access) (p v x : ℕ) → KindFits a → v ≡ carried_value a x → words' ≡ words_performed words a → words' ≡ words_after_event words (Steps p (kind_of a) (word_of a) v)
stores words words' (Load kind word) p v x fits e h = rw fits h
stores words words' (Store kind word y) p v x fits e h = rw (fits, e) h

pub reads : (words : ℕ → Own) (a : Access) (v : ℕ) → KindFits a → v ≡ carried_value a (read words (word_of a)) → is_store (kind_of a) ≡ false → read words (word_of a) ≡ v
reads words (Load kind word) v fits e load = sym e
reads words (Store kind word y) v fits e load = cc

-- one process of all, with the limit of its numbers
pub record CoreFrame : Type 0 where
  pub procs : ℕ
  pub limit : ℕ
  pub process : ℕ
  pub processes : List Standing

abbrev pub core_frame : ℕ → ℕ → ℕ → List Standing → CoreFrame
core_frame procs limit process processes = record { procs = procs; limit = limit; process = process; processes = processes }

-- a step of this process's machine, over the words and beside the other processes
pub record Moves (frame : CoreFrame) (words words' : List Own) (s s' : Standing) (a : Access) (v : ℕ) : Type 0 where
  pub here : standing_at frame.processes frame.process ≡ s
  pub configuration : HasConfiguration frame.procs frame.limit frame.process s
  pub below : frame.process < frame.procs
  pub each : length frame.processes ≡ frame.procs
  pub next : next_access s ≡ Some a
  pub allowed : IsAllowed s a
  pub value : v ≡ carried_value a (read (own_at words) (word_of a))
  pub words_now : own_at words' ≡ words_performed (own_at words) a
  pub moved : s' ≡ record s { place = after_access s (next_access s) v }

module _ {n limit p : ℕ} {words words' : List Own} {processes : List Standing} {s s' : Standing} {a : Access} {v : ℕ} (m : Moves (core_frame n limit p processes) words words' s s' a v) where
  steps_to : next n limit p s.place (kind_of a) (word_of a) v ≡ next s.procs s.limit s.index s.place (kind_of a) (word_of a) (carried_value a v)
  steps_to =
      let again : carried_value a v ≡ v = settled a v _ m.value in
      let procs = m.configuration.0 in
      let limits = m.configuration.1 in
      let index = m.configuration.2 in
      cc

  fits : KindFits a
  fits = let h : IfSome (next_access s) KindFits = kind_fits s.limit s.index s.place in rw m.next at h

  pub takes : (tallies tallies' : List Tally) → Takes (record { procs = n; limit = limit; words = words; processes = processes; tallies = tallies }) (Steps p (kind_of a) (word_of a) v)
      (record { procs = n; limit = limit; words = words'; processes = slice_set processes p s'; tallies = tallies' })
  takes tallies tallies' =
      let is : place_at processes p ≡ s.place = ap (λ t. t.place) m.here in
      record {
        may = (m.below, rw (is, steps_to) (m.allowed v), reads (own_at words) a v fits m.value);
        world =
            let to : s'.place ≡ unwrap_or (next n limit p (place_at processes p) (kind_of a) (word_of a) v) (place_at processes p) = rw (is, steps_to) (ap (λ t. t.place) m.moved ∙ ap (λ o. after_access s o v) m.next) in
            let there : place_at (slice_set processes p s') ≡ put (place_at processes) p (unwrap_or (next n limit p (place_at processes p) (kind_of a) (word_of a) v) (place_at processes p)) =
            place_at-set processes p s' (rw m.each m.below) ∙ ap (put (place_at processes) p) to in
            let now : own_at words' ≡ words_after_event (own_at words) (Steps p (kind_of a) (word_of a) v) = stores (own_at words) (own_at words') a p v _ fits m.value m.words_now in
            λ i. record { words = now i; places = there i };
        procs = refl;
        limit = refl;
      }

pub configured_process :
    {n limit p : ℕ} {words : List Own} {processes : List Standing} {tallies : List Tally} → IsConfigured n limit words processes tallies → p < n → (s' : Standing) → HasConfiguration n limit p s'
    → IsConfigured n limit words (slice_set processes p s') tallies
configured_process {n = n} {limit = limit} {p = p} {processes = processes} {tallies = tallies} configured below s' configuration =
    record {
      words_each = configured.words_each;
      processes_each = length-set processes p s' ∙ configured.processes_each;
      tallies_each = configured.tallies_each;
      configurations = λ q h. elim (cases_eq q p) [
        | inl e ↦ subst (λ r. HasConfiguration n limit r (standing_at (slice_set processes p s') r)) (sym e) (subst (HasConfiguration n limit p) (sym (get_or-set_same processes p s' _ (rw configured.processes_each below))) configuration)
        | inr ne ↦ subst (HasConfiguration n limit q) (sym (get_or-set_other processes p q s' _ ne)) (configured.configurations q h)
      ];
    }

pub configured_more : {n limit : ℕ} {words : List Own} {processes : List Standing} {tallies : List Tally} → IsConfigured n limit words processes tallies → (p : ℕ) (words' : List Own) (t : Tally) → length words' ≡ n → IsConfigured n limit words' processes (slice_set tallies p t)
configured_more {tallies = tallies} configured p words' t each = record { words_each = each; processes_each = configured.processes_each; tallies_each = length-set tallies p t ∙ configured.tallies_each; configurations = configured.configurations }

pub configured_set :
    {n limit p : ℕ} {words : List Own} {processes : List Standing} {tallies : List Tally} → IsConfigured n limit words processes tallies → p < n → (words' : List Own) (s' : Standing) (t : Tally)
    → length words' ≡ n → HasConfiguration n limit p s' → IsConfigured n limit words' (slice_set processes p s') (slice_set tallies p t)
configured_set {p = p} configured below words' s' t each configuration = configured_more (configured_process configured below s' configuration) p words' t each

-- the value at an index
pub at_here : {A : Type 0} (xs : List A) (p n : ℕ) (x d : A) → x ≡ slice_index_or xs p x → p < n → length xs ≡ n → slice_index_or xs p d ≡ x
at_here xs p n x d is below each = get_or_default xs p d x (rw each below) ∙ sym is

pub found_here : (processes : List Standing) (p n : ℕ) (s : Standing) → s ≡ slice_index_or processes p s → p < n → length processes ≡ n → standing_at processes p ≡ s
found_here processes p n s = at_here processes p n s _

pub configuration_here : {n limit : ℕ} {words : List Own} {processes : List Standing} {tallies : List Tally} → IsConfigured n limit words processes tallies → (p : ℕ) (s : Standing) → s ≡ slice_index_or processes p s → p < n → HasConfiguration n limit p s
configuration_here {n = n} {limit = limit} {processes = processes} configured p s is below = subst (HasConfiguration n limit p) (found_here processes p n s is below configured.processes_each) (configured.configurations p below)

pub least_here :
    (n limit p : ℕ) (processes : List Standing) (s : Standing) (a : Access) → HasConfiguration n limit p s → standing_at processes p ≡ s → IsLeast s a
    → (word : Word) (v : ℕ) → IsSome (next n limit p (place_at processes p) (kind_of a) word v) → owner (word_of a) ≤ owner word
least_here n limit p processes s a configuration here least word v some =
    let procs = configuration.0 in
    let limits = configuration.1 in
    let index = configuration.2 in
    let place = ap (λ t. t.place) here in
    let same : next n limit p (place_at processes p) (kind_of a) word v ≡ next s.procs s.limit s.index s.place (kind_of a) word v = cc in
    least word v (subst (λ o. IsSome o) same some)

-- an event that changes no word and moves process p to the place of s'
alone :
    (n limit p : ℕ) (words : List Own) (processes : List Standing) (tallies tallies' : List Tally) (s' : Standing) (e : Event) → process e ≡ p → p < n → length processes ≡ n
    → Reads (own_at words) e → words_after_event (own_at words) e ≡ own_at words → place_after_event n limit (place_at processes p) e ≡ Some s'.place
    → Takes (record { procs = n; limit = limit; words = words; processes = processes; tallies = tallies }) e (record { procs = n; limit = limit; words = words; processes = slice_set processes p s'; tallies = tallies' })
alone n limit p words processes tallies tallies' s' e mine below each reads calm to =
    record {
      may = (rw mine below, rw (mine, to) refl, reads);
      world =
          let there : place_at (slice_set processes p s') ≡ put (place_at processes) (process e) (unwrap_or (place_after_event n limit (place_at processes (process e)) e) (place_at processes (process e))) =
          rw (mine, to) (place_at-set processes p s' (rw each below)) in
          λ i. record { words = sym calm i; places = there i };
      procs = refl;
      limit = refl;
    }

pub starts_takes :
    (n limit p : ℕ) (words : List Own) (processes : List Standing) (tallies tallies' : List Tally) (s s' : Standing) (call : CoreCall) → standing_at processes p ≡ s → p < n → length processes ≡ n → place_after_start s.place call ≡ Some s'.place
    → Takes (record { procs = n; limit = limit; words = words; processes = processes; tallies = tallies }) (Starts p call) (record { procs = n; limit = limit; words = words; processes = slice_set processes p s'; tallies = tallies' })
starts_takes n limit p words processes tallies tallies' s s' call here below each to =
    alone n limit p words processes tallies tallies' s' (Starts p call) refl below each tt refl (ap (λ t. place_after_start t.place call) here ∙ to)

pub crash_takes :
    (n limit p : ℕ) (words : List Own) (processes : List Standing) (tallies tallies' : List Tally) (s' : Standing) → p < n → length processes ≡ n → s'.place ≡ Dead
    → Takes (record { procs = n; limit = limit; words = words; processes = processes; tallies = tallies }) (Crashes p) (record { procs = n; limit = limit; words = words; processes = slice_set processes p s'; tallies = tallies' })
crash_takes n limit p words processes tallies tallies' s' below each dead = alone n limit p words processes tallies tallies' s' (Crashes p) refl below each tt refl (ap Some (sym dead))

-- one more event of a run
pub reached_more : {old new : Simulated} {e : Event} → Takes old e new → IsReached old.procs old.limit (world_of old) → IsReached old.procs old.limit (world_of new)
reached_more {old = old} {new = new} {e = e} takes reached =
    record {
      events = reached.events ++ e ∷ [];
      run = run_more old.procs old.limit at_rest reached.events e reached.run (subst (λ w. May old.procs old.limit w e) (sym reached.world) takes.may);
      world = final_more old.procs old.limit at_rest reached.events e ∙ ap (λ w. after old.procs old.limit w e) reached.world ∙ sym takes.world;
    }

pub reached_first : (n limit : ℕ) (w : World) → w ≡ at_rest → IsReached n limit w
reached_first n limit w e = record { events = []; run = tt; world = sym e }

pub first_words : (n : ℕ) (words : List Own) → words ≡ replicate n zeros → own_at words ≡ at_rest.words
first_words n words e = λ i. λ p. each p i
  where
    each : (p : ℕ) → own_at words p ≡ zeros
    each p =
        rw e (elim (cases_lt p n) [
          | inl h ↦ get_or-replicate n p zeros zeros h
          | inr h ↦ get_or_past (replicate n zeros) p zeros (rw length-replicate h)
        ])

pub first_places : (n limit : ℕ) (processes : List Standing) → length processes ≡ n → ((p : ℕ) → p < n → standing_at processes p ≡ record { procs = n; limit = limit; index = p; place = Rest }) → place_at processes ≡ at_rest.places
first_places n limit processes len h = λ i. λ p. each p i
  where
    each : (p : ℕ) → place_at processes p ≡ Rest
    each p =
        elim (cases_lt p n) [
          | inl below ↦ ap (λ t. t.place) (h p below)
          | inr past ↦ ap (λ t. t.place) (get_or_past processes p absent_process (rw len past))
        ]

pub first_configured :
    (n limit : ℕ) (words : List Own) (processes : List Standing) (tallies : List Tally) → words ≡ replicate n zeros → length processes ≡ n → tallies ≡ replicate n (new_tally zeros)
    → ((p : ℕ) → p < n → standing_at processes p ≡ record { procs = n; limit = limit; index = p; place = Rest }) → IsConfigured n limit words processes tallies
first_configured n limit words processes tallies e len f h =
    record { words_each = rw e (length-replicate n _); processes_each = len; tallies_each = rw f (length-replicate n _); configurations = λ p below. subst (HasConfiguration n limit p) (sym (h p below)) (refl, refl, refl) }

pub reached_lawful : {n limit : ℕ} {w : World} → IsReached n limit w → IsLawful n limit w.words
reached_lawful {n = n} {limit = limit} reached =
    subst (λ w. IsLawful n limit w.words) reached.world (final_lawful limit n at_rest nobody reached.events (at_first n) (rest_bounded limit) (λ p past. rest_rows limit) reached.run)
