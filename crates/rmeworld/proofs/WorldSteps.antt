-- A step in memory is an event of the definition.
use Rattle.std.proofs.Common.{◌≡◌, ℕ, ◌<◌, ◌≤◌, Bool, true, false, nat_lt, if◌then◌else◌, List, ◌++◌, length, slice_index_or, slice_set, Some, IsSome, unwrap_or, refl, sym, ap, ◌∙◌, subst, inl, inr, arith, append-nil, lt-ltb, ltb-true, get_or-set_same, get_or-set_other, length-set}
use Rattle.rmeworld.proofs.Common.{cases_Bool, cases_eq, cases_lt, set_past, Access, Load, Store, Own, Tally, Word, Data as DataAt, kind_of, word_of, carried_value, put, own_at, zeros, write, put_same}
use Rattle.rmeworld.proofs.Common.{put_other, Deed, Layout, Reply, size, words_of, script_left, job_after_word, Script, Get as Asks, Put as Writes, Done, Call, Unlock, Chore, IsFree, Does, value_of}
use Rattle.rmeworld.proofs.Common.{words_by, cells_by, advanced_by, words_set, WorldEvent, Begins, Falls, Moves, who, next_process_state, MachineState, IsAllowed, process_state_of, job_left, machine_after_step as machine_state_stepped}
use Rattle.rmeworld.proofs.Common.{stepped_by, next_access, process_state_after, StoresOwn, machine_state_started, machine_after_crash as machine_state_crashed, InWords, IsOwnWord, reading, event_deeds, ReadsWord, cells_after, words_after}
use Rattle.rmeworld.proofs.Common.{WorldState, machine_state_at, process_state_at, global_state_of, Takes, absent_machine, HasConfiguration, IsConfigured}
use Rattle.rmeworld.specs.Replayed.{world_after_crash}

-- a list with one item changed, read as a function
pub at-set : {A : Type 0} (xs : List A) (d : A) (p : ℕ) (x : A) → p < length xs → (q : ℕ) → slice_index_or (slice_set xs p x) q d ≡ put (λ i. slice_index_or xs i d) p x q
at-set xs d p x below q =
    elim (cases_eq q p) [
      | inl e ↦ subst (λ r. slice_index_or (slice_set xs p x) r d ≡ put (λ i. slice_index_or xs i d) p x r) (sym e) (get_or-set_same xs p x d below ∙ sym (put_same (λ i. slice_index_or xs i d) p x))
      | inr ne ↦ get_or-set_other xs p q x d ne ∙ sym (put_other (λ i. slice_index_or xs i d) p x q ne)
    ]

pub process_state_at-set : (processes : List MachineState) (p : ℕ) (s : MachineState) → p < length processes → process_state_at (slice_set processes p s) ≡ put (process_state_at processes) p (process_state_of s)
process_state_at-set processes p s below = λ i. λ q. each q i
  where
    each : (q : ℕ) → process_state_at (slice_set processes p s) q ≡ put (process_state_at processes) p (process_state_of s) q
    each q =
        elim (cases_eq q p) [
          | inl e ↦ subst (λ r. process_state_at (slice_set processes p s) r ≡ put (process_state_at processes) p (process_state_of s) r) (sym e) (ap process_state_of (get_or-set_same processes p s absent_machine below) ∙ sym (put_same (process_state_at processes) p (process_state_of s)))
          | inr ne ↦ ap process_state_of (get_or-set_other processes p q s absent_machine ne) ∙ sym (put_other (process_state_at processes) p (process_state_of s) q ne)
        ]

own_at-set : (words : List Own) (p : ℕ) (x : Own) → p < length words → own_at (slice_set words p x) ≡ put (own_at words) p x
own_at-set words p x below = λ i. λ q. at-set words zeros p x below q i

pub words_set_is : (words : List Own) (word : Word) (v : ℕ) → InWords (length words) word → own_at (words_set words word v) ≡ write (own_at words) word v
words_set_is words (DataAt i) v below = refl
words_set_is words _ v below = own_at-set words _ _ below

pub le-ltb : (a b : ℕ) → b ≤ a → nat_lt a b ≡ false
le-ltb a b h =
    elim (cases_Bool (nat_lt a b)) [
      | inl e ↦ let less : a < b = ltb-true a b e in absurd (omega arith)
      | inr e ↦ e
    ]

pub cell_set_is : (l : Layout) (cells : List ℕ) (i v : ℕ) → length cells ≡ size l → words_of (slice_set cells i v) ≡ (if nat_lt i (size l) then put (words_of cells) i v else words_of cells)
cell_set_is l cells i v filled =
    elim (cases_lt i (length cells)) [
      | inl below ↦ let in_size : nat_lt i (size l) ≡ true = lt-ltb i (size l) (subst (λ n. i < n) filled below) in rw in_size (λ k. λ q. at-set cells 0 i v below q k)
      | inr past ↦ let off : nat_lt i (size l) ≡ false = le-ltb i (size l) (subst (λ n. n ≤ i) filled past) in rw (off, set_past cells i v past) refl
    ]

-- a word of the process itself is a word of the world
own_within : (n q : ℕ) (word : Word) → q < n → IsOwnWord q word → InWords n word
own_within n q (DataAt i) below own = tt
own_within n q _ below own = subst (λ i. i < n) (sym own) below

pub words_by_is : (words : List Own) (p q : ℕ) (a : Access) (v : ℕ) → q < length words → StoresOwn q a → own_at (words_by words a) ≡ words_after (own_at words) (Moves p (kind_of a) (word_of a) (carried_value a v))
words_by_is words p q (Load kind word) v below own = rw own refl
words_by_is words p q (Store kind word x) v below own = rw (own.0) (words_set_is words word x (own_within (length words) q word below own.1))

pub cells_by_is : (l : Layout) (cells : List ℕ) (p q : ℕ) (a : Access) (v : ℕ) → length cells ≡ size l → StoresOwn q a → words_of (cells_by cells a) ≡ cells_after l (words_of cells) (Moves p (kind_of a) (word_of a) (carried_value a v))
cells_by_is l cells p q (Load kind word) v filled own = rw own refl
cells_by_is l cells p q (Store kind (DataAt i) x) v filled own = rw (own.0) (cell_set_is l cells i x filled)
cells_by_is l cells p q (Store kind _ x) v filled own = rw (own.0) refl

-- a step of process p
module _ (s : WorldState) (p : ℕ) (a : Access) where
  -- the facts about it
  pub record IsStep : Type 0 where
    pub filled : length s.cells ≡ size s.layout
    pub configured : IsConfigured s.layout s.limit s.words s.processes s.tallies
    pub below : p < s.layout.procs
    pub next : next_access (machine_state_at s.processes p) ≡ Some a
    pub allowed : IsAllowed (machine_state_at s.processes p) a
    pub own : StoresOwn (machine_state_at s.processes p).index a
    pub goes : process_state_of (machine_state_stepped (machine_state_at s.processes p) (reading (global_state_of s) (word_of a))) ≡ process_state_after (machine_state_at s.processes p) (next_access (machine_state_at s.processes p)) (reading (global_state_of s) (word_of a))

reads_so : (s : WorldState) (p q : ℕ) (a : Access) → StoresOwn q a → ReadsWord (global_state_of s) (Moves p (kind_of a) (word_of a) (carried_value a (reading (global_state_of s) (word_of a))))
reads_so s p q (Load kind word) own load = refl
reads_so s p q (Store kind word x) own load = cc

pub step_takes : (s : WorldState) (p : ℕ) (a : Access) → IsStep s p a → Takes s (Moves p (kind_of a) (word_of a) (value_of s a)) (advanced_by s p a)
step_takes s p a h =
    let st : MachineState = machine_state_at s.processes p in
    let v : ℕ = reading (global_state_of s) (word_of a) in
    let x : ℕ = carried_value a v in
    let configuration = h.configured.configurations p h.below in
    let has_words : st.index < length s.words = subst (λ n. n < length s.words) (sym configuration.2) (subst (λ n. p < n) (sym h.configured.words_each) h.below) in
    let same : next_process_state st.layout st.limit (process_state_of st) (Moves st.index (kind_of a) (word_of a) x) ≡ next_process_state s.layout s.limit (process_state_of st) (Moves p (kind_of a) (word_of a) x) = λ i. next_process_state (configuration.0 i) (configuration.1 i) (process_state_of st) (Moves (configuration.2 i) (kind_of a) (word_of a) x) in
    let to : process_state_of (machine_state_stepped st v) ≡ unwrap_or (next_process_state s.layout s.limit (process_state_of st) (Moves p (kind_of a) (word_of a) x)) (process_state_of st) =
    h.goes ∙ ap (λ o. process_state_after st o v) h.next ∙ ap (λ o. unwrap_or o (process_state_of st)) same in
    let process_states = process_state_at-set s.processes p (machine_state_stepped st v) (subst (λ n. p < n) (sym h.configured.processes_each) h.below) ∙ ap (put (process_state_at s.processes) p) to in
    let words = words_by_is s.words p st.index a v has_words h.own in
    let cells = cells_by_is s.layout s.cells p st.index a v h.filled h.own in
    record {
      can = (h.below, subst IsSome same (h.allowed v), reads_so s p st.index a h.own);
      global_state = λ i. record { words = words i; cells = cells i; process_states = process_states i };
      history = refl;
      layout = refl;
      limit = refl;
    }

-- an event that touches no word, and leaves process p as t
alone : (s : WorldState) (p : ℕ) (t : MachineState) (tallies : List Tally) (history : List Deed) (e : WorldEvent) → IsConfigured s.layout s.limit s.words s.processes s.tallies → p < s.layout.procs → who e ≡ p
    → ReadsWord (global_state_of s) e → words_after (own_at s.words) e ≡ own_at s.words → cells_after s.layout (words_of s.cells) e ≡ words_of s.cells → next_process_state s.layout s.limit (process_state_at s.processes p) e ≡ Some (process_state_of t)
    → history ≡ s.history ++ event_deeds s.layout (global_state_of s) e → Takes s e (record s { processes = slice_set s.processes p t; tallies = tallies; history = history })
alone s p t tallies history e configured below mine reads words cells to reports =
    record {
      can = (rw mine below, rw (mine, to) refl, reads);
      global_state =
          let there : process_state_at (slice_set s.processes p t) ≡ put (process_state_at s.processes) (who e) (unwrap_or (next_process_state s.layout s.limit (process_state_at s.processes (who e)) e) (process_state_at s.processes (who e))) =
          rw (mine, to) (process_state_at-set s.processes p t (subst (λ n. p < n) (sym configured.processes_each) below)) in
          λ i. record { words = sym words i; cells = sym cells i; process_states = there i };
      history = reports;
      layout = refl;
      limit = refl;
    }

pub start_takes : (s : WorldState) (p : ℕ) (call : Call) (t : MachineState) (tallies : List Tally) → IsConfigured s.layout s.limit s.words s.processes s.tallies → p < s.layout.procs
    → next_process_state (machine_state_at s.processes p).layout (machine_state_at s.processes p).limit (process_state_at s.processes p) (Begins (machine_state_at s.processes p).index call) ≡ Some (process_state_of t)
    → Takes s (Begins p call) (record s { processes = slice_set s.processes p t; tallies = tallies })
start_takes s p call t tallies configured below to =
    let configuration = configured.configurations p below in
    let same : next_process_state s.layout s.limit (process_state_at s.processes p) (Begins p call) ≡ next_process_state (machine_state_at s.processes p).layout (machine_state_at s.processes p).limit (process_state_at s.processes p) (Begins (machine_state_at s.processes p).index call) =
    λ i. next_process_state (sym configuration.0 i) (sym configuration.1 i) (process_state_at s.processes p) (Begins (sym configuration.2 i) call) in
    alone s p t tallies s.history (Begins p call) configured below refl tt refl refl (same ∙ to) (sym (append-nil s.history))

pub crash_takes : (s : WorldState) (p : ℕ) → IsConfigured s.layout s.limit s.words s.processes s.tallies → p < s.layout.procs → Takes s (Falls p) (world_after_crash s p)
crash_takes s p configured below = alone s p (machine_state_crashed (machine_state_at s.processes p)) s.tallies (world_after_crash s p).history (Falls p) configured below refl tt refl refl refl refl

-- a process keeps its index and sizes
pub keeps_stepped : (s : MachineState) (e : Chore) (v : ℕ) → HasConfiguration s.layout s.limit s.index (stepped_by s e v)
keeps_stepped s IsFree v = (refl, refl, refl)
keeps_stepped s (Does purpose job) v = by (script_left (job_after_word job v))
  where
    by : (x : Script Reply) → HasConfiguration s.layout s.limit s.index (job_left s purpose (job_after_word job v) x)
    by (Done reply) = (refl, refl, refl)
    by (Asks i rest) = (refl, refl, refl)
    by (Writes i x rest) = (refl, refl, refl)

pub keeps_started : (s : MachineState) (b : Bool) (call : Call) → s.mended ≡ b → HasConfiguration s.layout s.limit s.index (machine_state_started s call)
keeps_started s true Unlock is = rw is (refl, refl, refl)
keeps_started s false Unlock is = rw is (refl, refl, refl)
keeps_started s b _ is = (refl, refl, refl)

-- the list of processes after one of them moved
pub configured_set :
    {l : Layout} {limit p : ℕ} {words : List Own} {processes : List MachineState} {tallies : List Tally} → IsConfigured l limit words processes tallies → p < l.procs → (words' : List Own) (t : MachineState) (tallies' : List Tally)
    → length words' ≡ length words → length tallies' ≡ length tallies → HasConfiguration l limit p t → IsConfigured l limit words' (slice_set processes p t) tallies'
configured_set {l = l} {limit = limit} {p = p} {processes = processes} configured below words' t tallies' words_each tallies_each configuration =
    record {
      words_each = words_each ∙ configured.words_each;
      processes_each = length-set processes p t ∙ configured.processes_each;
      tallies_each = tallies_each ∙ configured.tallies_each;
      configurations = λ q h. elim (cases_eq q p) [
        | inl e ↦ subst (λ r. HasConfiguration l limit r (machine_state_at (slice_set processes p t) r)) (sym e) (subst (HasConfiguration l limit p) (sym (get_or-set_same processes p t absent_machine (subst (λ n. p < n) (sym configured.processes_each) below))) configuration)
        | inr ne ↦ subst (HasConfiguration l limit q) (sym (get_or-set_other processes p q t absent_machine ne)) (configured.configurations q h)
      ];
    }

pub words_by_length : (words : List Own) (a : Access) → length (words_by words a) ≡ length words
words_by_length words (Load kind word) = refl
words_by_length words (Store kind (DataAt i) x) = refl
words_by_length words (Store kind _ x) = length-set words _ _

pub cells_by_length : (cells : List ℕ) (a : Access) → length (cells_by cells a) ≡ length cells
cells_by_length cells (Store kind (DataAt i) x) = length-set cells i x
cells_by_length cells _ = refl
