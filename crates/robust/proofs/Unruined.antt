-- In a run whose processes all start their calls as workers do, nobody ruins the lock.
use Rattle.std.proofs.Common.{◌≡◌, ℕ, zero, suc, ◌<◌, ◌==◌, Bool, true, false, ◌⊎◌, List, [], ◌∷◌, ◌++◌, length, Option, Some, None, IsSome, All, refl, sym, ap, ◌∙◌, subst, inl, inr, arith, append_assoc, append-nil, length-append, eq-eqb}
use Rattle.robust.proofs.Common.{cases_eq, All-nil, All-cons, Kind, Word, Layout, IsLayout, Call, Unlock, EveryRuinWasAsked, IsLeftUnmended, WorldEvent, Begins, Falls, ProcessState, at_rest, next_process_state, who}
use Rattle.robust.proofs.Common.{GlobalState, at_first, last_global_state, Execution, state_after_event, reading, TakenStep, Setup, cells_of, LoadsTell, AreInWorkerOrder, NobodyRuins, HasReadRuin, last_call, last_of, settles}
use Rattle.robust.proofs.Common.{MayStart, before, access_event, world_events, events_of_run, entries_of, IsRun, end_of, process_state_of, crash_first, AllowsEvents, by_kind, own-append, spelled-append, legal_front, process_state_in_run}
use Rattle.table_runs.proofs.OneStep.{run_goes, goes_back}
use Rattle.robust.proofs.ScriptStates.{none_in}
use Rattle.robust.proofs.Appended.{Own, own_split, own_taken, all_at}
use Rattle.table_runs.proofs.Ruins.{walk, unlocks_mended}

-- the events of an execution are those of its processes
pub execution_within : (l : Layout) (limit : ℕ) (w : GlobalState) (hs : List WorldEvent) → Execution l limit w hs → All (λ (h : WorldEvent). who h < l.procs) hs
execution_within l limit w [] execution = All-nil _
execution_within l limit w (h ∷ hs) execution = All-cons (λ (x : WorldEvent). who x < l.procs) h hs execution.0.0 (execution_within l limit (state_after_event l limit w h) hs execution.1)

-- the place of one list's element in two lists
cut_at : {A : Type 0} (xs ys front : List A) (h : A) (back : List A) → xs ++ ys ≡ front ++ h ∷ back → ((mid : List A) × (xs ≡ front ++ h ∷ mid)) ⊎ ((mid : List A) × (front ≡ xs ++ mid) × (ys ≡ mid ++ h ∷ back))
cut_at [] ys front h back e = inr (front, refl, e)
cut_at (x ∷ xs) ys [] h back e = inl (xs, (let same : x ≡ h = cc in ap (λ y. y ∷ xs) same))
cut_at (x ∷ xs) ys (f ∷ fs) h back e =
    let same : x ≡ f = cc in
    let rest : xs ++ ys ≡ fs ++ h ∷ back = cc in
    elim (cut_at xs ys fs h back rest) [
      | inl here ↦ inl (here.0, (λ i. same i ∷ here.1 i))
      | inr later ↦ inr (later.0, (λ i. sym same i ∷ later.1 i), later.2)
    ]

-- the entry that begins this call
pub record Beginning (p : ℕ) (call : Call) (es : List TakenStep) (front : List WorldEvent) : Type 0 where
  pub earlier : List TakenStep
  pub entry : TakenStep
  pub later : List TakenStep
  pub is : es ≡ earlier ++ entry ∷ later
  pub by : entry.by ≡ p
  pub starts : entry.step.start ≡ Some call
  pub front_is : front ≡ events_of_run earlier ++ crash_first entry.step.crashed entry.by

in_before : (c : Bool) (o : Option Call) (q p : ℕ) (call : Call) (front mid : List WorldEvent) → before c o q ≡ front ++ Begins p call ∷ mid → (q ≡ p) × (o ≡ Some call) × (front ≡ crash_first c q)
in_before false None q p call front mid e = absurd (none_in (Begins p call) front mid e)
in_before false (Some c) q p call [] mid e = let same : Begins q c ≡ Begins p call = cc in let a : q ≡ p = cc in let b : c ≡ call = cc in (a, ap Some b, refl)
in_before false (Some c) q p call (f ∷ fs) mid e = absurd (none_in (Begins p call) fs mid (let k : Begins q c ∷ [] ≡ f ∷ (fs ++ Begins p call ∷ mid) = e in cc))
in_before true None q p call [] mid e = absurd (let k : Falls q ∷ [] ≡ Begins p call ∷ mid = e in cc)
in_before true None q p call (f ∷ fs) mid e = absurd (none_in (Begins p call) fs mid (let k : Falls q ∷ [] ≡ f ∷ (fs ++ Begins p call ∷ mid) = e in cc))
in_before true (Some c) q p call [] mid e = absurd (let k : Falls q ∷ Begins q c ∷ [] ≡ Begins p call ∷ mid = e in cc)
in_before true (Some c) q p call (f ∷ []) mid e =
    let k : Falls q ∷ Begins q c ∷ [] ≡ f ∷ Begins p call ∷ mid = e in
    let a : q ≡ p = cc in
    let b : c ≡ call = cc in
    let first : f ≡ Falls q = cc in (a, ap Some b, ap (λ x. x ∷ []) first)
in_before true (Some c) q p call (f ∷ g ∷ fs) mid e = absurd (none_in (Begins p call) fs mid (let k : Falls q ∷ Begins q c ∷ [] ≡ f ∷ g ∷ (fs ++ Begins p call ∷ mid) = e in cc))

not_taken : (p q : ℕ) (call : Call) (kind : Kind) (word : Word) (v : ℕ) (mid back : List WorldEvent) → access_event q kind word v ∷ [] ≡ mid ++ Begins p call ∷ back → ⊥
not_taken p q call kind word v [] back e =
    by_kind (λ k h. h ∷ [] ≡ Begins p call ∷ back → ⊥) q word v (λ k. absurd (cc)) (λ kd k. absurd (cc)) kind e
not_taken p q call kind word v (m ∷ ms) back e = absurd (none_in (Begins p call) ms back (let k : access_event q kind word v ∷ [] ≡ m ∷ (ms ++ Begins p call ∷ back) = e in cc))

begun_at : (p : ℕ) (call : Call) (es : List TakenStep) (front back : List WorldEvent) → events_of_run es ≡ front ++ Begins p call ∷ back → Beginning p call es front
begun_at p call [] front back e = absurd (none_in (Begins p call) front back e)
begun_at p call (x ∷ es) front back e = by (cut_at (world_events x) (events_of_run es) front (Begins p call) back e) (λ mid rest. begun_at p call es mid back rest)
  where
    hs : List WorldEvent
    hs = before x.step.crashed x.step.start x.by

    t : WorldEvent
    t = access_event x.by x.step.kind x.step.word x.value

    here : (mid : List WorldEvent) → world_events x ≡ front ++ Begins p call ∷ mid → Beginning p call (x ∷ es) front
    here mid k = elim (cut_at hs (t ∷ []) front (Begins p call) mid k) [
      | inl first ↦ (let b = in_before x.step.crashed x.step.start x.by p call front first.0 first.1 in record { earlier = []; entry = x; later = es; is = refl; by = b.0; starts = b.1; front_is = b.2 })
      | inr last ↦ absurd (not_taken p x.by call x.step.kind x.step.word x.value last.0 mid last.2)
    ]

    by : ((mid : List WorldEvent) × (world_events x ≡ front ++ Begins p call ∷ mid)) ⊎ ((mid : List WorldEvent) × (front ≡ world_events x ++ mid) × (events_of_run es ≡ mid ++ Begins p call ∷ back)) → ((mid : List WorldEvent) → events_of_run es ≡ mid ++ Begins p call ∷ back → Beginning p call es mid)
        → Beginning p call (x ∷ es) front
    by (inl first) on = here first.0 first.1
    by (inr later) on =
        let b = on later.0 later.2 in
        record {
          earlier = x ∷ b.earlier;
          entry = b.entry;
          later = b.later;
          is = ap (λ (l : List TakenStep). x ∷ l) b.is;
          by = b.by;
          starts = b.starts;
          front_is = later.1 ∙ ap (λ (l : List WorldEvent). world_events x ++ l) b.front_is ∙ sym (append_assoc (world_events x) (events_of_run b.earlier) (crash_first b.entry.step.crashed b.entry.by));
        }

order_front : (last : Option Call) (xs ys : List TakenStep) → AreInWorkerOrder last (xs ++ ys) → AreInWorkerOrder last xs
order_front last [] ys h = tt
order_front last (x ∷ xs) ys h = (h.0, order_front (last_call last x.step.crashed x.step.start) xs ys h.1)

order_at : (last : Option Call) (xs : List TakenStep) (e : TakenStep) (ys : List TakenStep) → AreInWorkerOrder last (xs ++ e ∷ ys) → MayStart (last_of last xs) e.step.crashed e.step.start
order_at last [] e ys h = h.0
order_at last (x ∷ xs) e ys h = order_at (last_call last x.step.crashed x.step.start) xs e ys h.1

module _ (s : Setup) (layout : IsLayout s.layout) (asked : EveryRuinWasAsked) (loads : LoadsTell) where
  abbrev Ordered : List TakenStep → Type 0
  Ordered es = (p : ℕ) → p < s.layout.procs → AreInWorkerOrder None (entries_of p es)

  ordered_front : (xs ys : List TakenStep) → Ordered (xs ++ ys) → Ordered xs
  ordered_front xs ys h p below = order_front None (entries_of p xs) (entries_of p ys) (subst (AreInWorkerOrder None) (own-append p xs ys) (h p below))

  -- a process that starts to unlock there has read the ruin before, so the word held it
  left : (es : List TakenStep) (p : ℕ) → IsRun s es → Ordered es → IsLeftUnmended s.layout s.limit (events_of_run es) p → ((xs ys : List TakenStep) → es ≡ xs ++ ys → length xs < length es → cells_of s xs 0 ≡ 0) → ⊥
  left es p run ordered u before_it =
      elim (walk s None at_rest (entries_of p b.earlier) (refl, λ e. absurd (cc)) (order_front None (entries_of p b.earlier) (b.entry ∷ entries_of p b.later) mine) (run_goes s b.earlier p earlier_run)) [
        | inl ruin ↦ ruined ruin
        | inr stands ↦ unlocks_mended s (last_of None (entries_of p b.earlier)) (process_state_of s p b.earlier) p stands may.1 begins unmended
      ]
    where
      b : Beginning p Unlock es u.front
      b = begun_at p Unlock es u.front u.back u.split

      below : p < s.layout.procs
      below = all_at (λ (h : WorldEvent). who h < s.layout.procs) u.front (Begins p Unlock) u.back (subst (All (λ (h : WorldEvent). who h < s.layout.procs)) u.split (execution_within s.layout s.limit at_first (events_of_run es) run))

      same : (b.entry.by == p) ≡ true
      same = eq-eqb b.entry.by p b.by

      owns : entries_of p es ≡ entries_of p b.earlier ++ b.entry ∷ entries_of p b.later
      owns = ap (entries_of p) b.is ∙ own-append p b.earlier (b.entry ∷ b.later) ∙ ap (λ (l : List TakenStep). entries_of p b.earlier ++ l) (own_taken p b.entry b.later same)

      mine : AreInWorkerOrder None (entries_of p b.earlier ++ b.entry ∷ entries_of p b.later)
      mine = subst (AreInWorkerOrder None) owns (ordered p below)

      may : (b.entry.step.crashed ≡ false) × (settles (last_of None (entries_of p b.earlier)) ≡ true)
      may = subst (λ (o : Option Call). MayStart (last_of None (entries_of p b.earlier)) b.entry.step.crashed o) b.starts (order_at None (entries_of p b.earlier) b.entry (entries_of p b.later) mine)

      earlier_run : IsRun s b.earlier
      earlier_run = legal_front s b.earlier (b.entry ∷ b.later) (subst (IsRun s) b.is run)

      goes : AllowsEvents s (process_state_of s p b.earlier) (world_events b.entry ++ events_of_run (entries_of p b.later))
      goes =
          let all = run_goes s es p run in
          let parts : events_of_run (entries_of p es) ≡ events_of_run (entries_of p b.earlier) ++ (world_events b.entry ++ events_of_run (entries_of p b.later)) = ap events_of_run owns ∙ spelled-append (entries_of p b.earlier) (b.entry ∷ entries_of p b.later) in
          goes_back s at_rest (events_of_run (entries_of p b.earlier)) (world_events b.entry ++ events_of_run (entries_of p b.later)) (subst (AllowsEvents s at_rest) parts all)

      begins : IsSome (next_process_state s.layout s.limit (process_state_of s p b.earlier) (Begins p Unlock))
      begins =
          let x = b.entry in
          let t = access_event x.by x.step.kind x.step.word x.value in
          let G : Bool × Option Call × ℕ → Type 0 = λ (w : Bool × Option Call × ℕ). AllowsEvents s (process_state_of s p b.earlier) ((before w.0 w.1 w.2 ++ t ∷ []) ++ events_of_run (entries_of p b.later)) in
          let at : G (false, Some Unlock, p) = subst G (λ i. (may.0 i, b.starts i, b.by i)) goes in at.0

      unmended : (process_state_of s p b.earlier).mended ≡ false
      unmended =
          let front : u.front ≡ events_of_run b.earlier = b.front_is ∙ ap (λ (c : Bool). events_of_run b.earlier ++ crash_first c b.entry.by) may.0 ∙ append-nil (events_of_run b.earlier) in
          sym (ap (λ (q : ProcessState). q.mended) (ap (λ (hs : List WorldEvent). (last_global_state s.layout s.limit at_first hs).process_states p) front ∙ process_state_in_run s b.earlier p)) ∙ u.unmended

      ruined : HasReadRuin (entries_of p b.earlier) → ⊥
      ruined r =
          let o : Own p b.earlier r.front r.entry = own_split p b.earlier r.front r.entry r.back r.is in
          let parts : es ≡ (o.earlier ++ r.entry ∷ []) ++ (o.later ++ b.entry ∷ b.later) =
          b.is ∙ ap (λ (l : List TakenStep). l ++ b.entry ∷ b.later) (o.is ∙ sym (append_assoc o.earlier (r.entry ∷ []) o.later)) ∙ append_assoc (o.earlier ++ r.entry ∷ []) o.later (b.entry ∷ b.later) in
          let reports = loads s o.earlier r.entry (legal_front s (o.earlier ++ r.entry ∷ []) (o.later ++ b.entry ∷ b.later) (subst (IsRun s) parts run)) r.reads.0 in
          let one : cells_of s o.earlier 0 ≡ 1 = ap (reading (end_of s o.earlier)) (sym r.reads.1) ∙ reports ∙ r.reads.2 in
          let whole : es ≡ o.earlier ++ (r.entry ∷ (o.later ++ b.entry ∷ b.later)) = parts ∙ append_assoc o.earlier (r.entry ∷ []) (o.later ++ b.entry ∷ b.later) in
          let long = ap length whole in
          let lengths = length-append o.earlier (r.entry ∷ (o.later ++ b.entry ∷ b.later)) in
          let zero_there = before_it o.earlier (r.entry ∷ (o.later ++ b.entry ∷ b.later)) whole (omega (arith, long, lengths)) in
          omega (arith, one, zero_there)

  unruined : (n : ℕ) (es : List TakenStep) → length es < n → IsRun s es → Ordered es → cells_of s es 0 ≡ 0
  unruined zero es few run ordered = absurd (omega arith)
  unruined (suc n) es few run ordered =
      elim (cases_eq (cells_of s es 0) 0) [
        | inl none ↦ none
        | inr ruin ↦
            (let u = asked s.layout s.limit (events_of_run es) layout run ruin in
            absurd (left es u.0 run ordered u.1 (λ xs ys is fewer. unruined n xs (omega (arith, few, fewer)) (legal_front s xs ys (subst (IsRun s) is run)) (ordered_front xs ys (subst Ordered is ordered)))))
      ]

pub nobody_ruins : EveryRuinWasAsked → LoadsTell → NobodyRuins
nobody_ruins asked loads s es layout run ordered = unruined s layout asked loads (suc (length es)) es (omega arith) run ordered

-- so no process reads a ruin
pub none_read : (s : Setup) (es rest : List TakenStep) (p : ℕ) → IsLayout s.layout → IsRun s (es ++ rest) → ((q : ℕ) → q < s.layout.procs → AreInWorkerOrder None (entries_of q (es ++ rest))) → LoadsTell → NobodyRuins → HasReadRuin (entries_of p es) → ⊥
none_read s es rest p layout run ordered loads nobody r =
    let o : Own p es r.front r.entry = own_split p es r.front r.entry r.back r.is in
    let parts : es ++ rest ≡ (o.earlier ++ r.entry ∷ []) ++ (o.later ++ rest) =
    ap (λ (l : List TakenStep). l ++ rest) (o.is ∙ sym (append_assoc o.earlier (r.entry ∷ []) o.later)) ∙ append_assoc (o.earlier ++ r.entry ∷ []) o.later rest in
    let whole : es ++ rest ≡ o.earlier ++ (r.entry ∷ (o.later ++ rest)) = parts ∙ append_assoc o.earlier (r.entry ∷ []) (o.later ++ rest) in
    let reports = loads s o.earlier r.entry (legal_front s (o.earlier ++ r.entry ∷ []) (o.later ++ rest) (subst (IsRun s) parts run)) r.reads.0 in
    let one : cells_of s o.earlier 0 ≡ 1 = ap (reading (end_of s o.earlier)) (sym r.reads.1) ∙ reports ∙ r.reads.2 in
    let before_it = λ (q : ℕ) (low : q < s.layout.procs). order_front None (entries_of q o.earlier) (entries_of q (r.entry ∷ (o.later ++ rest))) (subst (AreInWorkerOrder None) (ap (entries_of q) whole ∙ own-append q o.earlier (r.entry ∷ (o.later ++ rest))) (ordered q low)) in
    let none = nobody s o.earlier layout (legal_front s o.earlier (r.entry ∷ (o.later ++ rest)) (subst (IsRun s) whole run)) before_it in
    omega (arith, one, none)
