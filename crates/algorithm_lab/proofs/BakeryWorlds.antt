-- The world of the text beside that of the lock, move by move.
use Rattle.std.proofs.Common.{◌≡◌, ◌≢◌, ℕ, ◌^◌, ◌<◌, ◌≤◌, true, if◌then◌else◌, List, [], ◌∷◌, ◌++◌, length, replicate, Option, Some, None, IsSome, Result, Ok, Err, unwrap_or, refl, sym, ap, ◌∙◌, subst, inl, inr, arith, slice_index_or, slice_set, get_or-set_same, get_or-set_other}
use Rattle.std.specs.Prelude.{ok_or, option_map, slice_get, is_some}
use Rattle.std.proofs.lemmas.Bool.{cases_eq, cases_lt, lt-ltb, le-ltb}
use Rattle.std.proofs.lemmas.List.{length-set, length-replicate, get_or-replicate}
use Rattle.std.proofs.lemmas.Option.{slice_get_past}
use Rattle.rmecore.specs.AbstractLock.{Abstract, abstract_after, phase_after_crash, nobody}
use Rattle.rmecore.specs.Machine.{access, kind_of, word_of, carried_value, answer, InLock}
use Rattle.rmecore.specs.Needs.{put}
use Rattle.rmecore.specs.Place.{Place, Dead, Event, Starts, Crashes, Steps, next, place_after_start as lock_started}
use Rattle.rmecore.specs.Refused.{start_refusal as lock_refusal, number_of as lock_number}
use Rattle.rmecore.specs.World.{World, at_rest, read, after, May, step_deed, words_after_event as lock_stored, write}
use Rattle.rmecore.specs.declared.access.Access.{Access as LockAccess}
use Rattle.rmecore.specs.declared.access.Access.TheVariants.{Load as Loads, Store as Stores}
use Rattle.rmecore.specs.declared.outer.Outer.{Outer}
use Rattle.rmecore.specs.declared.outer.Outer.TheVariants as outers
use Rattle.rmecore.specs.declared.phase.Phase.{Phase}
use Rattle.rmecore.specs.declared.phase.Phase.TheVariants as phases
use Rattle.rmecore.specs.declared.refusal.Refusal.{Refusal}
use Rattle.rmecore.specs.declared.refusal.Refusal.TheVariants as refusals
use Rattle.rmecore.specs.declared.word.Word.TheVariants.{Choosing as ChoosingOf, Number as NumberOf, Inside as InsideOf}
use Rattle.rmecore.proofs.Accesses.{allowed}
use Rattle.rmecore.proofs.Bounds.{Bounded, final_bounded, rest_bounded}
use Rattle.rmecore.proofs.CoreSteps.{KindFits, kind_fits, reads}
use Rattle.rmecore.proofs.Invariant.{Tied, put_same, put_other}
use Rattle.rmecore.proofs.Rows.{after_deed}
use Rattle.rmecore.proofs.Runs.{kept as keeps, at_first}
use Rattle.rmecore.proofs.Turns.{turn}
use Rattle.rmecore.specs.declared.core_done.CoreDone.{CoreDone}
use Rattle.judge.specs.Legal.{judged_all}
use Rattle.algorithms.specs.Arrivals.{◌>>=◌}
use Rattle.algorithm_lab.specs.Bakery.{IsBakery}
use Rattle.algorithm_lab.specs.Claims.{or_line}
use Rattle.algorithm_lab.specs.Heard.{Heard, deeds_heard, heard_of_crash}
use Rattle.algorithm_lab.specs.Monitors.{MonitorState, EventPart, answer_reports, broken_between, broken_reports, counted_steps, excess_of, first_monitor, first_steps, is_idle, is_idle_process, monitor_left, part_of, phase_of, place_in, with_excess, phase_refusal, part_of_start, start_on, step_on, crash_on, then_in, unless as unless_heard}
use Rattle.algorithm_lab.specs.Refusals.{number_of as number_of_run}
use Rattle.algorithm_lab.specs.Sections.{bounds_steps, excess, section_at}
use Rattle.algorithm_lab.specs.declared.section.BoundedSection.{BoundedSection}
use Rattle.algorithm_lab.proofs.Sections.{no_bound}
use Rattle.algorithm_lab.specs.Moves.{ScheduleMove, Start, Step, Crash, Tells, Refuses, MoveResult, all_said, left_by, core_call, answer_number, deed_report, refused_outcome, unless, step_outcome, step_by, lock_move, moved_by, text_move, SameWords}
use Rattle.algorithms.specs.FirstWords.{from_zeros}
use Rattle.algorithms.specs.Worlds.{AlgorithmWorldState, access_at, after_step, process_of, process_after_start, entry_of, resting, advance_in_world as said_of, words_after_access, taken_by, with_process}
use Rattle.algorithms.specs.Steps.{step_before_access}
use Rattle.algorithms.specs.declared.access.WordAccess.{WordAccess}
use Rattle.algorithms.specs.declared.access.Advanced.{Advanced}
use Rattle.algorithms.specs.declared.access.Taken.{Taken}
use Rattle.algorithms.specs.declared.algorithm.Algorithm.{Algorithm}
use Rattle.algorithms.specs.declared.algorithm.AlgorithmCall.{AlgorithmCall}
use Rattle.algorithms.specs.declared.algorithm.StepBounds.{StepBounds}
use Rattle.algorithms.specs.declared.constants.Constants.{Constants}
use Rattle.algorithms.specs.declared.process.AlgorithmProcess.{AlgorithmProcess}
use Rattle.algorithms.specs.declared.refusal.AlgorithmRefusal.{AlgorithmRefusal}
use Rattle.algorithms.specs.declared.refusal.AlgorithmRefusal.TheVariants.{NoSuchProcess, NothingToDo}
use Rattle.algorithm_lab.specs.declared.run_refusal.RunRefusal.{RunRefusal}
use Rattle.algorithm_lab.specs.declared.run_refusal.RunRefusal.TheVariants.{Refused}
use Rattle.algorithm_lab.proofs.BrokenClaims.{none_broken}
use Rattle.algorithm_lab.proofs.BakeryLines.{three}
use Rattle.algorithm_lab.proofs.BakeryComparisons.{constants}
use Rattle.algorithm_lab.proofs.BakeryPlaces.{dead, Stands}
use Rattle.algorithm_lab.proofs.BakerySteps.{address_of, stores_of, access_by, Follows, ValueFits, StepIf, steps_alike}
use Rattle.algorithm_lab.proofs.BakeryWords.{AlikeWords, IsRowOf, reports, stores_alike, set_here, set_there, replicated}
use Rattle.algorithm_lab.proofs.BakeryDeeds.{promised, OfStep, of_turn, hears, phase_kept, judge_at, deeds_said, step_judged}
use Rattle.algorithm_lab.proofs.BakeryPlaceFits.{value_fits, in_lock, phase_fits, may_start, some_is, at_some}
use Rattle.algorithm_lab.proofs.BakeryStarts.{by_call, phase_part, IsRefused, StartIf, starts_alike}

-- ---- both sides

module _ (a : Algorithm) (b : IsBakery a) (n limit : ℕ) (most : n ≤ 64) (high : limit ≤ 2 ^ 62) where
  abbrev pub world : List (List ℕ) → List AlgorithmProcess → AlgorithmWorldState
  world rows ts = record { algorithm = a; procs = n; limit = limit; first_rows = None; words = rows; processes = ts }

  abbrev pub state : List (List ℕ) → List AlgorithmProcess → List Phase → MonitorState
  state rows ts ps = record { world = world rows ts; phases = ps; steps = [] }

  pub record HasProcess (p : ℕ) (place : Place) (ts : List AlgorithmProcess) : Type 0 where
    pub process : AlgorithmProcess
    pub there : slice_get ts p ≡ Some process
    pub stands : Stands n limit p place process

  pub record Alike (w : World) (ab : Abstract) (rows : List (List ℕ)) (ts : List AlgorithmProcess) (ps : List Phase) : Type 0 where
    pub tied : Tied n w ab
    pub bounded : Bounded limit w
    pub long : length ts ≡ n
    pub phases_long : length ps ≡ n
    pub phase : (p : ℕ) → p < n → slice_index_or ps p phases.Out ≡ ab.phase p
    pub process : (p : ℕ) → p < n → HasProcess p (w.places p) ts
    pub words : AlikeWords n w.words rows

  -- what a move does on both sides, and a judge allows
  pub record Matches (from : Abstract) (o : MoveResult World) (q : MoveResult MonitorState) : Type 0 where
    pub rows : List (List ℕ)
    pub processes : List AlgorithmProcess
    pub now : List Phase
    pub lock : Abstract
    pub is : q ≡ record { said = o.said; left = state rows processes now }
    pub alike : Alike o.left lock rows processes now
    pub judged : judged_all (judge_at n from) (deeds_said o.said) ≡ Ok (judge_at n lock)

  process_set : (p : ℕ) (places : ℕ → Place) (s : Place) (ts : List AlgorithmProcess) (t : AlgorithmProcess) → p < n → length ts ≡ n → ((q : ℕ) → q < n → HasProcess q (places q) ts) → Stands n limit p s t
      → (q : ℕ) → q < n → HasProcess q (put places p s q) (slice_set ts p t)
  process_set p places s ts t own long each stands q low =
      elim (cases_eq q p) [
        | inl e ↦ subst (λ r. HasProcess r (put places p s r) (slice_set ts p t)) (sym e) (record { process = t; there = set_here ts p t (omega (arith, long)); stands = subst (λ x. Stands n limit p x t) (sym (put_same places p s)) stands })
        | inr ne ↦ let h = each q low in record { process = h.process; there = set_there ts p q t ne ∙ h.there; stands = subst (λ x. Stands n limit q x h.process) (sym (put_other places p s q ne)) h.stands }
      ]

  phase_set : (p : ℕ) (f g : ℕ → Phase) (ps : List Phase) → p < n → length ps ≡ n → ((q : ℕ) → q < n → slice_index_or ps q phases.Out ≡ f q) → ((q : ℕ) → q ≢ p → g q ≡ f q)
      → (q : ℕ) → q < n → slice_index_or (slice_set ps p (g p)) q phases.Out ≡ g q
  phase_set p f g ps own long each other q low =
      elim (cases_eq q p) [
        | inl e ↦ subst (λ r. slice_index_or (slice_set ps p (g p)) r phases.Out ≡ g r) (sym e) (get_or-set_same ps p (g p) phases.Out (omega (arith, long)))
        | inr ne ↦ get_or-set_other ps p q (g p) phases.Out ne ∙ each q low ∙ sym (other q ne)
      ]

  module _ (w : World) (ab : Abstract) (rows : List (List ℕ)) (ts : List AlgorithmProcess) (ps : List Phase) (h : Alike w ab rows ts ps) where
    abbrev m : MonitorState
    m = state rows ts ps

    abbrev me : ℕ → Constants
    me p = constants p n limit

    abbrev phase_now : ℕ → Phase
    phase_now p = slice_index_or ps p phases.Out

    refuses : (r : Refusal) (number : Option ℕ) → number ≡ lock_number r → Matches ab (refused_outcome w r) (record { said = Refuses number; left = m })
    refuses r number e = record { rows = rows; processes = ts; now = ps; lock = ab; is = ap (λ k. record { said = Refuses k; left = m }) e; alike = h; judged = refl }

    gone : (p : ℕ) → n ≤ p → slice_get ts p ≡ None
    gone p past = slice_get_past ts p (omega (arith, h.long))

    -- an event reports no claim, since there is none
    no_claims : (p : ℕ) (ws : List (List ℕ)) (rs : List AlgorithmProcess) (phase : Phase) (steps : ℕ) → broken_between m (monitor_left m p (world ws rs) phase steps) ≡ None
    no_claims p ws rs phase steps = (λ i. or_line (none_broken (world rows ts) ps b.claims i) (none_broken (world ws rs) (slice_set ps p phase) b.claims i))

    -- what an event reports and leaves, but for claims
    abbrev plain_part : ℕ → List (List ℕ) → List AlgorithmProcess → Heard → Option ℕ → EventPart
    plain_part p ws rs x number = record { reports = x.reports ++ answer_reports p number; ended = is_some number; left = state ws rs (slice_set ps p x.phase) }

    part_plain : (p : ℕ) (ws : List (List ℕ)) (rs : List AlgorithmProcess) (x : Heard) (number : Option ℕ) → part_of m p (world ws rs) x number 0 ≡ plain_part p ws rs x number
    part_plain p ws rs x number =
        ap (λ (line : Option ℕ). record { reports = broken_reports line ++ (x.reports ++ answer_reports p number); ended = is_some number; left = state ws rs (slice_set ps p x.phase) }) (no_claims p ws rs x.phase 0)

    -- ---- starts

    abbrev start_by : ℕ → Option RunRefusal → Result AlgorithmProcess AlgorithmRefusal → Result MonitorState RunRefusal
    start_by p r x = unless_heard r (then_in (λ w. record { world = w; phases = ps; steps = [] }) (x >>= (λ process. Ok (with_process (world rows ts) p process))))

    abbrev start_from : ℕ → AlgorithmCall → Option AlgorithmProcess → Result MonitorState RunRefusal
    start_from p call o =
        start_by p (if is_idle_process (ok_or o NoSuchProcess) then (if is_some (entry_of a.entries call) then phase_refusal (phase_now p) call else None) else None) (ok_or o NoSuchProcess >>= (λ process. process_after_start a (me p) process call))

    entries_there : (call : AlgorithmCall) → is_some (entry_of a.entries call) ≡ true
    entries_there call =
        ap (λ es. is_some (entry_of es call)) b.entries
        ∙ by_call (λ call. is_some (entry_of (record { lock = 0; unlock = 36; recover = Some 40; withdraw = Some 57 }) call) ≡ true) refl refl refl refl call

    start_gone : (p : ℕ) (call : AlgorithmCall) → n ≤ p → start_on m p call ≡ Err (Refused NoSuchProcess)
    start_gone p call past = ap (start_from p call) (gone p past)

    start_there : (p : ℕ) (call : AlgorithmCall) (t : AlgorithmProcess) → slice_get ts p ≡ Some t → start_on m p call ≡ start_by p (phase_part t (phase_now p) call) (process_after_start a (me p) t call)
    start_there p call t there =
        ap (start_from p call) there
        ∙ ap (λ s. start_by p (if is_idle t.place then (if s then phase_refusal (phase_now p) call else None) else None) (process_after_start a (me p) t call)) (entries_there call)

    refused_by : (p : ℕ) (call : AlgorithmCall) (t : AlgorithmProcess) (number : Option ℕ) → (s : IsRefused a b n limit p t (phase_now p) call number) → start_by p (phase_part t (phase_now p) call) (process_after_start a (me p) t call) ≡ Err s.refusal
    refused_by p call t number s =
        elim s.by [
          | inl by ↦ ap (λ x. start_by p x (process_after_start a (me p) t call)) by
          | inr by ↦ ap (λ x. start_by p x (process_after_start a (me p) t call)) by.0 ∙ ap (start_by p None) by.1.1 ∙ ap Err (sym by.1.2)
        ]

    started_by : (p : ℕ) (call : AlgorithmCall) (t : AlgorithmProcess) (o : Option Refusal) → p < n → slice_get ts p ≡ Some t → lock_refusal (w.places p) (core_call call) ≡ o
        → StartIf a b n limit p t (phase_now p) call (unwrap_or (lock_started (w.places p) (core_call call)) (w.places p)) o
        → Matches ab (unless o w (record { said = Tells []; left = after n limit w (Starts p (core_call call)) })) (moved_by m (part_of_start (start_on m p call)))
    started_by p call t (Some r) own there e s =
        let why : start_on m p call ≡ Err s.refusal = start_there p call t there ∙ refused_by p call t (lock_number r) s in
        subst (λ x. Matches ab (refused_outcome w r) (moved_by m (part_of_start x))) (sym why) (refuses r (number_of_run s.refusal) s.number_is)
    started_by p call t None own there e s =
        let event : Event = Starts p (core_call call) in
        let may : May n limit w event = (own, may_start (core_call call) (w.places p) e, tt) in
        let kept = keeps n limit w ab event may h.tied in
        let why : start_on m p call ≡ Ok (state rows (slice_set ts p s.process) ps) = start_there p call t there ∙ ap (λ x. start_by p x (process_after_start a (me p) t call)) s.allowed ∙ ap (start_by p None) s.is in
        subst (λ x. Matches ab (record { said = Tells []; left = after n limit w event }) (moved_by m (part_of_start x))) (sym why)
        (record {
          rows = rows;
          processes = slice_set ts p s.process;
          now = ps;
          lock = ab;
          is = refl;
          alike = record {
            tied = kept.1;
            bounded = final_bounded limit n w (event ∷ []) h.bounded (may, tt);
            long = length-set ts p s.process ∙ h.long;
            phases_long = h.phases_long;
            phase = h.phase;
            process = process_set p w.places _ ts s.process own h.long h.process s.stands;
            words = h.words;
          };
          judged = refl;
        })

    pub start_matches : (p : ℕ) (call : AlgorithmCall) → Matches ab (lock_move n limit w (Start p call)) (text_move m (Start p call))
    start_matches p call =
        elim (cases_lt p n) [
          | inl own ↦
              let there = h.process p own in
              let fits = phase_fits (w.places p) (w.words p) (phase_now p) (h.tied.fits p own) (h.phase p own ∙ h.tied.phase p own) in
              let o : MoveResult World = unless (lock_refusal (w.places p) (core_call call)) w (record { said = Tells []; left = after n limit w (Starts p (core_call call)) }) in
              subst (λ t. Matches ab (if t then o else refused_outcome w refusals.NoSuchProcess) (text_move m (Start p call))) (sym (lt-ltb p n own))
              (started_by p call there.process _ own there.there refl (starts_alike a b n limit p (w.places p) there.process (phase_now p) there.stands fits call))
          | inr past ↦
              let o : MoveResult World = unless (lock_refusal (w.places p) (core_call call)) w (record { said = Tells []; left = after n limit w (Starts p (core_call call)) }) in
              subst (λ t. Matches ab (if t then o else refused_outcome w refusals.NoSuchProcess) (text_move m (Start p call))) (sym (le-ltb p n past))
              (subst (λ x. Matches ab (refused_outcome w refusals.NoSuchProcess) (moved_by m (part_of_start x))) (sym (start_gone p call past)) (refuses refusals.NoSuchProcess (Some 3) refl))
        ]

    -- ---- crashes

    abbrev crash_from : ℕ → Option AlgorithmProcess → Result EventPart RunRefusal
    crash_from p o = then_in (λ w. part_of m p w (heard_of_crash a.promises p (phase_now p)) None 0) (ok_or o NoSuchProcess >>= (λ process. Ok (with_process (world rows ts) p dead)))

    crash_there : (p : ℕ) (t : AlgorithmProcess) → slice_get ts p ≡ Some t → crash_on m p ≡ Ok (plain_part p rows (slice_set ts p dead) (heard_of_crash promised p (phase_now p)) None)
    crash_there p t there =
        ap (crash_from p) there
        ∙ ap (λ x. Ok (part_of m p (with_process (world rows ts) p dead) (heard_of_crash x p (phase_now p)) None 0)) b.promises
        ∙ ap Ok (part_plain p rows (slice_set ts p dead) (heard_of_crash promised p (phase_now p)) None)

    crash_gone : (p : ℕ) → n ≤ p → crash_on m p ≡ Err (Refused NoSuchProcess)
    crash_gone p past = ap (crash_from p) (gone p past)

    pub crash_matches : (p : ℕ) → Matches ab (lock_move n limit w (Crash p)) (text_move m (Crash p))
    crash_matches p =
        let event : Event = Crashes p in
        let o : MoveResult World = record { said = Tells (deed_report (Some (outers.Crash p))); left = after n limit w event } in
        elim (cases_lt p n) [
          | inl own ↦
              let there = h.process p own in
              let may : May n limit w event = (own, refl, tt) in
              let kept = keeps n limit w ab event may h.tied in
              let lock : Abstract = abstract_after ab (outers.Crash p) in
              let phase : phase_after_crash (phase_now p) ≡ lock.phase p = ap phase_after_crash (h.phase p own) ∙ sym (put_same ab.phase p (phase_after_crash (ab.phase p))) in
              subst (λ t. Matches ab (if t then o else refused_outcome w refusals.NoSuchProcess) (text_move m (Crash p))) (sym (lt-ltb p n own))
              (subst (λ x. Matches ab o (moved_by m x)) (sym (crash_there p there.process there.there))
              (record {
                rows = rows;
                processes = slice_set ts p dead;
                now = slice_set ps p (lock.phase p);
                lock = lock;
                is = ap (λ x. record { said = Tells (deed_report (Some (outers.Crash p))); left = state rows (slice_set ts p dead) (slice_set ps p x) }) phase;
                alike = record {
                  tied = kept.1;
                  bounded = final_bounded limit n w (event ∷ []) h.bounded (may, tt);
                  long = length-set ts p dead ∙ h.long;
                  phases_long = length-set ps p (lock.phase p) ∙ h.phases_long;
                  phase = phase_set p ab.phase lock.phase ps own h.phases_long h.phase (λ q ne. put_other ab.phase p (phase_after_crash (ab.phase p)) q ne);
                  process = process_set p w.places Dead ts dead own h.long h.process refl;
                  words = h.words;
                };
                judged = step_judged n ab p (Some (outers.Crash p)) None kept.0;
              }))
          | inr past ↦
              subst (λ t. Matches ab (if t then o else refused_outcome w refusals.NoSuchProcess) (text_move m (Crash p))) (sym (le-ltb p n past))
              (subst (λ x. Matches ab (refused_outcome w refusals.NoSuchProcess) (moved_by m x)) (sym (crash_gone p past)) (refuses refusals.NoSuchProcess (Some 3) refl))
        ]

    -- ---- steps

    -- the text bounds no own steps
    no_excess : (p : ℕ) → excess_of m p ≡ None
    no_excess p =
        ap (λ o. excess o (counted_steps m p)) (no_bound m.world (section_at a.entries (phase_of m p) (place_in (process_of m.world p))) (ap bounds_steps b.step_bounds))

    abbrev step_with : ℕ → Option BoundedSection → Result Taken AlgorithmRefusal → Result EventPart RunRefusal
    step_with p over r =
        then_in (λ (s : Advanced × AlgorithmWorldState). part_of m p s.1 (with_excess p over (deeds_heard a.promises p (phase_now p) s.0.noted)) s.0.answer 0)
        ((r >>= (λ t. Ok (t, after_step (world rows ts) p t))) >>= said_of)

    abbrev step_done : ℕ → Result Taken AlgorithmRefusal → Result EventPart RunRefusal
    step_done p r = step_with p None r

    abbrev step_from : ℕ → Option AlgorithmProcess → Result EventPart RunRefusal
    step_from p o = step_done p (ok_or o NoSuchProcess >>= (λ process. taken_by a (me p) rows process))

    step_is : (p : ℕ) → step_on m p ≡ step_from p (slice_get ts p)
    step_is p = ap (λ over. step_with p over (ok_or (slice_get ts p) NoSuchProcess >>= (λ process. taken_by a (me p) rows process))) (no_excess p)

    pub step_gone : (p : ℕ) → n ≤ p → step_on m p ≡ Err (Refused NoSuchProcess)
    step_gone p past = step_is p ∙ ap (step_from p) (gone p past)

    words_alike : (p : ℕ) (acc : LockAccess) (v : ℕ) → KindFits acc → InLock n (word_of acc)
        → AlikeWords n (lock_stored w.words (Steps p (kind_of acc) (word_of acc) (carried_value acc v))) (words_after_access rows (address_of (word_of acc)) (stores_of acc))
    words_alike p (Loads kind word) v fits low = subst (λ t. AlikeWords n (if t then write w.words word v else w.words) rows) (sym fits) h.words
    words_alike p (Stores kind word x) v fits low =
        subst (λ t. AlikeWords n (if t then write w.words word x else w.words) (words_after_access rows (address_of word) (Some x))) (sym fits) (stores_alike n w.words rows word x most low h.words)

    -- what a step reports and leaves
    abbrev reported : ℕ → AlgorithmProcess → WordAccess → Heard → Option ℕ → EventPart
    reported p t acc x abstract_after = record { reports = x.reports ++ answer_reports p abstract_after; ended = is_some abstract_after; left = state (words_after_access rows acc.address acc.stores) (slice_set ts p t) (slice_set ps p x.phase) }

    -- the answer of the lock to a step with this access
    abbrev pub done_at : ℕ → LockAccess → Option CoreDone
    done_at p acc = answer (w.places p) (kind_of acc) (carried_value acc (read w.words (word_of acc)))

    -- a step that is taken on both sides
    pub record StepsTo (p : ℕ) (acc : LockAccess) : Type 0 where
      pub part : EventPart
      pub is : step_on m p ≡ Ok part
      pub ended : part.ended ≡ is_some (option_map answer_number (done_at p acc))
      pub matches : Matches ab (step_outcome n limit w p acc (carried_value acc (read w.words (word_of acc)))) (moved_by m (Ok part))

    -- a step, or none
    abbrev pub StepOf : ℕ → Option LockAccess → Type 0
    StepOf p None = step_on m p ≡ Err (Refused NothingToDo)
    StepOf p (Some acc) = StepsTo p acc

    moved_to : (p : ℕ) (acc : LockAccess) (own : p < n) (t : AlgorithmProcess) → slice_get ts p ≡ Some t → Stands n limit p (w.places p) t → access limit p (w.places p) ≡ Some acc
        → StepIf a b n limit p own most high rows (w.places p) t (Some acc) → StepsTo p acc
    moved_to p acc own t there stands e step =
        let place : Place = w.places p in
        let v : ℕ = read w.words (word_of acc) in
        let x : ℕ = carried_value acc v in
        let low : InLock n (word_of acc) = at_some (access limit p place) acc (λ acc. InLock n (word_of acc)) e (in_lock limit n p place t own stands) in
        let fits : KindFits acc = at_some (access limit p place) acc KindFits e (kind_fits limit p place) in
        let given : ValueFits limit place v = at_some (access limit p place) acc (λ acc. ValueFits limit place (read w.words (word_of acc))) e (value_fits limit n p w place (h.tied.fits p own) h.bounded) in
        let some : IsSome (next n limit p place (kind_of acc) (word_of acc) x) = at_some (access limit p place) acc (λ acc. IsSome (next n limit p place (kind_of acc) (word_of acc) (carried_value acc v))) e (allowed n limit p place v) in
        let event : Event = Steps p (kind_of acc) (word_of acc) x in
        let may : May n limit w event = (own, some, reads w.words acc x fits refl) in
        let kept = keeps n limit w ab event may h.tied in
        let deed : Option Outer = step_deed p place (kind_of acc) x in
        let to = some_is (next n limit p place (kind_of acc) (word_of acc) x) some in
        let of : OfStep p deed = of_turn p place to.0 deed (turn n limit p place (kind_of acc) (word_of acc) x to.0 to.1) in
        let lock : Abstract = after_deed ab deed in
        let s = step v given (reports n w.words rows (word_of acc) low h.words) in
        let taken : Taken = s.0 in
        let f : Follows n limit p place acc v taken = s.2 in
        let hear : deeds_heard a.promises p (phase_now p) taken.moved.noted ≡ record { reports = deed_report deed; phase = lock.phase p } =
        ap (λ y. deeds_heard y p (phase_now p) taken.moved.noted) b.promises ∙ ap (deeds_heard promised p (phase_now p)) f.noted ∙ hears n ab p (phase_now p) deed (h.phase p own) of kept.0 in
        let number : Option ℕ = option_map answer_number (answer place (kind_of acc) x) in
        let now : Heard = record { reports = deed_report deed; phase = lock.phase p } in
        let said : step_on m p ≡ Ok (reported p taken.moved.process (access_by acc) now number) =
        step_is p
        ∙ ap (step_from p) there
        ∙ ap (step_done p) s.1
        ∙ ap Ok (part_plain p (words_after_access rows taken.access.address taken.access.stores) (slice_set ts p taken.moved.process) (deeds_heard a.promises p (phase_now p) taken.moved.noted) taken.moved.answer)
        ∙ ap (λ y. Ok (reported p taken.moved.process y (deeds_heard a.promises p (phase_now p) taken.moved.noted) taken.moved.answer)) f.access
        ∙ ap (λ y. Ok (reported p taken.moved.process (access_by acc) y taken.moved.answer)) hear
        ∙ ap (λ y. Ok (reported p taken.moved.process (access_by acc) now y)) f.answer in
        record {
          part = reported p taken.moved.process (access_by acc) now number;
          is = said;
          ended = refl;
          matches = record {
            rows = words_after_access rows (address_of (word_of acc)) (stores_of acc);
            processes = slice_set ts p taken.moved.process;
            now = slice_set ps p (lock.phase p);
            lock = lock;
            is = refl;
            alike = record {
              tied = kept.1;
              bounded = final_bounded limit n w (event ∷ []) h.bounded (may, tt);
              long = length-set ts p taken.moved.process ∙ h.long;
              phases_long = length-set ps p (lock.phase p) ∙ h.phases_long;
              phase = phase_set p ab.phase lock.phase ps own h.phases_long h.phase (λ q ne. phase_kept ab p q deed of ne);
              process = process_set p w.places _ ts taken.moved.process own h.long h.process f.stands;
              words = words_alike p acc v fits low;
            };
            judged = step_judged n ab p deed number kept.0;
          };
        }

    step_by_access : (p : ℕ) (own : p < n) (t : AlgorithmProcess) (o : Option LockAccess) → slice_get ts p ≡ Some t → Stands n limit p (w.places p) t → access limit p (w.places p) ≡ o
        → StepIf a b n limit p own most high rows (w.places p) t o → StepOf p o
    step_by_access p own t None there stands e step = step_is p ∙ ap (step_from p) there ∙ ap (λ r. step_done p (r >>= (λ at. access_at a at >>= (λ line. step_before_access a (me p) rows at line t.store)))) step
    step_by_access p own t (Some acc) there stands e step = moved_to p acc own t there stands e step

    -- the step of a process that is there
    pub step_of : (p : ℕ) → p < n → StepOf p (access limit p (w.places p))
    step_of p own =
        let there = h.process p own in
        step_by_access p own there.process _ there.there there.stands refl (steps_alike a b n limit p own most high rows (w.places p) there.process (h.bounded.within p) there.stands)

    steps_match : (p : ℕ) (o : Option LockAccess) → StepOf p o → Matches ab (step_by n limit w p o) (moved_by m (step_on m p))
    steps_match p None step = subst (λ x. Matches ab (refused_outcome w refusals.NothingToDo) (moved_by m x)) (sym step) (refuses refusals.NothingToDo (Some 7) refl)
    steps_match p (Some acc) step = subst (λ x. Matches ab (step_outcome n limit w p acc (carried_value acc (read w.words (word_of acc)))) (moved_by m x)) (sym step.is) step.matches

    pub step_matches : (p : ℕ) → Matches ab (lock_move n limit w (Step p)) (text_move m (Step p))
    step_matches p =
        let o : MoveResult World = step_by n limit w p (access limit p (w.places p)) in
        elim (cases_lt p n) [
          | inl own ↦
              subst (λ t. Matches ab (if t then o else refused_outcome w refusals.NoSuchProcess) (text_move m (Step p))) (sym (lt-ltb p n own))
              (steps_match p (access limit p (w.places p)) (step_of p own))
          | inr past ↦
              subst (λ t. Matches ab (if t then o else refused_outcome w refusals.NoSuchProcess) (text_move m (Step p))) (sym (le-ltb p n past))
              (subst (λ x. Matches ab (refused_outcome w refusals.NoSuchProcess) (moved_by m x)) (sym (step_gone p past)) (refuses refusals.NoSuchProcess (Some 3) refl))
        ]

    pub moves_match : (move : ScheduleMove) → Matches ab (lock_move n limit w move) (text_move m move)
    moves_match (Start p call) = start_matches p call
    moves_match (Step p) = step_matches p
    moves_match (Crash p) = crash_matches p

    pub same_words : SameWords n w m
    same_words p own = (reports n w.words rows (ChoosingOf p) own h.words, reports n w.words rows (NumberOf p) own h.words, reports n w.words rows (InsideOf p) own h.words)

  -- ---- runs

  pub record SameRuns (w : World) (q : MonitorState) (moves : List ScheduleMove) : Type 0 where
    pub said : all_said text_move q moves ≡ all_said (lock_move n limit) w moves
    pub words : SameWords n (left_by (lock_move n limit) w moves) (left_by text_move q moves)

  pub runs_match : (moves : List ScheduleMove) (w : World) (ab : Abstract) (rows : List (List ℕ)) (ts : List AlgorithmProcess) (ps : List Phase) → Alike w ab rows ts ps → SameRuns w (state rows ts ps) moves
  runs_match [] w ab rows ts ps h = record { said = refl; words = same_words w ab rows ts ps h }
  runs_match (move ∷ moves) w ab rows ts ps h =
      let x = moves_match w ab rows ts ps h move in
      let rest = runs_match moves (lock_move n limit w move).left x.lock x.rows x.processes x.now x.alike in
      record {
        said = ap (λ o. o.said ∷ all_said text_move o.left moves) x.is ∙ ap (λ l. (lock_move n limit w move).said ∷ l) rest.said;
        words = subst (λ o. SameWords n (left_by (lock_move n limit) (lock_move n limit w move).left moves) (left_by text_move o.left moves)) (sym x.is) rest.words;
      }

  first_words : AlikeWords n at_rest.words (replicate (length a.declarations.items) (replicate 64 0))
  first_words = record {
    choosing = replicate 64 0;
    number = replicate 64 0;
    inside = replicate 64 0;
    is = ap (λ k. replicate k (replicate 64 0)) (three a b);
    choosing_each = zeros;
    number_each = zeros;
    inside_each = zeros;
  }
    where
      zeros : IsRowOf n (λ p. 0) (replicate 64 0)
      zeros = record { long = length-replicate {A = ℕ} 64 0; each = λ p low. replicated 64 p 0 (omega arith) }

  -- the first worlds are alike
  pub first_alike : Alike at_rest nobody (replicate (length a.declarations.items) (replicate 64 0)) (replicate n resting) (replicate n phases.Out)
  first_alike = record {
    tied = at_first n;
    bounded = rest_bounded limit;
    long = length-replicate n resting;
    phases_long = length-replicate n phases.Out;
    phase = λ p own. get_or-replicate n p phases.Out phases.Out own;
    process = λ p own. record { process = resting; there = replicated n p resting own; stands = refl };
    words = first_words;
  }

  -- no own step is counted in a new monitor
  pub first_is : first_monitor (from_zeros a) n limit ≡ state (replicate (length a.declarations.items) (replicate 64 0)) (replicate n resting) (replicate n phases.Out)
  first_is =
      ap (λ (bounds : StepBounds). record { world = world (replicate (length a.declarations.items) (replicate 64 0)) (replicate n resting); phases = replicate n phases.Out; steps = first_steps bounds n }) b.step_bounds

  pub same_runs : (moves : List ScheduleMove) → SameRuns at_rest (first_monitor (from_zeros a) n limit) moves
  same_runs moves =
      subst (λ m. SameRuns at_rest m moves) (sym first_is) (runs_match moves at_rest nobody (replicate (length a.declarations.items) (replicate 64 0)) (replicate n resting) (replicate n phases.Out) first_alike)
