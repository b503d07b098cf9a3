-- Parts of a run that are played one after another.
use Rattle.std.proofs.Common.{is_some, subst, ◌≡◌, ℕ, zero, suc, ◌+◌, Bool, true, false, List, [], ◌∷◌, ◌++◌, Option, Some, None, Result, Ok, Err, refl, sym, ap, ◌∙◌, append_assoc, append-nil, inl, inr, ◌⊎◌}
use Rattle.std.proofs.lemmas.Bool.{cases_Bool}
use Rattle.std.proofs.lemmas.List.Concat.{flat_map-append, flat_map-cons}
use Rattle.std.specs.List.{flat_map}
use Rattle.schedule.specs.Transitions.{RunEvent, Took, Fell, Transitions, StepsFrom, IsShown, IsLoud}
use Rattle.schedule.specs.Effects.{Effects, HearsAll, BreaksOffAt}
use Rattle.schedule.specs.Fragments.{Fragment, unless, fragment_after_line, late, first_or_late, itself, steps, crashes_in_a_row, refusal_in, later_steps, later_crashes, steps_line, crash_line, line_on, run_on}
use Rattle.schedule.specs.Plays.{TakesUnheard, PlaysAll, StopsIn, RunsShort, Plays, PlaysOn, IsStopOf, IsLastCrash, IsLateEnd}
use Rattle.schedule.specs.declared.lines.line.Line.{Line}
use Rattle.schedule.specs.declared.lines.line.Line.TheVariants.{Start, Step, Crash, CrashAll}
use Rattle.schedule.specs.declared.player.play_stop.PlayStop.{PlayStop}
use Rattle.schedule.specs.declared.player.play_stop.PlayStop.TheVariants.{Refused, OutOfMemory, Stopped}

-- a part that reports this first
abbrev pub preceded : {X S R : Type 0} → List X → Fragment X S R → Fragment X S R
preceded reports part = record { reports = reports ++ part.reports; left = part.left; refused = part.refused }

pub not_late : {R : Type 0} (b : Bool) → late {R = R} b None ≡ None
not_late true = refl
not_late false = refl

-- a line whose first step is taken is refused as the steps after it are
first_taken : {R : Type 0} (b : Bool) (first refusal : Option R) → first ≡ None → first_or_late b first refusal ≡ late b refusal
first_taken true first refusal taken = refl
first_taken false first refusal taken = taken

first_refused : {R : Type 0} (b : Bool) (refusal : Option R) → first_or_late b refusal refusal ≡ refusal
first_refused true refusal = refl
first_refused false refusal = refl

-- ---- what is heard

module _ {L E : Type 0} (hears : L → E → L → Type 0) where
  pub hears_both : (a b c : L) (es fs : List E) → HearsAll hears a es b → HearsAll hears b fs c → HearsAll hears a (es ++ fs) c
  hears_both a b c [] fs same more = rw (← same) more
  hears_both a b c (e ∷ es) fs all more = (all.0, all.1, hears_both all.0 b c es fs all.2 more)

  pub hears_more : (a b c : L) (es : List E) (e : E) → HearsAll hears a es b → hears b e c → HearsAll hears a (es ++ e ∷ []) c
  hears_more a b c es e all one = hears_both a b c es (e ∷ []) all (c, one, refl)

  module _ (at : L → E → Type 0) where
    pub breaks_both : (a b : L) (es fs : List E) → HearsAll hears a es b → BreaksOffAt hears at b fs → BreaksOffAt hears at a (es ++ fs)
    breaks_both a b [] fs same breaks = rw (← same) breaks
    breaks_both a b (e ∷ es) fs all breaks = inr (all.0, all.1, breaks_both all.0 b es fs all.2 breaks)

    pub breaks_wider : (a : L) (es fs : List E) → BreaksOffAt hears at a es → BreaksOffAt hears at a (es ++ fs)
    breaks_wider a [] fs breaks = absurd breaks
    breaks_wider a (e ∷ es) fs (inl here) = inl here
    breaks_wider a (e ∷ es) fs (inr later) = inr (later.0, later.1, breaks_wider later.0 es fs later.2)

-- ---- a part after what was heard

module _ {L S T C R Stop : Type 0} (m : Transitions S T C R) (h : Effects L (RunEvent T C) Stop) where
  -- all of a part was heard
  pub played : (a b : L) (reports : List (RunEvent T C)) (total : Fragment (RunEvent T C) S R) (left s : S) (refused : Option R) → HearsAll h.hears a reports b
      → total ≡ record { reports = reports; left = left; refused = refused } → s ≡ left → PlaysAll h a b total s refused
  played a b reports total left s refused all e stands = rw e record { hears = all; stands = stands; refused_is = refl }

  -- the listener stops at the next event
  pub stops_next : (a b c : L) (reports after : List (RunEvent T C)) (event : RunEvent T C) (total : Fragment (RunEvent T C) S R) (stop : Stop) → HearsAll h.hears a reports b
      → total.reports ≡ reports ++ event ∷ after → h.stops b event c stop → StopsIn h a c total stop
  stops_next a b c reports after event total stop all e stops = rw e (breaks_both h.hears (λ next x. h.stops next x c stop) a b reports (event ∷ after) all (inl stops))

  -- the machine has no memory for the next event
  pub ends_next : (a b : L) (reports after : List (RunEvent T C)) (event : RunEvent T C) (total : Fragment (RunEvent T C) S R) → HearsAll h.hears a reports b
      → total.reports ≡ reports ++ event ∷ after → IsLoud m event → RunsShort m h a b total
  ends_next a b reports after event total all e loud = rw e (breaks_both h.hears (λ next x. (b ≡ next) × IsLoud m x) a b reports (event ∷ after) all (inl (refl, loud)))

  pub plays_after : {A : Type 0} (a b c : L) (reports : List (RunEvent T C)) (total rest : Fragment (RunEvent T C) S R) (s : S) (r : Result A (PlayStop R Stop)) → HearsAll h.hears a reports b
      → total ≡ preceded reports rest → Plays m h b c rest s r → Plays m h a c total s r
  plays_after a b c reports total rest s (Ok x) all e plays =
      rw e record { hears = hears_both h.hears a b c reports rest.reports all plays.hears; stands = plays.stands; refused_is = plays.refused_is }
  plays_after a b c reports total rest s (Err (Refused refusal)) all e plays =
      rw e (record { hears = hears_both h.hears a b c reports rest.reports all plays.0.hears; stands = plays.0.stands; refused_is = plays.0.refused_is }, plays.1)
  plays_after a b c reports total rest s (Err OutOfMemory) all e plays =
      rw e (breaks_both h.hears (λ next x. (c ≡ next) × IsLoud m x) a b reports rest.reports all plays)
  plays_after a b c reports total rest s (Err (Stopped stop)) all e plays =
      rw e (breaks_both h.hears (λ next x. h.stops next x c stop) a b reports rest.reports all plays)

-- ---- the steps of one process

module _ {S T C R : Type 0} (m : Transitions S T C R) (p : ℕ) where
  -- at most n steps of p, with the refusal of one of them
  abbrev pub all_steps : ℕ → S → Fragment (RunEvent T C) S R
  all_steps n s = record { reports = (steps m itself p n s).0; left = (steps m itself p n s).1; refused = refusal_in m p n s }

  -- where steps are still to be taken after these events
  abbrev pub StillTo : Fragment (RunEvent T C) S R → List (RunEvent T C) → ℕ → S → Type 0
  StillTo total reports n s = total ≡ preceded reports (all_steps n s)

  one_more : (n : ℕ) (s t : S) (x : T) → StepsFrom m s p x t → m.ends x ≡ false → all_steps (suc n) s ≡ preceded (Took p x ∷ []) (all_steps n t)
  one_more n s t x taken going =
      let goes : m.ends (m.step s p) ≡ false = rw (← taken.1) going in
      rw (taken.1, taken.2, taken.0, goes) refl

  one_last : (n : ℕ) (s t : S) (x : T) → StepsFrom m s p x t → m.ends x ≡ true → all_steps (suc n) s ≡ record { reports = Took p x ∷ []; left = t; refused = None }
  one_last n s t x taken ended =
      let ends : m.ends (m.step s p) ≡ true = rw (← taken.1) ended in
      rw (taken.1, taken.2, taken.0, ends) refl

  pub one_refused : (n : ℕ) (s : S) (e : R) → m.step_refusal s p ≡ Some e → all_steps (suc n) s ≡ record { reports = []; left = s; refused = Some e }
  one_refused n s e refused = rw refused refl

  pub still_more : (total : Fragment (RunEvent T C) S R) (reports : List (RunEvent T C)) (n k : ℕ) (s t : S) (x : T) → StillTo total reports n s → n ≡ suc k → StepsFrom m s p x t → m.ends x ≡ false
      → StillTo total (reports ++ Took p x ∷ []) k t
  still_more total reports n k s t x still count taken going =
      let rest = all_steps k t in
      still ∙ ap (λ (j : ℕ). preceded reports (all_steps j s)) count ∙ ap (preceded reports) (one_more k s t x taken going)
      ∙ ap (λ (xs : List (RunEvent T C)). record { reports = xs; left = rest.left; refused = rest.refused }) (sym (append_assoc reports (Took p x ∷ []) rest.reports))

  pub still_last : (total : Fragment (RunEvent T C) S R) (reports : List (RunEvent T C)) (n k : ℕ) (s t : S) (x : T) → StillTo total reports n s → n ≡ suc k → StepsFrom m s p x t → m.ends x ≡ true
      → total ≡ record { reports = reports ++ Took p x ∷ []; left = t; refused = None }
  still_last total reports n k s t x still count taken ended =
      still ∙ ap (λ (j : ℕ). preceded reports (all_steps j s)) count ∙ ap (preceded reports) (one_last k s t x taken ended)

  pub still_refused : (total : Fragment (RunEvent T C) S R) (reports : List (RunEvent T C)) (n k : ℕ) (s : S) (e : R) → StillTo total reports n s → n ≡ suc k → m.step_refusal s p ≡ Some e
      → total ≡ record { reports = reports; left = s; refused = Some e }
  still_refused total reports n k s e still count refused =
      still ∙ ap (λ (j : ℕ). preceded reports (all_steps j s)) count ∙ ap (preceded reports) (one_refused k s e refused)
      ∙ ap (λ (xs : List (RunEvent T C)). record { reports = xs; left = s; refused = Some e }) (append-nil reports)

  pub still_none : (total : Fragment (RunEvent T C) S R) (reports : List (RunEvent T C)) (n : ℕ) (s : S) → StillTo total reports n s → n ≡ 0
      → total ≡ record { reports = reports; left = s; refused = None }
  still_none total reports n s still none =
      still ∙ ap (λ (j : ℕ). preceded reports (all_steps j s)) none ∙ ap (λ (xs : List (RunEvent T C)). record { reports = xs; left = s; refused = None }) (append-nil reports)

  -- the next step's event is among those of all
  pub still_next : (total : Fragment (RunEvent T C) S R) (reports : List (RunEvent T C)) (n k : ℕ) (s t : S) (x : T) → StillTo total reports n s → n ≡ suc k → StepsFrom m s p x t
      → (after : List (RunEvent T C)) × (total.reports ≡ reports ++ Took p x ∷ after)
  still_next total reports n k s t x still count taken = by (m.ends x) refl
    where
      by : (b : Bool) → m.ends x ≡ b → (after : List (RunEvent T C)) × (total.reports ≡ reports ++ Took p x ∷ after)
      by true ended = ([], ap (λ (part : Fragment (RunEvent T C) S R). part.reports) (still_last total reports n k s t x still count taken ended))
      by false going =
          let rest = all_steps k t in
          (rest.reports, ap (λ (part : Fragment (RunEvent T C) S R). part.reports) (still_more total reports n k s t x still count taken going) ∙ append_assoc reports (Took p x ∷ []) rest.reports)

module _ {L S T C R Stop : Type 0} (m : Transitions S T C R) (h : Effects L (RunEvent T C) Stop) (p : ℕ) where
  -- some events of steps were heard, and these steps are still to be taken
  abbrev pub GoesOn : Fragment (RunEvent T C) S R → L → L → ℕ → S → Type 0
  GoesOn total before now n s = (reports : List (RunEvent T C)) × HearsAll h.hears before reports now × StillTo m p total reports n s

  pub goes_first : (n : ℕ) (before : L) (s : S) → GoesOn (all_steps m p n s) before before n s
  goes_first n before s = ([], refl, refl)

  pub goes_same : (total : Fragment (RunEvent T C) S R) (before now : L) (n k : ℕ) (s t : S) → GoesOn total before now n s → n ≡ k → t ≡ s → GoesOn total before now k t
  goes_same total before now n k s t on count same = rw (← count, same) on

  pub goes_unheard : (total : Fragment (RunEvent T C) S R) (before now : L) (n k : ℕ) (s t : S) → GoesOn total before now n s → n ≡ suc k → TakesUnheard m h now s p t
      → GoesOn total before now k t
  goes_unheard total before now n k s t on count unheard =
      let x = m.step s p in
      (on.0 ++ Took p x ∷ [], hears_more h.hears before now now on.0 (Took p x) on.1 unheard.2, still_more m p total on.0 n k s t x on.2 count unheard.0 unheard.1)

  pub goes_heard : (total : Fragment (RunEvent T C) S R) (before now next : L) (n k : ℕ) (s t : S) (x : T) → GoesOn total before now n s → n ≡ suc k → StepsFrom m s p x t → m.ends x ≡ false
      → h.hears now (Took p x) next → GoesOn total before next k t
  goes_heard total before now next n k s t x on count taken going hears =
      (on.0 ++ Took p x ∷ [], hears_more h.hears before now next on.0 (Took p x) on.1 hears, still_more m p total on.0 n k s t x on.2 count taken going)

  -- the last one
  pub ends_heard : (total : Fragment (RunEvent T C) S R) (before now next : L) (n k : ℕ) (s t : S) (x : T) → GoesOn total before now n s → n ≡ suc k → StepsFrom m s p x t → m.ends x ≡ true
      → h.hears now (Took p x) next → PlaysAll h before next total t None
  ends_heard total before now next n k s t x on count taken ended hears =
      rw (still_last m p total on.0 n k s t x on.2 count taken ended) record { hears = hears_more h.hears before now next on.0 (Took p x) on.1 hears; stands = refl; refused_is = refl }

  pub ends_none : (total : Fragment (RunEvent T C) S R) (before now : L) (n : ℕ) (s : S) → GoesOn total before now n s → n ≡ 0 → PlaysAll h before now total s None
  ends_none total before now n s on none =
      rw (still_none m p total on.0 n s on.2 none) record { hears = on.1; stands = refl; refused_is = refl }

  pub ends_refused : (total : Fragment (RunEvent T C) S R) (before now : L) (n k : ℕ) (s : S) (e : R) → GoesOn total before now n s → n ≡ suc k → m.step_refusal s p ≡ Some e
      → PlaysAll h before now total s (Some e)
  ends_refused total before now n k s e on count refused =
      rw (still_refused m p total on.0 n k s e on.2 count refused) record { hears = on.1; stands = refl; refused_is = refl }

  pub ends_stopped : (total : Fragment (RunEvent T C) S R) (before now next : L) (n k : ℕ) (s t : S) (x : T) (stop : Stop) → GoesOn total before now n s → n ≡ suc k → StepsFrom m s p x t
      → h.stops now (Took p x) next stop → StopsIn h before next total stop
  ends_stopped total before now next n k s t x stop on count taken stops =
      let more = still_next m p total on.0 n k s t x on.2 count taken in
      stops_next m h before now next on.0 more.0 (Took p x) total stop on.1 more.1 stops

  pub ends_short : (total : Fragment (RunEvent T C) S R) (before now : L) (n k : ℕ) (s : S) → GoesOn total before now n s → n ≡ suc k → IsShown m s p
      → RunsShort m h before now total
  ends_short total before now n k s on count shown =
      let x = m.step s p in
      let more = still_next m p total on.0 n k s (m.stepped s p) x on.2 count (shown.0, refl, refl) in
      ends_next m h before now on.0 more.0 (Took p x) total on.1 more.1 shown.1

  -- ---- the end of more steps, and of a line of steps

  -- all of these steps was played
  pub all_later : (n : ℕ) (before now : L) (s t : S) → PlaysAll h before now (all_steps m p n s) t None → PlaysAll h before now (later_steps m itself p n s) t None
  all_later n before now s t is = record { hears = is.hears; stands = is.stands; refused_is = ap (late m.refuses_late) is.refused_is ∙ not_late m.refuses_late }

  pub end_later : (n k : ℕ) (before now : L) (here s t : S) (e : R) (r : Result (Unit {0}) (PlayStop R Stop)) → GoesOn (all_steps m p n here) before now (suc k) s
      → ((e ≡ m.out_of_memory → ⊥) → m.step_refusal s p ≡ Some e) → (e ≡ m.out_of_memory → IsShown m s p) → t ≡ s → IsLateEnd m e r → Plays m h before now (later_steps m itself p n here) t r
  end_later n k before now here s t e (Ok x) on refused memory same ends =
      let is = ends_refused (all_steps m p n here) before now (suc k) k s e on refl (refused ends.1) in
      record { hears = is.hears; stands = same ∙ is.stands; refused_is = ap (λ b. late b (all_steps m p n here).refused) ends.0 }
  end_later n k before now here s t e (Err (Refused refusal)) on refused memory same ends =
      let is = ends_refused (all_steps m p n here) before now (suc k) k s e on refl (refused ends.2) in
      (record { hears = is.hears; stands = same ∙ is.stands; refused_is = ap (λ b. late b (all_steps m p n here).refused) ends.0 ∙ is.refused_is ∙ ap Some (sym ends.1) }, λ memory. ends.2 (sym ends.1 ∙ memory))
  end_later n k before now here s t e (Err OutOfMemory) on refused memory same ends = ends_short (all_steps m p n here) before now (suc k) k s on refl (memory ends)
  end_later n k before now here s t e (Err (Stopped stop)) on refused memory same ends = absurd ends

-- ---- one line after another

module _ {L S T C R Stop : Type 0} (m : Transitions S T C R) (h : Effects L (RunEvent T C) Stop) where
  -- the events of some lines were heard, and these lines are still to be played
  abbrev pub RunsOn : Fragment (RunEvent T C) S (ℕ × R) → L → L → ℕ → S → List Line → Type 0
  RunsOn run before now k s lines = (reports : List (RunEvent T C)) × HearsAll h.hears before reports now × (run ≡ preceded reports (run_on m itself k s lines))

  pub runs_first : (k : ℕ) (before : L) (s : S) (lines : List Line) → RunsOn (run_on m itself k s lines) before before k s lines
  runs_first k before s lines = ([], refl, refl)

  pub runs_more : (run : Fragment (RunEvent T C) S (ℕ × R)) (before now next : L) (k : ℕ) (s t : S) (line : Line) (lines rest : List Line) → RunsOn run before now k s lines → lines ≡ line ∷ rest
      → PlaysAll h now next (line_on m itself s line) t None → RunsOn run before next (k + 1) t rest
  runs_more run before now next k s t line lines rest on e played =
      let part = line_on m itself s line in
      let after = run_on m itself (k + 1) part.left rest in
      rw played.stands (
        on.0 ++ part.reports,
        hears_both h.hears before now next on.0 part.reports on.1 played.hears,
        on.2 ∙ rw e (rw played.refused_is (ap (λ (xs : List (RunEvent T C)). record { reports = xs; left = after.left; refused = after.refused }) (sym (append_assoc on.0 part.reports after.reports)))),
      )

  pub runs_end : (run : Fragment (RunEvent T C) S (ℕ × R)) (before now : L) (k : ℕ) (s : S) (lines : List Line) → RunsOn run before now k s lines → lines ≡ [] → PlaysAll h before now run s None
  runs_end run before now k s lines on none =
      let is : run ≡ record { reports = on.0; left = s; refused = None } =
      on.2 ∙ ap (λ (xs : List Line). preceded on.0 (run_on m itself k s xs)) none ∙ ap (λ (xs : List (RunEvent T C)). record { reports = xs; left = s; refused = None }) (append-nil on.0) in
      rw is record { hears = on.1; stands = refl; refused_is = refl }

  -- what a line reports is a part of what is reported from it on
  followed_reported : (k : ℕ) (part : Fragment (RunEvent T C) S R) (o : Option R) (rest : Fragment (RunEvent T C) S (ℕ × R)) → (after : List (RunEvent T C)) × ((fragment_after_line k part o rest).reports ≡ part.reports ++ after)
  followed_reported k part None rest = (rest.reports, refl)
  followed_reported k part (Some e) rest = ([], sym (append-nil part.reports))

  breaks_in_run : (at : L → RunEvent T C → Type 0) (run : Fragment (RunEvent T C) S (ℕ × R)) (before now : L) (k : ℕ) (s : S) (line : Line) (lines rest : List Line) → RunsOn run before now k s lines
      → lines ≡ line ∷ rest → BreaksOffAt h.hears at now (line_on m itself s line).reports → BreaksOffAt h.hears at before run.reports
  breaks_in_run at run before now k s line lines rest on e breaks =
      let part = line_on m itself s line in
      let after = followed_reported k part part.refused (run_on m itself (k + 1) part.left rest) in
      let whole : run.reports ≡ on.0 ++ (part.reports ++ after.0) = ap (λ (r : Fragment (RunEvent T C) S (ℕ × R)). r.reports) on.2 ∙ rw e (ap (λ (xs : List (RunEvent T C)). on.0 ++ xs) after.1) in
      rw whole (breaks_both h.hears at before now on.0 (part.reports ++ after.0) on.1 (breaks_wider h.hears at now part.reports after.0 breaks))

  pub runs_halt : (run : Fragment (RunEvent T C) S (ℕ × R)) (before now next : L) (k : ℕ) (s t : S) (line : Line) (lines rest : List Line) (stop : PlayStop R Stop) → RunsOn run before now k s lines
      → lines ≡ line ∷ rest → Plays {A = Unit {0}} m h now next (line_on m itself s line) t (Err stop) → PlaysOn {A = Unit {0}} m h before next run t (Err (k, stop))
  runs_halt run before now next k s t line lines rest (Refused refusal) on e plays =
      let part = line_on m itself s line in
      let after = run_on m itself (k + 1) part.left rest in
      let played = plays.0 in
      let is : run ≡ record { reports = on.0 ++ part.reports; left = part.left; refused = Some (k, refusal) } =
      on.2 ∙ ap (λ (xs : List Line). preceded on.0 (run_on m itself k s xs)) e ∙ ap (λ (o : Option R). preceded on.0 (fragment_after_line k part o after)) played.refused_is in
      (rw is record { hears = hears_both h.hears before now next on.0 part.reports on.1 played.hears; stands = played.stands; refused_is = refl }, plays.1)
  runs_halt run before now next k s t line lines rest OutOfMemory on e plays =
      breaks_in_run (λ l x. (next ≡ l) × IsLoud m x) run before now k s line lines rest on e plays
  runs_halt run before now next k s t line lines rest (Stopped stop) on e plays =
      breaks_in_run (λ l x. h.stops l x next stop) run before now k s line lines rest on e plays

-- ---- events, and what they report

-- a part of events, with what they report in their place
abbrev pub report_of : {E X S R : Type 0} → (E → List X) → Fragment E S R → Fragment X S R
report_of report part = record { reports = flat_map report part.reports; left = part.left; refused = part.refused }

module _ {S T C R X : Type 0} (m : Transitions S T C R) (report : RunEvent T C → List X) where
  pub steps_reported : (p n : ℕ) (s : S) → steps m report p n s ≡ (flat_map report (steps m itself p n s).0, (steps m itself p n s).1)
  steps_reported p zero s = refl
  steps_reported p (suc n) s =
      elim (cases_Bool (is_some (m.step_refusal s p))) [
        | inl refused ↦ rw refused refl
        | inr taken ↦
            elim (cases_Bool (m.ends (m.step s p))) [
              | inl ends ↦ rw (taken, ends) (ap (λ (xs : List X). (xs, m.stepped s p)) (sym (flat_map-cons report (Took p (m.step s p)) [])))
              | inr goes ↦
                  let rest = steps m itself p n (m.stepped s p) in
                  rw (taken, goes) (
                  ap (λ (more : List X × S). (report (Took p (m.step s p)) ++ more.0, more.1)) (steps_reported p n (m.stepped s p))
                  ∙ ap (λ (xs : List X). (xs, rest.1)) (sym (flat_map-cons report (Took p (m.step s p)) rest.0))
                  )
            ]
      ]

  pub crashes_reported : (p n : ℕ) (s : S) → crashes_in_a_row m report p n s ≡ (flat_map report (crashes_in_a_row m itself p n s).0, (crashes_in_a_row m itself p n s).1)
  unfolding crashes_in_a_row
  crashes_reported p zero s = refl
  crashes_reported p (suc n) s =
      elim (cases_Bool (is_some (m.crash_refusal s p))) [
        | inl refused ↦ rw refused refl
        | inr taken ↦
            let rest = crashes_in_a_row m itself (p + 1) n (m.crashed s p) in
            rw taken (
            ap (λ (more : List X × S). (report (Fell p (m.crash s p)) ++ more.0, more.1)) (crashes_reported (p + 1) n (m.crashed s p))
            ∙ ap (λ (xs : List X). (xs, rest.1)) (sym (flat_map-cons report (Fell p (m.crash s p)) rest.0))
            )
      ]

  pub line_reported : (s : S) (line : Line) → line_on m report s line ≡ report_of report (line_on m itself s line)
  line_reported s (Start p call) = by (m.start_refusal s p call)
    where
      by : (o : Option R) → unless o s [] (m.started s p call) ≡ report_of report (unless o s [] (m.started s p call))
      by None = refl
      by (Some e) = refl
  line_reported s (Step p n) =
      ap (λ (part : List X × S). record { reports = part.0; left = part.1; refused = first_or_late m.refuses_late (m.step_refusal s p) (refusal_in m p n s) }) (steps_reported p n s)
  line_reported s (Crash p) = by (m.crash_refusal s p)
    where
      one : RunEvent T C
      one = Fell p (m.crash s p)

      by : (o : Option R) → unless o s (report one) (m.crashed s p) ≡ report_of report (unless o s (itself one) (m.crashed s p))
      by None = ap (λ (xs : List X). record { reports = xs; left = m.crashed s p; refused = None }) (sym (flat_map-cons report one [] ∙ append-nil (report one)))
      by (Some e) = refl
  line_reported s CrashAll =
      ap (λ (part : List X × S). record { reports = part.0; left = part.1; refused = None }) (crashes_reported 0 64 s)

  followed_by : (k : ℕ) (part : Fragment (RunEvent T C) S R) (o : Option R) (rest : Fragment (RunEvent T C) S (ℕ × R))
      → fragment_after_line k (report_of report part) o (report_of report rest) ≡ report_of report (fragment_after_line k part o rest)
  followed_by k part None rest = ap (λ (xs : List X). record { reports = xs; left = rest.left; refused = rest.refused }) (sym (flat_map-append report part.reports rest.reports))
  followed_by k part (Some e) rest = refl

  pub run_reported : (k : ℕ) (s : S) (lines : List Line) → run_on m report k s lines ≡ report_of report (run_on m itself k s lines)
  run_reported k s [] = refl
  run_reported k s (line ∷ lines) =
      let part = line_on m itself s line in
      ap (λ (x : Fragment X S R). fragment_after_line k x x.refused (run_on m report (k + 1) x.left lines)) (line_reported s line)
      ∙ ap (fragment_after_line k (report_of report part) part.refused) (run_reported (k + 1) part.left lines)
      ∙ followed_by k part part.refused (run_on m itself (k + 1) part.left lines)

-- ---- a line of steps

module _ {L S T C R Stop : Type 0} (m : Transitions S T C R) (h : Effects L (RunEvent T C) Stop) (p : ℕ) where
  refused_at : (n k : ℕ) (s : S) (e : R) → n ≡ suc k → m.step_refusal s p ≡ Some e → steps_line m itself p n s ≡ record { reports = []; left = s; refused = Some e }
  refused_at n k s e count refused =
      ap (λ (j : ℕ). steps_line m itself p j s) count
      ∙ ap (λ (part : Fragment (RunEvent T C) S R). record { reports = part.reports; left = part.left; refused = first_or_late m.refuses_late (m.step_refusal s p) part.refused }) (one_refused m p k s e refused)
      ∙ ap (λ (o : Option R). record { reports = []; left = s; refused = first_or_late m.refuses_late o (Some e) }) refused
      ∙ ap (λ (o : Option R). record { reports = []; left = s; refused = o }) (first_refused m.refuses_late (Some e))

  -- its first step is taken
  taken_at : (n k : ℕ) (s t : S) (x : T) → n ≡ suc k → StepsFrom m s p x t
      → steps_line m itself p n s ≡ record { reports = (all_steps m p (suc k) s).reports; left = (all_steps m p (suc k) s).left; refused = late m.refuses_late (all_steps m p (suc k) s).refused }
  taken_at n k s t x count taken =
      let all = all_steps m p (suc k) s in
      ap (λ (j : ℕ). steps_line m itself p j s) count
      ∙ ap (λ (o : Option R). record { reports = all.reports; left = all.left; refused = o }) (first_taken m.refuses_late (m.step_refusal s p) all.refused taken.0)

  -- its first step is not taken
  pub line_halts : (n k : ℕ) (before : L) (s t : S) (e : R) (stop : PlayStop R Stop) → n ≡ suc k → ((e ≡ m.out_of_memory → ⊥) → m.step_refusal s p ≡ Some e) → (e ≡ m.out_of_memory → IsShown m s p)
      → t ≡ s → IsStopOf m e stop → Plays {A = Unit {0}} m h before before (steps_line m itself p n s) t (Err stop)
  line_halts n k before s t e (Refused refusal) count refused memory same halts =
      (rw (refused_at n k s e count (refused halts.1)) record { hears = refl; stands = same; refused_is = ap Some (sym halts.0) }, λ memory. halts.1 (sym halts.0 ∙ memory))
  line_halts n k before s t e OutOfMemory count refused memory same halts =
      ends_short m h p (all_steps m p n s) before before n k s (goes_first m h p n before s) count (memory halts)
  line_halts n k before s t e (Stopped stop) count refused memory same halts = absurd halts

  -- the listener stops at its first step
  pub line_stops_at : (n k : ℕ) (before next : L) (s t : S) (x : T) (stop : Stop) → n ≡ suc k → StepsFrom m s p x t → h.stops before (Took p x) next stop
      → StopsIn h before next (steps_line m itself p n s) stop
  line_stops_at n k before next s t x stop count taken stops =
      ends_stopped m h p (all_steps m p n s) before before next n k s t x stop (goes_first m h p n before s) count taken stops

  -- its first step is its last
  pub line_ends : (n k : ℕ) (before next : L) (s t : S) (x : T) → n ≡ suc k → StepsFrom m s p x t → m.ends x ≡ true → h.hears before (Took p x) next
      → PlaysAll h before next (steps_line m itself p n s) t None
  line_ends n k before next s t x count taken ended hears =
      rw (taken_at n k s t x count taken ∙ ap (λ (part : Fragment (RunEvent T C) S R). record { reports = part.reports; left = part.left; refused = late m.refuses_late part.refused }) (one_last m p k s t x taken ended))
      record { hears = (next, hears, refl); stands = refl; refused_is = not_late m.refuses_late }

  -- one step was played, and then the rest
  pub line_then : {A : Type 0} (n k : ℕ) (before next now : L) (s t u : S) (x : T) (r : Result A (PlayStop R Stop)) → n ≡ suc k → StepsFrom m s p x t → m.ends x ≡ false → h.hears before (Took p x) next
      → Plays m h next now (later_steps m itself p k t) u r → Plays m h before now (steps_line m itself p n s) u r
  line_then n k before next now s t u x r count taken going hears plays =
      plays_after m h before next now (Took p x ∷ []) (steps_line m itself p n s) (later_steps m itself p k t) u r (next, hears, refl)
      (taken_at n k s t x count taken ∙ ap (λ (part : Fragment (RunEvent T C) S R). record { reports = part.reports; left = part.left; refused = late m.refuses_late part.refused }) (one_more m p k s t x taken going)) plays

  -- a line of one step
  pub line_of_one : (n : ℕ) (before next : L) (s t : S) (x : T) → n ≡ 1 → StepsFrom m s p x t → h.hears before (Took p x) next
      → PlaysAll h before next (steps_line m itself p n s) t None
  line_of_one n before next s t x count taken hears = by (m.ends x) refl
    where
      by : (b : Bool) → m.ends x ≡ b → PlaysAll h before next (steps_line m itself p n s) t None
      by true ended = line_ends n 0 before next s t x count taken ended hears
      by false going = line_then {A = Unit {0}} n 0 before next next s t t x (Ok tt) count taken going hears record { hears = refl; stands = refl; refused_is = not_late m.refuses_late }

  -- ---- a crash

  pub crash_halts : (before : L) (s t : S) (e : R) (stop : PlayStop R Stop) → ((e ≡ m.out_of_memory → ⊥) → m.crash_refusal s p ≡ Some e) → (e ≡ m.out_of_memory → m.crash_refusal s p ≡ None)
      → t ≡ s → IsStopOf m e stop → Plays {A = Unit {0}} m h before before (crash_line m itself p s) t (Err stop)
  crash_halts before s t e (Refused refusal) refused memory same halts =
      (rw (refused halts.1) record { hears = refl; stands = same; refused_is = ap Some (sym halts.0) }, λ memory. halts.1 (sym halts.0 ∙ memory))
  crash_halts before s t e OutOfMemory refused memory same halts = rw (memory halts) (inl (refl, tt))
  crash_halts before s t e (Stopped stop) refused memory same halts = absurd halts

-- ---- the crashes of all processes

module _ {S T C R : Type 0} (m : Transitions S T C R) where
  one_crash : (p n : ℕ) (s t : S) (x : C) → m.crash_refusal s p ≡ None → x ≡ m.crash s p → t ≡ m.crashed s p
      → later_crashes m itself p (suc n) s ≡ preceded (Fell p x ∷ []) (later_crashes m itself (p + 1) n t)
  unfolding crashes_in_a_row
  one_crash p n s t x taken said left = rw (said, left, taken) refl

  crash_refused : (p n : ℕ) (s : S) (e : R) → m.crash_refusal s p ≡ Some e → later_crashes m itself p n s ≡ record { reports = []; left = s; refused = None }
  unfolding crashes_in_a_row
  crash_refused p zero s e refused = refl
  crash_refused p (suc n) s e refused = rw refused refl

  no_crash : (p : ℕ) (s : S) → later_crashes m itself p zero s ≡ record { reports = []; left = s; refused = None }
  unfolding crashes_in_a_row
  no_crash p s = refl

module _ {L S T C R Stop : Type 0} (m : Transitions S T C R) (h : Effects L (RunEvent T C) Stop) where
  -- some crashes were heard, and these are still to be made
  abbrev pub CrashesOn : Fragment (RunEvent T C) S R → L → L → ℕ → ℕ → S → Type 0
  CrashesOn total before now p n s = (reports : List (RunEvent T C)) × HearsAll h.hears before reports now × (total ≡ preceded reports (later_crashes m itself p n s))

  pub crashes_first : (p n : ℕ) (before : L) (s : S) → CrashesOn (later_crashes m itself p n s) before before p n s
  crashes_first p n before s = ([], refl, refl)

  -- the next crash is among those of all
  crash_next : (total : Fragment (RunEvent T C) S R) (reports : List (RunEvent T C)) (p n k : ℕ) (s t : S) (x : C) → total ≡ preceded reports (later_crashes m itself p n s) → n ≡ suc k
      → m.crash_refusal s p ≡ None → x ≡ m.crash s p → t ≡ m.crashed s p
      → total ≡ preceded (reports ++ Fell p x ∷ []) (later_crashes m itself (p + 1) k t)
  crash_next total reports p n k s t x still count taken said left =
      let rest = later_crashes m itself (p + 1) k t in
      still ∙ ap (λ (j : ℕ). preceded reports (later_crashes m itself p j s)) count ∙ ap (preceded reports) (one_crash m p k s t x taken said left)
      ∙ ap (λ (xs : List (RunEvent T C)). record { reports = xs; left = rest.left; refused = rest.refused }) (sym (append_assoc reports (Fell p x ∷ []) rest.reports))

  crash_reported : (total : Fragment (RunEvent T C) S R) (reports : List (RunEvent T C)) (p n k : ℕ) (s t : S) (x : C) → total ≡ preceded reports (later_crashes m itself p n s) → n ≡ suc k
      → m.crash_refusal s p ≡ None → x ≡ m.crash s p → t ≡ m.crashed s p
      → (after : List (RunEvent T C)) × (total.reports ≡ reports ++ Fell p x ∷ after)
  crash_reported total reports p n k s t x still count taken said left =
      let rest = later_crashes m itself (p + 1) k t in
      (rest.reports, ap (λ (part : Fragment (RunEvent T C) S R). part.reports) (crash_next total reports p n k s t x still count taken said left) ∙ append_assoc reports (Fell p x ∷ []) rest.reports)

  pub crashes_heard : (total : Fragment (RunEvent T C) S R) (before now next : L) (p n k : ℕ) (s t : S) (x : C) → CrashesOn total before now p n s → n ≡ suc k
      → m.crash_refusal s p ≡ None → x ≡ m.crash s p → t ≡ m.crashed s p → h.hears now (Fell p x) next → CrashesOn total before next (p + 1) k t
  crashes_heard total before now next p n k s t x on count taken said left hears =
      (on.0 ++ Fell p x ∷ [], hears_more h.hears before now next on.0 (Fell p x) on.1 hears, crash_next total on.0 p n k s t x on.2 count taken said left)

  -- the listener stops at the next crash
  pub crashes_stopped : (total : Fragment (RunEvent T C) S R) (before now next : L) (p n k : ℕ) (s t : S) (x : C) (stop : Stop) → CrashesOn total before now p n s → n ≡ suc k
      → m.crash_refusal s p ≡ None → x ≡ m.crash s p → t ≡ m.crashed s p → h.stops now (Fell p x) next stop → StopsIn h before next total stop
  crashes_stopped total before now next p n k s t x stop on count taken said left stops =
      let more = crash_reported total on.0 p n k s t x on.2 count taken said left in
      stops_next m h before now next on.0 more.0 (Fell p x) total stop on.1 more.1 stops

  -- all processes have crashed
  pub crashes_end : (total : Fragment (RunEvent T C) S R) (before now : L) (p n : ℕ) (s : S) → CrashesOn total before now p n s → n ≡ 0 → PlaysAll h before now total s None
  crashes_end total before now p n s on none =
      let is = on.2 ∙ ap (λ (j : ℕ). preceded on.0 (later_crashes m itself p j s)) none ∙ ap (preceded on.0) (no_crash m p s)
      ∙ ap (λ (xs : List (RunEvent T C)). record { reports = xs; left = s; refused = None }) (append-nil on.0) in
      rw is record { hears = on.1; stands = refl; refused_is = refl }

  -- there is no next process, or no memory for its crash
  pub crashes_halt : (total : Fragment (RunEvent T C) S R) (before now : L) (p n k : ℕ) (s t : S) (e : R) (r : Result (Unit {0}) (PlayStop R Stop)) → CrashesOn total before now p n s → n ≡ suc k
      → ((e ≡ m.out_of_memory → ⊥) → m.crash_refusal s p ≡ Some e) → (e ≡ m.out_of_memory → m.crash_refusal s p ≡ None) → t ≡ s → IsLastCrash m e r → Plays m h before now total t r
  crashes_halt total before now p n k s t e (Ok x) on count refused memory same ends =
      let is = on.2 ∙ ap (preceded on.0) (crash_refused m p n s e (refused ends)) ∙ ap (λ (xs : List (RunEvent T C)). record { reports = xs; left = s; refused = None }) (append-nil on.0) in
      rw is record { hears = on.1; stands = same; refused_is = refl }
  crashes_halt total before now p n k s t e (Err OutOfMemory) on count refused memory same ends =
      let more = crash_reported total on.0 p n k s (m.crashed s p) (m.crash s p) on.2 count (memory ends) refl refl in
      ends_next m h before now on.0 more.0 (Fell p (m.crash s p)) total on.1 more.1 tt
  crashes_halt total before now p n k s t e (Err (Refused refusal)) on count refused memory same ends = absurd ends
  crashes_halt total before now p n k s t e (Err (Stopped stop)) on count refused memory same ends = absurd ends
