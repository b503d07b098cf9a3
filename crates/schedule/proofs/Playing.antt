-- What a replay writes of the events that it hears.
use Rattle.std.proofs.Common.{◌≡◌, ℕ, true, false, is_some, not, ◌&&◌, ◌+◌, List, [], ◌∷◌, ◌++◌, length, Option, Some, None, Result, Ok, Err, OnOk, IfErr, refl, sym, ap, ◌∙◌, subst, append_assoc, ◌⊎◌, inl, inr, arith, append-nil, length-append, codes}
use Rattle.schedule.proofs.ReplaysCommon.{join_with_byte, Refusal, number_of, Deed, Answer, Stepped, Line, words_of_deed, Hears, RunningJudge, ReplayFault, Tape, Writes, BreaksOff, Ends, IsRefused, Runs}
use Rattle.schedule.proofs.ReplaysCommon.{ReplayStops, Tells, Stops, refused_at, fault_at, reports_text, line_of_report, Part, deeds_of, LockReport, Did, reports_of, reports_by, transitions_of, Behaviour, Answered, did}
use Rattle.schedule.proofs.ReplaysCommon.{answer_reports, steps, line_on, run_on, line_of}
use Rattle.std.specs.Fmt.{decimal}
use Rattle.std.specs.List.{flat_map}
use Rattle.std.proofs.lemmas.List.Concat.{flat_map-append, flat_map-cons}
use Rattle.rmecore.specs.declared.refusal.Refusal.TheVariants as refusals
use Rattle.schedule.specs.declared.player.play_stop.PlayStop.{PlayStop}
use Rattle.schedule.specs.declared.player.play_stop.PlayStop.TheVariants as play_stops
use Rattle.schedule.specs.declared.replays.replay_stop.ReplayStop.{ReplayStop}
use Rattle.schedule.specs.declared.replays.replay_stop.ReplayStop.TheVariants.{Write, OutOfMemory}
use Rattle.schedule.specs.declared.replays.report_writer.ReportWriter.{ReportWriter}
use Rattle.schedule.specs.Answers.{words_of_answer}
use Rattle.schedule.specs.Fragments.{itself, run_on as run_by}
use Rattle.schedule.specs.Effects.{HearsAll, BreaksOffAt}
use Rattle.schedule.specs.Plays.{PlaysOn}
use Rattle.schedule.specs.ReportWriters.{judge_of, SharesPlaces, ReportsEvent, StopsAt, report_effects}
use Rattle.schedule.specs.Transitions.{RunEvent, Took, Fell, TakesSilently, IsLoud}
use Rattle.schedule.proofs.Fragments.{run_reported}
use Rattle.schedule.proofs.Heard.{hears_none, hears_both}
use Rattle.schedule.specs.Tapes.{Begins}

answer_is_no_deed : (p : ℕ) (answer : Option Answer) → deeds_of (answer_reports p answer) ≡ []
answer_is_no_deed p None = refl
answer_is_no_deed p (Some answer) = refl

pub deeds_reported : (p : ℕ) (deed : Option Deed) (answer : Option Answer) → deeds_of (reports_of p deed answer) ≡ deeds_of (did deed)
deeds_reported p None answer = answer_is_no_deed p answer
deeds_reported p (Some deed) answer = ap (λ (ds : List Deed). deed ∷ ds) (answer_is_no_deed p answer)

pub tells : {A : Type 0} (before now : Tape) (running_judge heard : RunningJudge) (reports : List LockReport) (r : Result A ReplayStop)
    → OnOk r (Writes before now (reports_text reports)) → IfErr r (λ replay_stop. ReplayStops before now (reports_text reports) replay_stop)
    → Hears running_judge (deeds_of reports) heard → Tells before now running_judge heard reports r
tells before now running_judge heard reports (Ok x) written halted hears = (written, hears)
tells before now running_judge heard reports (Err replay_stop) written halted hears = halted

-- ---- one part after another

pub reported_append : (a b : List LockReport) → reports_text (a ++ b) ≡ reports_text a ++ reports_text b
reported_append a b = flat_map-append line_of_report a b

pub deeds_append : (a b : List LockReport) → deeds_of (a ++ b) ≡ deeds_of a ++ deeds_of b
deeds_append [] b = refl
deeds_append (Did deed ∷ a) b = ap (λ (ds : List Deed). deed ∷ ds) (deeds_append a b)
deeds_append (Answered p answer ∷ a) b = deeds_append a b

-- what was reported so far is written and judged
pub record Played (before now : Tape) (running_judge heard : RunningJudge) (reports : List LockReport) : Type 0 where
  pub writes : Writes before now (reports_text reports)
  pub hears : Hears running_judge (deeds_of reports) heard

pub played_none : (t : Tape) (b : RunningJudge) → Played t t b b []
played_none t b = record { writes = record { taken = sym (append-nil t.taken); fine = refl }; hears = hears_none b }

pub played_more : (t u v : Tape) (a b c : RunningJudge) (reports more : List LockReport) → Played t u a b reports → Writes u v (reports_text more) → Hears b (deeds_of more) c → Played t v a c (reports ++ more)
played_more t u v a b c reports more so_far writes hears =
    record {
      writes = record {
        taken = writes.taken ∙ ap (λ (xs : List ℕ). xs ++ reports_text more) so_far.writes.taken ∙ append_assoc t.taken (reports_text reports) (reports_text more)
            ∙ ap (λ (xs : List ℕ). t.taken ++ xs) (sym (reported_append reports more));
        fine = writes.fine ∙ so_far.writes.fine;
      };
      hears = rw (deeds_append reports more) (hears_both a b c (deeds_of reports) (deeds_of more) so_far.hears hears);
    }

-- a beginning of what is still to be written
pub begins_further : (old mid new text more : List ℕ) → mid ≡ old ++ text → Begins mid new more → Begins old new (text ++ more)
begins_further old mid new text more e begins =
    let w = begins.1 in (
      begins.0,
      record {
        front = text ++ w.front;
        written = w.written ∙ ap (λ (xs : List ℕ). xs ++ w.front) e ∙ append_assoc old text w.front;
        left = ap (λ (xs : List ℕ). text ++ xs) w.left ∙ sym (append_assoc text w.front begins.0);
      },
    )

pub begins_wider : (old new text more : List ℕ) → Begins old new text → Begins old new (text ++ more)
begins_wider old new text more begins =
    let w = begins.1 in (
      begins.0 ++ more,
      record {
        front = w.front;
        written = w.written;
        left = ap (λ (xs : List ℕ). xs ++ more) w.left ∙ append_assoc w.front begins.0 more;
      },
    )

pub begins_nothing : (old text : List ℕ) → Begins old old text
begins_nothing old text = (text, record { front = []; written = sym (append-nil old); left = refl })

pub breaks_further : (old mid new text more : List ℕ) → mid ≡ old ++ text → BreaksOff mid new more → BreaksOff old new (text ++ more)
unfolding begins_further
breaks_further old mid new text more e breaks =
    let w = begins_further old mid new text more e (breaks.0, breaks.1) in (w.0, w.1, breaks.2)

pub append_none : (xs ys : List ℕ) → xs ++ ys ≡ [] → xs ≡ []
append_none [] ys e = refl
append_none (x ∷ xs) ys e = absurd cc

pub none_after : (xs ys : List ℕ) → xs ++ ys ≡ [] → ys ≡ []
none_after [] ys e = e
none_after (x ∷ xs) ys e = absurd cc

pub breaks_wider : (old new text more : List ℕ) → BreaksOff old new text → BreaksOff old new (text ++ more)
unfolding begins_wider
breaks_wider old new text more breaks =
    let w = begins_wider old new text more (breaks.0, breaks.1) in (w.0, w.1, λ none. breaks.2 (append_none breaks.0 more none))

pub breaks_nothing : (old text : List ℕ) → (text ≡ [] → ⊥) → BreaksOff old old text
unfolding begins_nothing
breaks_nothing old text some = let w = begins_nothing old text in (w.0, w.1, some)

pub line_some : (words : List (List ℕ)) → line_of words ≡ [] → ⊥
line_some words e = absurd (omega (arith, length-append (join_with_byte 32 words) (10 ∷ []), ap length e))

line_reported : (t : LockReport) → line_of_report t ≡ [] → ⊥
line_reported (Did deed) = line_some (words_of_deed deed)
line_reported (Answered p answer) = line_some (codes "answer" ∷ decimal p ∷ words_of_answer answer)

-- the text of a report of something is not empty
pub reported_some : (t : LockReport) (reports : List LockReport) → reports_text (t ∷ reports) ≡ [] → ⊥
reported_some t reports e = line_reported t (append_none (line_of_report t) (reports_text reports) e)

-- nor is that of an event that is not silent
step_some : (p : ℕ) (deed : Option Deed) (answer : Option Answer) → not (is_some deed) && not (is_some answer) ≡ false → reports_text (reports_of p deed answer) ≡ [] → ⊥
step_some p None None is = absurd cc
step_some p None (Some answer) is = reported_some (Answered p answer) []
step_some p (Some deed) answer is = reported_some (Did deed) (answer_reports p answer)

event_some : {S : Type 0} (b : Behaviour S) (event : RunEvent Stepped Deed) → IsLoud (transitions_of b) event → reports_text (reports_by event) ≡ [] → ⊥
event_some b (Took p step) loud = step_some p step.deed step.answer loud
event_some b (Fell p deed) loud = reported_some (Did deed) []

-- what events report
abbrev pub reports_in : List (RunEvent Stepped Deed) → List LockReport
reports_in events = flat_map reports_by events

-- a refusal without a number is out of memory
pub unnumbered : (e : Refusal) → number_of e ≡ None → e ≡ refusals.OutOfMemory
unnumbered refusals.OutOfMemory is = refl
unnumbered _ is = absurd cc

-- the answer of a replay
abbrev pub faults_of : Result (Unit {0}) (ℕ × PlayStop Refusal ReplayStop) → Result (Unit {0}) ReplayFault
faults_of (Ok x) = Ok x
faults_of (Err stop) = Err (fault_at stop.0 stop.1)

-- ---- what is written of a part of a run

-- not all is written of what is reported after this
stops_further : (t u v : Tape) (text more : List ℕ) (stop : ReplayStop) → Writes t u text → ReplayStops u v more stop → ReplayStops t v (text ++ more) stop
stops_further t u v text more Write writes h = (begins_further t.taken u.taken v.taken text more writes.taken h.0, rw (← writes.fine) h.1)
stops_further t u v text more OutOfMemory writes h = (breaks_further t.taken u.taken v.taken text more writes.taken h.0, rw (← writes.fine) h.1)

stops_wider : (t u : Tape) (text more : List ℕ) (stop : ReplayStop) → ReplayStops t u text stop → ReplayStops t u (text ++ more) stop
stops_wider t u text more Write h = (begins_wider t.taken u.taken text more h.0, h.1)
stops_wider t u text more OutOfMemory h = (breaks_wider t.taken u.taken text more h.0, h.1)

same_as : {W : Type 0} (a b c : ReportWriter W) → SharesPlaces a b → SharesPlaces b c → SharesPlaces a c
same_as a b c one more = record { judge = more.judge ∙ one.judge; reporter = more.reporter ∙ one.reporter; w = more.w ∙ one.w }

events_append : (event : RunEvent Stepped Deed) (events : List (RunEvent Stepped Deed)) → reports_text (reports_in (event ∷ events)) ≡ reports_text (reports_by event) ++ reports_text (reports_in events)
events_append event events = ap reports_text (flat_map-cons reports_by event events) ∙ reported_append (reports_by event) (reports_in events)

module _ {S W : Type 0} (b : Behaviour S) (tape : W → Tape) where
  -- all events were heard
  pub all_heard : (first now : ReportWriter W) (events : List (RunEvent Stepped Deed)) → HearsAll (ReportsEvent tape) first events now
      → SharesPlaces first now × Played (tape first.w.now) (tape now.w.now) (judge_of first) (judge_of now) (reports_in events)
  all_heard first now [] same = rw same (record { judge = refl; reporter = refl; w = refl }, played_none (tape first.w.now) (judge_of first))
  all_heard first now (event ∷ events) all =
      let next = all.0 in
      let one = all.1 in
      let more = all_heard next now events all.2 in
      let start : Played (tape first.w.now) (tape next.w.now) (judge_of first) (judge_of next) (reports_by event) = record { writes = one.writes; hears = one.hears } in (
        same_as first next now one.same more.0,
        subst (Played (tape first.w.now) (tape now.w.now) (judge_of first) (judge_of now)) (sym (flat_map-cons reports_by event events))
            (played_more _ _ _ _ _ _ (reports_by event) (reports_in events) start more.1.writes more.1.hears),
      )

  -- some events were heard, and then this ends it
  ends_in : (at : ReportWriter W → RunEvent Stepped Deed → Type 0) (now : ReportWriter W) (stop : ReplayStop)
      → ((next : ReportWriter W) (event : RunEvent Stepped Deed) → at next event → SharesPlaces next now × ReplayStops (tape next.w.now) (tape now.w.now) (reports_text (reports_by event)) stop)
      → (first : ReportWriter W) (events : List (RunEvent Stepped Deed)) → BreaksOffAt (ReportsEvent tape) at first events
      → SharesPlaces first now × ReplayStops (tape first.w.now) (tape now.w.now) (reports_text (reports_in events)) stop
  ends_in at now stop last first [] breaks = absurd breaks
  ends_in at now stop last first (event ∷ events) (inl here) =
      let end = last first event here in
      (end.0, rw (events_append event events) (stops_wider _ _ (reports_text (reports_by event)) (reports_text (reports_in events)) stop end.1))
  ends_in at now stop last first (event ∷ events) (inr later) =
      let one = later.1 in
      let end = ends_in at now stop last later.0 events later.2 in
      (same_as first later.0 now one.same end.0, rw (events_append event events) (stops_further _ _ _ (reports_text (reports_by event)) (reports_text (reports_in events)) stop one.writes end.1))

  pub stopped_in : (first now : ReportWriter W) (events : List (RunEvent Stepped Deed)) (stop : ReplayStop) → BreaksOffAt (ReportsEvent tape) (λ next event. StopsAt tape next event now stop) first events
      → SharesPlaces first now × ReplayStops (tape first.w.now) (tape now.w.now) (reports_text (reports_in events)) stop
  stopped_in first now events stop breaks = ends_in (λ next event. StopsAt tape next event now stop) now stop (λ next event at. (at.same, at.stops)) first events breaks

  pub short_in : (first now : ReportWriter W) (events : List (RunEvent Stepped Deed)) → BreaksOffAt (ReportsEvent tape) (λ next event. (now ≡ next) × IsLoud (transitions_of b) event) first events
      → SharesPlaces first now × ReplayStops (tape first.w.now) (tape now.w.now) (reports_text (reports_in events)) OutOfMemory
  short_in first now events breaks =
      ends_in (λ next event. (now ≡ next) × IsLoud (transitions_of b) event) now OutOfMemory
      (λ next event at. rw (at.0) (record { judge = refl; reporter = refl; w = refl }, (breaks_nothing (tape next.w.now).taken (reports_text (reports_by event)) (event_some b event at.1), refl)))
      first events breaks

  -- ---- the lines of a run

  numbered_at : (before now : Tape) (a c : RunningJudge) (run : Part S (ℕ × Refusal)) (k : ℕ) (refusal : Refusal) (n : Option ℕ) (s : S) → number_of refusal ≡ n → (refusal ≡ refusals.OutOfMemory → ⊥)
      → Played before now a c run.reports → run.refused ≡ Some (k, refusal) → s ≡ run.left → Ends before now run (refused_at k n) × (IsRefused (refused_at k n) → Stops a c run.reports run.left s)
  numbered_at before now a c run k refusal None s is some played refused stands = absurd (some (unnumbered refusal is))
  numbered_at before now a c run k refusal (Some number) s is some played refused stands =
      ((played.writes, (refusal, refused, is)), λ yes. record { hears = played.hears; stands = stands })

  -- the run of events, as the run of what they report
  pub run_of_reports : (first now : ReportWriter W) (k : ℕ) (s t : S) (lines : List Line) (r : Result (Unit {0}) (ℕ × PlayStop Refusal ReplayStop))
      → PlaysOn (transitions_of b) (report_effects tape) first now (run_by (transitions_of b) itself k s lines) t r
      → SharesPlaces first now × Runs (tape first.w.now) (tape now.w.now) (judge_of first) (judge_of now) (run_on b k s lines) t (faults_of r)
  unfolding run_on line_on steps
  run_of_reports first now k s t lines (Ok x) is =
      let same = run_reported (transitions_of b) reports_by k s lines in
      let heard = all_heard first now _ is.hears in
      (heard.0, rw same (heard.1.writes, heard.1.hears, is.refused_is, is.stands))
  run_of_reports first now k s t lines (Err (line, play_stops.Refused refusal)) is =
      let same = run_reported (transitions_of b) reports_by k s lines in
      let heard = all_heard first now _ is.0.hears in
      (heard.0, rw same (numbered_at _ _ _ _ _ line refusal (number_of refusal) t refl is.1 heard.1 is.0.refused_is is.0.stands))
  run_of_reports first now k s t lines (Err (line, play_stops.OutOfMemory)) is =
      let same = run_reported (transitions_of b) reports_by k s lines in
      let end = short_in first now _ is in
      (end.0, rw same (end.1, λ no. absurd no))
  run_of_reports first now k s t lines (Err (line, play_stops.Stopped Write)) is =
      let same = run_reported (transitions_of b) reports_by k s lines in
      let end = stopped_in first now _ Write is in
      (end.0, rw same (end.1, λ no. absurd no))
  run_of_reports first now k s t lines (Err (line, play_stops.Stopped OutOfMemory)) is =
      let same = run_reported (transitions_of b) reports_by k s lines in
      let end = stopped_in first now _ OutOfMemory is in
      (end.0, rw same (end.1, λ no. absurd no))

-- a step that reports nothing
pub silently : {S : Type 0} (b : Behaviour S) (s t : S) (p : ℕ) → b.advance_refusal s p ≡ None → ((b.stepped s p).deed ≡ None) × ((b.stepped s p).answer ≡ None) → t ≡ b.advanced s p
    → TakesSilently (transitions_of b) s p t
silently b s t p may silent left = ((may, refl, left), rw (silent.0, silent.1) refl, rw silent.1 refl)
