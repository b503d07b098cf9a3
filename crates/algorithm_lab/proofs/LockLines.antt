-- The lines of a schedule on the text and on the lock: the same is reported, the same is refused, and the same words are left.
use Rattle.std.proofs.Common.{◌≡◌, ℕ, zero, suc, ◌+◌, ◌^◌, ◌<◌, ◌≤◌, nat_lt, Bool, true, false, if◌then◌else◌, List, [], ◌∷◌, ◌++◌, All, map, Option, Some, None, IsSome, IfSome, is_some, Result, Ok, Err, refl, sym, ap, ◌∙◌, subst, inl, inr, arith, append-nil}
use Rattle.std.specs.Prelude.{codes, option_map, slice_get, string_bytes, String}
use Rattle.std.specs.Fmt.{decimal}
use Rattle.std.specs.declared.alloc.Global.{Global}
use Rattle.std.proofs.lemmas.Bool.{cases_lt, lt-ltb, le-ltb}
use Rattle.std.proofs.lemmas.Grind.{flat_map-append}
use Rattle.std.proofs.lemmas.List.{map-append}
use Rattle.std.proofs.lemmas.List.Elements.{All-head, All-tail}
use Rattle.std.proofs.lemmas.List.FromFn.{get_or-map-range_with_len}
use Rattle.rmecore.specs.AbstractLock.{Abstract, nobody}
use Rattle.rmecore.specs.Machine.{access, kind_of, word_of, answer}
use Rattle.rmecore.specs.Place.{Place, Starts, Crashes, Steps}
use Rattle.rmecore.specs.Refused.{start_refusal, number_of}
use Rattle.rmecore.specs.Simulated.{zeros, own_at}
use Rattle.rmecore.specs.World.{World, at_rest, read, after, step_deed}
use Rattle.rmecore.specs.declared.access.Access.{Access}
use Rattle.rmecore.specs.declared.core_done.CoreDone.{CoreDone}
use Rattle.rmecore.specs.declared.core_done.CoreDone.TheVariants.{In, InAgain, Spent, Out, Found as Finds, Withdrawn}
use Rattle.rmecore.specs.declared.found.Found.TheVariants.{Idle, Left, Doorway, Waiting, Inside}
use Rattle.rmecore.specs.declared.outer.Outer.{Outer as LockDeed}
use Rattle.rmecore.specs.declared.outer.Outer.TheVariants as outers
use Rattle.rmecore.specs.declared.phase.Phase.{Phase}
use Rattle.rmecore.specs.declared.refusal.Refusal.{Refusal}
use Rattle.rmecore.specs.declared.refusal.Refusal.TheVariants.{NoSuchProcess, NothingToDo}
use Rattle.rmecore.proofs.Invariant.{put_same}
use Rattle.redomail.specs.declared.deed.Deed.TheVariants.{Outer}
use Rattle.schedule.proofs.Fragments.{preceded}
use Rattle.schedule.specs.Fragments.{crashes_in_a_row, fragment_after_line, unless as text_unless}
use Rattle.schedule.specs.Transitions.{Fell}
use Rattle.schedule.specs.Reports.{line_of_report as lock_line, reports_text as lock_text}
use Rattle.schedule.specs.Runs.{Part as LockRun, LockReport, Did as LockDid, Answered as LockAnswered, did, answer_reports as lock_answered, reports_by as lock_reports_by, reports_of, transitions_of, unless as lock_unless, steps as lock_steps, line_on as lock_line_on, run_on as lock_run_on}
use Rattle.schedule.specs.declared.lines.line.Line.{Line}
use Rattle.schedule.specs.declared.lines.line.Line.TheVariants as lines
use Rattle.algorithms.specs.FirstWords.{from_zeros}
use Rattle.algorithms.specs.declared.algorithm.Algorithm.{Algorithm}
use Rattle.algorithms.specs.declared.algorithm.AlgorithmCall.{AlgorithmCall}
use Rattle.algorithms.specs.declared.process.AlgorithmProcess.{AlgorithmProcess}
use Rattle.algorithm_lab.specs.Bakery.{IsBakery, answers}
use Rattle.algorithm_lab.specs.LockLines.{IsOfLock, answer_of, lock_reported, call_refusal, lock_world_after_start as lock_started, step_refusal, value_of, lock_step_report, lock_world_after_step, if_there, image_of, lock_behaviour, refusal_with_number, SameRun}
use Rattle.algorithm_lab.specs.Monitors.{MonitorState, EventPart, answer_reports, first_monitor, left_by, part_of_start, refusal_by, start_on, step_on, crash_on}
use Rattle.algorithm_lab.specs.Moves.{MoveResult, Tells, Refuses, answer_number, deed_report, core_call, refused_outcome, unless, moved_by, SameWords}
use Rattle.algorithm_lab.specs.Refusals.{number_of as number_of_run}
use Rattle.algorithm_lab.specs.Reports.{words_of_text, words_of_answer, line_of_report, reports_text, words_text}
use Rattle.algorithm_lab.specs.Runs.{AlgorithmRun, call_of, event_reports, monitor_transitions, start_by, line_on, run_on}
use Rattle.algorithm_lab.specs.declared.run_refusal.RunRefusal.{RunRefusal}
use Rattle.algorithm_lab.specs.declared.run_report.TextReport.{TextReport}
use Rattle.algorithm_lab.specs.declared.run_report.TextReport.TheVariants.{Did, Answered}
use Rattle.algorithm_lab.proofs.Runs.{part_run, steps, after_step, line_of_start, line_of_crash, first_step}
use Rattle.algorithm_lab.proofs.LockGoesOn.{GoesOn, goes_on}
use Rattle.algorithm_lab.proofs.BakeryWordLines.{end_lines}
use Rattle.algorithm_lab.proofs.BakeryWorlds.{state, Alike, Matches, StepOf, start_matches, step_of, step_gone, crash_matches, same_words, first_alike, first_is}

-- ---- reports

-- a text among these answers
record HasText (all : List (String Global)) (at : ℕ) (text : List ℕ) : Type 0 where
  string : String Global
  there : slice_get all at ≡ Some string
  is : string_bytes string ≡ text

mapped_text : (all : List (String Global)) (at : ℕ) (text : List ℕ) → slice_get (map string_bytes all) at ≡ Some text → HasText all at text
mapped_text [] at text e = cc
mapped_text (s ∷ all) zero text e = record { string = s; there = refl; is = cc }
mapped_text (s ∷ all) (suc at) text e = let rest = mapped_text all at text e in record { string = rest.string; there = rest.there; is = rest.is }

-- the line of an answer with this text
report_line : (a : Algorithm) → IsBakery a → (p at : ℕ) (text : List ℕ) → slice_get answers at ≡ Some text → line_of_report a (Answered p at) ≡ codes "answer" ++ 32 ∷ decimal p ++ 32 ∷ words_of_text text ++ 10 ∷ []
report_line a b p at text e =
    let h = mapped_text a.answers.items at text (ap (λ l. slice_get l at) b.answers ∙ e) in
    ap (λ o. codes "answer" ++ 32 ∷ decimal p ++ 32 ∷ words_of_answer o ++ 10 ∷ []) h.there ∙ ap (λ t. codes "answer" ++ 32 ∷ decimal p ++ 32 ∷ words_of_text t ++ 10 ∷ []) h.is

pub one_answer : (a : Algorithm) → IsBakery a → (p : ℕ) (done : CoreDone) → line_of_report a (Answered p (answer_number done)) ≡ lock_line (LockAnswered p (answer_of done))
one_answer a b p InAgain = report_line a b p 0 (codes "owner-died") refl
one_answer a b p Spent = report_line a b p 1 (codes "numbers-spent") refl
one_answer a b p In = report_line a b p 2 (codes "clean") refl
one_answer a b p Out = report_line a b p 3 (codes "unlocked") refl
one_answer a b p (Finds Doorway) = report_line a b p 4 (codes "found doorway") refl
one_answer a b p (Finds Waiting) = report_line a b p 5 (codes "found waiting") refl
one_answer a b p (Finds Inside) = report_line a b p 6 (codes "found inside") refl
one_answer a b p (Finds Idle) = report_line a b p 7 (codes "found idle") refl
one_answer a b p (Finds Left) = report_line a b p 8 (codes "found left") refl
one_answer a b p Withdrawn = report_line a b p 9 (codes "withdrawn") refl

same_answer : (p : ℕ) (done : CoreDone) → lock_reported (Answered p (answer_number done)) ≡ LockAnswered p (answer_of done)
same_answer p InAgain = refl
same_answer p Spent = refl
same_answer p In = refl
same_answer p Out = refl
same_answer p (Finds Doorway) = refl
same_answer p (Finds Waiting) = refl
same_answer p (Finds Inside) = refl
same_answer p (Finds Idle) = refl
same_answer p (Finds Left) = refl
same_answer p Withdrawn = refl

-- the same is reported, in lines of the same bytes
pub record SameReports (a : Algorithm) (reports : List TextReport) (lock : List LockReport) : Type 0 where
  pub items : map lock_reported reports ≡ lock
  pub text : reports_text a reports ≡ lock_text lock

none_reported : (a : Algorithm) → SameReports a [] []
none_reported a = record { items = refl; text = refl }

reported_both : (a : Algorithm) (reports more : List TextReport) (lock lock_more : List LockReport) → SameReports a reports lock → SameReports a more lock_more → SameReports a (reports ++ more) (lock ++ lock_more)
reported_both a reports more lock lock_more first later = record {
  items = map-append lock_reported reports more ∙ ap (λ l. l ++ map lock_reported more) first.items ∙ ap (λ l. lock ++ l) later.items;
  text = flat_map-append (line_of_report a) reports more ∙ ap (λ l. l ++ reports_text a more) first.text ∙ ap (λ l. lock_text lock ++ l) later.text ∙ sym (flat_map-append lock_line lock lock_more);
}

deed_same : (a : Algorithm) (outer : Option LockDeed) → SameReports a (deed_report outer) (did (option_map Outer outer))
deed_same a None = none_reported a
deed_same a (Some d) = record { items = refl; text = refl }

answer_same : (a : Algorithm) → IsBakery a → (p : ℕ) (done : Option CoreDone) → SameReports a (answer_reports p (option_map answer_number done)) (lock_answered p (option_map answer_of done))
answer_same a b p None = none_reported a
answer_same a b p (Some done) = record { items = ap (λ t. t ∷ []) (same_answer p done); text = ap (λ l. l ++ []) (one_answer a b p done) }

-- ---- both runs

module _ (a : Algorithm) (b : IsBakery a) (n limit : ℕ) (most : n ≤ 64) (high : limit ≤ 2 ^ 62) where
  abbrev AlikeAt : World → Abstract → List (List ℕ) → List AlgorithmProcess → List Phase → Type 0
  AlikeAt w ab rows ts ps = Alike a b n limit most high w ab rows ts ps

  abbrev text_state : List (List ℕ) → List AlgorithmProcess → List Phase → MonitorState
  text_state rows ts ps = state a b n limit most high rows ts ps

  -- a world of the text beside one of the lock
  pub record IsBeside (w : World) (m : MonitorState) : Type 0 where
    pub lock : Abstract
    pub rows : List (List ℕ)
    pub processes : List AlgorithmProcess
    pub now : List Phase
    pub is : m ≡ text_state rows processes now
    pub alike : AlikeAt w lock rows processes now

  -- a part of both runs
  pub record SamePart {R S N : Type 0} (number : R → N) (lock_number : S → N) (text : AlgorithmRun R) (lock : LockRun World S) : Type 0 where
    pub reports : SameReports a text.reports lock.reports
    pub refused : option_map number text.refused ≡ option_map lock_number lock.refused
    pub beside : IsBeside lock.left text.left

  abbrev SameLine : AlgorithmRun RunRefusal → LockRun World Refusal → Type 0
  SameLine text lock = SamePart number_of_run number_of text lock

  -- a move on both sides
  moved : (o : MoveResult World) (q : MoveResult MonitorState) (from : Abstract) → Matches a b n limit most high from o q → IsBeside o.left q.left
  moved o q from h = record { lock = h.lock; rows = h.rows; processes = h.processes; now = h.now; is = ap (λ (q : MoveResult MonitorState). q.left) h.is; alike = h.alike }

  said_same : (o : MoveResult World) (q : MoveResult MonitorState) (from : Abstract) → Matches a b n limit most high from o q → q.said ≡ o.said
  said_same o q from h = ap (λ (q : MoveResult MonitorState). q.said) h.is

  -- ---- starts and crashes

  if_by : (t : Bool) (o : Option Refusal) (w : World) (out : MoveResult World) → (if t then unless o w out else refused_outcome w NoSuchProcess) ≡ unless (if t then o else Some NoSuchProcess) w out
  if_by true o w out = refl
  if_by false o w out = refl

  start_by_both : (w : World) (m : MonitorState) (from : Abstract) (out : World) (o : Option Refusal) (r : Result MonitorState RunRefusal) → IsBeside w m
      → Matches a b n limit most high from (unless o w (record { said = Tells []; left = out })) (moved_by m (part_of_start r)) → SameLine (part_run m (part_of_start r)) (lock_unless o w [] out)
  start_by_both w m from out None (Ok left) h matches = record { reports = none_reported a; refused = refl; beside = moved _ _ from matches }
  start_by_both w m from out None (Err e) h matches = let said : Refuses (number_of_run e) ≡ Tells [] = said_same _ _ from matches in absurd (cc)
  start_by_both w m from out (Some refusal) (Ok left) h matches = let said : Tells [] ≡ Refuses (number_of refusal) = said_same _ _ from matches in absurd (cc)
  start_by_both w m from out (Some refusal) (Err e) h matches =
      let said : Refuses (number_of_run e) ≡ Refuses (number_of refusal) = said_same _ _ from matches in
      let number : number_of_run e ≡ number_of refusal = cc in
      record { reports = none_reported a; refused = ap Some number; beside = h }

  crash_by_both : (w : World) (m : MonitorState) (from : Abstract) (p : ℕ) (t : Bool) (r : Result EventPart RunRefusal) → IsBeside w m
      → Matches a b n limit most high from (if t then record { said = Tells (Did (outers.Crash p) ∷ []); left = after n limit w (Crashes p) } else refused_outcome w NoSuchProcess) (moved_by m r)
      → SameLine (part_run m r) (lock_unless (if t then None else Some NoSuchProcess) w (LockDid (Outer (outers.Crash p)) ∷ []) (after n limit w (Crashes p)))
  crash_by_both w m from p true (Ok part) h matches =
      let said : Tells part.reports ≡ Tells (Did (outers.Crash p) ∷ []) = said_same _ _ from matches in
      let reports : part.reports ≡ Did (outers.Crash p) ∷ [] = cc in
      record { reports = subst (λ l. SameReports a l (LockDid (Outer (outers.Crash p)) ∷ [])) (sym reports) (record { items = refl; text = refl }); refused = refl; beside = moved _ _ from matches }
  crash_by_both w m from p true (Err e) h matches = let said : Refuses (number_of_run e) ≡ Tells (Did (outers.Crash p) ∷ []) = said_same _ _ from matches in absurd (cc)
  crash_by_both w m from p false (Ok part) h matches = let said : Tells part.reports ≡ Refuses (number_of NoSuchProcess) = said_same _ _ from matches in absurd (cc)
  crash_by_both w m from p false (Err e) h matches =
      let said : Refuses (number_of_run e) ≡ Refuses (number_of NoSuchProcess) = said_same _ _ from matches in
      let number : number_of_run e ≡ number_of NoSuchProcess = cc in
      record { reports = none_reported a; refused = ap Some number; beside = h }

  -- ---- steps

  -- the steps of the lock are what they are without the tests that are passed
  abbrev lock_more : ℕ → ℕ → Bool → World → List LockReport × World
  lock_more p k ended w = if ended then ([], w) else lock_steps (lock_behaviour n limit) p k w

  abbrev lock_first : ℕ → ℕ → World → Bool → Option Access → List LockReport × World
  lock_first p k w there o =
      if is_some (if there then step_refusal o else Some NoSuchProcess) then ([], w)
      else (let step = lock_step_report w p o in
      let more = if is_some step.answer then ([], lock_world_after_step n limit w p o) else lock_steps (lock_behaviour n limit) p k (lock_world_after_step n limit w p o) in
      (reports_of p step.deed step.answer ++ more.0, more.1))

  lock_steps_are : (p k : ℕ) (w : World) (there : Bool) (o : Option Access) → nat_lt p n ≡ there → access limit p (w.places p) ≡ o → lock_steps (lock_behaviour n limit) p (suc k) w ≡ lock_first p k w there o
  unfolding lock_steps
  lock_steps_are p k w there o e f = ap (λ t. lock_first p k w t (access limit p (w.places p))) e ∙ ap (lock_first p k w there) f

  -- what both do in some steps that none refuses
  record SameSteps (text : AlgorithmRun RunRefusal) (lock : List LockReport × World) : Type 0 where
    reports : SameReports a text.reports lock.0
    refused : text.refused ≡ None
    beside : IsBeside lock.1 text.left

  abbrev text_more : ℕ → ℕ → Bool → EventPart → AlgorithmRun RunRefusal
  text_more p k ended part = if ended then record { reports = part.reports; left = part.left; refused = None } else preceded part.reports (steps p k part.left)

  -- a first step, and then the rest, which is the same on both sides
  step_then : (p k : ℕ) (ended : Bool) (part : EventPart) (first : List LockReport) (w : World) → SameReports a part.reports first → IsBeside w part.left
      → (ended ≡ false → SameSteps (steps p k part.left) (lock_steps (lock_behaviour n limit) p k w))
      → SameSteps (text_more p k ended part) (first ++ (lock_more p k ended w).0, (lock_more p k ended w).1)
  step_then p k true part first w reports beside rest = record { reports = subst (SameReports a part.reports) (sym (append-nil first)) reports; refused = refl; beside = beside }
  step_then p k false part first w reports beside rest =
      let later = rest refl in
      record { reports = reported_both a part.reports (steps p k part.left).reports first (lock_steps (lock_behaviour n limit) p k w).0 reports later.reports; refused = later.refused; beside = later.beside }

  ended_same : (done : Option CoreDone) → is_some (option_map answer_number done) ≡ is_some (option_map answer_of done)
  ended_same None = refl
  ended_same (Some done) = refl

  not_ended : (done : Option CoreDone) → is_some (option_map answer_of done) ≡ false → done ≡ None
  not_ended None e = refl
  not_ended (Some done) e = absurd (cc)

  -- after a step without an answer the process can take another
  busy_after : (p : ℕ) (w : World) (acc : Access) → access limit p (w.places p) ≡ Some acc → answer (w.places p) (kind_of acc) (value_of w acc) ≡ None
      → IsSome (access limit p ((after n limit w (Steps p (kind_of acc) (word_of acc) (value_of w acc))).places p))
  busy_after p w acc e none =
      let place : Place = w.places p in
      let v : ℕ = read w.words (word_of acc) in
      let on : GoesOn n limit p place v acc = subst (λ o. IfSome o (GoesOn n limit p place v)) e (goes_on n limit p place v) in
      subst (λ (place : Place). IsSome (access limit p place)) (sym (put_same w.places p _)) (on none)

  reported_step : (p : ℕ) (outer : Option LockDeed) (done : Option CoreDone) → SameReports a (deed_report outer ++ answer_reports p (option_map answer_number done)) (reports_of p (option_map Outer outer) (option_map answer_of done))
  reported_step p outer done =
      reported_both a (deed_report outer) (answer_reports p (option_map answer_number done)) (did (option_map Outer outer)) (lock_answered p (option_map answer_of done)) (deed_same a outer) (answer_same a b p done)

  -- steps of a process that has one to take
  busy_steps : (p k : ℕ) (w : World) (m : MonitorState) → p < n → IsBeside w m → IsSome (access limit p (w.places p)) → SameSteps (steps p k m) (lock_steps (lock_behaviour n limit) p k w)
  unfolding lock_steps
  busy_steps p zero w m own h some = record { reports = none_reported a; refused = refl; beside = h }
  busy_steps p (suc k) w m own h some =
      subst (λ m. SameSteps (steps p (suc k) m) (lock_steps (lock_behaviour n limit) p (suc k) w)) (sym h.is)
      (by (access limit p (w.places p)) refl some (step_of a b n limit most high w h.lock h.rows h.processes h.now h.alike p own) (λ v q beside busy. busy_steps p k v q own beside busy))
    where
      here : MonitorState
      here = text_state h.rows h.processes h.now

      by : (o : Option Access) → access limit p (w.places p) ≡ o → IsSome o → StepOf a b n limit most high w h.lock h.rows h.processes h.now h.alike p o
          → ((v : World) (q : MonitorState) → IsBeside v q → IsSome (access limit p (v.places p)) → SameSteps (steps p k q) (lock_steps (lock_behaviour n limit) p k v))
          → SameSteps (steps p (suc k) here) (lock_steps (lock_behaviour n limit) p (suc k) w)
      by None e some step rest = absurd (cc)
      by (Some acc) e some step rest =
          let outer : Option LockDeed = step_deed p (w.places p) (kind_of acc) (value_of w acc) in
          let done : Option CoreDone = answer (w.places p) (kind_of acc) (value_of w acc) in
          let ended : Bool = is_some (option_map answer_of done) in
          let first : List LockReport = reports_of p (option_map Outer outer) (option_map answer_of done) in
          let left : World = after n limit w (Steps p (kind_of acc) (word_of acc) (value_of w acc)) in
          let text : steps p (suc k) here ≡ text_more p k ended step.part =
          first_step p k here ∙ ap (λ r. after_step r here (steps p k)) step.is ∙ ap (λ t. text_more p k t step.part) (step.ended ∙ ended_same done) in
          let lock : lock_steps (lock_behaviour n limit) p (suc k) w ≡ (first ++ (lock_more p k ended left).0, (lock_more p k ended left).1) = lock_steps_are p k w true (Some acc) (lt-ltb p n own) e in
          let said : Tells step.part.reports ≡ Tells (deed_report outer ++ answer_reports p (option_map answer_number done)) = said_same _ _ h.lock step.matches in
          let reports : step.part.reports ≡ deed_report outer ++ answer_reports p (option_map answer_number done) = cc in
          let beside : IsBeside left step.part.left = moved _ _ h.lock step.matches in
          subst (λ run. SameSteps run (lock_steps (lock_behaviour n limit) p (suc k) w)) (sym text)
          (subst (SameSteps (text_more p k ended step.part)) (sym lock)
          (step_then p k ended step.part first left (subst (λ l. SameReports a l first) (sym reports) (reported_step p outer done)) beside
          (λ goes. rest left step.part.left beside (busy_after p w acc e (not_ended done goes)))))

  -- ---- lines

  abbrev lock_line_of : Option Refusal → List LockReport × World → LockRun World Refusal
  lock_line_of refusal done = record { reports = done.0; left = done.1; refused = refusal }

  lock_step_line : (p k : ℕ) (w : World) → lock_line_on (lock_behaviour n limit) w (lines.Step p k) ≡ lock_line_of (if_there n p (step_refusal (access limit p (w.places p)))) (lock_steps (lock_behaviour n limit) p k w)
  unfolding lock_line_on
  lock_step_line p k w = refl

  abbrev refused_first : Bool → Option Access → Option Refusal
  refused_first there o = if there then step_refusal o else Some NoSuchProcess

  -- both refuse the first step
  refused_both : (p k : ℕ) (w : World) (m : MonitorState) (there : Bool) (o : Option Access) (e : RunRefusal) (refusal : Refusal) → IsBeside w m → step_on m p ≡ Err e → number_of_run e ≡ number_of refusal
      → nat_lt p n ≡ there → access limit p (w.places p) ≡ o → refused_first there o ≡ Some refusal → SameLine (steps p (suc k) m) (lock_line_on (lock_behaviour n limit) w (lines.Step p (suc k)))
  refused_both p k w m there o e refusal h text number is_there is_access refuses =
      let more : List LockReport × World = (let step = lock_step_report w p o in
      let rest = if is_some step.answer then ([], lock_world_after_step n limit w p o) else lock_steps (lock_behaviour n limit) p k (lock_world_after_step n limit w p o) in
      (reports_of p step.deed step.answer ++ rest.0, rest.1)) in
      let none : lock_steps (lock_behaviour n limit) p (suc k) w ≡ ([], w) = lock_steps_are p k w there o is_there is_access ∙ ap (λ r. if is_some r then ([], w) else more) refuses in
      let first : if_there n p (step_refusal (access limit p (w.places p))) ≡ Some refusal =
      ap (λ t. refused_first t (access limit p (w.places p))) is_there ∙ ap (refused_first there) is_access ∙ refuses in
      let lock : lock_line_on (lock_behaviour n limit) w (lines.Step p (suc k)) ≡ lock_line_of (Some refusal) ([], w) =
      lock_step_line p (suc k) w ∙ ap (λ r. lock_line_of r (lock_steps (lock_behaviour n limit) p (suc k) w)) first ∙ ap (lock_line_of (Some refusal)) none in
      subst (λ run. SameLine run (lock_line_on (lock_behaviour n limit) w (lines.Step p (suc k)))) (sym (first_step p k m ∙ ap (λ r. after_step r m (steps p k)) text))
      (subst (SameLine (after_step (Err e) m (steps p k))) (sym lock) (record { reports = none_reported a; refused = ap Some number; beside = h }))

  step_line : (p k : ℕ) (w : World) (m : MonitorState) → IsBeside w m → SameLine (steps p (suc k) m) (lock_line_on (lock_behaviour n limit) w (lines.Step p (suc k)))
  step_line p k w m h =
      subst (λ m. SameLine (steps p (suc k) m) (lock_line_on (lock_behaviour n limit) w (lines.Step p (suc k)))) (sym h.is)
      (elim (cases_lt p n) [
        | inl own ↦ there own (access limit p (w.places p)) refl (step_of a b n limit most high w h.lock h.rows h.processes h.now h.alike p own)
        | inr past ↦ refused_both p k w here false (access limit p (w.places p)) _ NoSuchProcess now (step_gone a b n limit most high w h.lock h.rows h.processes h.now h.alike p past) refl (le-ltb p n past) refl refl
      ])
    where
      here : MonitorState
      here = text_state h.rows h.processes h.now

      now : IsBeside w here
      now = record { lock = h.lock; rows = h.rows; processes = h.processes; now = h.now; is = refl; alike = h.alike }

      there : p < n → (o : Option Access) → access limit p (w.places p) ≡ o → StepOf a b n limit most high w h.lock h.rows h.processes h.now h.alike p o
          → SameLine (steps p (suc k) here) (lock_line_on (lock_behaviour n limit) w (lines.Step p (suc k)))
      there own None e step = refused_both p k w here true None _ NothingToDo now step refl (lt-ltb p n own) e refl
      there own (Some acc) e step =
          let some : IsSome (access limit p (w.places p)) = subst (λ o. IsSome o) (sym e) refl in
          let both = busy_steps p (suc k) w here own now some in
          let first : if_there n p (step_refusal (access limit p (w.places p))) ≡ None = ap (λ t. refused_first t (access limit p (w.places p))) (lt-ltb p n own) ∙ ap (refused_first true) e in
          let lock : lock_line_on (lock_behaviour n limit) w (lines.Step p (suc k)) ≡ lock_line_of None (lock_steps (lock_behaviour n limit) p (suc k) w) =
          lock_step_line p (suc k) w ∙ ap (λ r. lock_line_of r (lock_steps (lock_behaviour n limit) p (suc k) w)) first in
          subst (SameLine (steps p (suc k) here)) (sym lock) (record { reports = both.reports; refused = ap (option_map number_of_run) both.refused; beside = both.beside })

  start_line : (p : ℕ) (w : World) (m : MonitorState) (o : Option AlgorithmCall) → IsSome o → IsBeside w m
      → SameLine (part_run m (part_of_start (start_by m p o))) (lock_unless (if_there n p (call_refusal (w.places p) o)) w [] (lock_started n limit w p o))
  start_line p w m None some h = absurd (cc)
  start_line p w m (Some c) some h =
      let out : World = after n limit w (Starts p (core_call c)) in
      let refusal : Option Refusal = start_refusal (w.places p) (core_call c) in
      let here : MonitorState = text_state h.rows h.processes h.now in
      subst (λ m. SameLine (part_run m (part_of_start (start_on m p c))) (lock_unless (if_there n p refusal) w [] out)) (sym h.is)
      (start_by_both w here h.lock out (if_there n p refusal) (start_on here p c) (record { lock = h.lock; rows = h.rows; processes = h.processes; now = h.now; is = refl; alike = h.alike })
      (subst (λ o. Matches a b n limit most high h.lock o (moved_by here (part_of_start (start_on here p c)))) (if_by (nat_lt p n) refusal w (record { said = Tells []; left = out }))
      (start_matches a b n limit most high w h.lock h.rows h.processes h.now h.alike p c)))

  crash_line : (p : ℕ) (w : World) (m : MonitorState) → IsBeside w m
      → SameLine (part_run m (crash_on m p)) (lock_unless (if_there n p None) w (LockDid (Outer (outers.Crash p)) ∷ []) (after n limit w (Crashes p)))
  crash_line p w m h =
      let here : MonitorState = text_state h.rows h.processes h.now in
      subst (λ m. SameLine (part_run m (crash_on m p)) (lock_unless (if_there n p None) w (LockDid (Outer (outers.Crash p)) ∷ []) (after n limit w (Crashes p)))) (sym h.is)
      (crash_by_both w here h.lock p (nat_lt p n) (crash_on here p) (record { lock = h.lock; rows = h.rows; processes = h.processes; now = h.now; is = refl; alike = h.alike })
      (crash_matches a b n limit most high w h.lock h.rows h.processes h.now h.alike p))

  crash_same : (p : ℕ) (w : World) (m : MonitorState) → IsBeside w m
      → SameLine (line_on m (lines.Crash p)) (lock_unless (if_there n p None) w (LockDid (Outer (outers.Crash p)) ∷ []) (after n limit w (Crashes p)))
  crash_same p w m h =
      subst (λ run. SameLine run (lock_unless (if_there n p None) w (LockDid (Outer (outers.Crash p)) ∷ []) (after n limit w (Crashes p)))) (sym (line_of_crash m p)) (crash_line p w m h)

  -- the crashes of processes in a row
  abbrev SameCrashes : List TextReport × MonitorState → List LockReport × World → Type 0
  SameCrashes text lock = SameLine (record { reports = text.0; left = text.1; refused = None }) (record { reports = lock.0; left = lock.1; refused = None })

  -- a crash, and those after it unless it is refused
  abbrev crashes_by : {X S R : Type 0} → Option R → List X → S → List X × S → List X × S
  crashes_by o reports s rest = if is_some o then ([], s) else (reports ++ rest.0, rest.1)

  crashes_both : (w out : World) (m left : MonitorState) (reports : List TextReport) (lock_reports : List LockReport) (rest : List TextReport × MonitorState) (lock_rest : List LockReport × World) (o : Option RunRefusal) (lock_o : Option Refusal)
      → SameLine (text_unless o m reports left) (lock_unless lock_o w lock_reports out) → (IsBeside out left → SameCrashes rest lock_rest)
      → SameCrashes (crashes_by o reports m rest) (crashes_by lock_o lock_reports w lock_rest)
  crashes_both w out m left reports lock_reports rest lock_rest None None both more =
      let later = more both.beside in
      record { reports = reported_both a reports rest.0 lock_reports lock_rest.0 both.reports later.reports; refused = refl; beside = later.beside }
  crashes_both w out m left reports lock_reports rest lock_rest (Some e) (Some refusal) both more = record { reports = none_reported a; refused = refl; beside = both.beside }
  crashes_both w out m left reports lock_reports rest lock_rest None (Some refusal) both more = let same : None ≡ Some (number_of refusal) = both.refused in absurd (cc)
  crashes_both w out m left reports lock_reports rest lock_rest (Some e) None both more = let same : Some (number_of_run e) ≡ None = both.refused in absurd (cc)

  crashes_same : (p k : ℕ) (w : World) (m : MonitorState) → IsBeside w m
      → SameCrashes (crashes_in_a_row monitor_transitions event_reports p k m) (crashes_in_a_row (transitions_of (lock_behaviour n limit)) lock_reports_by p k w)
  unfolding crashes_in_a_row
  crashes_same p zero w m h = record { reports = none_reported a; refused = refl; beside = h }
  crashes_same p (suc k) w m h =
      let out : World = after n limit w (Crashes p) in
      let left : MonitorState = left_by m (crash_on m p) in
      crashes_both w out m left (event_reports (Fell p (monitor_transitions.crash m p))) (LockDid (Outer (outers.Crash p)) ∷ [])
      (crashes_in_a_row monitor_transitions event_reports (p + 1) k left) (crashes_in_a_row (transitions_of (lock_behaviour n limit)) lock_reports_by (p + 1) k out)
      (refusal_by (crash_on m p)) (if_there n p None) (crash_same p w m h) (λ beside. crashes_same (p + 1) k out left beside)

  line_same : (w : World) (m : MonitorState) (line : Line) → IsOfLock line → IsBeside w m → SameLine (line_on m line) (lock_line_on (lock_behaviour n limit) w line)
  unfolding lock_line_on
  line_same w m (lines.Start p call) of h =
      subst (λ run. SameLine run (lock_line_on (lock_behaviour n limit) w (lines.Start p call))) (sym (line_of_start m p call)) (start_line p w m (call_of call) of h)
  line_same w m (lines.Step p zero) of h = absurd (omega (arith, of))
  line_same w m (lines.Step p (suc k)) of h = step_line p k w m h
  line_same w m (lines.Crash p) of h = crash_same p w m h
  line_same w m lines.CrashAll of h = crashes_same 0 64 w m h

  -- ---- runs

  abbrev SameLines : AlgorithmRun (ℕ × RunRefusal) → LockRun World (ℕ × Refusal) → Type 0
  SameLines text lock = SamePart (refusal_with_number number_of_run) (refusal_with_number number_of) text lock

  followed_same : (k : ℕ) (text : AlgorithmRun RunRefusal) (lock : LockRun World Refusal) (o : Option RunRefusal) (lock_o : Option Refusal) (rest : AlgorithmRun (ℕ × RunRefusal)) (lock_rest : LockRun World (ℕ × Refusal))
      → SameReports a text.reports lock.reports → IsBeside lock.left text.left → option_map number_of_run o ≡ option_map number_of lock_o → SameLines rest lock_rest → SameLines (fragment_after_line k text o rest) (fragment_after_line k lock lock_o lock_rest)
  followed_same k text lock None None rest lock_rest reports beside same more = record { reports = reported_both a text.reports rest.reports lock.reports lock_rest.reports reports more.reports; refused = more.refused; beside = more.beside }
  followed_same k text lock (Some e) (Some refusal) rest lock_rest reports beside same more =
      let number : number_of_run e ≡ number_of refusal = cc in
      record { reports = reports; refused = ap (λ x. Some (k, x)) number; beside = beside }
  followed_same k text lock None (Some refusal) rest lock_rest reports beside same more = absurd (cc)
  followed_same k text lock (Some e) None rest lock_rest reports beside same more = absurd (cc)

  run_same : (k : ℕ) (all : List Line) (w : World) (m : MonitorState) → All IsOfLock all → IsBeside w m → SameLines (run_on k m all) (lock_run_on (lock_behaviour n limit) k w all)
  unfolding lock_run_on
  run_same k [] w m each h = record { reports = none_reported a; refused = refl; beside = h }
  run_same k (line ∷ all) w m each h =
      let text : AlgorithmRun RunRefusal = line_on m line in
      let lock : LockRun World Refusal = lock_line_on (lock_behaviour n limit) w line in
      let both = line_same w m line (All-head IsOfLock line all each) h in
      followed_same k text lock text.refused lock.refused (run_on (k + 1) text.left all) (lock_run_on (lock_behaviour n limit) (k + 1) lock.left all)
      both.reports both.beside both.refused (run_same (k + 1) all lock.left text.left (All-tail IsOfLock line all each) both.beside)

  pub lines_same : (first : ℕ) (all : List Line) → All IsOfLock all → SameRun a n (run_on first (first_monitor (from_zeros a) n limit) all) (lock_run_on (lock_behaviour n limit) first at_rest all)
  lines_same first all each =
      let both = run_same first all at_rest (first_monitor (from_zeros a) n limit) each (record { lock = nobody; rows = _; processes = _; now = _; is = first_is a b n limit most high; alike = first_alike a b n limit most high }) in
      let left : World = (lock_run_on (lock_behaviour n limit) first at_rest all).left in
      let end = both.beside in
      record {
        reports = both.reports.items;
        report = both.reports.text;
        refused = both.refused;
        words = subst (λ m. SameWords n left m) (sym end.is) (same_words a b n limit most high left end.lock end.rows end.processes end.now end.alike);
        last_lines = ap (λ (m : MonitorState). words_text n m.world.limit m.world.words 0 a.declarations.items) end.is ∙ end_lines a b n limit left.words end.rows end.alike.words;
      }

-- an image has the words of each process
pub image_words : (n limit p : ℕ) (w : World) → p < n → own_at (image_of n limit w).lock p ≡ w.words p
image_words n limit p w low = get_or-map-range_with_len w.words 0 n p p zeros low (omega arith)
