-- After each run the data words are those of a mailbox list, and what it shows stays, whoever steps later.
use Rattle.std.proofs.Common.{◌≡◌, ℕ, ◌<◌, ◌≤◌, List, [], ◌∷◌, ◌++◌, refl, sym, ap, ◌∙◌, inl, inr, ◌⊎◌, arith, append-nil, append_assoc}
use Rattle.table_runs.proofs.Common.{cases_eq, Layout, Message, IsLayout, message, entry, entries, Shape, all_after, State, empty_state, state_led, at_first, deeds, Someone, Nobody, find_in, all_after-append}
use Rattle.table_runs.proofs.Common.{Arrived, origin, arrives, deeds-append, TakenStep, Setup, deeds_of, shown_by, cells_of, AreMessagesShown, RunsShow, EntriesStandInRuns, events_of_run, IsRun, end_of}
use Rattle.rmecore.specs.Sole.{IsInSection}
use Rattle.redomail.specs.declared.deed.Deed.{Deed}
use Rattle.redomail.specs.declared.deed.Deed.TheVariants.{Show}
use Rattle.redomail.proofs.Stands.{stand_by}
use Rattle.judge.specs.Legal.{Leads, judged_all}
use Rattle.judge.specs.Table.{after}
use Rattle.rmeworld.proofs.Executions.{before_is}
use Rattle.judge.proofs.Histories.{judged_all-append}
use Rattle.table_runs.proofs.Runs.{spelled-append, legal_front}

-- a deed takes away no message that is shown
one_more_shown : (s : State) (d : Deed) → (more : List Message) × ((after s d).mail.shown ≡ s.mail.shown ++ more)
one_more_shown s (Show p at seq v) = (message p seq v ∷ [], refl)
one_more_shown s _ = ([], sym (append-nil s.mail.shown))

all_shown : (s : State) (ds : List Deed) → (more : List Message) × ((all_after s ds).mail.shown ≡ s.mail.shown ++ more)
all_shown s [] = ([], sym (append-nil s.mail.shown))
all_shown s (d ∷ ds) =
    let first = one_more_shown s d in
    let rest = all_shown (after s d) ds in
    (first.0 ++ rest.0, rest.1 ∙ (ap (λ xs. xs ++ rest.0) first.1 ∙ append_assoc s.mail.shown first.0 rest.0))

-- nor do the later entries of a run
pub shown_on : (s : Setup) (es later : List TakenStep) → (more : List Message) × (shown_by s (es ++ later) ≡ shown_by s es ++ more)
shown_on s es later =
    let start : State = empty_state s.layout.procs s.layout.cap in
    let first = deeds_of s es in
    let then = deeds s.layout s.limit (end_of s es) (events_of_run later) in
    let all : deeds_of s (es ++ later) ≡ first ++ then = ap (deeds s.layout s.limit at_first) (spelled-append es later) ∙ deeds-append s.layout s.limit at_first (events_of_run es) (events_of_run later) in
    let rest = all_shown (all_after start first) then in
    (rest.0, ap (λ (t : State). t.mail.shown) (ap (all_after start) all ∙ all_after-append start first then) ∙ rest.1)

module _ (s : Setup) (layout : IsLayout s.layout) where
  abbrev l : Layout
  l = s.layout

  abbrev Came : List TakenStep → Type 0
  Came es = Arrived l s.limit (empty_state l.procs l.cap) (end_of s es) (deeds l s.limit at_first (events_of_run es))

  came : (es : List TakenStep) → IsRun s es → Came es
  came es run =
      let new : State = empty_state l.procs l.cap in
      arrives l s.limit at_first new (events_of_run es) layout (origin l s.limit at_first new layout (inl (refl, refl))) run

  -- only one process is in
  only : (es : List TakenStep) (a : Came es) (p : ℕ) → p < l.procs → IsInSection (a.now.lock.phase p) → (r : ℕ) → r < l.procs → IsInSection (a.now.lock.phase r) → r ≡ p
  only es a p below i r low j =
      elim (cases_eq r p) [
        | inl same ↦ same
        | inr ne ↦
            (let words = (end_of s es).words in
            let x = a.who_is_in p below i in
            let y = a.who_is_in r low j in
            let e = before_is (words p).number p (words r).number r (a.lawful.least p r below low ne x.0 x.1 y.0) in
            let f = before_is (words r).number r (words p).number p (a.lawful.least r p low below (λ z. ne (sym z)) y.0 y.1 x.0) in
            absurd (omega arith))
      ]

  shaped : (es : List TakenStep) (a : Came es) → (p : ℕ) × Shape l p (cells_of s es) a.now.mail
  shaped es a = by (find_in l.procs a.now.lock.phase)
    where
      by : Someone l.procs a.now.lock.phase ⊎ Nobody l.procs a.now.lock.phase → (p : ℕ) × Shape l p (cells_of s es) a.now.mail
      by (inl h) = (h.0, a.sits.shape h.0 (only es a h.0 h.1 h.2))
      by (inr h) = (0, a.sits.shape 0 (λ r below i. absurd (h r below i)))

  shown_is : (es : List TakenStep) (a : Came es) → a.now.mail.shown ≡ entries l (cells_of s es) (cells_of s es 2)
  shown_is es a = (shaped es a).1.shown

  shows : (es : List TakenStep) → IsRun s es → AreMessagesShown s es (entries l (cells_of s es) (cells_of s es 2)) × (cells_of s es 2 ≤ l.cap)
  shows es run = let a = came es run in ((a.now, a.leads, shown_is es a), (shaped es a).1.room)

  -- from a point of a run to a later one
  grown : (es later : List TakenStep) (a : Came es) (b : Came (es ++ later)) → (more : List Message) × (b.now.mail.shown ≡ a.now.mail.shown ++ more)
  grown es later a b =
      let start : State = empty_state l.procs l.cap in
      let first : List Deed = deeds l s.limit at_first (events_of_run es) in
      let then : List Deed = deeds l s.limit (end_of s es) (events_of_run later) in
      let all : deeds l s.limit at_first (events_of_run (es ++ later)) ≡ first ++ then = ap (deeds l s.limit at_first) (spelled-append es later) ∙ deeds-append l s.limit at_first (events_of_run es) (events_of_run later) in
      let leads : Leads a.now then b.now = sym (judged_all-append start a.now first then a.leads) ∙ ap (judged_all start) (sym all) ∙ b.leads in
      let rest = all_shown a.now then in
      (rest.0, ap (λ (t : State). t.mail.shown) (state_led a.now b.now then leads) ∙ rest.1)

  stands : (es later : List TakenStep) → IsRun s (es ++ later) → (cells_of s es 2 ≤ cells_of s (es ++ later) 2) × ((a : ℕ) → a < cells_of s es 2 → entry l (cells_of s (es ++ later)) a ≡ entry l (cells_of s es) a)
  stands es later run =
      let a = came es (legal_front s es later run) in
      let b = came (es ++ later) run in
      let more = grown es later a b in
      stand_by l (cells_of s (es ++ later)) (cells_of s es) (cells_of s es 2) (cells_of s (es ++ later) 2) more.0 (sym (shown_is (es ++ later) b) ∙ (more.1 ∙ ap (λ xs. xs ++ more.0) (shown_is es a)))

pub runs_show : RunsShow
runs_show s es layout run = shows s layout es run

pub entries_stand_in_runs : EntriesStandInRuns
entries_stand_in_runs s es later layout run = stands s layout es later run
