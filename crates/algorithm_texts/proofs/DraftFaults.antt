-- Which fault of a text is named, round by round.
use Rattle.std.proofs.Common.{◌≡◌, ◌⊎◌, ℕ, ◌<◌, true, ◌&&◌, List, Some, is_some, sym, ap, ◌∙◌, subst, inl, inr}
use Rattle.std.specs.List.{All}
use Rattle.algorithms.specs.Deeds.{SaysDeed}
use Rattle.algorithms.specs.Faults.{fault_of}
use Rattle.algorithms.specs.declared.algorithm.AlgorithmCall.{AlgorithmCall}
use Rattle.algorithms.specs.declared.algorithm.AlgorithmCall.TheVariants.{Lock, Unlock, Recover, Withdraw}
use Rattle.algorithms.specs.declared.fault.AlgorithmFault.{AlgorithmFault}
use Rattle.algorithms.specs.declared.fault.ReadFault.TheVariants.{BadDeed}
use Rattle.algorithms.specs.declared.line.AlgorithmDeed.TheVariants.{Enter, Leave}
use Rattle.algorithm_texts.specs.declared.lines.CallRead.{CallRead}
use Rattle.algorithm_texts.specs.declared.lines.Draft.{Draft}
use Rattle.algorithm_texts.specs.Drafts.{Drafted, draft_view, lines_of}
use Rattle.algorithm_texts.specs.FinishedDrafts.{with_lines, call_in, kind_led, with_entries, finished_draft}
use Rattle.algorithm_texts.specs.Lawful.{KindFits, NotesDeed}
use Rattle.algorithm_texts.specs.Programs.{SpellsDraft, meaning_of, program_lines}
use Rattle.algorithm_texts.specs.Runs.{AllRuns}
use Rattle.algorithm_texts.specs.TextFaults.{OrMemory, KindCallFits, IsOfFirst, IsFaultOfKindCall, IsFaultOfWithdraw, IsFaultOfAllCalls, all_kinds, has_both_calls, IsFaultOfAllRuns, IsFaultOfWays, IsFaultOfEither, IsFaultOfDeeds, IsFaultOfFitting, IsFaultOfFlow, IsFaultOfLater, IsFaultOfLines, IsFaultOfText, number_of_kind}
use Rattle.algorithm_texts.specs.UnreachedLines.{EndUnreached}
use Rattle.algorithm_texts.proofs.BlockTrees.{some_of}
use Rattle.algorithm_texts.proofs.TreeLines.{program_read}
use Rattle.algorithm_texts.proofs.RedirectFaults.{entered, kind_fault_before, kind_fault_entered, kind_fits_before, kind_fits_entered, kind_led_fits, withdraw_fault_before, withdraw_fault_entered}
use Rattle.algorithm_texts.proofs.NotedLines.{noted_of, said_of}

-- ---- calls

both_there : (d : Drafted) (lock unlock : CallRead) → call_in Lock d.calls ≡ Some lock → call_in Unlock d.calls ≡ Some unlock → has_both_calls d ≡ true
both_there d lock unlock a b = ap (λ o. is_some o && is_some (call_in Unlock d.calls)) a ∙ ap (λ o. is_some o) b

pub kinds_fault : (d begun : Drafted) (fault : AlgorithmFault) → All (λ call. call.«from» < call.to) d.calls → with_entries d ≡ Some begun
    → IsOfFirst (KindCallFits d) (IsFaultOfKindCall d fault) all_kinds → IsFaultOfAllCalls d fault
kinds_fault d begun fault filled e h =
    let s = entered d begun e in
    inr (filled, inr (both_there d s.2 s.3 s.4 s.5, inl h))

pub withdraws_fault : (d begun : Drafted) (fault : AlgorithmFault) → All (λ call. call.«from» < call.to) d.calls → with_entries d ≡ Some begun
    → ((kind : AlgorithmCall) → KindCallFits d kind) → IsFaultOfWithdraw d fault → IsFaultOfAllCalls d fault
withdraws_fault d begun fault filled e fit h =
    let s = entered d begun e in
    inr (filled, inr (both_there d s.2 s.3 s.4 s.5, inr (fit, h)))

fit_lock : (d begun lock : Drafted) → with_entries d ≡ Some begun → kind_led Lock begun ≡ Some lock → KindFits lock Lock → KindCallFits d Lock
fit_lock d begun lock e l h = kind_fits_entered Lock d begun e (kind_led_fits Lock begun lock l h)

fit_unlock : (d begun lock unlock : Drafted) → with_entries d ≡ Some begun → kind_led Lock begun ≡ Some lock → kind_led Unlock lock ≡ Some unlock → KindFits unlock Unlock
    → KindCallFits d Unlock
fit_unlock d begun lock unlock e l u h = kind_fits_entered Unlock d begun e (kind_fits_before Unlock Lock begun lock l (kind_led_fits Unlock lock unlock u h))

fit_recover : (d begun lock unlock recover : Drafted) → with_entries d ≡ Some begun → kind_led Lock begun ≡ Some lock → kind_led Unlock lock ≡ Some unlock
    → kind_led Recover unlock ≡ Some recover → KindFits recover Recover → KindCallFits d Recover
fit_recover d begun lock unlock recover e l u r h =
    kind_fits_entered Recover d begun e
    (kind_fits_before Recover Lock begun lock l (kind_fits_before Recover Unlock lock unlock u (kind_led_fits Recover unlock recover r h)))

fit_withdraw : (d begun lock unlock recover last : Drafted) → with_entries d ≡ Some begun → kind_led Lock begun ≡ Some lock → kind_led Unlock lock ≡ Some unlock
    → kind_led Recover unlock ≡ Some recover → kind_led Withdraw recover ≡ Some last → KindFits last Withdraw → KindCallFits d Withdraw
fit_withdraw d begun lock unlock recover last e l u r w h =
    kind_fits_entered Withdraw d begun e
    (kind_fits_before Withdraw Lock begun lock l
    (kind_fits_before Withdraw Unlock lock unlock u (kind_fits_before Withdraw Recover unlock recover r (kind_led_fits Withdraw recover last w h))))

pub kinds_fit : (d begun lock unlock recover last : Drafted) → with_entries d ≡ Some begun → kind_led Lock begun ≡ Some lock → kind_led Unlock lock ≡ Some unlock
    → kind_led Recover unlock ≡ Some recover → kind_led Withdraw recover ≡ Some last → KindFits lock Lock → KindFits unlock Unlock → KindFits recover Recover → KindFits last Withdraw
    → (kind : AlgorithmCall) → KindCallFits d kind
kinds_fit d begun lock unlock recover last e l u r w a b c x Lock = fit_lock d begun lock e l a
kinds_fit d begun lock unlock recover last e l u r w a b c x Unlock = fit_unlock d begun lock unlock e l u b
kinds_fit d begun lock unlock recover last e l u r w a b c x Recover = fit_recover d begun lock unlock recover e l u r c
kinds_fit d begun lock unlock recover last e l u r w a b c x Withdraw = fit_withdraw d begun lock unlock recover last e l u r w x

pub of_lock : (d begun : Drafted) (fault : AlgorithmFault) → with_entries d ≡ Some begun → IsFaultOfKindCall begun fault Lock
    → IsOfFirst (KindCallFits d) (IsFaultOfKindCall d fault) all_kinds
of_lock d begun fault e h = inl (kind_fault_entered Lock d begun fault e h)

pub of_unlock : (d begun lock : Drafted) (fault : AlgorithmFault) → with_entries d ≡ Some begun → kind_led Lock begun ≡ Some lock → KindFits lock Lock
    → IsFaultOfKindCall lock fault Unlock → IsOfFirst (KindCallFits d) (IsFaultOfKindCall d fault) all_kinds
of_unlock d begun lock fault e l a h =
    inr (fit_lock d begun lock e l a, inl (kind_fault_entered Unlock d begun fault e (kind_fault_before Unlock Lock begun lock fault l h)))

pub of_recover : (d begun lock unlock : Drafted) (fault : AlgorithmFault) → with_entries d ≡ Some begun → kind_led Lock begun ≡ Some lock → kind_led Unlock lock ≡ Some unlock
    → KindFits lock Lock → KindFits unlock Unlock → IsFaultOfKindCall unlock fault Recover → IsOfFirst (KindCallFits d) (IsFaultOfKindCall d fault) all_kinds
of_recover d begun lock unlock fault e l u a b h =
    inr (
      fit_lock d begun lock e l a,
      inr (
        fit_unlock d begun lock unlock e l u b,
        inl (kind_fault_entered Recover d begun fault e (kind_fault_before Recover Lock begun lock fault l (kind_fault_before Recover Unlock lock unlock fault u h))),
      ),
    )

pub of_withdraw : (d begun lock unlock recover : Drafted) (fault : AlgorithmFault) → with_entries d ≡ Some begun → kind_led Lock begun ≡ Some lock
    → kind_led Unlock lock ≡ Some unlock → kind_led Recover unlock ≡ Some recover → KindFits lock Lock → KindFits unlock Unlock → KindFits recover Recover
    → IsFaultOfKindCall recover fault Withdraw → IsOfFirst (KindCallFits d) (IsFaultOfKindCall d fault) all_kinds
of_withdraw d begun lock unlock recover fault e l u r a b c h =
    inr (
      fit_lock d begun lock e l a,
      inr (
        fit_unlock d begun lock unlock e l u b,
        inr (
          fit_recover d begun lock unlock recover e l u r c,
          inl (kind_fault_entered Withdraw d begun fault e
              (kind_fault_before Withdraw Lock begun lock fault l (kind_fault_before Withdraw Unlock lock unlock fault u (kind_fault_before Withdraw Recover unlock recover fault r h)))),
        ),
      ),
    )

pub withdraw_found : (d begun lock unlock recover last : Drafted) (fault : AlgorithmFault) → with_entries d ≡ Some begun → kind_led Lock begun ≡ Some lock
    → kind_led Unlock lock ≡ Some unlock → kind_led Recover unlock ≡ Some recover → kind_led Withdraw recover ≡ Some last → IsFaultOfWithdraw last fault → IsFaultOfWithdraw d fault
withdraw_found d begun lock unlock recover last fault e l u r w h =
    withdraw_fault_entered d begun fault e
    (withdraw_fault_before Lock begun lock fault l
    (withdraw_fault_before Unlock lock unlock fault u (withdraw_fault_before Recover unlock recover fault r (withdraw_fault_before Withdraw recover last fault w h))))

-- ---- texts

-- a text whose lines make no draft
pub unread_fault : (text : List ℕ) (fault : AlgorithmFault) → OrMemory fault (IsFaultOfLines text fault ⊎ IsFaultOfLater text fault)
    → OrMemory fault (IsFaultOfText text fault)
unread_fault text fault (inl e) = inl e
unread_fault text fault (inr (inl line)) = inr (inl line)
unread_fault text fault (inr (inr later)) = inr (inr (inl later))

-- the labels of claims of a spelled draft, and what its runs may do
pub spelled_fault : (text : List ℕ) (d : Drafted) (fault : AlgorithmFault) → SpellsDraft text d → IsFaultOfFitting d fault → IsFaultOfText text fault
spelled_fault text d fault s h =
    let x = some_of (meaning_of s.program) finished_draft d s.means in
    inr (inr (x.0, (program_lines s.program, s.says, program_read s.program x.0 x.1), inr (d, x.2, s.fit, h)))

pub flow_fault : (d : Drafted) (fault : AlgorithmFault) → IsFaultOfAllRuns d fault ⊎ (AllRuns d × IsFaultOfWays d fault) → IsFaultOfFlow d fault
flow_fault d fault (inl runs) = inl runs
flow_fault d fault (inr ways) = inr (ways.0, inl ways.1)

-- what the algorithm that was made does not say, its draft does not note
pub deeds_fault : (d : Drafted) (made : Draft) (fault : AlgorithmFault) → EndUnreached d (lines_of made.algorithm) → draft_view made ≡ with_lines (lines_of made.algorithm) d
    → IsFaultOfEither (draft_view made) (SaysDeed made.algorithm made.algorithm.entries.lock Enter) (SaysDeed made.algorithm made.algorithm.entries.unlock Leave) fault
    → IsFaultOfDeeds d fault
deeds_fault d made fault lines kept h =
    let a = made.algorithm in
    let entries = ap (λ (x : Drafted). x.head.entries) kept in
    let said_enters : NotesDeed d d.head.entries.lock Enter → SaysDeed a a.entries.lock Enter =
    λ n. said_of d a a.entries.lock Enter lines entries (subst (λ k. NotesDeed d k Enter) (sym (ap (λ es. es.lock) entries)) n) in
    let said_leaves : NotesDeed d d.head.entries.unlock Leave → SaysDeed a a.entries.unlock Leave =
    λ n. said_of d a a.entries.unlock Leave lines entries (subst (λ k. NotesDeed d k Leave) (sym (ap (λ es. es.unlock) entries)) n) in
    let noted : SaysDeed a a.entries.lock Enter → NotesDeed d d.head.entries.lock Enter =
    λ s. subst (λ k. NotesDeed d k Enter) (ap (λ es. es.lock) entries) (noted_of d a a.entries.lock Enter lines entries s) in
    elim h [
      | inl w ↦ inl ((λ n. w.0 (said_enters n)), subst (λ x. fault ≡ fault_of (number_of_kind x Lock) BadDeed) kept w.1)
      | inr w ↦ inr (noted w.0, (λ n. w.1 (said_leaves n)), subst (λ x. fault ≡ fault_of (number_of_kind x Unlock) BadDeed) kept w.2)
    ]
