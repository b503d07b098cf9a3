use Rattle.std.proofs.Common.{◌≡◌, ◌+◌, false, length, sym, ap, ◌∙◌, subst, true}
use Rattle.std.proofs.lemmas.List.{with_items_is}
use Rattle.std.proofs.lemmas.Result.{on_ok_weaker, IfErr-weaker}
use Rattle.algorithms.specs.declared.fault.ReadFault.TheVariants.{Endless}
use Rattle.algorithm_texts.specs.Drafts.{draft_view}
use Rattle.algorithm_texts.specs.FinishedDrafts.{is_in}
use Rattle.algorithm_texts.specs.Rounds.{ReturnsMarked, RoundsMarked}
use Rattle.algorithm_texts.specs.Runs.{NoneReturns, NotOnRound}
use Rattle.algorithm_texts.specs.TextFaults.{IsFaultAtFirst, OrMemory}
use Rattle.algorithm_texts.specs.TextLines.{IsRefusalOf}
use Rattle.algorithm_texts.proofs.RunMarks.{length-marks_from, none_in}
use Rattle.algorithm_texts.proofs.RoundMarks.{round_first, round_marked, round_refused}
use Rattle.algorithm_texts.proofs.RunFaults.{or_memory}
use Rattle.algorithm_texts.proofs.lines.Draft.check_ends.Goals as goal

pub mark_rounds-requires-clause-none : goal.mark_rounds-requires-clause-none
mark_rounds-requires-clause-none c = λ at h.
    none_in (length (draft_view c.args.self.now).lines + 1) at (subst (λ ms. is_in ms at ≡ true) (c.as_mut_slice.ensures.value ∙ c.in_ok-left.ensures) h)

pub mark_rounds-requires-clause-size : goal.mark_rounds-requires-clause-size
mark_rounds-requires-clause-size c =
    ap length (c.as_mut_slice.ensures.value ∙ c.in_ok-left.ensures) ∙ length-marks_from (length (draft_view c.args.self.now).lines + 1) c.args.call.«from» false

pub mark_rounds-requires-clause-long : goal.mark_rounds-requires-clause-long
mark_rounds-requires-clause-long c =
    ap length (c.as_mut_slice-2.ensures.value ∙ c.in_ok-followed.ensures) ∙ length-marks_from (length (draft_view c.args.self.now).lines + 1) c.args.call.«from» false

pub returns-clause-ok : goal.returns-clause-ok
returns-clause-ok c =
    let d = draft_view c.args.self.now in
    let now = c.as_slice.ensures.value ∙ with_items_is c.in_ok-left.left c.mark_rounds.new.left (c.mark_rounds.ensures.size ∙ c.as_mut_slice.ensures.len) in
    on_ok_weaker c.check_left.result
    (λ none at reached back.
    none at (round_marked d c.args.call c.args.reached.now c.as_slice.result.now c.requires (subst (λ ms. RoundsMarked d c.args.call ms) (sym now) c.mark_rounds.ensures.rounds) at (reached, back)))
    c.check_left.ensures.ok

pub returns-clause-first : goal.returns-clause-first
returns-clause-first c =
    let d = draft_view c.args.self.now in
    let now = c.as_slice.ensures.value ∙ with_items_is c.in_ok-left.left c.mark_rounds.new.left (c.mark_rounds.ensures.size ∙ c.as_mut_slice.ensures.len) in
    IfErr-weaker c.check_left.result
    (λ fault. OrMemory fault (IsFaultAtFirst d.lines Endless (λ at. ReturnsMarked d c.args.call c.as_slice.result.now at → ⊥) fault))
    (λ fault. OrMemory fault (IsFaultAtFirst d.lines Endless (NotOnRound d c.args.call) fault))
    (λ fault. or_memory fault (IsFaultAtFirst d.lines Endless (λ at. ReturnsMarked d c.args.call c.as_slice.result.now at → ⊥) fault)
    (IsFaultAtFirst d.lines Endless (NotOnRound d c.args.call) fault)
    (round_first d c.args.call c.args.reached.now c.as_slice.result.now fault c.requires (subst (λ ms. RoundsMarked d c.args.call ms) (sym now) c.mark_rounds.ensures.rounds)
    (λ at h. c.mark_rounds.ensures.local at (subst (λ ms. is_in ms at ≡ true) now h))))
    c.check_left.ensures.first

pub returns-clause-err : goal.returns-clause-err
returns-clause-err c =
    let d = draft_view c.args.self.now in
    IfErr-weaker c.check_left.result (λ fault. OrMemory fault (IsFaultAtFirst d.lines Endless (NotOnRound d c.args.call) fault))
    (λ fault. IsRefusalOf fault (NoneReturns d c.args.call)) (λ fault. round_refused d c.args.call fault) (returns-clause-first c)
