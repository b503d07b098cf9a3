use Rattle.std.proofs.Common.{ℕ, ◌+◌, ◌<◌, ◌≤◌, length, take, sym, subst, arith, rules}
use Rattle.std.specs.List.{All}
use Rattle.std.proofs.lemmas.Grind.{common_steps}
use Rattle.std.proofs.lemmas.List.{take_all}
use Rattle.std.proofs.lemmas.List.Elements.{All-more}
use Rattle.algorithm_texts.specs.declared.lines.CallRead.{CallRead}
use Rattle.algorithm_texts.proofs.CallFaults.{calls_passed, empty_call}
use Rattle.algorithm_texts.proofs.RefusedCalls.{All-reverse, All-reversed}
use Rattle.algorithm_texts.proofs.whole.check_filled.Goals as goal

abbrev HasLines : CallRead → Type 0
HasLines call = call.«from» < call.to

apart : (first last : ℕ) → first < last → last ≤ first → ⊥
apart first last less past = omega (arith, less, past)

pub loop-call-preserved : goal.loop-call-preserved
loop-call-preserved c =
    let i = c.loop-call.call-index in
    let calls = c.deref-call-items.result.now in
    record {
      filled = subst (λ cs. All HasLines (take (i + 1) cs)) c.deref-call-items.ensures.value
          (All-more HasLines calls i _ c.loop-call-test.true
          (subst (λ cs. All HasLines (take i cs)) (sym c.deref-call-items.ensures.value) c.loop-call.invariant.filled) c.if-call.false);
      left = calls_passed c.args.draft.now.calls.items calls i _ c.deref-call-items.ensures.value c.loop-call-test.true c.if-call.false c.loop-call.invariant.left;
    }

pub returns-then-call-clause-err : goal.returns-then-call-clause-err
returns-then-call-clause-err c = λ h.
    let all : All HasLines c.deref-call-items.result.now =
    subst (λ cs. All HasLines cs) (sym c.deref-call-items.ensures.value) (All-reversed HasLines c.args.draft.now.calls.items h) in
    apart _ _ (all c.loop-call.call-index _ c.loop-call-test.true) c.if-call.true

pub returns-then-call-clause-first : goal.returns-then-call-clause-first
returns-then-call-clause-first c =
    empty_call c.args.draft.now.calls.items c.deref-call-items.result.now c.loop-call.call-index _ c.at.result c.deref-call-items.ensures.value c.loop-call-test.true c.if-call.true
    c.loop-call.invariant.left c.at.ensures

pub returns-clause-ok : goal.returns-clause-ok
returns-clause-ok c =
    let calls = c.args.draft.now.calls.items in
    let whole : length calls ≤ c.loop-call.call-index = first_of (search rules, grind (arith, common_steps)) in
    All-reverse HasLines calls (subst (λ cs. All HasLines cs) (take_all c.loop-call.call-index calls whole) c.loop-call.invariant.filled)
