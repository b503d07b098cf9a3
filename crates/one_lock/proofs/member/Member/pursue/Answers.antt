use Rattle.std.proofs.Common.{rules, ◌≡◌, ℕ, Some, None, IsNone, IsSome, refl, subst}
use Rattle.one_lock.proofs.Common.{IsOwnTrail, TrailGrows, later_opening, turns_after_one}
use Rattle.one_lock.proofs.Answered.{answered_by, given_up, goes_free, goes_blocked, still_none}
use Rattle.one_lock.proofs.member.Member.pursue.Goals as goal

pub loop-preserved-then-outcome : goal.loop-preserved-then-outcome
loop-preserved-then-outcome g c =
    let i = c.loop.invariant in
    let z = g.S.Sizes.named in
    let m = c.args.self.now in
    let none : c.in_ok-outcome.outcome.answer ≡ None = search rules in
    let less : c.is_spent.new.left ≡ turns_after_one c.loop.left = search rules in
    let some : c.loop.left ≡ Some 0 → ⊥ = search rules in
    let here = subst (λ (p : ℕ). TrailGrows z p c.loop.opening c.loop.self.trail c.in_ok-outcome.outcome c.step.new.self.trail) i.0.0 c.in_ok-outcome.ensures.grows in
    let way = goes_blocked z m.process m.standing c.args.call c.args.turns c.loop.left m.trail c.loop.self.trail c.step.new.self.trail c.loop.opening c.in_ok-outcome.outcome i.6 here later_opening c.is_spent.new.left none c.if-outcome.true refl some less in
    let forever : IsNone c.args.turns → IsNone c.is_spent.new.left = λ n. still_none c.loop.left c.is_spent.new.left (i.4 n) less in
    search (rules, way, forever)

pub loop-preserved : goal.loop-preserved
loop-preserved g c =
    let i = c.loop.invariant in
    let z = g.S.Sizes.named in
    let m = c.args.self.now in
    let none : c.in_ok-outcome.outcome.answer ≡ None = search rules in
    let here = subst (λ (p : ℕ). TrailGrows z p c.loop.opening c.loop.self.trail c.in_ok-outcome.outcome c.step.new.self.trail) i.0.0 c.in_ok-outcome.ensures.grows in
    let way = goes_free z m.process m.standing c.args.call c.args.turns c.loop.left m.trail c.loop.self.trail c.step.new.self.trail c.loop.opening c.in_ok-outcome.outcome i.6 here later_opening none c.if-outcome.false refl in
    search (rules, way)

pub returns-then-is_some-clause-answered : goal.returns-then-is_some-clause-answered
returns-then-is_some-clause-answered g c =
    let i = c.loop.invariant in
    let z = g.S.Sizes.named in
    let m = c.args.self.now in
    let own : IsOwnTrail z m = subst (IsOwnTrail z) c.self.view_is c.self.invariant.2 in
    let here = subst (λ (p : ℕ). TrailGrows z p c.loop.opening c.loop.self.trail c.in_ok-outcome.outcome c.step.new.self.trail) i.0.0 c.in_ok-outcome.ensures.grows in
    let some : IsSome c.in_ok-outcome.outcome.answer = search rules in
    answered_by z m.process m.standing c.args.call c.args.turns c.loop.left m.trail c.loop.self.trail c.step.new.self.trail c.loop.opening c.in_ok-outcome.outcome i.6 here own.index own.limited own.sizes some

pub returns-then-is_spent-clause-answered : goal.returns-then-is_spent-clause-answered
returns-then-is_spent-clause-answered g c =
    let i = c.loop.invariant in
    let z = g.S.Sizes.named in
    let m = c.args.self.now in
    let own : IsOwnTrail z m = subst (IsOwnTrail z) c.self.view_is c.self.invariant.2 in
    let here = subst (λ (p : ℕ). TrailGrows z p c.loop.opening c.loop.self.trail c.in_ok-outcome.outcome c.step.new.self.trail) i.0.0 c.in_ok-outcome.ensures.grows in
    let none : c.in_ok-outcome.outcome.answer ≡ None = search rules in
    let zero : c.loop.left ≡ Some 0 = search rules in
    given_up z m.process m.standing c.args.call c.args.turns c.loop.left m.trail c.loop.self.trail c.step.new.self.trail c.loop.opening c.in_ok-outcome.outcome i.6 here own.index own.limited own.sizes none c.if-outcome.true zero
