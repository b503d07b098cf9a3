use Rattle.std.proofs.Common.{◌≡◌, ◌<◌, ℕ, Some, not, sym, subst}
use Rattle.std.specs.List.{count_by}
use Rattle.std.proofs.lemmas.Option.{MatchOption-at_some, MatchOption-at_none}
use Rattle.algorithm_texts.specs.Drafts.{draft_view}
use Rattle.algorithm_texts.specs.Marks.{free_way}
use Rattle.algorithm_texts.proofs.RunMarks.{Spreads, spreads_first, spreads_on, fewer_left, free_way_leads, closed_where}
use Rattle.algorithm_texts.proofs.lines.Draft.spread.Goals as goal

pub loop-place-init : goal.loop-place-init
loop-place-init c = spreads_first (draft_view c.args.self.now) c.args.call c.args.runs c.args.marks.now

pub loop-place-preserved : goal.loop-place-preserved
loop-place-preserved c =
    let w : (from : ℕ) × (free_way (draft_view c.args.self.now) c.args.call c.args.runs c.loop-place.marks from ≡ Some c.in-Some.place) =
    MatchOption-at_some _ _ c.in-Some.place c.in-Some.is c.next_free.ensures in
    subst (λ ms. Spreads (draft_view c.args.self.now) c.args.call c.args.runs c.args.marks.now ms) (sym c.mark.ensures)
    (spreads_on (draft_view c.args.self.now) c.args.call c.args.runs c.args.marks.now c.loop-place.marks w.0 c.in-Some.place c.loop-place.invariant w.1)

pub loop-place-smaller : goal.loop-place-smaller
loop-place-smaller c =
    let w : (from : ℕ) × (free_way (draft_view c.args.self.now) c.args.call c.args.runs c.loop-place.marks from ≡ Some c.in-Some.place) =
    MatchOption-at_some _ _ c.in-Some.place c.in-Some.is c.next_free.ensures in
    subst (λ ms. count_by not ms < count_by not c.loop-place.marks) (sym c.mark.ensures)
    (fewer_left c.loop-place.marks c.in-Some.place (free_way_leads (draft_view c.args.self.now) c.args.call c.args.runs c.loop-place.marks w.0 c.in-Some.place w.1).1)

pub returns-clause-closed : goal.returns-clause-closed
returns-clause-closed c =
    closed_where (draft_view c.args.self.now) c.args.call c.args.runs c.loop-place.marks (MatchOption-at_none _ _ c.in_default.is c.next_free.ensures)
