use Rattle.std.proofs.Common.{◌≡◌, ◌<◌, ℕ, true, List, sym, ap, ◌∙◌, subst, arith}
use Rattle.robust.proofs.Common.{TableId, stepper, has, has_one}
use Rattle.table_runs.specs.declared.entry.SeatKnowledge.{SeatKnowledge}
use Rattle.table_runs.proofs.Keeps.{glues}
use Rattle.robust.proofs.member_gather.absorb.Goals as goal

pub take_in-requires : goal.take_in-requires
take_in-requires c =
    let t = c.into_parts-theirs.ensures.table in
    let me = c.into_parts-theirs.ensures.seat in
    let here = c.look.ensures.same.0 ∙ c.requires.table.0 in
    let step = stepper c.args.seat.now.me.0.view in
    let old : has step c.look.new.seat.me.0.view.answers ≡ true = subst (λ (ps : List ℕ). has step ps ≡ true) (sym c.look.ensures.did.answers) c.requires.some in
    let new : has c.args.other.by c.into_parts-theirs.result.1.me.0.view.answers ≡ true = subst (λ (k : SeatKnowledge). has c.args.other.by k.view.answers ≡ true) (sym (ap (λ m. m.0) me)) (has_one c.args.other.by) in
    let some : 0 < c.args.seat.now.table_id.words = (let p = c.requires.size.procs in omega (arith, c.requires.table.1, p)) in (
      here,
      t.0 ∙ c.requires.table.2 ∙ c.requires.table.0,
      ap (λ m. m.1) me,
      subst (λ (t : TableId). 0 < t.words) c.requires.table.0 some,
      glues _ _ c.look.new.seat.me.0 _ c.into_parts-theirs.result.1.me.0 step c.args.other.by old new,
    )
