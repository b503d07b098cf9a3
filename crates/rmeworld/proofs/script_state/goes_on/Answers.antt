use Rattle.std.proofs.Common.{◌≡◌, ◌+◌, ◌*◌, ◌<◌, length, sym, ap, ◌∙◌, arith, ltb-true}
use Rattle.rmeworld.proofs.Common.{Layout, Write, Pending}
use Rattle.rmeworld.proofs.Storing.{stores_on}
use Rattle.rmeworld.proofs.script_state.goes_on.Goals as goal

pub returns-then-width-layout : goal.returns-then-width-layout
returns-then-width-layout c = λ small.
    let job : Pending = c.args.job.now in
    let is : job.stage ≡ Write c.in-Write.record c.in-Write.step c.in-Write.field-2 = sym c.seam_stage.ensures ∙ c.in-Write.is in
    let sizes : c.layout-in-Write.result.width ≡ job.layout.width = ap (λ (l : Layout). l.width) c.layout-in-Write.ensures in
    let wide : length c.in-Write.record.value ≡ job.layout.width = omega (arith, c.width-width.ensures.width, c.if-width-layout.true, sizes) in
    let below : c.in-Write.step < 7 + 2 * c.width-width.result = ltb-true c.in-Write.step (7 + 2 * c.width-width.result) small in
    let h : c.in-Write.step + 1 < 8 + 2 * job.layout.width = omega (arith, below, c.width-width.ensures.width, wide) in
    stores_on job c.in-Write.record c.in-Write.step c.in-Write.field-2 c.args.word is wide h
