use Rattle.std.proofs.Common.{◌≡◌, None, sym, ap, ◌∙◌, subst}
use Rattle.rmeworld.specs.declared.call.Call.TheVariants.{Unlock}
use Rattle.one_lock.proofs.Common.{IsAnsweredCall, asked_call, WorksInside, Seat}
use Rattle.one_lock.proofs.Whole.{works_by, leaves_by}
use Rattle.one_lock.specs.Member.{stands_mended}
use Rattle.one_lock.specs.declared.member_state.MemberState.{MemberState}
use Rattle.one_lock.specs.declared.member_state.MemberState.TheVariants.{Mended}
use Rattle.one_lock.proofs.member.Member.work.Goals.{in-Ok+in_ok-pursue-in-Ok, in-Err}
use Rattle.one_lock.proofs.member.Member.work.Goals as goal

pub returns-clause-works : goal.returns-clause-works
returns-clause-works g c =
    let z = g.S.Sizes.named in
    let m = c.args.self.now in
    let here = c.mend.new.self in
    let mended = c.in_ok-mended.mended in
    let to = c.pursue-2.new.self.trail in
    let left = c.in_ok-pursue.field-0 in
    elim c.match-mended.branch [
      | in-Ok+in_ok-pursue-in-Ok w ↦
          (let then = w.pursue.new.self in
          let stands : here.standing ≡ Mended = c.in_ok-mended.ensures.stands ∙ ap stands_mended w.in-Ok.is in
          let task = subst (λ (s : MemberState). IsAnsweredCall (asked_call z here.process s c.args.call None) here.trail then.trail w.in_ok-pursue-in-Ok.field-0) stands w.in_ok-pursue-in-Ok.ensures.answered in
          let leaves = subst (λ (x : Seat). IsAnsweredCall (asked_call z x.process x.standing Unlock None) x.trail to left) w.self-is c.in_ok-pursue.ensures.answered in
          subst (WorksInside z m.process c.args.call m.standing m.trail to) (sym w.reply-is)
          (works_by z m.process here.process then.process c.args.call m.standing then.standing m.trail here.trail then.trail to w.in-Ok.field-0 mended w.in_ok-pursue-in-Ok.field-0 left w.reply_of.result c.mend.ensures.goes.0 (w.pursue.ensures.goes.0 ∙ c.mend.ensures.goes.0) w.in-Ok.is c.in_ok-mended.ensures.mends (w.in_ok-pursue-in-Ok.ensures.kept ∙ c.in_ok-mended.ensures.stands) task w.reply_of.ensures leaves))
      | in-Err w ↦
          (let leaves = subst (λ (x : Seat). IsAnsweredCall (asked_call z x.process x.standing Unlock None) x.trail to left) w.self-is c.in_ok-pursue.ensures.answered in
          subst (WorksInside z m.process c.args.call m.standing m.trail to) (sym w.reply-is)
          (leaves_by z m.process here.process c.args.call m.standing here.standing m.trail here.trail to w.in-Err.fault mended left c.mend.ensures.goes.0 w.in-Err.is c.in_ok-mended.ensures.mends c.in_ok-mended.ensures.stands leaves))
    ]
