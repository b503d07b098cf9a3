use Rattle.std.proofs.Common.{◌≡◌, true, sym, ◌∙◌, refl, subst, arith, rules}
use Rattle.std.proofs.lemmas.Bool.{false≢true}
use Rattle.std.proofs.lemmas.Grind.{common_steps}
use Rattle.algorithm_texts.specs.Drafts.{draft_view}
use Rattle.algorithm_texts.specs.Usage.{uses, begins_loop, ends_loop, passes_at}
use Rattle.algorithm_texts.proofs.Fits.{none_open, open_next, open_said, in_loop, in_loop_said, IsOpen}
use Rattle.algorithm_texts.proofs.lines.Draft.is_in_loop.Goals as goal

pub loop-at-init : goal.loop-at-init
loop-at-init c = (λ h. absurd (false≢true h), λ s. absurd (none_open (uses (draft_view c.args.self.now).lines) c.args.call c.args.name c.args.call.«from» (omega arith) s))

pub loop-at-preserved : goal.loop-at-preserved
loop-at-preserved c =
    let forms = uses (draft_view c.args.self.now).lines in (
      λ h. open_next forms c.args.call c.args.name c.loop-at.at c.loop-at.inside c.loop-at.auto.at c.loop-at.invariant.0 (sym c.stays_open-inside.ensures ∙ h),
      λ s. c.stays_open-inside.ensures
          ∙ open_said forms c.args.call c.args.name c.loop-at.at c.loop-at.inside (passes_at (begins_loop c.args.name) forms c.loop-at.at)
          (passes_at (ends_loop c.args.name) forms c.loop-at.at) c.loop-at.invariant.1 refl refl s,
    )

pub returns : goal.returns
returns c =
    let forms = uses (draft_view c.args.self.now).lines in
    let at : c.loop-at.at ≡ c.args.place = first_of (search rules, grind (arith, common_steps)) in
    let there = subst (λ x. (c.loop-at.inside ≡ true → IsOpen forms c.args.call c.args.name x) × (IsOpen forms c.args.call c.args.name x → c.loop-at.inside ≡ true)) at c.loop-at.invariant in (
      λ h. in_loop forms c.args.call c.args.name c.args.place c.loop-at.inside c.requires there.0 (sym c.is_open.ensures ∙ h),
      λ s. c.is_open.ensures ∙ in_loop_said forms c.args.call c.args.name c.args.place c.loop-at.inside (passes_at (begins_loop c.args.name) forms c.args.place) there.1 refl s,
    )
