use Rattle.std.proofs.Common.{arith}
use Rattle.rmeworld.proofs.Common.{false≢true}
use Rattle.rmeworld.proofs.ImageRules.{unnumbered, by_inside, is_recorded_by}
use Rattle.rmeworld.proofs.image.rules.is_recorded.Goals as goal

pub returns-then-not-count_entries : goal.returns-then-not-count_entries
returns-then-not-count_entries c =
    let numbered = rw (c.layout-layout.ensures, c.as_slice-words.ensures) at c.if-not-count_entries.ensures.numbered in
    let armed = rw c.as_slice-words.ensures at c.word.ensures in (
      (λ h. absurd (false≢true h)),
      (λ r.
          absurd (unnumbered c.args.image.now c.requires (λ e. c.if-word-eq0.false (omega (arith, armed, e))) (λ n. false≢true (numbered.1 n)) r)),
    )

pub returns-in-Some : goal.returns-in-Some
returns-in-Some c =
    let i = c.args.image.now in
    let p = c.in-Some.p in
    let inside = rw c.as_slice.ensures at c.in-Some.ensures.some in
    let has = rw (c.layout-layout.ensures, c.as_slice-words.ensures) at c.has_record.ensures in
    let armed = rw c.as_slice-words.ensures at c.word.ensures in
    let ruined = rw c.as_slice-words.ensures at c.word-2.ensures in (
      (λ h. is_recorded_by i p inside (λ e. c.if-word-eq1.false (omega (arith, ruined, e))) (has.0 h)),
      (λ r.
          has.1 (by_inside i p c.requires inside (λ e. c.if-word-eq0.false (omega (arith, armed, e))) (λ e. c.if-word-eq1.false (omega (arith, ruined, e))) r)),
    )
