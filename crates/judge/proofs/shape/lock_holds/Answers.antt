use Rattle.std.proofs.Common.{◌≡◌, ◌∙◌, ℕ, List, length, count_by, All, not, true, ap, subst, sym, arith}
use Rattle.std.specs.List.{list_any}
use Rattle.std.proofs.lemmas.Bool.{leb-true, le-leb}
use Rattle.judge.proofs.Common.{false≢true, length-map, Phase, is_inside, is_dead_in, is_ready, phase_in}
use Rattle.judge.proofs.shape.lock_holds.Goals as goal
use Rattle.judge.proofs.shape.lock_holds.Goals.{then-phases-start-via-then-phases-start, then-phases-start-via-else-phases-start+then-sets-start}
use Rattle.judge.proofs.shape.lock_holds.Goals.{then-not-anyone_inside, else-not-anyone_inside}

abbrev AllReady : List Phase → List (List ℕ) → Type 0
AllReady phases sets = All (All (λ q. is_ready (phase_in phases q) ≡ true)) sets

pub returns-then-phases-start : goal.returns-then-phases-start
returns-then-phases-start c = (
  λ e. absurd (false≢true e),
  λ holds. elim c.then-phases-start.branch [
    | then-phases-start-via-then-phases-start w ↦ absurd (w.if-phases-start.true (ap length c.as_slice-phases.ensures ∙ holds.phases))
    | then-phases-start-via-else-phases-start+then-sets-start w ↦
        (let many = length-map {B = List ℕ} c.as_slice-sets.result.now (λ names. names.items) in
        absurd (w.if-sets-start.true (omega (arith, many, ap length c.as_slice-sets.ensures, holds.ahead))))
  ],
)

pub returns-then-count_dead_in-le1 : goal.returns-then-count_dead_in-le1
returns-then-count_dead_in-le1 c =
    let start = c.args.start.now in
    let phases = c.as_slice-phases.result.now in
    let many = length-map {B = List ℕ} c.as_slice-sets.result.now (λ names. names.items) in (
      λ e. elim c.if-not-anyone_inside.branch [
        | then-not-anyone_inside w ↦ record {
          phases = ap length (sym c.as_slice-phases.ensures) ∙ c.if-phases-start.false;
          ahead = omega (arith, many, ap length c.as_slice-sets.ensures, c.if-sets-start.false);
          nobody_in = ap (list_any is_inside) (sym c.as_slice-phases.ensures) ∙ (sym c.anyone_inside.ensures ∙ w.if-not-anyone_inside.true);
          one_dead =
              let few = leb-true w.count_dead_in.result 1 (sym w.value-is ∙ c.if-count_dead_in-le1.true) in
              omega (arith, few, w.count_dead_in.ensures, ap (count_by is_dead_in) c.as_slice-phases.ensures);
          all_ready = subst (λ ps. AllReady ps start.ahead) c.as_slice-phases.ensures (subst (AllReady phases) c.as_slice-sets.ensures (c.all_sets_ready.ensures.0 e));
        }
        | else-not-anyone_inside w ↦ absurd (false≢true (sym (w.value-is ∙ ap not w.if-not-anyone_inside.false) ∙ c.if-count_dead_in-le1.true))
      ],
      λ holds. c.all_sets_ready.ensures.1 (subst (AllReady phases) (sym c.as_slice-sets.ensures) (subst (λ ps. AllReady ps start.ahead) (sym c.as_slice-phases.ensures) holds.all_ready)),
    )

pub returns-else-count_dead_in-le1 : goal.returns-else-count_dead_in-le1
returns-else-count_dead_in-le1 c = (
  λ e. absurd (false≢true (sym c.if-count_dead_in-le1.false ∙ e)),
  λ holds. elim c.if-not-anyone_inside.branch [
    | then-not-anyone_inside w ↦
        w.value-is ∙ le-leb w.count_dead_in.result 1 (omega (arith, holds.one_dead, w.count_dead_in.ensures, ap (count_by is_dead_in) c.as_slice-phases.ensures))
    | else-not-anyone_inside w ↦
        (let nobody = ap (list_any is_inside) c.as_slice-phases.ensures ∙ holds.nobody_in in
        absurd (false≢true (sym nobody ∙ (sym c.anyone_inside.ensures ∙ w.if-not-anyone_inside.false))))
  ],
)
