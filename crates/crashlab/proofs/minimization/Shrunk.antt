-- Schedules that become shorter, one after another.
use Rattle.std.proofs.Common.{◌≡◌, Result, Ok, Err, IfOk, refl, sym, ap, ◌∙◌, subst, arith}
use Rattle.schedule.specs.declared.texts.head.Head.{Head}
use Rattle.schedule.specs.Schedules.{Scheduled}
use Rattle.crashlab.specs.minimization.Least.{IsSmaller, IsLike, IsNoLonger, IsShrunk}
use Rattle.crashlab.proofs.minimization.MadeOf.{made_self, made_on}

longer_on : (a b c : Scheduled) → IsNoLonger a b → IsNoLonger b c → IsNoLonger a c
longer_on a b c first second = record {
  head = second.head ∙ first.head;
  lines = omega (arith, first.lines, second.lines);
  steps = omega (arith, first.steps, second.steps);
}

procs_same : (a b : Scheduled) → IsNoLonger a b → a.procs ≡ b.procs
procs_same a b shorter = ap (λ (h : Head). h.procs) (sym shorter.head)

module _ (Wrong : Scheduled → Type 0) where
  pub like_self : (a : Scheduled) → Wrong a → IsLike Wrong a a
  like_self a wrong = record { shorter = record { head = refl; lines = omega arith; steps = omega arith }; made = made_self a; wrong = wrong }

  pub like_less : (a b c : Scheduled) → IsLike Wrong a b → IsSmaller Wrong b c → IsLike Wrong a c
  like_less a b c first less = record {
    shorter = longer_on a b c first.shorter less.shorter.no_longer;
    made = made_on a b c (procs_same a b first.shorter) first.made less.shorter.made;
    wrong = less.wrong;
  }

  pub like_copied : {E : Type 0} (a : Scheduled) (r : Result Scheduled E) → Wrong a → IfOk r (λ copy. copy ≡ a) → IfOk r (IsLike Wrong a)
  like_copied a (Ok b) wrong same = subst (IsLike Wrong a) (sym same) (like_self a wrong)
  like_copied a (Err e) wrong same = tt

  pub shrunk_on : {E : Type 0} (a b : Scheduled) (r : Result Scheduled E) → IsLike Wrong a b → IfOk r (IsShrunk Wrong b) → IfOk r (IsShrunk Wrong a)
  shrunk_on a b (Ok c) first shrunk = record {
    shorter = longer_on a b c first.shorter shrunk.shorter;
    made = made_on a b c (procs_same a b first.shorter) first.made shrunk.made;
    wrong = shrunk.wrong;
    least = shrunk.least;
  }
  shrunk_on a b (Err e) first shrunk = tt
