-- First come, first served: a process that is ready when another begins enters or quits before that one enters.
use Rattle.std.proofs.Common.{◌≡◌, ℕ, zero, suc, ◌<◌, true, false, List, [], ◌∷◌, sym, ◌∙◌, ap, subst, inl, inr, arith}
use Rattle.judge.proofs.Common.{Begin, Enter, Quit, is_ready, AllHold, put_same, Deed, doer, NoneBefore, IsDeedAt, NoneBetween, GoneBefore, IsEndOf, IsGoneOf, GoneBetween, FirstComeFirstServed, State}
use Rattle.judge.proofs.Common.{needs, after}
use Rattle.redomail.specs.declared.deed.Deed.TheVariants as deed
use Rattle.rmecore.specs.declared.phase.Phase.TheVariants as phase
use Rattle.judge.proofs.Steps.{Allowed, with_one_inside, put_cases, none_below-at, procs-after, doer_below, ready_stays, is_gone, is_end_while_ready}

-- the same, one deed later
later : (d : Deed) (ds : List Deed) (p e : ℕ) → (IsEndOf p d → ⊥) → GoneBefore ds p e → GoneBefore (d ∷ ds) p (suc e)
later d ds p e silent w = record {
  place = suc w.place;
  before = omega (arith, w.before);
  gone = w.gone;
  same = none_before d ds p w.place silent w.same;
} where
  none_before : (d : Deed) (ds : List Deed) (p k : ℕ) → (IsEndOf p d → ⊥) → NoneBefore ds k (IsEndOf p) → NoneBefore (d ∷ ds) (suc k) (IsEndOf p)
  none_before d ds p k silent none zero l h = silent h
  none_before d ds p k silent none (suc j) l h = none j (omega arith) h

first : (d : Deed) (ds : List Deed) (p e : ℕ) → IsGoneOf p d → GoneBefore (d ∷ ds) p (suc e)
first d ds p e here = record { place = 0; before = omega arith; gone = here; same = λ k l h. absurd (omega arith) }

-- q waits for p until p enters or quits
ahead_stays : (s : State) (d : Deed) (p q : ℕ) → s.lock.phase p ≡ phase.Ready → s.lock.ahead q p ≡ true → (IsGoneOf p d → ⊥) → (after s d).lock.ahead q p ≡ true
ahead_stays s (deed.Outer (Begin r)) p q e a other =
    put_cases s.lock.ahead r q (λ k. is_ready (s.lock.phase k)) (λ f. f p ≡ true) (λ _. ap is_ready e) (λ _. a)
ahead_stays s (deed.Outer (Enter r)) p q e a other =
    put_cases (s.lock.ahead q) r p false (λ b. b ≡ true) (λ same. absurd (other (inl (ap (λ k. deed.Outer (Enter k)) (sym same))))) (λ _. a)
ahead_stays s (deed.Outer (Quit r)) p q e a other =
    put_cases (s.lock.ahead q) r p false (λ b. b ≡ true) (λ same. absurd (other (inr (ap (λ k. deed.Outer (Quit k)) (sym same))))) (λ _. a)
ahead_stays s _ p q e a other = a

-- p is ready and q waits for it: p enters or quits before q enters
pub gone_ahead : (s : State) (p q : ℕ) (ds : List Deed) (e : ℕ) → p < s.procs → s.lock.phase p ≡ phase.Ready → s.lock.ahead q p ≡ true → Allowed (with_one_inside s) ds → IsDeedAt ds e (deed.Outer (Enter q)) → GoneBefore ds p e
gone_ahead s p q [] e lp r a ok here = absurd here
gone_ahead s p q (d ∷ ds) zero lp r a ok here =
    let P : Deed → Type 0 = λ k. AllHold (needs (with_one_inside s) k) in
    let g : AllHold (needs (with_one_inside s) (deed.Outer (Enter q))) = subst P here ok.0 in
    absurd (none_below-at s.procs (s.lock.ahead q) p g.1.1.1.1.0 lp a)
gone_ahead s p q (d ∷ ds) (suc e) lp r a ok here =
    elim (is_gone p d) [
      | inl it ↦ first d ds p e it
      | inr other ↦
          later d ds p e (is_end_while_ready s d p ok.0 r other)
          (gone_ahead (after s d) p q ds e (rw (procs-after s d) lp) (ready_stays s d p ok.0 r other) (ahead_stays s d p q r a other) ok.1 here)
    ]

-- p is ready, and q begins at b and enters at e: p enters or quits before e
pub gone_first : (s : State) (p q : ℕ) (ds : List Deed) (b e : ℕ) → p < s.procs → s.lock.phase p ≡ phase.Ready → Allowed (with_one_inside s) ds → IsDeedAt ds b (deed.Outer (Begin q)) → b < e → IsDeedAt ds e (deed.Outer (Enter q)) → GoneBefore ds p e
gone_first s p q [] b e lp r ok begins l here = absurd here
gone_first s p q (d ∷ ds) b zero lp r ok begins l here = absurd (omega arith)
gone_first s p q (d ∷ ds) zero (suc e) lp r ok begins l here =
    let P : Deed → Type 0 = λ k. (after s k).lock.ahead q p ≡ true in
    let a : (after s d).lock.ahead q p ≡ true = subst P (sym begins) (ap (λ f. f p) (put_same s.lock.ahead q (λ k. is_ready (s.lock.phase k))) ∙ ap is_ready r) in
    let other : IsGoneOf p d → ⊥ = λ gone. let Q : Deed → Type 0 = λ k. IsGoneOf p k in begin_is_no_gone q p (subst Q begins gone) in
    later d ds p e (is_end_while_ready s d p ok.0 r other)
    (gone_ahead (after s d) p q ds e (rw (procs-after s d) lp) (ready_stays s d p ok.0 r other) a ok.1 here)
  where
    begin_is_no_gone : (q p : ℕ) → IsGoneOf p (deed.Outer (Begin q)) → ⊥
    begin_is_no_gone q p (inl e) = cc
    begin_is_no_gone q p (inr e) = cc
gone_first s p q (d ∷ ds) (suc b) (suc e) lp r ok begins l here =
    elim (is_gone p d) [
      | inl it ↦ first d ds p e it
      | inr other ↦
          later d ds p e (is_end_while_ready s d p ok.0 r other)
          (gone_first (after s d) p q ds b e (rw (procs-after s d) lp) (ready_stays s d p ok.0 r other) ok.1 begins (omega arith) here)
    ]

-- from positions after the first deed to positions in the whole list
whole : (d : Deed) (ds : List Deed) (p e : ℕ) → GoneBefore ds p e → GoneBetween (d ∷ ds) p 0 (suc e)
whole d ds p e w = record {
  place = suc w.place;
  later = omega arith;
  before = omega (arith, w.before);
  gone = w.gone;
  same = none_between d ds p w.place w.same;
} where
  none_between : (d : Deed) (ds : List Deed) (p k : ℕ) → NoneBefore ds k (IsEndOf p) → NoneBetween (d ∷ ds) 0 (suc k) (IsEndOf p)
  none_between d ds p k none zero a b h = absurd (omega arith)
  none_between d ds p k none (suc j) a b h = none j (omega arith) h

moved_on : (d : Deed) (ds : List Deed) (p i e : ℕ) → GoneBetween ds p i e → GoneBetween (d ∷ ds) p (suc i) (suc e)
moved_on d ds p i e w = record {
  place = suc w.place;
  later = omega (arith, w.later);
  before = omega (arith, w.before);
  gone = w.gone;
  same = none_between d ds p i w.place w.same;
} where
  none_between : (d : Deed) (ds : List Deed) (p i k : ℕ) → NoneBetween ds i k (IsEndOf p) → NoneBetween (d ∷ ds) (suc i) (suc k) (IsEndOf p)
  none_between d ds p i k none zero a b h = absurd (omega arith)
  none_between d ds p i k none (suc j) a b h = none j (omega arith) (omega arith) h

pub FirstComeFirstServed-from_allowed : (s : State) (ds : List Deed) → Allowed (with_one_inside s) ds → FirstComeFirstServed ds
FirstComeFirstServed-from_allowed s [] ok p q r b e readies l begins m none here = absurd here
FirstComeFirstServed-from_allowed s (d ∷ ds) ok p q r zero e readies l begins m none here = absurd (omega arith)
FirstComeFirstServed-from_allowed s (d ∷ ds) ok p q r (suc b) zero readies l begins m none here = absurd (omega arith)
FirstComeFirstServed-from_allowed s (d ∷ ds) ok p q zero (suc b) (suc e) readies l begins m none here =
    let P : Deed → Type 0 = λ k. (after s k).lock.phase p ≡ phase.Ready in
    let Q : Deed → Type 0 = λ k. doer k < s.procs in
    let ready : (after s d).lock.phase p ≡ phase.Ready = subst P (sym readies) (put_same s.lock.phase p phase.Ready) in
    let lp : p < s.procs = subst Q readies (doer_below (with_one_inside s) d ok.0) in
    whole d ds p e (gone_first (after s d) p q ds b e (rw (procs-after s d) lp) ready ok.1 begins (omega arith) here)
FirstComeFirstServed-from_allowed s (d ∷ ds) ok p q (suc r) (suc b) (suc e) readies l begins m none here =
    moved_on d ds p r e (FirstComeFirstServed-from_allowed (after s d) ds ok.1 p q r b e readies (omega arith) begins (omega arith)
    (λ k a c. none (suc k) (omega arith) (omega arith)) here)
