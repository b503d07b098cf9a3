-- What is heard of a deed that the lock allows: the deed itself, and its phase in the abstract lock. A judge allows it too.
use Rattle.std.proofs.Common.{◌≡◌, ℕ, true, false, List, [], ◌∷◌, ◌++◌, Option, Some, None, Ok, refl, sym, ap, ◌∙◌, subst}
use Rattle.rmecore.specs.AbstractLock.{Abstract, Legal, abstract_after}
use Rattle.rmecore.specs.Needs.{put}
use Rattle.rmecore.specs.Turn.{Turn, Plain}
use Rattle.rmecore.specs.Place.{Place}
use Rattle.rmecore.specs.declared.outer.Outer.{Outer}
use Rattle.rmecore.specs.declared.outer.Outer.TheVariants as outers
use Rattle.rmecore.specs.declared.phase.Phase.{Phase}
use Rattle.rmecore.specs.declared.phase.Phase.TheVariants as phases
use Rattle.rmecore.proofs.Invariant.{put_same, put_other}
use Rattle.rmecore.proofs.Allowing.{Allows, needs_hold}
use Rattle.rmecore.proofs.Rows.{Allowed, after_deed}
use Rattle.redomail.specs.Mailbox.{nothing_shown}
use Rattle.redomail.specs.declared.deed.Deed.{Deed}
use Rattle.redomail.specs.declared.deed.Deed.TheVariants.{Outer as OuterDeed}
use Rattle.judge.specs.Legal.{judged_all}
use Rattle.judge.specs.Table.{State}
use Rattle.judge.proofs.Halves.{Allowed-halves, Leads-allowed, MailAllows-outers}
use Rattle.algorithm_lab.specs.Heard.{deeds_heard, doorway_reports, doorway_end_reports, phase_begun}
use Rattle.algorithm_lab.specs.Monitors.{answer_reports}
use Rattle.algorithm_lab.specs.Moves.{Said, Tells, Refuses, deed_report}
use Rattle.algorithm_lab.specs.Runs.{deeds_of}
use Rattle.algorithms.specs.declared.algorithm.Promises.{Promises}
use Rattle.algorithm_lab.specs.declared.run_report.TextReport.TheVariants.{Did}
use Rattle.algorithm_lab.proofs.BakeryPlaces.{noted_by}

abbrev pub promised : Promises
promised = record { most_inside = 1; reentry = true; order = true; progress = None; bounds = false }

-- no deed, or one of a step of p
abbrev pub OfStep : ℕ → Option Outer → Type 0
OfStep p None = Unit {0}
OfStep p (Some (outers.Begin q)) = q ≡ p
OfStep p (Some (outers.Ready q)) = q ≡ p
OfStep p (Some (outers.Enter q)) = q ≡ p
OfStep p (Some (outers.Crash q)) = ⊥
OfStep p (Some (outers.Reenter q)) = q ≡ p
OfStep p (Some (outers.Leave q)) = q ≡ p
OfStep p (Some (outers.Quit q)) = q ≡ p

plain_of : (p : ℕ) (d : Option Outer) → Plain p d → OfStep p d
plain_of p None h = tt
plain_of p (Some (outers.Begin q)) h = h
plain_of p (Some (outers.Ready q)) h = h
plain_of p (Some (outers.Quit q)) h = h
plain_of p (Some (outers.Enter q)) h = absurd h
plain_of p (Some (outers.Crash q)) h = absurd h
plain_of p (Some (outers.Reenter q)) h = absurd h
plain_of p (Some (outers.Leave q)) h = absurd h

pub of_turn : (p : ℕ) (s t : Place) (d : Option Outer) → Turn p s t d → OfStep p d
of_turn p s t d (Turn.Enters number unpassed looked from to is) = subst (OfStep p) (sym is) refl
of_turn p s t d (Turn.Reenters call seen from to is) = subst (OfStep p) (sym is) refl
of_turn p s t d (Turn.Exits from else is) = subst (OfStep p) (sym is) refl
of_turn p s t d (Turn.Same same is) = subst (OfStep p) (sym is) tt
of_turn p s t d (Turn.Else from to plain) = plain_of p d plain

-- what is heard of a step, in the phase of the abstract lock
pub hears : (n : ℕ) (a : Abstract) (p : ℕ) (phase : Phase) (d : Option Outer) → phase ≡ a.phase p → OfStep p d → Allowed n a d → deeds_heard promised p phase (noted_by d) ≡ record { reports = deed_report d; phase = (after_deed a d).phase p }
hears n a p phase None e of allowed = ap (λ x. record { reports = []; phase = x }) e
hears n a p phase (Some (outers.Begin q)) e of allowed =
    let out : phase ≡ phases.Out = e ∙ ap a.phase (sym of) ∙ allowed.1 in
    let after : (abstract_after a (outers.Begin q)).phase p ≡ phases.Door = ap (λ r. put a.phase q phases.Door r) (sym of) ∙ put_same a.phase q phases.Door in
    ap (λ x. record { reports = doorway_reports p x ++ []; phase = phase_begun x }) out ∙ ap (λ r. record { reports = Did (outers.Begin r) ∷ []; phase = phases.Door }) (sym of) ∙ ap (λ x. record { reports = Did (outers.Begin q) ∷ []; phase = x }) (sym after)
hears n a p phase (Some (outers.Ready q)) e of allowed =
    let out : phase ≡ phases.Door = e ∙ ap a.phase (sym of) ∙ allowed.1 in
    let after : (abstract_after a (outers.Ready q)).phase p ≡ phases.Ready = ap (λ r. put a.phase q phases.Ready r) (sym of) ∙ put_same a.phase q phases.Ready in
    ap (λ x. record { reports = doorway_end_reports p x ++ []; phase = phases.Ready }) out ∙ ap (λ r. record { reports = Did (outers.Ready r) ∷ []; phase = phases.Ready }) (sym of) ∙ ap (λ x. record { reports = Did (outers.Ready q) ∷ []; phase = x }) (sym after)
hears n a p phase (Some (outers.Enter q)) e of allowed =
    let after : (abstract_after a (outers.Enter q)).phase p ≡ phases.Inside = ap (λ r. put a.phase q phases.Inside r) (sym of) ∙ put_same a.phase q phases.Inside in
    ap (λ r. record { reports = Did (outers.Enter r) ∷ []; phase = phases.Inside }) (sym of) ∙ ap (λ x. record { reports = Did (outers.Enter q) ∷ []; phase = x }) (sym after)
hears n a p phase (Some (outers.Crash q)) e of allowed = absurd of
hears n a p phase (Some (outers.Reenter q)) e of allowed =
    let after : (abstract_after a (outers.Reenter q)).phase p ≡ phases.Inside = ap (λ r. put a.phase q phases.Inside r) (sym of) ∙ put_same a.phase q phases.Inside in
    ap (λ r. record { reports = Did (outers.Reenter r) ∷ []; phase = phases.Inside }) (sym of) ∙ ap (λ x. record { reports = Did (outers.Reenter q) ∷ []; phase = x }) (sym after)
hears n a p phase (Some (outers.Leave q)) e of allowed =
    let after : (abstract_after a (outers.Leave q)).phase p ≡ phases.Out = ap (λ r. put a.phase q phases.Out r) (sym of) ∙ put_same a.phase q phases.Out in
    ap (λ r. record { reports = Did (outers.Leave r) ∷ []; phase = phases.Out }) (sym of) ∙ ap (λ x. record { reports = Did (outers.Leave q) ∷ []; phase = x }) (sym after)
hears n a p phase (Some (outers.Quit q)) e of allowed =
    let after : (abstract_after a (outers.Quit q)).phase p ≡ phases.Out = ap (λ r. put a.phase q phases.Out r) (sym of) ∙ put_same a.phase q phases.Out in
    ap (λ r. record { reports = Did (outers.Quit r) ∷ []; phase = phases.Out }) (sym of) ∙ ap (λ x. record { reports = Did (outers.Quit q) ∷ []; phase = x }) (sym after)

-- no other phase changes
pub phase_kept : (a : Abstract) (p q : ℕ) (d : Option Outer) → OfStep p d → (q ≡ p → ⊥) → (after_deed a d).phase q ≡ a.phase q
phase_kept a p q None of ne = refl
phase_kept a p q (Some (outers.Begin r)) of ne = put_other a.phase r _ q (λ e. ne (e ∙ of))
phase_kept a p q (Some (outers.Ready r)) of ne = put_other a.phase r _ q (λ e. ne (e ∙ of))
phase_kept a p q (Some (outers.Enter r)) of ne = put_other a.phase r _ q (λ e. ne (e ∙ of))
phase_kept a p q (Some (outers.Crash r)) of ne = absurd of
phase_kept a p q (Some (outers.Reenter r)) of ne = put_other a.phase r _ q (λ e. ne (e ∙ of))
phase_kept a p q (Some (outers.Leave r)) of ne = put_other a.phase r _ q (λ e. ne (e ∙ of))
phase_kept a p q (Some (outers.Quit r)) of ne = put_other a.phase r _ q (λ e. ne (e ∙ of))

-- ---- a judge of the lock alone

abbrev pub judge_at : ℕ → Abstract → State
judge_at n a = record { procs = n; cap = 1; most_inside = 1; lock = a; mail = nothing_shown }

-- the deeds of a move
abbrev pub deeds_said : Said → List Deed
deeds_said (Tells reports) = deeds_of reports
deeds_said (Refuses number) = []

one_judged : (n : ℕ) (a : Abstract) (d : Outer) → Allows n a d → judged_all (judge_at n a) (OuterDeed d ∷ []) ≡ Ok (judge_at n (abstract_after a d))
one_judged n a d h =
    let legal : Legal n a (d ∷ []) = (needs_hold n a d h, tt) in
    Leads-allowed (judge_at n a) (OuterDeed d ∷ []) (Allowed-halves (judge_at n a) (OuterDeed d ∷ []) legal (MailAllows-outers n 1 a nothing_shown (d ∷ []) refl legal))

-- the deed of a step with its answer
pub step_judged : (n : ℕ) (a : Abstract) (p : ℕ) (d : Option Outer) (number : Option ℕ) → Allowed n a d → judged_all (judge_at n a) (deeds_of (deed_report d ++ answer_reports p number)) ≡ Ok (judge_at n (after_deed a d))
step_judged n a p None None h = refl
step_judged n a p None (Some number) h = refl
step_judged n a p (Some d) None h = one_judged n a d h
step_judged n a p (Some d) (Some number) h = one_judged n a d h
