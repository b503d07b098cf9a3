-- A run that is written step by step, and its end.
use Rattle.std.proofs.Common.{◌≡◌, ℕ, List, [], ◌++◌, Option, Some, None, Result, Ok, Err, refl, sym, ap, subst, ◌∙◌, append_assoc}
use Rattle.diagram.proofs.Common.{append-nil, Refusal, State, Image, ReplayFault, Verdict, Tape, Writes, Begins, BreaksOff, Part, deeds_of, verdict_on, begins_further, begins_wider, breaks_further, breaks_wider, breaks_nothing, End, Judged, Refused, WritesText}
use Rattle.diagram.proofs.Common.{WritesEnding, FollowsRun, IsAllFollowed, EndsAs, IsJudged}
use Rattle.schedule.specs.declared.replays.replay_fault.ReplayFault.TheVariants as faults
use Rattle.schedule.specs.Replays.{Closes}
use Rattle.schedule.specs.Reports.{IsEnd}

-- the end of the report is not written as a whole
pub not_closed : (t u : Tape) (image : Image) (verdict : Verdict) (fault : ReplayFault) → Closes {A = Unit {0}} t u image verdict (Err fault) → WritesEnding t u image (Judged verdict) (Err fault)
not_closed t u image verdict faults.Write h = h
not_closed t u image verdict faults.OutOfMemory h = h
not_closed t u image verdict _ h = absurd h

module _ {S : Type 0} (t u : Tape) (start : State) (image_of : S → Image) (run : Part S (ℕ × Refusal)) (steps : List ℕ) where
  -- a beginning of the steps is one of all that is written
  begins_all : (o : Option (ℕ × Refusal)) (text : List ℕ) → IsAllFollowed start image_of run o steps text → Begins t.taken u.taken steps → Begins t.taken u.taken text
  begins_all None text all h = rw all.2 (begins_wider t.taken u.taken steps all.0 h)
  begins_all (Some refusal) text all h = rw all h

  -- and what breaks off within them breaks off within all
  breaks_all : (o : Option (ℕ × Refusal)) (text : List ℕ) → IsAllFollowed start image_of run o steps text → BreaksOff t.taken u.taken steps → BreaksOff t.taken u.taken text
  breaks_all None text all h = rw all.2 (breaks_wider t.taken u.taken steps all.0 h)
  breaks_all (Some refusal) text all h = rw all h

  -- the steps are not written as a whole
  pub steps_fail : (fault : ReplayFault) → WritesText {A = Unit {0}} t u steps (Err fault) → FollowsRun t u start image_of run steps (Err fault)
  steps_fail faults.Write h = (λ text all. begins_all run.refused text all h.0, h.1)
  steps_fail faults.OutOfMemory h = (λ text all. breaks_all run.refused text all h.0, h.1)
  steps_fail _ h = absurd h

-- out of memory before any of the steps is written
pub none_followed : {S : Type 0} (t : Tape) (start : State) (image_of : S → Image) (run : Part S (ℕ × Refusal)) (steps : List ℕ) → (steps ≡ [] → ⊥) → FollowsRun t t start image_of run steps (Err faults.OutOfMemory)
none_followed t start image_of run steps some = (λ text all. breaks_all t t start image_of run steps run.refused text all (breaks_nothing t.taken steps some), refl)

-- all that is written is the steps, and then an end of this image and this verdict
ends_with : {S : Type 0} (start : State) (image_of : S → Image) (run : Part S (ℕ × Refusal)) (s : S) (steps : List ℕ) (verdict : Verdict) → run.refused ≡ None
    → verdict ≡ verdict_on start (deeds_of run.reports) → s ≡ run.left → (text : List ℕ) → IsAllFollowed start image_of run run.refused steps text
    → (end : List ℕ) × IsEnd (image_of s) verdict end × (text ≡ steps ++ end)
ends_with {S = S} start image_of run s steps verdict none judged left text all =
    let whole : IsAllFollowed start image_of run None steps text = subst (λ o. IsAllFollowed start image_of run o steps text) none all in
    let at : IsEnd (image_of s) (verdict_on start (deeds_of run.reports)) whole.0 = subst (λ (x : S). IsEnd (image_of x) (verdict_on start (deeds_of run.reports)) whole.0) (sym left) whole.1 in
    let here : IsEnd (image_of s) verdict whole.0 = subst (λ (said : Verdict). IsEnd (image_of s) said whole.0) (sym judged) at in
    (whole.0, here, whole.2)

-- the steps are written, and then the end
pub steps_end : {S : Type 0} (t u v : Tape) (start : State) (image_of : S → Image) (run : Part S (ℕ × Refusal)) (s : S) (steps : List ℕ) (end : End) (r : Result Verdict ReplayFault)
    → Writes t u steps → WritesEnding u v (image_of s) end r → EndsAs start run end → (IsJudged end → s ≡ run.left) → FollowsRun t v start image_of run steps r
steps_end {S = S} t u v start image_of run s steps (Judged verdict) (Ok said) written h ends left =
    let here : IsEnd (image_of run.left) verdict h.1.0 = subst (λ (x : S). IsEnd (image_of x) verdict h.1.0) (left tt) h.1.1 in
    record {
      accepted = ends.0;
      verdict_is = h.0 ∙ ends.1;
      text = steps ++ h.1.0;
      all = (h.1.0, subst (λ (v : Verdict). IsEnd (image_of run.left) v h.1.0) ends.1 here, refl);
      writes =
          record {
            taken = h.1.2.taken ∙ ap (λ (xs : List ℕ). xs ++ h.1.0) written.taken ∙ append_assoc t.taken steps h.1.0;
            fine = h.1.2.fine ∙ written.fine;
          };
    }
steps_end t u v start image_of run s steps (Judged verdict) (Err faults.Write) written h ends left = (
  λ text all.
      let a = ends_with start image_of run s steps verdict ends.0 ends.1 (left tt) text all in
      rw a.2 (begins_further t.taken u.taken v.taken steps a.0 written.taken (h.0 a.0 a.1)),
  rw (← written.fine) h.1,
)
steps_end t u v start image_of run s steps (Judged verdict) (Err faults.OutOfMemory) written h ends left = (
  λ text all.
      let a = ends_with start image_of run s steps verdict ends.0 ends.1 (left tt) text all in
      rw a.2 (breaks_further t.taken u.taken v.taken steps a.0 written.taken (h.0 a.0 a.1)),
  h.1 ∙ written.fine,
)
steps_end t u v start image_of run s steps (Refused line number verdict) (Err (faults.Refused at purpose)) written h ends left =
    (record { taken = h.2.taken ∙ append-nil u.taken ∙ written.taken; fine = h.2.fine ∙ written.fine }, rw (h.0, h.1) ends.0)
steps_end t u v start image_of run s steps (Refused line number verdict) (Err faults.Write) written h ends left = (
  λ text all.
      let same : text ≡ steps = subst (λ o. IsAllFollowed start image_of run o steps text) ends.0.1 all in
      rw same ([], record { front = steps; written = h.0 ∙ written.taken; left = sym (append-nil steps) }),
  rw (← written.fine) h.1,
)
steps_end t u v start image_of run s steps _ _ written h ends left = absurd h
