-- What each call of a machine preserves, together with what is reported, the run of a schedule preserves.
use Rattle.std.proofs.Common.{◌≡◌, ℕ, zero, suc, ◌+◌, false, is_some, List, [], ◌∷◌, ◌++◌, Option, Some, None, refl, sym, subst, inl, inr, append_assoc, append-nil}
use Rattle.schedule.proofs.ReplaysCommon.{cases_Bool, Refusal, Call, Stepped, Line, Start, Step, Crash, CrashAll, crashes_in_a_row, reports_by, transitions_of, Part, LockReport, Did, reports_of, Behaviour, unless, part_after_line, steps, line_on, run_on}

accepted : (o : Option Refusal) → is_some o ≡ false → o ≡ None
accepted None e = refl
accepted (Some refusal) e = cc

module _ {S : Type 0} (b : Behaviour S) (P : S → List LockReport → Type 0) where
  -- each call preserves it, with what it reports
  pub record IsKept : Type 0 where
    pub started : (s : S) (h : List LockReport) (p : ℕ) (call : Call) → P s h → b.start_refusal s p call ≡ None → P (b.started s p call) h
    pub advanced : (s : S) (h : List LockReport) (p : ℕ) → P s h → b.advance_refusal s p ≡ None → P (b.advanced s p) (h ++ reports_of p (b.stepped s p).deed (b.stepped s p).answer)
    pub crashed : (s : S) (h : List LockReport) (p : ℕ) → P s h → b.crash_refusal s p ≡ None → P (b.crashed s p) (h ++ Did (b.crash_deed s p) ∷ [])

  nothing_more : (s : S) (h : List LockReport) → P s h → P s (h ++ [])
  nothing_more s h now = subst (P s) (sym (append-nil h)) now

  steps_keep : (p n : ℕ) (s : S) (h : List LockReport) → IsKept → P s h → P (steps b p n s).1 (h ++ (steps b p n s).0)
  unfolding steps
  steps_keep p zero s h keeps now = nothing_more s h now
  steps_keep p (suc n) s h keeps now =
      let step : Stepped = b.stepped s p in
      let reports : List LockReport = reports_of p step.deed step.answer in
      elim (cases_Bool (is_some (b.advance_refusal s p))) [
        | inl e ↦ rw e (nothing_more s h now)
        | inr e ↦
            let on : P (b.advanced s p) (h ++ reports) = keeps.advanced s h p now (accepted (b.advance_refusal s p) e) in
            elim (cases_Bool (is_some step.answer)) [
              | inl f ↦ rw (e, f) (subst (λ list. P (b.advanced s p) (h ++ list)) (sym (append-nil reports)) on)
              | inr f ↦
                  let more = steps b p n (b.advanced s p) in
                  rw (e, f) (subst (P more.1) (append_assoc h reports more.0) (steps_keep p n (b.advanced s p) (h ++ reports) keeps on))
            ]
      ]

  crashes_keep : (p n : ℕ) (s : S) (h : List LockReport) → IsKept → P s h
      → P (crashes_in_a_row (transitions_of b) reports_by p n s).1 (h ++ (crashes_in_a_row (transitions_of b) reports_by p n s).0)
  unfolding crashes_in_a_row
  crashes_keep p zero s h keeps now = nothing_more s h now
  crashes_keep p (suc n) s h keeps now =
      let fell : List LockReport = Did (b.crash_deed s p) ∷ [] in
      elim (cases_Bool (is_some (b.crash_refusal s p))) [
        | inl e ↦ rw e (nothing_more s h now)
        | inr e ↦
            let on : P (b.crashed s p) (h ++ fell) = keeps.crashed s h p now (accepted (b.crash_refusal s p) e) in
            let more = crashes_in_a_row (transitions_of b) reports_by (p + 1) n (b.crashed s p) in
            rw e (subst (P more.1) (append_assoc h fell more.0) (crashes_keep (p + 1) n (b.crashed s p) (h ++ fell) keeps on))
      ]

  pub line_keeps : (s : S) (h : List LockReport) (line : Line) → IsKept → P s h → P (line_on b s line).left (h ++ (line_on b s line).reports)
  unfolding line_on
  line_keeps s h (Start p call) keeps now = by (b.start_refusal s p call) refl
    where
      by : (o : Option Refusal) → b.start_refusal s p call ≡ o → P (unless o s [] (b.started s p call)).left (h ++ (unless o s [] (b.started s p call)).reports)
      by None may = nothing_more (b.started s p call) h (keeps.started s h p call now may)
      by (Some refusal) refused = nothing_more s h now
  line_keeps s h (Step p n) keeps now = steps_keep p n s h keeps now
  line_keeps s h (Crash p) keeps now = by (b.crash_refusal s p) refl
    where
      by : (o : Option Refusal) → b.crash_refusal s p ≡ o → P (unless o s (Did (b.crash_deed s p) ∷ []) (b.crashed s p)).left (h ++ (unless o s (Did (b.crash_deed s p) ∷ []) (b.crashed s p)).reports)
      by None may = keeps.crashed s h p now may
      by (Some refusal) refused = nothing_more s h now
  line_keeps s h CrashAll keeps now = crashes_keep 0 64 s h keeps now

  followed_keeps : (k : ℕ) (part : Part S Refusal) (o : Option Refusal) (rest : Part S (ℕ × Refusal)) (h : List LockReport) → P part.left (h ++ part.reports) → P rest.left ((h ++ part.reports) ++ rest.reports)
      → P (part_after_line k part o rest).left (h ++ (part_after_line k part o rest).reports)
  followed_keeps k part None rest h here later = subst (P rest.left) (append_assoc h part.reports rest.reports) later
  followed_keeps k part (Some refusal) rest h here later = here

  pub run_keeps : (k : ℕ) (s : S) (h : List LockReport) (lines : List Line) → IsKept → P s h → P (run_on b k s lines).left (h ++ (run_on b k s lines).reports)
  unfolding run_on
  run_keeps k s h [] keeps now = nothing_more s h now
  run_keeps k s h (line ∷ lines) keeps now =
      let part : Part S Refusal = line_on b s line in
      let here = line_keeps s h line keeps now in
      followed_keeps k part part.refused (run_on b (k + 1) part.left lines) h here (run_keeps (k + 1) part.left (h ++ part.reports) lines keeps here)
