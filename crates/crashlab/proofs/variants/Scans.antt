-- The next step of a process of Right, with nothing changed.
use Rattle.std.proofs.Common.{◌≡◌, ℕ, Some, None, sym, ap, ◌∙◌, subst}
use Rattle.crashlab.proofs.Common.{Access, words_of, Outcome, ScanGoesOn, mail_by, or_else, the_deed, outcome, IsRightProcess, VariantState, machine_state_at, variant_step_report, found_by, outcome_of, stepped_if, access_beside, outcome_beside, VariantMachineState, variant_next_access, next_access}
use Rattle.rmecore.specs.declared.scan.Scan.{Scan}
use Rattle.rmeworld.proofs.Advancing.{scan_is_silent, scan_ends_nothing}

pub plain_next : (t : VariantMachineState) (a : Access) → IsRightProcess t → next_access t.machine_state ≡ Some a → variant_next_access t ≡ Some a
plain_next t a plain next = ap (λ variant. access_beside variant t.deviation t.change t.machine_state) plain.variant ∙ next

-- a step of a scan is silent: it has no deed, and ends no call
pub scan_tells : (s : VariantState) (p : ℕ) (scan : Scan) (a : Access) → IsRightProcess (machine_state_at s.processes p) → ScanGoesOn (machine_state_at s.processes p).machine_state scan a → ((variant_step_report s p).deed ≡ None) × ((variant_step_report s p).answer ≡ None)
scan_tells s p scan a plain goes =
    let t = machine_state_at s.processes p in
    let what : outcome_of s p a ≡ outcome t.machine_state (Some a) (found_by s a) = ap (λ variant. outcome_beside variant t.deviation t (found_by s a)) plain.variant ∙ ap (λ o. outcome t.machine_state o (found_by s a)) goes.next in
    subst (λ o. ((stepped_if s p o).deed ≡ None) × ((stepped_if s p o).answer ≡ None)) (sym (plain_next t a plain goes.next)) (
      ap (λ (o : Outcome). the_deed (or_else o.progress.outer (mail_by s.layout p (words_of s.cells) a))) what ∙ ap the_deed (scan_is_silent t.machine_state scan a s.layout p (words_of s.cells) (found_by s a) goes),
      ap (λ (o : Outcome). o.answer) what ∙ (scan_ends_nothing t.machine_state scan a (found_by s a) goes).2,
    )
