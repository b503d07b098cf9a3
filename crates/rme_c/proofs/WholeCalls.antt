-- A whole unlock, of which both feeds are taken at once.
use Rattle.std.proofs.Common.{◌≡◌, ℕ, ◌<◌, ◌≤◌, Some, None, refl, sym, ap, ◌∙◌, subst, arith}
use Rattle.rme_c.proofs.Common.{Lock, RmeProcess, layout_of, machine_state_at, machine_state_of, position_of, stage_of, IsFed}
use Rattle.rme_c.proofs.RunSteps.{reached, drops}
use Rattle.rme_c.proofs.RunFeeds.{lands_at, leaves_next, fed_after}
use Rattle.rmecore.specs.Place.{Leaving, Unmarking}
use Rattle.rmecore.specs.declared.core_call.CoreCall.TheVariants as call
use Rattle.rmecore.specs.declared.stage.Stage.TheVariants as stage
use Rattle.rmeworld.specs.declared.call.Call.TheVariants as start
use Rattle.rme_c.specs.Codes.{code_after_step}
use Rattle.rme_c.specs.Starts.{size_cause, call_cause, first_of_causes}
use Rattle.rme_c.specs.declared.process.RmeAccess.{RmeAccess}
use Rattle.rme_c.specs.declared.process.RmePosition.{RmePosition}
use Rattle.rme_c.specs.declared.runs.AccessRun.TheVariants as run
use Rattle.rme_c.specs.Runs.{Counted, counted_of, fed_once, fed_zeros, after_start, IsNextRun, IsWholeCall}

-- after the start
abbrev pub begun : RmeProcess → RmeProcess
begun p = record p { barred = 0; steps = 0 }

module _ (p : RmeProcess) (here : position_of p ≡ Lock stage.Inside) (mended : p.unmended ≡ 0) where
  starts : after_start (machine_state_of p) start.Unlock ≡ reached (begun p) Leaving 0
  starts =
      let at : after_start (machine_state_at p (Lock stage.Inside)) start.Unlock ≡ reached (begun p) Leaving 0 = rw mended refl in
      ap (λ y. after_start (machine_state_at p y) start.Unlock) here ∙ at

  may_leave : call_cause (machine_state_of p) (Some start.Unlock) ≡ None
  may_leave = subst (λ y. call_cause (machine_state_at p y) (Some start.Unlock) ≡ None) (sym here) refl

  module _ (x : RmePosition) (q : RmeProcess) (b a : RmeAccess) (code : ℕ) (below : p.index < p.procs) (few : p.procs ≤ 64) (there : stage_of x ≡ Some (stage.Unmarking call.Unlock))
      (fed : IsFed (record (begun p) { position = x; steps = 1 }) 0 q b a code) where
    lands : counted_of (record (begun p) { position = x; steps = 1 }) ≡ reached (begun p) (Unmarking call.Unlock) 1
    lands = lands_at (begun p) (stage.Unmarking call.Unlock) x 1 below few there

    pub leaves : size_cause (layout_of p) p.limit p.index ≡ None → IsWholeCall (machine_state_of p) start.Unlock run.Leaves 1 q a code
    leaves sized =
        let made : counted_of (record (begun p) { position = x; steps = 1 }) ≡ fed_zeros 1 (after_start (machine_state_of p) start.Unlock) = lands ∙ sym (drops (begun p) 0 0 (omega arith)) ∙ ap (λ y. fed_once y 0) (sym starts) in
        record {
          allowed = ap (λ o. first_of_causes o (call_cause (machine_state_of p) (Some start.Unlock))) sized ∙ may_leave;
          run = subst (λ (y : Counted). IsNextRun y.machine p.procs p.index run.Leaves) (sym starts) (leaves_next (begun p));
          all = omega arith;
          fed = fed_after (record (begun p) { position = x; steps = 1 }) (fed_zeros 1 (after_start (machine_state_of p) start.Unlock)) 0 q b a code made fed;
        }

    pub unlocked : code ≡ 21
    unlocked = fed.reports ∙ ap (λ (y : Counted). code_after_step y.machine 0) lands
