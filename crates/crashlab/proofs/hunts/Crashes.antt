-- A crash of all processes in a round of a hunt.
use Rattle.std.proofs.Common.{◌≡◌, ℕ, zero, suc, ◌≤◌, Bool, true, false, if◌then◌else◌, List, [], ◌∷◌, map, Ok, refl, sym, ap, ◌∙◌, arith}
use Rattle.std.specs.List.{range_with_len}
use Rattle.redomail.specs.declared.layout.Layout.{Layout}
use Rattle.judge.proofs.Histories.{judged_all-append}
use Rattle.judge.specs.Kept.{Kept}
use Rattle.judge.specs.Legal.{judged_all}
use Rattle.judge.specs.Stands.{Keeps}
use Rattle.judge.specs.Table.{State}
use Rattle.schedule.specs.declared.lines.line.Line.{Line}
use Rattle.schedule.specs.declared.lines.line.Line.TheVariants.{Step, Crash, CrashAll}
use Rattle.crashlab.proofs.Common.{Deed, empty_state, Start, Scheduled, Variant, with_line, first_world, deeds_of_lines, IsPlayed, VariantState, variant_after_step, crash_deed}
use Rattle.crashlab.specs.hunts.Hunts.{is_answered, after_steps, after_crashes, after_line, after_lines}
use Rattle.crashlab.specs.space.Spaces.{judge_by}
use Rattle.crashlab.proofs.hunts.Lines.{goes_on}
use Rattle.crashlab.proofs.space.JudgeTells.{judge_sized}
use Rattle.crashlab.proofs.space.SystemCrashes.{crashes_layout, HasHeard, heard_all}
use Rattle.crashlab.proofs.variants.LockWorlds.{advanced_layout}

-- after a history of three processes a judge is one of three
three : (history : List Deed) (s : State) → judged_all (empty_state 3 64) history ≡ Ok s → s.procs ≡ 3
three history s legal = ap (λ r. (judge_by (empty_state 3 64) r).procs) (sym legal) ∙ (judge_sized (empty_state 3 64) history).0

-- lines leave the sizes of a world

steps_layout : (s : VariantState) (p k : ℕ) → (after_steps s p k).layout ≡ s.layout
steps_layout s p zero = refl
steps_layout s p (suc k) = by (is_answered s p) (steps_layout (variant_after_step s p) p k ∙ advanced_layout s p)
  where
    by : (b : Bool) → (after_steps (variant_after_step s p) p k).layout ≡ s.layout → (if b then variant_after_step s p else after_steps (variant_after_step s p) p k).layout ≡ s.layout
    by true rest = advanced_layout s p
    by false rest = rest

line_layout : (s : VariantState) (line : Line) → (after_line s line).layout ≡ s.layout
line_layout s (Start p call) = refl
line_layout s (Step p k) = steps_layout s p k
line_layout s (Crash p) = refl
line_layout s CrashAll = crashes_layout s 0 s.layout.procs

lines_layout : (s : VariantState) (lines : List Line) → (after_lines s lines).layout ≡ s.layout
lines_layout s [] = refl
lines_layout s (line ∷ lines) = lines_layout (after_line s line) lines ∙ line_layout s line

-- all processes have crashed, and the judge was given that
pub system_crash_ends : (variant : Variant) (schedule : Scheduled) (world : VariantState) (judge : Kept) → IsPlayed variant schedule world judge
    → (next : VariantState) → next ≡ after_crashes world 0 world.layout.procs → (p : ℕ) (later : Kept) → world.layout.procs ≤ p
    → ((s : State) → Keeps judge s → world.layout.procs ≤ s.procs → HasHeard s world.layout.procs p later) → IsPlayed variant (with_line schedule CrashAll) next later
system_crash_ends variant schedule world judge played next to p later past hears =
    let history = deeds_of_lines (first_world variant) schedule.lines in
    let s = played.stands.state in
    let procs : world.layout.procs ≡ 3 = ap (λ (w : VariantState). w.layout.procs) played.reached ∙ ap (λ (l : Layout). l.procs) (lines_layout (first_world variant) schedule.lines) in
    let own : played.stands.state.procs ≡ 3 = three history s played.stands.legal in
    let few : world.layout.procs ≤ played.stands.state.procs = omega (arith, procs, own) in
    let may : world.layout.procs ≤ 64 = omega (arith, procs) in
    let deeds = map crash_deed (range_with_len 0 world.layout.procs) in
    let heard = hears s played.stands.kept few in
    goes_on variant schedule world judge played CrashAll may next deeds later to refl (record {
      state = heard.state;
      legal = judged_all-append (empty_state 3 64) s history deeds played.stands.legal ∙ heard_all s world.layout.procs p later past heard;
      kept = heard.keeps;
    })
