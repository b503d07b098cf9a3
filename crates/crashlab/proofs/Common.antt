-- The names that two or more proof files of this crate cite, passed on from one place. Declares nothing.
pub use Rattle.std.proofs.lemmas.Bool.{cond_both}
pub use Rattle.std.proofs.lemmas.List.{length-replicate}
pub use Rattle.rmecore.specs.declared.access.Access.{Access}
pub use Rattle.rmecore.specs.declared.access.Access.TheVariants.{Load, Store}
pub use Rattle.rmecore.specs.declared.kind.Kind.{Kind}
pub use Rattle.rmecore.specs.declared.kind.Kind.TheVariants.{Get as Gets, Put as Puts, Take, Shut, Look, Weigh}
pub use Rattle.rmecore.specs.declared.own.Own.{Own}
pub use Rattle.rmecore.specs.declared.refusal.Refusal.{Refusal}
pub use Rattle.rmecore.specs.declared.stage.Stage.{Stage}
pub use Rattle.rmecore.specs.declared.word.Word.{Word}
pub use Rattle.rmecore.specs.declared.word.Word.TheVariants.{Data, Choosing, Number}
pub use Rattle.rmecore.specs.Machine.{access, kind_of, word_of, carried_value, place_of}
pub use Rattle.rmecore.specs.Place.{Place, next, Reread, Wait, Inside, is_before}
pub use Rattle.rmecore.specs.Simulated.{zeros, own_at}
pub use Rattle.rmecore.proofs.CoreSteps.{refill}
pub use Rattle.rmecore.proofs.Invariant.{eqb_self}
pub use Rattle.redomail.specs.declared.deed.Deed.{Deed}
pub use Rattle.redomail.specs.declared.layout.Layout.{Layout}
pub use Rattle.redomail.specs.declared.reply.Reply.{Reply}
pub use Rattle.redomail.specs.Layout.{last_at, IsLayout, words_of, size}
pub use Rattle.redomail.specs.Left.{script_left, Pending, job_after_word}
pub use Rattle.redomail.specs.Script.{Script, Get, Put, Done, tail}
pub use Rattle.judge.specs.Stands.{StandsAfter}
pub use Rattle.judge.specs.Table.{empty_state}
pub use Rattle.rmeworld.specs.declared.answer.Answer.{Answer}
pub use Rattle.rmeworld.specs.declared.call.Call.{Call}
pub use Rattle.rmeworld.specs.declared.call.Call.TheVariants.{Consistent}
pub use Rattle.rmeworld.specs.declared.script_state.ScriptState.{ScriptState}
pub use Rattle.rmeworld.specs.declared.script_state.ScriptState.TheVariants.{Free, Doing as Does}
pub use Rattle.rmeworld.specs.declared.outcome.Outcome.{Outcome}
pub use Rattle.rmeworld.specs.declared.purpose.Purpose.{Purpose}
pub use Rattle.rmeworld.specs.declared.purpose.Purpose.TheVariants.{Mending}
pub use Rattle.rmeworld.specs.WorldSteps.{ScanGoesOn}
pub use Rattle.rmeworld.specs.Answered.{by_script, answer_by, done_by}
pub use Rattle.rmeworld.specs.ScriptStates.{script_state_of, HasStep}
pub use Rattle.rmeworld.specs.Replayed.{list_of, mail_by, or_else, words_by, cells_by, the_deed}
pub use Rattle.rmeworld.specs.ProcessState.{Doing, ProcessState, WorldEvent, Begins, Falls, Moves, next_process_state, begun_from, only_process_state, process_after_script, outer_by}
pub use Rattle.rmeworld.specs.MachineState.{MachineState, access_by, process_state_of, IsSize, next_access, outcome, machine_after_start, process_state_after, IsAllowed, StoresOwn, job_left, world_event, InWords}
pub use Rattle.rmeworld.specs.World.{reading_of}
pub use Rattle.schedule.specs.declared.lines.line.Line.TheVariants.{Start}
pub use Rattle.schedule.specs.Schedules.{Scheduled}
pub use Rattle.crashlab.specs.declared.variants.change.Change.{Change}
pub use Rattle.crashlab.specs.declared.variants.change.Change.TheVariants.{Nothing, LeavesOut, Counts, Counted}
pub use Rattle.crashlab.specs.declared.variants.deviation.Deviation.{Deviation}
pub use Rattle.crashlab.specs.declared.variants.deviation.Deviation.TheVariants.{Straight, Dropping, Over}
pub use Rattle.crashlab.specs.declared.variants.judge_feed.MoveOutcome.TheVariants.{On}
pub use Rattle.crashlab.specs.declared.variants.variant.Variant.{Variant}
pub use Rattle.crashlab.specs.declared.variants.variant.Variant.TheVariants.{Right, NoLook, NoTies, Renumber, ExitOnCrash, CountUp, LastSkipped}
pub use Rattle.crashlab.specs.hunts.Found.{EndsMove, with_line, line_by}
pub use Rattle.crashlab.specs.variants.JudgeFeeds.{IsDeedGiven}
pub use Rattle.crashlab.specs.hunts.Hunts.{first_world, deeds_of_lines, IsPlayed}
pub use Rattle.crashlab.specs.variants.LockWorlds.{IsLockWorld}
pub use Rattle.crashlab.specs.variants.VariantRuns.{IsVariantRun, process_state_at}
pub use Rattle.crashlab.specs.variants.VariantScripts.{raised_count, counting_up, leaving_out}
pub use Rattle.crashlab.specs.variants.VariantProcessStates.{beside, variant_begun, variant_process_state, variant_outer, at_variant, variant_moved, variant_outer_by, variant_answer_by, variant_done_by, variant_answer_at, variant_done_at}
pub use Rattle.crashlab.specs.variants.VariantStands.{changed_script_state, changed_access, weigh_for_look, access_beside, is_put, VariantMachineState, variant_process_state_of, outside_at, over_by, over_way, silent_outcome, IsRightProcess, variant_resting, variant_crashed, variant_next_access, variant_stepped, stepped_beside, variant_outcome, outcome_beside, variant_started, change_of, changed_script, unless_answered, plain_outcome, by_row, last_put_next}
pub use Rattle.crashlab.specs.variants.VariantWorlds.{VariantState, machine_state_at, access_at, advance_refusal, unless_step, start_refusal, variant_step_report, variant_after_step, advanced_if, crash_deed, variant_after_crash, IsVariantConfigured, at_rest_from, new_world, found_by, HasVariantConfiguration, outcome_of, deeds_of, stepped_by, advanced_by, stepped_if}
pub use Rattle.crashlab.specs.variants.Variants.{variant_access, and_deviation}
