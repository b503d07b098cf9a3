-- What proof files of this crate cite from modules that two or more of them share, passed on from here. Declares nothing.
pub use Rattle.std.proofs.lemmas.List.Splits.{length-slice_split, join_with_byte-slice_split}
pub use Rattle.std.specs.List.{join_with_byte, AllByRecursion, flat_map}
pub use Rattle.schedule.specs.declared.lines.fault.LineFault.{LineFault}
pub use Rattle.schedule.specs.declared.lines.fault.LineFault.TheVariants.{NoHeader, NoNewline}
pub use Rattle.schedule.specs.Commands.{words_of_line, IsLine, line_at}
pub use Rattle.schedule.specs.Words.{parts_of, line_of, WordShape, has_fixed, numbers_at, words_of, ◌>>=◌}
pub use Rattle.schedule.specs.declared.texts.fault.TextFault.{TextFault}
pub use Rattle.schedule.specs.Headers.{HeaderForm, named_sizes, words_of_width, words_of_header, IsHeader, is_wide, size_places, width_places, header_places}
pub use Rattle.schedule.specs.Schedules.{Scheduled, head_at, schedule_at, scheduled_with, words_of_head, head_of, sizes_of, schedule_form, head_with, spelling, IsHead, IsScheduled}
pub use Rattle.schedule.specs.Texts.{Fails, on_line, Gives}
unfoldable pub use Rattle.schedule.specs.Texts.{text_at, items_at}
pub use Rattle.schedule.specs.Traces.{trace_head_at, Traced, words_of_trace_head, trace_head_of, trace_sizes, trace_form, trace_head_with, trace_spelling, IsTraceHead, IsTraced, traced_with, trace_at}
