-- What proof files of this crate cite from modules that two or more of them share, passed on from here. Declares nothing.
pub use Rattle.std.specs.Fmt.{decimal}
pub use Rattle.std.specs.List.{join_with_byte}
pub use Rattle.schedule.specs.declared.lines.fault.LineFault.{LineFault}
pub use Rattle.schedule.specs.declared.lines.fault.LineFault.TheVariants.{NoHeader, NoNewline}
pub use Rattle.schedule.specs.declared.lines.line.Line.TheVariants.{Start, Step}
pub use Rattle.schedule.specs.Commands.{word_of, words_of_line, line_at}
pub use Rattle.schedule.specs.Words.{parts_of, line_of, spaced_numbers, words_of, ◌>>=◌}
pub use Rattle.schedule.specs.Schedules.{Scheduled, head_at, schedule_at, scheduled_with}
unfoldable pub use Rattle.schedule.specs.Texts.{text_at, items_at}
