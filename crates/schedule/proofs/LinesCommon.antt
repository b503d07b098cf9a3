-- What proof files of this crate cite from modules that two or more of them share, passed on from here. Declares nothing.
pub use Rattle.std.proofs.lemmas.Bool.{cases_eq, cases_Bool, and_parts, and_from, or_cases, or_left, or_right, not-true, not-false, not_from_false, cond-true, cond-false}
pub use Rattle.std.proofs.lemmas.Fmt.{decimal_digit, digits_decimal, decimal-digits_value, decimal_nonempty, digits_value-decimal, first_decimal}
pub use Rattle.std.proofs.lemmas.Grind.{common_steps}
pub use Rattle.std.proofs.lemmas.List.Splits.{slice_split_first, slice_split_none, slice_split-cons_no, length-slice_split}
pub use Rattle.std.proofs.lemmas.Str.Parse.{IsNumeralModel, numerals_by_value, digits_value-take-le, digits_value_short, digit_at}
pub use Rattle.std.specs.Char.{is_ascii_digit, digit_value}
pub use Rattle.std.specs.Fmt.{decimal}
pub use Rattle.std.specs.List.{slice_split, position_or_len, onto_first, join_with_byte, AllByRecursion, list_all}
pub use Rattle.std.specs.Str.Parse.{digits_value, AllDigits}
pub use Rattle.schedule.specs.declared.lines.fault.LineFault.{LineFault}
pub use Rattle.schedule.specs.declared.lines.fault.LineFault.TheVariants.{TrailingText, BadNumber, TooBig}
pub use Rattle.schedule.specs.Commands.{word_of, words_of_line, IsLine, commands_by_name, places, line_with, line_at}
pub use Rattle.schedule.specs.Deeds.{deed_at, words_of_deed, IsDeed, deeds_by_name, deed_with}
pub use Rattle.schedule.specs.Words.{parts_of, line_of, WordShape, Number, any, repeated_shape, has_fixed, numbers_at, is_nil, spaced_numbers, words_of, first_of, value_of_name, item_named, item_at, ◌>>=◌, Fixed, is_numeral}
unfoldable pub use Rattle.schedule.specs.Words.{item_after, number_in}
