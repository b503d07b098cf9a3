-- Imports that two or more proof files about images share. Declares nothing.
pub use Rattle.std.proofs.Math.Seq.{take-append_seam, get_or-append_seam, drop-append_seam}
pub use Rattle.std.proofs.lemmas.Bool.{cases_Bool, cases_eq, cases_lt, false≢true}
pub use Rattle.std.proofs.lemmas.List.{length-map, get_or-map, get_or_default, take-append-le, map-append}
pub use Rattle.std.proofs.lemmas.Result.{IfOk-weaker, err_from_is_err_and, IfErr-weaker}
pub use Rattle.json.specs.Lex.{tokens, token, comma, colon, string_token, between, punctuate}
pub use Rattle.json.specs.Print.{print, escape, quoted, token_text, begins, ends, separator, IsPrintable}
pub use Rattle.serde_json.specs.Data.{array, object, Items, no_items, item, Members, no_members, member, null, number, unsigned, depth, items_depth}
pub use Rattle.serde_json.specs.Read.{read, max_depth, of_json}
pub use Rattle.serde_json.specs.View.{view, items_of, items_view, members_view}
pub use Rattle.rmecore.specs.declared.own.Own.{Own}
pub use Rattle.rmecore.specs.declared.refusal.Refusal.{Refusal}
pub use Rattle.rmecore.specs.declared.refusal.Refusal.TheVariants.{OutOfMemory, BadShape}
pub use Rattle.rmecore.specs.Lawful.{dead_phase, phase_by, start_of, is_ahead}
pub use Rattle.rmecore.specs.Simulated.{own_at, zeros}
pub use Rattle.redomail.specs.declared.layout.Layout.{Layout}
pub use Rattle.redomail.specs.Content.{IsContent, HeadsHold}
pub use Rattle.redomail.specs.Layout.{Words, size, words_of, row, last_at}
unfoldable pub use Rattle.redomail.specs.Layout.{place_at}
pub use Rattle.redomail.specs.Shape.{RecordRule, mailbox_of, entry, entries, recorded_message, IsNumbered, count_of, ListRule, Unshown, Shown}
pub use Rattle.redomail.proofs.Words.{place_low, entry-from_row}
pub use Rattle.judge.specs.Starts.{phase_in, is_named, IsNextMessage, AreNumbered, LockHolds, MailHolds, IsStart}
pub use Rattle.rmeworld.specs.declared.image.Image.{Image}
pub use Rattle.rmeworld.specs.ImageRules.{layout_of, IsLawfulImage, IsRecorded, KeepsRules, IsSized}
pub use Rattle.rmeworld.specs.ImageStart.{IsStartOf}
pub use Rattle.rmeworld.specs.ImageText.{whole_data, width_member, image_data, own_data, written_data, Spells, IsFirstBrokenAs, IsUnread}
pub use Rattle.rmeworld.specs.ImageWiden.{padded_words, widened_message, IsWider, shown_in}
pub use Rattle.rmeworld.specs.WideWords.{words_from, wide_place, wide_words}
