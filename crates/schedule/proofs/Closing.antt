-- The end of a report, and the whole report.
use Rattle.std.proofs.Common.{◌≡◌, ℕ, ◌+◌, ◌-◌, ◌^◌, min, List, [], ◌++◌, Option, Some, None, Err, refl, sym, ap, subst, ◌∙◌, append_assoc, ◌⊎◌, inl, inr, append-nil}
use Rattle.schedule.proofs.ReplaysCommon.{Refusal, Deed, Kept, Keeps, State, Image, RunningVerdict, ReplayFault, Text, Read, OutOfMemory, Refused, Write, Verdict, first_running_verdict, running_judge, with_more, heard_with, Hears, Tape}
use Rattle.schedule.proofs.ReplaysCommon.{Writes, BreaksOff, Ends, IsRefused, reports_text, owns_text, words_of_verdict, verdict_line, IsEnd, Part, deeds_of, verdict_on}
use Rattle.schedule.specs.Tapes.{Begins}
use Rattle.schedule.specs.Replays.{IsWholeReport, Reported, CutShort, Closes}
use Rattle.schedule.proofs.Heard.{no_more}
use Rattle.schedule.proofs.Playing.{begins_further, begins_wider, breaks_further, breaks_wider, breaks_nothing, none_after, line_some}

-- it is not empty
end_some : (image : Image) (verdict : Verdict) (end : List ℕ) → IsEnd image verdict end → end ≡ [] → ⊥
end_some image verdict end is none =
    line_some (words_of_verdict verdict) (none_after (owns_text 0 image.lock ++ is.0) (verdict_line verdict) (sym is.2 ∙ none))

-- out of memory for the page
pub closes_nothing : (t : Tape) (image : Image) (verdict : Verdict) → ((end : List ℕ) → IsEnd image verdict end → BreaksOff t.taken t.taken end) × (t.failures ≡ t.failures)
closes_nothing t image verdict = (λ end is. breaks_nothing t.taken end (end_some image verdict end is), refl)

-- ---- the whole

module _ {S : Type 0} (start : State) (image_of : S → Image) (run : Part S (ℕ × Refusal)) where
  all_text : (o : Option (ℕ × Refusal)) (text : List ℕ) → IsWholeReport start image_of run o text → (more : List ℕ) × (text ≡ reports_text run.reports ++ more)
  all_text None text all = (all.0, all.2)
  all_text (Some refusal) text all = ([], all ∙ sym (append-nil (reports_text run.reports)))

  all_begins : (old new : List ℕ) → Begins old new (reports_text run.reports) → (text : List ℕ) → IsWholeReport start image_of run run.refused text → Begins old new text
  all_begins old new begins text all =
      let a = all_text run.refused text all in
      rw a.1 (begins_wider old new (reports_text run.reports) a.0 begins)

  all_breaks : (old new : List ℕ) → BreaksOff old new (reports_text run.reports) → (text : List ℕ) → IsWholeReport start image_of run run.refused text → BreaksOff old new text
  all_breaks old new breaks text all =
      let a = all_text run.refused text all in
      rw a.1 (breaks_wider old new (reports_text run.reports) a.0 breaks)

  all_written : (before now : Tape) → Writes before now (reports_text run.reports) → Begins before.taken now.taken (reports_text run.reports)
  all_written before now writes = ([], record { front = reports_text run.reports; written = writes.taken; left = sym (append-nil (reports_text run.reports)) })

  -- the lines were not played to their end
  pub cut_lines : (before mid now : Tape) (fault : ReplayFault) → Ends before mid run fault → now.taken ≡ mid.taken → now.failures ≡ mid.failures
      → CutShort before now start image_of run fault
  cut_lines before mid now (Text line number) ends same fine = ends
  cut_lines before mid now (Refused line number) ends same fine =
      (record { taken = same ∙ ends.0.taken; fine = fine ∙ ends.0.fine }, ends.1)
  cut_lines before mid now Read ends same fine = ends
  cut_lines before mid now Write ends same fine = (rw same (all_begins before.taken mid.taken ends.0), fine ∙ ends.1)
  cut_lines before mid now OutOfMemory ends same fine = (rw same (all_breaks before.taken mid.taken ends.0), fine ∙ ends.1)

  -- and the sink failed when it was flushed
  pub cut_flush : (before mid now : Tape) (fault : ReplayFault) → Ends before mid run fault → IsRefused fault → now.taken ≡ mid.taken → now.failures ≡ min (mid.failures + 1) (2 ^ 64 - 1)
      → CutShort before now start image_of run Write
  cut_flush before mid now (Refused line number) ends is same grown =
      (rw same (all_begins before.taken mid.taken (all_written before mid ends.0)), rw (← ends.0.fine) grown)
  cut_flush before mid now _ ends is same grown = absurd is

  pub settled : (before mid now : Tape) (fault result : ReplayFault) → Ends before mid run fault → now.taken ≡ mid.taken
      → ((result ≡ fault) × (now.failures ≡ mid.failures)) ⊎ ((result ≡ Write) × (now.failures ≡ min (mid.failures + 1) (2 ^ 64 - 1)) × IsRefused fault)
      → CutShort before now start image_of run result
  settled before mid now fault result ends same (inl kept) = rw kept.0 (cut_lines before mid now fault ends same kept.1)
  settled before mid now fault result ends same (inr failed) = rw failed.0 (cut_flush before mid now fault ends failed.2 same failed.1)

  pub cut_end : (before mid now : Tape) (image : Image) (verdict : Verdict) (fault : ReplayFault) → Writes before mid (reports_text run.reports) → run.refused ≡ None
      → image ≡ image_of run.left → verdict ≡ verdict_on start (deeds_of run.reports) → Closes {A = Unit {0}} mid now image verdict (Err fault)
      → CutShort before now start image_of run fault
  cut_end before mid now image verdict (Text line number) writes accepted is ruled h = h
  cut_end before mid now image verdict (Refused line number) writes accepted is ruled h = absurd h
  cut_end before mid now image verdict Read writes accepted is ruled h = h
  cut_end before mid now image verdict Write writes accepted is ruled h = (
    rw accepted (λ text all. rw all.2 (begins_further before.taken mid.taken now.taken (reports_text run.reports) all.0 writes.taken (h.0 all.0 (rw (is, ruled) all.1)))),
    rw (← writes.fine) h.1,
  )
  cut_end before mid now image verdict OutOfMemory writes accepted is ruled h = (
    rw accepted (λ text all. rw all.2 (breaks_further before.taken mid.taken now.taken (reports_text run.reports) all.0 writes.taken (h.0 all.0 (rw (is, ruled) all.1)))),
    rw (← writes.fine) h.1,
  )

  -- out of memory for the image
  pub no_image : (before mid : Tape) → Writes before mid (reports_text run.reports) → run.refused ≡ None → CutShort before mid start image_of run OutOfMemory
  no_image before mid writes accepted =
      let image = image_of run.left in
      let verdict = verdict_on start (deeds_of run.reports) in
      cut_end before mid mid image verdict OutOfMemory writes accepted refl refl (closes_nothing mid image verdict)

  pub reported : (before mid now : Tape) (image : Image) (verdict : Verdict) → Writes before mid (reports_text run.reports) → run.refused ≡ None
      → image ≡ image_of run.left → verdict ≡ verdict_on start (deeds_of run.reports) → (end : List ℕ) × IsEnd image verdict end × Writes mid now end
      → Reported before now start image_of run verdict
  reported before mid now image verdict writes accepted is ruled h =
      record {
        accepted = accepted;
        verdict_is = ruled;
        text = reports_text run.reports ++ h.0;
        report = (h.0, rw (← is, ← ruled) h.1, refl);
        writes = record {
          taken = h.2.taken ∙ ap (λ (xs : List ℕ). xs ++ h.0) writes.taken ∙ append_assoc before.taken (reports_text run.reports) h.0;
          fine = h.2.fine ∙ writes.fine;
        };
      }

-- a refusal that is answered after a flush is the one of the run
pub still_refused : (old new : ℕ) (fault result : ReplayFault) → ((result ≡ fault) × (new ≡ old)) ⊎ ((result ≡ Write) × (new ≡ min (old + 1) (2 ^ 64 - 1)) × IsRefused fault)
    → IsRefused result → IsRefused fault
still_refused old new fault result (inl kept) is = subst IsRefused kept.0 is
still_refused old new fault result (inr failed) is = failed.2

-- an end is never refused
pub never_refused : (before now : Tape) (image : Image) (verdict : Verdict) (fault : ReplayFault) → Closes {A = Unit {0}} before now image verdict (Err fault) → IsRefused fault → ⊥
never_refused before now image verdict (Refused line number) h is = h
never_refused before now image verdict _ h is = is

-- the verdict on all deeds that were judged
pub ruled_on : (judge now : Kept) (first running_verdict : RunningVerdict) (deeds : List Deed) (start : State) → first ≡ first_running_verdict → Hears (running_judge judge first) deeds (running_judge now running_verdict) → Keeps judge start
    → running_verdict.verdict ≡ verdict_on start deeds
ruled_on judge now first running_verdict deeds start fresh hears keeps =
    let h = hears start (λ fine. keeps) in
    let ruled : with_more first.verdict first.number start (deeds ++ []) ≡ verdict_on start (deeds ++ []) = rw fresh refl in
    sym (no_more running_verdict.verdict running_verdict.number (heard_with first.verdict start deeds)) ∙ sym (h.1 []) ∙ ruled ∙ ap (verdict_on start) (append-nil deeds)
