-- The deeds that lines note, in a draft and in its algorithm.
use Rattle.std.proofs.Common.{◌≡◌, ℕ, Bool, true, false, cond, not, ◌&&◌, Option, Some, None, slice_get, refl, sym, ap, ◌∙◌, subst, arith}
use Rattle.std.specs.Option.{option_map}
use Rattle.std.proofs.lemmas.Option.{slice_get-map, same_Some, none-some}
use Rattle.algorithms.specs.declared.algorithm.Algorithm.{Algorithm}
use Rattle.algorithms.specs.declared.line.AlgorithmDeed.{AlgorithmDeed}
use Rattle.algorithms.specs.declared.line.AlgorithmLine.{AlgorithmLine}
use Rattle.algorithms.specs.declared.line.LineKind.{LineKind}
use Rattle.algorithms.specs.declared.line.LineKind.TheVariants.{Access, Local, Done}
use Rattle.algorithms.specs.declared.line.LocalLine.TheVariants.{Assign, AssignRow, Note, Goto, Branch, First, Next}
use Rattle.algorithms.specs.Deeds.{IsLineOf, SaysDeed}
use Rattle.algorithm_texts.specs.Drafts.{Noting, Ending, PlacedLine, Drafted, form_of, line_of, lines_of}
use Rattle.algorithm_texts.specs.FinishedDrafts.{is_in, is_way}
use Rattle.algorithm_texts.specs.Lawful.{NotesDeed}
use Rattle.algorithm_texts.specs.UnreachedLines.{ended_line, EndUnreached}
use Rattle.algorithm_texts.proofs.Falls.{at_ended, old_line}

-- a line that notes a deed is no way
noted_kept : (mark : Bool) (old : PlacedLine) (deed : AlgorithmDeed) → old.form ≡ Noting deed → ended_line mark old ≡ old
noted_kept true old deed e = refl
noted_kept false old deed e = ap (λ b. cond b (record { number = old.number; form = Ending 0 }) old) (ap is_way e)

note_of : (mark : Bool) (way : Bool) (old : PlacedLine) (deed : AlgorithmDeed)
    → (cond (not mark && way) (record { number = old.number; form = Ending 0 }) old).form ≡ Noting deed → old.form ≡ Noting deed
note_of true way old deed e = e
note_of false true old deed e = absurd (cc)
note_of false false old deed e = e

form_noted : (form : LineKind) (deed : AlgorithmDeed) → form_of form ≡ Noting deed → form ≡ Local (Note deed)
form_noted (Access a) deed e = absurd (cc)
form_noted (Local (Assign name value)) deed e = absurd (cc)
form_noted (Local (AssignRow row elements value)) deed e = absurd (cc)
form_noted (Local (Note other)) deed e = cc
form_noted (Local (Goto place)) deed e = absurd (cc)
form_noted (Local (Branch condition otherwise)) deed e = absurd (cc)
form_noted (Local (First name members after)) deed e = absurd (cc)
form_noted (Local (Next name members body)) deed e = absurd (cc)
form_noted (Done answer) deed e = absurd (cc)

-- what the algorithm says the draft notes
pub noted_of : (d : Drafted) (a : Algorithm) (entry : ℕ) (deed : AlgorithmDeed) → EndUnreached d (lines_of a) → a.entries ≡ d.head.entries → SaysDeed a entry deed
    → NotesDeed d entry deed
noted_of d a entry deed e entries s =
    let new : slice_get (lines_of a) s.at ≡ Some (line_of s.line) = slice_get-map line_of a.lines.items s.at ∙ ap (option_map line_of) s.there in
    let o = old_line (is_in e.marks s.at) (slice_get d.lines s.at) (line_of s.line)
    (sym (at_ended e.marks 0 d.lines s.at s.at (omega arith)) ∙ ap (λ ls. slice_get ls s.at) (sym e.ended) ∙ new) in
    record {
      at = s.at;
      line = o.0;
      there = o.1;
      within = subst (λ es. IsLineOf es entry s.at) entries s.within;
      notes = note_of (is_in e.marks s.at) (is_way o.0.form) o.0 deed (sym (ap (λ l. l.form) o.2) ∙ ap form_of s.says);
    }

new_line : (o : Option AlgorithmLine) (new : PlacedLine) → option_map line_of o ≡ Some new → (line : AlgorithmLine) × (o ≡ Some line) × (line_of line ≡ new)
new_line None new e = absurd (none-some new e)
new_line (Some line) new e = (line, refl, same_Some (line_of line) new e)

-- what the draft notes the algorithm says
pub said_of : (d : Drafted) (a : Algorithm) (entry : ℕ) (deed : AlgorithmDeed) → EndUnreached d (lines_of a) → a.entries ≡ d.head.entries → NotesDeed d entry deed
    → SaysDeed a entry deed
said_of d a entry deed e entries n =
    let here : option_map line_of (slice_get a.lines.items n.at) ≡ Some n.line =
    sym (slice_get-map line_of a.lines.items n.at) ∙ ap (λ ls. slice_get ls n.at) e.ended ∙ at_ended e.marks 0 d.lines n.at n.at (omega arith)
    ∙ ap (option_map (ended_line (is_in e.marks n.at))) n.there ∙ ap Some (noted_kept (is_in e.marks n.at) n.line deed n.notes) in
    let l = new_line (slice_get a.lines.items n.at) n.line here in
    record {
      at = n.at;
      line = l.0;
      there = l.1;
      within = subst (λ es. IsLineOf es entry n.at) (sym entries) n.within;
      says = form_noted l.0.form deed (ap (λ x. x.form) l.2 ∙ n.notes);
    }
