-- The lines of a session that were answered so far.
use Rattle.std.proofs.Common.{◌≡◌, ◌⊎◌, ◌↔◌, ◌+◌, ◌-◌, ◌^◌, min, Bool, true, false, Option, Some, None, IfSome, IfNone, Vec, Result, Ok, Err, ℕ, List, [], ◌∷◌, ◌++◌, refl, sym, ap, subst, ◌∙◌, append_assoc, inl, inr, length, eqb, codes, arith}
use Rattle.std.specs.Prelude.{◌==◌}
use Rattle.std.proofs.lemmas.Bool.{false≢true}
use Rattle.std.specs.declared.alloc.Global.{Global}
use Rattle.std.proofs.lemmas.List.{append-nil}
use Rattle.std.proofs.lemmas.List.Splits.{length-slice_split}
use Rattle.schedule.proofs.Cutting.{parts_of-pieces}
use Rattle.schedule.specs.Schedules.{spelling}
use Rattle.schedule.specs.Tapes.{Tape, Reading, Begins, Writes}
use Rattle.schedule.specs.Words.{parts_of}
use Rattle.schedule.specs.declared.lines.fault.LineFault.{LineFault}
use Rattle.diagram.specs.declared.session.opened.SessionReply.{SessionReply}
use Rattle.diagram.specs.declared.session.opened.SessionReply.TheVariants.{Quits}
use Rattle.diagram.specs.declared.session.request.Request.{Request}
use Rattle.diagram.specs.declared.session.request.Request.TheVariants as requests
use Rattle.diagram.specs.declared.session.opened.SessionReply.TheVariants as replies
use Rattle.diagram.specs.Semantics.{Semantics}
use Rattle.diagram.specs.Sessions.{SessionState, after_request, fault_text, next_number, reply_to, request_in, text_of_request}
use Rattle.schedule.specs.declared.replays.replay_fault.ReplayFault.{ReplayFault}
use Rattle.schedule.specs.declared.replays.replay_fault.ReplayFault.TheVariants as faults
use Rattle.command_parts.specs.Conversations.{AreAnswers, BreaksOffIn, FailsBy, HoldsSession, IsAnswer, IsAnswerBy, IsBegun, IsBegunBy, IsSaved, WritesFile, WritesOr, after_line, file_in, last_text}
use Rattle.command_parts.specs.Devices.{devices}
use Rattle.command_parts.specs.Folders.{Used}

-- ---- pieces of a text

-- a list is empty, or has a last element
abbrev Ends : List (List ℕ) → Type 0
Ends parts = (front : List (List ℕ)) × (last : List ℕ) × (parts ≡ front ++ last ∷ [])

ends_more : (part : List ℕ) (parts : List (List ℕ)) → Ends (part ∷ parts)
ends_more part [] = ([], part, refl)
ends_more part (next ∷ parts) =
    let rest = ends_more next parts in
    (part ∷ rest.0, rest.1, ap (λ (ps : List (List ℕ)). part ∷ ps) rest.2)

some_parts : (text : List ℕ) (parts : List (List ℕ)) → parts_of text ≡ parts → Ends parts
some_parts text [] e = absurd (omega (arith, length-slice_split (λ b. eqb b 10) text, ap length e))
some_parts text (part ∷ parts) e = ends_more part parts

-- the lines that were cut from a text, where more comes after it
pub parts_further : (a rest more : List ℕ) (lines : List (List ℕ)) → parts_of a ≡ lines ++ parts_of rest → parts_of (a ++ more) ≡ lines ++ parts_of (rest ++ more)
parts_further a rest more lines so_far =
    let last = some_parts rest (parts_of rest) refl in
    let all : parts_of a ≡ (lines ++ last.0) ++ last.1 ∷ [] =
    so_far ∙ ap (λ (ps : List (List ℕ)). lines ++ ps) last.2 ∙ sym (append_assoc lines last.0 (last.1 ∷ [])) in
    parts_of-pieces a more last.1 (lines ++ last.0) all ∙ append_assoc lines last.0 (parts_of (last.1 ++ more))
    ∙ ap (λ (ps : List (List ℕ)). lines ++ ps) (sym (parts_of-pieces rest more last.1 last.0 last.2))

module _ {S : Type 0} (b : Semantics S) where
  -- ---- answers

  -- one more line is answered
  pub answers_more : (s : SessionState S) (lines : List (List ℕ)) (line : List ℕ) (before mid now : Used) (after : SessionState S) (text more : List ℕ)
      → AreAnswers b s lines before mid after text → (reply_to (request_in after line) ≡ Quits → ⊥) → IsAnswer b after line mid now more
      → AreAnswers b s (lines ++ line ∷ []) before now (after_line b after line) (text ++ more)
  answers_more s [] line before mid now after text more h goes is =
      let here : reply_to (request_in s line) ≡ Quits → ⊥ = subst (λ (x : SessionState S). reply_to (request_in x line) ≡ Quits → ⊥) h.1 goes in
      let there : IsAnswer b s line mid now more = subst (λ (x : SessionState S). IsAnswer b x line mid now more) h.1 is in
      let first : IsAnswer b s line before now more = subst (λ (u : Used). IsAnswer b s line u now more) h.0 there in
      (now, more, [], here, first, (refl, ap (λ (x : SessionState S). after_line b x line) h.1, refl), ap (λ (t : List ℕ). t ++ more) h.2 ∙ sym (append-nil more))
  answers_more s (first ∷ lines) line before mid now after text more h goes is =
      let rest = answers_more (after_line b s first) lines line h.0 mid now after h.2 more h.5 goes is in
      (h.0, h.1, h.2 ++ more, h.3, h.4, rest, ap (λ (t : List ℕ). t ++ more) h.6 ∙ append_assoc h.1 h.2 more)

  -- ---- the loop

  -- what was read and answered so far
  pub record Going (first : SessionState S) (start : List ℕ) (old now : Reading) (before mid : Used) (blank written : Tape) (session : SessionState S) (buffer : List ℕ) : Type 0 where
    pub more : List ℕ
    pub given : now.given ≡ old.given ++ more
    pub fine : now.failures ≡ old.failures
    pub lines : List (List ℕ)
    pub answers : List ℕ
    pub parts : parts_of (start ++ more) ≡ lines ++ parts_of buffer
    pub answered : AreAnswers b first lines before mid session answers
    pub writes : Writes blank written answers

  -- the sink was flushed
  pub flushed : (first s : SessionState S) (start buffer : List ℕ) (old now : Reading) (before mid : Used) (blank written after : Tape)
      → Going first start old now before mid blank written s buffer → after.taken ≡ written.taken → after.failures ≡ written.failures
      → Going first start old now before mid blank after s buffer
  flushed first s start buffer old now before mid blank written after h taken fine =
      record {
        more = h.more;
        given = h.given;
        fine = h.fine;
        lines = h.lines;
        answers = h.answers;
        parts = h.parts;
        answered = h.answered;
        writes = record { taken = taken ∙ h.writes.taken; fine = fine ∙ h.writes.fine };
      }

  -- one more line was read
  pub record Got (first : SessionState S) (start : List ℕ) (old now : Reading) (before mid : Used) (blank written : Tape) (session : SessionState S) (line buffer : List ℕ) : Type 0 where
    pub more : List ℕ
    pub given : now.given ≡ old.given ++ more
    pub fine : now.failures ≡ old.failures
    pub lines : List (List ℕ)
    pub answers : List ℕ
    pub parts : parts_of (start ++ more) ≡ lines ++ line ∷ parts_of buffer
    pub answered : AreAnswers b first lines before mid session answers
    pub writes : Writes blank written answers

  pub got : (first s : SessionState S) (start buffer line rest : List ℕ) (old now after : Reading) (before mid : Used) (blank written : Tape) (more : List ℕ)
      → Going first start old now before mid blank written s buffer → after.given ≡ now.given ++ more → after.failures ≡ now.failures
      → parts_of (buffer ++ more) ≡ line ∷ parts_of rest → Got first start old after before mid blank written s line rest
  got first s start buffer line rest old now after before mid blank written more h given fine parts =
      record {
        more = h.more ++ more;
        given = given ∙ ap (λ (xs : List ℕ). xs ++ more) h.given ∙ append_assoc old.given h.more more;
        fine = fine ∙ h.fine;
        lines = h.lines;
        answers = h.answers;
        parts =
            ap parts_of (sym (append_assoc start h.more more)) ∙ parts_further (start ++ h.more) buffer more h.lines h.parts
            ∙ ap (λ (ps : List (List ℕ)). h.lines ++ ps) parts;
        answered = h.answered;
        writes = h.writes;
      }

  -- and it was answered
  pub goes_on : (first s t : SessionState S) (start line buffer page : List ℕ) (old now : Reading) (before mid used : Used) (blank written after : Tape)
      → Got first start old now before mid blank written s line buffer → (reply_to (request_in s line) ≡ Quits → ⊥) → IsAnswer b s line mid used page
      → t ≡ after_line b s line → Writes written after page → Going first start old now before used blank after t buffer
  goes_on first s t start line buffer page old now before mid used blank written after h goes is next wrote =
      record {
        more = h.more;
        given = h.given;
        fine = h.fine;
        lines = h.lines ++ line ∷ [];
        answers = h.answers ++ page;
        parts = h.parts ∙ sym (append_assoc h.lines (line ∷ []) (parts_of buffer));
        answered =
            subst (λ (x : SessionState S). AreAnswers b first (h.lines ++ line ∷ []) before used x (h.answers ++ page)) (sym next)
            (answers_more first h.lines line before mid used s h.answers page h.answered goes is);
        writes =
            record {
              taken = wrote.taken ∙ ap (λ (xs : List ℕ). xs ++ page) h.writes.taken ∙ append_assoc blank.taken h.answers page;
              fine = wrote.fine ∙ h.writes.fine;
            };
      }

  -- what is said where a session ends
  silent_end : (s : SessionState S) (r : Result Request LineFault) → reply_to r ≡ Quits → text_of_request b s r ≡ []
  silent_end s (Ok requests.Quit) e = refl
  silent_end s _ e = cc

  end_answer : (s : SessionState S) (line : List ℕ) (mid used : Used) (page : List ℕ) (reply : SessionReply) → reply ≡ Quits → reply_to (request_in s line) ≡ Quits
      → IsAnswerBy b reply s line mid used page → (used ≡ mid) × (page ≡ [])
  end_answer s line mid used page Quits e quits is = (is.0, is.1 ∙ silent_end s (request_in s line) quits)
  end_answer s line mid used page _ e quits is = cc

  -- the line ends the session
  pub ends_here : (first s : SessionState S) (start line buffer page : List ℕ) (old now : Reading) (before mid used : Used) (blank written after : Tape)
      → Got first start old now before mid blank written s line buffer → reply_to (request_in s line) ≡ Quits → IsAnswer b s line mid used page
      → Writes written after page → HoldsSession b first start (devices old before blank) (devices now used after) (Ok tt)
  ends_here first s start line buffer page old now before mid used blank written after h quits is wrote =
      let no = end_answer s line mid used page (reply_to (request_in s line)) quits quits is in (
        h.more,
        h.given,
        h.fine,
        (
          h.answers,
          record {
            lines = h.lines;
            after = s;
            answers = h.answers;
            last = line;
            more = parts_of buffer;
            parts = h.parts;
            answered = subst (λ (u : Used). AreAnswers b first h.lines before u s h.answers) (sym no.0) h.answered;
            ends = inl (quits, refl);
          },
          record {
            taken = wrote.taken ∙ ap (λ (xs : List ℕ). written.taken ++ xs) no.1 ∙ append-nil written.taken ∙ h.writes.taken;
            fine = wrote.fine ∙ h.writes.fine;
          },
        ),
      )

  -- the input ends
  pub input_ends : (first s : SessionState S) (start buffer rest : List ℕ) (old now after : Reading) (before mid : Used) (blank written last : Tape) (more : List ℕ)
      → Going first start old now before mid blank written s buffer → after.given ≡ now.given ++ more → after.failures ≡ now.failures
      → after.ended ≡ true → rest ≡ buffer ++ more → parts_of rest ≡ rest ∷ [] → Writes written last (last_text s rest)
      → HoldsSession b first start (devices old before blank) (devices after mid last) (Ok tt)
  input_ends first s start buffer rest old now after before mid blank written last more h given fine ended is one wrote =
      let parts : parts_of (start ++ (h.more ++ more)) ≡ h.lines ++ rest ∷ [] =
      ap parts_of (sym (append_assoc start h.more more)) ∙ parts_further (start ++ h.more) buffer more h.lines h.parts
      ∙ ap (λ (ps : List (List ℕ)). h.lines ++ ps) (ap parts_of (sym is) ∙ one) in (
        h.more ++ more,
        given ∙ ap (λ (xs : List ℕ). xs ++ more) h.given ∙ append_assoc old.given h.more more,
        fine ∙ h.fine,
        (
          h.answers ++ last_text s rest,
          record {
            lines = h.lines;
            after = s;
            answers = h.answers;
            last = rest;
            more = [];
            parts = parts;
            answered = h.answered;
            ends = inr (refl, ended, refl);
          },
          record {
            taken = wrote.taken ∙ ap (λ (xs : List ℕ). xs ++ last_text s rest) h.writes.taken ∙ append_assoc blank.taken h.answers (last_text s rest);
            fine = wrote.fine ∙ h.writes.fine;
          },
        ),
      )

  -- ---- where it breaks off

  -- after the lines that were answered
  stops : (first s : SessionState S) (start buffer : List ℕ) (old now after : Reading) (before mid : Used) (blank written last : Tape) (more : List ℕ)
      → Going first start old now before mid blank written s buffer → after.given ≡ now.given ++ more → last.taken ≡ written.taken
      → BreaksOffIn b first start (devices old before blank) (devices after mid last)
  stops first s start buffer old now after before mid blank written last more h given taken = (
    h.more ++ more,
    given ∙ ap (λ (xs : List ℕ). xs ++ more) h.given ∙ append_assoc old.given h.more more,
    record {
      lines = h.lines;
      more = parts_of (buffer ++ more);
      parts = ap parts_of (sym (append_assoc start h.more more)) ∙ parts_further (start ++ h.more) buffer more h.lines h.parts;
      after = s;
      used = mid;
      answers = h.answers;
      answered = h.answered;
      text = [];
      due = inl (refl, refl);
      beginning = ([], record { front = []; written = taken ∙ h.writes.taken ∙ sym (append-nil (blank.taken ++ h.answers)); left = refl });
    },
  )

  -- a write that fails counts from where the session began
  failed_once : (blank written last : Tape) → written.failures ≡ blank.failures → last.failures ≡ min (written.failures + 1) (2 ^ 64 - 1)
      → last.failures ≡ min (blank.failures + 1) (2 ^ 64 - 1)
  failed_once blank written last fine failed = subst (λ (n : ℕ). last.failures ≡ min (n + 1) (2 ^ 64 - 1)) fine failed

  -- a flush fails
  pub flush_breaks : (first s : SessionState S) (start buffer : List ℕ) (old now : Reading) (before mid : Used) (blank written last : Tape)
      → Going first start old now before mid blank written s buffer → last.taken ≡ written.taken → last.failures ≡ min (written.failures + 1) (2 ^ 64 - 1)
      → HoldsSession b first start (devices old before blank) (devices now mid last) (Err faults.Write)
  flush_breaks first s start buffer old now before mid blank written last h taken failed = (
    (h.fine, failed_once blank written last h.writes.fine failed),
    stops first s start buffer old now now before mid blank written last [] h (sym (append-nil now.given)) taken,
  )

  -- memory has run out after the lines that were answered
  pub memory_breaks : (first s : SessionState S) (start buffer : List ℕ) (old now : Reading) (before mid : Used) (blank written : Tape)
      → Going first start old now before mid blank written s buffer → HoldsSession b first start (devices old before blank) (devices now mid written) (Err faults.OutOfMemory)
  memory_breaks first s start buffer old now before mid blank written h =
      ((h.fine, h.writes.fine), stops first s start buffer old now now before mid blank written written [] h (sym (append-nil now.given)) refl)

  -- why no line was read
  abbrev pub FailsLine : ReplayFault → Reading → Reading → Type 0
  FailsLine fault now after =
      (fault ≡ faults.Read) × (after.failures ≡ min (now.failures + 1) (2 ^ 64 - 1)) ⊎ (fault ≡ faults.OutOfMemory) × (after.failures ≡ now.failures)

  line_fails : (fault : ReplayFault) (old now after : Reading) (blank written tape : Tape) → now.failures ≡ old.failures → written.failures ≡ blank.failures
      → tape.failures ≡ written.failures → FailsLine fault now after → FailsBy fault old after blank tape
  line_fails fault old now after blank written tape read wrote fine (inl (is, failed)) =
      subst (λ (f : ReplayFault). FailsBy f old after blank tape) (sym is)
      (subst (λ (n : ℕ). after.failures ≡ min (n + 1) (2 ^ 64 - 1)) read failed, fine ∙ wrote)
  line_fails fault old now after blank written tape read wrote fine (inr (is, same)) =
      subst (λ (f : ReplayFault). FailsBy f old after blank tape) (sym is) (same ∙ read, fine ∙ wrote)

  pub read_breaks : (first s : SessionState S) (start buffer : List ℕ) (old now after : Reading) (before mid : Used) (blank written tape : Tape) (fault : ReplayFault)
      → Going first start old now before mid blank written s buffer → tape.taken ≡ written.taken → tape.failures ≡ written.failures
      → ((more : List ℕ) × (after.given ≡ now.given ++ more)) → FailsLine fault now after → HoldsSession b first start (devices old before blank) (devices after mid tape) (Err fault)
  read_breaks first s start buffer old now after before mid blank written tape fault h taken fine (more, given) fails = (
    line_fails fault old now after blank written tape h.fine h.writes.fine fine fails,
    stops first s start buffer old now after before mid blank written tape more h given taken,
  )

  -- memory has run out before the line was answered
  pub line_breaks : (first s : SessionState S) (start line buffer : List ℕ) (old now : Reading) (before mid used : Used) (blank written : Tape)
      → Got first start old now before mid blank written s line buffer → IsBegun b s line mid used
      → HoldsSession b first start (devices old before blank) (devices now used written) (Err faults.OutOfMemory)
  line_breaks first s start line buffer old now before mid used blank written h begun = (
    (h.fine, h.writes.fine),
    (
      h.more,
      h.given,
      record {
        lines = h.lines;
        more = line ∷ parts_of buffer;
        parts = h.parts;
        after = s;
        used = mid;
        answers = h.answers;
        answered = h.answered;
        text = [];
        due = inr (line, parts_of buffer, refl, inl (begun, refl));
        beginning = ([], record { front = []; written = h.writes.taken ∙ sym (append-nil (blank.taken ++ h.answers)); left = refl });
      },
    ),
  )

  -- what was written of a text after the answers
  goes_further : (blank written last : Tape) (answers text : List ℕ) → written.taken ≡ blank.taken ++ answers → Begins written.taken last.taken text
      → Begins (blank.taken ++ answers) last.taken text
  goes_further blank written last answers text taken front = subst (λ (xs : List ℕ). Begins xs last.taken text) taken front

  -- the answer to the line was not written whole
  pub answer_breaks : (first s : SessionState S) (start line buffer page : List ℕ) (old now : Reading) (before mid used : Used) (blank written last : Tape)
      → Got first start old now before mid blank written s line buffer → IsAnswer b s line mid used page → Begins written.taken last.taken page
      → last.failures ≡ min (written.failures + 1) (2 ^ 64 - 1) → HoldsSession b first start (devices old before blank) (devices now used last) (Err faults.Write)
  answer_breaks first s start line buffer page old now before mid used blank written last h is front failed = (
    (h.fine, failed_once blank written last h.writes.fine failed),
    (
      h.more,
      h.given,
      record {
        lines = h.lines;
        more = line ∷ parts_of buffer;
        parts = h.parts;
        after = s;
        used = mid;
        answers = h.answers;
        answered = h.answered;
        text = page;
        due = inr (line, parts_of buffer, refl, inr (inl is));
        beginning = goes_further blank written last h.answers page h.writes.taken front;
      },
    ),
  )

  -- the fault of an unfinished last line was not written whole
  end_breaks : (first s : SessionState S) (start buffer rest : List ℕ) (old now after : Reading) (before mid : Used) (blank written last : Tape) (more : List ℕ)
      → Going first start old now before mid blank written s buffer → after.given ≡ now.given ++ more → rest ≡ buffer ++ more
      → parts_of rest ≡ rest ∷ [] → Begins written.taken last.taken (last_text s rest) → BreaksOffIn b first start (devices old before blank) (devices after mid last)
  end_breaks first s start buffer rest old now after before mid blank written last more h given is one front = (
    h.more ++ more,
    given ∙ ap (λ (xs : List ℕ). xs ++ more) h.given ∙ append_assoc old.given h.more more,
    record {
      lines = h.lines;
      more = rest ∷ [];
      parts =
          ap parts_of (sym (append_assoc start h.more more)) ∙ parts_further (start ++ h.more) buffer more h.lines h.parts
          ∙ ap (λ (ps : List (List ℕ)). h.lines ++ ps) (ap parts_of (sym is) ∙ one);
      after = s;
      used = mid;
      answers = h.answers;
      answered = h.answered;
      text = last_text s rest;
      due = inr (rest, [], refl, inr (inr (refl, refl, refl)));
      beginning = goes_further blank written last h.answers (last_text s rest) h.writes.taken front;
    },
  )

  -- nothing of a text was written
  none_of : (written last : Tape) (text : List ℕ) → last.taken ≡ written.taken → Begins written.taken last.taken text
  none_of written last text same = (text, record { front = []; written = same ∙ sym (append-nil written.taken); left = refl })

  -- ---- what a line has begun

  pub nothing_begun : (reply : SessionReply) (s : SessionState S) (line : List ℕ) (used : Used) → IsBegunBy b reply s line used used
  nothing_begun replies.Saves s line used = inl refl
  nothing_begun replies.Goes s line used = refl
  nothing_begun Quits s line used = refl

  -- a request to save changes no schedule
  pub saving_begun : (r : Result Request LineFault) (s t : SessionState S) (line : List ℕ) (before now : Used) → reply_to r ≡ replies.Saves
      → t ≡ after_request b s r → (now ≡ before) ⊎ WritesFile before now (file_in line) (spelling t.schedule) → IsBegunBy b (reply_to r) s line before now
  saving_begun (Ok requests.Save) s t line before now e same is =
      subst (λ (x : SessionState S). (now ≡ before) ⊎ WritesFile before now (file_in line) (spelling x.schedule)) same is
  saving_begun _ s t line before now e same is = cc

  -- ---- what the calls of the loop say

  -- what `next_line` says of a line
  abbrev pub IsLine : Option (Vec ℕ Global) → List ℕ → List ℕ → Reading → Reading → Type 0
  IsLine line buffer rest now after =
      (more : List ℕ) × (after.given ≡ now.given ++ more) × IfSome line (λ l. parts_of (buffer ++ more) ≡ l.items ∷ parts_of rest)
      × IfNone line ((rest ≡ buffer ++ more) × (parts_of rest ≡ rest ∷ []))

  -- a line was read
  pub got_line : (first s : SessionState S) (start buffer rest line : List ℕ) (old now after : Reading) (before mid : Used) (blank written tape : Tape) (read : Option (Vec ℕ Global)) (v : Vec ℕ Global)
      → read ≡ Some v → line ≡ v.items → Going first start old now before mid blank written s buffer → tape.taken ≡ written.taken → tape.failures ≡ written.failures
      → IsLine read buffer rest now after → after.failures ≡ now.failures → Got first start old after before mid blank tape s line rest
  got_line first s start buffer rest line old now after before mid blank written tape None v some value h taken fine is same = cc
  got_line first s start buffer rest line old now after before mid blank written tape (Some w) v some value h taken fine is same =
      let items : w.items ≡ line = cc in
      got first s start buffer line rest old now after before mid blank tape is.0 (flushed first s start buffer old now before mid blank written tape h taken fine) is.1 same
      (is.2 ∙ ap (λ (l : List ℕ). l ∷ parts_of rest) items)

  -- no line was read
  pub got_none : (first s : SessionState S) (start buffer rest : List ℕ) (old now after : Reading) (before mid : Used) (blank written tape last : Tape) (read : Option (Vec ℕ Global))
      (result : Result (Unit {0}) ReplayFault)
      → read ≡ None → Going first start old now before mid blank written s buffer → tape.taken ≡ written.taken → tape.failures ≡ written.failures
      → IsLine read buffer rest now after → IfNone read (after.ended ≡ true) → after.failures ≡ now.failures → WritesOr tape last (last_text s rest) result
      → HoldsSession b first start (devices old before blank) (devices after mid last) result
  got_none first s start buffer rest old now after before mid blank written tape last (Some w) result none h taken fine is ended same wrote = cc
  got_none first s start buffer rest old now after before mid blank written tape last None (Ok x) none h taken fine is ended same wrote =
      input_ends first s start buffer rest old now after before mid blank tape last is.0 (flushed first s start buffer old now before mid blank written tape h taken fine) is.1 same ended
      is.3.0 is.3.1 wrote
  got_none first s start buffer rest old now after before mid blank written tape last None (Err faults.Write) none h taken fine is ended same wrote =
      let so_far = flushed first s start buffer old now before mid blank written tape h taken fine in (
        (same ∙ so_far.fine, failed_once blank tape last so_far.writes.fine wrote.1),
        end_breaks first s start buffer rest old now after before mid blank tape last is.0 so_far is.1 is.3.0 is.3.1 wrote.0,
      )
  got_none first s start buffer rest old now after before mid blank written tape last None (Err faults.OutOfMemory) none h taken fine is ended same wrote =
      let so_far = flushed first s start buffer old now before mid blank written tape h taken fine in (
        (same ∙ so_far.fine, wrote.fine ∙ so_far.writes.fine),
        end_breaks first s start buffer rest old now after before mid blank tape last is.0 so_far is.1 is.3.0 is.3.1 (none_of tape last (last_text s rest) wrote.taken),
      )
  got_none first s start buffer rest old now after before mid blank written tape last None (Err faults.Read) none h taken fine is ended same wrote = absurd wrote
  got_none first s start buffer rest old now after before mid blank written tape last None (Err (faults.Text line number)) none h taken fine is ended same wrote = absurd wrote
  got_none first s start buffer rest old now after before mid blank written tape last None (Err (faults.Refused line number)) none h taken fine is ended same wrote = absurd wrote

-- the line does not end the session
pub goes_by : (ends : Bool) (P : Type 0) → (ends ≡ true ↔ P) → ends ≡ false → P → ⊥
goes_by ends P iff is p = false≢true (sym is ∙ iff.1 p)

-- a page was written
pub wrote_page : (written after : Tape) (bytes page : List ℕ) → bytes ≡ page → after.taken ≡ written.taken ++ bytes → after.failures ≡ written.failures → Writes written after page
wrote_page written after bytes page is taken fine = record { taken = taken ∙ ap (λ (t : List ℕ). written.taken ++ t) is; fine = fine }

-- whether or not that was done, the text was to be written
pub kept_by : (before now : Used) (file text : List ℕ) (done : Bool) → WritesFile before now file text → IsSaved before now file text done
kept_by before now file text true h = h
kept_by before now file text false h = inr h

-- what was read before is the beginning of what was read
pub given_more : (old mid new more piece : List ℕ) → new ≡ mid ++ piece → mid ≡ old ++ more → (x : List ℕ) × (new ≡ old ++ x)
given_more old mid new more piece is was = (more ++ piece, is ∙ ap (λ (xs : List ℕ). xs ++ piece) was ∙ append_assoc old more piece)

-- the fault of an unfinished last line was not written whole
pub last_breaks : {S : Type 0} (s : SessionState S) (rest page : List ℕ) (before now : Tape) → (length rest == 0) ≡ false
    → page ≡ fault_text (next_number s) (codes "fault ") 5 → Begins before.taken now.taken page → now.failures ≡ min (before.failures + 1) (2 ^ 64 - 1)
    → WritesOr before now (last_text s rest) (Err faults.Write)
last_breaks s [] page before now some is front failed = cc
last_breaks s (x ∷ rest) page before now some is front failed = (subst (λ (text : List ℕ). Begins before.taken now.taken text) is front, failed)
