use Rattle.std.proofs.Common.{◌≡◌, ℕ, true, false, MatchBool, sym, ◌∙◌, subst}
use Rattle.std.proofs.lemmas.Bool.{false≢true}
use Rattle.algorithm_texts.specs.Drafts.{draft_view}
use Rattle.algorithm_texts.specs.FinishedDrafts.{is_in, is_within}
use Rattle.algorithm_texts.specs.Runs.{leads_in}
use Rattle.algorithm_texts.proofs.RunChecks.{runs_stay, run_strays, no_first}
use Rattle.algorithm_texts.proofs.lines.Draft.stays_in_call.Goals as goal

pub returns-then-not-is_line_in-clause-yes : goal.returns-then-not-is_line_in-clause-yes
returns-then-not-is_line_in-clause-yes c = λ h. absurd (false≢true h)

pub returns-then-not-is_line_in-clause-no : goal.returns-then-not-is_line_in-clause-no
returns-then-not-is_line_in-clause-no c = λ h. no_first (draft_view c.args.self.now) c.args.call (sym c.is_line_in.ensures ∙ c.if-not-is_line_in.true)

pub returns-clause-yes : goal.returns-clause-yes
returns-clause-yes c = λ h.
    let d = draft_view c.args.self.now in
    let all : (at : ℕ) → is_within (c.args.call.«from», c.args.call.to) at ≡ true → is_in c.args.reached.now at ≡ true → leads_in d c.args.call at ≡ true =
    subst (λ b. MatchBool b ((at : ℕ) → is_within (c.args.call.«from», c.args.call.to) at ≡ true → is_in c.args.reached.now at ≡ true → leads_in d c.args.call at ≡ true)
    ((at : ℕ) × (is_in c.args.reached.now at ≡ true) × (leads_in d c.args.call at ≡ false))) h c.all_lead_in.ensures in
    runs_stay d c.args.call c.args.reached.now c.requires (sym c.is_line_in.ensures ∙ c.if-not-is_line_in.false) all

pub returns-clause-no : goal.returns-clause-no
returns-clause-no c = λ h.
    let d = draft_view c.args.self.now in
    let one : (at : ℕ) × (is_in c.args.reached.now at ≡ true) × (leads_in d c.args.call at ≡ false) =
    subst (λ b. MatchBool b ((at : ℕ) → is_within (c.args.call.«from», c.args.call.to) at ≡ true → is_in c.args.reached.now at ≡ true → leads_in d c.args.call at ≡ true)
    ((at : ℕ) × (is_in c.args.reached.now at ≡ true) × (leads_in d c.args.call at ≡ false))) h c.all_lead_in.ensures in
    run_strays d c.args.call c.args.reached.now c.requires one.0 one.1 one.2
