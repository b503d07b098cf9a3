-- Deeds that are judged one after another.
use Rattle.std.proofs.Common.{◌≡◌, ℕ, List, [], ◌∷◌, ◌++◌, Result, Ok, Err, refl, sym, ap, subst, ◌∙◌, append_assoc, append-nil}
use Rattle.schedule.proofs.ReplaysCommon.{Fault, one_more, Deed, Kept, Keeps, State, state_after_deed, after, RunningVerdict, Verdict, Fine, Against, first_running_verdict, running_judge, with_more, heard_with, Hears, RunningJudge, if_allowed, state_after_deeds}
use Rattle.schedule.proofs.ReplaysCommon.{verdict_at, verdict_from}

pub no_more : (v : Verdict) (k : ℕ) (s : State) → with_more v k s [] ≡ v
no_more Fine k s = refl
no_more (Against at fault) k s = refl

none_heard : (v : Verdict) (s : State) → heard_with v s [] ≡ s
none_heard Fine s = refl
none_heard (Against at fault) s = refl

pub hears_none : (b : RunningJudge) → Hears b [] b
hears_none b s sits = rw (none_heard b.running_verdict.verdict s) (λ keeps. keeps, λ more. refl)

heard_on : (k : ℕ) (s : State) (ds es : List Deed) → state_after_deeds s (ds ++ es) ≡ heard_with (verdict_from k s ds) (state_after_deeds s ds) es
heard_on k s [] es = refl
heard_on k s (d ∷ ds) es = by (state_after_deed s d) (λ t. heard_on (one_more k) t ds es)
  where
    by : (r : Result State Fault) → ((t : State) → state_after_deeds t (ds ++ es) ≡ heard_with (verdict_from (one_more k) t ds) (state_after_deeds t ds) es)
        → if_allowed r (λ t. state_after_deeds t (ds ++ es)) s ≡ heard_with (verdict_at k r (λ t. verdict_from (one_more k) t ds)) (if_allowed r (λ t. state_after_deeds t ds) s) es
    by (Ok t) later = later t
    by (Err fault) later = refl

-- the verdict on the first deeds decides whether the others are judged
heard_both : (v : Verdict) (k : ℕ) (s : State) (ds es : List Deed) → heard_with v s (ds ++ es) ≡ heard_with (with_more v k s ds) (heard_with v s ds) es
heard_both Fine k s ds es = heard_on k s ds es
heard_both (Against at fault) k s ds es = refl

was_fine : (v : Verdict) (k : ℕ) (s : State) (ds : List Deed) → with_more v k s ds ≡ Fine → v ≡ Fine
was_fine Fine k s ds fine = refl
was_fine (Against at fault) k s ds fine = cc

pub hears_both : (a b c : RunningJudge) (ds es : List Deed) → Hears a ds b → Hears b es c → Hears a (ds ++ es) c
hears_both a b c ds es first second s sits =
    let v = a.running_verdict.verdict in
    let k = a.running_verdict.number in
    let mid = heard_with v s ds in
    let one = first s sits in
    let verdict_same : with_more v k s ds ≡ b.running_verdict.verdict =
    ap (with_more v k s) (sym (append-nil ds)) ∙ one.1 [] ∙ no_more b.running_verdict.verdict b.running_verdict.number mid in
    let two = second mid (λ fine. one.0 (sits (was_fine v k s ds (verdict_same ∙ fine)))) in
    let end : heard_with v s (ds ++ es) ≡ heard_with b.running_verdict.verdict mid es =
    heard_both v k s ds es ∙ ap (λ (w : Verdict). heard_with w mid es) verdict_same in
    rw end (λ keeps. two.0 (one.0 keeps), λ more. ap (with_more v k s) (append_assoc ds es more) ∙ one.1 (es ++ more) ∙ two.1 more)

-- a judge that was asked allows the deed
pub hears_allowed : (judge now : Kept) (a b : RunningVerdict) (d : Deed) → a.verdict ≡ Fine → b.verdict ≡ Fine → b.number ≡ one_more a.number
    → ((s : State) → Keeps judge s → (state_after_deed s d ≡ Ok (after s d)) × Keeps now (after s d))
    → Hears (running_judge judge a) (d ∷ []) (running_judge now b)
hears_allowed judge now a b d before fine number fed s sits =
    let f = fed s (sits before) in
    rw (before, fine, number) (rw f.0 (λ keeps. f.1, λ more. refl))

-- or refuses it, and is as it was
pub hears_refused : (judge now : Kept) (a b : RunningVerdict) (d : Deed) (fault : Fault) → a.verdict ≡ Fine → b.verdict ≡ Against a.number fault → now ≡ judge
    → ((s : State) → Keeps judge s → state_after_deed s d ≡ Err fault)
    → Hears (running_judge judge a) (d ∷ []) (running_judge now b)
hears_refused judge now a b d fault before against same fed s sits =
    rw (before, against, same) (rw (fed s (sits before)) (λ keeps. keeps, λ more. refl))

-- after one that was refused, deeds change nothing
pub hears_on : (judge : Kept) (a : RunningVerdict) (at : ℕ) (fault : Fault) (ds : List Deed) → a.verdict ≡ Against at fault
    → Hears (running_judge judge a) ds (running_judge judge a)
hears_on judge a at fault ds is s sits = rw is (λ keeps. keeps, λ more. refl)

-- the judge of all deeds of a run is in the state of the judge table
pub stands_heard : (judge now : Kept) (first running_verdict : RunningVerdict) (deeds : List Deed) (start : State) → first ≡ first_running_verdict → Hears (running_judge judge first) deeds (running_judge now running_verdict) → Keeps judge start
    → Keeps now (state_after_deeds start deeds)
stands_heard judge now first running_verdict deeds start fresh hears keeps = subst (λ (h : RunningVerdict). Keeps now (heard_with h.verdict start deeds)) fresh ((hears start (λ fine. keeps)).0 keeps)
