-- The local lines of an algorithm whose calls run as they may end.
use Rattle.std.proofs.Common.{◌≡◌, ℕ, zero, suc, ◌+◌, ◌<◌, ◌≤◌, Bool, true, false, cond, not, ◌&&◌, ◌||◌, ltb, eqb, List, [], ◌∷◌, length, get_or, Option, Some, None, slice_get, refl, sym, ap, ◌∙◌, subst, inl, inr, arith}
use Rattle.std.specs.List.{list_all}
use Rattle.std.specs.Option.{option_map}
use Rattle.std.proofs.lemmas.Bool.{false≢true, lt-ltb, eqb-true, eq-eqb}
use Rattle.std.proofs.lemmas.Option.{slice_get-get_or, slice_get-map, same_Some, none-some}
use Rattle.std.proofs.lemmas.List.{length-map}
use Rattle.algorithms.specs.declared.algorithm.Algorithm.{Algorithm}
use Rattle.algorithms.specs.declared.algorithm.AlgorithmCall.{AlgorithmCall}
use Rattle.algorithms.specs.declared.line.AlgorithmLine.{AlgorithmLine}
use Rattle.algorithms.specs.declared.line.LineKind.{LineKind}
use Rattle.algorithms.specs.declared.line.LineKind.TheVariants.{Access, Local, Done}
use Rattle.algorithms.specs.declared.line.LocalLine.{LocalLine}
use Rattle.algorithms.specs.declared.line.LocalLine.TheVariants.{Assign, AssignRow, Note, Goto, Branch, First, Next}
use Rattle.algorithms.specs.declared.expression.Expression.{Expression, Number, Private, Element', Me, Procs, Limit, Joined'}
use Rattle.algorithms.specs.declared.line.Members.{Members}
use Rattle.algorithms.specs.declared.line.Members.TheVariants.{All as AllMembers, Others, Lower, Higher, Up, Down}
use Rattle.algorithms.specs.Ranked.{rank_of, is_below, is_line_below, literal_of, least_joined, least_value, is_at_most, has_round, ways_pass, is_line, is_line_at, form_falls, AllFall, LocalLinesEnd, AccessesLeadOn}
use Rattle.algorithms.proofs.Ranked.{all_end, all_lead}
use Rattle.algorithm_texts.specs.declared.flow.RunKind.TheVariants.{Forward}
use Rattle.algorithm_texts.specs.declared.lines.CallRead.{CallRead}
use Rattle.algorithm_texts.specs.Parts.{term_of}
use Rattle.algorithm_texts.specs.Drafts.{members_form, Ending, PlacedLine, Drafted, form_of, line_of, lines_of, local_form}
use Rattle.algorithm_texts.specs.FinishedDrafts.{literal_in, least_term, loop_has_round, call_in, is_in, is_way, ways}
use Rattle.algorithm_texts.specs.Runs.{forward_ways, ways_after, leads_to, RunsFit, RunsComeTo}
use Rattle.algorithm_texts.specs.UnreachedLines.{line_stays, lines_stay, ended_line, ended_from, EndUnreached}
use Rattle.algorithm_texts.proofs.RoundMarks.{forward_is_way}
use Rattle.algorithm_texts.proofs.RunMarks.{both_true, true_or_false, or_left, or_right, either}
use Rattle.algorithm_texts.proofs.Heights.{draft_ranks, draft_ways, draft_local, local_where, is_local_form, local_silent, rank_is, rank_falls, rank_few, line_within}

-- ---- tests of all ways

pub and_true : (a b : Bool) → a ≡ true → b ≡ true → (a && b) ≡ true
and_true true b h k = k
and_true false b h k = absurd (false≢true h)

first_leads : (w : ℕ) (ws : List ℕ) → leads_to (w ∷ ws) w ≡ true
first_leads w ws = or_left (eqb w w) (leads_to ws w) (eq-eqb w w refl)

-- a draft has the rounds of its algorithm

literal_same : (e : Expression) → literal_in (term_of e) ≡ literal_of e
literal_same (Number n) = refl
literal_same (Private k) = refl
literal_same (Element' row p index) = refl
literal_same Me = refl
literal_same Procs = refl
literal_same Limit = refl
literal_same (Joined' o p a q b) = refl

least_same : (least : ℕ) (e : Expression) → least_term least (term_of e) ≡ least_value least e
least_same least (Number n) = refl
least_same least (Private k) = refl
least_same least (Element' row p index) = refl
least_same least Me = refl
least_same least Procs = refl
least_same least Limit = refl
least_same least (Joined' o p a q b) =
    let x = least_same least a in
    let y = literal_same b in
    (λ i. least_joined o (x i) (y i))

same_round : (least : ℕ) (members : Members) → loop_has_round least (members_form members) ≡ has_round least members
same_round least AllMembers = refl
same_round least Others = refl
same_round least Lower = refl
same_round least Higher = refl
same_round least (Up a b) =
    let x = literal_same a in
    let y = least_same least b in
    (λ i. is_at_most (x i) (y i))
same_round least (Down a b) =
    let x = literal_same b in
    let y = least_same least a in
    (λ i. is_at_most (x i) (y i))

-- a test that holds of all ways but a loop's way back, and one that holds of that
ways_all : (test begins : ℕ → Bool) (least next : ℕ) (l : LocalLine) → ((w : ℕ) → leads_to (forward_ways least next (local_form l)) w ≡ true → test w ≡ true)
    → ((w : ℕ) → leads_to (ways least next (local_form l)) w ≡ true → begins w ≡ true) → ways_pass test begins least next l ≡ true
ways_all test begins least next (Assign name value) h back = h next (first_leads next [])
ways_all test begins least next (AssignRow row elements value) h back = h next (first_leads next [])
ways_all test begins least next (Note deed) h back = h next (first_leads next [])
ways_all test begins least next (Goto place) h back = h place (first_leads place [])
ways_all test begins least next (Branch condition otherwise) h back =
    and_true (test next) (test otherwise) (h next (first_leads next (otherwise ∷ [])))
    (h otherwise (or_right (eqb next otherwise) (leads_to (otherwise ∷ []) otherwise) (first_leads otherwise [])))
ways_all test begins least next (First name members after) h back = elim (true_or_false (has_round least members)) [
  | inl t ↦
      let f : (w : ℕ) → leads_to (next ∷ []) w ≡ true → test w ≡ true = λ w k. h w (ap (λ b. leads_to (cond b (next ∷ []) (next ∷ (after ∷ []))) w) (same_round least members ∙ t) ∙ k) in
      and_true (test next) (has_round least members || test after) (f next (first_leads next [])) (or_left (has_round least members) (test after) t)
  | inr e ↦
      let f : (w : ℕ) → leads_to (next ∷ (after ∷ [])) w ≡ true → test w ≡ true = λ w k. h w (ap (λ b. leads_to (cond b (next ∷ []) (next ∷ (after ∷ []))) w) (same_round least members ∙ e) ∙ k) in
      and_true (test next) (has_round least members || test after) (f next (first_leads next (after ∷ [])))
      (or_right (has_round least members) (test after) (f after (or_right (eqb next after) (leads_to (after ∷ []) after) (first_leads after []))))
]
ways_all test begins least next (Next name members body) h back =
    and_true (begins body) (test next) (back body (first_leads body (next ∷ []))) (h next (first_leads next []))

pub all_leads : (test : ℕ → Bool) (ws : List ℕ) (w : ℕ) → list_all test ws ≡ true → leads_to ws w ≡ true → test w ≡ true
all_leads test [] w h k = absurd (false≢true k)
all_leads test (x ∷ xs) w h k =
    let p = both_true (test x) (list_all test xs) h in
    elim (either (eqb x w) (leads_to xs w) k) [
      | inl e ↦ subst (λ y. test y ≡ true) (eqb-true x w e) p.0
      | inr r ↦ all_leads test xs w p.1 r
    ]

-- ---- lines that end

pub length_ended : (marks : List Bool) (place : ℕ) (lines : List PlacedLine) → length (ended_from marks place lines) ≡ length lines
length_ended marks place [] = refl
length_ended marks place (x ∷ xs) = ap suc (length_ended marks (place + 1) xs)

pub at_ended : (marks : List Bool) (place : ℕ) (lines : List PlacedLine) (i at : ℕ) → at ≡ place + i
    → slice_get (ended_from marks place lines) i ≡ option_map (ended_line (is_in marks at)) (slice_get lines i)
at_ended marks place [] i at e = refl
at_ended marks place (x ∷ xs) zero at e =
    let here : place ≡ at = omega (arith, e) in
    ap (λ (k : ℕ). Some (ended_line (is_in marks k) x)) here
at_ended marks place (x ∷ xs) (suc i) at e = at_ended marks (place + 1) xs i at (omega (arith, e))

pub stay_at : (least : ℕ) (marks : List Bool) (place : ℕ) (lines : List PlacedLine) (i at : ℕ) (line : PlacedLine) → at ≡ place + i
    → lines_stay least marks place lines ≡ true → slice_get lines i ≡ Some line → line_stays least marks at line.form ≡ true
stay_at least marks place [] i at line e h s = absurd (none-some line s)
stay_at least marks place (x ∷ xs) zero at line e h s =
    let here : place ≡ at = omega (arith, e) in
    let p = both_true (line_stays least marks place x.form) (lines_stay least marks (place + 1) xs) h in
    let same : x ≡ line = same_Some x line s in
    subst (λ l. line_stays least marks at l.form ≡ true) same (subst (λ (k : ℕ). line_stays least marks k x.form ≡ true) here p.0)
stay_at least marks place (x ∷ xs) (suc i) at line e h s =
    let p = both_true (line_stays least marks place x.form) (lines_stay least marks (place + 1) xs) h in
    stay_at least marks (place + 1) xs i at line (omega (arith, e)) p.1 s

-- ---- ranks

rank_most : (k : ℕ) (form : LineKind) → rank_of k form ≤ k
rank_most k (Access line) = omega arith
rank_most k (Local line) = omega arith
rank_most k (Done answer) = omega arith

below_where : (lines : List AlgorithmLine) (ranks : List ℕ) (rank w : ℕ) (other : AlgorithmLine) → w < length lines → get_or ranks w 0 < rank
    → is_below lines ranks rank w ≡ true
below_where lines ranks rank w other within low =
    let most = rank_most (get_or ranks w 0) (get_or lines w other).form in
    ap (is_line_below ranks rank w) (slice_get-get_or lines w other within) ∙ lt-ltb (rank_of (get_or ranks w 0) (get_or lines w other).form) rank (omega (arith, most, low))

line_there : (lines : List AlgorithmLine) (w : ℕ) (other : AlgorithmLine) → w < length lines → is_line (slice_get lines w) ≡ true
line_there lines w other within = ap is_line (slice_get-get_or lines w other within)

local_is : (l : LocalLine) → is_local_form (local_form l) ≡ true
unfolding is_local_form
local_is (Assign name value) = refl
local_is (AssignRow row elements value) = refl
local_is (Note deed) = refl
local_is (Goto place) = refl
local_is (Branch condition otherwise) = refl
local_is (First name members after) = refl
local_is (Next name members body) = refl

-- an end falls
ending_falls : (lines : List AlgorithmLine) (least : ℕ) (ranks : List ℕ) (place : ℕ) (form : LineKind) (k : ℕ) → form_of form ≡ Ending k
    → form_falls lines least ranks place form ≡ true
ending_falls lines least ranks place (Access a) k e = absurd (cc)
ending_falls lines least ranks place (Local (Assign name value)) k e = absurd (cc)
ending_falls lines least ranks place (Local (AssignRow row elements value)) k e = absurd (cc)
ending_falls lines least ranks place (Local (Note deed)) k e = absurd (cc)
ending_falls lines least ranks place (Local (Goto to)) k e = absurd (cc)
ending_falls lines least ranks place (Local (Branch condition otherwise)) k e = absurd (cc)
ending_falls lines least ranks place (Local (First name members after)) k e = absurd (cc)
ending_falls lines least ranks place (Local (Next name members body)) k e = absurd (cc)
ending_falls lines least ranks place (Done answer) k e = refl

-- ---- a draft whose calls run as they may

record CallRuns (d : Drafted) : Type 0 where
  fit : (kind : AlgorithmCall) (call : CallRead) → call_in kind d.calls ≡ Some call → RunsFit d call

come_within : (d : Drafted) → CallRuns d → (at : ℕ) → RunsComeTo d at → at < length d.lines
come_within d runs at c = (line_within d c.1.0 at ((runs.fit c.0 c.1.0 c.1.1).stays at c.1.2)).1

draft_local_at : (d : Drafted) (at : ℕ) (old : PlacedLine) → slice_get d.lines at ≡ Some old → is_local_form old.form ≡ true → draft_local d at ≡ true
unfolding draft_local local_where
draft_local_at d at old s h = ap local_where s ∙ h

draft_leads_at : (d : Drafted) (at w : ℕ) (old : PlacedLine) → slice_get d.lines at ≡ Some old → is_local_form old.form ≡ true → leads_to (forward_ways d.head.least (at + 1) old.form) w ≡ true
    → leads_to (draft_ways d at) w ≡ true
unfolding draft_ways
draft_leads_at d at w old s local h =
    ap (λ o. leads_to (ways_after d.head.least Forward at o) w) s
    ∙ ap (λ b. leads_to (cond (not b) (forward_ways d.head.least (at + 1) old.form) []) w) (local_silent old.form local) ∙ h

-- a line to which a run comes falls
reached_falls : (d : Drafted) (lines : List AlgorithmLine) (marks : List Bool) → CallRuns d → length lines ≡ length d.lines → ((at : ℕ) → is_in marks at ≡ true → RunsComeTo d at)
    → (place : ℕ) (old : PlacedLine) → slice_get d.lines place ≡ Some old → is_in marks place ≡ true
    → list_all (is_in marks) (ways d.head.least (place + 1) old.form) ≡ true
    → (line : AlgorithmLine) (form : LineKind) → form_of form ≡ old.form → form_falls lines d.head.least (draft_ranks d) place form ≡ true
reached_falls d lines marks runs size comes place old s marked stays line (Access a) e =
    let all : list_all (is_in marks) ((place + 1) ∷ []) ≡ true = subst (λ f. list_all (is_in marks) (ways d.head.least (place + 1) f) ≡ true) (sym e) stays in
    let next = all_leads (is_in marks) ((place + 1) ∷ []) (place + 1) all (first_leads (place + 1) []) in
    let within = come_within d runs (place + 1) (comes (place + 1) next) in
    line_there lines (place + 1) line (omega (arith, size, within))
reached_falls d lines marks runs size comes place old s marked stays line (Done answer) e = refl
reached_falls d lines marks runs size comes place old s marked stays line (Local l) e =
    let c = comes place marked in
    let fit = runs.fit c.0 c.1.0 c.1.1 in
    let here = come_within d runs place c in
    let rank = rank_is d place here in
    let few = rank_few d c.1.0 fit.stays fit.returns place c.1.2 in
    let is_local = subst (λ f. is_local_form f ≡ true) e (local_is l) in
    let local = draft_local_at d place old s is_local in
    let reached : (w : ℕ) → leads_to (ways d.head.least (place + 1) old.form) w ≡ true → w < length d.lines = λ w way.
    come_within d runs w (comes w (all_leads (is_in marks) (ways d.head.least (place + 1) old.form) w stays way)) in
    and_true (ways_pass (is_below lines (draft_ranks d) (get_or (draft_ranks d) place 0)) (is_line_at lines) d.head.least (place + 1) l) (ltb (get_or (draft_ranks d) place 0) (length lines))
    (ways_all (is_below lines (draft_ranks d) (get_or (draft_ranks d) place 0)) (is_line_at lines) d.head.least (place + 1) l
    (λ w leads.
    let way : leads_to (forward_ways d.head.least (place + 1) old.form) w ≡ true = subst (λ f. leads_to (forward_ways d.head.least (place + 1) f) w ≡ true) e leads in
    let there = reached w (forward_is_way d.head.least (place + 1) old.form w way) in
    let low = rank_falls d c.1.0 fit.stays fit.returns place w c.1.2 local (draft_leads_at d place w old s is_local way) in
    let low_rank = rank_is d w there in
    below_where lines (draft_ranks d) (get_or (draft_ranks d) place 0) w line (omega (arith, size, there)) (omega (arith, rank, low_rank, low)))
    (λ w leads.
    let way : leads_to (ways d.head.least (place + 1) old.form) w ≡ true = subst (λ f. leads_to (ways d.head.least (place + 1) f) w ≡ true) e leads in
    let there = reached w way in
    line_there lines w line (omega (arith, size, there))))
    (lt-ltb (get_or (draft_ranks d) place 0) (length lines) (omega (arith, rank, few, size)))

pub old_line : (mark : Bool) (o : Option PlacedLine) (new : PlacedLine) → option_map (ended_line mark) o ≡ Some new → (old : PlacedLine) × (o ≡ Some old) × (new ≡ ended_line mark old)
old_line mark None new e = absurd (none-some new e)
old_line mark (Some old) new e = (old, refl, sym (same_Some (ended_line mark old) new e))

falls_where : (d : Drafted) (lines : List AlgorithmLine) (marks : List Bool) → CallRuns d → length lines ≡ length d.lines → ((at : ℕ) → is_in marks at ≡ true → RunsComeTo d at)
    → (place : ℕ) (old : PlacedLine) → slice_get d.lines place ≡ Some old → (mark : Bool) → is_in marks place ≡ mark
    → cond mark (list_all (is_in marks) (ways d.head.least (place + 1) old.form)) (is_way old.form) ≡ true
    → (line : AlgorithmLine) → line_of line ≡ ended_line mark old → form_falls lines d.head.least (draft_ranks d) place line.form ≡ true
falls_where d lines marks runs size comes place old s true marked stays line e =
    reached_falls d lines marks runs size comes place old s marked stays line line.form (ap (λ l. l.form) e)
falls_where d lines marks runs size comes place old s false marked stays line e =
    let ended : line_of line ≡ record { number = old.number; form = Ending 0 } = e ∙ ap (λ b. cond b (record { number = old.number; form = Ending 0 }) old) stays in
    ending_falls lines d.head.least (draft_ranks d) place line.form 0 (ap (λ l. l.form) ended)

-- the lines of the algorithm fall
all_fall : (d : Drafted) (a : Algorithm) → CallRuns d → EndUnreached d (lines_of a) → a.least ≡ d.head.least → AllFall a.lines.items a.least (draft_ranks d)
all_fall d a runs e least = λ place line s.
    let size : length a.lines.items ≡ length d.lines = sym (length-map a.lines.items line_of) ∙ ap length e.ended ∙ length_ended e.marks 0 d.lines in
    let new : slice_get (lines_of a) place ≡ Some (line_of line) = slice_get-map line_of a.lines.items place ∙ ap (option_map line_of) s in
    let o = old_line (is_in e.marks place) (slice_get d.lines place) (line_of line)
    (sym (at_ended e.marks 0 d.lines place place (omega arith)) ∙ ap (λ ls. slice_get ls place) (sym e.ended) ∙ new) in
    subst (λ (n : ℕ). form_falls a.lines.items n (draft_ranks d) place line.form ≡ true) (sym least)
    (falls_where d a.lines.items e.marks runs size e.exact.comes place o.0 o.1 (is_in e.marks place) refl (stay_at d.head.least e.marks 0 d.lines place place o.0 (omega arith) e.stay o.1) line o.2)

pub local_lines_end : (d : Drafted) (a : Algorithm) → ((kind : AlgorithmCall) (call : CallRead) → call_in kind d.calls ≡ Some call → RunsFit d call)
    → EndUnreached d (lines_of a) → a.least ≡ d.head.least → LocalLinesEnd a
local_lines_end d a runs e least = all_end a (draft_ranks d) (all_fall d a (record { fit = runs }) e least)

pub accesses_lead_on : (d : Drafted) (a : Algorithm) → ((kind : AlgorithmCall) (call : CallRead) → call_in kind d.calls ≡ Some call → RunsFit d call)
    → EndUnreached d (lines_of a) → a.least ≡ d.head.least → AccessesLeadOn a
accesses_lead_on d a runs e least = all_lead a (draft_ranks d) (all_fall d a (record { fit = runs }) e least)
