-- Lines that fall: a run of local lines ends.
use Rattle.std.proofs.Common.{ℕ, zero, suc, ◌+◌, ◌-◌, ◌<◌, ◌≤◌, ◌≡◌, Bool, true, false, cond, ◌&&◌, ◌||◌, nat_lt, nat_le, nat_eq, refl, sym, ◌∙◌, ap, subst, List, length, replicate, Option, Some, None, Result, Ok, Err, ok_or, slice_get, slice_index, option_and_then, arith}
use Rattle.std.proofs.lemmas.Bool.{leb-true, le-leb, lt-ltb, ltb-true, eqb-true, eq-eqb}
use Rattle.std.proofs.lemmas.Option.{same_Some, slice_get_within}
use Rattle.algorithms.specs.Values.{expression_value, operation_value, holds, fitting}
use Rattle.algorithms.specs.LocalRuns.{at_place, with_value, names_after_row, with_names, with_deed, least_from, member_from, end_value, first_number, number_after, round_at, local_line_done}
use Rattle.algorithms.specs.Arrivals.{GoesOn, GoesBack, RoundOutcome, Arrives, Repeats, outcome_after, after_round, further_rounds, is_way_back, local_step_of, most_local_rounds, round_outcome, step_to, ◌>>=◌}
use Rattle.algorithms.specs.Ranked.{rank_of, is_line_below, is_below, literal_of, less_by, least_joined, least_value, has_round, ways_pass, is_line, is_line_at, form_falls, AllFall, LocalLinesEnd, AccessesLeadOn}
use Rattle.algorithms.specs.declared.algorithm.Algorithm.{Algorithm}
use Rattle.algorithms.specs.declared.constants.Constants.{Constants}
use Rattle.algorithms.specs.declared.expression.Expression.{Expression, Number, Private, Element', Me, Procs, Limit, Joined'}
use Rattle.algorithms.specs.declared.expression.Operator.{Operator}
use Rattle.algorithms.specs.declared.expression.Operator.TheVariants.{Sum, Difference, Product, Quotient, Remainder, Maximum, Minimum, Within}
use Rattle.algorithms.specs.declared.line.LineKind.{LineKind}
use Rattle.algorithms.specs.declared.line.LineKind.TheVariants.{Access, Local, Done}
use Rattle.algorithms.specs.declared.line.AlgorithmLine.{AlgorithmLine}
use Rattle.algorithms.specs.declared.line.LocalLine.{LocalLine}
use Rattle.algorithms.specs.declared.line.LocalLine.TheVariants.{Assign, AssignRow, Note, Goto, Branch, First, Next}
use Rattle.algorithms.specs.declared.line.Members.{Members}
use Rattle.algorithms.specs.declared.line.Members.TheVariants.{All, Others, Lower, Higher, Up, Down}
use Rattle.algorithms.specs.declared.local.LocalState.{LocalState}
use Rattle.algorithms.specs.declared.refusal.AlgorithmRefusal.{AlgorithmRefusal}
use Rattle.algorithms.specs.declared.refusal.AlgorithmRefusal.TheVariants.{OutOfRange, Malformed}

-- both parts of a test that passes
left_of : (a b : Bool) → a && b ≡ true → a ≡ true
left_of true b h = refl
left_of false b h = h

right_of : (a b : Bool) → a && b ≡ true → b ≡ true
right_of true b h = h
right_of false b h = absurd (cc)

-- what is so of the value that a chain has is so of its end
bind_lands : {A : Type 0} (test : ℕ → Bool) (o : Option A) (g : A → Option LocalState) (t : LocalState) → option_and_then g o ≡ Some t
    → ((v : A) → g v ≡ Some t → test t.at ≡ true) → test t.at ≡ true
bind_lands test None g t e h = absurd (cc)
bind_lands test (Some v) g t e h = h v e

bind_got : {A : Type 0} (test : ℕ → Bool) (o : Option A) (g : A → Option LocalState) (t : LocalState) → option_and_then g o ≡ Some t
    → ((v : A) → o ≡ Some v → g v ≡ Some t → test t.at ≡ true) → test t.at ≡ true
bind_got test None g t e h = absurd (cc)
bind_got test (Some v) g t e h = h v refl e

some_lands : (test : ℕ → Bool) (u t : LocalState) → Some u ≡ Some t → test u.at ≡ true → test t.at ≡ true
some_lands test u t e h = let same : u ≡ t = cc in ap (λ x. test x.at) (sym same) ∙ h

-- a loop leads to its body or past its end
round_lands : (test : ℕ → Bool) (name body after : ℕ) (s : LocalState) (o : Option ℕ) → test body ≡ true → (o ≡ None → test after ≡ true) → test (round_at name body after s o).at ≡ true
round_lands test name body after s (Some j) b a = b
round_lands test name body after s None b a = a refl

fitting_some : (n m : ℕ) → n < m → fitting (nat_lt n m) n ≡ None → ⊥
fitting_some n m low e = let h : fitting true n ≡ None = ap (λ b. fitting b n) (sym (lt-ltb n m low)) ∙ e in cc

one_or_none : (b : Bool) (n : ℕ) → 2 ≤ n → cond b (0 + 1) 0 < n
one_or_none true n h = omega arith
one_or_none false n h = omega arith

others_some : (c : Constants) → c.me < c.procs → 2 ≤ c.procs → least_from c Others 0 ≡ None → ⊥
others_some c own two e = fitting_some (member_from c Others 0) c.procs (one_or_none (nat_eq 0 c.me) c.procs two) e

-- a value is not below its least one

fitting_is : (b : Bool) (n v : ℕ) → fitting b n ≡ Some v → n ≡ v
fitting_is true n v e = same_Some n v e
fitting_is false n v e = absurd (cc)

module _ (least : ℕ) (c : Constants) (store : List ℕ) (many : least ≤ c.procs) where
  -- the value of a difference, where that of its left side is not below its least one
  difference_by : (a b : Expression) (v : ℕ) → ((x : ℕ) → expression_value c store a ≡ Some x → least_value least a ≤ x)
      → option_and_then (λ x. option_and_then (λ y. operation_value Difference x y) (expression_value c store b)) (expression_value c store a) ≡ Some v → less_by (least_value least a) (literal_of b) ≤ v
  difference_by a (Number k) v low e = on (expression_value c store a) refl e
    where
      on : (o : Option ℕ) → expression_value c store a ≡ o → option_and_then (λ x. operation_value Difference x k) o ≡ Some v → least_value least a - k ≤ v
      on None f e = absurd (cc)
      on (Some x) f e = let same : x - k ≡ v = fitting_is (nat_le k x) (x - k) v e in let h = low x f in omega (arith, h, same)
  difference_by a (Private k) v low e = omega arith
  difference_by a (Element' row p index) v low e = omega arith
  difference_by a Me v low e = omega arith
  difference_by a Procs v low e = omega arith
  difference_by a Limit v low e = omega arith
  difference_by a (Joined' o p x q y) v low e = omega arith

  joined_by : (o : Operator) (a b : Expression) (v : ℕ) → ((x : ℕ) → expression_value c store a ≡ Some x → least_value least a ≤ x)
      → option_and_then (λ x. option_and_then (λ y. operation_value o x y) (expression_value c store b)) (expression_value c store a) ≡ Some v → least_joined o (least_value least a) (literal_of b) ≤ v
  joined_by Difference a b v low e = difference_by a b v low e
  joined_by Sum a b v low e = omega arith
  joined_by Product a b v low e = omega arith
  joined_by Quotient a b v low e = omega arith
  joined_by Remainder a b v low e = omega arith
  joined_by Maximum a b v low e = omega arith
  joined_by Minimum a b v low e = omega arith
  joined_by Within a b v low e = omega arith

  least_is : (e : Expression) (v : ℕ) → expression_value c store e ≡ Some v → least_value least e ≤ v
  least_is (Number n) v e = let same : n ≡ v = same_Some n v e in omega (arith, same)
  least_is (Private k) v e = omega arith
  least_is (Element' row p index) v e = omega arith
  least_is Me v e = omega arith
  least_is Procs v e = let same : c.procs ≡ v = same_Some c.procs v e in omega (arith, same, many)
  least_is Limit v e = omega arith
  least_is (Joined' o p a q b) v e = joined_by o a b v (λ x f. least_is a x f) e

fitting_le : (n m v : ℕ) → n ≤ m → fitting (nat_le n m) v ≡ None → ⊥
fitting_le n m v low e = let h : fitting true v ≡ None = ap (λ b. fitting b v) (sym (le-leb n m low)) ∙ e in cc

-- a loop from a number up to no less a value has a round
up_some : (least : ℕ) (a b : Expression) (c : Constants) → has_round least (Up a b) ≡ true → least ≤ c.procs → first_number c (Up a b) ≡ Some None → ⊥
up_some least (Number n) b c r many e = on (end_value c b) refl e
  where
    on : (o : Option ℕ) → end_value c b ≡ o → option_and_then (λ y. Some (fitting (nat_le n y) n)) o ≡ Some None → ⊥
    on None f e = cc
    on (Some y) f e =
        let h = leb-true n (least_value least b) r in
        let k = least_is least c (replicate 64 0) many b y f in
        fitting_le n y n (omega (arith, h, k)) (same_Some (fitting (nat_le n y) n) None e)
up_some least (Private k) b c r many e = absurd (cc)
up_some least (Element' row p index) b c r many e = absurd (cc)
up_some least Me b c r many e = absurd (cc)
up_some least Procs b c r many e = absurd (cc)
up_some least Limit b c r many e = absurd (cc)
up_some least (Joined' o p x q y) b c r many e = absurd (cc)

-- so has one down to a number
down_some : (least : ℕ) (a b : Expression) (c : Constants) → has_round least (Down a b) ≡ true → least ≤ c.procs → first_number c (Down a b) ≡ Some None → ⊥
down_some least a (Number n) c r many e = on (end_value c a) refl e
  where
    on : (o : Option ℕ) → end_value c a ≡ o → option_and_then (λ x. Some (fitting (nat_le n x) x)) o ≡ Some None → ⊥
    on None f e = cc
    on (Some x) f e =
        let h = leb-true n (least_value least a) r in
        let k = least_is least c (replicate 64 0) many a x f in
        fitting_le n x x (omega (arith, h, k)) (same_Some (fitting (nat_le n x) x) None e)
down_some least a (Private k) c r many e = absurd (cc)
down_some least a (Element' row p index) c r many e = absurd (cc)
down_some least a Me c r many e = absurd (cc)
down_some least a Procs c r many e = absurd (cc)
down_some least a Limit c r many e = absurd (cc)
down_some least a (Joined' o p x q y) c r many e = absurd (cc)

-- a loop that has a round in each world has a first number
first_some : (least : ℕ) (members : Members) (c : Constants) → has_round least members ≡ true → c.me < c.procs → least ≤ c.procs → first_number c members ≡ Some None → ⊥
first_some least All c r own many e = fitting_some 0 c.procs (omega arith) (same_Some (least_from c All 0) None e)
first_some least Others c r own many e = let two : 2 ≤ least = leb-true 2 least r in others_some c own (omega arith) (same_Some (least_from c Others 0) None e)
first_some least Lower c r own many e = absurd (cc)
first_some least Higher c r own many e = absurd (cc)
first_some least (Up a b) c r own many e = up_some least a b c r many e
first_some least (Down a b) c r own many e = down_some least a b c r many e

or_first : (a b : Bool) → a || b ≡ true → (a ≡ true → ⊥) → b ≡ true
or_first true b h never = absurd (never refl)
or_first false b h never = h

-- the test of a place to which a line has led
abbrev way_passes : (test begins : ℕ → Bool) → LocalLine → ℕ → Bool
way_passes test begins line at = cond (is_way_back line at) (begins at) (test at)

past_passes : (back x y : Bool) → (back ≡ true → x ≡ true) → y ≡ true → cond back x y ≡ true
past_passes true x y h k = h refl
past_passes false x y h k = k

-- a local line leads to one of its ways
goes_a_way : (test begins : ℕ → Bool) (least next : ℕ) (c : Constants) (s t : LocalState) (line : LocalLine) → c.me < c.procs → least ≤ c.procs
    → ways_pass test begins least next line ≡ true → local_line_done c next line s ≡ Some t → way_passes test begins line t.at ≡ true
goes_a_way test begins least next c s t (Assign name value) own many w e =
    bind_lands test (expression_value c s.store value) (λ v. Some (at_place next (with_value name v s))) t e (λ v f. some_lands test (at_place next (with_value name v s)) t f w)
goes_a_way test begins least next c s t (AssignRow row elements value) own many w e =
    bind_lands test (expression_value c s.store value) (λ v. option_and_then (λ store. Some (at_place next (with_names store s))) (names_after_row c row elements v s.store)) t e
    (λ v f. bind_lands test (names_after_row c row elements v s.store) (λ store. Some (at_place next (with_names store s))) t f
    (λ store g. some_lands test (at_place next (with_names store s)) t g w))
goes_a_way test begins least next c s t (Note deed) own many w e =
    bind_lands test (with_deed deed s) (λ u. Some (at_place next u)) t e (λ u f. some_lands test (at_place next u) t f w)
goes_a_way test begins least next c s t (Goto place) own many w e = some_lands test (at_place place s) t e w
goes_a_way test begins least next c s t (Branch condition otherwise) own many w e =
    bind_lands test (holds c s.store condition) (λ b. Some (at_place (cond b next otherwise) s)) t e
    (λ b f. some_lands test (at_place (cond b next otherwise) s) t f
    (elim b as (λ v. test (cond v next otherwise) ≡ true) [ true ↦ left_of (test next) (test otherwise) w | false ↦ right_of (test next) (test otherwise) w ]))
goes_a_way test begins least next c s t (First name members after) own many w e =
    bind_got test (first_number c members) (λ m. Some (round_at name next after s m)) t e
    (λ m got f. some_lands test (round_at name next after s m) t f
    (round_lands test name next after s m (left_of (test next) (has_round least members || test after) w)
    (λ none. or_first (has_round least members) (test after) (right_of (test next) (has_round least members || test after) w)
    (λ r. first_some least members c r own many (got ∙ ap Some none)))))
goes_a_way test begins least next c s t (Next name members body) own many w e =
    let there = left_of (begins body) (test next) w in
    let past = right_of (begins body) (test next) w in
    let passes : ℕ → Bool = way_passes test begins (Next name members body) in
    bind_lands passes (slice_get s.store name) (λ j. option_and_then (λ m. Some (round_at name body next s m)) (number_after c members j)) t e
    (λ j f. bind_lands passes (number_after c members j) (λ m. Some (round_at name body next s m)) t f
    (λ m g. some_lands passes (round_at name body next s m) t g
    (round_lands passes name body next s m
    (ap (λ b. cond b (begins body) (test body)) (eq-eqb body body refl) ∙ there)
    (λ none. past_passes (nat_eq body next) (begins next) (test next) (λ same. subst (λ place. begins place ≡ true) (eqb-true body next same) there) past))))

-- the line at a place that is below a rank
line_below : (ranks : List ℕ) (rank place : ℕ) (o : Option AlgorithmLine) → is_line_below ranks rank place o ≡ true
    → (line : AlgorithmLine) × ((o ≡ Some line) × (rank_of (slice_index ranks place) line.form < rank))
line_below ranks rank place None h = absurd (cc)
line_below ranks rank place (Some line) h = (line, (refl, ltb-true _ _ h))

-- a round that ends: at a stop, at a line with which the next round begins, or at a value out of range
abbrev RoundFits : List AlgorithmLine → Result RoundOutcome AlgorithmRefusal → Type 0
RoundFits lines (Ok (Arrives l)) = Unit {0}
RoundFits lines (Ok (Repeats at next)) = is_line_at lines next.at ≡ true
RoundFits lines (Err e) = (p : ℕ) → e ≡ Malformed p → ⊥

-- one line of a round: it stops, is refused for a value, or goes on at a line of lower rank, or begins the next round
by_next : (lines : List AlgorithmLine) (c : Constants) (m place : ℕ) (s : LocalState) (line : LocalLine) (o : Option LocalState)
    → ((t : LocalState) → Some t ≡ o → RoundFits lines (outcome_after (round_outcome lines c m) s (step_to line t)))
    → RoundFits lines ((ok_or o (OutOfRange place) >>= (λ next. Ok (step_to line next))) >>= outcome_after (round_outcome lines c m) s)
by_next lines c m place s line None rest = λ p e. cc
by_next lines c m place s line (Some t) rest = rest t refl

back_or_on : (lines : List AlgorithmLine) (c : Constants) (m : ℕ) (s t : LocalState) (back below : Bool) → cond back (is_line_at lines t.at) below ≡ true
    → (below ≡ true → RoundFits lines (round_outcome lines c m t))
    → RoundFits lines (outcome_after (round_outcome lines c m) s (cond back (GoesBack t) (GoesOn t)))
back_or_on lines c m s t true below h rest = h
back_or_on lines c m s t false below h rest = rest h

-- a line of a round, where the round ends from every line of lower rank with one line less
ends_at : (lines : List AlgorithmLine) (least : ℕ) (ranks : List ℕ) (c : Constants) (n : ℕ) (s : LocalState) (form : LineKind) → c.me < c.procs → least ≤ c.procs
    → ((t : LocalState) (line : AlgorithmLine) → slice_get lines t.at ≡ Some line → rank_of (slice_index ranks t.at) line.form < n → RoundFits lines (round_outcome lines c n t))
    → form_falls lines least ranks s.at form ≡ true → rank_of (slice_index ranks s.at) form < suc n
    → RoundFits lines (local_step_of c form s >>= outcome_after (round_outcome lines c n) s)
ends_at lines least ranks c n s (Access access) own many rest f low = tt
ends_at lines least ranks c n s (Done answer) own many rest f low = tt
ends_at lines least ranks c n s (Local local) own many rest f low =
    by_next lines c n s.at s local (local_line_done c (s.at + 1) local s) (λ t done.
    let test : ℕ → Bool = is_below lines ranks (slice_index ranks s.at) in
    let way = goes_a_way test (is_line_at lines) least (s.at + 1) c s t local own many
    (left_of (ways_pass test (is_line_at lines) least (s.at + 1) local) (nat_lt (slice_index ranks s.at) (length lines)) f) (sym done) in
    back_or_on lines c n s t (is_way_back local t.at) (test t.at) way (λ below.
    let there = line_below ranks (slice_index ranks s.at) t.at (slice_get lines t.at) below in
    rest t there.0 there.1.0 (omega (arith, there.1.1))))

falls_end : (lines : List AlgorithmLine) (least : ℕ) (ranks : List ℕ) (c : Constants) → AllFall lines least ranks → c.me < c.procs → least ≤ c.procs
    → (n : ℕ) (s : LocalState) (line : AlgorithmLine) → slice_get lines s.at ≡ Some line → rank_of (slice_index ranks s.at) line.form < n → RoundFits lines (round_outcome lines c n s)
falls_end lines least ranks c all own many zero s line here low = absurd (omega arith)
falls_end lines least ranks c all own many (suc n) s line here low =
    subst (λ o. RoundFits lines ((ok_or o (Malformed s.at) >>= (λ l. local_step_of c l.form s)) >>= outcome_after (round_outcome lines c n) s)) (sym here)
    (ends_at lines least ranks c n s line.form own many (falls_end lines least ranks c all own many n) (all s.at line here) low)

-- the rank of a line that falls is below the number of lines
rank_low : (lines : List AlgorithmLine) (least : ℕ) (ranks : List ℕ) (place : ℕ) (form : LineKind) → 0 < length lines → form_falls lines least ranks place form ≡ true → rank_of (slice_index ranks place) form < length lines
rank_low lines least ranks place (Access access) some f = some
rank_low lines least ranks place (Done answer) some f = some
rank_low lines least ranks place (Local local) some f =
    ltb-true _ _ (right_of (ways_pass (is_below lines ranks (slice_index ranks place)) (is_line_at lines) least (place + 1) local) (nat_lt (slice_index ranks place) (length lines)) f)

-- each round ends, from every line
round_fits : (a : Algorithm) (ranks : List ℕ) (c : Constants) → AllFall a.lines.items a.least ranks → c.me < c.procs → a.least ≤ c.procs
    → (s : LocalState) (line : AlgorithmLine) → slice_get a.lines.items s.at ≡ Some line → RoundFits a.lines.items (round_outcome a.lines.items c (length a.lines.items) s)
round_fits a ranks c all own many s line here =
    falls_end a.lines.items a.least ranks c all own many (length a.lines.items) s line here
    (rank_low a.lines.items a.least ranks s.at line.form (omega (arith, slice_get_within a.lines.items s.at line here)) (all s.at line here))

line_of_test : (o : Option AlgorithmLine) → is_line o ≡ true → (line : AlgorithmLine) × (o ≡ Some line)
line_of_test None h = absurd (cc)
line_of_test (Some line) h = (line, refl)

-- after a round that ends, where the next one does not come to a line that is not there
by_round : (lines : List AlgorithmLine) (c : Constants) (rounds p : ℕ) (r : Result RoundOutcome AlgorithmRefusal) → RoundFits lines r
    → ((at : ℕ) (t : LocalState) → is_line_at lines t.at ≡ true → further_rounds lines c rounds at t ≡ Err (Malformed p) → ⊥)
    → (r >>= after_round (further_rounds lines c rounds)) ≡ Err (Malformed p) → ⊥
by_round lines c rounds p (Ok (Arrives l)) fits rest e = cc
by_round lines c rounds p (Ok (Repeats at next)) fits rest e = rest at next fits e
by_round lines c rounds p (Err refusal) fits rest e = let same : refusal ≡ Malformed p = cc in fits p same

further_end : (a : Algorithm) (ranks : List ℕ) (c : Constants) → AllFall a.lines.items a.least ranks → c.me < c.procs → a.least ≤ c.procs
    → (rounds p at : ℕ) (s : LocalState) → is_line_at a.lines.items s.at ≡ true → further_rounds a.lines.items c rounds at s ≡ Err (Malformed p) → ⊥
unfolding further_rounds
further_end a ranks c all own many zero p at s there e = cc
further_end a ranks c all own many (suc rounds) p at s there e =
    let line = line_of_test (slice_get a.lines.items s.at) there in
    by_round a.lines.items c rounds p (round_outcome a.lines.items c (length a.lines.items) s) (round_fits a ranks c all own many s line.0 line.1)
    (further_end a ranks c all own many rounds p) e

-- local lines that fall end
pub all_end : (a : Algorithm) (ranks : List ℕ) → AllFall a.lines.items a.least ranks → LocalLinesEnd a
all_end a ranks all = record {
  each = λ c s line p own many here e.
      by_round a.lines.items c most_local_rounds p (round_outcome a.lines.items c (length a.lines.items) s) (round_fits a ranks c all own many s line here)
      (further_end a ranks c all own many most_local_rounds p) e;
}

is_there : (lines : List AlgorithmLine) (place : ℕ) (o : Option AlgorithmLine) → slice_get lines place ≡ o → is_line o ≡ true → place < length lines
is_there lines place None e h = absurd (cc)
is_there lines place (Some line) e h = slice_get_within lines place line e

-- after an access there is a line
pub all_lead : (a : Algorithm) (ranks : List ℕ) → AllFall a.lines.items a.least ranks → AccessesLeadOn a
all_lead a ranks all = record {
  each = λ place line access here form.
      is_there a.lines.items (place + 1) (slice_get a.lines.items (place + 1)) refl
      (ap (form_falls a.lines.items a.least ranks place) (sym form) ∙ all place line here);
}
