-- The answer of a call, from the steps of its process.
use Rattle.std.proofs.Common.{◌≡◌, ℕ, zero, suc, ◌+◌, ◌≤◌, ◌⊎◌, Bool, true, false, if◌then◌else◌, Option, Some, None, IsNone, IsSome, IfSome, List, [], ◌∷◌, ◌++◌, Result, Ok, Err, IfErr, refl, sym, ap, ◌∙◌, subst, inl, inr, arith, append_assoc}
use Rattle.one_lock.proofs.Common.{Setup, IsReportedStep, Mirrors, TrailGrows, HasTakenSteps, Suffice, turns_after_one, IsAnsweredCall, AskedCall, asked_call, opening_of, ReturnsAnswer, IsReply, Trail, Seat, AreSizes}
use Rattle.one_lock.proofs.Common.{crashed_if, opened_machine, moved_machine, answer_with, is_blocked_with, first_of, later_opening, opening_after, machine_after, blocked_along, events_along}
use Rattle.one_lock.proofs.Common.{EndsAtLock, reply_by, entry_by}
use Rattle.one_lock.proofs.UnderWay.{IsUnderWay, Leaves, is_begun, steps_on}
use Rattle.one_lock.proofs.Events.{has_events}
use Rattle.std.proofs.lemmas.Bool.{true≢false}
use Rattle.redomail.specs.declared.reply.Reply.{Reply}
use Rattle.rmeworld.specs.declared.call.Call.TheVariants.{Lock}
use Rattle.table_runs.specs.declared.lock_fault.LockFault.{LockFault}
use Rattle.table_runs.specs.declared.lock_fault.LockFault.TheVariants.{Crashed, OutOfMemory, NotRecoverable as RuinFault}
use Rattle.one_lock.specs.declared.member_state.MemberState.TheVariants.{Mended}
use Rattle.rmeworld.specs.MachineState.{MachineState, IsSize}
use Rattle.rmeworld.specs.ReplyEvents.{HasEvents}
use Rattle.rmeworld.specs.declared.call.Call.{Call}
use Rattle.rmeworld.specs.declared.outcome.Outcome.{Outcome}
use Rattle.rmeworld.specs.declared.answer.Answer.{Answer}
use Rattle.rmeworld.specs.declared.answer.Answer.TheVariants.{NotRecoverable, Clean, OwnerDied, NumbersSpent, Unlocked, Withdrawn, Found, Mail}
use Rattle.table_runs.specs.declared.entry_kind.Entry.{Entry}
use Rattle.one_lock.specs.declared.opening.Opening.{Opening}
use Rattle.one_lock.specs.declared.member_state.MemberState.{MemberState}

-- the steps with these values, and one more
further_after : (vs : List ℕ) → opening_after later_opening vs ≡ later_opening
further_after [] = refl
further_after (v ∷ vs) = refl

pub machine_more : (o : Opening) (s : MachineState) (vs : List ℕ) (v : ℕ) → machine_after o s (vs ++ v ∷ []) ≡ moved_machine (opening_after o vs) (machine_after o s vs) v
machine_more o s [] v = refl
machine_more o s (w ∷ ws) v = machine_more later_opening (moved_machine o s w) ws v ∙ ap (λ (x : Opening). moved_machine x (machine_after later_opening (moved_machine o s w) ws) v) (further_after ws)

abbrev if_blocked : Opening → MachineState → ℕ → ℕ
if_blocked o s v = if is_blocked_with o s v then 1 else 0

blocked_more : (o : Opening) (s : MachineState) (vs : List ℕ) (v : ℕ) → blocked_along o s (vs ++ v ∷ []) ≡ blocked_along o s vs + if_blocked (opening_after o vs) (machine_after o s vs) v
blocked_more o s [] v = let n = if_blocked o s v in let e : n + 0 ≡ 0 + n = omega arith in e
blocked_more o s (w ∷ ws) v =
    let here = if_blocked o s w in
    let rest = blocked_more later_opening (moved_machine o s w) ws v ∙ ap (λ (x : Opening). blocked_along later_opening (moved_machine o s w) ws + if_blocked x (machine_after later_opening (moved_machine o s w) ws) v) (further_after ws) in
    let b = blocked_along later_opening (moved_machine o s w) ws in
    let last = if_blocked later_opening (machine_after later_opening (moved_machine o s w) ws) v in
    let sum : here + (b + last) ≡ (here + b) + last = omega arith in
    ap (λ (k : ℕ). here + k) rest ∙ sum

taken_more : (named : Option Setup) (p : ℕ) (o : Opening) (s : MachineState) (vs : List ℕ) (v : ℕ) → HasTakenSteps named p o s vs → IsReportedStep named p (opening_after o vs) (machine_after o s vs) v → answer_with (opening_after o vs) (machine_after o s vs) v ≡ None → HasTakenSteps named p o s (vs ++ v ∷ [])
taken_more named p o s [] v taken gives none = (gives, none, tt)
taken_more named p o s (w ∷ ws) v taken gives none =
    let t = moved_machine o s w in
    let later : (x : Opening) → x ≡ later_opening → IsReportedStep named p later_opening (machine_after later_opening t ws) v → IsReportedStep named p x (machine_after later_opening t ws) v = λ x is. subst (λ (y : Opening). IsReportedStep named p y (machine_after later_opening t ws) v) (sym is) in
    let silent : (x : Opening) → x ≡ later_opening → answer_with later_opening (machine_after later_opening t ws) v ≡ None → answer_with x (machine_after later_opening t ws) v ≡ None = λ x is. subst (λ (y : Opening). answer_with y (machine_after later_opening t ws) v ≡ None) (sym is) in
    (taken.0, taken.1, taken_more named p later_opening t ws v taken.2 (later (opening_after later_opening ws) (further_after ws) gives) (silent (opening_after later_opening ws) (further_after ws) none))

opening_more : (o : Opening) (vs : List ℕ) (v : ℕ) → opening_after o (vs ++ v ∷ []) ≡ later_opening
opening_more o [] v = refl
opening_more o (w ∷ ws) v = refl

-- the turns that are left after k blocked steps
abbrev pub AreLeft : Option ℕ → ℕ → Option ℕ → Type 0
AreLeft None k left = left ≡ None
AreLeft (Some turns) k left = (m : ℕ) × (left ≡ Some m) × (m + k ≡ turns)

-- the machine before a step with this opening: of the call's first step, or of a later one
abbrev pub Runs : MemberState → Call → Opening → MachineState → Type 0
Runs standing call o s = ((o ≡ first_of standing call) × IsSize s.layout) ⊎ ((o ≡ later_opening) × IsUnderWay call s)

-- The opening of a call's next step, after steps that gave no answer. They went from one trail to another, and these turns
-- are left.
pub record HasGone (asked : AskedCall) (left : Option ℕ) (from to : Trail) (o : Opening) : Type 0 where
  pub before : List ℕ
  pub taken : HasTakenSteps asked.named asked.process (opening_of asked) from.machine before
  pub opens : o ≡ opening_after (opening_of asked) before
  pub machine : to.machine ≡ machine_after (opening_of asked) from.machine before
  pub values : to.values ≡ from.values ++ before
  pub turns_left : AreLeft asked.turns (blocked_along (opening_of asked) from.machine before) left
  pub runs : Runs asked.standing asked.call o to.machine

left_first : (turns : Option ℕ) → AreLeft turns 0 turns
left_first None = refl
left_first (Some turns) = (turns, refl, omega arith)

append_none : (xs : List ℕ) → xs ++ [] ≡ xs
append_none [] = refl
append_none (x ∷ xs) = ap (λ (ys : List ℕ). x ∷ ys) (append_none xs)

pub begins : (named : Option Setup) (p : ℕ) (s : MemberState) (call : Call) (turns : Option ℕ) (from : Trail) (o : Opening) → IsSize from.machine.layout → o ≡ first_of s call → HasGone (asked_call named p s call turns) turns from from o
begins named p s call turns from o size is =
    record {
      before = [];
      taken = tt;
      opens = is;
      machine = refl;
      values = sym (append_none from.values);
      turns_left = left_first turns;
      runs = inl (is, size);
    }

suffices : (turns left : Option ℕ) (k : ℕ) → AreLeft turns k left → Suffice turns k
suffices None left k l = tt
suffices (Some turns) left k (m, is, sum) = omega (arith, sum)

crashed_layout : (b : Bool) (s : MachineState) → (crashed_if b s).layout ≡ s.layout
crashed_layout true s = refl
crashed_layout false s = refl

-- what a step of the call leaves
leaves : (standing : MemberState) (call : Call) (named : Option Setup) (p : ℕ) (o : Opening) (s : MachineState) (v : ℕ) → Runs standing call o s → IsReportedStep named p o s v → Leaves call (answer_with o s v) (moved_machine o s v)
leaves standing call named p o s v (inl (first, size)) g =
    let m : Mirrors (first_of standing call) g.turn s = subst (λ (x : Opening). Mirrors x g.turn s) first g.mirrors in
    let t = crashed_if (first_of standing call).crash s in
    let begun = is_begun t call (subst IsSize (sym (crashed_layout (first_of standing call).crash s)) size) m.accepts in
    let here = steps_on (opened_machine (first_of standing call) s) call g.turn.happened begun m.event in
    subst (λ (w : ℕ). Leaves call (answer_with o s w) (moved_machine o s w)) g.value (subst (λ (x : Opening). Leaves call (answer_with x s g.turn.happened.value) (moved_machine x s g.turn.happened.value)) (sym first) here)
leaves standing call named p o s v (inr (later, under)) g =
    let m : Mirrors later_opening g.turn s = subst (λ (x : Opening). Mirrors x g.turn s) later g.mirrors in
    let here = steps_on s call g.turn.happened under m.event in
    subst (λ (w : ℕ). Leaves call (answer_with o s w) (moved_machine o s w)) g.value (subst (λ (x : Opening). Leaves call (answer_with x s g.turn.happened.value) (moved_machine x s g.turn.happened.value)) (sym later) here)

module _ (named : Option Setup) (p : ℕ) (s : MemberState) (call : Call) (turns left : Option ℕ) (from mid to : Trail) (o : Opening) (outcome : Outcome) (way : HasGone (asked_call named p s call turns) left from mid o) (g : TrailGrows named p o mid outcome to) where
  abbrev first : Opening
  first = first_of s call

  abbrev last : ℕ
  last = g.0

  -- the place before the step, from the trail at the call's start
  at : (P : Opening → MachineState → Type 0) → P o mid.machine → P (opening_after first way.before) (machine_after first from.machine way.before)
  at P x = subst (λ (y : Opening × MachineState). P y.0 y.1) (λ i. (way.opens i, way.machine i)) x

  gives : IsReportedStep named p (opening_after first way.before) (machine_after first from.machine way.before) last
  gives = at (λ x m. IsReportedStep named p x m last) g.2

  reported : answer_with (opening_after first way.before) (machine_after first from.machine way.before) last ≡ outcome.answer
  reported = at (λ x m. answer_with x m last ≡ outcome.answer) (sym g.3)

  blocked : is_blocked_with (opening_after first way.before) (machine_after first from.machine way.before) last ≡ outcome.progress.blocked
  blocked = at (λ x m. is_blocked_with x m last ≡ outcome.progress.blocked) (sym g.4)

  machine : to.machine ≡ machine_after first from.machine (way.before ++ last ∷ [])
  machine = ap (λ (t : Trail). t.machine) g.1 ∙ (λ i. moved_machine (way.opens i) (way.machine i) last) ∙ sym (machine_more first from.machine way.before last)

  values : to.values ≡ from.values ++ (way.before ++ last ∷ [])
  values = ap (λ (t : Trail). t.values) g.1 ∙ ap (λ (xs : List ℕ). xs ++ last ∷ []) way.values ∙ append_assoc from.values way.before (last ∷ [])

  left_then : Leaves call outcome.answer to.machine
  left_then = subst (λ (y : Option Answer × MachineState). Leaves call y.0 y.1) (λ i. (sym g.3 i, sym (ap (λ (t : Trail). t.machine) g.1) i)) (leaves s call named p o mid.machine last way.runs g.2)

  answered : from.machine.index ≡ p → 1 ≤ from.machine.limit → AreSizes named from.machine.layout from.machine.limit
      → (IsNone outcome.answer → (outcome.progress.blocked ≡ true) × (turns ≡ Some (blocked_along first from.machine way.before))) → IsAnsweredCall (asked_call named p s call turns) from to outcome.answer
  answered index number sizes gives_up =
      record {
        index = index;
        sizes = sizes;
        before = way.before;
        last = last;
        taken = way.taken;
        given = gives;
        answered = reported;
        fits = left_then.0;
        events = table outcome.answer reported;
        values = values;
        machine = machine;
        few = suffices turns left (blocked_along first from.machine way.before) way.turns_left;
        gives_up = λ none. (blocked ∙ (gives_up none).0, (gives_up none).1);
      }
    where
      table : (a : Option Answer) → answer_with (opening_after first way.before) (machine_after first from.machine way.before) last ≡ a
          → IfSome a (λ x. HasEvents from.machine.layout from.machine.limit p (crashed_if first.crash from.machine).mended call x (events_along first from.machine (way.before ++ last ∷ [])))
      table None is = tt
      table (Some a) is = has_events from.machine.layout from.machine.limit p named p s call from.machine way.before last a number (refl, refl, index) way.taken gives is

  pub answered_by : from.machine.index ≡ p → 1 ≤ from.machine.limit → AreSizes named from.machine.layout from.machine.limit → IsSome outcome.answer → IsAnsweredCall (asked_call named p s call turns) from to outcome.answer
  answered_by index number sizes some = answered index number sizes (λ none. absurd (no outcome.answer some none))
    where
      no : (a : Option Answer) → IsSome a → IsNone a → ⊥
      no None some none = true≢false (sym some)
      no (Some a) some none = true≢false none

  -- blocked once more, with no turn left
  pub given_up : from.machine.index ≡ p → 1 ≤ from.machine.limit → AreSizes named from.machine.layout from.machine.limit → outcome.answer ≡ None → outcome.progress.blocked ≡ true → left ≡ Some 0 → IsAnsweredCall (asked_call named p s call turns) from to None
  given_up index number sizes silent stands none =
      subst (IsAnsweredCall (asked_call named p s call turns) from to) silent (answered index number sizes (λ n. (stands, none_left turns left (blocked_along first from.machine way.before) way.turns_left none)))
    where
      no_some : (m : ℕ) → None ≡ Some m → ⊥
      no_some m e = cc

      same_left : (m n : ℕ) → Some m ≡ Some n → m ≡ n
      same_left m n e = cc

      none_left : (turns left : Option ℕ) (k : ℕ) → AreLeft turns k left → left ≡ Some 0 → turns ≡ Some k
      none_left None left k l none = absurd (no_some 0 (sym l ∙ none))
      none_left (Some turns) left k (m, is, sum) none =
          let zero : m ≡ 0 = same_left m 0 (sym is ∙ none) in
          let k_is : turns ≡ k = omega (arith, sum, zero) in
          ap Some k_is

  goes : (new : Opening) (less : Option ℕ) → outcome.answer ≡ None → new ≡ later_opening → AreLeft turns (blocked_along first from.machine (way.before ++ last ∷ [])) less → HasGone (asked_call named p s call turns) less from to new
  goes new less silent is are =
      record {
        before = way.before ++ last ∷ [];
        taken = taken_more named p first from.machine way.before last way.taken gives (reported ∙ silent);
        opens = is ∙ sym (opening_more first way.before last);
        machine = machine;
        values = values;
        turns_left = are;
        runs = inr (is, left_then.1 silent);
      }

  count : (b : Bool) → outcome.progress.blocked ≡ b → blocked_along first from.machine (way.before ++ last ∷ []) ≡ blocked_along first from.machine way.before + (if b then 1 else 0)
  count b is = blocked_more first from.machine way.before last ∙ ap (λ (x : Bool). blocked_along first from.machine way.before + (if x then 1 else 0)) (blocked ∙ is)

  -- a step that was not blocked
  pub goes_free : (new : Opening) → outcome.answer ≡ None → outcome.progress.blocked ≡ false → new ≡ later_opening → HasGone (asked_call named p s call turns) left from to new
  goes_free new silent free is =
      let none = count false free in
      let same : blocked_along first from.machine way.before ≡ blocked_along first from.machine (way.before ++ last ∷ []) = omega (arith, none) in
      goes new left silent is (subst (λ (k : ℕ). AreLeft turns k left) same way.turns_left)

  -- a step that was blocked, with a turn left for it
  pub goes_blocked : (new : Opening) (less : Option ℕ) → outcome.answer ≡ None → outcome.progress.blocked ≡ true → new ≡ later_opening → (left ≡ Some 0 → ⊥) → less ≡ turns_after_one left → HasGone (asked_call named p s call turns) less from to new
  goes_blocked new less silent stands is some fewer =
      let one = count true stands in
      let same : suc (blocked_along first from.machine way.before) ≡ blocked_along first from.machine (way.before ++ last ∷ []) = omega (arith, one) in
      goes new less silent is (subst (λ (k : ℕ). AreLeft turns k less) same (one_less turns left less (blocked_along first from.machine way.before) way.turns_left some fewer))
    where
      one_less : (turns left less : Option ℕ) (k : ℕ) → AreLeft turns k left → (left ≡ Some 0 → ⊥) → less ≡ turns_after_one left → AreLeft turns (suc k) less
      one_less None left less k l some is = is ∙ ap turns_after_one l
      one_less (Some turns) left less k (zero, l, sum) some is = absurd (some l)
      one_less (Some turns) left less k (suc m, l, sum) some is = (m, is ∙ ap turns_after_one l, omega (arith, sum))

pub still_none : (left after : Option ℕ) → IsNone left → after ≡ turns_after_one left → IsNone after
still_none None after none is = subst (λ (x : Option ℕ). IsNone x) (sym is) none
still_none (Some turns) after none is = absurd (true≢false none)

-- a call that is cut off
pub cut_off : {T : Type 0} (named : Option Setup) (by : Option Answer → Result T LockFault) (m : Seat) (call : Call) (turns : Option ℕ) (new : Seat) (e : LockFault) → ((e ≡ Crashed) ⊎ (e ≡ OutOfMemory)) → ReturnsAnswer named by m call turns new (Err e)
cut_off named by m call turns new e (inl crash) = record { fact = inl (ap Err crash) }
cut_off named by m call turns new e (inr memory) = record { fact = inr (inl (ap Err memory)) }

-- a call that is answered, but for its last asking
pub as_reported : {T : Type 0} (named : Option Setup) (by : Option Answer → Result T LockFault) (m mid new : Seat) (kept lost : MemberState) (call : Call) (turns : Option ℕ) (a : Option Answer) (answer result : Result T LockFault) → IsAnsweredCall (asked_call named m.process m.standing call turns) m.trail mid.trail a → answer ≡ by a
    → (((result ≡ answer) × (new ≡ record mid { standing = kept })) ⊎ ((result ≡ Err Crashed) × (new ≡ record mid { standing = lost }))) → ReturnsAnswer named by m call turns new result
as_reported named by m mid new kept fell call turns a answer result fits fact (inl (same, k)) =
    record { fact = inr (inr (a, (subst (λ (n : Trail). IsAnsweredCall (asked_call named m.process m.standing call turns) m.trail n a) (ap (λ (x : Seat). x.trail) (sym k)) fits, same ∙ fact))) }
as_reported named by m mid new kept fell call turns a answer result fits fact (inr (crash, k)) = record { fact = inl crash }

-- the answer of a task
pub replied_by : (named : Option Setup) (p : ℕ) (call : Call) (from to : Trail) (a : Option Answer) (reply : Reply) → IsSome a → IsAnsweredCall (asked_call named p Mended call None) from to a → reply ≡ reply_by a → IsReply named p call reply
replied_by named p call from to None reply some fits fact = absurd (true≢false (sym some))
replied_by named p call from to (Some a) reply some fits fact = record { answer = a; from = from; to = to; answered = fits; is = fact }

-- a whole call that is cut off says nothing of its lock
pub cut_at_lock : (named : Option Setup) (m : Seat) (turns : Option ℕ) (to : Trail) (e : LockFault) → ((e ≡ Crashed) ⊎ (e ≡ OutOfMemory)) → EndsAtLock named m turns to e
cut_at_lock named m turns to e (inl crash) = subst (EndsAtLock named m turns to) (sym crash) tt
cut_at_lock named m turns to e (inr memory) = subst (EndsAtLock named m turns to) (sym memory) tt

ends_at_lock : (named : Option Setup) (m : Seat) (turns : Option ℕ) (to : Trail) (a : Option Answer) → IsAnsweredCall (asked_call named m.process m.standing Lock turns) m.trail to a → IfErr (entry_by a) (EndsAtLock named m turns to)
ends_at_lock named m turns to None is = is
ends_at_lock named m turns to (Some Clean) is = tt
ends_at_lock named m turns to (Some OwnerDied) is = tt
ends_at_lock named m turns to (Some NumbersSpent) is = is
ends_at_lock named m turns to (Some NotRecoverable) is = tt
ends_at_lock named m turns to (Some Unlocked) is = tt
ends_at_lock named m turns to (Some (Found found)) is = tt
ends_at_lock named m turns to (Some (Mail reply)) is = tt
ends_at_lock named m turns to (Some Withdrawn) is = tt

-- a whole call whose lock was answered with a fault, but for its last asking
pub locked_out : (named : Option Setup) (m mid new : Seat) (kept lost : MemberState) (turns : Option ℕ) (a : Option Answer) (e : LockFault) (entry : Result Entry LockFault) (result : Result Reply LockFault) → IsAnsweredCall (asked_call named m.process m.standing Lock turns) m.trail mid.trail a → entry ≡ entry_by a → entry ≡ Err e
    → (((result ≡ Err e) × (new ≡ record mid { standing = kept })) ⊎ ((result ≡ Err Crashed) × (new ≡ record mid { standing = lost }))) → IfErr result (EndsAtLock named m turns new.trail)
locked_out named m mid new kept fell turns a e entry result fits fact fault (inl (same, k)) =
    subst (λ (r : Result Reply LockFault). IfErr r (EndsAtLock named m turns new.trail)) (sym same) (subst (λ (n : Trail). EndsAtLock named m turns n e) (ap (λ (x : Seat). x.trail) (sym k)) (subst (λ (r : Result Entry LockFault). IfErr r (EndsAtLock named m turns mid.trail)) (sym fact ∙ fault) (ends_at_lock named m turns mid.trail a fits)))
locked_out named m mid new kept fell turns a e entry result fits fact fault (inr (crash, k)) = subst (λ (r : Result Reply LockFault). IfErr r (EndsAtLock named m turns new.trail)) (sym crash) tt

ruined_inside : (named : Option Setup) (m : Seat) (turns : Option ℕ) (to : Trail) (reply : Result Reply LockFault) → IfErr reply (λ (e : LockFault). e ≡ RuinFault) → IfErr reply (EndsAtLock named m turns to)
ruined_inside named m turns to (Ok reply) ruin = tt
ruined_inside named m turns to (Err e) ruin = subst (EndsAtLock named m turns to) (sym ruin) tt

-- a whole call whose lock entered, but for its last asking
pub came_in : (named : Option Setup) (m new kept lost : Seat) (turns : Option ℕ) (to : Trail) (reply result : Result Reply LockFault) → IfErr reply (λ (e : LockFault). e ≡ RuinFault) → (((result ≡ reply) × (new ≡ kept)) ⊎ ((result ≡ Err Crashed) × (new ≡ lost)))
    → IfErr result (EndsAtLock named m turns to)
came_in named m new kept lost turns to reply result ruin (inl (same, k)) = subst (λ (r : Result Reply LockFault). IfErr r (EndsAtLock named m turns to)) (sym same) (ruined_inside named m turns to reply ruin)
came_in named m new kept lost turns to reply result ruin (inr (crash, k)) = subst (λ (r : Result Reply LockFault). IfErr r (EndsAtLock named m turns to)) (sym crash) tt
