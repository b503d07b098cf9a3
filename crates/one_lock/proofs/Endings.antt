-- How the workers ended that were looked at so far.
use Rattle.std.proofs.Common.{◌≡◌, ◌≢◌, ℕ, ◌+◌, ◌<◌, ◌≤◌, inl, inr, Bool, true, false, Result, Ok, Err, List, map, length, take, get_or, slice_get, All, Contains, Option, Some, None, option_map, refl, sym, ap, ◌∙◌, subst, arith}
use Rattle.one_lock.proofs.LabCommon.{true≢false, cases_lt, get_or-map, get_or-take, length-map, length-take-le, take_all, All-more, All-contains, All-get_or, Contains-get_or, Layout, Crashed, OutOfMemory, NotRecoverable, NotYet}
use Rattle.one_lock.proofs.LabCommon.{AlreadyIn, NotOwner, NotInconsistent, BadIndex, BadWidth, Setup, AllSent, Fault, Refused, LabFault, BadSpec, Member, Spec, HaveAllSent, WantedMemory, fault_by}
use Rattle.one_lock.proofs.LabCommon.{IsOfLeast, IsReplyTo, WasSent, WereSent, MayEnd, HaveSentBelow, MayEndLab, setup_of, words_sent, Seat, KeepsProcess, of_wait, new_seats, place_of}
use Rattle.std.proofs.lemmas.Option.{slice_get-get_or, slice_get_within, slice_get-map, get_or_from_slice_get}
use Rattle.table_runs.specs.declared.lab.worker_end.WorkerEnd.{WorkerEnd}
use Rattle.table_runs.specs.declared.lab.lab_fault.LabFault.TheVariants.{OutOfMemory as WantsMemory, Reply}
use Rattle.table_runs.specs.declared.lock_fault.LockFault.TheVariants.{NumbersSpent}
use Rattle.redomail.specs.declared.reply.Reply.{Reply as ReplyOf}
use Rattle.rmeworld.specs.declared.answer.Answer.TheVariants.{NumbersSpent as SpentAnswer}
use Rattle.rmeworld.specs.declared.call.Call.TheVariants.{Lock, Append}
use Rattle.table_runs.specs.declared.lock_fault.LockFault.{LockFault}
use Rattle.one_lock.specs.Answers.{IsAnsweredCall, asked_call, IsReply, EndsAtLock, entry_by}
use Rattle.one_lock.specs.Whole.{Mends, TaskReplies, FollowsLock, Whole}
use Rattle.one_lock.specs.Member.{Trail, stands_entered}
use Rattle.one_lock.specs.LabEndings.{WasRuined}
use Rattle.rmeworld.specs.declared.answer.Answer.{Answer}
use Rattle.rmeworld.specs.declared.call.Call.{Call}
use Rattle.table_runs.specs.declared.entry_kind.Entry.{Entry}
use Rattle.table_runs.specs.declared.entry_kind.Entry.TheVariants.{Clean as CleanEntry, OwnerDied as OwnerDiedEntry}
use Rattle.one_lock.specs.declared.member_state.MemberState.{MemberState}
use Rattle.one_lock.proofs.Places.{number_at}
use Rattle.one_lock.proofs.Seats.{new_count}

-- the ending of the worker at a place
ends : {D : Type 0} (f : D → WorkerEnd) (ds : List D) (p : ℕ) (d : D) → p < length ds → get_or (map f ds) p (f d) ≡ f (get_or ds p d)
ends f ds p d within = get_or-map f ds p d (f d) within

inside : {D : Type 0} (f : D → WorkerEnd) (ds : List D) (p : ℕ) → p < length ds → p < length (map f ds)
inside f ds p within = subst (λ (n : ℕ). p < n) (sym (length-map ds f)) within

-- what is known of those before a place and of the one there
pub all_more : {D : Type 0} (P : WorkerEnd → Type 0) (f : D → WorkerEnd) (ds : List D) (p : ℕ) (d : D) → p < length ds → All P (take p (map f ds)) → P (f (get_or ds p d)) → All P (take (p + 1) (map f ds))
all_more P f ds p d within before here = All-more P (map f ds) p (f d) (inside f ds p within) before (subst P (sym (ends f ds p d within)) here)

pub all_of : {D : Type 0} (P : WorkerEnd → Type 0) (f : D → WorkerEnd) (ds : List D) (p : ℕ) → length ds ≤ p → All P (take p (map f ds)) → All P (map f ds)
all_of P f ds p past before = subst (λ (es : List WorkerEnd). All P es) (take_all p (map f ds) (subst (λ (n : ℕ). n ≤ p) (sym (length-map ds f)) past)) before

-- the worker with the least number of those that ended early
pub is_of_least : {D : Type 0} (f : D → WorkerEnd) (ds : List D) (p : ℕ) (d : D) (fault : LabFault) → p < length ds → HaveAllSent (take p (map f ds)) → fault_by p (f (get_or ds p d)) ≡ Some fault → IsOfLeast (map f ds) fault
is_of_least f ds p d fault within before fact =
    record {
      p = p;
      ending = f (get_or ds p d);
      at = slice_get-get_or (map f ds) p (f d) (inside f ds p within) ∙ ap (λ (e : WorkerEnd). Some e) (ends f ds p d within);
      before = before;
      fact = fact;
    }

-- whether some worker ended out of memory
pub one_wanted : {D : Type 0} (f : D → WorkerEnd) (ds : List D) (p : ℕ) (d : D) → p < length ds → d ≡ get_or ds p d → f d ≡ Fault OutOfMemory → WantedMemory (map f ds)
one_wanted f ds p d within is wanted = subst (Contains (map f ds)) (ends f ds p d within ∙ ap f (sym is) ∙ wanted) (Contains-get_or (map f ds) p (f d) (inside f ds p within))

pub none_wanted : (es : List WorkerEnd) → All (λ e. e ≢ Fault OutOfMemory) es → WantedMemory es → ⊥
none_wanted es none one = All-contains (λ (e : WorkerEnd). e ≢ Fault OutOfMemory) es (Fault OutOfMemory) none one refl

-- each worker has ended in one of its ways
abbrev pub EachMay : Option Setup → Spec → List WorkerEnd → Type 0
EachMay named s es = (p : ℕ) (e : WorkerEnd) → slice_get es p ≡ Some e → MayEnd named s p e

-- what is mapped to this
mapped_from : {D : Type 0} (f : D → WorkerEnd) (o : Option D) (e : WorkerEnd) → option_map f o ≡ Some e → (d : D) × (o ≡ Some d) × (f d ≡ e)
mapped_from f None e is = absurd (let none : Option WorkerEnd = None in let same : none ≡ Some e = is in cc)
mapped_from f (Some d) e is = (d, refl, (let same : Some (f d) ≡ Some e = is in cc))

-- workers that were handed back, by the states of the members of a new arena
pub each_may : {D : Type 0} (named : Option Setup) (s : Spec) (f : D → WorkerEnd) (g : D → Seat) (l : Layout) (limit n : ℕ) (ds looked : List D) → looked ≡ ds → All (λ d. MayEnd named s (g d).process (f d)) ds → map (λ d. place_of (g d)) ds ≡ map place_of (new_seats l limit n) → EachMay named s (map f looked)
each_may {D = D} named s f g l limit n ds looked is may places p e at =
    let P : D → Type 0 = λ d. MayEnd named s (g d).process (f d) in
    let place : D → ℕ × Layout = λ d. place_of (g d) in
    let here : slice_get (map f ds) p ≡ Some e = subst (λ (xs : List D). slice_get (map f xs) p ≡ Some e) is at in
    let one = mapped_from f (slice_get ds p) e (sym (slice_get-map f ds p) ∙ here) in
    let d = one.0 in
    let within : p < length ds = slice_get_within ds p d one.1 in
    let count : length ds ≡ n = sym (length-map ds place) ∙ ap length places ∙ length-map (new_seats l limit n) place_of ∙ new_count l limit n in
    let got : get_or ds p d ≡ d = get_or_from_slice_get ds p d d one.1 in
    let stands : place_of (g d) ≡ (p, l) = sym (ap place got) ∙ sym (get_or-map place ds p d (place d) within) ∙ ap (λ (xs : List (ℕ × Layout)). get_or xs p (place d)) places ∙ number_at l limit n p (place d) (subst (λ (k : ℕ). p < k) count within) in
    let it : P d = subst P got (All-get_or P ds p d within may) in
    subst (MayEnd named s p) one.2 (subst (λ (k : ℕ). MayEnd named s k (f d)) (ap (λ (x : ℕ × Layout). x.0) stands) it)

-- the workers of a lab that were handed back have ended in one of their ways
pub lab_ended : {D : Type 0} (named : Option Setup) (s : Spec) (f : D → WorkerEnd) (g : D → Seat) (ds looked : List D) → named ≡ Some (setup_of s) → looked ≡ ds → All (λ d. MayEnd named s (g d).process (f d)) ds → map (λ d. place_of (g d)) ds ≡ map place_of (new_seats (setup_of s).layout s.limit s.procs)
    → (length (map f looked) ≡ s.procs) × EachMay (Some (setup_of s)) s (map f looked)
lab_ended named s f g ds looked is same may places =
    let l = (setup_of s).layout in
    let count : length ds ≡ s.procs = sym (length-map ds (λ d. place_of (g d))) ∙ ap length places ∙ length-map (new_seats l s.limit s.procs) place_of ∙ new_count l s.limit s.procs in
    (length-map looked f ∙ ap length same ∙ count, subst (λ (z : Option Setup). EachMay z s (map f looked)) is (each_may named s f g l s.limit s.procs ds looked same may places))

abbrev failed : LockFault → Result ReplyOf LockFault
failed e = Err e

same_fault : (d e : LockFault) → failed d ≡ failed e → e ≡ d
same_fault d e is = cc

-- a mending that found the lock ruined
reported_mending : (named : Option Setup) (p : ℕ) (kind : Entry) (from to : Trail) (mended : Result Bool LockFault) → Mends named p (stands_entered (Ok kind)) from to mended → mended ≡ Err NotRecoverable → WasRuined named p
reported_mending named p CleanEntry from to mended (same, fine) ruin = absurd (let none : Result Bool LockFault = Ok false in let e : none ≡ Err NotRecoverable = sym fine ∙ ruin in cc)
reported_mending named p OwnerDiedEntry from to mended (a, is, fact) ruin =
    record {
      from = from;
      to = to;
      answer = a;
      fact = inr (is, sym fact ∙ ruin);
    }

reported_inside : (named : Option Setup) (p : ℕ) (task : Call) (kind : Entry) (from at replied : Trail) (mended : Result Bool LockFault) → Mends named p (stands_entered (Ok kind)) from at mended → TaskReplies named p task mended at replied (Err NotRecoverable) → WasRuined named p
reported_inside named p task kind from at replied (Ok repaired) mends replies = absurd replies
reported_inside named p task kind from at replied (Err fault) mends (same, e) =
    let f : fault ≡ NotRecoverable = same_fault NotRecoverable fault e in
    reported_mending named p kind from at (Err fault) mends (ap Err f)

-- a lock that found it, or what came after the lock
reports_after : (named : Option Setup) (p : ℕ) (s : MemberState) (from at to : Trail) (task : Call) (a : Option Answer) (entry : Result Entry LockFault) → IsAnsweredCall (asked_call named p s Lock None) from at a → entry ≡ entry_by a → FollowsLock named p task entry at to (Err NotRecoverable) → WasRuined named p
reports_after named p s from at to task a (Ok kind) is fact works = reported_inside named p task kind at works.mended_at works.replied_at works.mended works.mends works.replies
reports_after named p s from at to task a (Err fault) is fact (same, e) =
    let f : fault ≡ NotRecoverable = same_fault NotRecoverable fault e in
    record {
      from = from;
      to = at;
      answer = a;
      fact = inl (s, is, sym fact ∙ ap Err f);
    }

-- who has found the lock ruined
was_ruined : (named : Option Setup) (m new : Seat) (task : Call) → Whole named m task None new (Err NotRecoverable) → WasRuined named m.process
was_ruined named m new task (inl crash) = absurd (let f : NotRecoverable ≡ Crashed = sym (same_fault NotRecoverable Crashed crash) in cc)
was_ruined named m new task (inr (inl memory)) = absurd (let f : NotRecoverable ≡ OutOfMemory = sym (same_fault NotRecoverable OutOfMemory memory) in cc)
was_ruined named m new task (inr (inr whole)) = reports_after named m.process m.standing m.trail whole.locked_at new.trail task whole.locked (entry_by whole.locked) whole.locks refl whole.follows

-- how a call may end a worker that a crash does not end
pub ended_by : (named : Option Setup) (m new : Seat) (to : Trail) (task : Call) (e : LockFault) → KeepsProcess m new → of_wait e ≡ true → (e ≡ Crashed → ⊥) → EndsAtLock named m None to e → Whole named m task None new (Err e) → (s : Spec) → MayEnd named s new.process (Fault e)
ended_by named m new to task NumbersSpent goes wait crash spent whole s =
    inl (refl, record { standing = m.standing; from = m.trail; to = to; answered = subst (λ (p : ℕ). IsAnsweredCall (asked_call named p m.standing Lock None) m.trail to (Some SpentAnswer)) (sym goes.0) spent })
ended_by named m new to task NotRecoverable goes wait crash fact whole s = inr (inl (refl, subst (WasRuined named) (sym goes.0) (was_ruined named m new task whole)))
ended_by named m new to task OutOfMemory goes wait crash fact whole s = inr (inr refl)
ended_by named m new to task Crashed goes wait crash fact whole s = absurd (crash refl)
ended_by named m new to task NotYet goes wait crash fact whole s = absurd (true≢false (sym wait))
ended_by named m new to task AlreadyIn goes wait crash fact whole s = absurd (true≢false (sym wait))
ended_by named m new to task NotOwner goes wait crash fact whole s = absurd (true≢false (sym wait))
ended_by named m new to task NotInconsistent goes wait crash fact whole s = absurd (true≢false (sym wait))
ended_by named m new to task BadIndex goes wait crash fact whole s = absurd (true≢false (sym wait))
ended_by named m new to task BadWidth goes wait crash fact whole s = absurd (true≢false (sym wait))

-- the fault of worker p, if it has ended this way and not out of memory, and those below it have sent all
reported_early : (s : Spec) (p : ℕ) (e : WorkerEnd) (fault : LabFault) → p < s.procs → MayEnd (Some (setup_of s)) s p e → HaveSentBelow s p → (e ≡ Fault OutOfMemory → ⊥) → fault_by p e ≡ Some fault → MayEndLab s fault
reported_early s p AllSent fault below may sent unwanted fact = absurd (let none : Option LabFault = None in let e : none ≡ Some fault = fact in cc)
reported_early s p (Fault purpose) fault below (inl spent) sent unwanted fact =
    let e : Member p purpose ≡ fault = cc in
    subst (MayEndLab s) e (below, inl spent, sent)
reported_early s p (Fault purpose) fault below (inr (inl ruined)) sent unwanted fact =
    let e : Member p purpose ≡ fault = cc in
    subst (MayEndLab s) e (below, inr ruined, sent)
reported_early s p (Fault purpose) fault below (inr (inr wants)) sent unwanted fact = absurd (unwanted (ap Fault wants))
reported_early s p (Refused reply) fault below may sent unwanted fact =
    let e : Reply p reply ≡ fault = cc in
    subst (MayEndLab s) e (below, may, sent)

-- a worker that has sent all, of those that have ended
was_sent : (named : Option Setup) (s : Spec) (es : List WorkerEnd) (q : ℕ) → EachMay named s es → q < length es → get_or es q AllSent ≡ AllSent → WereSent named s.width q s.messages
was_sent named s es q may within is =
    let ends : MayEnd named s q (get_or es q AllSent) = may q (get_or es q AllSent) (slice_get-get_or es q AllSent within) in
    subst (MayEnd named s q) is ends

-- those with a number below p, if they have sent all
sent_below : (s : Spec) (es : List WorkerEnd) (p : ℕ) → EachMay (Some (setup_of s)) s es → p < length es → HaveAllSent (take p es) → HaveSentBelow s p
sent_below s es p may within before q below =
    let long : length (take p es) ≡ p = length-take-le p es (omega (arith, within)) in
    let low : q < length (take p es) = subst (λ (k : ℕ). q < k) (sym long) below in
    let is : get_or es q AllSent ≡ AllSent = sym (get_or-take p es q AllSent below) ∙ All-get_or (λ (e : WorkerEnd). e ≡ AllSent) (take p es) q AllSent low before in
    was_sent (Some (setup_of s)) s es q may (omega (arith, below, within)) is

of_least : (es : List WorkerEnd) (s : Spec) (fault : LabFault) → length es ≡ s.procs → EachMay (Some (setup_of s)) s es → (WantedMemory es → ⊥) → IsOfLeast es fault → MayEndLab s fault
of_least es s fault count may none least =
    let within = slice_get_within es least.p least.ending least.at in
    let is : get_or es least.p least.ending ≡ least.ending = get_or_from_slice_get es least.p least.ending least.ending least.at in
    reported_early s least.p least.ending fault (subst (λ (k : ℕ). least.p < k) count within) (may least.p least.ending least.at) (sent_below s es least.p may within least.before)
    (λ wants. none (subst (Contains es) (is ∙ wants) (Contains-get_or es least.p least.ending within))) least.fact

-- the faults that the workers of a lab may end it with
pub may_end_lab : (es : List WorkerEnd) (s : Spec) (fault : LabFault) → length es ≡ s.procs → EachMay (Some (setup_of s)) s es → (WantedMemory es → fault ≡ WantsMemory) → fault ≢ BadSpec → (fault ≢ WantsMemory → IsOfLeast es fault) → MayEndLab s fault
may_end_lab es s BadSpec count may wanted sized least = absurd (sized refl)
may_end_lab es s WantsMemory count may wanted sized least = tt
may_end_lab es s (Member p purpose) count may wanted sized least = of_least es s (Member p purpose) count may (λ wants. let e : Member p purpose ≡ WantsMemory = wanted wants in cc) (least (λ e. cc))
may_end_lab es s (Reply p reply) count may wanted sized least = of_least es s (Reply p reply) count may (λ wants. let e : Reply p reply ≡ WantsMemory = wanted wants in cc) (least (λ e. cc))

-- the reply to the message of a member that is worker q's
pub replied_to : (named : Option Setup) (width p q seq : ℕ) (value : List ℕ) (reply : ReplyOf) → p ≡ q → value ≡ words_sent q seq width → IsReply named p (Append seq value) reply → IsReplyTo named width q seq reply
replied_to named width p q seq value reply same is answered = subst (λ (words : List ℕ). IsReply named q (Append seq words) reply) is (subst (λ (x : ℕ). IsReply named x (Append seq value) reply) same answered)

-- all messages with numbers below this one were sent, and the one with this number
pub sent_more : (named : Option Setup) (width p k : ℕ) → ((seq : ℕ) → 1 ≤ seq → seq < k → WasSent named width p seq) → WasSent named width p k → (seq : ℕ) → 1 ≤ seq → seq < k + 1 → WasSent named width p seq
sent_more named width p k before here seq some below =
    elim (cases_lt seq k) [
      | inl less ↦ before seq some less
      | inr most ↦ (let is : k ≡ seq = omega (arith, most, below) in subst (WasSent named width p) is here)
    ]

-- where each worker has sent all
pub all_sent : (named : Option Setup) (s : Spec) (es : List WorkerEnd) → length es ≡ s.procs → EachMay named s es → HaveAllSent es → (p : ℕ) → p < s.procs → WereSent named s.width p s.messages
all_sent named s es count may sent p below =
    let within : p < length es = subst (λ (k : ℕ). p < k) (sym count) below in
    was_sent named s es p may within (All-get_or (λ (e : WorkerEnd). e ≡ AllSent) es p AllSent within sent)
