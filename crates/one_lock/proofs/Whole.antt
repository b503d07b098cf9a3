-- A whole mailbox call, from the answers of its calls.
use Rattle.std.proofs.Common.{◌≡◌, ◌≢◌, ℕ, ◌⊎◌, Bool, true, false, Option, None, Result, Ok, Err, refl, sym, ap, ◌∙◌, subst, inl, inr}
use Rattle.one_lock.proofs.Common.{Setup, IsAnsweredCall, asked_call, Seat, Trail, reply_by, entry_by, Mends, WorksInside, FollowsLock, IsMailboxCall, Whole}
use Rattle.std.proofs.lemmas.Bool.{true≢false}
use Rattle.redomail.specs.declared.reply.Reply.{Reply}
use Rattle.rmeworld.specs.declared.answer.Answer.{Answer}
use Rattle.rmeworld.specs.declared.call.Call.{Call}
use Rattle.rmeworld.specs.declared.call.Call.TheVariants.{Lock, Unlock, Consistent}
use Rattle.table_runs.specs.declared.entry_kind.Entry.{Entry}
use Rattle.table_runs.specs.declared.lock_fault.LockFault.{LockFault}
use Rattle.table_runs.specs.declared.lock_fault.LockFault.TheVariants.{Crashed, OutOfMemory}
use Rattle.one_lock.specs.declared.member_state.MemberState.{MemberState}
use Rattle.one_lock.specs.declared.member_state.MemberState.TheVariants.{Mended, Unmended, Out, Lost}
use Rattle.one_lock.specs.Answers.{mended_by}
use Rattle.one_lock.specs.Member.{is_in, stands_entered, stands_mended}

-- a member that has mended, or has nothing to mend
pub needs_none : (named : Option Setup) (p : ℕ) (s : MemberState) (from : Trail) → s ≡ Mended → Mends named p s from from (Ok false)
needs_none named p s from is = subst (λ (x : MemberState). Mends named p x from from (Ok false)) (sym is) (refl, refl)

-- a member that has to mend
pub mends_by : (named : Option Setup) (p : ℕ) (s : MemberState) (from to : Trail) (a : Option Answer) (mended : Result Bool LockFault) → is_in s ≡ true → s ≢ Mended → IsAnsweredCall (asked_call named p s Consistent None) from to a → mended ≡ mended_by a → Mends named p s from to mended
mends_by named p Unmended from to a mended inside other fits fact = (a, fits, fact)
mends_by named p Mended from to a mended inside other fits fact = absurd (other refl)
mends_by named p Out from to a mended inside other fits fact = absurd (true≢false (sym inside))
mends_by named p Lost from to a mended inside other fits fact = absurd (true≢false (sym inside))

-- a member whose task was given a reply, and that has left
pub works_by : (named : Option Setup) (p q r : ℕ) (task : Call) (s then : MemberState) (from at replied to : Trail) (b : Bool) (mended : Result Bool LockFault) (a left : Option Answer) (reply : Reply) → q ≡ p → r ≡ p → mended ≡ Ok b → Mends named p s from at mended → then ≡ stands_mended mended
    → IsAnsweredCall (asked_call named q Mended task None) at replied a → reply ≡ reply_by a → IsAnsweredCall (asked_call named r then Unlock None) replied to left → WorksInside named p task s from to (Ok reply)
works_by named p q r task s then from at replied to b mended a left reply q_is r_is fine mends stands is fact leaves =
    record {
      mended = Ok b;
      mended_at = at;
      mends = subst (Mends named p s from at) fine mends;
      replied_at = replied;
      replies = (a, subst (λ (x : ℕ). IsAnsweredCall (asked_call named x Mended task None) at replied a) q_is is, fact);
      left = left;
      leaves = subst (λ (x : MemberState). IsAnsweredCall (asked_call named p x Unlock None) replied to left) (stands ∙ ap stands_mended fine) (subst (λ (x : ℕ). IsAnsweredCall (asked_call named x then Unlock None) replied to left) r_is leaves);
    }

-- a member that finds the lock ruined, and leaves
pub leaves_by : (named : Option Setup) (p q : ℕ) (task : Call) (s then : MemberState) (from at to : Trail) (e : LockFault) (mended : Result Bool LockFault) (left : Option Answer) → q ≡ p → mended ≡ Err e → Mends named p s from at mended → then ≡ stands_mended mended → IsAnsweredCall (asked_call named q then Unlock None) at to left → WorksInside named p task s from to (Err e)
leaves_by named p q task s then from at to e mended left q_is ruin mends stands leaves =
    record {
      mended = Err e;
      mended_at = at;
      mends = subst (Mends named p s from at) ruin mends;
      replied_at = at;
      replies = (refl, refl);
      left = left;
      leaves = subst (λ (x : MemberState). IsAnsweredCall (asked_call named p x Unlock None) at to left) (stands ∙ ap stands_mended ruin) (subst (λ (x : ℕ). IsAnsweredCall (asked_call named x then Unlock None) at to left) q_is leaves);
    }

-- a whole call that is cut off
pub cut_whole : (named : Option Setup) (m : Seat) (task : Call) (turns : Option ℕ) (new : Seat) (e : LockFault) → ((e ≡ Crashed) ⊎ (e ≡ OutOfMemory)) → Whole named m task turns new (Err e)
cut_whole named m task turns new e (inl crash) = inl (ap Err crash)
cut_whole named m task turns new e (inr memory) = inr (inl (ap Err memory))

is_whole : (named : Option Setup) (m : Seat) (task : Call) (turns : Option ℕ) (at to : Trail) (a : Option Answer) (entry : Result Entry LockFault) (reply : Result Reply LockFault) → IsAnsweredCall (asked_call named m.process m.standing Lock turns) m.trail at a → entry ≡ entry_by a → FollowsLock named m.process task entry at to reply → IsMailboxCall named m task turns to reply
is_whole named m task turns at to a entry reply is fact follows =
    record {
      locked = a;
      locked_at = at;
      locks = is;
      follows = subst (λ (x : Result Entry LockFault). FollowsLock named m.process task x at to reply) fact follows;
    }

-- the last asking of a call
concluded : (named : Option Setup) (m mid new : Seat) (kept lost : MemberState) (task : Call) (turns : Option ℕ) (reply result : Result Reply LockFault) → IsMailboxCall named m task turns mid.trail reply → (((result ≡ reply) × (new ≡ record mid { standing = kept })) ⊎ ((result ≡ Err Crashed) × (new ≡ record mid { standing = lost }))) → Whole named m task turns new result
concluded named m mid new kept fell task turns reply result whole (inl (same, k)) =
    inr (inr (subst (λ (r : Result Reply LockFault). IsMailboxCall named m task turns new.trail r) (sym same) (subst (λ (n : Trail). IsMailboxCall named m task turns n reply) (ap (λ (x : Seat). x.trail) (sym k)) whole)))
concluded named m mid new kept fell task turns reply result whole (inr (crash, k)) = inl crash

-- a whole call whose lock did not enter, but for its last asking
pub whole_outside : (named : Option Setup) (m mid new : Seat) (kept lost : MemberState) (task : Call) (turns : Option ℕ) (a : Option Answer) (e : LockFault) (entry : Result Entry LockFault) (result : Result Reply LockFault) → IsAnsweredCall (asked_call named m.process m.standing Lock turns) m.trail mid.trail a → entry ≡ entry_by a → entry ≡ Err e
    → (((result ≡ Err e) × (new ≡ record mid { standing = kept })) ⊎ ((result ≡ Err Crashed) × (new ≡ record mid { standing = lost }))) → Whole named m task turns new result
whole_outside named m mid new kept fell task turns a e entry result is fact fault ends =
    concluded named m mid new kept fell task turns (Err e) result (is_whole named m task turns mid.trail mid.trail a (Err e) (Err e) is (sym fault ∙ fact) (refl, refl)) ends

-- a whole call whose lock entered, but for its last asking
pub whole_inside : (named : Option Setup) (m mid new : Seat) (kept lost s : MemberState) (p : ℕ) (at : Trail) (task : Call) (turns : Option ℕ) (a : Option Answer) (kind : Entry) (entry : Result Entry LockFault) (reply result : Result Reply LockFault) → IsAnsweredCall (asked_call named m.process m.standing Lock turns) m.trail at a → entry ≡ entry_by a → entry ≡ Ok kind
    → p ≡ m.process → s ≡ stands_entered entry → WorksInside named p task s at mid.trail reply → (((result ≡ reply) × (new ≡ record mid { standing = kept })) ⊎ ((result ≡ Err Crashed) × (new ≡ record mid { standing = lost }))) → Whole named m task turns new result
whole_inside named m mid new kept fell s p at task turns a kind entry reply result is fact fine p_is stands works ends =
    let here : WorksInside named m.process task (stands_entered (Ok kind)) at mid.trail reply = subst (λ (x : MemberState). WorksInside named m.process task x at mid.trail reply) (stands ∙ ap stands_entered fine) (subst (λ (x : ℕ). WorksInside named x task s at mid.trail reply) p_is works) in
    concluded named m mid new kept fell task turns reply result (is_whole named m task turns at mid.trail a (Ok kind) reply is (sym fine ∙ fact) here) ends
