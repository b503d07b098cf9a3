-- A worker's calls keep its seat.
use Rattle.std.proofs.Common.{◌≡◌, ℕ, ◌+◌, ◌<◌, Bool, true, false, if◌then◌else◌, List, Result, Ok, Err, IfOk, IfErr, refl, sym, ap, ◌∙◌, subst, inl, inr, arith}
use Rattle.robust.proofs.Common.{TableId, Reply, Call, Append, Lock, is_idle, TakenStep, LockFault, Setup, free_to_start, process_state_now, Calls, Seated, fell, began, Askings, WholeEnds, AppendFails, append_request, WholeFails, words_sent}
use Rattle.robust.proofs.Common.{IsSending, seat_of}

either : {A : Type 0} (f : Seated → A) (b : Bool) (x : Seated) → f (fell x) ≡ f x → f (if b then x else fell x) ≡ f x
either f true x same = refl
either f false x same = same

-- what a crash keeps is kept by `free_to_start`
pub kept_ready : {A : Type 0} (f : Seated → A) (x : Seated) → f (fell x) ≡ f x → f (free_to_start x) ≡ f x
kept_ready f x same = either f (is_idle (process_state_now x.seat_view)) x same

begun_seat : (x : Seated) → seat_of (began (free_to_start x) Lock) ≡ seat_of x
begun_seat x = kept_ready seat_of x refl

calls_seat : (x y : Seated) (mine : List TakenStep) → Calls x.seat_view mine y.seat_view → seat_of y ≡ seat_of x
calls_seat x y mine c = λ i. (c.table i, c.setup i, c.by i)

whole_seat : (x : Seated) (turns : ℕ) (task : Call) (r : Result Reply LockFault) (y : Seated) (a b : Askings) → WholeEnds (began (free_to_start x) Lock) turns task r y a b → seat_of y ≡ seat_of x
whole_seat x turns task r y a b h = let answered = h.4 in calls_seat (began (free_to_start x) Lock) y answered.0 answered.1.calls ∙ begun_seat x

fails_seat : (x : Seated) (turns : ℕ) (task : Call) (y : Seated) (a b : Askings) (e : LockFault) → WholeFails x turns task y a b e → seat_of y ≡ seat_of x
fails_seat x turns task y a b e (inl h) = ap seat_of h.2
fails_seat x turns task y a b e (inr (none, inl h)) = calls_seat (began (free_to_start x) Lock) y h.1.0 h.1.1.calls ∙ begun_seat x
fails_seat x turns task y a b e (inr (none, inr h)) = whole_seat x turns task (Err e) y a b h

append_seat : (x : Seated) (turns seq : ℕ) (value : List ℕ) (y : Seated) (a b : Askings) (e : LockFault) → AppendFails x turns (append_request seq value) y a b e → seat_of y ≡ seat_of x
append_seat x turns seq value y a b e (inl h) = ap seat_of h.2
append_seat x turns seq value y a b e (inr h) = fails_seat x turns _ y a b e h.1

-- an append, however it ends
pub sent_seat : (x y : Seated) (task : Call) (seq : ℕ) (value : List ℕ) (a b : Askings) (r : Result Reply LockFault)
    → IfOk r (λ reply. (turns : ℕ) × WholeEnds (began (free_to_start x) Lock) turns task (Ok reply) y a b) → IfErr r (λ e. (turns : ℕ) × AppendFails x turns (append_request seq value) y a b e) → seat_of y ≡ seat_of x
sent_seat x y task seq value a b (Ok reply) h k = whole_seat x h.0 task (Ok reply) y a b h.1
sent_seat x y task seq value a b (Err e) h k = append_seat x k.0 seq value y a b e k.1

-- any whole mailbox call
pub within_seat : (x y : Seated) (turns : ℕ) (task : Call) (a b : Askings) (r : Result Reply LockFault) → IfOk r (λ reply. WholeEnds (began (free_to_start x) Lock) turns task (Ok reply) y a b) → IfErr r (WholeFails x turns task y a b) → seat_of y ≡ seat_of x
within_seat x y turns task a b (Ok reply) h k = whole_seat x turns task (Ok reply) y a b h
within_seat x y turns task a b (Err e) h k = fails_seat x turns task y a b e k

pub mail_seat : (x y : Seated) (task : Call) (a b : Askings) (r : Result Reply LockFault) → IfOk r (λ reply. (turns : ℕ) × WholeEnds (began (free_to_start x) Lock) turns task (Ok reply) y a b) → IfErr r (λ e. (turns : ℕ) × WholeFails x turns task y a b e) → seat_of y ≡ seat_of x
mail_seat x y task a b (Ok reply) h k = whole_seat x h.0 task (Ok reply) y a b h.1
mail_seat x y task a b (Err e) h k = fails_seat x k.0 task y a b e k.1

-- the same seat sends the same
pub fits_seat : (width k : ℕ) (x y : Seated) (seq : ℕ) (value : List ℕ) → seat_of x ≡ seat_of y → IsSending width k y.seat_view.by (Append seq value) → IsSending width k x.seat_view.by (Append seq value)
fits_seat width k x y seq value same fits = subst (λ (p : ℕ). IsSending width k p (Append seq value)) (ap (λ (s : TableId × Setup × ℕ). s.2) (sym same)) fits

pub sends_value : (x y : Seated) (p seq width k : ℕ) (value : List ℕ) → seat_of x ≡ seat_of y → p ≡ y.seat_view.by → seq < k + 1 → value ≡ words_sent p seq width → IsSending width k x.seat_view.by (Append seq value)
sends_value x y p seq width k value same is few words =
    subst (λ (q : ℕ). IsSending width k q (Append seq value)) (is ∙ ap (λ (s : TableId × Setup × ℕ). s.2) (sym same)) (omega (arith, few), words)
