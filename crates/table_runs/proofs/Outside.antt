-- A process that isn't in the section may start another lock.
use Rattle.std.proofs.Common.{◌≡◌, List, Bool, true, false, if◌then◌else◌, Option, None, refl, sym, ap, ◌∙◌}
use Rattle.table_runs.proofs.Common.{Dead, Call, Lock, Withdraw, is_idle, is_waiting, is_inside, Askings, CutBy, free_to_start, refusal_now, process_state_now, own_of, Seated, fell, before, process_state_past, process_state_of}

-- a call that starts from anywhere keeps the sizes, the process and the entries
pub ready_same : (b : Bool) (x : Seated) → ((if b then x else fell x).seat_view.setup ≡ x.seat_view.setup) × ((if b then x else fell x).seat_view.by ≡ x.seat_view.by) × (own_of (if b then x else fell x).seat_view ≡ own_of x.seat_view)
ready_same true x = (refl, refl, refl)
ready_same false x = (refl, refl, refl)

either_out : (b : Bool) (x : Seated) → is_idle (process_state_now x.seat_view) ≡ b → (b ≡ true → is_inside (process_state_now x.seat_view).lock ≡ false) → refusal_now (if b then x else fell x) Lock ≡ None
either_out true x idle away = rw idle (rw (away refl) refl)
either_out false x idle away = refl

-- a process whose lock still waits
pub busy_out : (x : Seated) → is_idle (process_state_now x.seat_view) ≡ false → refusal_now (free_to_start x) Lock ≡ None
busy_out x busy = either_out (is_idle (process_state_now x.seat_view)) x refl (λ idle. absurd (let no : false ≡ true = sym busy ∙ idle in cc))

-- a process that waits in the line may withdraw
pub waiting_out : (x : Seated) → is_waiting (process_state_now x.seat_view).lock ≡ true → refusal_now x Withdraw ≡ None
waiting_out x waits = rw waits refl

-- a process that has crashed
pub fallen_out : (x : Seated) → x.seat_view.fallen ≡ true → x.seat_view.start ≡ None → refusal_now (free_to_start x) Lock ≡ None
fallen_out x fallen none =
    let s = x.seat_view.setup in
    let dead : (process_state_now x.seat_view).lock ≡ Dead = ap (λ (u : Bool × Option Call). (process_state_past s (process_state_of s x.seat_view.by x.seat_view.seen) (before u.0 u.1 x.seat_view.by)).lock) (λ i. (fallen i, none i)) in
    either_out (is_idle (process_state_now x.seat_view)) x refl (λ e. ap is_inside dead)

-- a process whose call was cut off by a crash
pub cut_out : (x y : Seated) (P : List Call → Type 0) (a b : Askings) → CutBy x P y a b → refusal_now (free_to_start y) Lock ≡ None
cut_out x y P a b h = fallen_out y h.1.fallen h.1.idle
