-- All members of an arena, when they are made and when they are handed back.
use Rattle.std.proofs.Common.{◌≡◌, ℕ, zero, suc, ◌<◌, List, [], ◌∷◌, ◌++◌, map, length, All, refl, sym, ap, ◌∙◌, subst, append_assoc}
use Rattle.one_lock.proofs.Common.{Layout, Seat, new_seat, new_seats, AreAll}
use Rattle.std.proofs.lemmas.List.{map-append}
use Rattle.std.proofs.lemmas.List.Elements.{All-nil, All-push}

-- the members are of an arena with this many processes
abbrev pub FitAll : ℕ → List Seat → Type 0
FitAll n members = All (λ (m : Seat). m.layout.procs ≡ n) members

length_more : (ms : List Seat) (m : Seat) → length (ms ++ m ∷ []) ≡ suc (length ms)
length_more [] m = refl
length_more (x ∷ xs) m = ap suc (length_more xs m)

pub new_fit : (l : Layout) (limit n : ℕ) → FitAll l.procs (new_seats l limit n)
new_fit l limit zero = All-nil _
new_fit l limit (suc n) = All-push (λ (m : Seat). m.layout.procs ≡ l.procs) (new_seats l limit n) (new_seat l limit n) (new_fit l limit n) refl

pub new_count : (l : Layout) (limit n : ℕ) → length (new_seats l limit n) ≡ n
new_count l limit zero = refl
new_count l limit (suc n) = length_more (new_seats l limit n) (new_seat l limit n) ∙ ap suc (new_count l limit n)

-- the members of a new arena, by the number of parts of its ledger
pub new_arena : (l : Layout) (limit n : ℕ) (ms : List Seat) → ms ≡ new_seats l limit l.procs → l.procs ≡ n → FitAll n ms
new_arena l limit n ms made e = subst (λ (xs : List Seat). FitAll n xs) (sym made) (subst (λ (k : ℕ). FitAll k (new_seats l limit l.procs)) e (new_fit l limit l.procs))

pub new_all : (l : Layout) (limit n : ℕ) (ms : List Seat) → ms ≡ new_seats l limit l.procs → l.procs ≡ n → 0 < n → AreAll n ms
new_all l limit n ms made e some = (some, ap length made ∙ new_count l limit l.procs ∙ e)
