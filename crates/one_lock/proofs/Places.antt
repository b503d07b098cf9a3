-- The processes of the members that a lab's workers were given, and hand back.
use Rattle.std.proofs.Common.{◌≡◌, ℕ, zero, suc, ◌<◌, List, [], ◌∷◌, ◌++◌, map, length, get_or, All, refl, sym, ap, ◌∙◌, subst, inl, inr, arith}
use Rattle.one_lock.proofs.LabCommon.{cases_lt, length-map, map-append, get_or_append_left, All-nil, All-cons, All-head, All-tail, All-push, Layout, Seat, new_seat, new_seats, place_of, CanSend}
use Rattle.std.proofs.Math.Seq.{get_or-append_seam}
use Rattle.one_lock.proofs.Seats.{FitAll, new_count}

-- the process of each member of a new arena
pub number_at : (l : Layout) (limit n p : ℕ) (x : ℕ × Layout) → p < n → get_or (map place_of (new_seats l limit n)) p x ≡ (p, l)
number_at l limit zero p x below = absurd (omega (arith, below))
number_at l limit (suc n) p x below =
    let front : List (ℕ × Layout) = map place_of (new_seats l limit n) in
    let count : length front ≡ n = length-map (new_seats l limit n) place_of ∙ new_count l limit n in
    let split : map place_of (new_seats l limit (suc n)) ≡ front ++ (n, l) ∷ [] = map-append place_of (new_seats l limit n) (new_seat l limit n ∷ []) in
    elim (cases_lt p n) [
      | inl less ↦ ap (λ (xs : List (ℕ × Layout)). get_or xs p x) split ∙ get_or_append_left front ((n, l) ∷ []) x p (omega (arith, less, count)) ∙ number_at l limit n p x less
      | inr most ↦
          (let last : length front ≡ p = omega (arith, most, below, count) in
          let same : n ≡ p = sym count ∙ last in
          ap (λ (xs : List (ℕ × Layout)). get_or xs p x) split ∙ subst (λ (k : ℕ). get_or (front ++ (n, l) ∷ []) k x ≡ (n, l)) last (get_or-append_seam front (n, l) [] x) ∙ ap (λ (k : ℕ). (k, l)) same)
    ]

pub new_ready : (l : Layout) (limit n : ℕ) → All (CanSend l.width) (new_seats l limit n)
new_ready l limit zero = All-nil _
new_ready l limit (suc n) = All-push (CanSend l.width) (new_seats l limit n) (new_seat l limit n) (new_ready l limit n) (refl, refl)

head_same : (x y : Seat) (xs ys : List Seat) → map place_of (x ∷ xs) ≡ map place_of (y ∷ ys) → place_of x ≡ place_of y
head_same x y xs ys e = cc

tail_same : (x y : Seat) (xs ys : List Seat) → map place_of (x ∷ xs) ≡ map place_of (y ∷ ys) → map place_of xs ≡ map place_of ys
tail_same x y xs ys e = cc

no_place : (x : Seat) (xs : List Seat) → map place_of (x ∷ xs) ≡ [] → ⊥
no_place x xs e = cc

-- members in the same places are of arenas with the same sizes
pub same_fit : (n : ℕ) (xs ys : List Seat) → map place_of xs ≡ map place_of ys → FitAll n ys → FitAll n xs
same_fit n [] ys e all = All-nil _
same_fit n (x ∷ xs) [] e all = absurd (no_place x xs e)
same_fit n (x ∷ xs) (y ∷ ys) e all =
    let here : place_of x ≡ place_of y = head_same x y xs ys e in
    let fits : x.layout.procs ≡ n = ap (λ (p : ℕ × Layout). p.1.procs) here ∙ All-head (λ (m : Seat). m.layout.procs ≡ n) y ys all in
    All-cons (λ (m : Seat). m.layout.procs ≡ n) x xs fits (same_fit n xs ys (tail_same x y xs ys e) (All-tail (λ (m : Seat). m.layout.procs ≡ n) y ys all))

pub same_count : (xs ys : List Seat) → map place_of xs ≡ map place_of ys → length xs ≡ length ys
same_count [] [] e = refl
same_count [] (y ∷ ys) e = absurd (no_place y ys (sym e))
same_count (x ∷ xs) [] e = absurd (no_place x xs e)
same_count (x ∷ xs) (y ∷ ys) e = ap suc (same_count xs ys (tail_same x y xs ys e))
