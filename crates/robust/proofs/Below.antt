-- The workers with a number below that of the one whose fault a lab answers.
use Rattle.std.proofs.Common.{◌≡◌, ℕ, zero, suc, ◌<◌, ◌≤◌, ◌==◌, ◌||◌, Bool, true, List, [], ◌∷◌, ◌++◌, map, refl, sym, ap, ◌∙◌, inl, inr, arith, eq-eqb}
use Rattle.robust.proofs.Common.{cases_eq, TableId, Setup, has_member, count_from, Seated, has, Done, fresh_member, fresh_members, seat_done, seats_of}
use Rattle.std.proofs.Math.Bool.{or-true}
use Rattle.std.proofs.lemmas.List.{map-append}

abbrev Seat : Type 0
Seat = TableId × Setup × ℕ

abbrev pub member_of : Done → Seated
member_of d = d.member

abbrev pub number_of : Done → ℕ
number_of d = d.member.seat_view.by

abbrev process_of : Seat → ℕ
process_of z = z.2

numbers_done : (ds : List Done) → map process_of (map seat_done ds) ≡ map number_of ds
numbers_done [] = refl
numbers_done (d ∷ ds) = ap (λ (l : List ℕ). number_of d ∷ l) (numbers_done ds)

-- workers that hand back the seats of a new arena stand by process
module _ (t : TableId) (s : Setup) where
  fresh_numbers : (k n : ℕ) → map process_of (seats_of (map (fresh_member t s) (count_from k n))) ≡ count_from k n
  fresh_numbers k zero = refl
  fresh_numbers k (suc n) = ap (λ (l : List ℕ). k ∷ l) (fresh_numbers (suc k) n)

  pub by_number : (ds : List Done) → map seat_done ds ≡ seats_of (fresh_members t s) → map number_of ds ≡ count_from 0 s.layout.procs
  by_number ds e = sym (numbers_done ds) ∙ ap (map process_of) e ∙ fresh_numbers 0 s.layout.procs

has_first : (q x : ℕ) (xs : List ℕ) → x ≡ q → has q (x ∷ xs) ≡ true
has_first q x xs is = rw (eq-eqb x q is)

has_more : (q x : ℕ) (xs : List ℕ) → has q xs ≡ true → has q (x ∷ xs) ≡ true
has_more q x xs h = ap (λ (b : Bool). (x == q) || b) h ∙ or-true (x == q)

-- of numbers that are counted from k on, those below one of them stand before it
counted_before : (k n y q : ℕ) (xs ys : List ℕ) → xs ++ y ∷ ys ≡ count_from k n → k ≤ q → q < y → has q xs ≡ true
counted_before k zero y q [] ys e from below = absurd (let none : y ∷ ys ≡ [] = e in cc)
counted_before k zero y q (x ∷ xs) ys e from below = absurd (let none : x ∷ (xs ++ y ∷ ys) ≡ [] = e in cc)
counted_before k (suc n) y q [] ys e from below =
    let one : y ∷ ys ≡ k ∷ count_from (suc k) n = e in
    let first : y ≡ k = cc in
    absurd (omega (arith, first, from, below))
counted_before k (suc n) y q (x ∷ xs) ys e from below =
    let one : x ∷ (xs ++ y ∷ ys) ≡ k ∷ count_from (suc k) n = e in
    let first : x ≡ k = cc in
    let more : xs ++ y ∷ ys ≡ count_from (suc k) n = cc in
    elim (cases_eq k q) [
      | inl is ↦ has_first q x xs (first ∙ is)
      | inr other ↦ has_more q x xs (counted_before (suc k) n y q xs ys more (omega (arith, from, other)) below)
    ]

has_numbered : (q : ℕ) (ds : List Done) → has_member q (map member_of ds) ≡ has q (map number_of ds)
has_numbered q [] = refl
has_numbered q (d ∷ ds) = ap (λ (b : Bool). (number_of d == q) || b) (has_numbered q ds)

-- of workers by process, those below one of them stand before it
pub has_below : (procs q : ℕ) (front : List Done) (done : Done) (back : List Done) → map number_of (front ++ done ∷ back) ≡ count_from 0 procs → q < number_of done → has_member q (map member_of front) ≡ true
has_below procs q front done back e below =
    has_numbered q front ∙ counted_before 0 procs (number_of done) q (map number_of front) (map number_of back) (sym (map-append number_of front (done ∷ back)) ∙ e) (omega arith) below
