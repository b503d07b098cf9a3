-- Members of lists by their position.
use Rattle.std.proofs.Common.{◌≡◌, ℕ, ◌+◌, ◌<◌, ◌≤◌, List, [], ◌∷◌, ◌++◌, take, length, count_by, slice_get, map, IfSome, refl, sym, ◌∙◌, ap, subst, inl, inr, arith, get_or, set, below_more}
use Rattle.judge.proofs.Common.{cases_lt, take_more, get_or-map, Message, is_by, Lists, IsNextMessage, AreNumbered}
use Rattle.std.proofs.lemmas.Option.{slice_get-get_or, slice_get_past}
use Rattle.judge.proofs.Counts.{Lists-counted}

-- a fact about the member at a position
pub IfSome-at : {X : Type 0} (xs : List X) (i : ℕ) (m : X) (P : X → Type 0) → i < length xs → m ≡ get_or xs i m → IfSome (slice_get xs i) P → P m
IfSome-at xs i m P l e h = subst P (sym e) (subst (λ o. IfSome o P) (slice_get-get_or xs i m l) h)

pub IfSome-here : {X : Type 0} (xs : List X) (i : ℕ) (m : X) (P : X → Type 0) → i < length xs → m ≡ get_or xs i m → P m → IfSome (slice_get xs i) P
IfSome-here xs i m P l e h = subst (λ o. IfSome o P) (sym (slice_get-get_or xs i m l)) (subst P e h)

IfSome-past : {X : Type 0} (xs : List X) (i : ℕ) (P : X → Type 0) → length xs ≤ i → IfSome (slice_get xs i) P
IfSome-past xs i P l = subst (λ o. IfSome o P) (sym (slice_get_past xs i l)) tt

-- the first i messages have their senders' next numbers
abbrev pub Numbered : ℕ → List Message → ℕ → Type 0
Numbered procs shown i = (k : ℕ) → k < i → IfSome (slice_get shown k) (IsNextMessage procs (take k shown))

pub Numbered-more : (procs : ℕ) (shown : List Message) (i : ℕ) (m : Message) → i < length shown → m ≡ get_or shown i m → IsNextMessage procs (take i shown) m → Numbered procs shown i → Numbered procs shown (i + 1)
Numbered-more procs shown i m l e next before =
    below_more (λ k. IfSome (slice_get shown k) (IsNextMessage procs (take k shown))) i before (IfSome-here shown i m (IsNextMessage procs (take i shown)) l e next)

pub AreNumbered-from : (procs : ℕ) (shown : List Message) (i : ℕ) → length shown ≤ i → Numbered procs shown i → AreNumbered procs shown
AreNumbered-from procs shown i l all k = elim (cases_lt k (length shown)) [
  | inl less ↦ all k (omega (arith, less))
  | inr past ↦ IfSome-past shown k (IsNextMessage procs (take k shown)) past
]

-- counts with one more message
pub Lists-more : (counts : List ℕ) (n : ℕ) (shown : List Message) (i : ℕ) (m : Message) → n ≤ length counts → m.sender < n → i < length shown → m ≡ get_or shown i m
    → Lists counts n (λ k. count_by (is_by k) (take i shown))
    → Lists (set counts m.sender (get_or counts m.sender 0 + 1)) n (λ k. count_by (is_by k) (take (i + 1) shown))
Lists-more counts n shown i m le below l e lists =
    let v : ℕ = get_or counts m.sender 0 in
    let same : v ≡ get_or counts m.sender v = lists m.sender 0 below ∙ sym (lists m.sender v below) in
    let grown : take (i + 1) shown ≡ take i shown ++ m ∷ [] = take_more shown i m l ∙ subst (λ x. take i shown ++ x ∷ [] ≡ take i shown ++ m ∷ []) e refl in
    subst (λ xs. Lists (set counts m.sender (v + 1)) n (λ k. count_by (is_by k) xs)) (sym grown) (Lists-counted counts n (take i shown) m v le below same lists)

-- one set of a list of sets
pub set_here : {V : Type 0} (f : V → List ℕ) (sets : List V) (i : ℕ) (v : V) (names d : List ℕ) → i < length sets → v ≡ get_or sets i v → names ≡ f v → get_or (map f sets) i d ≡ names
set_here f sets i v names d l e n = get_or-map f sets i v d l ∙ (ap f (sym e) ∙ sym n)
