-- The arena of a lab when its workers have handed their members back.
use Rattle.std.proofs.Common.{◌≡◌, ℕ, zero, suc, ◌<◌, ◌≤◌, ◌==◌, ◌||◌, Bool, List, [], ◌∷◌, map, length, Result, Ok, Err, IfOk, All, refl, sym, ap, ◌∙◌, subst, inl, inr, arith}
use Rattle.robust.proofs.Common.{cases_eq, cases_lt, true≢false, All-nil, All-cons, All-head, All-tail, TableId, IsLayout, Setup, has_member, OneArena, procs_of, IsMissing, count_from, Seated, has}
use Rattle.robust.proofs.Common.{AllSent, Spec, IsBadSpec, Done, EndsSo, fresh_member, fresh_members, HasSent, IsNew, sizes_of, HasWorked, seat_done, seat_of, seats_of}
use Rattle.std.proofs.lemmas.List.{length-map}
use Rattle.std.proofs.lemmas.List.Elements.{All-map, All-same}
use Rattle.std.specs.Prelude.{slice_index_or}
use Rattle.table_runs.proofs.Keeps.{count_has}
use Rattle.table_runs.proofs.LawfulEnd.{length-counted}

abbrev Seat : Type 0
Seat = TableId × Setup × ℕ

-- what holds of the seats of members holds of others with the same seats
module _ (P : Seat → Type 0) where
  from_seats : (xs : List Seated) → All P (seats_of xs) → All (λ (x : Seated). P (seat_of x)) xs
  from_seats [] h = All-nil _
  from_seats (x ∷ xs) h = All-cons (λ (y : Seated). P (seat_of y)) x xs (All-head P (seat_of x) (seats_of xs) h) (from_seats xs (All-tail P (seat_of x) (seats_of xs) h))

  same_seats : (xs ys : List Seated) → seats_of xs ≡ seats_of ys → All (λ (y : Seated). P (seat_of y)) ys → All (λ (x : Seated). P (seat_of x)) xs
  same_seats xs ys e all = from_seats xs (All-same P (seats_of xs) (seats_of ys) e (All-map P seat_of ys all))

has_seat : (p : ℕ) (xs : List Seated) → has_member p xs ≡ has p (map (λ (z : Seat). z.2) (seats_of xs))
has_seat p [] = refl
has_seat p (x ∷ xs) = ap (λ (b : Bool). (x.seat_view.by == p) || b) (has_seat p xs)

procs_are : (s : Setup) (xs : List Seated) → All (λ (x : Seated). x.seat_view.setup ≡ s) xs → (xs ≡ [] → ⊥) → procs_of xs ≡ s.layout.procs
procs_are s [] all some = absurd (some refl)
procs_are s (x ∷ xs) all some = ap (λ (u : Setup). u.layout.procs) (All-head (λ (x : Seated). x.seat_view.setup ≡ s) x xs all)

-- all members of a new arena
module _ (t : TableId) (s : Setup) where
  all_fresh : (P : Seated → Type 0) → ((p : ℕ) → P (fresh_member t s p)) → All P (fresh_members t s)
  all_fresh P h = All-map P (fresh_member t s) (count_from 0 s.layout.procs) (λ k d below. h _)

  fresh_has : (p k n : ℕ) → has_member p (map (fresh_member t s) (count_from k n)) ≡ has p (count_from k n)
  fresh_has p k zero = refl
  fresh_has p k (suc n) = ap (λ (b : Bool). (k == p) || b) (fresh_has p (suc k) n)

  pub fresh_new : All (IsNew s) (fresh_members t s)
  fresh_new = all_fresh (IsNew s) (λ p. (refl, refl, refl))

  pub length_fresh : length (fresh_members t s) ≡ s.layout.procs
  length_fresh = length-counted (fresh_member t s) s.layout.procs

  module _ (xs : List Seated) (e : seats_of xs ≡ seats_of (fresh_members t s)) where
    pub all_setups : All (λ (x : Seated). x.seat_view.setup ≡ s) xs
    all_setups = same_seats (λ (z : Seat). z.1 ≡ s) xs (fresh_members t s) e (all_fresh (λ (x : Seated). x.seat_view.setup ≡ s) (λ p. refl))

    pub one_arena : OneArena xs
    one_arena = (t, same_seats (λ (z : Seat). z.0 ≡ t) xs (fresh_members t s) e (all_fresh (λ (x : Seated). x.seat_view.table ≡ t) (λ p. refl)))

    some_there : 0 < s.layout.procs → xs ≡ [] → ⊥
    some_there some none =
        let long = length-map (fresh_members t s) seat_of in
        let count = length_fresh in
        let zero : length (seats_of (fresh_members t s)) ≡ 0 = ap length (sym e) ∙ ap (λ (ys : List Seated). length (seats_of ys)) none in
        omega (arith, long, count, zero, some)

    pub none_missing : 0 < s.layout.procs → IsMissing xs → ⊥
    none_missing some (inl none) = some_there some none
    none_missing some (inr h) =
        let procs : procs_of xs ≡ s.layout.procs = procs_are s xs all_setups (some_there some) in
        let there = has_seat h.0 xs ∙ ap (λ (zs : List Seat). has h.0 (map (λ (z : Seat). z.2) zs)) e ∙ sym (has_seat h.0 (fresh_members t s)) ∙ fresh_has h.0 0 s.layout.procs ∙ count_has h.0 0 s.layout.procs (omega arith) (omega (arith, h.1, procs)) in
        true≢false (sym there ∙ h.2)

-- where a spec isn't bad
pub good_sizes : (s : Spec) (gates : ℕ) → (IsBadSpec s gates → ⊥) → (gates ≡ s.procs) × (0 < s.procs) × (s.messages ≤ 4096) × (1 ≤ s.width) × (s.width ≤ 8)
good_sizes s gates good = (
  elim (cases_eq gates s.procs) [ inl e ↦ e | inr ne ↦ absurd (good (inr (inr (inr (inr (inr ne)))))) ],
  elim (cases_eq s.procs 0) [ inl e ↦ absurd (good (inl (inl e))) | inr ne ↦ omega (arith, ne) ],
  elim (cases_lt 4096 s.messages) [ inl h ↦ absurd (good (inr (inr (inr (inr (inl (inr h))))))) | inr h ↦ h ],
  elim (cases_eq s.width 0) [ inl e ↦ absurd (good (inr (inr (inr (inl (inl e)))))) | inr ne ↦ omega (arith, ne) ],
  elim (cases_lt 8 s.width) [ inl h ↦ absurd (good (inr (inr (inr (inl (inr h)))))) | inr h ↦ h ],
)

pub good_layout : (s : Spec) (gates : ℕ) → (IsBadSpec s gates → ⊥) → IsLayout (sizes_of s).layout
good_layout s gates good =
    let sizes = good_sizes s gates good in
    record {
      few = elim (cases_lt 64 s.procs) [ inl h ↦ absurd (good (inl (inr h))) | inr h ↦ h ];
      small = elim (cases_lt 65536 s.cap) [ inl h ↦ absurd (good (inr (inr (inl (inr h))))) | inr h ↦ h ];
      least = sizes.3;
      most = sizes.4;
    }

pub good_messages : (s : Spec) (gates : ℕ) → (IsBadSpec s gates → ⊥) → 1 ≤ s.messages
good_messages s gates good = elim (cases_eq s.messages 0) [ inl e ↦ absurd (good (inr (inr (inr (inr (inl (inl e))))))) | inr ne ↦ omega (arith, ne) ]

-- the members that workers hand back
pub members_seats : (ds : List Done) → seats_of (map (λ (d : Done). d.member) ds) ≡ map seat_done ds
members_seats [] = refl
members_seats (d ∷ ds) = ap (λ (l : List Seat). seat_of d.member ∷ l) (members_seats ds)

pub members_sent : (s : Spec) (ds : List Done) → All (HasWorked s) ds → All (λ (d : Done). d.ending ≡ AllSent) ds → All (HasSent s.width s.messages) (map (λ (d : Done). d.member) ds)
members_sent s ds worked ended = All-map (HasSent s.width s.messages) (λ (d : Done). d.member) ds (λ k d low. ((worked k d low).0, subst (EndsSo s (slice_index_or ds k d).member) (ended k d low) (worked k d low).1))

-- two facts of an answer
pub if_both : {T E : Type 0} (P Q R : T → Type 0) (r : Result T E) → IfOk r P → IfOk r Q → ((x : T) → P x → Q x → R x) → IfOk r R
if_both P Q R (Ok x) h g both = both x h g
if_both P Q R (Err e) h g both = tt
