-- What holds of each member's own entries holds of its process's entries in the one run that gathering finds.
use Rattle.std.proofs.Common.{◌≡◌, ℕ, ◌==◌, true, List, [], ◌∷◌, ◌++◌, All, sym, subst, inl, inr, eqb-true}
use Rattle.table_runs.proofs.Common.{cases_eq, cases_Bool, All-nil, All-cons, All-head, All-tail, All-weaker, TakenStep, has_member, IsGlance, IsWholeView, IsGatheredRun, own_of, Seated, entries_of}
use Rattle.table_runs.specs.Rule.{IsPrefixOf}

pub all_both : {X : Type 0} (P Q : X → Type 0) (xs : List X) → All P xs → All Q xs → All (λ (x : X). P x × Q x) xs
all_both P Q [] h g = All-nil _
all_both P Q (x ∷ xs) h g = All-cons (λ x. P x × Q x) x xs (All-head P x xs h, All-head Q x xs g) (all_both P Q xs (All-tail P x xs h) (All-tail Q x xs g))

-- a member of each process
pub member_at : (P : Seated → Type 0) (p : ℕ) (xs : List Seated) → has_member p xs ≡ true → All P xs → (x : Seated) × (x.seat_view.by ≡ p) × P x
member_at P p [] h all = absurd (cc)
member_at P p (x ∷ xs) h all =
    elim (cases_Bool (x.seat_view.by == p)) [ inl is ↦ (x, eqb-true x.seat_view.by p is, All-head P x xs all) | inr is ↦ member_at P p xs (rw is at h) (All-tail P x xs all) ]

module _ (Q : ℕ → List TakenStep → Type 0) (more : (p : ℕ) (es glances : List TakenStep) → All IsGlance glances → Q p es → Q p (es ++ glances)) (first : Seated) (others : List Seated) (count : ℕ) (run : List TakenStep) (reports : IsGatheredRun first others count run) where
  abbrev pub Keeps : Seated → Type 0
  Keeps x = Q x.seat_view.by (own_of x.seat_view)

  abbrev pub Holds : Seated → Type 0
  Holds x = Q x.seat_view.by (entries_of x.seat_view.by run) × IsPrefixOf x.seat_view.seen run

  first_holds : Keeps first → Holds first
  first_holds h = (subst (Q first.seat_view.by) (sym reports.own_is) (more first.seat_view.by (own_of first.seat_view) reports.glances reports.are_glances h), reports.begins)

  other_holds : Holds first → (x : Seated) → IsWholeView first run x × Keeps x → Holds x
  other_holds of_first x h =
      elim (cases_eq x.seat_view.by first.seat_view.by) [
        | inl same ↦ (subst (λ (p : ℕ). Q p (entries_of p run)) (sym same) of_first.0, h.0.begins)
        | inr other ↦ (subst (Q x.seat_view.by) (sym (h.0.own_is other)) h.1, h.0.begins)
      ]

  pub all_hold : All Keeps (first ∷ others) → All Holds (first ∷ others)
  all_hold h =
      let one = first_holds (All-head Keeps first others h) in
      All-cons Holds first others one (All-weaker (λ (x : Seated). IsWholeView first run x × Keeps x) Holds (other_holds one) others (all_both (IsWholeView first run) Keeps others reports.whole (All-tail Keeps first others h)))

  pub each_holds : All Keeps (first ∷ others) → (p : ℕ) → has_member p (first ∷ others) ≡ true → Q p (entries_of p run)
  each_holds h p there =
      let m = member_at Holds p (first ∷ others) there (all_hold h) in
      subst (λ (q : ℕ). Q q (entries_of q run)) m.1 m.2.0
