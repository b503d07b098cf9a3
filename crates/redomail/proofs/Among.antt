-- The numbers of the messages that are shown.
use Rattle.std.proofs.Common.{◌≡◌, ℕ, zero, suc, ◌+◌, ◌==◌, List, [], ◌∷◌, ◌++◌, refl, sym, ap, ◌∙◌, subst, inl, inr, arith, eqb-true, append_assoc, nat_le, leb-true, leb-false}
use Rattle.redomail.proofs.Common.{cases_Bool, Message, row, place_at, message, IsAmong, Safe, Done, entry, entries, count_of, IsNumbered}
use Rattle.redomail.specs.declared.reply.Reply.TheVariants.{Stored, Already}
use Rattle.redomail.specs.Laws.{NumbersAreShown, AnsweredIsShown}
use Rattle.redomail.proofs.Changes.{count_of-push}

further : (p seq : ℕ) (xs : List Message) (y : Message) → IsAmong p seq xs → IsAmong p seq (xs ++ y ∷ [])
further p seq xs y h = record {
  before = h.before;
  value = h.value;
  later = h.later ++ y ∷ [];
  found = ap (λ zs. zs ++ y ∷ []) h.found ∙ append_assoc h.before (message p seq h.value ∷ h.later) (y ∷ []);
}

pub numbers_are_shown : NumbersAreShown
numbers_are_shown l w p seq zero h low high = absurd (omega arith)
numbers_are_shown l w p seq (suc k) h low high =
    let push = count_of-push p (entries l w k) (entry l w k) in
    let before : IsNumbered l w k = λ a lt. h a (omega arith) in
    elim (cases_Bool (w (place_at l k) == p)) [
      | inl t ↦
          (let mine : w (place_at l k) ≡ p = eqb-true (w (place_at l k)) p t in
          let one : count_of p (entries l w k ++ entry l w k ∷ []) ≡ count_of p (entries l w k) + 1 = push ∙ (rw t refl) in
          elim (cases_Bool (nat_le seq (count_of p (entries l w k)))) [
            | inl y ↦
                further p seq (entries l w k) (entry l w k) (numbers_are_shown l w p seq k before low (leb-true seq (count_of p (entries l w k)) y))
            | inr f ↦
                (let above = leb-false seq (count_of p (entries l w k)) f in
                let last : seq ≡ count_of p (entries l w k) + 1 = omega arith in
                let number : w (place_at l k + 1) ≡ seq = (h k (omega arith)).1 ∙ (ap (λ q. count_of q (entries l w k) + 1) mine ∙ sym last) in
                let same : entry l w k ≡ message p seq (row w (place_at l k + 2) l.width) = λ i. message (mine i) (number i) (row w (place_at l k + 2) l.width) in
                record {
                  before = entries l w k;
                  value = row w (place_at l k + 2) l.width;
                  later = [];
                  found = ap (λ m. entries l w k ++ m ∷ []) same;
                })
          ])
      | inr f ↦
          (let none : count_of p (entries l w k ++ entry l w k ∷ []) ≡ count_of p (entries l w k) = push ∙ (rw f (omega arith)) in
          further p seq (entries l w k) (entry l w k) (numbers_are_shown l w p seq k before low (omega arith)))
    ]

pub answered_is_shown : AnsweredIsShown
answered_is_shown l p seq value old now reply w h (inl stored) =
    let e : Safe l p (message p seq value) old (Done Stored) w now = subst (λ r. Safe l p (message p seq value) old (Done r) w now) stored h in
    record { before = old.shown; value = value; later = []; found = e.1 }
answered_is_shown l p seq value old now reply w h (inr already) =
    let e : Safe l p (message p seq value) old (Done Already) w now = subst (λ r. Safe l p (message p seq value) old (Done r) w now) already h in
    let reports = e.1 in reports.3
