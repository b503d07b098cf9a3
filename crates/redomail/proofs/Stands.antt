-- Messages shown stay shown, and entries below count stay the same.
use Rattle.std.proofs.Common.{◌≡◌, ℕ, zero, suc, ◌+◌, ◌<◌, ◌≤◌, List, [], ◌∷◌, ◌++◌, length, refl, sym, ◌∙◌, ap, subst, inl, inr, arith, length-append, append_assoc, get_or, append-nil}
use Rattle.redomail.proofs.Common.{get_or-append, cases_eq, Deed, Layout, Message, Words, message, Mailbox, mailbox_after, entry, entries, recorded_message}
use Rattle.std.proofs.Math.Seq.{get_or-append_seam}
use Rattle.redomail.specs.declared.deed.Deed.TheVariants.{Show}
use Rattle.redomail.specs.Laws.{ShownGrows, ShownEntriesStand}
use Rattle.redomail.proofs.Changes.{length-entries}

abbrev Grown : Mailbox → Mailbox → Type 0
Grown s t = (more : List Message) × (t.shown ≡ s.shown ++ more)

one_grows : (s : Mailbox) (d : Deed) → Grown s (mailbox_after s d)
one_grows s (Show p at seq v) = (message p seq v ∷ [], refl)
one_grows s _ = ([], sym (append-nil s.shown))

pub shown_grows : ShownGrows
shown_grows cap s t [] h = ([], sym (append-nil s.shown ∙ ap (λ x. x.shown) h))
shown_grows cap s t (d ∷ ds) h =
    let first = one_grows s d in
    let rest = shown_grows cap (mailbox_after s d) t ds h.1 in
    (first.0 ++ rest.0, rest.1 ∙ (ap (λ xs. xs ++ rest.0) first.1 ∙ append_assoc s.shown first.0 rest.0))

-- the entry at a place, by the list of entries
pub get_or-entries : (l : Layout) (w : Words) (k a : ℕ) (d : Message) → a < k → get_or (entries l w k) a d ≡ entry l w a
get_or-entries l w zero a d h = absurd (omega arith)
get_or-entries l w (suc k) a d h =
    let n = length-entries l w k in
    elim (cases_eq a k) [
      | inl same ↦ rw same (subst (λ i. get_or (entries l w k ++ entry l w k ∷ []) i d ≡ entry l w k) n (get_or-append_seam (entries l w k) (entry l w k) [] d))
      | inr other ↦
          get_or-append (entries l w k) (entry l w k ∷ []) d a (omega (arith, other)) ∙ get_or-entries l w k a d (omega (arith, other))
    ]

-- a longer list keeps the old entries
pub stand_by : (l : Layout) (v w : Words) (k n : ℕ) (more : List Message) → entries l v n ≡ entries l w k ++ more → (k ≤ n) × ((a : ℕ) → a < k → entry l v a ≡ entry l w a)
stand_by l v w k n more e =
    let x = length-entries l v n in
    let y = length-entries l w k in
    let long : n ≡ k + length more = omega (arith, ap length e, length-append (entries l w k) more) in
    let m : Message = recorded_message l 0 w in (
      omega arith,
      λ a h. sym (get_or-entries l v n a m (omega arith)) ∙ (ap (λ xs. get_or xs a m) e
          ∙ (get_or-append (entries l w k) more m a (omega arith) ∙ get_or-entries l w k a m h)),
    )

pub shown_entries_stand : ShownEntriesStand
shown_entries_stand l p q w v s t ds before leads after =
    let grown = shown_grows l.cap s t ds leads in
    stand_by l v w (w 2) (v 2) grown.0 (sym after.shown ∙ (grown.1 ∙ ap (λ xs. xs ++ grown.0) before.shown))
