-- The rows of all words, of which one is changed, or each.
use Rattle.std.proofs.Common.{◌≡◌, ◌≢◌, ◌∙◌, ℕ, ◌+◌, ◌*◌, ◌<◌, ◌≤◌, Bool, true, false, ◌&&◌, ◌==◌, if◌then◌else◌, List, [], length, get_or, set, slice_index, slice_set, get_or-set_same, get_or-set_other, below_more, sym, refl, ap, ap₂, subst, inl, inr, arith, eq-eqb, ne_eqb}
use Rattle.std.proofs.lemmas.Bool.{cases_eq}
use Rattle.std.proofs.lemmas.List.{length-set}
use Rattle.std.proofs.lemmas.Nat.Bits.{bit_at-zero}
use Rattle.std.specs.Int.{bit_at}
use Rattle.algorithms.specs.declared.access.Address.{Address}
use Rattle.algorithms.specs.declared.access.WordAccess.{WordAccess}
use Rattle.algorithms.specs.declared.remote_references.memory_event.MemoryEvent.TheVariants.{Access}
use Rattle.algorithms.specs.remote_references.Copies.{copy_change, copy_changes, crash_change, exclusive_change, exclusive_changes, is_same_word, last_or, stores_or_swaps}
use Rattle.algorithms.specs.remote_references.CopyRows.{AreBitsOf, AreRowsOf, IsRowOf, bit_of, row_number}

pub same_itself : (a : Address) → is_same_word a a ≡ true
same_itself a = ap₂ (λ x y. x && y) (eq-eqb a.declaration a.declaration refl) (eq-eqb a.index a.index refl)

abbrev address_of : ℕ → ℕ → Address
address_of d i = record { declaration = d; index = i }

pub same_address : (a b : Address) → a.declaration ≡ b.declaration → a.index ≡ b.index → a ≡ b
same_address a b d i = ap₂ address_of d i

pub apart_words : (a b : Address) → (a ≡ b → ⊥) → is_same_word a b ≡ false
apart_words a b apart =
    elim (cases_eq a.declaration b.declaration) [
      | inl d ↦
          elim (cases_eq a.index b.index) [
            | inl i ↦ absurd (apart (same_address a b d i))
            | inr i ↦ ap₂ (λ x y. x && y) (eq-eqb a.declaration b.declaration d) (ne_eqb a.index b.index i)
          ]
      | inr d ↦ ap (λ x. x && (a.index == b.index)) (ne_eqb a.declaration b.declaration d)
    ]

-- two words of one row are one word
one_word : (a b : Address) → a.index < 64 → b.index < 64 → row_number a ≡ row_number b → a ≡ b
one_word a b la lb e =
    let number : a.declaration * 64 + a.index ≡ b.declaration * 64 + b.index = e in
    let d : a.declaration ≡ b.declaration = omega arith in
    let i : a.index ≡ b.index = omega arith in
    same_address a b d i

-- one row is set
rows_set : (rows : List ℕ) (a : Address) (v : ℕ) (holds changed : Address → ℕ → Bool) → IsRowOf (length rows) a → AreRowsOf rows holds → AreBitsOf v (changed a)
    → ((word : Address) (q : ℕ) → is_same_word a word ≡ false → changed word q ≡ holds word q) → AreRowsOf (slice_set rows (row_number a) v) changed
rows_set rows a v holds changed here before bits other word within q l =
    let n : ℕ = row_number a in
    let there : n < length rows = here.1 in
    let inside : IsRowOf (length rows) word = (within.0, omega (arith, within.1, length-set rows n v)) in
    elim (cases_eq n (row_number word)) [
      | inl e ↦
          (let at : bit_at (slice_index (slice_set rows n v) n) q ≡ bit_of (changed a q) = rw get_or-set_same (bits q l) in
          subst (λ w. bit_at (slice_index (slice_set rows n v) (row_number w)) q ≡ bit_of (changed w q)) (one_word a word here.0 within.0 e) at)
      | inr d ↦
          (let apart : row_number word ≢ n = λ h. d (sym h) in
          let at : bit_at (slice_index (slice_set rows n v) (row_number word)) q ≡ bit_of (holds word q) = rw get_or-set_other (before word inside q l) in
          at ∙ ap bit_of (sym (other word q (apart_words a word (λ h. d (ap row_number h))))))
    ]

-- the rows after an access, of which the row of its word is set
pub held_rows : (rows : List ℕ) (p v : ℕ) (access : WordAccess) (holds : Address → ℕ → Bool) → IsRowOf (length rows) access.address → AreRowsOf rows holds
    → AreBitsOf v (λ q. last_or (holds access.address q) (copy_change (p == q) (stores_or_swaps access)))
    → AreRowsOf (slice_set rows (row_number access.address) v) (λ word q. last_or (holds word q) (copy_changes q word (Access p access)))
held_rows rows p v access holds here before bits =
    rows_set rows access.address v holds (λ word q. last_or (holds word q) (copy_changes q word (Access p access))) here before
    (λ q l. bits q l ∙ ap (λ b. bit_of (last_or (holds access.address q) (if b then copy_change (p == q) (stores_or_swaps access) else []))) (sym (same_itself access.address)))
    (λ word q apart. ap (λ b. last_or (holds word q) (if b then copy_change (p == q) (stores_or_swaps access) else [])) apart)

pub exclusive_rows : (rows : List ℕ) (p v : ℕ) (access : WordAccess) (holds : Address → ℕ → Bool) → IsRowOf (length rows) access.address → AreRowsOf rows holds
    → AreBitsOf v (λ q. last_or (holds access.address q) (exclusive_change (p == q) (stores_or_swaps access)))
    → AreRowsOf (slice_set rows (row_number access.address) v) (λ word q. last_or (holds word q) (exclusive_changes q word (Access p access)))
exclusive_rows rows p v access holds here before bits =
    rows_set rows access.address v holds (λ word q. last_or (holds word q) (exclusive_changes q word (Access p access))) here before
    (λ q l. bits q l ∙ ap (λ b. bit_of (last_or (holds access.address q) (if b then exclusive_change (p == q) (stores_or_swaps access) else []))) (sym (same_itself access.address)))
    (λ word q apart. ap (λ b. last_or (holds word q) (if b then exclusive_change (p == q) (stores_or_swaps access) else [])) apart)

-- an access of a word that has no row changes none
rowless : (rows : List ℕ) (a word : Address) → (IsRowOf (length rows) a → ⊥) → IsRowOf (length rows) word → is_same_word a word ≡ false
rowless rows a word none within = apart_words a word (λ h. none (subst (IsRowOf (length rows)) (sym h) within))

pub held_elsewhere : (rows : List ℕ) (p : ℕ) (access : WordAccess) (holds : Address → ℕ → Bool) → (IsRowOf (length rows) access.address → ⊥) → AreRowsOf rows holds
    → AreRowsOf rows (λ word q. last_or (holds word q) (copy_changes q word (Access p access)))
held_elsewhere rows p access holds none before word within q l =
    before word within q l
    ∙ ap (λ b. bit_of (last_or (holds word q) (if b then copy_change (p == q) (stores_or_swaps access) else []))) (sym (rowless rows access.address word none within))

pub exclusive_elsewhere : (rows : List ℕ) (p : ℕ) (access : WordAccess) (holds : Address → ℕ → Bool) → (IsRowOf (length rows) access.address → ⊥) → AreRowsOf rows holds
    → AreRowsOf rows (λ word q. last_or (holds word q) (exclusive_changes q word (Access p access)))
exclusive_elsewhere rows p access holds none before word within q l =
    before word within q l
    ∙ ap (λ b. bit_of (last_or (holds word q) (if b then exclusive_change (p == q) (stores_or_swaps access) else []))) (sym (rowless rows access.address word none within))

-- ---- a crash

-- of the first j rows a process is taken out, the others are as they were
pub record AreCleared (rows old : List ℕ) (p j : ℕ) : Type 0 where
  pub all : length rows ≡ length old
  pub first : (k : ℕ) → k < j → (had : ℕ → Bool) → AreBitsOf (get_or old k 0) had → AreBitsOf (get_or rows k 0) (λ q. last_or (had q) (crash_change (p == q)))
  pub rest : (k : ℕ) → j ≤ k → get_or rows k 0 ≡ get_or old k 0

pub cleared_more : (rows old : List ℕ) (p j v : ℕ) → j < length rows → AreCleared rows old p j
    → ((had : ℕ → Bool) → AreBitsOf (get_or rows j 0) had → AreBitsOf v (λ q. last_or (had q) (crash_change (p == q)))) → AreCleared (set rows j v) old p (j + 1)
cleared_more rows old p j v lj h clears =
    let clear : (had : ℕ → Bool) → AreBitsOf (get_or old j 0) had → AreBitsOf v (λ q. last_or (had q) (crash_change (p == q))) = λ had bits.
    clears had (subst (λ x. AreBitsOf x had) (sym (h.rest j (omega arith))) bits) in
    record {
      all = length-set rows j v ∙ h.all;
      first = below_more (λ k. (had : ℕ → Bool) → AreBitsOf (get_or old k 0) had → AreBitsOf (get_or (set rows j v) k 0) (λ q. last_or (had q) (crash_change (p == q)))) j
          (λ k l. let ne : k ≢ j = omega arith in rw get_or-set_other (h.first k l))
          (rw get_or-set_same clear);
      rest = λ k l. let ne : k ≢ j = omega arith in rw get_or-set_other (h.rest k (omega arith));
    }

pub all_cleared : (rows old : List ℕ) (p j : ℕ) (holds : Address → ℕ → Bool) → length rows ≤ j → AreCleared rows old p j → AreRowsOf old holds
    → AreRowsOf rows (λ word q. last_or (holds word q) (crash_change (p == q)))
all_cleared rows old p j holds all h before word within q l = h.first (row_number word) (omega (arith, within.1, all)) (holds word) (before word (within.0, omega (arith, within.1, h.all))) q l

-- ---- a crash of all

-- the first j rows are empty
pub record AreEmpty (rows old : List ℕ) (j : ℕ) : Type 0 where
  pub all : length rows ≡ length old
  pub first : (k : ℕ) → k < j → get_or rows k 0 ≡ 0

pub empty_more : (rows old : List ℕ) (j : ℕ) → j < length rows → AreEmpty rows old j → AreEmpty (set rows j 0) old (j + 1)
empty_more rows old j lj h =
    record {
      all = length-set rows j 0 ∙ h.all;
      first = below_more (λ k. get_or (set rows j 0) k 0 ≡ 0) j (λ k l. let ne : k ≢ j = omega arith in rw get_or-set_other (h.first k l)) (rw get_or-set_same refl);
    }

pub all_empty : (rows old : List ℕ) (j : ℕ) (holds : Address → ℕ → Bool) → length rows ≤ j → AreEmpty rows old j → AreRowsOf rows (λ word q. last_or (holds word q) (crash_change true))
all_empty rows old j holds all h word within q l = ap (λ row. bit_at row q) (h.first (row_number word) (omega (arith, within.1, all))) ∙ bit_at-zero q
