-- The list rule for ranges of processes.
use Rattle.std.proofs.Common.{◌≡◌, ◌≢◌, ℕ, ◌+◌, ◌-◌, ◌*◌, ◌<◌, List, length, slice_index, inl, inr, sym, ◌∙◌, arith}
use Rattle.redomail.proofs.Common.{cases_lt, Layout, Words, words_of, last_at, place_at, entries, count_of, AreCountsFrom, AreLastsFrom, IsNumberedIn, IsListedIn}

-- the list rule for the first blocks of 64 processes each, except one process
pub record ListedUpTo (l : Layout) (w : Words) (k but blocks : ℕ) : Type 0 where
  pub sent : 0 < blocks → (a : ℕ) → a < k → w (place_at l a) < l.procs
  pub numbered : (a : ℕ) → a < k → w (place_at l a) < blocks * 64 → w (place_at l a + 1) ≡ count_of (w (place_at l a)) (entries l w a) + 1
  pub counted : (q : ℕ) → q < blocks * 64 → q < l.procs → q ≢ but → w (last_at l q) ≡ count_of q (entries l w k)

pub listed_none : (l : Layout) (w : Words) (k but : ℕ) → ListedUpTo l w k but 0
listed_none l w k but = record {
  sent = λ h. absurd (omega (arith, h));
  numbered = λ a h low. absurd (omega (arith, low));
  counted = λ q low. absurd (omega (arith, low));
}

pub listed_more : (l : Layout) (w : Words) (k but b first past : ℕ) → first ≡ b * 64 → past ≡ first + 64 → IsListedIn l w k but first past → ListedUpTo l w k but b → ListedUpTo l w k but (b + 1)
listed_more l w k but b first past f p here below = record {
  sent = λ _. here.numbered.sent;
  numbered = λ a h low.
      elim (cases_lt (w (place_at l a)) first) [
        | inl small ↦ below.numbered a h (omega (arith, small, f))
        | inr from ↦ here.numbered.numbered a h from (omega (arith, low, f, p))
      ];
  counted = λ q low its ne.
      elim (cases_lt q first) [
        | inl small ↦ below.counted q (omega (arith, small, f)) its ne
        | inr from ↦ here.counted q from (omega (arith, low, f, p)) its ne
      ];
}

-- The list rule for a range of processes, by their counts.
pub listed_from : (l : Layout) (xs : List ℕ) (first but : ℕ) (counts : List ℕ) → length counts ≡ 64 → AreCountsFrom l xs (slice_index xs 2) first counts → IsNumberedIn l (words_of xs) (slice_index xs 2) first (first + 64)
    → AreLastsFrom l xs first counts but → IsListedIn l (words_of xs) (slice_index xs 2) but first (first + 64)
listed_from l xs first but counts long c n lasts = record {
  numbered = n;
  counted = λ q from to low ne.
      let small : q - first < length counts = omega arith in
      let e : q ≡ first + (q - first) = omega arith in lasts (q - first) q small e low ne ∙ c (q - first) q small e;
}

pub lasts_listed : (l : Layout) (xs : List ℕ) (first but : ℕ) (counts : List ℕ) → length counts ≡ 64 → AreCountsFrom l xs (slice_index xs 2) first counts
    → IsListedIn l (words_of xs) (slice_index xs 2) but first (first + 64) → AreLastsFrom l xs first counts but
lasts_listed l xs first but counts long c h i q small e low ne =
    h.counted q (omega arith) (omega arith) low ne ∙ sym (c i q small e)
