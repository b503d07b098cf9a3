-- The words of a wider image, in order, for private contracts.
use Rattle.std.specs.Prelude.{ℕ, zero, suc, ◌+◌, List, ◌++◌, take, drop}
use Rattle.redomail.specs.declared.layout.Layout.{Layout}
use Rattle.redomail.specs.Layout.{place_at}
use Rattle.rmeworld.specs.ImageWiden.{padded_words}

-- the n words from index i on
abbrev pub words_from : ℕ → ℕ → List ℕ → List ℕ
words_from i n xs = take n (drop i xs)

-- a place with a wider value
abbrev pub wide_place : Layout → ℕ → List ℕ → ℕ → List ℕ
wide_place l wide xs a = words_from (place_at l a) 2 xs ++ padded_words wide (words_from (place_at l a + 2) l.width xs)

-- the words before the places, then the first places with wider values
abbrev pub wide_words : Layout → ℕ → List ℕ → ℕ → List ℕ
wide_words l wide xs zero = words_from 0 6 xs ++ padded_words wide (words_from 6 l.width xs) ++ words_from (6 + l.width) (4 + l.procs) xs
wide_words l wide xs (suc a) = wide_words l wide xs a ++ wide_place l wide xs a
