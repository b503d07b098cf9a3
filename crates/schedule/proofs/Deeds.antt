-- The deed lines: reading and spelling are inverse.
use Rattle.std.proofs.Common.{◌≡◌, ℕ, ◌^◌, ◌<◌, true, List, [], ◌∷◌, length, map, drop, Ok, refl, sym, ap, ◌∙◌, arith, lit<, codes}
use Rattle.schedule.proofs.LinesCommon.{decimal, AllByRecursion, deed_at, words_of_deed, IsDeed, deeds_by_name, deed_with, WordShape, any, repeated_shape, has_fixed, numbers_at, item_after}
use Rattle.redomail.specs.declared.deed.Deed.{Deed}
use Rattle.rmecore.specs.declared.outer.Outer.TheVariants as outers
use Rattle.redomail.specs.declared.deed.Deed.TheVariants as deeds
use Rattle.schedule.specs.declared.lines.deed.DeedWord.{DeedWord}
use Rattle.schedule.specs.declared.lines.deed.DeedWord.TheVariants as names
use Rattle.schedule.specs.Deeds.{places, word_of}
use Rattle.schedule.proofs.Forms.{Says, item_takes, one, reads}
use Rattle.schedule.proofs.Joins.{ArePlain, decimal_above, decimals_plain, IsCodec}
use Rattle.schedule.proofs.Places.{Fits, AreNarrow, numbers_again, many_narrow, many_fixed, many_from, many_fit}

abbrev DeedSays : ℕ → DeedWord → List WordShape → List ℕ → Type 0
DeedSays width c shapes ns = Says Deed words_of_deed (IsDeed width) (word_of c) (deed_with c ns) shapes ns

commit_says : (width : ℕ) (ns : List ℕ) → Fits (any ∷ any ∷ repeated_shape width) ns → DeedSays width names.Commit (any ∷ any ∷ repeated_shape width) ns
commit_says width [] h = absurd h
commit_says width (p ∷ []) h = absurd h.3
commit_says width (p ∷ seq ∷ v) h =
    let m = many_from width v h.3.3 in
    record { said = ap (λ (xs : List (List ℕ)). codes "commit" ∷ decimal p ∷ decimal seq ∷ xs) (sym m.0); fits = (omega arith, omega (arith, h.3.1), (m.1, m.2)) }

show_says : (width : ℕ) (ns : List ℕ) → Fits (any ∷ any ∷ any ∷ repeated_shape width) ns → DeedSays width names.Show (any ∷ any ∷ any ∷ repeated_shape width) ns
show_says width [] h = absurd h
show_says width (p ∷ []) h = absurd h.3
show_says width (p ∷ at ∷ []) h = absurd h.3.3
show_says width (p ∷ at ∷ seq ∷ v) h =
    let m = many_from width v h.3.3.3 in
    record { said = ap (λ (xs : List (List ℕ)). codes "show" ∷ decimal p ∷ decimal at ∷ decimal seq ∷ xs) (sym m.0); fits = (omega arith, omega (arith, h.3.1), omega (arith, h.3.3.1), (m.1, m.2)) }

says : (width : ℕ) (c : DeedWord) (ws : List (List ℕ)) (ns : List ℕ) → Fits (places width c ws) ns → DeedSays width c (places width c ws) ns
says width names.Commit ws ns h = commit_says width ns h
says width names.Show ws ns h = show_says width ns h
says width c ws ns h = one (DeedSays width c (any ∷ [])) (λ p small. record { said = refl; fits = small }) ns h

narrow : (width : ℕ) (c : DeedWord) (ws : List (List ℕ)) → AreNarrow (places width c ws)
narrow width names.Commit ws = (lit< tt, (lit< tt, many_narrow width))
narrow width names.Show ws = (lit< tt, (lit< tt, (lit< tt, many_narrow width)))
narrow width _ ws = (lit< tt, tt)

fixed : (width : ℕ) (c : DeedWord) (ws : List (List ℕ)) → has_fixed (places width c ws) ws ≡ true
fixed width names.Commit ws = many_fixed width (drop 1 (drop 1 ws))
fixed width names.Show ws = many_fixed width (drop 1 (drop 1 (drop 1 ws)))
fixed width _ ws = refl

-- a line that is read is the spelling of its result
deed_takes : (width : ℕ) (ws : List (List ℕ)) (d : Deed) → deed_at width ws ≡ Ok d → (ws ≡ words_of_deed d) × IsDeed width d
deed_takes width ws d e =
    item_takes deeds_by_name (places width) deed_with words_of_deed (IsDeed width) word_of ws d (refl, (refl, (refl, (refl, (refl, (refl, (refl, (refl, (refl, (refl, (refl, tt))))))))))) (narrow width) (fixed width) (says width) e

value_again : (width : ℕ) (v : List ℕ) → (length v ≡ width) × AllByRecursion (λ n. n < 2 ^ 64) v → numbers_at (repeated_shape width) (map decimal v) ≡ Ok v
value_again width v h =
    let fit = many_fit width v h.0 h.1 in
    ap (numbers_at (repeated_shape width)) (sym (many_from width v fit).0) ∙ numbers_again (repeated_shape width) v fit

-- the spelling of a deed is read back
deed_again : (width : ℕ) (d : Deed) → IsDeed width d → deed_at width (words_of_deed d) ≡ Ok d
unfolding item_after
deed_again width (deeds.Commit p seq v) h = rw (reads p h.0, reads seq h.1, value_again width v h.2) refl
deed_again width (deeds.Show p at seq v) h = rw (reads p h.0, reads at h.1, reads seq h.2, value_again width v h.3) refl
deed_again width (deeds.Outer (outers.Begin p)) h = rw (reads p h) refl
deed_again width _ h = rw (reads _ h) refl

-- its words are plain
deed_plain : (width : ℕ) (d : Deed) → IsDeed width d → ArePlain (words_of_deed d)
deed_plain width (deeds.Commit p seq v) h = (refl, (decimal_above p h.0, decimals_plain (decimal seq) v (decimal_above seq h.1) h.2.1))
deed_plain width (deeds.Show p at seq v) h = (refl, (decimal_above p h.0, (decimal_above at h.1, decimals_plain (decimal seq) v (decimal_above seq h.2) h.3.1)))
deed_plain width (deeds.Outer (outers.Begin p)) h = (refl, decimal_above p h)
deed_plain width _ h = (refl, decimal_above _ h)

pub deed_codec : (width : ℕ) → IsCodec Deed (deed_at width) words_of_deed (IsDeed width)
deed_codec width = record { takes = deed_takes width; again = deed_again width; plain = deed_plain width }
