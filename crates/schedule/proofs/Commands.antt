-- The lines of a schedule: reading and spelling are inverse.
use Rattle.std.proofs.Common.{◌≡◌, ℕ, ◌^◌, ◌<◌, ◌&&◌, Bool, true, false, cond, eqb, List, [], ◌∷◌, map, drop, Ok, refl, sym, ap, ◌∙◌, subst, arith, inl, inr, lit<, codes, ne_eqb}
use Rattle.schedule.proofs.LinesCommon.{cases_eq, cases_Bool, digits_decimal, is_ascii_digit, list_all, Fixed, decimal, word_of, words_of_line, IsLine, commands_by_name, places, line_with, line_at, WordShape, Number, any, repeated_shape, has_fixed, numbers_at, is_nil, item_after}
use Rattle.schedule.specs.declared.lines.line.Line.TheVariants.{Start, Step, Crash, CrashAll}
use Rattle.schedule.specs.declared.lines.line.Line.{Line}
use Rattle.schedule.specs.declared.lines.command.Keyword.{Keyword}
use Rattle.schedule.specs.declared.lines.command.Keyword.TheVariants as commands
use Rattle.rmeworld.specs.declared.call.Call.TheVariants as calls
use Rattle.std.specs.Str.{bytes_eq}
use Rattle.std.proofs.lemmas.Slice.Eq.{bytes_eq-Decides}
use Rattle.schedule.specs.Words.{begins_with}
use Rattle.schedule.proofs.Numbers.{own}
use Rattle.schedule.proofs.Joins.{ArePlain, decimal_above, decimals_plain, IsCodec}
use Rattle.schedule.proofs.Forms.{Says, item_takes, one, two, three, reads}
use Rattle.schedule.proofs.Places.{Fits, AreNarrow, number_again, numbers_again, many_narrow, many_fixed, many_from, many_fit}

abbrev LineSays : ℕ → Keyword → List WordShape → List ℕ → Type 0
LineSays width c shapes ns = Says Line words_of_line (IsLine width) (word_of c) (line_with c ns) shapes ns

append_says : (width : ℕ) (ns : List ℕ) → Fits (any ∷ any ∷ repeated_shape width) ns → LineSays width commands.Append (any ∷ any ∷ repeated_shape width) ns
append_says width [] h = absurd h
append_says width (p ∷ []) h = absurd h.3
append_says width (p ∷ seq ∷ v) h =
    let m = many_from width v h.3.3 in
    record { said = ap (λ (xs : List (List ℕ)). codes "append" ∷ decimal p ∷ decimal seq ∷ xs) (sym m.0); fits = (omega arith, (omega (arith, h.3.1), m.1, m.2)) }

step_says : (width : ℕ) (ns : List ℕ) → Fits (any ∷ Number 2 1000000 ∷ []) ns → LineSays width commands.Step (any ∷ Number 2 1000000 ∷ []) ns
step_says width [] h = absurd h
step_says width (p ∷ []) h = absurd h.3
step_says width (p ∷ k ∷ []) h =
    let more : eqb k 1 ≡ false = ne_eqb k 1 (λ z. absurd (omega (arith, h.3.0))) in
    record { said = rw more refl; fits = (omega arith, omega (arith, h.3.0), h.3.1) }
step_says width (p ∷ k ∷ q ∷ ns) h = absurd h.3.3

abbrev step_places : Bool → List WordShape
step_places b = cond b (any ∷ []) (any ∷ Number 2 1000000 ∷ [])

steps_say : (width : ℕ) (b : Bool) (ns : List ℕ) → Fits (step_places b) ns → LineSays width commands.Step (step_places b) ns
steps_say width true ns h = one (LineSays width commands.Step (any ∷ [])) (λ p small. record { said = refl; fits = (small, omega arith, omega arith) }) ns h
steps_say width false ns h = step_says width ns h

steps_narrow : (b : Bool) → AreNarrow (step_places b)
steps_narrow true = (lit< tt, tt)
steps_narrow false = (lit< tt, (lit< tt, tt))

steps_fixed : (b : Bool) (ws : List (List ℕ)) → has_fixed (step_places b) ws ≡ true
steps_fixed true ws = refl
steps_fixed false ws = refl

abbrev crash_places : Bool → List WordShape
crash_places b = cond b (Fixed (codes "all") ∷ []) (any ∷ [])

crash_says : (width : ℕ) (b : Bool) (ns : List ℕ) → Fits (crash_places b) ns → LineSays width commands.Crash (crash_places b) ns
crash_says width true [] h = record { said = refl; fits = tt }
crash_says width true (n ∷ ns) h = absurd h
crash_says width false ns h = one (LineSays width commands.Crash (any ∷ [])) (λ p small. record { said = refl; fits = small }) ns h

crash_narrow : (b : Bool) → AreNarrow (crash_places b)
crash_narrow true = tt
crash_narrow false = (lit< tt, tt)

crash_fixed : (b : Bool) (ws : List (List ℕ)) → begins_with (codes "all") ws ≡ b → has_fixed (crash_places b) ws ≡ true
crash_fixed true ws is = ap (λ x. x && true) is
crash_fixed false ws is = refl

-- no number is spelled as the word `all`
number_is_not_all : (p : ℕ) → p < 2 ^ 64 → bytes_eq (decimal p) (codes "all") ≡ false
number_is_not_all p small =
    elim (cases_Bool (bytes_eq (decimal p) (codes "all"))) [
      | inl same ↦
          let no : false ≡ true = subst (λ w. list_all is_ascii_digit w ≡ true) ((bytes_eq-Decides (decimal p) (codes "all")).0 same) (digits_decimal own p small) in
          absurd cc
      | inr other ↦ other
    ]

says : (width : ℕ) (c : Keyword) (ws : List (List ℕ)) (ns : List ℕ) → Fits (places width c ws) ns → LineSays width c (places width c ws) ns
says width commands.Append ws ns h = append_says width ns h
says width commands.Put ws ns h = three (LineSays width commands.Put (any ∷ any ∷ any ∷ [])) (λ p i v small below under. record { said = refl; fits = (small, (below, under)) }) ns h
says width commands.Get ws ns h = two (LineSays width commands.Get (any ∷ any ∷ [])) (λ p i small below. record { said = refl; fits = (small, below) }) ns h
says width commands.Step ws ns h = steps_say width (is_nil (drop 1 ws)) ns h
says width commands.Crash ws ns h = crash_says width (begins_with (codes "all") ws) ns h
says width c ws ns h = one (LineSays width c (any ∷ [])) (λ p small. record { said = refl; fits = (small, tt) }) ns h

narrow : (width : ℕ) (c : Keyword) (ws : List (List ℕ)) → AreNarrow (places width c ws)
narrow width commands.Append ws = (lit< tt, (lit< tt, many_narrow width))
narrow width commands.Put ws = (lit< tt, (lit< tt, (lit< tt, tt)))
narrow width commands.Get ws = (lit< tt, (lit< tt, tt))
narrow width commands.Step ws = steps_narrow (is_nil (drop 1 ws))
narrow width commands.Crash ws = crash_narrow (begins_with (codes "all") ws)
narrow width _ ws = (lit< tt, tt)

fixed : (width : ℕ) (c : Keyword) (ws : List (List ℕ)) → has_fixed (places width c ws) ws ≡ true
fixed width commands.Append ws = many_fixed width (drop 1 (drop 1 ws))
fixed width commands.Step ws = steps_fixed (is_nil (drop 1 ws)) ws
fixed width commands.Crash ws = crash_fixed (begins_with (codes "all") ws) ws refl
fixed width _ ws = refl

-- a line that is read is the spelling of its result
line_takes : (width : ℕ) (ws : List (List ℕ)) (l : Line) → line_at width ws ≡ Ok l → (ws ≡ words_of_line l) × IsLine width l
line_takes width ws l e =
    item_takes commands_by_name (places width) line_with words_of_line (IsLine width) word_of ws l (refl, (refl, (refl, (refl, (refl, (refl, (refl, (refl, (refl, (refl, (refl, tt))))))))))) (narrow width) (fixed width) (says width) e

-- the spelling of a line is read back
line_again : (width : ℕ) (l : Line) → IsLine width l → line_at width (words_of_line l) ≡ Ok l
unfolding item_after
line_again width (Start p (calls.Append seq v)) h =
    let fit = many_fit width v h.1.1 h.1.2 in
    let same = (many_from width v fit).0 in
    let again : numbers_at (repeated_shape width) (map decimal v) ≡ Ok v = ap (numbers_at (repeated_shape width)) (sym same) ∙ numbers_again (repeated_shape width) v fit in
    rw (reads p h.0, reads seq h.1.0, again) refl
line_again width (Start p (calls.Put i v)) h = rw (reads p h.0, reads i h.1.0, reads v h.1.1) refl
line_again width (Start p (calls.Get i)) h = rw (reads p h.0, reads i h.1) refl
line_again width (Step p k) h =
    elim (cases_eq k 1) [
      | inl is ↦ rw is (rw (reads p h.0) refl)
      | inr isnt ↦ let more : eqb k 1 ≡ false = ne_eqb k 1 isnt in
          rw (more, reads p h.0, number_again 2 1000000 k (lit< tt) (omega (arith, h.1)) h.2) refl
    ]
line_again width (Crash p) h = rw (number_is_not_all p h, reads p h) refl
line_again width CrashAll h = refl
line_again width (Start p _) h = rw (reads p h.0) refl

-- its words are plain
line_plain : (width : ℕ) (l : Line) → IsLine width l → ArePlain (words_of_line l)
line_plain width (Start p (calls.Append seq v)) h = (refl, (decimal_above p h.0, decimals_plain (decimal seq) v (decimal_above seq h.1.0) h.1.2))
line_plain width (Start p (calls.Put i v)) h = (refl, (decimal_above p h.0, (decimal_above i h.1.0, decimal_above v h.1.1)))
line_plain width (Start p (calls.Get i)) h = (refl, (decimal_above p h.0, decimal_above i h.1))
line_plain width (Step p k) h =
    elim (cases_eq k 1) [
      | inl is ↦ rw is (refl, decimal_above p h.0)
      | inr isnt ↦ let more : eqb k 1 ≡ false = ne_eqb k 1 isnt in
          rw more (refl, (decimal_above p h.0, decimal_above k (omega (arith, h.2))))
    ]
line_plain width (Crash p) h = (refl, decimal_above p h)
line_plain width CrashAll h = (refl, refl)
line_plain width (Start p _) h = (refl, decimal_above p h.0)

pub line_codec : (width : ℕ) → IsCodec Line (line_at width) words_of_line (IsLine width)
line_codec width = record { takes = line_takes width; again = line_again width; plain = line_plain width }
