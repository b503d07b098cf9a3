-- A round of a hunt, word by word.
use Rattle.std.proofs.Common.{◌≡◌, ◌<◌, ℕ, zero, suc, ◌+◌, ◌-◌, ◌*◌, true, false, if◌then◌else◌, List, [], ◌∷◌, ◌++◌, map, Option, Some, None, IsSome, is_err, refl, sym, ap, ◌∙◌, subst, arith}
use Rattle.std.proofs.lemmas.List.{map-append}
use Rattle.rand_core.specs.Pcg32Seed.{pcg32_seed}
use Rattle.rand_core.specs.Steps.{first_words}
use Rattle.rand_pcg.specs.Lcg.{Lcg, next, advance, state_after}
use Rattle.rand_pcg.specs.Pcg.{multiplier_64, pcg32, pcg32_of_seed}
use Rattle.rmecore.specs.declared.refusal.Refusal.{Refusal}
use Rattle.judge.specs.Kept.{Kept}
use Rattle.judge.specs.Legal.{judged_all}
use Rattle.crashlab.proofs.Common.{Variant, VariantState, Scheduled, StandsAfter, empty_state, EndsMove, On, with_line, line_by, first_world, deeds_of_lines, IsPlayed}
use Rattle.crashlab.specs.declared.hunts.moves.DrawnMove.{DrawnMove}
use Rattle.crashlab.specs.declared.hunts.observer.Observation.{Observation}
use Rattle.crashlab.specs.declared.hunts.random_moves.RandomMoves.{RandomMoves}
use Rattle.crashlab.specs.hunts.Draws.{Sight, seen_after_move, drawn_move}
use Rattle.crashlab.specs.hunts.Found.{IsCaught, drawn_moves_of}
use Rattle.crashlab.specs.hunts.Hunts.{after_line, after_lines}
use Rattle.crashlab.specs.hunts.Hunted.{seen_from, seen_after, refusal_of, unless_refused, with_word, is_refused, found_after, round_result, found_in, found_from, or_else, generator_after}
use Rattle.crashlab.specs.hunts.Observed.{Observes}

-- ---- the moves

pub drawn_more : (moves : List DrawnMove) (made : DrawnMove) → drawn_moves_of (moves ++ made ∷ []) ≡ with_line (drawn_moves_of moves) (line_by made)
drawn_more moves made = (λ i. record { procs = 3; limit = 1000000; cap = 64; width = 1; lines = map-append line_by moves (made ∷ []) i })

seen_more : (s : VariantState) (seen : ℕ → List Sight) (moves : List DrawnMove) (made : DrawnMove)
    → seen_from s seen (moves ++ made ∷ []) ≡ seen_after_move (after_lines s (map line_by moves)) made (seen_from s seen moves)
seen_more s seen [] made = refl
seen_more s seen (x ∷ xs) made = seen_more (after_line s (line_by x)) (seen_after_move s x seen) xs made

refused_stays : (o : Option Refusal) (made : DrawnMove) (moves : List DrawnMove) → IsSome o → unless_refused o made moves ≡ moves
refused_stays None made moves some = absurd (cc)
refused_stays (Some refusal) made moves some = refl

not_refused : (variant : Variant) (moves : List DrawnMove) (judge : Kept) → StandsAfter (empty_state 3 64) (deeds_of_lines (first_world variant) (map line_by moves)) judge → is_refused variant moves ≡ false
not_refused variant moves judge stands = ap is_err stands.legal

-- ---- the words

one_word : (variant : Variant) (crashes : ℕ) (moves : List DrawnMove) (n : ℕ) (g : Lcg)
    → found_after variant crashes moves (first_words pcg32 (suc n) g) ≡ (if is_refused variant (with_word variant crashes moves (pcg32 g).0) then Some (drawn_moves_of (with_word variant crashes moves (pcg32 g).0)) else found_after variant crashes (with_word variant crashes moves (pcg32 g).0) (first_words pcg32 n (pcg32 g).1))
unfolding found_after first_words
one_word variant crashes moves n g = refl

no_word : (variant : Variant) (crashes : ℕ) (moves : List DrawnMove) (g : Lcg) → found_after variant crashes moves (first_words pcg32 0 g) ≡ None
unfolding found_after first_words
no_word variant crashes moves g = refl

-- jumps add up
pub jumps : (m n : ℕ) (g : Lcg) → advance 64 multiplier_64 n (advance 64 multiplier_64 m g) ≡ advance 64 multiplier_64 (m + n) g
unfolding state_after
jumps zero n g = ap (λ k. advance 64 multiplier_64 k g) (let e : n ≡ 0 + n = omega arith in e)
jumps (suc m) n g = jumps m n (next 64 multiplier_64 g) ∙ ap (λ k. advance 64 multiplier_64 k g) (let e : suc (m + n) ≡ suc m + n = omega arith in e)

-- a word is a jump of one
pub one_jump : (k : ℕ) (start : Lcg) → (pcg32 (advance 64 multiplier_64 k start)).1 ≡ advance 64 multiplier_64 (k + 1) start
unfolding state_after
one_jump k start = jumps k 1 start

pub no_jump : (g : Lcg) → g ≡ advance 64 multiplier_64 0 g
unfolding state_after
no_jump g = refl

-- ---- a round so far: the moves of its first k words, with the world, the judge, the observer and the generator after them

-- a round on a variant: the random moves that are asked for, and the generator at its start
pub record DrawnRound : Type 0 where
  pub variant : Variant
  pub asked : RandomMoves
  pub start : Lcg

abbrev pub drawn_round : Variant → RandomMoves → Lcg → DrawnRound
drawn_round variant asked start = record { variant = variant; asked = asked; start = start }

pub record IsDrawn (round : DrawnRound) (k : ℕ) (moves : List DrawnMove) (world : VariantState) (judge : Kept) (observations : List Observation) (g : Lcg) : Type 0 where
  pub played : IsPlayed round.variant (drawn_moves_of moves) world judge
  pub observes : Observes (seen_after round.variant moves) observations
  pub rest : round_result round.variant round.asked round.start ≡ found_after round.variant round.asked.system_crashes moves (first_words pcg32 (round.asked.steps - k) g)
  pub on : g ≡ advance 64 multiplier_64 k round.start

pub drawn_first : (variant : Variant) (asked : RandomMoves) (start : Lcg) (world : VariantState) (judge : Kept) (observations : List Observation) → IsPlayed variant (drawn_moves_of []) world judge → Observes (λ p. []) observations
    → IsDrawn (drawn_round variant asked start) 0 [] world judge observations start
drawn_first variant asked start world judge observations played observes =
    record { played = played; observes = observes; rest = ap (λ n. found_after variant asked.system_crashes [] (first_words pcg32 n start)) (let e : asked.steps ≡ asked.steps - 0 = omega arith in e); on = no_jump start }

module _ {variant : Variant} {asked : RandomMoves} {start : Lcg} {k : ℕ} {moves : List DrawnMove} {world : VariantState} {judge : Kept} {observations : List Observation} {g g' : Lcg} {word : ℕ} {made : DrawnMove} (so_far : IsDrawn (drawn_round variant asked start) k moves world judge observations g) (more : k < asked.steps) (next : (word, g') ≡ pcg32 g) (draws : (seen : ℕ → List Sight) → Observes seen observations → made ≡ drawn_move asked.system_crashes seen word) where
  is : made ≡ drawn_move asked.system_crashes (seen_after variant moves) (pcg32 g).0
  is = draws (seen_after variant moves) so_far.observes ∙ ap (λ (p : ℕ × Lcg). drawn_move asked.system_crashes (seen_after variant moves) p.0) next

  to : g' ≡ (pcg32 g).1
  to = ap (λ (p : ℕ × Lcg). p.1) next

  with_is : with_word variant asked.system_crashes moves (pcg32 g).0 ≡ unless_refused (refusal_of world made) made moves
  with_is = (λ i. unless_refused (refusal_of (sym so_far.played.reached i) (sym is i)) (sym is i) moves)

  rest_is : round_result variant asked start ≡ (if is_refused variant (with_word variant asked.system_crashes moves (pcg32 g).0) then Some (drawn_moves_of (with_word variant asked.system_crashes moves (pcg32 g).0)) else found_after variant asked.system_crashes (with_word variant asked.system_crashes moves (pcg32 g).0) (first_words pcg32 (asked.steps - (k + 1)) (pcg32 g).1))
  rest_is = so_far.rest ∙ ap (λ n. found_after variant asked.system_crashes moves (first_words pcg32 n g)) (let e : asked.steps - k ≡ suc (asked.steps - (k + 1)) = omega (arith, more) in e) ∙ one_word variant asked.system_crashes moves (asked.steps - (k + 1)) g

  on_is : (pcg32 g).1 ≡ advance 64 multiplier_64 (k + 1) start
  on_is = ap (λ x. (pcg32 x).1) so_far.on ∙ one_jump k start

  goes : (next : List DrawnMove) → with_word variant asked.system_crashes moves (pcg32 g).0 ≡ next → is_refused variant next ≡ false
      → round_result variant asked start ≡ found_after variant asked.system_crashes next (first_words pcg32 (asked.steps - (k + 1)) (pcg32 g).1)
  goes next to fine = rest_is ∙ ap (λ ms. if is_refused variant ms then Some (drawn_moves_of ms) else found_after variant asked.system_crashes ms (first_words pcg32 (asked.steps - (k + 1)) (pcg32 g).1)) to
      ∙ ap (λ b. if b then Some (drawn_moves_of next) else found_after variant asked.system_crashes next (first_words pcg32 (asked.steps - (k + 1)) (pcg32 g).1)) fine

  with_made : refusal_of world made ≡ None → with_word variant asked.system_crashes moves (pcg32 g).0 ≡ moves ++ made ∷ []
  with_made accepted = with_is ∙ ap (λ o. unless_refused o made moves) accepted

  -- the world refuses the move
  pub drawn_refused : {world' : VariantState} {judge' : Kept} {observations' : List Observation} → IsSome (refusal_of world made)
      → (world' ≡ world) × (judge' ≡ judge) × (observations' ≡ observations) → IsDrawn (drawn_round variant asked start) (k + 1) moves world' judge' observations' g'
  drawn_refused {world' = world'} {judge' = judge'} {observations' = observations'} refused same =
      record {
        played = subst (λ w. IsPlayed variant (drawn_moves_of moves) w judge') (sym same.0) (subst (λ j. IsPlayed variant (drawn_moves_of moves) world j) (sym same.1) so_far.played);
        observes = subst (λ os. Observes (seen_after variant moves) os) (sym same.2) so_far.observes;
        rest = goes moves (with_is ∙ refused_stays (refusal_of world made) made moves refused) (not_refused variant moves judge so_far.played.stands)
            ∙ ap (λ x. found_after variant asked.system_crashes moves (first_words pcg32 (asked.steps - (k + 1)) x)) (sym to);
        on = to ∙ on_is;
      }

  -- the judge allows its deed
  pub drawn_on : {moves' : List DrawnMove} {world' : VariantState} {judge' : Kept} {observations' : List Observation} → refusal_of world made ≡ None → moves' ≡ moves ++ made ∷ []
      → EndsMove variant (with_line (drawn_moves_of moves) (line_by made)) world' judge' On → ((seen : ℕ → List Sight) → Observes seen observations → Observes (seen_after_move world made seen) observations')
      → IsDrawn (drawn_round variant asked start) (k + 1) moves' world' judge' observations' g'
  drawn_on {moves' = moves'} {world' = world'} {judge' = judge'} {observations' = observations'} accepted added ends observes =
      let played : IsPlayed variant (drawn_moves_of (moves ++ made ∷ [])) world' judge' = subst (λ s. IsPlayed variant s world' judge') (sym (drawn_more moves made)) ends in
      let seen : seen_after_move world made (seen_after variant moves) ≡ seen_after variant (moves ++ made ∷ []) =
      ap (λ w. seen_after_move w made (seen_after variant moves)) so_far.played.reached ∙ sym (seen_more (first_world variant) (λ p. []) moves made) in
      subst (λ ms. IsDrawn (drawn_round variant asked start) (k + 1) ms world' judge' observations' g') (sym added) (record {
        played = played;
        observes = subst (λ s. Observes s observations') seen (observes (seen_after variant moves) so_far.observes);
        rest = goes (moves ++ made ∷ []) (with_made accepted) (not_refused variant (moves ++ made ∷ []) judge' played.stands)
            ∙ ap (λ x. found_after variant asked.system_crashes (moves ++ made ∷ []) (first_words pcg32 (asked.steps - (k + 1)) x)) (sym to);
        on = to ∙ on_is;
      })

  -- the judge refuses its deed
  pub drawn_caught : refusal_of world made ≡ None → IsCaught variant (with_line (drawn_moves_of moves) (line_by made))
      → round_result variant asked start ≡ Some (drawn_moves_of (moves ++ made ∷ []))
  drawn_caught accepted ends =
      let found = ends.found in
      let lines : map line_by (moves ++ made ∷ []) ≡ map line_by moves ++ line_by made ∷ [] = map-append line_by moves (made ∷ []) in
      let caught : is_refused variant (moves ++ made ∷ []) ≡ true =
      ap (λ ls. is_err (judged_all (empty_state 3 64) (deeds_of_lines (first_world variant) ls))) lines ∙ ap (λ ds. is_err (judged_all (empty_state 3 64) ds)) found.deeds ∙ ap is_err found.refused in
      rest_is ∙ ap (λ ms. if is_refused variant ms then Some (drawn_moves_of ms) else found_after variant asked.system_crashes ms (first_words pcg32 (asked.steps - (k + 1)) (pcg32 g).1)) (with_made accepted)
      ∙ ap (λ b. if b then Some (drawn_moves_of (moves ++ made ∷ [])) else found_after variant asked.system_crashes (moves ++ made ∷ []) (first_words pcg32 (asked.steps - (k + 1)) (pcg32 g).1)) caught

-- all words are drawn
pub drawn_all : {variant : Variant} {asked : RandomMoves} {start : Lcg} {k : ℕ} {moves : List DrawnMove} {world : VariantState} {judge : Kept} {observations : List Observation} {g : Lcg}
    → IsDrawn (drawn_round variant asked start) k moves world judge observations g → k ≡ asked.steps
    → (round_result variant asked start ≡ None) × (g ≡ advance 64 multiplier_64 asked.steps start)
drawn_all {variant = variant} {asked = asked} {start = start} {k = k} {moves = moves} {g = g} so_far all = (
  so_far.rest ∙ ap (λ n. found_after variant asked.system_crashes moves (first_words pcg32 n g)) (let e : asked.steps - k ≡ 0 = omega (arith, all) in e) ∙ no_word variant asked.system_crashes moves g,
  so_far.on ∙ ap (λ n. advance 64 multiplier_64 n start) all,
)

-- ---- rounds

pub no_round : (variant : Variant) (asked : RandomMoves) (round : ℕ) → found_from variant asked round 0 ≡ None
unfolding found_from
no_round variant asked round = refl

one_round : (variant : Variant) (asked : RandomMoves) (round n : ℕ) → found_from variant asked round (suc n) ≡ or_else (found_in variant asked round) (found_from variant asked (round + 1) n)
unfolding found_from
one_round variant asked round n = refl

-- k rounds from `first` on found nothing, and the generator stands after them
pub record AreDrawn (variant : Variant) (asked : RandomMoves) (first rounds k : ℕ) (g : Lcg) : Type 0 where
  pub rest : found_from variant asked first rounds ≡ found_from variant asked (first + k) (rounds - k)
  pub at : g ≡ generator_after asked.seed ((first + k) * asked.steps)

module _ {variant : Variant} {asked : RandomMoves} {first rounds k : ℕ} {g : Lcg} (so_far : AreDrawn variant asked first rounds k g) where
  module _ (more : k < rounds) where
    next_round : found_from variant asked first rounds ≡ or_else (round_result variant asked g) (found_from variant asked (first + (k + 1)) (rounds - (k + 1)))
    next_round =
        so_far.rest ∙ ap (λ n. found_from variant asked (first + k) n) (let e : rounds - k ≡ suc (rounds - (k + 1)) = omega (arith, more) in e)
        ∙ one_round variant asked (first + k) (rounds - (k + 1))
        ∙ ap (λ x. or_else (round_result variant asked x) (found_from variant asked (first + k + 1) (rounds - (k + 1)))) (sym so_far.at)
        ∙ ap (λ n. or_else (round_result variant asked g) (found_from variant asked n (rounds - (k + 1)))) (let e : first + k + 1 ≡ first + (k + 1) = omega arith in e)

    pub round_found : {schedule : Scheduled} → Some schedule ≡ round_result variant asked g → Some schedule ≡ found_from variant asked first rounds
    round_found {schedule = schedule} found = ap (λ o. or_else o (found_from variant asked (first + (k + 1)) (rounds - (k + 1)))) found ∙ sym next_round

    pub round_none : {g' : Lcg} → None ≡ round_result variant asked g → g' ≡ advance 64 multiplier_64 asked.steps g → AreDrawn variant asked first rounds (k + 1) g'
    round_none none to =
        record {
          rest = next_round ∙ ap (λ o. or_else o (found_from variant asked (first + (k + 1)) (rounds - (k + 1)))) (sym none);
          at = to ∙ ap (advance 64 multiplier_64 asked.steps) so_far.at ∙ jumps ((first + k) * asked.steps) asked.steps _
              ∙ ap (generator_after asked.seed) (let e : (first + k) * asked.steps + asked.steps ≡ (first + (k + 1)) * asked.steps = omega arith in e);
        }

  pub rounds_none : k ≡ rounds → None ≡ found_from variant asked first rounds
  rounds_none all = sym (so_far.rest ∙ ap (λ n. found_from variant asked (first + k) n) (let e : rounds - k ≡ 0 = omega (arith, all) in e) ∙ no_round variant asked (first + k))

pub at_start : (seed steps : ℕ) → pcg32_of_seed (pcg32_seed 16 seed) ≡ generator_after seed (0 * steps)
at_start seed steps = no_jump (pcg32_of_seed (pcg32_seed 16 seed)) ∙ ap (generator_after seed) (let e : 0 ≡ 0 * steps = omega arith in e)

pub rounds_first : {variant : Variant} {asked : RandomMoves} {first rounds : ℕ} {g : Lcg} → g ≡ generator_after asked.seed (first * asked.steps) → AreDrawn variant asked first rounds 0 g
rounds_first {variant = variant} {asked = asked} {first = first} {rounds = rounds} at =
    let here : first ≡ first + 0 = omega arith in
    record {
      rest = (λ i. found_from variant asked (here i) ((let e : rounds ≡ rounds - 0 = omega arith in e) i));
      at = at ∙ ap (λ n. generator_after asked.seed (n * asked.steps)) here;
    }
