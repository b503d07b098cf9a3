-- Lines whose first word decides their places: a line that is read is the spelling of its result.
use Rattle.std.proofs.Common.{◌≡◌, ℕ, ◌-◌, ◌^◌, ◌<◌, true, List, [], ◌∷◌, drop, Option, Some, None, Ok, refl, sym, ap, subst, ◌∙◌, arith, lit<}
use Rattle.schedule.proofs.LinesCommon.{decimal, AllByRecursion, LineFault, WordShape, any, has_fixed, numbers_at, first_of, value_of_name, item_named, item_at, item_after, number_in}
use Rattle.schedule.proofs.Places.{bind_ok, ok_is, spelled, Fits, AreNarrow, number_again, numbers_take, named_is}

-- what is made of numbers that fit its places
pub record Says (A : Type 0) (words : A → List (List ℕ)) (Valid : A → Type 0) (name : List ℕ) (made : A) (shapes : List WordShape) (ns : List ℕ) : Type 0 where
  pub said : words made ≡ name ∷ spelled shapes ns
  pub fits : Valid made

module _ {C A : Type 0} (entries : List (List ℕ × C)) (places : C → List (List ℕ) → List WordShape) (make : C → List ℕ → A) where
  pub item_at-named : (ws : List (List ℕ)) (word : List ℕ) (c : C) → first_of ws ≡ Some word → value_of_name entries word ≡ Some c
      → item_at entries places make ws ≡ item_after places make c (drop 1 ws)
  item_at-named [] word c first is = absurd cc
  item_at-named (w ∷ ws) word c first is =
      let same : w ≡ word = cc in
      ap (λ (v : List ℕ). item_named places make (value_of_name entries v) ws) same ∙ ap (λ (o : Option C). item_named places make o ws) is

module _ {C A : Type 0} (entries : List (List ℕ × C)) (places : C → List (List ℕ) → List WordShape) (make : C → List ℕ → A)
    (words : A → List (List ℕ)) (Valid : A → Type 0) (name_of : C → List ℕ) where
  named_takes : (word : List ℕ) (ws : List (List ℕ)) (x : A) (o : Option C) → value_of_name entries word ≡ o
      → AllByRecursion (λ e. name_of e.1 ≡ e.0) entries
      → ((c : C) → AreNarrow (places c ws)) → ((c : C) → has_fixed (places c ws) ws ≡ true)
      → ((c : C) (ns : List ℕ) → Fits (places c ws) ns → Says A words Valid (name_of c) (make c ns) (places c ws) ns)
      → item_named places make o ws ≡ Ok x → (word ∷ ws ≡ words x) × Valid x
  unfolding item_after
  named_takes word ws x None is names narrow fixed says e = absurd cc
  named_takes word ws x (Some c) is names narrow fixed says e =
      let name = named_is name_of entries word c names is in
      let b = bind_ok (numbers_at (places c ws) ws) (λ ns. Ok (make c ns)) x e in
      let t = numbers_take (places c ws) ws b.0 (narrow c) (fixed c) b.1 in
      let s = says c b.0 t.1 in
      subst (λ (y : A). (word ∷ ws ≡ words y) × Valid y) (ok_is {E = LineFault} (make c b.0) x b.2)
      (ap (λ (w : List ℕ). w ∷ ws) name ∙ ap (λ (xs : List (List ℕ)). name_of c ∷ xs) t.0 ∙ sym s.said, s.fits)

  pub item_takes : (ws : List (List ℕ)) (x : A) → AllByRecursion (λ e. name_of e.1 ≡ e.0) entries
      → ((c : C) (rest : List (List ℕ)) → AreNarrow (places c rest)) → ((c : C) (rest : List (List ℕ)) → has_fixed (places c rest) rest ≡ true)
      → ((c : C) (rest : List (List ℕ)) (ns : List ℕ) → Fits (places c rest) ns → Says A words Valid (name_of c) (make c ns) (places c rest) ns)
      → item_at entries places make ws ≡ Ok x → (ws ≡ words x) × Valid x
  item_takes [] x names narrow fixed says e = absurd cc
  item_takes (word ∷ ws) x names narrow fixed says e =
      named_takes word ws x (value_of_name entries word) refl names (λ c. narrow c ws) (λ c. fixed c ws) (λ c ns h. says c ws ns h) e

pub one : (P : List ℕ → Type 0) → ((p : ℕ) → p < 2 ^ 64 → P (p ∷ [])) → (ns : List ℕ) → Fits (any ∷ []) ns → P ns
one P f [] h = absurd h
one P f (p ∷ []) h = f p (omega arith)
one P f (p ∷ q ∷ ns) h = absurd h.3

pub two : (P : List ℕ → Type 0) → ((p q : ℕ) → p < 2 ^ 64 → q < 2 ^ 64 → P (p ∷ q ∷ [])) → (ns : List ℕ) → Fits (any ∷ any ∷ []) ns → P ns
two P f [] h = absurd h
two P f (p ∷ ns) h = one (λ (xs : List ℕ). P (p ∷ xs)) (λ q small. f p q (omega arith) small) ns h.3

pub three : (P : List ℕ → Type 0) → ((p q r : ℕ) → p < 2 ^ 64 → q < 2 ^ 64 → r < 2 ^ 64 → P (p ∷ q ∷ r ∷ [])) → (ns : List ℕ) → Fits (any ∷ any ∷ any ∷ []) ns → P ns
three P f [] h = absurd h
three P f (p ∷ ns) h = two (λ (xs : List ℕ). P (p ∷ xs)) (λ q r small smaller. f p q r (omega arith) small smaller) ns h.3

pub reads : (n : ℕ) → n < 2 ^ 64 → number_in 0 (2 ^ 64 - 1) (Some (decimal n)) ≡ Ok n
reads n small = number_again 0 (2 ^ 64 - 1) n (lit< tt) (omega arith) (omega arith)
