-- Texts that are joined from parts.
use Rattle.std.proofs.Common.{◌≡◌, ℕ, List, [], ◌++◌, Result, Ok, Err, OnOk, sym, ap, ◌∙◌, append_assoc}
use Rattle.diagram.proofs.Common.{around}
use Rattle.std.specs.Fmt.{decimal}

pub on_ok : {A E : Type 0} (r : Result A E) (P Q : Type 0) → (P → Q) → OnOk r P → OnOk r Q
on_ok (Ok x) P Q f h = f h
on_ok (Err e) P Q f h = tt

pub two_parts : (old mid new x y : List ℕ) → mid ≡ old ++ x → new ≡ mid ++ y → new ≡ old ++ (x ++ y)
two_parts old mid new x y a b = b ∙ ap (λ (t : List ℕ). t ++ y) a ∙ append_assoc old x y

pub joined : {A E : Type 0} (r : Result A E) (old mid new x y : List ℕ) → mid ≡ old ++ x → OnOk r (new ≡ mid ++ y) → OnOk r (new ≡ old ++ (x ++ y))
joined r old mid new x y a h = on_ok r (new ≡ mid ++ y) (new ≡ old ++ (x ++ y)) (two_parts old mid new x y a) h

pub joined_three : {A E : Type 0} (r : Result A E) (old one two new x y z : List ℕ) → one ≡ old ++ x → two ≡ one ++ y → OnOk r (new ≡ two ++ z) → OnOk r (new ≡ old ++ (x ++ y ++ z))
joined_three r old one two new x y z a b h = joined r old two new (x ++ y) z (two_parts old one two x y a b) h

-- two numbers, one after the other
around_twice : (a b e : List ℕ) (n m : ℕ) → (a ++ decimal n ++ b) ++ (decimal m ++ e) ≡ (a ++ decimal n) ++ (b ++ decimal m ++ e)
around_twice a b e n m =
    append_assoc (a ++ decimal n) b (decimal m ++ e) ∙ ap (λ (t : List ℕ). (a ++ decimal n) ++ t) (sym (append_assoc b (decimal m) e))

pub joined_around : {A E : Type 0} (r : Result A E) (old mid new a b e : List ℕ) (n m : ℕ) → mid ≡ old ++ around a n b → OnOk r (new ≡ mid ++ around [] m e)
    → OnOk r (new ≡ old ++ around a n (around b m e))
joined_around r old mid new a b e n m first h =
    on_ok r (new ≡ mid ++ around [] m e) (new ≡ old ++ around a n (around b m e))
    (λ c. two_parts old mid new (a ++ decimal n ++ b) (decimal m ++ e) first c ∙ ap (λ (t : List ℕ). old ++ t) (around_twice a b e n m)) h
