-- The lines of a schedule at the front of a text, except those of steps.
use Rattle.std.proofs.Common.{◌≡◌, ℕ, List, [], ◌∷◌, ◌++◌, sym, ap, ◌∙◌, append_assoc, codes}
use Rattle.schedule.proofs.LexerCommon.{decimal, Start, words_of_line, line_of, spaced_numbers}
use Rattle.rmeworld.specs.declared.call.Call.TheVariants as calls
use Rattle.schedule.proofs.DeedTokens.{before_end, message, message_is}

pub append_line : (p seq : ℕ) (v rest text value end after : List ℕ) → rest ≡ 32 ∷ text → text ≡ decimal seq ++ value → value ≡ spaced_numbers v ++ end → end ≡ 10 ∷ after
    → line_of (words_of_line (Start p (calls.Append seq v))) ++ after ≡ codes "append" ++ 32 ∷ (decimal p ++ rest)
append_line p seq v rest text value end after a b c d =
    let tail : 32 ∷ (message seq v ++ (10 ∷ after)) ≡ rest = ap (λ (t : List ℕ). 32 ∷ t) (message_is seq v text value end after b c d) ∙ sym a in
    ap (λ (t : List ℕ). codes "append " ++ t) (append_assoc (decimal p ++ (32 ∷ message seq v)) (10 ∷ []) after ∙ before_end p (message seq v) rest after tail)

pub get_line : (p i : ℕ) (rest place end after : List ℕ) → rest ≡ 32 ∷ place → place ≡ decimal i ++ end → end ≡ 10 ∷ after
    → line_of (words_of_line (Start p (calls.Get i))) ++ after ≡ codes "get" ++ 32 ∷ (decimal p ++ rest)
get_line p i rest place end after a b c =
    let tail : 32 ∷ (decimal i ++ (10 ∷ after)) ≡ rest = ap (λ (t : List ℕ). 32 ∷ t) (ap (λ (t : List ℕ). decimal i ++ t) (sym c) ∙ sym b) ∙ sym a in
    ap (λ (t : List ℕ). codes "get " ++ t) (append_assoc (decimal p ++ (32 ∷ decimal i)) (10 ∷ []) after ∙ before_end p (decimal i) rest after tail)

pub put_line : (p i v : ℕ) (rest place more word end after : List ℕ) → rest ≡ 32 ∷ place → place ≡ decimal i ++ more → more ≡ 32 ∷ word → word ≡ decimal v ++ end → end ≡ 10 ∷ after
    → line_of (words_of_line (Start p (calls.Put i v))) ++ after ≡ codes "put" ++ 32 ∷ (decimal p ++ rest)
put_line p i v rest place more word end after a b c d e =
    let tail : 32 ∷ (decimal v ++ (10 ∷ after)) ≡ more = ap (λ (t : List ℕ). 32 ∷ t) (ap (λ (t : List ℕ). decimal v ++ t) (sym e) ∙ sym d) ∙ sym c in
    let placed : 32 ∷ ((decimal i ++ (32 ∷ decimal v)) ++ (10 ∷ after)) ≡ rest = ap (λ (t : List ℕ). 32 ∷ t) (before_end i (decimal v) more after tail ∙ sym b) ∙ sym a in
    ap (λ (t : List ℕ). codes "put " ++ t) (append_assoc (decimal p ++ (32 ∷ (decimal i ++ (32 ∷ decimal v)))) (10 ∷ []) after ∙ before_end p (decimal i ++ (32 ∷ decimal v)) rest after placed)
