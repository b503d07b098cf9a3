use Rattle.std.proofs.Common.{◌≡◌, ◌<◌, ◌+◌, ℕ, Bool, true, false, cond, ltb, List, [], ◌∷◌, ◌++◌, IsAscii, refl, sym, ◌∙◌, subst, arith}
use Rattle.std.proofs.lemmas.Str.{IsAscii-append, IsUtf8-from_ascii}
use Rattle.std.proofs.lemmas.Str.Ascii.{IsAscii-nil, IsAscii-cons}
use Rattle.algorithm_texts.specs.Drafts.{element_letters, index_letters}
use Rattle.algorithm_texts.proofs.rows.element_name.Goals as goal

index_at : (k : ℕ) (b : Bool) → ltb k 10 ≡ b → k < 20 → IsAscii (cond b ((48 + k) ∷ []) (49 ∷ ((38 + k) ∷ [])))
index_at k true e few = IsAscii-cons (48 + k) [] (omega (arith, few)) IsAscii-nil
index_at k false e few = IsAscii-cons 49 ((38 + k) ∷ []) (omega arith) (IsAscii-cons (38 + k) [] (omega (arith, few)) IsAscii-nil)

letters_ascii : (name : List ℕ) (k : ℕ) → IsAscii name → k < 20 → IsAscii (element_letters name k)
letters_ascii name k ascii few =
    IsAscii-append name (91 ∷ (index_letters k ++ (93 ∷ []))) ascii
    (IsAscii-cons 91 (index_letters k ++ (93 ∷ [])) (omega arith)
    (IsAscii-append (index_letters k) (93 ∷ []) (index_at k (ltb k 10) refl few) (IsAscii-cons 93 [] (omega arith) IsAscii-nil)))

pub returns-clause-ok : goal.returns-clause-ok
returns-clause-ok c =
    let is : c.as_slice.result.now ≡ element_letters c.args.name.now c.args.index = c.as_slice.ensures.value ∙ c.in_ok-letters.ensures.ok in
    c.in_ok-from_utf8_lossy.ensures.ok
    (IsUtf8-from_ascii c.as_slice.result.now (subst IsAscii (sym is) (letters_ascii c.args.name.now c.args.index c.requires.ascii c.requires.few)))
    ∙ is
