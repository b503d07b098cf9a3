-- What is read of a never claim: one fact more, one token more, and all of it.
use Rattle.std.proofs.Common.{◌≡◌, ℕ, ◌<◌, ◌≤◌, ◌/◌, ◌%◌, ◌+◌, Bool, false, if◌then◌else◌, List, [], ◌∷◌, ◌++◌, length, drop, slice_get, Option, Some, None, refl, sym, ap, ◌∙◌, subst}
use Rattle.std.specs.List.{list_any}
use Rattle.std.proofs.lemmas.Bool.{lt-ltb, le-ltb}
use Rattle.std.proofs.lemmas.Option.{same_Some}
use Rattle.algorithms.specs.declared.fault.ReadFault.{ReadFault}
use Rattle.algorithm_texts.specs.declared.tokens.Token.{Token}
use Rattle.algorithm_texts.specs.declared.tokens.Token.TheVariants.{Word}
use Rattle.algorithm_texts.specs.Parts.{Formula, ◌>>=◌}
use Rattle.algorithm_texts.specs.Fronts.{is_me}
use Rattle.algorithm_texts.specs.Drafts.{Drafted, FactForm}
use Rattle.algorithm_texts.specs.LineFaults.{fact_fault, facts_fault, fault_from}
use Rattle.algorithm_texts.specs.LineDrafts.{scope_in, with_names}
use Rattle.algorithm_texts.specs.NeverClaims.{FactsRead, without_rows, begins_test, fact_letters, no_facts, read_claim, read_claimed_condition, read_fact, read_facts, read_never, read_processes, with_claim, with_fact, with_facts_read}

abbrev one_more_fact : FactForm → List Token → FactsRead → FactsRead
one_more_fact fact tokens r =
    record {
      tokens = Word (fact_letters (length r.names)) ∷ tokens;
      facts = r.facts ++ fact ∷ [];
      names = r.names ++ fact_letters (length r.names) ∷ [];
      labels = r.labels;
    }

-- where there is a name left, the fact is added
pub fact_made : (fact : FactForm) (tokens : List Token) (r now : FactsRead) → length r.names < 64 → now.tokens ≡ Word (fact_letters (length r.names)) ∷ tokens → now.facts ≡ r.facts ++ fact ∷ []
    → now.names ≡ r.names ++ fact_letters (length r.names) ∷ [] → now.labels ≡ r.labels → with_fact fact tokens r ≡ Some now
fact_made fact tokens r now few t f n l =
    ap (λ (b : Bool). if b then Some (one_more_fact fact tokens r) else None) (lt-ltb (length r.names) 64 few)
    ∙ sym (λ i. Some (record { tokens = t i; facts = f i; names = n i; labels = l i }))

pub fact_refused : (fact : FactForm) (tokens : List Token) (r : FactsRead) → 64 ≤ length r.names → with_fact fact tokens r ≡ None
fact_refused fact tokens r many = ap (λ (b : Bool). if b then Some (one_more_fact fact tokens r) else None) (le-ltb (length r.names) 64 many)

-- the tokens before the first one are those that are read before it
pub facts_step : (d : Drafted) (r : FactsRead) (names : Bool) (tokens : List Token) (token : Token) → slice_get tokens 0 ≡ Some token
    → read_facts d r names tokens ≡ (read_facts d r (begins_test token) (drop 1 tokens) >>= read_fact d names token)
facts_step d r names [] token e = absurd (cc)
facts_step d r names (x ∷ xs) token e = ap (λ (t : Token). read_facts d r (begins_test t) xs >>= read_fact d names t) (same_Some x token e)

pub facts_none : (d : Drafted) (r : FactsRead) (names : Bool) (tokens : List Token) → slice_get tokens 0 ≡ None → read_facts d r names tokens ≡ Some r
facts_none d r names [] e = refl
facts_none d r names (x ∷ xs) e = absurd (cc)

pub fault_step : (d : Drafted) (r : FactsRead) (tokens : List Token) (token : Token) → slice_get tokens 0 ≡ Some token
    → facts_fault d r tokens ≡ fault_from (read_facts d r (begins_test token) (drop 1 tokens)) (facts_fault d r (drop 1 tokens)) (fact_fault d token)
fault_step d r [] token e = absurd (cc)
fault_step d r (x ∷ xs) token e = ap (λ (t : Token). fault_from (read_facts d r (begins_test t) xs) (facts_fault d r xs) (fact_fault d t)) (same_Some x token e)

-- ---- all of a claim

-- its facts, and then its condition
pub claim_made : (d now : Drafted) (start r : FactsRead) (tokens : List Token) (condition : Formula) → list_any is_me tokens ≡ false → start ≡ no_facts d
    → read_facts d start false tokens ≡ Some r → now ≡ with_facts_read r d → read_claimed_condition now r ≡ Some condition → read_claim d tokens ≡ Some (r, condition)
claim_made d now start r tokens condition free begun facts kept made =
    ap (λ (b : Bool). (if b then None else read_facts d (no_facts d) false tokens) >>= (λ x. read_claimed_condition d x >>= (λ y. Some (x, y)))) free
    ∙ ap (λ (o : Option FactsRead). o >>= (λ x. read_claimed_condition d x >>= (λ y. Some (x, y)))) (subst (λ (s : FactsRead). read_facts d s false tokens ≡ Some r) begun facts)
    ∙ ap (λ (o : Option Formula). o >>= (λ y. Some (r, y))) (subst (λ (n : Drafted). read_claimed_condition n r ≡ Some condition) kept made)

-- its processes, and then all else
pub never_made : (d now : Drafted) (tokens rest : List Token) (names : List (List ℕ)) (r : FactsRead) (condition : Formula) → read_processes (scope_in (without_rows d)) tokens ≡ Some (names, rest)
    → read_claim (with_names names (without_rows d)) rest ≡ Some (r, condition) → now ≡ with_claim (length names) r condition d → read_never d tokens ≡ Some now
never_made d now tokens rest names r condition processes claim made =
    ap (λ (o : Option (List (List ℕ) × List Token)). o >>= (λ x. read_claim (with_names x.0 (without_rows d)) x.1 >>= (λ y. Some (with_claim (length x.0) y.0 y.1 d)))) processes
    ∙ ap (λ (o : Option (FactsRead × Formula)). o >>= (λ y. Some (with_claim (length names) y.0 y.1 d))) claim
    ∙ ap (λ (x : Drafted). Some x) (sym made)
