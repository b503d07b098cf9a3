-- What the grammar says of tokens is what is read from them.
use Rattle.std.proofs.Common.{◌≡◌, ◌⊎◌, inl, inr, ℕ, ◌+◌, ◌<◌, ◌≤◌, Bool, true, false, cond, leb, List, [], ◌∷◌, ◌++◌, Option, Some, None, is_some, position, slice_get, ◌||◌, refl, sym, ap, ◌∙◌, subst, codes, bytes_eq, arith}
use Rattle.std.proofs.lemmas.Bool.{lt-leb, le-leb, leb-true, lt-ltb}
use Rattle.std.proofs.lemmas.Slice.Eq.{bytes_eq-Decides}
use Rattle.algorithm_texts.specs.declared.tokens.Sign.TheVariants.{Open, Close, OpenIndex, CloseIndex, Comma}
use Rattle.algorithm_texts.specs.declared.tokens.Token.{Token}
use Rattle.algorithm_texts.specs.declared.tokens.Token.TheVariants.{Number as NumberToken, Word, Sign}
use Rattle.algorithm_texts.specs.declared.operands.Bracket.{Bracket}
use Rattle.algorithm_texts.specs.declared.operands.Bracket.TheVariants.{Plain, Not, Max, Min}
use Rattle.algorithm_texts.specs.declared.operands.Joint.{Joint}
use Rattle.algorithm_texts.specs.declared.operands.Joint.TheVariants.{Operator as ByOperator, Comparison as ByComparison, And, Or}
use Rattle.algorithm_texts.specs.Parts.{Term, OperandPart, Value, Number, Me, Procs, Limit, join_of, enclosed_part, enclosed_two, ◌>>=◌}
use Rattle.algorithm_texts.specs.Grammar.{Scope, DraftRow, Tree, Numeral, Name, Indexed, One, Two, Between, head_tokens, joint_token, tokens_of_tree, strength, Binds, depth, is_among, is_row_of, is_row_name, row_named, row_read, element_part, constant_named, named_part, word_value, meaning, Says}
use Rattle.algorithm_texts.specs.Stacks.{Waits, Joining, Opened, Halfway, Indexing, Begins, Follows, OperandReading, reading, brackets, stack_reduction, head_of, reading_after_word, reading_after_name, reading_after_value, enclosing, closes, closes_index, halves, joining, reading_after_part, turn, run, sole_part, part_at_end, read_part}

-- ---- what is waiting

-- no operator that waits last is as strong as this
abbrev pub Ends : ℕ → List Waits → Type 0
Ends n [] = Unit {0}
Ends n (Joining part joint ∷ ws) = strength joint < n
Ends n (Opened head ∷ ws) = Unit {0}
Ends n (Halfway head part ∷ ws) = Unit {0}
Ends n (Indexing first size ∷ ws) = Unit {0}

pub ends_more : (n m : ℕ) (ws : List Waits) → n ≤ m → Ends n ws → Ends m ws
ends_more n m [] le h = tt
ends_more n m (Joining part joint ∷ ws) le h = omega arith
ends_more n m (Opened head ∷ ws) le h = tt
ends_more n m (Halfway head part ∷ ws) le h = tt
ends_more n m (Indexing first size ∷ ws) le h = tt

pub stays : (n : ℕ) (ws : List Waits) (part : OperandPart) → Ends n ws → stack_reduction n ws part ≡ Some (ws, part)
stays n [] part h = refl
stays n (Joining left joint ∷ ws) part h = rw (lt-leb n (strength joint) h) refl
stays n (Opened head ∷ ws) part h = refl
stays n (Halfway head first ∷ ws) part h = refl
stays n (Indexing first size ∷ ws) part h = refl

-- what is joined down to the stronger operators can be joined on
abbrev again : ℕ → List Waits × OperandPart → Option (List Waits × OperandPart)
again n x = stack_reduction n x.0 x.1

twice_joined : (n m : ℕ) (ws : List Waits) (o : Option OperandPart) → ((q : OperandPart) → (stack_reduction m ws q >>= again n) ≡ stack_reduction n ws q)
    → ((o >>= stack_reduction m ws) >>= again n) ≡ (o >>= stack_reduction n ws)
twice_joined n m ws None h = refl
twice_joined n m ws (Some q) h = h q

twice_at : (n m : ℕ) (left : OperandPart) (joint : Joint) (ws : List Waits) (part : OperandPart) (b : Bool) → leb m (strength joint) ≡ b → n ≤ m
    → ((o : Option OperandPart) → ((o >>= stack_reduction m ws) >>= again n) ≡ (o >>= stack_reduction n ws))
    → (cond b (join_of joint left part >>= stack_reduction m ws) (Some (Joining left joint ∷ ws, part)) >>= again n) ≡ stack_reduction n (Joining left joint ∷ ws) part
twice_at n m left joint ws part true e le h =
    let weaker : leb n (strength joint) ≡ true = le-leb n (strength joint) (omega (arith, leb-true m (strength joint) e)) in
    rw weaker (h (join_of joint left part))
twice_at n m left joint ws part false e le h = refl

pub twice : (n m : ℕ) (ws : List Waits) (part : OperandPart) → n ≤ m → (stack_reduction m ws part >>= again n) ≡ stack_reduction n ws part
twice n m [] part le = refl
twice n m (Joining left joint ∷ ws) part le =
    twice_at n m left joint ws part (leb m (strength joint)) refl le (λ o. twice_joined n m ws o (λ q. twice n m ws q le))
twice n m (Opened head ∷ ws) part le = refl
twice n m (Halfway head first ∷ ws) part le = refl
twice n m (Indexing first size ∷ ws) part le = refl

-- ---- a list of tokens after another

append_bind : (scope : Scope) (xs ys : List Token) (o : Option OperandReading) → ((r : OperandReading) → run scope (xs ++ ys) r ≡ (run scope xs r >>= run scope ys))
    → (o >>= run scope (xs ++ ys)) ≡ ((o >>= run scope xs) >>= run scope ys)
append_bind scope xs ys None h = refl
append_bind scope xs ys (Some r) h = h r

pub run_append : (scope : Scope) (xs ys : List Token) (r : OperandReading) → run scope (xs ++ ys) r ≡ (run scope xs r >>= run scope ys)
run_append scope [] ys r = refl
run_append scope (x ∷ xs) ys r = append_bind scope xs ys (turn scope r x) (λ s. run_append scope xs ys s)

-- ---- a tree is read

-- the words before brackets are words of the format, and so are its numbers
pub record KnowsHeads (scope : Scope) : Type 0 where
  pub not_word : is_among scope.reserved (codes "not") ≡ true
  pub max_word : is_among scope.reserved (codes "max") ≡ true
  pub min_word : is_among scope.reserved (codes "min") ≡ true
  pub me_word : is_among scope.reserved (codes "me") ≡ true
  pub procs_word : is_among scope.reserved (codes "procs") ≡ true
  pub limit_word : is_among scope.reserved (codes "limit") ≡ true

-- after these tokens the part is read, up to joining it with operators at least this strong
pub record Comes (scope : Scope) (n : ℕ) (ws : List Waits) (tokens : List Token) (names : List (List ℕ)) (part : OperandPart) (after : List (List ℕ)) : Type 0 where
  pub waiting : List Waits
  pub last : OperandPart
  pub runs : run scope tokens (reading names ws Begins) ≡ Some (reading after waiting (Follows last))
  pub reduces : stack_reduction n waiting last ≡ Some (ws, part)

abbrev pub Reads : Scope → ℕ → List Waits → List Token → List (List ℕ) → Option (OperandPart × List (List ℕ)) → Type 0
Reads scope n ws tokens names None = Unit {0}
Reads scope n ws tokens names (Some x) = Comes scope n ws tokens names x.0 x.1

-- a part that is one token, or is in brackets
at_once : (scope : Scope) (n : ℕ) (ws : List Waits) (tokens : List Token) (names : List (List ℕ)) (part : OperandPart) (after : List (List ℕ)) → Ends n ws
    → run scope tokens (reading names ws Begins) ≡ Some (reading after ws (Follows part)) → Comes scope n ws tokens names part after
at_once scope n ws tokens names part after h e = record { waiting = ws; last = part; runs = e; reduces = stays n ws part h }

valued_so : (scope : Scope) (n : ℕ) (ws : List Waits) (word : List ℕ) (names : List (List ℕ)) (o : Option (OperandPart × List (List ℕ))) → Ends n ws → word_value scope names word ≡ o → head_of word ≡ None → row_read scope word ≡ None
    → Reads scope n ws (Word word ∷ []) names o
valued_so scope n ws word names None h e plain none = tt
valued_so scope n ws word names (Some x) h e plain none =
    at_once scope n ws (Word word ∷ []) names x.0 x.1 h
    (ap (λ o. reading_after_word scope names ws word o >>= run scope []) plain
    ∙ ap (λ r. reading_after_name scope names ws word r >>= run scope []) none
    ∙ ap (λ o. reading_after_value ws o >>= run scope []) e)

not_value : (scope : Scope) → KnowsHeads scope → (names : List (List ℕ)) → word_value scope names (codes "not") ≡ None
not_value scope h names = rw h.not_word refl

max_value : (scope : Scope) → KnowsHeads scope → (names : List (List ℕ)) → word_value scope names (codes "max") ≡ None
max_value scope h names = rw h.max_word refl

min_value : (scope : Scope) → KnowsHeads scope → (names : List (List ℕ)) → word_value scope names (codes "min") ≡ None
min_value scope h names = rw h.min_word refl

pub is_word : (word other : List ℕ) → bytes_eq word other ≡ true → word ≡ other
is_word word other e = (bytes_eq-Decides word other).0 e

-- a word before brackets is no value
no_value : (scope : Scope) → KnowsHeads scope → (names : List (List ℕ)) (word : List ℕ) (a b c : Bool) → bytes_eq word (codes "not") ≡ a → bytes_eq word (codes "max") ≡ b → bytes_eq word (codes "min") ≡ c
    → (word_value scope names word ≡ None) ⊎ (head_of word ≡ None)
no_value scope h names word true b c x y z = inl (ap (word_value scope names) (is_word word (codes "not") x) ∙ not_value scope h names)
no_value scope h names word false true c x y z = inl (ap (word_value scope names) (is_word word (codes "max") y) ∙ max_value scope h names)
no_value scope h names word false false true x y z = inl (ap (word_value scope names) (is_word word (codes "min") z) ∙ min_value scope h names)
no_value scope h names word false false false x y z = inr (rw (x, y, z) refl)

-- ---- names of rows

-- a word of the format names no row
no_row : (scope : Scope) (word other : List ℕ) (row : ℕ × Term) → is_among scope.reserved other ≡ true → row_read scope word ≡ Some row → word ≡ other → ⊥
no_row scope word other row reserved is same =
    let none : row_read scope other ≡ None = ap (λ b. cond b None (row_named scope.rows other)) reserved in
    let h : None ≡ Some row = sym none ∙ ap (row_read scope) (sym same) ∙ is in
    cc

other_word : (scope : Scope) (word other : List ℕ) (row : ℕ × Term) (b : Bool) → is_among scope.reserved other ≡ true → row_read scope word ≡ Some row → bytes_eq word other ≡ b → b ≡ false
other_word scope word other row true reserved is e = absurd (no_row scope word other row reserved is (is_word word other e))
other_word scope word other row false reserved is e = refl

no_head : (scope : Scope) → KnowsHeads scope → (word : List ℕ) (row : ℕ × Term) → row_read scope word ≡ Some row → head_of word ≡ None
no_head scope k word row is =
    let a = other_word scope word (codes "not") row (bytes_eq word (codes "not")) k.not_word is refl in
    let b = other_word scope word (codes "max") row (bytes_eq word (codes "max")) k.max_word is refl in
    let c = other_word scope word (codes "min") row (bytes_eq word (codes "min")) k.min_word is refl in
    rw (a, b, c) refl

row_there : (rows : List DraftRow) (o : Option ℕ) (row : ℕ × Term) → (o >>= λ k. (slice_get rows k >>= λ r. Some (r.first, r.size))) ≡ Some row → is_some o ≡ true
row_there rows None row e = absurd (cc)
row_there rows (Some k) row e = refl

row_among : (scope : Scope) (word : List ℕ) (row : ℕ × Term) (b : Bool) → cond b None (row_named scope.rows word) ≡ Some row → is_row_name scope.rows word ≡ true
row_among scope word row true e = absurd (cc)
row_among scope word row false e = row_there scope.rows (position (is_row_of word) scope.rows) row e

or_last : (a b c : Bool) → c ≡ true → a || (b || c) ≡ true
or_last true b c e = refl
or_last false true c e = refl
or_last false false c e = e

value_at : (a b c d : Bool) (x y z w : Option (OperandPart × List (List ℕ))) → a ≡ false → b ≡ false → c ≡ false → d ≡ true → cond a x (cond b y (cond c z (cond d None w))) ≡ None
value_at a b c d x y z w p q r s =
    ap (λ t. cond t x (cond b y (cond c z (cond d None w)))) p ∙ ap (λ t. cond t y (cond c z (cond d None w))) q ∙ ap (λ t. cond t z (cond d None w)) r ∙ ap (λ t. cond t None w) s

-- the name of a row alone is no value
row_value : (scope : Scope) → KnowsHeads scope → (names : List (List ℕ)) (word : List ℕ) (row : ℕ × Term) → row_read scope word ≡ Some row → word_value scope names word ≡ None
row_value scope k names word row is =
    let a = other_word scope word (codes "me") row (bytes_eq word (codes "me")) k.me_word is refl in
    let b = other_word scope word (codes "procs") row (bytes_eq word (codes "procs")) k.procs_word is refl in
    let c = other_word scope word (codes "limit") row (bytes_eq word (codes "limit")) k.limit_word is refl in
    let d = or_last (is_among scope.reserved word) (is_among scope.declared word) (is_row_name scope.rows word) (row_among scope word row (is_among scope.reserved word) is) in
    value_at (bytes_eq word (codes "me")) (bytes_eq word (codes "procs")) (bytes_eq word (codes "limit")) (is_among scope.reserved word || (is_among scope.declared word || is_row_name scope.rows word))
    (Some (Value Me, names)) (Some (Value Procs, names)) (Some (Value Limit, names)) (named_part scope names word (constant_named scope.constants word)) a b c d

named_so : (scope : Scope) → KnowsHeads scope → (n : ℕ) (ws : List Waits) (word : List ℕ) (names : List (List ℕ)) (r : Option (ℕ × Term)) → Ends n ws → head_of word ≡ None → row_read scope word ≡ r
    → Reads scope n ws (Word word ∷ []) names (word_value scope names word)
named_so scope k n ws word names None h plain is = valued_so scope n ws word names (word_value scope names word) h refl plain is
named_so scope k n ws word names (Some row) h plain is = subst (Reads scope n ws (Word word ∷ []) names) (sym (row_value scope k names word row is)) tt

name_read : (scope : Scope) → KnowsHeads scope → (n : ℕ) (ws : List Waits) (word : List ℕ) (names : List (List ℕ)) → Ends n ws → (word_value scope names word ≡ None) ⊎ (head_of word ≡ None)
    → Reads scope n ws (Word word ∷ []) names (word_value scope names word)
name_read scope k n ws word names h (inl e) = subst (Reads scope n ws (Word word ∷ []) names) (sym e) tt
name_read scope k n ws word names h (inr e) = named_so scope k n ws word names (row_read scope word) h e refl

-- a bracket opens
opens : (scope : Scope) (head : Bracket) (names : List (List ℕ)) (ws : List Waits) (rest : List Token) → brackets ws < 16
    → run scope (head_tokens head ++ (Sign Open ∷ rest)) (reading names ws Begins) ≡ run scope rest (reading names (Opened head ∷ ws) Begins)
opens scope Plain names ws rest few = rw (lt-ltb (brackets ws) 16 few) refl
opens scope Not names ws rest few = rw (lt-ltb (brackets ws) 16 few) refl
opens scope Max names ws rest few = rw (lt-ltb (brackets ws) 16 few) refl
opens scope Min names ws rest few = rw (lt-ltb (brackets ws) 16 few) refl

-- a part comes, and then what follows it
after_part : (scope : Scope) (n : ℕ) (ws : List Waits) (tokens rest : List Token) (names : List (List ℕ)) (part : OperandPart) (after : List (List ℕ)) → (c : Comes scope n ws tokens names part after)
    → run scope (tokens ++ rest) (reading names ws Begins) ≡ run scope rest (reading after c.waiting (Follows c.last))
after_part scope n ws tokens rest names part after c = run_append scope tokens rest (reading names ws Begins) ∙ ap (λ o. o >>= run scope rest) c.runs

bind_run : (scope : Scope) (rest : List Token) (o p : Option OperandReading) → o ≡ p → (o >>= run scope rest) ≡ (p >>= run scope rest)
bind_run scope rest o p e = ap (λ x. x >>= run scope rest) e

one_closed : (scope : Scope) (n : ℕ) (ws : List Waits) (head : Bracket) (tree : Tree) (names : List (List ℕ)) (part : OperandPart) (after : List (List ℕ)) (o : Option OperandPart) → brackets ws < 16 → Ends n ws
    → enclosed_part head part ≡ o → Comes scope 1 (Opened head ∷ ws) (tokens_of_tree tree) names part after
    → Reads scope n ws (tokens_of_tree (One head tree)) names (o >>= λ q. Some (q, after))
one_closed scope n ws head tree names part after None few h e c = tt
one_closed scope n ws head tree names part after (Some q) few h e c =
    at_once scope n ws (tokens_of_tree (One head tree)) names q after h
    (opens scope head names ws (tokens_of_tree tree ++ (Sign Close ∷ [])) few
    ∙ after_part scope 1 (Opened head ∷ ws) (tokens_of_tree tree) (Sign Close ∷ []) names part after c
    ∙ ap (λ o. (o >>= λ r. closes after r.0 r.1) >>= run scope []) c.reduces
    ∙ ap (λ o. enclosing after ws o >>= run scope []) e)

one_read : (scope : Scope) (n : ℕ) (ws : List Waits) (head : Bracket) (tree : Tree) (names : List (List ℕ)) (o : Option (OperandPart × List (List ℕ))) → brackets ws < 16 → Ends n ws
    → Reads scope 1 (Opened head ∷ ws) (tokens_of_tree tree) names o
    → Reads scope n ws (tokens_of_tree (One head tree)) names (o >>= λ x. (enclosed_part head x.0 >>= λ q. Some (q, x.1)))
one_read scope n ws head tree names None few h c = tt
one_read scope n ws head tree names (Some x) few h c = one_closed scope n ws head tree names x.0 x.1 (enclosed_part head x.0) few h refl c

-- the index of a row opens
row_opens : (scope : Scope) (names : List (List ℕ)) (ws : List Waits) (word : List ℕ) (row : ℕ × Term) (rest : List Token) → brackets ws < 16 → head_of word ≡ None → row_read scope word ≡ Some row
    → run scope (Word word ∷ (Sign OpenIndex ∷ rest)) (reading names ws Begins) ≡ run scope rest (reading names (Indexing row.0 row.1 ∷ ws) Begins)
row_opens scope names ws word row rest few plain is =
    ap (λ o. reading_after_word scope names ws word o >>= run scope (Sign OpenIndex ∷ rest)) plain
    ∙ ap (λ r. reading_after_name scope names ws word r >>= run scope (Sign OpenIndex ∷ rest)) is
    ∙ rw (lt-ltb (brackets ws) 16 few) refl

indexed_closed : (scope : Scope) (n : ℕ) (ws : List Waits) (word : List ℕ) (row : ℕ × Term) (tree : Tree) (names : List (List ℕ)) (part : OperandPart) (after : List (List ℕ)) (o : Option OperandPart) → brackets ws < 16 → Ends n ws
    → head_of word ≡ None → row_read scope word ≡ Some row → element_part row.0 row.1 part ≡ o → Comes scope 1 (Indexing row.0 row.1 ∷ ws) (tokens_of_tree tree) names part after
    → Reads scope n ws (tokens_of_tree (Indexed word tree)) names (o >>= λ q. Some (q, after))
indexed_closed scope n ws word row tree names part after None few h plain is e c = tt
indexed_closed scope n ws word row tree names part after (Some q) few h plain is e c =
    at_once scope n ws (tokens_of_tree (Indexed word tree)) names q after h
    (row_opens scope names ws word row (tokens_of_tree tree ++ (Sign CloseIndex ∷ [])) few plain is
    ∙ after_part scope 1 (Indexing row.0 row.1 ∷ ws) (tokens_of_tree tree) (Sign CloseIndex ∷ []) names part after c
    ∙ ap (λ o. (o >>= λ r. closes_index after r.0 r.1) >>= run scope []) c.reduces
    ∙ ap (λ o. enclosing after ws o >>= run scope []) e)

indexed_read : (scope : Scope) (n : ℕ) (ws : List Waits) (word : List ℕ) (row : ℕ × Term) (tree : Tree) (names : List (List ℕ)) (o : Option (OperandPart × List (List ℕ))) → brackets ws < 16 → Ends n ws
    → head_of word ≡ None → row_read scope word ≡ Some row → Reads scope 1 (Indexing row.0 row.1 ∷ ws) (tokens_of_tree tree) names o
    → Reads scope n ws (tokens_of_tree (Indexed word tree)) names (o >>= λ x. (element_part row.0 row.1 x.0 >>= λ q. Some (q, x.1)))
indexed_read scope n ws word row tree names None few h plain is c = tt
indexed_read scope n ws word row tree names (Some x) few h plain is c = indexed_closed scope n ws word row tree names x.0 x.1 (element_part row.0 row.1 x.0) few h plain is refl c

indexed_by : (scope : Scope) → KnowsHeads scope → (n : ℕ) (ws : List Waits) (word : List ℕ) (tree : Tree) (names : List (List ℕ)) (r : Option (ℕ × Term)) → row_read scope word ≡ r → brackets ws < 16 → Ends n ws
    → ((row : ℕ × Term) → Reads scope 1 (Indexing row.0 row.1 ∷ ws) (tokens_of_tree tree) names (meaning scope tree names))
    → Reads scope n ws (tokens_of_tree (Indexed word tree)) names (r >>= λ row. (meaning scope tree names >>= λ x. (element_part row.0 row.1 x.0 >>= λ q. Some (q, x.1))))
indexed_by scope k n ws word tree names None is few h c = tt
indexed_by scope k n ws word tree names (Some row) is few h c = indexed_read scope n ws word row tree names (meaning scope tree names) few h (no_head scope k word row is) is (c row)

-- the bracket takes a comma
abbrev Halves : Bracket → Type 0
Halves head = (names : List (List ℕ)) (ws : List Waits) (part : OperandPart) → halves names (Opened head ∷ ws) part ≡ Some (reading names (Halfway head part ∷ ws) Begins)

two_closed : (scope : Scope) (n : ℕ) (ws : List Waits) (head : Bracket) (a b : Tree) (names mid : List (List ℕ)) (first second : OperandPart) (after : List (List ℕ)) (o : Option OperandPart) → Halves head
    → brackets ws < 16 → Ends n ws → enclosed_two head first second ≡ o
    → Comes scope 1 (Opened head ∷ ws) (tokens_of_tree a) names first mid → Comes scope 1 (Halfway head first ∷ ws) (tokens_of_tree b) mid second after
    → Reads scope n ws (tokens_of_tree (Two head a b)) names (o >>= λ q. Some (q, after))
two_closed scope n ws head a b names mid first second after None takes few h e c d = tt
two_closed scope n ws head a b names mid first second after (Some q) takes few h e c d =
    at_once scope n ws (tokens_of_tree (Two head a b)) names q after h
    (opens scope head names ws (tokens_of_tree a ++ (Sign Comma ∷ (tokens_of_tree b ++ (Sign Close ∷ [])))) few
    ∙ after_part scope 1 (Opened head ∷ ws) (tokens_of_tree a) (Sign Comma ∷ (tokens_of_tree b ++ (Sign Close ∷ []))) names first mid c
    ∙ ap (λ o. (o >>= λ r. halves mid r.0 r.1) >>= run scope (tokens_of_tree b ++ (Sign Close ∷ []))) c.reduces
    ∙ bind_run scope (tokens_of_tree b ++ (Sign Close ∷ [])) _ _ (takes mid ws first)
    ∙ after_part scope 1 (Halfway head first ∷ ws) (tokens_of_tree b) (Sign Close ∷ []) mid second after d
    ∙ ap (λ o. (o >>= λ r. closes after r.0 r.1) >>= run scope []) d.reduces
    ∙ ap (λ o. enclosing after ws o >>= run scope []) e)

two_second : (scope : Scope) (n : ℕ) (ws : List Waits) (head : Bracket) (a b : Tree) (names mid : List (List ℕ)) (first : OperandPart) (o : Option (OperandPart × List (List ℕ))) → Halves head → brackets ws < 16 → Ends n ws
    → Comes scope 1 (Opened head ∷ ws) (tokens_of_tree a) names first mid → Reads scope 1 (Halfway head first ∷ ws) (tokens_of_tree b) mid o
    → Reads scope n ws (tokens_of_tree (Two head a b)) names (o >>= λ y. (enclosed_two head first y.0 >>= λ q. Some (q, y.1)))
two_second scope n ws head a b names mid first None takes few h c d = tt
two_second scope n ws head a b names mid first (Some y) takes few h c d = two_closed scope n ws head a b names mid first y.0 y.1 (enclosed_two head first y.0) takes few h refl c d

two_read : (scope : Scope) (n : ℕ) (ws : List Waits) (head : Bracket) (a b : Tree) (names : List (List ℕ)) (o : Option (OperandPart × List (List ℕ))) → Halves head → brackets ws < 16 → Ends n ws
    → Reads scope 1 (Opened head ∷ ws) (tokens_of_tree a) names o
    → ((first : OperandPart) (mid : List (List ℕ)) → Reads scope 1 (Halfway head first ∷ ws) (tokens_of_tree b) mid (meaning scope b mid))
    → Reads scope n ws (tokens_of_tree (Two head a b)) names (o >>= λ x. (meaning scope b x.1 >>= λ y. (enclosed_two head x.0 y.0 >>= λ q. Some (q, y.1))))
two_read scope n ws head a b names None takes few h c d = tt
two_read scope n ws head a b names (Some x) takes few h c d = two_second scope n ws head a b names x.1 x.0 (meaning scope b x.1) takes few h c (d x.0 x.1)

-- `not` takes one part alone
two_of_not : (scope : Scope) (n : ℕ) (ws : List Waits) (a b : Tree) (names : List (List ℕ)) (tokens : List Token) (o : Option (OperandPart × List (List ℕ)))
    → Reads scope n ws tokens names (o >>= λ x. (meaning scope b x.1 >>= λ y. (enclosed_two Not x.0 y.0 >>= λ q. Some (q, y.1))))
two_of_not scope n ws a b names tokens None = tt
two_of_not scope n ws a b names tokens (Some x) = elim (meaning scope b x.1) as (λ (o : Option (OperandPart × List (List ℕ))). Reads scope n ws tokens names (o >>= λ y. (enclosed_two Not x.0 y.0 >>= λ q. Some (q, y.1)))) [ None ↦ tt | Some y ↦ tt ]

-- an operator after a part
at_joint : (names : List (List ℕ)) (ws : List Waits) (part : OperandPart) (joint : Joint) → reading_after_part names ws part (joint_token joint) ≡ joining names ws part (Some joint)
at_joint names ws part (ByOperator o) = refl
at_joint names ws part (ByComparison c) = refl
at_joint names ws part And = refl
at_joint names ws part Or = refl

between_joined : (scope : Scope) (n : ℕ) (ws : List Waits) (joint : Joint) (a b : Tree) (names mid : List (List ℕ)) (left right : OperandPart) (after : List (List ℕ)) (o : Option OperandPart) → n ≤ strength joint → Ends n ws
    → join_of joint left right ≡ o
    → Comes scope (strength joint) ws (tokens_of_tree a) names left mid → Comes scope (strength joint + 1) (Joining left joint ∷ ws) (tokens_of_tree b) mid right after
    → Reads scope n ws (tokens_of_tree (Between joint a b)) names (o >>= λ q. Some (q, after))
between_joined scope n ws joint a b names mid left right after None le h e c d = tt
between_joined scope n ws joint a b names mid left right after (Some q) le h e c d =
    let strong : leb n (strength joint) ≡ true = le-leb n (strength joint) le in
    let whole : stack_reduction n (Joining left joint ∷ ws) right ≡ Some (ws, q) = rw strong (ap (λ o. o >>= stack_reduction n ws) e ∙ stays n ws q h) in
    record {
      waiting = d.waiting;
      last = d.last;
      runs = after_part scope (strength joint) ws (tokens_of_tree a) (joint_token joint ∷ tokens_of_tree b) names left mid c
          ∙ bind_run scope (tokens_of_tree b) _ _ (at_joint mid c.waiting c.last joint)
          ∙ ap (λ o. (o >>= λ r. Some (reading mid (Joining r.1 joint ∷ r.0) Begins)) >>= run scope (tokens_of_tree b)) c.reduces
          ∙ d.runs;
      reduces = sym (twice n (strength joint + 1) d.waiting d.last (omega arith)) ∙ ap (λ o. o >>= again n) d.reduces ∙ whole;
    }

between_second : (scope : Scope) (n : ℕ) (ws : List Waits) (joint : Joint) (a b : Tree) (names mid : List (List ℕ)) (left : OperandPart) (o : Option (OperandPart × List (List ℕ))) → n ≤ strength joint → Ends n ws
    → Comes scope (strength joint) ws (tokens_of_tree a) names left mid → Reads scope (strength joint + 1) (Joining left joint ∷ ws) (tokens_of_tree b) mid o
    → Reads scope n ws (tokens_of_tree (Between joint a b)) names (o >>= λ y. (join_of joint left y.0 >>= λ q. Some (q, y.1)))
between_second scope n ws joint a b names mid left None le h c d = tt
between_second scope n ws joint a b names mid left (Some y) le h c d = between_joined scope n ws joint a b names mid left y.0 y.1 (join_of joint left y.0) le h refl c d

between_read : (scope : Scope) (n : ℕ) (ws : List Waits) (joint : Joint) (a b : Tree) (names : List (List ℕ)) (o : Option (OperandPart × List (List ℕ))) → n ≤ strength joint → Ends n ws
    → Reads scope (strength joint) ws (tokens_of_tree a) names o
    → ((left : OperandPart) (mid : List (List ℕ)) → Reads scope (strength joint + 1) (Joining left joint ∷ ws) (tokens_of_tree b) mid (meaning scope b mid))
    → Reads scope n ws (tokens_of_tree (Between joint a b)) names (o >>= λ x. (meaning scope b x.1 >>= λ y. (join_of joint x.0 y.0 >>= λ q. Some (q, y.1))))
between_read scope n ws joint a b names None le h c d = tt
between_read scope n ws joint a b names (Some x) le h c d = between_second scope n ws joint a b names x.1 x.0 (meaning scope b x.1) le h c (d x.0 x.1)

-- each tree that binds is read
pub tree_read : (scope : Scope) → KnowsHeads scope → (tree : Tree) (n : ℕ) (ws : List Waits) (names : List (List ℕ)) → Binds n tree → depth tree + brackets ws ≤ 16 → Ends n ws
    → Reads scope n ws (tokens_of_tree tree) names (meaning scope tree names)
tree_read scope k (Numeral m) n ws names binds few h = at_once scope n ws (NumberToken m ∷ []) names (Value (Number m)) names h refl
tree_read scope k (Name word) n ws names binds few h =
    name_read scope k n ws word names h (no_value scope k names word (bytes_eq word (codes "not")) (bytes_eq word (codes "max")) (bytes_eq word (codes "min")) refl refl refl)
tree_read scope k (Indexed word tree) n ws names binds few h =
    indexed_by scope k n ws word tree names (row_read scope word) refl (omega arith) h (λ row. tree_read scope k tree 1 (Indexing row.0 row.1 ∷ ws) names binds (omega arith) tt)
tree_read scope k (One head tree) n ws names binds few h =
    one_read scope n ws head tree names (meaning scope tree names) (omega arith) h (tree_read scope k tree 1 (Opened head ∷ ws) names binds (omega arith) tt)
tree_read scope k (Two Not a b) n ws names binds few h = two_of_not scope n ws a b names (tokens_of_tree (Two Not a b)) (meaning scope a names)
tree_read scope k (Two Plain a b) n ws names binds few h =
    two_read scope n ws Plain a b names (meaning scope a names) (λ ns us p. refl) (omega arith) h
    (tree_read scope k a 1 (Opened Plain ∷ ws) names binds.0 (omega arith) tt)
    (λ first mid. tree_read scope k b 1 (Halfway Plain first ∷ ws) mid binds.1 (omega arith) tt)
tree_read scope k (Two Max a b) n ws names binds few h =
    two_read scope n ws Max a b names (meaning scope a names) (λ ns us p. refl) (omega arith) h
    (tree_read scope k a 1 (Opened Max ∷ ws) names binds.0 (omega arith) tt)
    (λ first mid. tree_read scope k b 1 (Halfway Max first ∷ ws) mid binds.1 (omega arith) tt)
tree_read scope k (Two Min a b) n ws names binds few h =
    two_read scope n ws Min a b names (meaning scope a names) (λ ns us p. refl) (omega arith) h
    (tree_read scope k a 1 (Opened Min ∷ ws) names binds.0 (omega arith) tt)
    (λ first mid. tree_read scope k b 1 (Halfway Min first ∷ ws) mid binds.1 (omega arith) tt)
tree_read scope k (Between joint a b) n ws names binds few h =
    between_read scope n ws joint a b names (meaning scope a names) binds.0 h
    (tree_read scope k a (strength joint) ws names binds.1 (omega arith) (ends_more n (strength joint) ws binds.0 h))
    (λ left mid. tree_read scope k b (strength joint + 1) (Joining left joint ∷ ws) mid binds.2 (omega arith) (omega arith))

came_so : (scope : Scope) (tokens : List Token) (names : List (List ℕ)) (o : Option (OperandPart × List (List ℕ))) (part : OperandPart) (after : List (List ℕ)) → o ≡ Some (part, after)
    → Reads scope 1 [] tokens names o → Comes scope 1 [] tokens names part after
came_so scope tokens names o part after e h = subst (Reads scope 1 [] tokens names) e h

-- what the grammar says is read
pub complete : (scope : Scope) → KnowsHeads scope → (names : List (List ℕ)) (tokens : List Token) (part : OperandPart) (after : List (List ℕ)) → Says scope names tokens part after
    → read_part scope names tokens ≡ Some (part, after)
complete scope k names tokens part after s =
    let few : depth s.tree + brackets [] ≤ 16 = omega (arith, s.shallow) in
    let c = came_so scope (tokens_of_tree s.tree) names (meaning scope s.tree names) part after s.means (tree_read scope k s.tree 1 [] names s.binds few tt) in
    ap (read_part scope names) s.tokens_of
    ∙ ap (λ o. o >>= λ r. part_at_end r.names r.waiting r.next) c.runs
    ∙ ap (λ o. o >>= sole_part after) c.reduces
