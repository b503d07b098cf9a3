-- What is read from tokens is what the grammar says of them.
use Rattle.std.proofs.Common.{◌≡◌, ℕ, ◌+◌, Bool, true, false, cond, ltb, List, [], ◌∷◌, ◌++◌, Option, Some, None, IfSome, refl, sym, ap, ◌∙◌, subst, append_assoc, codes, bytes_eq, arith}
use Rattle.std.proofs.lemmas.Bool.{ltb-true}
use Rattle.std.proofs.lemmas.List.{append-nil}
use Rattle.algorithm_texts.specs.declared.tokens.Sign.TheVariants.{Assign, Colon, Open, Close, Comma, OpenIndex, CloseIndex, Operator as OperatorSign, Comparison as ComparisonSign}
use Rattle.algorithm_texts.specs.declared.tokens.Token.{Token}
use Rattle.algorithm_texts.specs.declared.tokens.Token.TheVariants.{Number as NumberToken, Word, Sign}
use Rattle.algorithm_texts.specs.declared.operands.Bracket.{Bracket}
use Rattle.algorithm_texts.specs.declared.operands.Bracket.TheVariants.{Plain, Not, Max, Min}
use Rattle.algorithm_texts.specs.declared.operands.Joint.{Joint}
use Rattle.algorithm_texts.specs.declared.operands.Joint.TheVariants.{Operator as ByOperator, Comparison as ByComparison, And, Or}
use Rattle.algorithm_texts.specs.Parts.{Term, OperandPart, enclosed_part, enclosed_two, ◌>>=◌}
use Rattle.algorithm_texts.specs.Grammar.{Scope, Tree, Numeral, Name, Indexed, One, Two, head_tokens, joint_token, tokens_of_tree, strength, row_read, element_part, word_value, meaning, Says}
use Rattle.algorithm_texts.specs.Stacks.{Waits, Joining, Opened, Halfway, Indexing, NextToken, Begins, Heads, Indexes, Follows, OperandReading, reading, brackets, stack_reduction, reading_after_bracket, reading_after_row, head_of, reading_after_name, reading_after_word, reading_after_value, reading_at_part, reading_after_head, enclosing, closes, closes_index, halves, joint_of, joining, reading_after_part, reading_after_token, turn, run, sole_part, part_at_end, read_part}
use Rattle.algorithm_texts.proofs.Complete.{is_word}
use Rattle.algorithm_texts.proofs.Standing.{Leaves, few_open, Stands, Stood, stands, Done, reduced_so}

-- ---- one more token

-- a word before a bracket ends these tokens
pub record Headed (scope : Scope) (start : List (List ℕ)) (ws : List Waits) (tokens : List Token) (names : List (List ℕ)) (head : Bracket) : Type 0 where
  pub before : List Token
  pub so_far : Leaves scope start ws before names
  pub tokens_of : tokens ≡ before ++ head_tokens head

-- the name of a row ends these tokens
pub record RowNamed (scope : Scope) (start : List (List ℕ)) (ws : List Waits) (tokens : List Token) (names : List (List ℕ)) (first : ℕ) (size : Term) : Type 0 where
  pub before : List Token
  pub word : List ℕ
  pub row : ℕ × Term
  pub so_far : Leaves scope start ws before names
  pub tokens_of : tokens ≡ before ++ (Word word ∷ [])
  pub is : row_read scope word ≡ Some row
  pub first_is : row.0 ≡ first
  pub size_is : row.1 ≡ size

-- these tokens lead to this place
abbrev pub Leads : Scope → List (List ℕ) → List Token → List (List ℕ) → List Waits → NextToken → Type 0
Leads scope start tokens names ws Begins = Leaves scope start ws tokens names
Leads scope start tokens names ws (Heads head) = Headed scope start ws tokens names head
Leads scope start tokens names ws (Indexes first size) = RowNamed scope start ws tokens names first size
Leads scope start tokens names ws (Follows part) = Stood scope start ws tokens names part

abbrev pub LeadsTo : Scope → List (List ℕ) → List Token → OperandReading → Type 0
LeadsTo scope start tokens r = Leads scope start tokens r.names r.waiting r.next

opened_at : (scope : Scope) (start : List (List ℕ)) (tokens : List Token) (names : List (List ℕ)) (ws : List Waits) (head : Bracket) (before : List Token) (b : Bool) → ltb (brackets ws) 16 ≡ b
    → Leaves scope start ws before names → tokens ≡ before ++ (head_tokens head ++ (Sign Open ∷ []))
    → IfSome (cond b (Some (reading names (Opened head ∷ ws) Begins)) None) (LeadsTo scope start tokens)
opened_at scope start tokens names ws head before true e h front = record { before = before; so_far = h; tokens_of = front; few = ltb-true (brackets ws) 16 e }
opened_at scope start tokens names ws head before false e h front = tt

opened_so : (scope : Scope) (start : List (List ℕ)) (tokens : List Token) (names : List (List ℕ)) (ws : List Waits) (head : Bracket) (before : List Token)
    → Leaves scope start ws before names → tokens ≡ before ++ (head_tokens head ++ (Sign Open ∷ [])) → IfSome (reading_after_bracket names ws head) (LeadsTo scope start tokens)
opened_so scope start tokens names ws head before h front = opened_at scope start tokens names ws head before (ltb (brackets ws) 16) refl h front

head_said : (word : List ℕ) (head : Bracket) (a b c : Bool) → bytes_eq word (codes "not") ≡ a → bytes_eq word (codes "max") ≡ b → bytes_eq word (codes "min") ≡ c
    → cond a (Some Not) (cond b (Some Max) (cond c (Some Min) None)) ≡ Some head → Word word ∷ [] ≡ head_tokens head
head_said word head true b c x y z e = let h : Not ≡ head = cc in ap (λ w. Word w ∷ []) (is_word word (codes "not") x) ∙ ap head_tokens h
head_said word head false true c x y z e = let h : Max ≡ head = cc in ap (λ w. Word w ∷ []) (is_word word (codes "max") y) ∙ ap head_tokens h
head_said word head false false true x y z e = let h : Min ≡ head = cc in ap (λ w. Word w ∷ []) (is_word word (codes "min") z) ∙ ap head_tokens h
head_said word head false false false x y z e = absurd (cc)

valued_so : (scope : Scope) (start : List (List ℕ)) (tokens : List Token) (names : List (List ℕ)) (ws : List Waits) (word : List ℕ) (o : Option (OperandPart × List (List ℕ))) → word_value scope names word ≡ o
    → Leaves scope start ws tokens names → IfSome (reading_after_value ws o) (LeadsTo scope start (tokens ++ Word word ∷ []))
valued_so scope start tokens names ws word None e h = tt
valued_so scope start tokens names ws word (Some x) e h = record {
  before = tokens;
  old = names;
  tree = Name word;
  so_far = h;
  tokens_of = refl;
  means = e;
  binds = λ n. tt;
  shallow = omega (arith, few_open scope start ws tokens names h);
}

named_so : (scope : Scope) (start : List (List ℕ)) (tokens : List Token) (names : List (List ℕ)) (ws : List Waits) (word : List ℕ) (r : Option (ℕ × Term)) → row_read scope word ≡ r
    → Leaves scope start ws tokens names → IfSome (reading_after_name scope names ws word r) (LeadsTo scope start (tokens ++ Word word ∷ []))
named_so scope start tokens names ws word None is h = valued_so scope start tokens names ws word (word_value scope names word) refl h
named_so scope start tokens names ws word (Some row) is h = record {
  before = tokens;
  word = word;
  row = row;
  so_far = h;
  tokens_of = refl;
  is = is;
  first_is = refl;
  size_is = refl;
}

worded_so : (scope : Scope) (start : List (List ℕ)) (tokens : List Token) (names : List (List ℕ)) (ws : List Waits) (word : List ℕ) (o : Option Bracket) → head_of word ≡ o
    → Leaves scope start ws tokens names → IfSome (reading_after_word scope names ws word o) (LeadsTo scope start (tokens ++ Word word ∷ []))
worded_so scope start tokens names ws word None e h = named_so scope start tokens names ws word (row_read scope word) refl h
worded_so scope start tokens names ws word (Some head) e h = record {
  before = tokens;
  so_far = h;
  tokens_of = ap (λ ts. tokens ++ ts) (head_said word head (bytes_eq word (codes "not")) (bytes_eq word (codes "max")) (bytes_eq word (codes "min")) refl refl refl e);
}

begun_so : (scope : Scope) (start : List (List ℕ)) (tokens : List Token) (names : List (List ℕ)) (ws : List Waits) (token : Token) → Leaves scope start ws tokens names
    → IfSome (reading_at_part scope names ws token) (LeadsTo scope start (tokens ++ token ∷ []))
begun_so scope start tokens names ws (NumberToken n) h = record {
  before = tokens;
  old = names;
  tree = Numeral n;
  so_far = h;
  tokens_of = refl;
  means = refl;
  binds = λ n. tt;
  shallow = omega (arith, few_open scope start ws tokens names h);
}
begun_so scope start tokens names ws (Word word) h = worded_so scope start tokens names ws word (head_of word) refl h
begun_so scope start tokens names ws (Sign Open) h = opened_so scope start (tokens ++ Sign Open ∷ []) names ws Plain tokens h refl
begun_so scope start tokens names ws (Sign other) h = tt

headed_so : (scope : Scope) (start : List (List ℕ)) (tokens : List Token) (names : List (List ℕ)) (ws : List Waits) (head : Bracket) (token : Token) → Headed scope start ws tokens names head
    → IfSome (reading_after_head names ws head token) (LeadsTo scope start (tokens ++ token ∷ []))
headed_so scope start tokens names ws head (Sign Open) h =
    opened_so scope start (tokens ++ Sign Open ∷ []) names ws head h.before h.so_far (ap (λ ts. ts ++ Sign Open ∷ []) h.tokens_of ∙ append_assoc h.before (head_tokens head) (Sign Open ∷ []))
headed_so scope start tokens names ws head other h = tt

index_at : (scope : Scope) (start : List (List ℕ)) (tokens : List Token) (names : List (List ℕ)) (ws : List Waits) (first : ℕ) (size : Term) (b : Bool) → ltb (brackets ws) 16 ≡ b → RowNamed scope start ws tokens names first size
    → IfSome (cond b (Some (reading names (Indexing first size ∷ ws) Begins)) None) (LeadsTo scope start (tokens ++ Sign OpenIndex ∷ []))
index_at scope start tokens names ws first size true e h = record {
  before = h.before;
  word = h.word;
  row = h.row;
  so_far = h.so_far;
  tokens_of = ap (λ ts. ts ++ Sign OpenIndex ∷ []) h.tokens_of ∙ append_assoc h.before (Word h.word ∷ []) (Sign OpenIndex ∷ []);
  is = h.is;
  first_is = h.first_is;
  size_is = h.size_is;
  few = ltb-true (brackets ws) 16 e;
}
index_at scope start tokens names ws first size false e h = tt

rowed_so : (scope : Scope) (start : List (List ℕ)) (tokens : List Token) (names : List (List ℕ)) (ws : List Waits) (first : ℕ) (size : Term) (token : Token) → RowNamed scope start ws tokens names first size
    → IfSome (reading_after_row names ws first size token) (LeadsTo scope start (tokens ++ token ∷ []))
rowed_so scope start tokens names ws first size (Sign OpenIndex) h = index_at scope start tokens names ws first size (ltb (brackets ws) 16) refl h
rowed_so scope start tokens names ws first size other h = tt

-- ---- tokens in another grouping

regroup_one : (before head : List Token) (opening : Token) (inner : List Token) (close : Token)
    → ((before ++ (head ++ (opening ∷ []))) ++ inner) ++ close ∷ [] ≡ before ++ (head ++ (opening ∷ (inner ++ (close ∷ []))))
regroup_one before head opening inner close = simp append_assoc

regroup_two : (before head : List Token) (opening : Token) (first : List Token) (comma : Token) (second : List Token) (close : Token)
    → ((before ++ (head ++ (opening ∷ (first ++ (comma ∷ []))))) ++ second) ++ close ∷ [] ≡ before ++ (head ++ (opening ∷ (first ++ (comma ∷ (second ++ (close ∷ []))))))
regroup_two before head opening first comma second close = simp append_assoc

pub some_same : {A : Type 0} (x y : A) → Some x ≡ Some y → x ≡ y
some_same x y e = cc

word_joint : (word : List ℕ) (joint : Joint) (a b : Bool) → bytes_eq word (codes "and") ≡ a → bytes_eq word (codes "or") ≡ b
    → cond a (Some And) (cond b (Some Or) None) ≡ Some joint → Word word ≡ joint_token joint
word_joint word joint true b x y e = let h : And ≡ joint = cc in ap (λ w. Word w) (is_word word (codes "and") x) ∙ ap joint_token h
word_joint word joint false true x y e = let h : Or ≡ joint = cc in ap (λ w. Word w) (is_word word (codes "or") y) ∙ ap joint_token h
word_joint word joint false false x y e = absurd (cc)

-- ---- after a part

one_means : (scope : Scope) (head : Bracket) (tree : Tree) (old names : List (List ℕ)) (part whole : OperandPart) → meaning scope tree old ≡ Some (part, names) → enclosed_part head part ≡ Some whole
    → meaning scope (One head tree) old ≡ Some (whole, names)
one_means scope head tree old names part whole x y = ap (λ o. o >>= λ x. (enclosed_part head x.0 >>= λ q. Some (q, x.1))) x ∙ ap (λ o. o >>= λ q. Some (q, names)) y

one_so : (scope : Scope) (start : List (List ℕ)) (tokens : List Token) (names : List (List ℕ)) (ws : List Waits) (head : Bracket) (part : OperandPart) (o : Option OperandPart) → enclosed_part head part ≡ o
    → Stands scope start 1 (Opened head ∷ ws) tokens names part → IfSome (enclosing names ws o) (LeadsTo scope start (tokens ++ Sign Close ∷ []))
one_so scope start tokens names ws head part None e s = tt
one_so scope start tokens names ws head part (Some whole) e s =
    let o = s.so_far in
    record {
      before = o.before;
      old = s.old;
      tree = One head s.tree;
      so_far = o.so_far;
      tokens_of = ap (λ ts. ts ++ Sign Close ∷ []) (s.tokens_of ∙ ap (λ ts. ts ++ tokens_of_tree s.tree) o.tokens_of)
          ∙ regroup_one o.before (head_tokens head) (Sign Open) (tokens_of_tree s.tree) (Sign Close);
      means = one_means scope head s.tree s.old names part whole s.means e;
      binds = λ n. s.binds;
      shallow = omega (arith, s.shallow);
    }

two_means : (scope : Scope) (head : Bracket) (a b : Tree) (old mid names : List (List ℕ)) (first second whole : OperandPart) → meaning scope a old ≡ Some (first, mid) → meaning scope b mid ≡ Some (second, names)
    → enclosed_two head first second ≡ Some whole → meaning scope (Two head a b) old ≡ Some (whole, names)
two_means scope head a b old mid names first second whole x y z =
    ap (λ o. o >>= λ x. (meaning scope b x.1 >>= λ y. (enclosed_two head x.0 y.0 >>= λ q. Some (q, y.1)))) x
    ∙ ap (λ o. o >>= λ y. (enclosed_two head first y.0 >>= λ q. Some (q, y.1))) y
    ∙ ap (λ o. o >>= λ q. Some (q, names)) z

two_so : (scope : Scope) (start : List (List ℕ)) (tokens : List Token) (names : List (List ℕ)) (ws : List Waits) (head : Bracket) (first part : OperandPart) (o : Option OperandPart) → enclosed_two head first part ≡ o
    → Stands scope start 1 (Halfway head first ∷ ws) tokens names part → IfSome (enclosing names ws o) (LeadsTo scope start (tokens ++ Sign Close ∷ []))
two_so scope start tokens names ws head first part None e s = tt
two_so scope start tokens names ws head first part (Some whole) e s =
    let o = s.so_far in
    record {
      before = o.before;
      old = o.old;
      tree = Two head o.tree s.tree;
      so_far = o.so_far;
      tokens_of = ap (λ ts. ts ++ Sign Close ∷ []) (s.tokens_of ∙ ap (λ ts. ts ++ tokens_of_tree s.tree) o.tokens_of)
          ∙ regroup_two o.before (head_tokens head) (Sign Open) (tokens_of_tree o.tree) (Sign Comma) (tokens_of_tree s.tree) (Sign Close);
      means = two_means scope head o.tree s.tree o.old s.old names first part whole o.means s.means e;
      binds = λ n. (o.binds, s.binds);
      shallow = omega (arith, o.shallow, s.shallow);
    }

closes_so : (scope : Scope) (start : List (List ℕ)) (tokens : List Token) (names : List (List ℕ)) (ws : List Waits) (part : OperandPart) → Stands scope start 1 ws tokens names part
    → IfSome (closes names ws part) (LeadsTo scope start (tokens ++ Sign Close ∷ []))
closes_so scope start tokens names [] part s = tt
closes_so scope start tokens names (Joining left joint ∷ ws) part s = tt
closes_so scope start tokens names (Opened head ∷ ws) part s = one_so scope start tokens names ws head part (enclosed_part head part) refl s
closes_so scope start tokens names (Indexing first size ∷ ws) part s = tt
closes_so scope start tokens names (Halfway head first ∷ ws) part s = two_so scope start tokens names ws head first part (enclosed_two head first part) refl s

indexed_means : (scope : Scope) (word : List ℕ) (row : ℕ × Term) (tree : Tree) (old names : List (List ℕ)) (part whole : OperandPart) → row_read scope word ≡ Some row → meaning scope tree old ≡ Some (part, names)
    → element_part row.0 row.1 part ≡ Some whole → meaning scope (Indexed word tree) old ≡ Some (whole, names)
indexed_means scope word row tree old names part whole w x y =
    ap (λ r. r >>= λ row. (meaning scope tree old >>= λ x. (element_part row.0 row.1 x.0 >>= λ q. Some (q, x.1)))) w
    ∙ ap (λ o. o >>= λ x. (element_part row.0 row.1 x.0 >>= λ q. Some (q, x.1))) x
    ∙ ap (λ o. o >>= λ q. Some (q, names)) y

index_so : (scope : Scope) (start : List (List ℕ)) (tokens : List Token) (names : List (List ℕ)) (ws : List Waits) (first : ℕ) (size : Term) (part : OperandPart) (o : Option OperandPart) → element_part first size part ≡ o
    → Stands scope start 1 (Indexing first size ∷ ws) tokens names part → IfSome (enclosing names ws o) (LeadsTo scope start (tokens ++ Sign CloseIndex ∷ []))
index_so scope start tokens names ws first size part None e s = tt
index_so scope start tokens names ws first size part (Some whole) e s =
    let o = s.so_far in
    let same : element_part o.row.0 o.row.1 part ≡ element_part first size part = (λ i. element_part (o.first_is i) (o.size_is i) part) in
    record {
      before = o.before;
      old = s.old;
      tree = Indexed o.word s.tree;
      so_far = o.so_far;
      tokens_of = ap (λ ts. ts ++ Sign CloseIndex ∷ []) (s.tokens_of ∙ ap (λ ts. ts ++ tokens_of_tree s.tree) o.tokens_of)
          ∙ regroup_one o.before (Word o.word ∷ []) (Sign OpenIndex) (tokens_of_tree s.tree) (Sign CloseIndex);
      means = indexed_means scope o.word o.row s.tree s.old names part whole o.is s.means (same ∙ e);
      binds = λ n. s.binds;
      shallow = omega (arith, s.shallow);
    }

closes_index_so : (scope : Scope) (start : List (List ℕ)) (tokens : List Token) (names : List (List ℕ)) (ws : List Waits) (part : OperandPart) → Stands scope start 1 ws tokens names part
    → IfSome (closes_index names ws part) (LeadsTo scope start (tokens ++ Sign CloseIndex ∷ []))
closes_index_so scope start tokens names [] part s = tt
closes_index_so scope start tokens names (Joining left joint ∷ ws) part s = tt
closes_index_so scope start tokens names (Opened head ∷ ws) part s = tt
closes_index_so scope start tokens names (Halfway head first ∷ ws) part s = tt
closes_index_so scope start tokens names (Indexing first size ∷ ws) part s = index_so scope start tokens names ws first size part (element_part first size part) refl s

half_so : (scope : Scope) (start : List (List ℕ)) (tokens : List Token) (names : List (List ℕ)) (ws : List Waits) (head : Bracket) (part : OperandPart) → Stands scope start 1 (Opened head ∷ ws) tokens names part
    → Leaves scope start (Halfway head part ∷ ws) (tokens ++ Sign Comma ∷ []) names
half_so scope start tokens names ws head part s =
    let o = s.so_far in
    record {
      before = o.before;
      old = s.old;
      tree = s.tree;
      so_far = o.so_far;
      tokens_of = ap (λ ts. ts ++ Sign Comma ∷ []) (s.tokens_of ∙ ap (λ ts. ts ++ tokens_of_tree s.tree) o.tokens_of)
          ∙ regroup_one o.before (head_tokens head) (Sign Open) (tokens_of_tree s.tree) (Sign Comma);
      means = s.means;
      binds = s.binds;
      shallow = omega (arith, s.shallow);
    }

halves_so : (scope : Scope) (start : List (List ℕ)) (tokens : List Token) (names : List (List ℕ)) (ws : List Waits) (part : OperandPart) → Stands scope start 1 ws tokens names part
    → IfSome (halves names ws part) (LeadsTo scope start (tokens ++ Sign Comma ∷ []))
halves_so scope start tokens names [] part s = tt
halves_so scope start tokens names (Joining left joint ∷ ws) part s = tt
halves_so scope start tokens names (Opened Not ∷ ws) part s = tt
halves_so scope start tokens names (Opened Plain ∷ ws) part s = half_so scope start tokens names ws Plain part s
halves_so scope start tokens names (Opened Max ∷ ws) part s = half_so scope start tokens names ws Max part s
halves_so scope start tokens names (Opened Min ∷ ws) part s = half_so scope start tokens names ws Min part s
halves_so scope start tokens names (Halfway head first ∷ ws) part s = tt
halves_so scope start tokens names (Indexing first size ∷ ws) part s = tt

-- what follows where what waits is joined
then_so : (scope : Scope) (start : List (List ℕ)) (least : ℕ) (tokens more : List Token) (names : List (List ℕ)) (next : List Waits × OperandPart → Option OperandReading) (o : Option (List Waits × OperandPart))
    → IfSome o (Done scope start least tokens names) → ((r : List Waits × OperandPart) → Done scope start least tokens names r → IfSome (next r) (LeadsTo scope start more))
    → IfSome (o >>= next) (LeadsTo scope start more)
then_so scope start least tokens more names next None h f = tt
then_so scope start least tokens more names next (Some r) h f = f r h

joint_said : (token : Token) (joint : Joint) → joint_of token ≡ Some joint → token ≡ joint_token joint
joint_said (NumberToken n) joint e = absurd (cc)
joint_said (Word word) joint e = word_joint word joint (bytes_eq word (codes "and")) (bytes_eq word (codes "or")) refl refl e
joint_said (Sign (OperatorSign o)) joint e = let h : ByOperator o ≡ joint = cc in ap joint_token h
joint_said (Sign (ComparisonSign c)) joint e = let h : ByComparison c ≡ joint = cc in ap joint_token h
joint_said (Sign Assign) joint e = absurd (cc)
joint_said (Sign Colon) joint e = absurd (cc)
joint_said (Sign Comma) joint e = absurd (cc)
joint_said (Sign Open) joint e = absurd (cc)
joint_said (Sign Close) joint e = absurd (cc)
joint_said (Sign OpenIndex) joint e = absurd (cc)
joint_said (Sign CloseIndex) joint e = absurd (cc)

joining_so : (scope : Scope) (start : List (List ℕ)) (tokens : List Token) (names : List (List ℕ)) (ws : List Waits) (part : OperandPart) (token : Token) (o : Option Joint) → joint_of token ≡ o
    → Stood scope start ws tokens names part → IfSome (joining names ws part o) (LeadsTo scope start (tokens ++ token ∷ []))
joining_so scope start tokens names ws part token None e s = tt
joining_so scope start tokens names ws part token (Some joint) e s =
    then_so scope start (strength joint) tokens (tokens ++ token ∷ []) names (λ r. Some (reading names (Joining r.1 joint ∷ r.0) Begins)) (stack_reduction (strength joint) ws part)
    (reduced_so scope start (strength joint) ws tokens names part (stands scope start (strength joint) ws tokens names part s))
    (λ r d. record {
      before = d.0.before;
      old = d.0.old;
      tree = d.0.tree;
      so_far = d.0.so_far;
      tokens_of = ap (λ ts. ts ++ token ∷ []) d.0.tokens_of ∙ append_assoc d.0.before (tokens_of_tree d.0.tree) (token ∷ []) ∙ ap (λ t. d.0.before ++ (tokens_of_tree d.0.tree ++ t ∷ [])) (joint_said token joint e);
      means = d.0.means;
      binds = d.0.binds;
      ends = d.1;
      shallow = d.0.shallow;
    })

followed_so : (scope : Scope) (start : List (List ℕ)) (tokens : List Token) (names : List (List ℕ)) (ws : List Waits) (part : OperandPart) (token : Token) → Stood scope start ws tokens names part
    → IfSome (reading_after_part names ws part token) (LeadsTo scope start (tokens ++ token ∷ []))
followed_so scope start tokens names ws part (Sign Close) s =
    then_so scope start 1 tokens (tokens ++ Sign Close ∷ []) names (λ r. closes names r.0 r.1) (stack_reduction 1 ws part)
    (reduced_so scope start 1 ws tokens names part (stands scope start 1 ws tokens names part s)) (λ r d. closes_so scope start tokens names r.0 r.1 d.0)
followed_so scope start tokens names ws part (Sign CloseIndex) s =
    then_so scope start 1 tokens (tokens ++ Sign CloseIndex ∷ []) names (λ r. closes_index names r.0 r.1) (stack_reduction 1 ws part)
    (reduced_so scope start 1 ws tokens names part (stands scope start 1 ws tokens names part s)) (λ r d. closes_index_so scope start tokens names r.0 r.1 d.0)
followed_so scope start tokens names ws part (Sign Comma) s =
    then_so scope start 1 tokens (tokens ++ Sign Comma ∷ []) names (λ r. halves names r.0 r.1) (stack_reduction 1 ws part)
    (reduced_so scope start 1 ws tokens names part (stands scope start 1 ws tokens names part s)) (λ r d. halves_so scope start tokens names r.0 r.1 d.0)
followed_so scope start tokens names ws part token s = joining_so scope start tokens names ws part token (joint_of token) refl s

turned_so : (scope : Scope) (start : List (List ℕ)) (tokens : List Token) (names : List (List ℕ)) (ws : List Waits) (next : NextToken) (token : Token) → Leads scope start tokens names ws next
    → IfSome (reading_after_token scope names ws next token) (LeadsTo scope start (tokens ++ token ∷ []))
turned_so scope start tokens names ws Begins token h = begun_so scope start tokens names ws token h
turned_so scope start tokens names ws (Heads head) token h = headed_so scope start tokens names ws head token h
turned_so scope start tokens names ws (Indexes first size) token h = rowed_so scope start tokens names ws first size token h
turned_so scope start tokens names ws (Follows part) token h = followed_so scope start tokens names ws part token h

-- ---- all tokens

run_on : (scope : Scope) (start : List (List ℕ)) (tokens rest : List Token) (o : Option OperandReading) → IfSome o (LeadsTo scope start tokens)
    → ((r : OperandReading) → LeadsTo scope start tokens r → IfSome (run scope rest r) (LeadsTo scope start (tokens ++ rest))) → IfSome (o >>= run scope rest) (LeadsTo scope start (tokens ++ rest))
run_on scope start tokens rest None h f = tt
run_on scope start tokens rest (Some r) h f = f r h

run_so : (scope : Scope) (start : List (List ℕ)) (rest : List Token) (tokens : List Token) (r : OperandReading) → LeadsTo scope start tokens r → IfSome (run scope rest r) (LeadsTo scope start (tokens ++ rest))
run_so scope start [] tokens r h = subst (λ ts. LeadsTo scope start ts r) (sym (append-nil tokens)) h
run_so scope start (token ∷ rest) tokens r h =
    subst (λ ts. IfSome (turn scope r token >>= run scope rest) (LeadsTo scope start ts)) (append_assoc tokens (token ∷ []) rest)
    (run_on scope start (tokens ++ token ∷ []) rest (turn scope r token) (turned_so scope start tokens r.names r.waiting r.next token h) (λ s t. run_so scope start rest (tokens ++ token ∷ []) s t))

alone_so : (scope : Scope) (start : List (List ℕ)) (tokens : List Token) (names : List (List ℕ)) (ws : List Waits) (last part : OperandPart) (after : List (List ℕ)) → Stands scope start 1 ws tokens names last
    → sole_part names (ws, last) ≡ Some (part, after) → Says scope start tokens part after
alone_so scope start tokens names [] last part after s e =
    let same : (last, names) ≡ (part, after) = some_same (last, names) (part, after) e in
    record {
      tree = s.tree;
      tokens_of = s.tokens_of ∙ ap (λ ts. ts ++ tokens_of_tree s.tree) s.so_far.0;
      binds = s.binds;
      shallow = omega (arith, s.shallow);
      means = ap (meaning scope s.tree) (sym s.so_far.1) ∙ s.means ∙ ap (λ x. Some x) same;
    }
alone_so scope start tokens names (w ∷ ws) last part after s e = absurd (cc)

ended_some : (scope : Scope) (start : List (List ℕ)) (tokens : List Token) (names : List (List ℕ)) (o : Option (List Waits × OperandPart)) (part : OperandPart) (after : List (List ℕ))
    → IfSome o (Done scope start 1 tokens names) → (o >>= sole_part names) ≡ Some (part, after) → Says scope start tokens part after
ended_some scope start tokens names None part after h e = absurd (cc)
ended_some scope start tokens names (Some r) part after h e = alone_so scope start tokens names r.0 r.1 part after h.0 e

ended_so : (scope : Scope) (start : List (List ℕ)) (tokens : List Token) (names : List (List ℕ)) (ws : List Waits) (next : NextToken) (part : OperandPart) (after : List (List ℕ)) → Leads scope start tokens names ws next
    → part_at_end names ws next ≡ Some (part, after) → Says scope start tokens part after
ended_so scope start tokens names ws Begins part after h e = absurd (cc)
ended_so scope start tokens names ws (Heads head) part after h e = absurd (cc)
ended_so scope start tokens names ws (Indexes first size) part after h e = absurd (cc)
ended_so scope start tokens names ws (Follows last) part after h e =
    ended_some scope start tokens names (stack_reduction 1 ws last) part after (reduced_so scope start 1 ws tokens names last (stands scope start 1 ws tokens names last h)) e

read_so : (scope : Scope) (start : List (List ℕ)) (tokens : List Token) (o : Option OperandReading) (part : OperandPart) (after : List (List ℕ)) → IfSome o (LeadsTo scope start tokens)
    → (o >>= λ r. part_at_end r.names r.waiting r.next) ≡ Some (part, after) → Says scope start tokens part after
read_so scope start tokens None part after h e = absurd (cc)
read_so scope start tokens (Some r) part after h e = ended_so scope start tokens r.names r.waiting r.next part after h e

-- what is read is what the grammar says
pub sound : (scope : Scope) (names : List (List ℕ)) (tokens : List Token) (part : OperandPart) (after : List (List ℕ)) → read_part scope names tokens ≡ Some (part, after) → Says scope names tokens part after
sound scope names tokens part after e =
    read_so scope names tokens (run scope tokens (reading names [] Begins)) part after (run_so scope names tokens [] (reading names [] Begins) (refl, refl)) e
