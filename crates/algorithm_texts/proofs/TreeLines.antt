-- The lines of a program are read from the left as its tree means.
use Rattle.std.proofs.Common.{◌≡◌, ◌⊎◌, ℕ, Bool, true, false, cond, eqb, ltb, leb, ◌+◌, ◌||◌, List, [], ◌∷◌, ◌++◌, length, Option, Some, None, IfSome, slice_get, drop, codes, refl, sym, ap, ◌∙◌, subst, inl, inr, append_assoc, arith}
use Rattle.std.specs.Prelude.{bytes_eq}
use Rattle.std.proofs.lemmas.Bool.{false≢true}
use Rattle.std.proofs.lemmas.Option.{slice_get_read, same_Some, none-some}
use Rattle.std.proofs.lemmas.Slice.Eq.{bytes_eq-Decides}
use Rattle.algorithm_texts.specs.declared.lines.Block.TheVariants.{If}
use Rattle.algorithm_texts.specs.declared.lines.CallRead.{CallRead}
use Rattle.algorithm_texts.specs.declared.tokens.Sign.TheVariants.{Assign, OpenIndex, Colon}
use Rattle.algorithm_texts.specs.declared.tokens.Token.{Token}
use Rattle.algorithm_texts.specs.declared.tokens.Token.TheVariants.{Number, Word, Sign}
use Rattle.algorithm_texts.specs.Parts.{◌>>=◌}
use Rattle.algorithm_texts.specs.Grammar.{Scope, is_among, row_read}
unfoldable use Rattle.algorithm_texts.specs.Operands.{reserved}
use Rattle.algorithm_texts.specs.Fronts.{is_the_word, is_the_sign, letters_of, is_over, begins_no_simple}
use Rattle.algorithm_texts.specs.Drafts.{Drafted, with_row}
use Rattle.algorithm_texts.specs.LineDrafts.{new_name_in, new_name, has_declaration, name_set, is_constant, scope_in, with_names, read_goto, read_done, read_deed, read_await, read_store, read_private_assignment, read_private_set, read_assignment, read_simple, opening, read_test, read_then, read_if, read_for, read_else, read_end, read_label, read_statement}
use Rattle.algorithm_texts.specs.NeverClaims.{read_claim, read_never, read_processes, without_rows}
use Rattle.algorithm_texts.specs.TextDrafts.{Spoken, with_number, empty_draft, undeclared_name, read_extent, is_array, read_word_values, with_lasting, read_shared, read_size, read_row, read_single, read_private, read_constant_value, read_constant, read_declaration, read_call, read_line, read_lines, read_head, read_promises, read_text}
use Rattle.algorithm_texts.specs.Blocks.{Block, Empty, Line, Enclosed, Divided, lines_in, read_if_block, read_if_line, begins_block, read_alone, divides, ends, draft_after_statement, beginning, dividing, ending, draft_after_block}
use Rattle.algorithm_texts.specs.Programs.{CallLines, Program, calls_lines, program_lines, declarations_made, call_begun, calls_made, meaning_of}
use Rattle.algorithm_texts.proofs.BlockTrees.{some_of, if_of, if_bind, if_cond, on_all, rest_of, alone_rest, begins_calls, divides_calls, ends_calls}
use Rattle.algorithm_texts.proofs.BlockPaths.{still_open}
use Rattle.algorithm_texts.proofs.ProgramTrees.{around, begins_call, declaration_stays, some_calls}
use Rattle.algorithm_texts.proofs.RunMarks.{true_or_false}

-- ---- words

-- a token that is one word is no other
other_word : (o : Option Token) (w v : List ℕ) → bytes_eq w v ≡ false → is_the_word o w ≡ true → is_the_word o v ≡ false
other_word None w v other h = refl
other_word (Some (Number n)) w v other h = refl
other_word (Some (Word letters)) w v other h = subst (λ x. bytes_eq x v ≡ false) (sym ((bytes_eq-Decides letters w).0 h)) other
other_word (Some (Sign sign)) w v other h = refl

word_token : (o : Option Token) (w : List ℕ) → is_the_word o w ≡ true → o ≡ Some (Word w)
word_token None w h = absurd (false≢true h)
word_token (Some (Number n)) w h = absurd (false≢true h)
word_token (Some (Word letters)) w h = ap (λ x. Some (Word x)) ((bytes_eq-Decides letters w).0 h)
word_token (Some (Sign sign)) w h = absurd (false≢true h)

-- ---- kinds of lines

alone_at : (b1 b2 b3 b4 : Bool) (ifs if_line fors elses enders others : Option Drafted) (now : Drafted) → (if_line ≡ Some now → ifs ≡ Some now)
    → cond b1 if_line (cond b2 None (cond b3 None (cond b4 None others))) ≡ Some now
    → cond b1 ifs (cond b2 fors (cond b3 elses (cond b4 enders others))) ≡ Some now
alone_at true b2 b3 b4 ifs if_line fors elses enders others now h e = h e
alone_at false true b3 b4 ifs if_line fors elses enders others now h e = absurd (none-some now e)
alone_at false false true b4 ifs if_line fors elses enders others now h e = absurd (none-some now e)
alone_at false false false true ifs if_line fors elses enders others now h e = absurd (none-some now e)
alone_at false false false false ifs if_line fors elses enders others now h e = e

begins_at : (b1 b2 : Bool) (ifs if_block fors others : Option Drafted) (now : Drafted) → (if_block ≡ Some now → ifs ≡ Some now)
    → cond b1 if_block (cond b2 fors None) ≡ Some now → cond b1 ifs (cond b2 fors others) ≡ Some now
begins_at true b2 ifs if_block fors others now h e = h e
begins_at false true ifs if_block fors others now h e = e
begins_at false false ifs if_block fors others now h e = absurd (none-some now e)

divides_at : (b1 b2 b3 : Bool) (ifs fors elses others : Option Drafted) (now : Drafted) → (b3 ≡ true → b1 ≡ false) → (b3 ≡ true → b2 ≡ false)
    → cond b3 elses None ≡ Some now → cond b1 ifs (cond b2 fors (cond b3 elses others)) ≡ Some now
divides_at b1 b2 true ifs fors elses others now p q e = ap (λ b. cond b ifs (cond b2 fors elses)) (p refl) ∙ ap (λ b. cond b fors elses) (q refl) ∙ e
divides_at b1 b2 false ifs fors elses others now p q e = absurd (none-some now e)

ends_at : (b1 b2 b3 b4 : Bool) (ifs fors elses enders others : Option Drafted) (now : Drafted) → (b4 ≡ true → b1 ≡ false) → (b4 ≡ true → b2 ≡ false)
    → (b4 ≡ true → b3 ≡ false) → cond b4 enders None ≡ Some now → cond b1 ifs (cond b2 fors (cond b3 elses (cond b4 enders others))) ≡ Some now
ends_at b1 b2 b3 true ifs fors elses enders others now p q r e =
    ap (λ b. cond b ifs (cond b2 fors (cond b3 elses enders))) (p refl) ∙ ap (λ b. cond b fors (cond b3 elses enders)) (q refl) ∙ ap (λ b. cond b elses enders) (r refl) ∙ e
ends_at b1 b2 b3 false ifs fors elses enders others now p q r e = absurd (none-some now e)

line_choice : (b c : Bool) (block line : Option Drafted) (now : Drafted) → cond b None (cond c None line) ≡ Some now → cond b block (cond c None line) ≡ Some now
line_choice true c block line now e = absurd (none-some now e)
line_choice false c block line now e = e

block_choice : (b c : Bool) (block line : Option Drafted) (now : Drafted) → cond b block None ≡ Some now → cond b block (cond c None line) ≡ Some now
block_choice true c block line now e = e
block_choice false c block line now e = absurd (none-some now e)

if_of_line : (o : Option (Drafted × List Token)) (d : Drafted) (answer : List ℕ) (now : Drafted)
    → (o >>= (λ test. cond (is_over test.1) None (cond (begins_no_simple test.1) None (read_then (length d.lines) test.0 test.1 answer)))) ≡ Some now
    → (o >>= (λ test. cond (is_over test.1) (opening (length d.lines) If test.0) (cond (begins_no_simple test.1) None (read_then (length d.lines) test.0 test.1 answer)))) ≡ Some now
if_of_line None d answer now e = absurd (none-some now e)
if_of_line (Some test) d answer now e =
    line_choice (is_over test.1) (begins_no_simple test.1) (opening (length d.lines) If test.0) (read_then (length d.lines) test.0 test.1 answer) now e

if_of_block : (o : Option (Drafted × List Token)) (d : Drafted) (answer : List ℕ) (now : Drafted)
    → (o >>= (λ test. cond (is_over test.1) (opening (length d.lines) If test.0) None)) ≡ Some now
    → (o >>= (λ test. cond (is_over test.1) (opening (length d.lines) If test.0) (cond (begins_no_simple test.1) None (read_then (length d.lines) test.0 test.1 answer)))) ≡ Some now
if_of_block None d answer now e = absurd (none-some now e)
if_of_block (Some test) d answer now e =
    block_choice (is_over test.1) (begins_no_simple test.1) (opening (length d.lines) If test.0) (read_then (length d.lines) test.0 test.1 answer) now e

abbrev others : Drafted → List Token → List ℕ → Option Drafted
others d tokens answer = cond (is_the_sign (slice_get tokens 1) Colon) (read_label d tokens) (read_simple d tokens answer)

alone_statement : (d : Drafted) (tokens : List Token) (answer : List ℕ) (now : Drafted) → read_alone d tokens answer ≡ Some now → read_statement d tokens answer ≡ Some now
alone_statement d tokens answer now e =
    alone_at (is_the_word (slice_get tokens 0) (codes "if")) (is_the_word (slice_get tokens 0) (codes "for")) (is_the_word (slice_get tokens 0) (codes "else"))
    (is_the_word (slice_get tokens 0) (codes "end")) (read_if d (drop 1 tokens) answer) (read_if_line d (drop 1 tokens) answer) (read_for d (drop 1 tokens)) (read_else d (drop 1 tokens))
    (read_end d (drop 1 tokens)) (others d tokens answer) now (if_of_line (read_test d (drop 1 tokens)) d answer now) e

begins_statement : (d : Drafted) (tokens : List Token) (answer : List ℕ) (now : Drafted) → begins_block d tokens ≡ Some now → read_statement d tokens answer ≡ Some now
begins_statement d tokens answer now e =
    begins_at (is_the_word (slice_get tokens 0) (codes "if")) (is_the_word (slice_get tokens 0) (codes "for")) (read_if d (drop 1 tokens) answer) (read_if_block d (drop 1 tokens))
    (read_for d (drop 1 tokens))
    (cond (is_the_word (slice_get tokens 0) (codes "else")) (read_else d (drop 1 tokens))
    (cond (is_the_word (slice_get tokens 0) (codes "end")) (read_end d (drop 1 tokens)) (others d tokens answer))) now
    (if_of_block (read_test d (drop 1 tokens)) d answer now) e

divides_statement : (d : Drafted) (tokens : List Token) (answer : List ℕ) (now : Drafted) → divides d.opened d tokens ≡ Some now → read_statement d tokens answer ≡ Some now
divides_statement d tokens answer now e =
    divides_at (is_the_word (slice_get tokens 0) (codes "if")) (is_the_word (slice_get tokens 0) (codes "for")) (is_the_word (slice_get tokens 0) (codes "else"))
    (read_if d (drop 1 tokens) answer) (read_for d (drop 1 tokens)) (read_else d (drop 1 tokens))
    (cond (is_the_word (slice_get tokens 0) (codes "end")) (read_end d (drop 1 tokens)) (others d tokens answer)) now
    (other_word (slice_get tokens 0) (codes "else") (codes "if") refl) (other_word (slice_get tokens 0) (codes "else") (codes "for") refl) e

ends_statement : (d : Drafted) (tokens : List Token) (answer : List ℕ) (now : Drafted) → ends d.opened d tokens ≡ Some now → read_statement d tokens answer ≡ Some now
ends_statement d tokens answer now e =
    ends_at (is_the_word (slice_get tokens 0) (codes "if")) (is_the_word (slice_get tokens 0) (codes "for")) (is_the_word (slice_get tokens 0) (codes "else"))
    (is_the_word (slice_get tokens 0) (codes "end")) (read_if d (drop 1 tokens) answer) (read_for d (drop 1 tokens)) (read_else d (drop 1 tokens)) (read_end d (drop 1 tokens))
    (others d tokens answer) now
    (other_word (slice_get tokens 0) (codes "end") (codes "if") refl) (other_word (slice_get tokens 0) (codes "end") (codes "for") refl)
    (other_word (slice_get tokens 0) (codes "end") (codes "else") refl) e

-- ---- lines that begin with `call`

-- no shared word has this name
abbrev NoCall : List (List ℕ) → Type 0
NoCall declared = is_among declared (codes "call") ≡ false

no_name : new_name (Some (Word (codes "call"))) ≡ None
unfolding reserved
no_name = refl

none_after : {A B : Type 0} (o : Option A) (f : A → Option B) → o ≡ None → (o >>= f) ≡ None
none_after None f e = refl
none_after (Some x) f e = absurd (none-some x (sym e))

no_label : (d : Drafted) (tokens : List Token) → slice_get tokens 0 ≡ Some (Word (codes "call")) → read_label d tokens ≡ None
no_label d tokens e = none_after (new_name (slice_get tokens 0)) _ (ap new_name e ∙ no_name)

no_setting : (d : Drafted) (tokens : List Token) → slice_get tokens 0 ≡ Some (Word (codes "call")) → read_private_assignment d tokens ≡ None
no_setting d tokens e =
    none_after (name_set (scope_in d) d.names (slice_get tokens 0)) _ (none_after (new_name (slice_get tokens 0)) _ (ap new_name e ∙ no_name))

no_row : (d : Drafted) → row_read (scope_in d) (codes "call") ≡ None
unfolding reserved
no_row d = refl

no_choice : (a b c : Bool) (store private : Option Drafted) → a ≡ false → private ≡ None → cond a store (cond b None (cond c private None)) ≡ None
no_choice true b c store private p q = absurd (false≢true (sym p))
no_choice false true c store private p q = refl
no_choice false false true store private p q = q
no_choice false false false store private p q = refl

no_assignment : (d : Drafted) (tokens : List Token) → NoCall d.declared → slice_get tokens 0 ≡ Some (Word (codes "call")) → read_assignment d tokens ≡ None
no_assignment d tokens none e =
    ap (λ o. letters_of o >>= (λ first. cond (is_among d.declared first) (read_store d tokens) (read_private_set d tokens (row_read (scope_in d) first)))) e
    ∙ ap (λ r. cond (is_among d.declared (codes "call")) (read_store d tokens) (read_private_set d tokens r)) (no_row d)
    ∙ no_choice (is_among d.declared (codes "call")) (is_the_sign (slice_get tokens 1) OpenIndex) (is_the_sign (slice_get tokens 1) Assign) (read_store d tokens)
    (read_private_assignment d tokens) none (no_setting d tokens e)

no_four : (b1 b2 b3 b4 : Bool) (x1 x2 x3 x4 x : Option Drafted) → b1 ≡ false → b2 ≡ false → b3 ≡ false → b4 ≡ false → x ≡ None
    → cond b1 x1 (cond b2 x2 (cond b3 x3 (cond b4 x4 x))) ≡ None
no_four b1 b2 b3 b4 x1 x2 x3 x4 x p q r s e =
    ap (λ b. cond b x1 (cond b2 x2 (cond b3 x3 (cond b4 x4 x)))) p ∙ ap (λ b. cond b x2 (cond b3 x3 (cond b4 x4 x))) q ∙ ap (λ b. cond b x3 (cond b4 x4 x)) r
    ∙ ap (λ b. cond b x4 x) s ∙ e

no_others : (b : Bool) (label simple : Option Drafted) → label ≡ None → simple ≡ None → cond b label simple ≡ None
no_others true label simple p q = p
no_others false label simple p q = q

no_alone : (d : Drafted) (tokens : List Token) (answer : List ℕ) → NoCall d.declared → is_the_word (slice_get tokens 0) (codes "call") ≡ true → read_alone d tokens answer ≡ None
no_alone d tokens answer none h =
    let e = word_token (slice_get tokens 0) (codes "call") h in
    let differs : (w : List ℕ) → bytes_eq (codes "call") w ≡ false → is_the_word (slice_get tokens 0) w ≡ false = λ w other. other_word (slice_get tokens 0) (codes "call") w other h in
    no_four (is_the_word (slice_get tokens 0) (codes "if")) (is_the_word (slice_get tokens 0) (codes "for")) (is_the_word (slice_get tokens 0) (codes "else"))
    (is_the_word (slice_get tokens 0) (codes "end")) (read_if_line d (drop 1 tokens) answer) None None None (others d tokens answer)
    (differs (codes "if") refl) (differs (codes "for") refl) (differs (codes "else") refl) (differs (codes "end") refl)
    (no_others (is_the_sign (slice_get tokens 1) Colon) (read_label d tokens) (read_simple d tokens answer) (no_label d tokens e)
    (no_four (is_the_word (slice_get tokens 0) (codes "goto")) (is_the_word (slice_get tokens 0) (codes "done")) (is_the_word (slice_get tokens 0) (codes "this"))
    (is_the_word (slice_get tokens 0) (codes "await")) (read_goto d (drop 1 tokens)) (read_done d (drop 1 tokens) answer) (read_deed d tokens) (read_await d (drop 1 tokens))
    (read_assignment d tokens) (differs (codes "goto") refl) (differs (codes "done") refl) (differs (codes "this") refl) (differs (codes "await") refl) (no_assignment d tokens none e)))

alone_no_call : (d : Drafted) (tokens : List Token) (answer : List ℕ) (now : Drafted) → NoCall d.declared → read_alone d tokens answer ≡ Some now
    → is_the_word (slice_get tokens 0) (codes "call") ≡ false
alone_no_call d tokens answer now none e = elim (true_or_false (is_the_word (slice_get tokens 0) (codes "call"))) [
  | inl t ↦ absurd (none-some now (sym (no_alone d tokens answer none t) ∙ e))
  | inr f ↦ f
]

-- what is chosen by one of two words
one_of : (a b : Bool) (x y : Option Drafted) (now : Drafted) → cond a x (cond b y None) ≡ Some now → (a ≡ true) ⊎ (b ≡ true)
one_of true b x y now e = inl refl
one_of false true x y now e = inr refl
one_of false false x y now e = absurd (none-some now e)

two_no_call : (tokens : List Token) (w v : List ℕ) (x y : Option Drafted) (now : Drafted) → bytes_eq w (codes "call") ≡ false → bytes_eq v (codes "call") ≡ false
    → cond (is_the_word (slice_get tokens 0) w) x (cond (is_the_word (slice_get tokens 0) v) y None) ≡ Some now → is_the_word (slice_get tokens 0) (codes "call") ≡ false
two_no_call tokens w v x y now p q e = elim (one_of (is_the_word (slice_get tokens 0) w) (is_the_word (slice_get tokens 0) v) x y now e) [
  | inl h ↦ other_word (slice_get tokens 0) w (codes "call") p h
  | inr h ↦ other_word (slice_get tokens 0) v (codes "call") q h
]

-- a line that begins with one of three words, each of which is not `call`
three_no_call : (tokens : List Token) (w v u : List ℕ) (x y z : Option Drafted) (now : Drafted) → bytes_eq w (codes "call") ≡ false → bytes_eq v (codes "call") ≡ false → bytes_eq u (codes "call") ≡ false
    → cond (is_the_word (slice_get tokens 0) w) x (cond (is_the_word (slice_get tokens 0) v) y (cond (is_the_word (slice_get tokens 0) u) z None)) ≡ Some now
    → is_the_word (slice_get tokens 0) (codes "call") ≡ false
three_no_call tokens w v u x y z now p q r e = elim (true_or_false (is_the_word (slice_get tokens 0) w)) [
  | inl h ↦ other_word (slice_get tokens 0) w (codes "call") p h
  | inr h ↦ two_no_call tokens v u y z now q r
      (sym (ap (λ b. cond b x (cond (is_the_word (slice_get tokens 0) v) y (cond (is_the_word (slice_get tokens 0) u) z None))) h) ∙ e)
]

-- the same of four words
four_no_call : (tokens : List Token) (w v u t : List ℕ) (x y z q : Option Drafted) (now : Drafted) → bytes_eq w (codes "call") ≡ false → bytes_eq v (codes "call") ≡ false → bytes_eq u (codes "call") ≡ false → bytes_eq t (codes "call") ≡ false
    → cond (is_the_word (slice_get tokens 0) w) x (cond (is_the_word (slice_get tokens 0) v) y (cond (is_the_word (slice_get tokens 0) u) z (cond (is_the_word (slice_get tokens 0) t) q None))) ≡ Some now
    → is_the_word (slice_get tokens 0) (codes "call") ≡ false
four_no_call tokens w v u t x y z q now a b c d e = elim (true_or_false (is_the_word (slice_get tokens 0) w)) [
  | inl h ↦ other_word (slice_get tokens 0) w (codes "call") a h
  | inr h ↦ three_no_call tokens v u t y z q now b c d
      (sym (ap (λ b. cond b x (cond (is_the_word (slice_get tokens 0) v) y (cond (is_the_word (slice_get tokens 0) u) z (cond (is_the_word (slice_get tokens 0) t) q None)))) h) ∙ e)
]

cond_parts : (b : Bool) (o : Option Drafted) (now : Drafted) → cond b o None ≡ Some now → (b ≡ true) × (o ≡ Some now)
cond_parts true o now e = (refl, e)
cond_parts false o now e = absurd (none-some now e)

-- ---- lines of a block

-- a call is begun, and `call` is no shared word
abbrev IsIn : List CallRead × List (List ℕ) → Type 0
IsIn r = ((x : CallRead) × (xs : List CallRead) × (r.0 ≡ x ∷ xs)) × NoCall r.1

line_more : (d now : Drafted) (s : Spoken) (ss : List Spoken) → read_line (with_number s.number d) s.tokens s.answer d.number ≡ Some now
    → read_lines d (s ∷ ss) ≡ read_lines now ss
line_more d now s ss e = ap (λ o. o >>= (λ n. read_lines n ss)) e

calls_begun : (cs xs : List CallRead) (x : CallRead) → cs ≡ x ∷ xs → eqb (length cs) 0 ≡ false
calls_begun cs xs x e = elim (true_or_false (eqb (length cs) 0)) [
  | inl t ↦ absurd (some_calls cs xs x e t)
  | inr f ↦ f
]

statement_line : (d now : Drafted) (s : Spoken) → IsIn (rest_of d) → is_the_word (slice_get s.tokens 0) (codes "call") ≡ false
    → read_statement (with_number s.number d) s.tokens s.answer ≡ Some now → read_line (with_number s.number d) s.tokens s.answer d.number ≡ Some now
statement_line d now s h other e =
    let begun : eqb (length d.calls) 0 ≡ false = calls_begun d.calls h.0.1 h.0.0 h.0.2 in
    ap (λ b. cond b (read_call (with_number s.number d) (drop 1 s.tokens) d.number)
    (cond (eqb (length d.calls) 0) (read_declaration (with_number s.number d) s.tokens) (read_statement (with_number s.number d) s.tokens s.answer))) other
    ∙ ap (λ b. cond b (read_declaration (with_number s.number d) s.tokens) (read_statement (with_number s.number d) s.tokens s.answer)) begun
    ∙ e

alone_line : (d now : Drafted) (s : Spoken) → IsIn (rest_of d) → draft_after_statement d s ≡ Some now → read_line (with_number s.number d) s.tokens s.answer d.number ≡ Some now
alone_line d now s h e =
    statement_line d now s h (alone_no_call (with_number s.number d) s.tokens s.answer now h.1 e) (alone_statement (with_number s.number d) s.tokens s.answer now e)

begins_line : (d now : Drafted) (s : Spoken) → IsIn (rest_of d) → beginning d s ≡ Some now → read_line (with_number s.number d) s.tokens s.answer d.number ≡ Some now
begins_line d now s h e =
    statement_line d now s h
    (two_no_call s.tokens (codes "if") (codes "for") (read_if_block (with_number s.number d) (drop 1 s.tokens)) (read_for (with_number s.number d) (drop 1 s.tokens)) now refl refl e)
    (begins_statement (with_number s.number d) s.tokens s.answer now e)

divides_line : (d now : Drafted) (s : Spoken) → IsIn (rest_of d) → dividing d.opened d s ≡ Some now → read_line (with_number s.number d) s.tokens s.answer d.number ≡ Some now
divides_line d now s h e =
    statement_line d now s h
    (other_word (slice_get s.tokens 0) (codes "else") (codes "call") refl (cond_parts (is_the_word (slice_get s.tokens 0) (codes "else")) _ now e).0)
    (divides_statement (with_number s.number d) s.tokens s.answer now e)

ends_line : (d now : Drafted) (s : Spoken) → IsIn (rest_of d) → ending d.opened d s ≡ Some now → read_line (with_number s.number d) s.tokens s.answer d.number ≡ Some now
ends_line d now s h e =
    statement_line d now s h
    (other_word (slice_get s.tokens 0) (codes "end") (codes "call") refl (cond_parts (is_the_word (slice_get s.tokens 0) (codes "end")) _ now e).0)
    (ends_statement (with_number s.number d) s.tokens s.answer now e)

-- what a block makes is read from its lines
abbrev IsRead : Block → Drafted → Drafted → List Spoken → Type 0
IsRead b d now ss = (read_lines d (lines_in b ++ ss) ≡ read_lines now ss) × (rest_of now ≡ rest_of d)

pub block_lines : (b : Block) (d now : Drafted) (ss : List Spoken) → IsIn (rest_of d) → draft_after_block b d ≡ Some now → IsRead b d now ss
block_lines Empty d now ss h e = let same = same_Some d now e in (ap (λ x. read_lines x ss) same, ap rest_of (sym same))
block_lines (Line s rest) d now ss h e =
    let x = some_of (draft_after_statement d s) (draft_after_block rest) now e in
    let one : rest_of x.0 ≡ rest_of d = alone_rest (with_number s.number d) s.tokens s.answer x.0 x.1 in
    let r = block_lines rest x.0 now ss (subst IsIn (sym one) h) x.2 in
    (line_more d x.0 s (lines_in rest ++ ss) (alone_line d x.0 s h x.1) ∙ r.0, r.1 ∙ one)
block_lines (Enclosed s body t rest) d now ss h e =
    let x = some_of (beginning d s) (λ begun. draft_after_block body begun >>= (λ inner. ending begun.opened inner t >>= draft_after_block rest)) now e in
    let y = some_of (draft_after_block body x.0) (λ inner. ending x.0.opened inner t >>= draft_after_block rest) now x.2 in
    let z = some_of (ending x.0.opened y.0 t) (draft_after_block rest) now y.2 in
    let one : rest_of x.0 ≡ rest_of d = if_of (λ n. rest_of n ≡ rest_of d) (beginning d s) x.0 (begins_calls (with_number s.number d) s.tokens) x.1 in
    let b = block_lines body x.0 y.0 (t ∷ (lines_in rest ++ ss)) (subst IsIn (sym one) h) y.1 in
    let two : rest_of y.0 ≡ rest_of d = b.1 ∙ one in
    let last : ending y.0.opened y.0 t ≡ Some z.0 = subst (λ os. ending os y.0 t ≡ Some z.0) (sym (still_open body x.0 y.0 y.1)) z.1 in
    let three : rest_of z.0 ≡ rest_of d = if_of (λ n. rest_of n ≡ rest_of y.0) (ending x.0.opened y.0 t) z.0 (ends_calls x.0.opened (with_number t.number y.0) t.tokens) z.1 ∙ two in
    let r = block_lines rest z.0 now ss (subst IsIn (sym three) h) z.2 in (
      line_more d x.0 s ((lines_in body ++ (t ∷ lines_in rest)) ++ ss) (begins_line d x.0 s h x.1)
          ∙ ap (λ ls. read_lines x.0 ls) (append_assoc (lines_in body) (t ∷ lines_in rest) ss)
          ∙ b.0
          ∙ line_more y.0 z.0 t (lines_in rest ++ ss) (ends_line y.0 z.0 t (subst IsIn (sym two) h) last)
          ∙ r.0,
      r.1 ∙ three,
    )
block_lines (Divided s body o other t rest) d now ss h e =
    let x = some_of (beginning d s) (λ begun. draft_after_block body begun >>= (λ inner. dividing begun.opened inner o >>= (λ divided. draft_after_block other divided >>= (λ second.
    ending divided.opened second t >>= draft_after_block rest)))) now e in
    let y = some_of (draft_after_block body x.0) (λ inner. dividing x.0.opened inner o >>= (λ divided. draft_after_block other divided >>= (λ second. ending divided.opened second t >>= draft_after_block rest))) now x.2 in
    let v = some_of (dividing x.0.opened y.0 o) (λ divided. draft_after_block other divided >>= (λ second. ending divided.opened second t >>= draft_after_block rest)) now y.2 in
    let w = some_of (draft_after_block other v.0) (λ second. ending v.0.opened second t >>= draft_after_block rest) now v.2 in
    let z = some_of (ending v.0.opened w.0 t) (draft_after_block rest) now w.2 in
    let after : List Spoken = t ∷ (lines_in rest ++ ss) in
    let one : rest_of x.0 ≡ rest_of d = if_of (λ n. rest_of n ≡ rest_of d) (beginning d s) x.0 (begins_calls (with_number s.number d) s.tokens) x.1 in
    let b = block_lines body x.0 y.0 (o ∷ (lines_in other ++ after)) (subst IsIn (sym one) h) y.1 in
    let two : rest_of y.0 ≡ rest_of d = b.1 ∙ one in
    let middle : dividing y.0.opened y.0 o ≡ Some v.0 = subst (λ os. dividing os y.0 o ≡ Some v.0) (sym (still_open body x.0 y.0 y.1)) v.1 in
    let three : rest_of v.0 ≡ rest_of d = if_of (λ n. rest_of n ≡ rest_of y.0) (dividing x.0.opened y.0 o) v.0 (divides_calls x.0.opened (with_number o.number y.0) o.tokens) v.1 ∙ two in
    let c = block_lines other v.0 w.0 after (subst IsIn (sym three) h) w.1 in
    let four : rest_of w.0 ≡ rest_of d = c.1 ∙ three in
    let last : ending w.0.opened w.0 t ≡ Some z.0 = subst (λ os. ending os w.0 t ≡ Some z.0) (sym (still_open other v.0 w.0 w.1)) z.1 in
    let five : rest_of z.0 ≡ rest_of d = if_of (λ n. rest_of n ≡ rest_of w.0) (ending v.0.opened w.0 t) z.0 (ends_calls v.0.opened (with_number t.number w.0) t.tokens) z.1 ∙ four in
    let r = block_lines rest z.0 now ss (subst IsIn (sym five) h) z.2 in (
      line_more d x.0 s ((lines_in body ++ (o ∷ (lines_in other ++ (t ∷ lines_in rest)))) ++ ss) (begins_line d x.0 s h x.1)
          ∙ ap (λ ls. read_lines x.0 ls) (append_assoc (lines_in body) (o ∷ (lines_in other ++ (t ∷ lines_in rest))) ss)
          ∙ ap (λ ls. read_lines x.0 (lines_in body ++ (o ∷ ls))) (append_assoc (lines_in other) (t ∷ lines_in rest) ss)
          ∙ b.0
          ∙ line_more y.0 v.0 o (lines_in other ++ after) (divides_line y.0 v.0 o (subst IsIn (sym two) h) middle)
          ∙ c.0
          ∙ line_more w.0 z.0 t (lines_in rest ++ ss) (ends_line w.0 z.0 t (subst IsIn (sym four) h) last)
          ∙ r.0,
      r.1 ∙ five,
    )

-- ---- calls

calls_read : (calls : List CallLines) (d now : Drafted) → NoCall d.declared → calls_made calls d ≡ Some now → read_lines d (calls_lines calls) ≡ Some now
calls_read [] d now none e = e
calls_read (c ∷ cs) d now none e =
    let x = some_of (call_begun d c.first) (λ begun. draft_after_block c.block begun >>= calls_made cs) now e in
    let y = some_of (draft_after_block c.block x.0) (calls_made cs) now x.2 in
    let w = cond_parts (is_the_word (slice_get c.first.tokens 0) (codes "call")) (read_call (with_number c.first.number d) (drop 1 c.first.tokens) d.number) x.0 x.1 in
    let begins = begins_call (with_number c.first.number d) (drop 1 c.first.tokens) d.number x.0 w.1 in
    let free : NoCall x.0.declared = subst NoCall (sym begins.declared) none in
    let b = block_lines c.block x.0 y.0 (calls_lines cs) ((begins.call, begins.calls, begins.one), free) y.1 in
    let line : read_line (with_number c.first.number d) c.first.tokens c.first.answer d.number ≡ Some x.0 =
    ap (λ b. cond b (read_call (with_number c.first.number d) (drop 1 c.first.tokens) d.number)
    (cond (eqb (length d.calls) 0) (read_declaration (with_number c.first.number d) c.first.tokens) (read_statement (with_number c.first.number d) c.first.tokens c.first.answer))) w.0 ∙ w.1 in
    line_more d x.0 c.first (lines_in c.block ++ calls_lines cs) line
    ∙ b.0
    ∙ calls_read cs y.0 now (subst NoCall (sym (ap (λ r. r.1) b.1)) free) y.2

-- ---- declarations

neither : (a b : Bool) → a ≡ false → b ≡ false → (a || b) ≡ false
neither true b p q = absurd (false≢true (sym p))
neither false b p q = q

not_first : (a b : Bool) → (a || b) ≡ false → a ≡ false
not_first true b p = p
not_first false b p = refl

not_second : (a b : Bool) → (a || b) ≡ false → b ≡ false
not_second true b p = absurd (false≢true (sym p))
not_second false b p = p

among_more : (names : List (List ℕ)) (name word : List ℕ) → is_among names word ≡ false → bytes_eq name word ≡ false → is_among (names ++ name ∷ []) word ≡ false
among_more [] name word h other = neither (bytes_eq name word) false other refl
among_more (n ∷ ns) name word h other =
    neither (bytes_eq n word) (is_among (ns ++ name ∷ []) word) (not_first (bytes_eq n word) (is_among ns word) h)
    (among_more ns name word (not_second (bytes_eq n word) (is_among ns word) h) other)

abbrev IsOther : List ℕ → Type 0
IsOther word = bytes_eq word (codes "call") ≡ false

no_call_name : IfSome (new_name_in (codes "call")) IsOther
unfolding reserved
no_call_name = tt

name_in_other : (word : List ℕ) → IfSome (new_name_in word) IsOther
name_in_other word = elim (true_or_false (bytes_eq word (codes "call"))) [
  | inl t ↦ subst (λ w. IfSome (new_name_in w) IsOther) (sym ((bytes_eq-Decides word (codes "call")).0 t)) no_call_name
  | inr f ↦ if_cond IsOther (is_constant word) None (cond (is_among reserved word) None (Some word)) tt (if_cond IsOther (is_among reserved word) None (Some word) tt f)
]

undeclared_other : (scope : Scope) (names : List (List ℕ)) (token : Option Token) → IfSome (undeclared_name scope names token) IsOther
undeclared_other scope names token =
    if_bind IsOther IsOther (new_name token) _ (on_all IsOther (letters_of token) new_name_in name_in_other)
    (λ word h. if_cond IsOther (has_declaration scope word || is_among names word) None (Some word) tt h)

shared_other : (d : Drafted) (tokens : List Token) → NoCall d.declared → IfSome (read_shared d tokens) (λ now. NoCall now.declared)
shared_other d tokens none =
    if_bind IsOther (λ now. NoCall now.declared) (undeclared_name (scope_in d) d.names (slice_get tokens 0)) _ (undeclared_other (scope_in d) d.names (slice_get tokens 0))
    (λ name other. on_all (λ now. NoCall now.declared) (cond (ltb (length d.declared) 64) (read_extent (scope_in d) d.names (drop 1 tokens)) None) _
    (λ extent. on_all (λ now. NoCall now.declared) (read_word_values (scope_in d) (is_array extent.0) extent.2 extent.1) _ (λ v. among_more d.declared name (codes "call") none other)))

single_other : (d : Drafted) (name : List ℕ) (tokens : List Token) → NoCall d.declared → IfSome (read_single d name tokens) (λ now. NoCall now.declared)
single_other d name tokens none =
    if_cond (λ now. NoCall now.declared) (ltb (length d.names) 64) (cond (is_over tokens) (Some (with_lasting name d)) None) None
    (if_cond (λ now. NoCall now.declared) (is_over tokens) (Some (with_lasting name d)) None none tt) tt

row_other : (d : Drafted) (name : List ℕ) (tokens : List Token) → NoCall d.declared → IfSome (read_row d name tokens) (λ now. NoCall now.declared)
row_other d name tokens none =
    on_all (λ now. NoCall now.declared) (read_size (scope_in d) d.names tokens) _
    (λ size. if_cond (λ now. NoCall now.declared) (leb (length d.names + 16) 64) (cond (is_over size.1) (Some (with_row name size.0 (with_names size.2 d))) None) None
    (if_cond (λ now. NoCall now.declared) (is_over size.1) (Some (with_row name size.0 (with_names size.2 d))) None none tt) tt)

private_other : (d : Drafted) (tokens : List Token) → NoCall d.declared → IfSome (read_private d tokens) (λ now. NoCall now.declared)
private_other d tokens none =
    on_all (λ now. NoCall now.declared) (undeclared_name (scope_in d) d.names (slice_get tokens 0)) _
    (λ name. if_cond (λ now. NoCall now.declared) (is_the_sign (slice_get tokens 1) OpenIndex) (read_row d name (drop 1 tokens)) (read_single d name (drop 1 tokens))
    (row_other d name (drop 1 tokens) none) (single_other d name (drop 1 tokens) none))

constant_other : (d : Drafted) (tokens : List Token) → NoCall d.declared → IfSome (read_constant d tokens) (λ now. NoCall now.declared)
constant_other d tokens none =
    on_all (λ now. NoCall now.declared) (undeclared_name (scope_in d) d.names (slice_get tokens 0)) _
    (λ name. on_all (λ now. NoCall now.declared) (read_constant_value (scope_in d) d.names (drop 1 tokens)) _ (λ v. none))

never_other : (d : Drafted) (tokens : List Token) → NoCall d.declared → IfSome (read_never d tokens) (λ now. NoCall now.declared)
never_other d tokens none =
    on_all (λ now. NoCall now.declared) (read_processes (scope_in (without_rows d)) tokens) _
    (λ processes. on_all (λ now. NoCall now.declared) (read_claim (with_names processes.0 (without_rows d)) processes.1) _ (λ claim. none))

declaration_other : (d : Drafted) (tokens : List Token) → NoCall d.declared → IfSome (read_declaration d tokens) (λ now. NoCall now.declared)
declaration_other d tokens none =
    if_cond (λ now. NoCall now.declared) (is_the_word (slice_get tokens 0) (codes "shared")) (read_shared d (drop 1 tokens))
    (cond (is_the_word (slice_get tokens 0) (codes "private")) (read_private d (drop 1 tokens))
    (cond (is_the_word (slice_get tokens 0) (codes "constant")) (read_constant d (drop 1 tokens))
    (cond (is_the_word (slice_get tokens 0) (codes "never")) (read_never d (drop 1 tokens)) None))) (shared_other d (drop 1 tokens) none)
    (if_cond (λ now. NoCall now.declared) (is_the_word (slice_get tokens 0) (codes "private")) (read_private d (drop 1 tokens))
    (cond (is_the_word (slice_get tokens 0) (codes "constant")) (read_constant d (drop 1 tokens))
    (cond (is_the_word (slice_get tokens 0) (codes "never")) (read_never d (drop 1 tokens)) None)) (private_other d (drop 1 tokens) none)
    (if_cond (λ now. NoCall now.declared) (is_the_word (slice_get tokens 0) (codes "constant")) (read_constant d (drop 1 tokens))
    (cond (is_the_word (slice_get tokens 0) (codes "never")) (read_never d (drop 1 tokens)) None) (constant_other d (drop 1 tokens) none)
    (if_cond (λ now. NoCall now.declared) (is_the_word (slice_get tokens 0) (codes "never")) (read_never d (drop 1 tokens)) None (never_other d (drop 1 tokens) none) tt)))

declarations_read : (ds : List Spoken) (d now : Drafted) (ss : List Spoken) → d.calls ≡ [] → NoCall d.declared → declarations_made ds d ≡ Some now
    → (read_lines d (ds ++ ss) ≡ read_lines now ss) × NoCall now.declared
declarations_read [] d now ss empty none e = let same = same_Some d now e in (ap (λ x. read_lines x ss) same, subst (λ x. NoCall x.declared) same none)
declarations_read (s ∷ ds) d now ss empty none e =
    let x = some_of (read_declaration (with_number s.number d) s.tokens) (declarations_made ds) now e in
    let other = four_no_call s.tokens (codes "shared") (codes "private") (codes "constant") (codes "never") (read_shared (with_number s.number d) (drop 1 s.tokens))
    (read_private (with_number s.number d) (drop 1 s.tokens)) (read_constant (with_number s.number d) (drop 1 s.tokens)) (read_never (with_number s.number d) (drop 1 s.tokens)) x.0 refl refl refl refl x.1 in
    let line : read_line (with_number s.number d) s.tokens s.answer d.number ≡ Some x.0 =
    ap (λ b. cond b (read_call (with_number s.number d) (drop 1 s.tokens) d.number)
    (cond (eqb (length d.calls) 0) (read_declaration (with_number s.number d) s.tokens) (read_statement (with_number s.number d) s.tokens s.answer))) other
    ∙ ap (λ (cs : List CallRead). cond (eqb (length cs) 0) (read_declaration (with_number s.number d) s.tokens) (read_statement (with_number s.number d) s.tokens s.answer)) empty
    ∙ x.1 in
    let calls = ap (λ p. p.1) (if_of (λ n. around n ≡ around d) (read_declaration (with_number s.number d) s.tokens) x.0 (declaration_stays (with_number s.number d) s.tokens) x.1) in
    let r = declarations_read ds x.0 now ss (calls ∙ empty)
    (if_of (λ n. NoCall n.declared) (read_declaration (with_number s.number d) s.tokens) x.0 (declaration_other (with_number s.number d) s.tokens none) x.1) x.2 in
    (line_more d x.0 s (ds ++ ss) line ∙ r.0, r.1)

-- ---- programs

first_two : (a b : Spoken) (rest : List Spoken) → (slice_get (a ∷ (b ∷ rest)) 0 ≡ Some a) × (slice_get (a ∷ (b ∷ rest)) 1 ≡ Some b)
first_two a b rest = (
  slice_get_read (a ∷ (b ∷ rest)) (length (a ∷ (b ∷ rest))) 0 a refl (omega arith) refl,
  slice_get_read (a ∷ (b ∷ rest)) (length (a ∷ (b ∷ rest))) 1 b refl (omega arith) refl,
)

-- what a program means is read from its lines
pub program_read : (p : Program) (d : Drafted) → meaning_of p ≡ Some d → read_text (program_lines p) ≡ Some d
program_read p d e =
    let f = some_of (read_head p.head.tokens) (λ head. read_promises p.promises.tokens >>= (λ promises. declarations_made p.declarations (empty_draft head promises p.promises.number)
    >>= calls_made p.calls)) d e in
    let g = some_of (read_promises p.promises.tokens) (λ promises. declarations_made p.declarations (empty_draft f.0 promises p.promises.number) >>= calls_made p.calls) d f.2 in
    let k = some_of (declarations_made p.declarations (empty_draft f.0 g.0 p.promises.number)) (calls_made p.calls) d g.2 in
    let declared = declarations_read p.declarations (empty_draft f.0 g.0 p.promises.number) k.0 (calls_lines p.calls) refl refl k.1 in
    let rest : List Spoken = p.declarations ++ calls_lines p.calls in
    let two = first_two p.head p.promises rest in
    ap (λ o. o >>= (λ first. slice_get (program_lines p) 1 >>= (λ second. read_head first.tokens >>= (λ head. read_promises second.tokens >>= (λ promises.
    read_lines (empty_draft head promises second.number) rest))))) two.0
    ∙ ap (λ o. o >>= (λ second. read_head p.head.tokens >>= (λ head. read_promises second.tokens >>= (λ promises. read_lines (empty_draft head promises second.number) rest)))) two.1
    ∙ ap (λ o. o >>= (λ head. read_promises p.promises.tokens >>= (λ promises. read_lines (empty_draft head promises p.promises.number) rest))) f.1
    ∙ ap (λ o. o >>= (λ promises. read_lines (empty_draft f.0 promises p.promises.number) rest)) g.1
    ∙ declared.0
    ∙ calls_read p.calls k.0 d declared.1 k.2
