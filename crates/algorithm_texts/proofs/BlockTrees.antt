-- Lines that are read one after the other are those of a block.
use Rattle.std.proofs.Common.{◌≡◌, ℕ, Bool, true, false, cond, ltb, List, [], ◌∷◌, ◌++◌, length, Option, Some, None, IfSome, slice_get, drop, codes, refl, sym, ap, subst}
use Rattle.algorithms.specs.declared.expression.Operator.TheVariants.{Within}
use Rattle.algorithm_texts.specs.declared.lines.Block.{Block as Kind}
use Rattle.algorithm_texts.specs.declared.lines.Block.TheVariants.{If, Else, For}
use Rattle.algorithm_texts.specs.declared.lines.CallRead.{CallRead}
use Rattle.algorithm_texts.specs.declared.lines.Opened.{Opened}
use Rattle.algorithm_texts.specs.declared.tokens.Sign.TheVariants.{Assign, OpenIndex, Colon}
use Rattle.algorithm_texts.specs.declared.tokens.Token.{Token}
use Rattle.algorithm_texts.specs.Parts.{Term, Joined, ◌>>=◌}
use Rattle.algorithm_texts.specs.Grammar.{is_among, row_read}
use Rattle.algorithm_texts.specs.Fronts.{is_the_word, is_the_sign, letters_of, past_word, past_sign, is_over, deed_said, past_withdraw, value_tokens, value_rest, begins_no_simple}
use Rattle.algorithm_texts.specs.Drafts.{SharedWord, DraftElements, AllElements, ElementAt, DraftMembers, DraftAction, Loading, Storing, Awaiting, Swapping, Accessing, Noting, Going, Beginning, Drafted}
use Rattle.algorithm_texts.specs.LineDrafts.{read_value, read_condition, scope_in, new_name, name_set, index_in, with_names, with_form, read_word, read_until, read_deed, read_access, begins_swap, read_swap_value, read_swap, read_awaited_swap, read_awaited_load, read_awaited, read_await, read_store, is_no_word, read_load, begins_word, read_assigned_value, read_assigned, read_private_assignment, read_brackets, read_row_value, read_element_set, begins_access, read_all_set, read_private_set, read_assignment, read_done, read_goto, read_simple, opening, closing, landing, read_test, read_then, is_looping, loops, read_members, loop_opened, read_for, else_after, else_in, going_round, end_in, read_label}
use Rattle.algorithm_texts.specs.TextDrafts.{with_number}
use Rattle.algorithm_texts.specs.Blocks.{Block, Empty, Line, Enclosed, Divided, read_if_block, read_if_line, begins_block, read_alone, divides, ends, draft_after_statement, beginning, dividing, ending, draft_after_block}

-- ---- steps that may fail

pub if_bind : {A B : Type 0} (P : A → Type 0) (Q : B → Type 0) (o : Option A) (f : A → Option B) → IfSome o P → ((x : A) → P x → IfSome (f x) Q) → IfSome (o >>= f) Q
if_bind P Q None f h k = tt
if_bind P Q (Some x) f h k = k x h

pub if_cond : {B : Type 0} (Q : B → Type 0) (b : Bool) (x y : Option B) → IfSome x Q → IfSome y Q → IfSome (cond b x y) Q
if_cond Q true x y h k = h
if_cond Q false x y h k = k

pub some_of : {A B : Type 0} (o : Option A) (f : A → Option B) (y : B) → (o >>= f) ≡ Some y → (x : A) × (o ≡ Some x) × (f x ≡ Some y)
some_of None f y e = absurd (cc)
some_of (Some x) f y e = (x, refl, e)

pub bind_same : {A B C : Type 0} (o : Option A) (f : A → Option C) (g : A → Option B) (h : B → Option C) → ((x : A) → f x ≡ (g x >>= h)) → (o >>= f) ≡ ((o >>= g) >>= h)
bind_same None f g h k = refl
bind_same (Some x) f g h k = k x

pub if_of : {A : Type 0} (P : A → Type 0) (o : Option A) (x : A) → IfSome o P → o ≡ Some x → P x
if_of P o x h e = subst (λ r. IfSome r P) e h

-- ---- what a line leaves open

-- what holds after each first step holds after both
pub on_all : {A B : Type 0} (Q : B → Type 0) (o : Option A) (f : A → Option B) → ((x : A) → IfSome (f x) Q) → IfSome (o >>= f) Q
on_all Q None f h = tt
on_all Q (Some x) f h = h x

-- the blocks that are open are these
abbrev pub Keeps : List Opened → Option Drafted → Type 0
Keeps os o = IfSome o (λ d. d.opened ≡ os)

pub any_some : {A : Type 0} (o : Option A) → IfSome o (λ x. Unit {0})
any_some None = tt
any_some (Some x) = tt

keeps : {A : Type 0} (os : List Opened) (o : Option A) (f : A → Option Drafted) → ((x : A) → Keeps os (f x)) → Keeps os (o >>= f)
keeps os o f h = if_bind (λ x. Unit {0}) (λ d. d.opened ≡ os) o f (any_some o) (λ x u. h x)

choice_keeps : (os : List Opened) (b : Bool) (x y : Option Drafted) → Keeps os x → Keeps os y → Keeps os (cond b x y)
choice_keeps os b x y h k = if_cond (λ d. d.opened ≡ os) b x y h k

-- the blocks that are open, the calls, and the shared words that are declared
abbrev pub round : Drafted → List Opened × List CallRead × List (List ℕ)
round d = (d.opened, d.calls, d.declared)

abbrev pub Stays : List Opened × List CallRead × List (List ℕ) → Option Drafted → Type 0
Stays r o = IfSome o (λ d. round d ≡ r)

pub stays : {A : Type 0} (r : List Opened × List CallRead × List (List ℕ)) (o : Option A) (f : A → Option Drafted) → ((x : A) → Stays r (f x)) → Stays r (o >>= f)
stays r o f h = if_bind (λ x. Unit {0}) (λ d. round d ≡ r) o f (any_some o) (λ x u. h x)

pub choice_stays : (r : List Opened × List CallRead × List (List ℕ)) (b : Bool) (x y : Option Drafted) → Stays r x → Stays r y → Stays r (cond b x y)
choice_stays r b x y h k = if_cond (λ d. round d ≡ r) b x y h k

deed_stays : (d : Drafted) (tokens : List Token) → Stays (round d) (read_deed d tokens)
deed_stays d tokens = stays (round d) (deed_said tokens) (λ deed. Some (with_form (Noting deed) d)) (λ deed. refl)

abbrev accessed : Drafted → SharedWord → DraftAction → List Token → Drafted
accessed d word act tokens = with_form (Accessing (record { word = word; act = act; may_withdraw = is_the_word (slice_get tokens 0) (codes "may") })) d

access_stays : (d : Drafted) (word : SharedWord) (act : DraftAction) (tokens : List Token) → Stays (round d) (read_access d word act tokens)
access_stays d word act tokens =
    stays (round d) (past_withdraw tokens) (λ rest. cond (is_over rest) (Some (accessed d word act tokens)) (read_deed (accessed d word act tokens) rest))
    (λ rest. choice_stays (round d) (is_over rest) (Some (accessed d word act tokens)) (read_deed (accessed d word act tokens) rest) refl (deed_stays (accessed d word act tokens) rest))

swap_stays : (d : Drafted) (name : ℕ) (tokens : List Token) → Stays (round d) (read_swap d name tokens)
swap_stays d name tokens =
    stays (round d) (read_word (scope_in d) d.extents d.names tokens) _
    (λ word. stays (round d) (read_swap_value (scope_in d) word.2 word.1) _
    (λ r. access_stays (with_names r.3 d) word.0 (Swapping name r.0 r.1 None) r.2))

awaited_swap_stays : (d : Drafted) (name : ℕ) (tokens : List Token) → Stays (round d) (read_awaited_swap d name tokens)
awaited_swap_stays d name tokens =
    stays (round d) (read_word (scope_in d) d.extents d.names tokens) _
    (λ word. stays (round d) (read_swap_value (scope_in d) word.2 word.1) _
    (λ r. stays (round d) (read_until (scope_in d) r.3 r.2) _
    (λ until. access_stays (with_names until.2 d) word.0 (Swapping name r.0 r.1 (Some until.0)) until.1)))

awaited_load_stays : (d : Drafted) (name : ℕ) (tokens : List Token) → Stays (round d) (read_awaited_load d name tokens)
awaited_load_stays d name tokens =
    stays (round d) (read_word (scope_in d) d.extents d.names tokens) _
    (λ word. stays (round d) (read_until (scope_in d) word.2 word.1) _
    (λ until. access_stays (with_names until.2 d) word.0 (Awaiting name until.0) until.1))

awaited_stays : (d : Drafted) (name : ℕ) (tokens : List Token) → Stays (round d) (read_awaited d name tokens)
awaited_stays d name tokens =
    choice_stays (round d) (begins_swap tokens) (read_awaited_swap d name (drop 1 tokens)) (read_awaited_load d name tokens)
    (awaited_swap_stays d name (drop 1 tokens)) (awaited_load_stays d name tokens)

await_stays : (d : Drafted) (tokens : List Token) → Stays (round d) (read_await d tokens)
await_stays d tokens =
    stays (round d) (name_set (scope_in d) d.names (slice_get tokens 0)) _
    (λ name. stays (round d) (past_sign (drop 1 tokens) Assign) _
    (λ rest. awaited_stays (with_names name.1 d) (index_in name.0) rest))

store_stays : (d : Drafted) (tokens : List Token) → Stays (round d) (read_store d tokens)
store_stays d tokens =
    stays (round d) (read_word (scope_in d) d.extents d.names tokens) _
    (λ word. stays (round d) (past_sign word.1 Assign) _
    (λ inner. stays (round d) (read_value (scope_in d) word.2 (value_tokens inner)) _
    (λ v. access_stays (with_names v.1 d) word.0 (Storing v.0) (value_rest inner))))

load_stays : (d : Drafted) (name : ℕ) (tokens : List Token) → Stays (round d) (read_load d name tokens)
load_stays d name tokens =
    stays (round d) (read_word (scope_in d) d.extents d.names tokens) _
    (λ word. choice_stays (round d) (is_no_word (slice_get word.1 0)) None (read_access (with_names word.2 d) word.0 (Loading name) word.1) tt
    (access_stays (with_names word.2 d) word.0 (Loading name) word.1))

value_stays : (d : Drafted) (name : ℕ) (tokens : List Token) → Stays (round d) (read_assigned_value d name tokens)
value_stays d name tokens =
    stays (round d) (read_value (scope_in d) d.names (value_tokens tokens)) _
    (λ v. choice_stays (round d) (is_over (value_rest tokens)) _ None refl tt)

assigned_stays : (d : Drafted) (name : ℕ) (tokens : List Token) → Stays (round d) (read_assigned d name tokens)
assigned_stays d name tokens =
    choice_stays (round d) (begins_swap tokens) (read_swap d name (drop 1 tokens)) _ (swap_stays d name (drop 1 tokens))
    (choice_stays (round d) (begins_word (scope_in d) (slice_get tokens 0) (slice_get tokens 1)) (read_load d name tokens) (read_assigned_value d name tokens)
    (load_stays d name tokens) (value_stays d name tokens))

private_stays : (d : Drafted) (tokens : List Token) → Stays (round d) (read_private_assignment d tokens)
private_stays d tokens =
    stays (round d) (name_set (scope_in d) d.names (slice_get tokens 0)) _
    (λ name. stays (round d) (past_sign (drop 1 tokens) Assign) _
    (λ rest. assigned_stays (with_names name.1 d) (index_in name.0) rest))

row_value_stays : (d : Drafted) (first : ℕ) (elements : DraftElements) (tokens : List Token) → Stays (round d) (read_row_value d first elements tokens)
row_value_stays d first elements tokens =
    stays (round d) (read_value (scope_in d) d.names (value_tokens tokens)) _
    (λ v. choice_stays (round d) (is_over (value_rest tokens)) _ None refl tt)

element_stays : (d : Drafted) (first : ℕ) (size : Term) (tokens : List Token) → Stays (round d) (read_element_set d first size tokens)
element_stays d first size tokens =
    stays (round d) (read_brackets (scope_in d) d.names tokens) _
    (λ i. stays (round d) (past_sign i.1 Assign) _
    (λ rest. row_value_stays (with_names i.2 d) first (ElementAt (Joined Within i.0 size)) rest))

all_stays : (d : Drafted) (first : ℕ) (size : Term) (tokens : List Token) → Stays (round d) (read_all_set d first size tokens)
all_stays d first size tokens =
    stays (round d) (past_sign tokens Assign) _
    (λ rest. choice_stays (round d) (begins_access (scope_in d) rest) None (read_row_value d first (AllElements size) rest) tt
    (row_value_stays d first (AllElements size) rest))

set_stays : (d : Drafted) (tokens : List Token) (r : Option (ℕ × Term)) → Stays (round d) (read_private_set d tokens r)
set_stays d tokens None =
    choice_stays (round d) (is_the_sign (slice_get tokens 1) OpenIndex) None _ tt
    (choice_stays (round d) (is_the_sign (slice_get tokens 1) Assign) (read_private_assignment d tokens) None (private_stays d tokens) tt)
set_stays d tokens (Some row) =
    choice_stays (round d) (is_the_sign (slice_get (drop 1 tokens) 0) OpenIndex) (read_element_set d row.0 row.1 (drop 1 tokens)) (read_all_set d row.0 row.1 (drop 1 tokens))
    (element_stays d row.0 row.1 (drop 1 tokens)) (all_stays d row.0 row.1 (drop 1 tokens))

assignment_stays : (d : Drafted) (tokens : List Token) → Stays (round d) (read_assignment d tokens)
assignment_stays d tokens =
    stays (round d) (letters_of (slice_get tokens 0)) _
    (λ first. choice_stays (round d) (is_among d.declared first) (read_store d tokens) _ (store_stays d tokens)
    (set_stays d tokens (row_read (scope_in d) first)))

done_stays : (d : Drafted) (rest : List Token) (answer : List ℕ) → Stays (round d) (read_done d rest answer)
done_stays d rest answer = choice_stays (round d) (is_over rest) _ None refl tt

goto_stays : (d : Drafted) (rest : List Token) → Stays (round d) (read_goto d rest)
goto_stays d rest = stays (round d) (new_name (slice_get rest 0)) _ (λ name. choice_stays (round d) (is_over (drop 1 rest)) _ None refl tt)

simple_stays : (d : Drafted) (tokens : List Token) (answer : List ℕ) → Stays (round d) (read_simple d tokens answer)
simple_stays d tokens answer =
    choice_stays (round d) (is_the_word (slice_get tokens 0) (codes "goto")) (read_goto d (drop 1 tokens)) _ (goto_stays d (drop 1 tokens))
    (choice_stays (round d) (is_the_word (slice_get tokens 0) (codes "done")) (read_done d (drop 1 tokens) answer) _ (done_stays d (drop 1 tokens) answer)
    (choice_stays (round d) (is_the_word (slice_get tokens 0) (codes "this")) (read_deed d tokens) _ (deed_stays d tokens)
    (choice_stays (round d) (is_the_word (slice_get tokens 0) (codes "await")) (read_await d (drop 1 tokens)) (read_assignment d tokens) (await_stays d (drop 1 tokens))
    (assignment_stays d tokens))))

label_stays : (d : Drafted) (tokens : List Token) → Stays (round d) (read_label d tokens)
label_stays d tokens = stays (round d) (new_name (slice_get tokens 0)) _ (λ name. choice_stays (round d) (is_over (drop 2 tokens)) _ None refl tt)

-- the line of a condition opens nothing
test_stays : (d : Drafted) (tokens : List Token) → IfSome (read_test d tokens) (λ test. round test.0 ≡ round d)
test_stays d tokens =
    if_bind (λ c. Unit {0}) (λ test. round test.0 ≡ round d) (read_condition (scope_in d) d.names (value_tokens tokens)) _ (any_some (read_condition (scope_in d) d.names (value_tokens tokens)))
    (λ c u. if_bind (λ rest. Unit {0}) (λ test. round test.0 ≡ round d) (past_word (value_rest tokens) (codes "then")) _ (any_some (past_word (value_rest tokens) (codes "then"))) (λ rest v. refl))

then_stays : (place : ℕ) (d : Drafted) (tokens : List Token) (answer : List ℕ) → Stays (round d) (read_then place d tokens answer)
then_stays place d tokens answer = if_bind (λ now. round now ≡ round d) (λ now. round now ≡ round d) (read_simple d tokens answer) _ (simple_stays d tokens answer) (λ now e. e)

if_line_stays : (d : Drafted) (tokens : List Token) (answer : List ℕ) → Stays (round d) (read_if_line d tokens answer)
if_line_stays d tokens answer =
    if_bind (λ test. round test.0 ≡ round d) (λ now. round now ≡ round d) (read_test d tokens) _ (test_stays d tokens)
    (λ test e. choice_stays (round d) (is_over test.1) None _ tt
    (choice_stays (round d) (begins_no_simple test.1) None (read_then (length d.lines) test.0 test.1 answer) tt
    (subst (λ os. Stays os (read_then (length d.lines) test.0 test.1 answer)) e (then_stays (length d.lines) test.0 test.1 answer))))

-- a line alone leaves the blocks that are open
pub alone_stays : (d : Drafted) (tokens : List Token) (answer : List ℕ) → Stays (round d) (read_alone d tokens answer)
alone_stays d tokens answer =
    choice_stays (round d) (is_the_word (slice_get tokens 0) (codes "if")) (read_if_line d (drop 1 tokens) answer) _ (if_line_stays d (drop 1 tokens) answer)
    (choice_stays (round d) (is_the_word (slice_get tokens 0) (codes "for")) None _ tt
    (choice_stays (round d) (is_the_word (slice_get tokens 0) (codes "else")) None _ tt
    (choice_stays (round d) (is_the_word (slice_get tokens 0) (codes "end")) None _ tt
    (choice_stays (round d) (is_the_sign (slice_get tokens 1) Colon) (read_label d tokens) (read_simple d tokens answer) (label_stays d tokens) (simple_stays d tokens answer)))))

if_map : {A : Type 0} (P Q : A → Type 0) (o : Option A) → IfSome o P → ((x : A) → P x → Q x) → IfSome o Q
if_map P Q None h k = tt
if_map P Q (Some x) h k = k x h

alone_keeps : (d : Drafted) (tokens : List Token) (answer : List ℕ) → Keeps d.opened (read_alone d tokens answer)
alone_keeps d tokens answer = if_map (λ now. round now ≡ round d) (λ now. now.opened ≡ d.opened) (read_alone d tokens answer) (alone_stays d tokens answer) (λ now e. ap (λ r. r.0) e)

-- one block more is open, and it is of this kind
abbrev pub Opens : List Opened → Option Drafted → Type 0
Opens os o = IfSome o (λ d. (x : Opened) × (d.opened ≡ x ∷ os))

abbrev with_block : ℕ → Kind → Drafted → Drafted
with_block place kind d = record d {
  opened = record { place = place; first = length d.lines; kind = kind; block = length d.blocks } ∷ d.opened;
  blocks = d.blocks ++ (length d.lines, length d.lines) ∷ [];
}

abbrev top_of : ℕ → Kind → Drafted → Opened
top_of place kind d = record { place = place; first = length d.lines; kind = kind; block = length d.blocks }

opening_opens : (place : ℕ) (kind : Kind) (d : Drafted) → Opens d.opened (opening place kind d)
opening_opens place kind d =
    if_cond (λ (now : Drafted). (x : Opened) × (now.opened ≡ x ∷ d.opened)) (ltb (length d.opened) 16) (Some (with_block place kind d)) None (top_of place kind d, refl) tt

if_block_opens : (d : Drafted) (tokens : List Token) → Opens d.opened (read_if_block d tokens)
if_block_opens d tokens =
    if_bind (λ test. round test.0 ≡ round d) (λ now. (x : Opened) × (now.opened ≡ x ∷ d.opened)) (read_test d tokens) _ (test_stays d tokens)
    (λ test e. if_cond (λ now. (x : Opened) × (now.opened ≡ x ∷ d.opened)) (is_over test.1) (opening (length d.lines) If test.0) None
    (subst (λ os. Opens os (opening (length d.lines) If test.0)) (ap (λ r. r.0) e) (opening_opens (length d.lines) If test.0)) tt)

loop_opens : (k : ℕ) (members : DraftMembers) (d : Drafted) → Opens d.opened (loop_opened k members d)
loop_opens k members d =
    if_cond (λ (now : Drafted). (x : Opened) × (now.opened ≡ x ∷ d.opened)) (is_looping k d.opened) None
    (cond (ltb (loops d.opened) 2) (opening (length d.lines) (For k) (with_form (Beginning k members 0) d)) None) tt
    (if_cond (λ (now : Drafted). (x : Opened) × (now.opened ≡ x ∷ d.opened)) (ltb (loops d.opened) 2) (opening (length d.lines) (For k) (with_form (Beginning k members 0) d)) None
    (opening_opens (length d.lines) (For k) (with_form (Beginning k members 0) d)) tt)

for_opens : (d : Drafted) (tokens : List Token) → Opens d.opened (read_for d tokens)
for_opens d tokens =
    if_bind (λ name. Unit {0}) (λ now. (x : Opened) × (now.opened ≡ x ∷ d.opened)) (name_set (scope_in d) d.names (slice_get tokens 0)) _ (any_some (name_set (scope_in d) d.names (slice_get tokens 0)))
    (λ name u. if_bind (λ members. Unit {0}) (λ now. (x : Opened) × (now.opened ≡ x ∷ d.opened)) (read_members (scope_in d) name.1 (drop 1 tokens)) _ (any_some (read_members (scope_in d) name.1 (drop 1 tokens)))
    (λ members v. if_cond (λ (now : Drafted). (x : Opened) × (now.opened ≡ x ∷ d.opened)) (ltb (index_in name.0) d.lasting) None (loop_opened (index_in name.0) members.0 (with_names members.1 d)) tt
    (loop_opens (index_in name.0) members.0 (with_names members.1 d))))

pub begins_opens : (d : Drafted) (tokens : List Token) → Opens d.opened (begins_block d tokens)
begins_opens d tokens =
    if_cond (λ now. (x : Opened) × (now.opened ≡ x ∷ d.opened)) (is_the_word (slice_get tokens 0) (codes "if")) (read_if_block d (drop 1 tokens)) _ (if_block_opens d (drop 1 tokens))
    (if_cond (λ now. (x : Opened) × (now.opened ≡ x ∷ d.opened)) (is_the_word (slice_get tokens 0) (codes "for")) (read_for d (drop 1 tokens)) None (for_opens d (drop 1 tokens)) tt)

-- an `else` leaves a block open that takes no further one
abbrev pub Divides : List Opened → Option Drafted → Type 0
Divides os o = IfSome o (λ d. (x : Opened) × (x.kind ≡ Else) × (d.opened ≡ x ∷ os))

opening_divides : (place : ℕ) (d : Drafted) → Divides d.opened (opening place Else d)
opening_divides place d =
    if_cond (λ (now : Drafted). (x : Opened) × (x.kind ≡ Else) × (now.opened ≡ x ∷ d.opened)) (ltb (length d.opened) 16) (Some (with_block place Else d)) None
    (top_of place Else d, refl, refl) tt

else_opens : (o : Opened) (kind : Kind) (os : List Opened) (d : Drafted) → Divides os (else_after o kind os d)
else_opens o If os d = opening_divides (length d.lines) (landing o.place (closing o os (with_form (Going 0) d)))
else_opens o Else os d = tt
else_opens o (For name) os d = tt

divides_opens : (o : Opened) (os : List Opened) (d : Drafted) (tokens : List Token) → Divides os (divides (o ∷ os) d tokens)
divides_opens o os d tokens =
    if_cond (λ now. (x : Opened) × (x.kind ≡ Else) × (now.opened ≡ x ∷ os)) (is_the_word (slice_get tokens 0) (codes "else")) _ None
    (if_cond (λ now. (x : Opened) × (x.kind ≡ Else) × (now.opened ≡ x ∷ os)) (is_over (drop 1 tokens)) (else_in (o ∷ os) d) None (else_opens o o.kind os d) tt) tt

ends_keeps : (o : Opened) (os : List Opened) (d : Drafted) (tokens : List Token) → Keeps os (ends (o ∷ os) d tokens)
ends_keeps o os d tokens =
    choice_keeps os (is_the_word (slice_get tokens 0) (codes "end")) _ None (choice_keeps os (is_over (drop 1 tokens)) (end_in (o ∷ os) d) None refl tt) tt

ends_keep : (around os : List Opened) (o : Opened) (d : Drafted) (tokens : List Token) → around ≡ o ∷ os → Keeps os (ends around d tokens)
ends_keep around os o d tokens e = subst (λ ps. Keeps os (ends ps d tokens)) (sym e) (ends_keeps o os d tokens)

pub divides_open : (around os : List Opened) (o : Opened) (d : Drafted) (tokens : List Token) → around ≡ o ∷ os → Divides os (divides around d tokens)
divides_open around os o d tokens e = subst (λ ps. Divides os (divides ps d tokens)) (sym e) (divides_opens o os d tokens)

-- a block leaves the blocks that are open round it
pub compiled_keeps : (b : Block) (d : Drafted) → Keeps d.opened (draft_after_block b d)
compiled_keeps Empty d = refl
compiled_keeps (Line s rest) d =
    if_bind (λ now. now.opened ≡ d.opened) (λ now. now.opened ≡ d.opened) (draft_after_statement d s) (draft_after_block rest) (alone_keeps (with_number s.number d) s.tokens s.answer)
    (λ now e. subst (λ os. Keeps os (draft_after_block rest now)) e (compiled_keeps rest now))
compiled_keeps (Enclosed s body e rest) d =
    if_bind (λ begun. (x : Opened) × (begun.opened ≡ x ∷ d.opened)) (λ now. now.opened ≡ d.opened) (beginning d s) _ (begins_opens (with_number s.number d) s.tokens)
    (λ begun h. keeps d.opened (draft_after_block body begun) _
    (λ inner. if_bind (λ now. now.opened ≡ d.opened) (λ now. now.opened ≡ d.opened) (ending begun.opened inner e) (draft_after_block rest)
    (ends_keep begun.opened d.opened h.0 (with_number e.number inner) e.tokens h.1)
    (λ now k. subst (λ os. Keeps os (draft_after_block rest now)) k (compiled_keeps rest now))))
compiled_keeps (Divided s body o other e rest) d =
    if_bind (λ begun. (x : Opened) × (begun.opened ≡ x ∷ d.opened)) (λ now. now.opened ≡ d.opened) (beginning d s) _ (begins_opens (with_number s.number d) s.tokens)
    (λ begun h. keeps d.opened (draft_after_block body begun) _
    (λ inner. if_bind (λ now. (x : Opened) × (x.kind ≡ Else) × (now.opened ≡ x ∷ d.opened)) (λ now. now.opened ≡ d.opened) (dividing begun.opened inner o) _
    (divides_open begun.opened d.opened h.0 (with_number o.number inner) o.tokens h.1)
    (λ divided g. keeps d.opened (draft_after_block other divided) _
    (λ second. if_bind (λ now. now.opened ≡ d.opened) (λ now. now.opened ≡ d.opened) (ending divided.opened second e) (draft_after_block rest)
    (ends_keep divided.opened d.opened g.0 (with_number e.number second) e.tokens g.2)
    (λ now k. subst (λ os. Keeps os (draft_after_block rest now)) k (compiled_keeps rest now))))))

-- ---- the calls

-- the calls, and the shared words that are declared
abbrev pub rest_of : Drafted → List CallRead × List (List ℕ)
rest_of d = (d.calls, d.declared)

-- they are these
abbrev pub Calls : List CallRead × List (List ℕ) → Option Drafted → Type 0
Calls cs o = IfSome o (λ d. rest_of d ≡ cs)

choice_calls : (cs : List CallRead × List (List ℕ)) (b : Bool) (x y : Option Drafted) → Calls cs x → Calls cs y → Calls cs (cond b x y)
choice_calls cs b x y h k = if_cond (λ d. rest_of d ≡ cs) b x y h k

opening_calls : (place : ℕ) (kind : Kind) (d : Drafted) → Calls (rest_of d) (opening place kind d)
opening_calls place kind d = choice_calls (rest_of d) (ltb (length d.opened) 16) (Some (with_block place kind d)) None refl tt

if_calls : (d : Drafted) (tokens : List Token) → Calls (rest_of d) (read_if_block d tokens)
if_calls d tokens =
    if_bind (λ test. round test.0 ≡ round d) (λ now. rest_of now ≡ rest_of d) (read_test d tokens) _ (test_stays d tokens)
    (λ test e. choice_calls (rest_of d) (is_over test.1) (opening (length d.lines) If test.0) None
    (subst (λ cs. Calls cs (opening (length d.lines) If test.0)) (ap (λ (r : List Opened × List CallRead × List (List ℕ)). (r.1, r.2)) e) (opening_calls (length d.lines) If test.0)) tt)

loop_calls : (k : ℕ) (members : DraftMembers) (d : Drafted) → Calls (rest_of d) (loop_opened k members d)
loop_calls k members d =
    choice_calls (rest_of d) (is_looping k d.opened) None
    (cond (ltb (loops d.opened) 2) (opening (length d.lines) (For k) (with_form (Beginning k members 0) d)) None) tt
    (choice_calls (rest_of d) (ltb (loops d.opened) 2) (opening (length d.lines) (For k) (with_form (Beginning k members 0) d)) None
    (opening_calls (length d.lines) (For k) (with_form (Beginning k members 0) d)) tt)

for_calls : (d : Drafted) (tokens : List Token) → Calls (rest_of d) (read_for d tokens)
for_calls d tokens =
    if_bind (λ name. Unit {0}) (λ now. rest_of now ≡ rest_of d) (name_set (scope_in d) d.names (slice_get tokens 0)) _ (any_some (name_set (scope_in d) d.names (slice_get tokens 0)))
    (λ name u. if_bind (λ members. Unit {0}) (λ now. rest_of now ≡ rest_of d) (read_members (scope_in d) name.1 (drop 1 tokens)) _ (any_some (read_members (scope_in d) name.1 (drop 1 tokens)))
    (λ members v. choice_calls (rest_of d) (ltb (index_in name.0) d.lasting) None (loop_opened (index_in name.0) members.0 (with_names members.1 d)) tt
    (loop_calls (index_in name.0) members.0 (with_names members.1 d))))

pub begins_calls : (d : Drafted) (tokens : List Token) → Calls (rest_of d) (begins_block d tokens)
begins_calls d tokens =
    choice_calls (rest_of d) (is_the_word (slice_get tokens 0) (codes "if")) (read_if_block d (drop 1 tokens)) (cond (is_the_word (slice_get tokens 0) (codes "for")) (read_for d (drop 1 tokens)) None)
    (if_calls d (drop 1 tokens))
    (choice_calls (rest_of d) (is_the_word (slice_get tokens 0) (codes "for")) (read_for d (drop 1 tokens)) None (for_calls d (drop 1 tokens)) tt)

else_calls : (o : Opened) (kind : Kind) (os : List Opened) (d : Drafted) → Calls (rest_of d) (else_after o kind os d)
else_calls o If os d = opening_calls (length d.lines) Else (landing o.place (closing o os (with_form (Going 0) d)))
else_calls o Else os d = tt
else_calls o (For name) os d = tt

else_in_calls : (os : List Opened) (d : Drafted) → Calls (rest_of d) (else_in os d)
else_in_calls [] d = tt
else_in_calls (o ∷ os) d = else_calls o o.kind os d

pub divides_calls : (os : List Opened) (d : Drafted) (tokens : List Token) → Calls (rest_of d) (divides os d tokens)
divides_calls os d tokens =
    choice_calls (rest_of d) (is_the_word (slice_get tokens 0) (codes "else")) (cond (is_over (drop 1 tokens)) (else_in os d) None) None
    (choice_calls (rest_of d) (is_over (drop 1 tokens)) (else_in os d) None (else_in_calls os d) tt) tt

round_calls : (at first : ℕ) (kind : Kind) (d : Drafted) → rest_of (going_round at first kind d) ≡ rest_of d
round_calls at first If d = refl
round_calls at first Else d = refl
round_calls at first (For name) d = refl

end_in_calls : (os : List Opened) (d : Drafted) → Calls (rest_of d) (end_in os d)
end_in_calls [] d = tt
end_in_calls (o ∷ os) d = round_calls o.place o.first o.kind d

pub ends_calls : (os : List Opened) (d : Drafted) (tokens : List Token) → Calls (rest_of d) (ends os d tokens)
ends_calls os d tokens =
    choice_calls (rest_of d) (is_the_word (slice_get tokens 0) (codes "end")) (cond (is_over (drop 1 tokens)) (end_in os d) None) None
    (choice_calls (rest_of d) (is_over (drop 1 tokens)) (end_in os d) None (end_in_calls os d) tt) tt

-- a line alone leaves them
pub alone_rest : (d : Drafted) (tokens : List Token) (answer : List ℕ) (now : Drafted) → read_alone d tokens answer ≡ Some now → rest_of now ≡ rest_of d
alone_rest d tokens answer now e =
    ap (λ (r : List Opened × List CallRead × List (List ℕ)). (r.1, r.2)) (if_of (λ x. round x ≡ round d) (read_alone d tokens answer) now (alone_stays d tokens answer) e)
