-- A text that is read is that of a program.
use Rattle.std.proofs.Common.{◌≡◌, ◌⊎◌, ℕ, Bool, true, false, cond, eqb, ltb, leb, ◌+◌, List, [], ◌∷◌, ◌++◌, length, Option, Some, None, IfSome, slice_get, drop, codes, refl, sym, ap, ◌∙◌, subst, inl, inr, append_assoc, arith}
use Rattle.std.specs.Prelude.{Vec}
use Rattle.std.specs.declared.alloc.Global.{Global}
use Rattle.std.proofs.lemmas.Bool.Decides.{nat_tests}
use Rattle.std.proofs.lemmas.List.{append-nil}
use Rattle.std.proofs.lemmas.Option.{slice_get_past, slice_get_read, same_Some}
use Rattle.algorithm_texts.specs.declared.lines.CallRead.{CallRead}
use Rattle.algorithm_texts.specs.declared.lines.Draft.{Draft}
use Rattle.algorithm_texts.specs.declared.lines.Opened.{Opened}
use Rattle.algorithm_texts.specs.declared.tokens.Sign.TheVariants.{OpenIndex}
use Rattle.algorithm_texts.specs.declared.tokens.Token.{Token}
use Rattle.algorithm_texts.specs.Parts.{◌>>=◌}
use Rattle.algorithm_texts.specs.Fronts.{is_the_word, is_the_sign, is_over, named_by}
use Rattle.algorithm_texts.specs.Drafts.{Drafted, draft_view, with_row}
use Rattle.algorithm_texts.specs.LineDrafts.{read_statement, scope_in, with_names}
use Rattle.algorithm_texts.specs.NeverClaims.{claimed_places, read_claim, read_never, read_processes, without_rows}
use Rattle.algorithm_texts.specs.TextDrafts.{Spoken, with_number, empty_draft, call_words, has_call, with_call, end_call_in, end_call, ended_calls, read_call, undeclared_name, read_extent, is_array, read_word_values, with_lasting, read_shared, read_size, read_row, read_single, read_private, read_constant_value, read_constant, read_declaration, read_line, read_lines, read_head, read_promises, read_text}
use Rattle.algorithm_texts.specs.TextLines.{TextSays}
use Rattle.algorithm_texts.specs.Blocks.{Block, lines_in, begins_block, divides, ends, draft_after_block, read_statements}
use Rattle.algorithm_texts.specs.FinishedDrafts.{finished_draft, with_lines}
use Rattle.algorithm_texts.specs.UnreachedLines.{EndUnreached, said_starts, starts_in}
use Rattle.algorithm_texts.specs.Lawful.{CallsFit, NotesDeed}
use Rattle.algorithm_texts.specs.Programs.{CallLines, Program, calls_lines, program_lines, declarations_made, call_begun, calls_made, meaning_of, SpellsAlgorithm, SpellsDraft}
use Rattle.algorithm_texts.specs.Runs.{AllRuns}
use Rattle.algorithms.specs.declared.first_values.FirstValues.{FirstValues}
use Rattle.algorithms.specs.declared.line.AlgorithmDeed.TheVariants.{Enter, Leave}
use Rattle.algorithm_texts.proofs.BlockTrees.{some_of, if_of, if_cond, on_all, rest_of, alone_rest, begins_calls, divides_calls, ends_calls}
use Rattle.algorithm_texts.proofs.BlockPaths.{kinds, make_blocks}

-- ---- what lines leave

-- a statement leaves the calls, and the shared words that are declared
statement_rest : (d : Drafted) (tokens : List Token) (answer : List ℕ) (now : Drafted) → read_statement d tokens answer ≡ Some now → rest_of now ≡ rest_of d
statement_rest d tokens answer now e = elim (kinds d tokens answer now e) [
  | inl k ↦ alone_rest d tokens answer now k
  | inr rest ↦ elim rest [
    | inl k ↦ if_of (λ x. rest_of x ≡ rest_of d) (begins_block d tokens) now (begins_calls d tokens) k
    | inr more ↦ elim more [
      | inl k ↦ if_of (λ x. rest_of x ≡ rest_of d) (divides d.opened d tokens) now (divides_calls d.opened d tokens) k
      | inr k ↦ if_of (λ x. rest_of x ≡ rest_of d) (ends d.opened d tokens) now (ends_calls d.opened d tokens) k
    ]
  ]
]

-- the blocks that are open, and the calls
abbrev pub around : Drafted → List Opened × List CallRead
around d = (d.opened, d.calls)

shared_stays : (d : Drafted) (tokens : List Token) → IfSome (read_shared d tokens) (λ now. around now ≡ around d)
shared_stays d tokens =
    on_all (λ now. around now ≡ around d) (undeclared_name (scope_in d) d.names (slice_get tokens 0)) _
    (λ name. on_all (λ now. around now ≡ around d) (cond (ltb (length d.declared) 64) (read_extent (scope_in d) d.names (drop 1 tokens)) None) _
    (λ extent. on_all (λ now. around now ≡ around d) (read_word_values (scope_in d) (is_array extent.0) extent.2 extent.1) _ (λ v. refl)))

single_stays : (d : Drafted) (name : List ℕ) (tokens : List Token) → IfSome (read_single d name tokens) (λ now. around now ≡ around d)
single_stays d name tokens =
    if_cond (λ now. around now ≡ around d) (ltb (length d.names) 64) (cond (is_over tokens) (Some (with_lasting name d)) None) None
    (if_cond (λ now. around now ≡ around d) (is_over tokens) (Some (with_lasting name d)) None refl tt) tt

row_stays : (d : Drafted) (name : List ℕ) (tokens : List Token) → IfSome (read_row d name tokens) (λ now. around now ≡ around d)
row_stays d name tokens =
    on_all (λ now. around now ≡ around d) (read_size (scope_in d) d.names tokens) _
    (λ size. if_cond (λ now. around now ≡ around d) (leb (length d.names + 16) 64) (cond (is_over size.1) (Some (with_row name size.0 (with_names size.2 d))) None) None
    (if_cond (λ now. around now ≡ around d) (is_over size.1) (Some (with_row name size.0 (with_names size.2 d))) None refl tt) tt)

private_stays : (d : Drafted) (tokens : List Token) → IfSome (read_private d tokens) (λ now. around now ≡ around d)
private_stays d tokens =
    on_all (λ now. around now ≡ around d) (undeclared_name (scope_in d) d.names (slice_get tokens 0)) _
    (λ name. if_cond (λ now. around now ≡ around d) (is_the_sign (slice_get tokens 1) OpenIndex) (read_row d name (drop 1 tokens)) (read_single d name (drop 1 tokens))
    (row_stays d name (drop 1 tokens)) (single_stays d name (drop 1 tokens)))

constant_stays : (d : Drafted) (tokens : List Token) → IfSome (read_constant d tokens) (λ now. around now ≡ around d)
constant_stays d tokens =
    on_all (λ now. around now ≡ around d) (undeclared_name (scope_in d) d.names (slice_get tokens 0)) _
    (λ name. on_all (λ now. around now ≡ around d) (read_constant_value (scope_in d) d.names (drop 1 tokens)) _ (λ v. refl))

never_stays : (d : Drafted) (tokens : List Token) → IfSome (read_never d tokens) (λ now. around now ≡ around d)
never_stays d tokens =
    on_all (λ now. around now ≡ around d) (read_processes (scope_in (without_rows d)) tokens) _
    (λ processes. on_all (λ now. around now ≡ around d) (read_claim (with_names processes.0 (without_rows d)) processes.1) _ (λ claim. refl))

pub declaration_stays : (d : Drafted) (tokens : List Token) → IfSome (read_declaration d tokens) (λ now. around now ≡ around d)
declaration_stays d tokens =
    if_cond (λ now. around now ≡ around d) (is_the_word (slice_get tokens 0) (codes "shared")) (read_shared d (drop 1 tokens))
    (cond (is_the_word (slice_get tokens 0) (codes "private")) (read_private d (drop 1 tokens))
    (cond (is_the_word (slice_get tokens 0) (codes "constant")) (read_constant d (drop 1 tokens))
    (cond (is_the_word (slice_get tokens 0) (codes "never")) (read_never d (drop 1 tokens)) None))) (shared_stays d (drop 1 tokens))
    (if_cond (λ now. around now ≡ around d) (is_the_word (slice_get tokens 0) (codes "private")) (read_private d (drop 1 tokens))
    (cond (is_the_word (slice_get tokens 0) (codes "constant")) (read_constant d (drop 1 tokens))
    (cond (is_the_word (slice_get tokens 0) (codes "never")) (read_never d (drop 1 tokens)) None)) (private_stays d (drop 1 tokens))
    (if_cond (λ now. around now ≡ around d) (is_the_word (slice_get tokens 0) (codes "constant")) (read_constant d (drop 1 tokens))
    (cond (is_the_word (slice_get tokens 0) (codes "never")) (read_never d (drop 1 tokens)) None) (constant_stays d (drop 1 tokens))
    (if_cond (λ now. around now ≡ around d) (is_the_word (slice_get tokens 0) (codes "never")) (read_never d (drop 1 tokens)) None (never_stays d (drop 1 tokens)) tt)))

-- ---- where a call ends

ended_at : (os : List Opened) (last : ℕ) (d now : Drafted) → end_call_in os last d ≡ Some now → (os ≡ []) × (now.opened ≡ d.opened) × (now.declared ≡ d.declared)
ended_at [] last d now e =
    let same = same_Some (record d { calls = ended_calls (length d.lines) last d.calls }) now e in
    (refl, ap (λ n. n.opened) (sym same), ap (λ n. n.declared) (sym same))
ended_at (o ∷ os) last d now e = absurd (cc)

ended_open : (last : ℕ) (d now : Drafted) → end_call last d ≡ Some now → (d.opened ≡ []) × (now.opened ≡ d.opened) × (now.declared ≡ d.declared)
ended_open last d now e = ended_at d.opened last d now e

made_at : (b c : Bool) (x now : Drafted) → cond b (cond c None (Some x)) None ≡ Some now → x ≡ now
made_at true true x now e = absurd (cc)
made_at true false x now e = cc
made_at false c x now e = absurd (cc)

-- the line that begins a call
pub record Begins (d now : Drafted) : Type 0 where
  pub closed : d.opened ≡ []
  pub first : now.opened ≡ []
  pub call : CallRead
  pub calls : List CallRead
  pub one : now.calls ≡ call ∷ calls
  pub declared : now.declared ≡ d.declared

pub begins_call : (d : Drafted) (tokens : List Token) (last : ℕ) (now : Drafted) → read_call d tokens last ≡ Some now → Begins d now
begins_call d tokens last now e =
    let x = some_of (end_call last d) (λ ended. named_by call_words (slice_get tokens 0) >>= (λ call. cond (is_over (drop 1 tokens)) (cond (has_call call ended.calls) None (Some (with_call call ended))) None)) now e in
    let y = some_of (named_by call_words (slice_get tokens 0)) (λ call. cond (is_over (drop 1 tokens)) (cond (has_call call x.0.calls) None (Some (with_call call x.0))) None) now x.2 in
    let same : with_call y.0 x.0 ≡ now = made_at (is_over (drop 1 tokens)) (has_call y.0 x.0.calls) (with_call y.0 x.0) now y.2 in
    let h = ended_open last d x.0 x.1 in
    record {
      closed = h.0;
      first = ap (λ n. n.opened) (sym same) ∙ h.1 ∙ h.0;
      call = _;
      calls = x.0.calls;
      one = ap (λ n. n.calls) (sym same);
      declared = ap (λ n. n.declared) (sym same) ∙ h.2;
    }

-- ---- lines of a text

abbrev Kind : Bool → Bool → Option Drafted → Option Drafted → Option Drafted → Drafted → Type 0
Kind b c call declaration statement now =
    ((b ≡ true) × (call ≡ Some now)) ⊎ ((c ≡ true) × (declaration ≡ Some now)) ⊎ ((c ≡ false) × (statement ≡ Some now))

line_at : (b c : Bool) (call declaration statement : Option Drafted) (now : Drafted) → cond b call (cond c declaration statement) ≡ Some now → Kind b c call declaration statement now
line_at true c call declaration statement now e = inl (refl, e)
line_at false true call declaration statement now e = inr (inl (refl, e))
line_at false false call declaration statement now e = inr (inr (refl, e))

line_kind : (d : Drafted) (s : Spoken) (now : Drafted) → read_line (with_number s.number d) s.tokens s.answer d.number ≡ Some now
    → Kind (is_the_word (slice_get s.tokens 0) (codes "call")) (eqb (length d.calls) 0) (read_call (with_number s.number d) (drop 1 s.tokens) d.number)
    (read_declaration (with_number s.number d) s.tokens) (read_statement (with_number s.number d) s.tokens s.answer) now
line_kind d s now e =
    line_at (is_the_word (slice_get s.tokens 0) (codes "call")) (eqb (length d.calls) 0) (read_call (with_number s.number d) (drop 1 s.tokens) d.number)
    (read_declaration (with_number s.number d) s.tokens) (read_statement (with_number s.number d) s.tokens s.answer) now e

pub some_calls : (cs xs : List CallRead) (x : CallRead) → cs ≡ x ∷ xs → eqb (length cs) 0 ≡ true → ⊥
some_calls [] xs x e h = cc
some_calls (c ∷ cs) xs x e h = grind (arith, nat_tests)

no_calls : (cs : List CallRead) → cs ≡ [] → eqb (length cs) 0 ≡ false → ⊥
no_calls [] e h = cc
no_calls (c ∷ cs) e h = cc

statements_more : (lines : List Spoken) (start d now : Drafted) (s : Spoken) → read_statements start lines ≡ Some d
    → read_statement (with_number s.number d) s.tokens s.answer ≡ Some now → read_statements start (lines ++ s ∷ []) ≡ Some now
statements_more [] start d now s h e =
    let same : d ≡ start = cc in
    ap (λ o. o >>= (λ n. read_statements n [])) (subst (λ x. read_statement (with_number s.number x) s.tokens s.answer ≡ Some now) same e)
statements_more (l ∷ ls) start d now s h e =
    let x = some_of (read_statement (with_number l.number start) l.tokens l.answer) (λ n. read_statements n ls) d h in
    ap (λ o. o >>= (λ n. read_statements n (ls ++ s ∷ []))) x.1 ∙ statements_more ls x.0 d now s x.2 e

-- ---- calls

-- the lines from the middle of a call on are the rest of its block, and further calls
record CallsFrom (start : Drafted) (all : List Spoken) (now : Drafted) : Type 0 where
  block : Block
  calls : List CallLines
  spells : lines_in block ++ calls_lines calls ≡ all
  means : (draft_after_block block start >>= calls_made calls) ≡ Some now

call_then : (d empty_draft now : Drafted) (s : Spoken) (block : Block) (calls : List CallLines) → is_the_word (slice_get s.tokens 0) (codes "call") ≡ true
    → read_call (with_number s.number d) (drop 1 s.tokens) d.number ≡ Some empty_draft → (draft_after_block block empty_draft >>= calls_made calls) ≡ Some now
    → calls_made (record { first = s; block = block } ∷ calls) d ≡ Some now
call_then d empty_draft now s block calls word e h =
    let here : call_begun d s ≡ Some empty_draft = ap (λ (b : Bool). cond b (read_call (with_number s.number d) (drop 1 s.tokens) d.number) None) word ∙ e in
    ap (λ o. o >>= (λ b. draft_after_block block b >>= calls_made calls)) here ∙ h

calls_from : (ss : List Spoken) (start d now : Drafted) (lines : List Spoken) (x : CallRead) (xs : List CallRead) → start.opened ≡ [] → read_statements start lines ≡ Some d
    → d.calls ≡ x ∷ xs → read_lines d ss ≡ Some now → CallsFrom start (lines ++ ss) now
calls_from [] start d now lines x xs empty h c e =
    let b = make_blocks start d lines empty h (ended_open d.number d now e).0 in
    record {
      block = b.0;
      calls = [];
      spells = append-nil (lines_in b.0) ∙ b.1 ∙ sym (append-nil lines);
      means = ap (λ o. o >>= calls_made []) b.2 ∙ e;
    }
calls_from (s ∷ ss) start d now lines x xs empty h c e =
    let y = some_of (read_line (with_number s.number d) s.tokens s.answer d.number) (λ n. read_lines n ss) now e in
    elim (line_kind d s y.0 y.1) [
      | inl k ↦
          let w = begins_call (with_number s.number d) (drop 1 s.tokens) d.number y.0 k.1 in
          let b = make_blocks start d lines empty h w.closed in
          let r = calls_from ss y.0 y.0 now [] w.call w.calls w.first refl w.one y.2 in
          record {
            block = b.0;
            calls = record { first = s; block = r.block } ∷ r.calls;
            spells = ap (λ ls. ls ++ (s ∷ (lines_in r.block ++ calls_lines r.calls))) b.1 ∙ ap (λ ts. lines ++ (s ∷ ts)) r.spells;
            means = ap (λ o. o >>= calls_made (record { first = s; block = r.block } ∷ r.calls)) b.2 ∙ call_then d y.0 now s r.block r.calls k.0 k.1 r.means;
          }
      | inr rest ↦ elim rest [
        | inl k ↦ absurd (some_calls d.calls xs x c k.0)
        | inr k ↦
            let r = calls_from ss start y.0 now (lines ++ s ∷ []) x xs empty (statements_more lines start d y.0 s h k.1)
            (ap (λ r. r.0) (statement_rest (with_number s.number d) s.tokens s.answer y.0 k.1) ∙ c) y.2 in
            subst (λ ls. CallsFrom start ls now) (append_assoc lines (s ∷ []) ss) r
      ]
    ]

-- ---- programs

-- lines after the head are declarations, and calls after them
record ProgramFrom (first : Drafted) (all : List Spoken) (now : Drafted) : Type 0 where
  declarations : List Spoken
  calls : List CallLines
  spells : declarations ++ calls_lines calls ≡ all
  means : (declarations_made declarations first >>= calls_made calls) ≡ Some now

program_from : (ss : List Spoken) (d now : Drafted) → d.calls ≡ [] → d.opened ≡ [] → read_lines d ss ≡ Some now → ProgramFrom d ss now
program_from [] d now none empty e = record { declarations = []; calls = []; spells = refl; means = e }
program_from (s ∷ ss) d now none empty e =
    let y = some_of (read_line (with_number s.number d) s.tokens s.answer d.number) (λ n. read_lines n ss) now e in
    elim (line_kind d s y.0 y.1) [
      | inl k ↦
          let w = begins_call (with_number s.number d) (drop 1 s.tokens) d.number y.0 k.1 in
          let r = calls_from ss y.0 y.0 now [] w.call w.calls w.first refl w.one y.2 in
          record {
            declarations = [];
            calls = record { first = s; block = r.block } ∷ r.calls;
            spells = ap (λ ts. s ∷ ts) r.spells;
            means = call_then d y.0 now s r.block r.calls k.0 k.1 r.means;
          }
      | inr rest ↦ elim rest [
        | inl k ↦
            let same = if_of (λ x. around x ≡ around d) (read_declaration (with_number s.number d) s.tokens) y.0 (declaration_stays (with_number s.number d) s.tokens) k.1 in
            let r = program_from ss y.0 now (ap (λ p. p.1) same ∙ none) (ap (λ p. p.0) same ∙ empty) y.2 in
            record {
              declarations = s ∷ r.declarations;
              calls = r.calls;
              spells = ap (λ ts. s ∷ ts) r.spells;
              means = ap (λ o. (o >>= declarations_made r.declarations) >>= calls_made r.calls) k.1 ∙ r.means;
            }
        | inr k ↦ absurd (no_calls d.calls none k.0)
      ]
    ]

two_first : (xs : List Spoken) (a b : Spoken) → slice_get xs 0 ≡ Some a → slice_get xs 1 ≡ Some b → a ∷ (b ∷ drop 2 xs) ≡ xs
two_first [] a b e f = let none : slice_get (let xs : List Spoken = [] in xs) 0 ≡ None = slice_get_past (let xs : List Spoken = [] in xs) 0 (omega arith) in absurd (cc)
two_first (x ∷ []) a b e f = absurd (cc (slice_get_past (x ∷ []) 1 (omega arith)))
two_first (x ∷ (y ∷ ys)) a b e f =
    let first : slice_get (x ∷ (y ∷ ys)) 0 ≡ Some x = slice_get_read (x ∷ (y ∷ ys)) (length (x ∷ (y ∷ ys))) 0 x refl (omega arith) refl in
    let second : slice_get (x ∷ (y ∷ ys)) 1 ≡ Some y = slice_get_read (x ∷ (y ∷ ys)) (length (x ∷ (y ∷ ys))) 1 y refl (omega arith) refl in
    let p : a ≡ x = cc in
    let q : b ≡ y = cc in
    ap (λ z. z ∷ (b ∷ ys)) p ∙ ap (λ z. x ∷ (z ∷ ys)) q

-- lines that are read are those of a program
text_makes_program : (spoken : List Spoken) (d : Drafted) → read_text spoken ≡ Some d → (p : Program) × (program_lines p ≡ spoken) × (meaning_of p ≡ Some d)
text_makes_program spoken d e =
    let f = some_of (slice_get spoken 0) (λ first. slice_get spoken 1 >>= (λ second. read_head first.tokens >>= (λ head. read_promises second.tokens >>= (λ promises.
    read_lines (empty_draft head promises second.number) (drop 2 spoken))))) d e in
    let g = some_of (slice_get spoken 1) (λ second. read_head f.0.tokens >>= (λ head. read_promises second.tokens >>= (λ promises.
    read_lines (empty_draft head promises second.number) (drop 2 spoken)))) d f.2 in
    let h = some_of (read_head f.0.tokens) (λ head. read_promises g.0.tokens >>= (λ promises. read_lines (empty_draft head promises g.0.number) (drop 2 spoken))) d g.2 in
    let k = some_of (read_promises g.0.tokens) (λ promises. read_lines (empty_draft h.0 promises g.0.number) (drop 2 spoken)) d h.2 in
    let r = program_from (drop 2 spoken) (empty_draft h.0 k.0 g.0.number) d refl refl k.2 in (
      record { head = f.0; promises = g.0; declarations = r.declarations; calls = r.calls },
      ap (λ ss. f.0 ∷ (g.0 ∷ ss)) r.spells ∙ two_first spoken f.0 g.0 f.1 g.1,
      ap (λ o. o >>= (λ head. read_promises g.0.tokens >>= (λ promises. declarations_made r.declarations (empty_draft head promises g.0.number) >>= calls_made r.calls))) h.1
          ∙ ap (λ o. o >>= (λ promises. declarations_made r.declarations (empty_draft h.0 promises g.0.number) >>= calls_made r.calls)) k.1
          ∙ r.means,
    )

-- the draft that a text spells
pub spelled_draft : (text : List ℕ) (read ready : Drafted) (spoken : List Spoken) → TextSays text spoken → read_text spoken ≡ Some read → finished_draft read ≡ Some ready
    → CallsFit ready → SpellsDraft text ready
spelled_draft text read ready spoken says reads finishes fit =
    let p = text_makes_program spoken read reads in
    record { program = p.0; says = subst (λ ss. TextSays text ss) (sym p.1) says; means = ap (λ o. o >>= finished_draft) p.2 ∙ finishes; fit = fit }

-- the algorithm of a draft whose runs do what they may, with the deeds of its lock and its unlock
pub spelled : (text : List ℕ) (ready checked : Draft) (first : Option FirstValues) (places : Vec ℕ Global) → SpellsDraft text (draft_view ready) → AllRuns (draft_view ready)
    → NotesDeed (draft_view ready) (draft_view ready).head.entries.lock Enter → NotesDeed (draft_view ready) (draft_view ready).head.entries.unlock Leave
    → EndUnreached (draft_view ready) (draft_view checked).lines → draft_view checked ≡ with_lines (draft_view checked).lines (draft_view ready)
    → starts_in first ≡ said_starts (draft_view ready) → claimed_places (draft_view ready) ≡ Some places.items
    → SpellsAlgorithm text (record { algorithm = record checked.algorithm { label_places = places }; first_values = first })
spelled text ready checked first places spells runs enters leaves ends kept values claimed = record {
  program = spells.program;
  says = spells.says;
  draft = draft_view ready;
  means = spells.means;
  lawful = record { calls = spells.fit; runs = runs; enters = enters; leaves = leaves };
  is_of = record {
    algorithm = record {
      head = ap (λ d. d.head) kept;
      declared = ap (λ d. d.declared) kept;
      extents = ap (λ d. d.extents) kept;
      lasting = ap (λ d. d.lasting) kept;
      names = ap (λ d. d.names) kept;
      answers = ap (λ d. d.answers) kept;
      lines = ends;
      claims = ap (λ d. d.claims) kept;
      label_places = sym claimed;
    };
    first_values = values;
  };
}
