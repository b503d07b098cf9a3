-- Reading lines into a block, one after the other: the way to the place of the line that comes next.
use Rattle.std.proofs.Common.{◌≡◌, ◌⊎◌, ℕ, Bool, true, false, cond, List, [], ◌∷◌, ◌++◌, length, Option, Some, None, slice_get, drop, codes, refl, sym, ap, ◌∙◌, subst, inl, inr, append_assoc}
use Rattle.std.proofs.lemmas.List.{append-nil}
use Rattle.algorithm_texts.specs.declared.lines.Block.{Block as Kind}
use Rattle.algorithm_texts.specs.declared.lines.Block.TheVariants.{If, Else}
use Rattle.algorithm_texts.specs.declared.lines.Opened.{Opened}
use Rattle.algorithm_texts.specs.declared.tokens.Sign.TheVariants.{Colon}
use Rattle.algorithm_texts.specs.declared.tokens.Token.{Token}
use Rattle.algorithm_texts.specs.Parts.{◌>>=◌}
use Rattle.algorithm_texts.specs.Fronts.{is_the_word, is_the_sign, is_over, begins_no_simple}
use Rattle.algorithm_texts.specs.Drafts.{Drafted}
use Rattle.algorithm_texts.specs.LineDrafts.{read_simple, opening, read_test, read_then, read_if, read_for, else_after, read_else, read_end, read_label, read_statement}
use Rattle.algorithm_texts.specs.TextDrafts.{Spoken, with_number}
use Rattle.algorithm_texts.specs.Blocks.{Block, Empty, Line, Enclosed, Divided, lines_in, read_if_block, read_if_line, begins_block, read_alone, divides, ends, draft_after_statement, beginning, dividing, ending, draft_after_block, read_statements, MakeBlocks}
use Rattle.algorithm_texts.proofs.BlockTrees.{some_of, bind_same, if_of, compiled_keeps, begins_opens, divides_open}

-- ---- blocks after blocks

abbrev append : Block → Block → Block
append Empty c = c
append (Line s rest) c = Line s (append rest c)
append (Enclosed s body e rest) c = Enclosed s body e (append rest c)
append (Divided s body o other e rest) c = Divided s body o other e (append rest c)

lines_append : (b c : Block) → lines_in (append b c) ≡ lines_in b ++ lines_in c
lines_append Empty c = refl
lines_append (Line s rest) c = ap (λ ss. s ∷ ss) (lines_append rest c)
lines_append (Enclosed s body e rest) c =
    ap (λ ss. s ∷ (lines_in body ++ (e ∷ ss))) (lines_append rest c) ∙ ap (λ ss. s ∷ ss) (sym (append_assoc (lines_in body) (e ∷ lines_in rest) (lines_in c)))
lines_append (Divided s body o other e rest) c =
    ap (λ ss. s ∷ (lines_in body ++ (o ∷ (lines_in other ++ (e ∷ ss))))) (lines_append rest c)
    ∙ ap (λ ss. s ∷ (lines_in body ++ (o ∷ ss))) (sym (append_assoc (lines_in other) (e ∷ lines_in rest) (lines_in c)))
    ∙ ap (λ ss. s ∷ ss) (sym (append_assoc (lines_in body) (o ∷ (lines_in other ++ (e ∷ lines_in rest))) (lines_in c)))

compiled_append : (b c : Block) (d : Drafted) → draft_after_block (append b c) d ≡ (draft_after_block b d >>= draft_after_block c)
compiled_append Empty c d = refl
compiled_append (Line s rest) c d = bind_same (draft_after_statement d s) (draft_after_block (append rest c)) (draft_after_block rest) (draft_after_block c) (compiled_append rest c)
compiled_append (Enclosed s body e rest) c d =
    bind_same (beginning d s) _ _ (draft_after_block c)
    (λ begun. bind_same (draft_after_block body begun) _ _ (draft_after_block c)
    (λ inner. bind_same (ending begun.opened inner e) (draft_after_block (append rest c)) (draft_after_block rest) (draft_after_block c) (compiled_append rest c)))
compiled_append (Divided s body o other e rest) c d =
    bind_same (beginning d s) _ _ (draft_after_block c)
    (λ begun. bind_same (draft_after_block body begun) _ _ (draft_after_block c)
    (λ inner. bind_same (dividing begun.opened inner o) _ _ (draft_after_block c)
    (λ divided. bind_same (draft_after_block other divided) _ _ (draft_after_block c)
    (λ second. bind_same (ending divided.opened second e) (draft_after_block (append rest c)) (draft_after_block rest) (draft_after_block c) (compiled_append rest c)))))

-- a block, and then one more
then_block : (b c : Block) (x d now : Drafted) → draft_after_block b x ≡ Some d → draft_after_block c d ≡ Some now → draft_after_block (append b c) x ≡ Some now
then_block b c x d now e h = compiled_append b c x ∙ ap (λ o. o >>= draft_after_block c) e ∙ h

-- ---- the kinds of lines

-- a condition is a block or one line
if_kinds : (b c : Bool) (block line : Option Drafted) (now : Drafted) → cond b block (cond c None line) ≡ Some now
    → (cond b block None ≡ Some now) ⊎ (cond b None (cond c None line) ≡ Some now)
if_kinds true c block line now e = inl e
if_kinds false c block line now e = inr e

read_kinds : (o : Option (Drafted × List Token)) (d : Drafted) (answer : List ℕ) (now : Drafted)
    → (o >>= (λ test. cond (is_over test.1) (opening (length d.lines) If test.0) (cond (begins_no_simple test.1) None (read_then (length d.lines) test.0 test.1 answer)))) ≡ Some now
    → ((o >>= (λ test. cond (is_over test.1) (opening (length d.lines) If test.0) None)) ≡ Some now)
    ⊎ ((o >>= (λ test. cond (is_over test.1) None (cond (begins_no_simple test.1) None (read_then (length d.lines) test.0 test.1 answer)))) ≡ Some now)
read_kinds None d answer now e = absurd (cc)
read_kinds (Some test) d answer now e =
    if_kinds (is_over test.1) (begins_no_simple test.1) (opening (length d.lines) If test.0) (read_then (length d.lines) test.0 test.1 answer) now e

abbrev Kinds : Drafted → List Token → List ℕ → Drafted → Type 0
Kinds d tokens answer now =
    (read_alone d tokens answer ≡ Some now) ⊎ (begins_block d tokens ≡ Some now) ⊎ (divides d.opened d tokens ≡ Some now) ⊎ (ends d.opened d tokens ≡ Some now)

kinds_at : (b1 b2 b3 b4 : Bool) (ifs if_block if_line fors elses enders others : Option Drafted) (now : Drafted)
    → (ifs ≡ Some now → (if_block ≡ Some now) ⊎ (if_line ≡ Some now))
    → cond b1 ifs (cond b2 fors (cond b3 elses (cond b4 enders others))) ≡ Some now
    → (cond b1 if_line (cond b2 None (cond b3 None (cond b4 None others))) ≡ Some now)
    ⊎ (cond b1 if_block (cond b2 fors None) ≡ Some now)
    ⊎ (cond b3 elses None ≡ Some now)
    ⊎ (cond b4 enders None ≡ Some now)
kinds_at true b2 b3 b4 ifs if_block if_line fors elses enders others now h e = elim (h e) [
  | inl block ↦ inr (inl block)
  | inr line ↦ inl line
]
kinds_at false true b3 b4 ifs if_block if_line fors elses enders others now h e = inr (inl e)
kinds_at false false true b4 ifs if_block if_line fors elses enders others now h e = inr (inr (inl e))
kinds_at false false false true ifs if_block if_line fors elses enders others now h e = inr (inr (inr e))
kinds_at false false false false ifs if_block if_line fors elses enders others now h e = inl e

pub kinds : (d : Drafted) (tokens : List Token) (answer : List ℕ) (now : Drafted) → read_statement d tokens answer ≡ Some now → Kinds d tokens answer now
kinds d tokens answer now e =
    kinds_at (is_the_word (slice_get tokens 0) (codes "if")) (is_the_word (slice_get tokens 0) (codes "for")) (is_the_word (slice_get tokens 0) (codes "else"))
    (is_the_word (slice_get tokens 0) (codes "end")) (read_if d (drop 1 tokens) answer) (read_if_block d (drop 1 tokens)) (read_if_line d (drop 1 tokens) answer) (read_for d (drop 1 tokens))
    (read_else d (drop 1 tokens)) (read_end d (drop 1 tokens)) (cond (is_the_sign (slice_get tokens 1) Colon) (read_label d tokens) (read_simple d tokens answer)) now
    (read_kinds (read_test d (drop 1 tokens)) d answer now) e

-- ---- the way to a place

-- a block that is open: what comes before it, and its lines so far, with its first part where it has an `else`
data Frame : Type 0 where
  One : Block → Spoken → Frame
  Two : Block → Spoken → Block → Spoken → Frame

abbrev framed : List Frame → List Spoken
framed [] = []
framed (One before s ∷ fs) = framed fs ++ (lines_in before ++ (s ∷ []))
framed (Two before s body o ∷ fs) = framed fs ++ (lines_in before ++ (s ∷ (lines_in body ++ (o ∷ []))))

abbrev begun_at : Option Drafted → Spoken → Option Drafted
begun_at o s = o >>= (λ d. beginning d s)

abbrev divided_at : Option Drafted → Block → Spoken → Option Drafted
divided_at o body s = o >>= (λ begun. draft_after_block body begun >>= (λ inner. dividing begun.opened inner s))

-- the draft at the place
abbrev entered : List Frame → Drafted → Option Drafted
entered [] d = Some d
entered (One before s ∷ fs) d = begun_at (entered fs d >>= draft_after_block before) s
entered (Two before s body o ∷ fs) d = divided_at (begun_at (entered fs d >>= draft_after_block before) s) body o

-- what was read so far
record Held (first : Drafted) (lines : List Spoken) (d : Drafted) : Type 0 where
  frames : List Frame
  current : Block
  start : Drafted
  all : lines ≡ framed frames ++ lines_in current
  runs : entered frames first ≡ Some start
  makes : draft_after_block current start ≡ Some d

pub still_open : (b : Block) (start d : Drafted) → draft_after_block b start ≡ Some d → d.opened ≡ start.opened
still_open b start d e = if_of (λ x. x.opened ≡ start.opened) (draft_after_block b start) d (compiled_keeps b start) e

-- a line alone
held_alone : (first d now : Drafted) (lines : List Spoken) (s : Spoken) → Held first lines d → draft_after_statement d s ≡ Some now → Held first (lines ++ s ∷ []) now
held_alone first d now lines s h e = record {
  frames = h.frames;
  current = append h.current (Line s Empty);
  start = h.start;
  all = ap (λ ss. ss ++ s ∷ []) h.all ∙ append_assoc (framed h.frames) (lines_in h.current) (s ∷ [])
      ∙ ap (λ ss. framed h.frames ++ ss) (sym (lines_append h.current (Line s Empty)));
  runs = h.runs;
  makes = then_block h.current (Line s Empty) h.start d now h.makes (ap (λ o. o >>= draft_after_block Empty) e);
}

-- a line that begins a block
held_begun : (first d now : Drafted) (lines : List Spoken) (s : Spoken) → Held first lines d → beginning d s ≡ Some now → Held first (lines ++ s ∷ []) now
held_begun first d now lines s h e = record {
  frames = One h.current s ∷ h.frames;
  current = Empty;
  start = now;
  all = ap (λ ss. ss ++ s ∷ []) h.all ∙ append_assoc (framed h.frames) (lines_in h.current) (s ∷ []) ∙ sym (append-nil (framed h.frames ++ (lines_in h.current ++ (s ∷ []))));
  runs = ap (λ o. begun_at (o >>= draft_after_block h.current) s) h.runs ∙ ap (λ o. begun_at o s) h.makes ∙ e;
  makes = refl;
}

regroup : (fs bs : List Spoken) (s : Spoken) (cs : List Spoken) (o : Spoken)
    → ((fs ++ (bs ++ (s ∷ []))) ++ cs) ++ (o ∷ []) ≡ fs ++ (bs ++ (s ∷ (cs ++ (o ∷ []))))
regroup fs bs s cs o = simp append_assoc

regroup_two : (fs bs : List Spoken) (s : Spoken) (cs : List Spoken) (o : Spoken) (ds : List Spoken) (e : Spoken)
    → ((fs ++ (bs ++ (s ∷ (cs ++ (o ∷ []))))) ++ ds) ++ (e ∷ []) ≡ fs ++ (bs ++ (s ∷ (cs ++ (o ∷ (ds ++ (e ∷ []))))))
regroup_two fs bs s cs o ds e = simp append_assoc

none_chosen : (b c : Bool) (now : Drafted) → cond b (cond c None None) None ≡ Some now → ⊥
none_chosen true true now e = cc
none_chosen true false now e = cc
none_chosen false c now e = cc

no_else : (around : List Opened) (d : Drafted) (tokens : List Token) (now : Drafted) → around ≡ [] → divides around d tokens ≡ Some now → ⊥
no_else around d tokens now none e =
    none_chosen (is_the_word (slice_get tokens 0) (codes "else")) (is_over (drop 1 tokens)) now (subst (λ os. divides os d tokens ≡ Some now) none e)

no_end : (around : List Opened) (d : Drafted) (tokens : List Token) (now : Drafted) → around ≡ [] → ends around d tokens ≡ Some now → ⊥
no_end around d tokens now none e =
    none_chosen (is_the_word (slice_get tokens 0) (codes "end")) (is_over (drop 1 tokens)) now (subst (λ os. ends os d tokens ≡ Some now) none e)

-- an `else` has no second one
no_second_at : (x : Opened) (kind : Kind) (os : List Opened) (d : Drafted) (b c : Bool) (now : Drafted) → kind ≡ Else → cond b (cond c (else_after x kind os d) None) None ≡ Some now → ⊥
no_second_at x kind os d b c now e h = none_chosen b c now (subst (λ (k : Kind). cond b (cond c (else_after x k os d) None) None ≡ Some now) e h)

no_second : (around os : List Opened) (x : Opened) (d : Drafted) (tokens : List Token) (now : Drafted) → x.kind ≡ Else → around ≡ x ∷ os → divides around d tokens ≡ Some now → ⊥
no_second around os x d tokens now kind top e =
    no_second_at x x.kind os d (is_the_word (slice_get tokens 0) (codes "else")) (is_over (drop 1 tokens)) now kind (subst (λ ps. divides ps d tokens ≡ Some now) top e)

-- a block with its first line that is open
record Entered (o : Option Drafted) (before : Block) (s : Spoken) (start : Drafted) : Type 0 where
  round : Drafted
  outer : Drafted
  is_round : o ≡ Some round
  comes : draft_after_block before round ≡ Some outer
  begins : beginning outer s ≡ Some start

entered_one : (o : Option Drafted) (before : Block) (s : Spoken) (start : Drafted) → begun_at (o >>= draft_after_block before) s ≡ Some start → Entered o before s start
entered_one o before s start e =
    let x = some_of (o >>= draft_after_block before) (λ d. beginning d s) start e in
    let y = some_of o (draft_after_block before) x.0 x.1 in
    record { round = y.0; outer = x.0; is_round = y.1; comes = y.2; begins = x.2 }

-- the same with its first part and the `else` after it
record Parted (o : Option Drafted) (before : Block) (s : Spoken) (body : Block) (other : Spoken) (start : Drafted) : Type 0 where
  begun : Drafted
  inner : Drafted
  enters : Entered o before s begun
  comes : draft_after_block body begun ≡ Some inner
  parts : dividing begun.opened inner other ≡ Some start

parted_two : (o : Option Drafted) (before : Block) (s : Spoken) (body : Block) (other : Spoken) (start : Drafted) → divided_at (begun_at (o >>= draft_after_block before) s) body other ≡ Some start
    → Parted o before s body other start
parted_two o before s body other start e =
    let x = some_of (begun_at (o >>= draft_after_block before) s) (λ begun. draft_after_block body begun >>= (λ inner. dividing begun.opened inner other)) start e in
    let y = some_of (draft_after_block body x.0) (λ inner. dividing x.0.opened inner other) start x.2 in
    record { begun = x.0; inner = y.0; enters = entered_one o before s x.0 x.1; comes = y.1; parts = y.2 }

-- a block is a step after what comes before it
enclosed_makes : (before body : Block) (s e : Spoken) (round outer begun inner now : Drafted) → draft_after_block before round ≡ Some outer → beginning outer s ≡ Some begun
    → draft_after_block body begun ≡ Some inner → ending begun.opened inner e ≡ Some now → draft_after_block (append before (Enclosed s body e Empty)) round ≡ Some now
enclosed_makes before body s e round outer begun inner now h1 h2 h3 h4 =
    then_block before (Enclosed s body e Empty) round outer now h1
    (ap (λ o. o >>= (λ b. draft_after_block body b >>= (λ i. ending b.opened i e >>= draft_after_block Empty))) h2
    ∙ ap (λ o. o >>= (λ i. ending begun.opened i e >>= draft_after_block Empty)) h3
    ∙ ap (λ o. o >>= draft_after_block Empty) h4)

divided_makes : (before body other : Block) (s o e : Spoken) (round outer begun inner divided second now : Drafted) → draft_after_block before round ≡ Some outer → beginning outer s ≡ Some begun
    → draft_after_block body begun ≡ Some inner → dividing begun.opened inner o ≡ Some divided → draft_after_block other divided ≡ Some second → ending divided.opened second e ≡ Some now
    → draft_after_block (append before (Divided s body o other e Empty)) round ≡ Some now
divided_makes before body other s o e round outer begun inner divided second now h1 h2 h3 h4 h5 h6 =
    then_block before (Divided s body o other e Empty) round outer now h1
    (ap (λ r. r >>= (λ b. draft_after_block body b >>= (λ i. dividing b.opened i o >>= (λ v. draft_after_block other v >>= (λ w. ending v.opened w e >>= draft_after_block Empty))))) h2
    ∙ ap (λ r. r >>= (λ i. dividing begun.opened i o >>= (λ v. draft_after_block other v >>= (λ w. ending v.opened w e >>= draft_after_block Empty)))) h3
    ∙ ap (λ r. r >>= (λ v. draft_after_block other v >>= (λ w. ending v.opened w e >>= draft_after_block Empty))) h4
    ∙ ap (λ r. r >>= (λ w. ending divided.opened w e >>= draft_after_block Empty)) h5
    ∙ ap (λ r. r >>= draft_after_block Empty) h6)

-- an `else`
held_divided : (frames : List Frame) (current : Block) (first start d now : Drafted) (lines : List Spoken) (s : Spoken) → first.opened ≡ [] → lines ≡ framed frames ++ lines_in current
    → entered frames first ≡ Some start → draft_after_block current start ≡ Some d → dividing d.opened d s ≡ Some now → Held first (lines ++ s ∷ []) now
held_divided [] current first start d now lines s empty all runs makes e =
    let same : first ≡ start = cc in
    let none : d.opened ≡ [] = still_open current start d makes ∙ ap (λ x. x.opened) (sym same) ∙ empty in
    absurd (no_else d.opened (with_number s.number d) s.tokens now none e)
held_divided (One before t ∷ fs) current first start d now lines s empty all runs makes e =
    let here : dividing start.opened d s ≡ Some now = subst (λ os. dividing os d s ≡ Some now) (still_open current start d makes) e in
    record {
      frames = Two before t current s ∷ fs;
      current = Empty;
      start = now;
      all = ap (λ ss. ss ++ s ∷ []) all ∙ regroup (framed fs) (lines_in before) t (lines_in current) s ∙ sym (append-nil (framed fs ++ (lines_in before ++ (t ∷ (lines_in current ++ (s ∷ []))))));
      runs = ap (λ o. divided_at o current s) runs ∙ ap (λ o. o >>= (λ inner. dividing start.opened inner s)) makes ∙ here;
      makes = refl;
    }
held_divided (Two before t body o ∷ fs) current first start d now lines s empty all runs makes e =
    let p = parted_two (entered fs first) before t body o start runs in
    let q = p.enters in
    let b = if_of (λ x. (y : Opened) × (x.opened ≡ y ∷ q.outer.opened)) (beginning q.outer t) p.begun (begins_opens (with_number t.number q.outer) t.tokens) q.begins in
    let v = if_of (λ x. (y : Opened) × (y.kind ≡ Else) × (x.opened ≡ y ∷ q.outer.opened)) (dividing p.begun.opened p.inner o) start
    (divides_open p.begun.opened q.outer.opened b.0 (with_number o.number p.inner) o.tokens b.1) p.parts in
    absurd (no_second d.opened q.outer.opened v.0 (with_number s.number d) s.tokens now v.1 (still_open current start d makes ∙ v.2) e)

-- an `end`
held_ended : (frames : List Frame) (current : Block) (first start d now : Drafted) (lines : List Spoken) (s : Spoken) → first.opened ≡ [] → lines ≡ framed frames ++ lines_in current
    → entered frames first ≡ Some start → draft_after_block current start ≡ Some d → ending d.opened d s ≡ Some now → Held first (lines ++ s ∷ []) now
held_ended [] current first start d now lines s empty all runs makes e =
    let same : first ≡ start = cc in
    let none : d.opened ≡ [] = still_open current start d makes ∙ ap (λ x. x.opened) (sym same) ∙ empty in
    absurd (no_end d.opened (with_number s.number d) s.tokens now none e)
held_ended (One before t ∷ fs) current first start d now lines s empty all runs makes e =
    let here : ending start.opened d s ≡ Some now = subst (λ os. ending os d s ≡ Some now) (still_open current start d makes) e in
    let q = entered_one (entered fs first) before t start runs in
    record {
      frames = fs;
      current = append before (Enclosed t current s Empty);
      start = q.round;
      all = ap (λ ss. ss ++ s ∷ []) all ∙ regroup (framed fs) (lines_in before) t (lines_in current) s ∙ ap (λ ss. framed fs ++ ss) (sym (lines_append before (Enclosed t current s Empty)));
      runs = q.is_round;
      makes = enclosed_makes before current t s q.round q.outer start d now q.comes q.begins makes here;
    }
held_ended (Two before t body o ∷ fs) current first start d now lines s empty all runs makes e =
    let here : ending start.opened d s ≡ Some now = subst (λ os. ending os d s ≡ Some now) (still_open current start d makes) e in
    let p = parted_two (entered fs first) before t body o start runs in
    record {
      frames = fs;
      current = append before (Divided t body o current s Empty);
      start = p.enters.round;
      all = ap (λ ss. ss ++ s ∷ []) all ∙ regroup_two (framed fs) (lines_in before) t (lines_in body) o (lines_in current) s
          ∙ ap (λ ss. framed fs ++ ss) (sym (lines_append before (Divided t body o current s Empty)));
      runs = p.enters.is_round;
      makes = divided_makes before body current t o s p.enters.round p.enters.outer p.begun p.inner start d now p.enters.comes p.enters.begins p.comes p.parts makes here;
    }

-- one line more
held_more : (first d now : Drafted) (lines : List Spoken) (s : Spoken) → first.opened ≡ [] → Held first lines d → read_statement (with_number s.number d) s.tokens s.answer ≡ Some now
    → Held first (lines ++ s ∷ []) now
held_more first d now lines s empty h e = elim (kinds (with_number s.number d) s.tokens s.answer now e) [
  | inl k ↦ held_alone first d now lines s h k
  | inr rest ↦ elim rest [
    | inl k ↦ held_begun first d now lines s h k
    | inr more ↦ elim more [
      | inl k ↦ held_divided h.frames h.current first h.start d now lines s empty h.all h.runs h.makes k
      | inr k ↦ held_ended h.frames h.current first h.start d now lines s empty h.all h.runs h.makes k
    ]
  ]
]

-- all lines
held_all : (ss : List Spoken) (first d now : Drafted) (lines : List Spoken) → first.opened ≡ [] → Held first lines d → read_statements d ss ≡ Some now → Held first (lines ++ ss) now
held_all [] first d now lines empty h e =
    let same : d ≡ now = cc in
    subst (λ x. Held first (lines ++ []) x) same (subst (λ ls. Held first ls d) (sym (append-nil lines)) h)
held_all (s ∷ ss) first d now lines empty h e =
    let x = some_of (read_statement (with_number s.number d) s.tokens s.answer) (λ n. read_statements n ss) now e in
    subst (λ ls. Held first ls now) (append_assoc lines (s ∷ []) ss) (held_all ss first x.0 now (lines ++ s ∷ []) empty (held_more first d x.0 lines s empty h x.1) x.2)

-- ---- the end

-- where no block is open, the place is in none
no_frames : (frames : List Frame) (first start : Drafted) → entered frames first ≡ Some start → start.opened ≡ [] → frames ≡ []
no_frames [] first start runs none = refl
no_frames (One before t ∷ fs) first start runs none =
    let q = entered_one (entered fs first) before t start runs in
    let b = if_of (λ x. (y : Opened) × (x.opened ≡ y ∷ q.outer.opened)) (beginning q.outer t) start (begins_opens (with_number t.number q.outer) t.tokens) q.begins in
    absurd (cc (sym none ∙ b.1))
no_frames (Two before t body o ∷ fs) first start runs none =
    let p = parted_two (entered fs first) before t body o start runs in
    let q = p.enters in
    let b = if_of (λ x. (y : Opened) × (x.opened ≡ y ∷ q.outer.opened)) (beginning q.outer t) p.begun (begins_opens (with_number t.number q.outer) t.tokens) q.begins in
    let v = if_of (λ x. (y : Opened) × (y.kind ≡ Else) × (x.opened ≡ y ∷ q.outer.opened)) (dividing p.begun.opened p.inner o) start
    (divides_open p.begun.opened q.outer.opened b.0 (with_number o.number p.inner) o.tokens b.1) p.parts in
    absurd (cc (sym none ∙ v.2))

whole : (frames : List Frame) (current : Block) (first start now : Drafted) (lines : List Spoken) → frames ≡ [] → lines ≡ framed frames ++ lines_in current
    → entered frames first ≡ Some start → draft_after_block current start ≡ Some now → (block : Block) × (lines_in block ≡ lines) × (draft_after_block block first ≡ Some now)
whole [] current first start now lines none all runs makes =
    let same : first ≡ start = cc in
    (current, sym all, subst (λ x. draft_after_block current x ≡ Some now) (sym same) makes)
whole (f ∷ fs) current first start now lines none all runs makes = absurd (cc)

-- lines of a call are those of a block
pub make_blocks : MakeBlocks
make_blocks = λ d now lines empty e over.
    let start : Held d [] d = record { frames = []; current = Empty; start = d; all = refl; runs = refl; makes = refl } in
    let h : Held d lines now = held_all lines d d now [] empty start e in
    let closed : h.start.opened ≡ [] = sym (still_open h.current h.start now h.makes) ∙ over in
    whole h.frames h.current d h.start now lines (no_frames h.frames d h.start h.runs closed) h.all h.runs h.makes
