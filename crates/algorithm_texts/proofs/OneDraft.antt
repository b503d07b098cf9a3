-- A text spells one draft.
use Rattle.std.proofs.Common.{◌≡◌, ℕ, Bool, if◌then◌else◌, List, Option, Some, None, refl, sym, ap, ◌∙◌, subst, inl, inr}
use Rattle.std.proofs.lemmas.Option.{same_Some, none-some}
use Rattle.algorithms.specs.declared.fault.AlgorithmFault.{AlgorithmFault}
use Rattle.algorithms.specs.declared.first_values.FirstValues.{FirstValues}
use Rattle.algorithms.specs.declared.first_values.InitializedAlgorithm.{InitializedAlgorithm}
use Rattle.algorithm_texts.specs.Parts.{◌>>=◌}
use Rattle.algorithm_texts.specs.Drafts.{Drafted}
use Rattle.algorithm_texts.specs.TextDrafts.{Spoken, read_text}
use Rattle.algorithm_texts.specs.TextLines.{TextSays, IsRefusalOf, RefusesLines}
use Rattle.algorithm_texts.specs.FinishedDrafts.{finished_draft}
use Rattle.algorithm_texts.specs.UnreachedLines.{IsInitializedBy, starts_in}
use Rattle.algorithm_texts.specs.Programs.{program_lines, meaning_of, SpellsAlgorithm, SpellOne, BeginAtZero, SpellsDraft}
use Rattle.algorithm_texts.specs.Lawful.{CallsFit}
use Rattle.algorithm_texts.proofs.BlockTrees.{some_of}
use Rattle.algorithm_texts.proofs.LinesOnce.{text_says_once}
use Rattle.algorithm_texts.proofs.TreeLines.{program_read}

-- what is read of a text makes the draft that it spells
pub spelled_read : (text : List ℕ) (a : InitializedAlgorithm) (spoken : List Spoken) (s : SpellsAlgorithm text a) → TextSays text spoken → (read_text spoken >>= finished_draft) ≡ Some s.draft
spelled_read text a spoken s says =
    let x = some_of (meaning_of s.program) finished_draft s.draft s.means in
    ap (λ ss. read_text ss >>= finished_draft) (text_says_once text spoken (program_lines s.program) says s.says)
    ∙ ap (λ o. o >>= finished_draft) (program_read s.program x.0 x.1)
    ∙ x.2

pub spell_one : SpellOne
spell_one = λ text a b s t.
    let same : s.draft ≡ t.draft = same_Some s.draft t.draft (sym (spelled_read text a (program_lines s.program) s s.says) ∙ spelled_read text b (program_lines s.program) t s.says) in
    (s.draft, s.is_of, subst (λ d. IsInitializedBy d b) (sym same) t.is_of)

-- ---- refusals

pub unsaid : (text : List ℕ) (fault : AlgorithmFault) → IsRefusalOf fault ((spoken : List Spoken) × TextSays text spoken)
    → IsRefusalOf fault ((spoken : List Spoken) × (draft : Drafted) × TextSays text spoken × (read_text spoken ≡ Some draft))
unsaid text fault (inl e) = inl e
unsaid text fault (inr h) = inr (λ w. h (w.0, w.2))

-- the lines of a text that make nothing are those that it says
pub unread : (text : List ℕ) (spoken : List Spoken) (fault : AlgorithmFault) → TextSays text spoken → RefusesLines fault (read_text spoken)
    → IsRefusalOf fault ((other : List Spoken) × (draft : Drafted) × TextSays text other × (read_text other ≡ Some draft))
unread text spoken fault says (inl e) = inl e
unread text spoken fault says (inr h) = inr (λ w. none-some w.1 (sym h ∙ ap read_text (text_says_once text spoken w.0 says w.2) ∙ w.3))

-- no draft is spelled by a text that makes none
pub unspelled : (text : List ℕ) (fault : AlgorithmFault) → IsRefusalOf fault ((spoken : List Spoken) × (draft : Drafted) × TextSays text spoken × (read_text spoken ≡ Some draft))
    → IsRefusalOf fault ((d : Drafted) × SpellsDraft text d)
unspelled text fault (inl e) = inl e
unspelled text fault (inr h) = inr (λ w.
    let x = some_of (meaning_of w.1.program) finished_draft w.0 w.1.means in
    h (program_lines w.1.program, x.0, w.1.says, program_read w.1.program x.0 x.1))

-- what is read of a text becomes the draft that it spells
pub draft_spelled : (text : List ℕ) (spoken : List Spoken) (read d : Drafted) → TextSays text spoken → read_text spoken ≡ Some read → SpellsDraft text d
    → finished_draft read ≡ Some d
draft_spelled text spoken read d says reads s =
    let x = some_of (meaning_of s.program) finished_draft d s.means in
    ap finished_draft (same_Some read x.0 (sym reads ∙ ap read_text (text_says_once text spoken (program_lines s.program) says s.says) ∙ program_read s.program x.0 x.1)) ∙ x.2

-- nor by one whose calls do not fit
pub unfit : (text : List ℕ) (spoken : List Spoken) (read : Drafted) → TextSays text spoken → read_text spoken ≡ Some read
    → ((d : Drafted) → finished_draft read ≡ Some d → CallsFit d → ⊥) → ((d : Drafted) × SpellsDraft text d) → ⊥
unfit text spoken read says reads refuse w = refuse w.0 (draft_spelled text spoken read w.0 says reads w.1) w.1.fit

-- the draft of an algorithm
pub draft_of : (text : List ℕ) (a : InitializedAlgorithm) (s : SpellsAlgorithm text a) → SpellsDraft text s.draft
draft_of text a s = record { program = s.program; says = s.says; means = s.means; fit = s.lawful.calls }

-- a text spells one draft whose calls fit
pub same_draft : (text : List ℕ) (d e : Drafted) → SpellsDraft text d → SpellsDraft text e → d ≡ e
same_draft text d e s t =
    let x = some_of (meaning_of s.program) finished_draft d s.means in
    same_Some d e (sym x.2 ∙ draft_spelled text (program_lines s.program) x.0 e s.says (program_read s.program x.0 x.1) t)

-- no algorithm is spelled where no draft is
pub no_algorithm : (text : List ℕ) (fault : AlgorithmFault) → IsRefusalOf fault ((d : Drafted) × SpellsDraft text d) → IsRefusalOf fault ((a : InitializedAlgorithm) × SpellsAlgorithm text a)
no_algorithm text fault (inl e) = inl e
no_algorithm text fault (inr h) = inr (λ w. h (w.1.draft, draft_of text w.0 w.1))

-- all algorithms that a text spells are of the draft that it spells
pub one_draft : (text : List ℕ) (d : Drafted) → SpellsDraft text d → (a : InitializedAlgorithm) (s : SpellsAlgorithm text a) → s.draft ≡ d
one_draft text d spells = λ a s. same_draft text s.draft d (draft_of text a s) spells

-- ---- first values

none_in : (first : Option FirstValues) → starts_in first ≡ None → first ≡ None
none_in None e = refl
none_in (Some v) e = absurd (cc)

pub begin_at_zero : BeginAtZero
begin_at_zero = λ text a s unsaid.
    let none : starts_in a.first_values ≡ None = s.is_of.first_values ∙ ap (λ (b : Bool). if b then Some s.draft.starts else None) unsaid in
    ap (λ (first : Option FirstValues). record { algorithm = a.algorithm; first_values = first }) (none_in a.first_values none)
