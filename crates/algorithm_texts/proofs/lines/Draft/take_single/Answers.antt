use Rattle.std.proofs.Common.{◌≡◌, ◌<◌, ◌+◌, ℕ, nat_lt, Bool, true, false, if◌then◌else◌, List, [], ◌∷◌, ◌++◌, length, Option, Some, None, Result, Ok, Err, OnOk, IfErr, inr, sym, ap, ◌∙◌}
use Rattle.std.proofs.lemmas.Bool.{lt-ltb}
use Rattle.algorithms.specs.declared.algorithm.Algorithm.{Algorithm}
use Rattle.algorithms.specs.declared.fault.ReadFault.{ReadFault}
use Rattle.algorithms.specs.declared.fault.ReadFault.TheVariants.{BadForm, TooBig}
use Rattle.algorithm_texts.specs.declared.tokens.Token.{Token}
use Rattle.algorithm_texts.specs.Fronts.{is_over, value_if}
use Rattle.algorithm_texts.specs.Drafts.{Drafted, draft_view}
use Rattle.algorithm_texts.specs.LineDrafts.{Drafts}
use Rattle.algorithm_texts.specs.LineFaults.{single_fault}
use Rattle.algorithm_texts.specs.TextDrafts.{with_lasting, read_single}
use Rattle.algorithm_texts.proofs.lines.Draft.take_single.Goals as goal

ended : {A : Type 0} (now : Drafted) (r : Result A ReadFault) (o : Option Drafted) (kind : ReadFault) (over : Bool) → kind ≡ BadForm → (over ≡ true → o ≡ Some now) → (over ≡ false → o ≡ None)
    → OnOk r (over ≡ true) → IfErr r (λ fault. (over ≡ false) × (fault ≡ BadForm)) → Drafts now r o kind
ended now (Ok x) o kind over form made refused ok err = made ok
ended now (Err fault) o kind over form made refused ok err = inr (refused err.0, err.1 ∙ sym form)

read_as : (d : Drafted) (name : List ℕ) (tokens : List Token) (over : Bool) → length d.names < 64
    → is_over tokens ≡ over → read_single d name tokens ≡ (if over then Some (with_lasting name d) else None)
read_as d name tokens over few e =
    ap (λ (b : Bool). value_if b (value_if (is_over tokens) (Some (with_lasting name d)))) (lt-ltb (length d.names) 64 few)
    ∙ ap (λ (b : Bool). value_if b (Some (with_lasting name d))) e

-- what follows a name that fits has no form
rest_fault : (d : Drafted) → length d.names < 64 → single_fault d ≡ BadForm
rest_fault d few = ap (λ (b : Bool). if b then BadForm else TooBig) (lt-ltb (length d.names) 64 few)

pub returns : goal.returns
returns c =
    let d = draft_view c.args.self.now in
    let name = c.args.name.now in
    let tokens = c.args.tokens.now in
    let names = c.in_ok-declare_private.ensures.name in
    let made : draft_view (record c.args.self.now { algorithm = c.declare_private.new.algorithm }) ≡ with_lasting name d =
    ap (λ (a : Algorithm). draft_view (record c.args.self.now { algorithm = a })) c.in_ok-declare_private.ensures.kept
    ∙ ap (λ (ns : List (List ℕ)). record d { names = ns; lasting = length d.names + 1 }) names.1 in
    ended _ c.check_end.result (read_single d name tokens) (single_fault d) (is_over tokens)
    (rest_fault d names.0)
    (λ h. read_as d name tokens true names.0 h ∙ ap Some (sym made))
    (λ h. read_as d name tokens false names.0 h)
    c.check_end.ensures.ok c.check_end.ensures.err
