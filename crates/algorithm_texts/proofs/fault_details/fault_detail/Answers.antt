use Rattle.std.proofs.Common.{◌≡◌, ℕ, List, map, take, IfOk, sym, ap, ◌∙◌, subst, Bor}
use Rattle.std.proofs.lemmas.List.{take-map}
use Rattle.algorithm_texts.specs.FaultDetails.{detail_in, lines_of}
use Rattle.algorithm_texts.proofs.fault_details.fault_detail.Goals as goal

abbrev bytes_of : List (Bor (List ℕ)) → List (List ℕ)
bytes_of lines = map (λ (line : Bor (List ℕ)). line.now) lines

first_bytes : (number : ℕ) (lines first : List (Bor (List ℕ))) (all : List (List ℕ)) → first ≡ take number lines → bytes_of lines ≡ all → bytes_of first ≡ take number all
first_bytes number lines first all e h = ap bytes_of e ∙ sym (take-map (λ (line : Bor (List ℕ)). line.now) number lines) ∙ ap (take number) h

pub returns : goal.returns
returns c =
    let all : bytes_of c.deref-2.result.now ≡ lines_of c.args.text.now = ap bytes_of c.deref-2.ensures.value ∙ c.in_ok-lines.ensures in
    let first : bytes_of c.lines_up_to.result.now ≡ take c.args.number (lines_of c.args.text.now) =
    first_bytes c.args.number c.in_ok-lines.lines.items c.lines_up_to.result.now _ (c.lines_up_to.ensures ∙ ap (take c.args.number) c.deref.ensures.value) c.in_ok-lines.ensures in
    subst (λ lines. IfOk c.detail_in.result (λ detail. detail ≡ detail_in c.args.fault (take c.args.number (lines_of c.args.text.now)) lines)) all
    (subst (λ lines. IfOk c.detail_in.result (λ detail. detail ≡ detail_in c.args.fault lines (bytes_of c.deref-2.result.now))) first c.detail_in.ensures)
