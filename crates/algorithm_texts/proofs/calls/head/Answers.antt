use Rattle.std.proofs.Common.{◌≡◌, ◌∙◌, ℕ, List, Some, Result, Ok, Err, IfOk, IfErr, MatchResult, inl, sym, ap, subst}
use Rattle.algorithms.specs.declared.algorithm.Algorithm.{Algorithm}
use Rattle.algorithms.specs.declared.fault.ReadFault.{ReadFault}
use Rattle.algorithms.specs.declared.fault.ReadFault.TheVariants.{OutOfMemory}
use Rattle.algorithm_texts.specs.declared.tokens.Token.{Token}
use Rattle.algorithm_texts.specs.Operands.{RefusesAs}
use Rattle.algorithm_texts.specs.LineFaults.{head_fault}
use Rattle.algorithm_texts.specs.TextDrafts.{IsEmpty, read_head}
use Rattle.algorithm_texts.proofs.calls.head.Goals as goal

-- an algorithm of the name that was read, with nothing in it
headed : (tokens : List Token) (r : Result Algorithm ReadFault) (name letters : List ℕ) (least most : ℕ) → read_head tokens ≡ Some (name, least, most) → letters ≡ name
    → IfOk r (λ a. IsEmpty a letters least most) → IfErr r (λ fault. fault ≡ OutOfMemory)
    → MatchResult r (λ a. (h : List ℕ × ℕ × ℕ) × (read_head tokens ≡ Some h) × IsEmpty a h.0 h.1 h.2) (λ fault. RefusesAs fault (read_head tokens) (head_fault tokens))
headed tokens (Ok a) name letters least most e same ok err = ((name, least, most), e, subst (λ (w : List ℕ). IsEmpty a w least most) same ok)
headed tokens (Err fault) name letters least most e same ok err = inl err

pub returns : goal.returns
returns c =
    headed c.args.line.now.all.items c.empty_algorithm.result c.in_ok-name.name c.as_bytes.result.now c.in_ok-name.least c.in_ok-name.most
    (ap read_head (sym c.as_slice.ensures.value) ∙ c.in_ok-name.ensures) c.as_bytes.ensures.letters c.empty_algorithm.ensures.ok c.empty_algorithm.ensures.err
