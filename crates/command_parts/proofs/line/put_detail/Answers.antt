use Rattle.std.proofs.Common.{◌≡◌, ◌++◌, ℕ, List, codes, decimal, sym, ap, ◌∙◌, append_assoc}
use Rattle.algorithm_texts.specs.declared.fault_details.FaultDetail.{FaultDetail}
use Rattle.algorithm_texts.specs.declared.fault_details.FaultDetail.TheVariants as details
use Rattle.command_parts.specs.AlgorithmFaults.{text_of_detail}
use Rattle.command_parts.proofs.line.put_detail.Goals as goal

indexes_text : (detail : FaultDetail) (column declared given : ℕ) → detail ≡ details.WrongIndexes column declared given
    → codes "indexes given: " ++ decimal given ++ codes ", declared: " ++ decimal declared ≡ text_of_detail detail
indexes_text detail column declared given e = sym (ap text_of_detail e)

end_text : (detail : FaultDetail) (line : ℕ) → detail ≡ details.NoEnd line → codes "no `end` for the block of line " ++ decimal line ≡ text_of_detail detail
end_text detail line e = sym (ap text_of_detail e)

-- a text and a number after others
put_on : (old all text number mid now : List ℕ) → mid ≡ old ++ all → now ≡ mid ++ text ++ number → now ≡ old ++ (all ++ text ++ number)
put_on old all text number mid now one two =
    two ∙ ap (λ bs. bs ++ text ++ number) one ∙ ap (λ bs. bs ++ number) (append_assoc old all text) ∙ append_assoc old (all ++ text) number

pub returns-in-WrongIndexes-clause-bytes : goal.returns-in-WrongIndexes-clause-bytes
returns-in-WrongIndexes-clause-bytes c =
    let given = decimal c.in-WrongIndexes.given in
    put_on c.args.line.now.bytes (codes "indexes given: " ++ given) (codes ", declared: ") (decimal c.in-WrongIndexes.declared) _ _
    (c.put.ensures.bytes ∙ append_assoc c.args.line.now.bytes (codes "indexes given: ") given) c.put-in-WrongIndexes.ensures.bytes
    ∙ ap (λ bs. c.args.line.now.bytes ++ bs) (indexes_text c.args.detail c.in-WrongIndexes.column c.in-WrongIndexes.declared c.in-WrongIndexes.given c.in-WrongIndexes.is)

pub returns-in-NoEnd-clause-bytes : goal.returns-in-NoEnd-clause-bytes
returns-in-NoEnd-clause-bytes c =
    c.put-in-NoEnd.ensures.bytes ∙ append_assoc c.args.line.now.bytes (codes "no `end` for the block of line ") (decimal c.in-NoEnd.begun)
    ∙ ap (λ bs. c.args.line.now.bytes ++ bs) (end_text c.args.detail c.in-NoEnd.begun c.in-NoEnd.is)
