use Rattle.std.proofs.Common.{◌≡◌, ◌∙◌, false, map, refl, sym, ap}
use Rattle.std.specs.List.{list_any}
use Rattle.algorithm_texts.specs.declared.claims.ClaimReading.{ClaimReading}
use Rattle.algorithm_texts.specs.Parts.{formula_of}
use Rattle.algorithm_texts.specs.Fronts.{is_me}
use Rattle.algorithm_texts.specs.Drafts.{Drafted, draft_view, fact_form}
use Rattle.algorithm_texts.specs.NeverClaims.{FactsRead, facts_of, no_facts}
use Rattle.algorithm_texts.proofs.ClaimFacts.{claim_made}
use Rattle.algorithm_texts.proofs.lines.Draft.claim.Goals as goal

pub returns-clause-claim : goal.returns-clause-claim
returns-clause-claim c =
    let d : Drafted = draft_view c.args.self.now in
    let now : Drafted = draft_view c.claim_tokens.new.self in
    let r : FactsRead = facts_of c.claim_tokens.new.read now in
    let free : list_any is_me c.args.tokens.now ≡ false = sym c.has_me.ensures ∙ c.if-has_me.false in
    let start : ClaimReading = record { tokens = c.new.result; facts = c.new-2.result } in
    let begun : facts_of start d ≡ no_facts d = λ i. record { tokens = c.new.ensures.items i; facts = map fact_form (c.new-2.ensures.items i); names = d.names; labels = d.claim_labels } in (
      r,
      claim_made d now (facts_of start d) r c.args.tokens.now (formula_of c.in_ok-condition.condition) free begun c.in_ok-claim_tokens.ensures.facts c.in_ok-claim_tokens.ensures.kept c.in_ok-condition.ensures.condition,
      refl,
      sym (ap (λ (x : Drafted). x.claim_labels) c.in_ok-condition.ensures.kept),
    )
