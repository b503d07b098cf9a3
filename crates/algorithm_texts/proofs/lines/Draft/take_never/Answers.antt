use Rattle.std.proofs.Common.{◌≡◌, ◌∙◌, ℕ, [], ◌∷◌, ◌++◌, List, Some, String, length, map, string_bytes, refl, sym, ap, subst}
use Rattle.std.specs.Prelude.{Vec}
use Rattle.std.specs.declared.alloc.Global.{Global}
use Rattle.std.proofs.lemmas.List.{length-map, map-append}
use Rattle.algorithms.specs.declared.algorithm.NamedRow.{NamedRow}
use Rattle.algorithms.specs.declared.never_claim.NeverClaim.{NeverClaim}
use Rattle.algorithm_texts.specs.declared.lines.ClaimLabel.{ClaimLabel}
use Rattle.algorithm_texts.specs.Parts.{Formula, formula_of}
use Rattle.algorithm_texts.specs.Drafts.{ClaimForm, Drafted, FactForm, claim_form, draft_view}
use Rattle.algorithm_texts.specs.LineDrafts.{scope_in, with_names}
use Rattle.algorithm_texts.specs.NeverClaims.{FactsRead, read_claim, read_processes, with_claim, without_rows}
use Rattle.algorithm_texts.specs.Grammar.{DraftRow}
use Rattle.algorithm_texts.specs.Operands.{row_of}
use Rattle.algorithm_texts.proofs.ClaimFacts.{never_made}
use Rattle.algorithm_texts.proofs.lines.Draft.take_never.Goals as goal

mapped : {A B : Type 0} (f : A → B) (now items : List A) (x : A) → now ≡ items ++ x ∷ [] → map f now ≡ map f items ++ f x ∷ []
mapped f now items x e = ap (map f) e ∙ map-append f items (x ∷ [])

abbrev claimed : ℕ → ℕ → List FactForm → Formula → ClaimForm
claimed number count facts condition = record { number = number; processes = count; facts = facts; condition = condition }

-- a draft in which the names are again those of before, with one claim more, is what the claim makes of it
claim_added : (d d1 d2 now : Drafted) (names : List (List ℕ)) (rows : List DraftRow) (all : List ClaimForm) (facts : List FactForm) (r : FactsRead) (condition : Formula) (count : ℕ)
    → d1 ≡ with_names d1.names (without_rows d) → d2 ≡ record d1 { names = d2.names; claim_labels = d2.claim_labels } → names ≡ d.names → rows ≡ d.head.rows
    → all ≡ d2.claims ++ claimed d2.number count facts condition ∷ [] → r.facts ≡ facts → r.labels ≡ d2.claim_labels → count ≡ length d1.names
    → now ≡ record d2 { names = names; claims = all; head = record d2.head { rows = rows } } → now ≡ with_claim (length d1.names) r condition d
claim_added d d1 d2 now names rows all facts r condition count kept1 kept2 restored rows_restored added same labels counted made =
    let kept : d2 ≡ record (without_rows d) { names = d2.names; claim_labels = d2.claim_labels } =
    kept2 ∙ ap (λ (x : Drafted). record x { names = d2.names; claim_labels = d2.claim_labels }) kept1 in
    made
    ∙ ap (λ (ns : List (List ℕ)). record d2 { names = ns; claims = all; head = record d2.head { rows = rows } }) restored
    ∙ ap (λ (rs : List DraftRow). record d2 { names = d.names; claims = all; head = record d2.head { rows = rs } }) rows_restored
    ∙ ap (λ (cs : List ClaimForm). record d2 { names = d.names; claims = cs; head = record d2.head { rows = d.head.rows } }) added
    ∙ ap (λ (fs : List FactForm). record d2 { names = d.names; claims = d2.claims ++ claimed d2.number count fs condition ∷ []; head = record d2.head { rows = d.head.rows } }) (sym same)
    ∙ ap (λ (n : ℕ). record d2 { names = d.names; claims = d2.claims ++ claimed d2.number n r.facts condition ∷ []; head = record d2.head { rows = d.head.rows } }) counted
    ∙ ap (λ (x : Drafted). record x { names = d.names; claims = x.claims ++ claimed x.number (length d1.names) r.facts condition ∷ []; head = record x.head { rows = d.head.rows } }) kept
    ∙ ap (λ (ls : List ClaimLabel). record d { claims = d.claims ++ claimed d.number (length d1.names) r.facts condition ∷ []; claim_labels = ls }) (sym labels)

pub returns : goal.returns
returns c =
    let d = draft_view c.args.self.now in
    let d1 = draft_view c.claim_processes.new.self in
    let d2 = draft_view c.claim.new.self in
    let rest = c.in_ok-rest.rest.now in
    let condition = formula_of c.in_ok-facts.condition in
    let claim = c.in_ok-facts.ensures.claim in
    let none : map row_of c.replace-rows.new.dest.items ≡ [] =
    ap (λ (rs : Vec NamedRow Global). map row_of rs.items) c.replace-rows.ensures.after ∙ ap (map row_of) c.new-2.ensures.items in
    let kept1 : d1 ≡ with_names d1.names (without_rows d) =
    c.in_ok-rest.ensures.kept ∙ ap (λ (rs : List DraftRow). with_names d1.names (record d { head = record d.head { rows = rs } })) none in
    let processes : read_processes (scope_in (without_rows d)) c.args.tokens.now ≡ Some (d1.names, rest) =
    subst (λ (rs : List DraftRow). read_processes (scope_in (record d { head = record d.head { rows = rs } })) c.args.tokens.now ≡ Some (d1.names, rest)) none c.in_ok-rest.ensures.processes in
    let read : read_claim (with_names d1.names (without_rows d)) rest ≡ Some (claim.0, condition) = subst (λ (x : Drafted). read_claim x rest ≡ Some (claim.0, condition)) kept1 claim.1 in
    let made : NeverClaim = record { number = c.claim.new.self.number; processes = c.len-processes.result; facts = c.in_ok-facts.facts; condition = c.in_ok-facts.condition } in
    let counted : c.len-processes.result ≡ length d1.names =
    c.len-processes.ensures ∙ c.claim_processes.new.self.algorithm.names.ok.0 ∙ sym (length-map c.claim_processes.new.self.algorithm.names.items (λ (name : String Global). string_bytes name)) in
    let added = mapped claim_form c.push.new.self.items c.claim.new.self.algorithm.claims.items made c.in_ok-push.ensures.items in
    let restored : map (λ (name : String Global). string_bytes name) c.replace-names.result.items ≡ d.names =
    ap (λ (ns : Vec (String Global) Global). map (λ (name : String Global). string_bytes name) ns.items) c.replace-names.ensures.value in
    let rows : map row_of c.replace-rows.result.items ≡ d.head.rows =
    ap (λ (rs : Vec NamedRow Global). map row_of rs.items) c.replace-rows.ensures.value in
    never_made d _ c.args.tokens.now rest d1.names claim.0 condition processes read
    (claim_added d d1 d2 _ _ _ _ _ claim.0 condition c.len-processes.result kept1 c.in_ok-facts.ensures.kept restored rows added claim.2 claim.3 counted refl)
