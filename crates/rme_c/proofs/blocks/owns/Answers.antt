use Rattle.std.proofs.Common.{rules, ◌≡◌, ℕ, List, [], ◌∷◌, ◌++◌, map, sym, ap, ◌∙◌, arith}
use Rattle.rme_c.proofs.Common.{range_with_len, own_in}
use Rattle.std.proofs.lemmas.List.FromFn.{map-range_with_len_more}
use Rattle.rmecore.specs.declared.own.Own.{Own}
use Rattle.rme_c.proofs.blocks.owns.Goals as goal

pub loop-p-preserved : goal.loop-p-preserved
loop-p-preserved c =
    let p : ℕ = c.loop-p.p in
    let f : ℕ → Own = own_in c.args.words.now in
    let added : c.push.new.self.items ≡ c.loop-p.all.items ++ c.own_words.result ∷ [] = search rules in
    added ∙ ap (λ (l : List Own). l ++ c.own_words.result ∷ []) c.loop-p.invariant ∙ ap (λ (x : Own). map f (range_with_len 0 p) ++ x ∷ []) c.own_words.ensures ∙ sym (map-range_with_len_more f 0 p p (omega arith))
