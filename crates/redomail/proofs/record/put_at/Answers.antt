use Rattle.std.proofs.Common.{rules, ◌≡◌, ℕ, ◌+◌, ◌-◌, List, length, take, arith, length-take}
use Rattle.redomail.proofs.Common.{saturate}
use Rattle.redomail.proofs.Scripts.{step-record, step-commit, step-entry, step-last, step-count, step-disarm}
use Rattle.redomail.specs.Layout.{IsLayout}
use Rattle.redomail.specs.declared.layout.Layout.{Layout}
use Rattle.redomail.proofs.record.put_at.Goals as goal

wide : (l : Layout) (words : List ℕ) → IsLayout l → length words ≡ 8 → length (take l.width words) ≡ l.width
wide l words h eight = let most = h.most in omega (arith, length-take l.width words, eight, most)

pub returns-then-step-record_words : goal.returns-then-step-record_words
returns-then-step-record_words c =
    let n = wide c.args.layout c.args.words.now c.requires.lawful (search (rules, c.told-words)) in
    let most = c.requires.lawful.most in
    rw c.row_word.ensures (step-record _ _ _ c.args.step (omega (arith, n, most)) (omega (arith, n)))

pub returns-then-step-record_words-2 : goal.returns-then-step-record_words-2
returns-then-step-record_words-2 c =
    let n = wide c.args.layout c.args.words.now c.requires.lawful (search (rules, c.told-words)) in step-commit _ _ _ c.args.step (omega (arith, n))

pub returns-then-apply-record_words : goal.returns-then-apply-record_words
returns-then-apply-record_words c =
    let n = wide c.args.layout c.args.words.now c.requires.lawful (search (rules, c.told-words)) in
    let j : ℕ = c.args.step - (2 + c.args.layout.width) - 1 in
    rw (c.place.ensures, c.row_word-then-apply-record_words.ensures) (step-entry _ _ _ c.args.step j (omega (arith, n)) (omega (arith, n)))

pub returns-in-0 : goal.returns-in-0
returns-in-0 c =
    let n = wide c.args.layout c.args.words.now c.requires.lawful (search (rules, c.told-words)) in rw c.last.ensures (step-last _ _ _ c.args.step (omega (arith, n)))

pub returns-in-1 : goal.returns-in-1
returns-in-1 c =
    let n = wide c.args.layout c.args.words.now c.requires.lawful (search (rules, c.told-words)) in
    let e : c.saturating_add.result ≡ saturate (c.args.at + 1) = omega (arith, c.saturating_add.ensures) in
    rw e (step-count _ _ _ c.args.step (omega (arith, n)))

pub returns-in_default : goal.returns-in_default
returns-in_default c =
    let n = wide c.args.layout c.args.words.now c.requires.lawful (search (rules, c.told-words)) in step-disarm _ _ _ c.args.step (omega (arith, n))
