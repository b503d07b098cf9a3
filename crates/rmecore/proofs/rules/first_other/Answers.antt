use Rattle.std.proofs.Common.{◌≡◌, ◌≢◌, ◌+◌, sym}
use Rattle.rmecore.proofs.Scans.{first_none, first_some, above_again, above_none}
use Rattle.rmecore.proofs.rules.first_other.Goals as goal
use Rattle.rmecore.proofs.rules.first_other.Goals.{then-from-own, else-from-own}

pub returns-then-j-procs-clause-first : goal.returns-then-j-procs-clause-first
returns-then-j-procs-clause-first c =
    let other : c.args.from ≢ c.args.own → c.if-from-own.j ≡ c.args.from = λ ne. elim c.if-from-own.branch [ then-from-own w ↦ absurd (ne w.if-from-own.true) | else-from-own w ↦ w.j-is ] in
    let own : c.args.from ≡ c.args.own → c.if-from-own.j ≡ c.args.from + 1 = λ e. elim c.if-from-own.branch [ then-from-own w ↦ w.j-is | else-from-own w ↦ absurd (w.if-from-own.false e) ] in
    sym (first_some _ _ _ _ other own c.requires c.if-j-procs.true)

pub returns-then-j-procs-clause-left : goal.returns-then-j-procs-clause-left
returns-then-j-procs-clause-left c =
    let other : c.args.from ≢ c.args.own → c.if-from-own.j ≡ c.args.from = λ ne. elim c.if-from-own.branch [ then-from-own w ↦ absurd (ne w.if-from-own.true) | else-from-own w ↦ w.j-is ] in
    let own : c.args.from ≡ c.args.own → c.if-from-own.j ≡ c.args.from + 1 = λ e. elim c.if-from-own.branch [ then-from-own w ↦ w.j-is | else-from-own w ↦ absurd (w.if-from-own.false e) ] in
    above_again _ _ _ _ other own c.requires

pub returns-else-j-procs-clause-first : goal.returns-else-j-procs-clause-first
returns-else-j-procs-clause-first c =
    let other : c.args.from ≢ c.args.own → c.if-from-own.j ≡ c.args.from = λ ne. elim c.if-from-own.branch [ then-from-own w ↦ absurd (ne w.if-from-own.true) | else-from-own w ↦ w.j-is ] in
    let own : c.args.from ≡ c.args.own → c.if-from-own.j ≡ c.args.from + 1 = λ e. elim c.if-from-own.branch [ then-from-own w ↦ w.j-is | else-from-own w ↦ absurd (w.if-from-own.false e) ] in
    sym (first_none _ _ _ _ other own c.requires c.if-j-procs.false)

pub returns-else-j-procs-clause-none : goal.returns-else-j-procs-clause-none
returns-else-j-procs-clause-none c =
    let other : c.args.from ≢ c.args.own → c.if-from-own.j ≡ c.args.from = λ ne. elim c.if-from-own.branch [ then-from-own w ↦ absurd (ne w.if-from-own.true) | else-from-own w ↦ w.j-is ] in
    let own : c.args.from ≡ c.args.own → c.if-from-own.j ≡ c.args.from + 1 = λ e. elim c.if-from-own.branch [ then-from-own w ↦ w.j-is | else-from-own w ↦ absurd (w.if-from-own.false e) ] in
    λ _. above_none c.args.procs c.args.own c.args.from (first_none _ _ _ _ other own c.requires c.if-j-procs.false)
