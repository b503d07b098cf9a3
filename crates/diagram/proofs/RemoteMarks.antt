-- A word with a place among the copies.
use Rattle.std.proofs.Common.{◌≡◌, ℕ, ◌+◌, ◌*◌, ◌<◌, ◌&&◌, nat_lt, true, arith}
use Rattle.std.proofs.lemmas.Bool.{and_parts, ltb-true}
use Rattle.algorithms.specs.declared.access.Address.{Address}
use Rattle.algorithms.specs.remote_references.CopyRows.{IsRowOf}
use Rattle.diagram.specs.RemoteMarks.{has_place}

pub place_among : (declarations p : ℕ) (word : Address) → has_place declarations p word ≡ true → (p < 64) × IsRowOf (declarations * 64) word
place_among declarations p word is =
    let process = and_parts (nat_lt p 64) (nat_lt word.index 64 && nat_lt word.declaration declarations) is in
    let place = and_parts (nat_lt word.index 64) (nat_lt word.declaration declarations) process.1 in
    let low : p < 64 = ltb-true p 64 process.0 in
    let index : word.index < 64 = ltb-true word.index 64 place.0 in
    let declared : word.declaration < declarations = ltb-true word.declaration declarations place.1 in
    (low, (index, omega arith))
