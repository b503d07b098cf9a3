use Rattle.std.proofs.Common.{◌++◌}
use Rattle.diagram.proofs.Common.{codes, Rest, Doorway, Waiting, Section, Dead, key, keys}
use Rattle.diagram.proofs.Joined.{joined, two_parts}
use Rattle.diagram.proofs.frame.put_keys.Goals as goal

pub returns : goal.returns
unfolding keys
returns c =
    let old = c.args.out.now.items in
    let cross = codes "<path class='crash' d='M394 32l10 10m0 -10l-10 10'/><text x='412' y='42'>crash</text>" in
    let one = c.in_ok-put_key.ensures in
    let two = two_parts old c.put_key.new.out.items c.put_key-2.new.out.items (key 24 Rest) (key 84 Doorway) one c.in_ok-put_key-2.ensures in
    let three = two_parts old c.put_key-2.new.out.items c.put_key-3.new.out.items (key 24 Rest ++ key 84 Doorway) (key 168 Waiting) two c.in_ok-put_key-3.ensures in
    let four = two_parts old c.put_key-3.new.out.items c.put_key-4.new.out.items (key 24 Rest ++ key 84 Doorway ++ key 168 Waiting) (key 252 Section) three c.in_ok-put_key-4.ensures in
    let five = two_parts old c.put_key-4.new.out.items c.put_key-5.new.out.items (key 24 Rest ++ key 84 Doorway ++ key 168 Waiting ++ key 252 Section) (key 336 Dead) four c.in_ok-put_key-5.ensures in
    let six = two_parts old c.put_key-5.new.out.items c.put_text.new.out.items (key 24 Rest ++ key 84 Doorway ++ key 168 Waiting ++ key 252 Section ++ key 336 Dead) cross five c.in_ok-put_text.ensures in
    joined c.put_text-2.result old c.put_text.new.out.items c.put_text-2.new.out.items (key 24 Rest ++ key 84 Doorway ++ key 168 Waiting ++ key 252 Section ++ key 336 Dead ++ cross) _ six c.put_text-2.ensures
