-- What the wrong variants change of the repair (Variants of docs/dev/surface.md: CountUp and LastSkipped).
use Rattle.std.specs.Prelude.{ℕ, ◌+◌, ◌==◌, if◌then◌else◌}
use Rattle.redomail.specs.declared.layout.Layout.{Layout}
use Rattle.redomail.specs.declared.reply.Reply.{Reply}
use Rattle.redomail.specs.Layout.{saturate, last_at}
use Rattle.redomail.specs.Script.{Script, Get, Put, Done}
use Rattle.redomail.specs.Tasks.{consistent}
use Rattle.crashlab.specs.declared.variants.variant.Variant.{Variant}
use Rattle.crashlab.specs.declared.variants.variant.Variant.TheVariants.{CountUp, LastSkipped}

-- the script without its first put of this word
abbrev pub leaving_out : ℕ → Script Reply → Script Reply
leaving_out i (Get a next) = Get a (λ x. leaving_out i (next x))
leaving_out i (Put a v rest) = if a == i then rest else Put a v (leaving_out i rest)
leaving_out i (Done reply) = Done reply

-- one more than the count that was read, or the same at the capacity
abbrev pub raised_count : ℕ → ℕ → ℕ
raised_count cap count = if count == cap then count else saturate (count + 1)

-- the script that, in place of its first put of count, gets count and raises it
abbrev pub counting_up : ℕ → Script Reply → Script Reply
counting_up cap (Get a next) = Get a (λ x. counting_up cap (next x))
counting_up cap (Put a v rest) = if a == 2 then Get 2 (λ count. Put 2 (raised_count cap count) rest) else Put a v (counting_up cap rest)
counting_up cap (Done reply) = Done reply

-- what the variant makes of the repair's script
abbrev pub variant_script : Variant → Layout → ℕ → Script Reply → Script Reply
variant_script CountUp l p script = counting_up l.cap script
variant_script LastSkipped l p script = leaving_out (last_at l p) script
variant_script _ l p script = script

-- the script of consistent, the call that repairs
abbrev pub variant_consistent : Variant → Layout → ℕ → Script Reply
variant_consistent variant l p = variant_script variant l p (consistent l p)
