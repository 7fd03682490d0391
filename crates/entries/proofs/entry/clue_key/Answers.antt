-- `entry::clue_key` meets its contract: the address is shifted there and back, which sets its host bits to 0.
-- Assumes nothing.
use mathlib.Core.Path.{◌≡◌, ◌∙◌, ap}
use Prim.Native.Nat.{ℕ, ◌+◌, ◌-◌, ◌*◌, ◌/◌, ◌%◌, ◌^◌, ◌<◌}
use native.Mathlib.Nat.{div-add-mod', div-mul-le_self, mod-eq_of_lt}
use native.Mathlib.Omega.{arith}
use Rattle.cidr.specs.Prefix.{addresses, size, host_bits}
use Rattle.entries.specs.Clue.{clue_of}
use Rattle.entries.proofs.entry.clue_key.Goals as goal

-- the shifted address, as the code makes it and as the definition has it
shifted : (a b : ℕ) → a < addresses → (a / 2 ^ b * 2 ^ b) % 18446744073709551616 ≡ a - a % 2 ^ b
shifted a b l =
    mod-eq_of_lt {n = a / 2 ^ b * 2 ^ b} (omega (arith, div-mul-le_self a (2 ^ b))) ∙ omega (arith, div-add-mod' a (2 ^ b))

pub overflow_mul-result : goal.overflow_mul-result
overflow_mul-result c = omega (arith, shifted c.args.a (32 - c.args.len) c.requires.1)

pub overflow_add-result : goal.overflow_add-result
overflow_add-result c = omega (arith, shifted c.args.a (32 - c.args.len) c.requires.1)

pub returns : goal.returns
unfolding clue_of host_bits size
returns c = ap (λ x. x * 64 + c.args.len) (shifted c.args.a (32 - c.args.len) c.requires.1)
