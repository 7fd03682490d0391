-- Rule 7.3: halving begins with low 0 and high n. As long as high - low is 2 or more it probes the place m = (low + high) div 2: low
-- becomes m if start m is the address or below it, and else high does. Rule 7.4: it ends with low, high and the number of probes.
-- `at` gives the start at a place, and may be any function.
-- Assumes nothing.
use Rattle.std.specs.Prelude.{true, false, cond, ℕ, zero, suc, ◌+◌, ◌-◌, ◌/◌, leb}
use Rattle.halving.specs.declared.Halved as code

-- Rule 7.4: what halving ends with.
pub record Halved : Type 0 where
  pub low : ℕ
  pub high : ℕ
  pub probes : ℕ

-- the same, read from the code's answer
abbrev pub halved_gave : code.Halved → Halved
halved_gave r = record { low = r.low; high = r.high; probes = r.probes }

-- one probe more
abbrev pub probed : Halved → Halved
probed h = record { low = h.low; high = h.high; probes = suc h.probes }

-- Rule 7.3: the loop, from low and high on. `left` bounds the turns that are left. High - low falls with each, so n are enough
-- (`halves_ends`).
unfoldable pub halves : ℕ → (ℕ → ℕ) → ℕ → ℕ → ℕ → Halved
halves zero at a low high = record { low = low; high = high; probes = 0 }
halves (suc left) at a low high =
    elim (leb (high - low) 1) [
      | true ↦ record { low = low; high = high; probes = 0 }
      | false ↦
          probed
          (halves left at a
          (cond (leb (at ((low + high) / 2)) a) ((low + high) / 2) low)
          (cond (leb (at ((low + high) / 2)) a) high ((low + high) / 2)))
    ]

-- Rule 7.3: the halving of n places for the address a.
unfoldable pub halving : (ℕ → ℕ) → ℕ → ℕ → Halved
halving at n a = halves n at a 0 n
