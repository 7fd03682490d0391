-- The program's text is settled: two outcomes that keep the promise for one feed and one buffer are the same, in the length of the text and in
-- the whole buffer.
-- Assumes nothing.
use mathlib.Core.Path.{◌≡◌, sym, ap, ◌∙◌}
use mathlib.Core.List.{List}
use Prim.Native.Nat.{ℕ}
use Rattle.program.specs.Program.{ProgramOutcome, program_gave, program}

pub program_settled : (feed buffer : List ℕ) {n n' : ℕ} {out out' : List ℕ}
    → program_gave n out ≡ program feed buffer → program_gave n' out' ≡ program feed buffer → (n ≡ n') × (out ≡ out')
program_settled feed buffer e e' =
    let same = e ∙ sym e' in (ap (λ (o : ProgramOutcome). o.length) same, ap (λ (o : ProgramOutcome). o.buffer) same)
