-- Rule 7.7: run bytes are six for each run, its start in four and its hop in two, each with the highest byte in front.
-- Assumes nothing.
use Rattle.std.specs.Prelude.{List, [], ◌∷◌, ℕ, ◌+◌, ◌*◌, ◌/◌, ◌%◌, get_or}

-- Rule 7.7: the run bytes of a table's starts and hops.
unfoldable pub run_bytes : List ℕ → List ℕ → List ℕ
run_bytes [] hops = []
run_bytes (s ∷ starts) [] = []
run_bytes (s ∷ starts) (h ∷ hops) =
    s / 16777216 ∷ s / 65536 % 256 ∷ s / 256 % 256 ∷ s % 256 ∷ h / 256 ∷ h % 256 ∷ run_bytes starts hops

-- the byte j of run i
abbrev pub run_byte : List ℕ → ℕ → ℕ → ℕ
run_byte bytes i j = get_or bytes (i * 6 + j) 0

-- Rule 7.8: the start and the hop that the bytes give run i.
unfoldable pub start_at : List ℕ → ℕ → ℕ
start_at bytes i = run_byte bytes i 0 * 16777216 + run_byte bytes i 1 * 65536 + run_byte bytes i 2 * 256 + run_byte bytes i 3

unfoldable pub hop_at : List ℕ → ℕ → ℕ
hop_at bytes i = run_byte bytes i 4 * 256 + run_byte bytes i 5
