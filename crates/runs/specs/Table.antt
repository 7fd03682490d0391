-- Rule 6.3: a run table begins with address 0, each start is greater than the one before it, and no two runs side by side have the same
-- hop. At each address the hop of its run is the answer there, `f`. `RunTable` is the rule, and `starts_of` and `run_hops_of` are the one
-- table that keeps it (`table_of`, `only_table`).
-- Assumes nothing.
use Rattle.std.specs.Prelude.{◌≡◌, List, map, ℕ, ◌+◌, ◌<◌, ◌≤◌, length, get_or}
use Rattle.ground.specs.Stretch.{picked, turns}
use Rattle.cidr.specs.Prefix.{addresses}
use Rattle.routes.specs.Row.{Row}
use Rattle.routes.specs.Plain.{plain}
pub mod Laws

-- Rule 6.1: a run table as it is lent, a count and two slices.
pub record RunsLent : Type 0 where
  pub count : ℕ
  pub starts : List ℕ
  pub hops : List ℕ

abbrev pub runs_lent : ℕ → List ℕ → List ℕ → RunsLent
runs_lent count starts hops = record { count = count; starts = starts; hops = hops }

-- Rule 6.2: run i goes from start i up to the address before start i + 1, and the last run to the last address.
pub record RunTable (f : ℕ → ℕ) (starts hops : List ℕ) : Type 0 where
  pub paired : length hops ≡ length starts
  pub some_run : 0 < length starts
  pub first : get_or starts 0 0 ≡ 0
  pub ascend : (i : ℕ) → i + 1 < length starts → get_or starts i 0 < get_or starts (i + 1) 0
  pub below : (i : ℕ) → i < length starts → get_or starts i 0 < addresses
  pub differ : (i : ℕ) → i + 1 < length starts → get_or hops i 0 ≡ get_or hops (i + 1) 0 → ⊥
  pub answers : (i a : ℕ) → i < length starts → get_or starts i 0 ≤ a → a < addresses
      → (i + 1 < length starts → a < get_or starts (i + 1) 0) → get_or hops i 0 ≡ f a

-- Rule 6.4: the starts are the addresses at which f turns.
pub starts_of : (ℕ → ℕ) → List ℕ
starts_of f = picked (turns f) 0 addresses

-- Rule 6.3: the hop of a run is what f is at its start.
unfoldable pub run_hops_of : (ℕ → ℕ) → List ℕ
run_hops_of f = map f (starts_of f)

-- Rule 6.3: the run table of a list is that of its plain answer.
unfoldable pub run_starts : List Row → List ℕ
run_starts rows = starts_of (plain rows)

unfoldable pub run_hops : List Row → List ℕ
run_hops rows = run_hops_of (plain rows)
