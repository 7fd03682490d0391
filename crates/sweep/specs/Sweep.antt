-- What the functions of the sweep promise each other and the crates above; no promise to a caller of the library cites this. The sweep goes
-- through the rows in key order with a stack of the open prefixes, those that hold the present address: `ends` has one past each one's last
-- address, `open-hops` its hop.
-- Assumes nothing.
use Rattle.std.specs.Prelude.{◌≡◌, Bool, true, ◌&&◌, List, [], ◌∷◌, map, ℕ, ◌+◌, ◌-◌, ◌≤◌, ◌<◌, length, get_or, take}
use Rattle.ground.specs.Slots.{written, same}
use Rattle.ground.specs.Stretch.{picked, counted, turns_from}
use Rattle.cidr.specs.Prefix.{network, end_of}
use Rattle.routes.specs.Row.{Row, rows_of, hops_of}
use Rattle.routes.specs.WellFormed.{half_rows}
use Rattle.routes.specs.Plain.{matching}

-- the last number of a list, or another one where the list has none
unfoldable pub last_or : ℕ → List ℕ → ℕ
last_or h [] = h
last_or h (x ∷ xs) = last_or x xs

-- one past the last address of each row's prefix
abbrev pub ends_of : List Row → List ℕ
ends_of rows = map (λ r. end_of r.key) rows

-- the rows of two slices of one length
abbrev pub all_rows : List ℕ → List ℕ → List Row
all_rows keys hops = rows_of (length keys) keys hops

-- the hop of the last row that holds the address, or the base where none does
unfoldable pub answer : ℕ → List Row → ℕ → ℕ
answer base rows a = last_or base (hops_of (matching a rows))

-- the slices are of one length, the keys are prefixes and ascend
pub record Sorted (keys hops : List ℕ) : Type 0 where
  pub paired : length hops ≡ length keys
  pub half : half_rows (all_rows keys hops) ≡ true

-- no row's network is before the address
abbrev pub From : List ℕ → ℕ → Type 0
From keys start = (i : ℕ) → i < length keys → start ≤ network (get_or keys i 0)

-- the stack at an address: of the first `row` rows, whose networks are at most the address, it has those that hold the address, in their
-- order; the networks of the rows from there on are at least `next`
pub record Stack (keys hops ends open-hops : List ℕ) (row depth at next : ℕ) : Type 0 where
  pub within : row ≤ length keys
  pub passed : (i : ℕ) → i < row → network (get_or keys i 0) ≤ at
  pub ahead : (i : ℕ) → row ≤ i → i < length keys → next ≤ network (get_or keys i 0)
  pub deep : depth ≡ length (matching at (rows_of row keys hops))
  pub ends_are : take depth ends ≡ ends_of (matching at (rows_of row keys hops))
  pub hops_are : take depth open-hops ≡ hops_of (matching at (rows_of row keys hops))
  pub ends_room : length ends ≡ 33
  pub hops_room : length open-hops ≡ 33

-- at most 33 prefixes are open, and their ends fall, or stay, from each to the next
pub record Falling (ends : List ℕ) (depth : ℕ) : Type 0 where
  pub few : depth ≤ 33
  pub falls : (i j : ℕ) → i ≤ j → j < depth → get_or ends j 0 ≤ get_or ends i 0

-- of the first `depth` ends, those that are past the address `to` are the first d
pub record Closed (ends : List ℕ) (depth to d : ℕ) : Type 0 where
  pub upto : d ≤ depth
  pub kept : (i : ℕ) → i < d → to < get_or ends i 0
  pub gone : (i : ℕ) → d ≤ i → i < depth → get_or ends i 0 ≤ to

-- before the next event: the address is below the limit, at most 33 prefixes are open, and the next row and the end of the last open prefix
-- are past the address
pub record BeforeEvent (keys ends : List ℕ) (row depth at limit : ℕ) : Type 0 where
  pub before : at < limit
  pub few : depth ≤ 33
  pub row_past : row < length keys → at < network (get_or keys row 0)
  pub end_past : 0 < depth → at < get_or ends (depth - 1) 0

-- the event is past the address, and before it no row begins, no open prefix ends and the limit isn't reached
pub record Event (keys ends : List ℕ) (row depth at limit event : ℕ) : Type 0 where
  pub past : at < event
  pub upto : event ≤ limit
  pub row_to : row < length keys → event ≤ network (get_or keys row 0)
  pub end_to : 0 < depth → event ≤ get_or ends (depth - 1) 0

-- from `at` the sweep went on to at': between them the answer is what it was, and at' is the limit, or the answer turns there and the stack
-- is that of at'
pub record Turned (keys hops ends open-hops : List ℕ) (base limit at row depth at' : ℕ) : Type 0 where
  pub past : at < at'
  pub upto : at' ≤ limit
  pub stays : (a : ℕ) → at ≤ a → a < at' → answer base (all_rows keys hops) a ≡ answer base (all_rows keys hops) at
  pub turned : at' < limit → answer base (all_rows keys hops) at' ≡ answer base (all_rows keys hops) at → ⊥
  pub stands : at' < limit → Stack keys hops ends open-hops row depth at' (at' + 1)

-- the runs of f from the start up to the limit were written from the front, and nothing else
pub record RunsWritten (f : ℕ → ℕ) (start limit : ℕ) (starts rhops : List ℕ) (n : ℕ) (starts' rhops' : List ℕ) : Type 0 where
  pub count : n ≡ counted (turns_from start f) start (limit - start)
  pub starts_are : starts' ≡ written (picked (turns_from start f) start (limit - start)) starts
  pub hops_are : rhops' ≡ written (map f (picked (turns_from start f) start (limit - start))) rhops

-- two slices are exactly the runs of f from the start up to the limit
unfoldable pub are_runs : (ℕ → ℕ) → ℕ → ℕ → List ℕ → List ℕ → Bool
are_runs f start limit starts rhops =
    same starts (picked (turns_from start f) start (limit - start)) && same rhops (map f (picked (turns_from start f) start (limit - start)))
