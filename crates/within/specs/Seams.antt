-- A run table after an edit, by the one before it: the old runs below the prefix, those inside it, one at its end or none, and the old ones
-- above. f is the answer before the edit and g the one after it; they agree outside the addresses from net up to end.
-- Assumes nothing.
use Rattle.std.specs.Prelude.{◌≡◌, Bool, true, false, cond, not, ◌&&◌, ◌||◌, List, [], ◌∷◌, ◌++◌, map, ℕ, ◌+◌, ◌-◌, ◌≤◌, ◌<◌, get_or, take, drop, eqb, ltb, leb}
use Rattle.ground.specs.Column.{lower}
use Rattle.ground.specs.Stretch.{picked, turns_from}

-- two answers below N that agree outside the numbers from net up to end
pub record Outside (f g : ℕ → ℕ) (net end N : ℕ) : Type 0 where
  pub some : net < end
  pub fits : end ≤ N
  pub below : (a : ℕ) → a < net → g a ≡ f a
  pub above : (a : ℕ) → end ≤ a → a < N → g a ≡ f a

-- the runs of f over the n numbers from the first on
pub record RunsOf (f : ℕ → ℕ) (first n : ℕ) (starts hops : List ℕ) : Type 0 where
  pub starts_are : starts ≡ picked (turns_from first f) first n
  pub hops_are : hops ≡ map f starts

-- i old runs begin below net, and j up to end; before: the run at net joins the one before it; behind: the run at end joins the one before
-- it, or there is none at end. The run that holds net - 1 is old run i - 1, and the one that holds end is old run j - 1.
pub record Seams (g : ℕ → ℕ) (net end N : ℕ) (starts hops : List ℕ) (i j : ℕ) (before behind : Bool) : Type 0 where
  pub place : i ≡ lower net starts
  pub past : j ≡ lower (end + 1) starts
  pub joins_before_lem : before ≡ (ltb 0 net && eqb (g net) (get_or hops (i - 1) 0))
  pub joins_behind_lem : behind ≡ (leb N end || eqb (get_or hops (j - 1) 0) (g (end - 1)))

-- a number, or none
abbrev pub one : Bool → ℕ → List ℕ
one true x = x ∷ []
one false x = []

-- the inside, without its first run where that joins the one before it
abbrev pub seam : Bool → List ℕ → List ℕ
seam true xs = drop 1 xs
seam false xs = xs

-- a column of the new table, starts or hops: x is the number for the run that may begin at end
abbrev pub joined : ℕ → ℕ → Bool → Bool → ℕ → List ℕ → List ℕ → List ℕ
joined i j before behind x inner old = take i old ++ (seam before inner ++ (one (not behind) x ++ drop j old))

-- how many numbers it has
abbrev pub joined_count : ℕ → ℕ → Bool → Bool → ℕ → ℕ → ℕ
joined_count i j before behind inner old = i + (inner - cond before 1 0) + cond behind 0 1 + (old - j)
