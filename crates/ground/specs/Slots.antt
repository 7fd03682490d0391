-- Rule 5.5: an accepted call writes from the front of a slice. Rule 10.8: an edit also clears slots.
-- Assumes nothing.
use Rattle.std.specs.Prelude.{Bool, true, false, ◌&&◌, List, [], ◌∷◌, ◌++◌, ℕ, ◌-◌, max, length, drop, replicate, eqb}

-- Rule 5.5: a slice has what the call writes at its front, and behind that its slots as they were.
unfoldable pub written : List ℕ → List ℕ → List ℕ
written new old = new ++ drop (length new) old

-- what a call writes, and behind it the freed slots up to the old count, each with the same element; the slots beyond are as they were
abbrev pub refilled : {A : Type 0} → A → List A → ℕ → List A → List A
refilled freed new count old = new ++ (replicate (count - length new) freed ++ drop (max (length new) count) old)

-- Rule 10.8: behind what an edit writes, slots that only the old count reached hold 0. Slots that neither count reaches are untouched.
unfoldable pub rewritten : List ℕ → ℕ → List ℕ → List ℕ
rewritten new count old = refilled 0 new count old

-- two lists are the same, number for number
unfoldable pub same : List ℕ → List ℕ → Bool
same [] [] = true
same [] (y ∷ ys) = false
same (x ∷ xs) [] = false
same (x ∷ xs) (y ∷ ys) = eqb x y && same xs ys
