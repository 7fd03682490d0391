-- The texts that are put together to make a row or a line, and what a function that puts a text into a slice returns and leaves.
-- Assumes nothing.
use Rattle.std.specs.Prelude.{◌≡◌, List, [], ◌∷◌, ◌++◌, ℕ, ◌+◌, ◌≤◌, length, take, drop}
use Rattle.ground.specs.Slots.{written}
use Rattle.digits.specs.Digits.{decimal, dotted_text}

-- a number, and an address, with the byte that stands after it
abbrev pub number_text : ℕ → ℕ → List ℕ
number_text n mark = decimal n ++ mark ∷ []

abbrev pub address_text : ℕ → ℕ → List ℕ
address_text a mark = dotted_text a ++ mark ∷ []

-- at the front: it returns the length of the text, and leaves the text in front of what stood behind it
pub record Wrote (text : List ℕ) (r : ℕ) (old new : List ℕ) : Type 0 where
  pub bytes : r ≡ length text
  pub slots : new ≡ written text old

-- a slice has room for a text at a place
pub record Fits (at : ℕ) (text slots : List ℕ) : Type 0 where
  pub room : at + length text ≤ length slots

-- a slice with a text at a place, and all other slots as they were
unfoldable pub placed : ℕ → List ℕ → List ℕ → List ℕ
placed at text old = take at old ++ (text ++ drop (at + length text) old)

-- what a function that puts a text at a place returns and leaves: the place after the text, and the slice with the text there
pub record Put (at : ℕ) (text : List ℕ) (r : ℕ) (old new : List ℕ) : Type 0 where
  pub after : r ≡ at + length text
  pub slots : new ≡ placed at text old
