-- What the list writer returns and leaves, check by check: 11, 13, and else the text at the front of the buffer.
-- Assumes nothing.
use mathlib.Core.Path.{◌≡◌, sym}
use mathlib.Core.Bool.{true, false}
use mathlib.Core.List.{List}
use Prim.Native.Nat.{ℕ}
use lib.ListN.{length}
use lib.Dec.{leb}
use borrow.Author.Tests.{lt-ltb, le-ltb, leb-true, leb-false}
use Rattle.ground.specs.Numbers.{first_fault, outcome, done, ill_formed, no_room}
use Rattle.routes.specs.Row.{list_lent, rows_of}
use Rattle.routes.specs.WellFormed.{well_formed, formed}
use Rattle.runs.proofs.WholeList.{list_test}
use Rattle.text.specs.Text.{text_of, wrote, write, write_checks}
use Rattle.digits.specs.Putting.{Wrote}

-- the list test of the writer is whether the list is well-formed
pub tested_well : (count : ℕ) (keys hops : List ℕ) → formed false count keys hops ≡ true → well_formed count keys hops ≡ true
tested_well count keys hops e = list_test count keys hops (sym e)

module _ (count : ℕ) (keys hops buffer : List ℕ) where
  pub write_ill : formed false count keys hops ≡ false → write (list_lent count keys hops) buffer ≡ wrote ill_formed 0 buffer
  unfolding write write_checks first_fault outcome
  write_ill e = let ill = list_test count keys hops (sym e) in rw ill

  module _ (e : formed false count keys hops ≡ true) where
    pub write_short : leb (length (text_of (rows_of count keys hops))) (length buffer) ≡ false
        → write (list_lent count keys hops) buffer ≡ wrote no_room 0 buffer
    unfolding write write_checks first_fault outcome
    write_short f =
        rw (tested_well count keys hops e, lt-ltb (length buffer) (length (text_of (rows_of count keys hops))) (leb-false _ _ f))

    pub write_done : {n : ℕ} {out : List ℕ} → leb (length (text_of (rows_of count keys hops))) (length buffer) ≡ true
        → Wrote (text_of (rows_of count keys hops)) n buffer out → write (list_lent count keys hops) buffer ≡ wrote done n out
    unfolding write write_checks first_fault outcome
    write_done f w =
        rw (
          tested_well count keys hops e,
          le-ltb (length buffer) (length (text_of (rows_of count keys hops))) (leb-true _ _ f),
          w.bytes,
          w.slots,
        )

-- what `write` needs
pub ruleset writer = (tested_well, write_ill, write_short)
