-- `why::find` meets its contract: a row more that holds the address finds a free slot, since at most 33 hold one address.
-- Assumes nothing.
use Rattle.std.proofs.Common.{ℕ, ◌<◌, arith, sym, ◌∙◌}
use Rattle.std.proofs.lemmas.List.{get_or-take, length-take}
use Rattle.why.proofs.Places.{keys_there}
use Rattle.why.proofs.Walking.{noting_start, note_fits, noting_one, noting_none, noted_many, noted_few, noted}
use Rattle.why.proofs.find.Goals as goal
use Rattle.why.proofs.find.Goals.{Then-holds, then-holds, else-holds}

free : (c : Then-holds) → c.loop-at.n < 33
free c =
    note_fits _ c.requires c.loop-at.invariant (omega (arith, length-take {A = ℕ})) (grind (arith, get_or-take, length-take))
    (sym c.holds.ensures ∙ c.if-holds.true)

pub slice_bounds-key-items-end : goal.slice_bounds-key-items-end
slice_bounds-key-items-end c = omega (arith, length-take {A = ℕ}, keys_there _ _ _ c.requires)

pub loop-at-init : goal.loop-at-init
loop-at-init c = noting_start _ _ _ _

pub offset_bounds-found-n : goal.offset_bounds-found-n
offset_bounds-found-n c = omega (arith, free c)

pub bounds-found-n : goal.bounds-found-n
bounds-found-n c = free (goal.at.bounds-found-n c).Then-holds

pub overflow_add-n : goal.overflow_add-n
overflow_add-n c = omega (arith, free (goal.at.overflow_add-n c).Then-holds)

pub loop-at-preserved : goal.loop-at-preserved
loop-at-preserved c =
    elim c.if-holds.branch [
      | then-holds w ↦
          rw (w.found-is, w.n-is)
          (noting_one _ c.requires c.loop-at.invariant (omega (arith, length-take {A = ℕ})) (grind (arith, get_or-take, length-take))
          (sym c.holds.ensures ∙ w.if-holds.true) (omega arith) (omega arith) (omega arith))
      | else-holds w ↦
          rw (w.found-is, w.n-is)
          (noting_none _ c.requires c.loop-at.invariant (omega (arith, length-take {A = ℕ})) (grind (arith, get_or-take, length-take))
          (sym c.holds.ensures ∙ w.if-holds.false))
    ]

pub returns-clause-few : goal.returns-clause-few
returns-clause-few c = noted_few _ c.requires c.loop-at.invariant (omega (arith, length-take {A = ℕ}, keys_there _ _ _ c.requires))

pub returns-clause-many : goal.returns-clause-many
returns-clause-many c = noted_many _ c.requires c.loop-at.invariant (omega (arith, length-take {A = ℕ}, keys_there _ _ _ c.requires))

pub returns-clause-listed : goal.returns-clause-listed
returns-clause-listed c = noted _ c.requires c.loop-at.invariant (omega (arith, length-take {A = ℕ}, keys_there _ _ _ c.requires))
