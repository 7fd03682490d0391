-- Whether a list is what 11 lets pass, row by row, with or without label 0: a list whose count is within its room is well-formed exactly
-- if the first row passes its own tests, its key is below the next row's, and the rows after it pass in the same way.
-- Assumes nothing.
use mathlib.Core.Path.{◌≡◌, refl, sym, ap, ◌∙◌}
use mathlib.Core.Bool.{Bool, true, false, not, ◌&&◌, ◌||◌, and-false, or-and_distrib_left}
use mathlib.Core.List.{List, [], ◌∷◌}
use Prim.Native.Nat.{ℕ, ◌+◌, ◌≤◌, ◌<◌}
use lib.ListN.{get_or}
use lib.Dec.{leb, ltb, eqb}
use borrow.Author.Tests.{leb-true, le-leb, lt-leb, le-ltb, lt-ltb}
use Rattle.ground.proofs.Truth.{and_left, and_right, and_both}
use Rattle.ground.specs.Column.{below, ascends}
use Rattle.cidr.specs.Prefix.{is_prefix}
use Rattle.routes.specs.Row.{Row, rows_of, keys_of, every, list_room}
use Rattle.routes.specs.WellFormed.{prefixes, hops_given, ascending, half_rows, good_rows, well_formed, half_formed, formed}
use Rattle.routes.proofs.RowsOf.{row_at}
use Rattle.routes.proofs.Rest.{rest, rest_start, rest_end, rest_next}

-- what 11 asks of the rows, and of one row by itself, by the flag: whether label 0 is an ordinary hop
pub rows_pass : Bool → List Row → Bool
rows_pass half rows = (half || hops_given rows) && half_rows rows

abbrev pub row_passes : Bool → Row → Bool
row_passes half r = (half || not (eqb r.hop 0)) && is_prefix r.key

regroup : (x p b xs ps bs : Bool) → ((x && xs) && ((p && ps) && (b && bs))) ≡ ((x && p) && (b && (xs && (ps && bs))))
regroup false p b xs ps bs = refl
regroup true false b xs ps bs = and-false xs
regroup true true true xs ps bs = refl
regroup true true false true ps bs = and-false ps
regroup true true false false ps bs = refl

pass_nil : (half : Bool) → rows_pass half [] ≡ true
unfolding rows_pass hops_given half_rows prefixes ascending ascends every
pass_nil true = refl
pass_nil false = refl

pass_cons : (half : Bool) (r : Row) (rs : List Row)
    → rows_pass half (r ∷ rs) ≡ (row_passes half r && (below r.key (keys_of rs) && rows_pass half rs))
unfolding rows_pass hops_given half_rows prefixes ascending ascends every
pass_cons half r rs =
    let given = not (eqb r.hop 0) in
    ap (λ x. x && half_rows (r ∷ rs)) (or-and_distrib_left half given (hops_given rs))
    ∙ regroup (half || given) (is_prefix r.key) (below r.key (keys_of rs)) (half || hops_given rs) (prefixes rs) (ascending rs)

-- the rows from a place on pass, and the key at a place is below that of the next row, if there is one
abbrev pub pass_from : Bool → ℕ → List ℕ → List ℕ → ℕ → Bool
pass_from half count keys hops i = rows_pass half (rest count keys hops i)

abbrev below_next : ℕ → List ℕ → List ℕ → ℕ → Bool
below_next count keys hops i = below (get_or keys i 0) (keys_of (rest count keys hops (i + 1)))

-- a list is formed where its count is within its room and its rows pass
module _ (count : ℕ) (keys hops : List ℕ) where
  formed_is : (half : Bool)
      → formed half count keys hops ≡ (leb count (list_room keys hops) && rows_pass half (rows_of count keys hops))
  unfolding formed half_formed well_formed good_rows rows_pass
  formed_is true = refl
  formed_is false = refl

  pub well_half : well_formed count keys hops ≡ true → half_formed count keys hops ≡ true
  unfolding half_formed well_formed good_rows
  well_half e =
      and_both (and_left (leb count (list_room keys hops)) _ e)
      (and_right (hops_given (rows_of count keys hops)) _ (and_right (leb count (list_room keys hops)) _ e))

  pub formed_half : (half : Bool) → formed half count keys hops ≡ true → half_formed count keys hops ≡ true
  unfolding formed
  formed_half true e = e
  formed_half false e = well_half e

  pub half_room : half_formed count keys hops ≡ true → count ≤ list_room keys hops
  unfolding half_formed
  half_room e = leb-true count (list_room keys hops) (and_left (leb count (list_room keys hops)) _ e)

  pub half_ascends : half_formed count keys hops ≡ true → ascending (rows_of count keys hops) ≡ true
  unfolding half_formed half_rows
  half_ascends e = and_right (prefixes (rows_of count keys hops)) _ (and_right (leb count (list_room keys hops)) _ e)

  pub beyond_room : (half : Bool) → list_room keys hops < count → false ≡ formed half count keys hops
  beyond_room half h = sym (formed_is half ∙ rw (lt-leb count (list_room keys hops) h))

  -- the walk over the rows: where it stands, the list is formed exactly if the rows from there on pass
  module _ (half : Bool) (room : count ≤ list_room keys hops) where
    pub walk_start : formed half count keys hops ≡ pass_from half count keys hops 0
    walk_start = formed_is half ∙ rw (le-leb count (list_room keys hops) room, rest_start)

    module _ (i : ℕ) where
      pub walk_end : count ≤ i → pass_from half count keys hops i ≡ true
      walk_end h = rw (rest_end count keys hops i h) (pass_nil half)

      module _ (h : i < count) where
        here : pass_from half count keys hops i
            ≡ (row_passes half (row_at keys hops i) && (below_next count keys hops i && pass_from half count keys hops (i + 1)))
        here = rw (rest_next count keys hops i h room) (pass_cons half _ _)

        pub row_fails : row_passes half (row_at keys hops i) ≡ false → pass_from half count keys hops i ≡ false
        row_fails e = rw (here, e)

        passes : row_passes half (row_at keys hops i) ≡ true → below_next count keys hops i ≡ true
            → pass_from half count keys hops i ≡ pass_from half count keys hops (i + 1)
        passes e b = rw (here, e, b)

        pub passes_last : row_passes half (row_at keys hops i) ≡ true → count ≤ i + 1
            → pass_from half count keys hops i ≡ pass_from half count keys hops (i + 1)
        passes_last e l = passes e (rw (rest_end count keys hops (i + 1) l))

        module _ (l : i + 1 < count) where
          next : below_next count keys hops i ≡ ltb (get_or keys i 0) (get_or keys (i + 1) 0)
          next = rw (rest_next count keys hops (i + 1) l room)

          pub key_fails : get_or keys (i + 1) 0 ≤ get_or keys i 0 → pass_from half count keys hops i ≡ false
          key_fails le = rw (here, next, le-ltb _ _ le, and-false)

          pub passes_next : row_passes half (row_at keys hops i) ≡ true → get_or keys i 0 < get_or keys (i + 1) 0
              → pass_from half count keys hops i ≡ pass_from half count keys hops (i + 1)
          passes_next e lt = passes e (next ∙ lt-ltb _ _ lt)

-- what each way through `rows_ok` goes by
pub ruleset walk = (walk_start, walk_end, row_fails, key_fails, passes_next, passes_last)
