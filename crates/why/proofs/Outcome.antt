-- What the listing and its text return and leave, check by check: 11, 13, and else what `find` noted. The places that were noted stand at
-- the front, and the last of them is the reason. The rows that `gather` gathers from them are a well-formed list themselves, so the list
-- writer's outcome of them is the text's.
-- Assumes nothing.
use mathlib.Core.Path.{◌≡◌, refl, sym, ap, ◌∙◌}
use mathlib.Core.Bool.{true, false}
use mathlib.Core.List.{List, [], ◌∷◌, ◌++◌, map}
use mathlib.Core.Option.{Option, none, some}
use Prim.Native.Nat.{ℕ, ◌-◌, ◌≤◌, ◌<◌}
use native.Mathlib.Omega.{arith}
use lib.ListN.{length, get_or, take, drop, length-append, length-map}
use lib.Dec.{leb}
use borrow.Author.Tests.{le-leb, lt-ltb, le-ltb}
use Rattle.ground.specs.Numbers.{first_fault, outcome, done, ill_formed, no_room}
use Rattle.ground.specs.Slots.{written}
use Rattle.ground.proofs.Truth.{and_right, and_both}
use Rattle.ground.proofs.Slots.{first_slot}
use Rattle.cidr.specs.Prefix.{holds}
use Rattle.routes.specs.Row.{rows_of, list_room, ListLent, list_lent, rows_lent}
use Rattle.routes.specs.WellFormed.{good_rows, well_formed, formed}
use Rattle.routes.specs.Plain.{matching}
use Rattle.routes.proofs.Row.{those_has}
use Rattle.routes.proofs.RowsOf.{row_at}
use Rattle.routes.proofs.WellFormed.{Good, good_parts, parts_good}
use Rattle.routes.proofs.Change.{those_ascending}
use Rattle.runs.proofs.WholeList.{list_test}
use Rattle.text.specs.Text.{wrote, write, write_checks}
use Rattle.why.specs.Why.{places_of, reason_for, told, why, why_checks}
use Rattle.why.specs.Text.{why_text_of, why_text, why_text_checks}
use Rattle.why.proofs.Places.{keys_there, hops_there}
use Rattle.why.proofs.Listed.{listed_holds, rows_listed}
use Rattle.why.proofs.ReasonTrue.{reason_is_last, reason_is_none}

same_told : {n n' : ℕ} {r r' : Option ℕ} {p p' : List ℕ} → n ≡ n' → r ≡ r' → p ≡ p' → told done n r p ≡ told done n' r' p'
same_told e e' e'' = cc

-- the keys and the hops at some places, with whatever behind them, have the rows at these places
rows_gathered : (keys hops places x y : List ℕ)
    → rows_of (length places) (map (λ at. get_or keys at 0) places ++ x) (map (λ at. get_or hops at 0) places ++ y)
    ≡ map (row_at keys hops) places
unfolding rows_of
rows_gathered keys hops [] x y = refl
rows_gathered keys hops (p ∷ ps) x y = ap (row_at keys hops p ∷◌) (rows_gathered keys hops ps x y)

-- a slice that was written to is at least as long as what was written
written_least : (new old : List ℕ) {n : ℕ} → n ≤ length new → n ≤ length (written new old)
unfolding written
written_least new old le = simp length-append (omega arith)

-- the list test of both is whether the list is well-formed
pub tested_well : (count : ℕ) (keys hops : List ℕ) → formed false count keys hops ≡ true → well_formed count keys hops ≡ true
tested_well count keys hops e = list_test count keys hops (sym e)

module _ (l : ListLent) (a : ℕ) (places : List ℕ) where
  pub why_ill : well_formed l.count l.keys l.hops ≡ false → told ill_formed 0 none places ≡ why l a places
  unfolding why why_checks first_fault outcome
  why_ill e = rw e

  module _ (well : well_formed l.count l.keys l.hops ≡ true) where
    pub why_short : length places < length (places_of a (rows_lent l)) → told no_room 0 none places ≡ why l a places
    unfolding why why_checks first_fault outcome
    why_short lt = rw (well, lt-ltb (length places) (length (places_of a (rows_lent l))) lt)

    pub why_done : length (places_of a (rows_lent l)) ≤ length places
        → told done (length (places_of a (rows_lent l))) (reason_for a (rows_lent l)) (written (places_of a (rows_lent l)) places)
        ≡ why l a places
    unfolding why why_checks first_fault outcome
    why_done le = rw (well, le-ltb (length places) (length (places_of a (rows_lent l))) le)

-- the refusals, as the code tests for them
module _ (count : ℕ) (keys hops : List ℕ) (a : ℕ) where
  pub why_refused : (places : List ℕ) → formed false count keys hops ≡ false → why (list_lent count keys hops) a places ≡ told ill_formed 0 none places
  why_refused places e = sym (why_ill (list_lent count keys hops) a places (list_test count keys hops (sym e)))

  pub why_no_room : (places : List ℕ) → formed false count keys hops ≡ true → length places < length (places_of a (rows_of count keys hops))
      → why (list_lent count keys hops) a places ≡ told no_room 0 none places
  why_no_room places e lt = sym (why_short (list_lent count keys hops) a places (tested_well count keys hops e) lt)

  pub text_refused : (buffer : List ℕ) → formed false count keys hops ≡ false
      → why_text (list_lent count keys hops) a buffer ≡ wrote ill_formed 0 buffer
  unfolding why_text why_text_checks first_fault outcome
  text_refused buffer e = let ill = list_test count keys hops (sym e) in rw ill

-- what `why` and `why_text` need at their refusals
pub ruleset refusals = (tested_well, why_refused, why_no_room, text_refused)

-- Past the list test, `find` noted the places.
module _ (count : ℕ) (keys hops : List ℕ) (a : ℕ) (tested : formed false count keys hops ≡ true) (n : ℕ) (found : List ℕ)
    (many : n ≡ length (places_of a (rows_of count keys hops))) (listed : take n found ≡ places_of a (rows_of count keys hops)) where
  well : well_formed count keys hops ≡ true
  well = tested_well count keys hops tested

  -- the rows that hold the address are a well-formed list's
  matching_good : Good (matching a (rows_of count keys hops))
  unfolding well_formed matching
  matching_good =
      let rows = rows_of count keys hops in
      let good = good_parts rows (and_right (leb count (list_room keys hops)) (good_rows rows) well) in
      let held = those_has (λ r. holds r.key a) rows in
      record {
        prefixed = λ r m. good.prefixed r (held r m).0;
        given = λ r m. good.given r (held r m).0;
        ascends = those_ascending (λ r. holds r.key a) rows good.ascends;
      }

  -- the places copied to the front of those that were lent
  module _ (places : List ℕ) (fits : n ≤ length places) where
    left : take n found ++ drop n places ≡ written (places_of a (rows_of count keys hops)) places
    unfolding written
    left = rw (listed, many)

    pub why_nothing : n ≡ 0 → told done 0 none (take n found ++ drop n places) ≡ why (list_lent count keys hops) a places
    why_nothing z =
        let unlisted : length (places_of a (rows_of count keys hops)) ≡ 0 = omega arith in
        let reason = reason_is_none count keys hops well a unlisted in
        same_told (sym unlisted) (sym reason) left ∙ why_done (list_lent count keys hops) a places well (omega arith)

    pub why_row : (last : ℕ) → 1 ≤ n → last ≡ n - 1
        → told done n (some (get_or found last 0)) (take n found ++ drop n places) ≡ why (list_lent count keys hops) a places
    why_row last pos e =
        let reason = reason_is_last count keys hops well a (omega arith) in
        let slot = first_slot n found (places_of a (rows_of count keys hops)) listed (n - 1) (omega arith) in
        let at_last : get_or found last 0 ≡ get_or found (n - 1) 0 = ap (λ k. get_or found k 0) e in
        same_told many
        (ap some (at_last ∙ slot ∙ ap (λ k. get_or (places_of a (rows_of count keys hops)) (k - 1) 0) many) ∙ sym reason) left
        ∙ why_done (list_lent count keys hops) a places well (omega arith)

  -- each is a row's
  pub noted_there : (i : ℕ) → i < length (take n found)
      → (get_or (take n found) i 0 < length keys) × (get_or (take n found) i 0 < length hops)
  noted_there i lt =
      let in_places : i < length (places_of a (rows_of count keys hops)) = rw listed at lt in
      let at = (listed_holds count keys hops well a i in_places).0 in
      rw listed (omega (arith, keys_there count keys hops well), omega (arith, hops_there count keys hops well))

  -- the rows that were gathered from them
  module _ {held_keys held_hops : List ℕ} (old_keys old_hops : List ℕ)
      (keys_are : held_keys ≡ written (map (λ at. get_or keys at 0) (take n found)) old_keys)
      (hops_are : held_hops ≡ written (map (λ at. get_or hops at 0) (take n found)) old_hops) where
    gathered : rows_of n held_keys held_hops ≡ matching a (rows_of count keys hops)
    unfolding written
    gathered =
        rw (keys_are, hops_are, listed, many)
        (rows_gathered keys hops (places_of a (rows_of count keys hops)) _ _ ∙ sym (rows_listed count keys hops well a))

    gathered_well : n ≤ 33 → well_formed n held_keys held_hops ≡ true
    unfolding well_formed list_room
    gathered_well few =
        let in_keys : n ≤ length held_keys = rw (keys_are, listed) (written_least _ old_keys (simp length-map (omega arith))) in
        let in_hops : n ≤ length held_hops = rw (hops_are, listed) (written_least _ old_hops (simp length-map (omega arith))) in
        let fits : n ≤ list_room held_keys held_hops = omega arith in
        and_both (le-leb n _ fits) (rw gathered (parts_good _ matching_good))

    pub text_of_gathered : n ≤ 33 → (buffer : List ℕ)
        → write (list_lent n held_keys held_hops) buffer ≡ why_text (list_lent count keys hops) a buffer
    unfolding write write_checks why_text why_text_checks why_text_of
    text_of_gathered few buffer = let all_well = gathered_well few in let of_list = well in rw (all_well, of_list, gathered)
