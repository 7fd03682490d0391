-- Which rows extend a clue: those behind it in key order whose network is before its end. So some row does exactly if the first key behind it
-- does.
-- Assumes nothing.
use mathlib.Core.Path.{◌≡◌, refl, sym, ap, ◌∙◌}
use mathlib.Core.Logic.{⊎_elim}
use mathlib.Core.Bool.{Bool, true, false, ◌&&◌, ◌||◌}
use mathlib.Core.List.{List, [], ◌∷◌}
use Prim.Native.Nat.{ℕ, suc, ◌+◌, ◌-◌, ◌≤◌, ◌<◌}
use native.Mathlib.Numerals.{add-one}
use native.Mathlib.Nat.{le_of_lt, zero-add, mod-add-mod, mod-eq_of_lt}
use native.Mathlib.Omega.{arith}
use lib.ListN.{length, get_or}
use lib.Dec.{leb, ltb, leb-suc-suc}
use borrow.Author.Tests.{ltb-true, ltb-false, eqb-true, lt-ltb, le-ltb, le-leb, eq-eqb}
use Rattle.ground.specs.Column.{ascends, lower}
use Rattle.cidr.specs.Prefix.{network, length_of, size, end_of, host_bits, is_prefix, holds, covers}
use Rattle.routes.specs.Row.{Row, keys_of, every}
use Rattle.routes.specs.WellFormed.{prefixes, well_formed}
use Rattle.entries.specs.Clue.{extends, any, extended}
use Rattle.entries.proofs.Decided.{decided, and_left, and_right, and_both}
use Rattle.entries.proofs.Truth.{same_test}
use Rattle.entries.proofs.HostBits.{host_bits_lt, host_bits_le, host_bits_fall}
use Rattle.entries.proofs.Clue.{Prefix, prefix_parts}
use Rattle.entries.proofs.Keys.{ascends_rest, ascends_next, lower_nil, lower_past, lower_none}
use Rattle.entries.proofs.Rows.{all_rows, well_prefixes, well_ascends, keys_are}

-- a key is behind a clue, and its network is before an end
abbrev inside : ℕ → ℕ → ℕ → Bool
inside k end key = ltb k key && ltb (network key) end

-- past a network that has no host bits, the host bits are how far
host_bits_past : (len net d : ℕ) → host_bits len net ≡ 0 → d < size len → host_bits len (net + d) ≡ d
unfolding host_bits
host_bits_past len net d e h = sym (mod-add-mod net (size len) d) ∙ rw (e, zero-add) (mod-eq_of_lt h)

module _ (k key : ℕ) (p : Prefix k) (q : Prefix key) where
  extends_inside : extends k key ≡ true → inside k (end_of k) key ≡ true
  unfolding extends covers holds
  extends_inside e =
      let longer = ltb-true (length_of k) (length_of key) (and_left (ltb (length_of k) (length_of key)) _ e) in
      let held = and_right (leb (length_of k) (length_of key)) _ (and_right (ltb (length_of k) (length_of key)) _ e) in
      let cut = eqb-true (network key - host_bits (length_of k) (network key)) (network k) held in
      let lt = host_bits_lt (length_of k) (network key) in
      let le = host_bits_le (length_of k) (network key) in
      and_both (lt-ltb k key (omega arith)) (lt-ltb (network key) (end_of k) (omega arith))

  module _ (later : k < key) (before : network key < end_of k) where
    cut : host_bits (length_of k) (network key) ≡ network key - network k
    cut =
        let there : network k + (network key - network k) ≡ network key = omega arith in
        rw there at (host_bits_past (length_of k) (network k) (network key - network k) p.aligned (omega arith))

    longer : length_of k < length_of key
    longer = ⊎_elim
        (λ e. ltb-true (length_of k) (length_of key) e)
        (λ e. absurd (omega (
          arith,
          cut,
          q.aligned,
          host_bits_fall (length_of k) (length_of key) (network key) (ltb-false (length_of k) (length_of key) e),
          ltb-false (length_of k) (length_of key) e,
        )))
        (decided (ltb (length_of k) (length_of key)))

    inside_extends : extends k key ≡ true
    unfolding extends covers holds
    inside_extends =
        and_both (lt-ltb (length_of k) (length_of key) longer)
        (and_both (le-leb (length_of k) (length_of key) (le_of_lt longer))
        (eq-eqb (network key - host_bits (length_of k) (network key)) (network k) (omega (arith, cut))))

  extends_is : extends k key ≡ inside k (end_of k) key
  extends_is = same_test _ _ extends_inside
      (λ e. inside_extends (ltb-true k key (and_left (ltb k key) _ e)) (ltb-true (network key) (end_of k) (and_right (ltb k key) _ e)))

extended_is : (k : ℕ) → is_prefix k ≡ true → (rows : List Row) → prefixes rows ≡ true
    → extended rows k ≡ any (λ r. inside k (end_of k) r.key) rows
unfolding prefixes every extended any
extended_is k p [] e = refl
extended_is k p (r ∷ rs) e =
    rw (
      extends_is k r.key (prefix_parts k p) (prefix_parts r.key (and_left (is_prefix r.key) (prefixes rs) e)),
      extended_is k p rs (and_right (is_prefix r.key) (prefixes rs) e),
    )

first_decides : (b rest : Bool) → (b ≡ false → rest ≡ false) → (b || rest) ≡ b
first_decides true rest h = refl
first_decides false rest h = h refl

-- of ascending keys the first behind k tells of all
module _ (k end : ℕ) where
  none_inside : (x : ℕ) (rows : List Row) → ascends (x ∷ keys_of rows) ≡ true → end ≤ network x → any (λ r. inside k end r.key) rows ≡ false
  unfolding any
  none_inside x [] a l = refl
  none_inside x (r ∷ rs) a l =
      let next = ascends_next x (keys_of (r ∷ rs)) r.key (keys_of rs) a in
      let past : end ≤ network r.key = omega arith in
      rw (le-ltb (network r.key) end past, none_inside r.key rs (ascends_rest x (keys_of (r ∷ rs)) a) past)
      (⊎_elim (λ e. rw e) (λ e. rw e) (decided (ltb k r.key)))

  first_inside : List ℕ → Bool
  first_inside keys = ltb (lower (suc k) keys) (length keys) && ltb (network (get_or keys (lower (suc k) keys) 0)) end

  first_inside_lem : (rows : List Row) → ascends (keys_of rows) ≡ true → any (λ r. inside k end r.key) rows ≡ first_inside (keys_of rows)
  unfolding any first_inside
  first_inside_lem [] a = rw (lower_nil (suc k))
  first_inside_lem (r ∷ rs) a =
      ⊎_elim here (there (first_inside_lem rs (ascends_rest r.key (keys_of rs) a))) (decided (ltb k r.key))
    where
      here : ltb k r.key ≡ true → any (λ r. inside k end r.key) (r ∷ rs) ≡ first_inside (keys_of (r ∷ rs))
      here e =
          rw (lower_none (suc k) r.key (keys_of rs) a (ltb-true k r.key e), e, lt-ltb 0 (suc (length (keys_of rs))) (omega arith))
          (first_decides (ltb (network r.key) end) _ (λ q. none_inside r.key rs a (ltb-false (network r.key) end q)))

      there : any (λ r. inside k end r.key) rs ≡ first_inside (keys_of rs) → ltb k r.key ≡ false
          → any (λ r. inside k end r.key) (r ∷ rs) ≡ first_inside (keys_of (r ∷ rs))
      there rec e =
          rw (
            lower_past (suc k) r.key (keys_of rs) (omega (arith, ltb-false k r.key e)),
            e,
            leb-suc-suc (suc (lower (suc k) (keys_of rs))) (length (keys_of rs)),
          )
          rec

module _ (keys hops : List ℕ) (w : well_formed (length keys) keys hops ≡ true) (k : ℕ) (p : is_prefix k ≡ true) where
  first_tells : extended (all_rows keys hops) k ≡ first_inside k (end_of k) keys
  first_tells =
      extended_is k p (all_rows keys hops) (well_prefixes (length keys) keys hops w)
      ∙ first_inside_lem k (end_of k) (all_rows keys hops) (well_ascends (length keys) keys hops w)
      ∙ ap (first_inside k (end_of k)) (keys_are keys hops w)

  module _ (next : ℕ) (at : next ≡ lower (k + 1) keys) where
    is : next ≡ lower (suc k) keys
    is = at ∙ ap (λ n. lower n keys) (add-one k)

    pub none_behind : length keys ≤ next → false ≡ extended (all_rows keys hops) k
    unfolding first_inside
    none_behind l = rw (first_tells, ← is, le-ltb next (length keys) l)

    pub first_decides_it : next < length keys → ltb (network (get_or keys next 0)) (end_of k) ≡ extended (all_rows keys hops) k
    unfolding first_inside
    first_decides_it l = rw (first_tells, ← is, lt-ltb next (length keys) l)
