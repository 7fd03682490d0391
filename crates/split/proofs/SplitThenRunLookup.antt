-- Rules 11.9 and 11.10 for run tables, from the contracts alone: where a split was accepted and a run table was built of each half, run
-- lookup in both tables answers at every address, and the two labels XOR to what plain lookup in the list gives. Up to the lesser of the two
-- last addresses each half's label stays the same, and so does their XOR. Of the next address nothing is said: both labels may change there.
-- Assumes nothing.
use mathlib.Core.Path.{◌≡◌, sym, ◌∙◌}
use mathlib.Core.List.{List}
use Prim.Native.Nat.{ℕ, ◌≤◌, ◌<◌, min}
use native.Mathlib.Omega.{arith}
use lib.Bits.{bit_xor}
use Rattle.ground.specs.Numbers.{done}
use Rattle.cidr.specs.Prefix.{addresses}
use Rattle.routes.specs.Row.{ListLent, list_lent, rows_lent}
use Rattle.routes.specs.Plain.{plain}
use Rattle.routes.specs.Lookup.{plain_lookup}
use Rattle.std.proofs.Common.{Result, Ok}
use Rattle.ground.specs.declared.Refusal.{Refusal}
use Rattle.lookup.specs.declared.Probed.{Probed}
use Rattle.runs.specs.Table.{runs_lent}
use Rattle.runs.specs.Build.{SlotsLent, build_gave, build_half}
use Rattle.lookup.specs.Lookup.{run_lookup_gave, run_lookup}
use Rattle.lookup.proofs.BuildThenLookup.{build_half_then_lookup, build_half_then_holds}
use Rattle.split.specs.Split.{first_half, second_half, SplitLent, split_gave, split}
use Rattle.split.proofs.SplitThenLookup.{first_is, second_is, split_then_lookup}

-- the lesser of the last addresses that two run lookups give
abbrev pub lesser_last : Result Probed Refusal → Result Probed Refusal → ℕ
lesser_last first second = min (run_lookup_gave first).last (run_lookup_gave second).last

-- what run lookups in the two tables give at an address, beside plain lookup in the list
pub record RunsRejoined (l : ListLent) (a : ℕ) (first second : Result Probed Refusal) : Type 0 where
  pub plain_done : (plain_lookup l a).number ≡ done
  pub first_done : (run_lookup_gave first).number ≡ done
  pub second_done : (run_lookup_gave second).number ≡ done
  pub xor : bit_xor (run_lookup_gave first).hop (run_lookup_gave second).hop ≡ (plain_lookup l a).hop
  pub from : a ≤ lesser_last first second
  pub until : (b : ℕ) → a ≤ b → b ≤ lesser_last first second → (plain_lookup l b).hop ≡ (plain_lookup l a).hop

module _ (k : ℕ) (l : ListLent) (out : SplitLent) {n : ℕ} {keys labels : List ℕ} (e : split_gave (Ok n) keys labels ≡ split k l out)
    (t t' : SlotsLent) {m m' : ℕ} {starts starts' hops hops' : List ℕ}
    (b : build_gave (Ok m) starts hops ≡ build_half (list_lent k l.keys l.hops) t)
    (b' : build_gave (Ok m') starts' hops' ≡ build_half (list_lent n keys labels) t') where
  pub split_then_run_lookup : {a : ℕ} (r r' : Result Probed Refusal) → a < addresses → run_lookup_gave r ≡ run_lookup (runs_lent m starts hops) a
      → run_lookup_gave r' ≡ run_lookup (runs_lent m' starts' hops') a → RunsRejoined l a r r'
  split_then_run_lookup {a} r r' below q q' =
      let joined = split_then_lookup k l out e a in
      let one = first_is k l out e a in
      let other = second_is k l out e a in
      let label = plain (first_half k (rows_lent l)) a in
      let label' = plain (second_half k (rows_lent l)) a in
      let found = build_half_then_lookup (list_lent k l.keys l.hops) t b r (Ok label) below q (sym one) in
      let found' = build_half_then_lookup (list_lent n keys labels) t' b' r' (Ok label') below q' (sym other) in
      let holds = build_half_then_holds (list_lent k l.keys l.hops) t b r below q in
      let holds' = build_half_then_holds (list_lent n keys labels) t' b' r' below q' in
      record {
        plain_done = joined.plain_done;
        first_done = found.0;
        second_done = found'.0;
        xor = rw (found.1, found'.1) (rw (one, other) at joined.xor);
        from = omega (arith, holds.from, holds'.from);
        until = λ c ge le.
            sym (split_then_lookup k l out e c).xor
            ∙ rw (holds.same c ge (omega arith), holds'.same c ge (omega arith)) joined.xor;
      }
