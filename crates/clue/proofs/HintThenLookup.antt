-- Rules 19.5 and 19.6, from the contracts alone: where a lookup with a hint gives 0, plain lookup gives 0 and the same hop, whether the hop
-- was stored or searched for. It gives 15 for a length above 32; else 11 for a list that isn't well-formed; else 14 for entries that aren't
-- the list's; and else 0. So entries of another list are never taken for a wrong answer: they are refused, or they are this list's too.
-- Assumes nothing.
use mathlib.Core.Path.{◌≡◌, sym, ap, ◌∙◌}
use mathlib.Core.Logic.{◌⊎◌, inl, inr, ⊎_elim}
use mathlib.Core.Bool.{true, false}
use Prim.Native.Nat.{ℕ, ◌≤◌, ◌<◌}
use native.Mathlib.Omega.{arith}
use lib.Dec.{leb}
use borrow.Author.Tests.{leb-true, leb-false}
use Rattle.ground.specs.Numbers.{first_fault, outcome, done, ill_formed}
use Rattle.routes.specs.Row.{ListLent, rows_lent}
use Rattle.routes.specs.WellFormed.{well_formed}
use Rattle.routes.specs.Plain.{plain}
use Rattle.std.specs.Prelude.{Result}
use Rattle.ground.specs.declared.Refusal as g
use Rattle.routes.specs.Lookup.{LookupOutcome, looked_up, lookup_gave, lookup_checks, plain_lookup}
use Rattle.clue.specs.declared.Hinted.{Hinted}
use Rattle.entries.specs.Clue.{clue_of}
use Rattle.entries.specs.Entries.{EntriesLent, its_entries}
use Rattle.clue.specs.declared.Refusal.{Refusal}
use Rattle.clue.specs.Refusal.{bad_length, not_its_entries}
use Rattle.clue.specs.Lookup.{HintOutcome, hint_gave, is_final, hint_lookup}
use Rattle.entries.proofs.Decided.{decided}
use Rattle.clue.proofs.HintOutcomes.{hint_long, hint_ill, hint_other, hint_final, hint_searched}
use Rattle.clue.proofs.Stored.{final_stored}

-- Rule 2.13: plain lookup in a well-formed list.
pub plain_accepted : (l : ListLent) (a : ℕ) → well_formed l.count l.keys l.hops ≡ true
    → plain_lookup l a ≡ looked_up done (plain (rows_lent l) a)
unfolding plain_lookup lookup_checks first_fault outcome
plain_accepted l a e = rw e

module _ (l : ListLent) (e : EntriesLent) (len a : ℕ) where
  -- the list is well-formed and the entries are its own: the number is 0, and the hop is the plain answer
  accepted : len ≤ 32 → well_formed l.count l.keys l.hops ≡ true → its_entries (rows_lent l) e ≡ true
      → ((hint_lookup l e len a).number ≡ done) × ((hint_lookup l e len a).hop ≡ plain (rows_lent l) a)
  accepted short w i = ⊎_elim
      (λ f. let is = hint_final l e len a short w i f in (rw is, rw is (final_stored (rows_lent l) e i len a short f)))
      (λ f. let is = hint_searched l e len a short w i f in (rw is, rw is))
      (decided (is_final e (clue_of len a)))

  -- which number it is
  data Number : Type 0 where
    long : 32 < len → (hint_lookup l e len a).number ≡ bad_length → Number
    ill : len ≤ 32 → well_formed l.count l.keys l.hops ≡ false → (hint_lookup l e len a).number ≡ ill_formed → Number
    other : len ≤ 32 → well_formed l.count l.keys l.hops ≡ true → its_entries (rows_lent l) e ≡ false
        → (hint_lookup l e len a).number ≡ not_its_entries → Number
    right : len ≤ 32 → well_formed l.count l.keys l.hops ≡ true → its_entries (rows_lent l) e ≡ true → Number

  number_is : Number
  number_is = ⊎_elim short (λ q. let h = leb-false len 32 q in long h (rw (hint_long l e len a h))) (decided (leb len 32))
    where
      formed : len ≤ 32 → well_formed l.count l.keys l.hops ≡ true → Number
      formed h w = ⊎_elim (right h w) (λ i. other h w i (rw (hint_other l e len a h w i))) (decided (its_entries (rows_lent l) e))

      short : leb len 32 ≡ true → Number
      short q =
          let h = leb-true len 32 q in
          ⊎_elim (formed h) (λ w. ill h w (rw (hint_ill l e len a h w))) (decided (well_formed l.count l.keys l.hops))

-- what a refusal's number says
pub record Refused (l : ListLent) (e : EntriesLent) (len number : ℕ) : Type 0 where
  pub long : 32 < len → number ≡ bad_length
  pub ill : len ≤ 32 → well_formed l.count l.keys l.hops ≡ false → number ≡ ill_formed
  pub other : len ≤ 32 → well_formed l.count l.keys l.hops ≡ true → its_entries (rows_lent l) e ≡ false → number ≡ not_its_entries
  pub only_other : number ≡ not_its_entries → its_entries (rows_lent l) e ≡ false
  pub accepted : len ≤ 32 → well_formed l.count l.keys l.hops ≡ true → its_entries (rows_lent l) e ≡ true → number ≡ done

module _ (l : ListLent) (e : EntriesLent) (len a : ℕ) (r : Result Hinted Refusal) (gave : hint_gave r ≡ hint_lookup l e len a) where
  same_number : (hint_gave r).number ≡ (hint_lookup l e len a).number
  same_number = ap (λ (o : HintOutcome). o.number) gave

  same_hop : (hint_gave r).hop ≡ (hint_lookup l e len a).hop
  same_hop = ap (λ (o : HintOutcome). o.hop) gave

  -- Rule 19.6: where it gives 0, plain lookup gives 0 and the same hop. That it gives 0 says that the length is at most 32.
  pub hint_then_lookup : (q : Result ℕ g.Refusal) → lookup_gave q ≡ plain_lookup l a → (hint_gave r).number ≡ done
      → ((lookup_gave q).number ≡ done) × ((hint_gave r).hop ≡ (lookup_gave q).hop)
  hint_then_lookup q found z = go (number_is l e len a)
    where
      go : Number l e len a → ((lookup_gave q).number ≡ done) × ((hint_gave r).hop ≡ (lookup_gave q).hop)
      go (Number.long h n) = absurd (omega (arith, same_number, n))
      go (Number.ill h w n) = absurd (omega (arith, same_number, n))
      go (Number.other h w i n) = absurd (omega (arith, same_number, n))
      go (Number.right h w i) =
          let is = found ∙ plain_accepted l a w in (
            ap (λ (o : LookupOutcome). o.number) is,
            same_hop ∙ (accepted l e len a h w i).1 ∙ sym (ap (λ (o : LookupOutcome). o.hop) is),
          )

  -- Rule 19.5: each refusal has its own cause.
  pub hint_refused : Refused l e len (hint_gave r).number
  hint_refused = record {
    long = λ h. same_number ∙ rw (hint_long l e len a h);
    ill = λ h w. same_number ∙ rw (hint_ill l e len a h w);
    other = λ h w i. same_number ∙ rw (hint_other l e len a h w i);
    only_other = λ n. go n (number_is l e len a);
    accepted = λ h w i. same_number ∙ (accepted l e len a h w i).0;
  }
    where
      go : (hint_gave r).number ≡ not_its_entries → Number l e len a → its_entries (rows_lent l) e ≡ false
      go n (Number.long h m) = absurd (omega (arith, same_number, m))
      go n (Number.ill h w m) = absurd (omega (arith, same_number, m))
      go n (Number.other h w i m) = i
      go n (Number.right h w i) = absurd (omega (arith, same_number, (accepted l e len a h w i).0))

  -- Rule 19.5: over a well-formed list, whatever the entries were built for, they are refused with 14, or they are this list's and the hop is
  -- its plain answer.
  pub stale_never_wrong : len ≤ 32 → well_formed l.count l.keys l.hops ≡ true
      → ((hint_gave r).number ≡ not_its_entries)
      ⊎ ((its_entries (rows_lent l) e ≡ true) × ((hint_gave r).number ≡ done) × ((hint_gave r).hop ≡ plain (rows_lent l) a))
  stale_never_wrong h w = ⊎_elim
      (λ i. let right = accepted l e len a h w i in inr (i, same_number ∙ right.0, same_hop ∙ right.1))
      (λ i. inl (same_number ∙ rw (hint_other l e len a h w i)))
      (decided (its_entries (rows_lent l) e))
