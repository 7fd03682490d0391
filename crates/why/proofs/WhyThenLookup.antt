-- From the contracts alone: what the listing answered is true. The row that it names decides, and its place stands in the last slot that was
-- written; where it names none, none holds the address; and a refusal's fault is there. So plain lookup gives the hop of the row that the
-- listing names, 0 where it names none, and 11 exactly where the listing does.
-- Assumes nothing.
use mathlib.Core.Path.{◌≡◌, refl, sym, ap, ◌∙◌}
use mathlib.Core.Logic.{⊎_elim}
use mathlib.Core.Bool.{true, false}
use mathlib.Core.List.{List}
use Prim.Native.Nat.{ℕ, ◌-◌, ◌<◌}
use native.Mathlib.Omega.{arith}
use lib.ListN.{length, get_or, take}
use lib.Dec.{ltb}
use borrow.Author.Tests.{ltb-true, ltb-false}
use Rattle.std.specs.Prelude.{Result, Ok, Err, Some, None}
use Rattle.std.specs.Prelude as code
use Rattle.ground.specs.declared.Refusal.{Refusal}
use Rattle.ground.specs.declared.Refusal.TheVariants.{IllFormed, ReportShort, NoRoom, NotItsRuns, BadEdit, NotListed, BadSize, NoDefault, OutsidePacked}
use Rattle.ground.specs.Numbers.{first_fault, outcome, done, ill_formed}
use Rattle.ground.specs.Slots.{written}
use Rattle.ground.proofs.Numbers.{accepted_is, number_not_done, one_number}
use Rattle.ground.proofs.Slots.{take_written, first_slot}
use Rattle.ground.proofs.Truth.{decided, never_both}
use Rattle.routes.specs.Row.{ListLent, rows_lent}
use Rattle.routes.specs.WellFormed.{well_formed}
use Rattle.routes.specs.Lookup.{LookupOutcome, looked_up, lookup_gave, lookup_checks, plain_lookup}
use Rattle.routes.proofs.LookupOutcome.{plain_accepted}
use Rattle.why.specs.declared.Reason.{Reason}
use Rattle.why.specs.Why.{places_of, reason_for, WhyOutcome, told, why_gave, why_checks, why}
use Rattle.why.proofs.ReasonTrue.{Decides, Undecided, reason_last, reason_true, no_reason_true}
use Rattle.why.proofs.Outcome.{why_ill, why_short, why_done}

-- what a refusal of the listing says, with the places lent; it refuses with 11 and 13 alone
abbrev pub TellsRefused : ListLent → ℕ → List ℕ → Refusal → Type 0
TellsRefused l a places IllFormed = well_formed l.count l.keys l.hops ≡ false
TellsRefused l a places NoRoom = (well_formed l.count l.keys l.hops ≡ true) × (length places < length (places_of a (rows_lent l)))
TellsRefused l a places _ = ⊥

-- what an answer of the listing says, with the places lent and those left
abbrev pub Tells : ListLent → ℕ → List ℕ → Result (code.Option Reason) Refusal → List ℕ → Type 0
Tells l a places (Ok (Some r)) left =
    (well_formed l.count l.keys l.hops ≡ true) × Decides l.count l.keys l.hops a r.place × (0 < r.listed)
    × (get_or left (r.listed - 1) 0 ≡ r.place)
Tells l a places (Ok None) left =
    (well_formed l.count l.keys l.hops ≡ true) × Undecided l.count l.keys l.hops a
    × (length (places_of a (rows_lent l)) ≡ 0)
Tells l a places (Err e) left = TellsRefused l a places e

-- what plain lookup gives after a refusal of the listing: 11 after 11, after 13 some hop
abbrev pub LooksUpRefused : Refusal → LookupOutcome → Type 0
LooksUpRefused IllFormed o = o ≡ looked_up ill_formed 0
LooksUpRefused NoRoom o = o.number ≡ done
LooksUpRefused _ o = ⊥

-- what plain lookup gives after an answer of the listing: the reason's hop, or 0 where there is none
abbrev pub LooksUp : ListLent → Result (code.Option Reason) Refusal → LookupOutcome → Type 0
LooksUp l (Ok (Some r)) o = o ≡ looked_up done (get_or l.hops r.place 0)
LooksUp l (Ok None) o = o ≡ looked_up done 0
LooksUp l (Err e) o = LooksUpRefused e o

abbrev number_of : WhyOutcome → ℕ
number_of o = o.number

module _ (l : ListLent) (a : ℕ) (places : List ℕ) where
  -- an accepted listing leaves the places and the reason
  accepted : (o : WhyOutcome) → o ≡ why l a places → o.number ≡ done
      → o ≡ told done (length (places_of a (rows_lent l))) (reason_for a (rows_lent l)) (written (places_of a (rows_lent l)) places)
  unfolding why
  accepted o w e = w ∙ accepted_is number_of (why_checks l a places) _ _ (λ k. refl) (sym (ap number_of w) ∙ e)

  -- so the lent slots have the places listed, as many as the listing says; `Listed` says which these are
  pub why_leaves : (r : Result (code.Option Reason) Refusal) (left : List ℕ) → why_gave r left ≡ why l a places → number_of (why_gave r left) ≡ done
      → take (why_gave r left).listed left ≡ places_of a (rows_lent l)
  why_leaves r left w e =
      let is = accepted _ w e in
      rw (ap (λ (o : WhyOutcome). o.listed) is, sym (held r left) ∙ ap (λ (o : WhyOutcome). o.places) is)
      (take_written (places_of a (rows_lent l)) places (length (places_of a (rows_lent l))) refl)
    where
      held : (r : Result (code.Option Reason) Refusal) (left : List ℕ) → (why_gave r left).places ≡ left
      held (Ok (Some x)) left = refl
      held (Ok None) left = refl
      held (Err e) left = refl

  module _ (well : well_formed l.count l.keys l.hops ≡ true) where
    -- a refusal is for room
    short : (number_of (why l a places) ≡ done → ⊥) → length places < length (places_of a (rows_lent l))
    short fault = ⊎_elim
        (λ lt. ltb-true _ _ lt)
        (λ ge. absurd (fault (sym (ap number_of (why_done l a places well (ltb-false _ _ ge))))))
        (decided (ltb (length places) (length (places_of a (rows_lent l)))))

    well_tells : (r : Result (code.Option Reason) Refusal) (left : List ℕ) → why_gave r left ≡ why l a places → Tells l a places r left
    well_tells (Ok (Some x)) left w =
        let is = accepted _ w refl in
        let many : x.listed ≡ length (places_of a (rows_lent l)) = ap (λ (o : WhyOutcome). o.listed) is in
        let reason = sym (ap (λ (o : WhyOutcome). o.reason) is) in
        let last = reason_last l.count l.keys l.hops well a reason in (
          well,
          reason_true l.count l.keys l.hops well a reason,
          omega (arith, last.0),
          first_slot x.listed left (places_of a (rows_lent l)) (why_leaves (Ok (Some x)) left w refl) (x.listed - 1) (omega (arith, last.0))
              ∙ rw many last.1,
        )
    well_tells (Ok None) left w =
        let is = accepted _ w refl in (
          well,
          no_reason_true l.count l.keys l.hops well a (sym (ap (λ (o : WhyOutcome). o.reason) is)),
          sym (ap (λ (o : WhyOutcome). o.listed) is),
        )
    well_tells (Err e) left w = rw is_room (well, lt)
      where
        lt : length places < length (places_of a (rows_lent l))
        lt = short (λ z. never_both (rw (ap number_of w ∙ z)) (number_not_done e))

        is_room : e ≡ NoRoom
        is_room = one_number e NoRoom (ap number_of (w ∙ sym (why_short l a places well lt)))

  module _ (ill : well_formed l.count l.keys l.hops ≡ false) where
    ill_tells : (r : Result (code.Option Reason) Refusal) (left : List ℕ) → why_gave r left ≡ why l a places → Tells l a places r left
    ill_tells (Ok (Some x)) left w = absurd (omega (arith, ap number_of (w ∙ sym (why_ill l a places ill))))
    ill_tells (Ok None) left w = absurd (omega (arith, ap number_of (w ∙ sym (why_ill l a places ill))))
    ill_tells (Err e) left w =
        let is_ill : e ≡ IllFormed = one_number e IllFormed (ap number_of (w ∙ sym (why_ill l a places ill))) in
        rw is_ill ill

  pub why_true : (r : Result (code.Option Reason) Refusal) (left : List ℕ) → why_gave r left ≡ why l a places → Tells l a places r left
  why_true r left w = ⊎_elim (λ well. well_tells well r left w) (λ ill. ill_tells ill r left w) (decided _)

  looks_up : (r : Result (code.Option Reason) Refusal) (left : List ℕ) → Tells l a places r left → LooksUp l r (plain_lookup l a)
  unfolding plain_lookup lookup_checks first_fault outcome
  looks_up (Ok (Some r)) left t = plain_accepted l a t.0 ∙ ap (looked_up done) t.1.hop
  looks_up (Ok None) left t = plain_accepted l a t.0 ∙ ap (looked_up done) t.1.no_hop_lem
  looks_up (Err IllFormed) left t = rw t
  looks_up (Err NoRoom) left t = ap (λ (o : LookupOutcome). o.number) (plain_accepted l a t.0)
  looks_up (Err ReportShort) left t = elim t [ ]
  looks_up (Err NotItsRuns) left t = elim t [ ]
  looks_up (Err BadEdit) left t = elim t [ ]
  looks_up (Err NotListed) left t = elim t [ ]
  looks_up (Err BadSize) left t = elim t [ ]
  looks_up (Err NoDefault) left t = elim t [ ]
  looks_up (Err OutsidePacked) left t = elim t [ ]

  pub why_then_lookup : (r : Result (code.Option Reason) Refusal) (left : List ℕ) (q : Result ℕ Refusal) → why_gave r left ≡ why l a places → lookup_gave q ≡ plain_lookup l a
      → LooksUp l r (lookup_gave q)
  why_then_lookup r left q w e = rw e (looks_up r left (why_true r left w))
