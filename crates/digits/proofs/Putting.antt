-- A text at the front of a slice grows: by one byte, by the last digit of a number, and by a text that was put into what is left.
-- Assumes nothing.
use mathlib.Core.Path.{◌≡◌, refl, sym, ap, ◌∙◌}
use mathlib.Core.List.{List, [], ◌∷◌, ◌++◌, append_assoc, append-nil}
use Prim.Native.Nat.{ℕ, suc, ◌+◌, ◌-◌, ◌/◌, ◌%◌, ◌≤◌, ◌<◌}
use native.Mathlib.Nat.{add-zero, zero-add}
use native.Mathlib.Omega.{arith}
use lib.ListN.{length, take, drop, set, length-append, length-take, length-drop, drop_of_length-le, take-append-drop}
use lib.Seq.{take_at, drop-drop, drop-append-add, drop-cons, set_at, take_all}
use Rattle.ground.specs.Slots.{written}
use Rattle.ground.proofs.Slots.{length_written, written_more}
use Rattle.digits.specs.Digits.{decimal}
use Rattle.digits.specs.Putting.{Wrote, Fits, placed, Put}
use Rattle.digits.proofs.Decimal.{decimal_small, decimal_step, digits_small, digits_step}

pub wrote_none : (old : List ℕ) → Wrote [] 0 old old
unfolding written
wrote_none old = record { bytes = refl; slots = refl }

module _ {text old new : List ℕ} {r : ℕ} (w : Wrote text r old new) where
  -- the slice is as long as it was
  pub wrote_long : length text ≤ length old → length new ≡ length old
  wrote_long l = ap length w.slots ∙ length_written text old l

  -- one byte more has room
  pub byte_fits : length text < length old → r < length new
  byte_fits l = omega (arith, w.bytes, wrote_long (omega arith))

  pub wrote_byte : (v : ℕ) → length text < length old → Wrote (text ++ v ∷ []) (r + 1) old (set new r v)
  wrote_byte v l = record {
    bytes = omega (arith, w.bytes, length-append text (v ∷ []));
    slots = rw (w.slots, w.bytes) (written_more text old v l);
  }

-- the digits of a number, from its first one on
pub wrote_first : {old : List ℕ} (n : ℕ) {d : ℕ} → n < 10 → length (decimal n) ≤ length old → d ≡ 48 + n
    → Wrote (decimal n) 1 old (set old 0 d)
wrote_first {old} n {d} l room e =
    rw (decimal_small n l, sym e) (wrote_byte (wrote_none old) d (omega (arith, digits_small n l)))

pub wrote_digit : {old new : List ℕ} (n : ℕ) {d r : ℕ} → 10 ≤ n → length (decimal n) ≤ length old → d ≡ 48 + n % 10
    → Wrote (decimal (n / 10)) r old new → Wrote (decimal n) (r + 1) old (set new r d)
wrote_digit n {d} l room e w = rw (decimal_step n l, sym e) (wrote_byte w d (omega (arith, digits_step n l)))

module _ (at : ℕ) (text old : List ℕ) where
  pub length_placed : at + length text ≤ length old → length (placed at text old) ≡ length old
  unfolding placed
  length_placed l = simp (length-append, length-take, length-drop) (omega arith)

  -- text behind text
  pub placed_then : (more : List ℕ) → at ≤ length old → placed (at + length text) more (placed at text old) ≡ placed at (text ++ more) old
  unfolding placed
  placed_then more l = rw (← append_assoc (take at old) text, take_at front _ (at + length text) long, beyond, append_assoc, append_assoc)
    where
      front : List ℕ
      front = take at old ++ text

      long : length front ≡ at + length text
      long = simp (length-append, length-take) (omega arith)

      same : length front + length more ≡ at + length (text ++ more)
      same = omega (arith, long, length-append text more)

      beyond : drop (at + length text + length more) (front ++ drop (at + length text) old) ≡ drop (at + length (text ++ more)) old
      beyond = rw (← long) (drop-append-add front _ (length more) ∙ drop-drop (length more) (length front) old ∙ rw same)

-- what was put into the rest of a slice from its front stands at the rest's place
pub placed_rest : (at k : ℕ) (text old : List ℕ) → at ≤ length old → k ≡ length old - at
    → take at old ++ (written text (take k (drop at old)) ++ drop k (drop at old)) ≡ placed at text old
unfolding placed written
placed_rest at k text old l e =
    rw (
      take_all k (drop at old) (simp length-drop (omega arith)),
      drop_of_length-le (drop at old) {i = k} (simp length-drop (omega arith)),
      append-nil,
      drop-drop,
    )

pub placed_byte : (at : ℕ) (text old : List ℕ) (v : ℕ) → at + length text < length old
    → set (placed at text old) (at + length text) v ≡ placed at (text ++ v ∷ []) old
unfolding placed
placed_byte at text old v l =
    rw (
      drop-cons old (at + length text) 0 l,
      ← append_assoc (take at old) text,
      set_at front _ _ v (at + length text) long,
      append_assoc,
      append_assoc,
      length-append,
      one_more,
    )
  where
    one_more : suc (at + length text) ≡ at + (length text + 1)
    one_more = omega arith

    front : List ℕ
    front = take at old ++ text

    long : length front ≡ at + length text
    long = simp (length-append, length-take) (omega arith)

-- Texts put one behind the other are one text. Where the whole has room, so has its first part, and the rest has room behind that.
pub first_fits : {at : ℕ} {text slots : List ℕ} (more : List ℕ) → Fits at (text ++ more) slots → Fits at text slots
first_fits {text = text} more f = record { room = omega (arith, f.room, length-append text more) }

module _ {at r : ℕ} {text old mid : List ℕ} (more : List ℕ) (f : Fits at (text ++ more) old) (p : Put at text r old mid) where
  pub rest_fits : Fits r more mid
  rest_fits =
      let long : length mid ≡ length old = ap length p.slots ∙ length_placed at text old (first_fits {text = text} more f).room in
      record { room = omega (arith, f.room, p.after, length-append text more) }

  pub put_then : {s : ℕ} {new : List ℕ} → Put r more s mid new → Put at (text ++ more) s old new
  put_then {s} {new} q = record {
    after = omega (arith, p.after, q.after, length-append text more);
    slots = q.slots ∙ rw (p.slots, p.after) (placed_then at text old more (omega (arith, f.room)));
  }

-- nothing put at a place leaves all as it was, and what is put at place 0 is written at the front
pub put_none : (at : ℕ) (out : List ℕ) → Put at [] at out out
unfolding placed
put_none at out = record { after = omega arith; slots = rw (add-zero, take-append-drop) }

pub put_front : {r : ℕ} {text old new : List ℕ} → Put 0 text r old new → Wrote text r old new
unfolding placed written
put_front p = record { bytes = omega (arith, p.after); slots = p.slots ∙ rw zero-add }

pub put_rest : {at k r : ℕ} {text old part : List ℕ} → at ≤ length old → k ≡ length old - at → Wrote text r (take k (drop at old)) part
    → Put at text (at + r) old (take at old ++ (part ++ drop k (drop at old)))
put_rest {at} {k} {r} {text} {old} l e w = record {
  after = omega (arith, w.bytes);
  slots = rw w.slots (placed_rest at k text old l e);
}

module _ {at r : ℕ} {text old new : List ℕ} (p : Put at text r old new) where
  -- the slice is as long as it was
  pub put_long : at + length text ≤ length old → length new ≡ length old
  put_long l = ap length p.slots ∙ length_placed at text old l

  pub put_byte : (v : ℕ) → at + length text < length old → Put at (text ++ v ∷ []) (r + 1) old (set new r v)
  put_byte v l = record {
    after = omega (arith, p.after, length-append text (v ∷ []));
    slots = rw (p.slots, p.after) (placed_byte at text old v l);
  }
