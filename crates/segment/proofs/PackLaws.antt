-- What packing gives, check by check: the pair's number, 13 where one of the three slices is too short, else the three slices written.
-- Where the pair agrees, what is left to do is packing blocks (`pack_agreed`).
-- Assumes nothing.
use mathlib.Core.Path.{◌≡◌, refl, sym, ap, ◌∙◌}
use mathlib.Core.Bool.{Bool, true, false, not}
use mathlib.Core.List.{List, [], ◌∷◌}
use Prim.Native.Nat.{ℕ, ◌+◌, ◌-◌, ◌*◌, ◌^◌, ◌≤◌, ◌<◌}
use native.Mathlib.Nat.{pow-le-pow_right}
use native.Mathlib.Omega.{arith}
use lib.ListN.{length}
use lib.Pow.{pow-add}
use lib.Dec.{ltb, eqb}
use borrow.Author.Tests.{lt-ltb, le-ltb, eq-eqb}
use Rattle.ground.specs.Numbers.{Check, check, first_fault, outcome, number_of, done, ill_formed, no_room, not_its_runs}
use Rattle.ground.specs.Slots.{written}
use Rattle.ground.proofs.Truth.{cond_false, never_both}
use Rattle.ground.proofs.Numbers.{outcome_here, outcome_later, outcome_last, fault_front, accepted_fault, accepted_is, number_not_done}
use Rattle.runs.specs.Pair.{Pair, list_of, pair_ill, its_runs, pair_checks, pair_check, pair_gave}
use Rattle.runs.proofs.TableOutcomes.{pair_agrees}
use Rattle.segment.specs.declared.Packed.{Packed}
use Rattle.segment.specs.declared.Walk.{Walk}
use Rattle.std.proofs.Common.{Result, Ok, Err}
use Rattle.std.specs.Result.{IsErrAnd}
use Rattle.ground.specs.declared.Refusal.{Refusal}
use Rattle.segment.specs.Packed.{width, block_hop, words_for, code_words, bases_from, kept_hops, words_of, bases_of, packed_hops_of}
use Rattle.segment.specs.Pack.{PackLent, pack_lent, PackOutcome, pack_refused, pack_done, pack_checks, pack, pack_gave}
use Rattle.segment.specs.Inside.Blocks.{Runs, hop_in, Stands, Before, Grid, room_checks, blocks_done, pack_blocks}
use Rattle.segment.proofs.CodeWords.{length_code_words, length_code_bases}

-- 2^w blocks of 2^(16 - w) addresses are a segment
pub powers : (w : ℕ) → w ≤ 16 → 2 ^ w * 2 ^ (16 - w) ≡ 65536
powers w l =
    let whole : w + (16 - w) ≡ 16 = omega arith in
    sym (pow-add 2 w (16 - w)) ∙ rw whole

pub power_most : (w : ℕ) → w ≤ 16 → 2 ^ w ≤ 65536
power_most w l = pow-le-pow_right (omega arith) l

-- the blocks of 2^w cover a segment, and the walk that stands at its first address stands before the first block
pub blocks_ready : {starts rhops : List ℕ} {base w size n : ℕ} {s : Walk} → Runs starts rhops → w ≤ 16 → base + 65536 ≤ 4294967296
    → size ≡ 2 ^ (16 - w) → n ≡ 2 ^ w → Stands starts rhops base s → Runs starts rhops × Grid base size n × Before starts rhops base size 0 s
blocks_ready {starts} {rhops} {base = base} {w} {size} {s = s} t l within size_is n_is st =
    let here : base + (0 - 1) * size ≡ base = omega arith in
    (t, record { within = within; whole = rw (size_is, n_is) (powers w l) }, record { stands = rw here st })

-- packing blocks in each of its answers, where n is 2^w
module _ (w n : ℕ) (hop : ℕ → ℕ) (words bases hops : List ℕ) (n_is : n ≡ 2 ^ w) where
  abbrev lent : PackLent
  lent = pack_lent words bases hops

  pub words_short : length words < words_for n → pack_blocks w hop lent ≡ pack_refused lent no_room
  unfolding pack_blocks room_checks
  words_short short =
      outcome_here 12 _ _ _ (lt-ltb (length words) (length (code_words hop (2 ^ w))) (rw (length_code_words hop (2 ^ w)) (rw n_is at short)))

  module _ (fit : words_for n ≤ length words) where
    words_fit : ltb (length words) (length (code_words hop (2 ^ w))) ≡ false
    words_fit = le-ltb (length words) (length (code_words hop (2 ^ w))) (rw (length_code_words hop (2 ^ w)) (rw n_is at fit))

    pub bases_short : length bases < words_for n → pack_blocks w hop lent ≡ pack_refused lent no_room
    unfolding pack_blocks room_checks
    bases_short short =
        outcome_later no_room _ _ _ words_fit
        ∙ outcome_here 12 _ _ _
        (lt-ltb (length bases) (length (bases_from 0 (code_words hop (2 ^ w)))) (rw (length_code_bases hop (2 ^ w)) (rw n_is at short)))

    module _ (fit' : words_for n ≤ length bases) where
      bases_fit : ltb (length bases) (length (bases_from 0 (code_words hop (2 ^ w)))) ≡ false
      bases_fit = le-ltb (length bases) (length (bases_from 0 (code_words hop (2 ^ w)))) (rw (length_code_bases hop (2 ^ w)) (rw n_is at fit'))

      pub hops_short : length hops < length (kept_hops hop n) → pack_blocks w hop lent ≡ pack_refused lent no_room
      unfolding pack_blocks room_checks
      hops_short short =
          outcome_later no_room _ _ _ words_fit ∙ outcome_later no_room _ _ _ bases_fit
          ∙ outcome_here 12 _ _ _ (lt-ltb _ _ (rw n_is at short))

      pub all_written : length (kept_hops hop n) ≤ length hops → pack_blocks w hop lent ≡ blocks_done w hop lent
      unfolding pack_blocks room_checks
      all_written room =
          outcome_later no_room _ _ _ words_fit ∙ outcome_later no_room _ _ _ bases_fit
          ∙ outcome_last _ 12 _ _ ∙ cond_false _ _ (le-ltb _ _ (rw n_is at room))

-- what packing blocks goes by
pub ruleset blocks_packed = (words_short, bases_short, hops_short)

-- what the code left is what packing the blocks leaves
pub blocks_written : (starts rhops : List ℕ) (base w : ℕ) {size n count kept : ℕ} (words bases hops : List ℕ) {words' bases' hops' : List ℕ}
    → size ≡ 2 ^ (16 - w) → n ≡ 2 ^ w → count ≡ words_for n → kept ≡ length (kept_hops (hop_in starts rhops base size) n)
    → count ≤ length words → count ≤ length bases → kept ≤ length hops
    → (words' ≡ written (code_words (hop_in starts rhops base size) n) words)
    × (bases' ≡ written (bases_from 0 (code_words (hop_in starts rhops base size) n)) bases)
    → hops' ≡ written (kept_hops (hop_in starts rhops base size) n) hops
    → pack_gave (Ok (record { width = w; words = count; hops = kept })) words' bases' hops'
    ≡ pack_blocks w (hop_in starts rhops base (2 ^ (16 - w))) (pack_lent words bases hops)
blocks_written starts rhops base w {n = n} words bases hops size_is n_is count_is kept_is f g h both out =
    let hop = hop_in starts rhops base (2 ^ (16 - w)) in
    let kept = rw (size_is, n_is) at kept_is in
    same_done (rw (count_is, n_is) (sym (length_code_words hop (2 ^ w)))) kept (rw (size_is, n_is) at both.0) (rw (size_is, n_is) at both.1)
    (rw (size_is, n_is) at out)
    ∙ sym (all_written w n hop words bases hops n_is (omega arith) (omega arith) (rw n_is (omega (arith, kept))))
  where
    same_done : {n n' m m' : ℕ} {a a' b b' c c' : List ℕ} → n ≡ n' → m ≡ m' → a ≡ a' → b ≡ b' → c ≡ c'
        → pack_gave (Ok (record { width = w; words = n; hops = m })) a b c
        ≡ pack_gave (Ok (record { width = w; words = n'; hops = m' })) a' b' c'
    same_done e f g h k = cc

pub same_width : (starts rhops : List ℕ) (base : ℕ) {w w' : ℕ} (l : PackLent) → w ≡ w'
    → pack_blocks w (hop_in starts rhops base (2 ^ (16 - w))) l ≡ pack_blocks w' (hop_in starts rhops base (2 ^ (16 - w'))) l
same_width starts rhops base l e = rw e

module _ (q : ℕ) (p : Pair) (l : PackLent) where
  -- the pair check's number, where that isn't 0
  pub pack_by : (n : ℕ) → pair_check p ≡ n → eqb n done ≡ false → pack q p l ≡ pack_refused l n
  unfolding pack pack_checks pair_check pair_checks first_fault outcome
  pack_by n e fault = go (pair_ill p) (its_runs p) e
    where
      rest : List Check
      rest =
          check (ltb (length l.words) (length (words_of q (list_of p)))) no_room
          ∷ check (ltb (length l.bases) (length (bases_of q (list_of p)))) no_room
          ∷ check (ltb (length l.hops) (length (packed_hops_of q (list_of p)))) no_room
          ∷ []

      go : (ill its : Bool) → first_fault (check ill ill_formed ∷ check (not its) not_its_runs ∷ []) ≡ n
          → outcome (check ill ill_formed ∷ check (not its) not_its_runs ∷ rest) (pack_refused l) (pack_done q p l) ≡ pack_refused l n
      go true its e = rw e
      go false false e = rw e
      go false true e = never_both (eq-eqb n done (sym e)) fault

  pub pack_agreed : pair_check p ≡ done → pack q p l ≡ pack_blocks (width q (list_of p)) (block_hop q (list_of p) (width q (list_of p))) l
  unfolding pack pack_checks pair_checks pack_blocks room_checks words_of bases_of packed_hops_of
  pack_agreed e =
      let both = pair_agrees p e in
      outcome_later ill_formed _ _ _ both.0 ∙ outcome_later not_its_runs _ _ _ (ap not both.1)

  -- an accepted packing's pair agrees
  pub pack_accepted : (pack q p l).number ≡ done → pair_check p ≡ done
  unfolding pack pack_checks pair_check
  pack_accepted e = fault_front (pair_checks p) _ (accepted_fault (λ (o : PackOutcome). o.number) _ (pack_refused l) _ (λ n. refl) e)

-- what an accepted packing of blocks leaves
pub blocks_left : (w : ℕ) (hop : ℕ → ℕ) (l : PackLent) → (pack_blocks w hop l).number ≡ done → pack_blocks w hop l ≡ blocks_done w hop l
unfolding pack_blocks
blocks_left w hop l e = accepted_is (λ (o : PackOutcome). o.number) (room_checks w hop l) (pack_refused l) (blocks_done w hop l) (λ n. refl) e

-- a refused pair, read from the code's answer
pub refused_pair : (q : ℕ) (p : Pair) (words bases hops : List ℕ) (e : Refusal) (r : Result Packed Refusal) → pair_gave (Err e) ≡ pair_check p
    → IsErrAnd r (λ f. f ≡ e) → pack_gave r words bases hops ≡ pack q p (pack_lent words bases hops)
refused_pair q p words bases hops e (Ok x) is a = absurd a
refused_pair q p words bases hops e (Err f) is a =
    rw a (sym (pack_by q p (pack_lent words bases hops) (number_of e) (sym is) (number_not_done e)))

-- the same for a number that the code gives by itself
pub pair_refused : (q : ℕ) (p : Pair) (words bases hops : List ℕ) (e : Refusal) → pair_gave (Err e) ≡ pair_check p
    → pack_gave (Err e) words bases hops ≡ pack q p (pack_lent words bases hops)
pair_refused q p words bases hops e is = refused_pair q p words bases hops e (Err e) is refl
