-- Rule 9.14, demand 2, from the contracts alone: where a packing was accepted, packed lookup in what it left gives the plain answer at
-- every address of the segment. The packed form finds each block's hop, and a block has one plain answer.
-- Assumes nothing.
use mathlib.Core.Path.{◌≡◌, sym, ap, ◌∙◌}
use mathlib.Core.List.{List}
use Prim.Native.Nat.{ℕ, ◌/◌, ◌^◌, ◌≤◌}
use lib.ListN.{length, take}
use Rattle.ground.specs.Numbers.{done}
use Rattle.ground.proofs.Slots.{take_written}
use Rattle.routes.specs.Lookup.{looked_up}
use Rattle.routes.specs.Plain.{plain}
use Rattle.runs.specs.Pair.{Pair, list_of, pair_check}
use Rattle.runs.proofs.Agreed.{agreed_prefixes}
use Rattle.std.proofs.Common.{Result, Ok}
use Rattle.ground.specs.declared.Refusal.{Refusal}
use Rattle.segment.specs.Packed.{width, block_hop, words_for, code_words, bases_from, kept_hops}
use Rattle.segment.specs.Pack.{PackLent, PackOutcome, pack_gave, pack}
use Rattle.packed.specs.Lookup.{segment_lent, packed_gave, packed_lookup}
use Rattle.segment.specs.Inside.Blocks.{blocks_done}
use Rattle.segment.proofs.BlockHop.{width_most, one_hop}
use Rattle.segment.proofs.CodeWords.{length_code_words, length_code_bases}
use Rattle.segment.proofs.PackedFinds.{packed_finds}
use Rattle.segment.proofs.PackLaws.{pack_agreed, pack_accepted, blocks_left}

module _ (q : ℕ) (p : Pair) (l : PackLent) {w n m : ℕ} {words bases hops : List ℕ}
    (left : pack_gave (Ok (record { width = w; words = n; hops = m })) words bases hops ≡ pack q p l) where
  agreed : pair_check p ≡ done
  agreed = pack_accepted q p l (sym (ap (λ (o : PackOutcome). o.number) left))

  -- the hops of the blocks, and what the packing left by them
  hop : ℕ → ℕ
  hop = block_hop q (list_of p) (width q (list_of p))

  is : pack_gave (Ok (record { width = w; words = n; hops = m })) words bases hops ≡ blocks_done (width q (list_of p)) hop l
  unfolding hop
  is =
      let blocks = left ∙ pack_agreed q p l agreed in
      blocks ∙ blocks_left (width q (list_of p)) hop l (sym (ap (λ (o : PackOutcome). o.number) blocks))

  narrow : width q (list_of p) ≤ 16
  narrow = width_most q (list_of p) (agreed_prefixes p agreed)

  -- in slices that begin with what the packing left
  module _ (ws bs hs : List ℕ) (words_same : take n ws ≡ take n words) (bases-same : take n bs ≡ take n bases)
      (hops_same : take m hs ≡ take m hops) where
    word_count : n ≡ words_for (2 ^ width q (list_of p))
    word_count = ap (λ (o : PackOutcome). o.word_count) is ∙ length_code_words hop (2 ^ width q (list_of p))

    hop_count_lem : m ≡ length (kept_hops hop (2 ^ width q (list_of p)))
    hop_count_lem = ap (λ (o : PackOutcome). o.hop_count) is

    words_are : take (words_for (2 ^ width q (list_of p))) ws ≡ code_words hop (2 ^ width q (list_of p))
    words_are =
        rw (← word_count)
        (words_same ∙ ap (take n) (ap (λ (o : PackOutcome). o.words) is)
        ∙ take_written _ l.words n (ap (λ (o : PackOutcome). o.word_count) is))

    bases_are : take (words_for (2 ^ width q (list_of p))) bs ≡ bases_from 0 (code_words hop (2 ^ width q (list_of p)))
    bases_are =
        rw (← word_count)
        (bases-same ∙ ap (take n) (ap (λ (o : PackOutcome). o.bases) is)
        ∙ take_written _ l.bases n (word_count ∙ sym (length_code_bases hop (2 ^ width q (list_of p)))))

    hops_are : take (length (kept_hops hop (2 ^ width q (list_of p)))) hs ≡ kept_hops hop (2 ^ width q (list_of p))
    hops_are =
        rw (← hop_count_lem)
        (hops_same ∙ ap (take m) (ap (λ (o : PackOutcome). o.hops) is) ∙ take_written _ l.hops m hop_count_lem)

    pub pack_then_lookup : (r : Result ℕ Refusal) (a : ℕ) → a / 65536 ≡ q → packed_gave r ≡ packed_lookup (segment_lent w ws bs hs) a
        → packed_gave r ≡ looked_up done (plain (list_of p) a)
    unfolding hop
    pack_then_lookup r a here e =
        e
        ∙ packed_finds hop (width q (list_of p)) narrow (segment_lent w ws bs hs) (ap (λ (o : PackOutcome). o.width) is) words_are bases_are
        hops_are a
        ∙ ap (looked_up done) (sym (one_hop q (list_of p) a here))
