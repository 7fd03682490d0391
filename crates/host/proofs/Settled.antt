-- What C gets from an import, a pull, a run lookup, a build, a packing, an edit, a list writer (of rows that hold an address too), a
-- listing of reasons and a split is settled: two outcomes that keep the promise for one input are the same, in what is returned and in all lent memory.
-- The other lookups and the pair check promise an equation.
-- Assumes nothing.
use mathlib.Core.Path.{◌≡◌, sym, ap, ◌∙◌}
use mathlib.Core.List.{List}
use Prim.Native.Nat.{ℕ}
use Rattle.rows.specs.Pull.{pull}
use Rattle.feed.specs.declared.Counts.{Counts}
use Rattle.feed.specs.Import.{ImportLent, import}
use Rattle.segment.specs.Pack.{PackOutcome}
use Rattle.edit.specs.Edit.{Edited}
use Rattle.c_structs.specs.declared.WhelkCounts.{WhelkCounts}
use Rattle.c_structs.specs.declared.WhelkPacked.{WhelkPacked}
use Rattle.c_structs.specs.declared.edits.WhelkEdit.{WhelkEdit}
use Rattle.c_structs.specs.declared.reasons.WhelkReason.{WhelkReason}
use Rattle.c_structs.specs.declared.pulls.WhelkRow.{WhelkRow}
use Rattle.c_structs.specs.Structs.{pull_for_c, WhyForC, why_gave_c, counts_for_c, host_import_gave, host_pack_gave, host_edit_gave}
use Rattle.c_answers.specs.Exports.{ProbedForC, probed_gave_c}
use Rattle.c_answers.specs.Exports.{BuildForC, build_gave_c, WriteForC, write_gave_c, SplitForC, split_gave_c}
use Rattle.host.specs.Exports.{HostTallyGave, HeldForC, held_gave_c}

-- what C gets from an import and the three slices at exit can be told from what they say
module _ {w w' : WhelkCounts} {k k' h h' p p' : List ℕ} where
  host_gave_one : host_import_gave w k h p ≡ host_import_gave w' k' h' p' → (w ≡ w') × (k ≡ k') × (h ≡ h') × (p ≡ p')
  host_gave_one e =
      (ap (λ o. counts_for_c o.number o.counts) e, ap (λ o. o.keys) e, ap (λ o. o.hops) e, ap (λ o. o.report) e)

  pub host_import_settled : (feed : List ℕ) (l : ImportLent)
      → host_import_gave w k h p ≡ import feed l → host_import_gave w' k' h' p' ≡ import feed l
      → (w ≡ w') × (k ≡ k') × (h ≡ h') × (p ≡ p')
  host_import_settled feed l e e' = host_gave_one (e ∙ sym e')

pub host_pull_settled : (feed : List ℕ) (at : ℕ) (r r' : WhelkRow) → r ≡ pull_for_c (pull feed at) → r' ≡ pull_for_c (pull feed at) → r ≡ r'
host_pull_settled feed at r r' e e' = e ∙ sym e'

pub host_tally_settled : (feed : List ℕ) (l : ImportLent) (t : Counts) (r r' : ℕ) (k k' h h' p p' : List ℕ) (t₁ t₂ : Counts)
    → HostTallyGave feed l t r k h p t₁ → HostTallyGave feed l t r' k' h' p' t₂
    → (r ≡ r') × (k ≡ k') × (h ≡ h') × (p ≡ p') × (t₁ ≡ t₂)
host_tally_settled feed l t r r' k k' h h' p p' t₁ t₂ a b = (
  a.number ∙ sym b.number,
  a.keys_left ∙ sym b.keys_left,
  a.hops_left ∙ sym b.hops_left,
  a.report_left ∙ sym b.report_left,
  a.tally_left ∙ sym b.tally_left,
)

pub host_probed_settled : (o : ProbedForC) (r r' l l' : ℕ) → probed_gave_c r l ≡ o → probed_gave_c r' l' ≡ o → (r ≡ r') × (l ≡ l')
host_probed_settled o r r' l l' e e' =
    let same = e ∙ sym e' in
    (ap (λ (x : ProbedForC). x.answer) same, ap (λ (x : ProbedForC). x.last) same)

pub host_held_settled : (o : HeldForC) (r r' : ℕ) (l l' : List ℕ) → held_gave_c r l ≡ o → held_gave_c r' l' ≡ o → (r ≡ r') × (l ≡ l')
host_held_settled o r r' l l' e e' = let same = e ∙ sym e' in (ap (λ (x : HeldForC). x.answer) same, ap (λ (x : HeldForC). x.last) same)

pub host_build_settled : (o : BuildForC) (r r' : ℕ) (s s' h h' : List ℕ) → build_gave_c r s h ≡ o → build_gave_c r' s' h' ≡ o
    → (r ≡ r') × (s ≡ s') × (h ≡ h')
host_build_settled o r r' s s' h h' e e' =
    let same = e ∙ sym e' in
    (ap (λ (x : BuildForC). x.answer) same, ap (λ (x : BuildForC). x.starts) same, ap (λ (x : BuildForC). x.hops) same)

-- what C gets from a packing's outcome
abbrev packed_of : PackOutcome → WhelkPacked
packed_of o = record { number = o.number; width = o.width; words = o.word_count; hops = o.hop_count }

pub host_pack_settled : (o : PackOutcome) (r r' : WhelkPacked) (w w' b b' h h' : List ℕ)
    → host_pack_gave r w b h ≡ o → host_pack_gave r' w' b' h' ≡ o → (r ≡ r') × (w ≡ w') × (b ≡ b') × (h ≡ h')
host_pack_settled o r r' w w' b b' h h' e e' =
    let same = e ∙ sym e' in (ap packed_of same, ap (λ x. x.words) same, ap (λ x. x.bases) same, ap (λ x. x.hops) same)

-- what C gets from an edit's outcome
abbrev edit_of : Edited → WhelkEdit
edit_of o = record { number = o.number; changed = o.changed; count = o.count; runs = o.runs }

-- both edits: what an announcement and a withdrawal promise is that what they give is one outcome
pub host_edit_settled : (o : Edited) (r r' : WhelkEdit) (k k' h h' s s' n n' : List ℕ)
    → host_edit_gave r k h s n ≡ o → host_edit_gave r' k' h' s' n' ≡ o → (r ≡ r') × (k ≡ k') × (h ≡ h') × (s ≡ s') × (n ≡ n')
host_edit_settled o r r' k k' h h' s s' n n' e e' =
    let same = e ∙ sym e' in
    (ap edit_of same, ap (λ x. x.keys) same, ap (λ x. x.hops) same, ap (λ x. x.starts) same, ap (λ x. x.rhops) same)

pub host_write_settled : (o : WriteForC) (r r' : ℕ) (b b' : List ℕ) → write_gave_c r b ≡ o → write_gave_c r' b' ≡ o → (r ≡ r') × (b ≡ b')
host_write_settled o r r' b b' e e' = let same = e ∙ sym e' in (ap (λ (x : WriteForC). x.answer) same, ap (λ (x : WriteForC). x.buffer) same)

pub host_split_settled : (o : SplitForC) (r r' : ℕ) (k k' h h' : List ℕ) → split_gave_c r k h ≡ o → split_gave_c r' k' h' ≡ o
    → (r ≡ r') × (k ≡ k') × (h ≡ h')
host_split_settled o r r' k k' h h' e e' =
    let same = e ∙ sym e' in
    (ap (λ (x : SplitForC). x.answer) same, ap (λ (x : SplitForC). x.keys) same, ap (λ (x : SplitForC). x.labels) same)

pub host_why_settled : (o : WhyForC) (r r' : WhelkReason) (p p' : List ℕ) → why_gave_c r p ≡ o → why_gave_c r' p' ≡ o → (r ≡ r') × (p ≡ p')
host_why_settled o r r' p p' e e' = let same = e ∙ sym e' in (ap (λ (x : WhyForC). x.answer) same, ap (λ (x : WhyForC). x.places) same)
