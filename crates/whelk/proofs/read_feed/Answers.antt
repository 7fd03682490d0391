-- What a read put behind what stood in the buffer stands there, so that the front is all that was read.
use Rattle.std.proofs.Common.{rules, ◌≡◌, ℕ, ◌+◌, ◌-◌, ◌≤◌, List, ◌++◌, length, take, sym, ap, ap₂, ◌∙◌, subst, le_refl, drop_at, length-take-le}
use Rattle.std.proofs.lemmas.Slice.{take-put_mid_below}
use Rattle.std.proofs.KnownBytes.{Consumes-trans}
use Rattle.std.specs.Io.KnownBytes.{Consumes}
use borrow.Rule.Slice.PartMut.{put_mid, post_of}
use lib.Seq.{take-add, take-append-le}
use Rattle.whelk.proofs.read_feed.Goals as goal

-- the front of a list, some of whose middle was replaced
front : (a k n : ℕ) (xs ys : List ℕ) → a ≤ length xs → n ≤ length ys → take a xs ++ take n ys ≡ take (a + n) (put_mid a k xs ys)
front a k n xs ys within fits =
    let behind = drop_at (take a xs) (ys ++ post_of a k xs) a (length-take-le a xs within) in
    sym (take-add a n (put_mid a k xs ys)
    ∙ ap₂ (λ u v. u ++ v)
    (take-put_mid_below _ _ _ _ _ (le_refl _) within)
    (ap (take n) behind ∙ take-append-le n ys (post_of a k xs) fits))

pub loop-bytes-preserved : goal.loop-bytes-preserved
loop-bytes-preserved g c =
    let at = c.loop-bytes.bytes in
    let joined = front at (length c.loop-bytes.input - at) c.in-Ok.more c.loop-bytes.input c.read.new.buf (search rules) c.in-Ok.ensures.bound.0 in
    (search rules, search rules, subst (Consumes _ _) joined (Consumes-trans _ _ _ _ _ c.loop-bytes.invariant.2 c.in-Ok.ensures.bytes.0))
