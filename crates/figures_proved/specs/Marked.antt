-- Rule 14.1: the worked figures of rules 14.3 to 14.10 that are marked *, as one table.
-- Assumes nothing.
use Rattle.std.specs.Prelude.{List, [], ◌∷◌, ℕ}
use Rattle.cidr.specs.Prefix.{dotted}
use Rattle.routes.specs.Row.{Row, hops_of}
use Rattle.routes.specs.Plain.{plain}
use Rattle.routes.specs.Change.{announced, withdrawn}
use Rattle.segment.specs.Packed.{width, words_of, bases_of, packed_hops_of}
use Rattle.split.specs.Split.{second_half}
use Rattle.feed.specs.Import.{row_numbers}
use Rattle.program.specs.Program.{bytes}
use Rattle.figures_proved.specs.Figure.{Figure, figure, one, prefix, route}

-- Rule 14.2: list A.
abbrev pub list_a : List Row
list_a =
    route 200 24 0 0 14 1
    ∷ route 200 26 0 0 15 2
    ∷ route 200 27 0 0 16 3
    ∷ route 200 27 64 0 18 1
    ∷ route 200 27 112 0 20 2
    ∷ route 200 27 128 0 20 1
    ∷ route 200 27 240 0 20 2
    ∷ []

-- Rule 14.5: segment 51,227, from 200.27.0.0 on.
abbrev pub q : ℕ
q = 51227

-- Rules 14.6 to 14.9: list A after one edit.
abbrev pub with21 : List Row
with21 = announced (prefix 200 27 240 0 21) 2 list_a

abbrev pub without18 : List Row
without18 = withdrawn (prefix 200 27 64 0 18) list_a

abbrev pub with19 : List Row
with19 = announced (prefix 200 27 224 0 19) 1 list_a

abbrev pub with_default : List Row
with_default = announced (prefix 0 0 0 0 0) 4 list_a

-- Rule 13.5: the five rows.
abbrev pub five_rows : List ℕ
five_rows = bytes "10.0.0.0/8 7\n10.0.0.1/8 7\n10.0.0.0/8 9\n\n10.1.0.0/16 70000\n"

abbrev pub marked : List Figure
marked =
    -- Rule 14.3: plain answers of A.
    one (plain list_a (dotted 200 27 112 170)) 2
    ∷ one (plain list_a (dotted 200 28 0 0)) 0
    ∷ one (plain list_a (dotted 200 23 255 255)) 0
    ∷ one (plain list_a (dotted 200 25 255 255)) 1
    -- Rule 14.5: the segment of A has width 4, one word, base 0 and six hops.
    ∷ one (width q list_a) 4
    ∷ figure (words_of q list_a) (35265 ∷ [])
    ∷ figure (bases_of q list_a) (0 ∷ [])
    ∷ figure (packed_hops_of q list_a) (3 ∷ 1 ∷ 2 ∷ 1 ∷ 3 ∷ 2 ∷ [])
    -- Rule 14.6: with 200.27.240.0/21 hop 2 as well it has width 5, two words, and the hops as before.
    ∷ one (width q with21) 5
    ∷ figure (words_of q with21) (32898 ∷ 40962 ∷ [])
    ∷ figure (bases_of q with21) (0 ∷ 3 ∷ [])
    ∷ figure (packed_hops_of q with21) (3 ∷ 1 ∷ 2 ∷ 1 ∷ 3 ∷ 2 ∷ [])
    -- Rule 14.7: the word after 200.27.64.0/18 is withdrawn.
    ∷ figure (words_of q without18) (33217 ∷ [])
    -- Rule 14.8: the word and the hops after 200.27.224.0/19 is announced with hop 1.
    ∷ figure (words_of q with19) (35267 ∷ [])
    ∷ figure (packed_hops_of q with19) (3 ∷ 1 ∷ 2 ∷ 1 ∷ 3 ∷ 1 ∷ 2 ∷ [])
    -- Rule 14.9: the second half's labels of A with 0.0.0.0/0 hop 4, split with k = 4.
    ∷ figure (hops_of (second_half 4 with_default)) (0 ∷ 2 ∷ 1 ∷ 2 ∷ 1 ∷ [])
    -- Rule 14.10: the numbers of the five rows.
    ∷ figure (row_numbers 1024 five_rows) (0 ∷ 3 ∷ 4 ∷ 1 ∷ 2 ∷ [])
    ∷ []
