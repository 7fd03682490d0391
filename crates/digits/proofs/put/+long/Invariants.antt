-- The measure of `digits::put::long` is the number itself: its tenth is less.
-- Assumes nothing.
use Rattle.digits.proofs.put.+long.Given as goal

abbrev pub decreases-long : goal.decreases-long
decreases-long l = l.n
