-- The bytes that `main` writes are within the buffer that they were put into.
use Rattle.std.proofs.Common.{sym, length-take-le}
use Rattle.program.proofs.ProgramFits.{program_within}
use Rattle.whelk.proofs.main.Goals as goal

pub slice_bounds-out-end : goal.slice_bounds-out-end
slice_bounds-out-end c = program_within _ c.program_text-bytes.result c.program_text-bytes.new.out _ c.program_text-bytes.ensures

pub slice_bounds-write-end-2 : goal.slice_bounds-write-end-2
slice_bounds-write-end-2 c =
    sym (length-take-le _ _ (program_within _ c.program_text-bytes.result c.program_text-bytes.new.out _ c.program_text-bytes.ensures))
