-- `program::taken` meets its contract: the import is done, since the report has as many bytes as the feed may have.
-- Assumes nothing.
use Rattle.std.proofs.Common.{ℕ, arith}
use lib.ListN.{length-replicate}
use Rattle.program.proofs.Answering.{import_done, import_taken}
use Rattle.program.proofs.taken.Goals as goal

pub unwrap-requires : goal.unwrap-requires
unwrap-requires c =
    import_done _ _ c.requires (length-replicate {A = ℕ} 16384 0) (omega arith) (omega arith) _ c.import.ensures

pub returns : goal.returns
returns c =
    import_taken _ _ c.requires (length-replicate {A = ℕ} 16384 0) (omega arith) (omega arith) _ c.import.ensures _ c.unwrap.ensures
