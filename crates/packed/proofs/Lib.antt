pub mod PackedOutcome
