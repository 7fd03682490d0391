-- `program::program_text` meets its contract: the one line for a feed that is too long, and else the counts and the run table.
-- Assumes nothing.
use Rattle.program.proofs.Answering.{long_program, short_program, put_program}
use Rattle.program.proofs.program_text.Goals as goal

pub returns-then-feed-gt-LONGEST_FEED : goal.returns-then-feed-gt-LONGEST_FEED
returns-then-feed-gt-LONGEST_FEED c =
    let feed = c.args.feed.now in
    put_program feed (long_program feed c.if-feed-gt-LONGEST_FEED.true) c.text.ensures

pub returns : goal.returns
returns c =
    let feed = c.args.feed.now in
    put_program feed (short_program feed c.if-feed-gt-LONGEST_FEED.false) c.answer.ensures
