-- `svg::reading::read_course` meets its contract: a refusal is that of the first row, and what passed them all is written. Assumes nothing.
use Rattle.std.proofs.Common.{rules}
use Rattle.svg.proofs.Checking.{known, too_long, breaks_rules, counts-refused, counts-fit, course_read}
use Rattle.svg.proofs.reading.read_course.Goals as goal

pub returns-then-text-gt-MOST_TEXT : goal.returns-then-text-gt-MOST_TEXT
returns-then-text-gt-MOST_TEXT c = too_long c.args.text.now _ c.args.out.now c.if-text-gt-MOST_TEXT.true

pub returns-in_err-tally : goal.returns-in_err-tally
returns-in_err-tally c = breaks_rules c.args.text.now _ c.args.out.now _ _ c.if-text-gt-MOST_TEXT.false c.in_err-tally.ensures (search rules)

pub returns-in_err-check_counts : goal.returns-in_err-check_counts
returns-in_err-check_counts c = counts-refused c.args.text.now _ c.in_ok-tally.tally c.if-text-gt-MOST_TEXT.false (known c.args.text.now _ c.in_ok-tally.ensures) _ _ c.args.out.now c.in_err-check_counts.ensures (search rules)

pub put_laps-requires : goal.put_laps-requires
put_laps-requires c = counts-fit c.args.text.now _ c.in_ok-tally.tally c.if-text-gt-MOST_TEXT.false (known c.args.text.now _ c.in_ok-tally.ensures) c.in_ok-check_counts.ensures

pub returns : goal.returns
returns c = course_read c.args.text.now _ c.in_ok-tally.tally c.if-text-gt-MOST_TEXT.false (known c.args.text.now _ c.in_ok-tally.ensures) c.args.out.now _ _ c.in_ok-check_counts.ensures c.put_laps.ensures
