use Rattle.rules.specs.Reading.Parser.{measure}
use Rattle.reader_levels.specs.Phrase.{view}
use Rattle.reader_levels.specs.Steps.{rule_level, or_level, and_level, until_level, single_level}
use Rattle.reader_levels.proofs.+and_or_rule_single_until.Given as goal

abbrev pub decreases-and : goal.decreases-and
decreases-and l = measure and_level l.text.now.now (view l.from).next

abbrev pub decreases-or : goal.decreases-or
decreases-or l = measure or_level l.text.now.now (view l.from).next

abbrev pub decreases-rule : goal.decreases-rule
decreases-rule l = measure rule_level l.text.now.now (view l.from).next

abbrev pub decreases-single : goal.decreases-single
decreases-single l = measure single_level l.text.now.now l.at

abbrev pub decreases-until : goal.decreases-until
decreases-until l = measure until_level l.text.now.now (view l.from).next
