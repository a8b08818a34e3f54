use Rattle.std.proofs.Common.{◌≡◌, true}
use Rattle.lists.specs.All.{all}
use Rattle.rules.specs.TableTest.{record_good}
use Rattle.table.proofs.good.Given as goal

abbrev pub invariant-loop-n : goal.invariant-loop-n
invariant-loop-n l = all (record_good l.m l.table) l.n ≡ true
