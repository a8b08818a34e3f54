-- `program_rule::put_refusal` meets its contract. The word, the number and the line feed, one after the other. Assumes nothing.
use Rattle.std.proofs.Common.{rules, arith}
use Rattle.cursor.specs.Puts.{then}
use Rattle.text.proofs.DecimalLaws.{below_100000}
use Rattle.program_rule.specs.Output.{refused_text}
use Rattle.program_rule.specs.Outcomes.{number_small}
use Rattle.program_rule.proofs.put_refusal.Goals as goal

pub returns : goal.returns
unfolding refused_text
returns c =
    let few = below_100000 c.from.result (omega (arith, c.from.ensures, number_small c.args.refusal)) in
    let p = rw c.from.ensures at (then c.put_bytes.ensures (then c.put_decimal.ensures c.put_byte.ensures)) in
    (search (rules, p), omega (arith, few))
