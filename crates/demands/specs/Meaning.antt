-- "Where an answer is an enum, a definition gives this paper's number and values for each of its cases."
use Rattle.std.specs.Prelude.{Result, Ok, Err}
use Rattle.rules.specs.Demands.{Answer}
use Rattle.rules.specs.Demands.Answer.{refused, answered}
use Rattle.answers.specs.Meaning.{number_of}
use Rattle.answers.specs.declared.Refusal.{Refusal}
use Rattle.headlines.specs.Demand3.{Plan}
use Rattle.demands.specs.declared.Planned.{Planned}

abbrev pub planned_of : Result Planned Refusal → Answer Plan
planned_of (Ok p) = answered (Plan.planned p.nodes p.rows p.truth)
planned_of (Err r) = refused (number_of r)
