-- What a ruling says: "Where an answer is an enum, a definition gives this paper's number and values for each of its cases."
use Rattle.std.specs.Prelude.{Result, Ok, Err}
use Rattle.rules.specs.Demands.{Answer}
use Rattle.rules.specs.Demands.Answer.{refused, answered}
use Rattle.rules.specs.Judge as Judge
use Rattle.rules.specs.Judge.VerdictWith.{outside, not-binary, broken, passed}
use Rattle.answers.specs.Meaning.{number_of}
use Rattle.judge.specs.declared.Verdict.{Verdict}
use Rattle.judge.specs.declared.Verdict.TheVariants.{Outside, NotBinary, Broken, Passed}
use Rattle.answers.specs.declared.Refusal.{Refusal}

abbrev pub verdict_of : Verdict → Judge.Verdict
verdict_of (Outside v) = outside v
verdict_of (NotBinary v) = not-binary v
verdict_of (Broken d i) = broken i d
verdict_of (Passed n error) = passed n error

abbrev pub ruling_of : Result Verdict Refusal → Answer Judge.Verdict
ruling_of (Err r) = refused (number_of r)
ruling_of (Ok v) = answered (verdict_of v)
