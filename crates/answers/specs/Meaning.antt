-- What an answer says: "Where an answer is an enum, a definition gives this paper's number and values for each of its cases."
use Rattle.std.specs.Prelude.{ℕ, Result, Ok, Err}
use Rattle.rules.specs.Demands
use Rattle.answers.specs.declared.Refusal.{Refusal}
use Rattle.answers.specs.declared.Refusal.TheVariants.{Slots, Atoms, LongText, Grammar, AtomNumber, Nodes, Table, Run}
use Rattle.answers.specs.declared.Refusal.TheVariants.{Figures, Tolerance, Room, Window, Loop}

-- "Refusals by number", and of request N4: "12 when a is above b or b above 63 in a text"; of request N8: "13 when L is not 1 to T"
abbrev pub number_of : Refusal → ℕ
number_of Slots = 1
number_of Atoms = 2
number_of LongText = 3
number_of Grammar = 4
number_of AtomNumber = 5
number_of Nodes = 6
number_of Table = 7
number_of Run = 8
number_of Figures = 9
number_of Tolerance = 10
number_of Room = 11
number_of Window = 12
number_of Loop = 13

abbrev pub answer_of : Result ℕ Refusal → Demands.Answer ℕ
answer_of (Ok n) = Demands.Answer.answered n
answer_of (Err r) = Demands.Answer.refused (number_of r)
