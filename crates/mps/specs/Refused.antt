-- Which refusals apply to the call mps_page, and that it is exact: statements. The proof stands in Exact.
use Rattle.std.specs.Prelude.{◌≡◌, List, ℕ, ◌<◌, length}
use Rattle.rules.specs.Table.{Node, Good}
use Rattle.rules.specs.Refusals.{TableRefused}
use Rattle.rules.specs.Demands.{Answer, Written, Exact}
use Rattle.rules.specs.Demands.Written.{wrote}
use Rattle.mps.specs.Page.{page}

-- "Checks: those of the row writer, with 11 for the page buffer." `room` is the length of that buffer.
pub data PageRefused (T M L : ℕ) (table : List ℕ) (room : ℕ) : ℕ → Type 0 where
  table-refused : {k : ℕ} → TableRefused T M L table k → PageRefused T M L table room k
  short : {ns : List Node} → Good M table ns → room < length (page T M L ns) → PageRefused T M L table room 11

-- "The result of this call .. is the length in bytes."
abbrev pub PageExact : ((T M L : ℕ) (table : List ℕ) (room : ℕ) → Answer Written) → Type 0
PageExact write =
    (T M L : ℕ) (table : List ℕ) (room : ℕ) →
    Exact (PageRefused T M L table room)
    (λ w. (ns : List Node) × Good M table ns × (w ≡ wrote (length (page T M L ns)) (page T M L ns)))
    (write T M L table room)
