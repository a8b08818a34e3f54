-- Request N8, "With L equal to T everything is as it was": the page, the refusals and the demand on the call as they were before. NoLoop has the proofs.
use Rattle.std.specs.Prelude.{◌≡◌, List, ℕ, ◌*◌, ◌<◌, length}
use Rattle.rules.specs.Table.{Node, Good}
use Rattle.rules.specs.Before.{rows_before, variables_before, TableRefusedBefore, ExactBefore}
use Rattle.rules.specs.Demands.{Answer, Written}
use Rattle.rules.specs.Demands.Written.{wrote}
use Rattle.mps.specs.Page.{page_of}

abbrev pub page_before : (T M : ℕ) → List Node → List ℕ
page_before T M ns = page_of (M * T) (variables_before T M ns) (rows_before T M ns)

pub data PageRefusedBefore (T M : ℕ) (table : List ℕ) (room : ℕ) : ℕ → Type 0 where
  table-refused : {k : ℕ} → TableRefusedBefore T M table k → PageRefusedBefore T M table room k
  short : {ns : List Node} → Good M table ns → room < length (page_before T M ns) → PageRefusedBefore T M table room 11

abbrev pub PageExactBefore : ((T M : ℕ) (table : List ℕ) (room : ℕ) → Answer Written) → Type 0
PageExactBefore write =
    (T M : ℕ) (table : List ℕ) (room : ℕ) →
    ExactBefore (PageRefusedBefore T M table room)
    (λ w. (ns : List Node) × Good M table ns × (w ≡ wrote (length (page_before T M ns)) (page_before T M ns)))
    (write T M table room)
