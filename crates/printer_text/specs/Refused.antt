-- Request N9: which refusals apply to the printer, in its own order, and the statements about it. The proofs stand in Exact, Back and Proved.
use Rattle.std.specs.Prelude.{◌≡◌, ◌⊎◌, List, [], ◌∷◌, ℕ, ◌≤◌, ◌<◌, length}
use Rattle.rules.specs.Quantities.{AtomsAllowed, text_limit}
use Rattle.rules.specs.Rule.{Rule}
use Rattle.rules.specs.Grammar.{Says}
use Rattle.rules.specs.Table.{Node, Good, rule_at, root}
use Rattle.rules.specs.Demands.{Answer, Written, ExactIn}
use Rattle.rules.specs.Demands.Answer.{refused, answered}
use Rattle.rules.specs.Demands.Written.{wrote}
use Rattle.printer_text.specs.Printed.{Printed}

-- "Print the root of a table"; "A shared child is printed at each use": the rule that the root stands for has it at each use.
abbrev pub RootPrinted : (M : ℕ) (table s : List ℕ) → Type 0
RootPrinted M table s = (ns : List Node) × Good M table ns × Printed (rule_at ns (root ns)) s

-- "Checks: 2, then 7, then 3 when the text would pass 1,024 bytes, then 11 for its buffer." `room` is the length of that buffer.
abbrev pub print_order : List ℕ
print_order = 2 ∷ 7 ∷ 3 ∷ 11 ∷ []

pub data PrintRefused (M : ℕ) (table : List ℕ) (room : ℕ) : ℕ → Type 0 where
  atoms : (AtomsAllowed M → ⊥) → PrintRefused M table room 2
  not_good : ((ns : List Node) → Good M table ns → ⊥) → PrintRefused M table room 7
  long : {s : List ℕ} → RootPrinted M table s → text_limit < length s → PrintRefused M table room 3
  short : {s : List ℕ} → RootPrinted M table s → room < length s → PrintRefused M table room 11

-- "The result of this call [mps_page], and of every later one that writes text, is the length in bytes." (request N2)
abbrev pub PrinterExact : ((M : ℕ) (table : List ℕ) (room : ℕ) → Answer Written) → Type 0
PrinterExact print =
    (M : ℕ) (table : List ℕ) (room : ℕ) →
    ExactIn print_order (PrintRefused M table room) (λ w. (s : List ℕ) × RootPrinted M table s × (w ≡ wrote (length s) s)) (print M table room)

-- every rule has one such text, and every other text that says the rule has more bytes
abbrev pub OneText : Type 0
OneText = (p : Rule) → (s : List ℕ) × Printed p s × ((t : List ℕ) → Says t p → (t ≡ s) ⊎ (length s < length t))

-- "For a table that the reader made, the text reads to that very table, and every other text that does so has at least as many bytes." The table
-- handed to the printer is the reader's output alone. It is then never refused but for a buffer that is too short, so never with 3.
abbrev pub PrintsBack : (read : (M : ℕ) (text : List ℕ) (room : ℕ) → Answer Written) (print : (M : ℕ) (table : List ℕ) (room : ℕ) → Answer Written) → Type 0
PrintsBack read print =
    (M : ℕ) (text : List ℕ) (room n : ℕ) (table : List ℕ) → read M text room ≡ answered (wrote n table) →
    (s : List ℕ) × (length s ≤ text_limit) ×
    ((room : ℕ) → length s ≤ room → print M table room ≡ answered (wrote (length s) s)) ×
    ((room : ℕ) → room < length s → print M table room ≡ refused 11) ×
    ((room : ℕ) → length table ≤ room → read M s room ≡ answered (wrote n table)) ×
    ((t : List ℕ) (room : ℕ) → read M t room ≡ answered (wrote n table) → length s ≤ length t)
