-- Error figures of request N7, worked by hand, as one list with one theorem: by the definition, and computed kind by kind.
use Rattle.std.specs.Prelude.{◌≡◌, refl, cond, List, [], ◌∷◌, ℕ, suc, ◌+◌, ◌-◌, ◌*◌, ◌/◌, ◌%◌, min, ltb, length, get_or}
use Rattle.lists.specs.Any.{any}
use Rattle.lists.specs.Every.{Every}
use Rattle.lists.specs.Tabulate.{tabulate}
use Rattle.rules.specs.Quantities.{one}
use Rattle.rules.specs.Rule.Unary.{eventually, always}
use Rattle.rules.specs.Rule.Binary.{until}
use Rattle.rules.specs.Table.{Node, node_at, rule_at}
use Rattle.rules.specs.Rule.Window.{throughout}
use Rattle.rules.specs.Table.Node.{atom, unary, binary, windowed}
use Rattle.rules.specs.Rows.{Row, variable_count, rows_at, loop_rows_at}
use Rattle.rules.specs.Solution.Looping.{looping_at}
use Rattle.rules.specs.ErrorFigure.{others}
use Rattle.rules.specs.Errors.Figures.{error, kept_error}

pub record Line : Type 0 where
  pub slots : ℕ
  pub atoms : ℕ
  pub loop : ℕ
  pub tolerance : ℕ
  pub nodes : List Node
  pub figures : List ℕ

abbrev pub line : (T M L e : ℕ) → List Node → List ℕ → Line
line T M L e ns figures = record { slots = T; atoms = M; loop = L; tolerance = e; nodes = ns; figures = figures }

-- what the definition asks of each variable, from the figures l: the variables of block b at slot t are a node's or a V's
abbrev rows_in : (T M L : ℕ) → List Node → (b t : ℕ) → List Row
rows_in T M L ns b t =
    let n = looping_at ns (b - length ns) in
    cond (ltb b (length ns)) (rows_at T M L ns b (node_at ns b) t) (loop_rows_at T M ns n (node_at ns n) t)

abbrev counted : (T M L e : ℕ) → List Node → (l : List ℕ) → ℕ → ℕ
counted T M L e ns l v =
    cond (ltb v (M * T)) e (min one (e + others (λ w. get_or l w 0) v (rows_in T M L ns (v / T - M) (suc (v % T))) (variable_count T M L ns)))

abbrev computed : (T M L e : ℕ) → List Node → ℕ → ℕ
computed T M L e ns v =
    let b = v / T - M in
    let t = suc (v % T) in
    cond (ltb v (M * T)) e (cond (ltb b (length ns)) (error T L e (rule_at ns b) t) (kept_error T L e (rule_at ns (looping_at ns (b - length ns))) t))

abbrev pub Shown : Line → Type 0
Shown l =
    let T = l.slots in
    let M = l.atoms in
    let L = l.loop in
    let count = variable_count T M L l.nodes in
    (tabulate count (counted T M L l.tolerance l.nodes l.figures) ≡ l.figures)
    × (tabulate count (computed T M L l.tolerance l.nodes) ≡ l.figures)

abbrev pub lines : List Line
lines =
    -- `a0Ua1`
    line 2 2 1 7 (atom 0 ∷ atom 1 ∷ binary until 0 1 ∷ []) (7 ∷ 7 ∷ 7 ∷ 7 ∷ 14 ∷ 14 ∷ 14 ∷ 14 ∷ 126 ∷ 91 ∷ 56 ∷ 21 ∷ []) ∷
    -- `Fa0`
    line 3 1 2 10 (atom 0 ∷ unary eventually 0 ∷ []) (10 ∷ 10 ∷ 10 ∷ 20 ∷ 20 ∷ 20 ∷ 150 ∷ 120 ∷ 90 ∷ 90 ∷ 60 ∷ 30 ∷ []) ∷
    -- `GFa0`
    line 2 1 1 10 (atom 0 ∷ unary eventually 0 ∷ unary always 1 ∷ []) (10 ∷ 10 ∷ 20 ∷ 20 ∷ 120 ∷ 90 ∷ 460 ∷ 330 ∷ 60 ∷ 30 ∷ 230 ∷ 100 ∷ []) ∷
    -- `G[0,1]a0`
    line 3 1 1 10 (atom 0 ∷ windowed throughout 0 1 0 ∷ []) (10 ∷ 10 ∷ 10 ∷ 20 ∷ 20 ∷ 20 ∷ 50 ∷ 50 ∷ 50 ∷ []) ∷
    -- `Fa0`
    line 3 1 3 10 (atom 0 ∷ unary eventually 0 ∷ []) (10 ∷ 10 ∷ 10 ∷ 20 ∷ 20 ∷ 20 ∷ 90 ∷ 60 ∷ 30 ∷ []) ∷ []

pub lines-shown : Every Shown lines
unfolding error kept_error any
lines-shown = ((refl, refl), ((refl, refl), ((refl, refl), ((refl, refl), ((refl, refl), tt)))))
