-- What a good table has at most: what its first node has, an atom's, and for each other node what any node has.
use Rattle.std.specs.Prelude.{◌≡◌, Bool, true, false, ◌&&◌, List, ℕ, zero, suc, ◌+◌, ◌-◌, ◌*◌, ◌≤◌, ◌<◌, eqb, ltb, length}
use Rattle.std.proofs.Math.Path.{refl, ap}
use Rattle.std.proofs.Common.{sym, ◌∙◌, arith}
use Rattle.std.proofs.Math.Bool.{cond}
use Rattle.std.proofs.Math.Nat.{add-mul, mul-le-mul}
use Rattle.rules.specs.Quantities.{SlotsAllowed, AtomsAllowed}
use Rattle.rules.specs.Table.{Node, Good, node_at}
use Rattle.rules.specs.Rows.{loops, looping, slack_count, variable_count, rows_of, rows_bytes}
use Rattle.table.specs.Nodes.{node_of}
use Rattle.table.specs.Looping.{loops_by, loops-by, looping_to, looping-few, looping-more, looping-all}
use Rattle.table.specs.declared.Node as Table
use Rattle.row.specs.Kinds.{left_block}
use Rattle.row.specs.NodeRows.{count_by, part_rows, rows_to, rows_none, rows_more, count-more}
use Rattle.rows.specs.Sizes.{length_by}
use Rattle.rows.specs.Parts.{length_to, length_none, length_more, count-is, length-is}
use Rattle.mps.proofs.Proved.{if-le}
use Rattle.mps.specs.Page.{page}
use Rattle.mps_length.specs.Digits.{above, digit_sum}
use Rattle.mps_length.specs.RowSizes.{weight, weight-append}
use Rattle.mps_length.specs.Nodes.{weight_by, part-weight}
use Rattle.mps_length.specs.Idle.{held, held-is, idle_atoms}
use Rattle.mps_length.specs.Page.{page_size, page-size}
use Rattle.sepia_limits.specs.Limits.{max_variables, max_rows, max_rows_bytes, max_page}
use Rattle.sepia_limits.specs.Kinds.{NodeAtMost, kept_by, node-at-most, atom-at-most}
use Rattle.sepia_limits.specs.FirstNode.{FirstAtom, first-atom, looping-first, idle-few}

-- numbers that rise by at most c at each step after the first
rises : (f : ℕ → ℕ) (d c n : ℕ) → f 1 ≤ d → ((k : ℕ) → k < n → f (k + 1 + 1) ≤ f (k + 1) + c) → f (n + 1) ≤ d + c * n
rises f d c zero h g = omega arith
rises f d c (suc n) h g =
    let e : suc n + 1 ≡ n + 1 + 1 = omega arith in
    omega (arith, ap f e, g n (omega arith), rises f d c n h (λ k l. g k (omega arith)))

-- more numbers have more digits
above_most : (n m k : ℕ) → n ≤ m → above n k ≤ above m k
unfolding above
above_most n m k h = omega arith

digits-most : (n m : ℕ) → n ≤ m → digit_sum n ≤ digit_sum m
digits-most n m h =
    omega (arith, above_most n m 10 h, above_most n m 100 h, above_most n m 1000 h, above_most n m 10000 h, above_most n m 100000 h)

-- of the numbers of all rows, and of the atoms' variables
row-digits : digit_sum max_rows ≤ 3059200
unfolding above
row-digits = omega arith

atom-digits : digit_sum 1024 ≤ 2986
unfolding above
atom-digits = omega arith

-- the V's of no node, and of one more
kept-none : (x : Bool) (j T : ℕ) → j ≤ 0 → cond x j 0 * T ≡ 0
kept-none true j T h = let e : j ≡ 0 = omega arith in rw e (omega arith)
kept-none false j T h = omega arith

kept_more : (x y : Bool) (j T : ℕ) → cond x (cond y (j + 1) j) 0 * T ≡ cond x j 0 * T + cond (x && y) T 0
kept_more true true j T = omega arith
kept_more true false j T = omega arith
kept_more false y j T = omega arith

module _ (T M L : ℕ) (table : List ℕ) (ns : List Node) (slots : SlotsAllowed T) (atoms : AtomsAllowed M) (good : Good M table ns) where
  abbrev N : ℕ
  N = length ns

  abbrev n : ℕ
  n = variable_count T M L ns

  abbrev loops_back : Bool
  loops_back = ltb L T

  -- of the first k nodes: rows, bytes of their records, V's, and the bytes of the rows' lines and of the V's in BOUNDS
  abbrev rows_up_to : ℕ → ℕ
  rows_up_to k = length (rows_to T M L ns k)

  abbrev bytes_up_to : ℕ → ℕ
  bytes_up_to k = length_to T M L ns k

  abbrev kept_up_to : ℕ → ℕ
  kept_up_to k = cond loops_back (looping_to ns k) 0 * T

  abbrev lines_up_to : ℕ → ℕ
  lines_up_to k = weight n (rows_to T M L ns k) + 26 * kept_up_to k

  -- one node more
  record Step (r b l k : ℕ) : Type 0 where
    rows : rows_up_to (k + 1) ≤ rows_up_to k + r
    bytes : bytes_up_to (k + 1) ≤ bytes_up_to k + b
    lines : lines_up_to (k + 1) ≤ lines_up_to k + l

  module _ (k : ℕ) (h : k < length ns) (nd : Table.Node) (is : node_of nd ≡ node_at ns k) where
    abbrev twice : Bool
    twice = eqb (left_block nd.kind M nd.left * T) ((M + nd.right) * T)

    looping-step : looping_to ns (k + 1) ≡ cond (loops_by nd.kind) (looping_to ns k + 1) (looping_to ns k)
    looping-step =
        looping-more ns k h
        ∙ ap (λ (b : Bool). cond b (looping_to ns k + 1) (looping_to ns k))
        (ap loops (sym is) ∙ sym (loops-by nd.kind nd.left nd.right nd.from nd.to))

    kept_step : kept_up_to (k + 1) ≡ kept_up_to k + kept_by loops_back nd.kind T
    kept_step = ap (λ (j : ℕ). cond loops_back j 0 * T) looping-step ∙ kept_more loops_back (loops_by nd.kind) (looping_to ns k) T

    weight-step : weight n (rows_to T M L ns (k + 1)) ≡ weight n (rows_to T M L ns k) + weight_by loops_back twice nd.kind T L nd.from nd.to
    weight-step =
        ap (weight n) (rows_more T M L ns k) ∙ weight-append n (rows_to T M L ns k) (part_rows T M L ns k)
        ∙ ap (λ (x : ℕ). weight n (rows_to T M L ns k) + x) (part-weight T M L ns k nd is slots.0 h (good.nodes k h))

    step : {r b l : ℕ} →
        NodeAtMost r b l (count_by loops_back nd.kind T L nd.from nd.to) (length_by loops_back nd.kind T L nd.from nd.to)
        (weight_by loops_back twice nd.kind T L nd.from nd.to) (kept_by loops_back nd.kind T) → Step r b l k
    step m = record {
      rows = omega (arith, count-more T M L ns k nd is slots.0, m.few);
      bytes = omega (arith, length_more T M L ns k nd slots.0 is, m.short);
      lines = omega (arith, weight-step, kept_step, m.light);
    }

  any_step : (k : ℕ) → k < length ns → Step 4160 57856 331136 k
  any_step k h =
      let nd = held (node_at ns k) in
      let is = held-is (node_at ns k) in
      step k h nd is (node-at-most T L nd.from nd.to slots.1 loops_back (twice k h nd is) nd.kind)

  first : FirstAtom M (node_at ns 0)
  first = first-atom M (node_at ns 0) (good.nodes 0 good.some)

  first_step : Step 64 704 3392 0
  first_step =
      let nd = held (Node.atom first.number) in
      step 0 good.some nd first.is (atom-at-most T L 0 0 slots.1 loops_back (twice 0 good.some nd first.is))

  -- all nodes
  all : (f : ℕ → ℕ) (d c : ℕ) → f 1 ≤ d → ((k : ℕ) → k < length ns → f (k + 1) ≤ f k + c) → f N ≤ d + c * (N - 1)
  all f d c h g =
      let e : N - 1 + 1 ≡ N = omega (arith, good.some) in
      omega (arith, ap f e, rises f d c (N - 1) h (λ k l. g (k + 1) (omega arith)))

  all-rows : rows_up_to N ≤ 64 + 4160 * (N - 1)
  all-rows = all rows_up_to 64 4160 (omega (arith, first_step.rows, ap length (rows_none T M L ns))) (λ k h. (any_step k h).rows)

  all-bytes : bytes_up_to N ≤ 704 + 57856 * (N - 1)
  all-bytes = all bytes_up_to 704 57856 (omega (arith, first_step.bytes, length_none T M L ns)) (λ k h. (any_step k h).bytes)

  all_lines : lines_up_to N ≤ 3392 + 331136 * (N - 1)
  all_lines =
      let none = kept-none loops_back (looping_to ns 0) T (looping-few ns 0) in
      all lines_up_to 3392 331136 (omega (arith, first_step.lines, ap (weight n) (rows_none T M L ns), none)) (λ k h. (any_step k h).lines)

  pub variables-most : variable_count T M L ns ≤ max_variables
  variables-most =
      let few : N + cond loops_back (looping ns) 0 ≤ 255 =
      omega (arith, good.few, if-le loops_back (looping ns), looping-first ns first.number first.is good.some) in
      let a : M * T ≤ 16 * 64 = mul-le-mul {n₂ = 16} {m₂ = 64} atoms.1 slots.1 in
      let b : slack_count T L ns ≤ 255 * 64 = mul-le-mul {n₂ = 255} {m₂ = 64} few slots.1 in
      omega arith

  pub rows-most : length (rows_of T M L ns) ≤ max_rows
  rows-most = omega (arith, good.some, good.few, all-rows, count-is T M L ns N refl {c = rows_up_to N} refl)

  pub rows-bytes-most : length (rows_bytes (rows_of T M L ns)) ≤ max_rows_bytes
  rows-bytes-most = omega (arith, good.some, good.few, all-bytes, length-is T M L ns N refl {c = bytes_up_to N} refl)

  pub page-most : length (page T M L ns) ≤ max_page
  unfolding page_size
  page-most =
      let i : idle_atoms ns N M * T ≤ 15 * 64 =
      mul-le-mul {n₂ = 15} {m₂ = 64} (omega (arith, atoms.1, idle-few ns first.number M first.is good.some first.low)) slots.1 in
      let a : M * T ≤ 1024 = mul-le-mul {n₂ = 16} {m₂ = 64} atoms.1 slots.1 in
      let b : N * T ≤ 8192 = mul-le-mul {n₂ = 128} {m₂ = 64} good.few slots.1 in
      let c : slack_count T L ns ≡ N * T + kept_up_to N =
      add-mul N (cond loops_back (looping ns) 0) T ∙ ap (λ (j : ℕ). N * T + cond loops_back j 0 * T) (sym (looping-all ns)) in
      let d : rows_up_to N + 1 ≤ max_rows = omega (arith, rows-most, count-is T M L ns N refl {c = rows_up_to N} refl) in
      let size =
      page-size T M L ns slots.0 slots.1 atoms.1 good.some good.few good.nodes
      {lines = weight n (rows_to T M L ns N)} {idle = idle_atoms ns N M * T} refl refl in
      omega (arith, good.some, good.few, all_lines, digits-most (rows_up_to N + 1) max_rows d, row-digits, digits-most (M * T) 1024 a, atom-digits)
