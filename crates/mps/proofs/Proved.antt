-- PageSays, proved. SameMeaning is proved in Meaning.
use Rattle.std.specs.Prelude.{Bool, true, false, cond, List, [], ◌∷◌, ℕ, suc, ◌+◌, ◌*◌, ◌≤◌, ltb, length}
use Rattle.std.proofs.Common.{mul-le-mul, arith}
use Rattle.rules.specs.Rows.{loops, looping, variable_count, rows_of}
use Rattle.rules.specs.Table.{Node}
use Rattle.mps.specs.Page.{page}
use Rattle.mps.specs.Says.{PageSays}
use Rattle.rules.proofs.RowCount.{rows-count}
use Rattle.mps.proofs.PageParsed.{page-parsed}

pub looping_le : (ns : List Node) → looping ns ≤ length ns
looping_le [] = omega arith
looping_le (nd ∷ ns) = go (loops nd) (looping_le ns)
  where
    go : (b : Bool) → looping ns ≤ length ns → cond b (suc (looping ns)) (looping ns) ≤ suc (length ns)
    go true h = omega arith
    go false h = omega arith

pub if-le : (b : Bool) (n : ℕ) → cond b n 0 ≤ n
if-le true n = omega arith
if-le false n = omega arith

pub page-says : PageSays
unfolding page
page-says T M L table ns slots atoms loop good =
    let b = length ns + cond (ltb L T) (looping ns) 0 in
    let v : b ≤ 256 = omega (arith, if-le (ltb L T) (looping ns), looping_le ns, good.few) in
    let d : M * T ≤ 16 * 64 = mul-le-mul {n₂ = 16} {m₂ = 64} (omega arith) (omega arith) in
    let e : b * T ≤ 256 * 64 = mul-le-mul {n₂ = 256} {m₂ = 64} v (omega arith) in
    let f : length ns * T ≤ 128 * 64 = mul-le-mul {n₂ = 128} {m₂ = 64} good.few (omega arith) in
    let g : (T + 8) * (length ns * T) ≤ 72 * 8192 = mul-le-mul {n₂ = 72} {m₂ = 8192} (omega arith) (omega arith) in
    page-parsed (M * T) (variable_count T M L ns) (rows_of T M L ns) (omega arith) (omega (arith, rows-count T M L ns))
