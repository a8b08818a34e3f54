-- `mps_line::digits_in` meets its contract. By the number's logarithm. Assumes nothing.
use Rattle.std.proofs.Common.{◌≡◌, ℕ, zero, suc, ◌+◌, ◌*◌, ◌/◌, ◌^◌, ◌≤◌, ◌<◌, max, length, ap, arith}
use Rattle.text.specs.Decimal.{decimal}
use Rattle.text.proofs.DecimalLaws.{length-low, length-next, below_1000000}
use Rattle.mps_line.proofs.digits_in.Goals as goal

-- a number of at least 10 ^ k and less than ten times that has k + 1 digits
digits : (k n : ℕ) → 10 ^ k ≤ n → n < 10 * 10 ^ k → length (decimal n) ≡ k + 1
digits zero n h g = length-low n (omega arith)
digits (suc k) n h g = omega (arith, length-next n (omega arith), digits k (n / 10) (omega arith) (omega arith))

-- 0 has as many as 1
least : (n m : ℕ) → m ≡ max n 1 → length (decimal n) ≡ length (decimal m)
least zero m e = omega (arith, length-low 0 (omega arith), length-low m (omega arith))
least (suc n) m e = let same : suc n ≡ m = omega arith in ap (λ (k : ℕ). length (decimal k)) same

pub returns : goal.returns
returns c =
    let k = c.ilog10.ensures in
    let e = digits c.ilog10.result c.max.result k.power_le k.next_power_gt in
    let same = least c.args.n c.max.result c.max.ensures in
    (omega (arith, e, same), omega (arith, e, same, below_1000000 c.args.n c.requires))
