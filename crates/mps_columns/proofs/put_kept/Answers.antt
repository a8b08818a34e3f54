-- `mps_columns::put_kept` meets its contract: a V stands in its own node's rows alone. Assumes nothing.
use Rattle.std.proofs.Common.{ℕ, [], ◌∷◌, ◌<◌, length, arith}
use Rattle.std.proofs.Math.Path.{subst⁻¹}
use Rattle.rules.specs.TableTest.{nodes_in}
use Rattle.rules.proofs.TableTest.{length-nodes_in}
use Rattle.table.specs.Looping.{looping-few}
use Rattle.mps_users.specs.Found.{Found}
use Rattle.mps_users.specs.Finding.{found-kept}
use Rattle.mps_columns.proofs.put_kept.Goals as goal

pub invariant_of-part : goal.invariant_of-part
invariant_of-part c =
    let p = c.args.columns.now.plan in
    let n = c.args.n in
    let kept = c.requires.kept in
    let ns = nodes_in p.table.now in
    let long = length-nodes_in p.m p.table.now in
    let low : n < length ns = omega (arith, long, c.requires.fit.1) in
    let found = found-kept p.m ns (λ i h. p.ready.nodes i (omega (arith, long))) n low kept.1 in
    record {
      low = omega (arith, long, looping-few ns n, kept.0);
      found = subst⁻¹ (λ (y : ℕ). Found p.m ns y (n ∷ []) 1) kept.0 found;
    }
