-- `table::atom_good` meets its contract. Assumes nothing.
use Rattle.std.proofs.Common.{◌≡◌, sym, ap, ◌∙◌, ℕ, eqb, arith, le-ltb}
use Rattle.table.specs.Atoms.{last_four, atom-tested, atom-beyond, atom-unmarked}
use Rattle.table.proofs.atom_good.Goals as goal

pub returns-then-from-m : goal.returns-then-from-m
returns-then-from-m c =
    let four : c.from_le_bytes-rest.result ≡ last_four c.args.table.now c.args.n = omega (arith, c.from_le_bytes-rest.ensures) in
    ap (λ (k : ℕ). eqb k 0) four ∙ atom-tested c.args.m c.args.table.now c.args.n c.requires.1 (sym c.marked.ensures ∙ c.if-marked.true) (omega arith)

pub returns-else-from-m : goal.returns-else-from-m
returns-else-from-m c = le-ltb _ _ c.if-from-m.false ∙ atom-beyond c.args.m c.args.table.now c.args.n c.requires.1 (omega arith)

pub returns-else-marked : goal.returns-else-marked
returns-else-marked c =
    c.if-marked.false ∙ atom-unmarked c.args.m c.args.table.now c.args.n c.requires.1 (sym c.marked.ensures ∙ c.if-marked.false)
