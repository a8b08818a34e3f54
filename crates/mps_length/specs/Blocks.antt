-- The blocks of node i of a good table: they stand behind their parts, and their variables are among the page's.
use Rattle.std.specs.Prelude.{◌≡◌, refl, true, cond, List, ℕ, ◌+◌, ◌-◌, ◌*◌, ◌≤◌, ◌<◌, ltb, length}
use Rattle.std.proofs.Common.{sym, ap, ◌∙◌, add-mul, arith, ltb-true}
use Rattle.std.proofs.Math.Path.{subst⁻¹}
use Rattle.lists.specs.Place.{place_end}
use Rattle.rules.specs.Table.{Node, NodeGood, node_at}
use Rattle.rules.specs.Rows.{loops, looping, variable_count}
use Rattle.rules.proofs.Solution.Looping.{looping_lt}
use Rattle.table.specs.Nodes.{node_of}
use Rattle.table.specs.Looping.{loops_by, loops-by}
use Rattle.table.specs.declared.Node as Table
use Rattle.table.specs.declared.Kind.{Kind}
use Rattle.table.specs.declared.Kind.TheVariants.{Atom, Not, And, Or, Implies, Eventually, Always, Until, Within, Throughout}
use Rattle.row.specs.declared.Block.{Block}
use Rattle.row.specs.Kinds.{window_at}
use Rattle.row.specs.Apart.{Apart, apart_by, Behind, kept-behind}
use Rattle.row.specs.NodeRows.{kept_place, kept_high, kept_of_lem, Own, own-next, own_block, kept_block}
use Rattle.mps_length.specs.Windows.{Rising, rising_window, rising_below}

left-apart : (k : Kind) (T P p q : ℕ) → Apart k T P p q → p + T ≤ P
left-apart Atom T P p q h = h
left-apart Not T P p q h = h
left-apart And T P p q h = h.0
left-apart Or T P p q h = h.0
left-apart Implies T P p q h = h.0
left-apart Eventually T P p q h = h
left-apart Always T P p q h = h
left-apart Until T P p q h = h.0
left-apart Within T P p q h = h
left-apart Throughout T P p q h = h

-- the variables of a block's window go up, and stand before the block
pub rising_block : (T L : ℕ) (b : Block) → Behind T b → (s : ℕ) → Rising b.left (b.own + s) (window_at T L b.left b.from b.to s)
rising_block T L b behind s =
    rising_below b.left (b.left + T) (b.own + s) (window_at T L b.left b.from b.to s)
    (omega (arith, left-apart b.kind T b.own b.left b.right behind.parts)) (rising_window T L b.left b.from b.to s)

-- the variables in parts of T: the atoms', the nodes' own, and the V's
pub all-variables : (T M L : ℕ) (ns : List Node) → (M + (length ns + cond (ltb L T) (looping ns) 0)) * T ≡ variable_count T M L ns
all-variables T M L ns = add-mul M (length ns + cond (ltb L T) (looping ns) 0) T

module _ (T M L : ℕ) (ns : List Node) (i : ℕ) (nd : Table.Node) (is : node_of nd ≡ node_at ns i) (h : i < length ns) where
  abbrev own : Block
  own = own_block T M L ns i nd is

  abbrev kept : Block
  kept = kept_block T M L ns i nd is

  pub own_room : (M + i) * T + T ≤ variable_count T M L ns
  own_room =
      let k : (M + i) * T + T ≤ (M + (length ns + cond (ltb L T) (looping ns) 0)) * T = place_end T (omega arith) in
      omega (arith, all-variables T M L ns)

  pub own-has : Own T M L i (kept_place T M ns i) nd own
  own-has = record { kind_is = refl; own_is = refl; left_is = refl; right_is = refl; from_is = refl; to_is = refl; next-is = refl }

  module _ (looped : ltb L T ≡ true) (k : loops_by nd.kind ≡ true) where
    pub kept-room : kept_place T M ns i + T ≤ variable_count T M L ns
    kept-room =
        let l = looping_lt ns i (ap loops (sym is) ∙ sym (loops-by nd.kind nd.left nd.right nd.from nd.to) ∙ k) in
        let e : cond (ltb L T) (looping ns) 0 ≡ looping ns = rw looped refl in
        let p : kept_place T M ns i + T ≤ (M + (length ns + cond (ltb L T) (looping ns) 0)) * T = place_end T (omega arith) in
        omega (arith, all-variables T M L ns)

    pub next-room : kept_place T M ns i + (L - 1) < variable_count T M L ns
    next-room = let l = ltb-true L T looped in omega (arith, kept-room)

  module _ (good : NodeGood M i (node_at ns i)) where
    pub own-is-behind : Behind T own
    own-is-behind = record {
      parts =
          apart_by M i T nd.kind nd.left nd.right nd.from nd.to own.own own.left own.right refl refl refl
          (subst⁻¹ (NodeGood M i) is good);
      next = λ e. omega (arith, kept_high T M ns i h, own-next own-has e);
    }

    pub kept-is-behind : Behind T kept
    kept-is-behind = kept-behind T (kept_place T M ns i) own kept (kept_of_lem (kept_place T M ns i) own) (omega (arith, kept_high T M ns i h)) own-is-behind
