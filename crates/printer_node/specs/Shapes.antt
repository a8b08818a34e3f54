-- What a node's text is made of, piece by piece, as the code takes it.
use Rattle.std.specs.Prelude.{◌≡◌, refl, Bool, true, false, Option, Some, None, List, [], ◌∷◌, ◌++◌, ℕ, ◌+◌, ◌-◌, ◌≤◌, ◌<◌, ltb, length, SomeIff}
use Rattle.std.proofs.Common.{sym, ap, subst, ◌∙◌, append_assoc, append-nil, arith, length-append}
use Rattle.rules.specs.Rule.{Rule}
use Rattle.rules.specs.Table.{NodeGood, node_at, grow, rule_at}
use Rattle.rules.proofs.TableRules.{rule_at-is}
use Rattle.rules.specs.TableTest.{nodes_in, record_count}
use Rattle.rules.proofs.TableTest.{length-nodes_in}
use Rattle.text.specs.Decimal.{decimal}
use Rattle.table.specs.declared.Kind.{Kind}
use Rattle.table.specs.declared.Kind.TheVariants.{Atom, Not, And, Or, Implies, Eventually, Always, Until, Within, Throughout}
use Rattle.table.specs.declared.Node.{Node}
use Rattle.table.specs.Nodes.{node_by, node_of, NodeRead}
use Rattle.printer_text.specs.Shown.{bracketed, span_text, shown}
use Rattle.printer_node.specs.declared.Level.{Level}
use Rattle.printer_node.specs.declared.Window.{Window}
use Rattle.printer_node.specs.declared.Prefix.{Prefix}
use Rattle.printer_node.specs.declared.Pair.{Pair}
use Rattle.printer_node.specs.declared.Shape.{Shape}
use Rattle.printer_node.specs.declared.Shape.TheVariants.{Leaf, Prefixed, Paired}

-- a level as a grade of `shown`
abbrev pub grade_of : Level → ℕ
grade_of Level.Rule = 0
grade_of Level.Or = 1
grade_of Level.And = 2
grade_of Level.Until = 3
grade_of Level.Single = 4

-- the text of node n where a level of grade k is wanted
abbrev pub node_text : (table : List ℕ) (n k : ℕ) → List ℕ
node_text table n k = shown k (rule_at (nodes_in table) n)

abbrev pub tighter : Level → Level
tighter Level.Rule = Level.Or
tighter Level.Or = Level.And
tighter Level.And = Level.Until
tighter Level.Until = Level.Single
tighter Level.Single = Level.Single

-- equal levels have one grade
pub same-grade : (l m : Level) → l ≡ m → grade_of l ≡ grade_of m
same-grade l m e = rw e

abbrev pub prefixed : (letter child : ℕ) → Option Window → Shape
prefixed letter child window = Prefixed (record { letter = letter; window = window; child = child })

abbrev pub paired : (sign : ℕ) → Level → (left right : ℕ) → Shape
paired sign level left right = Paired (record { left = left; right = right; sign = sign; level = level })

abbrev timed : (from to : ℕ) → Option Window
timed from to = Some (record { from = from; to = to })

abbrev pub shape_by : Kind → (left right from to : ℕ) → Shape
shape_by Atom l r a b = Leaf l
shape_by Not l r a b = prefixed 33 l None
shape_by And l r a b = paired 38 Level.And l r
shape_by Or l r a b = paired 124 Level.Or l r
shape_by Implies l r a b = paired 62 Level.Rule l r
shape_by Eventually l r a b = prefixed 70 l None
shape_by Always l r a b = prefixed 71 l None
shape_by Until l r a b = paired 85 Level.Until l r
shape_by Within l r a b = prefixed 70 l (timed a b)
shape_by Throughout l r a b = prefixed 71 l (timed a b)

-- ---- its text

abbrev pub piece : Bool → ℕ → List ℕ
piece true b = b ∷ []
piece false b = []

abbrev pub window_text : Option Window → List ℕ
window_text None = []
window_text (Some w) = span_text w.from w.to

abbrev pub head_text : Prefix → List ℕ
head_text x = (x.letter ∷ []) ++ window_text x.window

-- from the texts of the parts, by grade and node number, where a level of grade k is wanted
abbrev pub shape_text : (ℕ → ℕ → List ℕ) → (k : ℕ) → Shape → List ℕ
shape_text f k (Leaf a) = 97 ∷ decimal a
shape_text f k (Prefixed x) = head_text x ++ f 4 x.child
shape_text f k (Paired x) =
    piece (ltb (grade_of x.level) k) 40 ++ (f (grade_of (tighter x.level)) x.left ++ ((x.sign ∷ []) ++ (f (grade_of x.level) x.right ++ piece (ltb (grade_of x.level) k) 41)))

pieces : (b : Bool) (s t : List ℕ) (c : ℕ) → bracketed b (s ++ (c ∷ t)) ≡ piece b 40 ++ (s ++ ((c ∷ []) ++ (t ++ piece b 41)))
pieces true s t c = ap (λ (l : List ℕ). 40 ∷ l) (append_assoc s (c ∷ t) (41 ∷ []))
pieces false s t c = ap (λ (l : List ℕ). s ++ (c ∷ l)) (sym (append-nil t))

module _ (rules : ℕ → Rule) (k : ℕ) where
  abbrev texts : ℕ → ℕ → List ℕ
  texts g n = shown g (rules n)

  shape-text : (kind : Kind) (l r a b : ℕ) → shown k (grow rules (node_by kind l r a b)) ≡ shape_text texts k (shape_by kind l r a b)
  shape-text Atom l r a b = refl
  shape-text Not l r a b = refl
  shape-text And l r a b = pieces (ltb 2 k) (texts 3 l) (texts 2 r) 38
  shape-text Or l r a b = pieces (ltb 1 k) (texts 2 l) (texts 1 r) 124
  shape-text Implies l r a b = pieces (ltb 0 k) (texts 1 l) (texts 0 r) 62
  shape-text Eventually l r a b = refl
  shape-text Always l r a b = refl
  shape-text Until l r a b = pieces (ltb 3 k) (texts 4 l) (texts 3 r) 85
  shape-text Within l r a b = refl
  shape-text Throughout l r a b = refl

-- ---- of a node of a good table

-- a table of good nodes, with at most 16 atoms
pub record Printable (table : List ℕ) : Type 0 where
  pub atoms : ℕ
  pub few : atoms ≤ 16
  pub nodes : (n : ℕ) → n < record_count table → NodeGood atoms n (node_at (nodes_in table) n)

-- numbers of one digit or two
abbrev pub WindowLow : Option Window → Type 0
WindowLow None = Unit {0}
WindowLow (Some w) = (w.from < 100) × (w.to < 100)

abbrev pub HeadLow : Prefix → Type 0
HeadLow x = WindowLow x.window

abbrev pub ShapeGood : (n : ℕ) → Shape → Type 0
ShapeGood n (Leaf a) = a < 100
ShapeGood n (Prefixed x) = (x.child < n) × HeadLow x
ShapeGood n (Paired x) = (x.left < n) × (x.right < n)

pub record Shaped (table : List ℕ) (n : ℕ) (s : Shape) : Type 0 where
  pub text : (k : ℕ) → shown k (rule_at (nodes_in table) n) ≡ shape_text (λ g c. shown g (rule_at (nodes_in table) c)) k s
  pub good : ShapeGood n s

shape-good : (M n : ℕ) → M ≤ 16 → (kind : Kind) (l r a b : ℕ) → NodeGood M n (node_by kind l r a b) → ShapeGood n (shape_by kind l r a b)
shape-good M n h Atom l r a b g = omega arith
shape-good M n h Not l r a b g = (g, tt)
shape-good M n h And l r a b g = (g.0, g.1)
shape-good M n h Or l r a b g = (g.0, g.1)
shape-good M n h Implies l r a b g = (g.0, g.1)
shape-good M n h Eventually l r a b g = (g, tt)
shape-good M n h Always l r a b g = (g, tt)
shape-good M n h Until l r a b g = (g.0, g.1)
shape-good M n h Within l r a b g = (g.0, (omega (arith, g.1), omega (arith, g.1)))
shape-good M n h Throughout l r a b g = (g.0, (omega (arith, g.1), omega (arith, g.1)))

pub shaped : (table : List ℕ) (n : ℕ) (nd : Node) → Printable table → n < record_count table → NodeRead table n nd →
    Shaped table n (shape_by nd.kind nd.left nd.right nd.from nd.to)
shaped table n nd p h r =
    let ns = nodes_in table in
    let M = p.atoms in
    let l = length-nodes_in M table in
    let grown : rule_at ns n ≡ grow (rule_at ns) (node_of nd) =
    rule_at-is M ns (λ m u. p.nodes m (omega arith)) n (omega arith) ∙ ap (grow (rule_at ns)) (sym r.is) in
    record {
      text = λ k. ap (shown k) grown ∙ shape-text (rule_at ns) k nd.kind nd.left nd.right nd.from nd.to;
      good = shape-good M n p.few nd.kind nd.left nd.right nd.from nd.to (subst (NodeGood M n) (sym r.is) (p.nodes n h));
    }

-- ---- an operator between two parts: how long its text is, and what is left of b bytes

module _ (table : List ℕ) (n k : ℕ) {x : Pair} (h : Shaped table n (Paired x)) where
  abbrev signs : ℕ
  signs = length (piece (ltb (grade_of x.level) k) 40) + 1 + length (piece (ltb (grade_of x.level) k) 41)

  abbrev pub left_text : List ℕ
  left_text = node_text table x.left (grade_of (tighter x.level))

  abbrev pub right_text : List ℕ
  right_text = node_text table x.right (grade_of x.level)

  pub paired_length : length (node_text table n k) ≡ signs + length left_text + length right_text
  paired_length =
      let o = piece (ltb (grade_of x.level) k) 40 in
      let c = piece (ltb (grade_of x.level) k) 41 in
      let s = x.sign ∷ [] in
      omega (
        arith,
        ap length (h.text k),
        length-append o (left_text ++ (s ++ (right_text ++ c))),
        length-append left_text (s ++ (right_text ++ c)),
        length-append right_text c,
      )

  pub paired_spent : (b s₁ s₂ : ℕ) (r : Option ℕ) → (signs ≤ b) × (s₁ ≡ b - signs) → (length left_text ≤ s₁) × (s₂ ≡ s₁ - length left_text) →
      SomeIff r (length right_text ≤ s₂) (s₂ - length right_text) → SomeIff r (length (node_text table n k) ≤ b) (b - length (node_text table n k))
  paired_spent b s₁ s₂ None e f g = λ fits. g (omega (arith, paired_length, e, f))
  paired_spent b s₁ s₂ (Some r) e f g = (omega (arith, paired_length, e, f, g), omega (arith, paired_length, e, f, g))

-- what is left of s bytes behind y is what is left of b bytes behind x, where x is as much above y as b is above s
pub left_behind : (b s x y : ℕ) (r : Option ℕ) → x + s ≡ y + b → SomeIff r (y ≤ s) (s - y) → SomeIff r (x ≤ b) (b - x)
left_behind b s x y None e g = λ fits. g (omega (arith, e, fits))
left_behind b s x y (Some r) e g = (omega (arith, e, g), omega (arith, e, g))

pub span-length : (a b : ℕ) → length (span_text a b) ≡ 3 + length (decimal a) + length (decimal b)
span-length a b = omega (arith, length-append (decimal a) (44 ∷ (decimal b ++ (93 ∷ []))), length-append (decimal b) (93 ∷ []))
