-- The laws that the proofs of the levels cite: each case of a level, what it told, and what a next call asks.
use mathlib.Core.Path.{◌≡◌, refl, sym, ap, ◌∙◌, subst}
use mathlib.Core.Bool.{Bool, true, false, cond}
use mathlib.Core.Option as Maths
use mathlib.Core.List.{List, [], ◌∷◌, ◌++◌}
use Prim.Native.Nat.{ℕ, zero, suc, ◌+◌, ◌-◌, ◌*◌, min, max, ◌≤◌, ◌<◌}
use native.Mathlib.Omega.{arith}
use native.Mathlib.Nat.{add-zero, add-suc, suc-add}
use lib.ListN.{length, set}
use lib.Dec.{eqb}
use lib.Seq.{sets, length-sets}
use borrow.Author.Tests.{ne_eqb}
use Rattle.std.specs.Prelude.{◌||◌, Option, Some, None}
use Rattle.rules.specs.Quantities.{text_limit}
use Rattle.rules.proofs.RuleSize.{size-positive}
use Rattle.rules.specs.Rule.{Unary, Binary, Window, Rule, size, height}
use Rattle.rules.specs.Rule.Unary.{not, eventually, always}
use Rattle.rules.specs.Rule.Binary.{implies}
use Rattle.rules.specs.Grammar.{Level, tighter, sign}
use Rattle.rules.specs.Grammar.Level.{of, single}
use Rattle.rules.specs.Table.{unary_kind, binary_kind, window_kind}
use Rattle.rules.specs.Reading.Lexer
use Rattle.rules.specs.Reading.Lexer.{start, token_at, sign_at, Ends}
use Rattle.rules.proofs.Reading.Lexer.{token_ends, sign-ends}
use Rattle.reader_lexer.specs.Signs.{sign_from, position_of, position_none, position_some, sign-skipped, start_le}
use Rattle.rules.specs.Reading.Parser
use Rattle.rules.specs.Reading.Parser.{Parsed, Spanned, Start, unary_of, start_of, starting, pair, go_on, apply, span_at, opens}
use Rattle.rules.proofs.Reading.Parser.{span-ends, opens-sign}
use Rattle.rules.specs.Reading.Parser.{window_of, apply_window, over_span, operate, begin, lead, measure, parsed}
use Rattle.rules.proofs.Reading.Parser.{parsed-within, single_law, pair_law}
use Rattle.reader_lexer.specs.declared.Token.TheVariants.{Sign, Atom}
use Rattle.reader_lexer.specs.Capped.{capped, none_of, sign_of, atom-of}
use Rattle.reader_lexer.specs.declared.Span.{Span}
use Rattle.reader_lexer.specs.Spans.{cut}
use Rattle.table.specs.declared.Kind.{Kind}
use Rattle.table.specs.declared.Kind.TheVariants.{Within, Throughout}
use Rattle.table.specs.Nodes.{byte_of}
use Rattle.reader_levels.specs.Phrase.{Phrase}
use Rattle.reader_levels.specs.Records.{top, window_flaw, flaw, height-less, entry, records, length-records}
use Rattle.reader_levels.specs.Parts.{Got, got, failed}
use Rattle.reader_levels.specs.Steps.{scratch_length, Ready, Yields, Room, Wrote, WroteOver, WroteAbove, part_of, joined, applied, unary_as, prefix_kind, windowed, opened, closed, closed_at}

-- ---- a run of stores in two halves

sets_append : (l : List ℕ) (i : ℕ) (xs ys : List ℕ) → sets l i (xs ++ ys) ≡ sets (sets l i xs) (i + length xs) ys
sets_append l i [] ys = ap (λ (k : ℕ). sets l k ys) (sym (add-zero i))
sets_append l i (x ∷ xs) ys =
    sets_append (set l i x) (suc i) xs ys
    ∙ ap (λ (k : ℕ). sets (sets (set l i x) (suc i) xs) k ys) (suc-add i (length xs) ∙ sym (add-suc i (length xs)))

-- the records of a rule, and what stands behind them
behind : (out : List ℕ) (n : ℕ) (p : Rule) (ys : List ℕ) → sets out (8 * n) (records n p ++ ys) ≡ sets (sets out (8 * n) (records n p)) (8 * (n + size p)) ys
behind out n p ys =
    sets_append out (8 * n) (records n p) ys
    ∙ ap (λ (k : ℕ). sets (sets out (8 * n) (records n p)) k ys) (omega (arith, length-records n p))

-- what is written leaves the length as it is
wrote-long : (out out₁ : List ℕ) (i : ℕ) (bytes : List ℕ) → Wrote out i bytes out₁ → length out ≡ scratch_length → length out₁ ≡ scratch_length
wrote-long out out₁ i bytes e h = ap length (e h) ∙ length-sets out i bytes ∙ h

binary-wrote : (out out₁ out₂ out₃ : List ℕ) (n : ℕ) (o : Binary) (p q : Rule) → Wrote out (8 * n) (records n p) out₁ →
    Wrote out₁ (8 * (n + size p)) (records (n + size p) q) out₂ →
    Wrote out₂ (8 * (n + size p + size q)) (entry (binary_kind o) (n + size p - 1) (n + size p + size q - 1) 0 0 (max (height p) (height q) + 1)) out₃ →
    Wrote out (8 * n) (records n (Rule.binary o p q)) out₃
unfolding records
binary-wrote out out₁ out₂ out₃ n o p q e f g h =
    let k = wrote-long out out₁ (8 * n) (records n p) e h in
    let l = wrote-long out₁ out₂ (8 * (n + size p)) (records (n + size p) q) f k in
    g l ∙ rw (f k, e h) (sym (behind out n p _ ∙ behind (sets out (8 * n) (records n p)) (n + size p) q _))

unary-wrote : (out out₁ out₂ : List ℕ) (n : ℕ) (u : Unary) (p : Rule) → Wrote out (8 * n) (records n p) out₁ →
    Wrote out₁ (8 * (n + size p)) (entry (unary_kind u) (n + size p - 1) 0 0 0 (height p + 1)) out₂ → Wrote out (8 * n) (records n (Rule.unary u p)) out₂
unfolding records
unary-wrote out out₁ out₂ n u p e f h = f (wrote-long out out₁ (8 * n) (records n p) e h) ∙ rw (e h) (sym (behind out n p _))

window-wrote : (out out₁ out₂ : List ℕ) (n : ℕ) (w : Window) (a b : ℕ) (p : Rule) → Wrote out (8 * n) (records n p) out₁ →
    Wrote out₁ (8 * (n + size p)) (entry (window_kind w) (n + size p - 1) 0 (min 255 a) (min 255 b) (height p + 1)) out₂ →
    Wrote out (8 * n) (records n (Rule.windowed w a b p)) out₂
unfolding records
window-wrote out out₁ out₂ n w a b p e f h = f (wrote-long out out₁ (8 * n) (records n p) e h) ∙ rw (e h) (sym (behind out n p _))

-- ---- what a level told, of another parse

yields_as : (s : List ℕ) (x y : Parsed) (n : ℕ) (before after : List ℕ) (r : Option Phrase) → x ≡ y → Yields s y n before after r → Yields s x n before after r
yields_as s x y n before after r e h = rw e h

-- a part that begins behind as many bytes as there are nodes, and one more, has room for a node more
room-of : (s : List ℕ) (l : Level) (from n : ℕ) (out out₁ : List ℕ) (p : Phrase) → length s ≤ text_limit → n < from →
    Got s (parsed l s from) n out out₁ p → Room p
room-of s l from n out out₁ p short few g =
    let w = parsed-within l s from g.rule g.end g.is in
    record {
      some = omega (arith, g.count, size-positive g.rule);
      few = omega (arith, g.count, w.low, w.high);
      low = omega (arith, g.count, g.tallest, height-less g.rule);
    }

-- where a part goes on, and after how many nodes
pub same-place : (p q : Phrase) → p ≡ q → (p.next ≡ q.next) × (p.nodes ≡ q.nodes)
same-place p q e = (ap (λ (x : Phrase). x.next) e, ap (λ (x : Phrase). x.nodes) e)

-- ---- the cases of a level of an operator

pair_as : (o : Binary) (s : List ℕ) (at : ℕ) (x : Parsed) → parsed (tighter o) s at ≡ x → parsed (of o) s at ≡ pair o s x (parsed (of o) s)
pair_as o s at x e = pair_law o s at ∙ ap (λ (y : Parsed). pair o s y (parsed (of o) s)) e

pair-more : (o : Binary) (s : List ℕ) (at : ℕ) (p : Rule) (next q : ℕ) → parsed (tighter o) s at ≡ Parsed.part p next → q ≡ sign_at s next (sign o) →
    0 < q → parsed (of o) s at ≡ Parser.join o p (parsed (of o) s q)
pair-more o s at p next zero e f ne = absurd (omega arith)
pair-more o s at p next (suc q) e f ne = pair_as o s at (Parsed.part p next) e ∙ ap (λ (x : ℕ). go_on o p next x (parsed (of o) s)) (sym f)

sign-past : (s : List ℕ) (at b q : ℕ) → q ≡ sign_at s at b → 0 < q → (at < q) × (q ≤ length s)
sign-past s at b zero e ne = absurd (omega arith)
sign-past s at b (suc q) e ne = sign-ends s at b q (sym e)

-- the tighter level failed
pub level_fail : (o : Binary) (s : List ℕ) (at n : ℕ) (before after : List ℕ) → Yields s (parsed (tighter o) s at) n before after None →
    Yields s (parsed (of o) s at) n before after None
level_fail o s at n before after h =
    yields_as s (parsed (of o) s at) Parsed.fail n before after None (pair_as o s at Parsed.fail (failed s (parsed (tighter o) s at) n before after h)) refl

module _ (o : Binary) (s : List ℕ) (at n : ℕ) (out out₁ : List ℕ) (l : Phrase) (told : Yields s (parsed (tighter o) s at) n out out₁ (Some l)) where
  left : Got s (parsed (tighter o) s at) n out out₁ l
  left = got s (parsed (tighter o) s at) n out out₁ l told

  sign-behind : sign_from s l.next (sign o) ≡ sign_at s left.end (sign o)
  sign-behind = ap (λ (p : ℕ). sign_from s p (sign o)) left.skipped ∙ sign-skipped s left.end (sign o)

  -- no sign of the operator follows
  pub level_alone : None ≡ position_of (sign_from s l.next (sign o)) → Yields s (parsed (of o) s at) n out out₁ (Some l)
  level_alone e =
      let g = left in
      let z : sign_at s g.end (sign o) ≡ 0 = sym sign-behind ∙ position_none (sign_from s l.next (sign o)) e in
      yields_as s (parsed (of o) s at) (Parsed.part g.rule g.end) n out out₁ (Some l)
      (pair_as o s at (Parsed.part g.rule g.end) g.is ∙ ap (λ (x : ℕ). go_on o g.rule g.end x (parsed (of o) s)) z)
      (ap (λ (x : Phrase). Some x) g.part, g.wrote)

  module _ (q : ℕ) (sign-is : Some q ≡ position_of (sign_from s l.next (sign o))) where
    there : (q ≡ sign_from s l.next (sign o)) × (0 < q)
    there = position_some (sign_from s l.next (sign o)) q sign-is

    sign-end : (left.end < q) × (q ≤ length s)
    sign-end = sign-past s left.end (sign o) q (there.0 ∙ sign-behind) there.1

    over_right : parsed (of o) s at ≡ Parser.join o left.rule (parsed (of o) s q)
    over_right = pair-more o s at left.rule left.end q left.is (there.0 ∙ sign-behind) there.1

    -- the next call of the level
    pub level_next : Ready s at n → (measure (of o) s q < measure (of o) s at) × Ready s q l.nodes
    level_next ready =
        let g = left in
        let w = parsed-within (tighter o) s at g.rule g.end g.is in
        let e = sign-end in
        let p = size-positive g.rule in
        (omega arith, record { short = ready.short; few = omega (arith, ready.few, g.count) })

    -- it failed
    pub level_half : (out₂ : List ℕ) → Yields s (parsed (of o) s q) l.nodes out₁ out₂ None → Yields s (parsed (of o) s at) n out out₂ None
    level_half out₂ told₂ =
        yields_as s (parsed (of o) s at) Parsed.fail n out out₂ None
        (over_right ∙ ap (Parser.join o left.rule) (failed s (parsed (of o) s q) l.nodes out₁ out₂ told₂)) refl

    module _ (out₂ : List ℕ) (r : Phrase) (told₂ : Yields s (parsed (of o) s q) l.nodes out₁ out₂ (Some r)) where
      right : Got s (parsed (of o) s q) l.nodes out₁ out₂ r
      right = got s (parsed (of o) s q) l.nodes out₁ out₂ r told₂

      pub level_room : Ready s at n → Room l × Room r
      level_room ready =
          let g = left in
          let w = parsed-within (tighter o) s at g.rule g.end g.is in
          let e = sign-end in
          let few : l.nodes < q = omega (arith, ready.few, g.count, w.low) in (
            record {
              some = omega (arith, g.count, size-positive g.rule);
              few = omega (arith, ready.short);
              low = omega (arith, g.count, g.tallest, height-less g.rule);
            },
            room-of s (of o) q l.nodes out₁ out₂ r ready.short few right,
          )

      module _ (out₃ : List ℕ)
          (wrote : WroteOver out₂ (binary_kind o) l r out₃) where
        joined-at : (p q : Rule) (e f : ℕ) → l ≡ part_of s p e n → r ≡ part_of s q f l.nodes → joined l r ≡ part_of s (Rule.binary o p q) f n
        joined-at p q e f h k =
            rw (k, h)
            (ap (λ (m : ℕ). record { next = start s f; nodes = m; top = max (top p) (top q); flaw = flaw p || flaw q; height = max (height p) (height q) + 1 })
            (omega arith))

        pub level_joined : Yields s (parsed (of o) s at) n out out₃ (Some (joined l r))
        level_joined =
            let g = left in
            let k = right in
            yields_as s (parsed (of o) s at) (Parsed.part (Rule.binary o g.rule k.rule) k.end) n out out₃ (Some (joined l r))
            (over_right ∙ ap (Parser.join o g.rule) k.is) (
              ap (λ (x : Phrase). Some x) (joined-at g.rule k.rule g.end k.end g.part k.part),
              binary-wrote out out₁ out₂ out₃ n o g.rule k.rule g.wrote (rw (← g.count) k.wrote)
                  (rw (← g.tallest, ← k.tallest, ← g.count, ← k.count) wrote),
            )

-- ---- the cases of Single

single_as : (s : List ℕ) (at : ℕ) (t : Lexer.Token) → token_at s at ≡ t → parsed single s at ≡ lead s t (parsed single s) (parsed (of implies) s)
single_as s at t e = single_law s at ∙ ap (λ (y : Lexer.Token). lead s y (parsed single s) (parsed (of implies) s)) e

ends_as : (s : List ℕ) (at : ℕ) (t : Lexer.Token) → token_at s at ≡ t → Ends s at t
ends_as s at t e = subst (Ends s at) e (token_ends s at)

-- no token
pub single-none : (s : List ℕ) (at n : ℕ) (out : List ℕ) → None ≡ capped (token_at s at) → Yields s (parsed single s at) n out out None
single-none s at n out e =
    yields_as s (parsed single s at) Parsed.fail n out out None (single_as s at Lexer.Token.none (none_of (token_at s at) e)) refl

-- an atom
module _ (s : List ℕ) (at n a next : ℕ) (token-is : Some (Atom a next) ≡ capped (token_at s at)) where
  pub atom-ends : (at < next) × (next ≤ length s)
  atom-ends =
      let g = atom-of (token_at s at) a next token-is in
      ends_as s at (Lexer.Token.atom g.number next) g.is

  pub atom-start : start s next ≤ length s
  atom-start = start_le s next atom-ends.1

  pub single-atom : (out out₁ : List ℕ) (end : ℕ) → end ≡ start s next → Wrote out (8 * n) (entry 1 a 0 0 0 0) out₁ →
      Yields s (parsed single s at) n out out₁ (Some (record { next = end; nodes = n + 1; top = a; flaw = false; height = 0 }))
  unfolding records
  single-atom out out₁ end skipped w =
      let g = atom-of (token_at s at) a next token-is in
      yields_as s (parsed single s at) (Parsed.part (Rule.atom g.number) next) n out out₁
      (Some (record { next = end; nodes = n + 1; top = a; flaw = false; height = 0 }))
      (single_as s at (Lexer.Token.atom g.number next) g.is) (
        ap (λ (x : ℕ). Some (record { next = x; nodes = n + 1; top = a; flaw = false; height = 0 })) skipped
            ∙ ap (λ (x : ℕ). Some (record { next = start s next; nodes = n + 1; top = x; flaw = false; height = 0 })) g.cut,
        λ h. w h ∙ ap (λ (x : ℕ). sets out (8 * n) (entry 1 x 0 0 0 0)) g.cut,
      )

-- the operator of one side that a byte is
module _ (b : ℕ) where
  opens-cases : (x y z : Bool) (s : List ℕ) (next : ℕ) (u : Unary) →
      cond x (Maths.some not) (cond y (Maths.some eventually) (cond z (Maths.some always) Maths.none)) ≡ Maths.some u →
      cond x None (position_of (sign_at s next 91)) ≡ position_of (opens u s next)
  opens-cases true y z s next not e = refl
  opens-cases true y z s next eventually e = cc
  opens-cases true y z s next always e = cc
  opens-cases false true z s next not e = cc
  opens-cases false false true s next not e = cc
  opens-cases false false false s next not e = cc
  opens-cases false y z s next eventually e = refl
  opens-cases false y z s next always e = refl

  opened_as : (s : List ℕ) (next : ℕ) (u : Unary) → unary_of b ≡ Maths.some u → opened b s next ≡ position_of (opens u s next)
  opened_as s next u e = opens-cases (eqb b 33) (eqb b 70) (eqb b 71) s next u e

  window-cases : (x y z : Bool) (m : Option ℕ) (q : ℕ) (u : Unary) →
      cond x (Maths.some not) (cond y (Maths.some eventually) (cond z (Maths.some always) Maths.none)) ≡ Maths.some u → Some q ≡ cond x None m →
      byte_of (cond y Within Throughout) ≡ window_kind (window_of u)
  window-cases true y z m q u e f = cc
  window-cases false true z m q not e f = cc
  window-cases false true z m q eventually e f = refl
  window-cases false true z m q always e f = cc
  window-cases false false true m q not e f = cc
  window-cases false false true m q eventually e f = cc
  window-cases false false true m q always e f = refl
  window-cases false false false m q u e f = cc

  windowed_as : (s : List ℕ) (next q : ℕ) (u : Unary) → unary_of b ≡ Maths.some u → Some q ≡ opened b s next → byte_of (windowed b) ≡ window_kind (window_of u)
  windowed_as s next q u e f = window-cases (eqb b 33) (eqb b 70) (eqb b 71) (position_of (sign_at s next 91)) q u e f

  record Operator (kind : Kind) : Type 0 where
    op : Unary
    is : unary_of b ≡ Maths.some op
    byte : byte_of kind ≡ unary_kind op

  unary-byte : (u : Unary) → byte_of (unary_as u) ≡ unary_kind u
  unary-byte not = refl
  unary-byte eventually = refl
  unary-byte always = refl

  operator-at : (kind : Kind) (y : Maths.Option Unary) → unary_of b ≡ y → Some kind ≡ prefix_kind y → Operator kind
  operator-at kind Maths.none e k = cc
  operator-at kind (Maths.some u) e k =
      let f : kind ≡ unary_as u = cc in
      record { op = u; is = e; byte = ap byte_of f ∙ unary-byte u }

  operator_of : (kind : Kind) → Some kind ≡ prefix_kind (unary_of b) → Operator kind
  operator_of kind k = operator-at kind (unary_of b) refl k

  no_operator : (y : Maths.Option Unary) → None ≡ prefix_kind y → y ≡ Maths.none
  no_operator Maths.none k = refl
  no_operator (Maths.some u) k = cc

or_false : (b : Bool) → (b || false) ≡ b
or_false true = refl
or_false false = refl

-- a window before its numbers were cut
record Uncut (w : Span) (z : Spanned) : Type 0 where
  from : ℕ
  to : ℕ
  is : z ≡ Spanned.span from to w.next
  from_cut : w.from ≡ min 255 from
  to-cut : w.to ≡ min 255 to

uncut : (w : Span) (z : Spanned) → Some w ≡ cut z → Uncut w z
uncut w Spanned.fail e = cc
uncut w (Spanned.span i j k) e =
    let f : w ≡ record { from = min 255 i; to = min 255 j; next = k } = cc in
    record {
      from = i;
      to = j;
      is = ap (Spanned.span i j) (sym (ap (λ (x : Span). x.next) f));
      from_cut = ap (λ (x : Span). x.from) f;
      to-cut = ap (λ (x : Span). x.to) f;
    }

no_span : (z : Spanned) → None ≡ cut z → z ≡ Spanned.fail
no_span Spanned.fail e = refl
no_span (Spanned.span i j k) e = cc

-- a sign
module _ (s : List ℕ) (at n : ℕ) (out : List ℕ) (b next : ℕ) (token-is : Some (Sign b next) ≡ capped (token_at s at)) where
  found : token_at s at ≡ Lexer.Token.sign b next
  found = sign_of (token_at s at) b next token-is

  begun : (y : Start) → start_of b ≡ y → parsed single s at ≡ begin s next y (parsed single s) (parsed (of implies) s)
  begun y e = single_as s at (Lexer.Token.sign b next) found ∙ ap (λ (z : Start). begin s next z (parsed single s) (parsed (of implies) s)) e

  -- it ends within the text
  pub sign-inside : next ≤ length s
  sign-inside = omega (arith, ends_as s at (Lexer.Token.sign b next) found)

  -- the call behind the sign
  pub sign-next : Ready s at n → ((measure single s next < measure single s at) × (measure (of implies) s next < measure single s at)) × Ready s next n
  sign-next ready =
      let h = ends_as s at (Lexer.Token.sign b next) found in
      (omega (arith, h), record { short = ready.short; few = omega (arith, h, ready.few) })

  -- what stands behind the sign has room for one node more
  pub inner_room : (l : Level) → Ready s at n → (out₁ : List ℕ) (p : Phrase) → Yields s (parsed l s next) n out out₁ (Some p) → Room p
  inner_room l ready out₁ p told =
      let h = ends_as s at (Lexer.Token.sign b next) found in
      let few : n < next = omega (arith, h, ready.few) in
      room-of s l next n out out₁ p ready.short few (got s (parsed l s next) n out out₁ p told)

  -- a bracket
  module _ (open_is : b ≡ 40) (out₁ : List ℕ) where
    bracket_is : parsed single s at ≡ Parser.close s (parsed (of implies) s next)
    bracket_is = begun Start.bracket (ap start_of open_is)

    pub bracket_half : Yields s (parsed (of implies) s next) n out out₁ None → Yields s (parsed single s at) n out out₁ None
    bracket_half told =
        yields_as s (parsed single s at) Parsed.fail n out out₁ None
        (bracket_is ∙ ap (Parser.close s) (failed s (parsed (of implies) s next) n out out₁ told)) refl

    module _ (p : Phrase) (told : Yields s (parsed (of implies) s next) n out out₁ (Some p)) where
      inside : Got s (parsed (of implies) s next) n out out₁ p
      inside = got s (parsed (of implies) s next) n out out₁ p told

      closed_as : (y : ℕ) → Yields s (Parser.close_at inside.rule y) n out out₁ (closed_at s p y)
      closed_as zero = refl
      closed_as (suc q) =
          let g = inside in
          (ap (λ (x : Phrase). closed_at s x (suc q)) g.part, g.wrote)

      pub single-bracket : Yields s (parsed single s at) n out out₁ (closed s p)
      single-bracket =
          let g = inside in
          let y = sign_from s p.next 41 in
          yields_as s (parsed single s at) (Parser.close_at g.rule y) n out out₁ (closed s p)
          (bracket_is ∙ ap (Parser.close s) g.is
          ∙ ap (Parser.close_at g.rule) (sym (ap (λ (x : ℕ). sign_from s x 41) g.skipped ∙ sign-skipped s g.end 41))) (closed_as y)

  -- an operator of one side
  module _ (not_open : b ≡ 40 → ⊥) where
    start_is : start_of b ≡ starting (unary_of b)
    start_is = ap (λ (c : Bool). cond c Start.bracket (starting (unary_of b))) (ne_eqb b 40 not_open)

    pub single-fail : None ≡ prefix_kind (unary_of b) → Yields s (parsed single s at) n out out None
    single-fail k =
        yields_as s (parsed single s at) Parsed.fail n out out None
        (begun Start.nothing (start_is ∙ ap starting (no_operator b (unary_of b) k))) refl

    module _ (kind : Kind) (kind_is : Some kind ≡ prefix_kind (unary_of b)) where
      o : Operator b kind
      o = operator_of b kind kind_is

      operated : (x : ℕ) → x ≡ opens o.op s next → parsed single s at ≡ operate o.op s next x (parsed single s)
      operated x e = begun (Start.operator o.op) (start_is ∙ ap starting o.is) ∙ ap (λ (y : ℕ). operate o.op s next y (parsed single s)) (sym e)

      -- without a window
      module _ (no-window : None ≡ opened b s next) where
        plain : parsed single s at ≡ apply o.op (parsed single s next)
        plain =
            let z : opens o.op s next ≡ 0 = position_none (opens o.op s next) (no-window ∙ opened_as b s next o.op o.is) in
            operated 0 (sym z)

        pub prefix_half : (out₁ : List ℕ) → Yields s (parsed single s next) n out out₁ None → Yields s (parsed single s at) n out out₁ None
        prefix_half out₁ told =
            yields_as s (parsed single s at) Parsed.fail n out out₁ None
            (plain ∙ ap (apply o.op) (failed s (parsed single s next) n out out₁ told)) refl

        applied-at : (p : Phrase) (q : Rule) (end : ℕ) → p ≡ part_of s q end n → applied 0 0 p ≡ part_of s (Rule.unary o.op q) end n
        applied-at p q end e =
            rw (e, or_false (flaw q))
            (ap (λ (m : ℕ). record { next = start s end; nodes = m; top = top q; flaw = flaw q; height = height q + 1 }) (omega arith))

        pub single-prefix : (out₁ : List ℕ) (p : Phrase) → Yields s (parsed single s next) n out out₁ (Some p) → (out₂ : List ℕ) →
            WroteAbove out₁ (byte_of kind) 0 0 p out₂ → Yields s (parsed single s at) n out out₂ (Some (applied 0 0 p))
        single-prefix out₁ p told out₂ wrote =
            let g = got s (parsed single s next) n out out₁ p told in
            yields_as s (parsed single s at) (Parsed.part (Rule.unary o.op g.rule) g.end) n out out₂ (Some (applied 0 0 p))
            (plain ∙ ap (apply o.op) g.is) (
              ap (λ (x : Phrase). Some x) (applied-at p g.rule g.end g.part),
              unary-wrote out out₁ out₂ n o.op g.rule g.wrote (rw (← g.tallest, ← g.count, ← o.byte) wrote),
            )

      -- with a window
      module _ (after : ℕ) (after-is : Some after ≡ opened b s next) where
        open_there : (after ≡ opens o.op s next) × (0 < after)
        open_there = position_some (opens o.op s next) after (after-is ∙ opened_as b s next o.op o.is)

        at-span : (u : Unary) (x : ℕ) → 0 < x → operate u s next x (parsed single s) ≡ over_span (window_of u) (span_at s x) (parsed single s)
        at-span u zero h = absurd (omega arith)
        at-span u (suc q) h = refl

        spanned : (y : Spanned) → span_at s after ≡ y → parsed single s at ≡ over_span (window_of o.op) y (parsed single s)
        spanned y f =
            operated after open_there.0 ∙ at-span o.op after open_there.1 ∙ ap (λ (z : Spanned). over_span (window_of o.op) z (parsed single s)) f

        -- that is none
        pub window-fail : None ≡ cut (span_at s after) → Yields s (parsed single s at) n out out None
        window-fail e = yields_as s (parsed single s at) Parsed.fail n out out None (spanned Spanned.fail (no_span (span_at s after) e)) refl

        module _ (w : Span) (window-is : Some w ≡ cut (span_at s after)) where
          numbers : Uncut w (span_at s after)
          numbers = uncut w (span_at s after) window-is

          over_inner : parsed single s at ≡ apply_window (window_of o.op) numbers.from numbers.to (parsed single s w.next)
          over_inner = spanned (Spanned.span numbers.from numbers.to w.next) numbers.is

          opens-past : (u : Unary) (z : ℕ) → opens u s next ≡ z → 0 < z → next < z
          opens-past u zero e h = absurd (omega arith)
          opens-past u (suc q) e h = (sign-ends s next 91 q (opens-sign u s next q e)).0

          window-ends : (at < w.next) × (w.next ≤ length s)
          window-ends =
              omega (
                arith,
                ends_as s at (Lexer.Token.sign b next) found,
                opens-past o.op after (sym open_there.0) open_there.1,
                span-ends s after numbers.from numbers.to w.next numbers.is,
              )

          -- the call behind it
          pub window-next : Ready s at n → (measure single s w.next < measure single s at) × Ready s w.next n
          window-next ready =
              let h = window-ends in
              (omega (arith, h), record { short = ready.short; few = omega (arith, h, ready.few) })

          pub window_half : (out₁ : List ℕ) → Yields s (parsed single s w.next) n out out₁ None → Yields s (parsed single s at) n out out₁ None
          window_half out₁ told =
              yields_as s (parsed single s at) Parsed.fail n out out₁ None
              (over_inner ∙ ap (apply_window (window_of o.op) numbers.from numbers.to) (failed s (parsed single s w.next) n out out₁ told)) refl

          module _ (out₁ : List ℕ) (p : Phrase) (told : Yields s (parsed single s w.next) n out out₁ (Some p)) where
            timed : Got s (parsed single s w.next) n out out₁ p
            timed = got s (parsed single s w.next) n out out₁ p told

            pub window-room : Ready s at n → Room p
            window-room ready =
                let h = window-ends in
                let few : n < w.next = omega (arith, h, ready.few) in
                room-of s single w.next n out out₁ p ready.short few timed

            window-at : (v : Window) (i j : ℕ) (q : Rule) (end : ℕ) → w.from ≡ min 255 i → w.to ≡ min 255 j → p ≡ part_of s q end n →
                applied w.from w.to p ≡ part_of s (Rule.windowed v i j q) end n
            window-at v i j q end e f h =
                rw (h, e, f)
                (ap (λ (m : ℕ). record {
                  next = start s end;
                  nodes = m;
                  top = top q;
                  flaw = flaw q || window_flaw (min 255 i) (min 255 j);
                  height = height q + 1;
                }) (omega arith))

            pub single-window : (out₂ : List ℕ) → WroteAbove out₁ (byte_of (windowed b)) w.from w.to p out₂ →
                Yields s (parsed single s at) n out out₂ (Some (applied w.from w.to p))
            single-window out₂ wrote =
                let g = timed in
                let v = window_of o.op in
                let i = numbers.from in
                let j = numbers.to in
                yields_as s (parsed single s at) (Parsed.part (Rule.windowed v i j g.rule) g.end) n out out₂ (Some (applied w.from w.to p))
                (over_inner ∙ ap (apply_window v i j) g.is) (
                  ap (λ (x : Phrase). Some x) (window-at v i j g.rule g.end numbers.from_cut numbers.to-cut g.part),
                  window-wrote out out₁ out₂ n v i j g.rule g.wrote
                      (rw (← g.tallest, ← g.count, ← numbers.from_cut, ← numbers.to-cut, ← windowed_as b s next after o.op o.is after-is) wrote),
                )
