-- The parser: one function over the levels of the grammar, at a position of a text, and its laws. `parse` counts its calls; the laws of
-- `parsed` do not.
use Rattle.rules.specs.Reading.Parser.{Parsed, Spanned, Start, apply, apply_window, begin, close, close_at, end_span, first_number, go_on, join, lead, measure, opens, operate, over_span, pair, parse, parsed, past_comma, rank, second_number, span_at, start_of, window_of}
use Rattle.std.specs.Prelude.{◌≡◌, length}
use Rattle.std.proofs.Math.Path.{refl, ap}
use Rattle.std.proofs.Common.{sym, ◌∙◌, subst, arith}
use mathlib.Core.List.{List}
use Prim.Native.Nat.{ℕ, zero, suc, ◌+◌, ◌-◌, ◌≤◌, ◌<◌}
use Rattle.rules.proofs.RuleSize.{size-positive}
use Rattle.rules.specs.Rule.{Unary, Binary, Window, Rule, size}
use Rattle.rules.specs.Rule.Unary.{not, eventually, always}
use Rattle.rules.specs.Rule.Binary.{and, or, implies, until}
use Rattle.rules.specs.Grammar.{Level, tighter, sign}
use Rattle.rules.specs.Grammar.Level.{of, single}
use Rattle.rules.specs.Reading.Lexer.{Token, token_at, sign_at, number_at, Ends}
use Rattle.rules.proofs.Reading.Lexer.{token_ends, sign-ends, number-ends}

pub rank-tighter : (o : Binary) → rank (tighter o) < rank (of o)
rank-tighter implies = omega arith
rank-tighter or = omega arith
rank-tighter and = omega arith
rank-tighter until = omega arith

rank-bounds : (l : Level) → (1 ≤ rank l) × (rank l ≤ 5)
rank-bounds single = omega arith
rank-bounds (of implies) = omega arith
rank-bounds (of or) = omega arith
rank-bounds (of and) = omega arith
rank-bounds (of until) = omega arith

-- ---- what a window is

-- the positions of its parts, from that past its opening bracket
pub record IsSpan (s : List ℕ) (at a b next : ℕ) : Type 0 where
  pub first-end : ℕ
  pub first-is : number_at s at ≡ Token.atom a first-end
  pub comma : ℕ
  pub comma-is : sign_at s first-end 44 ≡ suc comma
  pub second-end : ℕ
  pub second_is : number_at s (suc comma) ≡ Token.atom b second-end
  pub close : ℕ
  pub close-is : sign_at s second-end 93 ≡ suc close
  pub past : next ≡ suc close

module _ (s : List ℕ) (at a b next : ℕ) where
  abbrev Clash : Spanned → Type 0
  Clash x = x ≡ Spanned.span a b next

  no_span : Clash Spanned.fail → IsSpan s at a b next
  no_span h = let z : ◌≡◌ {A = ℕ} 0 1 = cc in absurd (omega arith)

  end-span : (i c q j : ℕ) (x y : ℕ) → number_at s at ≡ Token.atom i c → sign_at s c 44 ≡ suc q → number_at s (suc q) ≡ Token.atom j x → sign_at s x 93 ≡ y →
      Clash (end_span i j y) → IsSpan s at a b next
  end-span i c q j x zero e f g k h = no_span h
  end-span i c q j x (suc r) e f g k h =
      let u : i ≡ a = cc in
      let v : j ≡ b = cc in
      let w : suc r ≡ next = cc in
      record {
        first-end = c;
        first-is = e ∙ ap (λ (n : ℕ). Token.atom n c) u;
        comma = q;
        comma-is = f;
        second-end = x;
        second_is = g ∙ ap (λ (n : ℕ). Token.atom n x) v;
        close = r;
        close-is = k;
        past = sym w;
      }

  second-span : (i c q : ℕ) (t : Token) → number_at s at ≡ Token.atom i c → sign_at s c 44 ≡ suc q → number_at s (suc q) ≡ t → Clash (second_number s i t) →
      IsSpan s at a b next
  second-span i c q Token.none e f g h = no_span h
  second-span i c q (Token.sign d x) e f g h = no_span h
  second-span i c q (Token.atom j x) e f g h = end-span i c q j x (sign_at s x 93) e f g refl h

  comma-span : (i c x : ℕ) → number_at s at ≡ Token.atom i c → sign_at s c 44 ≡ x → Clash (past_comma s i x) → IsSpan s at a b next
  comma-span i c zero e f h = no_span h
  comma-span i c (suc q) e f h = second-span i c q (number_at s (suc q)) e f refl h

  first-span : (t : Token) → number_at s at ≡ t → Clash (first_number s t) → IsSpan s at a b next
  first-span Token.none e h = no_span h
  first-span (Token.sign d x) e h = no_span h
  first-span (Token.atom i c) e h = comma-span i c (sign_at s c 44) e refl h

  pub span-is : span_at s at ≡ Spanned.span a b next → IsSpan s at a b next
  unfolding span_at
  span-is h = first-span (number_at s at) refl h

  pub is-span : IsSpan s at a b next → span_at s at ≡ Spanned.span a b next
  unfolding span_at
  is-span h =
      ap (first_number s) h.first-is ∙ ap (past_comma s a) h.comma-is ∙ ap (second_number s a) h.second_is ∙ ap (end_span a b) h.close-is
      ∙ ap (Spanned.span a b) (sym h.past)

  pub span-ends : span_at s at ≡ Spanned.span a b next → (at < next) × (next ≤ length s)
  span-ends h =
      let g = span-is h in
      omega (
        arith,
        g.past,
        number-ends s at a g.first-end g.first-is,
        sign-ends s g.first-end 44 g.comma g.comma-is,
        number-ends s (suc g.comma) b g.second-end g.second_is,
        sign-ends s g.second-end 93 g.close g.close-is,
      )

-- a window opens behind the letter that is its operator's
pub opens-sign : (u : Unary) (s : List ℕ) (next q : ℕ) → opens u s next ≡ suc q → sign_at s next 91 ≡ suc q
opens-sign not s next q e = absurd (omega arith)
opens-sign eventually s next q e = e
opens-sign always s next q e = e

-- ---- where a phrase ends: it has a byte for each node at least

pub record Within (s : List ℕ) (at : ℕ) (p : Rule) (next : ℕ) : Type 0 where
  pub low : at + size p ≤ next
  pub high : next ≤ length s

abbrev Bounded : List ℕ → ℕ → Parsed → Type 0
Bounded s at Parsed.fail = Unit {0}
Bounded s at (Parsed.part p next) = Within s at p next

module _ (s : List ℕ) (at : ℕ) where
  join-within : (o : Binary) (p : Rule) (next q : ℕ) (x : Parsed) → Within s at p next → next < q → Bounded s q x → Bounded s at (join o p x)
  join-within o p next q Parsed.fail h b k = tt
  join-within o p next q (Parsed.part r end) h b k = record { low = omega arith; high = k.high }

  go_on-within : (o : Binary) (p : Rule) (next x : ℕ) (g : ℕ → Parsed) → Within s at p next → sign_at s next (sign o) ≡ x → ((q : ℕ) → Bounded s q (g q)) →
      Bounded s at (go_on o p next x g)
  go_on-within o p next zero g h e k = h
  go_on-within o p next (suc q) g h e k = join-within o p next (suc q) (g (suc q)) h (sign-ends s next (sign o) q e).0 (k (suc q))

  pair-within : (o : Binary) (x : Parsed) (g : ℕ → Parsed) → Bounded s at x → ((q : ℕ) → Bounded s q (g q)) → Bounded s at (pair o s x g)
  pair-within o Parsed.fail g h k = tt
  pair-within o (Parsed.part p next) g h k = go_on-within o p next (sign_at s next (sign o)) g h refl k

  close_at-within : (next : ℕ) (p : Rule) (end x : ℕ) → at < next → Within s next p end → sign_at s end 41 ≡ x → Bounded s at (close_at p x)
  close_at-within next p end zero b h e = tt
  close_at-within next p end (suc q) b h e =
      let k = sign-ends s end 41 q e in
      record { low = omega arith; high = k.1 }

  close-within : (next : ℕ) (x : Parsed) → at < next → Bounded s next x → Bounded s at (close s x)
  close-within next Parsed.fail b h = tt
  close-within next (Parsed.part p end) b h = close_at-within next p end (sign_at s end 41) b h refl

  apply-within : (u : Unary) (next : ℕ) (x : Parsed) → at < next → Bounded s next x → Bounded s at (apply u x)
  apply-within u next Parsed.fail b h = tt
  apply-within u next (Parsed.part p end) b h = record { low = omega arith; high = h.high }

  window-within : (w : Window) (a b next : ℕ) (x : Parsed) → at < next → Bounded s next x → Bounded s at (apply_window w a b x)
  window-within w a b next Parsed.fail l h = tt
  window-within w a b next (Parsed.part p end) l h = record { low = omega arith; high = h.high }

  span-within : (w : Window) (q : ℕ) (x : Spanned) (f : ℕ → Parsed) → at < q → span_at s q ≡ x → ((q : ℕ) → Bounded s q (f q)) → Bounded s at (over_span w x f)
  span-within w q Spanned.fail f l e h = tt
  span-within w q (Spanned.span a b end) f l e h = window-within w a b end (f end) (omega (arith, span-ends s q a b end e)) (h end)

  operate-within : (u : Unary) (next x : ℕ) (f : ℕ → Parsed) → at < next → opens u s next ≡ x → ((q : ℕ) → Bounded s q (f q)) →
      Bounded s at (operate u s next x f)
  operate-within u next zero f l e h = apply-within u next (f next) l (h next)
  operate-within u next (suc q) f l e h =
      span-within (window_of u) (suc q) (span_at s (suc q)) f (omega (arith, sign-ends s next 91 q (opens-sign u s next q e))) refl h

  begin-within : (next : ℕ) (x : Start) (f g : ℕ → Parsed) → at < next → ((q : ℕ) → Bounded s q (f q)) → ((q : ℕ) → Bounded s q (g q)) →
      Bounded s at (begin s next x f g)
  begin-within next Start.bracket f g b h k = close-within next (g next) b (k next)
  begin-within next (Start.operator u) f g b h k = operate-within u next (opens u s next) f b refl h
  begin-within next Start.nothing f g b h k = tt

  lead-within : (t : Token) (f g : ℕ → Parsed) → Ends s at t → ((q : ℕ) → Bounded s q (f q)) → ((q : ℕ) → Bounded s q (g q)) → Bounded s at (lead s t f g)
  lead-within Token.none f g b h k = tt
  lead-within (Token.atom a next) f g b h k = record { low = omega arith; high = b.1 }
  lead-within (Token.sign c next) f g b h k = begin-within next (start_of c) f g b.0 h k

parse-within : (k : ℕ) (l : Level) (s : List ℕ) (at : ℕ) → Bounded s at (parse k l s at)
unfolding parse
parse-within zero l s at = tt
parse-within (suc k) single s at = lead-within s at (token_at s at) _ _ (token_ends s at) (parse-within k single s) (parse-within k (of implies) s)
parse-within (suc k) (of o) s at = pair-within s at o (parse k (tighter o) s at) _ (parse-within k (tighter o) s at) (parse-within k (of o) s)

pub parsed-within : (l : Level) (s : List ℕ) (at : ℕ) (p : Rule) (next : ℕ) → parsed l s at ≡ Parsed.part p next → Within s at p next
unfolding parsed
parsed-within l s at p next e = subst (Bounded s at) e (parse-within (measure l s at) l s at)

-- ---- more calls than the measure change nothing

-- two functions that agree past a position
abbrev Same : List ℕ → ℕ → (ℕ → Parsed) → (ℕ → Parsed) → Type 0
Same s at f g = (q : ℕ) → at < q → q ≤ length s → f q ≡ g q

module _ (s : List ℕ) (at : ℕ) where
  go_on-same : (o : Binary) (p : Rule) (next x : ℕ) (f g : ℕ → Parsed) → Within s at p next → sign_at s next (sign o) ≡ x → Same s at f g →
      go_on o p next x f ≡ go_on o p next x g
  go_on-same o p next zero f g h e k = refl
  go_on-same o p next (suc q) f g h e k =
      let b = sign-ends s next (sign o) q e in
      ap (join o p) (k (suc q) (omega (arith, size-positive p)) b.1)

  pair_same : (o : Binary) (x : Parsed) (f g : ℕ → Parsed) → Bounded s at x → Same s at f g → pair o s x f ≡ pair o s x g
  pair_same o Parsed.fail f g h k = refl
  pair_same o (Parsed.part p next) f g h k = go_on-same o p next (sign_at s next (sign o)) f g h refl k

  span_same : (w : Window) (q : ℕ) (x : Spanned) (f g : ℕ → Parsed) → at < q → span_at s q ≡ x → Same s at f g → over_span w x f ≡ over_span w x g
  span_same w q Spanned.fail f g l e h = refl
  span_same w q (Spanned.span a b end) f g l e h =
      let k = span-ends s q a b end e in
      ap (apply_window w a b) (h end (omega arith) k.1)

  operate-same : (u : Unary) (next x : ℕ) (f g : ℕ → Parsed) → (at < next) × (next ≤ length s) → opens u s next ≡ x → Same s at f g →
      operate u s next x f ≡ operate u s next x g
  operate-same u next zero f g b e h = ap (apply u) (h next b.0 b.1)
  operate-same u next (suc q) f g b e h =
      span_same (window_of u) (suc q) (span_at s (suc q)) f g (omega (arith, sign-ends s next 91 q (opens-sign u s next q e))) refl h

  begin-same : (next : ℕ) (x : Start) (f f' g g' : ℕ → Parsed) → (at < next) × (next ≤ length s) → Same s at f f' → Same s at g g' →
      begin s next x f g ≡ begin s next x f' g'
  begin-same next Start.bracket f f' g g' b h k = ap (close s) (k next b.0 b.1)
  begin-same next (Start.operator u) f f' g g' b h k = operate-same u next (opens u s next) f f' b refl h
  begin-same next Start.nothing f f' g g' b h k = refl

  lead-same : (t : Token) (f f' g g' : ℕ → Parsed) → Ends s at t → Same s at f f' → Same s at g g' → lead s t f g ≡ lead s t f' g'
  lead-same Token.none f f' g g' b h k = refl
  lead-same (Token.atom a next) f f' g g' b h k = refl
  lead-same (Token.sign c next) f f' g g' b h k = begin-same next (start_of c) f f' g g' b h k

stable : (k m : ℕ) (l : Level) (s : List ℕ) (at : ℕ) → measure l s at ≤ k → measure l s at ≤ m → parse k l s at ≡ parse m l s at
unfolding parse
stable zero m l s at h i = absurd (omega (arith, rank-bounds l))
stable (suc k) zero l s at h i = absurd (omega (arith, rank-bounds l))
stable (suc k) (suc m) single s at h i =
    lead-same s at (token_at s at) _ _ _ _ (token_ends s at)
    (λ q lo hi. stable k m single s q (omega arith) (omega arith))
    (λ q lo hi. stable k m (of implies) s q (omega arith) (omega arith))
stable (suc k) (suc m) (of o) s at h i =
    ap (λ (x : Parsed). pair o s x (λ q. parse k (of o) s q)) (stable k m (tighter o) s at (omega (arith, rank-tighter o)) (omega (arith, rank-tighter o)))
    ∙ pair_same s at o (parse m (tighter o) s at) _ _ (parse-within m (tighter o) s at) (λ q lo hi. stable k m (of o) s q (omega arith) (omega arith))

-- ---- the laws, without a count of calls

single_unfold : (s : List ℕ) (at k : ℕ) → measure single s at ≡ suc k →
    parse (suc k) single s at ≡ lead s (token_at s at) (parsed single s) (parsed (of implies) s)
unfolding parse parsed
single_unfold s at k e =
    lead-same s at (token_at s at) _ _ _ _ (token_ends s at)
    (λ q lo hi. stable k (measure single s q) single s q (omega arith) (omega arith))
    (λ q lo hi. stable k (measure (of implies) s q) (of implies) s q (omega arith) (omega arith))

pair_unfold : (o : Binary) (s : List ℕ) (at k : ℕ) → measure (of o) s at ≡ suc k →
    parse (suc k) (of o) s at ≡ pair o s (parsed (tighter o) s at) (parsed (of o) s)
unfolding parse parsed
pair_unfold o s at k e =
    let m = measure (tighter o) s at in
    ap (λ (x : Parsed). pair o s x (λ q. parse k (of o) s q)) (stable k m (tighter o) s at (omega (arith, rank-tighter o)) (omega arith))
    ∙ pair_same s at o (parse m (tighter o) s at) _ _ (parse-within m (tighter o) s at)
    (λ q lo hi. stable k (measure (of o) s q) (of o) s q (omega arith) (omega arith))

one_call : (l : Level) (s : List ℕ) (at : ℕ) → measure l s at ≡ suc (measure l s at - 1)
one_call l s at = omega (arith, rank-bounds l)

pub single_law : (s : List ℕ) (at : ℕ) → parsed single s at ≡ lead s (token_at s at) (parsed single s) (parsed (of implies) s)
unfolding parsed
single_law s at =
    ap (λ (k : ℕ). parse k single s at) (one_call single s at)
    ∙ single_unfold s at (measure single s at - 1) (one_call single s at)

pub pair_law : (o : Binary) (s : List ℕ) (at : ℕ) → parsed (of o) s at ≡ pair o s (parsed (tighter o) s at) (parsed (of o) s)
unfolding parsed
pair_law o s at =
    ap (λ (k : ℕ). parse k (of o) s at) (one_call (of o) s at)
    ∙ pair_unfold o s at (measure (of o) s at - 1) (one_call (of o) s at)
