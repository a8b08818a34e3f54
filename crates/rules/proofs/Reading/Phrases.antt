-- Phrases of the grammar are derivations at positions of a text, and derivations are phrases.
use Rattle.std.specs.Prelude.{◌≡◌, refl, Bool, true, false, cond, List, [], ◌∷◌, ◌++◌, ℕ, zero, suc, ◌+◌, ◌≤◌, ◌<◌, length, get_or, drop, take, replicate, eqb}
use Rattle.std.proofs.Common.{sym, ap, ◌∙◌, subst, append_assoc, append-nil, arith, add-zero, add-one, length-drop, length-append, take-append-drop, drop-cons, drop-drop, get_or-drop, get_or-take, length-take-le, eqb-true, ne_eqb}
use Rattle.std.proofs.Math.Option.{Option, none, some}
use Rattle.std.proofs.Math.ListN.{get_or-append}
use Rattle.std.proofs.Math.Seq.{drop-append_seam}
use Rattle.rules.specs.Rule.{Unary, Binary, Window, Rule}
use Rattle.rules.specs.Rule.Unary.{not, eventually, always}
use Rattle.rules.specs.Rule.Binary.{and, or, implies, until}
use Rattle.rules.specs.Rule.Window.{within, throughout}
use Rattle.rules.specs.Grammar.{Level, Numeral, Number, Span, Phrase, sign, prefix, letter}
use Rattle.rules.specs.Grammar.Level.{of, single}
use Rattle.rules.specs.Reading.Lexer.{Token, spaces, digits, value, is_digit, start, token_from, token_at, sign_at, number_at, atom_at}
use Rattle.rules.proofs.Reading.Lexer.{digit-true}
use Rattle.rules.specs.Reading.Lexer.{Numeric, past_sign}
use Rattle.rules.proofs.Reading.Lexer.{IsAtom, number_is, number-at, token_sign, token_atom, token_past, sign_token, sign-is}
use Rattle.rules.proofs.Reading.Lexer.{atom-is, digits_le}
use Rattle.rules.proofs.Reading.Numerals.{digits_append, value_none, front, numeral-run, run-numeral}
use Rattle.rules.specs.Reading.Parser.{Start, start_of, starting, unary_of, Spanned, span_at, opens, window_of}
use Rattle.rules.proofs.Reading.Parser.{opens-sign, span-is, is-span}
use Rattle.rules.proofs.Reading.Derivation.{Derives}

-- ---- positions

drop_past : (s : List ℕ) (at : ℕ) (x z : List ℕ) → drop at s ≡ x ++ z → drop (at + length x) s ≡ z
drop_past s at x z e = sym (drop-drop (length x) at s) ∙ ap (drop (length x)) e ∙ drop-append_seam x z

drop-next : (s : List ℕ) (at c : ℕ) (z : List ℕ) → drop at s ≡ c ∷ z → drop (suc at) s ≡ z
drop-next s at c z e = ap (λ (k : ℕ). drop k s) (sym (add-one at)) ∙ sym (drop-drop 1 at s) ∙ ap (drop 1) e

at-inside : (s : List ℕ) (at c : ℕ) (z : List ℕ) → drop at s ≡ c ∷ z → at < length s
at-inside s at c z e = omega (arith, length-drop at s, ap length e)

at_first : (s : List ℕ) (at : ℕ) (l : List ℕ) → drop at s ≡ l → get_or s at 0 ≡ get_or l 0 0
at_first s at l e = ap (λ (k : ℕ). get_or s k 0) (sym (add-zero at)) ∙ sym (get_or-drop at s 0 0) ∙ ap (λ (x : List ℕ). get_or x 0 0) e

no_space : (c : ℕ) (z : List ℕ) → (c ≡ 32 → ⊥) → spaces (c ∷ z) ≡ 0
unfolding spaces
no_space c z ne = rw (ne_eqb c 32 ne) refl

start-here : (s : List ℕ) (at c : ℕ) (z : List ℕ) → drop at s ≡ c ∷ z → (c ≡ 32 → ⊥) → at ≡ start s at
start-here s at c z e ne = omega (arith, ap spaces e, no_space c z ne)

one-space : (z : List ℕ) → spaces (32 ∷ z) ≡ suc (spaces z)
unfolding spaces
one-space z = refl

start-later : (s : List ℕ) (at : ℕ) (z : List ℕ) → drop at s ≡ 32 ∷ z → start s at ≡ start s (suc at)
start-later s at z e = omega (arith, ap spaces e, one-space z, ap spaces (drop-next s at 32 z e))

token_start : (s : List ℕ) (p q : ℕ) → start s p ≡ start s q → token_at s p ≡ token_at s q
unfolding token_at
token_start s p q e = ap (token_from s) e

-- a byte that is neither a space nor the letter a is a sign
sign-here : (s : List ℕ) (at c : ℕ) (z : List ℕ) → drop at s ≡ c ∷ z → (c ≡ 32 → ⊥) → (c ≡ 97 → ⊥) → token_at s at ≡ Token.sign c (suc at)
sign-here s at c z e ns na =
    let i = at_first s at (c ∷ z) e in
    token_sign s at at (start-here s at c z e ns) (at-inside s at c z e) (λ f. na (sym i ∙ f))
    ∙ ap (λ (x : ℕ). Token.sign x (at + 1)) i ∙ ap (Token.sign c) (add-one at)

sign-from : (s : List ℕ) (p at c : ℕ) (z : List ℕ) → drop at s ≡ c ∷ z → (c ≡ 32 → ⊥) → (c ≡ 97 → ⊥) → start s p ≡ start s at → sign_at s p c ≡ suc at
sign-from s p at c z e ns na f = token_past s p c (suc at) (token_start s p at f ∙ sign-here s at c z e ns na)

first_no_space : (c n : ℕ) (ds : List ℕ) (b : Bool) → is_digit c ≡ b → cond b (suc n) 0 ≡ suc (length ds) → c ≡ 32 → ⊥
first_no_space c n ds true e h f = let k = digit-true c e in omega arith
first_no_space c n ds false e h f = omega arith

-- a numeral begins with no space
numeral_no_space : (ds rest : List ℕ) → digits ds ≡ length ds → 1 ≤ length ds → spaces (ds ++ rest) ≡ 0
unfolding digits
numeral_no_space [] rest h l = absurd (omega arith)
numeral_no_space (c ∷ ds) rest h l = no_space c (ds ++ rest) (first_no_space c (digits ds) ds (is_digit c) refl h)

-- the letter a and a numeral, with no digit behind, are an atom
atom-here : (s : List ℕ) (at : ℕ) (ds rest : List ℕ) (a : ℕ) → drop at s ≡ 97 ∷ (ds ++ rest) → digits rest ≡ 0 → Numeral ds a →
    token_at s at ≡ Token.atom a (at + 1 + length ds)
atom-here s at ds rest a e z n =
    let r = numeral-run n in
    let f : drop (at + 1) s ≡ ds ++ rest = ap (λ (k : ℕ). drop k s) (add-one at) ∙ drop-next s at 97 (ds ++ rest) e in
    let k = digits_append ds rest 0 r.all in
    let len : digits (drop (at + 1) s) ≡ length ds = ap digits f ∙ k.0 ∙ omega arith in
    let val : value 0 (drop (at + 1) s) ≡ a = ap (value 0) f ∙ k.1 ∙ value_none rest (value 0 ds) z ∙ sym r.number in
    let first : get_or s (at + 1) 0 ≡ get_or ds 0 0 = at_first s (at + 1) (ds ++ rest) f ∙ get_or-append ds rest 0 0 r.numeric.one_up in
    let numeric : Numeric (digits (drop (at + 1) s)) (get_or s (at + 1) 0) =
    record { one_up = omega (arith, r.numeric.one_up); no_zero = λ l g. r.numeric.no_zero (omega arith) (sym first ∙ g) } in
    token_atom s at at (start-here s at 97 (ds ++ rest) e (omega arith)) (at-inside s at 97 (ds ++ rest) e) (at_first s at (97 ∷ (ds ++ rest)) e) numeric
    ∙ ap (λ (x : ℕ). Token.atom x (at + 1 + digits (drop (at + 1) s))) val ∙ ap (λ (x : ℕ). Token.atom a (at + 1 + x)) len

-- a numeral, with no digit behind, is a number
numeral-here : (s : List ℕ) (at : ℕ) (ds rest : List ℕ) (a : ℕ) → drop at s ≡ ds ++ rest → digits rest ≡ 0 → Numeral ds a →
    number_at s at ≡ Token.atom a (at + length ds)
numeral-here s at ds rest a e z n =
    let r = numeral-run n in
    let k = digits_append ds rest 0 r.all in
    let len : digits (drop at s) ≡ length ds = ap digits e ∙ k.0 ∙ omega arith in
    let val : value 0 (drop at s) ≡ a = ap (value 0) e ∙ k.1 ∙ value_none rest (value 0 ds) z ∙ sym r.number in
    let first : get_or s at 0 ≡ get_or ds 0 0 = at_first s at (ds ++ rest) e ∙ get_or-append ds rest 0 0 r.numeric.one_up in
    let numeric : Numeric (digits (drop at s)) (get_or s at 0) =
    record { one_up = omega (arith, r.numeric.one_up); no_zero = λ l g. r.numeric.no_zero (omega arith) (sym first ∙ g) } in
    let here : at ≡ start s at = omega (arith, ap spaces e, numeral_no_space ds rest r.all r.numeric.one_up) in
    number-at s at at here numeric ∙ ap (λ (x : ℕ). Token.atom x (at + digits (drop at s))) val ∙ ap (λ (x : ℕ). Token.atom a (at + x)) len

-- ---- a phrase is a derivation

-- what the sign of an operator is not
operator-sign : (o : Binary) (z : List ℕ) → (sign o ≡ 32 → ⊥) × (sign o ≡ 97 → ⊥) × (digits (sign o ∷ z) ≡ 0)
unfolding digits
operator-sign implies z = (omega arith, omega arith, refl)
operator-sign or z = (omega arith, omega arith, refl)
operator-sign and z = (omega arith, omega arith, refl)
operator-sign until z = (omega arith, omega arith, refl)

prefix-sign : (u : Unary) → (prefix u ≡ 32 → ⊥) × (prefix u ≡ 97 → ⊥) × (start_of (prefix u) ≡ Start.operator u)
prefix-sign not = (omega arith, omega arith, refl)
prefix-sign eventually = (omega arith, omega arith, refl)
prefix-sign always = (omega arith, omega arith, refl)

no_digit : (z : List ℕ) → (digits (41 ∷ z) ≡ 0) × (digits (32 ∷ z) ≡ 0)
unfolding digits
no_digit z = (refl, refl)

no_figure : (z : List ℕ) → (digits (44 ∷ z) ≡ 0) × (digits (93 ∷ z) ≡ 0)
unfolding digits
no_figure z = (refl, refl)

number-start : (s : List ℕ) (p q : ℕ) → start s p ≡ start s q → number_at s p ≡ number_at s q
unfolding number_at
number-start s p q e = ap (atom_at s) e

-- a derivation starts at the token, from any space before it
shift : {s : List ℕ} {l : Level} {at next : ℕ} {p : Rule} → Derives s l at next p → (q : ℕ) → token_at s q ≡ token_at s at → Derives s l q next p
shift (Derives.alone d) q e = Derives.alone (shift d q e)
shift (Derives.joined d f g) q e = Derives.joined (shift d q e) f g
shift (Derives.number f) q e = Derives.number (e ∙ f)
shift (Derives.prefixed f g o d) q e = Derives.prefixed (e ∙ f) g o d
shift (Derives.timed f g o k d) q e = Derives.timed (e ∙ f) g o k d
shift (Derives.bracket f g d h) q e = Derives.bracket (e ∙ f) g d h

-- a derivation from `at` on whose end has only spaces before `past`
pub record Placed (s : List ℕ) (l : Level) (at past : ℕ) (p : Rule) : Type 0 where
  pub next : ℕ
  pub derives : Derives s l at next p
  pub ends : start s next ≡ start s past

-- a number, and the spaces about it
number-placed : {x : List ℕ} {n : ℕ} → Number x n → (s : List ℕ) (at : ℕ) (rest : List ℕ) → drop at s ≡ x ++ rest → digits rest ≡ 0 →
    (next : ℕ) × (number_at s at ≡ Token.atom n next) × (start s next ≡ start s (at + length x))
number-placed (Number.numeral {ds} {n} m) s at rest e z = (at + length ds, numeral-here s at ds rest n e z m, refl)
number-placed (Number.space-before {s = w} {n} d) s at rest e z =
    let g = number-placed d s (suc at) rest (drop-next s at 32 (w ++ rest) e) z in
    (g.0, number-start s at (suc at) (start-later s at (w ++ rest) e) ∙ g.1, g.2 ∙ ap (start s) (omega arith))
number-placed (Number.space-after {s = w} {n} d) s at rest e z =
    let e₁ : drop at s ≡ w ++ (32 ∷ rest) = e ∙ append_assoc w (32 ∷ []) rest in
    let g = number-placed d s at (32 ∷ rest) e₁ (no_digit rest).1 in
    let e₂ = drop_past s at w (32 ∷ rest) e₁ in
    (g.0, g.1, g.2 ∙ start-later s (at + length w) rest e₂ ∙ ap (start s) (omega (arith, length-append w (32 ∷ []))))

-- a window
span-placed : {x : List ℕ} {a b : ℕ} → Span x a b → (s : List ℕ) (at : ℕ) (rest : List ℕ) → drop at s ≡ x ++ rest →
    (q : ℕ) × (sign_at s at 91 ≡ suc q) × (span_at s (suc q) ≡ Spanned.span a b (at + length x))
span-placed (Span.span {s = x} {t = y} {a} {b} m n) s at rest e =
    let e₀ : drop at s ≡ 91 ∷ (x ++ (44 ∷ (y ++ (93 ∷ rest)))) = e ∙ ap (λ (l : List ℕ). 91 ∷ l) (simp append_assoc) in
    let e₁ = drop-next s at 91 (x ++ (44 ∷ (y ++ (93 ∷ rest)))) e₀ in
    let g = number-placed m s (suc at) (44 ∷ (y ++ (93 ∷ rest))) e₁ (no_figure (y ++ (93 ∷ rest))).0 in
    let e₂ = drop_past s (suc at) x (44 ∷ (y ++ (93 ∷ rest))) e₁ in
    let c = suc at + length x in
    let e₃ = drop-next s c 44 (y ++ (93 ∷ rest)) e₂ in
    let h = number-placed n s (suc c) (93 ∷ rest) e₃ (no_figure rest).1 in
    let e₄ = drop_past s (suc c) y (93 ∷ rest) e₃ in (
      at,
      sign-from s at at 91 (x ++ (44 ∷ (y ++ (93 ∷ rest)))) e₀ (omega arith) (omega arith) refl,
      is-span s (suc at) a b (at + length (91 ∷ (x ++ (44 ∷ (y ++ (93 ∷ []))))))
          (record {
            first-end = g.0;
            first-is = g.1;
            comma = c;
            comma-is = sign-from s g.0 c 44 (y ++ (93 ∷ rest)) e₂ (omega arith) (omega arith) g.2;
            second-end = h.0;
            second_is = h.1;
            close = suc c + length y;
            close-is = sign-from s h.0 (suc c + length y) 93 rest e₄ (omega arith) (omega arith) h.2;
            past = omega (arith, length-append x (44 ∷ (y ++ (93 ∷ []))), length-append y (93 ∷ []));
          }),
    )
span-placed (Span.space-before {s = w} {a} {b} d) s at rest e =
    let g = span-placed d s (suc at) rest (drop-next s at 32 (w ++ rest) e) in (
      g.0,
      token_past s at 91 (suc g.0) (token_start s at (suc at) (start-later s at (w ++ rest) e) ∙ sign_token s (suc at) 91 g.0 g.1),
      g.2 ∙ ap (Spanned.span a b) (omega arith),
    )

-- a Single begins with no opening bracket of a window
sign_begins : (b next : ℕ) (c : Bool) → eqb b 91 ≡ c → (start_of b ≡ Start.nothing → ⊥) → cond c next 0 ≡ 0
sign_begins b next true e f = absurd (f (ap start_of (eqb-true b 91 e)))
sign_begins b next false e f = refl

not_open : (s : List ℕ) (at b next : ℕ) → token_at s at ≡ Token.sign b next → (start_of b ≡ Start.nothing → ⊥) → sign_at s at 91 ≡ 0
unfolding sign_at
not_open s at b next e f = ap (past_sign 91) e ∙ sign_begins b next (eqb b 91) refl f

some-start : {x : Start} (b : ℕ) → start_of b ≡ x → (x ≡ Start.nothing → ⊥) → start_of b ≡ Start.nothing → ⊥
some-start b e f h = f (sym e ∙ h)

single_open : {s : List ℕ} {at next : ℕ} {p : Rule} → Derives s single at next p → sign_at s at 91 ≡ 0
unfolding sign_at
single_open {s} {at} (Derives.number {a} e) = ap (past_sign 91) e
single_open {s} {at} (Derives.prefixed {b} {next = q} {u} e f o d) = not_open s at b q e (some-start b f (λ h. let z : ◌≡◌ {A = ℕ} 0 1 = cc in omega arith))
single_open {s} {at} (Derives.timed {b} {next = q} {u} e f o k d) = not_open s at b q e (some-start b f (λ h. let z : ◌≡◌ {A = ℕ} 0 1 = cc in omega arith))
single_open {s} {at} (Derives.bracket {b} {next = q} e f d g) = not_open s at b q e (some-start b f (λ h. let z : ◌≡◌ {A = ℕ} 0 1 = cc in omega arith))

no-window : (u : Unary) (s : List ℕ) (at : ℕ) → sign_at s at 91 ≡ 0 → opens u s at ≡ 0
no-window not s at e = refl
no-window eventually s at e = e
no-window always s at e = e

-- the operator of a window's letter
abbrev plain : Window → Unary
plain within = eventually
plain throughout = always

letter-sign : (w : Window) → (letter w ≡ 32 → ⊥) × (letter w ≡ 97 → ⊥) × (start_of (letter w) ≡ Start.operator (plain w))
letter-sign within = (omega arith, omega arith, refl)
letter-sign throughout = (omega arith, omega arith, refl)

plain-opens : (w : Window) (s : List ℕ) (at q : ℕ) → sign_at s at 91 ≡ suc q → opens (plain w) s at ≡ suc q
plain-opens within s at q e = e
plain-opens throughout s at q e = e

window-plain : (w : Window) → window_of (plain w) ≡ w
window-plain within = refl
window-plain throughout = refl

pub placed : {l : Level} {w : List ℕ} {p : Rule} → Phrase l w p → (s : List ℕ) (at : ℕ) (rest : List ℕ) → drop at s ≡ w ++ rest → digits rest ≡ 0 →
    Placed s l at (at + length w) p
placed (Phrase.alone d) s at rest e z =
    let g = placed d s at rest e z in
    record { next = g.next; derives = Derives.alone g.derives; ends = g.ends }
placed (Phrase.joined {o} {s = x} {t = y} {p} {q} d f) s at rest e z =
    let b = operator-sign o (y ++ rest) in
    let e₁ : drop at s ≡ x ++ (sign o ∷ (y ++ rest)) = e ∙ append_assoc x (sign o ∷ y) rest in
    let g = placed d s at (sign o ∷ (y ++ rest)) e₁ b.2 in
    let e₂ = drop_past s at x (sign o ∷ (y ++ rest)) e₁ in
    let h = placed f s (suc (at + length x)) rest (drop-next s (at + length x) (sign o) (y ++ rest) e₂) z in
    record {
      next = h.next;
      derives = Derives.joined g.derives (sign-from s g.next (at + length x) (sign o) (y ++ rest) e₂ b.0 b.1 g.ends) h.derives;
      ends = h.ends ∙ ap (start s) (omega (arith, length-append x (sign o ∷ y)));
    }
placed (Phrase.number {ds} {a} n) s at rest e z =
    record { next = at + 1 + length ds; derives = Derives.number (atom-here s at ds rest a e z n); ends = ap (start s) (omega arith) }
placed (Phrase.prefixed {u} {s = w} {p} d) s at rest e z =
    let k = prefix-sign u in
    let g = placed d s (suc at) rest (drop-next s at (prefix u) (w ++ rest) e) z in
    record {
      next = g.next;
      derives = Derives.prefixed (sign-here s at (prefix u) (w ++ rest) e k.0 k.1) k.2
          (no-window u s (suc at) (single_open g.derives)) g.derives;
      ends = g.ends ∙ ap (start s) (omega arith);
    }
placed (Phrase.timed {w = i} {s = x} {t = y} {a} {b} {p} m d) s at rest e z =
    let k = letter-sign i in
    let e₀ : drop at s ≡ letter i ∷ (x ++ (y ++ rest)) = e ∙ ap (λ (l : List ℕ). letter i ∷ l) (append_assoc x y rest) in
    let e₁ = drop-next s at (letter i) (x ++ (y ++ rest)) e₀ in
    let h = span-placed m s (suc at) (y ++ rest) e₁ in
    let g = placed d s (suc at + length x) rest (drop_past s (suc at) x (y ++ rest) e₁) z in
    record {
      next = g.next;
      derives = subst (λ (v : Window). Derives s single at g.next (Rule.windowed v a b p)) (window-plain i)
          (Derives.timed (sign-here s at (letter i) (x ++ (y ++ rest)) e₀ k.0 k.1) k.2 (plain-opens i s (suc at) h.0 h.1) h.2 g.derives);
      ends = g.ends ∙ ap (start s) (omega (arith, length-append x y));
    }
placed (Phrase.bracket {s = w} {p} d) s at rest e z =
    let e₀ : drop at s ≡ 40 ∷ (w ++ (41 ∷ rest)) = e ∙ ap (λ (l : List ℕ). 40 ∷ l) (append_assoc w (41 ∷ []) rest) in
    let e₁ = drop-next s at 40 (w ++ (41 ∷ rest)) e₀ in
    let g = placed d s (suc at) (41 ∷ rest) e₁ (no_digit rest).0 in
    let e₂ = drop_past s (suc at) w (41 ∷ rest) e₁ in
    record {
      next = suc (suc at + length w);
      derives = Derives.bracket (sign-here s at 40 (w ++ (41 ∷ rest)) e₀ (omega arith) (omega arith)) refl g.derives
          (sign-from s g.next (suc at + length w) 41 rest e₂ (omega arith) (omega arith) g.ends);
      ends = ap (start s) (omega (arith, length-append w (41 ∷ [])));
    }
placed (Phrase.space-before {s = w} {p} d) s at rest e z =
    let g = placed d s (suc at) rest (drop-next s at 32 (w ++ rest) e) z in
    record {
      next = g.next;
      derives = shift g.derives at (token_start s at (suc at) (start-later s at (w ++ rest) e));
      ends = g.ends ∙ ap (start s) (omega arith);
    }
placed (Phrase.space-after {s = w} {p} d) s at rest e z =
    let e₁ : drop at s ≡ w ++ (32 ∷ rest) = e ∙ append_assoc w (32 ∷ []) rest in
    let g = placed d s at (32 ∷ rest) e₁ (no_digit rest).1 in
    let e₂ = drop_past s at w (32 ∷ rest) e₁ in
    record {
      next = g.next;
      derives = g.derives;
      ends = g.ends ∙ start-later s (at + length w) rest e₂ ∙ ap (start s) (omega (arith, length-append w (32 ∷ [])));
    }

-- ---- spaces about a phrase of any level

before : {l : Level} {w : List ℕ} {p : Rule} → Phrase l w p → Phrase l (32 ∷ w) p
before (Phrase.alone d) = Phrase.alone (before d)
before (Phrase.joined d f) = Phrase.joined (before d) f
before (Phrase.number n) = Phrase.space-before (Phrase.number n)
before (Phrase.prefixed d) = Phrase.space-before (Phrase.prefixed d)
before (Phrase.timed m d) = Phrase.space-before (Phrase.timed m d)
before (Phrase.bracket d) = Phrase.space-before (Phrase.bracket d)
before (Phrase.space-before d) = Phrase.space-before (Phrase.space-before d)
before (Phrase.space-after d) = Phrase.space-before (Phrase.space-after d)

after : {l : Level} {w : List ℕ} {p : Rule} → Phrase l w p → Phrase l (w ++ (32 ∷ [])) p
after (Phrase.alone d) = Phrase.alone (after d)
after (Phrase.joined {o} {s = x} {t = y} {p} {q} d f) =
    subst (λ (w : List ℕ). Phrase (of o) w (Rule.binary o p q)) (sym (append_assoc x (sign o ∷ y) (32 ∷ []))) (Phrase.joined d (after f))
after (Phrase.number n) = Phrase.space-after (Phrase.number n)
after (Phrase.prefixed d) = Phrase.space-after (Phrase.prefixed d)
after (Phrase.timed m d) = Phrase.space-after (Phrase.timed m d)
after (Phrase.bracket d) = Phrase.space-after (Phrase.bracket d)
after (Phrase.space-before d) = Phrase.space-after (Phrase.space-before d)
after (Phrase.space-after d) = Phrase.space-after (Phrase.space-after d)

all-before : {l : Level} {w : List ℕ} {p : Rule} (k : ℕ) → Phrase l w p → Phrase l (replicate k 32 ++ w) p
all-before zero d = d
all-before (suc k) d = before (all-before k d)

pub all_after : {l : Level} {w : List ℕ} {p : Rule} (k : ℕ) → Phrase l w p → Phrase l (w ++ replicate k 32) p
all_after {l} {w} {p} zero d = subst (λ (x : List ℕ). Phrase l x p) (sym (append-nil w)) d
all_after {l} {w} {p} (suc k) d = subst (λ (x : List ℕ). Phrase l x p) (append_assoc w (32 ∷ []) (replicate k 32)) (all_after k (after d))

-- ---- a derivation is a phrase

split_step : (c : ℕ) (l : List ℕ) (b : Bool) → eqb c 32 ≡ b → l ≡ replicate (spaces l) 32 ++ drop (spaces l) l →
    c ∷ l ≡ replicate (cond b (suc (spaces l)) 0) 32 ++ drop (cond b (suc (spaces l)) 0) (c ∷ l)
split_step c l true e h = ap (λ (x : ℕ). x ∷ l) (eqb-true c 32 e) ∙ ap (λ (x : List ℕ). 32 ∷ x) h
split_step c l false e h = refl

pub spaces-split : (l : List ℕ) → l ≡ replicate (spaces l) 32 ++ drop (spaces l) l
unfolding spaces
spaces-split [] = refl
spaces-split (c ∷ l) = split_step c l (eqb c 32) refl (spaces-split l)

-- spaces, and the byte behind them
past-spaces : (s : List ℕ) (at c : ℕ) → start s at < length s → get_or s (start s at) 0 ≡ c →
    drop at s ≡ replicate (spaces (drop at s)) 32 ++ (c ∷ drop (start s at + 1) s)
past-spaces s at c h e =
    spaces-split (drop at s)
    ∙ ap (λ (l : List ℕ). replicate (spaces (drop at s)) 32 ++ l)
    (drop-drop (spaces (drop at s)) at s ∙ drop-cons s (start s at) 0 h ∙ ap (λ (x : ℕ). x ∷ drop (suc (start s at)) s) e
    ∙ ap (λ (k : ℕ). c ∷ drop k s) (sym (add-one (start s at))))

sign-split : (s : List ℕ) (at b next : ℕ) → token_at s at ≡ Token.sign b next → drop at s ≡ replicate (spaces (drop at s)) 32 ++ (b ∷ drop next s)
sign-split s at b next e =
    let g = sign-is s at b next e in
    past-spaces s at b g.inside g.byte ∙ ap (λ (k : ℕ). replicate (spaces (drop at s)) 32 ++ (b ∷ drop k s)) (sym g.past)

unary-cases : (b : ℕ) (u : Unary) (x y z : Bool) → eqb b 33 ≡ x → eqb b 70 ≡ y → eqb b 71 ≡ z →
    cond x (some not) (cond y (some eventually) (cond z (some always) none)) ≡ some u → b ≡ prefix u
unary-cases b u true y z e f g h = let w : not ≡ u = cc in eqb-true b 33 e ∙ ap prefix w
unary-cases b u false true z e f g h = let w : eventually ≡ u = cc in eqb-true b 70 f ∙ ap prefix w
unary-cases b u false false true e f g h = let w : always ≡ u = cc in eqb-true b 71 g ∙ ap prefix w
unary-cases b u false false false e f g h = let w : ◌≡◌ {A = ℕ} 0 1 = cc in absurd (omega arith)

start-operator : (b : ℕ) (u : Unary) (c : Bool) (x : Option Unary) → unary_of b ≡ x → cond c Start.bracket (starting x) ≡ Start.operator u → b ≡ prefix u
start-operator b u true x f h = let z : ◌≡◌ {A = ℕ} 0 1 = cc in absurd (omega arith)
start-operator b u false none f h = let z : ◌≡◌ {A = ℕ} 0 1 = cc in absurd (omega arith)
start-operator b u false (some v) f h =
    let w : v ≡ u = cc in
    unary-cases b u (eqb b 33) (eqb b 70) (eqb b 71) refl refl refl (f ∙ ap (λ (y : Unary). some y) w)

start-bracket : (b : ℕ) (c : Bool) (x : Option Unary) → eqb b 40 ≡ c → cond c Start.bracket (starting x) ≡ Start.bracket → b ≡ 40
start-bracket b true x e h = eqb-true b 40 e
start-bracket b false none e h = let z : ◌≡◌ {A = ℕ} 0 1 = cc in absurd (omega arith)
start-bracket b false (some v) e h = let z : ◌≡◌ {A = ℕ} 0 1 = cc in absurd (omega arith)

pub record Worded (s : List ℕ) (l : Level) (at next : ℕ) (p : Rule) : Type 0 where
  pub word : List ℕ
  pub splits : drop at s ≡ word ++ drop next s
  pub phrase : Phrase l word p

front-numeral : (s : List ℕ) (i a next : ℕ) → IsAtom s i a next → Numeral (take (digits (drop (i + 1) s)) (drop (i + 1) s)) a
front-numeral s i a next g =
    let l = drop (i + 1) s in
    let k = front l 0 in
    let m : length (take (digits l) l) ≡ digits l = length-take-le (digits l) l (digits_le l) in
    let n = g.numeric in
    let first : 1 ≤ digits l → get_or (take (digits l) l) 0 0 ≡ get_or s (i + 1) 0 =
    λ h. get_or-take (digits l) l 0 0 h ∙ get_or-drop (i + 1) s 0 0 ∙ ap (λ (j : ℕ). get_or s j 0) (add-zero (i + 1)) in
    run-numeral (record {
      all = k.count ∙ sym m;
      numeric = record { one_up = omega arith; no_zero = λ h e. n.no_zero (omega arith) (sym (first (omega arith)) ∙ e) };
      number = g.number ∙ sym k.number;
    })

-- a number, with the spaces before it
spaced : {ds : List ℕ} {n : ℕ} (k : ℕ) → Numeral ds n → Number (replicate k 32 ++ ds) n
spaced zero m = Number.numeral m
spaced (suc k) m = Number.space-before (spaced k m)

spaced-after : {x : List ℕ} {n : ℕ} (k : ℕ) → Number x n → Number (x ++ replicate k 32) n
spaced-after {x} {n} zero d = subst (λ (y : List ℕ). Number y n) (sym (append-nil x)) d
spaced-after {x} {n} (suc k) d = subst (λ (y : List ℕ). Number y n) (append_assoc x (32 ∷ []) (replicate k 32)) (spaced-after k (Number.space-after d))

number_worded : (s : List ℕ) (at a next : ℕ) → number_at s at ≡ Token.atom a next → (x : List ℕ) × (drop at s ≡ x ++ drop next s) × Number x a
number_worded s at a next e =
    let g = number_is s at a next e in
    let i = start s at in
    let l = drop i s in
    let f = front l 0 in
    let m : length (take (digits l) l) ≡ digits l = length-take-le (digits l) l (digits_le l) in
    let n = g.numeric in
    let first : 1 ≤ digits l → get_or (take (digits l) l) 0 0 ≡ get_or s i 0 =
    λ h. get_or-take (digits l) l 0 0 h ∙ get_or-drop i s 0 0 ∙ ap (λ (j : ℕ). get_or s j 0) (add-zero i) in
    let numeral : Numeral (take (digits l) l) a =
    run-numeral (record {
      all = f.count ∙ sym m;
      numeric = record { one_up = omega arith; no_zero = λ h e. n.no_zero (omega arith) (sym (first (omega arith)) ∙ e) };
      number = g.number ∙ sym f.number;
    }) in
    let k = spaces (drop at s) in (
      replicate k 32 ++ take (digits l) l,
      spaces-split (drop at s)
          ∙ ap (λ (x : List ℕ). replicate k 32 ++ x)
          (drop-drop k at s ∙ sym (take-append-drop (digits l) l)
          ∙ ap (λ (x : List ℕ). take (digits l) l ++ x) (drop-drop (digits l) i s ∙ ap (λ (j : ℕ). drop j s) (sym g.past)))
          ∙ sym (append_assoc (replicate k 32) (take (digits l) l) (drop next s)),
      spaced k numeral,
    )

spaces-span : {x : List ℕ} {a b : ℕ} (k : ℕ) → Span x a b → Span (replicate k 32 ++ x) a b
spaces-span zero d = d
spaces-span (suc k) d = Span.space-before (spaces-span k d)

-- a window, from the letter before it
span-worded : (s : List ℕ) (at q a b next : ℕ) → sign_at s at 91 ≡ suc q → span_at s (suc q) ≡ Spanned.span a b next →
    (x : List ℕ) × (drop at s ≡ x ++ drop next s) × Span x a b
span-worded s at q a b next o e =
    let g = span-is s (suc q) a b next e in
    let m = number_worded s (suc q) a g.first-end g.first-is in
    let n = number_worded s (suc g.comma) b g.second-end g.second_is in
    let k = spaces (drop at s) in
    let i = spaces (drop g.first-end s) in
    let j = spaces (drop g.second-end s) in
    let last : drop g.second-end s ≡ replicate j 32 ++ (93 ∷ drop next s) =
    sign-split s g.second-end 93 (suc g.close) (sign_token s g.second-end 93 g.close g.close-is)
    ∙ ap (λ (x : ℕ). replicate j 32 ++ (93 ∷ drop x s)) (sym g.past) in
    let second : drop g.first-end s ≡ replicate i 32 ++ (44 ∷ (n.0 ++ (replicate j 32 ++ (93 ∷ drop next s)))) =
    sign-split s g.first-end 44 (suc g.comma) (sign_token s g.first-end 44 g.comma g.comma-is)
    ∙ ap (λ (x : List ℕ). replicate i 32 ++ (44 ∷ x)) (n.1 ∙ ap (λ (x : List ℕ). n.0 ++ x) last) in (
      replicate k 32 ++ (91 ∷ ((m.0 ++ replicate i 32) ++ (44 ∷ ((n.0 ++ replicate j 32) ++ (93 ∷ []))))),
      sign-split s at 91 (suc q) (sign_token s at 91 q o)
          ∙ ap (λ (x : List ℕ). replicate k 32 ++ (91 ∷ x)) (m.1 ∙ ap (λ (x : List ℕ). m.0 ++ x) second) ∙ simp append_assoc,
      spaces-span k (Span.span (spaced-after i m.2) (spaced-after j n.2)),
    )

letter-prefix : (u : Unary) (s : List ℕ) (at q : ℕ) → opens u s at ≡ suc q → prefix u ≡ letter (window_of u)
letter-prefix not s at q e = absurd (omega arith)
letter-prefix eventually s at q e = refl
letter-prefix always s at q e = refl

pub worded : {s : List ℕ} {l : Level} {at next : ℕ} {p : Rule} → Derives s l at next p → Worded s l at next p
worded (Derives.alone d) = let g = worded d in record { word = g.word; splits = g.splits; phrase = Phrase.alone g.phrase }
worded {s} (Derives.joined {o} {at} {next} {q} {end} {p} {r} d e f) =
    let g = worded d in
    let h = worded f in
    let k = spaces (drop next s) in
    record {
      word = (g.word ++ replicate k 32) ++ (sign o ∷ h.word);
      splits = g.splits ∙ ap (λ (l : List ℕ). g.word ++ l)
          (sign-split s next (sign o) (suc q) (sign_token s next (sign o) q e) ∙ ap (λ (l : List ℕ). replicate k 32 ++ (sign o ∷ l)) h.splits)
          ∙ simp append_assoc;
      phrase = Phrase.joined (all_after k g.phrase) h.phrase;
    }
worded {s} (Derives.number {a} {at} {next} e) =
    let g = atom-is s at a next e in
    let i = start s at in
    let l = drop (i + 1) s in
    record {
      word = replicate (spaces (drop at s)) 32 ++ (97 ∷ take (digits l) l);
      splits = past-spaces s at 97 g.inside g.letter
          ∙ ap (λ (x : List ℕ). replicate (spaces (drop at s)) 32 ++ (97 ∷ x))
          (sym (take-append-drop (digits l) l)
          ∙ ap (λ (x : List ℕ). take (digits l) l ++ x) (drop-drop (digits l) (i + 1) s ∙ ap (λ (k : ℕ). drop k s) (sym g.past)))
          ∙ sym (append_assoc (replicate (spaces (drop at s)) 32) (97 ∷ take (digits l) l) (drop next s));
      phrase = all-before (spaces (drop at s)) (Phrase.number (front-numeral s i a next g));
    }
worded {s} (Derives.prefixed {b} {at} {next} {end} {u} {p} e f o d) =
    let h = worded d in
    let k = spaces (drop at s) in
    record {
      word = replicate k 32 ++ (prefix u ∷ h.word);
      splits = sign-split s at b next e
          ∙ ap (λ (c : ℕ). replicate k 32 ++ (c ∷ drop next s)) (start-operator b u (eqb b 40) (unary_of b) refl f)
          ∙ ap (λ (l : List ℕ). replicate k 32 ++ (prefix u ∷ l)) h.splits ∙ sym (append_assoc (replicate k 32) (prefix u ∷ h.word) (drop end s));
      phrase = all-before k (Phrase.prefixed h.phrase);
    }
worded {s} (Derives.timed {b} {at} {next} {q} {i} {j} {past} {end} {u} {p} e f o m d) =
    let h = worded d in
    let k = spaces (drop at s) in
    let g = span-worded s next q i j past (opens-sign u s next q o) m in
    record {
      word = replicate k 32 ++ (letter (window_of u) ∷ (g.0 ++ h.word));
      splits = sign-split s at b next e
          ∙ ap (λ (c : ℕ). replicate k 32 ++ (c ∷ drop next s)) (start-operator b u (eqb b 40) (unary_of b) refl f ∙ letter-prefix u s next q o)
          ∙ ap (λ (l : List ℕ). replicate k 32 ++ (letter (window_of u) ∷ l)) (g.1 ∙ ap (λ (l : List ℕ). g.0 ++ l) h.splits) ∙ simp append_assoc;
      phrase = all-before k (Phrase.timed g.2 h.phrase);
    }
worded {s} (Derives.bracket {b} {at} {next} {end} {q} {p} e f d g) =
    let h = worded d in
    let k = spaces (drop at s) in
    let j = spaces (drop end s) in
    record {
      word = replicate k 32 ++ (40 ∷ ((h.word ++ replicate j 32) ++ (41 ∷ [])));
      splits = sign-split s at b next e
          ∙ ap (λ (c : ℕ). replicate k 32 ++ (c ∷ drop next s)) (start-bracket b (eqb b 40) (unary_of b) refl f)
          ∙ ap (λ (l : List ℕ). replicate k 32 ++ (40 ∷ l))
          (h.splits ∙ ap (λ (l : List ℕ). h.word ++ l) (sign-split s end 41 (suc q) (sign_token s end 41 q g))) ∙ simp append_assoc;
      phrase = all-before k (Phrase.bracket (all_after j h.phrase));
    }
