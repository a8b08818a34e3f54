-- Derivations at positions of a text: the parser finds them (sound), and finds each that nothing in the text goes on (complete).
use Rattle.std.specs.Prelude.{◌≡◌, refl, List, ℕ, zero, suc, ◌≤◌, ◌<◌}
use Rattle.std.proofs.Common.{ap, ◌∙◌, subst, arith, le_refl}
use Rattle.rules.specs.Rule.{Unary, Binary, Rule}
use Rattle.rules.specs.Rule.Binary.{and, or, implies, until}
use Rattle.rules.specs.Grammar.{Level, tighter, sign}
use Rattle.rules.specs.Grammar.Level.{of, single}
use Rattle.rules.specs.Reading.Lexer.{Token, token_at, sign_at}
use Rattle.rules.proofs.Reading.Lexer.{sign-other}
use Rattle.rules.specs.Reading.Parser.{Parsed, Start, start_of, join, go_on, pair, close_at, close, apply, Spanned, span_at, opens, window_of}
use Rattle.rules.specs.Reading.Parser.{apply_window, over_span, operate, begin, lead, rank, parse, measure, parsed}
use Rattle.rules.proofs.Reading.Parser.{rank-tighter, single_law}
use Rattle.rules.proofs.Reading.Parser.{pair_law}

-- the text s from one position to another is a phrase of a level, and says a rule
pub data Derives (s : List ℕ) : Level → ℕ → ℕ → Rule → Type 0 where
  alone : {o : Binary} {at next : ℕ} {p : Rule} → Derives s (tighter o) at next p → Derives s (of o) at next p
  joined : {o : Binary} {at next q end : ℕ} {p r : Rule} → Derives s (tighter o) at next p → sign_at s next (sign o) ≡ suc q → Derives s (of o) (suc q) end r →
      Derives s (of o) at end (Rule.binary o p r)
  number : {a at next : ℕ} → token_at s at ≡ Token.atom a next → Derives s single at next (Rule.atom a)
  prefixed : {b at next end : ℕ} {u : Unary} {p : Rule} → token_at s at ≡ Token.sign b next → start_of b ≡ Start.operator u → opens u s next ≡ 0 →
      Derives s single next end p → Derives s single at end (Rule.unary u p)
  timed : {b at next q i j past end : ℕ} {u : Unary} {p : Rule} → token_at s at ≡ Token.sign b next → start_of b ≡ Start.operator u → opens u s next ≡ suc q →
      span_at s (suc q) ≡ Spanned.span i j past → Derives s single past end p → Derives s single at end (Rule.windowed (window_of u) i j p)
  bracket : {b at next end q : ℕ} {p : Rule} → token_at s at ≡ Token.sign b next → start_of b ≡ Start.bracket → Derives s (of implies) next end p →
      sign_at s end 41 ≡ suc q → Derives s single at (suc q) p

-- ---- sound

abbrev Sound : List ℕ → Level → ℕ → Parsed → Type 0
Sound s l at Parsed.fail = Unit {0}
Sound s l at (Parsed.part p next) = Derives s l at next p

module _ (s : List ℕ) (at : ℕ) where
  join-sound : (o : Binary) (p : Rule) (next q : ℕ) (x : Parsed) → Derives s (tighter o) at next p → sign_at s next (sign o) ≡ suc q →
      Sound s (of o) (suc q) x → Sound s (of o) at (join o p x)
  join-sound o p next q Parsed.fail h e k = tt
  join-sound o p next q (Parsed.part r end) h e k = joined h e k

  go_on-sound : (o : Binary) (p : Rule) (next x : ℕ) (g : ℕ → Parsed) → Derives s (tighter o) at next p → sign_at s next (sign o) ≡ x →
      ((q : ℕ) → Sound s (of o) q (g q)) → Sound s (of o) at (go_on o p next x g)
  go_on-sound o p next zero g h e k = alone h
  go_on-sound o p next (suc q) g h e k = join-sound o p next q (g (suc q)) h e (k (suc q))

  pair-sound : (o : Binary) (x : Parsed) (g : ℕ → Parsed) → Sound s (tighter o) at x → ((q : ℕ) → Sound s (of o) q (g q)) → Sound s (of o) at (pair o s x g)
  pair-sound o Parsed.fail g h k = tt
  pair-sound o (Parsed.part p next) g h k = go_on-sound o p next (sign_at s next (sign o)) g h refl k

  module _ (b next : ℕ) (token-is : token_at s at ≡ Token.sign b next) where
    close_at-sound : (p : Rule) (end x : ℕ) → start_of b ≡ Start.bracket → Derives s (of implies) next end p → sign_at s end 41 ≡ x →
        Sound s single at (close_at p x)
    close_at-sound p end zero f h e = tt
    close_at-sound p end (suc q) f h e = bracket token-is f h e

    close-sound : (x : Parsed) → start_of b ≡ Start.bracket → Sound s (of implies) next x → Sound s single at (close s x)
    close-sound Parsed.fail f h = tt
    close-sound (Parsed.part p end) f h = close_at-sound p end (sign_at s end 41) f h refl

    apply-sound : (u : Unary) (x : Parsed) → start_of b ≡ Start.operator u → opens u s next ≡ 0 → Sound s single next x → Sound s single at (apply u x)
    apply-sound u Parsed.fail f o h = tt
    apply-sound u (Parsed.part p end) f o h = prefixed token-is f o h

    window-sound : (u : Unary) (q i j past : ℕ) (x : Parsed) → start_of b ≡ Start.operator u → opens u s next ≡ suc q →
        span_at s (suc q) ≡ Spanned.span i j past → Sound s single past x → Sound s single at (apply_window (window_of u) i j x)
    window-sound u q i j past Parsed.fail f o e h = tt
    window-sound u q i j past (Parsed.part p end) f o e h = timed token-is f o e h

    span-sound : (u : Unary) (q : ℕ) (x : Spanned) (f : ℕ → Parsed) → start_of b ≡ Start.operator u → opens u s next ≡ suc q → span_at s (suc q) ≡ x →
        ((q : ℕ) → Sound s single q (f q)) → Sound s single at (over_span (window_of u) x f)
    span-sound u q Spanned.fail f e o k h = tt
    span-sound u q (Spanned.span i j past) f e o k h = window-sound u q i j past (f past) e o k (h past)

    operate-sound : (u : Unary) (x : ℕ) (f : ℕ → Parsed) → start_of b ≡ Start.operator u → opens u s next ≡ x → ((q : ℕ) → Sound s single q (f q)) →
        Sound s single at (operate u s next x f)
    operate-sound u zero f e o h = apply-sound u (f next) e o (h next)
    operate-sound u (suc q) f e o h = span-sound u q (span_at s (suc q)) f e o refl h

    begin-sound : (x : Start) (f g : ℕ → Parsed) → start_of b ≡ x → ((q : ℕ) → Sound s single q (f q)) → ((q : ℕ) → Sound s (of implies) q (g q)) →
        Sound s single at (begin s next x f g)
    begin-sound Start.bracket f g e h k = close-sound (g next) e (k next)
    begin-sound (Start.operator u) f g e h k = operate-sound u (opens u s next) f e refl h
    begin-sound Start.nothing f g e h k = tt

  lead-sound : (t : Token) (f g : ℕ → Parsed) → token_at s at ≡ t → ((q : ℕ) → Sound s single q (f q)) → ((q : ℕ) → Sound s (of implies) q (g q)) →
      Sound s single at (lead s t f g)
  lead-sound Token.none f g e h k = tt
  lead-sound (Token.atom a next) f g e h k = number e
  lead-sound (Token.sign b next) f g e h k = begin-sound b next e (start_of b) f g refl h k

parse-sound : (k : ℕ) (l : Level) (s : List ℕ) (at : ℕ) → Sound s l at (parse k l s at)
unfolding parse
parse-sound zero l s at = tt
parse-sound (suc k) single s at = lead-sound s at (token_at s at) _ _ refl (parse-sound k single s) (parse-sound k (of implies) s)
parse-sound (suc k) (of o) s at = pair-sound s at o (parse k (tighter o) s at) _ (parse-sound k (tighter o) s at) (parse-sound k (of o) s)

pub sound : (l : Level) (s : List ℕ) (at : ℕ) (p : Rule) (next : ℕ) → parsed l s at ≡ Parsed.part p next → Derives s l at next p
unfolding parsed
sound l s at p next e = subst (Sound s l at) e (parse-sound (measure l s at) l s at)

-- ---- complete

-- no sign stands at `next` that the level, or one inside it, would go on with
pub Stops : List ℕ → Level → ℕ → Type 0
Stops s l next = (o : Binary) → rank (of o) ≤ rank l → sign_at s next (sign o) ≡ 0

pub stops_at : (s : List ℕ) (l : Level) (next : ℕ) → ((b : ℕ) → sign_at s next b ≡ 0) → Stops s l next
unfolding Stops
stops_at s l next h o b = h (sign o)

-- a tighter operator has another sign
sign-apart : (o p : Binary) → rank (of p) < rank (of o) → sign o ≡ sign p → ⊥
sign-apart implies implies = omega arith
sign-apart implies or = omega arith
sign-apart implies and = omega arith
sign-apart implies until = omega arith
sign-apart or implies = omega arith
sign-apart or or = omega arith
sign-apart or and = omega arith
sign-apart or until = omega arith
sign-apart and implies = omega arith
sign-apart and or = omega arith
sign-apart and and = omega arith
sign-apart and until = omega arith
sign-apart until implies = omega arith
sign-apart until or = omega arith
sign-apart until and = omega arith
sign-apart until until = omega arith

not-closing : (p : Binary) → 41 ≡ sign p → ⊥
not-closing implies = omega arith
not-closing or = omega arith
not-closing and = omega arith
not-closing until = omega arith

pub complete : {s : List ℕ} {l : Level} {at next : ℕ} {p : Rule} → Derives s l at next p → Stops s l next → parsed l s at ≡ Parsed.part p next
unfolding Stops
complete {s} (alone {o} {at} {next} {p} d) stops =
    pair_law o s at
    ∙ ap (λ (x : Parsed). pair o s x (parsed (of o) s)) (complete d (λ i h. stops i (omega (arith, rank-tighter o))))
    ∙ ap (λ (x : ℕ). go_on o p next x (parsed (of o) s)) (stops o (le_refl (rank (of o))))
complete {s} (joined {o} {at} {next} {q} {end} {p} {r} d e f) stops =
    pair_law o s at
    ∙ ap (λ (x : Parsed). pair o s x (parsed (of o) s))
    (complete d (λ i h. sign-other s next (sign o) (sign i) q (sign-apart o i (omega (arith, rank-tighter o))) e))
    ∙ ap (λ (x : ℕ). go_on o p next x (parsed (of o) s)) e
    ∙ ap (join o p) (complete f stops)
complete {s} (number {a} {at} {next} e) stops = single_law s at ∙ ap (λ (t : Token). lead s t (parsed single s) (parsed (of implies) s)) e
complete {s} (prefixed {b} {at} {next} {end} {u} {p} e f o d) stops =
    single_law s at
    ∙ ap (λ (t : Token). lead s t (parsed single s) (parsed (of implies) s)) e
    ∙ ap (λ (x : Start). begin s next x (parsed single s) (parsed (of implies) s)) f
    ∙ ap (λ (x : ℕ). operate u s next x (parsed single s)) o
    ∙ ap (apply u) (complete d stops)
complete {s} (timed {b} {at} {next} {q} {i} {j} {past} {end} {u} {p} e f o k d) stops =
    single_law s at
    ∙ ap (λ (t : Token). lead s t (parsed single s) (parsed (of implies) s)) e
    ∙ ap (λ (x : Start). begin s next x (parsed single s) (parsed (of implies) s)) f
    ∙ ap (λ (x : ℕ). operate u s next x (parsed single s)) o
    ∙ ap (λ (x : Spanned). over_span (window_of u) x (parsed single s)) k
    ∙ ap (apply_window (window_of u) i j) (complete d stops)
complete {s} (bracket {b} {at} {next} {end} {q} {p} e f d g) stops =
    single_law s at
    ∙ ap (λ (t : Token). lead s t (parsed single s) (parsed (of implies) s)) e
    ∙ ap (λ (x : Start). begin s next x (parsed single s) (parsed (of implies) s)) f
    ∙ ap (close s) (complete d (λ i h. sign-other s end 41 (sign i) q (not-closing i) g))
    ∙ ap (close_at p) g
