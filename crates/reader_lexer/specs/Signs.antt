-- The sign where a token begins, and the end of spaces.
use Rattle.std.specs.Prelude.{◌≡◌, refl, Bool, true, false, cond, List, [], ◌∷◌, ℕ, zero, suc, max, ◌≤◌, ◌<◌, length, drop, eqb, Option, Some, None}
use Rattle.std.proofs.Common.{arith, length-drop}
use Rattle.rules.specs.Reading.Lexer.{spaces, start, token_from, token_at, past_sign, sign_at}

-- the position past the sign b, if that is the token that begins at p, and else 0
unfoldable pub sign_from : List ℕ → (p b : ℕ) → ℕ
sign_from s p b = past_sign b (token_from s p)

-- a position past a sign, and none for 0
abbrev pub position_of : ℕ → Option ℕ
position_of zero = None
position_of (suc q) = Some (suc q)

pub position_none : (x : ℕ) → None ≡ position_of x → x ≡ 0
position_none zero e = refl
position_none (suc q) e = cc

pub position_some : (x q : ℕ) → Some q ≡ position_of x → (q ≡ x) × (0 < q)
position_some zero q e = cc
position_some (suc k) q e = let f : q ≡ suc k = cc in (f, omega arith)

-- past the spaces it is the next token's sign
pub sign-skipped : (s : List ℕ) (at b : ℕ) → sign_from s (start s at) b ≡ sign_at s at b
unfolding sign_from sign_at token_at
sign-skipped s at b = refl

spaces-step : (b : Bool) (n m : ℕ) → n ≤ m → cond b (suc n) 0 ≤ suc m
spaces-step true n m h = omega arith
spaces-step false n m h = omega arith

spaces_le : (s : List ℕ) → spaces s ≤ length s
unfolding spaces
spaces_le [] = omega arith
spaces_le (c ∷ s) = spaces-step (eqb c 32) (spaces s) (length s) (spaces_le s)

pub start_le : (s : List ℕ) (at : ℕ) → at ≤ length s → start s at ≤ length s
start_le s at h = omega (arith, spaces_le (drop at s), length-drop at s)

pub start_max : (s : List ℕ) (at : ℕ) → start s at ≤ max at (length s)
start_max s at = omega (arith, spaces_le (drop at s), length-drop at s)
