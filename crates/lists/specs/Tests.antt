-- Tests (Bool) as facts.
use Rattle.std.specs.Prelude.{◌≡◌, refl, Bool, true, false, not, ◌&&◌, ◌||◌, ◌↔◌, ◌⊎◌, T as Is}
use Rattle.std.proofs.Common.{inl, inr}

pub or_cases : (a b : Bool) → Is (a || b) → Is a ⊎ Is b
or_cases true b t = inl tt
or_cases false b t = inr t

pub or_left : (a b : Bool) → Is a → Is (a || b)
or_left true b t = tt
or_left false b t = absurd t

pub or_right : (a b : Bool) → Is b → Is (a || b)
or_right true b t = tt
or_right false b t = t

pub and_left : (a b : Bool) → Is (a && b) → Is a
and_left true b t = tt
and_left false b t = t

pub and_right : (a b : Bool) → Is (a && b) → Is b
and_right true b t = t
and_right false b t = absurd t

pub and_both : (a b : Bool) → Is a → Is b → Is (a && b)
and_both true b s t = t
and_both false b s t = s

pub not_iff : (a : Bool) → Is (not a) ↔ (Is a → ⊥)
not_iff true = (λ t s. t, λ f. f tt)
not_iff false = (λ t s. s, λ f. tt)

pub imp_iff : (a b : Bool) → Is (not a || b) ↔ (Is a → Is b)
imp_iff true b = (λ t s. t, λ f. f tt)
imp_iff false b = (λ t s. absurd s, λ f. tt)

-- a test that holds is true, and one that does not is false
pub is_true : (b : Bool) → Is b → b ≡ true
is_true true t = refl
is_true false t = absurd t

pub is_false : (b : Bool) → (Is b → ⊥) → b ≡ false
is_false true t = absurd (t tt)
is_false false t = refl

-- two tests of one thing are one
pub same_tests : (a b : Bool) → Is a ↔ Is b → a ≡ b
same_tests true true h = refl
same_tests true false h = absurd (h.0 tt)
same_tests false true h = absurd (h.1 tt)
same_tests false false h = refl
