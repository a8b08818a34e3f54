-- What is printed is the same where numbers from 1,000 on and the text past 1,025 bytes are cut.
use Rattle.program_rule.specs.Cut.{Cut}
use Rattle.std.specs.Prelude.{◌≡◌, Bool, List, ℕ, min, ◌<◌, leb, length, take}
use Rattle.std.proofs.Math.Path.{refl, ap}
use Rattle.std.proofs.Common.{sym, ◌∙◌, arith, le-leb, leb-true, leb-false, take_all, length-take-le}
use Rattle.std.proofs.Math.Bool.{true, false}
use Rattle.std.proofs.lemmas.Bool.{lt-leb}
use Rattle.rules.specs.Quantities.{text_limit}
use Rattle.rules.specs.Demands.{Answer, Written}
use Rattle.rules.specs.Demands.Answer.{refused}
use Rattle.rules.specs.Outcome.{require, between, read_outcome}
use Rattle.program_rule.specs.Sizes.{table_room}
use Rattle.program_rule.specs.Output.{printed}
use Rattle.program_rule.specs.Outcome.{rule_outcome, Work, read_then, rule_then}

-- ---- refusals 2 and 3

too_many_atoms : (M : ℕ) (text : List ℕ) → 16 < M → read_outcome M text table_room ≡ refused 2
unfolding read_outcome
too_many_atoms M text h = rw (le-leb 1 M (omega arith), lt-leb M 16 h) refl

too_long : (M : ℕ) (text : List ℕ) → text_limit < length text → read_outcome M text table_room ≡ require (between 1 16 M) 2 (refused 3)
unfolding read_outcome
too_long M text h = rw (lt-leb (length text) text_limit h) refl

-- ---- the cuts

cut-text : (M room : ℕ) (text : List ℕ) → text_limit < room → read_outcome M (take room text) table_room ≡ read_outcome M text table_room
cut-text M room text h = go (leb (length text) room) refl
  where
    go : (b : Bool) → leb (length text) room ≡ b → read_outcome M (take room text) table_room ≡ read_outcome M text table_room
    go true e = ap (λ (x : List ℕ). read_outcome M x table_room) (take_all room text (leb-true (length text) room e))
    go false e =
        let l = leb-false (length text) room e in
        let n : length (take room text) ≡ room = length-take-le room text (omega arith) in
        too_long M (take room text) (omega arith) ∙ sym (too_long M text (omega arith))

module _ {A : Type 0} (work : Work A) where
  -- the check of T, and then the rest
  pub read-then : (T M : ℕ) (text : List ℕ) (o : Answer Written) → read_outcome M text table_room ≡ o →
      rule_then work T M text ≡ require (between 1 64 T) 1 (read_then work T M o)
  unfolding rule_then rule_outcome
  read-then T M text o e = ap (λ (x : Answer Written). read_then work T M (require (between 1 64 T) 1 x)) e ∙ go (between 1 64 T)
    where
      go : (b : Bool) → read_then work T M (require b 1 o) ≡ require b 1 (read_then work T M o)
      go true = refl
      go false = refl

  too_many_slots : (T M : ℕ) (text : List ℕ) → 64 < T → rule_then work T M text ≡ refused 1
  too_many_slots T M text h = read-then T M text (read_outcome M text table_room) refl ∙ rw (le-leb 1 T (omega arith), lt-leb T 64 h) refl

  cut-slots : (T M : ℕ) (text : List ℕ) → rule_then work (min 1000 T) M text ≡ rule_then work T M text
  cut-slots T M text = go (leb T 1000) refl
    where
      go : (b : Bool) → leb T 1000 ≡ b → rule_then work (min 1000 T) M text ≡ rule_then work T M text
      go true e = let l = leb-true T 1000 e in ap (λ (t : ℕ). rule_then work t M text) (omega arith)
      go false e =
          let l = leb-false T 1000 e in
          too_many_slots (min 1000 T) M text (omega arith) ∙ sym (too_many_slots T M text (omega arith))

  cut-atoms : (T M : ℕ) (text : List ℕ) → rule_then work T (min 1000 M) text ≡ rule_then work T M text
  cut-atoms T M text = go (leb M 1000) refl
    where
      go : (b : Bool) → leb M 1000 ≡ b → rule_then work T (min 1000 M) text ≡ rule_then work T M text
      go true e = let l = leb-true M 1000 e in ap (λ (m : ℕ). rule_then work T m text) (omega arith)
      go false e =
          let l = leb-false M 1000 e in
          read-then T (min 1000 M) text (refused 2) (too_many_atoms (min 1000 M) text (omega arith))
          ∙ sym (read-then T M text (refused 2) (too_many_atoms M text (omega arith)))

  rule-cut : (T M room : ℕ) (text : List ℕ) → text_limit < room → rule_then work (min 1000 T) (min 1000 M) (take room text) ≡ rule_then work T M text
  rule-cut T M room text h =
      cut-slots T (min 1000 M) (take room text) ∙ cut-atoms T M (take room text)
      ∙ read-then T M (take room text) (read_outcome M text table_room) (cut-text M room text h)
      ∙ sym (read-then T M text (read_outcome M text table_room) refl)

  pub printed-cut : (text : A → List ℕ) → Cut (λ T M rule. printed text (rule_then work T M rule))
  printed-cut text T M room rule h = ap (printed text) (rule-cut T M room rule h)
