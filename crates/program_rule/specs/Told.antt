-- What a program's work on a table tells: the length of the text that it wrote, or its refusal.
use Rattle.std.specs.Prelude.{◌≡◌, refl, cond, List, ℕ, ◌≤◌, length, Result, Ok, Err}
use Rattle.std.proofs.Common.{ap}
use Rattle.rules.specs.Demands.{Answer, Written}
use Rattle.rules.specs.Demands.Answer.{refused, answered}
use Rattle.rules.specs.Demands.Written.{wrote}
use Rattle.answers.specs.declared.Refusal.{Refusal}
use Rattle.answers.specs.Meaning.{number_of}
use Rattle.cursor.specs.Put.{Put}
use Rattle.program_input.specs.Lines.{line, after_line, FirstLine}
use Rattle.program_input.specs.Scanning.{State, shaped}
use Rattle.program_input.proofs.Exact.{first_line?}
use Rattle.program_rule.specs.Output.{refused_text, bad_input, printed}
use Rattle.program_rule.specs.Outcome.{Work, read_then, rule_outcome, rule_then, output_of, output}
use Rattle.program_rule.specs.Shown.{shown}

-- a text is printed as it is
abbrev pub same : List ℕ → List ℕ
same xs = xs

-- the text x of what is made
abbrev pub as_text : {A : Type 0} (text : A → List ℕ) → Answer A → Answer (List ℕ)
as_text text (refused k) = refused k
as_text text (answered x) = answered (text x)

abbrev pub text_work : {A : Type 0} (text : A → List ℕ) → Work A → Work (List ℕ)
text_work text work T M N table = as_text text (work T M N table)

-- what is printed of a rule where a work makes the text
abbrev pub printed_of : Work (List ℕ) → (T M : ℕ) (rule : List ℕ) → List ℕ
printed_of work T M rule = printed same (rule_then work T M rule)

-- the text is written at the start of the page and fits it, or the page is as it was
abbrev pub Told : Answer (List ℕ) → (old new : List ℕ) → Result ℕ Refusal → Type 0
Told (answered xs) old new (Ok n) = Put 0 xs old new n × (n ≤ length old)
Told (answered xs) old new (Err r) = ⊥
Told (refused k) old new (Ok n) = ⊥
Told (refused k) old new (Err r) = (number_of r ≡ k) × (new ≡ old)

pub told-written : (o : Answer (List ℕ)) {old new : List ℕ} {n : ℕ} → Told o old new (Ok n) → Put 0 (printed same o) old new n × (n ≤ length old)
told-written (answered xs) t = t
told-written (refused k) t = absurd t

pub told-refused : (o : Answer (List ℕ)) {old new : List ℕ} (r : Refusal) → Told o old new (Err r) →
    (refused_text (number_of r) ≡ printed same o) × (new ≡ old)
told-refused (answered xs) r t = absurd t
told-refused (refused k) r t = rw t.0 (refl, t.1)

-- ---- a work's answer as a text, and what is printed then

module _ {A : Type 0} (text : A → List ℕ) (work : Work A) where
  printed-as_text : (o : Answer A) → printed same (as_text text o) ≡ printed text o
  printed-as_text (refused k) = refl
  printed-as_text (answered x) = refl

  pub printed-same : (T M : ℕ) (rule : List ℕ) → printed_of (text_work text work) T M rule ≡ printed text (rule_then work T M rule)
  unfolding rule_then
  printed-same T M rule = go (rule_outcome T M rule)
    where
      go : (o : Answer Written) → printed same (read_then (text_work text work) T M o) ≡ printed text (read_then work T M o)
      go (refused k) = refl
      go (answered (wrote N table)) = printed-as_text (work T M N table)

-- what prints the same for every rule prints the same for a scan and for an input
module _ (f g : (T M : ℕ) (rule : List ℕ) → List ℕ) (equal : (T M : ℕ) (rule : List ℕ) → f T M rule ≡ g T M rule) where
  pub shown-same : (s : State) → shown f s ≡ shown g s
  unfolding shown
  shown-same s = ap (λ (x : List ℕ). cond (shaped s.stage) x bad_input) (equal s.slots s.atoms s.rule)

  pub output-same : (input : List ℕ) → output f input ≡ output g input
  unfolding output
  output-same input = go (first_line? (line input))
    where
      go : (d : Dec ((T : ℕ) × (M : ℕ) × FirstLine (line input) T M)) → output_of f d (line (after_line input)) ≡ output_of g d (line (after_line input))
      go (yes p) = equal p.0 p.1 (line (after_line input))
      go (no p) = refl
