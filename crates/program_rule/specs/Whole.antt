-- The output in terms of the lines alone, and that the scan of an input stands for its output.
use Rattle.std.specs.Prelude.{◌≡◌, Bool, List, ◌++◌, ℕ, min, ◌<◌, length, take}
use Rattle.std.proofs.Math.Path.{refl, sym, ap}
use Rattle.std.proofs.Common.{◌∙◌, arith}
use Rattle.std.proofs.Math.Bool.{true, false, cond}
use Rattle.rules.specs.Quantities.{text_limit}
use Rattle.program_input.specs.Lines.{line, after_line, FirstLine}
use Rattle.program_input.specs.declared.Stage.TheVariants.{Start}
use Rattle.program_input.specs.declared.Scan.{Scan}
use Rattle.program_input.specs.Scanning.{state, begin, steps, shaped}
use Rattle.program_input.proofs.Exact.{scanned, settled-more, line_2_settles, another_settles, shaped-first, first_line?, started}
use Rattle.program_rule.specs.Sizes.{text_room}
use Rattle.program_rule.specs.Output.{bad_input, OutputExact, StopsExact}
use Rattle.program_rule.specs.Outcome.{output_of, output, enough}
use Rattle.program_rule.specs.Shown.{shown}
use Rattle.program_rule.specs.Cut.{Cut}

module _ (print : (T M : ℕ) (text : List ℕ) → List ℕ) (cut : Cut print) where
  -- an input whose first line has the shape, scanned with room for a text that is too long
  shown-numbers : (room : ℕ) (input : List ℕ) {T M : ℕ} → text_limit < room → FirstLine (line input) T M →
      shown print (steps room begin input) ≡ print T M (line (after_line input))
  unfolding shown
  shown-numbers room input {T} {M} h f =
      let p = scanned room input f in
      ap (shown print) p.state-is
      ∙ ap (λ (b : Bool). cond b (print (min 1000 T) (min 1000 M) (take room (line (after_line input)))) bad_input) p.shape
      ∙ cut T M room (line (after_line input)) h

  shown-another : (room : ℕ) (input : List ℕ) → ((T M : ℕ) → FirstLine (line input) T M → ⊥) → shown print (steps room begin input) ≡ bad_input
  unfolding shown
  shown-another room input n = go (shaped (steps room begin input).stage) refl
    where
      go : (b : Bool) → shaped (steps room begin input).stage ≡ b → shown print (steps room begin input) ≡ bad_input
      go true e = let p = shaped-first room input e in absurd (n p.0 p.1 p.2)
      go false e = rw e refl

  -- The scan of an input stands for its output.
  pub shown-output : (room : ℕ) (input : List ℕ) → text_limit < room → shown print (steps room begin input) ≡ output print input
  unfolding output
  shown-output room input h = go (first_line? (line input))
    where
      go : (d : Dec ((T : ℕ) × (M : ℕ) × FirstLine (line input) T M)) → shown print (steps room begin input) ≡ output_of print d (line (after_line input))
      go (yes p) = shown-numbers room input h p.2
      go (no p) = shown-another room input (λ T M f. p (T, M, f))

  -- a started scan, fed an input, with room for such a text
  pub fed_output : (s r : Scan) (text text' input : List ℕ) → length text ≡ text_room → (s.stage ≡ Start) × (s.slots ≡ 0) × (s.atoms ≡ 0) × (s.kept ≡ 0) →
      state r text' ≡ steps (length text) (state s text) input → shown print (state r text') ≡ output print input
  fed_output s r text text' input l b e = ap (shown print) e ∙ rw (l, started s text b) (shown-output text_room input (omega arith))

  pub output_exact : OutputExact print (output print)
  output_exact input = record {
    numbers = λ f. sym (shown-output text_room input (omega arith)) ∙ shown-numbers text_room input (omega arith) f;
    another = λ n. sym (shown-output text_room input (omega arith)) ∙ shown-another text_room input n;
  }

  pub stops_exact : StopsExact enough (output print)
  unfolding enough
  stops_exact = record {
    ignored =
        λ bytes rest e. sym (shown-output text_room (bytes ++ rest) (omega arith)) ∙ ap (shown print) (settled-more text_room begin bytes rest e)
        ∙ shown-output text_room bytes (omega arith);
    line_2 = λ f rule. line_2_settles text_room f rule;
    another = λ s n. another_settles text_room s n;
  }
