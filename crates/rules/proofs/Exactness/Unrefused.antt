-- What holds of a text that gives no ground to refuse, and of the rule that it says.
use Rattle.rules.specs.Exactness.Unrefused.{Unrefused}
use Rattle.std.specs.Prelude.{◌≡◌, refl, Bool, true, false, List, ℕ, length}
use Rattle.std.proofs.Common.{sym, ◌∙◌}
use Rattle.rules.specs.Quantities.{AtomsAllowed}
use Rattle.rules.specs.Rule.{Rule, size, AtomsBelow, WindowsAllowed}
use Rattle.rules.specs.Grammar.{Says}
use Rattle.rules.proofs.Reading.{says?}
use Rattle.rules.specs.Table.{table_bytes, nodes_of}
use Rattle.rules.proofs.TableRules.{rule-good, root_is}
use Rattle.rules.proofs.TableTest.{good-nodes}
use Rattle.rules.specs.Judge.{None}
use Rattle.rules.specs.Refusals.{TextRefused}
use Rattle.rules.specs.Outcome.{between, atoms_below, windows_good}
use Rattle.rules.proofs.Exactness.Tests.{between-true, between-false, atoms-true, windows-true, failed, passes, at_least}

module _ (M : ℕ) (text : List ℕ) (ok : None (TextRefused M text)) where
  atoms-allowed : (b : Bool) → between 1 16 M ≡ b → AtomsAllowed M
  atoms-allowed true e = between-true 1 16 M e
  atoms-allowed false e = absurd (ok 2 (TextRefused.atoms (between-false 1 16 M e)))

  pub rule-said : (p : Rule) × Says text p
  rule-said = go (says? text)
    where
      go : Dec ((p : Rule) × Says text p) → (p : Rule) × Says text p
      go (yes x) = x
      go (no x) = absurd (ok 4 (TextRefused.no_rule (λ p s. x (p, s))))

  module _ (p : Rule) (says : Says text p) where
    atoms-below : (b : Bool) → atoms_below M p ≡ b → AtomsBelow M p
    atoms-below true e = (atoms-true M p).0 (passes (atoms_below M p) e)
    atoms-below false e = absurd (ok 5 (TextRefused.atom-high says (failed (atoms_below M p) (atoms-true M p).1 e)))

    windows-good : (b : Bool) → windows_good p ≡ b → WindowsAllowed p
    windows-good true e = (windows-true p).0 (passes (windows_good p) e)
    windows-good false e = absurd (ok 12 (TextRefused.window_bad says (failed (windows_good p) (windows-true p).1 e)))

    pub unrefused : Unrefused M text p
    unrefused =
        let a = atoms-below (atoms_below M p) refl in
        let w = windows-good (windows_good p) refl in
        let n = at_least 128 (size p) (λ h. ok 6 (TextRefused.nodes says h)) in
        let g = rule-good M p a w n in
        record {
          allowed = atoms-allowed (between 1 16 M) refl;
          short = at_least 1024 (length text) (λ h. ok 3 (TextRefused.long h));
          atoms = a;
          windows = w;
          nodes = n;
          good-table = g;
          nodes-alone = λ ns h. good-nodes M (table_bytes (nodes_of p)) ns h ∙ sym (good-nodes M (table_bytes (nodes_of p)) (nodes_of p) g);
          root-rule = root_is M p a w;
        }
