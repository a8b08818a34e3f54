-- Read: refusals 2, 3, 4, 5, 12, 6 and 11.
use Rattle.std.specs.Prelude.{◌≡◌, refl, List, ℕ, ◌*◌, ◌≤◌, ◌<◌, leb, length}
use Rattle.std.proofs.Common.{sym, ap, subst, ◌∙◌, arith, leb-false, leb-true}
use Rattle.std.proofs.Math.Option.{Option, none, some}
use Rattle.rules.specs.Quantities.{AtomsAllowed}
use Rattle.rules.specs.Rule.{Rule, size, AtomsBelow, WindowsAllowed}
use Rattle.rules.specs.Grammar.{Says}
use Rattle.rules.specs.Reading.{reading}
use Rattle.rules.proofs.Reading.{reading-sound, reading-complete, one-reading}
use Rattle.rules.specs.Table.{table_bytes, nodes_of}
use Rattle.rules.specs.Refusals.{order, place, TextRefused, ReadRefused}
use Rattle.rules.specs.Demands.{Written, Exact, ReaderExact}
use Rattle.rules.specs.Demands.Written.{wrote}
use Rattle.rules.specs.Outcome.{between, atoms_below, windows_good, rule_checked, read_outcome}
use Rattle.rules.proofs.Ladder.{rung, refuse, exact_answered}
use Rattle.rules.proofs.Exactness.Tests.{between-true, between-false, atoms-true, windows-true, failed, passes, at_least}

module _ (M : ℕ) (text : List ℕ) (room : ℕ) where
  abbrev ReadIs : Written → Type 0
  ReadIs w = (p : Rule) × Says text p × (w ≡ wrote (size p) (table_bytes (nodes_of p)))

  -- what is known of the text where no refusal before place k applies
  record Known (k : ℕ) : Type 0 where
    two : place 2 < k → AtomsAllowed M
    three : place 3 < k → length text ≤ 1024
    four : place 4 < k → (p : Rule) × Says text p
    five : place 5 < k → (p : Rule) → Says text p → AtomsBelow M p
    twelve : place 12 < k → (p : Rule) → Says text p → WindowsAllowed p
    six : place 6 < k → (p : Rule) → Says text p → size p ≤ 128
    eleven : place 11 < k → (p : Rule) → Says text p → 8 * size p ≤ room

  read-from : (k : ℕ) → Known k → {j : ℕ} → ReadRefused M text room j → k ≤ place j
  read-from k i (ReadRefused.text-refused (TextRefused.atoms x)) = at_least (place 2) k (λ h. x (i.two h))
  read-from k i (ReadRefused.text-refused (TextRefused.long x)) = at_least (place 3) k (λ h. omega (arith, i.three h))
  read-from k i (ReadRefused.text-refused (TextRefused.no_rule x)) = at_least (place 4) k (λ h. x (i.four h).0 (i.four h).1)
  read-from k i (ReadRefused.text-refused (TextRefused.atom-high {p} s x)) = at_least (place 5) k (λ h. x (i.five h p s))
  read-from k i (ReadRefused.text-refused (TextRefused.window_bad {p} s x)) = at_least (place 12) k (λ h. x (i.twelve h p s))
  read-from k i (ReadRefused.text-refused (TextRefused.nodes {p} s x)) = at_least (place 6) k (λ h. omega (arith, i.six h p s))
  read-from k i (ReadRefused.short {p} s x) = at_least (place 11) k (λ h. omega (arith, i.eleven h p s))

  read_under : {j : ℕ} → ReadRefused M text room j → place j < 13
  read_under (ReadRefused.text-refused (TextRefused.atoms x)) = omega arith
  read_under (ReadRefused.text-refused (TextRefused.long x)) = omega arith
  read_under (ReadRefused.text-refused (TextRefused.no_rule x)) = omega arith
  read_under (ReadRefused.text-refused (TextRefused.atom-high s x)) = omega arith
  read_under (ReadRefused.text-refused (TextRefused.window_bad s x)) = omega arith
  read_under (ReadRefused.text-refused (TextRefused.nodes s x)) = omega arith
  read_under (ReadRefused.short s x) = omega arith

  -- the one rule of the text has what p has
  of_one : (p : Rule) → Says text p → (P : Rule → Type 0) → P p → (q : Rule) → Says text q → P q
  of_one p s P x q r = subst P (one-reading text p q s r) x

  module _ (m : AtomsAllowed M) (l : length text ≤ 1024) where
    rule_exact : (x : Option Rule) → reading text ≡ x → Exact (ReadRefused M text room) ReadIs (rule_checked M room x)
    rule_exact none e =
        refuse order (ReadRefused M text room) ReadIs 4
        (λ j. read-from (place 4) (record {
          two = λ h. m;
          three = λ h. l;
          four = λ h. absurd (omega arith);
          five = λ h. absurd (omega arith);
          twelve = λ h. absurd (omega arith);
          six = λ h. absurd (omega arith);
          eleven = λ h. absurd (omega arith);
        }))
        (ReadRefused.text-refused (TextRefused.no_rule (λ p s. let f = reading-complete text p s in let z : ◌≡◌ {A = ℕ} 0 1 = cc in absurd (omega arith))))
    rule_exact (some p) e =
        let s = reading-sound text p e in
        rung order (ReadRefused M text room) ReadIs (atoms_below M p) 5 _
        (λ j. read-from (place 5) (record {
          two = λ h. m;
          three = λ h. l;
          four = λ h. (p, s);
          five = λ h. absurd (omega arith);
          twelve = λ h. absurd (omega arith);
          six = λ h. absurd (omega arith);
          eleven = λ h. absurd (omega arith);
        }))
        (λ f. ReadRefused.text-refused (TextRefused.atom-high s (failed (atoms_below M p) (atoms-true M p).1 f)))
        (λ t. let a = of_one p s (AtomsBelow M) ((atoms-true M p).0 (passes (atoms_below M p) t)) in
        rung order (ReadRefused M text room) ReadIs (windows_good p) 12 _
        (λ j. read-from (place 12) (record {
          two = λ h. m;
          three = λ h. l;
          four = λ h. (p, s);
          five = λ h. a;
          twelve = λ h. absurd (omega arith);
          six = λ h. absurd (omega arith);
          eleven = λ h. absurd (omega arith);
        }))
        (λ f. ReadRefused.text-refused (TextRefused.window_bad s (failed (windows_good p) (windows-true p).1 f)))
        (λ t. let w = of_one p s WindowsAllowed ((windows-true p).0 (passes (windows_good p) t)) in
        rung order (ReadRefused M text room) ReadIs (leb (size p) 128) 6 _
        (λ j. read-from (place 6) (record {
          two = λ h. m;
          three = λ h. l;
          four = λ h. (p, s);
          five = λ h. a;
          twelve = λ h. w;
          six = λ h. absurd (omega arith);
          eleven = λ h. absurd (omega arith);
        }))
        (λ f. ReadRefused.text-refused (TextRefused.nodes s (leb-false (size p) 128 f)))
        (λ t. let n = of_one p s (λ q. size q ≤ 128) (leb-true (size p) 128 t) in
        rung order (ReadRefused M text room) ReadIs (leb (8 * size p) room) 11 _
        (λ j. read-from (place 11) (record {
          two = λ h. m;
          three = λ h. l;
          four = λ h. (p, s);
          five = λ h. a;
          twelve = λ h. w;
          six = λ h. n;
          eleven = λ h. absurd (omega arith);
        }))
        (λ f. ReadRefused.short s (leb-false (8 * size p) room f))
        (λ t. let r = of_one p s (λ q. 8 * size q ≤ room) (leb-true (8 * size p) room t) in
        exact_answered order (ReadRefused M text room) ReadIs (wrote (size p) (table_bytes (nodes_of p)))
        (λ j x. omega (
          arith,
          read_under x,
          read-from 13 (record { two = λ h. m; three = λ h. l; four = λ h. (p, s); five = λ h. a; twelve = λ h. w; six = λ h. n; eleven = λ h. r }) x,
        ))
        (p, s, refl)
        (λ w i. ap (λ (q : Rule). wrote (size q) (table_bytes (nodes_of q))) (one-reading text p i.0 s i.1) ∙ sym i.2)))))

pub read_exact : ReaderExact read_outcome
unfolding read_outcome
read_exact M text room =
    rung order (ReadRefused M text room) (ReadIs M text room) (between 1 16 M) 2 _
    (λ j. read-from M text room (place 2)
    (record {
      two = λ h. absurd (omega arith);
      three = λ h. absurd (omega arith);
      four = λ h. absurd (omega arith);
      five = λ h. absurd (omega arith);
      twelve = λ h. absurd (omega arith);
      six = λ h. absurd (omega arith);
      eleven = λ h. absurd (omega arith);
    }))
    (λ f. ReadRefused.text-refused (TextRefused.atoms (between-false 1 16 M f)))
    (λ t. let m = between-true 1 16 M t in
    rung order (ReadRefused M text room) (ReadIs M text room) (leb (length text) 1024) 3 _
    (λ j. read-from M text room (place 3)
    (record {
      two = λ h. m;
      three = λ h. absurd (omega arith);
      four = λ h. absurd (omega arith);
      five = λ h. absurd (omega arith);
      twelve = λ h. absurd (omega arith);
      six = λ h. absurd (omega arith);
      eleven = λ h. absurd (omega arith);
    }))
    (λ f. ReadRefused.text-refused (TextRefused.long (leb-false (length text) 1024 f)))
    (λ t. rule_exact M text room m (leb-true (length text) 1024 t) (reading text) refl))
