-- What the outcome of read is, for each return of the code.
use mathlib.Core.Path.{◌≡◌, refl, sym, ap, ◌∙◌}
use mathlib.Core.Bool.{Bool, true, false, cond, ◌&&◌}
use mathlib.Core.Option as Maths
use mathlib.Core.List.{List, ◌++◌}
use Prim.Native.Nat.{ℕ, ◌+◌, ◌*◌, ◌≤◌, ◌<◌}
use native.Mathlib.Omega.{arith}
use lib.ListN.{length, drop, take}
use lib.Seq.{length-sets, sets-eq, take_at}
use lib.Dec.{leb, ltb, eqb}
use borrow.Author.Tests.{le-leb, lt-leb, le-ltb, lt-ltb, ltb-true, ltb-false, eqb-true, eqb-false}
use Rattle.std.specs.Ordering.{is_le, nat_cmp}
use Rattle.std.proofs.Common.{Less, Equal, Greater}
use Rattle.rules.specs.Rule.{Rule, size}
use Rattle.rules.specs.Rule.Binary.{implies}
use Rattle.rules.specs.Grammar.Level.{of}
use Rattle.rules.specs.Table.{table_bytes, nodes_of}
use Rattle.rules.specs.Demands
use Rattle.rules.specs.Demands.{Written}
use Rattle.rules.specs.Demands.Answer.{refused, answered}
use Rattle.rules.specs.Demands.Written.{wrote}
use Rattle.rules.specs.Reading.{reading, whole}
use Rattle.rules.specs.Reading.Lexer.{start}
use Rattle.rules.specs.Reading.Parser.{parsed}
use Rattle.rules.specs.Outcome.{between, returned, buffer, rule_checked, read_outcome}
use Rattle.rules.proofs.Exactness.Tests.{between-true}
use Rattle.answers.specs.declared.Refusal.{Refusal}
use Rattle.answers.specs.declared.Refusal.TheVariants.{Atoms, LongText, Grammar, AtomNumber, Window, Nodes, Room}
use Rattle.std.specs.Prelude.{Result, Ok, Err, Some, None}
use Rattle.answers.specs.Meaning.{number_of, answer_of}
use Rattle.reader_levels.specs.Phrase.{Phrase}
use Rattle.reader_levels.specs.Records.{top, flaw, records, length-records}
use Rattle.reader_levels.specs.Steps.{Yields}
use Rattle.reader_levels.specs.Parts.{Got, got, failed}
use Rattle.reader.proofs.Records.{records-table, below_top, top_below, good-flaw}

-- ---- the test of a range

le-cases : (a b : ℕ) (x y : Bool) → ltb a b ≡ x → eqb a b ≡ y → is_le (cond x Less (cond y Equal Greater)) ≡ leb a b
le-cases a b true y e f = let h = ltb-true a b e in sym (le-leb a b (omega arith))
le-cases a b false true e f = let h = eqb-true a b f in sym (le-leb a b (omega arith))
le-cases a b false false e f = let h = ltb-false a b e in sym (lt-leb a b (omega (arith, eqb-false a b f)))

pub range-test : (low high n : ℕ) → (is_le (nat_cmp low n) && is_le (nat_cmp n high)) ≡ between low high n
range-test low high n = rw (le-cases low n (ltb low n) (eqb low n) refl refl, le-cases n high (ltb n high) (eqb n high) refl refl) refl

-- what is promised of an answer, and of the buffer
abbrev Kept : ℕ → List ℕ → List ℕ → List ℕ → Result ℕ Refusal → Type 0
Kept m s out out₁ r = record {
  r_value : answer_of r ≡ returned (read_outcome m s (length out));
  out_after : out₁ ≡ buffer (read_outcome m s (length out)) out;
}

module _ (m : ℕ) (s out : List ℕ) where
  refuses : (r : Refusal) → read_outcome m s (length out) ≡ refused (number_of r) → Kept m s out out (Err r)
  refuses r e = record { r_value = sym (ap returned e); out_after = sym (ap (λ (x : Demands.Answer Written). buffer x out) e) }

  pub atoms-refused : between 1 16 m ≡ false → Kept m s out out (Err Atoms)
  unfolding read_outcome
  atoms-refused e = refuses Atoms (rw e refl)

  module _ (passed : between 1 16 m ≡ true) where
    few_atoms : m ≤ 255
    few_atoms = omega (arith, (between-true 1 16 m passed).1)

    pub too_long : 1024 < length s → Kept m s out out (Err LongText)
    unfolding read_outcome
    too_long h = refuses LongText (rw (passed, lt-leb (length s) 1024 h) refl)

    module _ (short : length s ≤ 1024) where
      outcome_of : (x : Maths.Option Rule) → reading s ≡ x → read_outcome m s (length out) ≡ rule_checked m (length out) x
      unfolding read_outcome
      outcome_of x e = rw (passed, le-leb (length s) 1024 short) (ap (rule_checked m (length out)) e)

      module _ (scratch scratch₁ : List ℕ) where
        pub no_rule : Yields s (parsed (of implies) s 0) 0 scratch scratch₁ None → Kept m s out out (Err Grammar)
        unfolding reading
        no_rule told_is = refuses Grammar (outcome_of Maths.none (ap (whole s) (failed s (parsed (of implies) s 0) 0 scratch scratch₁ told_is)))

        module _ (p : Phrase) (told_is : Yields s (parsed (of implies) s 0) 0 scratch scratch₁ (Some p)) where
          first : Got s (parsed (of implies) s 0) 0 scratch scratch₁ p
          first = got s (parsed (of implies) s 0) 0 scratch scratch₁ p told_is

          pub more-text : p.next < length s → Kept m s out out (Err Grammar)
          unfolding reading
          more-text h =
              refuses Grammar (outcome_of Maths.none (ap (whole s) first.is
              ∙ ap (λ (b : Bool). cond b Maths.none (Maths.some first.rule)) (lt-ltb (start s first.end) (length s) (omega (arith, first.skipped)))))

          module _ (to_end : length s ≤ p.next) where
            reading-is : reading s ≡ Maths.some first.rule
            unfolding reading
            reading-is =
                ap (whole s) first.is
                ∙ ap (λ (b : Bool). cond b Maths.none (Maths.some first.rule)) (le-ltb (start s first.end) (length s) (omega (arith, first.skipped)))

            pub atom_too_high : m ≤ p.top → Kept m s out out (Err AtomNumber)
            atom_too_high h =
                let q = first.rule in
                refuses AtomNumber (outcome_of (Maths.some q) reading-is ∙ rw (below_top m q few_atoms, le-ltb (top q) m (omega (arith, first.highest))) refl)

            module _ (atoms : p.top < m) where
              pub window-refused : p.flaw ≡ true → Kept m s out out (Err Window)
              window-refused h =
                  let q = first.rule in
                  refuses Window (outcome_of (Maths.some q) reading-is
                  ∙ rw (
                    below_top m q few_atoms,
                    lt-ltb (top q) m (omega (arith, first.highest)),
                    good-flaw q,
                    sym first.faulty ∙ h,
                  ) refl)

              module _ (allowed : p.flaw ≡ false) where
                no_flaw : flaw first.rule ≡ false
                no_flaw = sym first.faulty ∙ allowed

                pub many_nodes : 128 < p.nodes → Kept m s out out (Err Nodes)
                many_nodes h =
                    let q = first.rule in
                    refuses Nodes (outcome_of (Maths.some q) reading-is
                    ∙ rw (
                      below_top m q few_atoms,
                      lt-ltb (top q) m (omega (arith, first.highest)),
                      good-flaw q,
                      no_flaw,
                      lt-leb (size q) 128 (omega (arith, first.count)),
                    ) refl)

                module _ (few : p.nodes ≤ 128) where
                  pub small-buffer : length out < 8 * p.nodes → Kept m s out out (Err Room)
                  small-buffer h =
                      let q = first.rule in
                      refuses Room (outcome_of (Maths.some q) reading-is
                      ∙ rw (
                        below_top m q few_atoms,
                        lt-ltb (top q) m (omega (arith, first.highest)),
                        good-flaw q,
                        no_flaw,
                        le-leb (size q) 128 (omega (arith, first.count)),
                        lt-leb (8 * size q) (length out) (omega (arith, first.count)),
                      ) refl)

                  module _ (room : 8 * p.nodes ≤ length out) (wide : length scratch ≡ 1024) where
                    outcome_is : read_outcome m s (length out) ≡ answered (wrote (size first.rule) (table_bytes (nodes_of first.rule)))
                    outcome_is =
                        let q = first.rule in
                        outcome_of (Maths.some q) reading-is
                        ∙ rw (
                          below_top m q few_atoms,
                          lt-ltb (top q) m (omega (arith, first.highest)),
                          good-flaw q,
                          no_flaw,
                          le-leb (size q) 128 (omega (arith, first.count)),
                          le-leb (8 * size q) (length out) (omega (arith, first.count)),
                        ) refl

                    -- the first records of the scratch
                    scratch_is : take (8 * p.nodes) scratch₁ ≡ records 0 first.rule
                    scratch_is =
                        let g = first in
                        let l = length-records 0 g.rule in
                        ap (take (8 * p.nodes)) (g.wrote wide ∙ sets-eq (records 0 g.rule) scratch 0 (omega (arith, g.count)))
                        ∙ take_at (records 0 g.rule) (drop (0 + length (records 0 g.rule)) scratch) (8 * p.nodes) (omega (arith, g.count))

                    table_is : take (8 * p.nodes) scratch₁ ≡ table_bytes (nodes_of first.rule)
                    table_is =
                        let q = first.rule in
                        scratch_is ∙ records-table q (top_below m q few_atoms (omega (arith, first.highest))) no_flaw
                        (omega (arith, first.count))

                    pub part_length : 8 * p.nodes ≡ length (take (8 * p.nodes) scratch₁)
                    part_length = omega (arith, ap length scratch_is, length-records 0 first.rule, first.count)

                    pub part-fits : 8 * p.nodes ≤ length scratch₁
                    part-fits = omega (arith, ap length (first.wrote wide), length-sets scratch (8 * 0) (records 0 first.rule))

                    pub all_read : (new : List ℕ) → new ≡ take (8 * p.nodes) scratch₁ → Kept m s out (new ++ drop (8 * p.nodes) out) (Ok p.nodes)
                    all_read new e =
                        let t = table_bytes (nodes_of first.rule) in
                        let c : p.nodes ≡ size first.rule = omega (arith, first.count) in
                        let n : 8 * p.nodes ≡ length t = part_length ∙ ap length table_is in
                        record {
                          r_value = ap answered c ∙ sym (ap returned outcome_is);
                          out_after =
                              ap (λ (l : List ℕ). l ++ drop (8 * p.nodes) out) (e ∙ table_is)
                              ∙ ap (λ (k : ℕ). t ++ drop k out) n
                              ∙ sym (ap (λ (x : Demands.Answer Written). buffer x out) outcome_is);
                        }
