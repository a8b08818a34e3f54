-- What a level's answer tells of the parse: a rule with its records, or none.
use Rattle.std.specs.Prelude.{◌≡◌, refl, List, ℕ, ◌+◌, ◌*◌, Some, None}
use Rattle.std.proofs.Common.{ap}
use Rattle.rules.specs.Rule.{Rule, size, height}
use Rattle.rules.specs.Reading.Lexer.{start}
use Rattle.rules.specs.Reading.Parser.{Parsed}
use Rattle.reader_levels.specs.Phrase.{Phrase}
use Rattle.reader_levels.specs.Records.{top, flaw, records}
use Rattle.reader_levels.specs.Steps.{Yields, Wrote, part_of}

pub record Got (s : List ℕ) (x : Parsed) (n : ℕ) (before after : List ℕ) (p : Phrase) : Type 0 where
  pub rule : Rule
  pub end : ℕ
  pub is : x ≡ Parsed.part rule end
  pub part : p ≡ part_of s rule end n
  pub skipped : p.next ≡ start s end
  pub count : p.nodes ≡ n + size rule
  pub highest : p.top ≡ top rule
  pub faulty : p.flaw ≡ flaw rule
  pub tallest : p.height ≡ height rule
  pub wrote : Wrote before (8 * n) (records n rule) after

pub got : (s : List ℕ) (x : Parsed) (n : ℕ) (before after : List ℕ) (p : Phrase) → Yields s x n before after (Some p) → Got s x n before after p
got s Parsed.fail n before after p h = cc
got s (Parsed.part q y) n before after p h =
    let e : p ≡ part_of s q y n = cc in
    record {
      rule = q;
      end = y;
      is = refl;
      part = e;
      skipped = ap (λ (x : Phrase). x.next) e;
      count = ap (λ (x : Phrase). x.nodes) e;
      highest = ap (λ (x : Phrase). x.top) e;
      faulty = ap (λ (x : Phrase). x.flaw) e;
      tallest = ap (λ (x : Phrase). x.height) e;
      wrote = h.1;
    }

pub failed : (s : List ℕ) (x : Parsed) (n : ℕ) (before after : List ℕ) → Yields s x n before after None → x ≡ Parsed.fail
failed s Parsed.fail n before after h = refl
failed s (Parsed.part p y) n before after h = cc
