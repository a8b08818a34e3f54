-- Lines one after the other, read back: a block is the text of some lines with fields, and what those say.
use Rattle.std.specs.Prelude.{◌≡◌, Bool, true, false, cond, length}
use Rattle.std.proofs.Math.Path.{refl}
use Rattle.std.proofs.Common.{sym, ap, ◌∙◌, arith, ne_eqb}
use mathlib.Core.List.{List, [], ◌∷◌, ◌++◌, append_assoc, append-nil}
use Rattle.std.proofs.Math.Option.{Option, some}
use Prim.Native.Nat.{ℕ, zero, suc, ◌+◌, ◌<◌}
use Rattle.lists.specs.Flat.{flat}
use Rattle.rules.specs.Rows.{Row}
use Rattle.mps.specs.Page.{ended, each_row}
use Rattle.mps.specs.Parsing.{Fields, Section, lines_in, fields_in, indented, cut, cut_at, each, facts_in}
use Rattle.mps.proofs.FieldLaws.{Line, Unbroken}

-- ---- the lines of a text

lines-ended : (x rest : List ℕ) → Unbroken x → lines_in (ended x ++ rest) ≡ x ∷ lines_in rest
unfolding lines_in
lines-ended [] rest h = refl
lines-ended (b ∷ x) rest h = rw (ne_eqb b 10 (λ e. omega (arith, h.0)), lines-ended x rest h.1) refl

-- ---- blocks

module _ {A : Type 0} (fact : Fields → Option A) where
  -- lines that begin with a space, and what each says
  pub data Parses : List (List ℕ) → List A → Type 0 where
    nothing : Parses [] []
    more : {l : List ℕ} {ls : List (List ℕ)} {f : A} {fs : List A} → indented l ≡ true → fact (fields_in l) ≡ some f → Parses ls fs → Parses (l ∷ ls) (f ∷ fs)

  both-parse : {ls ms : List (List ℕ)} {fs gs : List A} → Parses ls fs → Parses ms gs → Parses (ls ++ ms) (fs ++ gs)
  both-parse nothing u = u
  both-parse (more i e t) u = more i e (both-parse t u)

  facts_parse : {ls : List (List ℕ)} {fs : List A} → Parses ls fs → facts_in fact ls ≡ some fs
  unfolding each
  facts_parse nothing = refl
  facts_parse (more i e t) = rw (e, facts_parse t) refl

  -- such lines belong to the section that stands before them
  cut-parse : {ls : List (List ℕ)} {fs : List A} → Parses ls fs → (rest : List (List ℕ)) →
      cut (ls ++ rest) ≡ record { pending = ls ++ (cut rest).pending; sections = (cut rest).sections }
  unfolding cut cut_at
  cut-parse nothing rest = refl
  cut-parse (more {l} {ls} i e t) rest = rw (i, cut-parse t rest) refl

  pub record Block (text : List ℕ) (facts : List A) : Type 0 where
    pub lines : List (List ℕ)
    pub split : (rest : List ℕ) → lines_in (text ++ rest) ≡ lines ++ lines_in rest
    pub parses : Parses lines facts

  pub block_none : Block [] []
  block_none = record { lines = []; split = λ rest. refl; parses = nothing }

  pub block-line : {text : List ℕ} {fields : Fields} {f : A} → Line text fields → fact fields ≡ some f → Block (ended text) (f ∷ [])
  block-line {text} l e =
      record {
        lines = text ∷ [];
        split = λ rest. lines-ended text rest l.unbroken;
        parses = more l.starts (ap fact l.reads ∙ e) nothing;
      }

  pub block-both : {s t : List ℕ} {fs gs : List A} → Block s fs → Block t gs → Block (s ++ t) (fs ++ gs)
  block-both {s} {t} a b =
      record {
        lines = a.lines ++ b.lines;
        split = λ rest.
            ap lines_in (append_assoc s t rest) ∙ a.split (t ++ rest) ∙ ap (λ (ls : List (List ℕ)). a.lines ++ ls) (b.split rest)
            ∙ sym (append_assoc a.lines b.lines (lines_in rest));
        parses = both-parse a.parses b.parses;
      }

  pub block_cond : (b : Bool) {s t : List ℕ} {fs gs : List A} → Block s fs → Block t gs → Block (cond b s t) (cond b fs gs)
  block_cond true x y = x
  block_cond false x y = y

  pub block-flat : (text : ℕ → List ℕ) (facts : ℕ → List A) (n : ℕ) → ((i : ℕ) → i < n → Block (text i) (facts i)) → Block (flat text n) (flat facts n)
  unfolding flat
  block-flat text facts zero h = block_none
  block-flat text facts (suc n) h = block-both (block-flat text facts n (λ i l. h i (omega arith))) (h n (omega arith))

  pub block-each : (text : ℕ → Row → List ℕ) (facts : ℕ → Row → List A) (i : ℕ) (rs : List Row) →
      ((j : ℕ) (r : Row) → j < i + length rs → Block (text j r) (facts j r)) → Block (each_row text i rs) (each_row facts i rs)
  unfolding each_row
  block-each text facts i [] h = block_none
  block-each text facts i (r ∷ rs) h = block-both (h i r (omega arith)) (block-each text facts (i + 1) rs (λ j q l. h j q (omega arith)))

-- ---- sections

-- the sections of a text whose first line is a section's name
pub record Sectioned (text : List ℕ) (sections : List Section) : Type 0 where
  pub cut-is : cut (lines_in text) ≡ record { pending = []; sections = sections }

pub no_sections : Sectioned [] []
unfolding lines_in cut
no_sections = record { cut-is = refl }

-- a section's name, and no lines with fields
pub bare-headed : (word : List ℕ) {rest : List ℕ} {sections : List Section} → Unbroken word → indented word ≡ false →
    Sectioned rest sections → Sectioned (ended word ++ rest) (record { name = word; lines = [] } ∷ sections)
unfolding cut cut_at
bare-headed word {rest} h i s = record { cut-is = rw (lines-ended word rest h, i, s.cut-is) refl }

-- a section's name and a block
module _ {A : Type 0} {fact : Fields → Option A} where
  pub headed : (word : List ℕ) {text rest : List ℕ} {facts : List A} {sections : List Section} → Unbroken word → indented word ≡ false →
      (b : Block fact text facts) → Sectioned rest sections →
      Sectioned (ended word ++ (text ++ rest)) (record { name = word; lines = b.lines } ∷ sections)
  unfolding cut cut_at
  headed word {text} {rest} h i b s =
      record {
        cut-is = rw (lines-ended word (text ++ rest) h, i, b.split rest, cut-parse fact b.parses (lines_in rest), s.cut-is, append-nil b.lines) refl;
      }

  pub block_facts : {text : List ℕ} {facts : List A} (b : Block fact text facts) → facts_in fact b.lines ≡ some facts
  block_facts b = facts_parse fact b.parses
