-- What the contracts of the levels say.
use Rattle.std.specs.Prelude.{◌≡◌, cond, List, ℕ, zero, suc, ◌+◌, ◌-◌, ◌*◌, max, ◌||◌, ◌≤◌, ◌<◌, eqb, length, Option, Some, None}
use Rattle.std.proofs.Math.Option as Maths
use Rattle.std.proofs.lemmas.List.Edits.{sets}
use Rattle.rules.specs.Quantities.{text_limit}
use Rattle.rules.specs.Rule.{Unary, Rule, size, height}
use Rattle.rules.specs.Rule.Unary.{not, eventually, always}
use Rattle.rules.specs.Rule.Binary.{and, or, implies, until}
use Rattle.rules.specs.Grammar.{Level}
use Rattle.rules.specs.Grammar.Level.{of, single}
use Rattle.rules.specs.Reading.Lexer.{start, sign_at}
use Rattle.rules.specs.Reading.Parser.{Parsed}
use Rattle.reader_lexer.specs.Signs.{sign_from, position_of}
use Rattle.table.specs.declared.Kind.{Kind}
use Rattle.table.specs.declared.Kind.TheVariants.{Not, Eventually, Always, Within, Throughout}
use Rattle.reader_levels.specs.Phrase.{Phrase}
use Rattle.reader_levels.specs.Records.{top, window_flaw, flaw, entry, records}

-- 01's levels: Rule, Or, And, Until and Single
abbrev pub rule_level : Level
rule_level = of implies

abbrev pub or_level : Level
or_level = of or

abbrev pub and_level : Level
and_level = of and

abbrev pub until_level : Level
until_level = of until

abbrev pub single_level : Level
single_level = single

-- the scratch has room for the records of 128 nodes
abbrev pub scratch_length : ℕ
scratch_length = 1024

-- what a level asks: the text is short, and there are no more nodes so far than bytes before `at`, so that each node has room
pub record Ready (text : List ℕ) (at n : ℕ) : Type 0 where
  pub short : length text ≤ text_limit
  pub few : n ≤ at

-- bytes are written into the scratch from `at` on, as far as it goes: it has room for the records of 128 nodes
abbrev pub Wrote : (before : List ℕ) (at : ℕ) (bytes after : List ℕ) → Type 0
Wrote before at bytes after = length before ≡ scratch_length → after ≡ sets before at bytes

-- the part of a rule that ends at `end`, with spaces behind it skipped, and whose nodes are numbered from n on
abbrev pub part_of : (text : List ℕ) → Rule → (end n : ℕ) → Phrase
part_of text p end n = record { next = start text end; nodes = n + size p; top = top p; flaw = flaw p; height = height p }

-- what a level tells of what it parsed: its part, and the records of the nodes from n on
abbrev pub Yields : (text : List ℕ) → Parsed → (n : ℕ) → (before after : List ℕ) → Option Phrase → Type 0
Yields text Parsed.fail n before after r = r ≡ None
Yields text (Parsed.part p end) n before after r = (r ≡ Some (part_of text p end n)) × Wrote before (8 * n) (records n p) after

-- there is a last node, no more than a short text can have
pub record Room (p : Phrase) : Type 0 where
  pub some : 1 ≤ p.nodes
  pub few : p.nodes < text_limit
  pub low : p.height < p.nodes

-- the record of a node over two parts, behind the right one
abbrev pub WroteOver : (before : List ℕ) (kind : ℕ) (left right : Phrase) (after : List ℕ) → Type 0
WroteOver before kind l r after = Wrote before (8 * r.nodes) (entry kind (l.nodes - 1) (r.nodes - 1) 0 0 (max l.height r.height + 1)) after

-- the record of a node over one part, with the window x, y
abbrev pub WroteAbove : (before : List ℕ) (kind x y : ℕ) (part : Phrase) (after : List ℕ) → Type 0
WroteAbove before kind x y p after = Wrote before (8 * p.nodes) (entry kind (p.nodes - 1) 0 x y (p.height + 1)) after

-- one node more, over two parts
abbrev pub joined : (left right : Phrase) → Phrase
joined l r = record { next = r.next; nodes = r.nodes + 1; top = max l.top r.top; flaw = l.flaw || r.flaw; height = max l.height r.height + 1 }

-- one node more, over one part, with the window x, y
abbrev pub applied : (x y : ℕ) → Phrase → Phrase
applied x y p = record { next = p.next; nodes = p.nodes + 1; top = p.top; flaw = p.flaw || window_flaw x y; height = p.height + 1 }

-- the kind of an operator of one side
abbrev pub unary_as : Unary → Kind
unary_as not = Not
unary_as eventually = Eventually
unary_as always = Always

abbrev pub prefix_kind : Maths.Option Unary → Option Kind
prefix_kind Maths.none = None
prefix_kind (Maths.some u) = Some (unary_as u)

-- the kind of F or G with a window, by the operator's byte
abbrev pub windowed : ℕ → Kind
windowed b = cond (eqb b 70) Within Throughout

-- the position past the opening bracket of a window behind the operator of a byte: F and G have windows
abbrev pub opened : (b : ℕ) → List ℕ → ℕ → Option ℕ
opened b text at = cond (eqb b 33) None (position_of (sign_at text at 91))

-- a part in a bracket: x is the position past the closing one, or 0
abbrev pub closed_at : List ℕ → Phrase → (x : ℕ) → Option Phrase
closed_at text p zero = None
closed_at text p (suc q) = Some (record { next = start text (suc q); nodes = p.nodes; top = p.top; flaw = p.flaw; height = p.height })

abbrev pub closed : List ℕ → Phrase → Option Phrase
closed text p = closed_at text p (sign_from text p.next 41)
