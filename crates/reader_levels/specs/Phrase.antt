-- A part by its five numbers, which its code holds.
use Rattle.std.specs.Prelude.{Bool, ℕ, ◌/◌, ◌%◌, eqb, Option}
use Rattle.std.specs.Option.{option_map}
use Rattle.reader_levels.specs.declared.Part.{Part}

pub record Phrase : Type 0 where
  pub next : ℕ
  pub nodes : ℕ
  pub top : ℕ
  pub flaw : Bool
  pub height : ℕ

abbrev pub phrase : (next nodes top : ℕ) → (flaw : Bool) → (height : ℕ) → Phrase
phrase next nodes top flaw height = record { next = next; nodes = nodes; top = top; flaw = flaw; height = height }

-- position, nodes and height in 16 bits each, the highest atom number in 8, and 1 for a flaw, lowest first
abbrev pub view : Part → Phrase
view p =
    phrase (p.code % 65536) (p.code / 65536 % 65536) (p.code / 281474976710656 % 256) (eqb (p.code / 72057594037927936) 1)
    (p.code / 4294967296 % 65536)

abbrev pub views : Option Part → Option Phrase
views r = option_map view r
