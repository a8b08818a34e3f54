-- Texts written out, for worked examples: the bytes of a text, and of lines that each end with a line feed. Of ASCII characters only.
use Rattle.std.specs.Prelude.{List, ◌++◌, ℕ}
use Prim.Native.Char.{code}
use Prim.Native.String.{String, [], ◌∷◌}

abbrev pub bytes : String → List ℕ
bytes [] = List.[]
bytes (c ∷ text) = List.◌∷◌ (code c) (bytes text)

abbrev pub lines : List String → List ℕ
lines List.[] = List.[]
lines (List.◌∷◌ text rest) = bytes text ++ List.◌∷◌ 10 (lines rest)
