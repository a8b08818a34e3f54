use Rattle.std.specs.Prelude.{◌≡◌, ◌+◌, ◌≤◌, min, max, length, drop}
use Rattle.rules.specs.Reading.Lexer.{digits, value}
use Rattle.reader_lexer.proofs.digits.Given as goal

abbrev pub invariant-loop-i : goal.invariant-loop-i
invariant-loop-i l = record {
  count : l.i + digits (drop l.i l.text) ≡ l.from + digits (drop l.from l.text);
  number : min 255 (value l.value (drop l.i l.text)) ≡ min 255 (value 0 (drop l.from l.text));
  small : l.value ≤ 255;
  inside : l.i ≤ max l.from (length l.text);
}
