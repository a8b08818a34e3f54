-- `Cursor::put_bytes` meets its contract: the part from the cursor on takes all of the bytes.
use Rattle.std.proofs.Common.{rules, ◌≡◌, ◌+◌, ◌-◌, length, refl, arith, append_assoc, drop-drop}
use Rattle.std.proofs.lemmas.List.Edits.{sets-eq}
use Rattle.cursor.proofs.Cursor.put_bytes.Goals as goal

pub returns : goal.returns
returns c =
    let a = c.args in
    let at = a.self.now.at in
    let xs = a.bytes.now in
    let n : at + length xs - at ≡ length xs = omega arith in
    record {
      same = refl;
      room = search rules;
      put = record {
        content = rw (sets-eq xs a.self.now.out.now at (omega arith), n, c.copy_from_slice.ensures.after, drop-drop, append_assoc) refl;
        ends = refl;
      };
    }
