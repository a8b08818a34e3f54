-- The sizes of program rowlist's buffers.
use Rattle.std.specs.Prelude.{ℕ}

-- "and holds 65,536 bytes of rows"
abbrev pub rows_room : ℕ
rows_room = 65536

-- any list of so many rows fits so many bytes of text
abbrev pub listing_room : ℕ
listing_room = 184000
