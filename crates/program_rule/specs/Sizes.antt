-- The sizes of the programs' buffers.
use Rattle.std.specs.Prelude.{ℕ}

-- the nodes of any table
abbrev pub node_room : ℕ
node_room = 128

-- any table: 128 records of 8 bytes
abbrev pub table_room : ℕ
table_room = 1024

-- what is kept of line 2: enough to tell a text that is too long
abbrev pub text_room : ℕ
text_room = 1025

-- a refusal or `bad input` fits
abbrev pub refusal_room : ℕ
refusal_room = 20
