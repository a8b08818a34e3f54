-- Bounds on figures and on sums of them, in millionths and without their sign. They fit 64 bits.
use Rattle.std.specs.Prelude.{ℕ, ◌+◌, ◌*◌, ◌^◌}
use Rattle.rules.specs.Quantities.{one}

-- a figure
abbrev pub figure : ℕ
figure = 2 ^ 31

-- a figure that is not outside the limits, with a tolerance of 16 bits
abbrev pub near : ℕ
near = one + 2 ^ 16

-- a coefficient of 8 bits times a figure
abbrev pub product : ℕ
product = 2 ^ 38

-- a right side of 8 bits
abbrev pub right : ℕ
right = 128 * one

-- the sum of a row: of three products, or of a window's figures and the node's
abbrev pub row_sum : ℕ
row_sum = 3 * product

-- the sum of the figures at 64 slots
abbrev pub window_sum : ℕ
window_sum = 64 * figure

-- what a row falls short by
abbrev pub shortfall : ℕ
shortfall = 2 ^ 40

-- a number of which a difference is taken
abbrev pub operand : ℕ
operand = 2 ^ 41
