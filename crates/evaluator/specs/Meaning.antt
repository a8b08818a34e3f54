-- What a first slot says: "the first slot with a set bit, or says that there is none".
use Rattle.std.proofs.Math.Option.{Option, none, some}
use Rattle.std.specs.Prelude.{ℕ, Option as Found, Some, None}

abbrev pub first_slot_of : Found ℕ → Option ℕ
first_slot_of (Some t) = some t
first_slot_of None = none
