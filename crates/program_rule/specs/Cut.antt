-- What is printed is the same where numbers from 1,000 on and the text past 1,025 bytes are cut.
use Rattle.std.specs.Prelude.{◌≡◌, List, ℕ, min, ◌<◌, take}
use Rattle.rules.specs.Quantities.{text_limit}

-- `print` takes no notice of the cuts
abbrev pub Cut : ((T M : ℕ) (text : List ℕ) → List ℕ) → Type 0
Cut print = (T M room : ℕ) (text : List ℕ) → text_limit < room → print (min 1000 T) (min 1000 M) (take room text) ≡ print T M text
