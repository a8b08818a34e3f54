-- Where the rows of the nodes begin and where their V's do, and the nodes in whose rows a part stands, as code holds them.
use Rattle.std.specs.Prelude.{◌≡◌, List, ℕ, ◌≤◌, ◌<◌, length, get_or, take}
use Rattle.std.proofs.Common.{◌∙◌, arith, length-take-le, get_or-take}
use Rattle.rules.specs.Table.{Node}
use Rattle.row.specs.NodeRows.{rows_to, kept_place}
use Rattle.mps_users.specs.Users.{users}
use denote.Struct.Props.{props}
use Rattle.mps_users.specs.declared.Place.{Place}

-- no node's place
abbrev pub nowhere : Place
nowhere = record { first_row = 0; kept = 0 }

-- of each of the first n nodes: the number of its first row, and the first variable of its V
pub record Layout (T M L : ℕ) (ns : List Node) (n : ℕ) (layout : List Place) : Type 0 where
  pub starts : (i : ℕ) → i < n → (get_or layout i nowhere).first_row ≡ length (rows_to T M L ns i)
  pub kepts : (i : ℕ) → i < n → (get_or layout i nowhere).kept ≡ kept_place T M ns i
  pub long : length layout ≡ 128

-- it is known in one way at most, as a ghost field asks
pub Layout-prop : (T M L : ℕ) (ns : List Node) (n : ℕ) (layout : List Place) → IsProp (Layout T M L ns n layout)
Layout-prop T M L ns n layout = hlevel props

-- the users of part x stand at the start of the list
pub record Found (M : ℕ) (ns : List Node) (x : ℕ) (list : List ℕ) (count : ℕ) : Type 0 where
  pub counted : count ≡ length (users M ns x)
  pub few : count ≤ 128
  pub are : (j : ℕ) → j < count → get_or list j 0 ≡ get_or (users M ns x) j 0
  pub low : (j : ℕ) → j < count → get_or list j 0 < length ns
  pub room : count ≤ length list

pub Found-prop : (M : ℕ) (ns : List Node) (x : ℕ) (list : List ℕ) (count : ℕ) → IsProp (Found M ns x list count)
Found-prop M ns x list count = hlevel props

-- and in its part that holds no more
pub found_part : {M : ℕ} {ns : List Node} {x : ℕ} {list : List ℕ} {count : ℕ} → Found M ns x list count
    → Found M ns x (take count list) (length (take count list))
found_part {M} {ns} {x} {list} {count} f =
    let e : length (take count list) ≡ count = length-take-le count list f.room in
    rw e
    (record {
      counted = f.counted;
      few = f.few;
      are = λ j h. get_or-take count list j 0 h ∙ f.are j h;
      low = λ j h. rw (get_or-take count list j 0 h) (f.low j h);
      room = omega (arith, e);
    })
