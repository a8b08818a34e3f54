-- The lines of rows, one after the other.
use Rattle.std.specs.Prelude.{◌≡◌, List, [], ◌∷◌, ◌++◌, map, take, ℕ, ◌+◌, ◌<◌, length}
use Rattle.std.proofs.Common.{sym, ap, ◌∙◌, append-nil, get_or, arith}
use Rattle.std.proofs.lemmas.List.{take_more, map-append, length-take, length-map}
use Rattle.rules.specs.Rows.{Row}
use Rattle.mps.specs.Page.{each_row}
use Rattle.mps_row.specs.Laws.{each_append}

module _ {A : Type 0} (line : ℕ → Row → List ℕ) (i : ℕ) (f : A → Row) (xs : List A) where
  pub each_more : (j : ℕ) (d : A) → j < length xs →
      each_row line i (map f (take j xs)) ++ line (i + j) (f (get_or xs j d)) ≡ each_row line i (map f (take (j + 1) xs))
  unfolding each_row
  each_more j d h =
      let passed : List Row = map f (take j xs) in
      let long : length passed ≡ j = omega (arith, length-map (take j xs) f, length-take j xs) in
      sym (
      ap (λ (l : List A). each_row line i (map f l)) (take_more xs j d h) ∙ ap (each_row line i) (map-append f (take j xs) (get_or xs j d ∷ []))
      ∙ each_append line i passed (f (get_or xs j d) ∷ [])
      ∙ ap (λ (l : List ℕ). each_row line i passed ++ l) (append-nil _ ∙ ap (λ (k : ℕ). line (i + k) (f (get_or xs j d))) long))
