-- Lists by their elements: the list of f 0 to f (n - 1).
use Rattle.std.specs.Prelude.{◌≡◌, refl, List, [], ◌∷◌, ◌++◌, map, ℕ, zero, suc, ◌+◌, ◌<◌, length, get_or}
use Rattle.std.proofs.Common.{ap, ap₂, ◌∙◌, arith}

abbrev pub tabulate {ℓ} : {A : Type ℓ} → ℕ → (ℕ → A) → List A
tabulate zero f = []
tabulate (suc n) f = f 0 ∷ tabulate n (λ i. f (suc i))

pub length-tabulate {ℓ} : {A : Type ℓ} (n : ℕ) (f : ℕ → A) → length (tabulate n f) ≡ n
length-tabulate zero f = refl
length-tabulate (suc n) f = ap suc (length-tabulate n (λ i. f (suc i)))

pub get_d_tabulate {ℓ} : {A : Type ℓ} (n : ℕ) (f : ℕ → A) (i : ℕ) (d : A) → i < n → get_or (tabulate n f) i d ≡ f i
get_d_tabulate zero f i d h = absurd (omega arith)
get_d_tabulate (suc n) f zero d h = refl
get_d_tabulate (suc n) f (suc i) d h = get_d_tabulate n (λ i. f (suc i)) i d (omega arith)

pub tabulate-same : {A : Type 0} (n : ℕ) (f g : ℕ → A) → ((i : ℕ) → i < n → f i ≡ g i) → tabulate n f ≡ tabulate n g
tabulate-same zero f g e = refl
tabulate-same (suc n) f g e = ap₂ ◌∷◌ (e 0 (omega arith)) (tabulate-same n (λ i. f (suc i)) (λ i. g (suc i)) (λ i h. e (suc i) (omega arith)))

pub map-tabulate : {A B : Type 0} (f : A → B) (n : ℕ) (g : ℕ → A) → map f (tabulate n g) ≡ tabulate n (λ i. f (g i))
map-tabulate f zero g = refl
map-tabulate f (suc n) g = ap (λ (l : List _). f (g 0) ∷ l) (map-tabulate f n (λ i. g (suc i)))

pub tabulate-append : {A : Type 0} (m n : ℕ) (f : ℕ → A) → tabulate (m + n) f ≡ tabulate m f ++ tabulate n (λ i. f (m + i))
tabulate-append zero n f =
    let e : zero + n ≡ n = omega arith in
    ap (λ (k : ℕ). tabulate k f) e ∙ tabulate-same n f (λ i. f (zero + i)) (λ i h. ap f (omega arith))
tabulate-append (suc m) n f =
    let e : suc m + n ≡ suc (m + n) = omega arith in
    ap (λ (k : ℕ). tabulate k f) e
    ∙ ap (λ (l : List _). f 0 ∷ l) (tabulate-append m n (λ i. f (suc i)) ∙ ap (λ (l : List _). tabulate m (λ i. f (suc i)) ++ l)
    (tabulate-same n (λ i. f (suc (m + i))) (λ i. f (suc m + i)) (λ i h. ap f (omega arith))))
