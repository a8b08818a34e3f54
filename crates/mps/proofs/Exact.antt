-- The page's outcome is exact: refused with the first that applies, of 1, 2, 13, 7 and 11, and else the page and its length.
use Rattle.std.specs.Prelude.{◌≡◌, refl, List, ℕ, ◌≤◌, ◌<◌, leb, length}
use Rattle.std.proofs.Common.{sym, ap, ◌∙◌, arith, leb-false, leb-true}
use Rattle.rules.specs.Table.{Node, Good}
use Rattle.rules.specs.TableTest.{nodes_in}
use Rattle.rules.proofs.TableTest.{good-nodes}
use Rattle.rules.specs.Refusals.{order, place, TableRefused}
use Rattle.rules.specs.Demands.{Written}
use Rattle.rules.specs.Demands.Written.{wrote}
use Rattle.rules.proofs.Ladder.{From, rung, exact_answered}
use Rattle.rules.proofs.Exactness.Tests.{at_least}
use Rattle.rules.proofs.Exactness.Tables.{table-under, table_exact, of-nodes}
use Rattle.mps.specs.Page.{page}
use Rattle.mps.specs.Outcome.{page_outcome}
use Rattle.mps.specs.Refused.{PageRefused, PageExact}

module _ (T M L : ℕ) (table : List ℕ) (room : ℕ) where
  abbrev PageIs : Written → Type 0
  PageIs w = (ns : List Node) × Good M table ns × (w ≡ wrote (length (page T M L ns)) (page T M L ns))

  page-down : (j : ℕ) → PageRefused T M L table room j → place j < place 8 → TableRefused T M L table j
  page-down j x h = go x h
    where
      go : {j : ℕ} → PageRefused T M L table room j → place j < place 8 → TableRefused T M L table j
      go (PageRefused.table-refused x) h = x
      go (PageRefused.short g x) h = absurd (omega arith)

  page-from : (k : ℕ) → From order (PageRefused T M L table room) PageIs (place 8) →
      (place 11 < k → (ns : List Node) → Good M table ns → length (page T M L ns) ≤ room) → k ≤ 13 → (j : ℕ) → PageRefused T M L table room j →
      (k ≤ place j) × (place j < 13)
  page-from k a c u j x = go (a j x) x
    where
      go : {j : ℕ} → place 8 ≤ place j → PageRefused T M L table room j → (k ≤ place j) × (place j < 13)
      go h (PageRefused.table-refused x) = absurd (omega (arith, table-under T M L table x))
      go h (PageRefused.short {ns} g x) = (at_least (place 11) k (λ i. omega (arith, c i ns g)), omega arith)

pub page_exact : PageExact page_outcome
unfolding page_outcome
page_exact T M L table room =
    let Refused : ℕ → Type 0 = PageRefused T M L table room in
    let AnswerIs : Written → Type 0 = PageIs T M L table room in
    let text = page T M L (nodes_in table) in
    table_exact T M L table Refused AnswerIs (λ k x. PageRefused.table-refused x) (page-down T M L table room) _
    (λ s m l g low.
    rung order Refused AnswerIs (leb (length text) room) 11 _
    (λ j x. (page-from T M L table room (place 11) low (λ h. absurd (omega arith)) (omega arith) j x).0)
    (λ e. PageRefused.short g (leb-false (length text) room e))
    (λ e. let f = of-nodes T M L table (λ ns. length (page T M L ns) ≤ room) (leb-true (length text) room e) in
    exact_answered order Refused AnswerIs (wrote (length text) text)
    (λ j x. let z = page-from T M L table room 13 low (λ h. f) (omega arith) j x in omega (arith, z))
    (nodes_in table, g, refl)
    (λ w i. ap (λ (l : List Node). wrote (length (page T M L l)) (page T M L l)) (sym (good-nodes M table i.0 i.1)) ∙ sym i.2)))
