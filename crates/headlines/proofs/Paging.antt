-- Proofs of what is said of the page writer, from what its contract says.
use Rattle.std.specs.Prelude.{◌≡◌, List, ℕ, length, take, drop}
use Rattle.std.proofs.Common.{sym, ap, ◌∙◌, take_at}
use Rattle.rules.specs.Judge.{None}
use Rattle.rules.specs.Refusals.{TableRefused}
use Rattle.rules.specs.Demands.{Answer}
use Rattle.rules.specs.Demands.Written.{wrote}
use Rattle.rules.specs.Outcome.{returned, buffer}
use Rattle.mps.specs.Page.{page}
use Rattle.mps.specs.Outcome.{page_outcome}
use Rattle.mps.specs.Refused.{PageRefused}
use Rattle.mps.proofs.Exact.{page_exact}
use Rattle.mps.specs.Parsing.{parse_page}
use Rattle.mps.proofs.Proved.{page-says}
use Rattle.mps.proofs.Meaning.{same_meaning}
use Rattle.headlines.proofs.Refusing.{refuses, slots-allowed, atoms-allowed, loop-allowed}
use Rattle.headlines.proofs.Answering.{answers}
use Rattle.headlines.specs.Page.{PageRefuses, PageAnswers, PageMeans}

module _ (t m l : ℕ) (table : List ℕ) (answer : Answer ℕ) (out out' : List ℕ)
    (told : answer ≡ returned (page_outcome t m l table (length out))) (left : out' ≡ buffer (page_outcome t m l table (length out)) out) where
  pub page-refuses : PageRefuses t m l table answer out out'
  page-refuses =
      refuses (PageRefused t m l table (length out)) _ (page_outcome t m l table (length out)) (page_exact t m l table (length out)) answer out out' told left

  pub page-answers : PageAnswers t m l table answer out out'
  page-answers n =
      answers (PageRefused t m l table (length out)) _ (page_outcome t m l table (length out)) (page_exact t m l table (length out)) answer out out'
      told left n _
      (λ bytes i h. let e : n ≡ length (page t m l i.0) = cc i.2 in let f : bytes ≡ page t m l i.0 = cc i.2 in (i.0, i.1, e, rw f at h))
      (λ i. (page t m l i.0, (i.0, i.1, ap (λ (k : ℕ). wrote k (page t m l i.0)) i.2)))

  pub page-means : PageMeans t m l table answer out'
  page-means n e =
      let (none, (ns, good, long, held)) = (page-answers n).0 e in
      let bytes : take n out' ≡ page t m l ns = ap (take n) held ∙ take_at (page t m l ns) (drop (length (page t m l ns)) out) n (sym long) in
      let passed : None (TableRefused t m l table) = λ k x. none k (PageRefused.table-refused x) in
      let slots = slots-allowed t m l table passed in
      let atoms = atoms-allowed t m l table passed in
      let loop = loop-allowed t m l table passed in
      (ns, good, ap parse_page bytes ∙ page-says t m l table ns slots atoms loop good, same_meaning t m l table ns slots atoms loop good)
