-- Request N8, "With L equal to T everything is as it was": the page and its call, proved.
use Rattle.std.specs.Prelude.{◌≡◌, refl, false, List, ℕ, ◌*◌, ◌≤◌, ◌<◌, eqb, length}
use Rattle.std.proofs.Common.{sym, ap, ap₂, subst, ◌∙◌}
use Rattle.rules.specs.Table.{Node}
use Rattle.rules.specs.Demands.Written.{wrote}
use Rattle.rules.proofs.NoLoop.{same_rows, same-variables, same-table, table-old, no_slots, exact_too}
use Rattle.mps.specs.Page.{page_of, page}
use Rattle.mps.specs.Outcome.{page_outcome}
use Rattle.mps.specs.Refused.{PageRefused}
use Rattle.mps.proofs.Exact.{page_exact}
use Rattle.mps.specs.Before.{page_before, PageRefusedBefore, PageExactBefore}

pub same-page : (T M : ℕ) → 1 ≤ T → (ns : List Node) → page T M T ns ≡ page_before T M ns
unfolding page
same-page T M 0<T ns = ap₂ (page_of (M * T)) (same-variables T M ns) (same_rows T M 0<T ns)

-- the call, for every T
pub same-page_call : PageExactBefore (λ T M table room. page_outcome T M T table room)
same-page_call T M table room =
    exact_too T _ _ _ _ (page_outcome T M T table room) (λ k x. old x)
    (λ h. let n = no_slots T M table h in (PageRefused.table-refused n.0, PageRefusedBefore.table-refused n.1))
    (λ h k. (to h, from h))
    (λ h w. (λ (ns, g, e). (ns, g, e ∙ written h ns), λ (ns, g, e). (ns, g, e ∙ sym (written h ns))))
    (page_exact T M T table room)
  where
    written : 1 ≤ T → (ns : List Node) → wrote (length (page T M T ns)) (page T M T ns) ≡ wrote (length (page_before T M ns)) (page_before T M ns)
    written h ns = ap (λ (text : List ℕ). wrote (length text) text) (same-page T M h ns)

    old : {k : ℕ} → PageRefusedBefore T M table room k → eqb k 13 ≡ false
    old (PageRefusedBefore.table-refused x) = table-old T M table x
    old (PageRefusedBefore.short g x) = refl

    to : 1 ≤ T → {k : ℕ} → PageRefused T M T table room k → PageRefusedBefore T M table room k
    to h (PageRefused.table-refused {k} x) = PageRefusedBefore.table-refused ((same-table T M table h k).0 x)
    to h (PageRefused.short {ns} g x) = PageRefusedBefore.short g (subst (λ (text : List ℕ). room < length text) (same-page T M h ns) x)

    from : 1 ≤ T → {k : ℕ} → PageRefusedBefore T M table room k → PageRefused T M T table room k
    from h (PageRefusedBefore.table-refused {k} x) = PageRefused.table-refused ((same-table T M table h k).1 x)
    from h (PageRefusedBefore.short {ns} g x) = PageRefused.short g (subst (λ (text : List ℕ). room < length text) (sym (same-page T M h ns)) x)
