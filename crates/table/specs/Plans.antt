-- What the checks of all calls but read hand out.
use Rattle.std.specs.Prelude.{◌≡◌, List, ℕ, Result, Ok, Err}
use Rattle.std.proofs.Common.{sym}
use Rattle.answers.specs.declared.Refusal.{Refusal}
use Rattle.table.specs.Checks.{check_of}
use Rattle.table.specs.declared.plan.Plan.{Plan}

-- the plan of T, M, L and a table that pass
pub record PlanOf (T M L : ℕ) (table : List ℕ) (plan : Plan) : Type 0 where
  pub passed : check_of T M L table ≡ Ok tt
  pub same_table : plan.table.now ≡ table
  pub same_t : plan.t ≡ T
  pub same_m : plan.m ≡ M
  pub same_l : plan.l ≡ L

-- a plan, or the first refusal that applies
abbrev pub CheckedPlan : (T M L : ℕ) (table : List ℕ) → Result Plan Refusal → Type 0
CheckedPlan T M L table (Ok plan) = PlanOf T M L table plan
CheckedPlan T M L table (Err r) = check_of T M L table ≡ Err r

-- what holds of the plan's own numbers and table holds of those that were checked
pub as_checked : (P : (T M L : ℕ) → List ℕ → Type 0) {T M L : ℕ} {table : List ℕ} {plan : Plan} → PlanOf T M L table plan →
    P plan.t plan.m plan.l plan.table.now → P T M L table
as_checked P h p = rw (sym h.same_t, sym h.same_m, sym h.same_l, sym h.same_table) p
