-- `program_input::Scan::step` meets its contract, by the new stage: T or M grows, a byte of line 2 is kept if there is room, or nothing changes.
use Rattle.std.proofs.Common.{◌≡◌, ℕ, true, false, refl}
use Rattle.program_input.specs.declared.Stage.{Stage}
use Rattle.program_input.specs.declared.Stage.TheVariants.{Start, Slots, Between, Atoms, Break, Rule, Done, Bad}
use Rattle.program_input.specs.Scanning.{slots_after, atoms_after, keeps}
use Rattle.program_input.specs.Feeding.{all-stepped, rule-kept, rule-passed, keep_more, keep_full}
use Rattle.program_input.proofs.Scan.step.Goals as goal

pub returns-in-Slots : goal.returns-in-Slots
returns-in-Slots c =
    let s = c.args.self.now in
    let g : c.after-self.result ≡ Slots = c.in-Slots.is in
    all-stepped s c.args.text.now c.args.b _ _ _ _ _ _ c.from.ensures c.after-self.ensures (rw g c.grown-self.ensures) (rw g refl)
    (rule-passed c.args.text.now s.kept c.args.b _ false (rw g refl) refl)

pub returns-in-Atoms : goal.returns-in-Atoms
returns-in-Atoms c =
    let s = c.args.self.now in
    let g : c.after-self.result ≡ Atoms = c.in-Atoms.is in
    all-stepped s c.args.text.now c.args.b _ _ _ _ _ _ c.from.ensures c.after-self.ensures (rw g refl) (rw g c.grown-self-in-Atoms.ensures)
    (rule-passed c.args.text.now s.kept c.args.b _ false (rw g refl) refl)

pub returns-then-self-text : goal.returns-then-self-text
returns-then-self-text c =
    let s = c.args.self.now in
    let g : c.after-self.result ≡ Rule = c.in-Rule.is in
    all-stepped s c.args.text.now c.args.b _ _ _ _ _ _ c.from.ensures c.after-self.ensures (rw g refl) (rw g refl)
    (rule-kept c.args.text.now s.kept c.args.b _ true (rw g refl) refl (keep_more c.args.text.now s.kept c.args.b c.if-self-text.true))

pub returns-else-self-text : goal.returns-else-self-text
returns-else-self-text c =
    let s = c.args.self.now in
    let g : c.after-self.result ≡ Rule = c.in-Rule.is in
    all-stepped s c.args.text.now c.args.b _ _ _ _ _ _ c.from.ensures c.after-self.ensures (rw g refl) (rw g refl)
    (rule-kept c.args.text.now s.kept c.args.b _ true (rw g refl) refl (keep_full c.args.text.now s.kept c.args.b c.if-self-text.false))

-- a stage in which nothing changes
unchanged : (g : Stage) (t m b : ℕ) → (g ≡ Slots → ⊥) → (g ≡ Atoms → ⊥) → (g ≡ Rule → ⊥) →
    (t ≡ slots_after g t b) × (m ≡ atoms_after g m b) × (false ≡ keeps g)
unchanged Start t m b x y z = (refl, refl, refl)
unchanged Slots t m b x y z = absurd (x refl)
unchanged Between t m b x y z = (refl, refl, refl)
unchanged Atoms t m b x y z = absurd (y refl)
unchanged Break t m b x y z = (refl, refl, refl)
unchanged Rule t m b x y z = absurd (z refl)
unchanged Done t m b x y z = (refl, refl, refl)
unchanged Bad t m b x y z = (refl, refl, refl)

pub returns-in_default : goal.returns-in_default
returns-in_default c =
    let s = c.args.self.now in
    let d = c.in_default in
    let u = unchanged c.after-self.result s.slots s.atoms c.args.b d.not-Slots d.not-Atoms d.not-Rule in
    all-stepped s c.args.text.now c.args.b _ _ _ _ _ _ c.from.ensures c.after-self.ensures u.0 u.1
    (rule-passed c.args.text.now s.kept c.args.b _ false u.2 refl)
