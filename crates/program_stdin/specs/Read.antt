-- What is known of input that was read: the scan stands for some bytes. Which ones the C library handed over no contract says.
use Rattle.std.specs.Prelude.{◌≡◌, true, List, [], ◌++◌, ℕ, length}
use Rattle.std.proofs.Common.{sym, ap, ◌∙◌}
use Rattle.program_input.specs.declared.Scan.{Scan}
use Rattle.program_input.specs.declared.Stage.TheVariants.{Start}
use Rattle.program_input.specs.Scanning.{State, state, begin, steps, settled}
use Rattle.program_input.proofs.Exact.{steps-append, settled-more, started}
use Rattle.program_stdin.specs.declared.Turn.{Turn}
use Rattle.program_stdin.specs.declared.Turn.TheVariants.{More, Settled, End}

-- a scan that began with nothing read, and the text that it keeps, stand for an input; and where the scan is settled, for every input that begins so
pub record Scanned (room : ℕ) (scan : Scan) (text : List ℕ) : Type 0 where
  pub bytes : List ℕ
  pub leads : state scan text ≡ steps room begin bytes
  pub ignores : settled scan.stage ≡ true → (rest : List ℕ) → state scan text ≡ steps room begin (bytes ++ rest)

scanned-by : (room : ℕ) (s : Scan) (text bytes : List ℕ) → state s text ≡ steps room begin bytes → Scanned room s text
scanned-by room s text bytes e = record {
  bytes = bytes;
  leads = e;
  ignores = λ h rest. e ∙ sym (settled-more room begin bytes rest (ap (λ (x : State). settled x.stage) (sym e) ∙ h));
}

-- a chunk was scanned; or the text is as it was, because the scan is settled, or because the input was at its end
abbrev pub Turned : Scan → (text text' : List ℕ) → Turn → Type 0
Turned s text text' (More r) = (chunk : List ℕ) × (state r text' ≡ steps (length text) (state s text) chunk)
Turned s text text' Settled = (text' ≡ text) × (settled s.stage ≡ true)
Turned s text text' End = text' ≡ text

pub scanned-none : (room : ℕ) (s : Scan) (text : List ℕ) → (s.stage ≡ Start) × (s.slots ≡ 0) × (s.atoms ≡ 0) × (s.kept ≡ 0) → Scanned room s text
unfolding steps
scanned-none room s text e = scanned-by room s text [] (started s text e)

pub scanned-more : {room : ℕ} {s r : Scan} {text text' : List ℕ} → Scanned room s text → length text ≡ room → Turned s text text' (More r) →
    Scanned room r text'
scanned-more {room} {s} {r} {text} {text'} d l h =
    scanned-by room r text' (d.bytes ++ h.0)
    (h.1 ∙ rw l (ap (λ (x : State). steps room x h.0) d.leads ∙ sym (steps-append room begin d.bytes h.0)))
