-- What is known of the input after each byte. Numbers from 1,000 on are all alike to T and M, and so are texts of more than 1,024 bytes.
use Rattle.std.specs.Prelude.{Bool, true, false, cond, List, [], ◌∷◌, ◌++◌, ℕ, ◌+◌, ◌-◌, ◌*◌, min, ltb, eqb, length, take}
use Rattle.rules.specs.Reading.Lexer.{is_digit}
use Rattle.program_input.specs.declared.Stage.{Stage}
use Rattle.program_input.specs.declared.Stage.TheVariants.{Start, Slots, Between, Atoms, Break, Rule, Done, Bad}
use Rattle.program_input.specs.declared.Kind.{Kind}
use Rattle.program_input.specs.declared.Kind.TheVariants.{Digit, Space, Feed, Other}
use Rattle.program_input.specs.declared.Scan.{Scan}

-- how far the input is read, T, M, and what is kept of line 2
pub record State : Type 0 where
  pub stage : Stage
  pub slots : ℕ
  pub atoms : ℕ
  pub rule : List ℕ

-- what a scan and its text stand for
abbrev pub state : Scan → List ℕ → State
state s text = record { stage = s.stage; slots = s.slots; atoms = s.atoms; rule = take s.kept text }

abbrev pub at : Stage → ℕ → ℕ → List ℕ → State
at g t m l = record { stage = g; slots = t; atoms = m; rule = l }

-- nothing read yet
abbrev pub begin : State
begin = at Start 0 0 []

abbrev pub not_feed : ℕ → Kind
not_feed b = cond (eqb b 32) Space (cond (is_digit b) Digit Other)

abbrev pub kind_of : ℕ → Kind
kind_of b = cond (eqb b 10) Feed (not_feed b)

abbrev pub picked : Kind → (digit space feed other : Stage) → Stage
picked Digit d s f o = d
picked Space d s f o = s
picked Feed d s f o = f
picked Other d s f o = o

-- the stage after a digit, a space, a line feed or another byte; line 1 is digits, a space and digits
abbrev pub advanced : Stage → Kind → Stage
advanced Start k = picked k Slots Bad Bad Bad
advanced Slots k = picked k Slots Between Bad Bad
advanced Between k = picked k Atoms Bad Bad Bad
advanced Atoms k = picked k Atoms Bad Break Bad
advanced Break k = picked k Rule Rule Done Rule
advanced Rule k = picked k Rule Rule Done Rule
advanced Done k = Done
advanced Bad k = Bad

-- a number with one digit more
abbrev pub grown : ℕ → ℕ → ℕ
grown v b = min 1000 (10 * v + (b - 48))

-- one byte more, as long as there is room
abbrev pub kept : (room : ℕ) → List ℕ → ℕ → List ℕ
kept room l b = cond (ltb (length l) room) (l ++ (b ∷ [])) l

-- T, M and the text in a new stage that the byte b leads to; `room` is the length of the text that is lent
abbrev pub slots_after : Stage → ℕ → ℕ → ℕ
slots_after Start v b = v
slots_after Slots v b = grown v b
slots_after Between v b = v
slots_after Atoms v b = v
slots_after Break v b = v
slots_after Rule v b = v
slots_after Done v b = v
slots_after Bad v b = v

abbrev pub atoms_after : Stage → ℕ → ℕ → ℕ
atoms_after Start v b = v
atoms_after Slots v b = v
atoms_after Between v b = v
atoms_after Atoms v b = grown v b
atoms_after Break v b = v
atoms_after Rule v b = v
atoms_after Done v b = v
atoms_after Bad v b = v

abbrev pub keeps : Stage → Bool
keeps Start = false
keeps Slots = false
keeps Between = false
keeps Atoms = false
keeps Break = false
keeps Rule = true
keeps Done = false
keeps Bad = false

abbrev pub rule_after : (room : ℕ) → Stage → List ℕ → ℕ → List ℕ
rule_after room g l b = cond (keeps g) (kept room l b) l

abbrev pub moved : (room : ℕ) → Stage → State → ℕ → State
moved room g s b = at g (slots_after g s.slots b) (atoms_after g s.atoms b) (rule_after room g s.rule b)

unfoldable pub stepped : (room : ℕ) → State → ℕ → State
stepped room s b = moved room (advanced s.stage (kind_of b)) s b

unfoldable pub steps : (room : ℕ) → State → List ℕ → State
steps room s [] = s
steps room s (b ∷ bs) = steps room (stepped room s b) bs

-- line 1, as far as it is read, has its shape
abbrev pub shaped : Stage → Bool
shaped Start = false
shaped Slots = false
shaped Between = false
shaped Atoms = true
shaped Break = true
shaped Rule = true
shaped Done = true
shaped Bad = false

-- what follows changes nothing: line 2 is read to its end, or line 1 is of another shape
abbrev pub settled : Stage → Bool
settled Start = false
settled Slots = false
settled Between = false
settled Atoms = false
settled Break = false
settled Rule = false
settled Done = true
settled Bad = true
