-- Proofs of what is said of the printer, from what its contract says and the reader's.
use Rattle.std.specs.Prelude.{◌≡◌, refl, List, ℕ, ◌*◌, ◌≤◌, ◌<◌, length, take}
use Rattle.std.proofs.Common.{sym, ap, ap₂, subst, ◌∙◌, le_refl, arith}
use Rattle.std.proofs.Math.Decide.{dec_lt}
use Rattle.rules.specs.Rule.{Rule, size}
use Rattle.rules.proofs.Reading.{one-reading}
use Rattle.rules.specs.Table.{Node, table_bytes, nodes_of, rule_at, root}
use Rattle.rules.specs.Refusals.{place, ReadRefused}
use Rattle.rules.specs.Demands.{Answer, Written}
use Rattle.rules.specs.Demands.Answer.{refused, answered}
use Rattle.rules.specs.Demands.Written.{wrote}
use Rattle.rules.specs.Outcome.{returned, buffer, read_outcome}
use Rattle.rules.proofs.Exactness.Read.{read_exact}
use Rattle.printer_text.specs.Printed.{Printed}
use Rattle.printer_text.specs.Refused.{PrintRefused}
use Rattle.printer_text.specs.Outcome.{print_outcome}
use Rattle.printer_text.proofs.Exact.{print_exact}
use Rattle.printer_text.proofs.Back.{prints-back}
use Rattle.headlines.specs.Demand2.{Holding}
use Rattle.headlines.specs.Print.{PrinterRefuses, PrinterAnswers, ReadsTo, PrintingBack}
use Rattle.headlines.specs.Print.PrintingBack.{unread, unprinted, unread-again, done}
use Rattle.headlines.proofs.Refusing.{refuses, reader-refuses}
use Rattle.headlines.proofs.Answering.{answers}
use Rattle.headlines.proofs.TableLeft.{table-long, held, kept-long, TableLeft, table-left}

module _ (m : ℕ) (table : List ℕ) (answer : Answer ℕ) (out out' : List ℕ)
    (told : answer ≡ returned (print_outcome m table (length out))) (left : out' ≡ buffer (print_outcome m table (length out)) out) where
  pub printer-refuses : PrinterRefuses m table answer out out'
  printer-refuses =
      refuses (PrintRefused m table (length out)) _ (print_outcome m table (length out)) (print_exact m table (length out)) answer out out' told left

  pub printer-answers : PrinterAnswers m table answer out out'
  printer-answers n =
      answers (PrintRefused m table (length out)) _ (print_outcome m table (length out)) (print_exact m table (length out)) answer out out' told left n _
      (λ bytes i h. let e : n ≡ length i.0 = cc i.2 in let f : bytes ≡ i.0 = cc i.2 in (i.0, i.1, e, rw f at h))
      (λ i. (i.0, (i.0, i.1, ap (λ (k : ℕ). wrote k i.0) i.2)))

-- ---- read, printed and read again

module _ (m : ℕ) (text table out again table' : List ℕ) (left : table' ≡ buffer (read_outcome m text (length table)) table) where
  pub back-unread : (k : ℕ) → refused k ≡ returned (read_outcome m text (length table)) → PrintingBack m text table out again table' out again (refused k)
  back-unread k e =
      let r = reader-refuses m text (refused k) table table' e left in
      unread ((r.first k).0 refl) refl (r.untouched k refl) refl refl

  -- after the reader's value n
  module _ (n : ℕ) (e : answered n ≡ returned (read_outcome m text (length table))) where
    abbrev written : TableLeft m text table table' n
    written = table-left m text table table' left n e

    abbrev p : Rule
    p = written.rule

    abbrev bytes : List ℕ
    bytes = table_bytes (nodes_of p)

    pub back-room : (8 * n ≤ length table) × (length table' ≡ length table)
    back-room = written.room

    -- what the text and its table have
    record Back : Type 0 where
      text-is : List ℕ
      prints : (room : ℕ) → length text-is ≤ room → print_outcome m bytes room ≡ answered (wrote (length text-is) text-is)
      short : (room : ℕ) → room < length text-is → print_outcome m bytes room ≡ refused 11
      reads : (room : ℕ) → length bytes ≤ room → read_outcome m text-is room ≡ answered (wrote (size p) bytes)
      least : (t : List ℕ) (room : ℕ) → read_outcome m t room ≡ answered (wrote (size p) bytes) → length text-is ≤ length t
      is-printed : Printed p text-is

    back : Back
    back =
        let made = ((read_exact m text (length table)).answers (wrote (size p) bytes)).1 (written.read.0, (p, written.read.1, refl)) in
        let (s, fits, prints, short, reads, least) = prints-back m text (length table) (size p) bytes made in
        let (none, (t, (ns, good, y), w)) = ((print_exact m bytes (length s)).answers (wrote (length s) s)).0 (prints (length s) (le_refl (length s))) in
        let same : t ≡ s = cc w in
        let nodes = written.holds.nodes-alone ns good in
        let z = subst (λ (l : List Node). Printed (rule_at l (root l)) t) nodes y in
        record {
          text-is = s;
          prints = prints;
          short = short;
          reads = reads;
          least = least;
          is-printed = subst (λ (r : Rule). Printed r s) written.holds.root-rule (subst (Printed (rule_at (nodes_of p) (root (nodes_of p)))) same z);
        }

    abbrev s : List ℕ
    s = back.text-is

    again-refused : length again < 8 * size p → read_outcome m s (length again) ≡ refused 11
    again-refused u =
        ((read_exact m s (length again)).refuses 11).1 (record { applies = ReadRefused.short back.is-printed.says u; earlier = λ i l y. go y l })
      where
        go : {i : ℕ} → ReadRefused m s (length again) i → place i < place 11 → ⊥
        go (ReadRefused.text-refused {k} x) l =
            let none = (((read_exact m s (length bytes)).answers (wrote (size p) bytes)).0 (back.reads (length bytes) (le_refl (length bytes)))).0 in
            none k (ReadRefused.text-refused x)
        go (ReadRefused.short y x) l = omega arith

    least-of : (t : List ℕ) → ReadsTo m t bytes → length s ≤ length t
    least-of t (none, (q, says, is)) =
        let long : length bytes ≡ 8 * size q = ap length is ∙ table-long q in
        let count : size q ≡ size p = omega (arith, table-long p) in
        let made = ((read_exact m t (length bytes)).answers (wrote (size q) (table_bytes (nodes_of q)))).1 (room long, (q, says, refl)) in
        back.least t (length bytes) (made ∙ ap₂ (λ (k : ℕ) (b : List ℕ). answered (wrote k b)) count (sym is))
      where
        room : length bytes ≡ 8 * size q → (k : ℕ) → ReadRefused m t (length bytes) k → ⊥
        room long k (ReadRefused.text-refused x) = none k x
        room long k (ReadRefused.short {p = r} y x) = omega (arith, ap size (one-reading t r q y says))

    -- what the printer leaves
    module _ (out' : List ℕ) (put : out' ≡ buffer (print_outcome m (take (8 * n) table') (length out)) out) where
      data Ended : Type 0 where
        fits : length s ≤ length out → print_outcome m (take (8 * n) table') (length out) ≡ answered (wrote (length s) s) → Ended
        no_room : length out < length s → print_outcome m (take (8 * n) table') (length out) ≡ refused 11 → Ended

      ended : Ended
      ended = go (dec_lt (length out) (length s))
        where
          handed : print_outcome m (take (8 * n) table') (length out) ≡ print_outcome m bytes (length out)
          handed = ap (λ (b : List ℕ). print_outcome m b (length out)) written.handed

          go : Dec (length out < length s) → Ended
          go (yes u) = no_room u (handed ∙ back.short (length out) u)
          go (no u) = let v : length s ≤ length out = omega arith in fits v (handed ∙ back.prints (length out) v)

      pub back-unprinted : (k : ℕ) → refused k ≡ returned (print_outcome m (take (8 * n) table') (length out)) →
          PrintingBack m text table out again table' out' again (refused k)
      back-unprinted k h = go ended
        where
          go : Ended → PrintingBack m text table out again table' out' again (refused k)
          go (fits u f) = let g = h ∙ ap returned f in let z : ◌≡◌ {A = ℕ} 0 1 = cc in absurd (omega arith)
          go (no_room u f) = unprinted written.read back.is-printed u (h ∙ ap returned f) (put ∙ ap (λ (a : Answer Written). buffer a out) f) refl

      -- after the printer's value j
      module _ (j : ℕ) (h : answered j ≡ returned (print_outcome m (take (8 * n) table') (length out))) where
        record Left : Type 0 where
          long : j ≡ length s
          room : length s ≤ length out
          holds : Holding s out out'

        text-left : Left
        text-left = go ended
          where
            go : Ended → Left
            go (fits u f) =
                let g = h ∙ ap returned f in
                let z : j ≡ length s = cc in
                record { long = z; room = u; holds = put ∙ ap (λ (a : Answer Written). buffer a out) f }
            go (no_room u f) = let g = h ∙ ap returned f in let z : ◌≡◌ {A = ℕ} 0 1 = cc in absurd (omega arith)

        pub printed-room : (j ≤ length out) × (length out' ≡ length out)
        printed-room = (omega (arith, text-left.long, text-left.room), kept-long s out out' text-left.holds text-left.room)

        -- what the second reading answers and leaves
        module _ (again' : List ℕ) (answer : Answer ℕ) (told : answer ≡ returned (read_outcome m (take j out') (length again)))
            (set : again' ≡ buffer (read_outcome m (take j out') (length again)) again) where
          pub back_done : PrintingBack m text table out again table' out' again' answer
          back_done = go (dec_lt (length again) (8 * size p))
            where
              handed : read_outcome m (take j out') (length again) ≡ read_outcome m s (length again)
              handed = ap (λ (t : List ℕ). read_outcome m t (length again)) (held j s out out' text-left.holds (sym text-left.long))

              go : Dec (length again < 8 * size p) → PrintingBack m text table out again table' out' again' answer
              go (yes u) =
                  let f = handed ∙ again-refused u in
                  unread-again written.read back.is-printed text-left.holds u (told ∙ ap returned f)
                  (set ∙ ap (λ (a : Answer Written). buffer a again) f)
              go (no u) =
                  let f = handed ∙ back.reads (length again) (omega (arith, table-long p)) in
                  done written.read back.is-printed text-left.holds (set ∙ ap (λ (a : Answer Written). buffer a again) f)
                  (told ∙ ap returned f) least-of
