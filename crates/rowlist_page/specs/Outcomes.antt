-- What an answer of the row writer tells of its outcome and of what is printed.
use Rattle.std.specs.Prelude.{◌≡◌, refl, List, [], ◌∷◌, ◌++◌, ℕ, zero, suc, ◌+◌, ◌*◌, ◌≤◌, ◌<◌, length, get_or, drop}
use Rattle.std.proofs.Common.{sym, ap, ap₂, ◌∙◌, append_assoc, mul-le-mul, arith, length-append, length-drop, drop_at}
use Rattle.std.proofs.Math.Path.{subst⁻¹}
use Rattle.lists.specs.Every.{Every}
use Rattle.rules.specs.Rows.{Row, row_bytes, rows_bytes, rows_of, row_in, rows_in}
use Rattle.rules.specs.RowRecords.{Recordable, row_length}
use Rattle.rules.proofs.RowRecords.{length-row, row_back, rows_back, rows_recordable}
use Rattle.rules.specs.Refusals.{TableRefused, RowsRefused}
use Rattle.rules.specs.Demands.{Answer, Written}
use Rattle.rules.specs.Demands.Answer.{refused, answered}
use Rattle.rules.specs.Demands.Written.{wrote}
use Rattle.rules.specs.Outcome.{returned, buffer, rows_outcome}
use Rattle.rules.proofs.Exactness.Tests.{at_least}
use Rattle.rules.proofs.Exactness.Rows.{rows_exact}
use Rattle.rowlist_text.specs.Sizes.{rows_room}
use Rattle.rowlist_text.specs.RowText.{Whole, head_text, rows_text}
use Rattle.program_input.specs.Scanning.{State}
use Rattle.program_rule.specs.Outcome.{output}
use Rattle.program_rule.specs.Outcomes.{answer-refused, answer-value}
use Rattle.program_rule.specs.Shown.{shown}
use Rattle.program_rule.specs.Told.{as_text, text_work, printed_of, printed-same, shown-same, output-same}
use Rattle.rowlist_page.specs.Page.{rows_then, listing_text, list_work, listing, page}

-- ---- rows that were written

-- their records, whatever follows them: what each is, and that they are whole
module _ (r : Row) (rs : List Row) (rest : List ℕ) where
  record_first : rows_bytes (r ∷ rs) ++ rest ≡ row_bytes r ++ (rows_bytes rs ++ rest)
  record_first = append_assoc (row_bytes r) (rows_bytes rs) rest

  records-after : drop (row_length r) (rows_bytes (r ∷ rs) ++ rest) ≡ rows_bytes rs ++ rest
  records-after = ap (drop (row_length r)) record_first ∙ drop_at (row_bytes r) (rows_bytes rs ++ rest) (row_length r) (length-row r)

rows_whole : (rs : List Row) (rest : List ℕ) → Whole (length rs) (rows_bytes rs ++ rest)
rows_whole [] rest = tt
rows_whole (r ∷ rs) rest = (
  omega (arith, ap length (record_first r rs rest), length-append (row_bytes r) (rows_bytes rs ++ rest), length-row r),
  subst⁻¹ (Whole (length rs)) (records-after r rs rest) (rows_whole rs rest),
)

rows-said : (rs : List Row) (rest : List ℕ) → Every Recordable rs → rows_in (length rs) (rows_bytes rs ++ rest) ≡ rs
rows-said [] rest h = refl
rows-said (r ∷ rs) rest h =
    ap₂ ◌∷◌ (ap row_in (record_first r rs rest) ∙ row_back r (rows_bytes rs ++ rest) h.0)
    (ap (rows_in (length rs)) (records-after r rs rest) ∙ rows-said rs rest h.1)

pub record RowsWritten (T M count : ℕ) (bytes : List ℕ) : Type 0 where
  pub slots : T ≤ 64
  pub atoms : M ≤ 16
  pub room : length bytes ≤ rows_room
  pub whole : (rest : List ℕ) → Whole count (bytes ++ rest)
  pub said : (rest : List ℕ) → rows_in count (bytes ++ rest) ≡ rows_in count bytes

pub rows_written : (T M : ℕ) (table : List ℕ) (count : ℕ) (bytes : List ℕ) → rows_outcome T M T table rows_room ≡ answered (wrote count bytes) →
    RowsWritten T M count bytes
rows_written T M table count bytes e =
    let r = ((rows_exact T M T table rows_room).answers (wrote count bytes)).0 e in
    let rs = rows_of T M T r.1.0 in
    let w : wrote count bytes ≡ wrote (length rs) (rows_bytes rs) = r.1.2 in
    let a : count ≡ length rs = cc in
    let b : bytes ≡ rows_bytes rs = cc in
    let t : T ≤ 64 = at_least 64 T (λ h. r.0 1 (RowsRefused.table-refused (TableRefused.slots (λ s. omega arith)))) in
    let k = rows_recordable T M T t r.1.0 in
    record {
      slots = t;
      atoms = at_least 16 M (λ h. r.0 2 (RowsRefused.table-refused (TableRefused.atoms (λ s. omega arith))));
      room = omega (arith, ap length b, at_least rows_room (length (rows_bytes rs)) (λ h. r.0 11 (RowsRefused.short r.1.1 h)));
      whole = λ rest. subst⁻¹ (λ (x : List ℕ). Whole count (x ++ rest)) b (subst⁻¹ (λ (n : ℕ). Whole n (rows_bytes rs ++ rest)) a (rows_whole rs rest));
      said = λ rest. ap₂ (λ (n : ℕ) (x : List ℕ). rows_in n (x ++ rest)) a b ∙ rows-said rs rest k ∙ sym (ap₂ rows_in a b ∙ rows_back rs k);
    }

-- records are whole, so there are few of them
pub whole-few : (n : ℕ) (b : List ℕ) → Whole n b → 5 * n ≤ length b
whole-few zero b w = omega arith
whole-few (suc n) b w = omega (arith, whole-few n (drop (5 + 3 * get_or b 3 0) b) w.1, w.0, length-drop (5 + 3 * get_or b 3 0) b)

-- rows written into so many bytes, l after that
pub record RowsReady (T M : ℕ) (table : List ℕ) (count : ℕ) (l : List ℕ) : Type 0 where
  pub bytes : List ℕ
  pub is : rows_outcome T M T table rows_room ≡ answered (wrote count bytes)
  pub written : RowsWritten T M count bytes
  pub size_is : length l ≡ rows_room
  pub whole : Whole count l
  pub said : rows_in count l ≡ rows_in count bytes

pub rows-ready : (T M : ℕ) (table z l : List ℕ) (count : ℕ) → length z ≡ rows_room → answered count ≡ returned (rows_outcome T M T table (length z)) →
    l ≡ buffer (rows_outcome T M T table (length z)) z → RowsReady T M table count l
rows-ready T M table z l count s e f =
    let w = answer-value (rows_outcome T M T table rows_room) count (rw s at e) in
    let k = rows_written T M table count w.bytes w.is in
    let rest = drop (length w.bytes) z in
    let g : l ≡ w.bytes ++ rest = rw s at f ∙ ap (λ (x : Answer Written). buffer x z) w.is in
    record {
      bytes = w.bytes;
      is = w.is;
      written = k;
      size_is = ap length g ∙ omega (arith, length-append w.bytes rest, length-drop (length w.bytes) z, k.room);
      whole = subst⁻¹ (Whole count) g (k.whole rest);
      said = ap (rows_in count) g ∙ k.said rest;
    }

-- there are few variables
pub variables-few : (T M n : ℕ) → T ≤ 64 → M ≤ 16 → n ≤ 128 → (M + n) * T < 100000
variables-few T M n t m k = let a : M + n ≤ 144 = omega arith in let h : (M + n) * T ≤ 144 * 64 = mul-le-mul a t in omega arith

-- ---- what is listed of an outcome

length-rows_in : (n : ℕ) (b : List ℕ) → length (rows_in n b) ≡ n
length-rows_in zero b = refl
length-rows_in (suc n) b = ap suc (length-rows_in n (drop (5 + 3 * get_or b 3 0) b))

pub listed-rows : (T M n count : ℕ) (table bytes : List ℕ) → rows_outcome T M T table rows_room ≡ answered (wrote count bytes) →
    text_work listing_text list_work T M n table ≡ answered (head_text count ((M + n) * T) ++ rows_text 0 (rows_in count bytes))
listed-rows T M n count table bytes e =
    ap (λ (x : Answer Written). as_text listing_text (rows_then T M n x)) e
    ∙ ap (λ (k : ℕ). answered (head_text k ((M + n) * T) ++ rows_text 0 (rows_in count bytes))) (length-rows_in count bytes)

pub listed-refused : (T M n k : ℕ) (table z : List ℕ) → length z ≡ rows_room → refused k ≡ returned (rows_outcome T M T table (length z)) →
    text_work listing_text list_work T M n table ≡ refused k
listed-refused T M n k table z s e =
    ap (λ (x : Answer Written). as_text listing_text (rows_then T M n x)) (answer-refused (rows_outcome T M T table rows_room) k (rw s at e))

-- ---- what is printed of the work on a table, as a text

listing-is : (T M : ℕ) (rule : List ℕ) → printed_of (text_work listing_text list_work) T M rule ≡ listing T M rule
unfolding listing
listing-is T M rule = printed-same listing_text list_work T M rule

pub shown-listing : (s : State) → shown (printed_of (text_work listing_text list_work)) s ≡ shown listing s
shown-listing s = shown-same _ listing listing-is s

pub output-listing : (input : List ℕ) → output (printed_of (text_work listing_text list_work)) input ≡ page input
output-listing input = output-same _ listing listing-is input
