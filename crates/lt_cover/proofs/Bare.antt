-- The fields of a written row need no quotes.
use Rattle.std.proofs.Common.{◌≡◌, ℕ, sym, Bool, true, false, List, [], ◌∷◌, ◌++◌, refl, arith, append_assoc}
use Rattle.std.proofs.lemmas.List.{append-nil}
use Rattle.std.specs.Prelude.{All, IsTrue, ◌||◌}
use Rattle.std.specs.List.{list_any}
use Rattle.std.specs.Fmt.{decimal}
use Rattle.std.proofs.lemmas.Bool.{false≢true}
use Rattle.std.proofs.lemmas.Bool.Decides.{nat_tests}
use Rattle.std.proofs.lemmas.List.Elements.{All-head, All-tail}
use Rattle.csv.specs.Writing.{default_writer, needs_byte, fields_text, is_blank, row_text}
use Rattle.lt_model.specs.Operators.{number_of_kind}
use Rattle.lt_model.specs.declared.run.End.TheVariants.{Returned, Stopped, Undefined, NoInput, Steps, Deep, Cells}
use Rattle.lt_cover.specs.Coverage.Names.{is_name_byte, IsTestName, IsTag, IsId}
use Rattle.lt_cover.specs.Coverage.Table.{IsEnd}
use Rattle.lt_cover.specs.Coverage.Text.{line, end_word, label_word, names_text, state_word}
use Rattle.lt_cover.specs.declared.rows.TestEnd.{TestEnd}
use Rattle.lt_cover.specs.declared.rows.TestEnd.TheVariants.{Ran, Outside}
use Rattle.lt_cover.specs.declared.rows.HyperState.{HyperState}
use Rattle.lt_cover.specs.declared.rows.HyperState.TheVariants.{Uncovered, TooWide, Covered}
use Rattle.lt_cover.proofs.Ends.{small_kind}
use Rattle.lt_cover.proofs.BareFields.{IsBare, bare_cons, bare_plain, bare_decimal, bare_field}

bare_name_byte : (b : ℕ) → IsTrue (is_name_byte b) → needs_byte default_writer b ≡ false
bare_name_byte b h = grind (arith, nat_tests)

bare_bytes : (name : List ℕ) → All (λ b. IsTrue (is_name_byte b)) name → IsBare name
bare_bytes [] h = refl
bare_bytes (b ∷ name) h =
    let P : ℕ → Type 0 = λ x. IsTrue (is_name_byte x) in
    bare_cons b name (bare_name_byte b (All-head P b name h)) (bare_bytes name (All-tail P b name h))

pub bare_name : (name : List ℕ) → IsTestName name → IsBare name
bare_name name h = bare_bytes name h.bytes

pub bare_tag : (tag : List ℕ) → IsTag tag → IsBare tag
bare_tag tag h = bare_plain tag h.bytes

pub bare_id : (id : ℕ) → IsId id → IsBare (decimal id)
bare_id id h = bare_decimal id (omega (arith, h.1))

-- the word for an end
pub bare_end : (end : TestEnd) → IsEnd end → IsBare (end_word end)
bare_end (Ran Returned) h = refl
bare_end (Ran Stopped) h = refl
bare_end (Ran (Undefined kind)) h = bare_decimal (number_of_kind kind) (small_kind kind)
bare_end (Ran (NoInput stub)) h = bare_bytes stub h.bytes
bare_end (Ran Steps) h = refl
bare_end (Ran Deep) h = refl
bare_end (Ran Cells) h = refl
bare_end Outside h = refl

or_false : (p q : Bool) → (p || q) ≡ false → (p ≡ false) × (q ≡ false)
or_false false q e = (refl, e)
or_false true q e = absurd (false≢true (sym e))

bare_append : (a b : List ℕ) → IsBare a → IsBare b → IsBare (a ++ b)
bare_append [] b ha hb = hb
bare_append (x ∷ a) b ha hb =
    let both = or_false (needs_byte default_writer x) (list_any (needs_byte default_writer) a) ha in
    bare_cons x (a ++ b) both.0 (bare_append a b both.1 hb)

-- names with spaces between them
pub bare_names : (names : List (List ℕ)) → All IsTestName names → IsBare (names_text names)
bare_names [] h = refl
bare_names (name ∷ []) h = bare_name name (All-head IsTestName name [] h)
bare_names (name ∷ next ∷ names) h =
    bare_append name (32 ∷ names_text (next ∷ names)) (bare_name name (All-head IsTestName name (next ∷ names) h))
    (bare_cons 32 (names_text (next ∷ names)) refl (bare_names (next ∷ names) (All-tail IsTestName name (next ∷ names) h)))

pub bare_label_word : (names : List (List ℕ)) → IsBare (label_word names)
bare_label_word [] = refl
bare_label_word (name ∷ names) = refl

pub bare_state : (state : HyperState) → IsBare (state_word state)
bare_state Uncovered = refl
bare_state TooWide = refl
bare_state Covered = refl

-- a row of bare fields
pub row_of_bare : (a b c d e : List ℕ) → IsBare a → IsBare b → IsBare c → IsBare d → IsBare e → row_text default_writer (a ∷ b ∷ c ∷ d ∷ e ∷ []) ≡ line (a ∷ b ∷ c ∷ d ∷ e ∷ [])
unfolding fields_text is_blank
row_of_bare a b c d e ha hb hc hd he = rw (bare_field a ha, bare_field b hb, bare_field c hc, bare_field d hd, bare_field e he) (simp (append_assoc, append-nil))
