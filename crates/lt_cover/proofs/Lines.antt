-- Texts that are written piece by piece.
use Rattle.std.proofs.Common.{◌≡◌, ℕ, List, [], ◌∷◌, ◌++◌, sym, ap, ◌∙◌, append_assoc, length, take, get_or, ◌+◌, ◌<◌, ◌≤◌}
use Rattle.std.proofs.lemmas.List.{append-nil, take_all}
use Rattle.std.specs.Prelude.{map}
use Rattle.std.specs.List.{flat_map}
use Rattle.std.proofs.lemmas.Grind.{flat_map-append}
use Rattle.std.proofs.lemmas.List.Folds.{flat_map-map}
use Rattle.lt_cover.specs.declared.rows.TestRow.{TestRow}
use Rattle.lt_cover.specs.declared.rows.LabelRow.{LabelRow}
use Rattle.lt_cover.specs.declared.rows.HyperRow.{HyperRow}
use Rattle.lt_cover.specs.declared.rows.Row.{Row}
use Rattle.lt_cover.specs.declared.rows.Row.TheVariants.{Test, Label, Hyper}
use Rattle.lt_cover.specs.declared.rows.Version.TheVariants.{Two}
use Rattle.lt_cover.specs.Coverage.Table.{Table}
use Rattle.lt_cover.specs.Coverage.Text.{cover_text, header, line, names_text, row_fields, rows_in}
use Rattle.lt_cover.proofs.Loops.{more_put}

-- five fields one by one
fields_put : (t a b c d e : List ℕ) → ((((t ++ (a ++ 44 ∷ [])) ++ (b ++ 44 ∷ [])) ++ (c ++ 44 ∷ [])) ++ (d ++ 44 ∷ [])) ++ (e ++ 10 ∷ []) ≡ t ++ line (a ∷ b ∷ c ∷ d ∷ e ∷ [])
fields_put t a b c d e = simp append_assoc

pub row_put : (t a b c d e t1 t2 t3 t4 t5 : List ℕ) → t1 ≡ t ++ (a ++ 44 ∷ []) → t2 ≡ t1 ++ (b ++ 44 ∷ []) → t3 ≡ t2 ++ (c ++ 44 ∷ []) → t4 ≡ t3 ++ (d ++ 44 ∷ []) → t5 ≡ t4 ++ (e ++ 10 ∷ []) → t5 ≡ t ++ line (a ∷ b ∷ c ∷ d ∷ e ∷ [])
row_put t a b c d e t1 t2 t3 t4 t5 e1 e2 e3 e4 e5 = e5 ∙ ((λ i. (e4 ∙ (λ j. (e3 ∙ (λ k. (e2 ∙ (λ l. e1 l ++ (b ++ 44 ∷ []))) k ++ (c ++ 44 ∷ []))) j ++ (d ++ 44 ∷ []))) i ++ (e ++ 10 ∷ [])) ∙ fields_put t a b c d e)

-- one more name behind a space
pub name_put : (before text text2 text3 name found : List ℕ) (rest : List (List ℕ)) (i : ℕ) → i < length rest → name ≡ get_or rest i name → found ≡ name → text ≡ before ++ flat_map (λ name. 32 ∷ name) (take i rest) → text2 ≡ text ++ 32 ∷ [] → text3 ≡ text2 ++ found → text3 ≡ before ++ flat_map (λ name. 32 ∷ name) (take (i + 1) rest)
name_put before text text2 text3 name found rest i within is same kept e2 e3 =
    more_put (λ name. 32 ∷ name) before text text3 rest i name within is kept (e3 ∙ ((λ j. e2 j ++ same j) ∙ append_assoc text (32 ∷ []) name))

-- a name, and then each of the others behind a space
pub names_put : (first : List ℕ) (rest : List (List ℕ)) → first ++ flat_map (λ name. 32 ∷ name) rest ≡ names_text (first ∷ rest)
names_put first [] = append-nil first
names_put first (next ∷ rest) = ap (λ z. first ++ 32 ∷ z) (names_put next rest)

abbrev row_line : Row → List ℕ
row_line row = line (row_fields row)

-- the first row, and then those of each kind
pub text_put : (t : Table) → ((line (header Two) ++ flat_map (λ (x : TestRow). row_line (Test x)) t.tests) ++ flat_map (λ (x : LabelRow). row_line (Label x)) t.labels) ++ flat_map (λ (x : HyperRow). row_line (Hyper x)) t.hypers ≡ cover_text t
text_put t =
    let rows : flat_map line (map row_fields (rows_in t)) ≡ flat_map row_line (rows_in t) = flat_map-map line row_fields (rows_in t) in
    let tests : flat_map row_line (map Test t.tests) ≡ flat_map (λ (x : TestRow). row_line (Test x)) t.tests = flat_map-map row_line Test t.tests in
    let labels : flat_map row_line (map Label t.labels) ≡ flat_map (λ (x : LabelRow). row_line (Label x)) t.labels = flat_map-map row_line Label t.labels in
    let hypers : flat_map row_line (map Hyper t.hypers) ≡ flat_map (λ (x : HyperRow). row_line (Hyper x)) t.hypers = flat_map-map row_line Hyper t.hypers in
    let split = flat_map-append row_line (map Test t.tests) (map Label t.labels ++ map Hyper t.hypers) in
    let split2 = flat_map-append row_line (map Label t.labels) (map Hyper t.hypers) in
    let kinds : flat_map row_line (rows_in t) ≡ flat_map (λ (x : TestRow). row_line (Test x)) t.tests ++ (flat_map (λ (x : LabelRow). row_line (Label x)) t.labels ++ flat_map (λ (x : HyperRow). row_line (Hyper x)) t.hypers) =
    split ∙ ((λ i. tests i ++ flat_map row_line (map Label t.labels ++ map Hyper t.hypers)) ∙ (λ i. flat_map (λ (x : TestRow). row_line (Test x)) t.tests ++ (split2 ∙ (λ j. labels j ++ hypers j)) i)) in
    three (line (header Two)) (flat_map (λ (x : TestRow). row_line (Test x)) t.tests) (flat_map (λ (x : LabelRow). row_line (Label x)) t.labels) (flat_map (λ (x : HyperRow). row_line (Hyper x)) t.hypers)
    ∙ ap (λ z. line (header Two) ++ z) (sym (rows ∙ kinds))
  where
    three : (a b c d : List ℕ) → ((a ++ b) ++ c) ++ d ≡ a ++ (b ++ (c ++ d))
    three a b c d = simp append_assoc

pub text_is : (t : Table) (t0 t1 t2 t3 t4 : List ℕ) (tests : List TestRow) (labels : List LabelRow) (hypers : List HyperRow)
    → t0 ≡ [] → t1 ≡ t0 ++ line (header Two)
    → tests ≡ t.tests → t2 ≡ t1 ++ flat_map (λ (x : TestRow). row_line (Test x)) tests
    → labels ≡ t.labels → t3 ≡ t2 ++ flat_map (λ (x : LabelRow). row_line (Label x)) labels
    → hypers ≡ t.hypers → t4 ≡ t3 ++ flat_map (λ (x : HyperRow). row_line (Hyper x)) hypers
    → t4 ≡ cover_text t
text_is t t0 t1 t2 t3 t4 tests labels hypers e0 e1 a e2 b e3 d e4 =
    let f1 : t1 ≡ line (header Two) = e1 ∙ ap (λ z. z ++ line (header Two)) e0 in
    let f2 : t2 ≡ line (header Two) ++ flat_map (λ (x : TestRow). row_line (Test x)) t.tests = e2 ∙ (λ i. f1 i ++ flat_map (λ (x : TestRow). row_line (Test x)) (a i)) in
    let f3 : t3 ≡ (line (header Two) ++ flat_map (λ (x : TestRow). row_line (Test x)) t.tests) ++ flat_map (λ (x : LabelRow). row_line (Label x)) t.labels = e3 ∙ (λ i. f2 i ++ flat_map (λ (x : LabelRow). row_line (Label x)) (b i)) in
    e4 ∙ ((λ i. f3 i ++ flat_map (λ (x : HyperRow). row_line (Hyper x)) (d i)) ∙ text_put t)

pub names_are : (names : List (List ℕ)) (first : List ℕ) (rest : List (List ℕ)) (i : ℕ) (t0 t1 t2 : List ℕ) → names ≡ first ∷ rest → length rest ≤ i → t0 ≡ [] → t1 ≡ t0 ++ first → t2 ≡ t1 ++ flat_map (λ name. 32 ∷ name) (take i rest) → t2 ≡ names_text names
names_are names first rest i t0 t1 t2 split past e0 e1 e2 =
    let f1 : t1 ≡ first = e1 ∙ ap (λ z. z ++ first) e0 in
    e2 ∙ ((λ j. f1 j ++ flat_map (λ name. 32 ∷ name) (take_all i rest past j)) ∙ (names_put first rest ∙ ap names_text (sym split)))
