-- A text has one list of rows, and stands for one table.
use Rattle.std.proofs.Common.{◌≡◌, ℕ, List, [], ◌∷◌, Some, None, refl, sym, ap, subst, ◌∙◌}
use Rattle.csv.specs.Machine.{Read, next_record}
use Rattle.csv.specs.Reading.{AreRecords, Reached, default_config, strip_bom}
use Rattle.csv.specs.declared.parser.Config.{Config}
use Rattle.csv.specs.declared.parser.State.{State}
use Rattle.csv.specs.declared.parser.State.TheVariants.{StartRecord}
use Rattle.lt_cover.specs.declared.rows.Version.{Version}
use Rattle.lt_cover.specs.Coverage.Table.{Table}
use Rattle.lt_cover.specs.Coverage.Text.{header, AreRowsOf, IsCoverText}
use Rattle.lt_cover.proofs.Tables.{table_inj}

no_more : (cfg : Config) (s s2 : State) (xs ys : List ℕ) (p : Read) → s ≡ s2 → xs ≡ ys → next_record cfg s2 [] [] ys ≡ None → next_record cfg s [] [] xs ≡ Some p → ⊥
no_more cfg s s2 xs ys p a b none some = let e : next_record cfg s [] [] xs ≡ None = rw (a, b) none in cc

pub records_unique : (cfg : Config) (s : State) (xs : List ℕ) (a b : List (List (List ℕ))) → AreRecords cfg s xs a → AreRecords cfg s xs b → a ≡ b
unfolding Reached
records_unique cfg s xs [] [] ha hb = refl
records_unique cfg s xs [] (r ∷ b) ha hb = absurd (no_more cfg s ha.0 xs ha.1 hb.2.0 ha.2.0 ha.2.1 ha.3 hb.2.1)
records_unique cfg s xs (r ∷ a) [] ha hb = absurd (no_more cfg s hb.0 xs hb.1 ha.2.0 hb.2.0 hb.2.1 hb.3 ha.2.1)
records_unique cfg s xs (r ∷ a) (q ∷ b) ha hb =
    let p = ha.2.0 in
    let p2 = hb.2.0 in
    let same : p ≡ p2 = some_inj p p2 (sym ha.2.1 ∙ hb.2.1) in
    let head : r ≡ q = ha.2.2 ∙ (ap (λ (x : Read). x.0) same ∙ sym hb.2.2) in
    let other : AreRecords cfg p.1 p.2 b = subst (λ (x : Read). AreRecords cfg x.1 x.2 b) (sym same) (hb.0, hb.1, hb.2.3, hb.3) in
    let rest : a ≡ b = records_unique cfg p.1 p.2 a b (ha.0, ha.1, ha.2.3, ha.3) other in
    λ i. head i ∷ rest i
  where
    some_inj : (x y : Read) → Some x ≡ Some y → x ≡ y
    some_inj x y e = cc

head_of : (x y : List (List ℕ)) (xs ys : List (List (List ℕ))) → x ∷ xs ≡ y ∷ ys → x ≡ y
head_of x y xs ys e = cc

rest_of : (x y : List (List ℕ)) (xs ys : List (List (List ℕ))) → x ∷ xs ≡ y ∷ ys → xs ≡ ys
rest_of x y xs ys e = cc

pub rows_unique : (v w : Version) (a b : Table) (rows : List (List (List ℕ))) → AreRowsOf v a rows → AreRowsOf w b rows → a ≡ b
rows_unique v w a b rows ha hb = table_inj a b ha.table hb.table (rest_of (header v) (header w) _ _ (sym ha.are ∙ hb.are))

pub text_unique : (text : List ℕ) (a b : Table) → IsCoverText text a → IsCoverText text b → a ≡ b
text_unique text a b ha hb =
    let same : ha.0 ≡ hb.0 = records_unique default_config StartRecord (strip_bom text) ha.0 hb.0 ha.1 hb.1 in
    rows_unique ha.2.0 hb.2.0 a b ha.0 ha.2.1 (subst (AreRowsOf hb.2.0 b) (sym same) hb.2.1)
