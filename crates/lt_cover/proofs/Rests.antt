-- What the bytes of a text do to the rows of its rest.
use Rattle.std.proofs.Common.{suc, ◌+◌, ◌≡◌, ℕ, ◌≤◌, ◌<◌, ◌-◌, Bool, true, false, cond, List, [], ◌∷◌, ◌++◌, length, get_or, drop, take, Option, Some, None, refl, sym, ap, subst, ◌∙◌, arith}
use Rattle.std.proofs.Math.Seq.{drop-cons}
use Rattle.std.proofs.Math.ListN.{drop_of_length-le}
use Rattle.std.specs.Prelude.{MatchOption}
use Rattle.std.proofs.lemmas.List.{take_all}
use Rattle.std.proofs.lemmas.Bool.Decides.{nat_tests}
use Rattle.csv.specs.Machine.{Read, next_record, step, ends_at_end, is_end, fields_after, field_after}
use Rattle.csv.specs.Reading.{AreRecords, Reached, default_config, strip_bom, is_bom}
use Rattle.csv.specs.declared.parser.State.{State}
use Rattle.csv.specs.declared.parser.State.TheVariants as st
use Rattle.csv.specs.declared.parser.Action.{Action}
use Rattle.lt_cover.specs.declared.records.Position.{Position}
use Rattle.lt_cover.specs.declared.records.Position.TheVariants.{RowStart}
use Rattle.lt_cover.specs.Coverage.Text.{HasRows}
use Rattle.lt_cover.specs.declared.records.Records.{Records}
use Rattle.lt_cover.specs.declared.records.Effect.{Effect}
use Rattle.lt_cover.specs.declared.records.Effect.TheVariants.{Nothing, JoinsField, EndsField, EndsRow}
use Rattle.lt_cover.specs.Coverage.Records.{Completes, AreRowsOfRest, state_of, action_of}

abbrev AreBehind : State × Action → ℕ → List (List ℕ) → List ℕ → List ℕ → List (List (List ℕ)) → Type 0
AreBehind q c fields bytes rest rows =
    MatchOption (cond (is_end q.1) (Some (fields_after q.1 fields bytes, q.0, rest)) (next_record default_config q.0 (fields_after q.1 fields bytes) (field_after q.1 c bytes) rest))
    (rows ≡ [])
    (λ (row : Read). (later : List (List (List ℕ))) × (rows ≡ row.0 ∷ later) × AreRecords default_config row.1 row.2 later)

behind : (s : State) (q : State × Action) (c : ℕ) (fields : List (List ℕ)) (bytes rest : List ℕ) (rows : List (List (List ℕ))) → q ≡ step default_config s c → AreBehind q c fields bytes rest rows → AreRowsOfRest s fields bytes (c ∷ rest) rows
unfolding next_record
behind s q c fields bytes rest rows e h = subst (λ (z : State × Action). AreBehind z c fields bytes rest rows) e h

at_effect : (s : State) (p : Position) (f g : Effect) (c : ℕ) (fields : List (List ℕ)) (bytes rest : List ℕ) (rows : List (List (List ℕ))) → (state_of p, action_of f) ≡ step default_config s c → f ≡ g → AreBehind (state_of p, action_of g) c fields bytes rest rows → AreRowsOfRest s fields bytes (c ∷ rest) rows
at_effect s p f g c fields bytes rest rows e is h = behind s (state_of p, action_of f) c fields bytes rest rows e (subst (λ (z : Effect). AreBehind (state_of p, action_of z) c fields bytes rest rows) (sym is) h)

pub nothing_done : (s : State) (p : Position) (f : Effect) (c : ℕ) (fields : List (List ℕ)) (bytes rest : List ℕ) (rows : List (List (List ℕ))) → (state_of p, action_of f) ≡ step default_config s c → f ≡ Nothing → AreRowsOfRest (state_of p) fields bytes rest rows → AreRowsOfRest s fields bytes (c ∷ rest) rows
nothing_done s p f c fields bytes rest rows e is h = at_effect s p f Nothing c fields bytes rest rows e is h

pub field_joined : (s : State) (p : Position) (f : Effect) (c : ℕ) (fields : List (List ℕ)) (bytes bytes2 rest : List ℕ) (rows : List (List (List ℕ))) → (state_of p, action_of f) ≡ step default_config s c → f ≡ JoinsField → bytes2 ≡ bytes ++ c ∷ [] → AreRowsOfRest (state_of p) fields bytes2 rest rows → AreRowsOfRest s fields bytes (c ∷ rest) rows
field_joined s p f c fields bytes bytes2 rest rows e is b h = at_effect s p f JoinsField c fields bytes rest rows e is (subst (λ (z : List ℕ). AreRowsOfRest (state_of p) fields z rest rows) b h)

pub field_ended : (s : State) (p : Position) (f : Effect) (c : ℕ) (fields fields2 : List (List ℕ)) (bytes bytes2 rest : List ℕ) (rows : List (List (List ℕ))) → (state_of p, action_of f) ≡ step default_config s c → f ≡ EndsField → fields2 ≡ fields ++ bytes ∷ [] → bytes2 ≡ [] → AreRowsOfRest (state_of p) fields2 bytes2 rest rows → AreRowsOfRest s fields bytes (c ∷ rest) rows
field_ended s p f c fields fields2 bytes bytes2 rest rows e is g b h =
    at_effect s p f EndsField c fields bytes rest rows e is
    (subst (λ (z : List ℕ). AreRowsOfRest (state_of p) (fields ++ bytes ∷ []) z rest rows) b (subst (λ (z : List (List ℕ)). AreRowsOfRest (state_of p) z bytes2 rest rows) g h))

records_by : (s : State) (xs : List ℕ) (rows : List (List (List ℕ))) (o : Option Read) → next_record default_config s [] [] xs ≡ o
    → MatchOption o (rows ≡ []) (λ (row : Read). (later : List (List (List ℕ))) × (rows ≡ row.0 ∷ later) × AreRecords default_config row.1 row.2 later)
    → AreRecords default_config s xs rows
unfolding Reached
records_by s xs rows None e h = subst (AreRecords default_config s xs) (sym h) (s, xs, (refl, refl), e)
records_by s xs rows (Some p) e h = subst (AreRecords default_config s xs) (sym h.1) (h.2.0, h.2.1, (p, e, refl, h.2.2), h.2.3)

pub records : (s : State) (xs : List ℕ) (rows : List (List (List ℕ))) → AreRowsOfRest s [] [] xs rows → AreRecords default_config s xs rows
records s xs rows h = records_by s xs rows (next_record default_config s [] [] xs) refl h

pub row_ended : (s : State) (p : Position) (f : Effect) (c : ℕ) (fields fields2 : List (List ℕ)) (bytes bytes2 rest : List ℕ) (rows : List (List (List ℕ))) → (state_of p, action_of f) ≡ step default_config s c → f ≡ EndsRow → fields2 ≡ [] → bytes2 ≡ [] → AreRowsOfRest (state_of p) fields2 bytes2 rest rows → AreRowsOfRest s fields bytes (c ∷ rest) ((fields ++ bytes ∷ []) ∷ rows)
row_ended s p f c fields fields2 bytes bytes2 rest rows e is g b h =
    let fresh : AreRowsOfRest (state_of p) [] [] rest rows = subst (λ (z : List ℕ). AreRowsOfRest (state_of p) [] z rest rows) b (subst (λ (z : List (List ℕ)). AreRowsOfRest (state_of p) z bytes2 rest rows) g h) in
    at_effect s p f EndsRow c fields bytes rest ((fields ++ bytes ∷ []) ∷ rows) e is (rows, refl, records (state_of p) rest rows fresh)

no_more : next_record default_config st.StartRecord [] [] [] ≡ None
unfolding next_record
no_more = refl

end_by : (s : State) (fields : List (List ℕ)) (bytes : List ℕ) (b : Bool) → ends_at_end s ≡ b → next_record default_config s fields bytes [] ≡ cond b (Some (fields ++ bytes ∷ [], st.StartRecord, [])) None
unfolding next_record
end_by s fields bytes b e = rw e refl

pub row_at_end : (s : State) (fields : List (List ℕ)) (bytes : List ℕ) → ends_at_end s ≡ true → AreRowsOfRest s fields bytes [] ((fields ++ bytes ∷ []) ∷ [])
unfolding Reached
row_at_end s fields bytes e = rw (end_by s fields bytes true e) ([], refl, (st.StartRecord, [], (refl, refl), no_more))

pub none_at_end : (s : State) (fields : List (List ℕ)) (bytes : List ℕ) → ends_at_end s ≡ false → AreRowsOfRest s fields bytes [] []
none_at_end s fields bytes e = rw (end_by s fields bytes false e) refl

-- the byte order mark
pub mark_cut : (xs : List ℕ) → 3 ≤ length xs → get_or xs 0 0 ≡ 0xEF → get_or xs 1 0 ≡ 0xBB → get_or xs 2 0 ≡ 0xBF → take (length xs - 3) (drop 3 xs) ≡ strip_bom xs
unfolding strip_bom
mark_cut [] h a b c = absurd (omega arith)
mark_cut (x ∷ []) h a b c = absurd (omega arith)
mark_cut (x ∷ y ∷ []) h a b c = absurd (omega arith)
mark_cut (x ∷ y ∷ z ∷ rest) h a b c =
    let test : is_bom x y z ≡ true = grind (arith, nat_tests) in
    take_all (length (x ∷ y ∷ z ∷ rest) - 3) rest (omega arith) ∙ sym (ap (λ (t : Bool). cond t rest (x ∷ y ∷ z ∷ rest)) test)

pub mark_kept : (xs : List ℕ) → (3 ≤ length xs → get_or xs 0 0 ≡ 0xEF → get_or xs 1 0 ≡ 0xBB → get_or xs 2 0 ≡ 0xBF → ⊥) → xs ≡ strip_bom xs
unfolding strip_bom
mark_kept [] h = refl
mark_kept (x ∷ []) h = refl
mark_kept (x ∷ y ∷ []) h = refl
mark_kept (x ∷ y ∷ z ∷ rest) h = sym (ap (λ (t : Bool). cond t rest (x ∷ y ∷ z ∷ rest)) (no_mark x y z (λ a b c. h (omega arith) a b c)))
  where
    no_mark : (a b c : ℕ) → (a ≡ 0xEF → b ≡ 0xBB → c ≡ 0xBF → ⊥) → is_bom a b c ≡ false
    no_mark a b c k = grind (arith, nat_tests)

-- a loop's step: whatever completes the rest behind a byte completes the rest that begins with it
pub read_more : (here after : Records) (xs : List ℕ) (i : ℕ) → i < length xs
    → ((rest : List ℕ) (all : List (List (List ℕ))) → Completes after rest all → Completes here (get_or xs i 0 ∷ rest) all)
    → (all : List (List (List ℕ))) → Completes after (drop (i + 1) xs) all → Completes here (drop i xs) all
read_more here after xs i within step all h =
    subst (λ (z : List ℕ). Completes here z all) (sym (drop-cons xs i 0 within)) (step (drop (suc i) xs) all (subst (λ (n : ℕ). Completes after (drop n xs) all) {x = i + 1} {y = suc i} (omega arith) h))

-- the end of the loop
pub read_all : (here start : Records) (xs : List ℕ) (i : ℕ) → length xs ≤ i
    → ((all : List (List (List ℕ))) → Completes here (drop i xs) all → Completes start xs all)
    → (all : List (List (List ℕ))) → Completes here [] all → Completes start xs all
read_all here start xs i past kept all h = kept all (subst (λ (z : List ℕ). Completes here z all) (sym (drop_of_length-le xs past)) h)

-- what completes the start of a text are its rows
pub rows_are : (start : Records) (text xs : List ℕ) (rows : List (List (List ℕ))) → start.rows.items ≡ [] → start.fields.items ≡ [] → start.bytes.items ≡ [] → start.position ≡ RowStart → xs ≡ strip_bom text → Completes start xs rows → HasRows text rows
rows_are start text xs rows r f b p e h =
    let same : rows ≡ h.0 = h.1 ∙ ap (λ z. z ++ h.0) r in
    let rest : AreRowsOfRest st.StartRecord [] [] (strip_bom text) h.0 =
    subst (λ (z : List ℕ). AreRowsOfRest st.StartRecord [] [] z h.0) e
    (subst (λ (z : List ℕ). AreRowsOfRest st.StartRecord [] z xs h.0) b
    (subst (λ (z : List (List ℕ)). AreRowsOfRest st.StartRecord z start.bytes.items xs h.0) f
    (subst (λ (z : Position). AreRowsOfRest (state_of z) start.fields.items start.bytes.items xs h.0) p h.2))) in
    subst (λ (z : List (List (List ℕ))). HasRows text z) (sym same) (records st.StartRecord (strip_bom text) h.0 rest)
