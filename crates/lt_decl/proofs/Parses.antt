-- What was read from all symbols of a text.
use Rattle.std.proofs.Common.{◌≡◌, sym, ap, subst, ◌∙◌, ℕ, List, [], Some, None}
use Rattle.lt_token.specs.Tokens as pure
use Rattle.lt_tree.specs.Tree as c
use Rattle.lt_tree.specs.Symbols.{Symbol, symbols}
use Rattle.lt_tree.specs.Units.{AreExternals, Derives}
use Rattle.lt_expr.specs.Front.{◌>>=◌}
use Rattle.lt_expr.specs.Reading.{enough}
use Rattle.lt_expr.specs.Walk.{Walked}
use Rattle.std.specs.Global.{Global}
use Rattle.lt_expr.specs.Parsing.{Parsing, scope_of, rest_of}
use Rattle.lt_expr.proofs.Parses.{begins}
use Rattle.lt_decl.specs.Reading as reading
use Rattle.lt_decl.specs.Reading.{unit_of}
use Rattle.lt_decl.specs.Walk.{walk_unit}
use Rattle.lt_decl.proofs.SoundUnits.{unit_read_is_derived}
use Rattle.lt_decl.proofs.CompleteUnits.{unit_derived_is_read}

read_whole : (alloc : Global) (ts : List Symbol) (unit : c.Unit) (old new : Parsing) → old ≡ begins alloc ts 0 [] → reading.externals (enough (rest_of old).0) (scope_of old) (rest_of old) ≡ Some (unit, rest_of new) → unit_of ts ≡ Some (unit, new.ends)
unfolding unit_of
read_whole alloc ts unit old new made read =
    ap (λ x. x >>= λ y. Some (y.0, y.1.1)) (ap (λ (p : Parsing). reading.externals (enough (rest_of p).0) (scope_of p) (rest_of p)) (sym made) ∙ read)

read_none : (alloc : Global) (ts : List Symbol) (old : Parsing) → old ≡ begins alloc ts 0 [] → reading.externals (enough (rest_of old).0) (scope_of old) (rest_of old) ≡ None → unit_of ts ≡ None
unfolding unit_of
read_none alloc ts old made none =
    ap (λ x. x >>= λ y. Some (y.0, y.1.1)) (ap (λ (p : Parsing). reading.externals (enough (rest_of p).0) (scope_of p) (rest_of p)) (sym made) ∙ none)

-- what was read is derived, with the spots of its walk
pub derived : (alloc : Global) (tokens : List pure.Token) (ts : List Symbol) (unit : c.Unit) (old new : Parsing) (walked : Walked) (ends spots : List ℕ)
    → old ≡ begins alloc ts 0 [] → ts ≡ symbols tokens → reading.externals (enough (rest_of old).0) (scope_of old) (rest_of old) ≡ Some (unit, rest_of new)
    → ends ≡ new.ends → walked ≡ walk_unit unit (ends, []) → spots ≡ walked.1 → Derives tokens unit spots
derived alloc tokens ts unit old new walked ends spots made are read same walks is =
    let whole = unit_read_is_derived ts unit new.ends (read_whole alloc ts unit old new made read) in
    let where_they_are : spots ≡ (walk_unit unit (new.ends, [])).1 = is ∙ ap (λ (w : Walked). w.1) (walks ∙ ap (λ es. walk_unit unit (es, [])) same) in
    subst (λ (xs : List Symbol). AreExternals [] xs unit spots []) are (subst (λ (ss : List ℕ). AreExternals [] ts unit ss []) (sym where_they_are) whole)

-- where nothing was read nothing is derived
pub nothing : (alloc : Global) (tokens : List pure.Token) (ts : List Symbol) (old : Parsing) → old ≡ begins alloc ts 0 [] → ts ≡ symbols tokens → reading.externals (enough (rest_of old).0) (scope_of old) (rest_of old) ≡ None
    → (unit : c.Unit) (spots : List ℕ) → Derives tokens unit spots → ⊥
nothing alloc tokens ts old made are none unit spots d =
    let given = unit_derived_is_read ts unit spots (subst (λ (xs : List Symbol). AreExternals [] xs unit spots []) (sym are) d) in
    let some : unit_of ts ≡ Some (unit, given.0) = given.2 in
    let no_unit : unit_of ts ≡ None = read_none alloc ts old made none in
    absurd cc
