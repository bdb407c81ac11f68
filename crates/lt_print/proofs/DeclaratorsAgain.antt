-- The words of a declarator's text derive it again: from its name outwards, what stands inside takes the outer parts.
use Rattle.std.proofs.Common.{◌≡◌, ℕ, Bool, true, false, List, [], ◌∷◌, ◌++◌, Option, Some, None, refl, sym, ap, subst, ◌∙◌}
use Rattle.std.proofs.lemmas.List.{append-nil}
use Rattle.lt_tree.specs.declared.terminal.Terminal.TheVariants as k
use Rattle.lt_tree.specs.Tree as c
use Rattle.lt_tree.specs.Symbols as s
use Rattle.lt_tree.specs.Symbols.{Symbol}
use Rattle.lt_tree.specs.Scope.{Scope, hiding, enumerators_in_maybe, after_maybe, after_parts}
use Rattle.lt_tree.specs.Ahead.{Naming, behind_star, sees, begins_direct, opens_parameters}
use Rattle.lt_tree.specs.Grammar as g
use Rattle.lt_tree.specs.Grammar.{joined, AreQualifiers, IsDirect, ArePointers, AreSuffixes, IsDeclarator}
use Rattle.lt_tree.specs.Canon.{Pieces, sign, apart, in_parentheses, word_if, qualifiers_pieces, name_if, pointing, grouped, operand, maybe, parameters, around}
use Rattle.lt_print.proofs.ReadPieces.{Reads, done, a_name, a_sign, a_gap, parted, parted_apart, inside, Ends, by_parenthesis}
use Rattle.lt_expr.proofs.HiddenNames.{joined_hidden}
use Rattle.lt_expr.proofs.Walks.{joined_joined}
use Rattle.lt_print.proofs.Claims.{MaybeStands, ParametersAgain, PartsFit, NameFits, has_pointer, starred, DeclaratorFits, DeclaratorAgain}
use Rattle.lt_print.proofs.OuterParts.{star_again}
use Rattle.lt_print.proofs.Fronts.{ends_declarator, ends_suffix, ends_direct, direct_no_star, pointers_unqualified, star_opens, parameters_no_direct}

-- ---- qualifiers

qualified : (a b : Bool) {ts rest : List Symbol} → Reads (apart (word_if a k.Const) (word_if b k.Volatile)) ts rest → sees k.Const rest ≡ false → sees k.Volatile rest ≡ false
    → AreQualifiers ts (record { constant = a; volatile = b }) rest
qualified true true (a_sign (a_gap (a_sign done))) x y = g.constant (g.volatile (g.no_qualifiers x y))
qualified true false (a_sign done) x y = g.constant (g.no_qualifiers x y)
qualified false true (a_sign done) x y = g.volatile (g.no_qualifiers x y)
qualified false false done x y = g.no_qualifiers x y

-- ---- what stands inside

-- A direct declarator, whichever naming fits it: whatever suffixes follow, their parts are behind its own, and read where its own names are hidden.
abbrev pub DirectAgain : (Naming → Type 0) → Scope → Pieces → Option (List ℕ) → (c.Parts → c.Parts) → c.Parts → Type 0
DirectAgain fits scope inner w own mine =
    (naming : Naming) → fits naming → (ts between rest : List Symbol) (outer suffixed : c.Parts) (spots more : List ℕ)
    → (mine ≡ c.no_parts → begins_direct scope between ≡ false) → AreSuffixes (after_parts mine scope) between outer suffixed rest spots more → Reads inner ts between
    → (all : List ℕ) × IsDirect scope naming ts outer w (own suffixed) rest all more

pub record Starred (naming : Naming) (scope : Scope) (ts : List Symbol) (outer : c.Parts) (w : Option (List ℕ)) (parts : c.Parts) (rest : List Symbol) (more : List ℕ) : Type 0 where
  pub spots : List ℕ
  pub derived : ArePointers scope naming ts outer w parts rest spots more
  pub closed : opens_parameters naming scope ts ≡ false

-- a pointer: whatever the outer parts are
abbrev pub PointersAgain : (Naming → Type 0) → Scope → Pieces → Option (List ℕ) → (c.Parts → c.Parts) → c.Parts → Type 0
PointersAgain fits scope inner w own mine =
    (naming : Naming) → fits naming → (ts rest : List Symbol) (outer : c.Parts) (more : List ℕ) → Ends rest → Reads inner ts rest → Starred naming scope ts outer w (own outer) rest more

abbrev pub InsideAgain : Bool → (Naming → Type 0) → Scope → Pieces → Option (List ℕ) → (c.Parts → c.Parts) → c.Parts → Type 0
InsideAgain true = PointersAgain
InsideAgain false = DirectAgain

-- these parts stand before what is put behind them
abbrev pub IsBefore : c.Parts → (c.Parts → c.Parts) → Type 0
IsBefore mine own = (p : c.Parts) → own p ≡ joined mine p

-- with one part more
before_one : (mine one : c.Parts) (own : c.Parts → c.Parts) → IsBefore mine own → IsBefore (joined mine one) (λ p. own (joined one p))
before_one mine one own same p = same (joined one p) ∙ sym (joined_joined mine one p)

array_hidden : (length : c.Maybe) (names : Scope) → after_parts (c.Array length c.no_parts) names ≡ after_maybe length names
array_hidden length names = ap (λ ws. hiding ws names) (append-nil (enumerators_in_maybe length))

pub named_again : (scope : Scope) (w : Option (List ℕ)) → DirectAgain (λ naming. NameFits naming scope w) scope (name_if w) w (λ p. p) c.no_parts
named_again scope None naming fits ts between rest outer suffixed spots more front suffixes done = (_, g.by_nothing fits (front refl) suffixes)
named_again scope (Some w) naming fits ts between rest outer suffixed spots more front suffixes (a_name done) = (_, g.by_name fits suffixes)

nested_again : (fits : Naming → Type 0) (scope : Scope) (inner : Pieces) (w : Option (List ℕ)) (own : c.Parts → c.Parts) (mine : c.Parts) → IsBefore mine own
    → PointersAgain fits scope inner w own mine → DirectAgain fits scope (in_parentheses inner) w own mine
nested_again fits scope inner w own mine same again naming fit ts between rest outer suffixed spots more front suffixes (a_sign r) =
    let q = inside inner r in
    let got = again naming fit _ (s.sign k.CloseParen q.end ∷ between) suffixed spots by_parenthesis q.front in
    (_, g.nested mine got.closed got.derived (same suffixed) suffixes)

pub grouped_again : (pointer : Bool) (fits : Naming → Type 0) (scope : Scope) (inner : Pieces) (w : Option (List ℕ)) (own : c.Parts → c.Parts) (mine : c.Parts) → IsBefore mine own
    → InsideAgain pointer fits scope inner w own mine → DirectAgain fits scope (grouped pointer inner) w own mine
grouped_again false fits scope inner w own mine same again = again
grouped_again true fits scope inner w own mine same again = nested_again fits scope inner w own mine same again

-- ---- the outer parts

pub indexed_again : (n : ℕ) (fits : Naming → Type 0) (scope : Scope) (inner : Pieces) (w : Option (List ℕ)) (own : c.Parts → c.Parts) (mine : c.Parts) (length : c.Maybe)
    → MaybeStands (after_parts mine scope) length → DirectAgain fits scope inner w own mine
    → DirectAgain fits scope (inner ++ sign k.OpenIndex ∷ maybe n length ++ sign k.CloseIndex ∷ []) w (λ p. own (c.Array length p)) (joined mine (c.Array length c.no_parts))
unfolding operand
indexed_again n fits scope inner w own mine length stands again naming fit ts between rest outer suffixed spots more front suffixes r =
    let q = parted (inner ++ sign k.OpenIndex ∷ maybe n length) (sign k.CloseIndex ∷ []) r in
    let p = parted inner (sign k.OpenIndex ∷ maybe n length) q.front in
    step length stands
    (subst (λ (names : Scope). AreSuffixes names between outer suffixed rest spots more) (joined_hidden mine (c.Array length c.no_parts) scope ∙ array_hidden length (after_parts mine scope)) suffixes) p.front p.back q.back
  where
    step : (length : c.Maybe) → MaybeStands (after_parts mine scope) length → AreSuffixes (after_maybe length (after_parts mine scope)) between outer suffixed rest spots more
        → {a b : List Symbol} → Reads inner ts a → Reads (sign k.OpenIndex ∷ maybe n length) a b → Reads (sign k.CloseIndex ∷ []) b between
        → (all : List ℕ) × IsDirect scope naming ts outer w (own (c.Array length suffixed)) rest all more
    step c.absent is others x (a_sign done) (a_sign done) = again naming fit ts _ rest outer (c.Array c.absent suffixed) spots more (λ e. refl) (g.unsized_array others) x
    step (c.present e) is others x (a_sign y) (a_sign done) =
        let got = is n g.conditional _ _ spots y in again naming fit ts _ rest outer (c.Array (c.present e) suffixed) _ more (λ e. refl) (g.array got.1 others) x

pub applied_again : (n : ℕ) (fits : Naming → Type 0) (scope : Scope) (inner : Pieces) (w : Option (List ℕ)) (own : c.Parts → c.Parts) (mine : c.Parts) (ps : c.Parameters)
    → ParametersAgain (after_parts mine scope) ps → DirectAgain fits scope inner w own mine
    → DirectAgain fits scope (inner ++ in_parentheses (parameters n ps)) w (λ p. own (c.Function ps p)) (joined mine (c.Function ps c.no_parts))
applied_again n fits scope inner w own mine ps stands again naming fit ts between rest outer suffixed spots more front suffixes r =
    let q = parted inner (in_parentheses (parameters n ps)) r in
    step (subst (λ (names : Scope). AreSuffixes names between outer suffixed rest spots more) (joined_hidden mine (c.Function ps c.no_parts) scope) suffixes) q.front q.back
  where
    step : AreSuffixes (after_parts mine scope) between outer suffixed rest spots more
        → {a : List Symbol} → Reads inner ts a → Reads (in_parentheses (parameters n ps)) a between → (all : List ℕ) × IsDirect scope naming ts outer w (own (c.Function ps suffixed)) rest all more
    step others x (a_sign {at} {ts = us} y) =
        let i = inside (parameters n ps) y in
        let got = stands n i.end _ between spots i.front in
        let front : begins_direct (after_parts mine scope) (s.sign k.OpenParen at ∷ us) ≡ false = parameters_no_direct at got.1 in
        again naming fit ts _ rest outer (c.Function ps suffixed) got.0 more
        (λ e. subst (λ (q : c.Parts). begins_direct (after_parts q scope) (s.sign k.OpenParen at ∷ us) ≡ false) e front) (g.function got.1 others) x

-- the whole declarator, once what stands inside is all of it
pub pointers_again : (pointer : Bool) (fits : Naming → Type 0) (scope : Scope) (inner : Pieces) (w : Option (List ℕ)) (own : c.Parts → c.Parts) (mine : c.Parts) → InsideAgain pointer fits scope inner w own mine
    → (naming : Naming) → fits naming → (ts rest : List Symbol) (outer : c.Parts) (more : List ℕ) → Ends rest → Reads inner ts rest → (spots : List ℕ) × ArePointers scope naming ts outer w (own outer) rest spots more
pointers_again true fits scope inner w own mine again naming fit ts rest outer more ends r = let got = again naming fit ts rest outer more ends r in (got.spots, got.derived)
pointers_again false fits scope inner w own mine again naming fit ts rest outer more ends r =
    let got = again naming fit ts rest rest outer outer more more (λ e. ends_direct scope ends) (g.no_suffix (ends_suffix ends)) r in
    (got.0, g.no_pointer (direct_no_star got.1 ends).star got.1)

pub pointing_again : (pointer : Bool) (fits : Naming → Type 0) (scope : Scope) (inner : Pieces) (w : Option (List ℕ)) (own : c.Parts → c.Parts) (mine : c.Parts) (q : c.Qualifiers)
    → InsideAgain pointer fits scope inner w own mine
    → PointersAgain (λ naming. fits (behind_star naming)) scope (pointing q inner) w (λ p. own (c.Pointer q p)) (joined mine (c.Pointer q c.no_parts))
pointing_again pointer fits scope inner w own mine q again naming fit ts rest outer more ends (a_sign {at} {ts = us} r) =
    let p = parted_apart (qualifiers_pieces q) inner r in
    let got = pointers_again pointer fits scope inner w own mine again (behind_star naming) fit p.between rest (c.Pointer q outer) more ends p.back in
    let front = pointers_unqualified got.1 ends in
    record { spots = got.0; derived = g.pointer (qualified q.constant q.volatile p.front front.0 front.1) got.1; closed = star_opens naming scope at us }

-- what the naming of the whole has to be, where this fits what stands inside of the parts
abbrev pub Wants : c.Parts → (Naming → Type 0) → Naming → Type 0
Wants c.no_parts fits naming = fits naming
Wants (c.Pointer q rest) fits naming = Wants rest (λ n. fits (behind_star n)) naming
Wants (c.Array length rest) fits naming = Wants rest fits naming
Wants (c.Function ps rest) fits naming = Wants rest fits naming

wanted : (parts : c.Parts) (fits : Naming → Type 0) (naming : Naming) → fits (starred (has_pointer parts) naming) → Wants parts fits naming
wanted c.no_parts fits naming h = h
wanted (c.Pointer q rest) fits naming h = wanted rest (λ n. fits (behind_star n)) naming (subst fits (star_again (has_pointer rest) naming) h)
wanted (c.Array length rest) fits naming h = wanted rest fits naming h
wanted (c.Function ps rest) fits naming h = wanted rest fits naming h

around_again : (n : ℕ) (scope : Scope) (w : Option (List ℕ)) (parts : c.Parts)
    → (pointer : Bool) (fits : Naming → Type 0) (inner : Pieces) (own : c.Parts → c.Parts) (mine : c.Parts) → PartsFit (after_parts mine scope) parts → IsBefore mine own → InsideAgain pointer fits scope inner w own mine
    → (naming : Naming) → Wants parts fits naming → (ts rest : List Symbol) (more : List ℕ) → Ends rest → Reads (around n inner pointer parts) ts rest
    → (spots : List ℕ) × ArePointers scope naming ts c.no_parts w (own parts) rest spots more
unfolding operand
around_again n scope w c.no_parts pointer fits inner own mine fit same again =
    λ naming wants ts rest more ends r. pointers_again pointer fits scope inner w own mine again naming wants ts rest c.no_parts more ends r
around_again n scope w (c.Pointer q parts) pointer fits inner own mine fit same again =
    around_again n scope w parts true (λ naming. fits (behind_star naming)) (pointing q inner) (λ p. own (c.Pointer q p)) (joined mine (c.Pointer q c.no_parts))
    (subst (λ (names : Scope). PartsFit names parts) (sym (joined_hidden mine (c.Pointer q c.no_parts) scope)) fit) (before_one mine (c.Pointer q c.no_parts) own same)
    (pointing_again pointer fits scope inner w own mine q again)
around_again n scope w (c.Array length parts) pointer fits inner own mine fit same again =
    around_again n scope w parts false fits (grouped pointer inner ++ sign k.OpenIndex ∷ maybe n length ++ sign k.CloseIndex ∷ []) (λ p. own (c.Array length p)) (joined mine (c.Array length c.no_parts))
    (subst (λ (names : Scope). PartsFit names parts) (sym (joined_hidden mine (c.Array length c.no_parts) scope ∙ array_hidden length (after_parts mine scope))) fit.1) (before_one mine (c.Array length c.no_parts) own same)
    (indexed_again n fits scope (grouped pointer inner) w own mine length fit.0 (grouped_again pointer fits scope inner w own mine same again))
around_again n scope w (c.Function ps parts) pointer fits inner own mine fit same again =
    around_again n scope w parts false fits (grouped pointer inner ++ in_parentheses (parameters n ps)) (λ p. own (c.Function ps p)) (joined mine (c.Function ps c.no_parts))
    (subst (λ (names : Scope). PartsFit names parts) (sym (joined_hidden mine (c.Function ps c.no_parts) scope)) fit.1) (before_one mine (c.Function ps c.no_parts) own same)
    (applied_again n fits scope (grouped pointer inner) w own mine ps fit.0 (grouped_again pointer fits scope inner w own mine same again))

-- a declarator that isn't missing
written_again : (naming : Naming) (scope : Scope) (w : Option (List ℕ)) (parts : c.Parts) → DeclaratorFits naming scope (c.declarator w parts) → (n : ℕ) (ts rest : List Symbol) (more : List ℕ) → Ends rest
    → Reads (around n (name_if w) false parts) ts rest → (spots : List ℕ) × ArePointers scope naming ts c.no_parts w parts rest spots more
written_again naming scope w parts fits n ts rest more ends r =
    around_again n scope w parts false (λ naming. NameFits naming scope w) (name_if w) (λ p. p) c.no_parts fits.1 (λ p. refl) (named_again scope w) naming
    (wanted parts (λ naming. NameFits naming scope w) naming fits.0) ts rest more ends r

pub declarator_again : (naming : Naming) (scope : Scope) (d : c.Declarator) → DeclaratorFits naming scope d → DeclaratorAgain naming scope d
unfolding operand
declarator_again naming scope (c.declarator None c.no_parts) fits n ts rest more ends done = (more, g.missing fits.0 (ends_declarator ends))
declarator_again naming scope (c.declarator None (c.Pointer q parts)) fits n ts rest more ends r = let got = written_again naming scope None (c.Pointer q parts) fits n ts rest more ends r in (_, g.written got.1 refl)
declarator_again naming scope (c.declarator None (c.Array length parts)) fits n ts rest more ends r = let got = written_again naming scope None (c.Array length parts) fits n ts rest more ends r in (_, g.written got.1 refl)
declarator_again naming scope (c.declarator None (c.Function ps parts)) fits n ts rest more ends r = let got = written_again naming scope None (c.Function ps parts) fits n ts rest more ends r in (_, g.written got.1 refl)
declarator_again naming scope (c.declarator (Some w) parts) fits n ts rest more ends r = let got = written_again naming scope (Some w) parts fits n ts rest more ends r in (_, g.written got.1 refl)
