-- The canonical text of a well-made unit is of this unit alone.
use Rattle.std.proofs.Common.{◌≡◌, ℕ, List, [], ◌∷◌, ◌++◌, true, false, None, sym, subst}
use Rattle.std.specs.Prelude.{Result, IfOk}
use Rattle.std.specs.Global.{Vec}
use Rattle.std.proofs.lemmas.Result.{IfOk-weaker}
use Rattle.lt_token.specs.Tokens.{Lexes}
use Rattle.lt_tree.specs.Tree.{Unit}
use Rattle.lt_tree.specs.Symbols.{symbols}
use Rattle.lt_tree.specs.CanonUnits.{canon, pieces}
use Rattle.lt_tree.specs.Units.{IsWellMade}
use Rattle.lt_decl.proofs.CompleteUnits.{units_are_one}
use Rattle.lt_print.specs.Laws.{IsOfUnitAlone}
use Rattle.lt_print.proofs.Clean.{lexed}
use Rattle.lt_print.proofs.SpeltTokens.{are_spelt}
use Rattle.lt_print.proofs.SpeltUnits as spelt
use Rattle.lt_print.proofs.CleanUnits.{unit_clean}
use Rattle.lt_print.proofs.UnitsAgain.{of_unit}

pub of_unit_alone : (unit : Unit) → IsWellMade unit → IsOfUnitAlone (canon unit) unit
of_unit_alone unit made =
    let all = are_spelt made.text made.tokens None made.bytes made.lexes in
    let l = lexed (pieces unit) (unit_clean unit (spelt.of_unit made.derives all) []) true false 0 in
    let got = of_unit made.derives (symbols l.tokens) [] l.pieces in
    record {
      tokens = l.tokens;
      spots = got.0;
      lexes = record { lexemes = l.lexemes; cuts = l.cuts; reads = l.reads };
      derives = got.1;
      alone = λ other places h. (units_are_one l.tokens other unit places got.0 h got.1).0;
    }

-- what is printed as the canonical text is so too
pub alone_as_canonical : {E : Type 0} (unit : Unit) (printed : Result (Vec ℕ) E) → IfOk printed (λ bytes. bytes.items ≡ canon unit)
    → IfOk printed (λ bytes. IsWellMade unit → IsOfUnitAlone bytes.items unit)
alone_as_canonical unit printed h =
    IfOk-weaker printed _ _ (λ bytes same made. subst (λ (text : List ℕ). IsOfUnitAlone text unit) (sym same) (of_unit_alone unit made)) h
