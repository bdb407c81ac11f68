-- The words of parameters derive them again, C11 6.7.6.3.
use Rattle.std.specs.Prelude.{◌≡◌, ℕ, Bool, true, false, List, [], ◌∷◌, refl}
use Rattle.lt_tree.specs.declared.terminal.Terminal.TheVariants as k
use Rattle.lt_tree.specs.Tree as c
use Rattle.lt_tree.specs.Symbols as s
use Rattle.lt_tree.specs.Symbols.{Symbol}
use Rattle.lt_tree.specs.Scope.{Scope, after_specifiers, after_parameter}
use Rattle.lt_tree.specs.Ahead.{either, same_terminal, sees, is_void_alone}
use Rattle.lt_tree.specs.Grammar as g
use Rattle.lt_tree.specs.Grammar.{IsParameterList, AreParameters}
use Rattle.lt_tree.specs.Canon.{sign, apart, operand, specifiers, declarator, parameter_list}
use Rattle.lt_print.proofs.ReadPieces.{Reads, done, a_sign, split_comma, Ends, by_parenthesis, by_comma}
use Rattle.lt_print.proofs.Claims.{ParametersAgain, ParametersFit, AreListed}
use Rattle.lt_print.proofs.DeclaratorFronts.{declared_again}
use Rattle.lt_print.proofs.Void.{void_only}
use Rattle.lt_print.proofs.VoidAlone.{alone_is_void}

list_again : (scope : Scope) (n : ℕ) (ps : c.ParameterList) → ParametersFit scope ps → AreListed ps → (ts rest : List Symbol) (more : List ℕ) → Ends rest → sees k.OpenBrace rest ≡ false
    → Reads (parameter_list n ps) ts rest → (spots : List ℕ) × IsParameterList scope ts ps rest spots more
unfolding operand same_terminal
list_again scope n c.no_parameters fit listed ts rest more ends brace r = absurd listed
list_again scope n (c.a_parameter ss d c.no_parameters) fit listed ts rest more ends brace r =
    let m = declared_again scope (after_specifiers ss scope) either ss d fit.0 fit.1 fit.2 n ts rest more ends (λ a. brace) r in (m.spots, g.last_parameter m.first m.second)
list_again scope n (c.a_parameter ss d (c.a_parameter ss' d' ps)) fit listed ts rest more ends brace r =
    let q = split_comma (apart (specifiers n ss) (declarator n d)) (parameter_list n (c.a_parameter ss' d' ps)) r in
    let others = list_again (after_parameter ss d scope) n (c.a_parameter ss' d' ps) fit.3 tt q.between rest more ends brace q.back in
    let m = declared_again scope (after_specifiers ss scope) either ss d fit.0 fit.1 fit.2 n ts (s.sign k.Comma q.at ∷ q.between) others.0 by_comma (λ a. refl) q.front in
    (m.spots, g.more_parameters m.first m.second others.1)

pub unstated_again : (scope : Scope) → ParametersAgain scope c.Unstated
unfolding operand
unstated_again scope n at ts rest more done = (more, g.unstated)

pub void_again : (scope : Scope) → ParametersAgain scope c.Void
unfolding operand
void_again scope n at ts rest more (a_sign done) = (more, g.void_alone)

pub listed_again : (scope : Scope) (ps : c.ParameterList) → ParametersFit scope ps → AreListed ps → (ps ≡ void_only → ⊥) → ParametersAgain scope (c.Listed ps)
unfolding operand same_terminal
listed_again scope ps fit listed other n at ts rest more r =
    let got = list_again scope n ps fit listed ts (s.sign k.CloseParen at ∷ rest) more by_parenthesis refl r in
    (got.0, g.listed (not_alone (is_void_alone ts) refl got.1) got.1)
  where
    not_alone : (b : Bool) {ts : List Symbol} {spots : List ℕ} → is_void_alone ts ≡ b → IsParameterList scope ts ps (s.sign k.CloseParen at ∷ rest) spots more → b ≡ false
    not_alone true e x = absurd (other (alone_is_void x e))
    not_alone false e x = refl

open_from : (scope : Scope) (n : ℕ) (ps : c.ParameterList) → ParametersFit scope ps → AreListed ps → (comma end : ℕ) {ts between rest : List Symbol} (more : List ℕ)
    → Reads (parameter_list n ps) ts (s.sign k.Comma comma ∷ between) → Reads (sign k.Ellipsis ∷ []) between (s.sign k.CloseParen end ∷ rest)
    → (spots : List ℕ) × AreParameters scope ts (c.Open ps) rest spots more
unfolding same_terminal
open_from scope n ps fit listed comma end {ts} {between} more x (a_sign done) = let got = list_again scope n ps fit listed ts (s.sign k.Comma comma ∷ between) more by_comma refl x in (got.0, g.open_list got.1)

pub open_again : (scope : Scope) (ps : c.ParameterList) → ParametersFit scope ps → AreListed ps → ParametersAgain scope (c.Open ps)
unfolding operand
open_again scope ps fit listed n at ts rest more r = let q = split_comma (parameter_list n ps) (sign k.Ellipsis ∷ []) r in open_from scope n ps fit listed q.at at more q.front q.back
