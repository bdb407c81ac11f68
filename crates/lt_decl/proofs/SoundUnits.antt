-- A unit that is read is derived.
use Rattle.std.proofs.Common.{◌≡◌, ℕ, zero, suc, true, List, [], ◌∷◌, drop}
use Rattle.lt_tree.specs.declared.terminal.Terminal.TheVariants as t
use Rattle.lt_tree.specs.Tree as c
use Rattle.lt_tree.specs.Symbols.{Symbol, start_of}
use Rattle.lt_tree.specs.Scope.{Scope, after_specifiers, after_external, in_body, makes_types}
use Rattle.lt_tree.specs.Ahead.{naming_behind}
use Rattle.lt_tree.specs.Grammar as g
use Rattle.lt_tree.specs.Declarations as dc
use Rattle.lt_tree.specs.Declarations.{IsDeclaration}
use Rattle.lt_tree.specs.Statements.{AreItems}
use Rattle.lt_tree.specs.Units as un
use Rattle.lt_tree.specs.Units.{AreExternals}
use Rattle.lt_expr.specs.Front.{Rest, behind}
use Rattle.lt_expr.specs.Walk.{walk_specifiers, walk_declarator}
use Rattle.lt_expr.specs.Reading as ex
use Rattle.lt_expr.specs.Reading.{enough}
use Rattle.lt_expr.proofs.Sound.{sound}
use Rattle.lt_expr.proofs.SoundSteps.{Yields, nothing, given, weaker, both, chosen}
use Rattle.lt_expr.proofs.SoundFronts.{Sees, seen, seeing}
use Rattle.lt_expr.proofs.SoundSpots.{Spotted, spotted, no_spot, by_rule, two, one_node, node_of_two, node_of_three}
use Rattle.lt_decl.specs.Items.{at_end}
use Rattle.lt_decl.specs.Reading as read
use Rattle.lt_decl.specs.Reading.{unit_of}
use Rattle.lt_decl.specs.Walk.{walk_unit, walk_external}
use Rattle.lt_decl.specs.Laws.{UnitReadIsDerived}
use Rattle.lt_decl.proofs.SoundForms.{StatementSound, BehindSound, CasesSound, ItemsSound, ItemSound, MarkedItemSound, IsExternal, ExternalSound, ExternalsSound}
use Rattle.lt_decl.proofs.SoundDeclarations.{declaration_sound}
use Rattle.lt_decl.proofs.SoundStatements.{statement_step, simple_step, choice_step, while_step, do_step, for_step, switch_step, cases_step, items_step, item_step, marked_item_step}

-- ---- statements, all at one number

pub record IsSound (n : ℕ) : Type 0 where
  pub statement : StatementSound (read.statement n)
  pub simple : StatementSound (read.simple n)
  pub choice : BehindSound t.If (read.choice n)
  pub while_loop : BehindSound t.While (read.while_loop n)
  pub do_loop : BehindSound t.Do (read.do_loop n)
  pub for_loop : BehindSound t.For (read.for_loop n)
  pub switch : BehindSound t.Switch (read.switch n)
  pub cases : CasesSound n
  pub items : ItemsSound n
  pub item : ItemSound n
  pub marked_item : MarkedItemSound n

sound_at_none : IsSound zero
unfolding read.statement
sound_at_none = record {
  statement = λ scope r. nothing;
  simple = λ scope r. nothing;
  choice = λ scope at r. nothing;
  while_loop = λ scope at r. nothing;
  do_loop = λ scope at r. nothing;
  for_loop = λ scope at r. nothing;
  switch = λ scope at r. nothing;
  cases = λ scope r. nothing;
  items = λ scope r. nothing;
  item = λ scope r. nothing;
  marked_item = λ scope m from r h. nothing;
}

sound_behind : (n : ℕ) → IsSound n → IsSound (suc n)
sound_behind n s = record {
  statement = statement_step n s.items s.choice s.while_loop s.do_loop s.for_loop s.switch s.simple;
  simple = simple_step n;
  choice = choice_step n s.statement;
  while_loop = while_step n s.statement;
  do_loop = do_step n s.statement;
  for_loop = for_step n s.statement;
  switch = switch_step n s.cases;
  cases = cases_step n s.statement s.cases;
  items = items_step n s.item s.items;
  item = item_step n s.statement s.marked_item;
  marked_item = marked_item_step n;
}

pub statements_sound : (n : ℕ) → IsSound n
statements_sound zero = sound_at_none
statements_sound (suc n) = sound_behind n (statements_sound n)

-- ---- externals

alone_rule : {scope : Scope} {ts us : List Symbol} {ss : c.Specifiers} {spots middle : List ℕ}
    → Sees t.Semicolon us → g.AreSpecifiers scope ts ss us spots middle
    → IsExternal scope ts (c.Declared (record { specifiers = ss; declarators = [] })) (drop 1 us) (start_of ts ∷ spots) middle
alone_rule seen h = record { before = λ unit more k. un.declaration (dc.specifiers_alone h) k }

definition_rule : {scope : Scope} {ts us vs ws : List Symbol} {ss : c.Specifiers} {d : c.Declarator} {body : c.Items} {spots one two middle : List ℕ}
    → Sees t.OpenBrace vs → g.AreSpecifiers scope ts ss us spots one → g.IsDeclarator (after_specifiers ss scope) (naming_behind ss) us d vs one two
    → AreItems (in_body ss d scope) (drop 1 vs) body ws two middle → IsExternal scope ts (c.Defines ss d body) ws (start_of ts ∷ spots) middle
definition_rule seen h k l = record { before = λ unit more m. un.definition h k l m }

end_rule : {scope : Scope} (ts : List Symbol) {more : List ℕ} → at_end ts ≡ true → AreExternals scope ts [] more more
end_rule [] e = un.no_more_externals
end_rule (s ∷ ts) e = absurd cc

semicolon_rule : {scope : Scope} {ts : List Symbol} {unit : c.Unit} {spots more : List ℕ} → Sees t.Semicolon ts → AreExternals scope (drop 1 ts) unit spots more → AreExternals scope ts unit spots more
semicolon_rule seen h = un.semicolon h

behind_declarator_sound : (n : ℕ) (scope : Scope) (from : Rest) (ss : c.Specifiers) (d : c.Declarator) (us r : Rest)
    → Spotted (walk_specifiers ss) us.1 from.1 (g.AreSpecifiers scope from.0 ss us.0)
    → Spotted (walk_declarator d) r.1 us.1 (g.IsDeclarator (after_specifiers ss scope) (naming_behind ss) us.0 d r.0)
    → Yields (read.behind_declarator n scope (start_of from.0) ss d r) (λ x. Spotted (walk_external x.0) x.1.1 from.1 (IsExternal scope from.0 x.0 x.1.0))
unfolding read.external
behind_declarator_sound zero scope from ss d us r h k = nothing
behind_declarator_sound (suc n) scope from ss d us r h k =
    seeing t.OpenBrace r.0 (λ q. cc)
    (λ s.
    both (read.items n (in_body ss d scope) (behind r)) ((statements_sound n).items (in_body ss d scope) (behind r)) (λ y l.
    given (node_of_three (λ spots one two more a b f. definition_rule s a b f) h k l)))
    (λ not.
    both (read.declarators n (after_specifiers ss scope) (makes_types ss) d r)
    ((declaration_sound n).1 (after_specifiers ss scope) (naming_behind ss) (makes_types ss) d us r k) (λ ds l.
    given (node_of_two (λ spots one middle a b. record { before = λ unit more z. un.declaration (dc.with_declarators a b) z }) h l)))

external_sound : (n : ℕ) → ExternalSound n
unfolding read.external
external_sound zero scope r = nothing
external_sound (suc n) scope r =
    both (ex.specifiers n scope r) ((sound n).specifiers scope r) (λ s h.
    seeing t.Semicolon s.1.0 (λ q. cc)
    (λ alone. given (one_node (λ spots middle k. alone_rule alone k) h))
    (λ not.
    both (ex.declarator n (after_specifiers s.0 scope) (naming_behind s.0) s.1) ((sound n).declarator (after_specifiers s.0 scope) (naming_behind s.0) s.1) (λ d k.
    behind_declarator_sound n scope r s.0 d.0 s.1 d.1 h k)))

externals_sound : (n : ℕ) → ExternalsSound n
unfolding read.externals
externals_sound zero scope r = nothing
externals_sound (suc n) scope r =
    chosen (at_end r.0)
    (λ e. given (no_spot (λ more. end_rule r.0 e)))
    (λ goes_on.
    seeing t.Semicolon r.0 (λ q. cc)
    (λ s. weaker (λ x h. by_rule (λ spots more k. semicolon_rule s k) h) (externals_sound n scope (behind r)))
    (λ not.
    both (read.external n scope r) (external_sound n scope r) (λ x h.
    both (read.externals n (after_external x.0 scope) x.1) (externals_sound n (after_external x.0 scope) x.1) (λ y k.
    given (two (λ spots middle more a b. a.before y.0 more b) h k)))))

-- ---- a whole unit

pub unit_read_is_derived : UnitReadIsDerived
unfolding unit_of
unit_read_is_derived ts unit ends is = (spotted (goes.holds (unit, ends) is) []).1
  where
    goes : Yields (unit_of ts) (λ x. Spotted (walk_unit x.0) x.1 [] (AreExternals [] ts x.0))
    goes = both (read.externals (enough ts) [] (ts, [])) (externals_sound (enough ts) [] (ts, [])) (λ x h. given h)
