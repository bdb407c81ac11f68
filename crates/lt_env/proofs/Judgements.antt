-- What judgements give: they answer, and of what is known only types are more.
use Rattle.std.proofs.Common.{◌≡◌, List, Ok, Err, refl, sym, ap, subst, ◌∙◌}
use Rattle.lt_tree.specs.declared.typed.types.TypeRow.{TypeRow}
use Rattle.lt_tree.specs.Typing.Types.{CType}
use Rattle.lt_tree.specs.Typing.EntityView.{structs_of}
use Rattle.lt_tree.specs.Typing.Entities.{Known}
use Rattle.lt_tree.specs.Typing.Steps.{Goes, Walk}
use Rattle.lt_table.specs.TableRows.{Stays}
use Rattle.lt_table.specs.TypesValue.{TypesValue, Widens}
use Rattle.lt_env.specs.declared.walker.Walker.{Walker}
use Rattle.lt_env.specs.declared.stop.TypeStop.TheVariants.{NoMemory}
use Rattle.lt_env.specs.Going.{Gives, known_of, answering}
use Rattle.lt_env.proofs.Goings.{as_long, longer_still}

pub widens_on : {a b c : TypesValue} → Widens a b → Widens b c → Widens a c
widens_on v w = record { grows = longer_still _ _ _ v.grows w.grows; structs = w.structs ∙ v.structs; model = w.model ∙ v.model }

pub widens_none : {a : TypesValue} → Widens a a
widens_none = record { grows = as_long _; structs = refl; model = refl }

known_still : (longer : List CType) (old : Walker) (t : TypesValue) → Widens old.types t → known_of longer (record old { types = t }) ≡ known_of longer old
known_still longer old t w =
    ap (λ m. record (known_of longer (record old { types = t })) { model = m }) w.model
    ∙ ap (λ l. record (known_of longer old) { structs = structs_of longer l }) w.structs

-- It answers: types were only added, and the answer is that of the definition, whatever types are added later.
pub judged : {A X : Type 0} {shown : List CType → X → A} {old : Walker} {t : TypesValue} {x : X} {f : List CType → Known → A}
    → Widens old.types t → Stays t.rows (λ longer. shown longer x ≡ f longer (known_of longer old)) → Gives shown old (record old { types = t }) (Ok x) (λ types. answering (f types))
judged {shown = shown} {old = old} {t = t} {x = x} {f = f} w is = record {
  grows = w.grows;
  keeps = (refl, refl);
  ends = record {
    at = λ longer more.
        ap (λ a. Goes a (known_of longer old)) (sym (is longer more)) ∙ ap (Goes (shown longer x)) (sym (known_still longer old t w));
  };
}

-- It lacks memory.
pub stopped : {A X : Type 0} {shown : List CType → X → A} {old : Walker} {t : TypesValue} {walk : List CType → Walk A} → Widens old.types t → Gives shown old (record old { types = t }) (Err NoMemory) walk
stopped w = record { grows = w.grows; keeps = tt; ends = record { at = λ longer more. tt } }

-- ---- what stays, behind calls that add types

pub stays_on : {a b : TypesValue} {P : List CType → Type 0} → Widens a b → Stays a.rows P → Stays b.rows P
stays_on w h = λ longer more. h longer (longer_still _ _ _ w.grows more)

-- the table of the types has their rows
pub stays_in : {rows others : List TypeRow} {P : List CType → Type 0} → rows ≡ others → Stays rows P → Stays others P
stays_in {rows} {others} {P} same h = subst (λ r. Stays r P) same h
