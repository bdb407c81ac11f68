-- A table with a row that it hadn't.
use Rattle.std.proofs.Common.{◌≡◌, false, List, [], ◌∷◌, ◌++◌, length, Option, Some, None, refl, sym, ap, subst, ◌∙◌, is_some, true≢false}
use Rattle.std.specs.Map.{keys_of}
use Rattle.std.proofs.lemmas.List.{length-map}
use Rattle.indexmap.specs.IndexMap.{IndexMap, keys, get, insert_entry}
use Rattle.indexmap.proofs.CallerLemmas.{insert_entry-new}
use Rattle.lt_tree.specs.declared.typed.types.TypeId.{TypeId}
use Rattle.lt_tree.specs.declared.typed.types.TypeRow.{TypeRow}
use Rattle.lt_tree.specs.contracts.typed.types.TypeRowPartialEq.TheImpl as equal
use Rattle.lt_tree.specs.Typing.TypeRows.{type_in, type_of_row, types_of_rows}
use Rattle.lt_table.specs.declared.table.kind.RowFacts.{RowFacts}
use Rattle.lt_table.specs.TableRows.{CanFollow, AreFactsOf, AreRows, Grows, Stays}
use Rattle.lt_table.proofs.TableRows.{rows_last, keys_last, last_grows, last_made}

none_is : {A : Type 0} (o : Option A) → false ≡ is_some o → o ≡ None
none_is None e = refl
none_is (Some a) e = absurd (true≢false (sym e))

module _ {S : Type 0} (m n : IndexMap TypeRow RowFacts S) (rows : List TypeRow) (r : TypeRow) (e : RowFacts)
    (same : keys m ≡ rows) (new : false ≡ is_some (get (equal.eq-value).it m r)) (put : n.entries ≡ insert_entry (equal.eq-value).it m.entries r e) where
  put_entries : n.entries ≡ m.entries ++ (r, e) ∷ []
  put_entries = put ∙ insert_entry-new (equal.eq-value).it m r e (none_is (get (equal.eq-value).it m r) new)

  put_keys : keys n ≡ rows ++ r ∷ []
  put_keys = ap keys_of put_entries ∙ keys_last m.entries r e ∙ ap (λ ks. ks ++ r ∷ []) same

  pub put_known : AreRows [] m.entries → CanFollow (types_of_rows rows) r → AreFactsOf (types_of_rows rows) r e → AreRows [] n.entries
  put_known known follows element =
      subst (AreRows []) (sym put_entries)
      (rows_last [] m.entries r e known (subst (λ ks. CanFollow (types_of_rows ks) r) (sym same) follows) (subst (λ ks. AreFactsOf (types_of_rows ks) r e) (sym same) element))

  pub put_grows : Grows rows (keys n)
  put_grows = subst (Grows rows) (sym put_keys) (last_grows rows r)

  pub put_made : (t : TypeId) → t.place ≡ length m.entries → CanFollow (types_of_rows rows) r → Stays (keys n) (λ types. type_in types t ≡ type_of_row types r)
  put_made t last follows =
      subst (λ ks. Stays ks (λ types. type_in types t ≡ type_of_row types r)) (sym put_keys)
      (last_made rows r t follows (last ∙ sym (length-map m.entries (λ x. x.0)) ∙ ap length same))
