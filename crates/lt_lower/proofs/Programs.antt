-- The codes of a program's functions are its graph.
use Rattle.std.proofs.Common.{◌≡◌, ℕ, zero, suc, ◌+◌, ◌<◌, true, List, [], ◌∷◌, ◌++◌, map, length, take, get_or, Some, slice_get, refl, sym, ap, subst, ◌∙◌, IsTrue}
use Rattle.std.specs.List.{list_all}
use Rattle.std.proofs.lemmas.List.{take_more, length-map}
use Rattle.lt_tree.specs.declared.typed.entity.Function.{Function}
use Rattle.lt_tree.specs.Typing.Entities as typed
use Rattle.lt_tree.specs.Typing.EntityView.{function_of}
use Rattle.lt_tree.specs.Typing.Programs.{Program}
use Rattle.lt_tree.specs.Typing.Ranges.{IsInRange}
use Rattle.lt_ir.specs.declared.code.Code.{Code}
use Rattle.lt_ir.specs.declared.code.Static.{Static}
use Rattle.lt_ir.specs.declared.code.LabelInfo.{LabelInfo}
use Rattle.lt_ir.specs.Edges.{TurnByTicks}
use Rattle.lt_ir.specs.Ranges.{counts_in, is_code, are_in_range}
use Rattle.lt_ir.specs.Tables.{HaveTables}
use Rattle.lt_meaning.specs.Runs.{initials}
use Rattle.lt_ir.specs.declared.graph.Graph.{Graph}
use Rattle.lt_code.specs.Bodies.{HasProgram, Lowered, label_of}
use Rattle.lt_tables.specs.declared.tables.Tables.{Tables}
use Rattle.lt_tables.specs.Views.{program_at, types_at}
use Rattle.lt_tables.specs.Lookups.{stubs_of}
use Rattle.lt_code.specs.Costs.{of_function}
use Rattle.lt_sizes.specs.Laws.{CostsAtMost, IsFrugal}
use Rattle.lt_lower.specs.Functions.{CodeStands, IsSoundCode}
use Rattle.lt_lower.specs.Programs.{here_for, CodesStand}
use Rattle.lt_lower.proofs.Lowerable.{body_known}

-- ---- one more

codes_last :
    (tables : Tables) (fs : List Function) (its : List Code) (f : Function) (it : Code) → CodesStand tables fs its
    → CodeStands (here_for tables f) it → CodesStand tables (fs ++ f ∷ []) (its ++ it ∷ [])
codes_last tables [] [] f it all one = (one, tt)
codes_last tables (g ∷ fs) (other ∷ its) f it all one = (all.0, codes_last tables fs its f it all.1 one)
codes_last tables [] (other ∷ its) f it all one = absurd all
codes_last tables (g ∷ fs) [] f it all one = absurd all

pub codes_more :
    (tables : Tables) (fs : List Function) (k : ℕ) (f : Function) (its after : List Code) (it : Code) → k < length fs → f ≡ get_or fs k f
    → CodesStand tables (take k fs) its → CodeStands (here_for tables f) it → after ≡ its ++ it ∷ []
    → CodesStand tables (take (k + 1) fs) after
codes_more tables fs k f its after it there is all one last =
    let At : Function → Type 0 = λ g. CodesStand tables (take k fs ++ g ∷ []) after in
    let After : List Code → Type 0 = λ cs. CodesStand tables (take k fs ++ f ∷ []) cs in
    let Are : List Function → Type 0 = λ gs. CodesStand tables gs after in
    subst Are (sym (take_more fs k f there)) (subst At is (subst After (sym last) (codes_last tables (take k fs) its f it all one)))

-- ---- the program has them

module _ (tables : Tables) (stubs : tables.stubs.items ≡ stubs_of (program_at tables)) (ranges : IsInRange (program_at tables)) where
  abbrev labels : List LabelInfo
  labels = map label_of (program_at tables).labels

  abbrev typed_function : Function → typed.Function
  typed_function = function_of (types_at tables)

  has_codes :
      (fs : List Function) (its : List Code) → CodesStand tables fs its
      → ((k : ℕ) (f : typed.Function) → slice_get (map typed_function fs) k ≡ Some f → (n : ℕ) × (slice_get (program_at tables).functions n ≡ Some f))
      → (k : ℕ) → Lowered (program_at tables) labels tables.stubs.items (slice_get (map typed_function fs) k) (slice_get its k)
  has_codes [] [] all there k = tt
  has_codes [] (it ∷ its) all there k = absurd all
  has_codes (f ∷ fs) [] all there k = absurd all
  has_codes (f ∷ fs) (it ∷ its) all there zero =
      let at = there 0 (typed_function f) refl in
      all.0.code (body_known (here_for tables f) at.0 stubs ranges at.1)
  has_codes (f ∷ fs) (it ∷ its) all there (suc k) = has_codes fs its all.1 (λ j g at. there (suc j) g at) k

  pub each_has :
      (its : List Code) → CodesStand tables tables.program.now.functions.items its
      → (k : ℕ) → Lowered (program_at tables) labels tables.stubs.items (slice_get (program_at tables).functions k) (slice_get its k)
  each_has its all = has_codes tables.program.now.functions.items its all (λ k f at. (k, at))

  -- each costs no more than its function allows
  frugal_from :
      (fs : List Function) (its : List Code) → CodesStand tables fs its
      → ((k : ℕ) (f : typed.Function) → slice_get (map typed_function fs) k ≡ Some f → (n : ℕ) × (slice_get (program_at tables).functions n ≡ Some f))
      → (k : ℕ) (f : typed.Function) (it : Code) → slice_get (map typed_function fs) k ≡ Some f → slice_get its k ≡ Some it
      → CostsAtMost (of_function (program_at tables).functions f) it
  frugal_from [] its all there k f it named at = absurd (cc)
  frugal_from (g ∷ fs) [] all there k f it named at = absurd all
  frugal_from (g ∷ fs) (other ∷ its) all there zero f it named at =
      let same : typed_function g ≡ f = cc in
      let this : other ≡ it = cc in
      let in_program = there 0 (typed_function g) refl in
      let Costs : typed.Function → Code → Type 0 = λ f it. CostsAtMost (of_function (program_at tables).functions f) it in
      subst (λ f. Costs f it) same (subst (Costs (typed_function g)) this
      (all.0.frugal (body_known (here_for tables g) in_program.0 stubs ranges in_program.1)))
  frugal_from (g ∷ fs) (other ∷ its) all there (suc k) f it named at = frugal_from fs its all.1 (λ j h at. there (suc j) h at) k f it named at

  pub is_frugal :
      (program : Program) (graph : Graph) → program_at tables ≡ program → CodesStand tables tables.program.now.functions.items graph.codes
      → IsFrugal program graph
  is_frugal program graph same all =
      let Is : Program → Type 0 = λ p. IsFrugal p graph in
      subst Is same (λ k f it named at. frugal_from tables.program.now.functions.items graph.codes all (λ k f at. (k, at)) k f it named at)

  -- ---- and they are sound

  same_count : (fs : List Function) (its : List Code) → CodesStand tables fs its → length its ≡ length fs
  same_count [] [] all = refl
  same_count [] (it ∷ its) all = absurd all
  same_count (f ∷ fs) [] all = absurd all
  same_count (f ∷ fs) (it ∷ its) all = ap suc (same_count fs its all.1)

  all_sound : (fs : List Function) (its : List Code) → CodesStand tables fs its → (k : ℕ) (it : Code) → slice_get its k ≡ Some it
      → IsSoundCode (program_at tables) tables.stubs.items it
  all_sound [] [] all k it at = absurd (cc)
  all_sound [] (other ∷ its) all k it at = absurd all
  all_sound (f ∷ fs) [] all k it at = absurd all
  all_sound (f ∷ fs) (other ∷ its) all zero it at =
      let same : other ≡ it = cc in
      subst (IsSoundCode (program_at tables) tables.stubs.items) same all.0.sound
  all_sound (f ∷ fs) (other ∷ its) all (suc k) it at = all_sound fs its all.1 k it at

  in_range_from : (functions statics labels stubs : ℕ) (its : List Code)
      → ((k : ℕ) (it : Code) → slice_get its k ≡ Some it → is_code (counts_in functions statics labels stubs it) it ≡ true)
      → list_all (λ code. is_code (counts_in functions statics labels stubs code) code) its ≡ true
  in_range_from functions statics labels stubs [] each = refl
  in_range_from functions statics labels stubs (it ∷ its) each =
      let first = each 0 it refl in
      let rest = in_range_from functions statics labels stubs its (λ k other at. each (suc k) other at) in cc

  pub in_range :
      (its : List Code) (statics : List Static) (infos : List LabelInfo) → CodesStand tables tables.program.now.functions.items its
      → statics ≡ initials (program_at tables) (program_at tables).objects → infos ≡ labels
      → IsTrue (are_in_range its statics infos tables.stubs.items)
  in_range its statics infos all are named =
      let functions : length its ≡ length (program_at tables).functions =
      same_count tables.program.now.functions.items its all ∙ sym (length-map tables.program.now.functions.items typed_function) in
      let names : length infos ≡ length (program_at tables).labels = ap length named ∙ length-map (program_at tables).labels label_of in
      let Is : ℕ → ℕ → ℕ → Type 0 = λ f s l.
      list_all (λ code. is_code (counts_in f s l (length tables.stubs.items) code) code) its ≡ true in
      subst (λ f. Is f (length statics) (length infos)) (sym functions)
      (subst (λ s. Is (length (program_at tables).functions) s (length infos)) (sym (ap length are))
      (subst (λ l. Is (length (program_at tables).functions) (length (initials (program_at tables) (program_at tables).objects)) l) (sym names)
      (in_range_from (length (program_at tables).functions) (length (initials (program_at tables) (program_at tables).objects))
      (length (program_at tables).labels) (length tables.stubs.items) its
      (λ k it at. (all_sound tables.program.now.functions.items its all k it at).in_range))))

  pub have_tables : (its : List Code) → CodesStand tables tables.program.now.functions.items its → HaveTables its
  have_tables its all f i value default arms table it at node =
      (all_sound tables.program.now.functions.items its all f it at).tables i value default arms table node

  pub turn_by_ticks : (its : List Code) → CodesStand tables tables.program.now.functions.items its → TurnByTicks its
  turn_by_ticks its all f from to it at edge back =
      (all_sound tables.program.now.functions.items its all f it at).turns from to edge back

  -- the graph of the program
  has_program_here :
      (graph : Graph) → graph.model ≡ (program_at tables).model → graph.statics ≡ initials (program_at tables) (program_at tables).objects
      → graph.labels ≡ labels → graph.stubs ≡ tables.stubs.items → CodesStand tables tables.program.now.functions.items graph.codes
      → HasProgram (program_at tables) graph
  has_program_here graph model statics named stubbed all = record {
    model = model;
    statics = statics;
    labels = named;
    each = λ k.
        let Has : List LabelInfo → List (List ℕ) → Type 0 = λ infos names.
        Lowered (program_at tables) infos names (slice_get (program_at tables).functions k) (slice_get graph.codes k) in
        subst (λ infos. Has infos graph.stubs) (sym named) (subst (λ names. Has labels names) (sym stubbed) (each_has graph.codes all k));
  }

  pub has_program :
      (program : Program) (graph : Graph) → program_at tables ≡ program → graph.model ≡ program.model
      → graph.statics ≡ initials (program_at tables) (program_at tables).objects → graph.labels ≡ labels
      → graph.stubs ≡ tables.stubs.items → CodesStand tables tables.program.now.functions.items graph.codes → HasProgram program graph
  has_program program graph same model statics named stubbed all =
      let Has : Program → Type 0 = λ p. HasProgram p graph in
      subst Has same (has_program_here graph (model ∙ sym (ap (λ p. p.model) same)) statics named stubbed all)

  pub graph_in_range :
      (its : List Code) (statics : List Static) (infos : List LabelInfo) (names : List (List ℕ))
      → CodesStand tables tables.program.now.functions.items its → statics ≡ initials (program_at tables) (program_at tables).objects
      → infos ≡ labels → names ≡ tables.stubs.items → IsTrue (are_in_range its statics infos names)
  graph_in_range its statics infos names all are named stubbed =
      let Are : List (List ℕ) → Type 0 = λ names. IsTrue (are_in_range its statics infos names) in
      subst Are (sym stubbed) (in_range its statics infos all are named)
