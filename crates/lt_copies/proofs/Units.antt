-- The walk along a unit's nodes judges each by the tags that are in scope there.
use Rattle.std.proofs.Common.{◌≡◌, refl, sym, ap, ◌∙◌, ℕ, suc, ◌-◌, List, [], ◌∷◌, ◌++◌, length, map, true, append_assoc}
use Rattle.lt_tree.specs.Tree as c
use Rattle.lt_tree.specs.Nodes.{an_external, in_specifiers, in_declarator, in_declaration, in_label, in_statement, in_items, in_cases, nodes}
use Rattle.lt_objectives.specs.Tags.{Tags, tags_in, tags_of_parameters, fitting, fitting_in_statement, fitting_in_items, fitting_in_cases, fitting_in_externals, fitting_nodes}
use Rattle.lt_sites.specs.declared.site.Site.{Site}
use Rattle.lt_sites.specs.Sites.{Sized, in_node, entry_of, AreSitesOf}
use Rattle.lt_copies.specs.Blocks.{Frames, BlocksValue, tags_of, declares_all, opened}
use Rattle.lt_copies.specs.Judged.{entered, inside, judged}
use Rattle.lt_copies.proofs.Plain as node
use Rattle.lt_copies.proofs.Runs.{Frame, at, go, first, Judged, nothing, both, plain, before, EndsBlock, ended, all_in, then_others, declares_more, left_over, opens, with_tags, declared, tags_are}

mutual
  statement : (x : c.Statement) (frames : Frames) (behind : List ℕ) (tags : Tags) → tags_of frames ≡ tags → Judged frames behind (in_statement x) (fitting_in_statement tags x)
  statement (c.Compound list) frames behind tags is = opens refl (λ n. refl) (λ ts. refl) (items list [] frames behind tags is)
  statement (c.Evaluates e) frames behind tags is = plain is (node.one (λ n blocks. refl) (node.expression e))
  statement c.Null frames behind tags is = plain is (node.one (λ n blocks. refl) node.nothing)
  statement (c.If test x) frames behind tags is = before (λ n blocks. refl) (λ ts. refl) (both (plain is (node.expression test)) (statement x frames behind tags is))
  statement (c.IfElse test x y) frames behind tags is =
      before (λ n blocks. refl) (λ ts. refl) (both (both (plain is (node.expression test)) (statement x frames behind tags is)) (statement y frames behind tags is))
  statement (c.While test x) frames behind tags is = before (λ n blocks. refl) (λ ts. refl) (both (plain is (node.expression test)) (statement x frames behind tags is))
  statement (c.Do x test) frames behind tags is = before (λ n blocks. refl) (λ ts. refl) (both (statement x frames behind tags is) (plain is (node.expression test)))
  statement (c.For c.Nothing test step x) frames behind tags is =
      before (λ n blocks. refl) (λ ts. refl) (both (both (both (plain is (node.start c.Nothing)) (plain is (node.optional test))) (plain is (node.optional step))) (statement x frames behind tags is))
  statement (c.For (c.First e) test step x) frames behind tags is =
      before (λ n blocks. refl) (λ ts. refl) (both (both (both (plain is (node.start (c.First e))) (plain is (node.optional test))) (plain is (node.optional step))) (statement x frames behind tags is))
  statement (c.For (c.Declares d) test step x) frames behind tags is =
      let more = tags_in d.specifiers in
      let inner = tags_are more [] frames tags is in
      opens refl (λ n. declared more [] frames (n ∷ behind)) (λ ts. refl)
      (all_in (λ n. both (both (both (plain inner (node.start (c.Declares d))) (plain inner (node.optional test))) (plain inner (node.optional step))) (statement x (with_tags more [] ∷ frames) (n ∷ behind) (more ++ tags) inner)))
  statement (c.Switch e list) frames behind tags is = before (λ n blocks. refl) (λ ts. refl) (both (plain is (node.expression e)) (cases list frames behind tags is))
  statement c.Break frames behind tags is = plain is (node.one (λ n blocks. refl) node.nothing)
  statement c.Continue frames behind tags is = plain is (node.one (λ n blocks. refl) node.nothing)
  statement (c.Return e) frames behind tags is = plain is (node.one (λ n blocks. refl) (node.optional e))

  items : (list : c.Items) (frame : Frame) (outer : Frames) (behind : List ℕ) (tags : Tags) → tags_of (frame ∷ outer) ≡ tags → EndsBlock frame outer behind (in_items list) (fitting_in_items tags list)
  items c.no_items frame outer behind tags is = ended
  items (c.a_declaration d list) frame outer behind tags is =
      let more = tags_in d.specifiers in
      let inner = tags_are more frame outer tags is in
      declares_more (λ n b. declared more frame outer (b ∷ behind)) (λ ts. refl)
      (then_others (λ n. plain inner (node.declaration d)) (items list (with_tags more frame) outer behind (more ++ tags) inner))
  items (c.a_statement x list) frame outer behind tags is =
      then_others (λ n. before (λ m blocks. refl) (λ ts. refl) (statement x (frame ∷ outer) (n ∷ behind) tags is)) (items list frame outer behind tags is)
  items (c.a_label m list) frame outer behind tags is = then_others (λ n. before (λ m blocks. refl) (λ ts. refl) (plain is (node.mark m))) (items list frame outer behind tags is)

  cases : (list : c.Cases) (frames : Frames) (behind : List ℕ) (tags : Tags) → tags_of frames ≡ tags → Judged frames behind (in_cases list) (fitting_in_cases tags list)
  cases c.no_cases frames behind tags is = nothing
  cases (c.a_case labels x list) frames behind tags is =
      both (both (plain is (node.each_of in_label node.label labels)) (statement x frames behind tags is)) (cases list frames behind tags is)

externals : (list : c.Unit) (frame : Frame) (tags : Tags) → tags_of (frame ∷ []) ≡ tags → go (nodes list) (at (frame ∷ []) []) ≡ fitting_in_externals tags list
externals [] frame tags is = refl
externals (c.Declared d ∷ xs) frame tags is =
    let more = tags_in d.specifiers in
    let inner = tags_are more frame [] tags is in
    first (an_external (c.Declared d)) (in_declaration d ++ nodes xs) (frame ∷ []) [] (at (with_tags more frame ∷ []) []) tt (declared more frame [] [])
    ∙ ap (λ zs. true ∷ zs) (
    (plain {behind = []} inner (node.declaration d)).run (nodes xs) tt
    ∙ ap (λ zs. fitting (more ++ tags) (in_declaration d) ++ zs) (externals xs (with_tags more frame) (more ++ tags) inner)
    )
externals (c.Defines s d body ∷ xs) frame tags is =
    let x = an_external (c.Defines s d body) in
    let own = tags_in s in
    let given = tags_of_parameters d in
    let file = with_tags own frame in
    let function = with_tags given [] in
    let outside = tags_are own frame [] tags is in
    let within : tags_of (function ∷ file ∷ []) ≡ given ++ own ++ tags = tags_are given [] (file ∷ []) (own ++ tags) outside ∙ sym (append_assoc given own tags) in
    let inner = in_specifiers s ++ in_declarator d ++ in_items body in
    let count = suc (length (inner ++ nodes xs)) - length (in_node x) in
    let enters : entered x count (at (frame ∷ []) []) ≡ at (function ∷ file ∷ []) (length (nodes xs) ∷ []) =
    ap (λ blocks. declares_all given (opened count blocks)) (declared own frame [] [])
    ∙ declared given [] (file ∷ []) (count ∷ [])
    ∙ ap (λ n. at (function ∷ file ∷ []) (n ∷ [])) (left_over x inner (nodes xs) refl) in
    let whole = then_others (λ n. plain within (node.both (node.specifiers s) (node.declarator d))) (items body function (file ∷ []) [] (given ++ own ++ tags) within) in
    first x (inner ++ nodes xs) (frame ∷ []) [] (at (function ∷ file ∷ []) (length (nodes xs) ∷ [])) tt enters
    ∙ ap (λ zs. true ∷ zs) (
    whole.run (nodes xs)
    ∙ ap (λ zs. fitting (given ++ own ++ tags) (in_specifiers s ++ in_declarator d) ++ fitting_in_items (given ++ own ++ tags) body ++ zs) (externals xs file (own ++ tags) outside)
    )

-- the file, which declares nothing yet
abbrev pub at_file : BlocksValue
at_file = record { frames = [] ∷ []; behind = [] }

pub unit_judged : (list : List Site) (unit : c.Unit) → AreSitesOf list unit → judged (map entry_of list) at_file ≡ fitting_nodes unit
unit_judged list unit are = ap (λ zs. judged zs at_file) are ∙ externals unit [] [] refl

-- ---- how many are judged

pub as_many : (list : List Sized) (blocks : BlocksValue) → length (judged list blocks) ≡ length list
as_many [] blocks = refl
as_many (x ∷ xs) blocks = ap suc (as_many xs (inside (suc (length xs)) x blocks))
