-- Objects that names stand for, as they go into a map.
use Rattle.std.proofs.Common.{◌≡◌, ℕ, ◌+◌, ◌<◌, Bool, true, false, cond, List, [], ◌∷◌, ◌++◌, length, take, get_or, map, slice_get, Option, Some, None, refl, sym, ap, ◌∙◌, subst}
use Rattle.std.specs.Prelude.{option_map, option_to_list, is_some}
use Rattle.std.specs.List.{filter_map, cons_option}
use Rattle.std.specs.Str.{bytes_eq}
use Rattle.std.specs.Borrow.{Bor}
use Rattle.std.specs.HashMap.{HashMap}
use Rattle.std.specs.Map.{lookup}
use Rattle.std.specs.Cmp.Lexicographic.{bytes_decides}
use Rattle.std.proofs.lemmas.List.{map-append}
use Rattle.std.proofs.lemmas.List.Elements.{filter_map-append}
use Rattle.lt_model.specs.declared.scalar.Scalar.{Scalar}
use Rattle.lt_tree.specs.Typing.Types.{CType}
use Rattle.lt_tree.specs.Typing.Entities.{or_else, is_linked}
use Rattle.lt_entry.specs.Conditions as conditions
use Rattle.lt_entry.specs.Conditions.{stub_among}
use Rattle.lt_entry.specs.Naming as naming
use Rattle.lt_entry.specs.Naming.{root_among, roots, parameters_of, object_root, block_root}
use Rattle.lt_tree.specs.declared.typed.program.Program as typed
use Rattle.lt_tree.specs.declared.typed.entity.Object.{Object}
use Rattle.lt_tree.specs.declared.typed.entity.Function.{Function}
use Rattle.lt_tree.specs.Typing.EntityView.{object_of, function_of}
use Rattle.lt_tree.specs.Typing.ProgramView.{program_of}
use Rattle.lt_input_names.specs.declared.block.Block as memory
use Rattle.lt_input_names.specs.declared.block.LineBlock.{LineBlock}
use Rattle.lt_input_names.specs.Blocks.{program_types, block_of, line_block_of, scope_with}
use Rattle.lt_input_names.specs.declared.part.Root.{Root}
use Rattle.lt_input_names.specs.Found.{found_in}
use Rattle.lt_input_names.specs.Roots.{root_at, root_in, Puts}
use Rattle.lt_input_names.proofs.Lists.{one_more, slice_get-map, map-map, filter_map-map}

or_else-assoc : {A : Type 0} (a b c : Option A) → or_else (or_else a b) c ≡ or_else a (or_else b c)
or_else-assoc None b c = refl
or_else-assoc (Some a) b c = refl

pub or_else-none : {A : Type 0} (a : Option A) → or_else a None ≡ a
or_else-none None = refl
or_else-none (Some a) = refl

or_else-cond : {A : Type 0} (x : A) (b : Bool) (whole first rest : Option A) → whole ≡ or_else first rest → cond b (Some x) whole ≡ or_else (cond b (Some x) first) rest
or_else-cond x true whole first rest e = refl
or_else-cond x false whole first rest e = e

pub root_among-append : (xs ys : List naming.Root) (name : List ℕ) → root_among (xs ++ ys) name ≡ or_else (root_among xs name) (root_among ys name)
root_among-append [] ys name = refl
root_among-append (x ∷ xs) ys name = or_else-cond x (bytes_eq x.name name) (root_among (xs ++ ys) name) (root_among xs name) (root_among ys name) (root_among-append xs ys name)

-- one list of objects behind the other
pub puts_through : {S : Type 0} (types : List CType) (a b c : HashMap (Bor (List ℕ)) Root S) (xs ys : List naming.Root) → Puts types a b xs → Puts types b c ys → Puts types a c (xs ++ ys)
puts_through types a b c xs ys p q name =
    q name ∙ ap (λ o. or_else o (root_among ys name)) (p name) ∙ or_else-assoc (root_in types a name) (root_among xs name) (root_among ys name)
    ∙ ap (or_else (root_in types a name)) (sym (root_among-append xs ys name))

pub puts_none : {S : Type 0} (types : List CType) (a : HashMap (Bor (List ℕ)) Root S) → Puts types a a []
puts_none types a name = sym (or_else-none (root_in types a name))

-- an object that goes into the map
pub puts_one : {S : Type 0} (types : List CType) (a b : HashMap (Bor (List ℕ)) Root S) (root : Root) (it : naming.Root) → it ≡ root_at types it.name root
    → ((w : List ℕ) → found_in b w ≡ or_else (found_in a w) (cond (bytes_eq it.name w) (Some root) None)) → Puts types a b (it ∷ [])
puts_one types a b root it is put w = ap (option_map (root_at types w)) (put w) ∙ mapped (found_in a w) (bytes_eq it.name w) refl
  where
    mapped : (o : Option Root) (t : Bool) → bytes_eq it.name w ≡ t → option_map (root_at types w) (or_else o (cond t (Some root) None)) ≡ or_else (option_map (root_at types w) o) (cond t (Some it) None)
    mapped (Some r) t e = refl
    mapped None false e = refl
    mapped None true e = ap Some (ap (λ n. root_at types n root) (sym ((bytes_decides it.name w).0 e)) ∙ sym is)

-- an object that goes into the map by its name
pub puts_named : {S : Type 0} (types : List CType) (a b : HashMap (Bor (List ℕ)) Root S) (root r : Root) (it : naming.Root) (bytes : List ℕ) → bytes ≡ it.name → root ≡ r → it ≡ root_at types it.name r
    → ((w : List ℕ) → found_in b w ≡ or_else (found_in a w) (cond (bytes_eq bytes w) (Some root) None)) → Puts types a b (it ∷ [])
puts_named types a b root r it bytes e f is put =
    puts_one types a b r it is (λ w. put w ∙ ap (λ n. or_else (found_in a w) (cond (bytes_eq n w) (Some root) None)) e ∙ ap (λ x. or_else (found_in a w) (cond (bytes_eq it.name w) (Some x) None)) f)

-- one object more of those that a list names
pub puts_more : {A S : Type 0} (types : List CType) (pick : A → Option naming.Root) (xs : List A) (i : ℕ) (x : A) (a b c : HashMap (Bor (List ℕ)) Root S) → i < length xs → x ≡ get_or xs i x
    → Puts types a b (filter_map pick (take i xs)) → Puts types b c (option_to_list (pick x)) → Puts types a c (filter_map pick (take (i + 1) xs))
puts_more types pick xs i x a b c h is before here =
    subst (Puts types a c) (sym (ap (filter_map pick) (one_more xs i x h is) ∙ filter_map-append pick (take i xs) (x ∷ []) ∙ ap (λ l. filter_map pick (take i xs) ++ l) (single (pick x))))
    (puts_through types a b c (filter_map pick (take i xs)) (option_to_list (pick x)) before here)
  where
    single : (o : Option naming.Root) → cons_option o [] ≡ option_to_list o
    single None = refl
    single (Some r) = refl

pub puts_mapped : {A S : Type 0} (types : List CType) (f : A → naming.Root) (xs : List A) (i : ℕ) (x : A) (a b c : HashMap (Bor (List ℕ)) Root S) → i < length xs → x ≡ get_or xs i x
    → Puts types a b (map f (take i xs)) → Puts types b c (f x ∷ []) → Puts types a c (map f (take (i + 1) xs))
puts_mapped types f xs i x a b c h is before here =
    subst (Puts types a c) (sym (ap (map f) (one_more xs i x h is) ∙ map-append f (take i xs) (x ∷ [])))
    (puts_through types a b c (map f (take i xs)) (f x ∷ []) before here)

-- ---- a block that a line makes

in_the_middle : {A : Type 0} (p a x b f : Option A) → (is_some x ≡ true → None ≡ or_else (or_else p (or_else a b)) f) → or_else (or_else p (or_else (or_else a x) b)) f ≡ or_else (or_else (or_else p (or_else a b)) f) x
in_the_middle p a None b f h = ap (λ o. or_else (or_else p (or_else o b)) f) (or_else-none a) ∙ sym (or_else-none (or_else (or_else p (or_else a b)) f))
in_the_middle (Some p) a (Some x) b f h = absurd (let e : Some p ≡ None = sym (h refl) in cc)
in_the_middle None (Some a) (Some x) b f h = absurd (let e : Some a ≡ None = sym (h refl) in cc)
in_the_middle None None (Some x) (Some b) f h = absurd (let e : Some b ≡ None = sym (h refl) in cc)
in_the_middle None None (Some x) None (Some f) h = absurd (let e : Some f ≡ None = sym (h refl) in cc)
in_the_middle None None (Some x) None None h = refl

four : (ps ms bs fs : List naming.Root) (name : List ℕ) → root_among ((ps ++ (ms ++ bs)) ++ fs) name ≡ or_else (or_else (root_among ps name) (or_else (root_among ms name) (root_among bs name))) (root_among fs name)
four ps ms bs fs name =
    root_among-append (ps ++ (ms ++ bs)) fs name
    ∙ ap (λ o. or_else o (root_among fs name)) (root_among-append ps (ms ++ bs) name ∙ ap (or_else (root_among ps name)) (root_among-append ms bs name))

passed : (b : Bool) (r : naming.Root) → is_some (cond b (Some r) None) ≡ true → b ≡ true
passed true r h = refl
passed false r h = absurd (let e : false ≡ true = h in cc)

one_added : (ps ms bs fs : List naming.Root) (r : naming.Root) (name : List ℕ) → root_among ((ps ++ (ms ++ bs)) ++ fs) r.name ≡ None
    → root_among ((ps ++ ((ms ++ r ∷ []) ++ bs)) ++ fs) name ≡ or_else (root_among ((ps ++ (ms ++ bs)) ++ fs) name) (root_among (r ∷ []) name)
one_added ps ms bs fs r name absent =
    four ps (ms ++ r ∷ []) bs fs name ∙ ap (λ o. or_else (or_else (root_among ps name) (or_else o (root_among bs name))) (root_among fs name)) (root_among-append ms (r ∷ []) name)
    ∙ in_the_middle (root_among ps name) (root_among ms name) (root_among (r ∷ []) name) (root_among bs name) (root_among fs name)
    (λ found.
    let same : r.name ≡ name = (bytes_decides r.name name).0 (passed (bytes_eq r.name name) r found) in
    sym absent ∙ ap (root_among ((ps ++ (ms ++ bs)) ++ fs)) same ∙ four ps ms bs fs name)
    ∙ ap (λ o. or_else o (root_among (r ∷ []) name)) (sym (four ps ms bs fs name))

-- the objects, with one more block behind those that lines made
pub line_added : {S : Type 0} (types : List CType) (a b : HashMap (Bor (List ℕ)) Root S) (ps fs : List naming.Root) (added longer : List LineBlock) (block : LineBlock) (blocks : List naming.Block) → longer ≡ added ++ block ∷ []
    → ((name : List ℕ) → root_in types a name ≡ root_among ((ps ++ map block_root (map (line_block_of types) added ++ blocks)) ++ fs) name)
    → root_among ((ps ++ map block_root (map (line_block_of types) added ++ blocks)) ++ fs) block.name.now ≡ None → Puts types a b (block_root (line_block_of types block) ∷ [])
    → (name : List ℕ) → root_in types b name ≡ root_among ((ps ++ map block_root (map (line_block_of types) longer ++ blocks)) ++ fs) name
line_added types a b ps fs added longer block blocks is have absent puts name =
    let r : naming.Root = block_root (line_block_of types block) in
    let lines : List naming.Root = map block_root (map (line_block_of types) added) in
    let others : List naming.Root = map block_root blocks in
    let old : map block_root (map (line_block_of types) added ++ blocks) ≡ lines ++ others = map-append block_root (map (line_block_of types) added) blocks in
    let new : map block_root (map (line_block_of types) longer ++ blocks) ≡ (lines ++ r ∷ []) ++ others =
    map-append block_root (map (line_block_of types) longer) blocks
    ∙ ap (λ l. l ++ others) (ap (λ l. map block_root (map (line_block_of types) l)) is ∙ ap (map block_root) (map-append (line_block_of types) added (block ∷ [])) ∙ map-append block_root (map (line_block_of types) added) (line_block_of types block ∷ []))
    in
    puts name ∙ ap (λ o. or_else o (root_among (r ∷ []) name)) (have name ∙ ap (λ l. root_among ((ps ++ l) ++ fs) name) old)
    ∙ sym (one_added ps lines others fs r name (ap (λ l. root_among ((ps ++ l) ++ fs) r.name) (sym old) ∙ absent)) ∙ ap (λ l. root_among ((ps ++ l) ++ fs) name) (sym new)

-- ---- the objects of a program

abbrev numbered : List CType → List Object → ℕ → Option naming.Root
numbered types objects n = option_map (λ o. object_root (object_of types o)) (slice_get objects n)

numbered_objects : (types : List CType) (objects : List Object) (numbers : List ℕ) → filter_map (λ n. option_map object_root (slice_get (map (object_of types) objects) n)) numbers ≡ filter_map (numbered types objects) numbers
numbered_objects types objects [] = refl
numbered_objects types objects (n ∷ numbers) =
    ap (λ o. cons_option o (filter_map (λ n. option_map object_root (slice_get (map (object_of types) objects) n)) numbers)) (ap (option_map object_root) (slice_get-map (object_of types) objects n) ∙ fused (slice_get objects n))
    ∙ ap (cons_option (numbered types objects n)) (numbered_objects types objects numbers)
  where
    fused : (o : Option Object) → option_map object_root (option_map (object_of types) o) ≡ option_map (λ o. object_root (object_of types o)) o
    fused None = refl
    fused (Some o) = refl

-- the parameters of a function, if there is one
abbrev pub parameters_at : List CType → List Object → Option Function → List naming.Root
parameters_at types objects None = []
parameters_at types objects (Some f) = filter_map (numbered types objects) f.parameters.items

pub parameters_law : (program : typed.Program) (k : ℕ) (o : Option Function) → o ≡ slice_get program.functions.items k → parameters_of (program_of program) k ≡ parameters_at (program_types program) program.objects.items o
parameters_law program k o is =
    ap (λ f. elim f [ None ↦ [] | Some f ↦ filter_map (λ n. option_map object_root (slice_get (map (object_of (program_types program)) program.objects.items) n)) f.parameters ])
    (slice_get-map (function_of (program_types program)) program.functions.items k ∙ ap (option_map (function_of (program_types program))) (sym is))
    ∙ by o
  where
    by : (o : Option Function)
        → elim (option_map (function_of (program_types program)) o) [ None ↦ [] | Some f ↦ filter_map (λ n. option_map object_root (slice_get (map (object_of (program_types program)) program.objects.items) n)) f.parameters ]
        ≡ parameters_at (program_types program) program.objects.items o
    by None = refl
    by (Some f) = numbered_objects (program_types program) program.objects.items f.parameters.items

no_entries : {V S : Type 0} (a : HashMap (Bor (List ℕ)) V S) (name : List ℕ) → a.entries ≡ [] → found_in a name ≡ None
no_entries a name none = ap (lookup (λ (key : Bor (List ℕ)). bytes_eq name key.now)) none

-- all that names stand for
pub roots_law : {S : Type 0} (program : typed.Program) (entry : ℕ) (blocks : List memory.Block) (objects : List Object) (a b c d : HashMap (Bor (List ℕ)) Root S) → objects ≡ program.objects.items → a.entries ≡ []
    → Puts (program_types program) a b (parameters_of (program_of program) entry) → Puts (program_types program) b c (map (λ block. block_root (block_of (program_types program) block)) blocks)
    → Puts (program_types program) c d (filter_map (λ o. cond (is_linked (object_of (program_types program) o).life) (Some (object_root (object_of (program_types program) o))) None) objects)
    → (name : List ℕ) → root_in (program_types program) d name ≡ root_among (roots (scope_with program entry blocks)) name
roots_law program entry blocks objects a b c d e none p q r name =
    let types = program_types program in
    let parameters = parameters_of (program_of program) entry in
    let linked : Object → Option naming.Root = λ o. cond (is_linked (object_of types o).life) (Some (object_root (object_of types o))) None in
    let before = map (λ block. block_root (block_of types block)) blocks in
    let behind = filter_map linked objects in
    puts_through types a c d (parameters ++ before) behind (puts_through types a b c parameters before p q) r name
    ∙ ap (λ o. or_else o (root_among ((parameters ++ before) ++ behind) name)) (ap (option_map (root_at types name)) (no_entries a name none))
    ∙ ap (λ l. root_among ((parameters ++ l) ++ behind) name) (sym (map-map block_root (block_of types) blocks))
    ∙ ap (λ l. root_among ((parameters ++ map block_root (map (block_of types) blocks)) ++ l) name)
    (ap (filter_map linked) e ∙ sym (filter_map-map (λ object. cond (is_linked object.life) (Some (object_root object)) None) (object_of types) program.objects.items))

-- ---- functions without a body

pub stub_among-append : (xs ys : List conditions.Stub) (name : List ℕ) → stub_among name (xs ++ ys) ≡ or_else (stub_among name xs) (stub_among name ys)
stub_among-append [] ys name = refl
stub_among-append (x ∷ xs) ys name = or_else-cond x.type (bytes_eq x.name name) (stub_among name (xs ++ ys)) (stub_among name xs) (stub_among name ys) (stub_among-append xs ys name)

-- what maps have where one thing more is first
pub stub_more : {A : Type 0} (view : A → conditions.Stub) (xs : List A) (i : ℕ) (x : A) (name : List ℕ) (old new : Option Scalar) → i < length xs → x ≡ get_or xs i x
    → old ≡ stub_among name (map view (take i xs)) → new ≡ or_else old (cond (bytes_eq (view x).name name) (Some (view x).type) None) → new ≡ stub_among name (map view (take (i + 1) xs))
stub_more view xs i x name old new h is before after =
    after ∙ ap (λ o. or_else o (stub_among name (view x ∷ []))) before ∙ sym (stub_among-append (map view (take i xs)) (view x ∷ []) name)
    ∙ ap (stub_among name) (sym (ap (map view) (one_more xs i x h is) ∙ map-append view (take i xs) (x ∷ [])))
