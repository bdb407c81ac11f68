-- Typed trees with marks added whose ids are new: labels in front of expressions and as items of blocks, and `pc_decide` round expressions that are
-- used as truths.
use Rattle.std.specs.Prelude.{◌≡◌, ℕ, ℤ, Bool, true, false, List, [], ◌∷◌, Option, Some, None}
use Rattle.lt_model.specs.declared.operator.Op.{Op}
use Rattle.lt_model.specs.declared.scalar.Scalar.{Scalar}
use Rattle.lt_tree.specs.declared.expression.LogicalOp.{LogicalOp}
use Rattle.lt_tree.specs.Typing.Types.{CType}
use Rattle.lt_tree.specs.Typing.TypedTree as e
use Rattle.lt_tree.specs.Typing.TypedTree.{Value, Values, Place, Marks, Mark, Bindings, Conversion, Side, When, Statement, Items, Cases, Label, Local, Start, StartPart, type_of}
use Rattle.lt_tree.specs.Typing.Entities.{Function, Object as SomeObject}
use Rattle.lt_tree.specs.Typing.Programs.{Program}

-- all of these marks are new
abbrev pub AreNew : (ℕ → Bool) → Marks → Type 0
AreNew new e.no_marks = Unit {0}
AreNew new (e.a_mark (e.mark predicate id bound) rest) = (new id ≡ true) × AreNew new rest

-- A label may stand in front of any expression but a call, whose value it would take, and a conversion, which may be left to what stands around.
abbrev pub can_be_marked : Value → Bool
can_be_marked (e.Convert how t v) = false
can_be_marked (e.Call t f vs) = false
can_be_marked v = true

mutual
  -- the second expression is the first with marks added
  pub data Adds (new : ℕ → Bool) : Value → Value → Type 0 where
    Constant : {t : CType} {z : ℤ} → Adds new (e.Constant t z) (e.Constant t z)
    Load : {t : CType} {p q : Place} → AddsPlace new p q → Adds new (e.Load t p) (e.Load t q)
    Whole : {t : CType} {p q : Place} → AddsPlace new p q → Adds new (e.Whole t p) (e.Whole t q)
    Decay : {t : CType} {p q : Place} → AddsPlace new p q → Adds new (e.Decay t p) (e.Decay t q)
    AddressOf : {t : CType} {p q : Place} → AddsPlace new p q → Adds new (e.AddressOf t p) (e.AddressOf t q)
    Convert : (how : Conversion) {t : CType} {v w : Value} → Adds new v w → Adds new (e.Convert how t v) (e.Convert how t w)
    Minus : {t : CType} {v w : Value} → Adds new v w → Adds new (e.Minus t v) (e.Minus t w)
    Complement : {t : CType} {v w : Value} → Adds new v w → Adds new (e.Complement t v) (e.Complement t w)
    Not : {t : CType} {v w : Value} → AddsTruth new v w → Adds new (e.Not t v) (e.Not t w)
    Arithmetic : {t : CType} {op : Op} {s : Scalar} {a b c d : Value} → Adds new a c → Adds new b d → Adds new (e.Arithmetic t op s a b) (e.Arithmetic t op s c d)
    Move : {t : CType} {op : Op} {size : ℕ} {side : Side} {a b c d : Value} → Adds new a c → Adds new b d → Adds new (e.Move t op size side a b) (e.Move t op size side c d)
    Distance : {t : CType} {size : ℕ} {a b c d : Value} → Adds new a c → Adds new b d → Adds new (e.Distance t size a b) (e.Distance t size c d)
    Compare : {t : CType} {op : Op} {a b c d : Value} → Adds new a c → Adds new b d → Adds new (e.Compare t op a b) (e.Compare t op c d)
    Logical : {t : CType} {op : LogicalOp} {a b c d : Value} → AddsTruth new a c → AddsTruth new b d → Adds new (e.Logical t op a b) (e.Logical t op c d)
    Conditional : {t : CType} {test other a b c d : Value}
        → AddsTruth new test other → Adds new a c → Adds new b d → Adds new (e.Conditional t test a b) (e.Conditional t other c d)
    Assign : {t : CType} {p q : Place} {v w : Value} → AddsPlace new p q → Adds new v w → Adds new (e.Assign t p v) (e.Assign t q w)
    Update : {t : CType} {op : Op} {s : Scalar} {p q : Place} {v w : Value} → AddsPlace new p q → Adds new v w → Adds new (e.Update t op s p v) (e.Update t op s q w)
    UpdatePointer : {t : CType} {op : Op} {size : ℕ} {p q : Place} {v w : Value}
        → AddsPlace new p q → Adds new v w → Adds new (e.UpdatePointer t op size p v) (e.UpdatePointer t op size q w)
    Step : {t : CType} {when : When} {op : Op} {s : Scalar} {p q : Place} → AddsPlace new p q → Adds new (e.Step t when op s p) (e.Step t when op s q)
    StepPointer : {t : CType} {when : When} {op : Op} {size : ℕ} {p q : Place}
        → AddsPlace new p q → Adds new (e.StepPointer t when op size p) (e.StepPointer t when op size q)
    Call : {t : CType} {f : List ℕ} {vs ws : Values} → AddsAll new vs ws → Adds new (e.Call t f vs) (e.Call t f ws)
    Comma : {t : CType} {vs ws : Values} → AddsAll new vs ws → Adds new (e.Comma t vs) (e.Comma t ws)
    Marked : {t : CType} {ms ns : Marks} {v w : Value} → AddsMarks new ms ns → Adds new v w → Adds new (e.Marked t ms v) (e.Marked t ns w)
    Decide : {t : CType} {v w : Value} {when_true when_false : ℕ} → AddsTruth new v w → Adds new (e.Decide t v when_true when_false) (e.Decide t w when_true when_false)
    After : {t : CType} {v w : Value} {id : ℕ} → Adds new v w → Adds new (e.After t v id) (e.After t w id)
    -- labels in front of what stands in a `pc_after`, also of a call or a conversion: its value is taken and converted there
    labels_after : {t u : CType} {ms : Marks} {v w : Value} {id : ℕ} → AreNew new ms → Adds new v w → Adds new (e.After t v id) (e.After t (e.Marked u ms w) id)
    -- labels in front of it
    in_front : {t : CType} {ms : Marks} {v w : Value} → AreNew new ms → can_be_marked v ≡ true → type_of v ≡ t → Adds new v w → Adds new v (e.Marked t ms w)

  pub data AddsAll (new : ℕ → Bool) : Values → Values → Type 0 where
    no_values : AddsAll new e.no_values e.no_values
    a_value : {v w : Value} {vs ws : Values} → Adds new v w → AddsAll new vs ws → AddsAll new (e.a_value v vs) (e.a_value w ws)

  pub data AddsPlace (new : ℕ → Bool) : Place → Place → Type 0 where
    Object : {t : CType} {n : ℕ} → AddsPlace new (e.Object t n) (e.Object t n)
    Pointed : {t : CType} {v w : Value} → Adds new v w → AddsPlace new (e.Pointed t v) (e.Pointed t w)
    Element : {t : CType} {size : ℕ} {side : Side} {a b c d : Value} → Adds new a c → Adds new b d → AddsPlace new (e.Element t size side a b) (e.Element t size side c d)
    Part : {t : CType} {offset : ℕ} {p q : Place} → AddsPlace new p q → AddsPlace new (e.Part t offset p) (e.Part t offset q)
    Held : {t : CType} {v w : Value} → Adds new v w → AddsPlace new (e.Held t v) (e.Held t w)

  -- of an expression of which only the truth is used
  pub data AddsTruth (new : ℕ → Bool) : Value → Value → Type 0 where
    as_value : {v w : Value} → Adds new v w → AddsTruth new v w
    -- `pc_decide` round it
    round : {t : CType} {v w : Value} {when_true when_false : ℕ} → new when_true ≡ true → new when_false ≡ true
        → AddsTruth new v w → AddsTruth new v (e.Decide t w when_true when_false)
    -- labels in front of it
    before : {t : CType} {ms : Marks} {v w : Value} → AreNew new ms → AddsTruth new v w → AddsTruth new v (e.Marked t ms w)
    behind : {t u : CType} {ms ns : Marks} {v w : Value} → AddsMarks new ms ns → AddsTruth new v w → AddsTruth new (e.Marked t ms v) (e.Marked u ns w)

  -- marks that stand directly round an expression
  pub data AddsMarks (new : ℕ → Bool) : Marks → Marks → Type 0 where
    no_marks : AddsMarks new e.no_marks e.no_marks
    kept : {m : Mark} {ms ns : Marks} → Keeps new m → AddsMarks new ms ns → AddsMarks new (e.a_mark m ms) (e.a_mark m ns)
    added : {predicate : Value} {id : ℕ} {bound : Bindings} {ms ns : Marks}
        → new id ≡ true → AddsMarks new ms ns → AddsMarks new ms (e.a_mark (e.mark predicate id bound) ns)

  -- a mark that stays as it is
  pub data Keeps (new : ℕ → Bool) : Mark → Type 0 where
    a_kept_mark : {predicate : Value} {id : ℕ} {bound : Bindings} → Adds new predicate predicate → KeepsBound new bound → Keeps new (e.mark predicate id bound)

  pub data KeepsBound (new : ℕ → Bool) : Bindings → Type 0 where
    no_bindings : KeepsBound new e.no_bindings
    a_binding : {name : List ℕ} {v : Value} {rest : Bindings} → Adds new v v → KeepsBound new rest → KeepsBound new (e.a_binding name v rest)

-- ---- initialisers

abbrev pub AddsPart : (ℕ → Bool) → StartPart → StartPart → Type 0
AddsPart new (e.stored m v) (e.stored n w) = (m ≡ n) × (type_of v ≡ type_of w) × Adds new v w
AddsPart new (e.fixed m t c) part = e.fixed m t c ≡ part
AddsPart new (e.letters m s bytes) part = e.letters m s bytes ≡ part
AddsPart new part other = ⊥

abbrev pub AddsParts : (ℕ → Bool) → List StartPart → List StartPart → Type 0
AddsParts new [] [] = Unit {0}
AddsParts new (p ∷ ps) (q ∷ qs) = AddsPart new p q × AddsParts new ps qs
AddsParts new ps qs = ⊥

abbrev pub AddsStart : (ℕ → Bool) → Option Start → Option Start → Type 0
AddsStart new None None = Unit {0}
AddsStart new (Some a) (Some b) = (a.zeroed ≡ b.zeroed) × AddsParts new a.parts b.parts
AddsStart new a b = ⊥

abbrev pub AddsLocal : (ℕ → Bool) → Local → Local → Type 0
AddsLocal new a b = (a.object ≡ b.object) × AddsStart new a.start b.start

abbrev pub AddsLocals : (ℕ → Bool) → List Local → List Local → Type 0
AddsLocals new [] [] = Unit {0}
AddsLocals new (a ∷ as') (b ∷ bs) = AddsLocal new a b × AddsLocals new as' bs
AddsLocals new xs ys = ⊥

-- ---- statements

abbrev pub AddsOptional : {A : Type 0} → (A → A → Type 0) → Option A → Option A → Type 0
AddsOptional adds None None = Unit {0}
AddsOptional adds (Some a) (Some b) = adds a b
AddsOptional adds a b = ⊥

abbrev pub AddsForStart : (ℕ → Bool) → e.ForStart → e.ForStart → Type 0
AddsForStart new e.Nothing e.Nothing = Unit {0}
AddsForStart new (e.First v) (e.First w) = Adds new v w
AddsForStart new (e.Locals a) (e.Locals b) = AddsLocals new a b
AddsForStart new a b = ⊥

mutual
  pub data AddsStatement (new : ℕ → Bool) : Statement → Statement → Type 0 where
    Compound : {is js : Items} → AddsItems new is js → AddsStatement new (e.Compound is) (e.Compound js)
    Evaluates : {v w : Value} → Adds new v w → AddsStatement new (e.Evaluates v) (e.Evaluates w)
    Null : AddsStatement new e.Null e.Null
    If : {v w : Value} {a b : Statement} → AddsTruth new v w → AddsStatement new a b → AddsStatement new (e.If v a) (e.If w b)
    IfElse : {v w : Value} {a b c d : Statement}
        → AddsTruth new v w → AddsStatement new a b → AddsStatement new c d → AddsStatement new (e.IfElse v a c) (e.IfElse w b d)
    While : {v w : Value} {a b : Statement} → AddsTruth new v w → AddsStatement new a b → AddsStatement new (e.While v a) (e.While w b)
    Do : {v w : Value} {a b : Statement} → AddsStatement new a b → AddsTruth new v w → AddsStatement new (e.Do a v) (e.Do b w)
    For : {x y : e.ForStart} {v w s r : Option Value} {a b : Statement}
        → AddsForStart new x y → AddsOptional (AddsTruth new) v w → AddsOptional (Adds new) s r → AddsStatement new a b
        → AddsStatement new (e.For x v s a) (e.For y w r b)
    Switch : {v w : Value} {a b : Cases} → Adds new v w → AddsCases new a b → AddsStatement new (e.Switch v a) (e.Switch w b)
    Break : AddsStatement new e.Break e.Break
    Continue : AddsStatement new e.Continue e.Continue
    Return : {v w : Option Value} → AddsOptional (Adds new) v w → AddsStatement new (e.Return v) (e.Return w)

  pub data AddsItems (new : ℕ → Bool) : Items → Items → Type 0 where
    no_items : AddsItems new e.no_items e.no_items
    a_local : {a b : Local} {is js : Items} → AddsLocal new a b → AddsItems new is js → AddsItems new (e.a_local a is) (e.a_local b js)
    a_statement : {a b : Statement} {is js : Items} → AddsStatement new a b → AddsItems new is js → AddsItems new (e.a_statement a is) (e.a_statement b js)
    a_label : {m : Mark} {is js : Items} → Keeps new m → AddsItems new is js → AddsItems new (e.a_label m is) (e.a_label m js)
    -- a label as an item
    an_added_label : {predicate : Value} {id : ℕ} {bound : Bindings} {is js : Items}
        → new id ≡ true → AddsItems new is js → AddsItems new is (e.a_label (e.mark predicate id bound) js)

  pub data AddsCases (new : ℕ → Bool) : Cases → Cases → Type 0 where
    no_cases : AddsCases new e.no_cases e.no_cases
    a_case : {labels : List Label} {a b : Statement} {cs ds : Cases}
        → AddsStatement new a b → AddsCases new cs ds → AddsCases new (e.a_case labels a cs) (e.a_case labels b ds)

-- ---- programs

-- a function with marks added in its body
pub record AddsFunction (new : ℕ → Bool) (f g : Function) : Type 0 where
  pub name : f.name ≡ g.name
  pub type : f.type ≡ g.type
  pub parameters : f.parameters ≡ g.parameters
  pub body : AddsItems new f.body g.body

abbrev pub AddsFunctions : (ℕ → Bool) → List Function → List Function → Type 0
AddsFunctions new [] [] = Unit {0}
AddsFunctions new (f ∷ fs) (g ∷ gs) = AddsFunction new f g × AddsFunctions new fs gs
AddsFunctions new fs gs = ⊥

-- The same objects, each but for the number of the node that declares it.
abbrev pub AreSameObjects : List SomeObject → List SomeObject → Type 0
AreSameObjects [] [] = Unit {0}
AreSameObjects (x ∷ xs) (y ∷ ys) = (record x { node = y.node } ≡ y) × AreSameObjects xs ys
AreSameObjects xs ys = ⊥

-- A program with marks added, whose predicates have no string literals: the objects and the types are the same.
pub record AddsProgram (new : ℕ → Bool) (p q : Program) : Type 0 where
  pub model : p.model ≡ q.model
  pub structs : p.structs ≡ q.structs
  pub objects : AreSameObjects p.objects q.objects
  pub types : p.types ≡ q.types
  pub functions : AddsFunctions new p.functions q.functions
