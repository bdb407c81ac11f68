-- What stands behind the last part of something, and what is made then.
use Rattle.std.specs.Prelude.{ℕ, List, Some}
use Rattle.lt_tree.specs.declared.terminal.Terminal.TheVariants as t
use Rattle.lt_tree.specs.Tree as c
use Rattle.lt_expr.specs.Front.{Reader, ◌>>=◌, behind, ended, expect, name_at, id_at, tag_at}
use Rattle.lt_expr.specs.Reading.{Labelled, with_bindings}

-- ']'
abbrev pub index_end : c.Expression → c.Expression → Reader c.Expression
index_end whole index r = expect t.CloseIndex r >>= λ us. Some (c.Index whole index, us)

-- ')'
abbrev pub call_end : c.Expression → c.Expressions → Reader c.Expression
call_end callee arguments r = expect t.CloseParen r >>= λ us. Some (c.Call callee arguments, us)

-- '.' NAME
abbrev pub member_end : c.Expression → Reader c.Expression
member_end whole r = name_at (behind r) >>= λ w. Some (c.Member whole w.0, w.1)

-- '->' NAME
abbrev pub arrow_end : c.Expression → Reader c.Expression
arrow_end pointer r = name_at (behind r) >>= λ w. Some (c.Arrow pointer w.0, w.1)

-- ')'
abbrev pub size_end : ℕ → c.Specifiers → c.Declarator → Reader c.Expression
size_end start s d r = expect t.CloseParen r >>= λ us. Some (c.SizeofType s d, ended start us)

-- ')'
abbrev pub closed : c.Expression → Reader c.Expression
closed inner r = expect t.CloseParen r >>= λ us. Some (inner, us)

-- ',' CONSTANT ',' CONSTANT ',' STRING ')'
abbrev pub decide_end : ℕ → c.Expression → Reader c.Expression
decide_end start operand r =
    id_at r >>= λ yes_id.
    id_at yes_id.1 >>= λ no_id.
    tag_at no_id.1 >>= λ tag.
    expect t.CloseParen tag.1 >>= λ vs.
    Some (c.Decide operand yes_id.0 no_id.0 tag.0, ended start vs)

-- ')'
abbrev pub after_end : ℕ → Labelled → Reader c.Expression
after_end start l r = expect t.CloseParen r >>= λ vs. Some (c.After l.predicate l.id l.tag, ended start vs)

-- ',' CONSTANT ',' STRING
abbrev pub label_end : c.Expression → Reader Labelled
label_end predicate r = id_at r >>= λ id. tag_at id.1 >>= λ tag. Some (record { predicate = predicate; id = id.0; tag = tag.0 }, tag.1)

-- ')'
abbrev pub mark_end : ℕ → Labelled → c.Bindings → Reader c.Mark
mark_end start l bound r = expect t.CloseParen r >>= λ us. Some (with_bindings l bound, ended start us)

-- ',' NAME ','
abbrev pub bound_name : Reader (List ℕ)
bound_name r = expect t.Comma r >>= λ us. name_at us >>= λ w. expect t.Comma w.1 >>= λ vs. Some (w.0, vs)
