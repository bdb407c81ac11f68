-- What a loop has read so far, before what it still reads.
use Rattle.lt_tree.specs.Tree as c

abbrev pub initialisers_before : c.Initialisers → c.Initialisers → c.Initialisers
initialisers_before c.no_initialisers rest = rest
initialisers_before (c.an_initialiser first front) rest = c.an_initialiser first (initialisers_before front rest)

abbrev pub items_before : c.Items → c.Items → c.Items
items_before c.no_items rest = rest
items_before (c.a_declaration first front) rest = c.a_declaration first (items_before front rest)
items_before (c.a_statement first front) rest = c.a_statement first (items_before front rest)
items_before (c.a_label first front) rest = c.a_label first (items_before front rest)

abbrev pub cases_before : c.Cases → c.Cases → c.Cases
cases_before c.no_cases rest = rest
cases_before (c.a_case labels first front) rest = c.a_case labels first (cases_before front rest)
