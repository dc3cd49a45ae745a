-- Scopes: the variables that are bound round a place. A binder is what binds a variable, in a pattern, in a parameter
-- list or by `let`; it has a number in its function.
use Rattle.std.specs.Prelude.{ℕ, suc, List, [], ◌∷◌, ◌++◌, map, if◌then◌else◌}
use Rattle.std.specs.List.{list_any, flat_map}
use Rattle.std.specs.Str.{bytes_eq}
use Rattle.rb_syntax.specs.declared.tree.PatTree.{PatTree}
use Rattle.rb_syntax.specs.declared.tree.PatTree.TheFolds.{fold-PatTree}
use Rattle.rb_syntax.specs.declared.tree.PatTree.TheOpen as pat
use Rattle.rb_syntax.specs.declared.tree.PatTree.TheOpen.{PatTree-F}
use Rattle.rb_syntax.specs.declared.tree.ParamTree.{ParamTree}
use Rattle.rb_names.specs.Tables.{Name, Table}

-- names with the numbers of their binders, the innermost binder first: so an inner one hides an outer one
abbrev pub Scope : Type 0
Scope = Table ℕ

-- the scope inside binders of these names, which are numbered from n on, the last of them the innermost; the given
-- scope is that round them
abbrev pub inside : List Name → ℕ → Scope → Scope
inside [] n scope = scope
inside (x ∷ xs) n scope = inside xs (suc n) ((x, n) ∷ scope)

-- these names with one more at the end, unless it is among them
abbrev pub with_name : List Name → Name → List Name
with_name names name = if list_any (λ n. bytes_eq n name) names then names else names ++ name ∷ []

-- the first names with each of the second, in turn, at the end, unless it is there by then
abbrev pub with_names : List Name → List Name → List Name
with_names names [] = names
with_names names (x ∷ xs) = with_names (with_name names x) xs

-- the names of the variables in a pattern of one form, by those in its fields, from left to right
abbrev pub names_step : PatTree-F (List Name) → List Name
names_step (pat.Wild at) = []
names_step (pat.Var at name) = name.text ∷ []
names_step (pat.Num at n) = []
names_step (pat.Con at name xss) = flat_map (λ xs. xs) xss

-- the names of the variables in a pattern from left to right, each as often as it stands there
abbrev pub names_in : PatTree → List Name
names_in = fold-PatTree (List Name) names_step

-- the names that a pattern binds, each once, where it stands first: variables of one name are one binder
abbrev pub binders_of : PatTree → List Name
binders_of p = with_names [] (names_in p)

-- the names that a parameter list binds, each once, where it stands first: parameters of one name are one binder
abbrev pub param_binders : List ParamTree → List Name
param_binders ps = with_names [] (map (λ p. p.var.text) ps)
