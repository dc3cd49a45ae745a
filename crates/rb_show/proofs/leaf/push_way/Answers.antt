use Rattle.std.proofs.Common.{◌∙◌, ◌++◌, ap, sym, append-nil, subst, ◌≡◌, OnOk}
use Rattle.rb_show.specs.Lines.{found_lines}
use Rattle.rb_show.proofs.leaf.push_way.Goals as goal

pub push_leaf-requires : goal.push_leaf-requires
push_leaf-requires c = c.requires c.args.way.now.leaf c.in-Some.leaf.now (sym c.in-Some.ensures.value)

pub returns-in-None : goal.returns-in-None
returns-in-None c =
    sym (append-nil c.args.text.now.items) ∙ ap (λ found. c.args.text.now.items ++ found_lines c.args.types.now c.args.way.now.conditions found) c.in-None.ensures.value

pub returns-in-Some : goal.returns-in-Some
returns-in-Some c =
    subst (λ found. OnOk c.push_leaf.result (c.push_leaf.new.text.items ≡ c.args.text.now.items ++ found_lines c.args.types.now c.args.way.now.conditions found)) c.in-Some.ensures.value
    (rw c.as_slice.ensures at c.push_leaf.ensures)
