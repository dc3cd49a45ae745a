use Rattle.std.proofs.Common.{◌≡◌, ◌++◌, ℕ, List, OnOk, ap, sym, subst, ◌∙◌}
use Rattle.std.specs.List.{flat_map}
use Rattle.rb_core.specs.declared.pattern.Pat.{Pat}
use Rattle.rb_agree.specs.inner.Rows.{pattern_types}
use Rattle.rb_agree.proofs.Relating.{types-below}
use Rattle.rb_agree.proofs.graphs.add_below.Goals as goal

pub returns-in-Con : goal.returns-in-Con
returns-in-Con c =
    subst (λ (ns : List ℕ). OnOk c.add_all_types.result (c.add_all_types.new.row ≡ c.args.row.now ++ ns))
    (ap (λ (ps : List Pat). flat_map pattern_types ps) c.as_slice.ensures ∙ sym (types-below c.args.prov.now c.in-Con.field-0 c.in-Con.field-1 c.in-Con.pats c.in-Con.is)) c.add_all_types.ensures
