use Rattle.std.proofs.Common.{◌≡◌, true, not, is_some, sym, ap, ◌∙◌}
use Rattle.std.specs.List.{list_any}
use Rattle.std.specs.Str.{bytes_eq}
use Rattle.rb_names.specs.Tables.{meaning}
use Rattle.rb_names.proofs.DefiningLemmas.{layout-added}
use Rattle.rb_names.proofs.tables.define_layout.Goals as goal

pub returns-clause-added : goal.returns-clause-added
returns-clause-added c names before has a =
    let there : list_any (bytes_eq c.args.name.now.text) names ≡ true =
    sym (has c.args.name.now.text) ∙ ap (λ q. is_some (meaning c.args.types.now q)) (sym c.as_slice.ensures) ∙ ap is_some (sym c.get.ensures)
    ∙ c.is_none.ensures ∙ ap not c.if-is_none.false in
    rw there (layout-added before c.args.known.now a c.args.name.now 0 c.define.new.table c.in_ok-define.ensures.table c.in_ok-define.ensures.new)
