use Rattle.std.proofs.Common.{◌∷◌, [], ◌||◌, false, is_some, sym, ap, ◌∙◌}
use Rattle.std.specs.List.{list_any}
use Rattle.std.specs.Str.{bytes_eq}
use Rattle.rb_syntax.specs.declared.tree.ItemTree.{ItemTree}
use Rattle.rb_names.specs.Tables.{meaning}
use Rattle.rb_names.specs.Definitions.{type_names}
use Rattle.rb_names.proofs.TablesLemmas.{name-added}
use Rattle.rb_names.proofs.tables.add_type_name.Goals as goal

pub returns-in_ok-define-in-Types : goal.returns-in_ok-define-in-Types
returns-in_ok-define-in-Types c name =
    name-added c.args.types.now _ c.as_slice.result.now name 0 c.in_ok-define-in-Types.ensures.table
    ∙ ap (λ n. is_some (meaning c.args.types.now name) || (bytes_eq name n || false)) c.as_slice.ensures
    ∙ ap (λ (item : ItemTree). is_some (meaning c.args.types.now name) || list_any (bytes_eq name) (type_names (item ∷ []))) (sym c.in-Types.is)
