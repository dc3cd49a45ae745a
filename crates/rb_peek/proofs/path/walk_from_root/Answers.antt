use Rattle.std.proofs.Common.{◌+◌, ◌≤◌, List, subst}
use Rattle.rb_image.specs.declared.kept.Kept.{Kept}
use Rattle.rb_image.specs.Given.{IsGiven}
use Rattle.rb_peek.specs.Walks.{end_of_path, walk_span, where_of}
use Rattle.rb_peek.proofs.PathAnswers.{root_stands}
use Rattle.rb_peek.proofs.path.walk_from_root.Goals as goal

pub returns-clause-walk : goal.returns-clause-walk
returns-clause-walk g c =
    let types = c.args.agreed.now.covered.program.types in
    let layouts = c.args.agreed.now.layouts in
    let image = c.args.image.now in
    let same = root_stands layouts _ c.args.ty _ image _ c.in_ok-sites.sites.items c.requires.fit c.word_count-count.ensures c.layouts.ensures.same c.as_slice.ensures c.tell_words.ensures c.in_ok-sites.ensures.words in
    subst (λ (ws : List Kept). IsGiven where_of (end_of_path types layouts image.blocks c.args.ty ws c.args.path.now) c.walk_along.result) same c.walk_along.ensures.walk

pub returns-clause-most : goal.returns-clause-most
returns-clause-most g c =
    let types = c.args.agreed.now.covered.program.types in
    let layouts = c.args.agreed.now.layouts in
    let image = c.args.image.now in
    let same = root_stands layouts _ c.args.ty _ image _ c.in_ok-sites.sites.items c.requires.fit c.word_count-count.ensures c.layouts.ensures.same c.as_slice.ensures c.tell_words.ensures c.in_ok-sites.ensures.words in
    subst (λ (ws : List Kept). c.walk_along.new.steps.taken ≤ c.args.steps.now.taken + walk_span types layouts image.blocks c.args.ty ws c.args.path.now) same c.walk_along.ensures.most
