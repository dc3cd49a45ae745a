use Rattle.std.proofs.Common.{◌∙◌, ap, reverse}
use Rattle.rb_names.specs.Tables.{meaning}
use Rattle.rb_names.specs.inner.Frames.{scope_of}
use Rattle.rb_names.proofs.scope.Scope.get.Goals as goal

pub returns : goal.returns
returns c =
    c.innermost.ensures ∙ ap (λ fs. meaning (scope_of (reverse fs)) c.args.name.now) c.as_slice.ensures
    ∙ ap (λ fs. meaning (scope_of fs) c.args.name.now) c.self.view_is
