use Rattle.std.proofs.Common.{sym, ap, ◌∙◌}
use Rattle.rb_rel.specs.Switches.{begins_with, heads_of}
use Rattle.rb_fetch.proofs.Constructors.{heads-Con, same-self}
use Rattle.rb_fetch.proofs.parts.root_of.Goals as goal

pub returns-in-Con : goal.returns-in-Con
returns-in-Con c = (
  c.in_ok-found.found.now,
  sym c.in_ok-found.ensures,
  ap (λ p. begins_with c.in-Con.con.con (heads_of p)) c.in-Con.is
      ∙ ap (begins_with c.in-Con.con.con) (heads-Con c.in-Con.field-0 c.in-Con.con c.in-Con.field-2) ∙ same-self c.in-Con.con.con,
)
